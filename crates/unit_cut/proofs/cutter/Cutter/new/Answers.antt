use Rattle.std.proofs.Common.{sym}
use Rattle.unit_cut.proofs.cutter.Cutter.new.Goals as goal

pub returns : goal.returns
returns c = λ kept k p f l. record { same = sym p; units = rw p (c.new.ensures kept); timing = c.new-2.ensures k f l; counter = c.new-3.ensures }
