use Rattle.std.proofs.Common.{rules, ◌≡◌, None, sym, ◌∙◌}
use Rattle.on_air.specs.Stretches.{as_read}
use Rattle.on_air.proofs.MarkLemmas.{quiet}
use Rattle.on_air.proofs.marks.Marks.judge.Goals as goal

pub returns-then-not-self : goal.returns-then-not-self
returns-then-not-self g c = λ purpose past keeps follows.
    let none : c.look-fault.result ≡ None = search rules in
    quiet c.args.self.now purpose c.args.packet.now past keeps (search rules) (sym (c.look-fault.ensures.follows purpose (as_read past) follows) ∙ none)
