use Rattle.std.proofs.Common.{refl}
use Rattle.psi_tables.specs.ProgramMap.{map_of, body_with}
use Rattle.psi_tables.proofs.writing.body_of.Goals as goal

pub returns-clause-value : goal.returns-clause-value
unfolding body_with map_of
returns-clause-value c =
    rw (c.put-4.ensures, c.put-3.ensures, c.put_number16-4.ensures, c.put_number16-3.ensures, c.put-2.ensures, c.put_number16-2.ensures, c.put_number16.ensures, c.put.ensures, c.new-out.ensures, c.number16.ensures, c.number16-2.ensures, c.number16-3.ensures, c.number16-4.ensures) refl
