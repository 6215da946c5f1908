use Rattle.std.proofs.Common.{refl, sym, ◌∙◌}
use Rattle.program_follower.proofs.start_follower.StartFollower.look_at_tables.Goals as goal

pub returns-in-None : goal.returns-in-None
returns-in-None c = λ k past h.
    c.look_at_units.ensures k past h ∙ sym (c.in-None.ensures.none k past h.tables refl)

pub returns-in-Some : goal.returns-in-Some
returns-in-Some c = λ k past h. sym (c.in-Some.ensures.some k past h.tables)
