use Rattle.std.proofs.Common.{◌∙◌, sym}
use Rattle.ad_library.proofs.TakeLemmas.{none_known, some_known}
use Rattle.ad_library.proofs.gathering.begun.Goals as goal

pub returns-then-not-is_behind_head : goal.returns-then-not-is_behind_head
returns-then-not-is_behind_head g c = λ past h. none_known g.row.A.Denot past (sym c.if-not-is_behind_head.true ∙ c.is_behind_head.ensures _ past h)

pub returns-in-Ok : goal.returns-in-Ok
returns-in-Ok g c = λ past h. some_known _ past _ (sym c.if-not-is_behind_head.false ∙ c.is_behind_head.ensures _ past h) (c.streams.ensures _ past h) c.in-Ok.ensures
