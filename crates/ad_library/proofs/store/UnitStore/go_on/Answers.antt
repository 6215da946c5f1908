use Rattle.std.proofs.Common.{refl, ap, length, ◌∙◌, ◌==◌}
use Rattle.ad_library.proofs.StoreLemmas.{gone_on, not_begun, some_there}
use Rattle.ad_library.proofs.store.UnitStore.go_on.Goals as goal

pub returns-in-Ok : goal.returns-in-Ok
returns-in-Ok g c = λ us h. gone_on _ _ us c.args.payload.now h c.in-Ok.ensures.items refl (some_there _ (c.if-is_empty.ensures ∙ ap (λ n. n == 0) (ap length c.as_slice.ensures.value)))

pub returns-then-is_empty : goal.returns-then-is_empty
returns-then-is_empty g c = λ us h. not_begun _ us c.args.payload.now h (c.if-is_empty.ensures ∙ ap (λ n. n == 0) (ap length c.as_slice.ensures.value))
