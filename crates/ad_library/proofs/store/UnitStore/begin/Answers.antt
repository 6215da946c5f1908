use Rattle.std.proofs.Common.{◌∙◌, ap, length}
use Rattle.ad_library.specs.Storing.{StoredUnit}
use Rattle.ad_library.proofs.StoreLemmas.{begun, place_is}
use Rattle.ad_library.proofs.store.UnitStore.begin.Goals as goal

pub returns-in-Ok : goal.returns-in-Ok
returns-in-Ok g c = λ us h.
    let u : StoredUnit = record { time = c.args.time; payload = c.args.payload.now; random_access = c.args.random_access } in
    let e = c.top_with.ensures us (c.as_slice-2.ensures.value ∙ h.places) in
    let l = ap length (c.as_slice.ensures.value ∙ h.bytes) in
    begun _ _ us u _ h c.in-Ok.ensures.items c.in_ok-push.ensures.items (place_is u us _ _ l e) c.requires
