use Rattle.std.proofs.Common.{◌∙◌, ◌-◌, ap, length, List}
use Rattle.std.specs.Prelude.{nat_le, slice_get}
use Rattle.ad_library.specs.declared.store.UnitPlace.{UnitPlace}
use Rattle.ad_library.proofs.PlacingLemmas.{reaches_last}
use Rattle.ad_library.proofs.ad_stream.AdStream.reaches.Goals as goal

pub returns-in-Some : goal.returns-in-Some
returns-in-Some g c =
    let own = c.args.self.now in
    let a = c.saturating_sub.ensures in
    let b = c.saturating_sub-in-Some.ensures in
    let is = c.in-Some.ensures.value ∙ ap (λ (ps : List UnitPlace). slice_get ps (length ps - 1)) c.deref.ensures.value in
    ap (λ n. nat_le n c.saturating_sub-in-Some.result) a ∙ ap (nat_le (c.args.limit - 45000)) b ∙ reaches_last c.args.limit own.zero own.bytes.items own.places.items c.in-Some.place.now own.tops is
