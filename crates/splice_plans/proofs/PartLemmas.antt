-- The slice of an event in a stream, as the library lends it.
use Rattle.std.proofs.Common.{◌≡◌, ℕ, ◌+◌, ◌-◌, ◌<◌, ◌≤◌, List, [], ◌∷◌, refl, sym, ap, ◌∙◌, length, take, drop, Option, None, Some, arith, max, Bool, true, false}
use Rattle.std.specs.Prelude.{ℤ, slice_index_or}
use Rattle.std.proofs.lemmas.List.{length-drop, get_or_default}
use Rattle.psi_tables.specs.declared.stream.Stream.{Stream}
use Rattle.ts_packet.specs.Numbering.{Step}
use Rattle.event_table.specs.declared.event.Event.{Event}
use Rattle.ad_library.specs.Advertisements.{AdvertUnit, Advertisement, count_of_kind}
use Rattle.ad_library.specs.Library.{slice_held, zero_held}
use Rattle.ad_library.specs.Storing.{on_line}
use Rattle.splice_plans.specs.Slicing.{is_due, due_units, delta_at, delta_of, slice_packets}
use Rattle.splice_plans.specs.Parts.{units_or, slice_in, delta_in, packets_in}

-- what stands at a place, whatever stands there else
pub one-there : {X : Type 0} (xs : List X) (i : ℕ) (a b : X) → i < length xs → a ≡ slice_index_or xs i a → b ≡ slice_index_or xs i b → a ≡ b
one-there xs i a b h is same = is ∙ get_or_default xs i a b h ∙ sym same

delta-at : (start : ℕ) (ad : Option Advertisement) (z : ℤ) → zero_held ad ≡ Some z → delta_in start ad ≡ delta_at start z
delta-at start None z h = absurd (cc)
delta-at start (Some ad) z h = let is : ad.zero ≡ z = cc in ap (delta_at start) is

module _ (filed : ℕ → Option Advertisement) (streams : List Stream) (stream : ℕ) (of : Stream) (e : Event) where
  pub packets-lent : (sent : ℕ) (reached : Option ℕ) (steps : List Step) (lent : Stream) (k : ℕ) (slice rest : List AdvertUnit) (held later : ℕ)
      → lent ≡ of → k ≡ count_of_kind lent.kind (take stream streams) → Some slice ≡ slice_held (filed e.program) lent.kind k e.length → zero_held (filed e.program) ≡ Some (on_line held)
      → rest ≡ drop sent slice → later ≡ held
      → slice_packets lent.pid (delta_of e.start later) steps (due_units reached rest) ≡ packets_in filed streams stream of e sent reached steps
  packets-lent sent reached steps lent k slice rest held later same count lent_is zero_is skipped kept =
      let here : slice ≡ slice_in filed streams stream lent e = ap units_or (lent_is ∙ ap (λ n. slice_held (filed e.program) lent.kind n e.length) count) in
      let moves : delta_of e.start later ≡ delta_in e.start (filed e.program) = ap (delta_of e.start) kept ∙ sym (delta-at e.start (filed e.program) (on_line held) zero_is) in
      ap (λ d. slice_packets lent.pid d steps (due_units reached rest)) moves
      ∙ ap (λ us. slice_packets lent.pid (delta_in e.start (filed e.program)) steps (due_units reached us)) (skipped ∙ ap (drop sent) here)
      ∙ ap (λ s. packets_in filed streams stream s e sent reached steps) same

due-few : (reached : Option ℕ) (us : List AdvertUnit) → length (due_units reached us) ≤ length us
due-few reached [] = omega arith
due-few reached (u ∷ us) = one (is_due reached u) refl (due-few reached us)
  where
    one : (b : Bool) → is_due reached u ≡ b → length (due_units reached us) ≤ length us → length (due_units reached (u ∷ us)) ≤ length (u ∷ us)
    one true h l = simp h (omega (arith, l))
    one false h l = simp h (omega arith)

-- no more are out than there are
pub fits-more : (reached : Option ℕ) (slice rest : List AdvertUnit) (sent count most : ℕ) → rest ≡ drop sent slice → count ≡ length (due_units reached rest)
    → length slice ≤ most → sent + count ≤ max sent most
fits-more reached slice rest sent count most skipped is few =
    let l : length rest ≡ length slice - sent = ap length skipped ∙ length-drop sent slice in
    let d = due-few reached rest in
    omega (arith, is, few, l, d)
