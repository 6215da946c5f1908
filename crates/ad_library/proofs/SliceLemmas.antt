-- Slices for two lengths.
use Rattle.std.specs.List.{AllByRecursion}
use Rattle.std.specs.Prelude.{◌≤ℤ◌}
use Rattle.std.proofs.Common.{◌≡◌, ℕ, ◌≤◌, List, [], ◌∷◌, ◌++◌, Bool, true, false, refl, sym, ap, ◌∙◌, arith, if◌then◌else◌}
use Rattle.std.proofs.lemmas.Int.{ints}
use Rattle.ts_packet.proofs.Cases.{by_test}
use Rattle.ad_library.specs.Advertisements.{AdvertUnit, is_below, slice_of}
use Rattle.ad_library.specs.Laws.{ShorterIsFilter, OffsetsRise, ShorterIsFront}

module _ (short long : ℕ) (le : short ≤ long) where
  below_longer : (u : AdvertUnit) → is_below short u ≡ true → is_below long u ≡ true
  below_longer u h = grind (arith, ints, h, le)

  past_shorter : (u v : AdvertUnit) → u.offset ≤ℤ v.offset → is_below short u ≡ false → is_below short v ≡ false
  past_shorter u v h k = grind (arith, ints, h, k)

  abbrev one_more : ℕ → AdvertUnit → List AdvertUnit → Bool → List AdvertUnit
  one_more n u us b = if b then u ∷ slice_of n us else slice_of n us

  filter_is : (us : List AdvertUnit) → slice_of short (slice_of long us) ≡ slice_of short us
  filter_is [] = refl
  filter_is (u ∷ us) =
      let more = filter_is us in
      by_test (is_below short u)
      (λ s. let l = below_longer u s in ap (slice_of short) (ap (one_more long u us) l) ∙ ap (one_more short u (slice_of long us)) s ∙ ap (λ vs. u ∷ vs) more ∙ sym (ap (one_more short u us) s))
      (λ n. by_test (is_below long u)
      (λ l. ap (slice_of short) (ap (one_more long u us) l) ∙ ap (one_more short u (slice_of long us)) n ∙ more ∙ sym (ap (one_more short u us) n))
      (λ m. ap (slice_of short) (ap (one_more long u us) m) ∙ more ∙ sym (ap (one_more short u us) n)))

  none_behind : (u : AdvertUnit) (us : List AdvertUnit) → AllByRecursion (λ (v : AdvertUnit). u.offset ≤ℤ v.offset) us → is_below short u ≡ false → slice_of short us ≡ []
  none_behind u [] h n = refl
  none_behind u (v ∷ vs) h n = ap (one_more short v vs) (past_shorter u v h.0 n) ∙ none_behind u vs h.1 n

  front_is : (us : List AdvertUnit) → OffsetsRise us → (more : List AdvertUnit) × (slice_of long us ≡ slice_of short us ++ more)
  front_is [] r = ([], refl)
  front_is (u ∷ us) r =
      by_test (is_below short u)
      (λ s. let (more, e) = front_is us r.1 in
      let l = below_longer u s in
      (more, ap (one_more long u us) l ∙ ap (λ vs. u ∷ vs) e ∙ sym (ap (λ b. one_more short u us b ++ more) s)))
      (λ n. let none = none_behind u us r.0 n in
      let e : slice_of short (u ∷ us) ≡ [] = ap (one_more short u us) n ∙ none in
      (slice_of long (u ∷ us), sym (ap (λ vs. vs ++ slice_of long (u ∷ us)) e)))

pub shorter_is_filter : ShorterIsFilter
shorter_is_filter short long us le = filter_is short long le us

pub shorter_is_front : ShorterIsFront
shorter_is_front short long us le r = front_is short long le us r
