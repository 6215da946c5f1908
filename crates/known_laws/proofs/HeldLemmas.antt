-- Whether a time lies in a played event does not change where events change that are still to come.
use Rattle.std.proofs.Common.{◌≡◌, List, [], ◌∷◌, Bool, true, false, not, ◌&&◌, ◌||◌, ◌⊎◌, inl, inr, refl, sym, ap, ◌∙◌, Option, None, Some, arith}
use Rattle.std.specs.Prelude.{ℤ, ◌≤ℤ◌, All}
use Rattle.std.proofs.lemmas.Int.{ints}
use Rattle.std.proofs.lemmas.Bool.{true≢false}
use Rattle.std.proofs.lemmas.List.Elements.{All-head, All-tail}
use Rattle.ts_packet.proofs.Cases.{by_test}
use Rattle.event_table.specs.Standing.{Standing, end_of}
use Rattle.armed_laws.specs.Laws.{Becomes, Grows}
use Rattle.splice_laws.specs.Splicing.{holds}
use Rattle.splice_laws.specs.Laws.{Risen}
use Rattle.splice_laws.specs.Settled.{IsAhead}
use Rattle.splice_laws.proofs.SettledLemmas.{early, early-out}
use Rattle.splice_plans.specs.Playing.{Adverts, is_played, as_played, is_inside}
use Rattle.splice_plans.specs.Histories.{AreSteady}

module _ (ads : Adverts) (steady : AreSteady ads) (latest : Option ℤ) (e x : Standing) (b : Becomes latest e x) where
  fits-same : ads.fits x ≡ ads.fits e
  fits-same = steady.fits latest e x b

  played-before : is_played ads x ≡ true → is_played ads e ≡ true
  played-before is = by b.cancelled
    where
      clash : {P : Type 0} → (c f : Bool) → c ≡ true → (not c && f) ≡ true → P
      clash true f h k = absurd (true≢false (sym k))
      clash false f h k = absurd (true≢false (sym h))

      by : (x.cancelled ≡ e.cancelled) ⊎ (IsAhead latest e.start × (x.cancelled ≡ true)) → is_played ads e ≡ true
      by (inl same) = sym (ap (λ c. not c && ads.fits x) same ∙ ap (λ f. not e.cancelled && f) fits-same) ∙ is
      by (inr ahead) = clash x.cancelled (ads.fits x) ahead.1 is

  -- one that was played, and is not now, was still to come
  taken-back : is_played ads e ≡ true → is_played ads x ≡ false → IsAhead latest e.start
  taken-back is not_now = by b.cancelled
    where
      by : (x.cancelled ≡ e.cancelled) ⊎ (IsAhead latest e.start × (x.cancelled ≡ true)) → IsAhead latest e.start
      by (inl same) = absurd (true≢false (sym is ∙ sym (ap (λ c. not c && ads.fits x) same ∙ ap (λ f. not e.cancelled && f) fits-same) ∙ not_now))
      by (inr ahead) = ahead.0

  -- a time that is not past the greatest lies in the one where it lies in the other
  held-same : (t : Option ℤ) → Risen t latest → holds (as_played e) t ≡ holds (as_played x) t
  held-same t w = by t latest w b.start b.end
    where
      by : (t h : Option ℤ) → Risen t h → x.start ≡ e.start → (end_of x ≡ end_of e) ⊎ (IsAhead h (end_of x) × (end_of x ≤ℤ end_of e)) → holds (as_played e) t ≡ holds (as_played x) t
      by None h w s n = refl
      by (Some t) None w s n = absurd w
      by (Some t) (Some h) w s (inl same) = at e.start x.start (end_of e) (end_of x) t s same
        where
          at : (a b c d t : ℤ) → b ≡ a → d ≡ c → holds (record { start = a; stop = c; name = 0 }) (Some t) ≡ holds (record { start = b; stop = d; name = 0 }) (Some t)
          at a b c d t s k = rw (s, k) refl
      by (Some t) (Some h) w s (inr ahead) = at e.start x.start (end_of e) (end_of x) t h w s ahead.0 ahead.1
        where
          at : (a b c d t h : ℤ) → t ≤ℤ h → b ≡ a → IsAhead (Some h) d → d ≤ℤ c → holds (record { start = a; stop = c; name = 0 }) (Some t) ≡ holds (record { start = b; stop = d; name = 0 }) (Some t)
          at a b c d t h w s k l = grind (arith, ints)

  held-then : (t : Option ℤ) → Risen t latest → (is_played ads e && holds (as_played e) t) ≡ (is_played ads x && holds (as_played x) t)
  held-then t w = by_test (is_played ads x)
      (λ now. let was = played-before now in simp (now, was) (held-same t w))
      (λ now. simp now (by_test (is_played ads e)
      (λ was. simp was (early-out (as_played e) t (early (as_played e) t latest w (taken-back was now))))
      (λ was. simp was refl)))

module _ (ads : Adverts) (steady : AreSteady ads) (latest : Option ℤ) (t : Option ℤ) (w : Risen t latest) where
  new-hold-none : (later : List Standing) → All (λ (x : Standing). IsAhead latest x.start) later → is_inside ads later t ≡ false
  new-hold-none [] g = refl
  new-hold-none (x ∷ later) g =
      let ahead = λ (y : Standing). IsAhead latest y.start in
      let n = early-out (as_played x) t (early (as_played x) t latest w (All-head ahead x later g)) in
      none (is_played ads x) (holds (as_played x) t) _ n (new-hold-none later (All-tail ahead x later g))
    where
      none : (a b c : Bool) → b ≡ false → c ≡ false → ((a && b) || c) ≡ false
      none true b c h k = rw (h, k) refl
      none false b c h k = k

  pub inside-same : (es later : List Standing) → Grows latest es later → is_inside ads es t ≡ is_inside ads later t
  inside-same [] later g = sym (new-hold-none later g)
  inside-same (e ∷ es) [] g = absurd g
  inside-same (e ∷ es) (x ∷ later) g = both (held-then ads steady latest e x g.0 t w) (inside-same es later g.1)
    where
      both : {a b c d : Bool} → a ≡ b → c ≡ d → (a || c) ≡ (b || d)
      both h k = rw (h, k) refl
