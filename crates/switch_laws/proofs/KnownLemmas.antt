-- An event as it was known at the time, and as it is at the end of the run.
use Rattle.std.proofs.Common.{◌≡◌, ℕ, List, [], ◌∷◌, Bool, true, false, not, ◌&&◌, ◌||◌, ◌⊎◌, inl, inr, refl, sym, ap, ◌∙◌, Option, None, Some, arith, if◌then◌else◌}
use Rattle.std.specs.Prelude.{ℤ, ◌≤ℤ◌}
use Rattle.std.specs.List.{list_any}
use Rattle.std.proofs.lemmas.Int.{ints}
use Rattle.std.proofs.lemmas.Bool.{true≢false}
use Rattle.ts_packet.proofs.Cases.{by_test}
use Rattle.std.specs.Prelude.{All}
use Rattle.std.proofs.lemmas.List.Elements.{All-head, All-tail}
use Rattle.event_table.specs.Standing.{Standing, end_of}
use Rattle.armed_laws.specs.Laws.{Becomes, Grows}
use Rattle.splice_laws.specs.Splicing.{PlayedEvent, SliceUnit, TimedStream, holds, comes}
use Rattle.splice_laws.specs.Laws.{Risen}
use Rattle.splice_laws.specs.Settled.{IsAhead, holds_now, stands_now, begun_now, closed_now}
use Rattle.splice_laws.specs.Ends.{longest_front}
use Rattle.splice_laws.proofs.SettledLemmas.{early, early-out}
use Rattle.splice_plans.specs.Playing.{Adverts, Turns, is_played, as_played, up_to_known, sent_known, sent_of_begun}
use Rattle.splice_plans.specs.Histories.{AreSteady}

-- ---- played then, and in the end

module _ (ads : Adverts) (steady : AreSteady ads) (latest : Option ℤ) (e x : Standing) (b : Becomes latest e x) where
  fits-same : ads.fits x ≡ ads.fits e
  fits-same = steady.fits latest e x b

  pub played-before : is_played ads x ≡ true → is_played ads e ≡ true
  played-before is = by b.cancelled
    where
      clash : {P : Type 0} → (c f : Bool) → c ≡ true → (not c && f) ≡ true → P
      clash true f h k = absurd (true≢false (sym k))
      clash false f h k = absurd (true≢false (sym h))

      by : (x.cancelled ≡ e.cancelled) ⊎ (IsAhead latest e.start × (x.cancelled ≡ true)) → is_played ads e ≡ true
      by (inl same) = sym (ap (λ c. not c && ads.fits x) same ∙ ap (λ f. not e.cancelled && f) fits-same) ∙ is
      by (inr ahead) = clash x.cancelled (ads.fits x) ahead.1 is

  -- one that was played, and is not in the end, was still to come
  pub taken-back : is_played ads e ≡ true → is_played ads x ≡ false → IsAhead latest e.start
  taken-back is not_now = by b.cancelled
    where
      by : (x.cancelled ≡ e.cancelled) ⊎ (IsAhead latest e.start × (x.cancelled ≡ true)) → IsAhead latest e.start
      by (inl same) = absurd (true≢false (sym is ∙ sym (ap (λ c. not c && ads.fits x) same ∙ ap (λ f. not e.cancelled && f) fits-same) ∙ not_now))
      by (inr ahead) = ahead.0

  -- a time that is not past the greatest lies in the one where it lies in the other
  pub held-same : (t : Option ℤ) → Risen t latest → holds (as_played e) t ≡ holds (as_played x) t
  held-same t w = by t latest w b.start b.end
    where
      by : (t h : Option ℤ) → Risen t h → x.start ≡ e.start → (end_of x ≡ end_of e) ⊎ (IsAhead h (end_of x) × (end_of x ≤ℤ end_of e)) → holds (as_played e) t ≡ holds (as_played x) t
      by None h w s n = refl
      by (Some t) None w s n = absurd w
      by (Some t) (Some h) w s (inl same) = at e.start x.start (end_of e) (end_of x) t s same
        where
          at : (a b c d t : ℤ) → b ≡ a → d ≡ c → holds (record { start = a; stop = c; name = 0 }) (Some t) ≡ holds (record { start = b; stop = d; name = 0 }) (Some t)
          at a b c d t s k = rw (s, k) refl
      by (Some t) (Some h) w s (inr ahead) = at e.start x.start (end_of e) (end_of x) t h w s ahead.0 ahead.1
        where
          at : (a b c d t h : ℤ) → t ≤ℤ h → b ≡ a → IsAhead (Some h) d → d ≤ℤ c → holds (record { start = a; stop = c; name = 0 }) (Some t) ≡ holds (record { start = b; stop = d; name = 0 }) (Some t)
          at a b c d t h w s k l = grind (arith, ints)

  pub held-then : (t : Option ℤ) → Risen t latest → (is_played ads e && holds (as_played e) t) ≡ (is_played ads x && holds (as_played x) t)
  held-then t w = by_test (is_played ads x)
      (λ now. let was = played-before now in simp (now, was) (held-same t w))
      (λ now. simp now (by_test (is_played ads e)
      (λ was. simp was (early-out (as_played e) t (early (as_played e) t latest w (taken-back was now))))
      (λ was. simp was refl)))

module _ (ads : Adverts) (steady : AreSteady ads) (latest : Option ℤ) (t : Option ℤ) (w : Risen t latest) where
  new-hold-none : (later : List Standing) → All (λ (x : Standing). IsAhead latest x.start) later → list_any (λ x. is_played ads x && holds (as_played x) t) later ≡ false
  new-hold-none [] g = refl
  new-hold-none (x ∷ later) g =
      let ahead = λ (y : Standing). IsAhead latest y.start in
      let n = early-out (as_played x) t (early (as_played x) t latest w (All-head ahead x later g)) in
      none (is_played ads x) (holds (as_played x) t) _ n (new-hold-none later (All-tail ahead x later g))
    where
      none : (a b c : Bool) → b ≡ false → c ≡ false → ((a && b) || c) ≡ false
      none true b c h k = rw (h, k) refl
      none false b c h k = k

  -- whether a time lies in a played event
  pub any-held : (es later : List Standing) → Grows latest es later →
      list_any (λ e. is_played ads e && holds (as_played e) t) es ≡ list_any (λ x. is_played ads x && holds (as_played x) t) later
  any-held [] later g = sym (new-hold-none later g)
  any-held (e ∷ es) [] g = absurd g
  any-held (e ∷ es) (x ∷ later) g = both (held-then ads steady latest e x g.0 t w) (any-held es later g.1)
    where
      both : {a b c d : Bool} → a ≡ b → c ≡ d → (a || c) ≡ (b || d)
      both h k = rw (h, k) refl

-- ---- an event's own end counts for nothing, where one is known

module _ (r : TimedStream) (start : ℤ) (stop other : ℤ) (name called : ℕ) (known : List (List ℕ) → Option ℤ) where
  abbrev a : PlayedEvent
  a = record { start = start; stop = stop; name = name }

  abbrev b : PlayedEvent
  b = record { start = start; stop = other; name = called }

  stands-alike : (o h : Option ℤ) → stands_now a o h ≡ stands_now b o h
  stands-alike None h = refl
  stands-alike (Some s) None = refl
  stands-alike (Some s) (Some h) = refl

  holds-alike : (o t : Option ℤ) → holds_now a o t ≡ holds_now b o t
  holds-alike None t = refl
  holds-alike (Some s) None = refl
  holds-alike (Some s) (Some t) = refl

  pub begun-alike : (past : List (List ℕ)) → begun_now r a known past ≡ begun_now r b known past
  begun-alike [] = refl
  begun-alike (p ∷ past) =
      ap (λ c. c || (comes r start p past && stands_now a (known (p ∷ past)) (r.high past))) (begun-alike past)
      ∙ ap (λ s. begun_now r b known past || (comes r start p past && s)) (stands-alike (known (p ∷ past)) (r.high past))

  pub closed-alike : (past : List (List ℕ)) → closed_now r a known past ≡ closed_now r b known past
  closed-alike [] = refl
  closed-alike (p ∷ past) =
      ap (λ c. c || (begun_now r a known (p ∷ past) && (r.begins p past && not (holds_now a (known (p ∷ past)) (r.time (p ∷ past)))))) (closed-alike past)
      ∙ ap (λ c. closed_now r b known past || (c && (r.begins p past && not (holds_now a (known (p ∷ past)) (r.time (p ∷ past)))))) (begun-alike (p ∷ past))
      ∙ ap (λ c. closed_now r b known past || (begun_now r b known (p ∷ past) && (r.begins p past && not c))) (holds-alike (known (p ∷ past)) (r.time (p ∷ past)))

  module _ (turns : Turns) (units : List SliceUnit) where
    begun-sent-alike : (p : List ℕ) (past : List (List ℕ)) → sent_of_begun turns r a known units p past ≡ sent_of_begun turns r b known units p past
    begun-sent-alike p past =
        choose (up_to_known (known (p ∷ past)) units) (longest_front (up_to_known (known (p ∷ past)) units) (r.high (p ∷ past))) (closed-alike (p ∷ past))
      where
        choose : (l m : List SliceUnit) {c d : Bool} → c ≡ d → (if c then l else m) ≡ (if d then l else m)
        choose l m e = rw e refl

    pub sent-alike : (past : List (List ℕ)) → sent_known turns r a known units past ≡ sent_known turns r b known units past
    sent-alike [] = refl
    sent-alike (p ∷ past) = one (turns p past) (closed-alike past) (begun-alike (p ∷ past)) (begun-sent-alike p past) (sent-alike past)
      where
        one : (t : Bool) {c d g h : Bool} {l m k n : List SliceUnit} → c ≡ d → g ≡ h → l ≡ m → k ≡ n → (if t && (not c && g) then l else k) ≡ (if t && (not d && h) then m else n)
        one t e f i j = rw (e, f, i, j) refl
