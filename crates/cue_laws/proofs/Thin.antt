-- The invariant at each front of a thinned stream.
use Rattle.std.proofs.Common.{◌≡◌, ℕ, ◌<◌, zero, suc, true, false, ◌⊎◌, inl, inr, refl, sym, ap, ◌∙◌, subst, List, [], ◌∷◌, Option, arith}
use Rattle.std.specs.Prelude.{ℤ, map, if◌then◌else◌}
use Rattle.std.proofs.lemmas.Int.{ints}
use Rattle.ts_packet.proofs.Cases.{by_test}
use Rattle.ts_packet.specs.Membership.{In}
use Rattle.ts_packet.proofs.MembershipLemmas.{In-mapped}
use Rattle.cue_laws.specs.Events.{Turn, LineEvent, Started, Cancelled, Ended, Passed, high, events, taken, is_of, can_start, fresh, can_cancel, cancel_by, can_end, end_by}
use Rattle.cue_laws.specs.Thinning.{MayCome, MayAllCome, Repeats, times, thinned, KeepsEnds}
use Rattle.cue_laws.proofs.Settling.{can_end-parts}
use Rattle.cue_laws.proofs.Orders.{Orderly, orderly, orderly_step, or-right, end-shrinks, stands-back, is_of-parts, is_of-is}
use Rattle.cue_laws.proofs.Below.{Below, below-none, IsThere, skip_start, skip_cancel, take_start, take_cancel, take_end}

-- ---- cues leave the greatest time

pub high-starts : (n id : ℕ) (start end : ℤ) (rest : List Turn) → high (times n (Started id start end) rest) ≡ high rest
high-starts zero id start end rest = refl
high-starts (suc n) id start end rest = high-starts n id start end rest

pub high-cancels : (n id : ℕ) (rest : List Turn) → high (times n (Cancelled id) rest) ≡ high rest
high-cancels zero id rest = refl
high-cancels (suc n) id rest = high-cancels n id rest

pub high-ends : (n id : ℕ) (time : ℤ) (rest : List Turn) → high (times n (Ended id time) rest) ≡ high rest
high-ends zero id time rest = refl
high-ends (suc n) id time rest = high-ends n id time rest

pub high-thinned : (copies : List Turn → ℕ) (all : List Turn) → high (thinned copies all) ≡ high all
high-thinned copies [] = refl
high-thinned copies (Started id start end ∷ past) = high-starts (copies (Started id start end ∷ past)) id start end (thinned copies past) ∙ high-thinned copies past
high-thinned copies (Cancelled id ∷ past) = high-cancels (copies (Cancelled id ∷ past)) id (thinned copies past) ∙ high-thinned copies past
high-thinned copies (Ended id time ∷ past) = high-ends (copies (Ended id time ∷ past)) id time (thinned copies past) ∙ high-thinned copies past
high-thinned copies (Passed h ∷ past) = refl

-- the event of a start cue that may come is there once it has come
pub there : (id : ℕ) (start end : ℤ) (past : List Turn) → MayCome (Started id start end) past
    → (x : LineEvent) × IsThere (high past) id start end (events (Started id start end ∷ past)) x
there id start end past m =
    by_test (can_start (high past) id start end (events past))
    (λ can. (fresh id start end, record { clock = m.0; ahead = m.1; there = simp can (inl refl); repeats = record { same_id = refl; same_start = refl; same_asked = refl; unshortened = refl; uncancelled = refl } }))
    (λ can. again can m.2)
  where
    again : can_start (high past) id start end (events past) ≡ false
        → (can_start (high past) id start end (events past) ≡ true) ⊎ ((e : LineEvent) × In e (events past) × Repeats id start end e)
        → (x : LineEvent) × IsThere (high past) id start end (events (Started id start end ∷ past)) x
    again can (inl new) = absurd (let bad : true ≡ false = sym new ∙ can in cc)
    again can (inr e) = (e.0, record { clock = m.0; ahead = m.1; there = simp can e.1; repeats = e.2 })

abbrev ending : ℤ → LineEvent → LineEvent
ending time t = record { id = t.id; start = t.start; asked = t.asked; end = time; cancelled = t.cancelled }

-- an end comes to nothing a second time
ended_twice : (h : Option ℤ) (id : ℕ) (time : ℤ) (t : LineEvent) → end_by h id time (end_by h id time t) ≡ end_by h id time t
ended_twice h id time t =
    by_test (can_end h id time t)
    (λ c.
    let e : end_by h id time t ≡ ending time t = ap (λ b. ending (if b then time else t.end) t) c in
    let off : can_end h id time (ending time t) ≡ false = by_test (can_end h id time (ending time t)) (λ k. let l = (can_end-parts h id time (ending time t) k).earlier in absurd (omega (arith, ints, l))) (λ k. k) in
    ap (end_by h id time) e ∙ ap (λ b. ending (if b then time else time) t) off ∙ sym e)
    (λ c. let e : end_by h id time t ≡ t = ap (λ b. ending (if b then time else t.end) t) c in ap (end_by h id time) e)

map_twice : (f : LineEvent → LineEvent) → ((e : LineEvent) → f (f e) ≡ f e) → (es : List LineEvent) → map f (map f es) ≡ map f es
map_twice f twice [] = refl
map_twice f twice (e ∷ es) = simp (twice e, map_twice f twice es)

module _ (copies : List Turn → ℕ) where
  pub below_starts : (n id : ℕ) (start end : ℤ) (past : List Turn) → MayCome (Started id start end) past → Orderly (high past) (events past)
      → Below (events (thinned copies past)) (events past)
      → Below (events (times n (Started id start end) (thinned copies past))) (events (Started id start end ∷ past))
  below_starts zero id start end past m o b = skip_start (high past) id start end (events (thinned copies past)) (events past) b
  below_starts (suc n) id start end past m o b =
      let rest = below_starts n id start end past m o b in
      let x = there id start end past m in
      subst (λ h. Below (taken h (Started id start end) (events (times n (Started id start end) (thinned copies past)))) (events (Started id start end ∷ past)))
      (sym (high-starts n id start end (thinned copies past) ∙ high-thinned copies past))
      (take_start (high past) id start end _ _ x.0 (orderly_step (Started id start end) past m o) x.1 rest)

  below_cancels : (n id : ℕ) (past : List Turn) → Below (events (thinned copies past)) (events past)
      → Below (events (times n (Cancelled id) (thinned copies past))) (events (Cancelled id ∷ past))
  below_cancels zero id past b = skip_cancel (high past) id (events (thinned copies past)) (events past) b
  below_cancels (suc n) id past b =
      let rest = below_cancels n id past b in
      subst (λ h. Below (taken h (Cancelled id) (events (times n (Cancelled id) (thinned copies past)))) (events (Cancelled id ∷ past)))
      (sym (high-cancels n id (thinned copies past) ∙ high-thinned copies past))
      (take_cancel (high past) id _ _ done rest)
    where
      done : (t : LineEvent) → In t (map (cancel_by (high past) id) (events past)) → can_cancel (high past) id t ≡ true → t.cancelled ≡ true
      done t i c =
          let r = In-mapped (cancel_by (high past) id) t (events past) i in
          let d : can_cancel (high past) id (cancel_by (high past) id r.0) ≡ true = subst (λ z. can_cancel (high past) id z ≡ true) r.2 c in
          subst (λ (z : LineEvent). z.cancelled ≡ true) (sym r.2) (or-right r.0.cancelled (can_cancel (high past) id r.0) d)

  below_ends : (n id : ℕ) (time : ℤ) (past : List Turn) → MayCome (Ended id time) past → Below (events (thinned copies past)) (events past)
      → Below (events (times (suc n) (Ended id time) (thinned copies past))) (events (Ended id time ∷ past))
  below_ends zero id time past m b =
      subst (λ h. Below (taken h (Ended id time) (events (thinned copies past))) (events (Ended id time ∷ past)))
      (sym (high-thinned copies past))
      (take_end (high past) id time _ _ m b)
  below_ends (suc n) id time past m b =
      let rest = below_ends n id time past m b in
      subst (λ h. Below (taken h (Ended id time) (events (times (suc n) (Ended id time) (thinned copies past)))) (events (Ended id time ∷ past)))
      (sym (high-ends (suc n) id time (thinned copies past) ∙ high-thinned copies past))
      (subst (λ all. Below (taken (high past) (Ended id time) (events (times (suc n) (Ended id time) (thinned copies past)))) all)
      (map_twice (end_by (high past) id time) (ended_twice (high past) id time) (events past))
      (take_end (high past) id time _ _ still rest))
    where
      still : (t : LineEvent) → In t (map (end_by (high past) id time) (events past)) → is_of (high past) id t ≡ true → t.cancelled ≡ false
      still t i of =
          let r = In-mapped (end_by (high past) id time) t (events past) i in
          let d : is_of (high past) id (end_by (high past) id time r.0) ≡ true = subst (λ z. is_of (high past) id z ≡ true) r.2 of in
          let p = is_of-parts (high past) id (end_by (high past) id time r.0) d in
          let e : is_of (high past) id r.0 ≡ true = is_of-is (high past) id r.0 (stands-back (high past) r.0 (end_by (high past) id time r.0) (end-shrinks (high past) id time r.0) p.0) p.1 in
          subst (λ (z : LineEvent). z.cancelled ≡ false) (sym r.2) (m r.0 r.1 e)

  below_end : (n id : ℕ) (time : ℤ) (past : List Turn) → MayCome (Ended id time) past → (0 < n) ⊎ (events (Ended id time ∷ past) ≡ events past)
      → Below (events (thinned copies past)) (events past)
      → Below (events (times n (Ended id time) (thinned copies past))) (events (Ended id time ∷ past))
  below_end zero id time past m (inl some) b = absurd (omega (arith, some))
  below_end zero id time past m (inr same) b = subst (λ all. Below (events (thinned copies past)) all) (sym same) b
  below_end (suc n) id time past m keeps b = below_ends n id time past m b

  pub below : (all : List Turn) → MayAllCome all → KeepsEnds copies all → Below (events (thinned copies all)) (events all)
  below [] s k = below-none
  below (Started id start end ∷ past) s k =
      below_starts (copies (Started id start end ∷ past)) id start end past s.0 (orderly past s.1) (below past s.1 k)
  below (Cancelled id ∷ past) s k = below_cancels (copies (Cancelled id ∷ past)) id past (below past s.1 k)
  below (Ended id time ∷ past) s k = below_end (copies (Ended id time ∷ past)) id time past s.0 k.0 (below past s.1 k.1)
  below (Passed h ∷ past) s k = below past s.1 k
