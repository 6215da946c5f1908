-- Lost cues change no event that is never cancelled, once its start is reached.
use Rattle.std.proofs.Common.{◌≡◌, ℕ, ◌<◌, zero, suc, true, false, ◌⊎◌, inl, inr, refl, sym, ap, ◌∙◌, subst, List, [], ◌∷◌, Option, arith}
use Rattle.std.specs.Prelude.{ℤ, pos, ◌+ℤ◌, ◌<ℤ◌, map}
use Rattle.std.proofs.lemmas.Int.{ints}
use Rattle.std.proofs.lemmas.Bool.{and_right}
use Rattle.ts_packet.proofs.Cases.{by_test}
use Rattle.ts_packet.specs.Membership.{In}
use Rattle.ts_packet.proofs.MembershipLemmas.{In-map, In-mapped}
use Rattle.cue_laws.specs.Events.{Turn, LineEvent, Name, Started, Cancelled, Ended, Passed, high, before, events, taken, NeverFalls, stands, is_of, can_start, fresh, can_cancel, cancel_by, end_by, name_of, upon}
use Rattle.cue_laws.specs.Thinning.{MayCome, MayAllCome, times, thinned, KeepsEnds, KeepsStart, KeepsCancel, Knows}
use Rattle.cue_laws.specs.Laws.{LostCues, LostCuesAtTheEnd}
use Rattle.cue_laws.proofs.Settling.{reached_upon}
use Rattle.cue_laws.proofs.Lists.{has_start}
use Rattle.cue_laws.proofs.Orders.{Orderly, orderly, orderly_step, or-right, before-more, Shrinks, cancel-shrinks, end-shrinks, is_of-is, or-neither}
use Rattle.cue_laws.proofs.Below.{Below, Match, match-can_cancel, start_taken}
use Rattle.cue_laws.proofs.Thin.{high-starts, high-thinned, there, below_starts, below}

-- an event comes from its start
pub origin : (all : List Turn) (a : LineEvent) → In a (events all) → In (Started a.id a.start a.asked) all
origin [] a i = absurd i
origin (Started id start end ∷ past) a i =
    by_test (can_start (high past) id start end (events past))
    (λ can. first (simp can at i) (λ j. origin past a j))
    (λ can. let j = simp can at i in inr (origin past a j))
  where
    first : In a (fresh id start end ∷ events past) → (In a (events past) → In (Started a.id a.start a.asked) past) → In (Started a.id a.start a.asked) (Started id start end ∷ past)
    first (inl is) later = inl (ap (λ (z : LineEvent). Started z.id z.start z.asked) is)
    first (inr j) later = inr (later j)
origin (Cancelled id ∷ past) a i =
    let r = In-mapped (cancel_by (high past) id) a (events past) i in
    inr (subst (λ (z : LineEvent). In (Started z.id z.start z.asked) past) (sym r.2) (origin past r.0 r.1))
origin (Ended id time ∷ past) a i =
    let r = In-mapped (end_by (high past) id time) a (events past) i in
    inr (subst (λ (z : LineEvent). In (Started z.id z.start z.asked) past) (sym r.2) (origin past r.0 r.1))
origin (Passed h ∷ past) a i = inr (origin past a i)

-- ---- an event of this start is there

abbrev Has : ℤ → List LineEvent → Type 0
Has start es = (e : LineEvent) × In e es × (e.start ≡ start)

has_more : (h : Option ℤ) (s : Turn) (start : ℤ) (es : List LineEvent) → Has start es → Has start (taken h s es)
has_more h (Started id from to) start es e =
    by_test (can_start h id from to es) (λ can. simp can (e.0, inr e.1, e.2)) (λ can. simp can e)
has_more h (Cancelled id) start es e = (cancel_by h id e.0, In-map (cancel_by h id) e.0 es e.1, e.2)
has_more h (Ended id time) start es e = (end_by h id time e.0, In-map (end_by h id time) e.0 es e.1, e.2)
has_more h (Passed later) start es e = e

has_times : (n : ℕ) (s : Turn) (start : ℤ) (rest : List Turn) → Has start (events rest) → Has start (events (times n s rest))
has_times zero s start rest e = e
has_times (suc n) s start rest e = has_more (high (times n s rest)) s start (events (times n s rest)) (has_times n s start rest e)

pub In-times : (x s : Turn) (n : ℕ) (rest : List Turn) → In x (times n s rest) → ((x ≡ s) × (0 < n)) ⊎ In x rest
In-times x s zero rest i = inr i
In-times x s (suc n) rest (inl is) = inl (is, omega arith)
In-times x s (suc n) rest (inr i) = again (In-times x s n rest i)
  where
    again : ((x ≡ s) × (0 < n)) ⊎ In x rest → ((x ≡ s) × (0 < suc n)) ⊎ In x rest
    again (inl k) = inl (k.0, omega arith)
    again (inr j) = inr j

pub In-under : (x s : Turn) (n : ℕ) (rest : List Turn) → In x rest → In x (times n s rest)
In-under x s zero rest i = i
In-under x s (suc n) rest i = inr (In-under x s n rest i)

module _ (copies : List Turn → ℕ) where
  -- a start cue that is left arms its event, if it was not armed before
  armed : (n id : ℕ) (start end : ℤ) (past : List Turn) → MayCome (Started id start end) past → Orderly (high past) (events past)
      → Below (events (thinned copies past)) (events past) → 0 < n → Has start (events (times n (Started id start end) (thinned copies past)))
  armed zero id start end past m o b some = absurd (omega (arith, some))
  armed (suc n) id start end past m o b some =
      let es = events (times n (Started id start end) (thinned copies past)) in
      let same : high past ≡ high (times n (Started id start end) (thinned copies past)) = sym (high-starts n id start end (thinned copies past) ∙ high-thinned copies past) in
      subst (λ h. Has start (taken h (Started id start end) es)) same (now es (below_starts copies n id start end past m o b) (has_start start es))
    where
      now : (es : List LineEvent) → Below es (events (Started id start end ∷ past)) → (Has start es) ⊎ ((e : LineEvent) → In e es → e.start ≡ start → ⊥) → Has start (taken (high past) (Started id start end) es)
      now es c (inl e) = has_more (high past) (Started id start end) start es e
      now es c (inr none) =
          let x = there id start end past m in
          let can = start_taken (high past) id start end es (events (Started id start end ∷ past)) x.0 (orderly_step (Started id start end) past m o) x.1 c none in
          simp can (fresh id start end, inl refl, refl)

  pub kept_armed : (all : List Turn) → MayAllCome all → KeepsEnds copies all → (id : ℕ) (start end : ℤ) → In (Started id start end) (thinned copies all) → Has start (events (thinned copies all))
  kept_armed [] s k id start end i = absurd i
  kept_armed (Started id' start' end' ∷ past) s k id start end i =
      which (In-times (Started id start end) (Started id' start' end') (copies (Started id' start' end' ∷ past)) (thinned copies past) i)
      (λ j. kept_armed past s.1 k id start end j)
    where
      which : ((Started id start end ≡ Started id' start' end') × (0 < copies (Started id' start' end' ∷ past))) ⊎ In (Started id start end) (thinned copies past)
          → (In (Started id start end) (thinned copies past) → Has start (events (thinned copies past)))
          → Has start (events (thinned copies (Started id' start' end' ∷ past)))
      which (inl r) later =
          let is = r.0 in let same : start' ≡ start = cc in
          let e = armed (copies (Started id' start' end' ∷ past)) id' start' end' past s.0 (orderly past s.1) (below copies past s.1 k) r.1 in
          (e.0, e.1, e.2 ∙ same)
      which (inr j) later = has_times (copies (Started id' start' end' ∷ past)) (Started id' start' end') start (thinned copies past) (later j)
  kept_armed (Cancelled id' ∷ past) s k id start end i =
      which (In-times (Started id start end) (Cancelled id') (copies (Cancelled id' ∷ past)) (thinned copies past) i) (λ j. kept_armed past s.1 k id start end j)
    where
      which : ((Started id start end ≡ Cancelled id') × (0 < copies (Cancelled id' ∷ past))) ⊎ In (Started id start end) (thinned copies past)
          → (In (Started id start end) (thinned copies past) → Has start (events (thinned copies past)))
          → Has start (events (thinned copies (Cancelled id' ∷ past)))
      which (inl r) later = let is = r.0 in cc
      which (inr j) later = has_times (copies (Cancelled id' ∷ past)) (Cancelled id') start (thinned copies past) (later j)
  kept_armed (Ended id' time ∷ past) s k id start end i =
      which (In-times (Started id start end) (Ended id' time) (copies (Ended id' time ∷ past)) (thinned copies past) i) (λ j. kept_armed past s.1 k.1 id start end j)
    where
      which : ((Started id start end ≡ Ended id' time) × (0 < copies (Ended id' time ∷ past))) ⊎ In (Started id start end) (thinned copies past)
          → (In (Started id start end) (thinned copies past) → Has start (events (thinned copies past)))
          → Has start (events (thinned copies (Ended id' time ∷ past)))
      which (inl r) later = let is = r.0 in cc
      which (inr j) later = has_times (copies (Ended id' time ∷ past)) (Ended id' time) start (thinned copies past) (later j)
  kept_armed (Passed h ∷ past) s k id start end (inl is) = cc
  kept_armed (Passed h ∷ past) s k id start end (inr i) = kept_armed past s.1 k id start end i

-- ---- the events of this start are cancelled

abbrev AllCancelled : ℤ → List LineEvent → Type 0
AllCancelled start es = (e : LineEvent) → In e es → e.start ≡ start → e.cancelled ≡ true

cancelled-map : (f : LineEvent → LineEvent) → ((e : LineEvent) → Shrinks e (f e)) → (start : ℤ) (es : List LineEvent) → AllCancelled start es → AllCancelled start (map f es)
cancelled-map f shrinks start es all x i is =
    let r = In-mapped f x es i in
    let s = shrinks r.0 in
    let old : r.0.start ≡ start = sym s.start ∙ sym (ap (λ (z : LineEvent). z.start) r.2) ∙ is in
    subst (λ (z : LineEvent). z.cancelled ≡ true) (sym r.2) (s.cancelled (all r.0 r.1 old))

cancelled-cancels : (n id : ℕ) (start : ℤ) (rest : List Turn) → AllCancelled start (events rest) → AllCancelled start (events (times n (Cancelled id) rest))
cancelled-cancels zero id start rest all = all
cancelled-cancels (suc n) id start rest all =
    let h = high (times n (Cancelled id) rest) in
    cancelled-map (cancel_by h id) (cancel-shrinks h id) start (events (times n (Cancelled id) rest)) (cancelled-cancels n id start rest all)

cancelled-ends : (n id : ℕ) (time start : ℤ) (rest : List Turn) → AllCancelled start (events rest) → AllCancelled start (events (times n (Ended id time) rest))
cancelled-ends zero id time start rest all = all
cancelled-ends (suc n) id time start rest all =
    let h = high (times n (Ended id time) rest) in
    cancelled-map (end_by h id time) (end-shrinks h id time) start (events (times n (Ended id time) rest)) (cancelled-ends n id time start rest all)

-- what start cues add has their start
added : (n id : ℕ) (start end : ℤ) (rest : List Turn) (a : LineEvent) → In a (events (times n (Started id start end) rest)) → (a.start ≡ start) ⊎ In a (events rest)
added zero id start end rest a i = inr i
added (suc n) id start end rest a i =
    let h = high (times n (Started id start end) rest) in
    let es = events (times n (Started id start end) rest) in
    by_test (can_start h id start end es)
    (λ can. first es (simp can at i) (λ j. added n id start end rest a j))
    (λ can. let j = simp can at i in added n id start end rest a j)
  where
    first : (es : List LineEvent) → In a (fresh id start end ∷ es) → (In a es → (a.start ≡ start) ⊎ In a (events rest)) → (a.start ≡ start) ⊎ In a (events rest)
    first es (inl is) later = inl (ap (λ (z : LineEvent). z.start) is)
    first es (inr j) later = later j

-- a cancel that comes before it begins cancels it
cancels_it : (h : Option ℤ) (id : ℕ) (e : LineEvent) → e.id ≡ id → before h e.start ≡ true → e.start <ℤ e.end → can_cancel h id e ≡ true
cancels_it h id e is ahead some =
    let s : stands h e ≡ true = before-more h e.start (e.end +ℤ pos 900000) ahead (omega (arith, ints)) in
    let o = is_of-is h id e s is in simp (o, ahead)

module _ (copies : List Turn → ℕ) where
  -- a cancel cue that is left has done its work on both sides
  abbrev Gone : LineEvent → List Turn → Type 0
  Gone x past = Has x.start (events past) × AllCancelled x.start (events past) × AllCancelled x.start (events (thinned copies past))

  gone_starts : (x : LineEvent) (id : ℕ) (start end : ℤ) (past : List Turn) → MayCome (Started id start end) past → Orderly (high past) (events past)
      → Gone x past → Gone x (Started id start end ∷ past)
  gone_starts x id start end past m o g =
      (mine, all, λ a i is. kept a is (added (copies (Started id start end ∷ past)) id start end (thinned copies past) a i))
    where
      mine : Has x.start (events (Started id start end ∷ past))
      mine = has_more (high past) (Started id start end) x.start (events past) g.0

      -- the event that was there is there as it was
      old : In g.0.0 (events (Started id start end ∷ past))
      old = by_test (can_start (high past) id start end (events past)) (λ can. simp can (inr g.0.1)) (λ can. simp can g.0.1)

      all : AllCancelled x.start (events (Started id start end ∷ past))
      all e i is =
          let after = orderly_step (Started id start end) past m o in
          let same : e ≡ g.0.0 = after.same e g.0.0 i old (is ∙ sym g.0.2) in
          subst (λ (z : LineEvent). z.cancelled ≡ true) (sym same) (g.1 g.0.0 g.0.1 g.0.2)

      kept : (a : LineEvent) → a.start ≡ x.start → (a.start ≡ start) ⊎ In a (events (thinned copies past)) → a.cancelled ≡ true
      kept a is (inl new) =
          let y = there id start end past m in
          let c = all y.0 y.1.there (y.1.repeats.same_start ∙ sym new ∙ is) in
          let u = y.1.repeats.uncancelled in
          absurd (let bad : true ≡ false = sym c ∙ u in cc)
      kept a is (inr j) = g.2 a j is

  -- at the cancel itself
  gone_now : (x : LineEvent) (n id : ℕ) (past : List Turn) → Orderly (high past) (events past) → Below (events (thinned copies past)) (events past)
      → id ≡ x.id → before (high past) x.start ≡ true → Knows x (events past) → 0 < n
      → AllCancelled x.start (map (cancel_by (high past) id) (events past)) × AllCancelled x.start (events (times n (Cancelled id) (thinned copies past)))
  gone_now x n id past o b is ahead knows some = (there_cancelled, here n some)
    where
      can : (t : LineEvent) → In t (events past) → t.start ≡ x.start → can_cancel (high past) id t ≡ true
      can t i same =
          let name = knows.2 in
          let k : knows.0.start ≡ x.start = ap (λ (z : Name). z.start) name in
          let e : t ≡ knows.0 = o.same t knows.0 i knows.1 (same ∙ sym k) in
          let id_is : t.id ≡ id = ap (λ (z : LineEvent). z.id) e ∙ ap (λ (z : Name). z.id) name ∙ sym is in
          cancels_it (high past) id t id_is (subst (λ s. before (high past) s ≡ true) (sym same) ahead) (o.some t i)

      there_cancelled : AllCancelled x.start (map (cancel_by (high past) id) (events past))
      there_cancelled e i same =
          let r = In-mapped (cancel_by (high past) id) e (events past) i in
          let old : r.0.start ≡ x.start = sym (ap (λ (z : LineEvent). z.start) r.2) ∙ same in
          subst (λ (z : LineEvent). z.cancelled ≡ true) (sym r.2) (or-right r.0.cancelled (can_cancel (high past) id r.0) (can r.0 r.1 old))

      first : AllCancelled x.start (map (cancel_by (high past) id) (events (thinned copies past)))
      first e i same =
          let r = In-mapped (cancel_by (high past) id) e (events (thinned copies past)) i in
          let old : r.0.start ≡ x.start = sym (ap (λ (z : LineEvent). z.start) r.2) ∙ same in
          let m = b.part r.0 r.1 in
          let c : can_cancel (high past) id r.0 ≡ true = match-can_cancel (high past) id r.0 m.0 m.2 ∙ can m.0 m.1 (sym m.2.start ∙ old) in
          subst (λ (z : LineEvent). z.cancelled ≡ true) (sym r.2) (or-right r.0.cancelled (can_cancel (high past) id r.0) c)

      here : (n : ℕ) → 0 < n → AllCancelled x.start (events (times n (Cancelled id) (thinned copies past)))
      here zero some = absurd (omega (arith, some))
      here (suc zero) some = subst (λ h. AllCancelled x.start (map (cancel_by h id) (events (thinned copies past)))) (sym (high-thinned copies past)) first
      here (suc (suc n)) some =
          let h = high (times (suc n) (Cancelled id) (thinned copies past)) in
          cancelled-map (cancel_by h id) (cancel-shrinks h id) x.start (events (times (suc n) (Cancelled id) (thinned copies past))) (here (suc n) (omega arith))

  gone : (x : LineEvent) (all : List Turn) → MayAllCome all → KeepsEnds copies all → KeepsCancel copies x all → Gone x all
  gone x [] s k c = absurd c
  gone x (Started id start end ∷ past) s k c = gone_starts x id start end past s.0 (orderly past s.1) (gone x past s.1 k c)
  gone x (Cancelled id ∷ past) s k (inl c) =
      let g = gone_now x (copies (Cancelled id ∷ past)) id past (orderly past s.1) (below copies past s.1 k) c.1 c.2 c.3 c.0 in
      let e : Has x.start (events past) = (c.3.0, c.3.1, ap (λ (z : Name). z.start) c.3.2) in
      (has_more (high past) (Cancelled id) x.start (events past) e, g.0, g.1)
  gone x (Cancelled id ∷ past) s k (inr c) =
      let g = gone x past s.1 k c in (
        has_more (high past) (Cancelled id) x.start (events past) g.0,
        cancelled-map (cancel_by (high past) id) (cancel-shrinks (high past) id) x.start (events past) g.1,
        cancelled-cancels (copies (Cancelled id ∷ past)) id x.start (thinned copies past) g.2,
      )
  gone x (Ended id time ∷ past) s k c =
      let g = gone x past s.1 k.1 c in (
        has_more (high past) (Ended id time) x.start (events past) g.0,
        cancelled-map (end_by (high past) id time) (end-shrinks (high past) id time) x.start (events past) g.1,
        cancelled-ends (copies (Ended id time ∷ past)) id time x.start (thinned copies past) g.2,
      )
  gone x (Passed h ∷ past) s k c = gone x past s.1 k c

-- ---- fronts

pub falls : (all : List Turn) → MayAllCome all → NeverFalls all
falls [] s = tt
falls (Started id start end ∷ past) s = falls past s.1
falls (Cancelled id ∷ past) s = falls past s.1
falls (Ended id time ∷ past) s = falls past s.1
falls (Passed h ∷ past) s = (s.0, falls past s.1)

sound_front : (front later : List Turn) → MayAllCome (upon later front) → MayAllCome front
sound_front front [] s = s
sound_front front (x ∷ later) s = sound_front front later s.1

pub ends_front : (copies : List Turn → ℕ) (front later : List Turn) → KeepsEnds copies (upon later front) → KeepsEnds copies front
ends_front copies front [] k = k
ends_front copies front (Started id start end ∷ later) k = ends_front copies front later k
ends_front copies front (Cancelled id ∷ later) k = ends_front copies front later k
ends_front copies front (Ended id time ∷ later) k = ends_front copies front later k.1
ends_front copies front (Passed h ∷ later) k = ends_front copies front later k

pub kept_later : (copies : List Turn → ℕ) (x : Turn) (front later : List Turn) → In x (thinned copies front) → In x (thinned copies (upon later front))
kept_later copies x front [] i = i
kept_later copies x front (Started id start end ∷ later) i = In-under x _ (copies (Started id start end ∷ upon later front)) _ (kept_later copies x front later i)
kept_later copies x front (Cancelled id ∷ later) i = In-under x _ (copies (Cancelled id ∷ upon later front)) _ (kept_later copies x front later i)
kept_later copies x front (Ended id time ∷ later) i = In-under x _ (copies (Ended id time ∷ upon later front)) _ (kept_later copies x front later i)
kept_later copies x front (Passed h ∷ later) i = inr (kept_later copies x front later i)

-- a start cue of an event that has begun came before
kept_before : (copies : List Turn → ℕ) (id : ℕ) (start end : ℤ) (front later : List Turn) → MayAllCome (upon later front) → before (high front) start ≡ false
    → In (Started id start end) (thinned copies (upon later front)) → In (Started id start end) (thinned copies front)
kept_before copies id start end front [] s b i = i
kept_before copies id start end front (Started id' start' end' ∷ later) s b i =
    which (In-times (Started id start end) (Started id' start' end') (copies (Started id' start' end' ∷ upon later front)) (thinned copies (upon later front)) i)
    (λ j. kept_before copies id start end front later s.1 b j)
  where
    which : ((Started id start end ≡ Started id' start' end') × (0 < copies (Started id' start' end' ∷ upon later front))) ⊎ In (Started id start end) (thinned copies (upon later front))
        → (In (Started id start end) (thinned copies (upon later front)) → In (Started id start end) (thinned copies front)) → In (Started id start end) (thinned copies front)
    which (inl r) go =
        let is = r.0 in let same : start' ≡ start = cc in
        let late = reached_upon front later start (falls (upon later front) s.1) b in
        let early : before (high (upon later front)) start ≡ true = subst (λ t. before (high (upon later front)) t ≡ true) same s.0.1 in
        absurd (let bad : true ≡ false = sym early ∙ late in cc)
    which (inr j) go = go j
kept_before copies id start end front (Cancelled id' ∷ later) s b i =
    which (In-times (Started id start end) (Cancelled id') (copies (Cancelled id' ∷ upon later front)) (thinned copies (upon later front)) i)
    (λ j. kept_before copies id start end front later s.1 b j)
  where
    which : ((Started id start end ≡ Cancelled id') × (0 < copies (Cancelled id' ∷ upon later front))) ⊎ In (Started id start end) (thinned copies (upon later front))
        → (In (Started id start end) (thinned copies (upon later front)) → In (Started id start end) (thinned copies front)) → In (Started id start end) (thinned copies front)
    which (inl r) go = let is = r.0 in cc
    which (inr j) go = go j
kept_before copies id start end front (Ended id' time ∷ later) s b i =
    which (In-times (Started id start end) (Ended id' time) (copies (Ended id' time ∷ upon later front)) (thinned copies (upon later front)) i)
    (λ j. kept_before copies id start end front later s.1 b j)
  where
    which : ((Started id start end ≡ Ended id' time) × (0 < copies (Ended id' time ∷ upon later front))) ⊎ In (Started id start end) (thinned copies (upon later front))
        → (In (Started id start end) (thinned copies (upon later front)) → In (Started id start end) (thinned copies front)) → In (Started id start end) (thinned copies front)
    which (inl r) go = let is = r.0 in cc
    which (inr j) go = go j
kept_before copies id start end front (Passed h ∷ later) s b (inl is) = cc
kept_before copies id start end front (Passed h ∷ later) s b (inr i) = kept_before copies id start end front later s.1 b i

-- and so did its cancel
cancel_before : (copies : List Turn → ℕ) (x : LineEvent) (front later : List Turn) → MayAllCome (upon later front) → before (high front) x.start ≡ false
    → KeepsCancel copies x (upon later front) → KeepsCancel copies x front
cancel_before copies x front [] s b k = k
cancel_before copies x front (Started id start end ∷ later) s b k = cancel_before copies x front later s.1 b k
cancel_before copies x front (Cancelled id ∷ later) s b (inl k) =
    let late = reached_upon front later x.start (falls (upon later front) s.1) b in
    let early = k.2 in
    absurd (let bad : true ≡ false = sym early ∙ late in cc)
cancel_before copies x front (Cancelled id ∷ later) s b (inr k) = cancel_before copies x front later s.1 b k
cancel_before copies x front (Ended id time ∷ later) s b k = cancel_before copies x front later s.1 b k
cancel_before copies x front (Passed h ∷ later) s b k = cancel_before copies x front later s.1 b k

-- an event that has begun keeps its name, and is cancelled no more
abbrev Stays : LineEvent → List LineEvent → Type 0
Stays x es = (y : LineEvent) × In y es × (name_of y ≡ name_of x) × (y.cancelled ≡ x.cancelled)

stays_step : (h : Option ℤ) (s : Turn) (es : List LineEvent) (x : LineEvent) → before h x.start ≡ false → Stays x es → Stays x (taken h s es)
stays_step h (Started id start end) es x b y = by_test (can_start h id start end es) (λ can. simp can (y.0, inr y.1, y.2, y.3)) (λ can. simp can y)
stays_step h (Cancelled id) es x b y =
    let start : y.0.start ≡ x.start = ap (λ (z : Name). z.start) y.2 in
    let late : before h y.0.start ≡ false = ap (before h) start ∙ b in
    (cancel_by h id y.0, In-map (cancel_by h id) y.0 es y.1, y.2, or-neither y.0.cancelled (can_cancel h id y.0) (and_right (is_of h id y.0) (before h y.0.start) late) ∙ y.3)
stays_step h (Ended id time) es x b y = (end_by h id time y.0, In-map (end_by h id time) y.0 es y.1, y.2, y.3)
stays_step h (Passed later) es x b y = y

stays : (front later : List Turn) → NeverFalls (upon later front) → (x : LineEvent) → before (high front) x.start ≡ false → In x (events front) → Stays x (events (upon later front))
stays front [] n x b i = (x, i, refl, refl)
stays front (s ∷ later) n x b i =
    stays_step (high (upon later front)) s (events (upon later front)) x (reached_upon front later x.start (less s n) b) (stays front later (less s n) x b i)
  where
    less : (s : Turn) → NeverFalls (s ∷ upon later front) → NeverFalls (upon later front)
    less (Started id start end) n = n
    less (Cancelled id) n = n
    less (Ended id time) n = n
    less (Passed h) n = n.1

-- ---- the laws

pub equal_events : (a t : LineEvent) → a.id ≡ t.id → a.start ≡ t.start → a.asked ≡ t.asked → a.end ≡ t.end → a.cancelled ≡ t.cancelled → a ≡ t
equal_events a t p q r s u =
    ap (λ i. record { id = i; start = a.start; asked = a.asked; end = a.end; cancelled = a.cancelled }) p
    ∙ ap (λ i. record { id = t.id; start = i; asked = a.asked; end = a.end; cancelled = a.cancelled }) q
    ∙ ap (λ i. record { id = t.id; start = t.start; asked = i; end = a.end; cancelled = a.cancelled }) r
    ∙ ap (λ i. record { id = t.id; start = t.start; asked = t.asked; end = i; cancelled = a.cancelled }) s
    ∙ ap (λ i. record { id = t.id; start = t.start; asked = t.asked; end = t.end; cancelled = i }) u

matched_equal : (a t : LineEvent) → Match a t → a.cancelled ≡ t.cancelled → a ≡ t
matched_equal a t m c = equal_events a t m.id m.start m.asked m.end c

module _ (copies : List Turn → ℕ) (front : List Turn) (sound : MayAllCome front) (ends : KeepsEnds copies front) where
  -- from what is left: `no_cancel` says that the event there is not cancelled
  forth : (x : LineEvent) → x.cancelled ≡ false → ((t : LineEvent) → In t (events front) → name_of t ≡ name_of x → t.cancelled ≡ true → ⊥)
      → In x (events (thinned copies front)) → In x (events front)
  forth x c none i =
      let m = (below copies front sound ends).part x i in
      let name : name_of m.0 ≡ name_of x = ap (λ v. record { id = v; start = m.0.start; asked = m.0.asked }) (sym m.2.id)
      ∙ ap (λ v. record { id = x.id; start = v; asked = m.0.asked }) (sym m.2.start) ∙ ap (λ v. record { id = x.id; start = x.start; asked = v }) (sym m.2.asked) in
      let u : m.0.cancelled ≡ false = by_test m.0.cancelled (λ k. absurd (none m.0 m.1 name k)) (λ k. k) in
      subst (λ z. In z (events front)) (sym (matched_equal x m.0 m.2 (c ∙ sym u))) m.1

  -- and back, where a start cue is left
  back : (x : LineEvent) → x.cancelled ≡ false → KeepsStart copies x front → In x (events front) → In x (events (thinned copies front))
  back x c k i =
      let a = kept_armed copies front sound ends x.id x.start x.asked k in
      let m = (below copies front sound ends).part a.0 a.1 in
      let same : m.0 ≡ x = (orderly front sound).same m.0 x m.1 i (sym m.2.start ∙ a.2) in
      let u : m.0.cancelled ≡ false = ap (λ (z : LineEvent). z.cancelled) same ∙ c in
      let v : a.0.cancelled ≡ false = by_test a.0.cancelled (λ w. let bad = m.2.cancelled w in absurd (let no_way : true ≡ false = sym bad ∙ u in cc)) (λ w. w) in
      subst (λ z. In z (events (thinned copies front))) (matched_equal a.0 m.0 m.2 (v ∙ sym u) ∙ same) a.1

  -- an event that is left uncancelled has had no cancel
  no_cancel : (x y : LineEvent) → name_of y ≡ name_of x → x.cancelled ≡ false → In x (events (thinned copies front)) → KeepsCancel copies y front → ⊥
  no_cancel x y name c i k =
      let g = gone copies y front sound ends k in
      let all = g.2 in
      let d : x.cancelled ≡ true = all x i (sym (ap (λ (z : Name). z.start) name)) in
      let bad : true ≡ false = sym d ∙ c in cc

  started : (x y : LineEvent) → name_of y ≡ name_of x → In x (events (thinned copies front)) → KeepsStart copies y front
  started x y name i = subst (λ (z : Name). In (Started z.id z.start z.asked) (thinned copies front)) (sym name) (origin (thinned copies front) x i)

pub lost_cues : LostCues
lost_cues copies front later s k x c b =
    (λ i. forth copies front sound ends x c (none i) i, λ i. back copies front sound ends x c (starts i) i)
  where
    sound : MayAllCome front
    sound = sound_front front later s

    ends : KeepsEnds copies front
    ends = ends_front copies front later k.ends

    none : In x (events (thinned copies front)) → (t : LineEvent) → In t (events front) → name_of t ≡ name_of x → t.cancelled ≡ true → ⊥
    none i t j name cancelled =
        let t_late : before (high front) t.start ≡ false = ap (before (high front)) (ap (λ (z : Name). z.start) name) ∙ b in
        let y = stays front later (falls (upon later front) s) t t_late j in
        which y.0 (y.2 ∙ name) (k.cancels y.0 y.1 (y.3 ∙ cancelled))
      where
        which : (y : LineEvent) → name_of y ≡ name_of x → KeepsCancel copies y (upon later front) ⊎ (KeepsStart copies y (upon later front) → ⊥) → ⊥
        which y name (inl cancel) =
            let late : before (high front) y.start ≡ false = ap (before (high front)) (ap (λ (z : Name). z.start) name) ∙ b in
            no_cancel copies front sound ends x y name c i (cancel_before copies y front later s late cancel)
        which y name (inr never) = never (kept_later copies (Started y.id y.start y.asked) front later (started copies front sound ends x y name i))

    starts : In x (events front) → KeepsStart copies x front
    starts i =
        let y = stays front later (falls (upon later front) s) x b i in
        let kept = k.starts y.0 y.1 (y.3 ∙ c) in
        kept_before copies x.id x.start x.asked front later s b (subst (λ (z : Name). In (Started z.id z.start z.asked) (thinned copies (upon later front))) y.2 kept)

pub lost_cues_at_the_end : LostCuesAtTheEnd
lost_cues_at_the_end copies all s k x c =
    (λ i. forth copies all s k.ends x c (λ t j name cancelled. which i t name (k.cancels t j cancelled)) i, λ i. back copies all s k.ends x c (k.starts x i c) i)
  where
    which : In x (events (thinned copies all)) → (y : LineEvent) → name_of y ≡ name_of x → KeepsCancel copies y all ⊎ (KeepsStart copies y all → ⊥) → ⊥
    which i y name (inl cancel) = no_cancel copies all s k.ends x y name c i cancel
    which i y name (inr never) = never (started copies all s k.ends x y name i)
