-- Repeats lose nothing: a choice that leaves out more, but only what is told again, still keeps enough.
use Rattle.std.proofs.Common.{◌≡◌, ℕ, ◌<◌, ◌≤◌, ◌==◌, zero, suc, true, false, ◌⊎◌, inl, inr, refl, sym, ap, ◌∙◌, subst, List, [], ◌∷◌, Option, Some, arith}
use Rattle.std.specs.Prelude.{ℤ, pos, ◌+ℤ◌, ◌<ℤ◌, map, if◌then◌else◌}
use Rattle.std.proofs.lemmas.Int.{ints}
use Rattle.std.proofs.lemmas.Bool.Decides.{nat_tests}
use Rattle.ts_packet.proofs.Cases.{by_test}
use Rattle.pes_time.proofs.IntLemmas.{lt-is}
use Rattle.ts_packet.specs.Membership.{In}
use Rattle.ts_packet.proofs.MembershipLemmas.{In-mapped}
use Rattle.cue_laws.specs.Events.{Turn, LineEvent, Name, Started, Cancelled, Ended, Passed, high, before, events, taken, NeverFalls, stands, is_of, can_start, fresh, cancel_by, can_end, end_by, name_of, upon}
use Rattle.cue_laws.specs.Thinning.{MayAllCome, times, thinned, id_in, count_of, TellsAgain, IsToldBefore, LeavesOne, LeavesOutRepeats, KeepsEnds, KeepsStart, KeepsCancel, Knows}
use Rattle.cue_laws.specs.Cueing.{cue_turns}
use Rattle.cue_laws.specs.Laws.{RepeatsLoseNothing}
use Rattle.cue_laws.proofs.Settling.{can_end-parts, reached_upon}
use Rattle.cue_laws.proofs.Orders.{before-more, is_of-parts, is_of-is, Shrinks, cancel-shrinks, end-shrinks}
use Rattle.cue_laws.proofs.Lost.{In-times, In-under, falls, kept_later}
use Rattle.cue_laws.proofs.Block.{end-off, map_same}
use Rattle.cue_laws.proofs.Enough.{cued_is_sound}

-- an equal cue came before, some of which is left, and as many events with its id were there then as now
abbrev Earlier : (List Turn → ℕ) → Turn → List Turn → Type 0
Earlier given s past = (later older : List Turn) × (past ≡ upon later (s ∷ older)) × (0 < given (s ∷ older))
    × (count_of (id_in s) (events (s ∷ past)) ≡ count_of (id_in s) (events (s ∷ older)))

-- one that was told before is such a cue
earlier : (given : List Turn → ℕ) (s : Turn) (past : List Turn) → IsToldBefore given s past → Earlier given s past
earlier given s past told = named told.0 told.1 told.2 told.3 told.4
  where
    named : (later first : List Turn) → past ≡ upon later first → 0 < given first → TellsAgain first (s ∷ past) → Earlier given s past
    named later [] is some again = absurd again
    named later (t ∷ older) is some again =
        let facts = subst (λ z. (past ≡ upon later (z ∷ older)) × (0 < given (z ∷ older)) × (count_of (id_in s) (events (s ∷ past)) ≡ count_of (id_in s) (events (z ∷ older))))
        (sym again.0) (is, some, again.1) in
        (later, older, facts.0, facts.1, facts.2)

-- ---- where events come from

-- one of these events became this one
abbrev Descends : LineEvent → List LineEvent → Type 0
Descends e es = (old : LineEvent) × In old es × Shrinks old e

-- what does not change shrinks, and what shrinks twice does
shrinks_not : (e : LineEvent) → Shrinks e e
shrinks_not e = record { id = refl; start = refl; asked = refl; earlier = omega (arith, ints); some = λ s. s; cancelled = λ c. c }

shrinks_twice : (a b c : LineEvent) → Shrinks a b → Shrinks b c → Shrinks a c
shrinks_twice a b c s t = record {
  id = t.id ∙ s.id;
  start = t.start ∙ s.start;
  asked = t.asked ∙ s.asked;
  earlier = omega (arith, ints, s.earlier, t.earlier);
  some = λ l. let m = t.some (let k = s.some l in omega (arith, ints, k, s.start)) in omega (arith, ints, m, s.start);
  cancelled = λ k. t.cancelled (s.cancelled k);
}

-- a change of events that keeps ids keeps their number
count-changed : (f : LineEvent → LineEvent) → ((e : LineEvent) → (f e).id ≡ e.id) → (id : ℕ) (es : List LineEvent) → count_of (Some id) (map f es) ≡ count_of (Some id) es
count-changed f keeps id [] = refl
count-changed f keeps id (e ∷ es) =
    let rest = count-changed f keeps id es in
    by_test (e.id == id)
    (λ t. let u : ((f e).id == id) ≡ true = ap (λ i. i == id) (keeps e) ∙ t in simp (t, u) (ap suc rest))
    (λ t. let u : ((f e).id == id) ≡ false = ap (λ i. i == id) (keeps e) ∙ t in simp (t, u) rest)

-- no turn makes them fewer
count_step : (h : Option ℤ) (s : Turn) (id : ℕ) (es : List LineEvent) → count_of (Some id) es ≤ count_of (Some id) (taken h s es)
count_step h (Started new start end) id es =
    by_test (can_start h new start end es)
    (λ can. simp can (by_test (new == id) (λ t. simp t (omega arith)) (λ t. simp t (omega arith))))
    (λ can. simp can (omega arith))
count_step h (Cancelled old) id es = let same = count-changed (cancel_by h old) (λ e. refl) id es in omega (arith, same)
count_step h (Ended old time) id es = let same = count-changed (end_by h old time) (λ e. refl) id es in omega (arith, same)
count_step h (Passed later) id es = omega arith

-- nor do several
count_upon : (id : ℕ) (first later : List Turn) → count_of (Some id) (events first) ≤ count_of (Some id) (events (upon later first))
count_upon id first [] = omega arith
count_upon id first (s ∷ later) =
    let rest = count_upon id first later in
    let step = count_step (high (upon later first)) s id (events (upon later first)) in omega (arith, rest, step)

-- where their number stays, none of them is new
descends_step : (h : Option ℤ) (s : Turn) (id : ℕ) (es : List LineEvent) → count_of (Some id) (taken h s es) ≡ count_of (Some id) es
    → (e : LineEvent) → e.id ≡ id → In e (taken h s es) → Descends e es
descends_step h (Started new start end) id es same e is i =
    by_test (can_start h new start end es)
    (λ can. first (simp can at same) (simp can at i))
    (λ can. let j = simp can at i in (e, j, shrinks_not e))
  where
    first : count_of (Some id) (fresh new start end ∷ es) ≡ count_of (Some id) es → In e (fresh new start end ∷ es) → Descends e es
    first more (inl k) =
        let t : (new == id) ≡ true = (let n : new ≡ id = sym (ap (λ (z : LineEvent). z.id) k) ∙ is in grind (arith, nat_tests)) in
        absurd (let l = simp t at more in omega (arith, l))
    first more (inr j) = (e, j, shrinks_not e)
descends_step h (Cancelled old) id es same e is i =
    let r = In-mapped (cancel_by h old) e es i in (r.0, r.1, subst (λ z. Shrinks r.0 z) (sym r.2) (cancel-shrinks h old r.0))
descends_step h (Ended old time) id es same e is i =
    let r = In-mapped (end_by h old time) e es i in (r.0, r.1, subst (λ z. Shrinks r.0 z) (sym r.2) (end-shrinks h old time r.0))
descends_step h (Passed later) id es same e is i = (e, i, shrinks_not e)

-- nor in several turns
descends : (id : ℕ) (first later : List Turn) → count_of (Some id) (events (upon later first)) ≡ count_of (Some id) (events first)
    → (e : LineEvent) → e.id ≡ id → In e (events (upon later first)) → Descends e (events first)
descends id first [] same e is i = (e, i, shrinks_not e)
descends id first (s ∷ later) same e is i =
    let rest = count_upon id first later in
    let step = count_step (high (upon later first)) s id (events (upon later first)) in
    let d = descends_step (high (upon later first)) s id (events (upon later first)) (omega (arith, same, rest, step)) e is i in
    let o = descends id first later (omega (arith, same, rest, step)) d.0 (sym d.2.id ∙ is) d.1 in
    (o.0, o.1, shrinks_twice o.0 d.0 e o.2 d.2)

-- a time that is ahead was ahead before
ahead_before : (first later : List Turn) (time : ℤ) → NeverFalls (upon later first) → before (high (upon later first)) time ≡ true → before (high first) time ≡ true
ahead_before first later time n b =
    by_test (before (high first) time)
    (λ t. t)
    (λ t. let late = reached_upon first later time n t in absurd (let bad : true ≡ false = sym b ∙ late in cc))

-- ---- a cue of which some is left

-- some of it is there
In-here : (s : Turn) (n : ℕ) (rest : List Turn) → 0 < n → In s (times n s rest)
In-here s zero rest some = absurd (omega (arith, some))
In-here s (suc n) rest some = inl refl

In-first : (copies : List Turn → ℕ) (s : Turn) (past : List Turn) → 0 < copies (s ∷ past) → In s (thinned copies (s ∷ past))
In-first copies (Started id start end) past some = In-here _ (copies (Started id start end ∷ past)) _ some
In-first copies (Cancelled id) past some = In-here _ (copies (Cancelled id ∷ past)) _ some
In-first copies (Ended id time) past some = In-here _ (copies (Ended id time ∷ past)) _ some
In-first copies (Passed h) past some = inl refl

-- ---- cues that are left

module _ (copies given : List Turn → ℕ) where
  -- of a cue that was told before some is left
  told_left : (s : Turn) (past : List Turn) → IsToldBefore given s past → In s (thinned given past)
  told_left s past told =
      let t = earlier given s past told in
      subst (λ all. In s (thinned given all)) (sym t.2) (kept_later given s (s ∷ t.1) t.0 (In-first given s t.1 t.3))

  -- one cue
  left_step : (x s : Turn) (past : List Turn) → LeavesOne copies given s past → (In x (thinned copies past) → In x (thinned given past))
      → In x (times (copies (s ∷ past)) s (thinned copies past)) → In x (times (given (s ∷ past)) s (thinned given past))
  left_step x s past one later i = which (In-times x s (copies (s ∷ past)) (thinned copies past) i)
    where
      here : x ≡ s → (0 < given (s ∷ past)) ⊎ IsToldBefore given s past → In x (times (given (s ∷ past)) s (thinned given past))
      here is (inl some) = subst (λ z. In z (times (given (s ∷ past)) s (thinned given past))) (sym is) (In-here s (given (s ∷ past)) (thinned given past) some)
      here is (inr told) = In-under x s (given (s ∷ past)) (thinned given past) (subst (λ z. In z (thinned given past)) (sym is) (told_left s past told))

      which : ((x ≡ s) × (0 < copies (s ∷ past))) ⊎ In x (thinned copies past) → In x (times (given (s ∷ past)) s (thinned given past))
      which (inl r) = here r.0 (one.1 r.1)
      which (inr j) = In-under x s (given (s ∷ past)) (thinned given past) (later j)

  -- each cue of which the first choice leaves some
  left : (x : Turn) (all : List Turn) → LeavesOutRepeats copies given all → In x (thinned copies all) → In x (thinned given all)
  left x [] l i = i
  left x (Started id start end ∷ past) l i = left_step x (Started id start end) past l.0 (λ j. left x past l.1 j) i
  left x (Cancelled id ∷ past) l i = left_step x (Cancelled id) past l.0 (λ j. left x past l.1 j) i
  left x (Ended id time ∷ past) l i = left_step x (Ended id time) past l.0 (λ j. left x past l.1 j) i
  left x (Passed h ∷ past) l (inl is) = inl is
  left x (Passed h ∷ past) l (inr i) = inr (left x past l i)

  -- and no other
  back_step : (x s : Turn) (past : List Turn) → LeavesOne copies given s past → (In x (thinned given past) → In x (thinned copies past))
      → In x (times (given (s ∷ past)) s (thinned given past)) → In x (times (copies (s ∷ past)) s (thinned copies past))
  back_step x s past one later i = which (In-times x s (given (s ∷ past)) (thinned given past) i)
    where
      which : ((x ≡ s) × (0 < given (s ∷ past))) ⊎ In x (thinned given past) → In x (times (copies (s ∷ past)) s (thinned copies past))
      which (inl r) = subst (λ z. In z (times (copies (s ∷ past)) s (thinned copies past))) (sym r.0) (In-here s (copies (s ∷ past)) (thinned copies past) (one.0 r.1))
      which (inr j) = In-under x s (copies (s ∷ past)) (thinned copies past) (later j)

  back : (x : Turn) (all : List Turn) → LeavesOutRepeats copies given all → In x (thinned given all) → In x (thinned copies all)
  back x [] l i = i
  back x (Started id start end ∷ past) l i = back_step x (Started id start end) past l.0 (λ j. back x past l.1 j) i
  back x (Cancelled id ∷ past) l i = back_step x (Cancelled id) past l.0 (λ j. back x past l.1 j) i
  back x (Ended id time ∷ past) l i = back_step x (Ended id time) past l.0 (λ j. back x past l.1 j) i
  back x (Passed h ∷ past) l (inl is) = inl is
  back x (Passed h ∷ past) l (inr i) = inr (back x past l i)

-- ---- cancels

-- a cancel that is left at a front is left
cancel_later : (given : List Turn → ℕ) (x : LineEvent) (front later : List Turn) → KeepsCancel given x front → KeepsCancel given x (upon later front)
cancel_later given x front [] k = k
cancel_later given x front (Started id start end ∷ later) k = cancel_later given x front later k
cancel_later given x front (Cancelled id ∷ later) k = inr (cancel_later given x front later k)
cancel_later given x front (Ended id time ∷ later) k = cancel_later given x front later k
cancel_later given x front (Passed h ∷ later) k = cancel_later given x front later k

-- the equal cancel that came before came while the event was known, and before it began
cancel_at : (given : List Turn → ℕ) (x : LineEvent) (id : ℕ) (later older : List Turn) → 0 < given (Cancelled id ∷ older) → id ≡ x.id
    → NeverFalls (upon later (Cancelled id ∷ older)) → before (high (upon later (Cancelled id ∷ older))) x.start ≡ true
    → Knows x (events (upon later (Cancelled id ∷ older)))
    → count_of (Some id) (events (Cancelled id ∷ upon later (Cancelled id ∷ older))) ≡ count_of (Some id) (events (Cancelled id ∷ older))
    → KeepsCancel given x (upon later (Cancelled id ∷ older))
cancel_at given x id later older some is falls_not ahead knows same =
    cancel_later given x (Cancelled id ∷ older) later (inl (some, is, ahead_before (Cancelled id ∷ older) later x.start falls_not ahead, known))
  where
    past : List Turn
    past = upon later (Cancelled id ∷ older)

    known : Knows x (events older)
    known =
        let mine : knows.0.id ≡ id = ap (λ (z : Name). z.id) knows.2 ∙ sym is in
        let number = sym (count-changed (cancel_by (high past) id) (λ e. refl) id (events past)) ∙ same in
        let d = descends id (Cancelled id ∷ older) later number knows.0 mine knows.1 in
        let r = In-mapped (cancel_by (high older) id) d.0 (events older) d.1 in
        let s = d.2 in
        let name : name_of knows.0 ≡ name_of d.0 = ap (λ v. record { id = v; start = knows.0.start; asked = knows.0.asked }) s.id
        ∙ ap (λ v. record { id = d.0.id; start = v; asked = knows.0.asked }) s.start ∙ ap (λ v. record { id = d.0.id; start = d.0.start; asked = v }) s.asked in
        (r.0, r.1, sym (ap name_of r.2) ∙ sym name ∙ knows.2)

-- so where a cancel is told again, an earlier one is left
cancel_told : (given : List Turn → ℕ) (x : LineEvent) (id : ℕ) (past : List Turn) → id ≡ x.id → NeverFalls past → before (high past) x.start ≡ true → Knows x (events past)
    → Earlier given (Cancelled id) past → KeepsCancel given x past
cancel_told given x id past is falls_not ahead knows told =
    subst (λ all. NeverFalls all → before (high all) x.start ≡ true → Knows x (events all)
    → count_of (Some id) (events (Cancelled id ∷ all)) ≡ count_of (Some id) (events (Cancelled id ∷ told.1)) → KeepsCancel given x all)
    (sym told.2) (cancel_at given x id told.0 told.1 told.3 is) falls_not ahead knows told.4

-- each event that keeps a cancel still does
cancel_kept : (copies given : List Turn → ℕ) (x : LineEvent) (all : List Turn) → MayAllCome all → LeavesOutRepeats copies given all → KeepsCancel copies x all → KeepsCancel given x all
cancel_kept copies given x [] s l k = k
cancel_kept copies given x (Started id start end ∷ past) s l k = cancel_kept copies given x past s.1 l.1 k
cancel_kept copies given x (Cancelled id ∷ past) s l (inl k) = which (l.0.1 k.0)
  where
    which : (0 < given (Cancelled id ∷ past)) ⊎ IsToldBefore given (Cancelled id) past → KeepsCancel given x (Cancelled id ∷ past)
    which (inl some) = inl (some, k.1, k.2, k.3)
    which (inr told) = inr (cancel_told given x id past k.1 (falls past s.1) k.2 k.3 (earlier given (Cancelled id) past told))
cancel_kept copies given x (Cancelled id ∷ past) s l (inr k) = inr (cancel_kept copies given x past s.1 l.1 k)
cancel_kept copies given x (Ended id time ∷ past) s l k = cancel_kept copies given x past s.1 l.1 k
cancel_kept copies given x (Passed h ∷ past) s l k = cancel_kept copies given x past s.1 l k

-- ---- ends

-- it may get the end
can_end-is : (h : Option ℤ) (id : ℕ) (time : ℤ) (e : LineEvent) → is_of h id e ≡ true → e.cancelled ≡ false → e.start <ℤ time → before h time ≡ true → time <ℤ e.end
    → can_end h id time e ≡ true
can_end-is h id time e of uncancelled past ahead less =
    let a = lt-is e.start time past in let b = lt-is time e.end less in simp (of, uncancelled, a, ahead, b)

-- the equal end that came before has done its work
end_at : (id : ℕ) (time : ℤ) (later older : List Turn) → NeverFalls (upon later (Ended id time ∷ older))
    → count_of (Some id) (events (Ended id time ∷ upon later (Ended id time ∷ older))) ≡ count_of (Some id) (events (Ended id time ∷ older))
    → events (Ended id time ∷ upon later (Ended id time ∷ older)) ≡ events (upon later (Ended id time ∷ older))
end_at id time later older falls_not same =
    map_same (end_by (high past) id time) (events past)
    (λ e i. end-off (high past) id time e (by_test (can_end (high past) id time e) (λ can. absurd (never e i can)) (λ can. can)))
  where
    past : List Turn
    past = upon later (Ended id time ∷ older)

    never : (e : LineEvent) → In e (events past) → can_end (high past) id time e ≡ true → ⊥
    never e i can =
        let c = can_end-parts (high past) id time e can in
        let o = is_of-parts (high past) id e c.of in
        let number = sym (count-changed (end_by (high past) id time) (λ z. refl) id (events past)) ∙ same in
        let d = descends id (Ended id time ∷ older) later number e o.1 i in
        let r = In-mapped (end_by (high older) id time) d.0 (events older) d.1 in
        let s = shrinks_twice r.0 d.0 e (subst (λ z. Shrinks r.0 z) (sym r.2) (end-shrinks (high older) id time r.0)) d.2 in
        let stood : stands (high older) r.0 ≡ true =
        before-more (high older) (e.end +ℤ pos 900000) (r.0.end +ℤ pos 900000) (ahead_before (Ended id time ∷ older) later (e.end +ℤ pos 900000) falls_not o.0) (omega (arith, ints, s.earlier)) in
        let ahead : before (high older) time ≡ true = ahead_before (Ended id time ∷ older) later time falls_not c.ahead in
        let uncancelled : r.0.cancelled ≡ false = by_test r.0.cancelled (λ k. let m = s.cancelled k in let n = c.uncancelled in absurd (let bad : true ≡ false = sym m ∙ n in cc)) (λ k. k) in
        let was : can_end (high older) id time r.0 ≡ true =
        can_end-is (high older) id time r.0 (is_of-is (high older) id r.0 stood (sym s.id ∙ o.1)) uncancelled (omega (arith, ints, c.past, s.start)) ahead (omega (arith, ints, c.earlier, s.earlier)) in
        let cut : d.0.end ≡ time = ap (λ (z : LineEvent). z.end) r.2 ∙ ap (λ b. if b then time else r.0.end) was in
        omega (arith, ints, cut, c.earlier, d.2.earlier)

-- so an end that is told again changes nothing
end_told : (given : List Turn → ℕ) (id : ℕ) (time : ℤ) (past : List Turn) → NeverFalls past → Earlier given (Ended id time) past → events (Ended id time ∷ past) ≡ events past
end_told given id time past falls_not told =
    subst (λ all. NeverFalls all → count_of (Some id) (events (Ended id time ∷ all)) ≡ count_of (Some id) (events (Ended id time ∷ told.1)) → events (Ended id time ∷ all) ≡ events all)
    (sym told.2) (end_at id time told.0 told.1) falls_not told.4

-- what is left out of the ends changes nothing still
ends_kept : (copies given : List Turn → ℕ) (all : List Turn) → MayAllCome all → LeavesOutRepeats copies given all → KeepsEnds copies all → KeepsEnds given all
ends_kept copies given [] s l k = tt
ends_kept copies given (Started id start end ∷ past) s l k = ends_kept copies given past s.1 l.1 k
ends_kept copies given (Cancelled id ∷ past) s l k = ends_kept copies given past s.1 l.1 k
ends_kept copies given (Ended id time ∷ past) s l k = (which k.0, ends_kept copies given past s.1 l.1 k.1)
  where
    again : (0 < given (Ended id time ∷ past)) ⊎ IsToldBefore given (Ended id time) past → (0 < given (Ended id time ∷ past)) ⊎ (events (Ended id time ∷ past) ≡ events past)
    again (inl some) = inl some
    again (inr told) = inr (end_told given id time past (falls past s.1) (earlier given (Ended id time) past told))

    which : (0 < copies (Ended id time ∷ past)) ⊎ (events (Ended id time ∷ past) ≡ events past) → (0 < given (Ended id time ∷ past)) ⊎ (events (Ended id time ∷ past) ≡ events past)
    which (inl some) = again (l.0.1 some)
    which (inr same) = inr same
ends_kept copies given (Passed h ∷ past) s l k = ends_kept copies given past s.1 l k

-- ---- the law

pub repeats_lose_nothing : RepeatsLoseNothing
repeats_lose_nothing copies given run r l k = record {
  starts = λ x i c. left copies given (Started x.id x.start x.asked) (cue_turns run) l (k.starts x i c);
  cancels = λ x i c. which x (k.cancels x i c);
  ends = ends_kept copies given (cue_turns run) (cued_is_sound run r) l k.ends;
}
  where
    which : (x : LineEvent) → KeepsCancel copies x (cue_turns run) ⊎ (KeepsStart copies x (cue_turns run) → ⊥) → KeepsCancel given x (cue_turns run) ⊎ (KeepsStart given x (cue_turns run) → ⊥)
    which x (inl cancel) = inl (cancel_kept copies given x (cue_turns run) (cued_is_sound run r) l cancel)
    which x (inr never) = inr (λ start. never (back copies given (Started x.id x.start x.asked) (cue_turns run) l start))
