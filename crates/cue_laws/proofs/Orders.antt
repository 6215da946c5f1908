-- The events of a sound stream are in order: no two meet, no two that stand share an id, and no more than 32 stand.
use Rattle.std.proofs.Common.{◌≡◌, ℕ, ◌<◌, ◌≤◌, ◌==◌, Bool, true, false, ◌&&◌, ◌⊎◌, inl, inr, refl, sym, ap, ◌∙◌, subst, List, [], ◌∷◌, Option, None, Some, arith}
use Rattle.std.specs.Prelude.{ℤ, pos, ◌+ℤ◌, ◌<ℤ◌, ◌≤ℤ◌, int_lt, map, is_some, if◌then◌else◌}
use Rattle.std.proofs.lemmas.Int.{ints}
use Rattle.std.proofs.lemmas.Bool.Decides.{nat_tests}
use Rattle.std.proofs.lemmas.Bool.{and_parts}
use Rattle.ts_packet.proofs.Cases.{by_test}
use Rattle.pes_time.proofs.IntLemmas.{ge-test}
use Rattle.ts_packet.specs.Membership.{In}
use Rattle.ts_packet.proofs.MembershipLemmas.{In-mapped, any-false}
use Rattle.cue_laws.specs.Events.{Turn, LineEvent, Started, Cancelled, Ended, Passed, high, before, events, stands, is_of, bars, count, can_start, fresh, can_cancel, cancel_by, can_end, end_by, or_so}
use Rattle.unit_stream.specs.Clocks.{Rises}
use Rattle.cue_laws.specs.Thinning.{MayCome, MayAllCome}
use Rattle.cue_laws.proofs.Settling.{can_start-parts, CanStart, can_end-parts}
use Rattle.cue_laws.proofs.Lists.{Distinct, distinct-map}

pub before-more : (h : Option ℤ) (a b : ℤ) → before h a ≡ true → a ≤ℤ b → before h b ≡ true
before-more None a b t l = refl
before-more (Some h) a b t l = grind (arith, ints)

-- what stands later stands before
pub before-back : (h later : Option ℤ) (a : ℤ) → Rises h later → before later a ≡ true → before h a ≡ true
before-back None later a r t = refl
before-back (Some h) None a r t = absurd r
before-back (Some h) (Some later) a r t = grind (arith, ints)

-- a forgotten event ended before a start that may be taken
pub forgotten-before : (h : Option ℤ) (end start : ℤ) → before h (end +ℤ pos 900000) ≡ false → before h start ≡ true → end ≤ℤ start
forgotten-before None end start f b = absurd (let no : true ≡ false = f in cc)
forgotten-before (Some h) end start f b = grind (arith, ints)

pub is_of-parts : (h : Option ℤ) (id : ℕ) (e : LineEvent) → is_of h id e ≡ true → (stands h e ≡ true) × (e.id ≡ id)
is_of-parts h id e of = let p = and_parts (stands h e) (e.id == id) of in let q = p.1 in (p.0, grind (arith, nat_tests))

pub is_of-is : (h : Option ℤ) (id : ℕ) (e : LineEvent) → stands h e ≡ true → e.id ≡ id → is_of h id e ≡ true
is_of-is h id e s i = let t : (e.id == id) ≡ true = grind (arith, nat_tests) in simp (s, t)

pub record Orderly (h : Option ℤ) (es : List LineEvent) : Type 0 where
  pub some : (x : LineEvent) → In x es → x.start <ℤ x.end
  pub whole : (x : LineEvent) → In x es → x.end ≤ℤ x.asked
  pub same : (x y : LineEvent) → In x es → In y es → x.start ≡ y.start → x ≡ y
  pub apart : (x y : LineEvent) → In x es → In y es → (x.start ≡ y.start → ⊥) → (x.end ≤ℤ y.start) ⊎ (y.end ≤ℤ x.start)
  pub ids : (x y : LineEvent) → In x es → In y es → stands h x ≡ true → stands h y ≡ true → x.id ≡ y.id → x.start ≡ y.start
  pub distinct : Distinct es
  pub room : count h es ≤ 32

-- what a change may do to an event
pub record Shrinks (e after : LineEvent) : Type 0 where
  pub id : after.id ≡ e.id
  pub start : after.start ≡ e.start
  pub asked : after.asked ≡ e.asked
  pub earlier : after.end ≤ℤ e.end
  pub some : e.start <ℤ e.end → e.start <ℤ after.end
  pub cancelled : e.cancelled ≡ true → after.cancelled ≡ true

pub or-left : (a b : Bool) → a ≡ true → or_so a b ≡ true
or-left a true is = refl
or-left a false is = is

pub or-right : (a b : Bool) → b ≡ true → or_so a b ≡ true
or-right a true is = refl
or-right a false is = cc

pub or-neither : (a b : Bool) → b ≡ false → or_so a b ≡ a
or-neither a true is = cc
or-neither a false is = refl

pub cancel-shrinks : (h : Option ℤ) (id : ℕ) (e : LineEvent) → Shrinks e (cancel_by h id e)
cancel-shrinks h id e = record { id = refl; start = refl; asked = refl; earlier = omega (arith, ints); some = λ s. s; cancelled = or-left e.cancelled (can_cancel h id e) }

ended-earlier : (b : Bool) (time end : ℤ) → (b ≡ true → time <ℤ end) → (if b then time else end) ≤ℤ end
ended-earlier true time end k = let l = k refl in omega (arith, ints)
ended-earlier false time end k = omega (arith, ints)

ended-past : (b : Bool) (start time end : ℤ) → (b ≡ true → start <ℤ time) → start <ℤ end → start <ℤ (if b then time else end)
ended-past true start time end k s = k refl
ended-past false start time end k s = s

pub end-shrinks : (h : Option ℤ) (id : ℕ) (time : ℤ) (e : LineEvent) → Shrinks e (end_by h id time e)
end-shrinks h id time e = record {
  id = refl;
  start = refl;
  asked = refl;
  cancelled = λ c. c;
  earlier = ended-earlier (can_end h id time e) time e.end (λ can. (can_end-parts h id time e can).earlier);
  some = ended-past (can_end h id time e) e.start time e.end (λ can. (can_end-parts h id time e can).past);
}

pub stands-back : (h : Option ℤ) (e after : LineEvent) → Shrinks e after → stands h after ≡ true → stands h e ≡ true
stands-back h e after s t = before-more h (after.end +ℤ pos 900000) (e.end +ℤ pos 900000) t (omega (arith, ints, s.earlier))

count-map : (h : Option ℤ) (f : LineEvent → LineEvent) → ((e : LineEvent) → Shrinks e (f e)) → (es : List LineEvent) → count h (map f es) ≤ count h es
count-map h f shrinks [] = omega arith
count-map h f shrinks (e ∷ es) =
    let rest = count-map h f shrinks es in
    by_test (stands h (f e))
    (λ a. let b = stands-back h e (f e) (shrinks e) a in simp (a, b) (omega (arith, rest)))
    (λ a. by_test (stands h e) (λ b. simp (a, b) (omega (arith, rest))) (λ b. simp (a, b) (omega (arith, rest))))

pub orderly-map : (h : Option ℤ) (f : LineEvent → LineEvent) → ((e : LineEvent) → Shrinks e (f e)) → (es : List LineEvent) → Orderly h es → Orderly h (map f es)
orderly-map h f shrinks es o = record {
  some = λ x i. let r = from x i in let s = r.3 in let t = o.some r.0 r.1 in omega (arith, ints, s.some t, s.start);
  whole = λ x i. let r = from x i in let s = r.3 in let t = o.whole r.0 r.1 in omega (arith, ints, t, s.earlier, s.asked);
  same = λ x y i j is. let r = from x i in let q = from y j in
      let e = o.same r.0 q.0 r.1 q.1 (sym r.3.start ∙ is ∙ q.3.start) in r.2 ∙ ap f e ∙ sym q.2;
  apart = λ x y i j other. let r = from x i in let q = from y j in
      still r.0 q.0 x y r.3 q.3 (o.apart r.0 q.0 r.1 q.1 (λ is. other (r.3.start ∙ is ∙ sym q.3.start)));
  ids = λ x y i j s t is. let r = from x i in let q = from y j in
      r.3.start ∙ o.ids r.0 q.0 r.1 q.1 (stands-back h r.0 x r.3 s) (stands-back h q.0 y q.3 t) (sym r.3.id ∙ is ∙ q.3.id) ∙ sym q.3.start;
  distinct = distinct-map f (λ e. (shrinks e).start) es o.distinct;
  room = let c = count-map h f shrinks es in let l = o.room in omega arith;
}
  where
    from : (x : LineEvent) → In x (map f es) → (e : LineEvent) × In e es × (x ≡ f e) × Shrinks e x
    from x i = let r = In-mapped f x es i in (r.0, r.1, r.2, subst (λ z. Shrinks r.0 z) (sym r.2) (shrinks r.0))

    still : (a b x y : LineEvent) → Shrinks a x → Shrinks b y → (a.end ≤ℤ b.start) ⊎ (b.end ≤ℤ a.start) → (x.end ≤ℤ y.start) ⊎ (y.end ≤ℤ x.start)
    still a b x y s t (inl l) = inl (omega (arith, ints, l, s.earlier, t.start))
    still a b x y s t (inr l) = inr (omega (arith, ints, l, t.earlier, s.start))

count-passed : (h later : Option ℤ) → Rises h later → (es : List LineEvent) → count later es ≤ count h es
count-passed h later r [] = omega arith
count-passed h later r (e ∷ es) =
    let rest = count-passed h later r es in
    by_test (stands later e)
    (λ a. let b = before-back h later (e.end +ℤ pos 900000) r a in simp (a, b) (omega (arith, rest)))
    (λ a. by_test (stands h e) (λ b. simp (a, b) (omega (arith, rest))) (λ b. simp (a, b) (omega (arith, rest))))

pub orderly-passed : (h later : Option ℤ) → Rises h later → (es : List LineEvent) → Orderly h es → Orderly later es
orderly-passed h later r es o = record {
  some = o.some;
  whole = o.whole;
  same = o.same;
  apart = o.apart;
  distinct = o.distinct;
  ids = λ x y i j s t is. o.ids x y i j (before-back h later _ r s) (before-back h later _ r t) is;
  room = let c = count-passed h later r es in let l = o.room in omega arith;
}

-- a new event meets none that was there
bars-not : (s a b : Bool) → (s && (a && b)) ≡ false → s ≡ true → (a ≡ false) ⊎ (b ≡ false)
bars-not true true b is t = inr is
bars-not true false b is t = inl refl
bars-not false a b is t = cc

pub clear-of : (h : Option ℤ) (id : ℕ) (start end : ℤ) (es : List LineEvent) → CanStart h id start end es → (y : LineEvent) → In y es → (end ≤ℤ y.start) ⊎ (y.end ≤ℤ start)
clear-of h id start end es can y i =
    by_test (stands h y)
    (λ s. split (bars-not (stands h y) (int_lt start y.end) (int_lt y.start end) (any-false (bars h start end) y es can.free i) s))
    (λ s. inr (forgotten-before h y.end start s can.ahead))
  where
    split : (int_lt start y.end ≡ false) ⊎ (int_lt y.start end ≡ false) → (end ≤ℤ y.start) ⊎ (y.end ≤ℤ start)
    split (inl a) = inr (ge-test start y.end a)
    split (inr b) = inl (ge-test y.start end b)

-- an interval may be taken beside these events
pub record Clear (h : Option ℤ) (id : ℕ) (start end : ℤ) (es : List LineEvent) : Type 0 where
  pub clock : is_some h ≡ true
  pub ahead : before h start ≡ true
  pub some : start <ℤ end
  pub clear : (y : LineEvent) → In y es → (end ≤ℤ y.start) ⊎ (y.end ≤ℤ start)
  pub unused : (y : LineEvent) → In y es → stands h y ≡ true → y.id ≡ id → ⊥
  pub room : count h es < 32

pub clear-can : (h : Option ℤ) (id : ℕ) (start end : ℤ) (es : List LineEvent) → CanStart h id start end es → Clear h id start end es
clear-can h id start end es can = record {
  clock = can.clock;
  ahead = can.ahead;
  some = can.some;
  clear = clear-of h id start end es can;
  unused = λ y j t is. let a = is_of-is h id y t is in let b = any-false (is_of h id) y es can.unused j in let no : true ≡ false = sym a ∙ b in cc;
  room = let t = can.room in grind (arith, nat_tests);
}

-- and beside what is left of them
pub clear-map : (h : Option ℤ) (id : ℕ) (start end : ℤ) (f : LineEvent → LineEvent) → ((e : LineEvent) → Shrinks e (f e)) → (es : List LineEvent)
    → Clear h id start end es → Clear h id start end (map f es)
clear-map h id start end f shrinks es c = record {
  clock = c.clock;
  ahead = c.ahead;
  some = c.some;
  clear = λ y i. let r = from y i in still r.0 y r.2 (c.clear r.0 r.1);
  unused = λ y i t is. let r = from y i in c.unused r.0 r.1 (stands-back h r.0 y r.2 t) (sym r.2.id ∙ is);
  room = let n = count-map h f shrinks es in let l = c.room in omega arith;
}
  where
    from : (x : LineEvent) → In x (map f es) → (e : LineEvent) × In e es × Shrinks e x
    from x i = let r = In-mapped f x es i in (r.0, r.1, subst (λ z. Shrinks r.0 z) (sym r.2) (shrinks r.0))

    still : (a x : LineEvent) → Shrinks a x → (end ≤ℤ a.start) ⊎ (a.end ≤ℤ start) → (end ≤ℤ x.start) ⊎ (x.end ≤ℤ start)
    still a x s (inl l) = inl (omega (arith, ints, l, s.start))
    still a x s (inr l) = inr (omega (arith, ints, l, s.earlier))

pub orderly-clear : (h : Option ℤ) (id : ℕ) (start end : ℤ) (es : List LineEvent) → Clear h id start end es → Orderly h es → Orderly h (fresh id start end ∷ es)
orderly-clear h id start end es can o = record { some = some; whole = whole; same = same; apart = apart; ids = ids; distinct = (λ e i is. other e i is, o.distinct); room = room }
  where
    some : (x : LineEvent) → In x (fresh id start end ∷ es) → x.start <ℤ x.end
    some x (inl is) = subst (λ (z : LineEvent). z.start <ℤ z.end) (sym is) can.some
    some x (inr i) = o.some x i

    whole : (x : LineEvent) → In x (fresh id start end ∷ es) → x.end ≤ℤ x.asked
    whole x (inl is) = subst (λ (z : LineEvent). z.end ≤ℤ z.asked) (sym is) (omega (arith, ints))
    whole x (inr i) = o.whole x i

    other : (y : LineEvent) → In y es → y.start ≡ start → ⊥
    other y i is = split (can.clear y i)
      where
        split : (end ≤ℤ y.start) ⊎ (y.end ≤ℤ start) → ⊥
        split (inl l) = let a = can.some in omega (arith, ints)
        split (inr l) = let a = o.some y i in omega (arith, ints)

    same : (x y : LineEvent) → In x (fresh id start end ∷ es) → In y (fresh id start end ∷ es) → x.start ≡ y.start → x ≡ y
    same x y (inl is) (inl so) e = is ∙ sym so
    same x y (inl is) (inr j) e = absurd (other y j (sym e ∙ ap (λ (z : LineEvent). z.start) is))
    same x y (inr i) (inl so) e = absurd (other x i (e ∙ ap (λ (z : LineEvent). z.start) so))
    same x y (inr i) (inr j) e = o.same x y i j e

    turn : (x y : LineEvent) → x ≡ fresh id start end → (end ≤ℤ y.start) ⊎ (y.end ≤ℤ start) → (x.end ≤ℤ y.start) ⊎ (y.end ≤ℤ x.start)
    turn x y is (inl l) = inl (subst (λ (z : LineEvent). z.end ≤ℤ y.start) (sym is) l)
    turn x y is (inr l) = inr (subst (λ (z : LineEvent). y.end ≤ℤ z.start) (sym is) l)

    swap : (a b : LineEvent) → (a.end ≤ℤ b.start) ⊎ (b.end ≤ℤ a.start) → (b.end ≤ℤ a.start) ⊎ (a.end ≤ℤ b.start)
    swap a b (inl l) = inr l
    swap a b (inr l) = inl l

    apart : (x y : LineEvent) → In x (fresh id start end ∷ es) → In y (fresh id start end ∷ es) → (x.start ≡ y.start → ⊥) → (x.end ≤ℤ y.start) ⊎ (y.end ≤ℤ x.start)
    apart x y (inl is) (inl so) differ = absurd (differ (ap (λ (z : LineEvent). z.start) (is ∙ sym so)))
    apart x y (inl is) (inr j) differ = turn x y is (can.clear y j)
    apart x y (inr i) (inl so) differ = swap y x (turn y x so (can.clear x i))
    apart x y (inr i) (inr j) differ = o.apart x y i j differ

    ids : (x y : LineEvent) → In x (fresh id start end ∷ es) → In y (fresh id start end ∷ es) → stands h x ≡ true → stands h y ≡ true → x.id ≡ y.id → x.start ≡ y.start
    ids x y (inl is) (inl so) s t e = ap (λ (z : LineEvent). z.start) (is ∙ sym so)
    ids x y (inl is) (inr j) s t e = absurd (can.unused y j t (sym e ∙ ap (λ (z : LineEvent). z.id) is))
    ids x y (inr i) (inl so) s t e = absurd (can.unused x i s (e ∙ ap (λ (z : LineEvent). z.id) so))
    ids x y (inr i) (inr j) s t e = o.ids x y i j s t e

    room : count h (fresh id start end ∷ es) ≤ 32
    room =
        let l = can.room in
        by_test (stands h (fresh id start end)) (λ s. simp s (omega (arith, l))) (λ s. simp s (omega (arith, l)))

pub orderly-fresh : (h : Option ℤ) (id : ℕ) (start end : ℤ) (es : List LineEvent) → CanStart h id start end es → Orderly h es → Orderly h (fresh id start end ∷ es)
orderly-fresh h id start end es can o = orderly-clear h id start end es (clear-can h id start end es can) o

-- without the newest
pub orderly-tail : (h : Option ℤ) (e : LineEvent) (es : List LineEvent) → Orderly h (e ∷ es) → Orderly h es
orderly-tail h e es o = record {
  some = λ x i. o.some x (inr i);
  whole = λ x i. o.whole x (inr i);
  same = λ x y i j. o.same x y (inr i) (inr j);
  apart = λ x y i j. o.apart x y (inr i) (inr j);
  ids = λ x y i j. o.ids x y (inr i) (inr j);
  distinct = o.distinct.1;
  room = let l = o.room in by_test (stands h e) (λ s. let m = simp s at l in omega (arith, m)) (λ s. let m = simp s at l in m);
}

pub orderly-none : Orderly None []
orderly-none = record {
  some = λ x i. absurd i;
  whole = λ x i. absurd i;
  same = λ x y i. absurd i;
  apart = λ x y i. absurd i;
  ids = λ x y i. absurd i;
  distinct = tt;
  room = omega arith;
}

pub orderly_step : (s : Turn) (past : List Turn) → MayCome s past → Orderly (high past) (events past) → Orderly (high (s ∷ past)) (events (s ∷ past))
orderly_step (Started id start end) past m o =
    by_test (can_start (high past) id start end (events past))
    (λ can. simp can (orderly-fresh (high past) id start end (events past) (can_start-parts _ _ _ _ _ can) o))
    (λ can. simp can o)
orderly_step (Cancelled id) past m o = orderly-map (high past) (cancel_by (high past) id) (cancel-shrinks (high past) id) (events past) o
orderly_step (Ended id time) past m o = orderly-map (high past) (end_by (high past) id time) (end-shrinks (high past) id time) (events past) o
orderly_step (Passed h) past m o = orderly-passed (high past) h m (events past) o

pub orderly : (all : List Turn) → MayAllCome all → Orderly (high all) (events all)
orderly [] s = orderly-none
orderly (x ∷ past) s = orderly_step x past s.0 (orderly past s.1)
