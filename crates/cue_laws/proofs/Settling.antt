-- Settlement.
use Rattle.std.proofs.Common.{◌≡◌, ℕ, Bool, true, false, not, ◌&&◌, refl, sym, ap, ◌∙◌, List, [], ◌∷◌, Option, None, Some, arith, is_some, nat_lt}
use Rattle.std.specs.Prelude.{ℤ, ◌<ℤ◌, int_le, int_lt, map, if◌then◌else◌}
use Rattle.std.specs.List.{list_any}
use Rattle.std.proofs.lemmas.Int.{ints}
use Rattle.std.proofs.lemmas.Bool.{and_left, and_parts, not-true}
use Rattle.ts_packet.proofs.Cases.{by_test}
use Rattle.pes_time.proofs.IntLemmas.{lt-test, ge-test, lt-is}
use Rattle.cue_laws.specs.Events.{Turn, LineEvent, Started, Cancelled, Ended, Passed, high, before, events, taken, NeverFalls, holders, upon, covers, name_of, can_start, fresh, cancel_by, can_cancel, end_by, can_end, or_so, is_of, bars, count}
use Rattle.unit_stream.specs.Clocks.{Rises}
use Rattle.cue_laws.specs.Laws.{Settlement}

-- a time that is reached stays reached
pub reached_later : (h later : Option ℤ) (time : ℤ) → Rises h later → before h time ≡ false → before later time ≡ false
reached_later None later time r b = cc
reached_later (Some h) None time r b = absurd r
reached_later (Some h) (Some later) time r b = grind (arith, ints)

-- a change of events that keeps names and what holds the time keeps the holders
pub holders-map : (time : ℤ) (f : LineEvent → LineEvent) → ((e : LineEvent) → name_of (f e) ≡ name_of e) → ((e : LineEvent) → covers time (f e) ≡ covers time e)
    → (es : List LineEvent) → holders time (map f es) ≡ holders time es
holders-map time f names same [] = refl
holders-map time f names same (e ∷ es) =
    by_test (covers time e)
    (λ c. simp (same e, c, names e, holders-map time f names same es))
    (λ c. simp (same e, c, holders-map time f names same es))

le-false : (a b : ℤ) → b <ℤ a → int_le a b ≡ false
le-false a b is = grind (arith, ints)

-- a cancel bears on no time that is reached
cancel_off : (a b c : Bool) → (b ≡ true → c ≡ false) → (not (or_so a b) && c) ≡ (not a && c)
cancel_off true true c k = refl
cancel_off true false c k = refl
cancel_off false true c k = let n = k refl in cc
cancel_off false false c k = refl

covers-cancelled : (h : Option ℤ) (id : ℕ) (time : ℤ) → before h time ≡ false → (e : LineEvent) → covers time (cancel_by h id e) ≡ covers time e
covers-cancelled None id time b e = absurd (let no : true ≡ false = b in cc)
covers-cancelled (Some h) id time b e =
    cancel_off e.cancelled (can_cancel (Some h) id e) (int_le e.start time && int_lt time e.end)
    (λ can. let ahead = lt-test h e.start (and_parts (is_of (Some h) id e) (before (Some h) e.start) can).1 in let late = ge-test h time b in and_left _ _ (le-false e.start time (omega (arith, ints))))

end_off : (time end old : ℤ) (b : Bool) → (b ≡ true → (time <ℤ end) × (time <ℤ old)) → int_lt time (if b then end else old) ≡ int_lt time old
end_off time end old true k = let f = k refl in lt-is _ _ f.0 ∙ sym (lt-is _ _ f.1)
end_off time end old false k = refl

pub record CanEnd (h : Option ℤ) (id : ℕ) (end : ℤ) (e : LineEvent) : Type 0 where
  pub of : is_of h id e ≡ true
  pub uncancelled : e.cancelled ≡ false
  pub past : e.start <ℤ end
  pub ahead : before h end ≡ true
  pub earlier : end <ℤ e.end

pub can_end-parts : (h : Option ℤ) (id : ℕ) (end : ℤ) (e : LineEvent) → can_end h id end e ≡ true → CanEnd h id end e
can_end-parts h id end e can =
    let a = and_parts (is_of h id e) _ can in
    let b = and_parts (not e.cancelled) _ a.1 in
    let c = and_parts (int_lt e.start end) _ b.1 in
    let d = and_parts (before h end) _ c.1 in
    record { of = a.0; uncancelled = not-true _ b.0; past = lt-test _ _ c.0; ahead = d.0; earlier = lt-test _ _ d.1 }

covers-ended : (h : Option ℤ) (id : ℕ) (end time : ℤ) → before h time ≡ false → (e : LineEvent) → covers time (end_by h id end e) ≡ covers time e
covers-ended None id end time b e = absurd (let no : true ≡ false = b in cc)
covers-ended (Some h) id end time b e =
    ap (λ v. not e.cancelled && (int_le e.start time && v))
    (end_off time end e.end (can_end (Some h) id end e)
    (λ can. let f = can_end-parts (Some h) id end e can in let a = lt-test h end f.ahead in let l = ge-test h time b in (omega (arith, ints), omega (arith, ints, f.earlier))))

covers-fresh : (h : Option ℤ) (id : ℕ) (start end time : ℤ) → before h time ≡ false → before h start ≡ true → covers time (fresh id start end) ≡ false
covers-fresh None id start end time b s = absurd (let no : true ≡ false = b in cc)
covers-fresh (Some h) id start end time b s = grind (arith, ints)

pub record CanStart (h : Option ℤ) (id : ℕ) (start end : ℤ) (es : List LineEvent) : Type 0 where
  pub clock : is_some h ≡ true
  pub some : start <ℤ end
  pub ahead : before h start ≡ true
  pub unused : list_any (is_of h id) es ≡ false
  pub room : nat_lt (count h es) 32 ≡ true
  pub free : list_any (bars h start end) es ≡ false

pub can_start-parts : (h : Option ℤ) (id : ℕ) (start end : ℤ) (es : List LineEvent) → can_start h id start end es ≡ true → CanStart h id start end es
can_start-parts h id start end es can =
    let a = and_parts (is_some h) _ can in
    let b = and_parts (int_lt start end) _ a.1 in
    let c = and_parts (before h start) _ b.1 in
    let d = and_parts (not (list_any (is_of h id) es)) _ c.1 in
    let e = and_parts (nat_lt (count h es) 32) _ d.1 in
    record { clock = a.0; some = lt-test _ _ b.0; ahead = c.0; unused = not-true _ d.0; room = e.0; free = not-true _ e.1 }

pub settled_step : (h : Option ℤ) (s : Turn) (es : List LineEvent) (time : ℤ) → before h time ≡ false → holders time (taken h s es) ≡ holders time es
settled_step h (Started id start end) es time b =
    by_test (can_start h id start end es)
    (λ can. let off = covers-fresh h id start end time b (can_start-parts h id start end es can).ahead in simp (can, off))
    (λ can. simp can)
settled_step h (Cancelled id) es time b = holders-map time (cancel_by h id) (λ e. refl) (covers-cancelled h id time b) es
settled_step h (Ended id end) es time b = holders-map time (end_by h id end) (λ e. refl) (covers-ended h id end time b) es
settled_step h (Passed later) es time b = refl

-- of a run, without its last turn
pub falls_not : (s : Turn) (past : List Turn) → NeverFalls (s ∷ past) → NeverFalls past
falls_not (Started id start end) past n = n
falls_not (Cancelled id) past n = n
falls_not (Ended id end) past n = n
falls_not (Passed h) past n = n.1

pub reached_step : (s : Turn) (past : List Turn) (time : ℤ) → NeverFalls (s ∷ past) → before (high past) time ≡ false → before (high (s ∷ past)) time ≡ false
reached_step (Started id start end) past time n b = b
reached_step (Cancelled id) past time n b = b
reached_step (Ended id end) past time n b = b
reached_step (Passed h) past time n b = reached_later (high past) h time n.0 b

pub reached_upon : (past later : List Turn) (time : ℤ) → NeverFalls (upon later past) → before (high past) time ≡ false → before (high (upon later past)) time ≡ false
reached_upon past [] time n b = b
reached_upon past (s ∷ later) time n b = let m = falls_not s (upon later past) n in reached_step s (upon later past) time n (reached_upon past later time m b)

pub settlement : Settlement
settlement past [] time n b = refl
settlement past (s ∷ later) time n b =
    let m = falls_not s (upon later past) n in
    settled_step (high (upon later past)) s (events (upon later past)) time (reached_upon past later time m b) ∙ settlement past later time m b
