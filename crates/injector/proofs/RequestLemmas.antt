-- Requests by the table and by the list of events.
use Rattle.std.proofs.Common.{◌≡◌, ℕ, ◌+◌, ◌*◌, ◌%◌, ◌^◌, ◌<◌, ◌≤◌, ◌==◌, Bool, true, false, not, ◌&&◌, cond, List, [], ◌∷◌, ◌++◌, refl, ap, sym, ◌∙◌, subst, arith}
use Rattle.std.specs.Prelude.{ℤ, pos, negsuc, ◌+ℤ◌, ◌-ℤ◌, ◌≤ℤ◌, int_lt, int_le, unsigned_abs, filter, find, Option, None, Some, option_map, Result, Ok, Err, OnErr}
use Rattle.std.specs.List.{list_any}
use Rattle.std.specs.Ordering.{int_eq}
use Rattle.std.proofs.lemmas.Int.{ints}
use Rattle.std.proofs.lemmas.Bool.Decides.{nat_tests}
use Rattle.pes_time.specs.Line.{signed, ring_of, lift, place}
use Rattle.scte104_codec.specs.declared.requests.SpliceRequest.{SpliceRequest}
use Rattle.event_table.specs.declared.event.Event.{Event}
use Rattle.event_table.specs.declared.table.Table.{Table}
use Rattle.event_table.specs.declared.table.Armed.{Armed}
use Rattle.event_table.specs.declared.table.Armed.TheVariants.{New, Same}
use Rattle.event_table.specs.declared.table.ArmRefusal.{ArmRefusal}
use Rattle.event_table.specs.declared.table.ArmRefusal.TheVariants as arm_refusal
use Rattle.event_table.specs.declared.table.CancelRefusal.{CancelRefusal}
use Rattle.event_table.specs.declared.table.CancelRefusal.TheVariants as cancel_refusal
use Rattle.event_table.specs.declared.table.ShortenRefusal.{ShortenRefusal}
use Rattle.event_table.specs.declared.table.ShortenRefusal.TheVariants as shorten_refusal
use Rattle.event_table.specs.Rings.{CanAdvance}
use Rattle.event_table.specs.Standing.{Standing, on_line, end_of, forgotten_at, has_id, is_full, meets, repeats, arm_answer, cancel_answer, cancel_answer_of, shorten_answer, shorten_answer_of, with_first, with_cancelled, with_end, ending_at, cancelled_one, still_standing, IsTimeAt, stands, is_of}
use Rattle.event_table.specs.Tables.{StandsFor, high_time_of}
use Rattle.event_table.proofs.TimeLemmas.{ring-plus, signed-range}
use Rattle.injector.specs.declared.asked.ServedRequest.{ServedRequest}
use Rattle.injector.specs.declared.refusal.Refusal.{Refusal}
use Rattle.injector.specs.declared.refusal.Refusal.TheVariants.{NoClock, InUse, Full, Overlap, NoSuchEvent, TooLate, BadEnd}
use Rattle.scte104_codec.specs.Reading.{MessageReading, multiple, Multiple}
use Rattle.injector.specs.Asking.{is_start, asked_of_multiple, asked_of}
use Rattle.injector.specs.Verdicts.{time_at, start_event, event_on_ring, start_verdict, end_verdict, end_verdict_at, cancel_verdict, cancel_verdict_at, verdict_of, with_start, ended, changed, after, after_by}
use Rattle.injector.specs.Turns.{with_asked}
use Rattle.injector.proofs.ListLemmas.{filter-twice, filter-push, with_first-filter, any-mono}

-- a time so many ticks past the high time
later-place : (h : ℤ) (n : ℕ) → n ≤ 2 ^ 29 → lift h ((ring_of h + n) % 2 ^ 33) ≡ h +ℤ pos n
later-place h n small =
    let way : signed (ring_of (h +ℤ pos n)) (ring_of h) ≡ (h +ℤ pos n) -ℤ h = signed-range (h +ℤ pos n) h (omega (arith, ints)) (omega (arith, ints)) in
    rw (ring-plus h n, way) (omega (arith, ints))

pre_roll-small : (ms : ℕ) → ms < 65536 → 90 * ms ≤ 2 ^ 29
pre_roll-small ms fits = omega arith

-- the high time on the line, where there is one on the ring
pub record OnLine (latest : Option ℤ) (high : ℕ) : Type 0 where
  pub time : ℤ
  pub is : latest ≡ Some time
  pub ring : high ≡ ring_of time

pub on-line : {T : Type 0} (t : Table T) (latest : Option ℤ) (standing : List Standing) (high : ℕ) → high_time_of t ≡ Some high → StandsFor t latest standing → OnLine latest high
on-line t None standing high is stands = absurd (let no : Some high ≡ None = sym is ∙ stands.high in cc)
on-line t (Some h) standing high is stands = let same : Some high ≡ Some (ring_of h) = sym is ∙ stands.high in record { time = h; is = refl; ring = cc }

pub time-place : (latest : Option ℤ) (high : ℕ) (o : OnLine latest high) (r : SpliceRequest) → r.pre_roll_time < 65536
    → place latest ((high + 90 * r.pre_roll_time) % 2 ^ 33) ≡ time_at o.time r
time-place latest high o r fits = rw (o.is, o.ring) (later-place o.time (90 * r.pre_roll_time) (pre_roll-small r.pre_roll_time fits))

-- the same list by another name
pub restated : {T : Type 0} (t : Table T) (latest : Option ℤ) (xs ys : List Standing) → xs ≡ ys → StandsFor t latest xs → StandsFor t latest ys
restated t latest xs ys same stands_as_xs = subst (λ zs. StandsFor t latest zs) same stands_as_xs

-- CANCELS
abbrev pub told_cancel : Result (Unit {0}) CancelRefusal → Result (Unit {0}) Refusal
told_cancel (Ok u) = Ok tt
told_cancel (Err cancel_refusal.NoSuchEvent) = Err NoSuchEvent
told_cancel (Err cancel_refusal.TooLate) = Err TooLate

pub cancel-told : (latest : Option ℤ) (standing : List Standing) (r : SpliceRequest) → told_cancel (cancel_answer latest standing r.splice_event_id) ≡ cancel_verdict latest standing r
cancel-told latest standing r = by (find (has_id r.splice_event_id) standing)
  where
    begun : (b : Bool) → told_cancel (cond b (Err cancel_refusal.TooLate) (Ok tt)) ≡ cond b (Err TooLate) (Ok tt)
    begun true = refl
    begun false = refl

    by : (o : Option Standing) → told_cancel (cancel_answer_of latest o) ≡ cancel_verdict_at latest o
    by None = refl
    by (Some s) = elim latest as (λ l. told_cancel (cancel_answer_of l (Some s)) ≡ cancel_verdict_at l (Some s)) [ None ↦ refl | Some h ↦ begun (int_le s.start h) ]

-- ENDS
abbrev pub told_end : Result Armed ShortenRefusal → Result (Unit {0}) Refusal
told_end (Ok New) = Ok tt
told_end (Ok Same) = Err BadEnd
told_end (Err shorten_refusal.NoSuchEvent) = Err NoSuchEvent
told_end (Err shorten_refusal.BadEnd) = Err BadEnd

end-tests : (ahead cancelled same past below : Bool) → (same ≡ true → below ≡ false)
    → told_end (cond (not ahead) (Err shorten_refusal.BadEnd) (cond cancelled (Err shorten_refusal.BadEnd) (cond same (Ok Same) (cond (past && below) (Ok New) (Err shorten_refusal.BadEnd)))))
    ≡ cond (not cancelled && (past && (ahead && below))) (Ok tt) (Err BadEnd)
end-tests true true same past below h = refl
end-tests true false true true true h = absurd (let no : true ≡ false = h refl in cc)
end-tests true false true true false h = refl
end-tests true false true false below h = refl
end-tests true false false true true h = refl
end-tests true false false true false h = refl
end-tests true false false false below h = refl
end-tests false true same past below h = refl
end-tests false false same true below h = refl
end-tests false false same false below h = refl

ahead-is : (h : ℤ) (n : ℕ) → n ≤ 2 ^ 29 → (int_lt h (h +ℤ pos n) && int_le (h +ℤ pos n) (h +ℤ pos (2 ^ 29))) ≡ int_lt h (h +ℤ pos n)
ahead-is h n small = grind (arith, ints)

same-not_below : (a b : ℤ) → int_eq a b ≡ true → int_lt a b ≡ false
same-not_below a b same = grind (arith, ints)

end-told : (h : ℤ) (standing : List Standing) (r : SpliceRequest) → r.pre_roll_time < 65536
    → told_end (shorten_answer (Some h) standing r.splice_event_id (time_at h r)) ≡ end_verdict (Some h) standing r
end-told h standing r fits = by (find (has_id r.splice_event_id) standing)
  where
    by : (o : Option Standing) → told_end (shorten_answer_of (Some h) (time_at h r) o) ≡ end_verdict_at (Some h) o r
    by None = refl
    by (Some s) =
        rw (ahead-is h (90 * r.pre_roll_time) (pre_roll-small r.pre_roll_time fits))
        (end-tests (int_lt h (time_at h r)) s.cancelled (int_eq (time_at h r) (end_of s)) (int_lt s.start (time_at h r)) (int_lt (time_at h r) (end_of s)) (same-not_below (time_at h r) (end_of s)))

pub end-answer : (latest : Option ℤ) (standing : List Standing) (high : ℕ) (o : OnLine latest high) (r : SpliceRequest) (end : ℕ) (answer : Result Armed ShortenRefusal) → r.pre_roll_time < 65536
    → end ≡ (high + 90 * r.pre_roll_time) % 2 ^ 33 → answer ≡ shorten_answer latest standing r.splice_event_id (place latest end) → told_end answer ≡ end_verdict latest standing r
end-answer latest standing high o r end answer fits end_is is =
    ap told_end (is ∙ ap (λ t. shorten_answer latest standing r.splice_event_id t) (ap (place latest) end_is ∙ time-place latest high o r fits))
    ∙ subst (λ l. told_end (shorten_answer l standing r.splice_event_id (time_at o.time r)) ≡ end_verdict l standing r) (sym o.is) (end-told o.time standing r fits)

pub ended-is : (latest : Option ℤ) (standing : List Standing) (high : ℕ) (o : OnLine latest high) (r : SpliceRequest) (end : ℕ) → r.pre_roll_time < 65536
    → end ≡ (high + 90 * r.pre_roll_time) % 2 ^ 33 → with_end r.splice_event_id (place latest end) standing ≡ ended latest (has_id r.splice_event_id) standing r
ended-is latest standing high o r end fits end_is =
    ap (λ t. with_end r.splice_event_id t standing) (ap (place latest) end_is ∙ time-place latest high o r fits)
    ∙ subst (λ l. with_end r.splice_event_id (time_at o.time r) standing ≡ ended l (has_id r.splice_event_id) standing r) (sym o.is) refl

-- before the first time no event stands, so none can end
pub end-no_time : {T : Type 0} (t : Table T) (latest : Option ℤ) (standing : List Standing) (r : SpliceRequest) → high_time_of t ≡ None → StandsFor t latest standing
    → Err NoSuchEvent ≡ end_verdict latest standing r
end-no_time t (Some h) standing r is stands = absurd (let no : None ≡ Some (ring_of h) = sym is ∙ stands.high in cc)
end-no_time t None [] r is stands = refl
end-no_time t None (s ∷ standing) r is stands = absurd (stands.within 0 s (omega arith))

-- STARTS
abbrev pub told_start : Result Armed ArmRefusal → Result (Unit {0}) Refusal
told_start (Ok New) = Ok tt
told_start (Ok Same) = Err InUse
told_start (Err arm_refusal.InUse) = Err InUse
told_start (Err arm_refusal.Full) = Err Full
told_start (Err arm_refusal.Overlap) = Err Overlap

start-tests : (again used full meet : Bool) → (again ≡ true → used ≡ true)
    → told_start (cond again (Ok Same) (cond used (Err arm_refusal.InUse) (cond full (Err arm_refusal.Full) (cond meet (Err arm_refusal.Overlap) (Ok New)))))
    ≡ cond used (Err InUse) (cond full (Err Full) (cond meet (Err Overlap) (Ok tt)))
start-tests true true full meet h = refl
start-tests true false full meet h = absurd (let no : false ≡ true = h refl in cc)
start-tests false true full meet h = refl
start-tests false false true meet h = refl
start-tests false false false true h = refl
start-tests false false false false h = refl

and-first : (a b : Bool) → (a && b) ≡ true → a ≡ true
and-first true b is = refl
and-first false b is = is

repeats-id : (a b : Standing) → repeats a b ≡ true → has_id a.id b ≡ true
repeats-id a b is =
    let same : (a.id == b.id) ≡ true = and-first _ _ (and-first _ _ (and-first _ _ is)) in
    grind (arith, nat_tests)

start-told : (h : ℤ) (standing : List Standing) (r : SpliceRequest) → told_start (arm_answer standing (start_event h r)) ≡ start_verdict (Some h) standing r
start-told h standing r =
    start-tests (list_any (repeats (start_event h r)) standing) (list_any (has_id r.splice_event_id) standing) (is_full standing) (list_any (meets (start_event h r)) standing)
    (any-mono (repeats (start_event h r)) (has_id r.splice_event_id) (λ s is. repeats-id (start_event h r) s is) standing)

event-line : (latest : Option ℤ) (high : ℕ) (o : OnLine latest high) (r : SpliceRequest) → r.pre_roll_time < 65536 → on_line latest (event_on_ring high r) ≡ start_event o.time r
event-line latest high o r fits = ap (λ t. at t) (time-place latest high o r fits)
  where
    at : ℤ → Standing
    at t = record { id = r.splice_event_id; start = t; length = 9000 * r.break_duration; asked = 9000 * r.break_duration; program = r.unique_program_id; cancelled = false }

pub start-answer : (latest : Option ℤ) (standing : List Standing) (high : ℕ) (o : OnLine latest high) (r : SpliceRequest) (event : Event) (answer : Result Armed ArmRefusal) → r.pre_roll_time < 65536
    → event ≡ event_on_ring high r → answer ≡ arm_answer standing (on_line latest event) → told_start answer ≡ start_verdict latest standing r
start-answer latest standing high o r event answer fits event_is is =
    ap told_start (is ∙ ap (arm_answer standing) (ap (on_line latest) event_is ∙ event-line latest high o r fits))
    ∙ start-told o.time standing r ∙ ap (λ l. start_verdict l standing r) (sym o.is)

pub started-is : (latest : Option ℤ) (standing : List Standing) (high : ℕ) (o : OnLine latest high) (r : SpliceRequest) (event : Event) → r.pre_roll_time < 65536
    → event ≡ event_on_ring high r → standing ++ on_line latest event ∷ [] ≡ with_start latest standing r
started-is latest standing high o r event fits event_is =
    ap (λ s. standing ++ s ∷ []) (ap (on_line latest) event_is ∙ event-line latest high o r fits) ∙ ap (λ l. with_start l standing r) (sym o.is)

pub start-no_time : {T : Type 0} (t : Table T) (latest : Option ℤ) (standing : List Standing) (r : SpliceRequest) → high_time_of t ≡ None → StandsFor t latest standing
    → Err NoClock ≡ start_verdict latest standing r
start-no_time t (Some h) standing r is stands = absurd (let no : None ≡ Some (ring_of h) = sym is ∙ stands.high in cc)
start-no_time t None standing r is stands = refl

-- a cancel that was taken, or refused
pub after-cancel : {T : Type 0} (t t' : Table T) (latest : Option ℤ) (standing : List Standing) (r : SpliceRequest) (verdict : Result (Unit {0}) Refusal)
    → is_start r ≡ false → (r.splice_insert_type == 3) ≡ false → verdict ≡ cancel_verdict latest standing r
    → (verdict ≡ Ok tt → StandsFor t' latest (with_cancelled r.splice_event_id standing)) → OnErr verdict (t' ≡ t) → StandsFor t latest standing
    → StandsFor t' latest (after latest standing r (verdict_of latest standing r))
after-cancel t t' latest standing r verdict not_start not_end is taken kept stands =
    rw (not_start, not_end) (subst (λ v. StandsFor t' latest (after latest standing r v)) is (by verdict taken kept))
  where
    by : (v : Result (Unit {0}) Refusal) → (v ≡ Ok tt → StandsFor t' latest (with_cancelled r.splice_event_id standing)) → OnErr v (t' ≡ t)
        → StandsFor t' latest (after latest standing r v)
    by (Ok u) taken kept = rw (not_start, not_end) (taken refl)
    by (Err e) taken kept = rw kept stands

-- ALL EVENTS and those that stand
pub new-stands : (h : ℤ) (a b : ℕ) → int_lt h (((h +ℤ pos a) +ℤ pos b) +ℤ pos 900000) ≡ true
new-stands h a b = grind (arith, ints)

pub ended-stands : (h : ℤ) (n : ℕ) (start : ℤ) → int_lt h ((start +ℤ pos (unsigned_abs ((h +ℤ pos n) -ℤ start))) +ℤ pos 900000) ≡ true
ended-stands h n start = by ((h +ℤ pos n) -ℤ start) refl
  where
    by : (way : ℤ) → (h +ℤ pos n) -ℤ start ≡ way → int_lt h ((start +ℤ pos (unsigned_abs way)) +ℤ pos 900000) ≡ true
    by (pos k) is = grind (arith, ints)
    by (negsuc k) is = grind (arith, ints)

pub filter-asked : (latest : Option ℤ) (events : List Standing) (a : Result ServedRequest Refusal) → filter (stands latest) (with_asked latest events a) ≡ after_by latest (filter (stands latest) events) a
filter-asked latest events (Err e) = refl
filter-asked latest events (Ok a) = by (verdict_of latest (filter (stands latest) events) a.request)
  where
    start-case : (l : Option ℤ) → filter (stands l) (with_start l events a.request) ≡ with_start l (filter (stands l) events) a.request
    start-case None = refl
    start-case (Some h) = filter-push (stands (Some h)) (start_event h a.request) (new-stands h (90 * a.request.pre_roll_time) (9000 * a.request.break_duration)) events

    end-case : (l : Option ℤ) → filter (stands l) (ended l (is_of l a.request.splice_event_id) events a.request) ≡ ended l (has_id a.request.splice_event_id) (filter (stands l) events) a.request
    end-case None = refl
    end-case (Some h) = with_first-filter (stands (Some h)) (has_id a.request.splice_event_id) (ending_at (time_at h a.request)) (λ s _. ended-stands h (90 * a.request.pre_roll_time) s.start) events

    cancel-stays : (l : Option ℤ) (s : Standing) → stands l s ≡ true → stands l (cancelled_one s) ≡ true
    cancel-stays None s is = refl
    cancel-stays (Some h) s is = is

    cancel-case : filter (stands latest) (with_first (is_of latest a.request.splice_event_id) cancelled_one events) ≡ with_first (has_id a.request.splice_event_id) cancelled_one (filter (stands latest) events)
    cancel-case = with_first-filter (stands latest) (has_id a.request.splice_event_id) cancelled_one (cancel-stays latest) events

    kinds : (b c : Bool)
        → filter (stands latest) (cond b (with_start latest events a.request) (cond c (ended latest (is_of latest a.request.splice_event_id) events a.request) (with_first (is_of latest a.request.splice_event_id) cancelled_one events)))
        ≡ cond b (with_start latest (filter (stands latest) events) a.request) (cond c (ended latest (has_id a.request.splice_event_id) (filter (stands latest) events) a.request) (with_first (has_id a.request.splice_event_id) cancelled_one (filter (stands latest) events)))
    kinds true c = start-case latest
    kinds false true = end-case latest
    kinds false false = cancel-case

    by : (v : Result (Unit {0}) Refusal) → filter (stands latest) (changed latest (is_of latest a.request.splice_event_id) events a.request v) ≡ after latest (filter (stands latest) events) a.request v
    by (Ok u) = kinds (is_start a.request) (a.request.splice_insert_type == 3)
    by (Err e) = refl

-- a higher time leaves fewer
pub filter-later : {T : Type 0} (t : Table T) (latest : Option ℤ) (p : ℕ) (later : ℤ) (standing events : List Standing) → CanAdvance (high_time_of t) p → StandsFor t latest standing
    → IsTimeAt latest p later → still_standing later (filter (stands latest) events) ≡ filter (stands (Some later)) events
filter-later t latest p later standing events can table is =
    filter-twice (stands (Some later)) (stands latest) (implies latest (subst (λ h. CanAdvance h p) table.high can) is) events
  where
    below : (h later end : ℤ) → h ≤ℤ later → int_lt later end ≡ true → int_lt h end ≡ true
    below h later end le lt = grind (arith, ints)

    implies : (l : Option ℤ) → CanAdvance (option_map ring_of l) p → IsTimeAt l p later → (s : Standing) → stands (Some later) s ≡ true → stands l s ≡ true
    implies None can is s lt = refl
    implies (Some h) can is s lt = let above = can.above in below h later (forgotten_at s) (omega (arith, ints)) lt

pub advanced-stands : {T : Type 0} (t t' : Table T) (latest : Option ℤ) (p : ℕ) (later : ℤ) (events : List Standing) → CanAdvance (high_time_of t) p → StandsFor t latest (filter (stands latest) events)
    → IsTimeAt latest p later → StandsFor t' (Some later) (still_standing later (filter (stands latest) events)) → StandsFor t' (Some later) (filter (stands (Some later)) events)
advanced-stands t t' latest p later events can stands_before is stands_after =
    restated t' (Some later) _ _ (filter-later t latest p later (filter (stands latest) events) events can stands_before is) stands_after

pub asked-stands : {T : Type 0} (t' : Table T) (latest : Option ℤ) (events : List Standing) (a : Result ServedRequest Refusal) → StandsFor t' latest (after_by latest (filter (stands latest) events) a)
    → StandsFor t' latest (filter (stands latest) (with_asked latest events a))
asked-stands t' latest events a after_stands = restated t' latest _ _ (sym (filter-asked latest events a)) after_stands

pub judged-stands : {T : Type 0} (t' : Table T) (latest : Option ℤ) (events : List Standing) (own index : ℕ) (m : Multiple) (reading : MessageReading) → reading ≡ multiple m → own ≡ index
    → StandsFor t' latest (after_by latest (filter (stands latest) events) (asked_of_multiple own m)) → StandsFor t' latest (filter (stands latest) (with_asked latest events (asked_of index reading)))
judged-stands t' latest events own index m reading is same after_stands =
    subst (λ x. StandsFor t' latest (filter (stands latest) (with_asked latest events (asked_of index x)))) (sym is)
    (asked-stands t' latest events (asked_of_multiple index m) (subst (λ i. StandsFor t' latest (after_by latest (filter (stands latest) events) (asked_of_multiple i m))) same after_stands))
