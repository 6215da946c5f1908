-- What is kept beside the events of a table, and the history that it stands for.
use Rattle.std.proofs.Common.{◌≡◌, ℕ, ◌*◌, ◌==◌, Bool, true, false, cond, List, [], ◌∷◌, ◌++◌, refl, ap, sym, ◌∙◌, subst, arith}
use Rattle.std.specs.Prelude.{ℤ, ◌-ℤ◌, int_lt, map, filter, All, Option, None, Some, option_map, Result, Ok, Err}
use Rattle.std.proofs.lemmas.Int.{ints}
use Rattle.std.proofs.lemmas.List.{map-append}
use Rattle.std.proofs.lemmas.List.Elements.{All-cons, All-head, All-tail, All-filter}
use Rattle.pes_time.specs.Line.{ring_of, signed}
use Rattle.event_table.specs.Rings.{CanAdvance}
use Rattle.event_table.specs.Standing.{Standing, forgotten_at, has_id, ending_at, cancelled_one, with_first, IsTimeAt, stands, is_of}
use Rattle.event_table.specs.declared.table.Table.{Table}
use Rattle.event_table.specs.Tables.{high_time_of, values_of}
use Rattle.event_table.proofs.ListLemmas.{map-map}
use Rattle.event_table.proofs.TimeLemmas.{signed-range, ring-only}
use Rattle.injector.specs.declared.asked.ServedRequest.{ServedRequest}
use Rattle.injector.specs.declared.refusal.Refusal.{Refusal}
use Rattle.injector.specs.declared.notes.Notes.{Notes}
use Rattle.injector.specs.declared.requests.Requests.{Requests}
use Rattle.injector.specs.Asking.{is_start, asked_of}
use Rattle.injector.specs.Verdicts.{time_at, start_event, verdict_of, with_start, ended, changed}
use Rattle.injector.specs.Turns.{Turn, Judged, Passed, greatest_in, events, standing, with_asked}
use Rattle.injector.specs.Senders.{Sender, is_none, chosen, tell, told_now, new_sender, with_event, begun, cut_short, with_judged, sender_stands, stands_by, events_in, with_request, noted_after, senders, standing_senders}
use Rattle.injector.specs.Noting.{notes_of, IsKept, LastIn, AreNoted}
use Rattle.unit_stream.specs.Clocks.{Rises}
use Rattle.injector.proofs.ListLemmas.{filter-twice, filter-push, with_first-filter}
use Rattle.injector.proofs.RequestLemmas.{new-stands, ended-stands}

-- ---- the events of senders

first-events : (test : Standing → Bool) (f : Standing → Standing) (xs : List Sender) → events_in (with_first (λ x. test x.event) (with_event f) xs) ≡ with_first test f (events_in xs)
first-events test f [] = refl
first-events test f (x ∷ xs) = step (test x.event) (first-events test f xs)
  where
    step : (b : Bool) → events_in (with_first (λ y. test y.event) (with_event f) xs) ≡ with_first test f (events_in xs)
        → events_in (cond b (with_event f x ∷ xs) (x ∷ with_first (λ y. test y.event) (with_event f) xs)) ≡ cond b (f x.event ∷ events_in xs) (x.event ∷ with_first test f (events_in xs))
    step true later = refl
    step false later = ap (λ es. x.event ∷ es) later

pub filter-events : (p : Standing → Bool) (xs : List Sender) → events_in (filter (λ x. p x.event) xs) ≡ filter p (events_in xs)
filter-events p [] = refl
filter-events p (x ∷ xs) = step (p x.event) (filter-events p xs)
  where
    step : (b : Bool) → events_in (filter (λ y. p y.event) xs) ≡ filter p (events_in xs)
        → events_in (cond b (x ∷ filter (λ y. p y.event) xs) (filter (λ y. p y.event) xs)) ≡ cond b (x.event ∷ filter p (events_in xs)) (filter p (events_in xs))
    step true later = ap (λ es. x.event ∷ es) later
    step false later = later

push-events : (xs : List Sender) (x : Sender) → events_in (xs ++ x ∷ []) ≡ events_in xs ++ x.event ∷ []
push-events xs x = map-append (λ (y : Sender). y.event) xs (x ∷ [])

-- an accepted request changes the events as it changes those of the list
accepted-events : (latest : Option ℤ) (test : Standing → Bool) (xs : List Sender) (a : ServedRequest) (v : Result (Unit {0}) Refusal)
    → events_in (with_judged latest (λ x. test x.event) xs a v) ≡ changed latest test (events_in xs) a.request v
accepted-events latest test xs a (Err e) = refl
accepted-events latest test xs a (Ok u) = kinds (is_start a.request) (a.request.splice_insert_type == 3)
  where
    start-case : (l : Option ℤ) → events_in (begun l xs a) ≡ with_start l (events_in xs) a.request
    start-case None = refl
    start-case (Some h) = push-events xs (new_sender h a)

    end-case : (l : Option ℤ) → events_in (cut_short l (λ x. test x.event) xs a) ≡ ended l test (events_in xs) a.request
    end-case None = refl
    end-case (Some h) = first-events test (ending_at (time_at h a.request)) xs

    kinds : (b c : Bool)
        → events_in (cond b (begun latest xs a) (cond c (cut_short latest (λ x. test x.event) xs a) (with_first (λ x. test x.event) (with_event cancelled_one) xs)))
        ≡ cond b (with_start latest (events_in xs) a.request) (cond c (ended latest test (events_in xs) a.request) (with_first test cancelled_one (events_in xs)))
    kinds true c = start-case latest
    kinds false true = end-case latest
    kinds false false = first-events test cancelled_one xs

request-events : (latest : Option ℤ) (xs : List Sender) (es : List Standing) (a : Result ServedRequest Refusal) → events_in xs ≡ es → events_in (with_request latest xs a) ≡ with_asked latest es a
request-events latest xs es (Err e) same = same
request-events latest xs es (Ok a) same =
    let test : Standing → Bool = is_of latest a.request.splice_event_id in
    accepted-events latest test xs a (verdict_of latest (events_in (filter (sender_stands latest) xs)) a.request)
    ∙ ap (λ fs. changed latest test (events_in xs) a.request (verdict_of latest fs a.request)) (filter-events (stands latest) xs)
    ∙ ap (λ fs. changed latest test fs a.request (verdict_of latest (filter (stands latest) fs) a.request)) same

tell-event : (latest later : Option ℤ) (x : Sender) → (tell latest later x).event ≡ x.event
tell-event latest later x = by (is_none (chosen x latest later))
  where
    by : (b : Bool) → (cond b x (told_now later x)).event ≡ x.event
    by true = refl
    by false = refl

tell-events : (latest later : Option ℤ) (xs : List Sender) → events_in (map (tell latest later) xs) ≡ events_in xs
tell-events latest later [] = refl
tell-events latest later (x ∷ xs) = ap (λ e. e ∷ events_in (map (tell latest later) xs)) (tell-event latest later x) ∙ ap (λ es. x.event ∷ es) (tell-events latest later xs)

-- THE EVENTS of the senders are the events
pub senders-events : (index : ℕ) (past : List Turn) → events_in (senders index past) ≡ events index past
senders-events index [] = refl
senders-events index (Judged m ∷ past) = request-events (greatest_in past) (senders index past) (events index past) (asked_of index m) (senders-events index past)
senders-events index (Passed later ∷ past) = tell-events (greatest_in past) later (senders index past) ∙ senders-events index past

pub standing-events : (index : ℕ) (past : List Turn) → events_in (standing_senders index past) ≡ standing index past
standing-events index past = filter-events (stands (greatest_in past)) (senders index past) ∙ ap (filter (stands (greatest_in past))) (senders-events index past)

-- ---- a packet

filter-told : (l latest later : Option ℤ) (xs : List Sender) → filter (sender_stands l) (map (tell latest later) xs) ≡ map (tell latest later) (filter (sender_stands l) xs)
filter-told l latest later [] = refl
filter-told l latest later (x ∷ xs) = ap (λ b. cond b (tell latest later x ∷ filter (sender_stands l) (map (tell latest later) xs)) (filter (sender_stands l) (map (tell latest later) xs))) (ap (stands l) (tell-event latest later x)) ∙ step (stands l x.event) (filter-told l latest later xs)
  where
    step : (b : Bool) → filter (sender_stands l) (map (tell latest later) xs) ≡ map (tell latest later) (filter (sender_stands l) xs)
        → cond b (tell latest later x ∷ filter (sender_stands l) (map (tell latest later) xs)) (filter (sender_stands l) (map (tell latest later) xs))
        ≡ map (tell latest later) (cond b (x ∷ filter (sender_stands l) xs) (filter (sender_stands l) xs))
    step true same = ap (λ ys. tell latest later x ∷ ys) same
    step false same = same

stands-later : (latest later : Option ℤ) → Rises latest later → (x : Sender) → sender_stands later x ≡ true → sender_stands latest x ≡ true
stands-later None later rises x is = refl
stands-later (Some h) None rises x is = absurd rises
stands-later (Some h) (Some l) rises x is = grind (arith, ints)

-- those that stand behind a packet, of those that stood before it
pub standing-told : (index : ℕ) (past : List Turn) (later : Option ℤ) → Rises (greatest_in past) later
    → standing_senders index (Passed later ∷ past) ≡ filter (sender_stands later) (map (tell (greatest_in past) later) (standing_senders index past))
standing-told index past later rises =
    filter-told later (greatest_in past) later (senders index past)
    ∙ ap (map (tell (greatest_in past) later)) (sym (filter-twice (sender_stands later) (sender_stands (greatest_in past)) (stands-later (greatest_in past) later rises) (senders index past)))
    ∙ sym (filter-told later (greatest_in past) later (standing_senders index past))

-- where the greatest time stays, all do
pub standing-stays : (index : ℕ) (past : List Turn) (later : Option ℤ) → greatest_in past ≡ later → standing_senders index (Passed later ∷ past) ≡ map (tell (greatest_in past) later) (standing_senders index past)
standing-stays index past later same =
    filter-told later (greatest_in past) later (senders index past) ∙ ap (λ l. map (tell (greatest_in past) later) (filter (sender_stands l) (senders index past))) (sym same)

pub told-events : (index : ℕ) (past : List Turn) (later : Option ℤ) → events_in (map (tell (greatest_in past) later) (standing_senders index past)) ≡ standing index past
told-events index past later = tell-events (greatest_in past) later (standing_senders index past) ∙ standing-events index past

-- ---- a message

filter-judged : (latest : Option ℤ) (xs : List Sender) (a : ServedRequest) (v : Result (Unit {0}) Refusal)
    → ((h : ℤ) (n m : ℕ) → stands (Some h) (start_event h a.request) ≡ true)
    → ((h : ℤ) (s : Standing) → stands (Some h) s ≡ true → stands (Some h) (ending_at (time_at h a.request) s) ≡ true)
    → filter (sender_stands latest) (with_judged latest (stands_by latest a.request.splice_event_id) xs a v) ≡ with_judged latest (λ x. has_id a.request.splice_event_id x.event) (filter (sender_stands latest) xs) a v
filter-judged latest xs a (Err e) new ends = refl
filter-judged latest xs a (Ok u) new ends = kinds (is_start a.request) (a.request.splice_insert_type == 3)
  where
    start-case : (l : Option ℤ) → filter (sender_stands l) (begun l xs a) ≡ begun l (filter (sender_stands l) xs) a
    start-case None = refl
    start-case (Some h) = filter-push (sender_stands (Some h)) (new_sender h a) (new h 0 0) xs

    end-case : (l : Option ℤ) → filter (sender_stands l) (cut_short l (stands_by l a.request.splice_event_id) xs a) ≡ cut_short l (λ x. has_id a.request.splice_event_id x.event) (filter (sender_stands l) xs) a
    end-case None = refl
    end-case (Some h) = with_first-filter (sender_stands (Some h)) (λ x. has_id a.request.splice_event_id x.event) (with_event (ending_at (time_at h a.request))) (λ x is. ends h x.event is) xs

    cancel-stays : (l : Option ℤ) (x : Sender) → sender_stands l x ≡ true → sender_stands l (with_event cancelled_one x) ≡ true
    cancel-stays None x is = refl
    cancel-stays (Some h) x is = is

    cancel-case : (l : Option ℤ) → filter (sender_stands l) (with_first (stands_by l a.request.splice_event_id) (with_event cancelled_one) xs)
        ≡ with_first (λ x. has_id a.request.splice_event_id x.event) (with_event cancelled_one) (filter (sender_stands l) xs)
    cancel-case l = with_first-filter (sender_stands l) (λ x. has_id a.request.splice_event_id x.event) (with_event cancelled_one) (cancel-stays l) xs

    kinds : (b c : Bool)
        → filter (sender_stands latest) (cond b (begun latest xs a) (cond c (cut_short latest (stands_by latest a.request.splice_event_id) xs a) (with_first (stands_by latest a.request.splice_event_id) (with_event cancelled_one) xs)))
        ≡ cond b (begun latest (filter (sender_stands latest) xs) a) (cond c (cut_short latest (λ x. has_id a.request.splice_event_id x.event) (filter (sender_stands latest) xs) a) (with_first (λ x. has_id a.request.splice_event_id x.event) (with_event cancelled_one) (filter (sender_stands latest) xs)))
    kinds true c = start-case latest
    kinds false true = end-case latest
    kinds false false = cancel-case latest

pub filter-request : (latest : Option ℤ) (xs : List Sender) (a : Result ServedRequest Refusal) → filter (sender_stands latest) (with_request latest xs a) ≡ noted_after latest (filter (sender_stands latest) xs) a
filter-request latest xs (Err e) = refl
filter-request latest xs (Ok a) = filter-judged latest xs a (verdict_of latest (events_in (filter (sender_stands latest) xs)) a.request) (λ h n m. new-stands h (90 * a.request.pre_roll_time) (9000 * a.request.break_duration)) (λ h s is. ended-stands h (90 * a.request.pre_roll_time) s.start)

-- ---- notes

first-notes : (test : Sender → Bool) (f : Standing → Standing) (xs : List Sender) → map notes_of (with_first test (with_event f) xs) ≡ map notes_of xs
first-notes test f [] = refl
first-notes test f (x ∷ xs) = step (test x) (first-notes test f xs)
  where
    step : (b : Bool) → map notes_of (with_first test (with_event f) xs) ≡ map notes_of xs
        → map notes_of (cond b (with_event f x ∷ xs) (x ∷ with_first test (with_event f) xs)) ≡ notes_of x ∷ map notes_of xs
    step true later = refl
    step false later = ap (λ ns. notes_of x ∷ ns) later

first-kept : (latest : Option ℤ) (test : Sender → Bool) (f : Standing → Standing) → ((s : Standing) → (f s).start ≡ s.start) → (xs : List Sender) → All (IsKept latest) xs → All (IsKept latest) (with_first test (with_event f) xs)
first-kept latest test f same [] all = all
first-kept latest test f same (x ∷ xs) all = step (test x) (first-kept latest test f same xs (All-tail (IsKept latest) x xs all))
  where
    here : IsKept latest x → IsKept latest (with_event f x)
    here k = record { avails = k.avails; last = subst (λ s. LastIn latest s x.last) (sym (same x.event)) k.last }

    step : (b : Bool) → All (IsKept latest) (with_first test (with_event f) xs) → All (IsKept latest) (cond b (with_event f x ∷ xs) (x ∷ with_first test (with_event f) xs))
    step true later = All-cons (IsKept latest) (with_event f x) xs (here (All-head (IsKept latest) x xs all)) (All-tail (IsKept latest) x xs all)
    step false later = All-cons (IsKept latest) x (with_first test (with_event f) xs) (All-head (IsKept latest) x xs all) later

noted-first : (old new : Requests) (latest : Option ℤ) (test : Sender → Bool) (f : Standing → Standing) (xs : List Sender) → ((s : Standing) → (f s).start ≡ s.start)
    → values_of new.table ≡ values_of old.table → AreNoted old latest xs → AreNoted new latest (with_first test (with_event f) xs)
noted-first old new latest test f xs same values n =
    record { notes = values ∙ n.notes ∙ sym (first-notes test f xs); kept = first-kept latest test f same xs n.kept }

-- an end or a cancel, taken or refused
pub noted-other : (old new : Requests) (latest : Option ℤ) (test : Sender → Bool) (xs : List Sender) (a : ServedRequest) (v : Result (Unit {0}) Refusal) → is_start a.request ≡ false
    → values_of new.table ≡ values_of old.table → AreNoted old latest xs → AreNoted new latest (with_judged latest test xs a v)
noted-other old new latest test xs a (Err e) other values n = record { notes = values ∙ n.notes; kept = n.kept }
noted-other old new latest test xs a (Ok u) other values n = rw other (kinds (a.request.splice_insert_type == 3))
  where
    end-case : (l : Option ℤ) → AreNoted old l xs → AreNoted new l (cut_short l test xs a)
    end-case None n = record { notes = values ∙ n.notes; kept = n.kept }
    end-case (Some h) n = noted-first old new (Some h) test (ending_at (time_at h a.request)) xs (λ s. refl) values n

    kinds : (c : Bool) → AreNoted new latest (cond c (cut_short latest test xs a) (with_first test (with_event cancelled_one) xs))
    kinds true = end-case latest n
    kinds false = noted-first old new latest test cancelled_one xs (λ s. refl) values n

-- ---- the ring

pub is-time : (latest : Option ℤ) (l : ℤ) → Rises latest (Some l) → IsTimeAt latest (ring_of l) l
is-time None l rises = refl
is-time (Some h) l rises =
    let above = rises.0 in
    let below = rises.1 in
    let way : signed (ring_of l) (ring_of h) ≡ l -ℤ h = signed-range l h (omega (arith, ints)) (omega (arith, ints)) in
    omega (arith, ints)

pub may-advance : (latest : Option ℤ) (l : ℤ) → Rises latest (Some l) → CanAdvance (option_map ring_of latest) (ring_of l)
may-advance None l rises = tt
may-advance (Some h) l rises =
    let above = rises.0 in
    let below = rises.1 in
    let way : signed (ring_of l) (ring_of h) ≡ l -ℤ h = signed-range l h (omega (arith, ints)) (omega (arith, ints)) in
    record { above = omega (arith, ints); below = omega (arith, ints) }

-- ---- the table, where the greatest time rises

-- the events that stand, each with its notes
abbrev pub in_pairs : List Sender → List (Standing × Notes)
in_pairs xs = map (λ (x : Sender). (x.event, notes_of x)) xs

pub pairs-events : (xs : List Sender) → map (λ (p : Standing × Notes). p.0) (in_pairs xs) ≡ events_in xs
pairs-events xs = map-map (λ (x : Sender). (x.event, notes_of x)) (λ (p : Standing × Notes). p.0) xs

pub pairs-notes : (xs : List Sender) → map (λ (p : Standing × Notes). p.1) (in_pairs xs) ≡ map notes_of xs
pairs-notes xs = map-map (λ (x : Sender). (x.event, notes_of x)) (λ (p : Standing × Notes). p.1) xs

pairs-filter : (later : ℤ) (xs : List Sender) → filter (λ (p : Standing × Notes). int_lt later (forgotten_at p.0)) (in_pairs xs) ≡ in_pairs (filter (sender_stands (Some later)) xs)
pairs-filter later [] = refl
pairs-filter later (x ∷ xs) = step (int_lt later (forgotten_at x.event)) (pairs-filter later xs)
  where
    step : (b : Bool) → filter (λ (p : Standing × Notes). int_lt later (forgotten_at p.0)) (in_pairs xs) ≡ in_pairs (filter (sender_stands (Some later)) xs)
        → cond b ((x.event, notes_of x) ∷ filter (λ (p : Standing × Notes). int_lt later (forgotten_at p.0)) (in_pairs xs)) (filter (λ (p : Standing × Notes). int_lt later (forgotten_at p.0)) (in_pairs xs))
        ≡ in_pairs (cond b (x ∷ filter (sender_stands (Some later)) xs) (filter (sender_stands (Some later)) xs))
    step true same = ap (λ ps. (x.event, notes_of x) ∷ ps) same
    step false same = same

pub noted-risen : (old new : Requests) (later : ℤ) (xs : List Sender) → AreNoted old (Some later) xs
    → (values_of old.table ≡ map (λ (p : Standing × Notes). p.1) (in_pairs xs) → values_of new.table ≡ map (λ (p : Standing × Notes). p.1) (filter (λ (p : Standing × Notes). int_lt later (forgotten_at p.0)) (in_pairs xs)))
    → AreNoted new (Some later) (filter (sender_stands (Some later)) xs)
noted-risen old new later xs n risen =
    record {
      notes = risen (n.notes ∙ sym (pairs-notes xs)) ∙ ap (map (λ (p : Standing × Notes). p.1)) (pairs-filter later xs) ∙ pairs-notes (filter (sender_stands (Some later)) xs);
      kept = All-filter (sender_stands (Some later)) (IsKept (Some later)) xs n.kept;
    }

pub restate-notes : (r : Requests) (latest : Option ℤ) (xs ys : List Sender) → xs ≡ ys → AreNoted r latest xs → AreNoted r latest ys
restate-notes r latest xs ys same n = subst (AreNoted r latest) same n

-- a time that the table may take is no fall
pub rises-by : {T : Type 0} (t : Table T) (latest : Option ℤ) (time : ℕ) (later : ℤ) → high_time_of t ≡ option_map ring_of latest → CanAdvance (high_time_of t) time → IsTimeAt latest time later → Rises latest (Some later)
rises-by t None time later same can is = tt
rises-by t (Some h) time later same can is =
    let next : CanAdvance (Some (ring_of h)) time = subst (λ x. CanAdvance x time) same can in
    let above = next.above in
    let below = next.below in
    (omega (arith, ints), omega (arith, ints))

-- a rise that stays at one place of the ring is none
pub same-time : (latest later : Option ℤ) → Rises latest later → option_map ring_of later ≡ option_map ring_of latest → latest ≡ later
same-time None None rises same = refl
same-time None (Some l) rises same = absurd (let no : Some (ring_of l) ≡ None = same in cc)
same-time (Some h) None rises same = absurd rises
same-time (Some h) (Some l) rises same =
    let above = rises.0 in
    let below = rises.1 in
    let ring : ring_of h ≡ ring_of l = cc in
    ap Some (ring-only h l (omega (arith, ints)) (omega (arith, ints)) ring)

pub some-line : (latest : Option ℤ) (p : ℕ) → option_map ring_of latest ≡ Some p → (l : ℤ) × (latest ≡ Some l) × (ring_of l ≡ p)
some-line None p is = absurd (let no : None ≡ Some p = is in cc)
some-line (Some l) p is = (l, refl, cc)
