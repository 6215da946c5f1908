-- No cue is due between two rises of the greatest time, but for a request that was accepted.
use Rattle.std.proofs.Common.{◌≡◌, ℕ, ◌==◌, Bool, true, false, not, ◌&&◌, ◌||◌, cond, List, [], ◌∷◌, ◌++◌, refl, ap, sym, ◌∙◌, subst, arith}
use Rattle.std.specs.Prelude.{ℤ, ◌≤ℤ◌, is_ok, map, filter, All, Option, None, Some, Result, Ok, Err}
use Rattle.std.specs.Int.{int_max}
use Rattle.std.specs.List.{flat_map}
use Rattle.std.proofs.lemmas.Int.{ints}
use Rattle.std.proofs.lemmas.List.Elements.{All-nil, All-cons, All-head, All-tail, All-push, All-filter}
use Rattle.pes_time.specs.Line.{place}
use Rattle.scte104_codec.specs.Reading.{MessageReading, init, alive, other, multiple, bad}
use Rattle.unit_stream.specs.Times.{high as unit_high, begins_one, raised, stamp}
use Rattle.event_table.specs.Standing.{Standing, ending_at, cancelled_one, with_first}
use Rattle.event_table.specs.Standing.{IsWithin}
use Rattle.psi_tables.specs.declared.config.Config.{Config}
use Rattle.scte35_codec.specs.Spelling.{cue_bytes}
use Rattle.program_follower.specs.Program.{Program, program_of, behind_head, pids_of}
use Rattle.program_follower.specs.Following.{grown, high_of}
use Rattle.program_follower.proofs.FollowLemmas.{program_stays, grown_is, no_high}
use Rattle.std.proofs.Math.Bool.{or-false}
use Rattle.injector.specs.declared.asked.ServedRequest.{ServedRequest}
use Rattle.injector.specs.declared.refusal.Refusal.{Refusal}
use Rattle.injector.specs.declared.requests.Requests.{Requests}
use Rattle.injector.specs.Asking.{is_start, asked_of, asked_of_multiple}
use Rattle.injector.specs.Verdicts.{time_at, verdict_of, verdict_by}
use Rattle.injector.specs.Turns.{Turn, greatest_in, standing}
use Rattle.injector.specs.Senders.{Sender, is_none, news, current, is_ended, is_repeated, chosen, cues_of, tell, told_now, new_sender, with_event, begun, cut_short, with_judged, sender_stands, stands_by, events_in, with_request, senders, standing_senders, cues_before, IsIdle}
use Rattle.injector.specs.Noting.{notes_of, NotesTold, IsBefore}
use Rattle.injector.specs.Steps.{Step, Message, Packet, packets_in, turns_in, outcome, is_accepted, has_news}
use Rattle.injector.specs.Laws.{NoCueBetween}
use Rattle.injector.proofs.SenderLemmas.{standing-events}
use Rattle.injector.proofs.SendingLemmas.{none-cues, all-kept}
use Rattle.injector.proofs.FeedLemmas.{turns-high}

-- ---- the greatest time does not fall

abbrev pub Climbs : Option ℤ → Option ℤ → Type 0
Climbs None later = Unit {0}
Climbs (Some h) None = ⊥
Climbs (Some h) (Some l) = h ≤ℤ l

climbs-none : (latest : Option ℤ) → Climbs latest None → latest ≡ None
climbs-none None up = refl
climbs-none (Some h) up = absurd up

climbs-same : (latest : Option ℤ) → Climbs latest latest
climbs-same None = tt
climbs-same (Some h) = grind (arith, ints)

climbs-max : (h t : ℤ) → h ≤ℤ int_max h t
climbs-max h t = grind (arith, ints)

climbs-raised : (latest : Option ℤ) (s : Option ℕ) → Climbs latest (raised latest s)
climbs-raised latest None = climbs-same latest
climbs-raised None (Some t) = tt
climbs-raised (Some h) (Some t) = climbs-max h (place (Some h) t)

climbs-units : (switched : List ℕ) (p : List ℕ) (past : List (List ℕ)) → Climbs (unit_high switched past) (unit_high switched (p ∷ past))
climbs-units switched p past = by (begins_one switched p past)
  where
    by : (b : Bool) → Climbs (unit_high switched past) (cond b (raised (unit_high switched past) (stamp p)) (unit_high switched past))
    by true = climbs-raised (unit_high switched past) (stamp p)
    by false = climbs-same (unit_high switched past)

pub climbs-at : (program : ℕ) (p : List ℕ) (past : List (List ℕ)) → Climbs (high_of (Some program) past) (high_of (Some program) (p ∷ past))
climbs-at program p past = by (program_of (Some program) past) refl
  where
    by : (r : Option Program) → program_of (Some program) past ≡ r → Climbs (high_of (Some program) past) (high_of (Some program) (p ∷ past))
    by None is =
        let none : high_of (Some program) past ≡ None = ap (λ r. unit_high (pids_of r) (behind_head (Some program) past)) is ∙ no_high (behind_head (Some program) past) in
        subst (λ h. Climbs h (high_of (Some program) (p ∷ past))) (sym none) tt
    by (Some r) is =
        let known : program_of (Some program) (p ∷ past) ≡ Some r = program_stays (Some program) p past r is in
        let behind : p ∷ behind_head (Some program) past ≡ behind_head (Some program) (p ∷ past)
        = ap (λ x. grown x p (behind_head (Some program) past)) (sym is) ∙ grown_is (Some program) p past in
        subst (λ x. Climbs (unit_high (pids_of x) (behind_head (Some program) past)) (high_of (Some program) (p ∷ past))) (sym is)
        (subst (λ x. Climbs (unit_high (pids_of (Some r)) (behind_head (Some program) past)) (unit_high (pids_of x) (behind_head (Some program) (p ∷ past)))) (sym known)
        (subst (λ ps. Climbs (unit_high (pids_of (Some r)) (behind_head (Some program) past)) (unit_high (pids_of (Some r)) ps)) behind
        (climbs-units (pids_of (Some r)) p (behind_head (Some program) past))))

-- ---- one event at rest

-- what was sent was sent at some time; and unless a request was accepted, nothing is due while the greatest time stays
record IsAtRest (has : Bool) (latest : Option ℤ) (x : Sender) : Type 0 where
  timed : latest ≡ None → x.last ≡ None
  rest : has ≡ false → is_none (chosen x latest latest) ≡ true

nothing-new : (e : Standing) → is_none (news e (Some e)) ≡ true
nothing-new e = grind arith

pub some-current : (e : Standing) → is_none (current e) ≡ false
some-current e = by e.cancelled (is_ended e)
  where
    by : (k d : Bool) → is_none (record { start = not k && not d; end = not k && d; cancel = k }) ≡ false
    by true d = refl
    by false true = refl
    by false false = refl

-- nothing is chosen where nothing is new and nothing is repeated
pub none-chosen : (x : Sender) (latest later : Option ℤ) → is_none (news x.event x.told) ≡ true → is_repeated x.event x.last latest later ≡ false → is_none (chosen x latest later) ≡ true
none-chosen x latest later none not-again = rw none (rw not-again refl)

pub chosen-none : (x : Sender) (latest later : Option ℤ) → is_none (chosen x latest later) ≡ true → (is_none (news x.event x.told) ≡ true) × (is_repeated x.event x.last latest later ≡ false)
chosen-none x latest later none = by (is_none (news x.event x.told)) (is_repeated x.event x.last latest later) refl refl
  where
    by : (n r : Bool) → is_none (news x.event x.told) ≡ n → is_repeated x.event x.last latest later ≡ r → (is_none (news x.event x.told) ≡ true) × (is_repeated x.event x.last latest later ≡ false)
    by true false n_is r_is = (n_is, r_is)
    by true true n_is r_is = absurd (let no : is_none (current x.event) ≡ true = rw (n_is, r_is) at none in let is = some-current x.event in cc)
    by false r n_is r_is = absurd (let no : is_none (news x.event x.told) ≡ true = rw n_is at none in cc)

not-again : (e : Standing) (last latest later : Option ℤ) → Climbs latest later → (latest ≡ None → last ≡ None) → is_repeated e last latest later ≡ false → is_repeated e last later later ≡ false
not-again e None latest later up timed is = refl
not-again e (Some t) None later up timed is = absurd (let no : Some t ≡ None = timed refl in cc)
not-again e (Some t) (Some h) None up timed is = absurd up
not-again e (Some t) (Some h) (Some l) up timed is = grind (arith, ints)

just-sent : (e : Standing) (later : Option ℤ) → is_repeated e later later later ≡ false
just-sent e None = refl
just-sent e (Some l) = grind (arith, ints)

rest-told : (has : Bool) (latest later : Option ℤ) → Climbs latest later → (x : Sender) → IsAtRest has latest x → IsAtRest false later (tell latest later x)
rest-told has latest later up x before = by (is_none (chosen x latest later)) refl
  where
    by : (b : Bool) → is_none (chosen x latest later) ≡ b → IsAtRest false later (cond b x (told_now later x))
    by true is = let c = chosen-none x latest later is in
        record {
          timed = λ none. before.timed (climbs-none latest (subst (Climbs latest) none up));
          rest = λ no. none-chosen x later later c.0 (not-again x.event x.last latest later up before.timed c.1);
        }
    by false is =
        record {
          timed = λ none. none;
          rest = λ no. none-chosen (told_now later x) later later (nothing-new x.event) (just-sent x.event later);
        }

all-told : (has : Bool) (latest later : Option ℤ) → Climbs latest later → (xs : List Sender) → All (IsAtRest has latest) xs → All (IsAtRest false later) (map (tell latest later) xs)
all-told has latest later up [] all = All-nil (IsAtRest false later)
all-told has latest later up (x ∷ xs) all =
    All-cons (IsAtRest false later) (tell latest later x) (map (tell latest later) xs) (rest-told has latest later up x (All-head (IsAtRest has latest) x xs all))
    (all-told has latest later up xs (All-tail (IsAtRest has latest) x xs all))

-- ---- a message

-- one that is not accepted changes nothing
same-judged : (latest : Option ℤ) (test : Sender → Bool) (xs : List Sender) (a : ServedRequest) (v : Result (Unit {0}) Refusal) → is_ok v ≡ false → with_judged latest test xs a v ≡ xs
same-judged latest test xs a (Err e) is = refl
same-judged latest test xs a (Ok u) is = absurd (let no : true ≡ false = is in cc)

pub same-refused : (index : ℕ) (m : MessageReading) (past : List Turn) → is_accepted (outcome index m past) ≡ false → with_request (greatest_in past) (senders index past) (asked_of index m) ≡ senders index past
same-refused index (init head) past is = refl
same-refused index (alive head body) past is = refl
same-refused index (other head) past is = refl
same-refused index (bad multi head) past is = refl
same-refused index (multiple m) past is = by (asked_of_multiple index m) is
  where
    by : (r : Result ServedRequest Refusal) → is_ok (verdict_by (greatest_in past) (standing index past) r) ≡ false → with_request (greatest_in past) (senders index past) r ≡ senders index past
    by (Err e) is = refl
    by (Ok a) is =
        same-judged (greatest_in past) (stands_by (greatest_in past) a.request.splice_event_id) (senders index past) a (verdict_of (greatest_in past) (events_in (standing_senders index past)) a.request)
        (ap (λ es. is_ok (verdict_of (greatest_in past) es a.request)) (standing-events index past) ∙ is)

abbrev IsTimed : Option ℤ → Sender → Type 0
IsTimed latest x = latest ≡ None → x.last ≡ None

first-timed : (latest : Option ℤ) (test : Sender → Bool) (f : Standing → Standing) (xs : List Sender) → All (IsTimed latest) xs → All (IsTimed latest) (with_first test (with_event f) xs)
first-timed latest test f [] all = all
first-timed latest test f (x ∷ xs) all = step (test x) (first-timed latest test f xs (All-tail (IsTimed latest) x xs all))
  where
    step : (b : Bool) → All (IsTimed latest) (with_first test (with_event f) xs) → All (IsTimed latest) (cond b (with_event f x ∷ xs) (x ∷ with_first test (with_event f) xs))
    step true later = All-cons (IsTimed latest) (with_event f x) xs (All-head (IsTimed latest) x xs all) (All-tail (IsTimed latest) x xs all)
    step false later = All-cons (IsTimed latest) x (with_first test (with_event f) xs) (All-head (IsTimed latest) x xs all) later

timed-judged : (latest : Option ℤ) (test : Sender → Bool) (xs : List Sender) (a : ServedRequest) (v : Result (Unit {0}) Refusal) → All (IsTimed latest) xs → All (IsTimed latest) (with_judged latest test xs a v)
timed-judged latest test xs a (Err e) all = all
timed-judged latest test xs a (Ok u) all = kinds (is_start a.request) (a.request.splice_insert_type == 3)
  where
    start-case : (l : Option ℤ) → All (IsTimed latest) (begun l xs a)
    start-case None = all
    start-case (Some h) = All-push (IsTimed latest) xs (new_sender h a) all (λ none. refl)

    end-case : (l : Option ℤ) → All (IsTimed latest) (cut_short l test xs a)
    end-case None = all
    end-case (Some h) = first-timed latest test (ending_at (time_at h a.request)) xs all

    kinds : (b c : Bool) → All (IsTimed latest) (cond b (begun latest xs a) (cond c (cut_short latest test xs a) (with_first test (with_event cancelled_one) xs)))
    kinds true c = start-case latest
    kinds false true = end-case latest
    kinds false false = first-timed latest test cancelled_one xs all

timed-request : (latest : Option ℤ) (xs : List Sender) (a : Result ServedRequest Refusal) → All (IsTimed latest) xs → All (IsTimed latest) (with_request latest xs a)
timed-request latest xs (Err e) all = all
timed-request latest xs (Ok a) all = timed-judged latest (stands_by latest a.request.splice_event_id) xs a (verdict_of latest (events_in (filter (sender_stands latest) xs)) a.request) all

times-of : (has : Bool) (latest : Option ℤ) (xs : List Sender) → All (IsAtRest has latest) xs → All (IsTimed latest) xs
times-of has latest [] all = All-nil (IsTimed latest)
times-of has latest (x ∷ xs) all = let here = All-head (IsAtRest has latest) x xs all in All-cons (IsTimed latest) x xs here.timed (times-of has latest xs (All-tail (IsAtRest has latest) x xs all))

stirred : (latest : Option ℤ) (xs : List Sender) → All (IsTimed latest) xs → All (IsAtRest true latest) xs
stirred latest [] all = All-nil (IsAtRest true latest)
stirred latest (x ∷ xs) all =
    All-cons (IsAtRest true latest) x xs (record { timed = All-head (IsTimed latest) x xs all; rest = λ no. absurd (let e : true ≡ false = no in cc) })
    (stirred latest xs (All-tail (IsTimed latest) x xs all))

or-true : (b : Bool) → b || true ≡ true
or-true true = refl
or-true false = refl

-- ---- the history

judged-at-rest : (index : ℕ) (m : MessageReading) (turns : List Turn) → All (IsAtRest (has_news index turns) (greatest_in turns)) (senders index turns)
    → All (IsAtRest (has_news index turns || is_accepted (outcome index m turns)) (greatest_in turns)) (with_request (greatest_in turns) (senders index turns) (asked_of index m))
judged-at-rest index m turns before = by (is_accepted (outcome index m turns)) refl
  where
    by : (b : Bool) → is_accepted (outcome index m turns) ≡ b → All (IsAtRest (has_news index turns || is_accepted (outcome index m turns)) (greatest_in turns)) (with_request (greatest_in turns) (senders index turns) (asked_of index m))
    by true is =
        subst (λ b. All (IsAtRest b (greatest_in turns)) (with_request (greatest_in turns) (senders index turns) (asked_of index m))) (sym (ap (λ b. has_news index turns || b) is ∙ or-true (has_news index turns)))
        (stirred (greatest_in turns) (with_request (greatest_in turns) (senders index turns) (asked_of index m))
        (timed-request (greatest_in turns) (senders index turns) (asked_of index m) (times-of (has_news index turns) (greatest_in turns) (senders index turns) before)))
    by false is =
        subst (λ b. All (IsAtRest b (greatest_in turns)) (with_request (greatest_in turns) (senders index turns) (asked_of index m))) (sym (ap (λ b. has_news index turns || b) is ∙ or-false (has_news index turns)))
        (subst (All (IsAtRest (has_news index turns) (greatest_in turns))) (sym (same-refused index m turns is)) before)

all-at-rest : (c : Config) (past : List Step) → All (IsAtRest (has_news c.index (turns_in c.program past)) (greatest_in (turns_in c.program past))) (senders c.index (turns_in c.program past))
all-at-rest c [] = All-nil (IsAtRest false None)
all-at-rest c (Message m ∷ past) = judged-at-rest c.index m (turns_in c.program past) (all-at-rest c past)
all-at-rest c (Packet p ∷ past) =
    all-told (has_news c.index (turns_in c.program past)) (greatest_in (turns_in c.program past)) (high_of (Some c.program) (p ∷ packets_in past))
    (subst (λ h. Climbs h (high_of (Some c.program) (p ∷ packets_in past))) (sym (turns-high c.program past)) (climbs-at c.program p (packets_in past)))
    (senders c.index (turns_in c.program past)) (all-at-rest c past)

none-due : (latest : Option ℤ) (xs : List Sender) → All (IsAtRest false latest) xs → All (λ x. is_none (chosen x latest latest) ≡ true) xs
none-due latest [] all = All-nil (λ x. is_none (chosen x latest latest) ≡ true)
none-due latest (x ∷ xs) all = let here = All-head (IsAtRest false latest) x xs all in
    All-cons (λ y. is_none (chosen y latest latest) ≡ true) x xs (here.rest refl) (none-due latest xs (All-tail (IsAtRest false latest) x xs all))

-- no event has a cue where the greatest time stays, and nothing was accepted
pub idle-between : (c : Config) (past : List Step) (later : Option ℤ) → has_news c.index (turns_in c.program past) ≡ false → greatest_in (turns_in c.program past) ≡ later → IsIdle c.index later (turns_in c.program past)
idle-between c past later quiet same =
    let turns = turns_in c.program past in
    let all : All (IsAtRest false (greatest_in turns)) (senders c.index turns) = subst (λ b. All (IsAtRest b (greatest_in turns)) (senders c.index turns)) quiet (all-at-rest c past) in
    subst (λ l. IsIdle c.index l turns) same
    (none-due (greatest_in turns) (standing_senders c.index turns) (All-filter (sender_stands (greatest_in turns)) (IsAtRest false (greatest_in turns)) (senders c.index turns) all))

-- ---- what idle events send

no-cues : (latest later : Option ℤ) (xs : List Sender) → All (λ x. is_none (chosen x latest later) ≡ true) xs → flat_map (cues_of latest later) xs ≡ []
no-cues latest later [] all = refl
no-cues latest later (x ∷ xs) all =
    ap (λ l. l ++ flat_map (cues_of latest later) xs) (none-cues x (chosen x latest later) (All-head (λ y. is_none (chosen y latest later) ≡ true) x xs all))
    ∙ no-cues latest later xs (All-tail (λ y. is_none (chosen y latest later) ≡ true) x xs all)

same-tell : (latest later : Option ℤ) (x : Sender) → is_none (chosen x latest later) ≡ true → tell latest later x ≡ x
same-tell latest later x none = ap (λ b. cond b x (told_now later x)) none

pub none-told : (latest later : Option ℤ) (xs : List Sender) → All (λ x. is_none (chosen x latest later) ≡ true) xs → map (tell latest later) xs ≡ xs
none-told latest later [] all = refl
none-told latest later (x ∷ xs) all =
    ap (λ y. y ∷ map (tell latest later) xs) (same-tell latest later x (All-head (λ y. is_none (chosen y latest later) ≡ true) x xs all))
    ∙ ap (λ ys. x ∷ ys) (none-told latest later xs (All-tail (λ y. is_none (chosen y latest later) ≡ true) x xs all))

pub idle-cues : (index : ℕ) (later : Option ℤ) (past : List Turn) → IsIdle index later past → cues_before index later past ≡ []
idle-cues index later past idle = no-cues (greatest_in past) later (standing_senders index past) idle

pub idle-told : (r : Requests) (place : Option ℕ) (index : ℕ) (past : List Turn) (latest : Option ℤ) → IsBefore false r place index past latest → NotesTold r index past latest
idle-told r place index past latest b =
    let xs = standing_senders index past in
    let within : All (IsWithin (greatest_in past)) (events_in xs) = subst (All (IsWithin (greatest_in past))) (sym (standing-events index past)) b.stands.table.within in
    record {
      notes = b.notes.notes ∙ ap (map notes_of) (sym (none-told (greatest_in past) latest xs (b.idle refl)));
      kept = all-kept (greatest_in past) latest b.rises xs within b.notes.kept;
    }

pub no-cue-between : NoCueBetween
no-cue-between c p past quiet same =
    ap (map cue_bytes) (idle-cues c.index (high_of (Some c.program) (p ∷ packets_in past)) (turns_in c.program past)
    (idle-between c past (high_of (Some c.program) (p ∷ packets_in past)) quiet (turns-high c.program past ∙ sym same)))
