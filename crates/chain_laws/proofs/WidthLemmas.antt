-- The requests of a run fit: its messages were read of bytes.
use Rattle.std.proofs.Common.{ℕ, zero, suc, ◌<◌, ◌^◌, List, [], ◌∷◌, length, take, drop, subst, sym, ◌∙◌, ap}
use Rattle.std.specs.Prelude.{nat_lt, ◌==◌, not, ◌&&◌, ◌||◌}
use Rattle.std.specs.List.{AllByRecursion}
use Rattle.std.proofs.lemmas.Grind.{flat_map-append}
use Rattle.std.proofs.lemmas.List.{take-append-drop}
use Rattle.ts_packet.proofs.Cases.{by_test}
use Rattle.wire_fields.specs.Numbers.{AreBytes}
use Rattle.psi_tables.specs.declared.config.Config.{Config}
use Rattle.scte104_codec.specs.declared.requests.SpliceRequest.{SpliceRequest}
use Rattle.scte104_codec.specs.Operations.{Operation}
use Rattle.scte104_codec.specs.Asked.{all_known, splice_requests, avail_ids}
use Rattle.scte104_codec.specs.Reading.{MessageReading, init, alive, other, multiple, bad, Multiple, message_of}
use Rattle.scte104_codec.specs.Widths.{AllFieldsFit, MultipleFits, ReadingFits}
use Rattle.scte104_codec.proofs.WidthLemmas.{front_bytes}
use Rattle.as_session.specs.Laws.{IsInWidth}
use Rattle.as_session.proofs.WidthLemmas.{each_message_fits}
use Rattle.injector.specs.Asking.{is_start, only_of, served_of, served_if, asked_of_multiple}
use Rattle.injector.specs.Steps.{Step, Message}
use Rattle.path_laws.specs.Path.{FitsIn, RequestFits}
use Rattle.path_laws.specs.Packets.{RequestsFit}
use Rattle.chain_engine.specs.Automation.{Take, bytes_in, bytes_of}
use Rattle.chain_engine.specs.Talks.{messages_taken, messages_judged, judged_before}
use Rattle.chain_engine.specs.Runs.{asked, steps_of}

-- ---- one message

served_fits : (os : List Operation) (r : SpliceRequest) → AllFieldsFit r → AllByRecursion (λ id. id < 2 ^ 32) (avail_ids os) → FitsIn (served_of os r) (λ a. a.request) (λ a. a.avails.items)
served_fits os r f ids =
    by_test (nat_lt r.splice_insert_type 1 || nat_lt 5 r.splice_insert_type) (λ a. simp a tt)
    (λ a. by_test ((r.splice_insert_type == 2) || (r.splice_insert_type == 4)) (λ b. simp (a, b) tt)
    (λ b. by_test (nat_lt 14 (length (avail_ids os))) (λ c. simp (a, b, c) tt)
    (λ c. by_test (is_start r && (r.break_duration == 0)) (λ d. simp (a, b, c, d) tt)
    (λ d. by_test (is_start r && not r.auto_return) (λ e. simp (a, b, c, d, e) tt)
    (λ e. by_test (is_start r && (r.pre_roll_time == 0)) (λ g. simp (a, b, c, d, e, g) tt)
    (λ g. simp (a, b, c, d, e, g) (record {
      splice_event_id = f.wide.splice_event_id;
      unique_program_id = f.wide.unique_program_id;
      pre_roll_time = f.wide.pre_roll_time;
      break_duration = f.wide.break_duration;
      avails_fit = ids;
    })))))))

only_fits : (os : List Operation) (rs : List SpliceRequest) → AllByRecursion AllFieldsFit rs → AllByRecursion (λ id. id < 2 ^ 32) (avail_ids os) → FitsIn (served_if os (only_of rs)) (λ a. a.request) (λ a. a.avails.items)
only_fits os [] all ids = tt
only_fits os (r ∷ []) all ids = served_fits os r all.0 ids
only_fits os (r ∷ s ∷ rest) all ids = tt

multiple_fits : (index : ℕ) (m : Multiple) → MultipleFits m → FitsIn (asked_of_multiple index m) (λ a. a.request) (λ a. a.avails.items)
multiple_fits index m f =
    by_test (not (m.version == 0) || not (m.cue_version == 0)) (λ a. simp a tt)
    (λ a. by_test (not (m.head.index == index)) (λ b. simp (a, b) tt)
    (λ b. by_test (not (m.time_kind == 0)) (λ c. simp (a, b, c) tt)
    (λ c. by_test (not (all_known m.operations)) (λ d. simp (a, b, c, d) tt)
    (λ d. simp (a, b, c, d) (only_fits m.operations (splice_requests m.operations) f.operations.requests f.operations.avail_ids)))))

-- what was read of bytes asks for what fits
pub request_fits : (index : ℕ) (m : MessageReading) → ReadingFits m → RequestFits index m
request_fits index (init head) f = tt
request_fits index (alive head body) f = tt
request_fits index (other head) f = tt
request_fits index (multiple m) f = multiple_fits index m f
request_fits index (bad is_multiple head) f = tt

-- ---- the messages of takes

each_taken : {A : Type 0} (P : A → Type 0) (n : ℕ) (xs : List A) → AllByRecursion P xs → AllByRecursion P (take n xs)
each_taken P zero xs h = tt
each_taken P (suc n) [] h = tt
each_taken P (suc n) (x ∷ xs) h = (h.0, each_taken P n xs h.1)

each_behind : {A : Type 0} (P : A → Type 0) (n : ℕ) (xs : List A) → AllByRecursion P xs → AllByRecursion P (drop n xs)
each_behind P zero xs h = h
each_behind P (suc n) [] h = tt
each_behind P (suc n) (x ∷ xs) h = each_behind P n xs h.1

taken_bytes : (n : ℕ) (ts : List Take) → AreBytes (bytes_of ts) → AreBytes (bytes_of (take n ts))
taken_bytes n ts h = front_bytes (bytes_of (take n ts)) (bytes_of (drop n ts)) (subst (λ (xs : List ℕ). AreBytes xs) (ap bytes_of (sym (take-append-drop n ts)) ∙ flat_map-append bytes_in (take n ts) (drop n ts)) h)

judged_fit : (most : ℕ) (ts : List Take) (k : ℕ) → AreBytes (bytes_of ts) → AllByRecursion IsInWidth (judged_before most ts k)
judged_fit most ts k h =
    each_behind IsInWidth (length (messages_judged most (take k ts))) (messages_judged most (take (suc k) ts))
    (each_taken IsInWidth most (messages_taken (take (suc k) ts)) (each_message_fits (bytes_of (take (suc k) ts)) (taken_bytes (suc k) ts h)))

-- ---- the history

asked_fit : (c : Config) (ms : List (List ℕ)) (past : List Step) → AllByRecursion IsInWidth ms → RequestsFit c past → RequestsFit c (asked ms past)
asked_fit c [] past all h = h
asked_fit c (m ∷ ms) past all h = asked_fit c ms (Message (message_of m) ∷ past) all.1 (request_fits c.index (message_of m) all.0.fields, h)

-- THE REQUESTS OF A RUN FIT, where what was taken are bytes
pub steps_fit : (c : Config) (most : ℕ) (ts : List Take) (past : List (List ℕ)) → AreBytes (bytes_of ts) → RequestsFit c (steps_of most ts past)
steps_fit c most ts [] h = tt
steps_fit c most ts (p ∷ past) h = asked_fit c (judged_before most ts (length past)) (steps_of most ts past) (judged_fit most ts (length past) h) (steps_fit c most ts past h)
