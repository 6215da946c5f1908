-- What a message asks for.
use Rattle.std.proofs.Common.{◌≡◌, ℕ, ◌<◌, ◌≤◌, ◌==◌, nat_lt, Bool, true, false, not, ◌&&◌, ◌||◌, List, length, arith}
use Rattle.std.specs.Prelude.{Result, Ok, Err}
use Rattle.std.proofs.lemmas.Bool.Decides.{nat_tests}
use Rattle.ts_packet.proofs.Cases.{by_test}
use Rattle.scte104_codec.specs.declared.requests.SpliceRequest.{SpliceRequest}
use Rattle.scte104_codec.specs.Operations.{Operation}
use Rattle.scte104_codec.specs.Asked.{all_known, splice_requests, avail_ids}
use Rattle.scte104_codec.specs.Reading.{MessageReading, init, alive, other, multiple, bad, Multiple}
use Rattle.injector.specs.declared.refusal.Refusal.{Refusal}
use Rattle.injector.specs.Asking.{is_start, only_of, served_of, served_if, asked_of_multiple, asked_of}

-- at most 14 avail ids, and a start has a duration and a pre-roll time
pub record IsServed (r : SpliceRequest) (avails : List ℕ) : Type 0 where
  pub avails_most : length avails ≤ 14
  pub duration : is_start r ≡ true → 0 < r.break_duration
  pub pre_roll : is_start r ≡ true → 0 < r.pre_roll_time

abbrev pub ServedBy : {A : Type 0} → Result A Refusal → (A → SpliceRequest) → (A → List ℕ) → Type 0
ServedBy (Ok a) request avails = IsServed (request a) (avails a)
ServedBy (Err e) request avails = Unit {0}

pub served-facts : (os : List Operation) (r : SpliceRequest) → ServedBy (served_of os r) (λ a. a.request) (λ a. a.avails.items)
served-facts os r =
    by_test (nat_lt r.splice_insert_type 1 || nat_lt 5 r.splice_insert_type) (λ a. simp a tt)
    (λ a. by_test ((r.splice_insert_type == 2) || (r.splice_insert_type == 4)) (λ b. simp (a, b) tt)
    (λ b. by_test (nat_lt 14 (length (avail_ids os))) (λ c. simp (a, b, c) tt)
    (λ c. by_test (is_start r && (r.break_duration == 0)) (λ d. simp (a, b, c, d) tt)
    (λ d. by_test (is_start r && not r.auto_return) (λ e. simp (a, b, c, d, e) tt)
    (λ e. by_test (is_start r && (r.pre_roll_time == 0)) (λ f. simp (a, b, c, d, e, f) tt)
    (λ f. simp (a, b, c, d, e, f) (record { avails_most = few (length (avail_ids os)) c; duration = some (is_start r) r.break_duration d; pre_roll = some (is_start r) r.pre_roll_time f })))))))
  where
    few : (n : ℕ) → nat_lt 14 n ≡ false → n ≤ 14
    few n is = grind (arith, nat_tests)

    some : (b : Bool) (n : ℕ) → (b && (n == 0)) ≡ false → b ≡ true → 0 < n
    some true n is t = grind (arith, nat_tests)
    some false n is t = cc

only-facts : (os : List Operation) (x : Result SpliceRequest Refusal) → ServedBy (served_if os x) (λ a. a.request) (λ a. a.avails.items)
only-facts os (Ok r) = served-facts os r
only-facts os (Err e) = tt

multiple-facts : (index : ℕ) (m : Multiple) → ServedBy (asked_of_multiple index m) (λ a. a.request) (λ a. a.avails.items)
multiple-facts index m =
    by_test (not (m.version == 0) || not (m.cue_version == 0)) (λ a. simp a tt)
    (λ a. by_test (not (m.head.index == index)) (λ b. simp (a, b) tt)
    (λ b. by_test (not (m.time_kind == 0)) (λ c. simp (a, b, c) tt)
    (λ c. by_test (not (all_known m.operations)) (λ d. simp (a, b, c, d) tt)
    (λ d. simp (a, b, c, d) (only-facts m.operations (only_of (splice_requests m.operations)))))))

pub asked-facts : (index : ℕ) (m : MessageReading) → ServedBy (asked_of index m) (λ a. a.request) (λ a. a.avails.items)
asked-facts index (init head) = tt
asked-facts index (alive head body) = tt
asked-facts index (other head) = tt
asked-facts index (multiple m) = multiple-facts index m
asked-facts index (bad multi head) = tt
