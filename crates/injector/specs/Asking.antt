-- What a message asks for, by the message alone (ANSI/SCTE 104, multiple_operation_message and splice_request_data): the first reason for a
-- refusal, in the order that stands here, or the request with its avail ids.
use Rattle.std.specs.Prelude.{ℕ, ◌<◌, ◌≡◌, nat_lt, ◌==◌, Bool, not, ◌&&◌, ◌||◌, if◌then◌else◌, List, [], ◌∷◌, length}
use Rattle.std.specs.Prelude.{Result, Ok, Err}
use Rattle.scte104_codec.specs.declared.multi.Multi.{Multi}
use Rattle.scte104_codec.specs.declared.requests.SpliceRequest.{SpliceRequest}
use Rattle.scte104_codec.specs.Operations.{Operation}
use Rattle.scte104_codec.specs.OperationsLeft.{operations_left}
use Rattle.scte104_codec.specs.Asked.{all_known, splice_requests, avail_ids}
use Rattle.scte104_codec.specs.Reading.{MessageReading, init, alive, other, multiple, bad, Multiple}
use Rattle.injector.specs.declared.asked.ServedRequest.{ServedRequest}
use Rattle.injector.specs.declared.refusal.Refusal.{Refusal}
use Rattle.injector.specs.declared.refusal.Refusal.TheVariants.{BadSyntax, WrongVersion, WrongIndex, TimeType}
use Rattle.injector.specs.declared.refusal.Refusal.TheVariants.{UnknownOp, NoRequest, TwoRequests, BadType}
use Rattle.injector.specs.declared.refusal.Refusal.TheVariants.{Unsupported, TooManyAvails, NoDuration, NoReturn}
use Rattle.injector.specs.declared.refusal.Refusal.TheVariants.{NoPreRoll}

-- what a message that was read shows
abbrev pub fields_of : Multi → Multiple
fields_of m =
    record {
      head = m.head;
      version = m.version;
      cue_version = m.cue_version;
      time_kind = m.time_kind;
      operations = operations_left m.operations;
    }

-- the one splice_request
abbrev pub only_of : List SpliceRequest → Result SpliceRequest Refusal
only_of [] = Err NoRequest
only_of (r ∷ []) = Ok r
only_of (r ∷ s ∷ rest) = Err TwoRequests

-- it is a start (splice_insert_type 1, spliceStart_normal)
abbrev pub is_start : SpliceRequest → Bool
is_start r = r.splice_insert_type == 1

-- splice_insert_type is 1 to 5; 2 and 4, a start and an end at once, are not served; at most 14 avail ids; a start has a duration, returns
-- by itself and has a pre-roll time
abbrev pub served_of : List Operation → SpliceRequest → Result ServedRequest Refusal
served_of os r =
    if nat_lt r.splice_insert_type 1 || nat_lt 5 r.splice_insert_type then Err BadType
    else (if (r.splice_insert_type == 2) || (r.splice_insert_type == 4) then Err Unsupported
    else (if nat_lt 14 (length (avail_ids os)) then Err TooManyAvails
    else (if is_start r && (r.break_duration == 0) then Err NoDuration
    else (if is_start r && not r.auto_return then Err NoReturn
    else (if is_start r && (r.pre_roll_time == 0) then Err NoPreRoll
    else Ok (record { request = r; avails = record { items = avail_ids os } }))))))

abbrev pub served_if : List Operation → Result SpliceRequest Refusal → Result ServedRequest Refusal
served_if os (Ok r) = served_of os r
served_if os (Err e) = Err e

-- of a multiple operation for this DPI_PID_index
abbrev pub asked_of_multiple : ℕ → Multiple → Result ServedRequest Refusal
asked_of_multiple index m =
    if not (m.version == 0) || not (m.cue_version == 0) then Err WrongVersion
    else (if not (m.head.index == index) then Err WrongIndex
    else (if not (m.time_kind == 0) then Err TimeType
    else (if not (all_known m.operations) then Err UnknownOp
    else served_if m.operations (only_of (splice_requests m.operations)))))

-- of any message: only a multiple operation asks for something
abbrev pub asked_of : ℕ → MessageReading → Result ServedRequest Refusal
asked_of index (init head) = Err BadSyntax
asked_of index (alive head body) = Err BadSyntax
asked_of index (other head) = Err BadSyntax
asked_of index (multiple m) = asked_of_multiple index m
asked_of index (bad multi head) = Err BadSyntax

-- a start that is asked for can be armed
pub record CanStart (r : SpliceRequest) : Type 0 where
  pub duration : 0 < r.break_duration
  pub pre_roll : 0 < r.pre_roll_time

abbrev pub IsStartable : ServedRequest → Type 0
IsStartable a = a.request.splice_insert_type ≡ 1 → CanStart a.request
