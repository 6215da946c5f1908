-- How wide the fields of a message are that was read: one byte, two or four (ANSI/SCTE 104, single_operation_message,
-- multiple_operation_message, splice_request_data and insert_avail_descriptor_request_data).
use Rattle.std.specs.Prelude.{◌<◌, ◌^◌, List}
use Rattle.std.specs.List.{AllByRecursion}
use Rattle.wire_fields.specs.Numbers.{AreBytes}
use Rattle.scte104_codec.specs.declared.requests.SpliceRequest.{SpliceRequest}
use Rattle.scte104_codec.specs.Head.{HeadFits}
use Rattle.scte104_codec.specs.Operations.{Operation, AreOperations}
use Rattle.scte104_codec.specs.Requests.{SpliceRequestFits}
use Rattle.scte104_codec.specs.Asked.{splice_requests, avail_ids}
use Rattle.scte104_codec.specs.Reading.{MessageReading, init, alive, other, multiple, bad, Multiple}

-- all fields of a splice_request, those of one byte too
pub record AllFieldsFit (r : SpliceRequest) : Type 0 where
  pub splice_insert_type : r.splice_insert_type < 256
  pub wide : SpliceRequestFits r
  pub avail_num : r.avail_num < 256
  pub avails_expected : r.avails_expected < 256

-- operations, and what they ask for
pub record OperationsFit (os : List Operation) : Type 0 where
  pub spelled : AreOperations os
  pub bodies : AllByRecursion (λ (o : Operation). AreBytes o.body) os
  pub requests : AllByRecursion AllFieldsFit (splice_requests os)
  pub avail_ids : AllByRecursion (λ id. id < 2 ^ 32) (avail_ids os)

pub record MultipleFits (m : Multiple) : Type 0 where
  pub head : HeadFits m.head
  pub version : m.version < 256
  pub cue_version : m.cue_version < 256
  pub time_kind : m.time_kind < 256
  pub operations : OperationsFit m.operations

-- EACH FIELD of a message is as wide as the standard has it
abbrev pub ReadingFits : MessageReading → Type 0
ReadingFits (init head) = HeadFits head
ReadingFits (alive head body) = HeadFits head × AreBytes body
ReadingFits (other head) = HeadFits head
ReadingFits (multiple m) = MultipleFits m
ReadingFits (bad is_multiple head) = HeadFits head
