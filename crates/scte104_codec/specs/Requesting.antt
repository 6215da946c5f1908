-- The bytes of the messages by which an automation system asks (ANSI/SCTE 104): a multiple_operation_message without a time with one
-- splice_request_data, and a single_operation_message without data.
use Rattle.std.specs.Prelude.{◌≡◌, ℕ, List, [], ◌∷◌, length, if◌then◌else◌}
use Rattle.scte104_codec.specs.declared.framing.Frame.TheVariants.{Whole}
use Rattle.scte104_codec.specs.declared.head.Head.{Head}
use Rattle.scte104_codec.specs.declared.requests.SpliceRequest.{SpliceRequest}
use Rattle.scte104_codec.specs.Framing.{frame_of}
use Rattle.scte104_codec.specs.Operations.{Operation, operations_bytes}
use Rattle.scte104_codec.specs.Requests.{splice_request_bytes}
use Rattle.scte104_codec.specs.Asked.{splice_requests}
use Rattle.scte104_codec.specs.Spelling.{SingleOperation, single_operation_message, MultipleOperation, multiple_operation_message}
use Rattle.scte104_codec.specs.Reading.{Multiple, multiple, single_fields_of, message_of}

-- the operation that asks for this: auto_return_flag is 1 for yes
abbrev pub asking_operation : SpliceRequest → Operation
asking_operation r = record { op = 0x0101; body = splice_request_bytes r (if r.auto_return then 1 else 0) }

-- protocol_version, SCTE35_protocol_version and time_type are 0, and num_ops is 1
abbrev pub asking_message : Head → SpliceRequest → MultipleOperation
asking_message head r = record { protocol_version = 0; head = head; cue_version = 0; time_type = 0; contents = operations_bytes (asking_operation r ∷ []) }

abbrev pub asking_bytes : Head → SpliceRequest → List ℕ
asking_bytes head r = multiple_operation_message (asking_message head r)

-- what it is read as
abbrev pub asking_fields : Head → SpliceRequest → Multiple
asking_fields head r = record { head = head; version = 0; cue_version = 0; time_kind = 0; operations = asking_operation r ∷ [] }

-- THE BYTES ask for just this: they are one whole message, which is read with this head, and with this request and no other operation.
pub record Asks (bytes : List ℕ) (head : Head) (r : SpliceRequest) : Type 0 where
  pub whole : frame_of bytes ≡ Whole (length bytes)
  pub fields : message_of bytes ≡ multiple (asking_fields head r)
  pub request : splice_requests (asking_fields head r).operations ≡ r ∷ []

-- ---- a message without data

-- result and result_extension of a request are 0xFFFF, and protocol_version is 0
abbrev pub plain_message : ℕ → Head → SingleOperation
plain_message op head = record { op = op; result = 65535; result_extension = 65535; protocol_version = 0; head = head; body = [] }

abbrev pub plain_bytes : ℕ → Head → List ℕ
plain_bytes op head = single_operation_message (plain_message op head)

-- they are one whole message, with these fields
pub record AsksPlainly (bytes : List ℕ) (op : ℕ) (head : Head) : Type 0 where
  pub whole : frame_of bytes ≡ Whole (length bytes)
  pub fields : single_fields_of bytes ≡ plain_message op head
