-- What a whole message is read as, by the places of its fields.
use Rattle.std.specs.Prelude.{ℕ, List, [], length, drop, Option, Some, None, Bool, true, false, slice_index, nat_le, ◌==◌, if◌then◌else◌}
use Rattle.scte104_codec.specs.declared.head.Head.{Head}
use Rattle.wire_fields.specs.Numbers.{number16_at}
use Rattle.scte104_codec.specs.Head.{head_at}
use Rattle.scte104_codec.specs.Operations.{Operation, operations_in}
use Rattle.scte104_codec.specs.Spelling.{SingleOperation}

-- a multiple_operation_message, by protocol_version, SCTE35_protocol_version, time_type and its operations
pub record Multiple : Type 0 where
  pub head : Head
  pub version : ℕ
  pub cue_version : ℕ
  pub time_kind : ℕ
  pub operations : List Operation

-- a message that breaks the syntax has its kind and its head
pub data MessageReading : Type 0 where
  init : Head → MessageReading
  alive : Head → List ℕ → MessageReading
  other : Head → MessageReading
  multiple : Multiple → MessageReading
  bad : Bool → Head → MessageReading

-- all fields of a single_operation_message, by their places
abbrev pub single_fields_of : List ℕ → SingleOperation
single_fields_of bytes =
    record {
      op = number16_at bytes 0;
      result = number16_at bytes 4;
      result_extension = number16_at bytes 6;
      protocol_version = slice_index bytes 8;
      head = head_at bytes 9;
      body = drop 13 bytes;
    }

-- a single_operation_message: its head stands at place 9, its data at 13
unfoldable pub single_operation_of : List ℕ → MessageReading
single_operation_of bytes =
    if number16_at bytes 0 == 0x0001 then init (head_at bytes 9)
    else (if number16_at bytes 0 == 0x0003
    then (if nat_le (length (drop 13 bytes)) 8 then alive (head_at bytes 9) (drop 13 bytes) else bad false (head_at bytes 9))
    else other (head_at bytes 9))

abbrev pub multiple_with : List ℕ → Option (List Operation) → MessageReading
multiple_with bytes None = bad true (head_at bytes 5)
multiple_with bytes (Some os) = multiple (record { head = head_at bytes 5; version = slice_index bytes 4; cue_version = slice_index bytes 9; time_kind = slice_index bytes 10; operations = os })

-- a multiple_operation_message: its head stands at place 5, time_type at 10, and without a time num_ops at 11
unfoldable pub multiple_operation_of : List ℕ → MessageReading
multiple_operation_of bytes = multiple_with bytes (if slice_index bytes 10 == 0 then operations_in (slice_index bytes 11) (drop 12 bytes) else Some [])

unfoldable pub message_of : List ℕ → MessageReading
message_of bytes = if number16_at bytes 0 == 0xFFFF then multiple_operation_of bytes else single_operation_of bytes
