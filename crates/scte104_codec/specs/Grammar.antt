-- The grammar: which bytes spell what, apart from how they are read.
use Rattle.std.specs.Prelude.{◌≡◌, ◌≢◌, ℕ, ◌<◌, ◌≤◌, List, [], length, true, false}
use Rattle.scte104_codec.specs.declared.head.Head.{Head}
use Rattle.scte104_codec.specs.Operations.{Operation, AreOperations, operations_bytes}
use Rattle.scte104_codec.specs.Spelling.{SingleOperation, IsSingleOperation, single_operation_message, MultipleOperation, IsMultipleOperation, multiple_operation_message}
use Rattle.scte104_codec.specs.Reading.{MessageReading, init, alive, other, multiple, bad, Multiple}

-- the bytes are this single_operation_message
pub record Single (bytes : List ℕ) (head : Head) (m : SingleOperation) : Type 0 where
  pub fits : IsSingleOperation m
  pub same_head : head ≡ m.head
  pub whole : bytes ≡ single_operation_message m

-- the bytes are this multiple_operation_message
pub record Several (bytes : List ℕ) (head : Head) (m : MultipleOperation) : Type 0 where
  pub fits : IsMultipleOperation m
  pub same_head : head ≡ m.head
  pub whole : bytes ≡ multiple_operation_message m

-- without a time the contents are the operations, and with one they aren't read
pub record HoldsFields (read : Multiple) (m : MultipleOperation) : Type 0 where
  pub version : read.version ≡ m.protocol_version
  pub cue_version : read.cue_version ≡ m.cue_version
  pub time_kind : read.time_kind ≡ m.time_type
  pub timeless : m.time_type ≡ 0 → AreOperations read.operations × (m.contents ≡ operations_bytes read.operations)
  pub timed : m.time_type ≢ 0 → read.operations ≡ []

abbrev pub Spells : MessageReading → List ℕ → Type 0
Spells (init head) bytes = (m : SingleOperation) × Single bytes head m × (m.op ≡ 0x0001)
Spells (alive head body) bytes = (m : SingleOperation) × Single bytes head m × (m.op ≡ 0x0003) × (body ≡ m.body) × (length body ≤ 8)
Spells (other head) bytes = (m : SingleOperation) × Single bytes head m × (m.op ≢ 0x0001) × (m.op ≢ 0x0003)
Spells (multiple read) bytes = (m : MultipleOperation) × Several bytes read.head m × HoldsFields read m
-- an alive_request with too many data
Spells (bad false head) bytes = (m : SingleOperation) × Single bytes head m × (m.op ≡ 0x0003) × (8 < length m.body)
-- no operations without a time are the contents
Spells (bad true head) bytes = (m : MultipleOperation) × Several bytes head m × (m.time_type ≡ 0) × ((os : List Operation) → AreOperations os → m.contents ≢ operations_bytes os)
