-- The bytes of the two kinds of message.
use Rattle.std.specs.Prelude.{ℕ, ◌+◌, ◌<◌, ◌≤◌, List, [], ◌∷◌, ◌++◌, length}
use Rattle.byteorder.specs.Endian.{big_bytes}
use Rattle.scte104_codec.specs.declared.head.Head.{Head}
use Rattle.scte104_codec.specs.Head.{head_bytes, HeadFits}

-- single_operation_message
pub record SingleOperation : Type 0 where
  pub op : ℕ
  pub result : ℕ
  pub result_extension : ℕ
  pub protocol_version : ℕ
  pub head : Head
  pub body : List ℕ

abbrev pub single_operation_message : SingleOperation → List ℕ
single_operation_message m =
    big_bytes 2 m.op ++ big_bytes 2 (13 + length m.body) ++ big_bytes 2 m.result ++ big_bytes 2 m.result_extension
    ++ (m.protocol_version ∷ []) ++ head_bytes m.head ++ m.body

-- what has a spelling: 0xFFFF in the place of opID begins a message of the other kind
pub record IsSingleOperation (m : SingleOperation) : Type 0 where
  pub op : m.op < 65535
  pub result : m.result < 65536
  pub result_extension : m.result_extension < 65536
  pub protocol_version : m.protocol_version < 256
  pub head : HeadFits m.head
  pub size : 13 + length m.body < 65536

-- multiple_operation_message: timestamp() begins with time_type, and the contents are what follows that byte. Where
-- time_type is 0 these are num_ops and the operations.
pub record MultipleOperation : Type 0 where
  pub protocol_version : ℕ
  pub head : Head
  pub cue_version : ℕ
  pub time_type : ℕ
  pub contents : List ℕ

abbrev pub multiple_operation_message : MultipleOperation → List ℕ
multiple_operation_message m =
    big_bytes 2 65535 ++ big_bytes 2 (11 + length m.contents) ++ (m.protocol_version ∷ []) ++ head_bytes m.head
    ++ (m.cue_version ∷ m.time_type ∷ []) ++ m.contents

pub record IsMultipleOperation (m : MultipleOperation) : Type 0 where
  pub protocol_version : m.protocol_version < 256
  pub head : HeadFits m.head
  pub cue_version : m.cue_version < 256
  pub time_type : m.time_type < 256
  pub some : 1 ≤ length m.contents
  pub size : 11 + length m.contents < 65536
