-- What holds of every message.
use Rattle.std.specs.Prelude.{◌≡◌, ◌≢◌, ℕ, ◌<◌, ◌^◌, not, ◌==◌, List, ◌++◌, length, Some}
use Rattle.std.specs.List.{AllByRecursion}
use Rattle.scte104_codec.specs.declared.framing.Frame.TheVariants.{Whole}
use Rattle.scte104_codec.specs.declared.reply.Reply.{Reply}
use Rattle.scte104_codec.specs.declared.requests.SpliceRequest.{SpliceRequest}
use Rattle.wire_fields.specs.Numbers.{AreBytes}
use Rattle.scte104_codec.specs.Framing.{frame_of}
use Rattle.scte104_codec.specs.Spelling.{SingleOperation, IsSingleOperation, single_operation_message, MultipleOperation, IsMultipleOperation, multiple_operation_message}
use Rattle.scte104_codec.specs.Reading.{MessageReading, other, single_fields_of, message_of}
use Rattle.scte104_codec.specs.Grammar.{Spells}
use Rattle.scte104_codec.specs.Replies.{reply_message, reply_bytes}
use Rattle.scte104_codec.specs.Requests.{splice_request_of, splice_request_bytes, SpliceRequestFits, avail_ids_of, avail_ids_bytes}
use Rattle.scte104_codec.specs.Widths.{ReadingFits}

pub record MessagesAreFramed : Type 0 where
  pub single : (m : SingleOperation) → IsSingleOperation m → (more : List ℕ) → frame_of (single_operation_message m ++ more) ≡ Whole (length (single_operation_message m))
  pub several : (m : MultipleOperation) → IsMultipleOperation m → (more : List ℕ) → frame_of (multiple_operation_message m ++ more) ≡ Whole (length (multiple_operation_message m))

abbrev pub MessagesReadBack : Type 0
MessagesReadBack = (read : MessageReading) (bytes : List ℕ) → AreBytes bytes → Spells read bytes → message_of bytes ≡ read

-- the bytes of a reply are one whole message; its fields are the reply's, and no others have these bytes
pub record IsReadBack (r : Reply) : Type 0 where
  pub whole : frame_of (reply_bytes r) ≡ Whole (length (reply_bytes r))
  pub fields : single_fields_of (reply_bytes r) ≡ reply_message r
  pub only : (m : SingleOperation) → IsSingleOperation m → single_operation_message m ≡ reply_bytes r → m ≡ reply_message r
  pub response : r.op ≢ 0x0001 → r.op ≢ 0x0003 → message_of (reply_bytes r) ≡ other r.head

abbrev pub RepliesReadBack : Type 0
RepliesReadBack = (r : Reply) → IsSingleOperation (reply_message r) → IsReadBack r

pub record RequestsReadBack : Type 0 where
  pub request : (r : SpliceRequest) (flag : ℕ) → SpliceRequestFits r → r.auto_return ≡ not (flag == 0) → splice_request_of (splice_request_bytes r flag) ≡ Some r
  pub ids : (ids : List ℕ) → AllByRecursion (λ id. id < 2 ^ 32) ids → avail_ids_of (avail_ids_bytes ids) ≡ Some ids

-- whatever the bytes are, each field of the message that is read fits
abbrev pub WhatIsReadFits : Type 0
WhatIsReadFits = (bytes : List ℕ) → AreBytes bytes → ReadingFits (message_of bytes)
