-- The bytes of a reply.
use Rattle.std.specs.Prelude.{ℕ, List}
use Rattle.scte104_codec.specs.declared.reply.Reply.{Reply}
use Rattle.scte104_codec.specs.Spelling.{SingleOperation, single_operation_message}

-- a reply as a single_operation_message: result_extension is 0xFFFF, protocol_version 0
abbrev pub reply_message : Reply → SingleOperation
reply_message r = record { op = r.op; result = r.result; result_extension = 65535; protocol_version = 0; head = r.head; body = r.tail.items }

abbrev pub reply_bytes : Reply → List ℕ
reply_bytes r = single_operation_message (reply_message r)
