-- Where a message ends: its field messageSize, behind the first two bytes, counts the whole message.
use Rattle.std.specs.Prelude.{ℕ, ◌-◌, List, length, Option, Some, None, nat_lt, ◌==◌, if◌then◌else◌}
use Rattle.scte104_codec.specs.declared.framing.Frame.{Frame}
use Rattle.scte104_codec.specs.declared.framing.Frame.TheVariants.{NeedMore, Whole, BadSize}
use Rattle.wire_fields.specs.Numbers.{number16_at}

-- the least size of a message: a multiple_operation_message begins with 0xFFFF
abbrev pub least_size : List ℕ → ℕ
least_size bytes = if number16_at bytes 0 == 0xFFFF then 12 else 13

-- messageSize, where it is no less than the least
unfoldable pub size_in : List ℕ → Option ℕ
size_in bytes = if nat_lt (number16_at bytes 2) (least_size bytes) then None else Some (number16_at bytes 2)

abbrev pub frame_by : List ℕ → Option ℕ → Frame
frame_by bytes None = BadSize
frame_by bytes (Some size) = if nat_lt (length bytes) size then NeedMore (size - length bytes) else Whole size

-- the message at the front
unfoldable pub frame_of : List ℕ → Frame
frame_of bytes = if nat_lt (length bytes) 4 then NeedMore (4 - length bytes) else frame_by bytes (size_in bytes)
