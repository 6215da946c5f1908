-- AS_index, message_number and DPI_PID_index, which stand side by side in the messages of both kinds.
use Rattle.std.specs.Prelude.{ℕ, ◌+◌, ◌<◌, List, ◌∷◌, slice_index}
use Rattle.byteorder.specs.Endian.{big_bytes}
use Rattle.scte104_codec.specs.declared.head.Head.{Head}
use Rattle.wire_fields.specs.Numbers.{number16_at}

unfoldable pub head_at : List ℕ → ℕ → Head
head_at bytes place = record { as_index = slice_index bytes place; number = slice_index bytes (place + 1); index = number16_at bytes (place + 2) }

abbrev pub head_bytes : Head → List ℕ
head_bytes h = h.as_index ∷ h.number ∷ big_bytes 2 h.index

-- what fits its fields
pub record HeadFits (h : Head) : Type 0 where
  pub as_index : h.as_index < 256
  pub number : h.number < 256
  pub index : h.index < 65536
