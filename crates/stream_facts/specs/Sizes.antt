-- How packets stand in the bytes of a stream: one behind the other, or with bytes before or behind each.
use Rattle.std.specs.Prelude.{ℕ, ◌*◌, List, [], ◌∷◌, Bool, false, ◌&&◌, ◌||◌, ◌==◌, if◌then◌else◌, nat_lt, length, slice_index}
use Rattle.stream_facts.specs.declared.packet_size.PacketSize.{PacketSize}
use Rattle.stream_facts.specs.declared.packet_size.PacketSize.TheVariants.{Plain, Timed, Coded}

-- from one packet to the next: 188 bytes (ISO/IEC 13818-1, 2.4.3.2); four more before each, as recorders write; or sixteen more behind
-- each, of the outer code RS(204, 188) of EN 300 744, 4.3.2
abbrev pub stride_of : PacketSize → ℕ
stride_of Plain = 188
stride_of Timed = 192
stride_of Coded = 204

abbrev pub bytes_before : PacketSize → ℕ
bytes_before Plain = 0
bytes_before Timed = 4
bytes_before Coded = 0

abbrev pub bytes_behind : PacketSize → ℕ
bytes_behind Plain = 0
bytes_behind Timed = 0
bytes_behind Coded = 16

-- a sync byte stands there (2.4.3.3: 0x47)
abbrev pub is_sync : ℕ → List ℕ → Bool
is_sync place bs = nat_lt place (length bs) && (slice_index bs place == 71)

-- five of them in a row, so far apart, at the front
abbrev pub in_row : ℕ → List ℕ → Bool
in_row step bs = is_sync 0 bs && is_sync step bs && is_sync (2 * step) bs && is_sync (3 * step) bs && is_sync (4 * step) bs

-- such a row begins somewhere
unfoldable pub is_spaced : ℕ → List ℕ → Bool
is_spaced step [] = false
is_spaced step (b ∷ bs) = in_row step (b ∷ bs) || is_spaced step bs

-- the first size that has such a row
abbrev pub packet_size_of : List ℕ → PacketSize
packet_size_of bs = if is_spaced 188 bs then Plain
    else (if is_spaced 192 bs then Timed
    else (if is_spaced 204 bs then Coded
    else Plain))
