-- A text of lines, each the 376 upper case hexadecimal digits of a packet's 188 bytes and the line's end, 0x0A, which may be missing
-- behind the last; and what is read of it, and written to it, as packets.
use Rattle.std.specs.Prelude.{◌≡◌, ◌≢◌, ℕ, zero, suc, ◌+◌, ◌/◌, ◌||◌, ◌&&◌, ◌++◌, Bool, true, false, List, [], ◌∷◌, Option, Some, None, IfSome, Result, nat_eq, length, take, drop, slice_index, if◌then◌else◌, option_map}
use Rattle.hex_digits.specs.Digits.{spelled}
use Rattle.ts_packet.specs.Packets.{packet_fault, or_fault}
use Rattle.ts_packet.specs.declared.packet.PacketFault.{PacketFault}
use Rattle.ts_packet.specs.declared.sink.PutFault.{PutFault}
use Rattle.ts_packet.specs.declared.sink.PutFault.TheVariants.{Failed}
use Rattle.packet_lines.specs.Lines.{line_of, lines_of}

-- a line: 376 characters, or these and the line's end
abbrev pub is_sized : List ℕ → Bool
is_sized line = nat_eq (length line) 376 || (nat_eq (length line) 377 && nat_eq (slice_index line 376) 10)

-- the bytes that it spells; None where it is no packet's
abbrev pub packet_in : List ℕ → Option (List ℕ)
packet_in line = if is_sized line then spelled (take 376 line) else None

-- a packet, or why it is none
abbrev pub judged : List ℕ → Result (List ℕ) PacketFault
judged p = or_fault (packet_fault p) p

-- a line's bytes before those of the text behind it; a byte, which is no packet, for one that is no packet's
abbrev pub line_before : Option (List ℕ) → List ℕ → List ℕ
line_before None behind = 0 ∷ []
line_before (Some p) behind = p ++ behind

-- the bytes of so many lines
abbrev pub lines_told : ℕ → List ℕ → List ℕ
lines_told zero text = []
lines_told (suc n) text = line_before (packet_in (take 377 text)) (lines_told n (drop 377 text))

-- THE BYTES OF A TEXT: those of the packets of its lines, up to the first line that is no packet's, and one byte in its stead
unfoldable pub bytes_told : List ℕ → List ℕ
bytes_told text = lines_told ((length text + 376) / 377) text

-- what a reader has left of a text, and where the text ended behind the last line that it gave
abbrev pub left_in : Bool → Option (List ℕ) → Option (List ℕ)
left_in false text = option_map bytes_told text
left_in true text = option_map (λ _. []) text

-- ---- lines written

-- where a text was known first, that is known, and then the lines of the packets
abbrev pub WrittenLines : Option (List ℕ) → Option (List ℕ) → List (List ℕ) → Type 0
WrittenLines known start ps = IfSome start (λ text. known ≡ Some (text ++ lines_of ps))

-- and then a front of a further line
abbrev pub FailsToWriteLine : Option (List ℕ) → Option (List ℕ) → List (List ℕ) → List ℕ → Type 0
FailsToWriteLine known start ps p = (n : ℕ) × IfSome start (λ text. known ≡ Some (text ++ (lines_of ps ++ take n (line_of p))))

-- a writer that has failed in no put, and what is known of its device
abbrev pub HasWrittenLines : Bool → Option (List ℕ) → Option (List ℕ) → List (List ℕ) → Type 0
HasWrittenLines broken known start ps = (broken ≡ false) × WrittenLines known start ps

-- one whose put of this packet failed so, behind these
abbrev pub HasFailedInLine : Bool → PutFault → Option (List ℕ) → Option (List ℕ) → List (List ℕ) → List ℕ → Type 0
HasFailedInLine broken fault known start ps p = (broken ≡ true) × (fault ≢ Failed) × FailsToWriteLine known start ps p

-- one that could not send what it kept back of these: its device holds all their lines, and a front of them is out
abbrev pub HasFailedToSendLines : Bool → PutFault → Option (List ℕ) → Option (List ℕ) → List (List ℕ) → Type 0
HasFailedToSendLines broken fault known start ps = (broken ≡ true) × (fault ≢ Failed) × WrittenLines known start ps
