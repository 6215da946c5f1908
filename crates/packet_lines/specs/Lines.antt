-- The lines of packets: each the 376 upper case hexadecimal digits of its 188 bytes, and the line's end, 0x0A.
use Rattle.std.specs.Prelude.{ℕ, List, [], ◌∷◌, ◌++◌}
use Rattle.hex_digits.specs.Digits.{digits_of}

-- the line of a packet: its digits and the line's end
abbrev pub line_of : List ℕ → List ℕ
line_of packet = digits_of packet ++ 10 ∷ []

-- the lines of packets, one after another
abbrev pub lines_of : List (List ℕ) → List ℕ
lines_of [] = []
lines_of (packet ∷ packets) = line_of packet ++ lines_of packets
