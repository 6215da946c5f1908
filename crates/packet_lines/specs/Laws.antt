-- What holds of lines as they are written and as they are read.
use Rattle.std.specs.Prelude.{◌≡◌, ℕ, ◌<◌, ◌⊎◌, List, [], ◌∷◌, ◌++◌, Some, None, All, length, take}
use Rattle.ts_packet.specs.Packets.{bytes_of}
use Rattle.ts_packet.specs.declared.reader.ReadFault.TheVariants.{Truncated}
use Rattle.unit_cut.specs.FirstFault.{first_fault, before_fault}
use Rattle.unit_cut.specs.declared.run.CutFault.TheVariants.{Read}
use Rattle.packet_lines.specs.Lines.{line_of, lines_of}
use Rattle.packet_lines.specs.Texts.{packet_in, bytes_told}

-- what is written is read: a packet's line tells its bytes, before those of the text behind it
abbrev pub LinesTellTheirPackets : Type 0
LinesTellTheirPackets = (packet rest : List ℕ) → All (λ b. b < 256) packet → length packet ≡ 188 → bytes_told (line_of packet ++ rest) ≡ packet ++ bytes_told rest

-- a line begins this text that is no packet's
pub record BeginsBadly (text : List ℕ) : Type 0 where
  pub some : 0 < length text
  pub bad : packet_in (take 377 text) ≡ None

-- the text is these packets' lines, with or without the last line's end, and tells their bytes; or a bad line stands behind their lines
abbrev pub IsTextOf : List (List ℕ) → List ℕ → Type 0
IsTextOf ps text = (((text ≡ lines_of ps) ⊎ (text ++ 10 ∷ [] ≡ lines_of ps)) × (bytes_told text ≡ bytes_of ps))
    ⊎ ((rest : List ℕ) × (text ≡ lines_of ps ++ rest) × BeginsBadly rest × (bytes_told text ≡ bytes_of ps ++ 0 ∷ []))

-- what is read was written so
abbrev pub TextsAreLines : Type 0
TextsAreLines = (text : List ℕ) → (ps : List (List ℕ)) × All (λ p. length p ≡ 188) ps × All (λ p. All (λ b. b < 256) p) ps × IsTextOf ps text

-- A BAD LINE IS THE FIRST FAULT of a text where the bytes that it tells end in the middle of a packet, and no packet before has a fault.
-- It stands right behind the lines of these packets.
abbrev pub BadLineIsFirst : Type 0
BadLineIsFirst = (pid : ℕ) (text : List ℕ) → first_fault pid (bytes_told text) ≡ Some (Read Truncated) →
    (rest : List ℕ) × (text ≡ lines_of (before_fault pid (bytes_told text)) ++ rest) × BeginsBadly rest
