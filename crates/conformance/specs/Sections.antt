-- Which packets words spell, and which sections these finish.
use Rattle.std.specs.Prelude.{◌≡◌, ℕ, List, [], ◌∷◌, Option, None, Some, option_and_then, is_none, length, map, reverse, ◌==◌, ◌&&◌, if◌then◌else◌}
use Rattle.hex_digits.specs.Digits.{spelled}
use Rattle.ts_packet.specs.Packets.{packet_fault}
use Rattle.ts_packet.specs.Runs.{Seen, seen_after}
use Rattle.psi_section.specs.Sections.{failed, sections_with}
use Rattle.psi_section.specs.Assembling.{capped}
use Rattle.conformance.specs.declared.sections.Finished.{Finished}
use Rattle.conformance.specs.declared.sections.Found.{Found}

-- ---- packets

-- the packet that these bytes are, where they are one
abbrev pub good_packet : List ℕ → Option (List ℕ)
good_packet bytes = if (length bytes == 188) && is_none (packet_fault bytes) then Some bytes else None

-- the packet that this word spells
abbrev pub packet_of : List ℕ → Option (List ℕ)
packet_of word = option_and_then good_packet (spelled word)

-- a byte before the first of some words
abbrev pub before_word : ℕ → List (List ℕ) → List (List ℕ)
before_word c [] = (c ∷ []) ∷ []
before_word c (word ∷ words) = (c ∷ word) ∷ words

-- what stands between spaces
abbrev pub words_of : List ℕ → List (List ℕ)
words_of [] = [] ∷ []
words_of (c ∷ rest) = if c == 32 then [] ∷ words_of rest else before_word c (words_of rest)

-- the words behind a space, where there is one
abbrev pub words_behind : Option (List ℕ) → List (List ℕ)
words_behind None = []
words_behind (Some rest) = words_of rest

-- a packet before others, where all of them are
abbrev pub packet_before : Option (List ℕ) → Option (List (List ℕ)) → Option (List (List ℕ))
packet_before None packets = None
packet_before (Some packet) None = None
packet_before (Some packet) (Some packets) = Some (packet ∷ packets)

-- the packets that these words spell, where each spells one
abbrev pub packets_in : List (List ℕ) → Option (List (List ℕ))
packets_in [] = Some []
packets_in (word ∷ words) = packet_before (packet_of word) (packets_in words)

-- ---- sections

-- the sections of one packet, behind its place
abbrev pub at_place : ℕ → List (List ℕ) → List (ℕ × List ℕ)
at_place place sections = map (λ section. (place, section)) sections

-- a section behind the place of the packet that finishes it: how many came before that
abbrev pub place_of : Seen × List ℕ → ℕ × List ℕ
place_of x = (length x.0.past, x.1)

-- the sections that packets finish that come in this order behind a past, newest first
abbrev pub finished_after : ℕ → List (List ℕ) → List (List ℕ) → List (ℕ × List ℕ)
finished_after pid past packets = map place_of (sections_with pid (seen_after past packets))

-- what the code keeps of a section: its packet's place and its bytes
abbrev pub placed : Finished → ℕ × List ℕ
placed finished = (finished.place, finished.section.items)

-- this was found in the packets of a PID
pub record IsFoundIn (pid : ℕ) (packets : List (List ℕ)) (found : Found) : Type 0 where
  pub bad : found.bad ≡ capped (failed pid (reverse packets))
  pub finished : map placed found.finished.items ≡ finished_after pid [] packets
