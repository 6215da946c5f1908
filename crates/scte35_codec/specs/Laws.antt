-- What holds of every cue of our own.
use Rattle.std.specs.Prelude.{◌≡◌, ℕ, ◌<◌, ◌≤◌, false, List, [], ◌∷◌, All, length, map}
use Rattle.ts_packet.specs.Duplicates.{repeats}
use Rattle.psi_section.specs.Sections.{given, sections_after}
use Rattle.psi_section.specs.Packetising.{first_packet, section_packets, packets_in_turn}
use Rattle.psi_section.specs.Laws.{CanBeGiven}
use Rattle.scte35_codec.specs.declared.cue_out.CueOut.{CueOut}
use Rattle.scte35_codec.specs.Reading.{cue_of}
use Rattle.scte35_codec.specs.Grammar.{Spells}
use Rattle.scte35_codec.specs.Spelling.{cue_bytes, told_of, Fits}

-- its bytes are in the grammar, and are read as what it says
abbrev pub CuesReadBack : Type 0
CuesReadBack = (cue : CueOut) → Fits cue → Spells (told_of cue) (cue_bytes cue) × (cue_of (cue_bytes cue) ≡ told_of cue)

-- its bytes are a section that an assembler gives, and go out in one packet, behind the pointer_field
pub record FitsAPacket (cue : CueOut) : Type 0 where
  pub given : CanBeGiven (cue_bytes cue)
  pub size : length (cue_bytes cue) ≤ 180
  pub packet : (pid n : ℕ) → section_packets pid n (cue_bytes cue) ≡ first_packet pid n (cue_bytes cue) ∷ []

abbrev pub CuesFitAPacket : Type 0
CuesFitAPacket = (cue : CueOut) → Fits cue → FitsAPacket cue

-- A cue in a packet is read back as that cue, whatever packets came before, as long as its packet is no duplicate of the payload packet
-- before it on the PID.
abbrev pub PacketsReadBack : Type 0
PacketsReadBack = (cue : CueOut) (pid n : ℕ) (past : List (List ℕ)) → Fits cue → pid < 8192 → n < 16 → repeats pid (first_packet pid n (cue_bytes cue)) past ≡ false
    → map cue_of (given pid (first_packet pid n (cue_bytes cue)) past) ≡ told_of cue ∷ []

-- Cues that are put in turn by one packetiser are read back as those cues, as long as no packet with the first counter is a duplicate.
abbrev pub PacketsReadBackInTurn : Type 0
PacketsReadBackInTurn = (cues : List CueOut) (pid n : ℕ) (past : List (List ℕ)) → All Fits cues → pid < 8192 → n < 16
    → ((s : List ℕ) → repeats pid (first_packet pid n s) past ≡ false)
    → map cue_of (sections_after past pid (packets_in_turn pid n (map cue_bytes cues))) ≡ map told_of cues
