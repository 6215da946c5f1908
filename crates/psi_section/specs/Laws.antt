-- What holds of sections whatever code makes them.
use Rattle.std.specs.Prelude.{◌≡◌, ℕ, ◌+◌, ◌<◌, ◌≤◌, ◌^◌, List, [], ◌∷◌, ◌++◌, true, false, length, reverse, filter, map, slice_index, All}
use Rattle.ts_packet.specs.Fields.{on}
use Rattle.ts_packet.specs.Duplicates.{repeats, last_of}
use Rattle.ts_packet.specs.Runs.{Seen, onto}
use Rattle.psi_section.specs.declared.front.Front.TheVariants.{Whole}
use Rattle.psi_section.specs.Sections.{section_length, has_crc, front_of, is_bad, held, given, failed, given_by, sections_with, sections, sections_after}
use Rattle.byteorder.specs.Endian.{big_bytes}
use Rattle.wire_fields.specs.Numbers.{AreBytes}
use Rattle.psi_section.specs.Crc.{crc, with_crc}
use Rattle.psi_section.specs.Packetising.{first_packet, section_packets, packets_in_turn}

-- a packet behind others adds the sections that it finishes
abbrev pub SectionsGrow : Type 0
SectionsGrow = (pid : ℕ) (ps : List (List ℕ)) (p : List ℕ) → sections pid (ps ++ p ∷ []) ≡ sections pid ps ++ given pid p (reverse ps)

-- packets of other PIDs, and those marked in error, change nothing
abbrev pub SectionsOfPid : Type 0
SectionsOfPid = (pid : ℕ) (ps : List (List ℕ)) → sections pid ps ≡ sections pid (filter (on pid) ps)

-- what assemblers of one PID hold after two pasts, and give at the next packet, is the same
pub record SameHistory (pid : ℕ) (past other : List (List ℕ)) : Type 0 where
  pub last : last_of pid past ≡ last_of pid other
  pub part : held pid past ≡ held pid other
  pub failed : failed pid past ≡ failed pid other
  pub given : (p : List ℕ) → given pid p past ≡ given pid p other

-- So it is with all packets of a past, and with those of the PID alone.
abbrev pub OthersChangeNothing : Type 0
OthersChangeNothing = (pid : ℕ) (past : List (List ℕ)) → SameHistory pid past (filter (on pid) past)

-- and a packet of another PID, or marked in error, finishes no section
abbrev pub OthersGiveNothing : Type 0
OthersGiveNothing = (pid : ℕ) (p : List ℕ) (past : List (List ℕ)) → on pid p ≡ false → given pid p past ≡ []

-- the sections that are told with the packets that finish them are the sections
abbrev pub SectionsHavePackets : Type 0
SectionsHavePackets = (pid : ℕ) (seen : List Seen) → map (λ x. x.1) (sections_with pid seen) ≡ given_by pid seen

-- ---- sections that can be given

-- A section that can be given: it is as long as its section_length says, at most 4,096 bytes, its table_id is not 0xFF, and its
-- CRC_32 does not fail.
pub record CanBeGiven (s : List ℕ) : Type 0 where
  pub whole : front_of s ≡ Whole (length s)
  pub good : is_bad s ≡ false

-- the same in the standard's terms
pub record IsSound (s : List ℕ) : Type 0 where
  pub table_id : slice_index s 0 ≡ 0xFF → ⊥
  pub least : 3 ≤ length s
  pub most : length s ≤ 4096
  pub size : section_length s + 3 ≡ length s
  pub checked : has_crc s ≡ true → crc s ≡ 0

-- sections that can be given are those that are sound
pub record GivenWhereSound : Type 0 where
  pub sound : (s : List ℕ) → CanBeGiven s → IsSound s
  pub given : (s : List ℕ) → IsSound s → CanBeGiven s

-- what packets finish, and an assembler gives, can be given
abbrev pub GivenCanBeGiven : Type 0
GivenCanBeGiven = (pid : ℕ) (p : List ℕ) (past : List (List ℕ)) → All CanBeGiven (given pid p past)

-- and where packets are bytes, it is bytes
abbrev pub GivenAreBytes : Type 0
GivenAreBytes = (pid : ℕ) (p : List ℕ) (past : List (List ℕ)) → AreBytes p → All AreBytes past → All AreBytes (given pid p past)

-- ---- sections in packets

-- up to 183 bytes behind pointer_field go out in one packet
abbrev pub FitsOnePacket : Type 0
FitsOnePacket = (pid n : ℕ) (s : List ℕ) → length s ≤ 183 → section_packets pid n s ≡ first_packet pid n s ∷ []

-- behind more packets no part of a section is held, and no CRC_32 has failed in them
pub record NothingIsLeft (pid : ℕ) (past after : List (List ℕ)) : Type 0 where
  pub part : held pid after ≡ []
  pub failed : failed pid after ≡ failed pid past

-- The packets of a section that can be given have that one section, whatever came before them, as long as the first is no duplicate
-- of the payload packet before it; and nothing is left of them.
abbrev pub ReadsBack : Type 0
ReadsBack = (pid n : ℕ) (s : List ℕ) (past : List (List ℕ)) → pid < 8192 → n < 16 → CanBeGiven s → repeats pid (first_packet pid n s) past ≡ false
    → (sections_after past pid (section_packets pid n s) ≡ s ∷ []) × NothingIsLeft pid past (onto past (section_packets pid n s))

-- The packets of sections that can be given, put in turn, have those sections, whatever came before them, as long as no packet with
-- the first counter is a duplicate there: as at the beginning, or behind a payload packet with another counter.
abbrev pub ReadBackInTurn : Type 0
ReadBackInTurn = (pid n : ℕ) (ss past : List (List ℕ)) → pid < 8192 → n < 16 → All CanBeGiven ss → ((s : List ℕ) → repeats pid (first_packet pid n s) past ≡ false)
    → sections_after past pid (packets_in_turn pid n ss) ≡ ss

-- Bytes with their CRC_32 behind have the CRC_32 0, and with another word behind they don't.
pub record CrcCloses : Type 0 where
  pub closes : (bs : List ℕ) → crc (with_crc bs) ≡ 0
  pub alone : (bs : List ℕ) (word : ℕ) → word < 2 ^ 32 → crc (bs ++ big_bytes 4 word) ≡ 0 → word ≡ crc bs
