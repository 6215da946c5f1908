use Rattle.std.proofs.Common.{◌≡◌, drop}
use Rattle.psi_section.specs.Crc.{crc_remainder}
use Rattle.psi_section.proofs.checksum.with_bytes.Given as goal

-- the rest divided from here gives the remainder of all
abbrev pub invariant-loop-byte : goal.invariant-loop-byte
invariant-loop-byte l = crc_remainder l.remainder (drop l.byte-index l.bytes) ≡ crc_remainder l.initial.remainder l.bytes
