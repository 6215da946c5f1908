use Rattle.std.proofs.Common.{◌≡◌, drop, ◌*◌, ◌-◌, ◌^◌}
use Rattle.psi_section.specs.Crc.{crc_remainder}
use Rattle.psi_section.proofs.checksum.crc.Given as goal

-- the bytes behind the chunks so far, divided from here, give the remainder of all
abbrev pub invariant-loop-chunk : goal.invariant-loop-chunk
invariant-loop-chunk l = crc_remainder l.remainder (drop (l.chunk-index * 8) l.bytes) ≡ crc_remainder (2 ^ 32 - 1) l.bytes
