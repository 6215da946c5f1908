use Rattle.std.proofs.Common.{◌∙◌, ap, drop, ◌+◌, arith}
use Rattle.psi_section.specs.Crc.{crc_remainder}
use Rattle.psi_section.proofs.CrcLemmas.{walk_step, walk_end}
use Rattle.psi_section.proofs.checksum.with_bytes.Goals as goal

pub loop-byte-preserved : goal.loop-byte-preserved
loop-byte-preserved c =
    ap (λ r. crc_remainder r (drop (c.loop-byte.byte-index + 1) c.args.bytes.now)) c.with_byte-remainder.ensures
    ∙ walk_step c.loop-byte.remainder c.loop-byte.byte-index c.args.bytes.now (omega arith)
    ∙ c.loop-byte.invariant

pub returns : goal.returns
returns c = walk_end c.loop-byte.remainder c.args.remainder c.loop-byte.byte-index c.args.bytes.now (omega arith) c.loop-byte.invariant
