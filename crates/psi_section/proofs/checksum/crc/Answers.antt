use Rattle.std.proofs.Common.{◌≡◌, ◌*◌, ◌/◌, length, arith, ◌∙◌, ap, sym, drop, ◌+◌}
use Rattle.psi_section.specs.Crc.{crc, crc_remainder}
use Rattle.psi_section.proofs.ChunkLemmas.{chunk_step}
use Rattle.psi_section.proofs.checksum.crc.Goals as goal

pub loop-chunk-preserved : goal.loop-chunk-preserved
loop-chunk-preserved c =
    let count = length c.args.bytes.now / 8 in
    ap (λ r. crc_remainder r (drop ((c.loop-chunk.chunk-index + 1) * 8) c.args.bytes.now)) c.with_chunk-remainder.ensures
    ∙ chunk_step c.loop-chunk.remainder c.loop-chunk.chunk-index count c.as_chunks.result.0.now c.args.bytes.now c.as_chunks.ensures.front (omega arith)
    ∙ c.loop-chunk.invariant

pub returns : goal.returns
unfolding crc
returns c =
    let count = length c.args.bytes.now / 8 in
    let e : c.loop-chunk.chunk-index ≡ count = omega arith in
    c.with_bytes.ensures ∙ ap (crc_remainder c.loop-chunk.remainder) (c.as_chunks.ensures.back ∙ ap (λ i. drop (i * 8) c.args.bytes.now) (sym e)) ∙ c.loop-chunk.invariant
