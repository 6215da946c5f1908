use Rattle.std.proofs.Common.{◌≡◌, ℕ, ◌++◌, ap, ◌∙◌}
use Rattle.byteorder.specs.Endian.{big_bytes}
use Rattle.psi_section.specs.Crc.{crc}
use Rattle.psi_section.proofs.CrcLemmas.{crc_closed}
use Rattle.psi_section.proofs.checksum.seal.Goals as goal

pub returns-clause-value : goal.returns-clause-value
returns-clause-value g c =
    let old = c.args.section.now.items in
    let is : c.crc-remainder.result ≡ crc old = c.crc-remainder.ensures ∙ ap crc c.as_slice.ensures.value in
    c.put_number32.ensures ∙ ap (λ (r : ℕ). old ++ big_bytes 4 r) is

pub returns-clause-checked : goal.returns-clause-checked
returns-clause-checked g c =
    let old = c.args.section.now.items in
    let is : c.crc-remainder.result ≡ crc old = c.crc-remainder.ensures ∙ ap crc c.as_slice.ensures.value in
    ap crc (c.put_number32.ensures ∙ ap (λ (r : ℕ). old ++ big_bytes 4 r) is) ∙ crc_closed old
