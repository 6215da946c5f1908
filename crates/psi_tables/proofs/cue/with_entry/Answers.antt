use Rattle.std.proofs.Common.{◌≡◌, ◌<◌, ◌≤◌, ◌++◌, List, ℕ, ap, ◌∙◌, arith, refl}
use Rattle.psi_tables.specs.Descriptors.{cue_registration, descriptor_bytes}
use Rattle.psi_tables.specs.Streams.{entry_bytes}
use Rattle.psi_tables.specs.ProgramMap.{info_in, entries_in, map_length, map_of, body_with}
use Rattle.psi_section.specs.Crc.{with_crc}
use Rattle.psi_tables.specs.Cue.{cue_entry}
use Rattle.psi_tables.proofs.CueLemmas.{added, too_long}
use Rattle.psi_tables.proofs.ReadBackLemmas.{added_reads}
use Rattle.psi_tables.proofs.cue.with_entry.Goals as goal

pub returns-then-len-gt1021 : goal.returns-then-len-gt1021
returns-then-len-gt1021 c =
    let info : c.joined-info.result.items ≡ info_in c.args.map.now ++ descriptor_bytes cue_registration = c.joined-info.ensures ∙ ap (λ (xs : List ℕ). xs ++ descriptor_bytes cue_registration) c.loops.ensures.info in
    let entries : c.joined-entries.result.items ≡ entries_in c.args.map.now ++ entry_bytes (cue_entry c.args.pid) = c.joined-entries.ensures ∙ rw (c.loops.ensures.entries, c.entry_of.ensures.value) refl in
    let long : 1021 < map_length c.joined-info.result.items c.joined-entries.result.items = omega (arith, c.len.ensures.value, c.len-2.ensures.value) in
    record { reads = tt; exact = too_long c.args.map.now c.args.pid c.requires (λ i. omega (arith, c.type_inv.map i)) c.joined-info.result.items c.joined-entries.result.items info entries long }

pub returns : goal.returns
returns c =
    let info : c.joined-info.result.items ≡ info_in c.args.map.now ++ descriptor_bytes cue_registration = c.joined-info.ensures ∙ ap (λ (xs : List ℕ). xs ++ descriptor_bytes cue_registration) c.loops.ensures.info in
    let entries : c.joined-entries.result.items ≡ entries_in c.args.map.now ++ entry_bytes (cue_entry c.args.pid) = c.joined-entries.ensures ∙ rw (c.loops.ensures.entries, c.entry_of.ensures.value) refl in
    let short : map_length c.joined-info.result.items c.joined-entries.result.items ≤ 1021 = omega (arith, c.len.ensures.value, c.len-2.ensures.value) in
    let made = added c.args.map.now c.args.pid c.requires (λ i. omega (arith, c.type_inv.map i)) c.joined-info.result.items c.joined-entries.result.items info entries short in
    let written : c.map_with.result.items ≡ with_crc (body_with (map_of c.args.map.now) c.joined-info.result.items c.joined-entries.result.items) = c.map_with.ensures ∙ rw (c.as_slice.ensures.value, c.as_slice-2.ensures.value) refl in
    record { exact = rw written made; reads = added_reads c.args.map.now c.args.pid c.requires (λ i. omega (arith, c.type_inv.map i)) c.map_with.result.items c.entry_of.ensures.below (rw written made) }
