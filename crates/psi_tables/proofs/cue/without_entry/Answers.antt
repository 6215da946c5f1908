use Rattle.std.proofs.Common.{◌≡◌, List, ℕ, true, false, sym, ap, refl, ◌∙◌, arith}
use Rattle.std.specs.List.{list_any}
use Rattle.psi_tables.specs.Descriptors.{descriptor_at, without_registration}
use Rattle.psi_tables.specs.Streams.{entry_at}
use Rattle.psi_tables.specs.Runs.{things_of}
use Rattle.psi_tables.specs.ProgramMap.{map_of, body_with, descriptors_bytes, entries_bytes}
use Rattle.psi_section.specs.Crc.{with_crc}
use Rattle.psi_tables.specs.Cue.{lists_pid, without_pid}
use Rattle.psi_tables.proofs.CueLemmas.{stripped, unstripped}
use Rattle.psi_tables.proofs.ReadBackLemmas.{stripped_reads}
use Rattle.psi_tables.proofs.cue.without_entry.Goals as goal

pub returns-then-not-is_listed : goal.returns-then-not-is_listed
unfolding map_of
returns-then-not-is_listed c =
    let out = c.entries_without-entries.result.0.items in
    let kept : out ≡ entries_bytes (without_pid c.args.pid (map_of c.args.map.now).entries) =
    c.entries_without-entries.ensures.kept ∙ ap (λ (xs : List ℕ). entries_bytes (without_pid c.args.pid (things_of entry_at xs))) c.loops.ensures.entries in
    let none : list_any (lists_pid c.args.pid) (map_of c.args.map.now).entries ≡ false =
    sym (ap (λ (xs : List ℕ). list_any (lists_pid c.args.pid) (things_of entry_at xs)) c.loops.ensures.entries) ∙ sym c.entries_without-entries.ensures.listed ∙ c.if-not-is_listed.true in
    let made = unstripped c.args.map.now c.args.pid c.requires (λ i. omega (arith, c.type_inv.map i)) c.loops.result.0.now out kept none c.loops.ensures.info in
    let exact = c.map_with.ensures ∙ ap (λ (xs : List ℕ). with_crc (body_with (map_of c.args.map.now) c.loops.result.0.now xs)) c.as_slice.ensures.value ∙ made in
    record { exact = exact; reads = stripped_reads c.args.map.now c.args.pid c.requires (λ i. omega (arith, c.type_inv.map i)) _ exact }

pub returns : goal.returns
unfolding map_of
returns c =
    let out = c.entries_without-entries.result.0.items in
    let info = c.before_registration-info.result.items in
    let kept : out ≡ entries_bytes (without_pid c.args.pid (map_of c.args.map.now).entries) =
    c.entries_without-entries.ensures.kept ∙ ap (λ (xs : List ℕ). entries_bytes (without_pid c.args.pid (things_of entry_at xs))) c.loops.ensures.entries in
    let any : list_any (lists_pid c.args.pid) (map_of c.args.map.now).entries ≡ true =
    sym (ap (λ (xs : List ℕ). list_any (lists_pid c.args.pid) (things_of entry_at xs)) c.loops.ensures.entries) ∙ sym c.entries_without-entries.ensures.listed ∙ c.if-not-is_listed.false in
    let described : info ≡ descriptors_bytes (without_registration (map_of c.args.map.now).descriptors) =
    c.before_registration-info.ensures.value ∙ ap (λ (xs : List ℕ). descriptors_bytes (without_registration (things_of descriptor_at xs))) c.loops.ensures.info in
    let made = stripped c.args.map.now c.args.pid c.requires (λ i. omega (arith, c.type_inv.map i)) info out kept any described in
    let written : c.map_with-2.result.items ≡ with_crc (body_with (map_of c.args.map.now) info out) = c.map_with-2.ensures ∙ rw (c.as_slice-2.ensures.value, c.as_slice-3.ensures.value) refl in
    record { exact = written ∙ made; reads = stripped_reads c.args.map.now c.args.pid c.requires (λ i. omega (arith, c.type_inv.map i)) _ (written ∙ made) }
