-- A program map section that has no fault.
use Rattle.std.proofs.Common.{◌≡◌, ℕ, ◌+◌, ◌-◌, ◌/◌, ◌%◌, ◌≤◌, List, length, drop, slice_index, true, None, arith}
use Rattle.std.specs.Prelude.{is_none, is_some, not, nat_lt, nat_le, ◌==◌, ◌&&◌}
use Rattle.std.proofs.lemmas.Bool.{leb-true, eqb-true, and_parts, not-false}
use Rattle.std.proofs.lemmas.List.{length-drop, length-take}
use Rattle.psi_tables.specs.declared.fault.TableFault.TheVariants.{WrongTable, BadLength}
use Rattle.psi_section.specs.Sections.{section_length, has_syntax}
use Rattle.psi_tables.specs.Sections.{is_table, has_size, before_crc}
use Rattle.psi_tables.specs.Runs.{run_of}
use Rattle.psi_tables.specs.Descriptors.{descriptor_at}
use Rattle.psi_tables.specs.Streams.{entry_at}
use Rattle.psi_tables.specs.ProgramMap.{info_length, info_in, entries_in, pmt_fills, pmt_fault}
use Rattle.psi_tables.proofs.Chains.{guarded, none_is}

pub record IsPmt (bytes : List ℕ) : Type 0 where
  pub id : slice_index bytes 0 ≡ 2
  pub syntax : slice_index bytes 1 / 128 % 2 ≡ 1
  pub most : section_length bytes ≤ 1021
  pub size : section_length bytes + 3 ≡ length bytes
  pub long : 16 + info_length bytes ≤ length bytes
  pub described : is_some (run_of descriptor_at (info_in bytes)) ≡ true
  pub listed : is_some (run_of entry_at (entries_in bytes)) ≡ true

pub faultless : (bytes : List ℕ) → is_none (pmt_fault bytes) ≡ true → IsPmt bytes
unfolding pmt_fault pmt_fills
faultless bytes h =
    let described = is_some (run_of descriptor_at (info_in bytes)) in
    let listed = is_some (run_of entry_at (entries_in bytes)) in
    let long = nat_le (16 + info_length bytes) (length bytes) in
    let first = guarded (nat_lt (length bytes) 3) BadLength _ h in
    let second = guarded (not (is_table 2 bytes)) WrongTable _ first.1 in
    let third = guarded (not (has_size 16 bytes && long && described && listed)) BadLength None second.1 in
    let table = and_parts (slice_index bytes 0 == 2) (has_syntax bytes) (not-false (is_table 2 bytes) second.0) in
    let fills = and_parts (has_size 16 bytes && long && described) listed (not-false _ third.0) in
    let fills' = and_parts (has_size 16 bytes && long) described fills.0 in
    let fills'' = and_parts (has_size 16 bytes) long fills'.0 in
    let sized = and_parts (nat_le (section_length bytes) 1021 && (section_length bytes + 3 == length bytes)) (nat_le 16 (length bytes)) fills''.0 in
    let parts = and_parts (nat_le (section_length bytes) 1021) (section_length bytes + 3 == length bytes) sized.0 in
    record {
      id = eqb-true _ _ table.0;
      syntax = eqb-true _ _ table.1;
      most = leb-true _ _ parts.0;
      size = eqb-true _ _ parts.1;
      long = leb-true _ _ fills''.1;
      described = fills'.1;
      listed = fills.1;
    }

pub map_long : (bytes : List ℕ) → is_none (pmt_fault bytes) ≡ true → 16 + info_length bytes ≤ length bytes
map_long bytes h = (faultless bytes h).long

pub map_sixteen : (bytes : List ℕ) → is_none (pmt_fault bytes) ≡ true → 16 ≤ length bytes
map_sixteen bytes h = let long = (faultless bytes h).long in omega arith

pub map_faultless : (bytes : List ℕ) → is_none (pmt_fault bytes) ≡ true → pmt_fault bytes ≡ None
map_faultless bytes h = none_is (pmt_fault bytes) h

pub map_described : (bytes : List ℕ) → is_none (pmt_fault bytes) ≡ true → is_some (run_of descriptor_at (info_in bytes)) ≡ true
map_described bytes h = (faultless bytes h).described

pub map_listed : (bytes : List ℕ) → is_none (pmt_fault bytes) ≡ true → is_some (run_of entry_at (entries_in bytes)) ≡ true
map_listed bytes h = (faultless bytes h).listed

pub loops_short : (bytes : List ℕ) → is_none (pmt_fault bytes) ≡ true → 13 + length (info_in bytes) + length (entries_in bytes) ≤ 1021
loops_short bytes h =
    let is = faultless bytes h in
    let long = is.long in
    let most = is.most in
    let size = is.size in
    let behind = drop 12 (before_crc bytes) in
    let n = info_length bytes in
    omega (arith, length-take n behind, length-drop n behind, length-drop 12 (before_crc bytes), length-take (length bytes - 4) bytes)

pub info_short : (bytes : List ℕ) → is_none (pmt_fault bytes) ≡ true → length (info_in bytes) ≤ 1008
info_short bytes h = let short = loops_short bytes h in omega arith

pub entries_short : (bytes : List ℕ) → is_none (pmt_fault bytes) ≡ true → length (entries_in bytes) ≤ 1008
entries_short bytes h = let short = loops_short bytes h in omega arith
