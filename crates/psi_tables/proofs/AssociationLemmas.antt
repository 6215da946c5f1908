-- A program association section that has no fault.
use Rattle.std.proofs.Common.{◌≡◌, ℕ, ◌+◌, ◌-◌, ◌/◌, ◌%◌, ◌≤◌, List, length, slice_index, true, false, None, ap, ◌∙◌, arith}
use Rattle.std.specs.Prelude.{is_none, is_some, not, nat_lt, nat_le, ◌==◌, ◌&&◌}
use Rattle.std.proofs.lemmas.Bool.{leb-true, eqb-true, and_parts, not-false}
use Rattle.std.proofs.lemmas.List.{length-drop, length-take}
use Rattle.psi_tables.specs.declared.fault.TableFault.TheVariants.{WrongTable, BadLength, Sections}
use Rattle.psi_section.specs.Sections.{section_length, has_syntax}
use Rattle.psi_tables.specs.Sections.{is_table, has_size, before_crc, is_current}
use Rattle.psi_tables.specs.Runs.{run_of}
use Rattle.psi_tables.specs.Association.{pair_at, pairs_in, pat_fills, pat_fault}
use Rattle.psi_tables.proofs.Chains.{guarded, none_is}
use Rattle.psi_tables.proofs.PairLemmas.{pairs_fill}

pub record IsPat (bytes : List ℕ) : Type 0 where
  pub id : slice_index bytes 0 ≡ 0
  pub syntax : slice_index bytes 1 / 128 % 2 ≡ 1
  pub most : section_length bytes ≤ 1021
  pub size : section_length bytes + 3 ≡ length bytes
  pub long : 12 ≤ length bytes
  pub filled : is_some (run_of pair_at (pairs_in bytes)) ≡ true
  pub whole : (is_current (slice_index bytes 5) && not (slice_index bytes 7 == 0)) ≡ false

pub faultless : (bytes : List ℕ) → is_none (pat_fault bytes) ≡ true → IsPat bytes
unfolding pat_fault pat_fills
faultless bytes h =
    let first = guarded (nat_lt (length bytes) 3) BadLength _ h in
    let second = guarded (not (is_table 0 bytes)) WrongTable _ first.1 in
    let third = guarded (not (has_size 12 bytes && is_some (run_of pair_at (pairs_in bytes)))) BadLength _ second.1 in
    let fourth = guarded (is_current (slice_index bytes 5) && not (slice_index bytes 7 == 0)) Sections None third.1 in
    let table = and_parts (slice_index bytes 0 == 0) (has_syntax bytes) (not-false (is_table 0 bytes) second.0) in
    let fills = and_parts (has_size 12 bytes) (is_some (run_of pair_at (pairs_in bytes))) (not-false _ third.0) in
    let sized = and_parts (nat_le (section_length bytes) 1021 && (section_length bytes + 3 == length bytes)) (nat_le 12 (length bytes)) fills.0 in
    let parts = and_parts (nat_le (section_length bytes) 1021) (section_length bytes + 3 == length bytes) sized.0 in
    record {
      id = eqb-true _ _ table.0;
      syntax = eqb-true _ _ table.1;
      most = leb-true _ _ parts.0;
      size = eqb-true _ _ parts.1;
      long = leb-true _ _ sized.1;
      filled = fills.1;
      whole = fourth.0;
    }

pub association_long : (bytes : List ℕ) → is_none (pat_fault bytes) ≡ true → 12 ≤ length bytes
association_long bytes h = (faultless bytes h).long

pub association_faultless : (bytes : List ℕ) → is_none (pat_fault bytes) ≡ true → pat_fault bytes ≡ None
association_faultless bytes h = none_is (pat_fault bytes) h

pub pairs_fill_section : (bytes : List ℕ) → 12 ≤ length bytes → is_some (run_of pair_at (pairs_in bytes)) ≡ (length bytes % 4 == 0)
pairs_fill_section bytes long =
    let size : length (pairs_in bytes) % 4 ≡ length bytes % 4 = omega (arith, length-drop 8 (before_crc bytes), length-take (length bytes - 4) bytes) in
    pairs_fill (pairs_in bytes) ∙ ap (λ (k : ℕ). k == 0) size

pub pairs_there : (bytes : List ℕ) → is_none (pat_fault bytes) ≡ true → 8 ≤ length (before_crc bytes)
pairs_there bytes h = let long = (faultless bytes h).long in omega (arith, length-take (length bytes - 4) bytes)

pub filled_long : (bytes : List ℕ) → pat_fills bytes ≡ true → 12 ≤ length bytes
unfolding pat_fills
filled_long bytes h =
    let fills = and_parts (has_size 12 bytes) (is_some (run_of pair_at (pairs_in bytes))) h in
    let sized = and_parts (nat_le (section_length bytes) 1021 && (section_length bytes + 3 == length bytes)) (nat_le 12 (length bytes)) fills.0 in
    leb-true _ _ sized.1
