-- What stands for each packet.
use Rattle.std.proofs.Common.{◌≡◌, ℕ, List, [], ◌∷◌, Bool, true, false, refl, sym, ap, ◌∙◌, Option, None, Some, if◌then◌else◌}
use Rattle.std.proofs.lemmas.Bool.{true≢false}
use Rattle.ts_packet.specs.Fields.{on, in_error, renumbered, with_number, on_one}
use Rattle.ts_packet.specs.Numbering.{moved, number_out, Step}
use Rattle.ts_packet.proofs.Cases.{by_test}
use Rattle.program_follower.specs.declared.purpose.Listed.{Listed}
use Rattle.program_follower.specs.Program.{listed, tables, behind_head}
use Rattle.program_laws.specs.Writing.{body}
use Rattle.output_laws.specs.Output.{Keep, Leave, out_at}
use Rattle.splice_plans.specs.Switching.{Setting, switched_at, history_at, switching, switched_past, place_at, place_of}
use Rattle.splice_plans.specs.Known.{adverts_at}
use Rattle.ts_packet.proofs.FieldLemmas.{error-off}
use Rattle.switch_laws.specs.Whole.{stands_for}
use Rattle.switch_laws.specs.Standing.{IsNoTable, is_left, done_before, steps_before, PacketsStandAs}

pub error-none : (pids : List ℕ) (p : List ℕ) → in_error p ≡ true → on_one pids p ≡ false
error-none [] p e = refl
error-none (pid ∷ pids) p e = let n = error-off pid p e in simp n (error-none pids p e)

switched-error : (pids : List ℕ) (p : List ℕ) → on_one pids p ≡ true → in_error p ≡ false
switched-error pids p s = by_test (in_error p) (λ e. absurd (true≢false (sym s ∙ error-none pids p e))) (λ n. n)

renumbered-is : (p : List ℕ) (steps : List Step) → renumbered (moved steps) p ≡ with_number (number_out p steps) p
unfolding renumbered
renumbered-is p steps = refl

module _ (k : Setting) (p : List ℕ) (past : List (List ℕ)) where
  abbrev pub own : List (List ℕ)
  own = place_of (switched_at k past) (adverts_at k past) (history_at k past) k.packed p (behind_head (Some k.program) past)

  no-table : (o : Option Listed) → listed (Some k.program) past ≡ o → IsNoTable k p past → body (switching k) o p past (tables (Some k.program) p past) (switched_past k past) ≡ place_at k p past
  no-table None h n = refl
  no-table (Some l) h n = let f = n l h in simp f refl

  pub is-place : IsNoTable k p past → stands_for k p past ≡ place_at k p past
  is-place n = no-table (listed (Some k.program) past) refl n

  pub other-place : on k.cue_pid p ≡ false → on_one (switched_at k past) p ≡ false → place_at k p past ≡ p ∷ []
  other-place c s = simp (c, s) refl

  pub own-place : on k.cue_pid p ≡ false → on_one (switched_at k past) p ≡ true → place_at k p past ≡ own
  own-place c s = simp (c, s) refl

  pub by-fate : (d : Bool) → is_left k p past ≡ d → own ≡ out_at k.packed (if d then Leave p else Keep p) (done_before k p past)
  by-fate d h = ap (λ d. out_at k.packed (if d then Leave p else Keep p) (done_before k p past)) h

  kept-is : in_error p ≡ false → out_at k.packed (Keep p) (done_before k p past) ≡ with_number (number_out p (steps_before k p past)) p ∷ []
  kept-is e = simp e (ap (λ q. q ∷ []) (renumbered-is p (steps_before k p past)))

  table-is : (l : Listed) (o : Option Listed) → o ≡ Some l → on l.pid p ≡ true → body (switching k) o p past (tables (Some k.program) p past) (switched_past k past)
      ≡ body (switching k) (Some l) p past (tables (Some k.program) p past) (switched_past k past)
  table-is l o h y = ap (λ o. body (switching k) o p past (tables (Some k.program) p past) (switched_past k past)) h

pub packets_stand_as : PacketsStandAs
packets_stand_as k p past = record {
  marked = λ e. is-place k p past (λ l h. error-off l.pid p e) ∙ other-place k p past (error-off k.cue_pid p e) (error-none (switched_at k past) p e);
  sections = λ l h y. table-is k p past l (listed (Some k.program) past) h y ∙ simp y refl;
  cue = λ n c. is-place k p past n ∙ simp c refl;
  other = λ n c s. is-place k p past n ∙ other-place k p past c s;
  kept = λ n c s d. is-place k p past n ∙ own-place k p past c s ∙ by-fate k p past false d ∙ kept-is k p past (switched-error (switched_at k past) p s);
  left = λ n c s d. is-place k p past n ∙ own-place k p past c s ∙ by-fate k p past true d;
}
