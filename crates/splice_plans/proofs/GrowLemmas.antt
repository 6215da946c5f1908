-- What is out stays out.
use Rattle.std.proofs.Common.{◌≡◌, ℕ, ◌∷◌, ◌++◌, [], List, refl, sym, ◌∙◌, append_assoc, rules}
use Rattle.std.specs.Prelude.{Some}
use Rattle.ts_packet.specs.Runs.{onto}
use Rattle.program_laws.specs.Writing.{block}
use Rattle.splice_plans.specs.Switching.{switching, switched_past}
use Rattle.splice_plans.specs.Laws.{SwitchGrows}

one_more : (more : List (List ℕ)) (p : List ℕ) (past : List (List ℕ)) → (more ++ p ∷ []) ++ past ≡ more ++ (p ∷ past)
one_more more p past = search (rules, append_assoc)

pub onto_grows : (past ps : List (List ℕ)) → (more : List (List ℕ)) × (onto past ps ≡ more ++ past)
onto_grows past [] = ([], refl)
onto_grows past (p ∷ ps) = let g = onto_grows (p ∷ past) ps in (g.0 ++ p ∷ [], g.1 ∙ sym (one_more g.0 p past))

pub switch_grows : SwitchGrows
switch_grows k p past =
    onto_grows (switched_past k past) (block (switching k) (Some k.program) p past (switched_past k past))
