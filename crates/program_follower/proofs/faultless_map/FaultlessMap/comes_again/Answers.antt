use Rattle.std.proofs.Common.{◌≡◌, ℕ, List, None, Some, sym, ap, subst, ◌∙◌}
use Rattle.std.proofs.lemmas.Bool.{eqb-true, eq-eqb}
use Rattle.std.proofs.lemmas.Slice.Eq.{slice_eq-Decides}
use Rattle.program_follower.specs.declared.purpose.Purpose.{Purpose}
use Rattle.program_follower.specs.declared.purpose.Listed.{Listed}
use Rattle.program_follower.specs.Judging.{fault_of_section}
use Rattle.program_follower.proofs.FaultlessMapLemmas.{purpose_same, listed_equal}
use Rattle.program_follower.proofs.faultless_map.FaultlessMap.comes_again.Goals as goal
use Rattle.program_follower.proofs.faultless_map.FaultlessMap.comes_again.Goals.{then-eq, else-eq}

pub returns-then-eq-2 : goal.returns-then-eq-2
returns-then-eq-2 c = λ known faultless same.
    let section = c.args.section.now in
    let is = (slice_eq-Decides (λ a b. (eqb-true a b, eq-eqb a b)) c.as_slice.result.now section c.eq-then-eq-2.result c.eq-then-eq-2.ensures).0 same in
    elim c.if-eq.branch [
      | then-eq w ↦ (
          let by = purpose_same c.in-Some.by c.args.purpose.now (sym c.eq.ensures ∙ w.if-eq.true) in
          let at = listed_equal c.in-Some.at c.args.listed.now (sym w.eq-then-eq.ensures ∙ sym w.value-is ∙ c.if-eq-2.true) in
          let r = faultless c.args.purpose.now c.args.listed.now (c.in-Some.is ∙ ap (λ (x : Purpose). Some (x, c.in-Some.at)) by ∙ ap (λ (x : Listed). Some (c.args.purpose.now, x)) at) in
          let P : List ℕ → Type 0 = λ s. fault_of_section c.args.purpose.now c.args.listed.now known s ≡ None in
          (subst P (sym c.as_slice.ensures.value ∙ is) r.0, r.1))
      | else-eq w ↦ absurd (cc)
    ]
