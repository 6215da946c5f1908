use Rattle.std.proofs.Common.{◌≡◌, ℕ, List, None, sym, subst}
use Rattle.program_follower.specs.Judging.{fault_of_section}
use Rattle.program_follower.proofs.faultless_map.FaultlessMap.copied.Goals as goal

pub returns-in-Some : goal.returns-in-Some
returns-in-Some c = λ known h.
    let by = c.in-Some.purpose in
    let at = c.in-Some.listed in
    let r = h by at c.in-Some.is in
    let P : List ℕ → Type 0 = λ s. fault_of_section by at known s ≡ None in
    c.keep.ensures known (subst P (sym c.as_slice.ensures.value) r.0) r.1

pub returns-in_default : goal.returns-in_default
returns-in_default c = λ known h. c.new-copy.ensures known
