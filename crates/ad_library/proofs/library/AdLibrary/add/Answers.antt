use Rattle.std.proofs.Common.{inl, inr, refl}
use Rattle.ad_library.proofs.library.AdLibrary.add.Goals as goal

-- memory was refused behind the end: nothing is wrong with the whole
pub returns-clause-at : goal.returns-clause-at
returns-clause-at g c = λ e.
    let (ps, end, none) = c.in-Ok.ensures.end in
    record { packets = ps; at = end.at; before = end.before; last = inr (inr (end.last, inl (refl, none))) }
