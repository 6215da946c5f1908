use Rattle.std.proofs.Common.{◌≡◌, List, subst}
use Rattle.std.specs.Bool.{Decides}
use Rattle.std.proofs.lemmas.Slice.Eq.{slice_eq-Decides}
use Rattle.psi_tables.specs.declared.stream.Stream.{Stream}
use Rattle.psi_tables.proofs.SwitchedLemmas.{stream_decides, same_by, other_by}
use Rattle.psi_tables.proofs.pmt.Pmt.switches.Goals as goal

pub returns-in-Ok : goal.returns-in-Ok
returns-in-Ok c =
    let d = slice_eq-Decides stream_decides c.as_slice.result.now c.args.streams.now c.eq.result c.eq.ensures in
    let d' = subst (λ (xs : List Stream). Decides c.eq.result (xs ≡ c.args.streams.now)) c.as_slice.ensures.value d in
    same_by _ c.args.streams.now c.in-Ok.switched.items c.eq.result c.in-Ok.ensures d'

pub returns-in-Err : goal.returns-in-Err
returns-in-Err c = other_by _ c.args.streams.now c.in-Err.field-0 c.in-Err.ensures
