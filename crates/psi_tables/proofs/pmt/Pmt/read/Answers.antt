use Rattle.std.proofs.Common.{◌≡◌, List, ℕ, Option, true, ap, sym, ◌∙◌, arith}
use Rattle.std.specs.Prelude.{is_none}
use Rattle.psi_tables.specs.declared.fault.TableFault.{TableFault}
use Rattle.wire_fields.specs.Numbers.{AreBytes}
use Rattle.psi_tables.specs.ProgramMap.{pmt, pmt_fault}
use Rattle.psi_tables.proofs.MapLemmas.{faultless}
use Rattle.psi_tables.proofs.MapGrammar.{map_spelled, map_fits, map_back}
use Rattle.psi_tables.proofs.pmt.Pmt.read.Goals as goal

pub returns-in-None-clause-spelled : goal.returns-in-None-clause-spelled
returns-in-None-clause-spelled c =
    let are : AreBytes c.args.bytes.now = λ i. omega (arith, c.type_inv.bytes i) in
    let sound : is_none (pmt_fault c.args.bytes.now) ≡ true = ap (λ (f : Option TableFault). is_none f) (sym c.fault_of.ensures ∙ c.in-None.is) in
    let is = faultless c.args.bytes.now sound in
    (map_fits c.args.bytes.now are is, map_spelled c.args.bytes.now are is)

pub returns-in-None-clause-only : goal.returns-in-None-clause-only
returns-in-None-clause-only c = λ x fits e. ap (λ (xs : List ℕ). pmt xs) e ∙ map_back x fits

pub returns-in-Some-clause-only : goal.returns-in-Some-clause-only
returns-in-Some-clause-only c = λ x fits e. ap (λ (xs : List ℕ). pmt xs) e ∙ map_back x fits
