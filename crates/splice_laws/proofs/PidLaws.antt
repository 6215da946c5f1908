-- The laws, for a PID of a run and its units.
use Rattle.std.specs.Prelude.{reverse}
use Rattle.std.proofs.Common.{◌∙◌}
use Rattle.splice_laws.specs.Splicing.{PlayedEvent, stream, begun}
use Rattle.splice_laws.specs.Rows.{CarriesPlacedUnits, CarriesSpliceUnits}
use Rattle.splice_laws.proofs.PidLemmas.{pids_are_streams}
use Rattle.splice_laws.proofs.PlacedLemmas.{carried_is_placed}
use Rattle.splice_laws.proofs.SpliceLemmas.{placed_is_splice}
use Rattle.splice_laws.proofs.RowLemmas.{first_rows, placed_units_are}

pub carries_placed_units : CarriesPlacedUnits
carries_placed_units sw pid xs o slice ps = carried_is_placed (stream sw pid) (pids_are_streams sw pid) xs o slice ps ∙ placed_units_are sw pid xs slice ps

pub carries_splice_units : CarriesSpliceUnits
carries_splice_units sw pid xs o slice ps d =
    let r = stream sw pid in
    let k = pids_are_streams sw pid in
    carried_is_placed r k xs o slice ps ∙ placed_is_splice r k xs o slice ps d ∙ first_rows sw pid slice (λ (x : PlayedEvent). begun r x (reverse ps)) xs ps
