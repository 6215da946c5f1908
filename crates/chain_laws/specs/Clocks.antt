-- The clock references of the switched streams of the output.
use Rattle.std.specs.Prelude.{◌≡◌, ℕ, true, List, Option}
use Rattle.psi_tables.specs.declared.config.Config.{Config}
use Rattle.ad_library.specs.Advertisements.{Advertisement}
use Rattle.injector.specs.Steps.{Step}
use Rattle.ts_packet.specs.Fields.{is_among}
use Rattle.splice_plans.specs.Playing.{Adverts}
use Rattle.splice_plans.specs.Adverts.{packed_units}
use Rattle.switch_laws.specs.Clocks.{clocks, HaveNoClocks}
use Rattle.chain_laws.specs.Runs.{network_of, switched_by, output_by, IsWholeRun}

-- THE LAW OF CLOCK REFERENCES: those of a switched stream (ISO/IEC 13818-1, 2.4.3.5, program_clock_reference) are the network's, as one list,
-- in order: none is lost, put in twice or moved
abbrev pub ClocksAreTheNetworks : Type 0
ClocksAreTheNetworks = (c : Config) (filed : ℕ → Option Advertisement) (steps : List Step) → IsWholeRun c filed steps → (pid : ℕ) → is_among pid (switched_by c steps) ≡ true →
    clocks pid (output_by c filed steps) ≡ clocks pid (network_of steps)

-- THE LAW OF UNITS WITHOUT CLOCK REFERENCES: no packet that a unit of an advertisement is put in has one, whatever advertisements are played
abbrev pub UnitsHaveNoClocks : Type 0
UnitsHaveNoClocks = (ads : Adverts) → HaveNoClocks packed_units ads
