use Rattle.std.proofs.Common.{◌++◌}
use Rattle.chain_engine.specs.Runs.{Exchanged}
use Rattle.air_laws.proofs.HeadlineLemmas.{runs_on_air_are_so, known-ok}
use Rattle.air_laws.proofs.headline.run_on_air_as_requested.Goals as goal

pub returns : goal.returns
returns g c = record {
  headline = λ d start before bs stands is_held given.
      known-ok c.run_on_air.result (λ told bytes ran. runs_on_air_are_so _ c.args.library.now d bs
      (λ ps. g.K.PacketSink.holds c.run_on_air.new.out start (before ++ ps))
      (Exchanged g.U.Automation.exchanges g.U.Automation.failures c.args.automation.now c.run_on_air.new.automation) told.report bytes ran)
      (c.run_on_air.ensures.bytes bs given) (c.run_on_air.ensures.out d start before bs stands is_held given);
}
