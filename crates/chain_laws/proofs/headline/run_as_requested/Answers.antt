use Rattle.std.proofs.Common.{◌++◌}
use Rattle.std.proofs.lemmas.Result.{IfOk-weaker}
use Rattle.std.proofs.lemmas.Option.{IfSome_then}
use Rattle.ad_library.specs.Library.{held}
use Rattle.chain_engine.specs.Runs.{Exchanged}
use Rattle.chain_laws.proofs.HeadlineLemmas.{runs_are_so, headline_by}
use Rattle.chain_laws.proofs.headline.run_as_requested.Goals as goal

pub returns : goal.returns
returns g c = record {
  headline = λ d start before stands holds.
      IfOk-weaker c.run.result _ _ (λ report ran. IfSome_then (g.P.PacketSource.left c.args.network.now) ran
      (λ bs one. headline_by d (held c.args.library.now) bs (λ ps. g.K.PacketSink.holds c.run.new.out start (before ++ ps))
      (Exchanged g.U.Automation.exchanges g.U.Automation.failures c.args.automation.now c.run.new.automation) report
      (runs_are_so _ c.args.library.now d bs (λ ps. g.K.PacketSink.holds c.run.new.out start (before ++ ps))
      (Exchanged g.U.Automation.exchanges g.U.Automation.failures c.args.automation.now c.run.new.automation) report one)))
      (c.run.ensures.ok d start before stands holds);
  exactly = λ d start before stands holds.
      IfOk-weaker c.run.result _ _ (λ report ran. IfSome_then (g.P.PacketSource.left c.args.network.now) ran
      (λ bs one. runs_are_so _ c.args.library.now d bs (λ ps. g.K.PacketSink.holds c.run.new.out start (before ++ ps))
      (Exchanged g.U.Automation.exchanges g.U.Automation.failures c.args.automation.now c.run.new.automation) report one))
      (c.run.ensures.ok d start before stands holds);
}
