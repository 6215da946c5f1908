use Rattle.std.proofs.lemmas.Result.{IfOk-weaker}
use Rattle.ts_packet.specs.Sinks.{Written}
use Rattle.packet_recovery.specs.Reading.{left_to_give}
use Rattle.passages.specs.Runs.{AskerTells}
use Rattle.passages.proofs.ChainLemmas.{headline_on_air_so}
use Rattle.passages.proofs.air_chaining.run_chain_on_air_from.Goals as goal

pub returns-clause-headline : goal.returns-clause-headline
returns-clause-headline g c =
    let is_out = Written (g.O.Write.contents c.run_on_air_from.new.output) (g.O.Write.contents c.args.output.now) in
    let tells = AskerTells g.W.Write.contents c.args.asker.now c.run_on_air_from.new.asker in
    let input = left_to_give (g.R.Read.remaining c.args.input) in
    IfOk-weaker c.run_on_air_from.result _ _ (λ ran done. headline_on_air_so c.args.library.now c.args.options.now.config input is_out tells ran.report.report done) c.run_on_air_from.ensures.done
