use Rattle.std.proofs.lemmas.Result.{IfOk-weaker}
use Rattle.ts_packet.specs.Sinks.{Written}
use Rattle.passages.specs.Runs.{AskerTells}
use Rattle.passages.proofs.ChainLemmas.{exactly_so, headline_so}
use Rattle.passages.proofs.chaining.run_chain_from.Goals as goal

pub returns : goal.returns
returns g c =
    let is_out = Written (g.O.Write.contents c.run_from.new.output) (g.O.Write.contents c.args.output.now) in
    let tells = AskerTells g.W.Write.contents c.args.asker.now c.run_from.new.asker in
    let input = g.R.Read.remaining c.args.input in
    record {
      headline = IfOk-weaker c.run_from.result _ _ (λ ran done. headline_so c.args.library.now c.args.options.now.config input is_out tells ran.report done) c.run_from.ensures.done;
      exactly = IfOk-weaker c.run_from.result _ _ (λ ran done. exactly_so c.args.library.now c.args.options.now.config input is_out tells ran.report done) c.run_from.ensures.done;
      stopped = c.run_from.ensures.stopped;
      says = c.run_from.ensures.says;
      unwatched = c.run_from.ensures.unwatched;
    }
