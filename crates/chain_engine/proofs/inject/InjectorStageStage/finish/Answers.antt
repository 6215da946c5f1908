use Rattle.chain_engine.proofs.StageLemmas.{injected}
use Rattle.chain_engine.proofs.inject.InjectorStageStage.finish.Goals as goal

pub returns-clause-ok : goal.returns-clause-ok
returns-clause-ok g c = λ first ps qs kept start before s held.
    let d = first.chain.now.service.config in record {
      sent = qs;
      ends_so = injected d _ ps qs c.args.self.now.chain.now.service c.args.self.now.chain.now.talk c.of.result s.run (c.of.ensures d _ (c.counts.ensures d _ s.run.gone.judges));
      out = held;
    }
