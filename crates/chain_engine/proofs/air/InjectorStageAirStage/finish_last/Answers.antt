use Rattle.std.proofs.Common.{length}
use Rattle.chain_engine.specs.Airing.{packets_through, steps_on_air}
use Rattle.chain_engine.proofs.StageLemmas.{injected}
use Rattle.chain_engine.proofs.air.InjectorStageAirStage.finish_last.Goals as goal

pub returns-clause-sends : goal.returns-clause-sends
returns-clause-sends g c = λ first ps qs kept start before s held.
    let d = first.chain.now.service.config in record {
      sent = qs;
      ends_so = injected d _ ps qs c.args.self.now.chain.now.service c.args.self.now.chain.now.talk c.of.result s.run (c.of.ensures d _ (c.counts.ensures d _ s.run.gone.judges));
      out = held;
    }

pub returns-clause-airs : goal.returns-clause-airs
returns-clause-airs g c = λ first ended last told qs start before (is, h) held.
    let d = first.chain.now.service.config in
    let steps = steps_on_air (length h.rs) h.ts (packets_through ended) last in record {
      sent = qs;
      tells_so = record {
        ts = h.ts;
        rs = h.rs;
        gone = h.gone;
        talks = h.talks;
        exchanges = h.exchanges;
        replies = h.replies;
        out = (h.out, c.of.ensures d steps (c.counts.ensures d steps h.gone.judges));
      };
      out = held;
    }
