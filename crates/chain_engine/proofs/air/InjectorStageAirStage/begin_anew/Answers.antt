use Rattle.std.proofs.Common.{[], length, refl, subst}
use Rattle.injector.specs.Injecting.{InjectorStandsFor}
use Rattle.chain_engine.specs.Runs.{reply_in, Exchanged}
use Rattle.chain_engine.specs.Stages.{InjectsFor}
use Rattle.chain_engine.specs.Airing.{packets_through, steps_on_air}
use Rattle.chain_engine.specs.Injected.{InjectedSoFar}
use Rattle.chain_engine.proofs.AiringLemmas.{begun_on_air, injected-anew}
use Rattle.std.specs.Prelude.{None}
use Rattle.chain_engine.proofs.air.InjectorStageAirStage.begin_anew.Goals as goal

pub returns-clause-follows : goal.returns-clause-follows
returns-clause-follows g c = λ purpose past (is, f). (
  is,
  record {
    ts = f.ts;
    n = f.n;
    k = f.k;
    talks = f.talks;
    followed = record { steps = []; injector = (c.begin_anew.ensures (λ n. None)).injector; packets = refl };
  },
)

pub returns-clause-airs : goal.returns-clause-airs
returns-clause-airs g c = λ first ended last told qs behind (is, h).
    let d = first.chain.now.service.config in
    let old = c.args.self.now.chain.now in
    let exchanged = Exchanged g.U.Automation.exchanges g.U.Automation.failures first.automation.now c.args.self.now.automation.now in
    let steps = steps_on_air (length h.rs) h.ts (packets_through ended) last in
    let counted = c.of.ensures d steps (c.counts.ensures d steps h.gone.judges) in
    let anew = subst (λ w. InjectorStandsFor c.begin_anew.new.self.injector w []) is (c.begin_anew.ensures (λ n. None)).injector in (
      is,
      begun_on_air (InjectsFor d) (reply_in d) exchanged ended last old.service c.begin_anew.new.self old.talk (InjectedSoFar d ended last told qs) _ behind h anew
          (injected-anew d ended last told qs behind c.of.result (length h.rs) h.ts counted),
    )
