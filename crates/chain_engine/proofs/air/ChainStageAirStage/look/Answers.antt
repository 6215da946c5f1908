use Rattle.std.proofs.Common.{length, reverse, ap, ◌∙◌}
use Rattle.program_follower.specs.Faults.{network_fault}
use Rattle.program_follower.specs.Purposes.{writing_cues}
use Rattle.chain_engine.specs.Runs.{steps_of}
use Rattle.chain_engine.proofs.StepsLemmas.{steps_packets}
use Rattle.chain_engine.proofs.air.ChainStageAirStage.look.Goals as goal

pub returns-clause-sends : goal.returns-clause-sends
returns-clause-sends g c = λ first ps qs kept s.
    let run = s.1.run in
    let d = first.chain.now.service.config in
    c.look.ensures d (steps_of (length run.rs) run.ts (reverse ps)) run.gone.injector
    ∙ ap (network_fault (writing_cues d) c.args.packet.now) (steps_packets (length run.rs) run.ts (reverse ps))
