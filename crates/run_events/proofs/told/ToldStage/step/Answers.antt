use Rattle.std.proofs.Common.{◌++◌}
use Rattle.packet_runs.specs.declared.stage.StageFault.{StageFault}
use Rattle.packet_runs.specs.declared.stage.StageFault.TheVariants.{Packet, Sink}
use Rattle.run_events.proofs.ToldLemmas.{step_fails_so}
use Rattle.run_events.proofs.told.ToldStage.step.Goals as goal

pub returns-in-Ok-clause-ok : goal.returns-in-Ok-clause-ok
returns-in-Ok-clause-ok g c = λ first ps qs start before s is_held.
    let w = c.in-Ok.ensures.ok first.inner.now ps qs start before s is_held in
    record { sent = w.sent; sound = w.sound; sends_it = w.sends_it; out = w.out }

pub returns-in-Err-clause-err : goal.returns-in-Err-clause-err
returns-in-Err-clause-err g c = λ first ps qs start before s is_held.
    step_fails_so (λ t. t.inner.now) _ _ _ c.in-Err.fault first ps _ _ _ _ (c.in-Err.ensures.err first.inner.now ps qs start before s is_held)
