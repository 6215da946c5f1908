use Rattle.run_events.proofs.told.ToldAirStage.pass_unjudged.Goals as goal

pub returns-in-Ok-clause-airs : goal.returns-in-Ok-clause-airs
returns-in-Ok-clause-airs g c = λ first ended last told qs start before airs held.
    let w = c.in-Ok.ensures.airs first.inner.now ended last told qs start before airs held in
    record { sent = w.sent; airs_so = w.airs_so; out = w.out }
