use Rattle.run_events.proofs.told.ToldAirStage.finish_last.Goals as goal

pub returns-in-Ok-clause-sends : goal.returns-in-Ok-clause-sends
returns-in-Ok-clause-sends g c = λ first ps qs kept start before s is_held.
    let w = c.in-Ok.ensures.sends first.inner.now ps qs kept start before s is_held in
    record { sent = w.sent; ends_so = w.ends_so; out = w.out }

pub returns-in-Ok-clause-airs : goal.returns-in-Ok-clause-airs
returns-in-Ok-clause-airs g c = λ first ended last told qs start before airs is_held.
    let w = c.in-Ok.ensures.airs first.inner.now ended last told qs start before airs is_held in
    record { sent = w.sent; tells_so = w.tells_so; out = w.out }
