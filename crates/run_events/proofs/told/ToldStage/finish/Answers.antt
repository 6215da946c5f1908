use Rattle.run_events.proofs.told.ToldStage.finish.Goals as goal

pub returns-in-Ok-clause-ok : goal.returns-in-Ok-clause-ok
returns-in-Ok-clause-ok g c = λ first ps qs kept start before s is_held.
    let w = c.in-Ok.ensures.ok first.inner.now ps qs kept start before s is_held in
    record { sent = w.sent; ends_so = w.ends_so; out = w.out }

pub returns-in-Err-clause-err : goal.returns-in-Err-clause-err
returns-in-Err-clause-err g c = λ first ps qs kept start before s is_held.
    let w = c.in-Err.ensures.err first.inner.now ps qs kept start before s is_held in
    record { sent = w.sent; packet = w.packet; breaks_so = w.breaks_so; failed = w.failed }
