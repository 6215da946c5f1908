use Rattle.passages.proofs.recovery_watch.ToldPackets.pass_over_rest.Goals as goal

pub returns-in-Ok-false-clause-leads : goal.returns-in-Ok-false-clause-leads
returns-in-Ok-false-clause-leads g c = g.met.P.PacketSource.leads_trans _ _ _ c.loop-fault.invariant c.pass_over.ensures.leads

pub returns-in-Err-clause-leads : goal.returns-in-Err-clause-leads
returns-in-Err-clause-leads g c = g.met.P.PacketSource.leads_trans _ _ _ c.loop-fault.invariant c.pass_over.ensures.leads
