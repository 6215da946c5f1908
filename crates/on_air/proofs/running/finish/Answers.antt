use Rattle.on_air.proofs.running.finish.Goals as goal

pub returns-in-Ok-clause-plain : goal.returns-in-Ok-clause-plain
returns-in-Ok-clause-plain g c = λ first ps qs kept start before sends is_held plain. (c.in-Ok.report, c.told.ensures.plain ps plain, c.in-Ok.ensures.sends first ps qs kept start before sends is_held)

pub returns-in-Ok-clause-out : goal.returns-in-Ok-clause-out
returns-in-Ok-clause-out g c = λ first purpose ss start before h.
    let ends = c.in-Ok.ensures.airs first _ _ h.told h.sent start before h.airs_so h.out in
    record {
      told = h.told;
      last = c.in-Ok.report;
      sent = ends.sent;
      tells_so = ends.tells_so;
      summed_so = c.told.ensures.summed h.told h.ended;
      out = ends.out;
    }
