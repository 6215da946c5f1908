use Rattle.std.proofs.Common.{ap}
use Rattle.ts_packet.proofs.Cases.{on_ok_more}
use Rattle.dpi_program.specs.declared.planning.Inputs.{Inputs}
use Rattle.dpi_program.proofs.planning.plan_ends.Goals as goal

pub returns : goal.returns
returns g c =
    let inputs : Inputs = record {
      network = c.in_ok-timeline.network;
      adverts = c.in-Ok.opened.1;
      breaks = c.in_ok-list.breaks;
    } in
    on_ok_more c.plan_for.result (λ plans. record {
      list = c.as_slice.result.now;
      library = c.in-Ok.opened.0;
      timeline = c.in_ok-timeline.timeline;
      inputs = inputs;
      behind = g.I.Read.remaining c.open_breaks.new.input;
      left = g.I.Read.remaining c.open_library.new.input;
      breaks = rw c.as_slice.ensures.value c.in_ok-list.ensures.read;
      unlisted = λ some. ap g.I.Read.remaining (c.open_breaks.ensures.unread some);
      adverts = c.in-Ok.ensures.loaded;
      unread = λ some. ap g.I.Read.remaining (c.open_library.ensures.unread some);
      network = c.in_ok-timeline.ensures;
      plans = plans;
    }) c.plan_for.ensures
