use Rattle.std.proofs.Common.{rules, ◌≡◌, length, sym, subst}
use Rattle.std.specs.Prelude.{min}
use Rattle.services_on_air.specs.Airing.{airings, begun_in}
use Rattle.services_on_air.specs.Standing.{AllStand}
use Rattle.services_on_air.proofs.PassLemmas.{stretches-told}
use Rattle.std.proofs.Common.{◌++◌, ap, ◌∙◌, append_assoc}
use Rattle.service_laws.specs.Services.{configs_of}
use Rattle.chain_engine.specs.Runs.{steps_of}
use Rattle.services_on_air.specs.Outputs.{gones_behind, services_air, AllEventsOnAir}
use Rattle.services_on_air.specs.Serving.{AllGone, puts_last}
use Rattle.services_on_air.proofs.services.AirServices.finish.Goals as goal

pub returns-in-Ok-clause-stands : goal.returns-in-Ok-clause-stands
returns-in-Ok-clause-stands g c = λ cs past h.
    let begun = c.begun_of-begun.ensures (airings cs past) (subst (λ l. AllStand l (airings cs past)) (sym c.as_slice.ensures.value) h.all) in
    let one : c.min.result ≡ min c.args.self.now.packets 1 = search rules in
    record {
      stretches = stretches-told past c.begun_of-begun.result c.args.self.now.packets c.min.result c.saturating_add.result (begun_in (airings cs past)) begun h.packets one c.saturating_add.ensures;
      unjudged = h.unjudged;
    }

pub returns-in-Ok-clause-out : goal.returns-in-Ok-clause-out
returns-in-Ok-clause-out g c = λ ts past before takes rs start filed h is_held.
    let steps = steps_of (length rs) takes past in
    let gs = gones_behind ts (airings (configs_of ts) past) steps in
    let air = services_air ts steps in
    let (adds, out) = c.in-Ok.ensures.puts ts gs start (before ++ air) filed (subst (λ l. AllGone l ts gs) (sym c.as_mut_slice-services.ensures.value) h.desk.all) is_held in
    let (more, now, all) = adds in (
      record {
        messages = h.counts;
        events = subst (λ l. AllEventsOnAir l ts gs) (sym (now ∙ ap (λ l. l ++ more) c.new-events.ensures)) all;
        lost = c.lost_of-lost.ensures ts gs (subst (λ l. AllGone l ts gs) (sym c.as_slice-2.ensures.value) h.desk.all);
      },
      subst (g.K.PacketSink.holds c.finish_each.new.out start) (append_assoc before air (puts_last ts gs)) out,
    )
