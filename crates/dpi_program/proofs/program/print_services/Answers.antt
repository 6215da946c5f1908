use Rattle.std.proofs.Common.{◌≡◌, ◌∷◌, sym, subst, rules}
use Rattle.std.specs.Io.KnownBytes.{Appends}
use Rattle.std.proofs.KnownBytes.{Appends-trans}
use Rattle.report_texts.specs.Lines.{service_lines}
use Rattle.dpi_program.specs.Commands.{services_lines}
use Rattle.dpi_program.proofs.program.print_services.Goals as goal

pub loop-events-init : goal.loop-events-init
loop-events-init g c = record { printed = λ after h. h }

pub loop-events-preserved : goal.loop-events-preserved
loop-events-preserved g c =
    let first : c.loop-events.rest.now ≡ c.in-Some.events.now ∷ c.in-Some.behind.now = search rules in
    let was = g.W.Write.contents c.loop-events.printed in
    let now = g.W.Write.contents c.print_service.new.printed in
    let events = c.in-Some.events.now in
    let step : Appends was now (service_lines events.program events.switch) = search rules in
    record {
      printed = λ after h. c.loop-events.invariant.printed after
          (subst (λ l. Appends was after (services_lines l)) (sym first) (Appends-trans was now after (service_lines events.program events.switch) (services_lines c.in-Some.behind.now) step h));
    }
