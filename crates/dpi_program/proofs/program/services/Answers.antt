use Rattle.std.specs.Io.KnownBytes.{Appends}
use Rattle.std.proofs.Common.{subst}
use Rattle.dpi_program.specs.Commands.{IsPrinted, with_air, report_lines_of_services}
use Rattle.dpi_program.proofs.StatusLemmas.{both, went_through}
use Rattle.dpi_program.proofs.program.services.Goals as goal

pub returns-clause-to_standard : goal.returns-clause-to_standard
returns-clause-to_standard g c = λ off none zero.
    let kept = c.tell_served.ensures.output none in
    let (ran, h) = went_through c.run_services_command-served.result c.tell_served.result _ c.tell_served.ensures.stopped zero
    (both c.run_services_command-served.result _ _ (c.run_services_command-served.ensures.to_standard off none) (both c.run_services_command-served.result _ _ (c.tell_served.ensures.told none zero) (c.run_services_command-served.ensures.plain off))) in
    (ran.report, rw kept h.0, subst (λ air. IsPrinted g.E.Write.contents (with_air (report_lines_of_services ran.report) air)) h.1.1 h.1.0)

pub returns-clause-to_file : goal.returns-clause-to_file
returns-clause-to_file g c = λ off some zero.
    let (ran, h) = went_through c.run_services_command-served.result c.tell_served.result _ c.tell_served.ensures.stopped zero
    (both c.run_services_command-served.result _ _ (c.run_services_command-served.ensures.to_file off some) (both c.run_services_command-served.result _ _ (c.tell_served.ensures.printed some zero) (c.run_services_command-served.ensures.plain off))) in
    (ran.report, h.0, (c.run_services_command-served.new.output, subst (λ air. Appends (g.O.Write.contents c.run_services_command-served.new.output) (g.O.Write.contents c.tell_served.new.output) (with_air (report_lines_of_services ran.report) air)) h.1.1 h.1.0))

pub returns-clause-airs_to_standard : goal.returns-clause-airs_to_standard
returns-clause-airs_to_standard g c = λ on none zero.
    let kept = c.tell_served.ensures.output none in
    let (ran, h) = went_through c.run_services_command-served.result c.tell_served.result _ c.tell_served.ensures.stopped zero
    (both c.run_services_command-served.result _ _ (c.run_services_command-served.ensures.airs_to_standard on none) (c.tell_served.ensures.told none zero)) in
    (ran.report, ran.air, rw kept h.0, h.1)

pub returns-clause-airs_to_file : goal.returns-clause-airs_to_file
returns-clause-airs_to_file g c = λ on some zero.
    let (ran, h) = went_through c.run_services_command-served.result c.tell_served.result _ c.tell_served.ensures.stopped zero
    (both c.run_services_command-served.result _ _ (c.run_services_command-served.ensures.airs_to_file on some) (c.tell_served.ensures.printed some zero)) in
    (ran.report, ran.air, h.0, (c.run_services_command-served.new.output, h.1))
