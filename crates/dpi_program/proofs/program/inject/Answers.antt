use Rattle.std.specs.Prelude.{is_some}
use Rattle.std.specs.Io.KnownBytes.{Appends}
use Rattle.std.proofs.Common.{subst}
use Rattle.report_texts.specs.Lines.{report_lines}
use Rattle.dpi_program.specs.Commands.{IsPrinted, with_air}
use Rattle.dpi_program.proofs.StatusLemmas.{both, went_through}
use Rattle.dpi_program.proofs.program.inject.Goals as goal

pub returns-clause-to_standard : goal.returns-clause-to_standard
returns-clause-to_standard g c = λ off none zero.
    let kept = c.tell_injected.ensures.output none in
    let (ran, h) = went_through c.run_inject_command-injected.result c.tell_injected.result _ c.tell_injected.ensures.stopped zero
    (both c.run_inject_command-injected.result _ _ (c.run_inject_command-injected.ensures.to_standard off none) (both c.run_inject_command-injected.result _ _ (c.tell_injected.ensures.told none zero) (both c.run_inject_command-injected.result _ _ (c.run_inject_command-injected.ensures.plain off) c.run_inject_command-injected.ensures.plays))) in
    (ran.report, rw kept h.0, subst (λ air. IsPrinted g.E.Write.contents (with_air (report_lines (is_some c.args.options.now.adverts) ran.report) air)) h.1.1.0 (subst (λ plays. IsPrinted g.E.Write.contents (with_air (report_lines plays ran.report) ran.air)) h.1.1.1 h.1.0))

pub returns-clause-to_file : goal.returns-clause-to_file
returns-clause-to_file g c = λ off some zero.
    let (ran, h) = went_through c.run_inject_command-injected.result c.tell_injected.result _ c.tell_injected.ensures.stopped zero
    (both c.run_inject_command-injected.result _ _ (c.run_inject_command-injected.ensures.to_file off some) (both c.run_inject_command-injected.result _ _ (c.tell_injected.ensures.printed some zero) (both c.run_inject_command-injected.result _ _ (c.run_inject_command-injected.ensures.plain off) c.run_inject_command-injected.ensures.plays))) in
    (ran.report, h.0, (c.run_inject_command-injected.new.output, subst (λ air. Appends (g.O.Write.contents c.run_inject_command-injected.new.output) (g.O.Write.contents c.tell_injected.new.output) (with_air (report_lines (is_some c.args.options.now.adverts) ran.report) air)) h.1.1.0 (subst (λ plays. Appends (g.O.Write.contents c.run_inject_command-injected.new.output) (g.O.Write.contents c.tell_injected.new.output) (with_air (report_lines plays ran.report) ran.air)) h.1.1.1 h.1.0)))

pub returns-clause-airs_to_standard : goal.returns-clause-airs_to_standard
returns-clause-airs_to_standard g c = λ on none zero.
    let kept = c.tell_injected.ensures.output none in
    let (ran, h) = went_through c.run_inject_command-injected.result c.tell_injected.result _ c.tell_injected.ensures.stopped zero
    (both c.run_inject_command-injected.result _ _ (c.run_inject_command-injected.ensures.airs_to_standard on none) (both c.run_inject_command-injected.result _ _ (c.tell_injected.ensures.told none zero) c.run_inject_command-injected.ensures.plays)) in
    (ran.report, ran.air, rw kept h.0, subst (λ plays. IsPrinted g.E.Write.contents (with_air (report_lines plays ran.report) ran.air)) h.1.1 h.1.0)

pub returns-clause-airs_to_file : goal.returns-clause-airs_to_file
returns-clause-airs_to_file g c = λ on some zero.
    let (ran, h) = went_through c.run_inject_command-injected.result c.tell_injected.result _ c.tell_injected.ensures.stopped zero
    (both c.run_inject_command-injected.result _ _ (c.run_inject_command-injected.ensures.airs_to_file on some) (both c.run_inject_command-injected.result _ _ (c.tell_injected.ensures.printed some zero) c.run_inject_command-injected.ensures.plays)) in
    (ran.report, ran.air, h.0, (c.run_inject_command-injected.new.output, subst (λ plays. Appends (g.O.Write.contents c.run_inject_command-injected.new.output) (g.O.Write.contents c.tell_injected.new.output) (with_air (report_lines plays ran.report) ran.air)) h.1.1 h.1.0))
