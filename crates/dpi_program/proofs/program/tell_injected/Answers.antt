use Rattle.std.proofs.Common.{◌≡◌, ◌∙◌, true, IfOk, sym, subst, ap, rules}
use Rattle.std.proofs.lemmas.Bool.{false≢true}
use Rattle.std.specs.Prelude.{is_none}
use Rattle.std.specs.Io.KnownBytes.{Appends}
use Rattle.dpi_program.specs.Commands.{IsPrinted, injected_lines}
use Rattle.dpi_program.proofs.program.tell_injected.Goals.{then-has_standard_output, else-has_standard_output}
use Rattle.dpi_program.proofs.program.tell_injected.Goals as goal

-- the lines went to the stream of faults, as no file is named
pub returns-clause-told : goal.returns-clause-told
returns-clause-told g c = λ none zero. elim c.if-has_standard_output.branch [
  | then-has_standard_output w ↦
      let is_out : w.print_injected-is_out.result ≡ true = search rules in
      let printed : Appends (g.E.Write.contents c.args.faults.now) (g.E.Write.contents w.print_injected-is_out.new.printed) (injected_lines c.in-Ok.injected) = search rules in
      subst (λ ran. IfOk ran (λ done. IsPrinted g.E.Write.contents (injected_lines done))) (sym c.in-Ok.is) (c.args.faults.now, w.print_injected-is_out.new.printed, printed)
  | else-has_standard_output w ↦ absurd (false≢true (w.if-has_standard_output.ensures ∙ ap is_none none))
]
