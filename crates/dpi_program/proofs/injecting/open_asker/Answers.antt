use Rattle.std.proofs.Common.{Some, sym, subst, rules}
use Rattle.passages.specs.declared.asking.Asker.TheVariants as asker
use Rattle.dpi_program.specs.Inputs.{IsAskerAt}
use Rattle.dpi_program.proofs.injecting.open_asker.Goals as goal

-- the script was loaded from the file that was opened
pub returns-in_ok-script_from-in-Ok-open_at-clause-loaded :
    goal.returns-in_ok-script_from-in-Ok-open_at-clause-loaded
returns-in_ok-script_from-in-Ok-open_at-clause-loaded g c =
    subst (λ a. IsAskerAt {W = g.row.W.Denot} {L = g.row.R-Listener.Denot} g.R.RunFiles.reads_at g.R.File.Read.remaining a (g.I.Read.remaining c.args.input.now)
    (asker.Script c.in_ok-script_from-in-Ok-open_at.field-0) (Some c.in-Ok-open_at.about)) (sym c.in-Script.is)
    (Some c.in-Ok-open_at.file, search rules, c.in_ok-script_from-in-Ok-open_at.ensures.loaded)
