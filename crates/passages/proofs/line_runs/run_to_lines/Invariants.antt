use Rattle.passages.proofs.line_runs.run_to_lines.Given as goal

abbrev pub ghosts-run_to_lent : goal.ghosts-run_to_lent
ghosts-run_to_lent g a = record { name = a.output.at.ghost_name }
