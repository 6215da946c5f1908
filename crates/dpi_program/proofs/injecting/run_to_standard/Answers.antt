use Rattle.std.proofs.lemmas.Result.{IfOk-weaker}
use Rattle.dpi_program.proofs.injecting.run_to_standard.Goals as goal

pub returns-clause-done : goal.returns-clause-done
returns-clause-done g c = λ off. IfOk-weaker c.run_ends.result _ _ (λ ran done. (c.in_ok-opened.opened, g.I.Read.remaining c.open_inputs.new.input, c.in_ok-opened.ensures.opened, done)) (c.run_ends.ensures.done off)

pub returns-clause-on_air : goal.returns-clause-on_air
returns-clause-on_air g c = λ on. IfOk-weaker c.run_ends.result _ _ (λ ran done. (c.in_ok-opened.opened, g.I.Read.remaining c.open_inputs.new.input, c.in_ok-opened.ensures.opened, done)) (c.run_ends.ensures.on_air on)
