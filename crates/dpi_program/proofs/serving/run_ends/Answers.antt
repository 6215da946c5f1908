use Rattle.std.proofs.Common.{◌≡◌, ◌∙◌, Ok, OnOk, sym, subst}
use Rattle.std.proofs.lemmas.Result.{IfOk-at_ok}
use Rattle.passages.specs.Runs.{lost_replies}
use Rattle.dpi_program.proofs.serving.run_ends.Goals as goal

-- what the run did to its asker is what is told
pub returns-clause-done : goal.returns-clause-done
returns-clause-done g c = λ off.
    let later = c.serve_network-ran.new.asker in
    let went : c.serve_network-ran.result ≡ Ok c.in_ok-served.served = sym c.tell_fault-2.ensures ∙ c.in_ok-served.was in
    (later, subst (λ r. OnOk r (lost_replies later ≡ 0)) went c.serve_network-ran.ensures.printed, IfOk-at_ok _ went (c.serve_network-ran.ensures.done off))

pub returns-clause-on_air : goal.returns-clause-on_air
returns-clause-on_air g c = λ on.
    let later = c.serve_network-ran.new.asker in
    let went : c.serve_network-ran.result ≡ Ok c.in_ok-served.served = sym c.tell_fault-2.ensures ∙ c.in_ok-served.was in
    (later, subst (λ r. OnOk r (lost_replies later ≡ 0)) went c.serve_network-ran.ensures.printed, IfOk-at_ok _ went (c.serve_network-ran.ensures.on_air on))
