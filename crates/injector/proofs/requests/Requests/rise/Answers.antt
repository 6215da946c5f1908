use Rattle.std.proofs.Common.{◌≡◌, ◌∷◌, sym, subst, ◌∙◌, rules}
use Rattle.std.specs.Prelude.{Some}
use Rattle.event_table.specs.Standing.{IsTimeAt}
use Rattle.injector.specs.Turns.{Passed, greatest_in}
use Rattle.injector.specs.Requests.{RequestsStandFor}
use Rattle.unit_stream.specs.Clocks.{Rises}
use Rattle.injector.proofs.SenderLemmas.{same-time, some-line, standing-stays, restate-notes, is-time}
use Rattle.injector.proofs.requests.Requests.rise.Goals as goal

pub returns-then-eq-clause-notes : goal.returns-then-eq-clause-notes
returns-then-eq-clause-notes c = λ index past latest stands told rises is.
    let equal : c.args.later ≡ c.high.result = search rules in
    let same : greatest_in past ≡ latest = same-time (greatest_in past) latest rises (sym is ∙ equal ∙ c.high.ensures ∙ stands.table.high) in
    restate-notes c.args.self.now latest _ _ (sym (standing-stays index past latest same)) told

pub returns-then-can_advance-clause-stands : goal.returns-then-can_advance-clause-stands
returns-then-can_advance-clause-stands c = λ index past latest stands rises is.
    let s = some-line latest c.in-Some.high (sym is ∙ c.in-Some.is) in
    let rises_to : Rises (greatest_in past) (Some s.0) = subst (Rises (greatest_in past)) s.1 rises in
    let at : IsTimeAt (greatest_in past) c.in-Some.high s.0 = subst (λ p. IsTimeAt (greatest_in past) p s.0) s.2 (is-time (greatest_in past) s.0 rises_to) in
    subst (λ x. RequestsStandFor c.advance.new.self index (Passed x ∷ past)) (sym s.1) (c.advance.ensures.stands index past s.0 stands at)
