use Rattle.std.proofs.Common.{◌≡◌, false, ◌∷◌, refl, sym, ap, ◌∙◌, subst}
use Rattle.std.specs.Prelude.{option_map, Some}
use Rattle.pes_time.specs.Line.{ring_of}
use Rattle.program_follower.specs.Following.{high_of}
use Rattle.injector.specs.Turns.{greatest_in}
use Rattle.injector.specs.Noting.{ring_reached}
use Rattle.unit_stream.specs.Clocks.{Rises}
use Rattle.injector.specs.Steps.{packets_in, turns_in}
use Rattle.injector.proofs.FeedLemmas.{rises-at, turns-high}
use Rattle.injector.proofs.RestLemmas.{idle-between}
use Rattle.injector.proofs.BoundLemmas.{stays-at-rest}
use Rattle.injector.proofs.injector.Injector.is_due.Goals as goal

pub returns-else-self-clause-stays : goal.returns-else-self-clause-stays
returns-else-self-clause-stays c = λ is_map cfg p past fed time none.
    let turns = turns_in cfg.program past in
    let latest = high_of (Some cfg.program) (p ∷ packets_in past) in
    let quiet = c.if-self.false in
    let rises : Rises (greatest_in turns) latest = subst (λ h. Rises h latest) (sym (turns-high cfg.program past)) (rises-at cfg p (packets_in past) fed.body.sound) in
    let below : ring_reached c.args.self.now.rest (option_map ring_of latest) ≡ false = ap (ring_reached c.args.self.now.rest) (sym time) ∙ sym c.is_reached.ensures ∙ none in
    stays-at-rest c.args.self.now.rest cfg.index turns latest rises fed.notes.kept (idle-between cfg past (greatest_in turns) (sym fed.news ∙ quiet) refl) (fed.rest quiet) below
