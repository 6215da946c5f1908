use Rattle.std.proofs.Common.{◌≡◌, rules, subst, sym}
use Rattle.ad_library.specs.Library.{held}
use Rattle.splice_switch.specs.Standing.{SwitchStandsAt, SwitchStandsFor, switch_unasked}
use Rattle.std.specs.Prelude.{OnOk}
use Rattle.std.proofs.lemmas.Result.{on_ok_weaker}
use Rattle.splice_playing.specs.Relations.{unasked}
use Rattle.splice_playing.specs.Courses.{CountsTurns}
use Rattle.splice_switch.specs.declared.switch.Switch.{Switch}
use Rattle.splice_switch.proofs.switch.Switch.feed.Goals as goal

pub returns-clause-ok : goal.returns-clause-ok
returns-clause-ok g c = λ start ps d past h b. c.feed_with_same.ensures.ok start ps d past h (subst (λ s. SwitchStandsFor s d (held c.args.library.now) past) (search rules) b)

pub returns-clause-stands : goal.returns-clause-stands
returns-clause-stands g c = λ d past b. c.feed_with_same.ensures.stands d past (subst (λ s. SwitchStandsFor s d (held c.args.library.now) past) (search rules) b)

pub returns-clause-sound : goal.returns-clause-sound
returns-clause-sound g c = λ d past b. c.feed_with_same.ensures.sound d past (subst (λ s. SwitchStandsFor s d (held c.args.library.now) past) (search rules) b)

pub returns-clause-err : goal.returns-clause-err
returns-clause-err g c = λ start ps d past h b. c.feed_with_same.ensures.err start ps d past h (subst (λ s. SwitchStandsFor s d (held c.args.library.now) past) (search rules) b)

pub returns-clause-turns : goal.returns-clause-turns
returns-clause-turns g c = λ d past b.
    let same : c.ask_anew.new.self ≡ switch_unasked c.args.self.now = search rules in
    on_ok_weaker c.feed_with_same.result
    (λ (t : CountsTurns (unasked c.args.self.now.playing) c.feed_with_same.new.self.playing). record {
      rises = t.rises;
      unturned = λ turned below. let u = t.unturned turned below in record { events = u.events; courses = u.courses; forgotten = u.forgotten };
    })
    (subst (λ (s : Switch). OnOk c.feed_with_same.result (CountsTurns s.playing c.feed_with_same.new.self.playing)) same
    (c.feed_with_same.ensures.turns d past (subst (λ s. SwitchStandsFor s d (held c.args.library.now) past) (sym same) b)))

pub returns-clause-puts : goal.returns-clause-puts
returns-clause-puts g c = λ start ps d x h b. c.feed_with_same.ensures.puts start ps d x h (subst (λ s. SwitchStandsAt s d (held c.args.library.now) x) (search rules) b)

pub returns-clause-goes_on : goal.returns-clause-goes_on
returns-clause-goes_on g c = λ d x b. c.feed_with_same.ensures.goes_on d x (subst (λ s. SwitchStandsAt s d (held c.args.library.now) x) (search rules) b)

pub returns-clause-stops : goal.returns-clause-stops
returns-clause-stops g c = λ start ps d x h b. c.feed_with_same.ensures.stops start ps d x h (subst (λ s. SwitchStandsAt s d (held c.args.library.now) x) (search rules) b)
