use Rattle.std.proofs.Common.{rules, subst}
use Rattle.splice_playing.specs.Relations.{PlaysBy}
use Rattle.std.specs.Prelude.{OnOk}
use Rattle.std.proofs.lemmas.Result.{on_ok_weaker}
use Rattle.splice_playing.specs.Courses.{CountsTurns}
use Rattle.splice_playing.specs.Relations.{unasked}
use Rattle.splice_playing.proofs.playing.Playing.begin.Goals as goal

pub returns-clause-ok : goal.returns-clause-ok
returns-clause-ok g c = λ start ps k p past steps h f i. c.begin_with_same.ensures.ok start ps k p past steps h (subst (λ w. PlaysBy w k past steps) (search rules) f) i

pub returns-clause-err : goal.returns-clause-err
returns-clause-err g c = λ start ps k p past steps h f i. c.begin_with_same.ensures.err start ps k p past steps h (subst (λ w. PlaysBy w k past steps) (search rules) f) i

pub returns-clause-turns : goal.returns-clause-turns
returns-clause-turns g c = λ k p past steps f i.
    on_ok_weaker c.begin_with_same.result
    (λ (t : CountsTurns (unasked c.args.self.now) c.begin_with_same.new.self). record {
      rises = t.rises;
      unturned = λ same below. let u = t.unturned same below in record { events = u.events; courses = u.courses; forgotten = u.forgotten };
    })
    (subst (λ w. OnOk c.begin_with_same.result (CountsTurns w c.begin_with_same.new.self)) (search rules)
    (c.begin_with_same.ensures.turns k p past steps (subst (λ w. PlaysBy w k past steps) (search rules) f) i))
