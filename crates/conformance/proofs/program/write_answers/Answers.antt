use Rattle.conformance.proofs.RunLemmas.{answered_nothing, answered_line, answered_all, counted_nothing, counted_line, counted_all}
use Rattle.conformance.proofs.program.write_answers.Goals as goal

pub loop-turn-init : goal.loop-turn-init
loop-turn-init g c = (
  answered_nothing (g.I.Read.remaining c.args.input.now) (g.O.Write.contents c.args.output.now),
  counted_nothing (g.I.Read.remaining c.args.input.now),
)

pub loop-turn-preserved : goal.loop-turn-preserved
loop-turn-preserved g c =
    let takes = rw c.if-not-branch.false at c.in_ok-take_line.ensures in
    let written = c.in_ok-write_answer.ensures in
    let answer = rw c.as_slice.ensures.value at written.1 in (
      answered_line (g.I.Read.remaining c.args.input.now) (g.I.Read.remaining c.loop-turn.input) (g.I.Read.remaining c.take_line.new.input)
          (g.O.Write.contents c.args.output.now) (g.O.Write.contents c.loop-turn.output) (g.O.Write.contents c.write_answer.new.output)
          c.take_line.new.line.items written.0 c.loop-turn.invariant.0 takes answer written.2,
      counted_line _ (g.I.Read.remaining c.args.input.now) (g.I.Read.remaining c.loop-turn.input) (g.I.Read.remaining c.take_line.new.input)
          c.take_line.new.line.items c.loop-turn.invariant.1 takes,
    )

pub returns-then-not-branch-clause-answered : goal.returns-then-not-branch-clause-answered
returns-then-not-branch-clause-answered g c =
    let takes = rw c.if-not-branch.true at c.in_ok-take_line.ensures in
    answered_all (g.I.Read.remaining c.args.input.now) (g.I.Read.remaining c.loop-turn.input) (g.I.Read.remaining c.take_line.new.input)
    (g.O.Write.contents c.args.output.now) (g.O.Write.contents c.loop-turn.output) c.take_line.new.line.items c.loop-turn.invariant.0 takes

pub returns-clause-counted : goal.returns-clause-counted
returns-clause-counted g c = λ stopped.
    counted_all _ _ (g.I.Read.remaining c.args.input.now) (g.I.Read.remaining c.loop-turn.input) c.loop-turn-test.false c.loop-turn.invariant.1
