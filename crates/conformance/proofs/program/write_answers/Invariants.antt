use Rattle.conformance.proofs.RunLemmas.{AnsweredSoFar, CountedSoFar}
use Rattle.conformance.proofs.program.write_answers.Given as goal

abbrev pub invariant-loop-turn : goal.invariant-loop-turn
invariant-loop-turn g l =
    AnsweredSoFar (g.I.Read.remaining l.initial.input) (g.I.Read.remaining l.input) (g.O.Write.contents l.initial.output) (g.O.Write.contents l.output)
    × CountedSoFar l._turn (g.I.Read.remaining l.initial.input) (g.I.Read.remaining l.input)
