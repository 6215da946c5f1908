use Rattle.std.proofs.Common.{arith}
use Rattle.std.proofs.lemmas.List.{take_rest}
use Rattle.conformance.proofs.WordLemmas.{cut_here, cut_nowhere}
use Rattle.conformance.proofs.sections.cut_word.Goals as goal

pub returns-then-byte-eq32 : goal.returns-then-byte-eq32
returns-then-byte-eq32 c =
    let i = c.loop-place.place in
    let words = c.args.words.now in
    let cut = cut_here i words c.loop-place-test.true c.loop-place.invariant c.if-byte-eq32.true in
    rw take_rest cut

pub returns : goal.returns
returns c = cut_nowhere c.args.words.now (λ k h. c.loop-place.invariant k (omega arith))
