use Rattle.std.proofs.Common.{[], sym}
use Rattle.as_session.specs.Feeding.{opened}
use Rattle.as_session.specs.Runs.{used_in}
use Rattle.as_session.proofs.RunLemmas.{begins, calls_reach, reached_messages}
use Rattle.as_session.proofs.laws.calls_give_the_messages.Goals as goal

pub returns : goal.returns
returns c = λ pieces.
    let there = calls_reach pieces [] (opened []) [] begins in
    sym (reached_messages (used_in (opened []) pieces) there.at _ there.reached)
