use Rattle.std.proofs.Common.{[], sym}
use Rattle.as_session.specs.Feeding.{opened}
use Rattle.as_session.specs.Messages.{joined}
use Rattle.as_session.specs.Runs.{take_pieces}
use Rattle.as_session.proofs.RunLemmas.{begins, pieces_reach, reached_messages, reached_state}
use Rattle.as_session.proofs.laws.any_pieces_give_the_messages.Goals as goal

pub returns : goal.returns
returns c = record {
  messages = λ pieces. sym (reached_messages (joined pieces) (take_pieces (opened []) pieces).after _ (pieces_reach pieces [] (opened []) [] begins));
  after = λ pieces. reached_state (joined pieces) (take_pieces (opened []) pieces).after _ (pieces_reach pieces [] (opened []) [] begins);
}
