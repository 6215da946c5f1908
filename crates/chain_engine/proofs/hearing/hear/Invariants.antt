use Rattle.std.proofs.Common.{◌≡◌, List, [], ℕ, length}
use Rattle.as_session.specs.Session.{state_of}
use Rattle.as_session.specs.Feeding.{opened}
use Rattle.as_session.specs.Messages.{messages_of}
use Rattle.chain_engine.specs.Automation.{takes_and_answers}
use Rattle.chain_engine.proofs.HearingLemmas.{HasHeard}
use Rattle.chain_engine.proofs.hearing.hear.Given as goal

abbrev pub invariant-loop-used : goal.invariant-loop-used
invariant-loop-used g l = record {
  failures : g.U.Automation.failures l.automation ≡ g.U.Automation.failures l.initial.automation;
  heard : (stream : List ℕ) → state_of l.initial.session ≡ opened (messages_of stream).rest →
      HasHeard g.J.Judge.judges l.initial.judge l.judge (λ xs. g.U.Automation.exchanges l.initial.automation (takes_and_answers [] xs) l.automation) stream l.piece l.rest (state_of l.session);
}

abbrev pub decreases-loop-used : goal.decreases-loop-used
decreases-loop-used g l = length l.rest
