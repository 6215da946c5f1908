-- What a chain on air stands for between two packets, since it began, anew or not: what tells what is wrong with the next packet.
use Rattle.std.specs.Prelude.{◌≡◌, refl, ℕ, List, [], ◌∷◌, length, reverse}
use Rattle.std.proofs.Common.{ap, ◌∙◌}
use Rattle.scte104_codec.specs.Reading.{message_of}
use Rattle.scte104_codec.specs.declared.reply.Reply.{Reply}
use Rattle.psi_tables.specs.declared.config.Config.{Config}
use Rattle.injector.specs.Injecting.{InjectorStandsFor}
use Rattle.injector.specs.Steps.{Step, Message, packets_in}
use Rattle.chain_engine.specs.Automation.{Take}
use Rattle.chain_engine.specs.Runs.{asked, steps_of}
use Rattle.chain_engine.specs.Talks.{TalkStandsFor, judged_before}
use Rattle.chain_engine.specs.declared.chain.Chain.{Chain}
use Rattle.chain_engine.specs.declared.service.Service.{Service}

-- its injector has gone steps with these packets, newest first
pub record HasFollowed (service : Service) (c : Config) (past : List (List ℕ)) : Type 0 where
  pub steps : List Step
  pub injector : InjectorStandsFor service.injector c steps
  pub packets : packets_in steps ≡ past

-- and its talk has gone on, which does not begin anew
pub record ChainFollows {M : Type 0} (chain : Chain M) (c : Config) (past : List (List ℕ)) : Type 0 where
  pub ts : List Take
  pub n : ℕ
  pub k : ℕ
  pub talks : TalkStandsFor chain.talk ts n k
  pub followed : HasFollowed chain.service c past

-- a law of the steps of a run: their packets are those of the run
asked-packets : (ms : List (List ℕ)) (past : List Step) → packets_in (asked ms past) ≡ packets_in past
asked-packets [] past = refl
asked-packets (m ∷ ms) past = asked-packets ms (Message (message_of m) ∷ past)

run-packets : (n : ℕ) (ts : List Take) (past : List (List ℕ)) → packets_in (steps_of n ts past) ≡ past
run-packets n ts [] = refl
run-packets n ts (p ∷ past) =
    ap (λ l. p ∷ l) (asked-packets (judged_before n ts (length past)) (steps_of n ts past) ∙ run-packets n ts past)

-- and another: so a chain follows what it was given in a run
pub run-followed : {M : Type 0} (chain : Chain M) (c : Config) (ps : List (List ℕ)) (ts : List Take) (rs : List Reply) → TalkStandsFor chain.talk ts (length rs) (length ps)
    → InjectorStandsFor chain.service.injector c (steps_of (length rs) ts (reverse ps)) → ChainFollows chain c (reverse ps)
run-followed chain c ps ts rs talks stands = record {
  ts = ts;
  n = length rs;
  k = length ps;
  talks = talks;
  followed = record { steps = steps_of (length rs) ts (reverse ps); injector = stands; packets = run-packets (length rs) ts (reverse ps) };
}
