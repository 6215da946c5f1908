-- Messages judged one after another.
use Rattle.std.specs.Prelude.{◌≡◌, ℕ, List, [], ◌∷◌}
use Rattle.psi_tables.specs.declared.config.Config.{Config}
use Rattle.scte104_codec.specs.declared.reply.Reply.{Reply}
use Rattle.scte104_codec.specs.Reading.{MessageReading, message_of}
use Rattle.injector.specs.declared.injector.Injector.{Injector}
use Rattle.injector.specs.Replies.{reply_to}
use Rattle.injector.specs.Steps.{Step, Message, turns_in}
use Rattle.injector.specs.Injecting.{InjectorStandsFor, JudgesBy}
use Rattle.chain_engine.specs.declared.service.Service.{Service}

-- these messages were judged in order, and answered so, which led from the first judge to the second
abbrev pub JudgesAll : {J : Type 0} → (J → MessageReading → Reply → J → Type 0) → J → List (List ℕ) → List Reply → J
    → Type 0
JudgesAll judges j [] [] k = k ≡ j
JudgesAll judges j [] (r ∷ rs) k = ⊥
JudgesAll judges j (m ∷ ms) [] k = ⊥
JudgesAll {J} judges j (m ∷ ms) (r ∷ rs) k = (i : J) × judges j (message_of m) r i × JudgesAll judges i ms rs k

-- An injector judged a message, behind whatever history it stood for: the reply is the one by that history, also
-- after a fault, and the message stands behind it.
pub record InjectorJudges (old : Injector) (m : MessageReading) (reply : Reply) (new : Injector) : Type 0 where
  pub answer : (c : Config) (past : List Step) → JudgesBy old c past →
      reply ≡ reply_to c.index m (turns_in c.program past)
  pub judges : (c : Config) (past : List Step) → JudgesBy old c past → JudgesBy new c (Message m ∷ past)
  pub stands : (c : Config) (past : List Step) → InjectorStandsFor old c past →
      InjectorStandsFor new c (Message m ∷ past)

-- so a service's injector did, and nothing else of the service changed
pub record ServiceJudges (old : Service) (m : MessageReading) (reply : Reply) (new : Service) : Type 0 where
  pub judged : InjectorJudges old.injector m reply new.injector
  pub switch : new.switch ≡ old.switch
  pub config : new.config ≡ old.config
