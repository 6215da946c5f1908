-- What one packet more does to a chain.
use Rattle.std.proofs.Common.{◌≡◌, ℕ, ◌+◌, Bool, List, ◌++◌, length, Option, ap}
use Rattle.psi_tables.specs.declared.config.Config.{Config}
use Rattle.scte104_codec.specs.declared.reply.Reply.{Reply}
use Rattle.injector.specs.Steps.{Step}
use Rattle.ad_library.specs.Advertisements.{Advertisement}
use Rattle.chain_engine.specs.Automation.{Take, Exchange, takes_and_answers}
use Rattle.chain_engine.specs.Hearing.{Replied}
use Rattle.chain_engine.specs.Judging.{ServiceJudges}
use Rattle.chain_engine.specs.Talks.{judged_before}
use Rattle.chain_engine.specs.Runs.{reply_in, asked}
use Rattle.chain_engine.specs.Passing.{ServiceStandsFor}
use Rattle.chain_engine.specs.Stages.{ServesFor}
use Rattle.chain_engine.specs.ChainRuns.{Hears, heard_steps, chain_sends}
use Rattle.chain_engine.specs.declared.service.Service.{Service}
use Rattle.chain_engine.proofs.StepsLemmas.{asked_cued, asked_judged}
use Rattle.chain_engine.proofs.PassingLemmas.{serves-one}
use Rattle.splice_plans.specs.Adverts.{setting_of}
use Rattle.splice_plans.specs.Switching.{switched_past}
use Rattle.std.specs.Prelude.{reverse}

-- messages send nothing
pub asked_sends : (c : Config) (filed : ℕ → Option Advertisement) (ms : List (List ℕ)) (steps : List Step) → chain_sends c filed (asked ms steps) ≡ chain_sends c filed steps
asked_sends c filed ms steps = ap (λ l. reverse (switched_past (setting_of c filed) l)) (asked_cued c ms steps)

module _ {X : Type 0} (exchanges : X → List Exchange → X → Type 0) (old new : X) (lost : Bool) (c : Config) (filed : ℕ → Option Advertisement) (ts : List Take) (n k : ℕ) (steps : List Step) (more : List Take)
    (rs : List Reply) where
  pub hears_so : (i j : Service) → Replied ServiceJudges i j (judged_before (n + length rs) (ts ++ more) k) rs lost (λ xs. exchanges old (takes_and_answers more xs) new) → ServiceStandsFor i c filed steps
      → Hears exchanges old new lost c ts n k steps more rs × ServiceStandsFor j c filed (heard_steps (ts ++ more) (n + length rs) k steps)
  hears_so i j replied s =
      let done = asked_judged ServiceJudges (ServesFor c filed) (reply_in c) (serves-one c filed) (judged_before (n + length rs) (ts ++ more) k) rs i j steps replied.judged s in
      (record { exchanges = replied.told; replies = done.1 }, done.0)
