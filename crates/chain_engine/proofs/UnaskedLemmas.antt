-- The steps that a chain has gone it has gone too where it is open what is out.
use Rattle.std.proofs.Common.{ℕ, List}
use Rattle.std.specs.Prelude.{Option}
use Rattle.injector.specs.Steps.{Step}
use Rattle.ad_library.specs.Advertisements.{Advertisement}
use Rattle.chain_engine.specs.Automation.{Take}
use Rattle.chain_engine.specs.ChainRuns.{HasStepped, chain_unasked}
use Rattle.chain_engine.specs.declared.chain.Chain.{Chain}
use Rattle.chain_engine.proofs.PassingLemmas.{serves-unasked}

pub stepped-unasked : {M : Type 0} → (chain : Chain M) (filed : ℕ → Option Advertisement) (is_out : List (List ℕ) → Type 0) (ts : List Take) (n k : ℕ) (steps : List Step)
    → HasStepped chain filed is_out ts n k steps → HasStepped (chain_unasked chain) filed is_out ts n k steps
stepped-unasked chain filed is_out ts n k steps h = record { talk = h.talk; service = serves-unasked chain.service chain.service.config filed steps h.service; out = h.out; whole = h.whole }
