-- A packet that goes on alone for a service: it is on one of its PIDs, and no PID more is known with it.
use Rattle.std.proofs.Common.{◌≡◌, ℕ, List, true, Some, sym, subst}
use Rattle.ts_packet.specs.Fields.{on_one}
use Rattle.program_follower.specs.Program.{known_pids}
use Rattle.program_follower.specs.declared.starts.StreamPart.{StreamPart}
use Rattle.program_follower.proofs.PidLemmas.{owned_off_map}
use Rattle.injector.specs.Steps.{Step, packets_in}
use Rattle.injector.specs.Injecting.{GoesOnAlone}
use Rattle.chain_engine.specs.declared.service.Service.{Service}
use Rattle.service_laws.specs.Services.{ServiceTerms}
use Rattle.chain_services.specs.Serving.{ServesAs}
use Rattle.chain_services.specs.Parts.{owns, KnowsSame}
use Rattle.chain_services.proofs.PartLemmas.{taken_packets}
use Rattle.chain_services.proofs.UnfollowedLemmas.{elsewhere-same}

module _ (s : Service) (t : ServiceTerms) (x : StreamPart) (p : List ℕ) (steps : List Step) (h : ServesAs s t steps) (alone : GoesOnAlone t.config x p h.taken) where
  pub alone-owned : owns t p (packets_in steps) ≡ true
  alone-owned =
      subst (λ l. on_one (known_pids (Some t.config.program) l) p ≡ true) (taken_packets s t steps h)
      (sym (owned_off_map (Some t.config.program) p (packets_in h.taken) alone.goes_on.elsewhere.map (Some x.stream) alone.goes_on.here))

  pub alone-same : KnowsSame t p (packets_in steps)
  alone-same = subst (KnowsSame t p) (taken_packets s t steps h) (elsewhere-same t p (packets_in h.taken) alone.goes_on.elsewhere)
