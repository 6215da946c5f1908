-- What each service adds to the output for a packet.
use Rattle.std.specs.Prelude.{◌≡◌, ℕ, ◌+◌, ◌<◌, ◌≤◌, length, ◌||◌, Bool, false, if◌then◌else◌, List, [], ◌∷◌, ◌++◌, drop, Some}
use Rattle.ts_packet.specs.Fields.{on_one}
use Rattle.ts_packet.specs.declared.sink.PutFault.{PutFault}
use Rattle.psi_tables.specs.declared.network.FeedFault.{FeedFault}
use Rattle.psi_tables.specs.declared.network.FeedFault.TheVariants.{Network, Sink, Failed}
use Rattle.program_follower.specs.Program.{known_pids}
use Rattle.program_follower.specs.Faults.{network_fault}
use Rattle.program_follower.specs.Purposes.{writing_cues}
use Rattle.outgoing_packets.specs.Numbers.{FrontFails}
use Rattle.injector.specs.Steps.{Step, Packet, packets_in, cued}
use Rattle.chain_engine.specs.Passing.{chain_at, GoesOnBy}
use Rattle.chain_engine.specs.declared.service.Service.{Service}
use Rattle.program_follower.specs.declared.starts.StreamPart.{StreamPart}
use Rattle.service_laws.specs.Messages.{own_steps}
use Rattle.service_laws.specs.Services.{ServiceTerms, configs_of, services_rest}
use Rattle.service_laws.specs.Faults.{services_fault}
use Rattle.splice_plans.specs.Adverts.{setting_of}
use Rattle.splice_plans.specs.Reporting.{ReportIs, report_of}
use Rattle.splice_plans.specs.Switching.{rest_at}
use Rattle.chain_services.specs.Owners.{IsShifted}
use Rattle.chain_services.specs.Serving.{ServesAs, AllServe}
use Rattle.chain_services.specs.declared.owners.Alone.{Alone}
use Rattle.chain_services.specs.declared.report.ServiceEvents.{ServiceEvents}

-- the packet is on a PID of the service
abbrev pub owns : ServiceTerms → List ℕ → List (List ℕ) → Bool
owns t p past = on_one (known_pids (Some t.config.program) past) p

abbrev pub one_owns : List ServiceTerms → List ℕ → List (List ℕ) → Bool
one_owns [] p past = false
one_owns (t ∷ ts) p past = owns t p past || one_owns ts p past

-- what it adds: what its chain sends for a packet of its own
abbrev pub part_of : ServiceTerms → List ℕ → List Step → List (List ℕ)
part_of t p steps = if owns t p (packets_in steps) then chain_at t.config t.filed p (own_steps t.config.index steps) else []

abbrev pub parts_of : List ServiceTerms → List ℕ → List Step → List (List ℕ)
parts_of [] p steps = []
parts_of (t ∷ ts) p steps = part_of t p steps ++ parts_of ts p steps

-- no PID more is known of it, or of any of them
abbrev pub KnowsSame : ServiceTerms → List ℕ → List (List ℕ) → Type 0
KnowsSame t p past = known_pids (Some t.config.program) (p ∷ past) ≡ known_pids (Some t.config.program) past

abbrev pub AllKnowSame : List ServiceTerms → List ℕ → List (List ℕ) → Type 0
AllKnowSame [] p past = Unit {0}
AllKnowSame (t ∷ ts) p past = KnowsSame t p past × AllKnowSame ts p past

-- ---- a packet through one service, and through some

-- what its chain sends is out
pub record PassedOn (learns : Bool) (service : Service) (t : ServiceTerms) (p : List ℕ) (steps : List Step) (is_out : List (List ℕ) → Type 0) : Type 0 where
  pub still : learns ≡ false → KnowsSame t p (packets_in steps)
  pub serves : ServesAs service t (Packet p ∷ steps)
  pub out : is_out (chain_at t.config t.filed p (own_steps t.config.index steps))

abbrev pub FailedOn : FeedFault → ServiceTerms → List ℕ → List Step → (List (List ℕ) → Type 0) → (List (List ℕ) → List ℕ → PutFault → Type 0) → Type 0
FailedOn (Network f) t p steps is_out fails = (network_fault (writing_cues t.config) p (packets_in steps) ≡ Some f) × is_out []
FailedOn (Sink x) t p steps is_out fails = FrontFails (chain_at t.config t.filed p (own_steps t.config.index steps)) (λ put q. fails put q x)
FailedOn Failed t p steps is_out fails = ⊥

pub record PassedOne (is_own learns : Bool) (service : Service) (t : ServiceTerms) (p : List ℕ) (steps : List Step) (is_out : List (List ℕ) → Type 0) : Type 0 where
  pub owns_it : is_own ≡ owns t p (packets_in steps)
  pub still : learns ≡ false → KnowsSame t p (packets_in steps)
  pub serves : ServesAs service t (Packet p ∷ steps)
  pub out : is_out (part_of t p steps)

abbrev pub FailedOne : FeedFault → ServiceTerms → List ℕ → List Step → (List (List ℕ) → Type 0) → (List (List ℕ) → List ℕ → PutFault → Type 0) → Type 0
FailedOne (Network f) t p steps is_out fails = (network_fault (writing_cues t.config) p (packets_in steps) ≡ Some f) × is_out []
FailedOne (Sink x) t p steps is_out fails = FrontFails (part_of t p steps) (λ put q. fails put q x)
FailedOne Failed t p steps is_out fails = ⊥

pub record PassedEach (is_own learns : Bool) (services : List Service) (ts : List ServiceTerms) (p : List ℕ) (steps : List Step) (is_out : List (List ℕ) → Type 0) : Type 0 where
  pub owns_it : is_own ≡ one_owns ts p (packets_in steps)
  pub still : learns ≡ false → AllKnowSame ts p (packets_in steps)
  pub serve : AllServe services ts (Packet p ∷ steps)
  pub out : is_out (parts_of ts p steps)

-- the packet goes on alone for the first of these services, as this to its stream
abbrev pub FirstGoesOn : List Service → StreamPart → List ℕ → Type 0
FirstGoesOn [] of p = ⊥
FirstGoesOn (s ∷ services) of p = GoesOnBy s of p

-- the one behind so many of them alone takes it, and goes on so
pub record GoesOnBehind (takers : ℕ) (alone : Alone) (services : List Service) (p : List ℕ) : Type 0 where
  pub taker : IsShifted alone.count 1 takers
  pub goes_on : FirstGoesOn (drop alone.count services) alone.of p

-- a front of these packets is out
pub record FrontIsOut (packets : List (List ℕ)) (is_out : List (List ℕ) → Type 0) : Type 0 where
  pub front : List (List ℕ)
  pub left : List (List ℕ)
  pub all : packets ≡ front ++ left
  pub out : is_out front

-- why it did not pass: what is wrong with it for the first of them for which something is, and a front of what it sends is out; or the sink
-- failed behind a front of that
abbrev pub FailedEach : FeedFault → List ServiceTerms → List ℕ → List Step → List (List ℕ) → (List (List ℕ) → Type 0) → (List (List ℕ) → List ℕ → PutFault → Type 0) → Type 0
FailedEach (Network f) ts p steps sent is_out fails = (services_fault (configs_of ts) p (packets_in steps) ≡ Some f) × FrontIsOut sent is_out
FailedEach (Sink x) ts p steps sent is_out fails = FrontFails sent (λ put q. fails put q x)
FailedEach Failed ts p steps sent is_out fails = ⊥

-- ---- at the end

-- what is left of a service's advertisements
abbrev pub rest_of : ServiceTerms → List Step → List (List ℕ)
rest_of t steps = rest_at (setting_of t.config t.filed) (cued t.config (own_steps t.config.index steps))

-- what became of the events of a service
pub record EventsAre (e : ServiceEvents) (t : ServiceTerms) (steps : List Step) : Type 0 where
  pub index : e.index ≡ t.config.index
  pub program : e.program ≡ t.config.program
  pub switch : ReportIs e.switch (report_of (setting_of t.config t.filed) (cued t.config (own_steps t.config.index steps)))

-- of the events of each, service by service
abbrev pub AreEvents : List ServiceEvents → List ServiceTerms → List Step → Type 0
AreEvents [] [] steps = Unit {0}
AreEvents [] (t ∷ ts) steps = ⊥
AreEvents (e ∷ es) [] steps = ⊥
AreEvents (e ∷ es) (t ∷ ts) steps = EventsAre e t steps × AreEvents es ts steps

-- that of one, or of these, stands behind what was there before
abbrev pub AddsOne : List ServiceEvents → List ServiceEvents → ServiceTerms → List Step → Type 0
AddsOne before now t steps = (e : ServiceEvents) × (now ≡ before ++ e ∷ []) × EventsAre e t steps

abbrev pub AddsEvents : List ServiceEvents → List ServiceEvents → List ServiceTerms → List Step → Type 0
AddsEvents before now ts steps = (more : List ServiceEvents) × (now ≡ before ++ more) × AreEvents more ts steps

-- what was left was not taken: the sink failed behind a front of it; or there was no room for eight services' events
abbrev pub OneRestFails : FeedFault → List ServiceEvents → ServiceTerms → List Step → (List (List ℕ) → List ℕ → PutFault → Type 0) → Type 0
OneRestFails (Network f) before t steps fails = ⊥
OneRestFails (Sink x) before t steps fails = FrontFails (rest_of t steps) (λ put q. fails put q x)
OneRestFails Failed before t steps fails = 8 ≤ length before

abbrev pub RestFails : FeedFault → List ServiceEvents → List ServiceTerms → List Step → (List (List ℕ) → List ℕ → PutFault → Type 0) → Type 0
RestFails (Network f) before ts steps fails = ⊥
RestFails (Sink x) before ts steps fails = FrontFails (services_rest ts steps) (λ put q. fails put q x)
RestFails Failed before ts steps fails = 8 < length before + length ts
