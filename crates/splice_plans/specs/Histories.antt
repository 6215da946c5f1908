-- Events as they were at each past, and what the advertisements say of them.
use Rattle.std.specs.Prelude.{◌≡◌, ℕ, ℤ, ◌++◌, List, true, All, Contains, Option}
use Rattle.event_table.specs.Standing.{Standing}
use Rattle.armed_laws.specs.Laws.{Becomes, Grows, NoneMeet}
use Rattle.splice_laws.specs.Splicing.{PlayedEvent, stream, begun, closed}
use Rattle.splice_laws.specs.Settled.{begun_now, closed_now}
use Rattle.unit_stream.specs.Times.{high}
use Rattle.splice_plans.specs.Playing.{Adverts, History, is_played, as_played, end_known}
use Rattle.splice_plans.specs.Switching.{Setting, switched_at, history_at, is_behind_head}
use Rattle.splice_plans.specs.Laws.{EndsFall}

-- where this is the greatest time: what becomes of an event is as the cues have it, and no two ever meet
pub record IsHistory (greatest : List (List ℕ) → Option ℤ) (events : History) : Type 0 where
  pub grows : (more past : List (List ℕ)) → Grows (greatest past) (events past) (events (more ++ past))
  pub apart : (past : List (List ℕ)) → NoneMeet (events past)

-- what the advertisements say of an event does not change with what becomes of it: it goes by its program, its start and the length first
-- asked for
pub record AreSteady (ads : Adverts) : Type 0 where
  pub fits : (latest : Option ℤ) (e x : Standing) → Becomes latest e x → ads.fits x ≡ ads.fits e
  pub units : (latest : Option ℤ) (e x : Standing) → Becomes latest e x → (pid : ℕ) → ads.units x pid ≡ ads.units e pid

-- THE LAW OF ENDS: of an event that has begun in a stream the end in force never rises, and stays where the greatest time has come to it
abbrev pub EndsNeverRise : Type 0
EndsNeverRise = (switched : List ℕ) (pid : ℕ) → Contains switched pid → (ads : Adverts) → AreSteady ads → (events : History) → IsHistory (high switched) events →
    (x : PlayedEvent) → EndsFall (stream switched pid) x (end_known ads events x.start)

-- whether the event has begun, and whether it is closed, by what was known then, is what it is by its last end
abbrev pub IsSettledAt : List ℕ → ℕ → Adverts → History → List (List ℕ) → Standing → Type 0
IsSettledAt switched pid ads events past e = is_played ads e ≡ true →
    (begun_now (stream switched pid) (as_played e) (end_known ads events e.start) past ≡ begun (stream switched pid) (as_played e) past)
    × (closed_now (stream switched pid) (as_played e) (end_known ads events e.start) past ≡ closed (stream switched pid) (as_played e) past)

-- THE LAW OF SETTLEMENT: so it is at each past of a run, for the events of its end
abbrev pub PlayedSettle : Type 0
PlayedSettle = (switched : List ℕ) (pid : ℕ) → Contains switched pid → (ads : Adverts) → AreSteady ads → (events : History) → IsHistory (high switched) events →
    (more past : List (List ℕ)) → All (IsSettledAt switched pid ads events past) (events (more ++ past))

-- THE LAW OF CUES: the events that the cues of a network arm behind its head are a history
abbrev pub ArmedIsHistory : Type 0
ArmedIsHistory = (k : Setting) (past : List (List ℕ)) → is_behind_head k past ≡ true → IsHistory (high (switched_at k past)) (history_at k past)
