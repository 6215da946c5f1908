-- What a cutter stands for after the packets that it has seen.
use Rattle.std.specs.Prelude.{◌≡◌, ℕ, ◌^◌, ◌⊎◌, List, [], ◌∷◌, Bool, true, false, Option, Some, None, Result, Ok, Err, ℤ, pos, ◌+ℤ◌, ◌-ℤ◌, ◌≤ℤ◌, IfSome}
use Rattle.pes_time.specs.Line.{lift}
use Rattle.ts_packet.specs.Numbering.{Counts}
use Rattle.unit_stream.specs.Times.{high, unit_time, first_time}
use Rattle.unit_stream.specs.Clocks.{ClockAt}
use Rattle.unit_stream.specs.Faults.{unit_fault}
use Rattle.unit_stream.specs.Pieces.{FollowsUnits}
use Rattle.unit_stream.specs.declared.fault.UnitFault.{UnitFault}
use Rattle.unit_stream.specs.Fates.{is_cut, steps, numbered}
use Rattle.unit_cut.specs.Cutting.{inside}
use Rattle.unit_cut.specs.declared.distance.Distance.{Distance}
use Rattle.unit_cut.specs.declared.timing.Timing.{Timing}
use Rattle.unit_cut.specs.declared.cutter.Cutter.{Cutter}

-- the greatest time is so far past the begin; 2^40 stands for all that is farther
abbrev pub IsDistance : ℤ → ℤ → ℤ → Type 0
IsDistance ticks begin high = (ticks ≡ high -ℤ begin) ⊎ ((ticks ≡ pos (2 ^ 40)) × ((begin +ℤ pos (2 ^ 40)) ≤ℤ high))

-- what is said of each begin and greatest time that lie so far apart
abbrev pub OfDistance : ℤ → (ℤ → ℤ → Type 0) → Type 0
OfDistance ticks says = (begin high : ℤ) → IsDistance ticks begin high → says begin high

abbrev pub DistanceFor : Option Distance → ℤ → Option ℤ → Type 0
DistanceFor None begin None = Unit {0}
DistanceFor (Some d) begin (Some high) = IsDistance d.ticks begin high
DistanceFor None begin (Some high) = ⊥
DistanceFor (Some d) begin None = ⊥

-- a cut: its PID, its begin on the ring and on the line, its length
pub record Cut : Type 0 where
  pub pid : ℕ
  pub from : ℕ
  pub begin : ℤ
  pub length : ℕ

-- its units
abbrev pub goes_by : Cut → Option ℤ → Bool
goes_by k = inside k.begin k.length

-- the clock is at `greatest`, and the running unit has this time
pub record TimingFor (timing : Timing) (k : Cut) (greatest time : Option ℤ) : Type 0 where
  pub from : timing.from ≡ k.from
  pub length : timing.length ≡ k.length
  pub clock : ClockAt timing.clock greatest
  pub distance : DistanceFor timing.distance k.begin greatest
  pub going : timing.is_going ≡ goes_by k time

-- the first stamp is what places the begin on the line
abbrev pub BeginsWith : Cut → Option ℤ → Option ℕ → Type 0
BeginsWith k None (Some p) = k.begin ≡ lift (pos p) k.from
BeginsWith k None None = Unit {0}
BeginsWith k (Some h) s = Unit {0}

-- the begin is the one that the first timed unit of the packets so far places
abbrev pub Begins : Cut → List (List ℕ) → Type 0
Begins k past = IfSome (first_time (k.pid ∷ []) past) (λ first. k.begin ≡ lift first k.from)

-- the greatest time, and for the first stamp that stamp
abbrev pub high_or : Option ℤ → ℕ → ℤ
high_or None p = pos p
high_or (Some h) p = h

-- the cutter has seen this past, newest first, and its caller keeps the PID's last payload packet
pub record CutterStandsFor (cutter : Cutter) (kept : List ℕ) (k : Cut) (past : List (List ℕ)) : Type 0 where
  pub same : cutter.pid ≡ k.pid
  pub units : FollowsUnits cutter.units kept k.pid past
  pub timing : TimingFor cutter.timing k (high (k.pid ∷ []) past) (unit_time (k.pid ∷ []) k.pid past)
  pub counter : Counts cutter.counter (steps (goes_by k) (k.pid ∷ []) k.pid past)

-- what it answers to a packet p behind this past, and what becomes of the packet
abbrev pub CutAnswers : Cut → List ℕ → List (List ℕ) → Result Bool UnitFault → List ℕ → Type 0
CutAnswers k p past (Ok true) q = (unit_fault (k.pid ∷ []) p past ≡ None) × (is_cut (goes_by k) (k.pid ∷ []) k.pid p past ≡ false)
    × (q ≡ numbered k.pid p (steps (goes_by k) (k.pid ∷ []) k.pid past))
CutAnswers k p past (Ok false) q = (unit_fault (k.pid ∷ []) p past ≡ None) × (is_cut (goes_by k) (k.pid ∷ []) k.pid p past ≡ true)
CutAnswers k p past (Err f) q = unit_fault (k.pid ∷ []) p past ≡ Some f
