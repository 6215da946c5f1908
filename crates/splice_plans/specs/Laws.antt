-- What holds of every switch.
use Rattle.std.specs.Prelude.{◌≡◌, ℕ, ◌∷◌, ◌++◌, ◌⊎◌, List, [], true, false, Option, None, Some, ℤ, ◌≤ℤ◌}
use Rattle.unit_stream.specs.Times.{begins_one}
use Rattle.splice_laws.specs.Splicing.{PlayedEvent, SliceUnit, TimedStream}
use Rattle.splice_laws.specs.Laws.{IsStream}
use Rattle.splice_laws.specs.Settled.{IsAhead, begun_now}
use Rattle.splice_plans.specs.Playing.{Adverts, History, Turns, sent_known}
use Rattle.splice_plans.specs.Switching.{Setting, puts_before, switched_past}

-- THE LAW OF GROWTH: what is out stays out, whatever comes behind it
abbrev pub SwitchGrows : Type 0
SwitchGrows = (k : Setting) (p : List ℕ) (past : List (List ℕ)) → (more : List (List ℕ)) × (switched_past k (p ∷ past) ≡ more ++ switched_past k past)

-- THE LAW OF UNIT STARTS: before a packet that begins no unit nothing is put in
abbrev pub PutsAtUnitStarts : Type 0
PutsAtUnitStarts = (switched : List ℕ) (ads : Adverts) (events : History) (p : List ℕ) (past : List (List ℕ)) → begins_one switched p past ≡ false → puts_before switched ads events p past ≡ []

-- ---- ends that come earlier

-- the end in force with a packet is the one before it, or an earlier one that is still to come where `high` is the greatest time before it
abbrev pub EndFalls : Option ℤ → Option ℤ → Option ℤ → Type 0
EndFalls high None after = Unit {0}
EndFalls high (Some before) None = ⊥
EndFalls high (Some before) (Some after) = (after ≤ℤ before) × ((before ≡ after) ⊎ IsAhead high after)

-- so it is with each packet once the event has begun
abbrev pub EndsFall : TimedStream → PlayedEvent → (List (List ℕ) → Option ℤ) → Type 0
EndsFall r x known = (p : List ℕ) (past : List (List ℕ)) → begun_now r x known past ≡ true → EndFalls (r.high past) (known past) (known (p ∷ past))

-- THE LAW OF GROWTH, FOR ONE EVENT: its units that are out stay out, in their order
abbrev pub SentGrows : Type 0
SentGrows = (turns : Turns) (r : TimedStream) → IsStream r → (x : PlayedEvent) (known : List (List ℕ) → Option ℤ) (units : List SliceUnit) → EndsFall r x known →
    (p : List ℕ) (past : List (List ℕ)) → (more : List SliceUnit) × (sent_known turns r x known units (p ∷ past) ≡ sent_known turns r x known units past ++ more)
