-- A packet without a fault leaves the high time where a table may be told of it.
use Rattle.std.proofs.Common.{◌≡◌, ℕ, Bool, true, false, cond, List, ◌∷◌, refl, arith}
use Rattle.std.specs.Prelude.{ℤ, pos, ◌+ℤ◌, ◌-ℤ◌, ◌≤ℤ◌, Option, None, Some}
use Rattle.std.specs.Int.{int_max}
use Rattle.std.proofs.lemmas.Int.{ints}
use Rattle.pes_time.specs.Line.{signed, ring_of, place}
use Rattle.unit_stream.specs.Times.{high, begins_one, stamp, splits, raised}
use Rattle.unit_stream.specs.Faults.{unit_fault, scrambled_one, start_fault, jumps, is_far}
use Rattle.unit_stream.specs.declared.fault.UnitFault.TheVariants.{Scrambled, HeaderSplit, TimeJump}
use Rattle.event_table.specs.Laws.{MayAdvance}
use Rattle.event_table.proofs.TimeLemmas.{signed-range}

-- a later high time, at most ten seconds on
steps : (h after : ℤ) → h ≤ℤ after → after ≤ℤ (h +ℤ pos 900000) → MayAdvance (Some h) after
steps h after above below =
    let way : signed (ring_of after) (ring_of h) ≡ after -ℤ h = signed-range after h (omega (arith, ints)) (omega (arith, ints)) in
    record { can = record { above = omega (arith, ints); below = omega (arith, ints) }; time = omega (arith, ints) }

first : (after : ℤ) → MayAdvance None after
first after = record { can = tt; time = refl }

raised-by : (h t after : ℤ) → is_far (t -ℤ h) ≡ false → int_max h t ≡ after → (h ≤ℤ after) × (after ≤ℤ (h +ℤ pos 900000))
raised-by h t after near is = (grind (arith, ints), grind (arith, ints))

no-fault : (b : Bool) → cond b (Some TimeJump) None ≡ None → b ≡ false
no-fault true is = let no : Some TimeJump ≡ None = is in cc
no-fault false is = refl

-- a unit that begins without a fault
begun : (before : Option ℤ) (split : Bool) (s : Option ℕ) (after : ℤ) → start_fault before split s ≡ None → raised before s ≡ Some after → MayAdvance before after
begun before true s after fault is = absurd (let no : Some HeaderSplit ≡ None = fault in cc)
begun None false s after fault is = first after
begun (Some h) false None after fault is = let same : h ≡ after = cc in steps h after (omega (arith, ints)) (omega (arith, ints))
begun (Some h) false (Some t) after fault is =
    let near : is_far (place (Some h) t -ℤ h) ≡ false = no-fault (jumps (Some h) (Some t)) fault in
    let top : int_max h (place (Some h) t) ≡ after = cc in
    let parts = raised-by h (place (Some h) t) after near top in
    steps h after parts.0 parts.1

stays : (before : Option ℤ) (after : ℤ) → before ≡ Some after → MayAdvance before after
stays None after is = first after
stays (Some h) after is = let same : h ≡ after = cc in steps h after (omega (arith, ints)) (omega (arith, ints))

pub may-advance : (switched : List ℕ) (p : List ℕ) (past : List (List ℕ)) (after : ℤ) → unit_fault switched p past ≡ None → high switched (p ∷ past) ≡ Some after
    → MayAdvance (high switched past) after
may-advance switched p past after fault is = by-scrambled (scrambled_one switched p) (begins_one switched p past) fault is
  where
    by-scrambled : (scrambled begins : Bool) → cond scrambled (Some Scrambled) (cond begins (start_fault (high switched past) (splits p) (stamp p)) None) ≡ None
        → cond begins (raised (high switched past) (stamp p)) (high switched past) ≡ Some after → MayAdvance (high switched past) after
    by-scrambled true begins fault is = absurd (let no : Some Scrambled ≡ None = fault in cc)
    by-scrambled false true fault is = begun (high switched past) (splits p) (stamp p) after fault is
    by-scrambled false false fault is = stays (high switched past) after is
