-- The greatest time rises.
use Rattle.std.proofs.Common.{◌≡◌, ℕ, ◌<◌, ◌^◌, Bool, true, false, cond, List, [], ◌∷◌, refl, ap, sym, ◌∙◌, subst, arith}
use Rattle.std.specs.Prelude.{ℤ, pos, ◌+ℤ◌, ◌-ℤ◌, ◌≤ℤ◌, Option, None, Some, IfSome}
use Rattle.std.specs.Int.{int_max}
use Rattle.std.specs.Option.{option_or}
use Rattle.std.proofs.lemmas.Int.{ints}
use Rattle.pes_time.specs.Line.{place}
use Rattle.pes_time.proofs.StampLemmas.{stamp_of_below}
use Rattle.ts_packet.specs.Fields.{bytes}
use Rattle.unit_stream.specs.Times.{high, begins_one, stamp, splits, raised}
use Rattle.unit_stream.specs.Faults.{unit_fault, scrambled_one, start_fault, jumps, is_far}
use Rattle.unit_stream.specs.Clocks.{Rises}
use Rattle.unit_stream.specs.declared.fault.UnitFault.TheVariants.{Scrambled, HeaderSplit, TimeJump}
use Rattle.program_follower.specs.Program.{Program, program_of, behind_head, pids_of}
use Rattle.program_follower.specs.Faults.{network_fault, cue_fault, pats_fault_at, maps_fault_at}
use Rattle.program_follower.specs.Following.{grown, high_of}
use Rattle.program_follower.proofs.FollowLemmas.{program_stays, grown_is, no_high, no_unit_fault}
use Rattle.break_timelines.specs.Line.{IsPast, IsFirst, Follows}
use Rattle.break_timelines.specs.Timelines.{planning}

second_none : {A : Type 0} (x y : Option A) → option_or x y ≡ None → y ≡ None
second_none None y is = is
second_none (Some a) y is = absurd (let no : Some a ≡ None = is in cc)

no_units : (program : ℕ) (p : List ℕ) (past : List (List ℕ)) → network_fault (planning program) p past ≡ None
    → unit_fault (pids_of (program_of (Some program) past)) p (behind_head (Some program) past) ≡ None
no_units program p past good =
    no_unit_fault _ (second_none (maps_fault_at (planning program) p past) _ (second_none (pats_fault_at (planning program) p past) _
    (second_none (cue_fault (planning program) p) _ good)))

-- ---- the first time

first_stamp : (s : Option ℕ) → IfSome s (λ t. t < 2 ^ 33) → IsFirst (raised None s)
first_stamp None below = tt
first_stamp (Some t) below = (t, below, refl)

stamp_below : (p : List ℕ) → IfSome (stamp p) (λ t. t < 2 ^ 33)
unfolding stamp
stamp_below p = stamp_of_below (bytes p)

first_unit : (pids : List ℕ) (p : List ℕ) (past : List (List ℕ)) → high pids past ≡ None → IsFirst (high pids (p ∷ past))
first_unit pids p past none = by (begins_one pids p past)
  where
    by : (b : Bool) → IsFirst (cond b (raised (high pids past) (stamp p)) (high pids past))
    by true = subst (λ h. IsFirst (raised h (stamp p))) (sym none) (first_stamp (stamp p) (stamp_below p))
    by false = subst IsFirst (sym none) tt

-- ---- a later one

raised_by : (h t : ℤ) → is_far (t -ℤ h) ≡ false → (h ≤ℤ int_max h t) × (int_max h t ≤ℤ (h +ℤ pos 900000))
raised_by h t near = (grind (arith, ints), grind (arith, ints))

no_fault : (b : Bool) → cond b (Some TimeJump) None ≡ None → b ≡ false
no_fault true is = let no : Some TimeJump ≡ None = is in cc
no_fault false is = refl

begun : (h : ℤ) (split : Bool) (s : Option ℕ) → start_fault (Some h) split s ≡ None → Rises (Some h) (raised (Some h) s)
begun h true s fault = absurd (let no : Some HeaderSplit ≡ None = fault in cc)
begun h false None fault = (omega (arith, ints), omega (arith, ints))
begun h false (Some t) fault = raised_by h (place (Some h) t) (no_fault (jumps (Some h) (Some t)) fault)

later_unit : (pids : List ℕ) (p : List ℕ) (past : List (List ℕ)) (h : ℤ) → high pids past ≡ Some h → unit_fault pids p past ≡ None
    → Rises (Some h) (high pids (p ∷ past))
later_unit pids p past h is fault = by (scrambled_one pids p) (begins_one pids p past) (rw is at fault)
  where
    by : (scrambled begins : Bool) → cond scrambled (Some Scrambled) (cond begins (start_fault (Some h) (splits p) (stamp p)) None) ≡ None
        → Rises (Some h) (cond begins (raised (high pids past) (stamp p)) (high pids past))
    by true begins fault = absurd (let no : Some Scrambled ≡ None = fault in cc)
    by false true fault = subst (λ x. Rises (Some h) (raised x (stamp p))) (sym is) (begun h (splits p) (stamp p) fault)
    by false false fault = subst (λ x. Rises (Some h) x) (sym is) (omega (arith, ints), omega (arith, ints))

-- ---- of a program

module _ (program : ℕ) (p : List ℕ) (past : List (List ℕ)) (good : network_fault (planning program) p past ≡ None) where
  follows_in : (r : Option Program) (h : Option ℤ) → program_of (Some program) past ≡ r → high (pids_of r) (behind_head (Some program) past) ≡ h
      → Follows h (high_of (Some program) (p ∷ past))
  follows_in None h is at =
      let none : h ≡ None = sym at ∙ no_high (behind_head (Some program) past) in
      let behind : [] ≡ behind_head (Some program) (p ∷ past)
      = ap (λ x. grown x p (behind_head (Some program) past)) (sym is) ∙ grown_is (Some program) p past in
      subst (λ x. Follows x (high_of (Some program) (p ∷ past))) (sym none)
      (subst (λ ps. IsFirst (high (pids_of (program_of (Some program) (p ∷ past))) ps)) behind tt)
  follows_in (Some r) h is at =
      let known : program_of (Some program) (p ∷ past) ≡ Some r = program_stays (Some program) p past r is in
      let behind : p ∷ behind_head (Some program) past ≡ behind_head (Some program) (p ∷ past)
      = ap (λ x. grown x p (behind_head (Some program) past)) (sym is) ∙ grown_is (Some program) p past in
      let fault : unit_fault (pids_of (Some r)) p (behind_head (Some program) past) ≡ None
      = subst (λ x. unit_fault (pids_of x) p (behind_head (Some program) past) ≡ None) is (no_units program p past good) in
      subst (λ x. Follows h (high (pids_of x) (behind_head (Some program) (p ∷ past)))) (sym known)
      (subst (λ ps. Follows h (high (pids_of (Some r)) ps)) behind (by h at fault))
    where
      by : (h : Option ℤ) → high (pids_of (Some r)) (behind_head (Some program) past) ≡ h
          → unit_fault (pids_of (Some r)) p (behind_head (Some program) past) ≡ None
          → Follows h (high (pids_of (Some r)) (p ∷ behind_head (Some program) past))
      by None at fault = first_unit (pids_of (Some r)) p (behind_head (Some program) past) at
      by (Some h) at fault = later_unit (pids_of (Some r)) p (behind_head (Some program) past) h at fault

  -- without a fault the greatest times before and behind a packet follow one another
  pub follows : Follows (high_of (Some program) past) (high_of (Some program) (p ∷ past))
  follows = follows_in (program_of (Some program) past) (high_of (Some program) past) refl refl

pub past_after : (before after : Option ℤ) → IsPast before → Follows before after → IsPast after
past_after None None is f = tt
past_after None (Some h) is (stamp, below, at) = subst (λ x. pos 0 ≤ℤ x) (sym at) (omega (arith, ints))
past_after (Some h) None is f = tt
past_after (Some h) (Some l) is f = let low = f.0 in omega (arith, ints)
