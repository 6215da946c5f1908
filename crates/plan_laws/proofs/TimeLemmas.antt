-- The time of a sound unit, and whether units lie in played events.
use Rattle.std.proofs.Common.{◌≡◌, ℕ, List, ◌∷◌, Bool, true, false, refl, sym, ap, ◌∙◌, subst, Option, None, Some, arith, if◌then◌else◌}
use Rattle.std.specs.Prelude.{ℤ, pos, negsuc, ◌+ℤ◌, ◌-ℤ◌, ◌≤ℤ◌, option_map}
use Rattle.std.specs.Int.{int_max}
use Rattle.std.proofs.lemmas.Int.{ints}
use Rattle.std.proofs.lemmas.Bool.{true≢false, or_parts}
use lib.Signed.{lt_z}
use Rattle.pes_time.specs.Line.{ring_of, place}
use Rattle.unit_stream.specs.Times.{begins_one, stamp, splits, raised, high}
use Rattle.unit_stream.specs.Faults.{unit_fault, scrambled_one, jumps, is_far}
use Rattle.unit_stream.specs.declared.fault.UnitFault.TheVariants.{Scrambled, HeaderSplit, TimeJump}
use Rattle.ad_library.specs.Advertisements.{Advertisement}
use Rattle.splice_laws.proofs.PidLemmas.{pids_are_streams}
use Rattle.splice_plans.specs.Playing.{is_inside}
use Rattle.splice_plans.specs.Switching.{Setting, switched_at, high_at, events_at}
use Rattle.splice_plans.specs.Parts.{IsReached}
use Rattle.splice_plans.specs.Fronts.{IsNearTime}
use Rattle.splice_plans.specs.Known.{behind_at, adverts_at}
use Rattle.armed_laws.proofs.MeetLemmas.{same-low}
use Rattle.plan_laws.specs.Laws.{Starts, StartsAreNear, HighIsReached, OthersLieAsBefore}
use Rattle.plan_laws.proofs.StandingLemmas.{others-begin-not, begins-some}
use Rattle.plan_laws.proofs.RunLemmas.{has-head, high-is}
use Rattle.plan_laws.proofs.PlanLemmas.{pick-first}

no-fault : (c b s j : Bool) → (if c then Some Scrambled else (if b then (if s then Some HeaderSplit else (if j then Some TimeJump else None)) else None)) ≡ None → b ≡ true → j ≡ false
no-fault true b s j h k = absurd (cc)
no-fault false true true j h k = absurd (cc)
no-fault false true false true h k = absurd (cc)
no-fault false true false false h k = refl
no-fault false false s j h k = absurd (true≢false (sym k))

not-far : (t h : ℤ) → is_far (t -ℤ h) ≡ false → (h ≤ℤ (t +ℤ pos 900000)) × (t ≤ℤ (h +ℤ pos 900000))
not-far t h f = let o = or_parts (lt_z (pos 900000) (t -ℤ h)) (lt_z (t -ℤ h) (negsuc 899999)) f in (low t h o.1, top t h o.0)
  where
    low : (t h : ℤ) → lt_z (t -ℤ h) (negsuc 899999) ≡ false → h ≤ℤ (t +ℤ pos 900000)
    low t h f = grind (arith, ints, f)

    top : (t h : ℤ) → lt_z (pos 900000) (t -ℤ h) ≡ false → t ≤ℤ (h +ℤ pos 900000)
    top t h f = grind (arith, ints, f)

near-by : (latest : Option ℤ) (st : Option ℕ) → jumps latest st ≡ false → IsNearTime latest st
near-by latest None j = tt
near-by None (Some t) j = tt
near-by (Some h) (Some t) j = not-far (place (Some h) t) h j

pub near-time : (sw : List ℕ) (p : List ℕ) (past : List (List ℕ)) → unit_fault sw p past ≡ None → begins_one sw p past ≡ true → IsNearTime (high sw past) (stamp p)
near-time sw p past f b = near-by (high sw past) (stamp p) (no-fault (scrambled_one sw p) (begins_one sw p past) (splits p) (jumps (high sw past) (stamp p)) f b)

low-more : (a : ℤ) → a ≤ℤ (a +ℤ pos 900000)
low-more a = omega (arith, ints)

max-low : (h t : ℤ) → h ≤ℤ int_max h t
max-low h t = grind (arith, ints)

max-top : (h t : ℤ) → t ≤ℤ (h +ℤ pos 900000) → int_max h t ≤ℤ (h +ℤ pos 900000)
max-top h t k = grind (arith, ints, k)

reached-by : (latest : Option ℤ) (st : Option ℕ) → IsNearTime latest st → IsReached latest (option_map ring_of (raised latest st)) (raised latest st)
reached-by None None n = tt
reached-by (Some h) None n = (refl, same-low h, low-more h)
reached-by None (Some t) n = refl
reached-by (Some h) (Some t) n = (refl, max-low h (place (Some h) t), max-top h (place (Some h) t) n.1)

pub starts_are_near : StartsAreNear
starts_are_near k filed n pid p past s = near-time (switched_at k past) p (behind_at k past) s.sound (begins-some (switched_at k past) n pid s.of p (behind_at k past) s.begins_it)

pub high-raised : (k : Setting) (filed : ℕ → Option Advertisement) (n pid : ℕ) (p : List ℕ) (past : List (List ℕ)) → Starts k filed n pid p past → high_at k (p ∷ past) ≡ raised (high_at k past) (stamp p)
high-raised k filed n pid p past s =
    high-is k p past (has-head k p past n pid s.of)
    ∙ pick-first (raised (high_at k past) (stamp p)) (high_at k past) (begins_one (switched_at k past) p (behind_at k past)) (begins-some (switched_at k past) n pid s.of p (behind_at k past) s.begins_it)

pub high_is_reached : HighIsReached
high_is_reached k filed n pid p past s =
    subst (λ top. IsReached (high_at k past) (option_map ring_of top) top) (sym (high-raised k filed n pid p past s)) (reached-by (high_at k past) (stamp p) (starts_are_near k filed n pid p past s))

pub others_lie_as_before : OthersLieAsBefore
others_lie_as_before k filed n pid p past s i q is differ =
    ap (is_inside (adverts_at k past) (events_at k past))
    ((pids_are_streams (switched_at k past) q).steady p (behind_at k past) (others-begin-not (switched_at k past) s.separate n pid s.of p (behind_at k past) s.begins_it i q is differ))
