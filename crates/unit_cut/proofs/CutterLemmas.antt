-- One packet through the cutter, case by case.
use Rattle.std.specs.Prelude.{ℤ, IfSome}
use Rattle.std.proofs.Common.{◌≡◌, ℕ, List, [], ◌∷◌, Bool, true, false, not, refl, sym, ap, ◌∙◌, Option, None, Some, ◌&&◌, if◌then◌else◌, Ok, is_some}
use Rattle.pes_time.specs.Line.{lift}
use Rattle.ts_packet.specs.Fields.{on, payload_on, payload, scrambled}
use Rattle.ts_packet.specs.Numbering.{Step, Kept, Dropped}
use Rattle.ts_packet.proofs.Cases.{by_test}
use Rattle.unit_stream.specs.Times.{begins, begins_one, high, raised, timed, unit_time, first_time, first_after, stamp, splits}
use Rattle.unit_stream.specs.Faults.{unit_fault, start_fault, scrambled_one}
use Rattle.unit_stream.proofs.ClockLemmas.{fault_none, fault_begun}
use Rattle.unit_stream.specs.Fates.{is_cut, steps, numbered}
use Rattle.std.proofs.Math.Bool.{or-false}
use Rattle.unit_cut.specs.Standing.{Cut, goes_by, TimingFor, Begins, BeginsWith, CutAnswers}
use Rattle.unit_cut.specs.declared.timing.Timing.{Timing}

-- ---- fields

-- ---- faults

pub scrambled_is : (pid : ℕ) (p : List ℕ) (b : Bool) → on pid p ≡ true → (is_some (payload p) && scrambled p) ≡ b → scrambled_one (pid ∷ []) p ≡ b
unfolding payload_on
scrambled_is pid p b o h = or-false _ ∙ simp o h

pub scrambled_off : (pid : ℕ) (p : List ℕ) → payload_on pid p ≡ false → scrambled_one (pid ∷ []) p ≡ false
scrambled_off pid p y = simp y

pub fault_still : (pid : ℕ) (p : List ℕ) (past : List (List ℕ)) → scrambled_one (pid ∷ []) p ≡ false → begins pid p past ≡ false → unit_fault (pid ∷ []) p past ≡ None
fault_still pid p past h b = fault_none (pid ∷ []) p past h (or-false (begins pid p past) ∙ b)

pub fault_start : (pid : ℕ) (p : List ℕ) (past : List (List ℕ)) → scrambled_one (pid ∷ []) p ≡ false → begins pid p past ≡ true
    → unit_fault (pid ∷ []) p past ≡ start_fault (high (pid ∷ []) past) (splits p) (stamp p)
fault_start pid p past h b = fault_begun (pid ∷ []) p past h (or-false (begins pid p past) ∙ b)

-- ---- the clock and the running unit

pub timing_same : (t : Timing) (k : Cut) (p : List ℕ) (past : List (List ℕ)) → begins k.pid p past ≡ false
    → TimingFor t k (high (k.pid ∷ []) past) (unit_time (k.pid ∷ []) k.pid past)
    → TimingFor t k (high (k.pid ∷ []) (p ∷ past)) (unit_time (k.pid ∷ []) k.pid (p ∷ past))
timing_same t k p past b h = simp (or-false, b) h

pub timing_start : (t : Timing) (k : Cut) (p : List ℕ) (past : List (List ℕ)) → begins k.pid p past ≡ true
    → TimingFor t k (raised (high (k.pid ∷ []) past) (stamp p)) (timed (high (k.pid ∷ []) past) (stamp p) (unit_time (k.pid ∷ []) k.pid past))
    → TimingFor t k (high (k.pid ∷ []) (p ∷ past)) (unit_time (k.pid ∷ []) k.pid (p ∷ past))
timing_start t k p past b h = simp (or-false, b) h

pub cut_is : (k : Cut) (p : List ℕ) (past : List (List ℕ)) (g : Bool) → payload_on k.pid p ≡ true → g ≡ goes_by k (unit_time (k.pid ∷ []) k.pid (p ∷ past))
    → is_cut (goes_by k) (k.pid ∷ []) k.pid p past ≡ g
cut_is k p past g y h = ap (λ v. v && goes_by k (unit_time (k.pid ∷ []) k.pid (p ∷ past))) y ∙ sym h

pub cut_off : (k : Cut) (p : List ℕ) (past : List (List ℕ)) → payload_on k.pid p ≡ false → is_cut (goes_by k) (k.pid ∷ []) k.pid p past ≡ false
cut_off k p past y = ap (λ v. v && goes_by k (unit_time (k.pid ∷ []) k.pid (p ∷ past))) y

-- ---- the begin of the cut on the line

first_with : (h f : Option ℤ) (s : Option ℕ) → (h ≡ None → f ≡ None) → raised h s ≡ None → first_after f s ≡ None
first_with h None None i e = refl
first_with h (Some f) None i e = let c : Some f ≡ None = i e in cc
first_with None f (Some t) i e = absurd (cc)
first_with (Some h) f (Some t) i e = absurd (cc)

none_more : (sw : List ℕ) (p : List ℕ) (past : List (List ℕ)) → (high sw past ≡ None → first_time sw past ≡ None) → high sw (p ∷ past) ≡ None → first_time sw (p ∷ past) ≡ None
none_more sw p past i e =
    by_test (begins_one sw p past)
    (λ b. let f = simp b at e in simp b (first_with (high sw past) (first_time sw past) (stamp p) i f))
    (λ b. let f = simp b at e in simp b (i f))

-- while no unit is timed there is no first one
pub none_first : (sw : List ℕ) (past : List (List ℕ)) → high sw past ≡ None → first_time sw past ≡ None
none_first sw [] e = refl
none_first sw (p ∷ past) e = none_more sw p past (none_first sw past) e

abbrev pub Placed : Cut → Option ℤ → Type 0
Placed k first = IfSome first (λ f. k.begin ≡ lift f k.from)

placed_with : (k : Cut) (h f : Option ℤ) (s : Option ℕ) → (h ≡ None → f ≡ None) → Placed k (first_after f s) → BeginsWith k h s
placed_with k None f None i b = tt
placed_with k None None (Some t) i b = b
placed_with k None (Some f) (Some t) i b = let c : Some f ≡ None = i refl in absurd (cc)
placed_with k (Some h) f s i b = tt

pub begins_with : (k : Cut) (p : List ℕ) (past : List (List ℕ)) → begins k.pid p past ≡ true → Begins k (p ∷ past) → BeginsWith k (high (k.pid ∷ []) past) (stamp p)
begins_with k p past b h =
    let e : Placed k (first_after (first_time (k.pid ∷ []) past) (stamp p)) = simp (or-false, b) at h in
    placed_with k (high (k.pid ∷ []) past) (first_time (k.pid ∷ []) past) (stamp p) (none_first (k.pid ∷ []) past) e

placed_before : (k : Cut) (f : Option ℤ) (s : Option ℕ) → Placed k (first_after f s) → Placed k f
placed_before k None s h = tt
placed_before k (Some f) s h = h

-- what places the begin for more packets places it for fewer
pub begins_before : (k : Cut) (p : List ℕ) (past : List (List ℕ)) → Begins k (p ∷ past) → Begins k past
begins_before k p past h =
    by_test (begins_one (k.pid ∷ []) p past)
    (λ b. let e : Placed k (first_after (first_time (k.pid ∷ []) past) (stamp p)) = simp b at h in placed_before k _ _ e)
    (λ b. simp b at h)

-- ---- what is settled

pub events_settled : (o c n r : Bool) (p : List ℕ) (es : List Step) → o ≡ true → n ≡ true → r ≡ not c
    → (if r then Kept p ∷ es else Dropped p ∷ es) ≡ (if c then (if n then Dropped p ∷ es else es) else (if o then Kept p ∷ es else es))
events_settled true true true r p es a b e = rw e refl
events_settled true false true r p es a b e = rw e refl
events_settled false c n r p es a b e = cc
events_settled true c false r p es a b e = cc

pub events_repeated : (o c n r : Bool) (p : List ℕ) (es : List Step) → o ≡ true → n ≡ false → r ≡ not c
    → (if r then Kept p ∷ es else es) ≡ (if c then (if n then Dropped p ∷ es else es) else (if o then Kept p ∷ es else es))
events_repeated true true false r p es a b e = rw e refl
events_repeated true false false r p es a b e = rw e refl
events_repeated false c n r p es a b e = cc
events_repeated true c true r p es a b e = cc

pub settled : (k : Cut) (p : List ℕ) (past : List (List ℕ)) (r g : Bool) (q : List ℕ) → r ≡ not g → unit_fault (k.pid ∷ []) p past ≡ None
    → is_cut (goes_by k) (k.pid ∷ []) k.pid p past ≡ g → (r ≡ true → q ≡ numbered k.pid p (steps (goes_by k) (k.pid ∷ []) k.pid past)) → CutAnswers k p past (Ok r) q
settled k p past true true q e f c w = cc
settled k p past true false q e f c w = (f, c, w refl)
settled k p past false true q e f c w = (f, c)
settled k p past false false q e f c w = cc
