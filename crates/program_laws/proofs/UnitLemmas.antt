-- Packets that are no payload packets of switched PIDs change neither units nor times.
use Rattle.std.proofs.Common.{◌≡◌, ℕ, ℤ, List, [], ◌∷◌, Bool, true, false, not, ◌&&◌, ◌||◌, refl, sym, ap, ◌∙◌, Option, if◌then◌else◌}
use Rattle.std.specs.List.{AllByRecursion}
use Rattle.std.specs.Prelude.{filter}
use Rattle.ts_packet.specs.Fields.{payload_on, bytes, unit_start, random_access}
use Rattle.ts_packet.specs.Duplicates.{repeats, original}
use Rattle.ts_packet.proofs.Cases.{by_test}
use Rattle.unit_stream.specs.Times.{begins, begins_one, high, unit_time, stamp, raised, timed}
use Rattle.unit_stream.specs.Units.{TimedUnit, units_back, longer}
use Rattle.program_laws.specs.Behind.{TakesAll, OthersAreNoUnits}

module _ (takes : List ℕ → Bool) where
  filter_yes : (q : List ℕ) (past : List (List ℕ)) → takes q ≡ true → filter takes (q ∷ past) ≡ q ∷ filter takes past
  filter_yes q past h = simp h

  filter_no : (q : List ℕ) (past : List (List ℕ)) → takes q ≡ false → filter takes (q ∷ past) ≡ filter takes past
  filter_no q past h = simp h

  -- one PID
  module _ (pid : ℕ) (all : TakesAll takes pid) where
    repeats_taken : (p : List ℕ) (past : List (List ℕ)) → repeats pid p past ≡ repeats pid p (filter takes past)
    repeats_taken p [] = refl
    repeats_taken p (q ∷ past) =
        let i = repeats_taken p past in
        let j = repeats_taken q past in
        by_test (takes q)
        (λ y. rw (filter_yes q past y) (simp (i, j) refl))
        (λ n. let k = all q n in rw (filter_no q past n) (simp k i))

    begins_taken : (p : List ℕ) (past : List (List ℕ)) → begins pid p past ≡ begins pid p (filter takes past)
    begins_taken p past = ap (λ x. (payload_on pid p && not x) && unit_start p) (repeats_taken p past)

    original_taken : (p : List ℕ) (past : List (List ℕ)) → original pid p past ≡ original pid p (filter takes past)
    original_taken p past = ap (λ x. payload_on pid p && not x) (repeats_taken p past)

    original_not : (p : List ℕ) (past : List (List ℕ)) → takes p ≡ false → original pid p past ≡ false
    original_not p past n = let k = all p n in simp k

    begins_not : (p : List ℕ) (past : List (List ℕ)) → takes p ≡ false → begins pid p past ≡ false
    begins_not p past n = let k = all p n in simp k

  one_taken : (switched : List ℕ) → AllByRecursion (TakesAll takes) switched → (p : List ℕ) (past : List (List ℕ)) → begins_one switched p past ≡ begins_one switched p (filter takes past)
  one_taken [] h p past = refl
  one_taken (pid ∷ pids) h p past = let i = begins_taken pid h.0 p past in let j = one_taken pids h.1 p past in ap (λ x. x || begins_one pids p past) i ∙ ap (λ x. begins pid p (filter takes past) || x) j

  one_not : (switched : List ℕ) → AllByRecursion (TakesAll takes) switched → (p : List ℕ) (past : List (List ℕ)) → takes p ≡ false → begins_one switched p past ≡ false
  one_not [] h p past n = refl
  one_not (pid ∷ pids) h p past n = let i = begins_not pid h.0 p past n in let j = one_not pids h.1 p past n in ap (λ x. x || begins_one pids p past) i ∙ j

  module _ (switched : List ℕ) (every : AllByRecursion (TakesAll takes) switched) where
    high_taken : (past : List (List ℕ)) → high switched past ≡ high switched (filter takes past)
    high_taken [] = refl
    high_taken (p ∷ past) =
        let i = high_taken past in
        by_test (takes p)
        (λ y. rw (filter_yes p past y) (
        ap (λ x. if x then raised (high switched past) (stamp p) else high switched past) (one_taken switched every p past)
        ∙ ap (λ h. if begins_one switched p (filter takes past) then raised h (stamp p) else h) i))
        (λ n. rw (filter_no p past n) (ap (λ x. if x then raised (high switched past) (stamp p) else high switched past) (one_not switched every p past n) ∙ i))

    module _ (pid : ℕ) (all : TakesAll takes pid) where
      time_taken : (past : List (List ℕ)) → unit_time switched pid past ≡ unit_time switched pid (filter takes past)
      time_taken [] = refl
      time_taken (p ∷ past) =
          let i = time_taken past in
          let h = high_taken past in
          by_test (takes p)
          (λ y. rw (filter_yes p past y) (
          ap (λ x. if x then timed (high switched past) (stamp p) (unit_time switched pid past) else unit_time switched pid past) (begins_taken pid all p past)
          ∙ ap (λ t. if begins pid p (filter takes past) then timed (high switched past) (stamp p) t else t) i
          ∙ ap (λ g. if begins pid p (filter takes past) then timed g (stamp p) (unit_time switched pid (filter takes past)) else unit_time switched pid (filter takes past)) h))
          (λ n. rw (filter_no p past n) (
          ap (λ x. if x then timed (high switched past) (stamp p) (unit_time switched pid past) else unit_time switched pid past) (begins_not pid all p past n) ∙ i))

      abbrev unit_of : List ℕ → Option ℤ → TimedUnit
      unit_of p t = record { time = t; payload = bytes p; random_access = random_access p }

      units_taken : (past : List (List ℕ)) → units_back switched pid past ≡ units_back switched pid (filter takes past)
      units_taken [] = refl
      units_taken (p ∷ past) =
          let i = units_taken past in
          let kept = filter takes past in
          by_test (takes p)
          (λ y. rw (filter_yes p past y) (
          let t : unit_time switched pid (p ∷ past) ≡ unit_time switched pid (p ∷ kept) = time_taken (p ∷ past) ∙ ap (unit_time switched pid) (filter_yes p past y) in
          ap (λ us. if begins pid p past then unit_of p (unit_time switched pid (p ∷ past)) ∷ us else (if original pid p past then longer us (bytes p) else us)) i
          ∙ ap (λ v. if begins pid p past then unit_of p v ∷ units_back switched pid kept else (if original pid p past then longer (units_back switched pid kept) (bytes p) else units_back switched pid kept)) t
          ∙ ap (λ x. if x then unit_of p (unit_time switched pid (p ∷ kept)) ∷ units_back switched pid kept else (if original pid p past then longer (units_back switched pid kept) (bytes p) else units_back switched pid kept))
          (begins_taken pid all p past)
          ∙ ap (λ x. if begins pid p kept then unit_of p (unit_time switched pid (p ∷ kept)) ∷ units_back switched pid kept else (if x then longer (units_back switched pid kept) (bytes p) else units_back switched pid kept))
          (original_taken pid all p past)))
          (λ n. rw (filter_no p past n) (
          ap (λ x. if x then unit_of p (unit_time switched pid (p ∷ past)) ∷ units_back switched pid past else (if original pid p past then longer (units_back switched pid past) (bytes p) else units_back switched pid past))
          (begins_not pid all p past n)
          ∙ ap (λ x. if x then longer (units_back switched pid past) (bytes p) else units_back switched pid past) (original_not pid all p past n)
          ∙ i))

pub others_are_no_units : OthersAreNoUnits
others_are_no_units takes switched pid past other every all h = record {
  high = high_taken takes switched every past ∙ ap (high switched) h ∙ sym (high_taken takes switched every other);
  time = time_taken takes switched every pid all past ∙ ap (unit_time switched pid) h ∙ sym (time_taken takes switched every pid all other);
  units = units_taken takes switched every pid all past ∙ ap (units_back switched pid) h ∙ sym (units_taken takes switched every pid all other);
}
