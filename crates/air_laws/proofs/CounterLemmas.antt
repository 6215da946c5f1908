-- Packets but for their counters.
use Rattle.std.proofs.Common.{◌≡◌, ℕ, zero, suc, ◌+◌, ◌*◌, ◌/◌, ◌%◌, ◌<◌, ◌==◌, List, [], ◌∷◌, ◌++◌, map, length, drop, take, Bool, true, false, if◌then◌else◌, refl, sym, ap, ◌∙◌, arith, Option, None, Some}
use Rattle.std.proofs.lemmas.List.{map-append}
use Rattle.ts_packet.specs.Fields.{in_error, pid_of, on, number, is_among, marked, with_number, without_number, renumbered}
use Rattle.ts_packet.specs.Filling.{packets_for}
use Rattle.ts_packet.specs.Clock.{clock_packet}
use Rattle.ts_packet.specs.Runs.{onto}
use Rattle.ts_packet.proofs.Cases.{by_test}
use Rattle.ts_packet.proofs.FieldLemmas.{pid-with, error-with, without_number-renumbered, pid_is}
use Rattle.unit_packing.specs.Packing.{unit_packet, later_unit_packets, room}
use Rattle.splice_laws.specs.Splicing.{SliceUnit}
use Rattle.program_laws.specs.Writing.{number_on}
use Rattle.output_laws.specs.Output.{clock_alone}
use Rattle.splice_plans.specs.Adverts.{packed_units}
use Rattle.air_laws.specs.Counters.{uncounted, but_counters}

-- ---- one packet

without-pid : (p : List ℕ) → pid_of (without_number p) ≡ pid_of p
unfolding without_number
without-pid p = pid-with 0 p

without-error : (p : List ℕ) → in_error (without_number p) ≡ in_error p
unfolding without_number
without-error p = error-with 0 p

pid-marked : (p : List ℕ) → pid_of (marked p) ≡ pid_of p
unfolding pid_of marked
pid-marked [] = refl
pid-marked (a ∷ []) = refl
pid-marked (a ∷ b ∷ r) = let e : (b % 128 + 128) % 32 ≡ b % 32 = omega arith in rw e refl

turned-mark : (p : List ℕ) → without_number (marked p) ≡ marked (without_number p)
unfolding marked without_number with_number
turned-mark [] = refl
turned-mark (a ∷ []) = refl
turned-mark (a ∷ b ∷ []) = refl
turned-mark (a ∷ b ∷ c ∷ []) = refl
turned-mark (a ∷ b ∷ c ∷ d ∷ r) = refl

without-marked : (p q : List ℕ) → without_number q ≡ without_number p → without_number (marked q) ≡ without_number (marked p)
without-marked p q e = turned-mark q ∙ ap marked e ∙ sym (turned-mark p)

pid-renumbered : (n : ℕ) (p : List ℕ) → pid_of (renumbered n p) ≡ pid_of p
unfolding renumbered
pid-renumbered n p = pid-with ((number p + n) % 16) p

module _ (pids : List ℕ) where
  pub counted-pid : (p : List ℕ) → pid_of (uncounted pids p) ≡ pid_of p
  counted-pid p = by_test (is_among (pid_of p) pids) (λ y. simp y (without-pid p)) (λ n. simp n)

  pub counted-error : (p : List ℕ) → in_error (uncounted pids p) ≡ in_error p
  counted-error p = by_test (is_among (pid_of p) pids) (λ y. simp y (without-error p)) (λ n. simp n)

  -- packets that are the same but for their counters, on one of these PIDs
  pub same-counted : (p q : List ℕ) → is_among (pid_of p) pids ≡ true → pid_of q ≡ pid_of p → without_number q ≡ without_number p → uncounted pids q ≡ uncounted pids p
  same-counted p q a i e =
      let b : is_among (pid_of q) pids ≡ true = ap (λ n. is_among n pids) i ∙ a in
      simp (a, b, e)

  pub moved-counted : (n : ℕ) (p : List ℕ) → is_among (pid_of p) pids ≡ true → uncounted pids (renumbered n p) ≡ uncounted pids p
  moved-counted n p a = same-counted p (renumbered n p) a (pid-renumbered n p) (without_number-renumbered n p)

  -- and so they are as they are read
  pub marked-counted : (p q : List ℕ) → uncounted pids q ≡ uncounted pids p → uncounted pids (marked q) ≡ uncounted pids (marked p)
  marked-counted p q e =
      let i : pid_of q ≡ pid_of p = sym (counted-pid q) ∙ ap pid_of e ∙ counted-pid p in
      let j = pid-marked p in
      let k = pid-marked q in
      by_test (is_among (pid_of p) pids)
      (λ y. let z : is_among (pid_of q) pids ≡ true = ap (λ n. is_among n pids) i ∙ y in
      same-counted (marked p) (marked q) (ap (λ n. is_among n pids) j ∙ y) (k ∙ i ∙ sym j) (without-marked p q (simp (y, z) at e)))
      (λ n. let z : is_among (pid_of q) pids ≡ false = ap (λ n. is_among n pids) i ∙ n in
      ap (λ l. uncounted pids (marked l)) (simp (n, z) at e))

-- ---- the packets of units

fourth : (b n : ℕ) → b % 16 ≡ 0 → n < 16 → (b + n) / 16 * 16 + 0 ≡ b
fourth b n h k = omega (arith, h, k)

unit-counter : (pid n m : ℕ) (start access : Bool) (part : List ℕ) → n < 16 → m < 16 → without_number (unit_packet pid n start access part) ≡ without_number (unit_packet pid m start access part)
unfolding unit_packet without_number with_number
unit-counter pid n m start access part h k =
    by_test (length part == 184)
    (λ y. let a = fourth 16 n refl h in let b = fourth 16 m refl k in simp (y, a, b))
    (λ o. let a = fourth 48 n refl h in let b = fourth 48 m refl k in simp (o, a, b))

later-counters : (pid count n m : ℕ) (bs : List ℕ) → n < 16 → m < 16 → map without_number (later_unit_packets count pid n bs) ≡ map without_number (later_unit_packets count pid m bs)
later-counters pid zero n m bs h k = refl
later-counters pid (suc count) n m bs h k =
    ap (λ q. q ∷ map without_number (later_unit_packets count pid ((n + 1) % 16) (drop 184 bs))) (unit-counter pid n m false false (take 184 bs) h k)
    ∙ ap (λ l. without_number (unit_packet pid m false false (take 184 bs)) ∷ l) (later-counters pid count ((n + 1) % 16) ((m + 1) % 16) (drop 184 bs) (omega arith) (omega arith))

pid-unit : (pid n : ℕ) (start access : Bool) (part : List ℕ) → pid < 8192 → pid_of (unit_packet pid n start access part) ≡ pid
unfolding pid_of unit_packet
pid-unit pid n true access part h = omega (arith, h)
pid-unit pid n false access part h = omega (arith, h)

module _ (pids : List ℕ) (pid : ℕ) (a : is_among pid pids ≡ true) (small : pid < 8192) where
  one-unit : (n m : ℕ) (start access : Bool) (part : List ℕ) → n < 16 → m < 16 → uncounted pids (unit_packet pid n start access part) ≡ uncounted pids (unit_packet pid m start access part)
  one-unit n m start access part h k =
      let i = pid-unit pid n start access part small in
      let j = pid-unit pid m start access part small in
      same-counted pids (unit_packet pid m start access part) (unit_packet pid n start access part) (ap (λ x. is_among x pids) j ∙ a) (i ∙ sym j) (unit-counter pid n m start access part h k)

  later-units : (count n m : ℕ) (bs : List ℕ) → n < 16 → m < 16 → but_counters pids (later_unit_packets count pid n bs) ≡ but_counters pids (later_unit_packets count pid m bs)
  later-units zero n m bs h k = refl
  later-units (suc count) n m bs h k =
      ap (λ q. q ∷ but_counters pids (later_unit_packets count pid ((n + 1) % 16) (drop 184 bs))) (one-unit n m false false (take 184 bs) h k)
      ∙ ap (λ l. uncounted pids (unit_packet pid m false false (take 184 bs)) ∷ l) (later-units count ((n + 1) % 16) ((m + 1) % 16) (drop 184 bs) (omega arith) (omega arith))

  -- a unit is packed in the same packets, whatever its first counter
  pub units-counted : (u : SliceUnit) (n m : ℕ) → n < 16 → m < 16 → but_counters pids (packed_units pid u n) ≡ but_counters pids (packed_units pid u m)
  units-counted u n m h k =
      let first = take (room u.random_access) u.payload in
      let behind = drop (room u.random_access) u.payload in
      ap (λ q. q ∷ but_counters pids (later_unit_packets (packets_for (length behind)) pid ((n + 1) % 16) behind)) (one-unit n m true u.random_access first h k)
      ∙ ap (λ l. uncounted pids (unit_packet pid m true u.random_access first) ∷ l) (later-units (packets_for (length behind)) ((n + 1) % 16) ((m + 1) % 16) behind (omega arith) (omega arith))

  clock-one : (n : ℕ) (clock : List ℕ) → (pid_of (clock_packet pid n clock) ≡ pid) × (n < 16 → without_number (clock_packet pid n clock) ≡ without_number (clock_packet pid 0 clock))
  unfolding pid_of without_number with_number
  clock-one n clock = (omega (arith, small), λ h. let e = fourth 32 n refl h in simp e)

  -- and so is a clock reference
  pub clock-counted : (n m : ℕ) (o : Option (List ℕ)) → n < 16 → m < 16 → but_counters pids (clock_alone pid n o) ≡ but_counters pids (clock_alone pid m o)
  clock-counted n m None h k = refl
  clock-counted n m (Some clock) h k =
      let i = clock-one n clock in
      let j = clock-one m clock in
      ap (λ q. q ∷ []) (same-counted pids (clock_packet pid m clock) (clock_packet pid n clock) (ap (λ x. is_among x pids) j.0 ∙ a) (i.0 ∙ sym j.0) (i.1 h ∙ sym (j.1 k)))

-- ---- lists

pub counted-append : (pids : List ℕ) (ps qs : List (List ℕ)) → but_counters pids (ps ++ qs) ≡ but_counters pids ps ++ but_counters pids qs
counted-append pids ps qs = map-append (uncounted pids) ps qs

-- what follows the same lists is the same
pub both-counted : (pids : List ℕ) (ps ps' qs qs' : List (List ℕ)) → but_counters pids ps ≡ but_counters pids ps' → but_counters pids qs ≡ but_counters pids qs' → but_counters pids (ps ++ qs) ≡ but_counters pids (ps' ++ qs')
both-counted pids ps ps' qs qs' e f =
    counted-append pids ps qs ∙ ap (λ l. l ++ but_counters pids qs) e ∙ ap (λ l. but_counters pids ps' ++ l) f ∙ sym (counted-append pids ps' qs')

-- ---- the counters of other PIDs

module _ (pids : List ℕ) (pid : ℕ) (off : is_among pid pids ≡ false) where
  on-counted : (p : List ℕ) → on pid (uncounted pids p) ≡ on pid p
  unfolding on
  on-counted p = let a = counted-error pids p in let b = counted-pid pids p in simp (a, b)

  same-number : (p : List ℕ) → on pid p ≡ true → uncounted pids p ≡ p
  same-number p y = let a : is_among (pid_of p) pids ≡ false = ap (λ x. is_among x pids) (pid_is pid p y) ∙ off in simp a

  number-one : (p q : List ℕ) (ps qs : List (List ℕ)) → uncounted pids p ≡ uncounted pids q → number_on pid ps ≡ number_on pid qs → number_on pid (p ∷ ps) ≡ number_on pid (q ∷ qs)
  number-one p q ps qs e h =
      let both : on pid q ≡ on pid p = sym (on-counted q) ∙ ap (on pid) (sym e) ∙ on-counted p in
      by_test (on pid p)
      (λ y. let z = both ∙ y in
      ap (λ b. if b then Some (number p) else number_on pid ps) y
      ∙ ap (λ l. Some (number l)) (sym (same-number p y) ∙ e ∙ same-number q z)
      ∙ sym (ap (λ b. if b then Some (number q) else number_on pid qs) z))
      (λ n. let z = both ∙ n in simp (n, z, h))

  -- stay as they are
  pub number-onto : (ps qs past other : List (List ℕ)) → but_counters pids ps ≡ but_counters pids qs → number_on pid past ≡ number_on pid other → number_on pid (onto past ps) ≡ number_on pid (onto other qs)
  number-onto [] [] past other e h = h
  number-onto [] (q ∷ qs) past other e h = cc
  number-onto (p ∷ ps) [] past other e h = cc
  number-onto (p ∷ ps) (q ∷ qs) past other e h = let a : uncounted pids p ≡ uncounted pids q = cc in let b : but_counters pids ps ≡ but_counters pids qs = cc in
      number-onto ps qs (p ∷ past) (q ∷ other) b (number-one p q past other a h)
