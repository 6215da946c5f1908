-- What a switch puts in, and what it leaves of the packets of its streams, is on the PIDs of its streams.
use Rattle.std.proofs.Common.{◌≡◌, ℕ, zero, suc, ◌+◌, ◌/◌, ◌%◌, ◌<◌, List, [], ◌∷◌, ◌++◌, length, map, take, drop, Bool, true, false, ◌||◌, ◌==◌, if◌then◌else◌, refl, sym, ap, ◌∙◌, Option, None, Some, arith}
use Rattle.std.specs.Prelude.{flat_map, option_map, reverse}
use Rattle.std.specs.List.{AllByRecursion}
use Rattle.std.proofs.lemmas.Bool.{true≢false, or_left, or_right, eqb-true}
use Rattle.ts_packet.specs.Fields.{in_error, pid_of, pcr, on, on_one, is_among}
use Rattle.ts_packet.specs.Filling.{packets_for}
use Rattle.ts_packet.specs.Numbering.{number_out, one_past, last_number}
use Rattle.ts_packet.proofs.Cases.{by_test, test-same}
use Rattle.ts_packet.proofs.FieldLemmas.{pid_is}
use Rattle.unit_stream.specs.Fates.{is_left_out}
use Rattle.unit_packing.specs.Packing.{room, unit_packet, later_unit_packets}
use Rattle.psi_section.proofs.GivenLemmas.{each-append}
use Rattle.psi_tables.specs.Streams.{Entry, stream_of, pid_in, switched_of, is_switched}
use Rattle.psi_tables.specs.ProgramMap.{ProgramMap}
use Rattle.program_follower.specs.Program.{known_map, program_in, program_of, pids_of}
use Rattle.program_follower.specs.Faults.{pids_in}
use Rattle.program_laws.proofs.FaultLemmas.{Each-map, Each-both}
use Rattle.event_table.specs.Standing.{Standing}
use Rattle.splice_laws.specs.Splicing.{SliceUnit}
use Rattle.output_laws.specs.Output.{Move, Keep, Leave, Put, counter_steps, kept_packet, clock_alone, out_at, out_after}
use Rattle.output_laws.proofs.StepLemmas.{on-kept, on-clock}
use Rattle.splice_plans.specs.Playing.{Adverts, History, played, is_inside}
use Rattle.splice_plans.specs.Adverts.{packed_units}
use Rattle.splice_plans.specs.Switching.{puts_by, puts_before, puts_at_end, moves, front_of, place_of, end_of_run}
use Rattle.switch_laws.proofs.BringLemmas.{closing_rule, running_rule, end_rule}
use Rattle.switch_laws.proofs.OtherLemmas.{within-self}
use Rattle.service_laws.proofs.PidLemmas.{on-own}

-- ---- a unit in packets

-- a packet of a unit is not marked in error
error-unit : (pid n : ℕ) (start access : Bool) (part : List ℕ) → pid < 8192 → in_error (unit_packet pid n start access part) ≡ false
unfolding in_error unit_packet
error-unit pid n true access part h = let e : (pid / 256 + 64) / 128 % 2 ≡ 0 = omega (arith, h) in rw e refl
error-unit pid n false access part h = let e : (pid / 256 + 0) / 128 % 2 ≡ 0 = omega (arith, h) in rw e refl

-- its PID field is the PID
pid-unit : (pid n : ℕ) (start access : Bool) (part : List ℕ) → pid < 8192 → pid_of (unit_packet pid n start access part) ≡ pid
unfolding pid_of unit_packet
pid-unit pid n true access part h = omega (arith, h)
pid-unit pid n false access part h = omega (arith, h)

-- so it is on its PID
unit-on : (pid n : ℕ) (start access : Bool) (part : List ℕ) → pid < 8192 → on pid (unit_packet pid n start access part) ≡ true
unit-on pid n start access part h = on-own pid (unit_packet pid n start access part) (error-unit pid n start access part h) (pid-unit pid n start access part h)

-- and so are those behind the first
later-on : (pid count n : ℕ) (bs : List ℕ) → pid < 8192 → AllByRecursion (λ q. on pid q ≡ true) (later_unit_packets count pid n bs)
later-on pid zero n bs h = tt
later-on pid (suc count) n bs h = (unit-on pid n false false (take 184 bs) h, later-on pid count ((n + 1) % 16) (drop 184 bs) h)

-- and all of them
units-on : (pid n : ℕ) (u : SliceUnit) → pid < 8192 → AllByRecursion (λ q. on pid q ≡ true) (packed_units pid u n)
units-on pid n u h = (
  unit-on pid n true u.random_access (take (room u.random_access) u.payload) h,
  later-on pid (packets_for (length (drop (room u.random_access) u.payload))) ((n + 1) % 16) (drop (room u.random_access) u.payload) h,
)

-- ---- on some PIDs

-- a packet on a PID among some is on one of them
one-of : (pids : List ℕ) (pid : ℕ) (q : List ℕ) → is_among pid pids ≡ true → on pid q ≡ true → on_one pids q ≡ true
one-of [] pid q a o = absurd (true≢false (sym a))
one-of (x ∷ pids) pid q a o = by_test (x == pid)
    (λ y. or_left (on x q) (on_one pids q) (ap (λ n. on n q) (eqb-true x pid y) ∙ o))
    (λ n. or_right (on x q) (on_one pids q) (one-of pids pid q (simp n at a) o))

-- the PID of a packet that is on one of some is one of them
one-pid : (pids : List ℕ) (p : List ℕ) → on_one pids p ≡ true → is_among (pid_of p) pids ≡ true
one-pid [] p h = absurd (true≢false (sym h))
one-pid (x ∷ pids) p h = by_test (on x p)
    (λ y. or_left (x == pid_of p) (is_among (pid_of p) pids) (ap (λ n. x == n) (pid_is x p y) ∙ test-same x))
    (λ n. or_right (x == pid_of p) (is_among (pid_of p) pids) (one-pid pids p (simp n at h)))

-- a packet that is kept is on the PIDs that it was on
one-kept : (pids : List ℕ) (p : List ℕ) (past : List Move) → on_one pids (kept_packet packed_units p past) ≡ on_one pids p
one-kept [] p past = refl
one-kept (x ∷ pids) p past =
    let q = kept_packet packed_units p past in
    ap (λ b. b || on_one pids q) (on-kept packed_units x p past) ∙ ap (λ b. on x p || b) (one-kept pids p past)

module _ (pids : List ℕ) where
  -- a packet on one of these PIDs
  abbrev pub IsOne : List ℕ → Type 0
  IsOne q = on_one pids q ≡ true

  -- a PID of 13 bits, and one of them
  abbrev pub IsPid : ℕ → Type 0
  IsPid pid = (pid < 8192) × (is_among pid pids ≡ true)

  -- a unit is put in on one of them
  abbrev IsPutOn : Move → Type 0
  IsPutOn (Keep p) = ⊥
  IsPutOn (Leave p) = ⊥
  IsPutOn (Put q u) = IsPid q

  -- units on one PID
  put-on : (pid : ℕ) (us : List SliceUnit) → IsPid pid → AllByRecursion IsPutOn (map (λ (u : SliceUnit). Put pid u) us)
  put-on pid [] w = tt
  put-on pid (u ∷ us) w = (w, put-on pid us w)

  -- and on several
  put-by : (qs : List ℕ) (es : List Standing) (rule : ℕ → Standing → List SliceUnit) → AllByRecursion IsPid qs → AllByRecursion IsPutOn (puts_by qs es rule)
  put-by [] es rule w = tt
  put-by (pid ∷ qs) es rule w =
      each-append IsPutOn (map (λ (u : SliceUnit). Put pid u) (flat_map (rule pid) es)) (puts_by qs es rule)
      (put-on pid (flat_map (rule pid) es) w.0) (put-by qs es rule w.1)

  -- their packets are on these PIDs
  out-on : (S ms : List Move) → AllByRecursion IsPutOn ms → AllByRecursion IsOne (out_after packed_units S ms)
  out-on S [] w = tt
  out-on S (Keep p ∷ ms) w = absurd w.0
  out-on S (Leave p ∷ ms) w = absurd w.0
  out-on S (Put q u ∷ ms) w =
      let n = one_past (last_number (counter_steps packed_units q S)) in
      each-append IsOne (packed_units q u n) (out_after packed_units (Put q u ∷ S) ms)
      (Each-map (λ x. on q x ≡ true) IsOne (λ x o. one-of pids q x w.0.1 o) (packed_units q u n) (units-on q n u w.0.0))
      (out-on (Put q u ∷ S) ms w.1)

  -- a clock reference alone is on the PID of its packet
  clock-on : (pid n : ℕ) (o : Option (List ℕ)) → IsPid pid → AllByRecursion IsOne (clock_alone pid n o)
  clock-on pid n None w = tt
  clock-on pid n (Some clock) w = (one-of pids pid _ w.1 (on-clock pid pid n clock w.0 ∙ test-same pid), tt)

  -- what stands for a packet of one of them, whether it is left out or not
  fate-on : (d : Bool) (p : List ℕ) (S : List Move) → on_one pids p ≡ true → IsPid (pid_of p) → AllByRecursion IsOne (out_at packed_units (if d then Leave p else Keep p) S)
  fate-on true p S o w = clock-on (pid_of p) (number_out p (counter_steps packed_units (pid_of p) (Leave p ∷ S))) (pcr p) w
  fate-on false p S o w = (one-kept pids p S ∙ o, tt)

-- ---- a switch

module _ (switched : List ℕ) (ads : Adverts) (events : History) (low : AllByRecursion (λ pid. pid < 8192) switched) where
  -- the PIDs of the streams are such
  are-pids : AllByRecursion (IsPid switched) switched
  are-pids = Each-both (λ pid. pid < 8192) (λ pid. is_among pid switched ≡ true) switched low (within-self switched)

  -- what is put in before a packet is on the PIDs of the streams
  pub front-on : (p : List ℕ) (past : List (List ℕ)) → AllByRecursion (IsOne switched) (front_of switched ads events packed_units p past)
  front-on p past =
      let es = played ads (events (p ∷ past)) in
      out-on switched (moves switched ads events past) (puts_before switched ads events p past)
      (each-append (IsPutOn switched) (puts_by switched es (closing_rule switched ads events p past)) (puts_by switched es (running_rule switched ads events p past))
      (put-by switched switched es (closing_rule switched ads events p past) are-pids) (put-by switched switched es (running_rule switched ads events p past) are-pids))

  -- and what is left at the end
  pub end-on : (past : List (List ℕ)) → AllByRecursion (IsOne switched) (end_of_run switched ads events packed_units past)
  end-on past =
      out-on switched (moves switched ads events past) (puts_at_end switched ads events past) (put-by switched switched (played ads (events past)) (end_rule switched ads events past) are-pids)

  -- and what stands for a packet of theirs
  pub place-on : (p : List ℕ) (past : List (List ℕ)) → on_one switched p ≡ true → pid_of p < 8192 → AllByRecursion (IsOne switched) (place_of switched ads events packed_units p past)
  place-on p past own small =
      fate-on switched (is_left_out (λ pid time. is_inside ads (events (p ∷ past)) time) switched p past switched) p (reverse (puts_before switched ads events p past) ++ moves switched ads events past)
      own (small, one-pid switched p own)

-- ---- the PIDs of a program

-- the PIDs of the switched streams of a map have 13 bits
switched-low : (es : List Entry) → AllByRecursion (λ pid. pid < 8192) (pids_in (switched_of (map stream_of es)))
switched-low [] = tt
switched-low (e ∷ es) = by_test (is_switched e.kind) (λ y. simp y (small e.pid_field, switched-low es)) (λ n. simp n (switched-low es))
  where
    small : (f : ℕ) → pid_in f < 8192
    small f = omega arith

-- each of its switched streams' PIDs has 13 bits
pub program-low : (wanted : Option ℕ) (past : List (List ℕ)) → AllByRecursion (λ pid. pid < 8192) (pids_of (program_of wanted past))
program-low wanted past = by (known_map wanted past)
  where
    by : (o : Option ProgramMap) → AllByRecursion (λ pid. pid < 8192) (pids_of (option_map program_in o))
    by None = tt
    by (Some m) = switched-low m.entries
