-- A PID of a run is a stream.
use Rattle.std.specs.Prelude.{ℤ, ◌≤ℤ◌, is_some}
use Rattle.std.specs.Int.{int_max}
use Rattle.std.proofs.Common.{◌≡◌, ℕ, true, refl, Option, None, Some, arith}
use Rattle.std.proofs.lemmas.Int.{ints}
use Rattle.ts_packet.proofs.Cases.{by_test}
use Rattle.unit_stream.specs.Times.{begins, begins_one, stamp, timed, raised, high, unit_time}
use Rattle.splice_laws.specs.Laws.{Risen, PidsAreStreams}

max-above : (a b : ℤ) → a ≤ℤ int_max a b
max-above a b = grind (arith, ints)

pub same-risen : (h : Option ℤ) → Risen h h
same-risen None = tt
same-risen (Some a) = at a where
  at : (a : ℤ) → a ≤ℤ a
  at a = grind (arith, ints)

pub raised-risen : (h : Option ℤ) (s : Option ℕ) → Risen h (raised h s)
raised-risen h None = same-risen h
raised-risen None (Some t) = tt
raised-risen (Some a) (Some t) = max-above a _

timed-some : (h : Option ℤ) (s : Option ℕ) (before : Option ℤ) → is_some before ≡ true → is_some (timed h s before) ≡ true
timed-some h None before k = k
timed-some h (Some t) before k = refl

pub pids_are_streams : PidsAreStreams
pids_are_streams sw pid = record {
  fresh = refl;
  steady = λ p past b. simp b;
  timed = λ p past k. by_test (begins pid p past) (λ b. simp b (timed-some (high sw past) (stamp p) (unit_time sw pid past) k)) (λ b. simp b k);
  rises = λ p past. by_test (begins_one sw p past) (λ b. simp b (raised-risen (high sw past) (stamp p))) (λ b. simp b (same-risen (high sw past)));
}
