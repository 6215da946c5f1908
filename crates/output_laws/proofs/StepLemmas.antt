-- One move more: what the network has brought, what goes out, and the counters.
use Rattle.std.specs.Prelude.{if◌then◌else◌, ◌==◌, count_by, is_some, cond}
use Rattle.std.proofs.Common.{◌≡◌, ℕ, ◌+◌, ◌<◌, List, [], ◌∷◌, Bool, true, false, ◌&&◌, refl, sym, ap, ◌∙◌, Option, None, Some, arith, length}
use Rattle.std.proofs.lemmas.List.Sums.{sum_by-cons}
use Rattle.ts_packet.specs.Fields.{in_error, pid_of, payload, payload_on, on, pcr, renumbered}
use Rattle.ts_packet.specs.Numbering.{Step, Inserted, is_inserted, is_dropped, moved}
use Rattle.ts_packet.specs.Clock.{clock_packet}
use Rattle.std.proofs.lemmas.Bool.Decides.{nat_tests}
use Rattle.std.proofs.lemmas.Bool.{and_right}
use Rattle.ts_packet.proofs.Cases.{by_test}
use Rattle.ts_packet.proofs.FieldLemmas.{on-renumbered, payload_on-renumbered, pid_is}
use Rattle.ts_packet.proofs.RunLemmas.{onto, onto-append}
use Rattle.ts_packet.proofs.ClockLemmas.{control-clock, error-clock, pid-clock}
use Rattle.unit_stream.specs.UnitPackets.{put_in}
use Rattle.output_laws.specs.Output.{Move, Keep, Leave, Put, network, Packing, counter_steps, kept_packet, out_at, out_after, AlongMoves}

-- ---- lists, newest first

abbrev pub onto_moves : List Move → List Move → List Move
onto_moves past [] = past
onto_moves past (s ∷ ss) = onto_moves (s ∷ past) ss

pub network_onto : (past ss : List Move) → network (onto_moves past ss) ≡ onto (network past) (network ss)
network_onto past [] = refl
network_onto past (Keep p ∷ ss) = network_onto (Keep p ∷ past) ss
network_onto past (Leave p ∷ ss) = network_onto (Leave p ∷ past) ss
network_onto past (Put q u ∷ ss) = network_onto (Put q u ∷ past) ss

-- what has gone out, newest first
abbrev pub out_back : Packing → List Move → List (List ℕ)
out_back packed [] = []
out_back packed (s ∷ past) = onto (out_back packed past) (out_at packed s past)

pub out_onto : (packed : Packing) (past ss : List Move) → out_back packed (onto_moves past ss) ≡ onto (out_back packed past) (out_after packed past ss)
out_onto packed past [] = refl
out_onto packed past (s ∷ ss) = out_onto packed (s ∷ past) ss ∙ sym (onto-append (out_back packed past) (out_at packed s past) (out_after packed (s ∷ past) ss))

-- what holds along all moves holds along those before
pub along_past : (f : Move → List Move → Type 0) (past ss : List Move) → AlongMoves f (onto_moves past ss) → AlongMoves f past
along_past f past [] h = h
along_past f past (s ∷ ss) h = (along_past f (s ∷ past) ss h).1

-- ---- tests

pub error_is : (pid : ℕ) (p : List ℕ) → on pid p ≡ true → in_error p ≡ false
unfolding on
error_is pid p h = grind (arith, nat_tests)

pub payload-none : (pid : ℕ) (p : List ℕ) → on pid p ≡ true → payload_on pid p ≡ false → is_some (payload p) ≡ false
unfolding payload_on
payload-none pid p o h = right (on pid p) _ o h where
  right : (a b : Bool) → a ≡ true → a && b ≡ false → b ≡ false
  right true b o h = h
  right false b o h = cc

-- ---- a kept packet

pub kept_on : (packed : Packing) (pid : ℕ) (p : List ℕ) (past : List Move) → on pid p ≡ true → kept_packet packed p past ≡ renumbered (moved (counter_steps packed pid past)) p
kept_on packed pid p past h =
    let e = error_is pid p h in simp e (ap (λ n. renumbered (moved (counter_steps packed n past)) p) (pid_is pid p h))

pub on-kept : (packed : Packing) (pid : ℕ) (p : List ℕ) (past : List Move) → on pid (kept_packet packed p past) ≡ on pid p
on-kept packed pid p past = by_test (in_error p) (λ e. simp e) (λ e. simp (e, on-renumbered))

pub payload_on-kept : (packed : Packing) (pid : ℕ) (p : List ℕ) (past : List Move) → payload_on pid (kept_packet packed p past) ≡ payload_on pid p
payload_on-kept packed pid p past = by_test (in_error p) (λ e. simp e) (λ e. simp (e, payload_on-renumbered))

-- ---- a clock reference alone

none_either : (b : Bool) {o : Option (List ℕ)} → o ≡ None → (if b then None else o) ≡ None
none_either true h = refl
none_either false h = h

payload-clock : (pid n : ℕ) (c : List ℕ) → n < 16 → payload (clock_packet pid n c) ≡ None
unfolding payload
payload-clock pid n c k = none_either (in_error (clock_packet pid n c)) (rw (control-clock n k) refl)

pub payload_on-clock : (pid k n : ℕ) (c : List ℕ) → n < 16 → payload_on pid (clock_packet k n c) ≡ false
unfolding payload_on
payload_on-clock pid k n c h = and_right (on pid (clock_packet k n c)) _ (ap is_some (payload-clock k n c h))

pub on-clock : (pid k n : ℕ) (c : List ℕ) → k < 8192 → on pid (clock_packet k n c) ≡ (k == pid)
unfolding on
on-clock pid k n c h = rw (error-clock k n c h, pid-clock k n c h) refl

pub pcr-error : (p c : List ℕ) → pcr p ≡ Some c → in_error p ≡ false
unfolding pcr
pcr-error p c h = by_test (in_error p) (λ e. let f = simp e at h in cc) (λ e. e)

pub on-same : (p : List ℕ) (pid : ℕ) → in_error p ≡ false → on pid p ≡ (pid_of p == pid)
unfolding on
on-same p pid h = rw h refl

-- ---- what was moved

count-cons : (f : Step → Bool) (e : Step) (es : List Step) → count_by f (e ∷ es) ≡ cond (f e) 1 0 + count_by f es
count-cons f e es = sum_by-cons (λ x. cond (f x) 1 0) e es

pub moved-inserted : (es : List Step) → moved (Inserted ∷ es) ≡ moved es + 1
moved-inserted es =
    let a : count_by is_inserted (Inserted ∷ es) ≡ 1 + count_by is_inserted es = count-cons is_inserted Inserted es in
    let b : count_by is_dropped (Inserted ∷ es) ≡ 0 + count_by is_dropped es = count-cons is_dropped Inserted es in omega arith

pub moved-put : (qs : List (List ℕ)) (es : List Step) → moved (put_in qs es) ≡ moved es + length qs
moved-put [] es = omega arith
moved-put (q ∷ qs) es = let i = moved-put qs (Inserted ∷ es) in let j = moved-inserted es in omega arith
