-- Sections of packets of bytes are bytes.
use Rattle.std.proofs.Common.{ℕ, zero, suc, ◌+◌, ◌-◌, ◌<◌, List, [], ◌∷◌, ◌++◌, Bool, true, false, ◌&&◌, ◌==◌, arith, length, take, drop, if◌then◌else◌, nat_le, Option}
use Rattle.std.specs.Prelude.{filter, All}
use Rattle.std.specs.List.{AllByRecursion}
use Rattle.std.proofs.lemmas.List.Elements.{All-from_recursion, recursion_from_All}
use Rattle.ts_packet.specs.declared.follower.Last.{Last}
use Rattle.ts_packet.specs.Fields.{in_error, adaptation_control, adaptation_length, payload, or_none, unit_start, bytes}
use Rattle.ts_packet.specs.Duplicates.{original, last_of, follows_on}
use Rattle.ts_packet.proofs.Cases.{by_test}
use Rattle.psi_section.specs.declared.front.Front.{Front}
use Rattle.psi_section.specs.declared.front.Front.TheVariants.{Nothing, Whole, Part}
use Rattle.psi_section.specs.Sections.{front_of, is_good, Assembled, taken_past, taken, continued, started, payload_taken, unbroken, packet_taken, held, finished, given}
use Rattle.wire_fields.specs.Numbers.{AreBytes}
use Rattle.psi_section.proofs.FrontLemmas.{by_front, by_front_joined}
use Rattle.psi_section.proofs.GivenLemmas.{each-append}

abbrev IsByte : ℕ → Type 0
IsByte b = b < 256

abbrev Bytes : List ℕ → Type 0
Bytes bs = AllByRecursion IsByte bs

bytes_are : (bs : List ℕ) → Bytes bs → AreBytes bs
bytes_are [] h place = omega arith
bytes_are (b ∷ bs) h zero = h.0
bytes_are (b ∷ bs) h (suc place) = bytes_are bs h.1 place

are_bytes : (bs : List ℕ) → AreBytes bs → Bytes bs
are_bytes [] h = tt
are_bytes (b ∷ bs) h = (h 0, are_bytes bs (λ place. h (suc place)))

take_bytes : (n : ℕ) (bs : List ℕ) → Bytes bs → Bytes (take n bs)
take_bytes zero bs h = tt
take_bytes (suc n) [] h = tt
take_bytes (suc n) (b ∷ bs) h = (h.0, take_bytes n bs h.1)

drop_bytes : (n : ℕ) (bs : List ℕ) → Bytes bs → Bytes (drop n bs)
drop_bytes zero bs h = h
drop_bytes (suc n) [] h = tt
drop_bytes (suc n) (b ∷ bs) h = drop_bytes n bs h.1

if_bytes : (b : Bool) (xs ys : List ℕ) → Bytes xs → Bytes ys → Bytes (if b then xs else ys)
if_bytes true xs ys h k = h
if_bytes false xs ys h k = k

payload_bytes : (p : List ℕ) → Bytes p → Bytes (or_none (payload p))
unfolding payload
payload_bytes p h =
    by_test (in_error p)
    (λ y. simp y tt)
    (λ n. by_test (adaptation_control p == 1)
    (λ y. simp (n, y) (drop_bytes 4 p h))
    (λ m. by_test (adaptation_control p == 3 && nat_le (adaptation_length p) 182)
    (λ y. simp (n, m, y) (drop_bytes (5 + adaptation_length p) p h))
    (λ w. simp (n, m, w) tt)))

bytes_bytes : (p : List ℕ) → Bytes p → Bytes (bytes p)
unfolding bytes
bytes_bytes p h = payload_bytes p h

record BothBytes (t : Assembled) : Type 0 where
  finished : AllByRecursion Bytes t.finished
  part : Bytes t.part

front_bytes : (x : ℕ) (xs : List ℕ) (f : Front) → Bytes (x ∷ xs) → ((k : ℕ) → BothBytes (taken_past k xs)) → BothBytes (by_front x xs f)
front_bytes x xs Nothing h r = record { finished = tt; part = tt }
front_bytes x xs Part h r = record { finished = tt; part = h }
front_bytes x xs (Whole size) h r = let k = r (size - 1) in record { finished = (take_bytes size (x ∷ xs) h, k.finished); part = k.part }

taken_bytes : (bs : List ℕ) → Bytes bs → (k : ℕ) → BothBytes (taken_past k bs)
taken_bytes [] h k = record { finished = tt; part = tt }
taken_bytes (x ∷ xs) h zero = front_bytes x xs (front_of (x ∷ xs)) h (taken_bytes xs h.1)
taken_bytes (x ∷ xs) h (suc k) = taken_bytes xs h.1 k

joined_bytes : (bs : List ℕ) (f : Front) → Bytes bs → BothBytes (by_front_joined bs f)
joined_bytes bs Nothing h = record { finished = tt; part = tt }
joined_bytes bs Part h = record { finished = tt; part = h }
joined_bytes bs (Whole size) h = record { finished = (take_bytes size bs h, tt); part = tt }

continued_bytes : (part bs : List ℕ) → Bytes part → Bytes bs → BothBytes (continued part bs)
continued_bytes [] bs h k = record { finished = tt; part = tt }
continued_bytes (x ∷ xs) bs h k = joined_bytes ((x ∷ xs) ++ bs) (front_of ((x ∷ xs) ++ bs)) (each-append IsByte (x ∷ xs) bs h k)

started_bytes : (part bs : List ℕ) → Bytes part → Bytes bs → BothBytes (started part bs)
started_bytes part [] h k = record { finished = tt; part = tt }
started_bytes part (pointer ∷ bs) h k =
    let a = continued_bytes part (take pointer bs) h (take_bytes pointer bs k.1) in
    let b = taken_bytes (drop pointer bs) (drop_bytes pointer bs k.1) 0 in
    by_test (nat_le pointer (length bs))
    (λ y. simp y (record { finished = each-append Bytes (continued part (take pointer bs)).finished (taken (drop pointer bs)).finished a.finished b.finished; part = b.part }))
    (λ n. simp n (record { finished = tt; part = tt }))

payload_both : (b : Bool) (part bs : List ℕ) → Bytes part → Bytes bs → BothBytes (payload_taken b part bs)
payload_both true part bs h k = started_bytes part bs h k
payload_both false part bs h k = continued_bytes part bs h k

packet_both : (p : List ℕ) (last : Option Last) (part : List ℕ) → Bytes p → Bytes part → BothBytes (packet_taken p last part)
packet_both p last part h k = payload_both (unit_start p) (unbroken p last part) (bytes p) (if_bytes (follows_on p last) part [] k tt) (bytes_bytes p h)

held_bytes : (pid : ℕ) (past : List (List ℕ)) → AllByRecursion Bytes past → Bytes (held pid past)
held_bytes pid [] h = tt
held_bytes pid (p ∷ past) h =
    let k = held_bytes pid past h.1 in
    if_bytes (original pid p past) (packet_taken p (last_of pid past) (held pid past)).part (held pid past) (packet_both p (last_of pid past) (held pid past) h.0 k).part k

if_finished : (b : Bool) (t : Assembled) → AllByRecursion Bytes t.finished → AllByRecursion Bytes (if b then t.finished else [])
if_finished true t h = h
if_finished false t h = tt

good_bytes : (ss : List (List ℕ)) → AllByRecursion Bytes ss → AllByRecursion AreBytes (filter is_good ss)
good_bytes [] h = tt
good_bytes (s ∷ ss) h = by_test (is_good s) (λ y. simp y (bytes_are s h.0, good_bytes ss h.1)) (λ n. simp n (good_bytes ss h.1))

all_bytes : (past : List (List ℕ)) → AllByRecursion AreBytes past → AllByRecursion Bytes past
all_bytes [] h = tt
all_bytes (p ∷ past) h = (are_bytes p h.0, all_bytes past h.1)

pub given_bytes : (pid : ℕ) (p : List ℕ) (past : List (List ℕ)) → AreBytes p → All AreBytes past → All AreBytes (given pid p past)
given_bytes pid p past h k =
    let both = packet_both p (last_of pid past) (held pid past) (are_bytes p h) (held_bytes pid past (all_bytes past (recursion_from_All AreBytes past k))) in
    All-from_recursion AreBytes (given pid p past) (good_bytes (finished pid p past) (if_finished (original pid p past) (packet_taken p (last_of pid past) (held pid past)) both.finished))
