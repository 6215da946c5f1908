-- What the packets of a unit say together.
use Rattle.std.proofs.Common.{◌≡◌, ℕ, zero, suc, ◌+◌, ◌%◌, ◌<◌, ◌≤◌, List, [], ◌∷◌, ◌++◌, Bool, true, false, refl, ap, ◌∙◌, arith, length, take, drop}
use Rattle.std.specs.Prelude.{flat_map, ◌&&◌, nat_le, All}
use Rattle.std.proofs.lemmas.Grind.{common_steps}
use Rattle.std.proofs.lemmas.Bool.{eq-eqb}
use Rattle.std.proofs.lemmas.List.{length-drop, length-take, take-append-drop}
use Rattle.std.proofs.lemmas.List.Elements.{All-cons, All-nil}
use Rattle.ts_packet.specs.Filling.{packets_for}
use Rattle.ts_packet.specs.Fields.{on, payload_on, bytes, or_none, random_access}
use Rattle.unit_stream.specs.UnitPackets.{AllOn, GoOn, CountsFrom, IsPacked}
use Rattle.unit_packing.specs.Packing.{room, unit_packet, later_unit_packets, rest_unit_packets, unit_packets}
use Rattle.unit_packing.specs.Laws.{IsPlain}
use Rattle.unit_packing.proofs.SaidLemmas.{Says, said, said_access, size}

said_on : (pid n : ℕ) (start : Bool) (part p : List ℕ) → Says pid n start part p → payload_on pid p ≡ true
unfolding payload_on on
said_on pid n start part p s = rw (s.error, s.same_pid, s.carried, eq-eqb pid pid refl) refl

said_bytes : (pid n : ℕ) (start : Bool) (part p : List ℕ) → Says pid n start part p → bytes p ≡ part
unfolding bytes
said_bytes pid n start part p s = ap or_none s.carried

plain : (pid n : ℕ) (start access : Bool) (part : List ℕ) → pid < 8192 → n < 16 → length part ≤ 184 → 0 < length part → IsPlain (unit_packet pid n start access part)
plain pid n start access part h k m z =
    let s = said pid n start access part h k m z in
    record { size = size pid n start access part h k m z; sound = s.sound; clear = s.clear; clock = s.clock }

-- the packets behind the first
record Rest (pid n : ℕ) (bs : List ℕ) (qs : List (List ℕ)) : Type 0 where
  on_pid : AllOn pid qs
  goes_on : GoOn qs
  counted : CountsFrom n qs
  joined : flat_map bytes qs ≡ bs
  plain : All IsPlain qs
  unmarked : All (λ (p : List ℕ). random_access p ≡ false) qs

no_bytes : (bs : List ℕ) → length bs ≡ 0 → [] ≡ bs
no_bytes [] h = refl
no_bytes (b ∷ bs) h = absurd (grind (arith, h))

unmarked_one : (pid n : ℕ) (part : List ℕ) → pid < 8192 → n < 16 → length part ≤ 184 → 0 < length part → random_access (unit_packet pid n false false part) ≡ false
unmarked_one pid n part h k m z = said_access pid n false false part h k m z ∙ and_false (nat_le (length part) 182)
  where
    and_false : (b : Bool) → (b && false) ≡ false
    and_false true = refl
    and_false false = refl

rest_said : (count pid n : ℕ) (bs : List ℕ) → packets_for (length bs) ≡ count → pid < 8192 → n < 16 → Rest pid n bs (later_unit_packets count pid n bs)
rest_said zero pid n bs e h k = record {
  on_pid = tt;
  goes_on = tt;
  counted = tt;
  joined = no_bytes bs (omega arith);
  plain = All-nil IsPlain;
  unmarked = All-nil (λ (p : List ℕ). random_access p ≡ false);
}
rest_said (suc count) pid n bs e h k =
    let part = take 184 bs in
    let p = unit_packet pid n false false part in
    let m : length part ≤ 184 = rw (length-take 184 bs) (omega arith) in
    let z : 0 < length part = rw (length-take 184 bs) (omega arith) in
    let s = said pid n false false part h k m z in
    let d : packets_for (length (drop 184 bs)) ≡ count = rw (length-drop 184 bs) (omega arith) in
    let r = rest_said count pid ((n + 1) % 16) (drop 184 bs) d h (omega arith) in
    record {
      on_pid = (said_on pid n false part p s, r.on_pid);
      goes_on = (s.begins, r.goes_on);
      counted = (s.counter, r.counted);
      joined = ap (λ x. x ++ flat_map bytes (later_unit_packets count pid ((n + 1) % 16) (drop 184 bs))) (said_bytes pid n false part p s) ∙ ap (λ x. part ++ x) r.joined ∙ take-append-drop 184 bs;
      plain = All-cons IsPlain p (later_unit_packets count pid ((n + 1) % 16) (drop 184 bs)) (plain pid n false false part h k m z) r.plain;
      unmarked = All-cons (λ (p : List ℕ). random_access p ≡ false) p (later_unit_packets count pid ((n + 1) % 16) (drop 184 bs)) (unmarked_one pid n part h k m z) r.unmarked;
    }

pub room_184 : (access : Bool) → room access ≤ 184
room_184 true = omega arith
room_184 false = omega arith

pub room_182 : (access : Bool) → 182 ≤ room access
room_182 true = omega arith
room_182 false = omega arith

marked_as : (access : Bool) (k : ℕ) → k ≤ room access → (nat_le k 182 && access) ≡ access
marked_as true k h = grind (arith, common_steps)
marked_as false k h = grind (arith, common_steps)

module _ (pid n : ℕ) (access : Bool) (bs : List ℕ) (h : pid < 8192) (k : n < 16) (z : 0 < length bs) where
  abbrev part : List ℕ
  part = take (room access) bs

  abbrev first : List ℕ
  first = unit_packet pid n true access part

  abbrev rest : List (List ℕ)
  rest = rest_unit_packets pid ((n + 1) % 16) (drop (room access) bs)

  fits : length part ≤ room access
  fits = rw (length-take (room access) bs) (omega arith)

  some : 0 < length part
  some = let r = room_182 access in rw (length-take (room access) bs) (omega arith)

  few : length part ≤ 184
  few = let r = room_184 access in let f = fits in omega arith

  rest_all : Rest pid ((n + 1) % 16) (drop (room access) bs) rest
  rest_all = rest_said (packets_for (length (drop (room access) bs))) pid ((n + 1) % 16) (drop (room access) bs) refl h (omega arith)

  pub packed : IsPacked pid bs n (unit_packets pid access n bs)
  packed =
      let s = said pid n true access part h k few some in
      let r = rest_all in
      record {
        on_pid = (said_on pid n true part first s, r.on_pid);
        starts = (s.begins, r.goes_on);
        counted = (s.counter, r.counted);
        joined = ap (λ x. x ++ flat_map bytes rest) (said_bytes pid n true part first s) ∙ ap (λ x. part ++ x) r.joined ∙ take-append-drop (room access) bs;
      }

  pub all_plain : All IsPlain (unit_packets pid access n bs)
  all_plain = All-cons IsPlain first rest (plain pid n true access part h k few some) rest_all.plain

  pub access_marked : (first : List ℕ) × (rest : List (List ℕ)) × (unit_packets pid access n bs ≡ first ∷ rest) × (random_access first ≡ access) × All (λ (p : List ℕ). random_access p ≡ false) rest
  access_marked = (first, rest, refl, said_access pid n true access part h k few some ∙ marked_as access (length part) fits, rest_all.unmarked)
