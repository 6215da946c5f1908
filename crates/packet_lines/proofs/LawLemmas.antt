-- A text is the lines of the packets that it tells, up to a line that is no packet's.
use Rattle.std.specs.Prelude.{option_map}
use Rattle.std.proofs.Common.{◌≡◌, ℕ, zero, suc, ◌<◌, ◌≤◌, ◌||◌, ◌&&◌, ◌⊎◌, inl, inr, Bool, true, false, List, [], ◌∷◌, ◌++◌, Option, Some, None, All, arith, length, take, drop, refl, sym, ap, ◌∙◌, append_assoc, nat_eq, slice_index, if◌then◌else◌, length-take, length-drop, take-append-drop}
use Rattle.std.proofs.lemmas.List.{append-nil, drop_all}
use Rattle.std.proofs.lemmas.List.Elements.{All-nil, All-cons}
use lib.Seq.{take_all}
use Rattle.hex_digits.specs.Digits.{spelled, digits_of}
use Rattle.hex_digits.proofs.ReadBackLemmas.{spelled_by}
use Rattle.ts_packet.specs.Packets.{packets_of, last_part, bytes_of, packet_fault}
use Rattle.ts_packet.specs.Runs.{Seen, seen_after}
use Rattle.ts_packet.specs.FirstFault.{or_then, named, first_of, sound_front, fault_behind}
use Rattle.ts_packet.specs.declared.packet.PacketFault.{PacketFault}
use Rattle.ts_packet.specs.declared.packet.PacketFault.TheVariants as packet_faults
use Rattle.ts_packet.specs.declared.reader.ReadFault.TheVariants.{Truncated}
use Rattle.ts_packet.proofs.PacketsLemmas.{packets_of-whole, last_part-whole}
use Rattle.unit_stream.specs.Faults.{unit_fault}
use Rattle.unit_stream.specs.declared.fault.UnitFault.{UnitFault}
use Rattle.unit_stream.specs.declared.fault.UnitFault.TheVariants as unit_faults
use Rattle.unit_cut.specs.FirstFault.{as_cut_fault, fault_at, first_fault, before_fault}
use Rattle.unit_cut.specs.declared.run.CutFault.{CutFault}
use Rattle.unit_cut.specs.declared.run.CutFault.TheVariants.{Read}
use Rattle.packet_lines.specs.Lines.{line_of, lines_of}
use Rattle.packet_lines.specs.Texts.{is_sized, packet_in, line_before, bytes_told}
use Rattle.packet_lines.specs.Laws.{BeginsBadly, IsTextOf, TextsAreLines, BadLineIsFirst}
use Rattle.packet_lines.proofs.TextLemmas.{packet_in_size, told_nothing, told_step, one_left}

-- ---- a line that is a packet's

record IsLineOf (p line : List ℕ) : Type 0 where
  pub is : (line ≡ line_of p) ⊎ ((line ≡ digits_of p) × (length line ≡ 376))
  pub size : length p ≡ 188
  pub small : All (λ b. b < 256) p

spelled_in : (sized : Bool) (found : Option (List ℕ)) (p : List ℕ) → (if sized then found else None) ≡ Some p → (sized ≡ true) × (found ≡ Some p)
spelled_in true found p e = (refl, e)
spelled_in false found p e = absurd (cc)

sized_so : (a b d : Bool) → (a || (b && d)) ≡ true → (a ≡ true) ⊎ ((b ≡ true) × (d ≡ true))
sized_so true b d e = inl refl
sized_so false true true e = inr (refl, refl)
sized_so false true false e = absurd (cc)
sized_so false false d e = absurd (cc)

same_number : (a b : ℕ) → nat_eq a b ≡ true → a ≡ b
same_number a b e = grind (arith, e)

line_is : (line p : List ℕ) → packet_in line ≡ Some p → IsLineOf p line
line_is line p e =
    let s = spelled_in (is_sized line) (spelled (take 376 line)) p e in
    let by = spelled_by (take 376 line) p s.1 in
    record {
      is = elim (sized_so (nat_eq (length line) 376) (nat_eq (length line) 377) (nat_eq (slice_index line 376) 10) s.0) [
        | inl a ↦ inr (sym (take_all 376 line (omega (arith, same_number _ _ a))) ∙ by.0, same_number _ _ a)
        | inr b ↦
            let last : drop 376 line ≡ 10 ∷ [] = one_left line (same_number _ _ b.0) ∙ ap (λ c. c ∷ []) (same_number _ _ b.1) in
            inl (sym (take-append-drop 376 line) ∙ ap (λ l. take 376 line ++ l) last ∙ ap (λ l. l ++ 10 ∷ []) by.0)
      ];
      size = packet_in_size line p e;
      small = by.1;
    }

-- ---- a text

record Told (text : List ℕ) : Type 0 where
  pub packets : List (List ℕ)
  pub sizes : All (λ p. length p ≡ 188) packets
  pub small : All (λ p. All (λ b. b < 256) p) packets
  pub is : IsTextOf packets text

told_none : Told []
told_none = record { packets = []; sizes = All-nil (λ p. length p ≡ 188); small = All-nil (λ p. All (λ b. b < 256) p); is = inl (inl refl, told_nothing) }

told_bad : (text : List ℕ) → BeginsBadly text → Told text
told_bad text b = record {
  packets = [];
  sizes = All-nil (λ p. length p ≡ 188);
  small = All-nil (λ p. All (λ b. b < 256) p);
  is = inr (text, refl, b, told_step text b.some ∙ ap (λ o. line_before o (bytes_told (drop 377 text))) b.bad);
}

-- a line, and then a text
more_is : (text rest p : List ℕ) (ps : List (List ℕ)) → text ≡ line_of p ++ rest → bytes_told text ≡ p ++ bytes_told rest → IsTextOf ps rest → IsTextOf (p ∷ ps) text
more_is text rest p ps e t (inl (inl k, u)) = inl (inl (e ∙ ap (λ l. line_of p ++ l) k), t ∙ ap (λ l. p ++ l) u)
more_is text rest p ps e t (inl (inr k, u)) = inl (inr (ap (λ l. l ++ 10 ∷ []) e ∙ append_assoc (line_of p) rest (10 ∷ []) ∙ ap (λ l. line_of p ++ l) k), t ∙ ap (λ l. p ++ l) u)
more_is text rest p ps e t (inr (bad, k, b, u)) =
    inr (bad, e ∙ ap (λ l. line_of p ++ l) k ∙ sym (append_assoc (line_of p) (lines_of ps) bad), b, t ∙ ap (λ l. p ++ l) u ∙ sym (append_assoc p (bytes_of ps) (0 ∷ [])))

told_more : (text p : List ℕ) → bytes_told text ≡ p ++ bytes_told (drop 377 text) → IsLineOf p (take 377 text) → Told (drop 377 text) → Told text
told_more text p t line rest = elim line.is [
  | inl whole ↦ record {
    packets = p ∷ rest.packets;
    sizes = All-cons (λ q. length q ≡ 188) p rest.packets line.size rest.sizes;
    small = All-cons (λ q. All (λ b. b < 256) q) p rest.packets line.small rest.small;
    is = more_is text (drop 377 text) p rest.packets (sym (take-append-drop 377 text) ∙ ap (λ l. l ++ drop 377 text) whole) t rest.is;
  }
  | inr part ↦
      let n : length text ≤ 376 = omega (arith, part.1, length-take 377 text) in
      let all : take 377 text ≡ text = take_all 377 text (omega (arith, n)) in
      let none : drop 377 text ≡ [] = drop_all 377 text (omega (arith, n)) in
      record {
        packets = p ∷ [];
        sizes = All-cons (λ q. length q ≡ 188) p [] line.size (All-nil (λ q. length q ≡ 188));
        small = All-cons (λ q. All (λ b. b < 256) q) p [] line.small (All-nil (λ q. All (λ b. b < 256) q));
        is = inl (inr (ap (λ l. l ++ 10 ∷ []) (sym all ∙ part.0) ∙ sym (append-nil (line_of p))), t ∙ ap (λ l. p ++ bytes_told l) none ∙ ap (λ l. p ++ l) told_nothing);
      }
]

told_by : (text : List ℕ) → 0 < length text → Told (drop 377 text) → (o : Option (List ℕ)) → packet_in (take 377 text) ≡ o → Told text
told_by text some rest None e = told_bad text (record { some = some; bad = e })
told_by text some rest (Some p) e = told_more text p (told_step text some ∙ ap (λ o. line_before o (bytes_told (drop 377 text))) e) (line_is (take 377 text) p e) rest

told_within : (n : ℕ) (text : List ℕ) → length text ≤ n → Told text
told_within n [] h = told_none
told_within zero (c ∷ text) h = absurd (omega (arith, h))
told_within (suc n) (c ∷ text) h =
    told_by (c ∷ text) (omega arith) (told_within n (drop 377 (c ∷ text)) (omega (arith, h, length-drop 377 (c ∷ text)))) (packet_in (take 377 (c ∷ text))) refl

pub texts_are_lines : TextsAreLines
texts_are_lines text = let t = told_within (length text) text (omega arith) in (t.packets, t.sizes, t.small, t.is)

-- ---- a bad line

-- no packet is called truncated
abbrev IsOther : Option CutFault → Type 0
IsOther o = o ≡ Some (Read Truncated) → ⊥

unit_other : (o : Option UnitFault) → IsOther (option_map as_cut_fault o)
unit_other None e = absurd (cc)
unit_other (Some unit_faults.Scrambled) e = absurd (cc)
unit_other (Some unit_faults.HeaderSplit) e = absurd (cc)
unit_other (Some unit_faults.TimeJump) e = absurd (cc)

packet_other : (g : Option PacketFault) (o : Option CutFault) → IsOther o → IsOther (or_then (named Read g) o)
packet_other None o h e = h e
packet_other (Some packet_faults.SyncLost) o h e = absurd (cc)
packet_other (Some packet_faults.BadAdaptation) o h e = absurd (cc)

then_other : (a b : Option CutFault) → IsOther a → IsOther b → IsOther (or_then a b)
then_other None b h k e = k e
then_other (Some f) b h k e = h e

first_other : (pid : ℕ) (ss : List Seen) → IsOther (first_of (fault_at pid) ss)
first_other pid [] e = absurd (cc)
first_other pid (s ∷ ss) e =
    then_other (fault_at pid s) (first_of (fault_at pid) ss) (packet_other (packet_fault s.packet) (option_map as_cut_fault (unit_fault (pid ∷ []) s.packet s.past)) (unit_other (unit_fault (pid ∷ []) s.packet s.past)))
    (first_other pid ss) e

-- so it is the end of the bytes, and no packet before has a fault
at_the_end : (a b : Option CutFault) → IsOther a → or_then a b ≡ Some (Read Truncated) → (a ≡ None) × (b ≡ Some (Read Truncated))
at_the_end None b h e = (refl, e)
at_the_end (Some f) b h e = absurd (h e)

none_first : (a b : Option CutFault) → or_then a b ≡ None → (a ≡ None) × (b ≡ None)
none_first None b e = (refl, e)
none_first (Some f) b e = absurd (cc)

front_all : (pid : ℕ) (past ps : List (List ℕ)) → first_of (fault_at pid) (seen_after past ps) ≡ None → sound_front (fault_at pid) (seen_after past ps) ≡ ps
front_all pid past [] e = refl
front_all pid past (p ∷ ps) e =
    let s : Seen = record { packet = p; past = past } in
    let none = none_first (fault_at pid s) (first_of (fault_at pid) (seen_after (p ∷ past) ps)) e in
    ap (λ g. elim g as (λ (o : Option CutFault). List (List ℕ)) [ None ↦ p ∷ sound_front (fault_at pid) (seen_after (p ∷ past) ps) | Some h ↦ [] ]) none.0
    ∙ ap (λ l. p ∷ l) (front_all pid (p ∷ past) ps none.1)

nothing_behind : fault_behind Read [] ≡ None
nothing_behind = refl

bad_in : (pid : ℕ) (text : List ℕ) (ps : List (List ℕ)) → All (λ p. length p ≡ 188) ps → IsTextOf ps text → first_fault pid (bytes_told text) ≡ Some (Read Truncated)
    → (rest : List ℕ) × (text ≡ lines_of (before_fault pid (bytes_told text)) ++ rest) × BeginsBadly rest
bad_in pid text ps sizes (inl (k, t)) e =
    let end = at_the_end (first_of (fault_at pid) (seen_after [] (packets_of (bytes_told text)))) (fault_behind Read (last_part (bytes_told text))) (first_other pid (seen_after [] (packets_of (bytes_told text)))) e in
    let none : last_part (bytes_told text) ≡ [] = ap last_part (t ∙ sym (append-nil (bytes_of ps))) ∙ last_part-whole ps [] sizes (omega arith) in
    let quiet = ap (fault_behind Read) none in
    absurd (let k = end.1 in cc)
bad_in pid text ps sizes (inr (rest, k, b, t)) e =
    let end = at_the_end (first_of (fault_at pid) (seen_after [] (packets_of (bytes_told text)))) (fault_behind Read (last_part (bytes_told text))) (first_other pid (seen_after [] (packets_of (bytes_told text)))) e in
    let all : packets_of (bytes_told text) ≡ ps = ap packets_of t ∙ packets_of-whole ps (0 ∷ []) sizes (omega arith) in
    let front : before_fault pid (bytes_told text) ≡ ps = front_all pid [] (packets_of (bytes_told text)) end.0 ∙ all in
    (rest, k ∙ ap (λ l. lines_of l ++ rest) (sym front), b)

pub bad_line_is_first : BadLineIsFirst
bad_line_is_first pid text e = let t = told_within (length text) text (omega arith) in bad_in pid text t.packets t.sizes t.is e
