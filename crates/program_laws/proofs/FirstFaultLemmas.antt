-- The first fault of the bytes of a network, packet by packet.
use Rattle.std.specs.Option.{option_or}
use Rattle.std.specs.Prelude.{All, option_map}
use Rattle.std.proofs.Common.{◌≡◌, ℕ, ◌<◌, List, [], ◌∷◌, ◌++◌, refl, sym, ap, ◌∙◌, Option, Some, None, reverse, length, arith}
use Rattle.std.proofs.lemmas.List.{append-nil}
use Rattle.std.proofs.lemmas.List.Elements.{All-nil, All-cons, All-head, All-tail}
use Rattle.ts_packet.specs.Packets.{bytes_of, packet_fault}
use Rattle.ts_packet.specs.Runs.{Seen, seen_after, onto}
use Rattle.ts_packet.specs.FirstFault.{or_then, first_of, named, fault_of, fault_behind}
use Rattle.ts_packet.specs.declared.packet.PacketFault.{PacketFault}
use Rattle.ts_packet.specs.declared.packet.PacketFault.TheVariants as packet_faults
use Rattle.ts_packet.specs.declared.reader.ReadFault.{ReadFault}
use Rattle.ts_packet.proofs.RunLemmas.{seen_after-append}
use Rattle.ts_packet.proofs.PacketsLemmas.{packets_of-whole, last_part-whole}
use Rattle.program_follower.specs.declared.purpose.Purpose.{Purpose}
use Rattle.program_follower.specs.Faults.{network_fault, first_fault}
use Rattle.program_follower.specs.FirstFault.{network_test}
use Rattle.program_follower.proofs.OptionLemmas.{none_both}
use Rattle.ts_packet.proofs.StoppedLemmas.{by_parts}
use Rattle.program_laws.specs.FirstFault.{BytesFault, OfReader, OfNetwork, fault_of_bytes, fault_of_part, ArePacketsLong, OneMorePacket, FewMoreBytes, FaultlessBytes}

or_then-assoc : {A : Type 0} (x y z : Option A) → or_then (or_then x y) z ≡ or_then x (or_then y z)
or_then-assoc None y z = refl
or_then-assoc (Some x) y z = refl

or_then-none : {A : Type 0} (x : Option A) → or_then x None ≡ x
or_then-none None = refl
or_then-none (Some x) = refl

-- one word for the first of two
or_then-is : {A : Type 0} (x y : Option A) → or_then x y ≡ option_or x y
or_then-is None y = refl
or_then-is (Some x) y = refl

first_of-append : {F : Type 0} (test : Seen → Option F) (ss ts : List Seen) → first_of test (ss ++ ts) ≡ or_then (first_of test ss) (first_of test ts)
first_of-append test [] ts = refl
first_of-append test (s ∷ ss) ts = ap (or_then (test s)) (first_of-append test ss ts) ∙ sym (or_then-assoc (test s) (first_of test ss) (first_of test ts))

module _ (c : Purpose) where
  abbrev at : Seen → Option BytesFault
  at = fault_of OfReader (network_test OfNetwork c)

  -- of packets, and of what stands behind them
  by_packets : (ps : List (List ℕ)) (rest : List ℕ) → ArePacketsLong ps → length rest < 188
      → fault_of_bytes c (bytes_of ps ++ rest) ≡ or_then (first_of at (seen_after [] ps)) (fault_behind OfReader rest)
  by_packets ps rest a l = by_parts OfReader (network_test OfNetwork c) (bytes_of ps ++ rest) rest ps (packets_of-whole ps rest a l) (last_part-whole ps rest a l)

  whole : (ps : List (List ℕ)) → ArePacketsLong ps → fault_of_bytes c (bytes_of ps) ≡ first_of at (seen_after [] ps)
  whole ps a =
      ap (fault_of_bytes c) (sym (append-nil (bytes_of ps))) ∙ by_packets ps [] a (omega arith) ∙ or_then-none (first_of at (seen_after [] ps))

  first_more : (ps : List (List ℕ)) (p : List ℕ) → first_of at (seen_after [] (ps ++ p ∷ [])) ≡ or_then (first_of at (seen_after [] ps)) (fault_of_part c ps p)
  first_more ps p =
      let s : Seen = record { packet = p; past = reverse ps } in
      ap (first_of at) (seen_after-append [] ps (p ∷ [])) ∙ first_of-append at (seen_after [] ps) (s ∷ []) ∙ ap (or_then (first_of at (seen_after [] ps))) (or_then-none (at s))

front_long : (ps qs : List (List ℕ)) → ArePacketsLong (ps ++ qs) → ArePacketsLong ps
front_long [] qs a = All-nil (λ (q : List ℕ). length q ≡ 188)
front_long (p ∷ ps) qs a = All-cons (λ (q : List ℕ). length q ≡ 188) p ps (All-head (λ (q : List ℕ). length q ≡ 188) p (ps ++ qs) a) (front_long ps qs (All-tail (λ (q : List ℕ). length q ≡ 188) p (ps ++ qs) a))

pub one_more_packet : OneMorePacket
one_more_packet c ps p a =
    let b = front_long ps (p ∷ []) a in
    whole c (ps ++ p ∷ []) a ∙ first_more c ps p ∙ or_then-is (first_of (at c) (seen_after [] ps)) (fault_of_part c ps p)
    ∙ ap (λ x. option_or x (fault_of_part c ps p)) (sym (whole c ps b))

pub few_more_bytes : FewMoreBytes
few_more_bytes c ps rest a l =
    by_packets c ps rest a l ∙ or_then-is (first_of (at c) (seen_after [] ps)) (fault_behind OfReader rest) ∙ ap (λ x. option_or x (fault_behind OfReader rest)) (sym (whole c ps a))

-- ---- without fault

pub or_none : {A : Type 0} (x y : Option A) → or_then x y ≡ None → (x ≡ None) × (y ≡ None)
or_none None y h = (refl, h)
or_none (Some x) y h = absurd (cc)

no_name : {F : Type 0} (name : ReadFault → F) (o : Option PacketFault) → named name o ≡ None → o ≡ None
no_name name None h = refl
no_name name (Some packet_faults.SyncLost) h = absurd (cc)
no_name name (Some packet_faults.BadAdaptation) h = absurd (cc)

pub no_test : {A B : Type 0} (f : A → B) (o : Option A) → option_map f o ≡ None → o ≡ None
no_test f None h = refl
no_test f (Some x) h = absurd (cc)

module _ (c : Purpose) where
  only_by : (past ps : List (List ℕ)) → first_of (at c) (seen_after past ps) ≡ None → first_fault c past ≡ None
      → All (λ p. packet_fault p ≡ None) ps × (first_fault c (onto past ps) ≡ None)
  only_by past [] h k = (All-nil (λ (q : List ℕ). packet_fault q ≡ None), k)
  only_by past (p ∷ ps) h k =
      let s : Seen = record { packet = p; past = past } in
      let both = or_none (at c s) (first_of (at c) (seen_after (p ∷ past) ps)) h in
      let here = or_none (named OfReader (packet_fault p)) (network_test OfNetwork c s) both.0 in
      let clean = no_test OfNetwork (network_fault c p past) here.1 in
      let next : first_fault c (p ∷ past) ≡ None = ap (λ x. option_or x (network_fault c p past)) k ∙ clean in
      let rest = only_by (p ∷ past) ps both.1 next in
      (All-cons (λ (q : List ℕ). packet_fault q ≡ None) p ps (no_name OfReader (packet_fault p) here.0) rest.0, rest.1)

  front_clean : (past ps : List (List ℕ)) → first_fault c (onto past ps) ≡ None → first_fault c past ≡ None
  front_clean past [] h = h
  front_clean past (p ∷ ps) h = (none_both (first_fault c past) (network_fault c p past) (front_clean (p ∷ past) ps h)).0

  where_by : (past ps : List (List ℕ)) → All (λ p. packet_fault p ≡ None) ps → first_fault c (onto past ps) ≡ None → first_of (at c) (seen_after past ps) ≡ None
  where_by past [] a h = refl
  where_by past (p ∷ ps) a h =
      let s : Seen = record { packet = p; past = past } in
      let clean = (none_both (first_fault c past) (network_fault c p past) (front_clean (p ∷ past) ps h)).1 in
      let here : at c s ≡ None = ap (λ o. or_then (named OfReader o) (network_test OfNetwork c s)) (All-head (λ (q : List ℕ). packet_fault q ≡ None) p ps a) ∙ ap (option_map OfNetwork) clean in
      ap (λ o. or_then o (first_of (at c) (seen_after (p ∷ past) ps))) here ∙ where_by (p ∷ past) ps (All-tail (λ (q : List ℕ). packet_fault q ≡ None) p ps a) h

pub faultless_bytes : FaultlessBytes
faultless_bytes c ps a = record {
  only = λ h. let r = only_by c [] ps (sym (whole c ps a) ∙ h) refl in record { parts = r.0; network = r.1 };
  where_so = λ h. whole c ps a ∙ where_by c [] ps h.parts h.network;
}
