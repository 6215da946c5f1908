-- What stands on the PID of the PMT in a stream that is written from a network.
use Rattle.std.proofs.Common.{◌≡◌, ℕ, zero, suc, ◌+◌, ◌%◌, ◌<◌, List, [], ◌∷◌, ◌++◌, Bool, true, false, refl, sym, ap, ◌∙◌, Option, None, Some, if◌then◌else◌, length, drop, map, arith}
use Rattle.std.specs.Prelude.{filter}
use Rattle.std.specs.List.{AllByRecursion}
use Rattle.std.proofs.lemmas.List.{append-nil, map-append}
use Rattle.std.proofs.lemmas.List.Elements.{filter-append}
use Rattle.switch_laws.proofs.SplitLemmas.{filter-onto}
use Rattle.ts_packet.specs.Fields.{on, number}
use Rattle.ts_packet.specs.Numbering.{one_past}
use Rattle.ts_packet.specs.Runs.{onto}
use Rattle.ts_packet.proofs.Cases.{by_test}
use Rattle.ts_packet.proofs.FieldLemmas.{payload_on-on}
use Rattle.ts_packet.proofs.RunLemmas.{onto-append}
use Rattle.psi_section.specs.Packetising.{later_packets, rest_packets, section_packets, packets_in_turn, next_packet, first_packet}
use Rattle.psi_section.proofs.ReadBackLemmas.{IsPayloadOn, turn_carry, first_number, first_on, next_packet_number, next_on}
use Rattle.program_follower.specs.declared.purpose.Listed.{Listed}
use Rattle.program_follower.specs.Program.{listed, since_pat, tables, all_tables}
use Rattle.program_follower.proofs.StepLemmas.{listed_stays, tables_off}
use Rattle.program_laws.specs.Writing.{Along, number_on, Writing, section_out, packets_out, body, written, Off}
use Rattle.program_laws.proofs.PacketLemmas.{one_past-below}
use Rattle.program_laws.proofs.ReadingLemmas.{since_onto, no_since, no_since_yet, none_before, none_at_pat}
use Rattle.chain_laws.specs.Tables.{up_to_pat}

-- ---- lists

pub filter-none : (f : List ℕ → Bool) (qs : List (List ℕ)) → AllByRecursion (λ q. f q ≡ false) qs → filter f qs ≡ []
filter-none f [] h = refl
filter-none f (q ∷ qs) h = let n = h.0 in simp n (filter-none f qs h.1)

filter-own : (pid : ℕ) (qs : List (List ℕ)) → AllByRecursion (IsPayloadOn pid) qs → filter (on pid) qs ≡ qs
filter-own pid [] h = refl
filter-own pid (q ∷ qs) h = let y = payload_on-on pid q h.0 in simp y (ap (λ l. q ∷ l) (filter-own pid qs h.1))

drop-onto : (qs since out : List (List ℕ)) → drop (length (onto since qs)) (onto out qs) ≡ drop (length since) out
drop-onto [] since out = refl
drop-onto (q ∷ qs) since out = drop-onto qs (q ∷ since) (q ∷ out)

-- ---- counters

-- the last counter of a PID stands in the packets of that PID
pub number-own : (pid : ℕ) (past : List (List ℕ)) → number_on pid past ≡ number_on pid (filter (on pid) past)
number-own pid [] = refl
number-own pid (p ∷ past) = by_test (on pid p) (λ y. simp (y, y) refl) (λ n. simp n (number-own pid past))

module _ (pid : ℕ) (pb : pid < 8192) where
  step-number : (n : ℕ) (q : List ℕ) (out : List (List ℕ)) → on pid q ≡ true → number q ≡ n → one_past (number_on pid (q ∷ out)) ≡ (n + 1) % 16
  step-number n q out y e = ap (λ b. one_past (if b then Some (number q) else number_on pid out)) y ∙ ap (λ m. (m + 1) % 16) e

  next-below : (n : ℕ) → (n + 1) % 16 < 16
  next-below n = omega arith

  later-number : (count n : ℕ) (bs : List ℕ) (out : List (List ℕ)) → n < 16 → one_past (number_on pid out) ≡ n →
      one_past (number_on pid (onto out (later_packets count pid n bs))) ≡ (n + length (later_packets count pid n bs)) % 16
  later-number zero n bs out nb h = h ∙ same n nb
    where
      same : (n : ℕ) → n < 16 → n ≡ (n + 0) % 16
      same n h = omega (arith, h)
  later-number (suc count) n bs out nb h =
      let q = next_packet pid n bs in
      let rest = later_packets count pid ((n + 1) % 16) (drop 184 bs) in
      later-number count ((n + 1) % 16) (drop 184 bs) (q ∷ out) (next-below n) (step-number n q out (payload_on-on pid q (next_on pid n bs pb nb)) (next_packet_number pid n bs pb nb))
      ∙ counted n (length rest)
    where
      counted : (n k : ℕ) → ((n + 1) % 16 + k) % 16 ≡ (n + suc k) % 16
      counted n k = omega arith

  section-number : (n : ℕ) (s : List ℕ) (out : List (List ℕ)) → n < 16 → one_past (number_on pid (onto out (section_packets pid n s))) ≡ (n + length (section_packets pid n s)) % 16
  section-number n s out nb =
      let q = first_packet pid n s in
      let rest = rest_packets pid ((n + 1) % 16) (drop 183 s) in
      later-number _ ((n + 1) % 16) (drop 183 s) (q ∷ out) (next-below n) (step-number n q out (payload_on-on pid q (first_on pid n s pb nb)) (first_number pid n s pb nb))
      ∙ counted n (length rest)
    where
      counted : (n k : ℕ) → ((n + 1) % 16 + k) % 16 ≡ (n + suc k) % 16
      counted n k = omega arith

  -- more sections go on behind the packets of those before
  turn-more : (ss ts : List (List ℕ)) (out : List (List ℕ)) →
      packets_out pid out (ss ++ ts) ≡ packets_out pid out ss ++ packets_out pid (onto out (packets_out pid out ss)) ts
  turn-more [] ts out = refl
  turn-more (s ∷ ss) ts out =
      let n = one_past (number_on pid out) in
      let qs = section_packets pid n s in
      let next : one_past (number_on pid (onto out qs)) ≡ (n + length qs) % 16 = section-number n s out (one_past-below (number_on pid out)) in
      ap (λ m. qs ++ packets_in_turn pid m (ss ++ ts)) (sym next)
      ∙ ap (λ l. qs ++ l) (turn-more ss ts (onto out qs))
      ∙ sym (assoc qs (packets_out pid (onto out qs) ss) _)
      ∙ ap (λ o. (qs ++ packets_out pid (onto out qs) ss) ++ packets_out pid o ts) (sym (onto-append out qs (packets_out pid (onto out qs) ss)))
      ∙ ap (λ m. (qs ++ packets_in_turn pid m ss) ++ packets_out pid (onto out (qs ++ packets_in_turn pid m ss)) ts) next
    where
      assoc : (xs ys zs : List (List ℕ)) → (xs ++ ys) ++ zs ≡ xs ++ (ys ++ zs)
      assoc [] ys zs = refl
      assoc (x ∷ xs) ys zs = ap (λ l. x ∷ l) (assoc xs ys zs)

-- ---- what is written

-- Nothing is put on the PID but sections behind the PAT; before that its packets pass.
pub record IsClearOn (w : Writing) (wanted : Option ℕ) (pid : ℕ) (p : List ℕ) (past : List (List ℕ)) : Type 0 where
  pub front : AllByRecursion (Off pid) (w.front p past)
  pub keeps : listed wanted past ≡ None → on pid p ≡ true → w.place p past ≡ p ∷ []
  pub place : on pid p ≡ false → AllByRecursion (Off pid) (w.place p past)

module _ (w : Writing) (wanted : Option ℕ) (pid : ℕ) where
  abbrev out : List (List ℕ) → List (List ℕ)
  out past = written w wanted past

  front-none : (p : List ℕ) (past : List (List ℕ)) → AllByRecursion (Off pid) (w.front p past) → (qs : List (List ℕ)) → filter (on pid) (onto (written w wanted past) (w.front p past ++ qs)) ≡ onto (filter (on pid) (written w wanted past)) (filter (on pid) qs)
  front-none p past h qs =
      filter-onto (on pid) (out past) (w.front p past ++ qs)
      ∙ ap (onto (filter (on pid) (out past))) (filter-append (on pid) (w.front p past) qs ∙ ap (λ l. l ++ filter (on pid) qs) (filter-none (on pid) (w.front p past) h))

  place-kept : (p : List ℕ) (past : List (List ℕ)) → IsClearOn w wanted pid p past → listed wanted past ≡ None → filter (on pid) (w.place p past) ≡ filter (on pid) (p ∷ [])
  place-kept p past s none = by_test (on pid p)
      (λ y. ap (filter (on pid)) (s.keeps none y))
      (λ n. filter-none (on pid) (w.place p past) (s.place n) ∙ sym (filter-none (on pid) (p ∷ []) (n, tt)))

  one-more : (p : List ℕ) (past other : List (List ℕ)) → filter (on pid) other ≡ filter (on pid) past → onto (filter (on pid) other) (filter (on pid) (p ∷ [])) ≡ filter (on pid) (p ∷ past)
  one-more p past other h = by_test (on pid p) (λ y. simp y (ap (λ l. p ∷ l) h)) (λ n. simp n h)

  -- up to the PAT
  pub step-before : (p : List ℕ) (past : List (List ℕ)) → IsClearOn w wanted pid p past → listed wanted past ≡ None → filter (on pid) (written w wanted past) ≡ filter (on pid) past →
      filter (on pid) (written w wanted (p ∷ past)) ≡ filter (on pid) (p ∷ past)
  step-before p past s none h =
      ap (λ o. filter (on pid) (onto (out past) (w.front p past ++ body w o p past (tables wanted p past) (out past)))) none
      ∙ front-none p past s.front (w.place p past)
      ∙ ap (onto (filter (on pid) (out past))) (place-kept p past s none)
      ∙ one-more p past (out past) h

  pub before : (past : List (List ℕ)) → Along (IsClearOn w wanted pid) past → listed wanted past ≡ None → filter (on pid) (written w wanted past) ≡ filter (on pid) past
  before [] s none = refl
  before (p ∷ past) s none =
      let n = none_before wanted p past none in
      step-before p past s.0 n (before past s.1 n)

  pub up-none : (past : List (List ℕ)) → listed wanted past ≡ None → up_to_pat wanted past ≡ past
  up-none past none = ap (λ l. drop (length l) past) (no_since_yet wanted past none)

  pub up-at : (p : List ℕ) (past : List (List ℕ)) → listed wanted past ≡ None → up_to_pat wanted (p ∷ past) ≡ p ∷ past
  up-at p past none = ap (λ l. drop (length l) (p ∷ past)) (no_since wanted p past none)

  pub up-behind : (qs past : List (List ℕ)) (l : Listed) → listed wanted past ≡ Some l → up_to_pat wanted (onto past qs) ≡ up_to_pat wanted past
  up-behind qs past l h = ap (λ s. drop (length s) (onto past qs)) (since_onto wanted qs past l h) ∙ drop-onto qs (since_pat wanted past) past

  -- behind it
  abbrev sections_at : List (List ℕ) → List (List ℕ)
  sections_at past = map (section_out w.change) (all_tables wanted past)

  abbrev first : List (List ℕ) → List (List ℕ)
  first past = filter (on pid) (up_to_pat wanted past)

  abbrev IsOut : List (List ℕ) → Type 0
  IsOut past = filter (on pid) (written w wanted past) ≡ onto (filter (on pid) (up_to_pat wanted past)) (packets_out pid (up_to_pat wanted past) (map (section_out w.change) (all_tables wanted past)))

  module _ (l : Listed) (own : l.pid ≡ pid) (pb : pid < 8192) where
    abbrev turn : List (List ℕ) → List (List ℕ)
    turn past = packets_out pid (up_to_pat wanted past) (sections_at past)

    same-number : (past : List (List ℕ)) → IsOut past → number_on pid (written w wanted past) ≡ number_on pid (onto (up_to_pat wanted past) (turn past))
    same-number past h =
        number-own pid (out past)
        ∙ ap (number_on pid) (h ∙ ap (onto (first past)) (sym (filter-own pid (turn past) (turn_carry pid _ (sections_at past) pb (one_past-below (number_on pid (up_to_pat wanted past))))))
        ∙ sym (filter-onto (on pid) (up_to_pat wanted past) (turn past)))
        ∙ sym (number-own pid (onto (up_to_pat wanted past) (turn past)))

    -- a packet on it
    step-on : (p : List ℕ) (past : List (List ℕ)) → IsClearOn w wanted pid p past → listed wanted past ≡ Some l → on pid p ≡ true → IsOut past →
        filter (on pid) (written w wanted (p ∷ past)) ≡ onto (first past) (packets_out pid (up_to_pat wanted past) (sections_at past ++ map (section_out w.change) (tables wanted p past)))
    step-on p past s known y h =
        let up = up_to_pat wanted past in
        let ss = map (section_out w.change) (tables wanted p past) in
        let qs = packets_out pid (out past) ss in
        ap (λ o. filter (on pid) (onto (out past) (w.front p past ++ body w o p past (tables wanted p past) (out past)))) known
        ∙ ap (λ n. filter (on pid) (onto (out past) (w.front p past ++ (if on n p then packets_out n (out past) ss else w.place p past)))) own
        ∙ ap (λ b. filter (on pid) (onto (out past) (w.front p past ++ (if b then qs else w.place p past)))) y
        ∙ front-none p past s.front qs
        ∙ ap (onto (filter (on pid) (out past))) (filter-own pid qs (turn_carry pid _ ss pb (one_past-below (number_on pid (out past)))))
        ∙ ap (λ m. onto (filter (on pid) (out past)) (packets_in_turn pid (one_past m) ss)) (same-number past h)
        ∙ ap (λ o. onto o (packets_out pid (onto up (turn past)) ss)) h
        ∙ sym (onto-append (first past) (turn past) (packets_out pid (onto up (turn past)) ss))
        ∙ ap (onto (first past)) (sym (turn-more pid pb (sections_at past) ss up))

    -- and one off it
    step-off : (p : List ℕ) (past : List (List ℕ)) → IsClearOn w wanted pid p past → listed wanted past ≡ Some l → on pid p ≡ false → IsOut past →
        filter (on pid) (written w wanted (p ∷ past)) ≡ onto (first past) (packets_out pid (up_to_pat wanted past) (sections_at past ++ map (section_out w.change) (tables wanted p past)))
    step-off p past s known n h =
        let ts : tables wanted p past ≡ [] = tables_off wanted p past l known (ap (λ m. on m p) own ∙ n) in
        ap (λ o. filter (on pid) (onto (out past) (w.front p past ++ body w o p past (tables wanted p past) (out past)))) known
        ∙ ap (λ m. filter (on pid) (onto (out past) (w.front p past ++ (if on m p then packets_out m (out past) (map (section_out w.change) (tables wanted p past)) else w.place p past)))) own
        ∙ ap (λ b. filter (on pid) (onto (out past) (w.front p past ++ (if b then packets_out pid (out past) (map (section_out w.change) (tables wanted p past)) else w.place p past)))) n
        ∙ front-none p past s.front (w.place p past)
        ∙ ap (onto (filter (on pid) (out past))) (filter-none (on pid) (w.place p past) (s.place n))
        ∙ h
        ∙ ap (λ ss. onto (first past) (packets_out pid (up_to_pat wanted past) ss)) (sym (append-nil (sections_at past)))
        ∙ ap (λ us. onto (first past) (packets_out pid (up_to_pat wanted past) (sections_at past ++ map (section_out w.change) us))) (sym ts)

    step-behind : (p : List ℕ) (past : List (List ℕ)) → IsClearOn w wanted pid p past → listed wanted past ≡ Some l → IsOut past → IsOut (p ∷ past)
    step-behind p past s known h =
        by_test (on pid p) (λ y. step-on p past s known y h) (λ n. step-off p past s known n h)
        ∙ ap (λ ss. onto (first past) (packets_out pid (up_to_pat wanted past) ss)) (sym (map-append (section_out w.change) (all_tables wanted past) (tables wanted p past)))
        ∙ ap (λ up. onto (filter (on pid) up) (packets_out pid up (sections_at (p ∷ past)))) (sym (up-behind (p ∷ []) past l known))

    step-pat : (p : List ℕ) (past : List (List ℕ)) → IsClearOn w wanted pid p past → listed wanted past ≡ None → filter (on pid) (written w wanted past) ≡ filter (on pid) past → IsOut (p ∷ past)
    step-pat p past s none h =
        step-before p past s none h
        ∙ ap (filter (on pid)) (sym (up-at p past none))
        ∙ ap (λ ts. onto (first (p ∷ past)) (packets_out pid (up_to_pat wanted (p ∷ past)) (map (section_out w.change) ts))) (sym (none_at_pat wanted p past none))

    same-listed : (p : List ℕ) (past : List (List ℕ)) (m : Listed) → listed wanted past ≡ Some m → listed wanted (p ∷ past) ≡ Some l → m ≡ l
    same-listed p past m h g = let e : Some m ≡ Some l = sym (listed_stays wanted p past m h) ∙ g in cc

    pub map-out : (past : List (List ℕ)) → Along (IsClearOn w wanted pid) past → listed wanted past ≡ Some l → IsOut past
    map-out [] s known = absurd (cc)
    map-out (p ∷ past) s known = by (listed wanted past) refl (λ e. map-out past s.1 e)
      where
        by : (o : Option Listed) → listed wanted past ≡ o → (listed wanted past ≡ Some l → IsOut past) → IsOut (p ∷ past)
        by None h earlier = step-pat p past s.0 h (before past s.1 h)
        by (Some m) h earlier = let e = h ∙ ap Some (same-listed p past m h known) in step-behind p past s.0 e (earlier e)
