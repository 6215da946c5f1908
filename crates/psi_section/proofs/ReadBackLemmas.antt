-- The packets of a section read back as that section.
use Rattle.std.proofs.Common.{◌≡◌, ℕ, zero, suc, ◌+◌, ◌-◌, ◌/◌, ◌%◌, ◌<◌, ◌≤◌, inl, inr, List, [], ◌∷◌, ◌++◌, Bool, true, false, not, ◌&&◌, ◌==◌, if◌then◌else◌, nat_le, Option, Some, refl, sym, ap, ◌∙◌, arith, length, take, drop, replicate, append_assoc, ⊎_elim, subst, zero-add}
use Rattle.std.specs.Prelude.{filter, count_by}
use Rattle.std.proofs.lemmas.Bool.{eq-eqb, ne_eqb, cases_lt, le-leb}
use Rattle.std.proofs.lemmas.List.{append-nil, length-take-le, length-drop, take_at, take_all, take-append-drop, drop-drop}
use Rattle.std.proofs.Math.Seq.{take-length, take-add}
use Rattle.ts_packet.specs.Filling.{packets_for}
use Rattle.ts_packet.specs.declared.follower.Last.{Last}
use Rattle.ts_packet.specs.Fields.{in_error, unit_start, pid_of, number, payload, on, payload_on, bytes, or_none, alike}
use Rattle.ts_packet.specs.Duplicates.{original, repeats, last_of, repeats_last, follows_on}
use Rattle.ts_packet.proofs.Cases.{by_test}
use Rattle.ts_packet.proofs.FieldLemmas.{number-below}
use Rattle.ts_packet.proofs.HistoryLemmas.{walk_is_last}
use Rattle.psi_section.specs.declared.front.Front.{Front}
use Rattle.psi_section.specs.declared.front.Front.TheVariants.{Nothing, Whole, Part}
use Rattle.psi_section.specs.Sections.{front_of, Assembled, nothing, with_section, taken_past, taken, continued, started, payload_taken, unbroken, packet_taken, held, given, failed, is_good, is_bad, sections_after}
use Rattle.psi_section.specs.Packetising.{padded, first_packet, next_packet, later_packets, rest_packets, section_packets}
use Rattle.psi_section.specs.Assembling.{IsPart}
use Rattle.psi_section.specs.Laws.{CanBeGiven, NothingIsLeft}
use Rattle.psi_section.proofs.FrontLemmas.{whole_and, whole_stays, part_alone, part_of, by_front, by_front_joined, joined_front}
use Rattle.ts_packet.proofs.RunLemmas.{onto}
use Rattle.std.specs.Prelude.{All}
use Rattle.std.proofs.lemmas.List.Elements.{All-head, All-tail}
use Rattle.psi_section.specs.Packetising.{packets_in_turn}
use Rattle.psi_section.proofs.RunLemmas.{original_gives, original_holds, original_fails, sections_after-append}
use Rattle.std.specs.List.{AllByRecursion}
use Rattle.psi_section.proofs.GivenLemmas.{each-append}
use Rattle.psi_section.proofs.PacketiserLemmas.{rest-none}

-- ---- the packets' fields

module _ (pid n : ℕ) (s : List ℕ) (pb : pid < 8192) (nb : n < 16) where
  first_error : in_error (first_packet pid n s) ≡ false
  unfolding in_error
  first_error = ne_eqb ((pid / 256 + 64) / 128 % 2) 1 (λ e. omega arith)

  first_start : unit_start (first_packet pid n s) ≡ true
  unfolding unit_start
  first_start = eq-eqb ((pid / 256 + 64) / 64 % 2) 1 (omega arith)

  first_pid : pid_of (first_packet pid n s) ≡ pid
  unfolding pid_of
  first_pid = omega arith

  pub first_number : number (first_packet pid n s) ≡ n
  unfolding number
  first_number = omega arith

  first_payload : payload (first_packet pid n s) ≡ Some (0 ∷ padded 183 s)
  unfolding payload
  first_payload = let e = first_error in let c : (16 + n) / 16 % 4 ≡ 1 = omega arith in simp (e, c)

  first_bytes : bytes (first_packet pid n s) ≡ 0 ∷ padded 183 s
  unfolding bytes
  first_bytes = ap or_none first_payload

  pub first_on : payload_on pid (first_packet pid n s) ≡ true
  unfolding payload_on on
  first_on = let e = first_error in let q : (pid_of (first_packet pid n s) == pid) ≡ true = eq-eqb _ _ first_pid in let p = first_payload in simp (e, q, p)

  next_error : in_error (next_packet pid n s) ≡ false
  unfolding in_error
  next_error = ne_eqb (pid / 256 / 128 % 2) 1 (λ e. omega arith)

  next_start : unit_start (next_packet pid n s) ≡ false
  unfolding unit_start
  next_start = ne_eqb (pid / 256 / 64 % 2) 1 (λ e. omega arith)

  next_pid : pid_of (next_packet pid n s) ≡ pid
  unfolding pid_of
  next_pid = omega arith

  pub next_packet_number : number (next_packet pid n s) ≡ n
  unfolding number
  next_packet_number = omega arith

  next_payload : payload (next_packet pid n s) ≡ Some (padded 184 s)
  unfolding payload
  next_payload = let e = next_error in let c : (16 + n) / 16 % 4 ≡ 1 = omega arith in simp (e, c)

  next_bytes : bytes (next_packet pid n s) ≡ padded 184 s
  unfolding bytes
  next_bytes = ap or_none next_payload

  pub next_on : payload_on pid (next_packet pid n s) ≡ true
  unfolding payload_on on
  next_on = let e = next_error in let q : (pid_of (next_packet pid n s) == pid) ≡ true = eq-eqb _ _ next_pid in let p = next_payload in simp (e, q, p)

-- ---- a part is one

part_if : (b : Bool) (xs ys : List ℕ) → IsPart xs → IsPart ys → IsPart (if b then xs else ys)
part_if true xs ys h k = h
part_if false xs ys h k = k

part_by : (x : ℕ) (xs : List ℕ) (f : Front) → ((k : ℕ) → IsPart (taken_past k xs).part) → front_of (x ∷ xs) ≡ f → IsPart (by_front x xs f).part
part_by x xs Nothing r h = inl refl
part_by x xs Part r h = inr h
part_by x xs (Whole size) r h = r (size - 1)

part_taken : (bs : List ℕ) (k : ℕ) → IsPart (taken_past k bs).part
part_taken [] k = inl refl
part_taken (x ∷ xs) zero = part_by x xs (front_of (x ∷ xs)) (part_taken xs) refl
part_taken (x ∷ xs) (suc k) = part_taken xs k

joined_by : (bs : List ℕ) (f : Front) → front_of bs ≡ f → IsPart (by_front_joined bs f).part
joined_by bs Nothing h = inl refl
joined_by bs Part h = inr h
joined_by bs (Whole size) h = inl refl

part_continued : (part bs : List ℕ) → IsPart (continued part bs).part
part_continued [] bs = inl refl
part_continued (x ∷ xs) bs = joined_by ((x ∷ xs) ++ bs) (front_of ((x ∷ xs) ++ bs)) refl

part_started : (part bs : List ℕ) → IsPart (started part bs).part
part_started part [] = inl refl
part_started part (pointer ∷ bs) =
    by_test (nat_le pointer (length bs))
    (λ y. simp y (part_taken (drop pointer bs) 0))
    (λ n. simp n (inl refl))

part_payload : (b : Bool) (part bs : List ℕ) → IsPart (payload_taken b part bs).part
part_payload true part bs = part_started part bs
part_payload false part bs = part_continued part bs

part_packet : (p : List ℕ) (last : Option Last) (part : List ℕ) → IsPart (packet_taken p last part).part
part_packet p last part = part_payload (unit_start p) (unbroken p last part) (bytes p)

pub held_part : (pid : ℕ) (past : List (List ℕ)) → IsPart (held pid past)
held_part pid [] = inl refl
held_part pid (p ∷ past) = part_if (original pid p past) (packet_taken p (last_of pid past) (held pid past)).part (held pid past) (part_packet p (last_of pid past) (held pid past)) (held_part pid past)

unbroken_part : (p : List ℕ) (last : Option Last) (part : List ℕ) → IsPart part → IsPart (unbroken p last part)
unbroken_part p last part h = part_if (follows_on p last) part [] h (inl refl)

-- no bytes end no part
no_end : (part : List ℕ) → IsPart part → (continued part []).finished ≡ []
no_end [] h = refl
no_end (x ∷ xs) (inl e) = absurd (cc)
no_end (x ∷ xs) (inr h) = ap (λ (t : Assembled). t.finished) (joined_front (x ∷ xs) [] Part (omega arith) (ap front_of (append-nil (x ∷ xs)) ∙ h))

-- where the pointer is 0, sections begin at once
started_first : (part bs : List ℕ) → IsPart part → started part (0 ∷ bs) ≡ taken bs
started_first part bs h =
    let e : nat_le 0 (length bs) ≡ true = le-leb 0 (length bs) (omega arith) in
    let f = no_end part h in
    simp (e, f)

-- ---- a section and its parts, filled

stuffing : (n : ℕ) → taken (replicate n 0xFF) ≡ nothing
stuffing zero = refl
stuffing (suc n) = refl

padded_all : (room : ℕ) (bs : List ℕ) → length bs ≤ room → padded room bs ≡ bs ++ replicate (room - length bs) 0xFF
padded_all room bs h = ap (λ l. l ++ replicate (room - length bs) 0xFF) (take_all room bs h)

padded_front : (room : ℕ) (bs : List ℕ) → room ≤ length bs → padded room bs ≡ take room bs
padded_front room bs h = let z : room - length bs ≡ 0 = omega arith in ap (λ n. take room bs ++ replicate n 0xFF) z ∙ append-nil (take room bs)

module _ (s : List ℕ) (w : front_of s ≡ Whole (length s)) where
  filled_front : (more : List ℕ) → front_of (s ++ more) ≡ Whole (length s)
  filled_front more = ap (λ l. front_of (l ++ more)) (sym (take-length s)) ∙ whole_stays s more (length s) w

  filled_taken : (n : ℕ) → taken (s ++ replicate n 0xFF) ≡ record { finished = s ∷ []; part = [] }
  filled_taken n =
      ap (λ l. taken (l ++ replicate n 0xFF)) (sym (take-length s))
      ∙ whole_and s (replicate n 0xFF) (length s) w
      ∙ ap (λ l. with_section l (taken (replicate n 0xFF))) (take-length s)
      ∙ ap (with_section s) (stuffing n)

  cut_taken : (k : ℕ) → 3 ≤ k → k < length s → taken (take k s) ≡ record { finished = []; part = take k s }
  cut_taken k a b = part_alone (take k s) (part_of s (length s) k w a b)

  -- the first packet's bytes
  first_small : length s ≤ 183 → taken (padded 183 s) ≡ record { finished = s ∷ []; part = [] }
  first_small h = ap taken (padded_all 183 s h) ∙ filled_taken (183 - length s)

  first_large : 183 < length s → taken (padded 183 s) ≡ record { finished = []; part = take 183 s }
  first_large h = ap taken (padded_front 183 s (omega arith)) ∙ cut_taken 183 (omega arith) h

  module _ (k : ℕ) (a : 3 ≤ k) (b : k < length s) where
    some_bytes : 0 < length (take k s)
    some_bytes = rw (length-take-le k s (omega arith)) (omega arith)

    later_small : length (drop k s) ≤ 184 → continued (take k s) (padded 184 (drop k s)) ≡ record { finished = s ∷ []; part = [] }
    later_small h =
        let n = 184 - length (drop k s) in
        let e : take k s ++ padded 184 (drop k s) ≡ s ++ replicate n 0xFF =
        ap (λ l. take k s ++ l) (padded_all 184 (drop k s) h)
        ∙ sym (append_assoc (take k s) (drop k s) (replicate n 0xFF))
        ∙ ap (λ l. l ++ replicate n 0xFF) (take-append-drop k s) in
        let f : front_of (take k s ++ padded 184 (drop k s)) ≡ Whole (length s) = ap front_of e ∙ filled_front (replicate n 0xFF) in
        joined_front (take k s) (padded 184 (drop k s)) (Whole (length s)) some_bytes f
        ∙ ap (λ l. by_front_joined l (Whole (length s))) e
        ∙ ap (λ l. let t : Assembled = record { finished = l ∷ []; part = [] } in t) (take_at s (replicate n 0xFF) (length s) refl)

    later_large : 184 < length (drop k s) → continued (take k s) (padded 184 (drop k s)) ≡ record { finished = []; part = take (k + 184) s }
    later_large h =
        let d : length (drop k s) ≡ length s - k = length-drop k s in
        let e : take k s ++ padded 184 (drop k s) ≡ take (k + 184) s =
        ap (λ l. take k s ++ l) (padded_front 184 (drop k s) (omega arith)) ∙ sym (take-add k 184 s) in
        let f : front_of (take k s ++ padded 184 (drop k s)) ≡ Part = ap front_of e ∙ part_of s (length s) (k + 184) w (omega arith) (omega arith) in
        joined_front (take k s) (padded 184 (drop k s)) Part some_bytes f ∙ ap (λ l. by_front_joined l Part) e

-- ---- the packets behind the first

pub different : (q p : List ℕ) → (number q ≡ number p → ⊥) → alike q p ≡ false
unfolding alike
different q p h = let e : (number q == number p) ≡ false = ne_eqb (number q) (number p) h in simp e

module _ (pid n : ℕ) (bs : List ℕ) (past : List (List ℕ)) (pb : pid < 8192) (nb : n < 16) (l : Last) (last : last_of pid past ≡ Some l) (goes_on : n ≡ (number l.packet + 1) % 16) where
  next_original : repeats pid (next_packet pid n bs) past ≡ false
  next_original =
      let m = number-below l.packet in
      let k = next_packet_number pid n bs pb nb in
      let d : alike l.packet (next_packet pid n bs) ≡ false = different l.packet (next_packet pid n bs) (λ e. let f : number l.packet ≡ n = e ∙ k in omega arith) in
      walk_is_last pid (next_packet pid n bs) past ∙ ap (repeats_last (next_packet pid n bs)) last ∙ ap (λ x. x && not l.is_repeat) d

  next_follows : follows_on (next_packet pid n bs) (last_of pid past) ≡ true
  next_follows = ap (follows_on (next_packet pid n bs)) last ∙ eq-eqb (number (next_packet pid n bs)) ((number l.packet + 1) % 16) (next_packet_number pid n bs pb nb ∙ goes_on)

  next_taken : packet_taken (next_packet pid n bs) (last_of pid past) (held pid past) ≡ continued (held pid past) (padded 184 bs)
  next_taken =
      ap (λ x. payload_taken x (unbroken (next_packet pid n bs) (last_of pid past) (held pid past)) (bytes (next_packet pid n bs))) (next_start pid n bs pb nb)
      ∙ ap (λ x. continued (if x then held pid past else []) (bytes (next_packet pid n bs))) next_follows
      ∙ ap (continued (held pid past)) (next_bytes pid n bs pb nb)

  next_last : last_of pid (next_packet pid n bs ∷ past) ≡ Some (record { packet = next_packet pid n bs; is_repeat = false })
  next_last = let y = next_on pid n bs pb nb in let w = next_original in simp (y, w)

module _ (s : List ℕ) (can : CanBeGiven s) where
  good_one : filter is_good (s ∷ []) ≡ s ∷ []
  good_one = let e : is_good s ≡ true = ap not can.good in simp e

  later : (count pid k n : ℕ) (past : List (List ℕ)) (l : Last) → pid < 8192 → n < 16 → 3 ≤ k → k < length s → count ≡ packets_for (length s - k) → held pid past ≡ take k s
      → last_of pid past ≡ Some l → n ≡ (number l.packet + 1) % 16 → sections_after past pid (later_packets count pid n (drop k s)) ≡ s ∷ []
  later zero pid k n past l pb nb a b c h e f = absurd (omega arith)
  later (suc count) pid k n past l pb nb a b c h e f =
      let q = next_packet pid n (drop k s) in
      let y = next_on pid n (drop k s) pb nb in
      let w = next_original pid n (drop k s) past pb nb l e f in
      let t : packet_taken q (last_of pid past) (held pid past) ≡ continued (take k s) (padded 184 (drop k s)) =
      next_taken pid n (drop k s) past pb nb l e f ∙ ap (λ x. continued x (padded 184 (drop k s))) h in
      let d : length (drop k s) ≡ length s - k = length-drop k s in
      let more = later_packets count pid ((n + 1) % 16) (drop 184 (drop k s)) in
      ⊎_elim
      (λ g.
      let u = t ∙ later_large s can.whole k a b (rw d g) in
      let i : given pid q past ≡ [] = original_gives pid q past (record { finished = []; part = take (k + 184) s }) y w u in
      let j : held pid (q ∷ past) ≡ take (k + 184) s = original_holds pid q past (record { finished = []; part = take (k + 184) s }) y w u in
      let m : (n + 1) % 16 ≡ (number q + 1) % 16 = ap (λ x. (x + 1) % 16) (sym (next_packet_number pid n (drop k s) pb nb)) in
      let r = later count pid (k + 184) ((n + 1) % 16) (q ∷ past) (record { packet = q; is_repeat = false }) pb (omega arith) (omega arith) (omega arith) (omega arith) j
      (next_last pid n (drop k s) past pb nb l e f) m in
      ap (λ x. x ++ sections_after (q ∷ past) pid more) i ∙ ap (λ x. sections_after (q ∷ past) pid (later_packets count pid ((n + 1) % 16) x)) (drop-drop 184 k s) ∙ r)
      (λ g.
      let u = t ∙ later_small s can.whole k a b (rw d g) in
      let i : given pid q past ≡ s ∷ [] = original_gives pid q past (record { finished = s ∷ []; part = [] }) y w u ∙ good_one in
      let z : count ≡ 0 = omega arith in
      ap (λ x. x ++ sections_after (q ∷ past) pid more) i ∙ ap (λ x. (s ∷ []) ++ sections_after (q ∷ past) pid (later_packets x pid ((n + 1) % 16) (drop 184 (drop k s)))) z)
      (cases_lt 184 (length s - k))

  pub read_back : (pid n : ℕ) (past : List (List ℕ)) → pid < 8192 → n < 16 → repeats pid (first_packet pid n s) past ≡ false → sections_after past pid (section_packets pid n s) ≡ s ∷ []
  read_back pid n past pb nb w =
      let p = first_packet pid n s in
      let y = first_on pid n s pb nb in
      let u = unbroken p (last_of pid past) (held pid past) in
      let t : packet_taken p (last_of pid past) (held pid past) ≡ taken (padded 183 s) =
      ap (λ x. payload_taken x u (bytes p)) (first_start pid n s pb nb)
      ∙ ap (started u) (first_bytes pid n s pb nb)
      ∙ started_first u (padded 183 s) (unbroken_part p (last_of pid past) (held pid past) (held_part pid past)) in
      let d : length (drop 183 s) ≡ length s - 183 = length-drop 183 s in
      let more = rest_packets pid ((n + 1) % 16) (drop 183 s) in
      ⊎_elim
      (λ g.
      let v = t ∙ first_large s can.whole g in
      let i : given pid p past ≡ [] = original_gives pid p past (record { finished = []; part = take 183 s }) y w v in
      let j : held pid (p ∷ past) ≡ take 183 s = original_holds pid p past (record { finished = []; part = take 183 s }) y w v in
      let m : (n + 1) % 16 ≡ (number p + 1) % 16 = ap (λ x. (x + 1) % 16) (sym (first_number pid n s pb nb)) in
      let o : last_of pid (p ∷ past) ≡ Some (record { packet = p; is_repeat = false }) = simp (y, w) in
      let c : packets_for (length (drop 183 s)) ≡ packets_for (length s - 183) = ap packets_for d in
      ap (λ x. x ++ sections_after (p ∷ past) pid more) i
      ∙ later (packets_for (length (drop 183 s))) pid 183 ((n + 1) % 16) (p ∷ past) (record { packet = p; is_repeat = false }) pb (omega arith) (omega arith) g c j o m)
      (λ g.
      let v = t ∙ first_small s can.whole g in
      let i : given pid p past ≡ s ∷ [] = original_gives pid p past (record { finished = s ∷ []; part = [] }) y w v ∙ good_one in
      let z : length (drop 183 s) ≡ 0 = omega arith in
      ap (λ x. x ++ sections_after (p ∷ past) pid more) i ∙ ap (λ x. (s ∷ []) ++ sections_after (p ∷ past) pid x) (rest-none pid ((n + 1) % 16) (drop 183 s) z))
      (cases_lt 183 (length s))

-- ---- nothing is left of them

over_more : (pid : ℕ) (past between after : List (List ℕ)) → failed pid between ≡ failed pid past → NothingIsLeft pid between after → NothingIsLeft pid past after
over_more pid past between after e h = record { part = h.part; failed = h.failed ∙ e }

module _ (s : List ℕ) (can : CanBeGiven s) where
  none_bad : count_by is_bad (s ∷ []) ≡ 0
  none_bad = let e : is_bad s ≡ false = can.good in simp e

  -- the packet in which the section ends
  over_here : (pid : ℕ) (p : List ℕ) (past : List (List ℕ)) → payload_on pid p ≡ true → repeats pid p past ≡ false
      → packet_taken p (last_of pid past) (held pid past) ≡ record { finished = s ∷ []; part = [] } → NothingIsLeft pid past (p ∷ past)
  over_here pid p past y w u = record {
    part = original_holds pid p past (record { finished = s ∷ []; part = [] }) y w u;
    failed = original_fails pid p past (record { finished = s ∷ []; part = [] }) y w u ∙ ap (λ c. c + failed pid past) none_bad ∙ zero-add (failed pid past);
  }

  later_over : (count pid k n : ℕ) (past : List (List ℕ)) (l : Last) → pid < 8192 → n < 16 → 3 ≤ k → k < length s → count ≡ packets_for (length s - k) → held pid past ≡ take k s
      → last_of pid past ≡ Some l → n ≡ (number l.packet + 1) % 16 → NothingIsLeft pid past (onto past (later_packets count pid n (drop k s)))
  later_over zero pid k n past l pb nb a b c h e f = absurd (omega arith)
  later_over (suc count) pid k n past l pb nb a b c h e f =
      let q = next_packet pid n (drop k s) in
      let y = next_on pid n (drop k s) pb nb in
      let w = next_original pid n (drop k s) past pb nb l e f in
      let t : packet_taken q (last_of pid past) (held pid past) ≡ continued (take k s) (padded 184 (drop k s)) =
      next_taken pid n (drop k s) past pb nb l e f ∙ ap (λ x. continued x (padded 184 (drop k s))) h in
      let d : length (drop k s) ≡ length s - k = length-drop k s in
      ⊎_elim
      (λ g.
      let u = t ∙ later_large s can.whole k a b (rw d g) in
      let j : held pid (q ∷ past) ≡ take (k + 184) s = original_holds pid q past (record { finished = []; part = take (k + 184) s }) y w u in
      let i : failed pid (q ∷ past) ≡ failed pid past = original_fails pid q past (record { finished = []; part = take (k + 184) s }) y w u ∙ zero-add (failed pid past) in
      let m : (n + 1) % 16 ≡ (number q + 1) % 16 = ap (λ x. (x + 1) % 16) (sym (next_packet_number pid n (drop k s) pb nb)) in
      let r = later_over count pid (k + 184) ((n + 1) % 16) (q ∷ past) (record { packet = q; is_repeat = false }) pb (omega arith) (omega arith) (omega arith) (omega arith) j
      (next_last pid n (drop k s) past pb nb l e f) m in
      subst (λ (x : List ℕ). NothingIsLeft pid past (onto (q ∷ past) (later_packets count pid ((n + 1) % 16) x))) (sym (drop-drop 184 k s)) (over_more pid past (q ∷ past) _ i r))
      (λ g.
      let u = t ∙ later_small s can.whole k a b (rw d g) in
      let z : count ≡ 0 = omega arith in
      subst (λ (x : ℕ). NothingIsLeft pid past (onto (q ∷ past) (later_packets x pid ((n + 1) % 16) (drop 184 (drop k s))))) (sym z) (over_here pid q past y w u))
      (cases_lt 184 (length s - k))

  pub nothing_left : (pid n : ℕ) (past : List (List ℕ)) → pid < 8192 → n < 16 → repeats pid (first_packet pid n s) past ≡ false → NothingIsLeft pid past (onto past (section_packets pid n s))
  nothing_left pid n past pb nb w =
      let p = first_packet pid n s in
      let y = first_on pid n s pb nb in
      let u = unbroken p (last_of pid past) (held pid past) in
      let t : packet_taken p (last_of pid past) (held pid past) ≡ taken (padded 183 s) =
      ap (λ x. payload_taken x u (bytes p)) (first_start pid n s pb nb)
      ∙ ap (started u) (first_bytes pid n s pb nb)
      ∙ started_first u (padded 183 s) (unbroken_part p (last_of pid past) (held pid past) (held_part pid past)) in
      let d : length (drop 183 s) ≡ length s - 183 = length-drop 183 s in
      ⊎_elim
      (λ g.
      let v = t ∙ first_large s can.whole g in
      let j : held pid (p ∷ past) ≡ take 183 s = original_holds pid p past (record { finished = []; part = take 183 s }) y w v in
      let i : failed pid (p ∷ past) ≡ failed pid past = original_fails pid p past (record { finished = []; part = take 183 s }) y w v ∙ zero-add (failed pid past) in
      let m : (n + 1) % 16 ≡ (number p + 1) % 16 = ap (λ x. (x + 1) % 16) (sym (first_number pid n s pb nb)) in
      let o : last_of pid (p ∷ past) ≡ Some (record { packet = p; is_repeat = false }) = simp (y, w) in
      let c : packets_for (length (drop 183 s)) ≡ packets_for (length s - 183) = ap packets_for d in
      over_more pid past (p ∷ past) _ i
      (later_over (packets_for (length (drop 183 s))) pid 183 ((n + 1) % 16) (p ∷ past) (record { packet = p; is_repeat = false }) pb (omega arith) (omega arith) g c j o m))
      (λ g.
      let v = t ∙ first_small s can.whole g in
      let z : length (drop 183 s) ≡ 0 = omega arith in
      subst (λ (x : List (List ℕ)). NothingIsLeft pid past (onto (p ∷ past) x)) (sym (rest-none pid ((n + 1) % 16) (drop 183 s) z)) (over_here pid p past y w v))
      (cases_lt 183 (length s))

-- ---- all of them are payload packets of the PID

-- a payload packet of the PID
abbrev pub IsPayloadOn : ℕ → List ℕ → Type 0
IsPayloadOn pid p = payload_on pid p ≡ true

later_carry : (count pid n : ℕ) (bs : List ℕ) → pid < 8192 → n < 16 → AllByRecursion (IsPayloadOn pid) (later_packets count pid n bs)
later_carry zero pid n bs pb nb = tt
later_carry (suc count) pid n bs pb nb = (next_on pid n bs pb nb, later_carry count pid ((n + 1) % 16) (drop 184 bs) pb (omega arith))

pub section_carry : (pid n : ℕ) (s : List ℕ) → pid < 8192 → n < 16 → AllByRecursion (IsPayloadOn pid) (section_packets pid n s)
section_carry pid n s pb nb = (first_on pid n s pb nb, later_carry _ pid ((n + 1) % 16) (drop 183 s) pb (omega arith))

pub turn_carry : (pid n : ℕ) (ss : List (List ℕ)) → pid < 8192 → n < 16 → AllByRecursion (IsPayloadOn pid) (packets_in_turn pid n ss)
turn_carry pid n [] pb nb = tt
turn_carry pid n (s ∷ ss) pb nb =
    each-append (IsPayloadOn pid) (section_packets pid n s) (packets_in_turn pid ((n + length (section_packets pid n s)) % 16) ss) (section_carry pid n s pb nb)
    (turn_carry pid ((n + length (section_packets pid n s)) % 16) ss pb (omega arith))

-- ---- one section after another

length-later : (count pid n : ℕ) (bs : List ℕ) → length (later_packets count pid n bs) ≡ count
length-later zero pid n bs = refl
length-later (suc count) pid n bs = ap suc (length-later count pid ((n + 1) % 16) (drop 184 bs))

number_after : (a k m : ℕ) → a < 16 → m ≡ ((a + 1) % 16 + k) % 16 → m ≡ (a + suc k) % 16
number_after a k m h e = omega arith

pub number_none : (a : ℕ) → a < 16 → a ≡ (a + 0) % 16
number_none a h = omega arith

-- the last payload packet behind those in which a section goes on
later_last : (count pid n : ℕ) (bs : List ℕ) (past : List (List ℕ)) (l : Last) → pid < 8192 → n < 16 → last_of pid past ≡ Some l → n ≡ (number l.packet + 1) % 16
    → (m : Last) × (last_of pid (onto past (later_packets count pid n bs)) ≡ Some m) × (number m.packet ≡ (number l.packet + count) % 16)
later_last zero pid n bs past l pb nb e f = (l, e, number_none (number l.packet) (number-below l.packet))
later_last (suc count) pid n bs past l pb nb e f =
    let q = next_packet pid n bs in
    let k = next_packet_number pid n bs pb nb in
    let m : (n + 1) % 16 ≡ (number q + 1) % 16 = ap (λ x. (x + 1) % 16) (sym k) in
    let r = later_last count pid ((n + 1) % 16) (drop 184 bs) (q ∷ past) (record { packet = q; is_repeat = false }) pb (omega arith) (next_last pid n bs past pb nb l e f) m in
    (r.0, r.1, number_after (number l.packet) count (number r.0.packet) (number-below l.packet) (r.2 ∙ ap (λ x. (x + count) % 16) (k ∙ f)))

-- no first packet of this counter is a duplicate there
abbrev Fresh : ℕ → ℕ → List (List ℕ) → Type 0
Fresh pid n past = (s : List ℕ) → repeats pid (first_packet pid n s) past ≡ false

other_number : (a n next k : ℕ) → a ≡ (n + k) % 16 → next ≡ (n + suc k) % 16 → a ≡ next → ⊥
other_number a n next k h e f = omega arith

-- the packets of a section leave the next counter fresh
fresh_after : (pid n : ℕ) (s : List ℕ) (past : List (List ℕ)) → pid < 8192 → n < 16 → repeats pid (first_packet pid n s) past ≡ false
    → Fresh pid ((n + length (section_packets pid n s)) % 16) (onto past (section_packets pid n s))
fresh_after pid n s past pb nb w t =
    let p = first_packet pid n s in
    let y = first_on pid n s pb nb in
    let i = first_number pid n s pb nb in
    let o : last_of pid (p ∷ past) ≡ Some (record { packet = p; is_repeat = false }) = simp (y, w) in
    let count = packets_for (length (drop 183 s)) in
    let r = later_last count pid ((n + 1) % 16) (drop 183 s) (p ∷ past) (record { packet = p; is_repeat = false }) pb (omega arith) o (ap (λ x. (x + 1) % 16) (sym i)) in
    let long : length (section_packets pid n s) ≡ suc count = ap suc (length-later count pid ((n + 1) % 16) (drop 183 s)) in
    let next = (n + length (section_packets pid n s)) % 16 in
    let q = first_packet pid next t in
    let j : number q ≡ next = first_number pid next t pb (omega arith) in
    let a : number r.0.packet ≡ (n + count) % 16 = r.2 ∙ ap (λ x. (x + count) % 16) i in
    let d : alike r.0.packet q ≡ false = different r.0.packet q (λ e. other_number (number r.0.packet) n next count a (ap (λ x. (n + x) % 16) long) (e ∙ j)) in
    walk_is_last pid q (onto past (section_packets pid n s)) ∙ ap (repeats_last q) r.1 ∙ ap (λ x. x && not r.0.is_repeat) d

pub read_back_in_turn : (pid n : ℕ) (ss past : List (List ℕ)) → pid < 8192 → n < 16 → All CanBeGiven ss → ((s : List ℕ) → repeats pid (first_packet pid n s) past ≡ false)
    → sections_after past pid (packets_in_turn pid n ss) ≡ ss
read_back_in_turn pid n [] past pb nb can w = refl
read_back_in_turn pid n (s ∷ ss) past pb nb can w =
    let one = section_packets pid n s in
    let next = (n + length one) % 16 in
    sections_after-append pid past one (packets_in_turn pid next ss)
    ∙ ap (λ x. x ++ sections_after (onto past one) pid (packets_in_turn pid next ss)) (read_back s (All-head CanBeGiven s ss can) pid n past pb nb (w s))
    ∙ ap (λ x. s ∷ x) (read_back_in_turn pid next ss (onto past one) pb (omega arith) (All-tail CanBeGiven s ss can) (fresh_after pid n s past pb nb (w s)))
