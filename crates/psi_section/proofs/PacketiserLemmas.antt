-- The packets of a section.
use Rattle.std.proofs.Common.{◌≡◌, ℕ, suc, ◌+◌, ◌-◌, ◌/◌, ◌%◌, ◌<◌, ◌≤◌, List, [], ◌∷◌, ◌++◌, true, ◌==◌, None, refl, sym, ap, ◌∙◌, arith, length, take, drop, min, slice_index, replicate, length-append, append_assoc}
use Rattle.ts_packet.proofs.FillingLemmas.{drop-min, take-min, count-more}
use Rattle.psi_section.specs.declared.packetiser.Packetiser.{Packetiser}
use Rattle.std.proofs.lemmas.Bool.{eq-eqb}
use Rattle.std.proofs.lemmas.List.{drop-replicate, length-drop, drop-drop}
use Rattle.std.proofs.lemmas.Slice.{between_to_end}
use Rattle.std.proofs.Math.Nat.{le_refl}
use Rattle.std.specs.Prelude.{slice_set}
use borrow.Rule.Slice.PartMut.{put_mid}
use Rattle.ts_packet.specs.Filling.{packets_for}
use Rattle.ts_packet.specs.Fields.{in_error}
use Rattle.ts_packet.specs.Packets.{packet_fault}
use Rattle.ts_packet.proofs.Cases.{by_test}
use Rattle.psi_section.specs.Packetising.{Puts, PutsAfter, PutFails, padded, first_packet, next_packet, later_packets, rest_packets, section_packets}

pub no_fault : (p : List ℕ) → slice_index p 0 ≡ 71 → slice_index p 3 / 16 % 4 ≡ 1 → packet_fault p ≡ None
unfolding packet_fault
no_fault p s a =
    let t : (slice_index p 0 == 71) ≡ true = eq-eqb (slice_index p 0) 71 s in
    by_test (in_error p) (λ e. simp (t, e)) (λ e. simp (t, e, a))

left_over : (room k : ℕ) (s : List ℕ) → k ≡ min (length s) room → room - k ≡ room - length s
left_over room k s h = omega arith

pub filled : (room k : ℕ) (ys s : List ℕ) → ys ≡ take k s → k ≡ min (length s) room → ys ++ drop k (replicate room 0xFF) ≡ padded room s
filled room k ys s e h =
    ap (λ l. l ++ drop k (replicate room 0xFF)) (e ∙ take-min room k s h) ∙ ap (λ l. take room s ++ l) (drop-replicate k room 0xFF ∙ ap (λ n. replicate n 0xFF) (left_over room k s h))

pub next_made : (h ys s : List ℕ) (pid n k : ℕ) → h ≡ 0x47 ∷ (pid / 256) ∷ pid % 256 ∷ (16 + n) ∷ replicate 184 0xFF → ys ≡ take k s → k ≡ min (length s) 184
    → put_mid 4 (4 + k - 4) h ys ≡ next_packet pid n s
next_made h ys s pid n k e t m =
    let j : 4 + k - 4 ≡ k = omega arith in
    ap (λ l. put_mid 4 (4 + k - 4) l ys) e
    ∙ ap (λ i. put_mid 4 i (0x47 ∷ (pid / 256) ∷ pid % 256 ∷ (16 + n) ∷ replicate 184 0xFF) ys) j
    ∙ ap (λ l. 0x47 ∷ (pid / 256) ∷ pid % 256 ∷ (16 + n) ∷ l) (filled 184 k ys s t m)

pub first_made : (h ys s : List ℕ) (pid n k : ℕ) → h ≡ 0x47 ∷ (pid / 256) ∷ pid % 256 ∷ (16 + n) ∷ replicate 184 0xFF → ys ≡ take k s → k ≡ min (length s) 183
    → put_mid 5 (5 + k - 5) (slice_set (slice_set h 1 (slice_index h 1 + 64)) 4 0) ys ≡ first_packet pid n s
first_made h ys s pid n k e t m =
    let j : 5 + k - 5 ≡ k = omega arith in
    ap (λ l. put_mid 5 (5 + k - 5) (slice_set (slice_set l 1 (slice_index l 1 + 64)) 4 0) ys) e
    ∙ ap (λ i. put_mid 5 i (0x47 ∷ (pid / 256 + 64) ∷ pid % 256 ∷ (16 + n) ∷ 0 ∷ replicate 183 0xFF) ys) j
    ∙ ap (λ l. 0x47 ∷ (pid / 256 + 64) ∷ pid % 256 ∷ (16 + n) ∷ 0 ∷ l) (filled 183 k ys s t m)

-- ---- the packets behind the first

pub rest-none : (pid n : ℕ) (bs : List ℕ) → length bs ≡ 0 → rest_packets pid n bs ≡ []
rest-none pid n bs h = ap (λ k. later_packets (packets_for k) pid n bs) h

pub fits_one : (pid n : ℕ) (s : List ℕ) → length s ≤ 183 → section_packets pid n s ≡ first_packet pid n s ∷ []
fits_one pid n s h =
    let d : length (drop 183 s) ≡ length s - 183 = length-drop 183 s in
    let z : length (drop 183 s) ≡ 0 = omega arith in
    ap (λ l. first_packet pid n s ∷ l) (rest-none pid ((n + 1) % 16) (drop 183 s) z)

pub rest-more : (pid n : ℕ) (bs : List ℕ) → 0 < length bs → rest_packets pid n bs ≡ next_packet pid n bs ∷ rest_packets pid ((n + 1) % 16) (drop 184 bs)
rest-more pid n bs h =
    ap (λ k. later_packets k pid n bs) (count-more (length bs) h)
    ∙ ap (λ k. next_packet pid n bs ∷ later_packets (packets_for k) pid ((n + 1) % 16) (drop 184 bs)) (sym (length-drop 184 bs))

module _ (p0 n0 q n at : ℕ) (bs packet : List ℕ) (put : List (List ℕ)) (within : at < length bs)
    (so_far : rest_packets p0 n0 bs ≡ put ++ rest_packets p0 n (drop at bs)) (same : q ≡ p0) (made : packet ≡ next_packet q n (take (length bs - at) (drop at bs))) where
  whole_rest : take (length bs - at) (drop at bs) ≡ drop at bs
  whole_rest = between_to_end bs at (length bs) (le_refl (length bs))

  pub one_put : rest_packets p0 n0 bs ≡ put ++ packet ∷ rest_packets p0 ((n + 1) % 16) (drop 184 (drop at bs))
  one_put =
      let l : 0 < length (drop at bs) = rw (length-drop at bs) (omega arith) in
      so_far ∙ ap (λ x. put ++ x) (rest-more p0 n (drop at bs) l ∙ ap (λ x. x ∷ rest_packets p0 ((n + 1) % 16) (drop 184 (drop at bs))) (sym (made ∙ ap (next_packet q n) whole_rest ∙ ap (λ x. next_packet x n (drop at bs)) same)))

  pub one_more_put : (m next : ℕ) → m ≡ (n + 1) % 16 → next ≡ min (length bs) (at + 184) → rest_packets p0 n0 bs ≡ (put ++ packet ∷ []) ++ rest_packets p0 m (drop next bs)
  one_more_put m next e f =
      let d : drop next bs ≡ drop 184 (drop at bs) = ap (λ x. drop x bs) f ∙ drop-min (at + 184) bs ∙ sym (drop-drop 184 at bs) in
      one_put ∙ sym (append_assoc put (packet ∷ []) (rest_packets p0 m (drop next bs)) ∙ ap (λ x. put ++ packet ∷ x) (ap (λ x. rest_packets p0 m x) d ∙ ap (λ x. rest_packets p0 x (drop 184 (drop at bs))) e))

pub counted_more : (n0 n m : ℕ) (put : List (List ℕ)) (packet : List ℕ) → n ≡ (n0 + length put) % 16 → m ≡ (n + 1) % 16 → m ≡ (n0 + length (put ++ packet ∷ [])) % 16
counted_more n0 n m put packet h k = rw (length-append put (packet ∷ [])) (omega arith)

-- ---- a section whole

-- the PID and the counter go on behind one packet
abbrev Puts' : ℕ → ℕ → ℕ → ℕ → Type 0
Puts' q n p0 n0 = (q ≡ p0) × (n ≡ (n0 + 1) % 16)

more_mod : (n n0 k all : ℕ) → n ≡ (n0 + 1) % 16 → all ≡ suc k → (n + k) % 16 ≡ (n0 + all) % 16
more_mod n n0 k all h e = omega arith

module _ (p0 n0 q n m : ℕ) (s : List ℕ) (first : List ℕ) (made : first ≡ first_packet p0 n0 s) (least : m ≡ min (length s) 183) (goes_on : Puts' q n p0 n0) where
  rest_of : take (length s - m) (drop m s) ≡ drop 183 s
  rest_of = between_to_end s m (length s) (le_refl (length s)) ∙ ap (λ x. drop x s) least ∙ drop-min 183 s

  pub whole_put : section_packets p0 n0 s ≡ first ∷ rest_packets q n (take (length s - m) (drop m s))
  whole_put =
      sym (ap (λ x. x ∷ rest_packets q n (take (length s - m) (drop m s))) made
      ∙ ap (λ x. first_packet p0 n0 s ∷ rest_packets q n x) rest_of
      ∙ ap (λ x. first_packet p0 n0 s ∷ rest_packets x n (drop 183 s)) goes_on.0
      ∙ ap (λ x. first_packet p0 n0 s ∷ rest_packets p0 x (drop 183 s)) goes_on.1)

  pub whole_behind : (ps : List (List ℕ)) → (ps ++ first ∷ []) ++ rest_packets q n (take (length s - m) (drop m s)) ≡ ps ++ section_packets p0 n0 s
  whole_behind ps = append_assoc ps (first ∷ []) (rest_packets q n (take (length s - m) (drop m s))) ∙ ap (λ x. ps ++ x) (sym whole_put)

pub puts_more : (old mid new : Packetiser) (first : List ℕ) (rest all : List (List ℕ)) → Puts mid old.pid ((old.counter + 1) % 16) → all ≡ first ∷ rest
    → PutsAfter new mid (length rest) → PutsAfter new old (length all)
puts_more old mid new first rest all h e k = record {
  same_pid = k.same_pid ∙ h.same_pid;
  upcoming = k.upcoming ∙ more_mod mid.counter old.counter (length rest) (length all) h.upcoming (ap length e);
}

pub fails_more : (old mid new : Packetiser) (first : List ℕ) (rest all : List (List ℕ)) (F G : List (List ℕ) → List ℕ → Type 0)
    → Puts mid old.pid ((old.counter + 1) % 16) → all ≡ first ∷ rest → ((put : List (List ℕ)) (p : List ℕ) → F put p → G (first ∷ put) p)
    → PutFails mid new rest F → PutFails old new all G
fails_more old mid new first rest all F G h e f k = record {
  put = first ∷ k.put;
  packet = k.packet;
  left = k.left;
  all = e ∙ ap (λ x. first ∷ x) k.all;
  fault = f k.put k.packet k.fault;
  counted = puts_more old mid new first k.put (first ∷ k.put) h refl k.counted;
}
