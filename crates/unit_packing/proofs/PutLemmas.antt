-- Packets of a unit put one by one.
use Rattle.std.proofs.Common.{◌≡◌, ℕ, ◌+◌, ◌-◌, ◌%◌, ◌<◌, ◌≤◌, List, [], ◌∷◌, ◌++◌, None, Result, Ok, Err, refl, sym, ap, ◌∙◌, arith, length, take, drop, min, append_assoc, true, false, Bool, slice_index}
use Rattle.std.specs.Result.{IfErr}
use Rattle.std.proofs.lemmas.List.{length-drop, length-take, drop-drop, append-nil}
use Rattle.ts_packet.specs.Filling.{packets_for}
use Rattle.ts_packet.specs.Numbering.{Step, Inserted, Counts}
use Rattle.ts_packet.specs.declared.counter.Counter.{Counter}
use Rattle.ts_packet.specs.Packets.{packet_fault}
use Rattle.unit_stream.specs.UnitPackets.{put_in}
use Rattle.ts_packet.proofs.FillingLemmas.{drop-min, take-min, count-more}
use Rattle.unit_packing.specs.Packing.{room, unit_packet, later_unit_packets, rest_unit_packets, unit_packets}
use Rattle.unit_packing.specs.Putting.{next_number, UnitPutFails}
use borrow.Rule.Slice.PartMut.{put_mid}
use Rattle.pes_time.specs.declared.head.PesHead.{PesHead}
use Rattle.pes_time.specs.Stamps.{head_of, is_split, restamped}
use Rattle.pes_time.proofs.ReadLemmas.{restamp_moves_alone}
use Rattle.unit_packing.proofs.PacketLemmas.{part_behind, part_rewritten}
use Rattle.unit_packing.proofs.SaidLemmas.{said}
use Rattle.unit_packing.proofs.UnitPacketLemmas.{room_182, room_184}
use Rattle.unit_packing.proofs.StampLemmas.{first_moved, rest_same, same_head, read_whole}
use lib.Seq.{take_all}

pub put_in-more : (qs : List (List ℕ)) (q : List ℕ) (steps : List Step) → put_in (qs ++ q ∷ []) steps ≡ Inserted ∷ put_in qs steps
put_in-more [] q steps = refl
put_in-more (p ∷ qs) q steps = put_in-more qs q (Inserted ∷ steps)

pub rest-none : (pid n : ℕ) (bs : List ℕ) → length bs ≡ 0 → rest_unit_packets pid n bs ≡ []
rest-none pid n bs h = ap (λ k. later_unit_packets (packets_for k) pid n bs) h

pub rest-more : (pid n : ℕ) (bs : List ℕ) → 0 < length bs → rest_unit_packets pid n bs ≡ unit_packet pid n false false (take 184 bs) ∷ rest_unit_packets pid ((n + 1) % 16) (drop 184 bs)
rest-more pid n bs h =
    ap (λ k. later_unit_packets k pid n bs) (count-more (length bs) h)
    ∙ ap (λ k. unit_packet pid n false false (take 184 bs) ∷ later_unit_packets (packets_for k) pid ((n + 1) % 16) (drop 184 bs)) (sym (length-drop 184 bs))

-- no fault in a packet of a unit
pub no_fault : (pid n : ℕ) (start access : Bool) (part p : List ℕ) → p ≡ unit_packet pid n start access part → pid < 8192 → n < 16 → length part ≤ 184 → 0 < length part → packet_fault p ≡ None
no_fault pid n start access part p e h k m z = ap packet_fault e ∙ (said pid n start access part h k m z).sound

module _ (pid n0 n at next : ℕ) (bs packet : List ℕ) (put : List (List ℕ)) (steps : List Step) (within : at < length bs)
    (least : next ≡ min (length bs) (at + 184)) (made : packet ≡ unit_packet pid n false false (take (next - at) (drop at bs)))
    (so_far : rest_unit_packets pid n0 bs ≡ put ++ rest_unit_packets pid (next_number (put_in put steps)) (drop at bs)) (numbered : n ≡ next_number (put_in put steps)) where
  part_is : take (next - at) (drop at bs) ≡ take 184 (drop at bs)
  part_is = take-min 184 (next - at) (drop at bs) (rw (length-drop at bs) (omega (arith, least)))

  pub one_put : rest_unit_packets pid n0 bs ≡ put ++ packet ∷ rest_unit_packets pid ((n + 1) % 16) (drop 184 (drop at bs))
  one_put =
      let l : 0 < length (drop at bs) = rw (length-drop at bs) (omega arith) in
      so_far ∙ ap (λ x. put ++ rest_unit_packets pid x (drop at bs)) (sym numbered)
      ∙ ap (λ x. put ++ x) (rest-more pid n (drop at bs) l ∙ ap (λ x. x ∷ rest_unit_packets pid ((n + 1) % 16) (drop 184 (drop at bs))) (sym (made ∙ ap (unit_packet pid n false false) part_is)))

  pub one_more_put : rest_unit_packets pid n0 bs ≡ (put ++ packet ∷ []) ++ rest_unit_packets pid (next_number (put_in (put ++ packet ∷ []) steps)) (drop next bs)
  one_more_put =
      let d : drop next bs ≡ drop 184 (drop at bs) = ap (λ x. drop x bs) least ∙ drop-min (at + 184) bs ∙ sym (drop-drop 184 at bs) in
      let e : next_number (put_in (put ++ packet ∷ []) steps) ≡ (n + 1) % 16 = ap next_number (put_in-more put packet steps) ∙ ap (λ x. (x + 1) % 16) (sym numbered) in
      one_put ∙ sym (append_assoc put (packet ∷ []) (rest_unit_packets pid (next_number (put_in (put ++ packet ∷ []) steps)) (drop next bs))
      ∙ ap (λ x. put ++ packet ∷ x) (ap (λ x. rest_unit_packets pid x (drop next bs)) e ∙ ap (rest_unit_packets pid ((n + 1) % 16)) d))

pub part_fits : (at next : ℕ) (bs : List ℕ) → at < length bs → next ≡ min (length bs) (at + 184) → (length (take (next - at) (drop at bs)) ≤ 184) × (0 < length (take (next - at) (drop at bs)))
part_fits at next bs h e =
    let l : length (take (next - at) (drop at bs)) ≡ min (next - at) (length bs - at) = length-take (next - at) (drop at bs) ∙ ap (min (next - at)) (length-drop at bs) in
    (rw l (omega (arith, e)), rw l (omega (arith, e)))

pub counted_more : (counter : Counter) (put : List (List ℕ)) (packet : List ℕ) (steps : List Step) → Counts counter (Inserted ∷ put_in put steps) → Counts counter (put_in (put ++ packet ∷ []) steps)
counted_more counter put packet steps h = rw (put_in-more put packet steps) h

pub rest_done : (pid n m at : ℕ) (bs : List ℕ) (put : List (List ℕ)) → length bs ≤ at → rest_unit_packets pid n bs ≡ put ++ rest_unit_packets pid m (drop at bs) → rest_unit_packets pid n bs ≡ put
rest_done pid n m at bs put h e = e ∙ ap (λ x. put ++ x) (rest-none pid m (drop at bs) (length-drop at bs ∙ omega arith)) ∙ append-nil put

-- the last packet, of fewer bytes
pub last_put : (pid n0 n at : ℕ) (bs packet : List ℕ) (put : List (List ℕ)) (steps : List Step) → at < length bs → length bs - at < 184 → packet ≡ unit_packet pid n false false (take (length bs - at) (drop at bs))
    → rest_unit_packets pid n0 bs ≡ put ++ rest_unit_packets pid (next_number (put_in put steps)) (drop at bs) → n ≡ next_number (put_in put steps) → rest_unit_packets pid n0 bs ≡ put ++ packet ∷ []
last_put pid n0 n at bs packet put steps within few made so_far numbered =
    rest_done pid n0 (next_number (put_in (put ++ packet ∷ []) steps)) (length bs) bs (put ++ packet ∷ []) (omega arith)
    (one_more_put pid n0 n at (length bs) bs packet put steps within (omega arith) made so_far numbered)

pub same_counts : (a b : Counter) (steps : List Step) → a ≡ b → Counts b steps → Counts a steps
same_counts a b steps e h = rw e h

pub if_err_both : {T E : Type 0} {P Q R : E → Type 0} (r : Result T E) → ((e : E) → P e → Q e → R e) → IfErr r P → IfErr r Q → IfErr r R
if_err_both (Ok x) f h k = h
if_err_both (Err e) f h k = f e h k

pub fails_because : (counter : Counter) (steps : List Step) (packets put : List (List ℕ)) (packet : List ℕ) (left : List (List ℕ)) (F : List (List ℕ) → List ℕ → Type 0)
    → packets ≡ put ++ packet ∷ left → F put packet → Counts counter (put_in put steps) → UnitPutFails counter steps packets F
fails_because counter steps packets put packet left F e f h = record { put = put; packet = packet; left = left; all = e; fault = f; counted = h }

-- ---- a unit whole: its first packet, and the rest

pub fails_more : (counter : Counter) (steps : List Step) (first : List ℕ) (rest all : List (List ℕ)) (F G : List (List ℕ) → List ℕ → Type 0) → all ≡ first ∷ rest
    → ((put : List (List ℕ)) (p : List ℕ) → F put p → G (first ∷ put) p) → UnitPutFails counter (Inserted ∷ steps) rest F → UnitPutFails counter steps all G
fails_more counter steps first rest all F G e f k = record {
  put = first ∷ k.put;
  packet = k.packet;
  left = k.left;
  all = e ∙ ap (λ x. first ∷ x) k.all;
  fault = f k.put k.packet k.fault;
  counted = k.counted;
}

-- the first packet's part
pub first_fits : (access : Bool) (r size : ℕ) (bs : List ℕ) → r ≡ room access → size ≡ min (length bs) r → 0 < length bs → (size ≡ length (take size bs)) × (0 < size) × (size ≤ 184)
first_fits access r size bs e f h =
    let a = room_184 access in
    let b = room_182 access in
    (sym (length-take size bs ∙ omega (arith, f)), omega (arith, e, f, b), omega (arith, e, f, a))

module _ (pid n r size : ℕ) (access : Bool) (bs first : List ℕ) (steps : List Step) (rooms : r ≡ room access) (least : size ≡ min (length bs) r) (numbered : n ≡ next_number steps) where
  abbrev behind : List ℕ
  behind = take (length bs - size) (drop size bs)

  least_room : size ≡ min (length bs) (room access)
  least_room = least ∙ ap (min (length bs)) rooms

  behind_is : behind ≡ drop (room access) bs
  behind_is = take_all (length bs - size) (drop size bs) (rw (length-drop size bs) (omega arith)) ∙ ap (λ x. drop x bs) least_room ∙ drop-min (room access) bs

  part_of : take size bs ≡ take (room access) bs
  part_of = take-min (room access) size bs least_room

  pub whole_put : first ≡ unit_packet pid n true access (take size bs) → unit_packets pid access (next_number steps) bs ≡ first ∷ rest_unit_packets pid (next_number (Inserted ∷ steps)) behind
  whole_put made =
      ap (λ x. x ∷ rest_unit_packets pid (next_number (Inserted ∷ steps)) (drop (room access) bs)) (sym (made ∙ ap (λ x. unit_packet pid x true access (take size bs)) numbered ∙ ap (unit_packet pid (next_number steps) true access) part_of))
      ∙ ap (λ x. first ∷ rest_unit_packets pid (next_number (Inserted ∷ steps)) x) (sym behind_is)

  pub whole_moved : (delta : ℕ) → slice_index bs 7 < 256 → is_split bs ≡ false → first ≡ unit_packet pid n true access (restamped (take size bs) delta)
      → unit_packets pid access (next_number steps) (restamped bs delta) ≡ first ∷ rest_unit_packets pid (next_number (Inserted ∷ steps)) behind
  whole_moved delta byte whole made =
      let f = first_moved access bs delta byte whole in
      let m = rest_same access bs delta byte whole in
      ap (λ x. unit_packet pid (next_number steps) true access x ∷ rest_unit_packets pid (next_number (Inserted ∷ steps)) (drop (room access) (restamped bs delta))) f
      ∙ ap (λ x. unit_packet pid (next_number steps) true access (restamped (take (room access) bs) delta) ∷ rest_unit_packets pid (next_number (Inserted ∷ steps)) x) (m ∙ sym behind_is)
      ∙ ap (λ x. x ∷ rest_unit_packets pid (next_number (Inserted ∷ steps)) behind) (sym (made ∙ ap (λ x. unit_packet pid x true access (restamped (take size bs) delta)) numbered ∙ ap (λ x. unit_packet pid (next_number steps) true access (restamped x delta)) part_of))

-- ---- the first packet of a moved unit

module _ (pid n size r : ℕ) (access : Bool) (bs raw : List ℕ) (rooms : r ≡ room access) (least : size ≡ min (length bs) r) (some : 0 < length bs)
    (made : raw ≡ unit_packet pid n true access (take size bs)) where
  abbrev fit : (size ≡ length (take size bs)) × (0 < size) × (size ≤ 184)
  fit = first_fits access r size bs rooms least some

  pub part_head : (head : PesHead) → slice_index bs 7 < 256 → head_of bs ≡ Ok head → head_of (take (188 - (188 - size)) (drop (188 - size) raw)) ≡ Ok head
  part_head head byte h =
      ap head_of (part_behind pid n true access size raw (take size bs) made fit.0 fit.2)
      ∙ ap head_of (take-min (room access) size bs (least ∙ ap (min (length bs)) rooms)) ∙ same_head access bs byte (read_whole bs head h) ∙ h

  pub moved_part : (delta : ℕ) (ys : List ℕ) → ys ≡ restamped (take (188 - (188 - size)) (drop (188 - size) raw)) delta
      → put_mid (188 - size) (188 - (188 - size)) raw ys ≡ unit_packet pid n true access (restamped (take size bs) delta)
  moved_part delta ys e =
      let f : ys ≡ restamped (take size bs) delta = e ∙ ap (λ x. restamped x delta) (part_behind pid n true access size raw (take size bs) made fit.0 fit.2) in
      part_rewritten pid n true access size raw (take size bs) made fit.0 fit.2 ys (ap length f ∙ (restamp_moves_alone (take size bs) delta).size)
      ∙ ap (unit_packet pid n true access) f

pub moved_fits : (size r delta : ℕ) (access : Bool) (bs : List ℕ) → r ≡ room access → size ≡ min (length bs) r → 0 < length bs
    → (length (restamped (take size bs) delta) ≤ 184) × (0 < length (restamped (take size bs) delta))
moved_fits size r delta access bs rooms least some =
    let f = first_fits access r size bs rooms least some in
    let s = (restamp_moves_alone (take size bs) delta).size in
    (omega (arith, f.0, f.2, s), omega (arith, f.0, f.1, s))
