-- The packets of bytes, of which a part was read.
use Rattle.std.proofs.Common.{◌≡◌, ℕ, suc, ◌+◌, ◌*◌, ◌/◌, ◌<◌, ◌≤◌, List, [], ◌∷◌, ◌++◌, Option, None, Some, IfSome, All, arith, length, take, drop, refl, sym, ap, ◌∙◌, subst, length-append, append_assoc, drop_at, length-take-le, take-append-drop}
use Rattle.std.proofs.lemmas.List.{append-nil}
use Rattle.std.proofs.lemmas.List.Elements.{All-head, All-tail, All-push, All-nil}
use Rattle.std.specs.Io.KnownBytes.{Consumes, IsAtEnd}
use Rattle.std.proofs.KnownBytes.{Consumes-trans, Consumes-nil}
use lib.Seq.{take_all, take-append-le, drop-drop}
use Rattle.ts_packet.specs.Packets.{parts, packets_of, last_part, bytes_of, packet_fault}
use Rattle.ts_packet.specs.Sources.{WasGiven, HasRead}
use Rattle.ts_packet.proofs.WritingLemmas.{bytes_of-snoc}

-- the first part, and the rest
take-first : (p rest : List ℕ) → length p ≡ 188 → take 188 (p ++ rest) ≡ p
take-first p rest h = take-append-le 188 p rest (omega arith) ∙ take_all 188 p (omega arith)

one_more : (n : ℕ) → (188 + n) / 188 ≡ suc (n / 188)
one_more n = omega arith

-- a packet at the front of bytes is the first of their packets
pub packets_of-cons : (p rest : List ℕ) → length p ≡ 188 → packets_of (p ++ rest) ≡ p ∷ packets_of rest
packets_of-cons p rest h =
    let count : length (p ++ rest) / 188 ≡ suc (length rest / 188) = ap (λ n. n / 188) (length-append p rest ∙ ap (λ n. n + length rest) h) ∙ one_more (length rest) in
    ap (λ n. parts n (p ++ rest)) count
    ∙ ap (λ l. l ∷ parts (length rest / 188) (drop 188 (p ++ rest))) (take-first p rest h)
    ∙ ap (λ l. p ∷ parts (length rest / 188) l) (drop_at p rest 188 h)

pub last_part-cons : (p rest : List ℕ) → length p ≡ 188 → last_part (p ++ rest) ≡ last_part rest
last_part-cons p rest h =
    let whole = length-append p rest in
    let n = length rest / 188 * 188 in
    let count : length (p ++ rest) / 188 * 188 ≡ 188 + n = omega arith in
    ap (λ k. drop k (p ++ rest)) count ∙ sym (drop-drop n 188 (p ++ rest)) ∙ ap (drop n) (drop_at p rest 188 h)

-- and so are several
pub packets_of-append : (ps : List (List ℕ)) (rest : List ℕ) → All (λ p. length p ≡ 188) ps → packets_of (bytes_of ps ++ rest) ≡ ps ++ packets_of rest
packets_of-append [] rest h = refl
packets_of-append (p ∷ ps) rest h =
    ap packets_of (append_assoc p (bytes_of ps) rest) ∙ packets_of-cons p (bytes_of ps ++ rest) (All-head (λ q. length q ≡ 188) p ps h) ∙ ap (λ l. p ∷ l) (packets_of-append ps rest (All-tail (λ q. length q ≡ 188) p ps h))

pub last_part-append : (ps : List (List ℕ)) (rest : List ℕ) → All (λ p. length p ≡ 188) ps → last_part (bytes_of ps ++ rest) ≡ last_part rest
last_part-append [] rest h = refl
last_part-append (p ∷ ps) rest h =
    ap last_part (append_assoc p (bytes_of ps) rest) ∙ last_part-cons p (bytes_of ps ++ rest) (All-head (λ q. length q ≡ 188) p ps h) ∙ last_part-append ps rest (All-tail (λ q. length q ≡ 188) p ps h)

-- fewer bytes than a packet has are no packet, and the last part
no_count : (n : ℕ) → n < 188 → n / 188 ≡ 0
no_count n h = omega arith

pub packets_of-short : (rest : List ℕ) → length rest < 188 → packets_of rest ≡ []
packets_of-short rest h = ap (λ n. parts n rest) (no_count (length rest) h)

pub last_part-short : (rest : List ℕ) → length rest < 188 → last_part rest ≡ rest
last_part-short rest h = ap (λ n. drop (n * 188) rest) (no_count (length rest) h)

-- packets, and then a part of one
pub packets_of-whole : (ps : List (List ℕ)) (rest : List ℕ) → All (λ p. length p ≡ 188) ps → length rest < 188 → packets_of (bytes_of ps ++ rest) ≡ ps
packets_of-whole ps rest h k = packets_of-append ps rest h ∙ ap (λ l. ps ++ l) (packets_of-short rest k) ∙ append-nil ps

pub last_part-whole : (ps : List (List ℕ)) (rest : List ℕ) → All (λ p. length p ≡ 188) ps → length rest < 188 → last_part (bytes_of ps ++ rest) ≡ rest
last_part-whole ps rest h k = last_part-append ps rest h ∙ last_part-short rest k

-- ---- a loop over a reader

-- nothing was read at first
pub read_none : (start : Option (List ℕ)) → HasRead start start []
read_none start = record { bytes = Consumes-nil start; sizes = All-nil (λ q. length q ≡ 188); sound = All-nil (λ q. packet_fault q ≡ None) }

-- one packet more was read
pub read_more : (start left left' : Option (List ℕ)) (ps : List (List ℕ)) (p : List ℕ) → HasRead start left ps → WasGiven left left' p → HasRead start left' (ps ++ p ∷ [])
read_more start left left' ps p h k = record {
  bytes = subst (Consumes start left') (sym (bytes_of-snoc ps p)) (Consumes-trans start left left' (bytes_of ps) p h.bytes k.bytes);
  sizes = All-push (λ q. length q ≡ 188) ps p h.sizes k.size;
  sound = All-push (λ q. packet_fault q ≡ None) ps p h.sound k.sound;
}

-- a part of a packet, or nothing, is left: these are all packets, and that is the last part
pub read_all : (start left : Option (List ℕ)) (ps : List (List ℕ)) → HasRead start left ps → IfSome left (λ rest. length rest < 188)
    → IfSome start (λ bs. (packets_of bs ≡ ps) × IfSome left (λ rest. last_part bs ≡ rest))
read_all None left ps h k = tt
read_all (Some bs) None ps h k = absurd h.bytes
read_all (Some bs) (Some rest) ps h k = (ap packets_of h.bytes ∙ packets_of-whole ps rest h.sizes k, ap last_part h.bytes ∙ last_part-whole ps rest h.sizes k)

at_end : (left : Option (List ℕ)) → IsAtEnd left → IfSome left (λ rest. length rest < 188)
at_end None h = tt
at_end (Some rest) h = let none : length rest ≡ 0 = ap length h in omega arith

-- nothing is left: these are all packets, and the last part is empty
pub read_to_end : (start left : Option (List ℕ)) (ps : List (List ℕ)) → HasRead start left ps → IsAtEnd left
    → IfSome start (λ bs. (packets_of bs ≡ ps) × (last_part bs ≡ []))
read_to_end None left ps h k = tt
read_to_end (Some bs) None ps h k = absurd h.bytes
read_to_end (Some bs) (Some rest) ps h k = let all = read_all (Some bs) (Some rest) ps h (at_end (Some rest) k) in (all.0, all.1 ∙ k)

-- these, and then more packets: the first of them is the next 188 bytes
pub read_before : (start left : Option (List ℕ)) (ps : List (List ℕ)) → HasRead start left ps → IfSome left (λ rest. 188 ≤ length rest)
    → IfSome start (λ bs. IfSome left (λ rest. packets_of bs ≡ ps ++ take 188 rest ∷ packets_of (drop 188 rest)))
read_before None left ps h k = tt
read_before (Some bs) None ps h k = absurd h.bytes
read_before (Some bs) (Some rest) ps h k =
    let size : length (take 188 rest) ≡ 188 = length-take-le 188 rest k in
    ap packets_of h.bytes ∙ packets_of-append ps rest h.sizes
    ∙ ap (λ l. ps ++ l) (ap packets_of (sym (take-append-drop 188 rest)) ∙ packets_of-cons (take 188 rest) (drop 188 rest) size)
