-- A text of lines, of which a line was read, or to which one was written.
use Rattle.std.proofs.Common.{◌≡◌, ℕ, suc, ◌+◌, ◌*◌, ◌/◌, ◌-◌, ◌<◌, ◌≤◌, ◌||◌, ◌&&◌, inl, inr, List, [], ◌∷◌, ◌++◌, Option, None, Some, IfSome, Bool, true, false, arith, length, take, drop, refl, sym, ap, ◌∙◌, subst, append_assoc, nat_eq, slice_index, slice_set, get_or, if◌then◌else◌, length-take-le, drop_at, length-append, length-drop}
use Rattle.std.proofs.lemmas.List.{append-nil, drop_all}
use Rattle.std.proofs.Math.Nat.{eq-or-lt_of_le}
use Rattle.std.proofs.Math.Seq.{drop-cons, set-append_seam}
use Rattle.std.specs.Io.KnownBytes.{Consumes, Appends, IsAtEnd}
use lib.Seq.{take_all, take-append-le}
use Rattle.ts_packet.specs.Packets.{packet_fault, or_fault}
use Rattle.std.specs.Prelude.{option_map, Ok, Err, ◌⊎◌, nat_lt}
use Rattle.ts_packet.specs.Sources.{WasGiven, ReadSo}
use Rattle.ts_packet.specs.declared.tally.Tally.{Tally}
use Rattle.ts_packet.proofs.Cases.{by_test}
use Rattle.ts_packet.specs.Transfers.{Filled, WentWell, LastMovedNone}
use Rattle.ts_packet.specs.declared.packet.PacketFault.{PacketFault}
use Rattle.ts_packet.proofs.WritingLemmas.{appended}
use Rattle.hex_digits.specs.Digits.{spelled, byte_before, digit_value, digits_of}
use Rattle.hex_digits.proofs.DigitLemmas.{length-digits_of}
use Rattle.hex_digits.proofs.ReadBackLemmas.{spelled-digits_of}
use Rattle.std.specs.Prelude.{All}
use Rattle.packet_lines.specs.Lines.{line_of, lines_of}
use Rattle.packet_lines.specs.Texts.{packet_in, line_before, lines_told, bytes_told, left_in, judged, WrittenLines, FailsToWriteLine}

-- the last character of a whole line
pub one_left : (line : List ℕ) → length line ≡ 377 → drop 376 line ≡ get_or line 376 0 ∷ []
one_left line size = drop-cons line 376 0 (omega (arith, size)) ∙ ap (λ l. get_or line 376 0 ∷ l) (drop_all 377 line (omega (arith, size)))

-- ---- lines written

-- the digits of a packet, and then the line's end
pub line_ended : (line packet : List ℕ) → length packet ≡ 188 → length line ≡ 377 →
    slice_set (take (2 * 0) line ++ digits_of packet ++ drop (2 * (0 + length packet)) line) 376 10 ≡ line_of packet
line_ended line packet size line_size =
    let digits : length (digits_of packet) ≡ 376 = length-digits_of packet ∙ omega (arith, size) in
    let at : 2 * (0 + length packet) ≡ 376 = omega (arith, size) in
    let last : drop 376 line ≡ get_or line 376 0 ∷ [] = one_left line line_size in
    ap (λ l. slice_set (digits_of packet ++ l) 376 10) (ap (λ k. drop k line) at ∙ last)
    ∙ ap (λ k. slice_set (digits_of packet ++ get_or line 376 0 ∷ []) k 10) (sym digits)
    ∙ set-append_seam (digits_of packet) (get_or line 376 0) [] 10

lines_more : (ps : List (List ℕ)) (p : List ℕ) → lines_of (ps ++ p ∷ []) ≡ lines_of ps ++ line_of p
lines_more [] p = append-nil (line_of p)
lines_more (q ∷ ps) p = ap (λ l. line_of q ++ l) (lines_more ps p) ∙ sym (append_assoc (line_of q) (lines_of ps) (line_of p))

pub written_more : (a b start : Option (List ℕ)) (ps : List (List ℕ)) (p : List ℕ) → WrittenLines a start ps → Appends a b (line_of p) → WrittenLines b start (ps ++ p ∷ [])
written_more a b None ps p h k = tt
written_more a b (Some text) ps p h k = appended a b _ _ h k ∙ ap Some (append_assoc text (lines_of ps) (line_of p) ∙ ap (λ l. text ++ l) (sym (lines_more ps p)))

pub written_part : (a b start : Option (List ℕ)) (ps : List (List ℕ)) (p : List ℕ) (n : ℕ) → WrittenLines a start ps → Appends a b (take n (line_of p)) → FailsToWriteLine b start ps p
written_part a b None ps p n h k = (n, tt)
written_part a b (Some text) ps p n h k = (n, appended a b _ _ h k ∙ ap Some (append_assoc text (lines_of ps) (take n (line_of p))))

-- ---- lines read

-- a spelled text has two digits for each byte
size_before : (high low : Option ℕ) (more : Option (List ℕ)) (n : ℕ) (bytes : List ℕ) → IfSome more (λ rest. 2 * length rest ≡ n) → byte_before high low more ≡ Some bytes → 2 * length bytes ≡ suc (suc n)
size_before None low more n bytes h e = absurd (cc)
size_before (Some a) None more n bytes h e = absurd (cc)
size_before (Some a) (Some b) None n bytes h e = absurd (cc)
size_before (Some a) (Some b) (Some rest) n bytes h e = let f : (16 * a + b) ∷ rest ≡ bytes = cc in rw (← f) (omega (arith, h))

spelled_size : (text : List ℕ) → IfSome (spelled text) (λ bytes. 2 * length bytes ≡ length text)
spelled_size [] = refl
spelled_size (a ∷ []) = tt
spelled_size (a ∷ b ∷ rest) = of_option (byte_before (digit_value a) (digit_value b) (spelled rest)) (λ bytes e. size_before (digit_value a) (digit_value b) (spelled rest) (length rest) bytes (spelled_size rest) e)
  where
    of_option : {P : List ℕ → Type 0} (o : Option (List ℕ)) → ((bytes : List ℕ) → o ≡ Some bytes → P bytes) → IfSome o P
    of_option None f = tt
    of_option (Some bytes) f = f bytes refl

packet_size : (sized : Bool) (line p : List ℕ) → (sized ≡ true → 376 ≤ length line) → (if sized then spelled (take 376 line) else None) ≡ Some p → length p ≡ 188
packet_size false line p h e = absurd (cc)
packet_size true line p h e = let two = some_of (spelled (take 376 line)) p (spelled_size (take 376 line)) e in let long = length-take-le 376 line (h refl) in omega arith
  where
    some_of : (o : Option (List ℕ)) (p : List ℕ) → IfSome o (λ bytes. 2 * length bytes ≡ length (take 376 line)) → o ≡ Some p → 2 * length p ≡ length (take 376 line)
    some_of None p h e = absurd (cc)
    some_of (Some q) p h e = let f : q ≡ p = cc in rw (← f) h

sized_long : (a b c : Bool) (n : ℕ) → nat_eq n 376 ≡ a → nat_eq n 377 ≡ b → (a || (b && c)) ≡ true → 376 ≤ n
sized_long true b c n h k e = grind (arith, h)
sized_long false true c n h k e = grind (arith, k)
sized_long false false c n h k e = absurd (cc)

-- a packet's line spells 188 bytes
pub packet_in_size : (line p : List ℕ) → packet_in line ≡ Some p → length p ≡ 188
packet_in_size line p e = packet_size (nat_eq (length line) 376 || (nat_eq (length line) 377 && nat_eq (slice_index line 376) 10)) line p
    (sized_long (nat_eq (length line) 376) (nat_eq (length line) 377) (nat_eq (slice_index line 376) 10) (length line) refl refl) e

pub told_nothing : bytes_told [] ≡ []
unfolding bytes_told
told_nothing = refl

count_more : (n : ℕ) → 0 < n → (n + 376) / 377 ≡ suc ((n - 377 + 376) / 377)
count_more n h = omega arith

-- a line's bytes, and then those of the text behind it
pub told_step : (text : List ℕ) → 0 < length text → bytes_told text ≡ line_before (packet_in (take 377 text)) (bytes_told (drop 377 text))
unfolding bytes_told
told_step text h =
    let count : (length text + 376) / 377 ≡ suc ((length (drop 377 text) + 376) / 377) = count_more (length text) h ∙ ap (λ k. suc ((k + 376) / 377)) (sym (length-drop 377 text)) in
    ap (λ k. lines_told k text) count

-- what was read is the text's first line, and what is left stands behind it
record FirstLine (xs ys line : List ℕ) : Type 0 where
  pub front : take 377 xs ≡ line
  pub rest : drop 377 xs ≡ ys
  pub some : 0 < length xs

first_line : (xs ys buf : List ℕ) (n : ℕ) → length buf ≡ 377 → 0 < n → Filled (Some xs) (Some ys) buf n → FirstLine xs ys (take n buf)
first_line xs ys buf n size some h =
    let part : length (take n buf) ≡ n = length-take-le n buf h.fits in
    let whole : length xs ≡ n + length ys = ap length h.bytes ∙ length-append (take n buf) ys ∙ ap (λ k. k + length ys) part in
    elim (eq-or-lt_of_le h.fits) [
      | inl e ↦ record {
        front = ap (take 377) h.bytes ∙ take-append-le 377 (take n buf) ys (omega (arith, part, e, size)) ∙ take_all 377 (take n buf) (omega (arith, part, e, size));
        rest = ap (drop 377) h.bytes ∙ drop_at (take n buf) ys 377 (part ∙ e ∙ size);
        some = omega (arith, whole, some);
      }
      | inr below ↦ record {
        front = take_all 377 xs (omega (arith, whole, below, size, ap length (h.end below))) ∙ h.bytes ∙ ap (λ l. take n buf ++ l) (h.end below) ∙ append-nil (take n buf);
        rest = drop_all 377 xs (omega (arith, whole, below, size, ap length (h.end below))) ∙ sym (h.end below);
        some = omega (arith, whole, some);
      }
    ]

-- the bytes of a text whose first line was read
told_read : (xs ys buf : List ℕ) (n : ℕ) → length buf ≡ 377 → 0 < n → Filled (Some xs) (Some ys) buf n → bytes_told xs ≡ line_before (packet_in (take n buf)) (bytes_told ys)
told_read xs ys buf n size some h =
    let f = first_line xs ys buf n size some h in
    told_step xs f.some ∙ ap (λ l. line_before (packet_in l) (bytes_told (drop 377 xs))) f.front ∙ ap (λ r. line_before (packet_in (take n buf)) (bytes_told r)) f.rest

left_by : (ended : Bool) (ys : List ℕ) → (ended ≡ true → ys ≡ []) → left_in ended (Some ys) ≡ Some (bytes_told ys)
left_by true ys h = ap Some (sym (ap bytes_told (h refl) ∙ told_nothing))
left_by false ys h = refl

-- a packet was read
pub line_given : (old new : Option (List ℕ)) (buf : List ℕ) (n : ℕ) (p : List ℕ) (ended : Bool) → length buf ≡ 377 → 0 < n → Filled old new buf n → (ended ≡ true → n < 377)
    → packet_in (take n buf) ≡ Some p → packet_fault p ≡ None → WasGiven (left_in false old) (left_in ended new) p
line_given None new buf n p ended size some h e is sound = record { bytes = tt; size = packet_in_size (take n buf) p is; sound = sound }
line_given (Some xs) None buf n p ended size some h e is sound = absurd h.bytes
line_given (Some xs) (Some ys) buf n p ended size some h e is sound =
    let last : ended ≡ true → ys ≡ [] = λ y. h.end (omega (arith, e y, size)) in
    record {
      bytes = subst (λ l. Consumes (Some (bytes_told xs)) l p) (sym (left_by ended ys last)) (told_read xs ys buf n size some h ∙ ap (λ o. line_before o (bytes_told ys)) is);
      size = packet_in_size (take n buf) p is;
      sound = sound;
    }

-- it has a fault
pub line_refused : (old new : Option (List ℕ)) (buf : List ℕ) (n : ℕ) (p : List ℕ) (fault : PacketFault) → length buf ≡ 377 → 0 < n → Filled old new buf n
    → packet_in (take n buf) ≡ Some p → packet_fault p ≡ Some fault → IfSome (left_in false old) (λ bs. (188 ≤ length bs) × (packet_fault (take 188 bs) ≡ Some fault))
line_refused None new buf n p fault size some h is bad = tt
line_refused (Some xs) None buf n p fault size some h is bad = absurd h.bytes
line_refused (Some xs) (Some ys) buf n p fault size some h is bad =
    let told : bytes_told xs ≡ p ++ bytes_told ys = told_read xs ys buf n size some h ∙ ap (λ o. line_before o (bytes_told ys)) is in
    let long = packet_in_size (take n buf) p is in
    let whole = ap length told ∙ length-append p (bytes_told ys) in
    (omega (arith, whole, long), ap (λ l. packet_fault (take 188 l)) told ∙ ap packet_fault (take-append-le 188 p (bytes_told ys) (omega (arith, long)) ∙ take_all 188 p (omega (arith, long))) ∙ bad)

-- it is no packet's line
pub line_bad : (old new : Option (List ℕ)) (buf : List ℕ) (n : ℕ) → length buf ≡ 377 → 0 < n → Filled old new buf n → packet_in (take n buf) ≡ None
    → IfSome (left_in false old) (λ bs. (0 < length bs) × (length bs < 188))
line_bad None new buf n size some h is = tt
line_bad (Some xs) None buf n size some h is = absurd h.bytes
line_bad (Some xs) (Some ys) buf n size some h is =
    let told : bytes_told xs ≡ 0 ∷ [] = told_read xs ys buf n size some h ∙ ap (λ o. line_before o (bytes_told ys)) is in
    let whole = ap length told in
    (omega (arith, whole), omega (arith, whole))

-- nothing is left
pub line_none : (old new : Option (List ℕ)) (buf : List ℕ) (n : ℕ) → length buf ≡ 377 → n ≡ 0 → Filled old new buf n → IsAtEnd (left_in false old) × IsAtEnd (left_in false new)
line_none None None buf n size none h = (tt, tt)
line_none None (Some ys) buf n size none h = (tt, ap bytes_told (h.end (omega (arith, size, none))) ∙ told_nothing)
line_none (Some xs) None buf n size none h = absurd h.bytes
line_none (Some xs) (Some ys) buf n size none h =
    let end : ys ≡ [] = h.end (omega (arith, size, none)) in
    let same : xs ≡ [] = h.bytes ∙ ap (λ k. take k buf ++ ys) none ∙ end in
    (ap bytes_told same ∙ told_nothing, ap bytes_told end ∙ told_nothing)

pub text_ended : (text : Option (List ℕ)) → IsAtEnd (left_in true text) × IsAtEnd (left_in true text)
text_ended None = (tt, tt)
text_ended (Some xs) = (refl, refl)

-- ---- what a line's packet is judged to be

ok_of : (p q : List ℕ) (g : Option PacketFault) → packet_fault p ≡ g → or_fault g p ≡ Ok q → (p ≡ q) × (packet_fault q ≡ None)
ok_of p q None h e = let f : p ≡ q = cc in (f, ap packet_fault (sym f) ∙ h)
ok_of p q (Some fault) h e = absurd (cc)

fault_of : (p : List ℕ) (fault : PacketFault) (g : Option PacketFault) → packet_fault p ≡ g → or_fault g p ≡ Err fault → packet_fault p ≡ Some fault
fault_of p fault None h e = absurd (cc)
fault_of p fault (Some other) h e = let f : other ≡ fault = cc in h ∙ ap Some f

pub judged_ok : (o : Option (List ℕ)) (q : List ℕ) → option_map judged o ≡ Some (Ok q) → (o ≡ Some q) × (packet_fault q ≡ None)
judged_ok None q e = absurd (cc)
judged_ok (Some p) q e = let f : judged p ≡ Ok q = cc in let g = ok_of p q (packet_fault p) refl f in (ap Some g.0, g.1)

pub judged_err : (o : Option (List ℕ)) (fault : PacketFault) → option_map judged o ≡ Some (Err fault) → (p : List ℕ) × (o ≡ Some p) × (packet_fault p ≡ Some fault)
judged_err None fault e = absurd (cc)
judged_err (Some p) fault e = let f : judged p ≡ Err fault = cc in (p, refl, fault_of p fault (packet_fault p) refl f)

pub judged_none : (o : Option (List ℕ)) → option_map judged o ≡ None → o ≡ None
judged_none None e = refl
judged_none (Some p) e = absurd (cc)

-- ---- what its reads came to

pub well_or_none : (n room : ℕ) (old new : Tally) → n ≤ room → (n < room → LastMovedNone old new) × (n ≡ room → WentWell old new) → WentWell old new ⊎ LastMovedNone old new
well_or_none n room old new within h = elim (eq-or-lt_of_le within) [ inl e ↦ inl (h.1 e) | inr below ↦ inr (h.0 below) ]

pub below : (n room : ℕ) → nat_lt n room ≡ true → n < room
below n room y = grind (arith, y)

pub read_so : (n room : ℕ) (old new : Tally) → n ≤ room → (n < room → LastMovedNone old new) × (n ≡ room → WentWell old new) → ReadSo (nat_lt n room) old new
read_so n room old new within h =
    by_test (nat_lt n room) (λ y. rw y (h.0 (grind (arith, y)))) (λ y. rw y (h.1 (grind (arith, y, within))))

-- ---- what is written is read

sized_is : (n : ℕ) (c : ℕ) → n ≡ 377 → c ≡ 10 → (nat_eq n 376 || (nat_eq n 377 && nat_eq c 10)) ≡ true
sized_is n c e f = rw (e, f) refl

pub told_line : (packet rest : List ℕ) → All (λ b. b < 256) packet → length packet ≡ 188 → bytes_told (line_of packet ++ rest) ≡ packet ++ bytes_told rest
told_line packet rest small size =
    let digits : length (digits_of packet) ≡ 376 = length-digits_of packet ∙ omega (arith, size) in
    let long : length (line_of packet) ≡ 377 = length-append (digits_of packet) (10 ∷ []) ∙ omega (arith, digits) in
    let whole = length-append (line_of packet) rest in
    let front : take 377 (line_of packet ++ rest) ≡ line_of packet = take-append-le 377 (line_of packet) rest (omega (arith, long)) ∙ take_all 377 (line_of packet) (omega (arith, long)) in
    let behind : drop 377 (line_of packet ++ rest) ≡ rest = drop_at (line_of packet) rest 377 long in
    let last : slice_index (line_of packet) 376 ≡ 10 = ap (λ k. slice_index (line_of packet) k) (sym digits) ∙ index_seam (digits_of packet) in
    let spells : spelled (take 376 (line_of packet)) ≡ Some packet =
    ap spelled (take-append-le 376 (digits_of packet) (10 ∷ []) (omega (arith, digits)) ∙ take_all 376 (digits_of packet) (omega (arith, digits))) ∙ spelled-digits_of packet small in
    let found : packet_in (line_of packet) ≡ Some packet = ap (λ b. if b then spelled (take 376 (line_of packet)) else None) (sized_is (length (line_of packet)) (slice_index (line_of packet) 376) long last) ∙ spells in
    told_step (line_of packet ++ rest) (omega (arith, whole, long))
    ∙ ap (λ l. line_before (packet_in l) (bytes_told (drop 377 (line_of packet ++ rest)))) front
    ∙ ap (λ r. line_before (packet_in (line_of packet)) (bytes_told r)) behind
    ∙ ap (λ o. line_before o (bytes_told rest)) found
  where
    index_seam : (xs : List ℕ) → slice_index (xs ++ 10 ∷ []) (length xs) ≡ 10
    index_seam [] = refl
    index_seam (x ∷ xs) = index_seam xs
