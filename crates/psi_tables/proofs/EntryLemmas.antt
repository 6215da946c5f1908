-- Entries, one after another.
use Rattle.std.proofs.Common.{◌≡◌, ℕ, ◌+◌, ◌*◌, ◌/◌, ◌%◌, ◌<◌, ◌≤◌, List, [], ◌∷◌, ◌++◌, length, take, drop, slice_index, map, Bool, true, false, Option, Some, None, refl, sym, ap, subst, ◌∙◌, arith, append_assoc}
use Rattle.std.specs.Prelude.{nat_lt, ◌==◌, ◌||◌, if◌then◌else◌, is_some, option_map}
use Rattle.std.specs.List.{list_any}
use Rattle.std.proofs.lemmas.Bool.{ltb-false, le-ltb}
use Rattle.std.proofs.lemmas.List.{length-drop, length-take, length-append, append-nil, take_at, drop_at, take-append-drop, drop-drop}
use Rattle.std.proofs.lemmas.Option.{some_pair_parts}
use Rattle.byteorder.specs.Endian.{big_bytes}
use Rattle.psi_tables.specs.declared.stream.Stream.{Stream}
use Rattle.psi_tables.specs.Runs.{run_of, things_of}
use Rattle.psi_tables.specs.Streams.{Entry, IsEntry, entry_bytes, entry_at, entry_size, front_entry, stream_of, shown_entry}
use Rattle.wire_fields.specs.Numbers.{AreBytes}
use Rattle.wire_fields.specs.Numbers.{number16_at}
use Rattle.psi_tables.specs.ProgramMap.{entries_bytes}
use Rattle.psi_tables.specs.Cue.{lists_pid, without_pid}
use Rattle.wire_fields.proofs.Cells.{AreBytes-drop, field16, one_at, two_at, number16_fits}
use Rattle.psi_tables.proofs.RunLemmas.{Shortens, SpelledFirst, things_more, things_ended, fills_more, fills_ends, fills_done}

abbrev split_entry : List ℕ → Entry × List ℕ
split_entry bytes = (front_entry bytes, drop (entry_size bytes) bytes)

shorter_by : (b : Bool) (bytes : List ℕ) (e : Entry) (rest : List ℕ) → nat_lt (length bytes) (entry_size bytes) ≡ b
    → (if b then None else Some (split_entry bytes)) ≡ Some (e, rest) → length rest < length bytes
shorter_by true bytes e rest t h = absurd cc
shorter_by false bytes e rest t h =
    let long = ltb-false (length bytes) (entry_size bytes) t in
    let is = (some_pair_parts (split_entry bytes).0 e (split_entry bytes).1 rest h).1 in
    let size = ap (λ (xs : List ℕ). length xs) is in
    omega (arith, length-drop (entry_size bytes) bytes)

pub entry_shortens : Shortens entry_at
unfolding entry_at
entry_shortens bytes e rest h = shorter_by _ bytes e rest refl h

-- what is shown of the entry at the front
pub record FrontEntry (bytes : List ℕ) (stream : Stream) (front rest : List ℕ) : Type 0 where
  pub entry : Entry
  pub taken : entry_at bytes ≡ Some (entry, rest)
  pub stream-is : stream_of entry ≡ stream
  pub front-is : take (entry_size bytes) bytes ≡ front

some_same : (a b : Stream × List ℕ × List ℕ) → ◌≡◌ {A = Option (Stream × List ℕ × List ℕ)} (Some a) (Some b) → a ≡ b
some_same a b h = cc

shown_by : (bytes : List ℕ) (r : Option (Entry × List ℕ)) (stream : Stream) (front rest : List ℕ) → entry_at bytes ≡ r → Some (stream, front, rest) ≡ option_map (shown_entry bytes) r → FrontEntry bytes stream front rest
shown_by bytes None stream front rest e h = absurd cc
shown_by bytes (Some x) stream front rest e h =
    let same = some_same (stream, front, rest) (shown_entry bytes x) h in
    let same-stream : stream_of x.0 ≡ stream = sym (ap (λ (t : Stream × List ℕ × List ℕ). t.0) same) in
    let same-rest : x.1 ≡ rest = sym (ap (λ (t : Stream × List ℕ × List ℕ). t.2) same) in
    record { entry = x.0; taken = e ∙ ap (λ (r : List ℕ). Some (x.0, r)) same-rest; stream-is = same-stream; front-is = sym (ap (λ (t : Stream × List ℕ × List ℕ). t.1) same) }

pub shown : (bytes : List ℕ) (stream : Stream) (front rest : List ℕ) → Some (stream, front, rest) ≡ option_map (shown_entry bytes) (entry_at bytes) → FrontEntry bytes stream front rest
shown bytes stream front rest h = shown_by bytes (entry_at bytes) stream front rest refl h

none_by : (bytes : List ℕ) (r : Option (Entry × List ℕ)) → None ≡ option_map (shown_entry bytes) r → r ≡ None
none_by bytes None h = refl
none_by bytes (Some x) h = absurd cc

pub left_ended : (bytes : List ℕ) → None ≡ option_map (shown_entry bytes) (entry_at bytes) → map stream_of (things_of entry_at bytes) ≡ []
left_ended bytes h = ap (λ (es : List Entry). map stream_of es) (things_ended entry_at entry_shortens bytes (none_by bytes (entry_at bytes) h))

pub left_more : (bytes : List ℕ) (stream : Stream) (front rest : List ℕ) → Some (stream, front, rest) ≡ option_map (shown_entry bytes) (entry_at bytes)
    → map stream_of (things_of entry_at bytes) ≡ stream ∷ map stream_of (things_of entry_at rest)
left_more bytes stream front rest h =
    let f = shown bytes stream front rest h in
    let more = things_more entry_at entry_shortens bytes f.entry rest f.taken in
    ap (λ (es : List Entry). map stream_of es) more ∙ ap (λ (s : Stream). s ∷ map stream_of (things_of entry_at rest)) f.stream-is

pub entry_shorter : (bytes : List ℕ) (stream : Stream) (front rest : List ℕ) → Some (stream, front, rest) ≡ option_map (shown_entry bytes) (entry_at bytes) → length rest < length bytes
entry_shorter bytes stream front rest h =
    let f = shown bytes stream front rest h in
    entry_shortens bytes f.entry rest f.taken

pub entries_fill_more : (bytes : List ℕ) (stream : Stream) (front rest : List ℕ) → Some (stream, front, rest) ≡ option_map (shown_entry bytes) (entry_at bytes)
    → is_some (run_of entry_at bytes) ≡ is_some (run_of entry_at rest)
entries_fill_more bytes stream front rest h =
    let f = shown bytes stream front rest h in
    fills_more entry_at entry_shortens bytes f.entry rest f.taken

pub entries_fill_ends : (bytes : List ℕ) → None ≡ option_map (shown_entry bytes) (entry_at bytes) → 0 < length bytes → is_some (run_of entry_at bytes) ≡ false
entries_fill_ends bytes h some = fills_ends entry_at entry_shortens bytes (none_by bytes (entry_at bytes) h) some

pub entries_fill_done : (bytes : List ℕ) → length bytes ≡ 0 → is_some (run_of entry_at bytes) ≡ true
entries_fill_done bytes h = fills_done entry_at entry_shortens bytes h

-- ---- what was taken from the front

pub record TakesEntry (bytes : List ℕ) (e : Entry) (rest : List ℕ) : Type 0 where
  pub parts : bytes ≡ entry_bytes e ++ rest
  pub front : take (entry_size bytes) bytes ≡ entry_bytes e
  pub fits : IsEntry e

taken_by : (b : Bool) (bytes : List ℕ) (e : Entry) (rest : List ℕ) → AreBytes bytes → nat_lt (length bytes) (entry_size bytes) ≡ b
    → (if b then None else Some (split_entry bytes)) ≡ Some (e, rest) → TakesEntry bytes e rest
taken_by true bytes e rest are t h = absurd cc
taken_by false bytes e rest are t h =
    let field = number16_at bytes 3 in
    let n = field % 4096 in
    let long : 5 + n ≤ length bytes = ltb-false (length bytes) (5 + n) t in
    let is = some_pair_parts (split_entry bytes).0 e (split_entry bytes).1 rest h in
    let info = take n (drop 5 bytes) in
    let size : length info ≡ n = omega (arith, length-take n (drop 5 bytes), length-drop 5 bytes) in
    let a = one_at bytes 0 (omega arith) in
    let b = two_at bytes 1 (omega arith) are in
    let c = two_at bytes 3 (omega arith) are in
    let split : drop 5 bytes ≡ info ++ drop (5 + n) bytes = sym (take-append-drop n (drop 5 bytes)) ∙ ap (λ (xs : List ℕ). info ++ xs) (drop-drop n 5 bytes) in
    let sized : field ≡ field / 4096 * 4096 + length info = omega arith in
    let c' : drop 3 bytes ≡ big_bytes 2 (field / 4096 * 4096 + length info) ++ drop 5 bytes = subst (λ (k : ℕ). drop 3 bytes ≡ big_bytes 2 k ++ drop 5 bytes) sized c in
    let whole : bytes ≡ entry_bytes (front_entry bytes) ++ drop (5 + n) bytes =
    a ∙ ap (λ (xs : List ℕ). slice_index bytes 0 ∷ xs) (b ∙ ap (λ (xs : List ℕ). big_bytes 2 (number16_at bytes 1) ++ xs) (c' ∙ ap (λ (xs : List ℕ). big_bytes 2 (field / 4096 * 4096 + length info) ++ xs) split)) in
    let long-front : length (entry_bytes (front_entry bytes)) ≡ 5 + n = omega arith in
    let taken : take (5 + n) bytes ≡ entry_bytes (front_entry bytes) =
    ap (λ (xs : List ℕ). take (5 + n) xs) whole ∙ take_at (entry_bytes (front_entry bytes)) (drop (5 + n) bytes) (5 + n) long-front in
    let wide = number16_fits bytes 3 are in
    let fits : IsEntry (front_entry bytes) = record { kind = are 0; pid_field = number16_fits bytes 1 are; info_flags = omega arith; size = omega arith } in
    let made : TakesEntry bytes (front_entry bytes) (drop (5 + n) bytes) = record { parts = whole; front = taken; fits = fits } in
    subst (λ (x : Entry). TakesEntry bytes x rest) is.0 (subst (λ (r : List ℕ). TakesEntry bytes (front_entry bytes) r) is.1 made)

pub entry_taken : (bytes : List ℕ) (e : Entry) (rest : List ℕ) → AreBytes bytes → entry_at bytes ≡ Some (e, rest) → TakesEntry bytes e rest
unfolding entry_at
entry_taken bytes e rest are h = taken_by _ bytes e rest are refl h

pub entry_rest : (bytes : List ℕ) (e : Entry) (rest : List ℕ) → AreBytes bytes → entry_at bytes ≡ Some (e, rest) → AreBytes rest
entry_rest bytes e rest are h =
    let t = entry_taken bytes e rest are h in
    let behind : drop (length (entry_bytes e)) bytes ≡ rest = ap (λ (xs : List ℕ). drop (length (entry_bytes e)) xs) t.parts ∙ drop_at (entry_bytes e) rest (length (entry_bytes e)) refl in
    subst (λ (xs : List ℕ). AreBytes xs) behind (AreBytes-drop (length (entry_bytes e)) bytes are)

pub entry_fits : (bytes : List ℕ) (e : Entry) (rest : List ℕ) → AreBytes bytes → entry_at bytes ≡ Some (e, rest) → SpelledFirst entry_bytes IsEntry bytes e rest
entry_fits bytes e rest are h =
    let t = entry_taken bytes e rest are h in
    record { parts = t.parts; fits = t.fits }

abbrev found : Entry → List ℕ → Option (Entry × List ℕ)
found e rest = Some (e, rest)

same_entry : (e : Entry) (field pid_field : ℕ) (info : List ℕ) → pid_field ≡ e.pid_field → field / 4096 ≡ e.info_flags → info ≡ e.info
    → record { kind = e.kind; pid_field = pid_field; info_flags = field / 4096; info = info } ≡ e
same_entry e field pid_field info p f i = rw (p, f, i) refl

pub entry_back : (e : Entry) (rest : List ℕ) → IsEntry e → entry_at (entry_bytes e ++ rest) ≡ Some (e, rest)
unfolding entry_at
entry_back e rest is =
    let bytes = entry_bytes e ++ rest in
    let size-fits = is.size in
    let flags-fit = is.info_flags in
    let pid = field16 bytes 1 e.pid_field (drop 3 bytes) refl is.pid_field in
    let field = field16 bytes 3 (e.info_flags * 4096 + length e.info) (drop 5 bytes) refl (omega arith) in
    let n : number16_at bytes 3 % 4096 ≡ length e.info = ap (λ (k : ℕ). k % 4096) field ∙ omega arith in
    let flags : number16_at bytes 3 / 4096 ≡ e.info_flags = ap (λ (k : ℕ). k / 4096) field ∙ omega arith in
    let whole = length-append e.info rest in
    let long : nat_lt (length bytes) (5 + number16_at bytes 3 % 4096) ≡ false = le-ltb (length bytes) (5 + number16_at bytes 3 % 4096) (omega arith) in
    let info : take (number16_at bytes 3 % 4096) (drop 5 bytes) ≡ e.info = ap (λ (k : ℕ). take k (drop 5 bytes)) n ∙ take_at e.info rest (length e.info) refl in
    let behind : drop (5 + number16_at bytes 3 % 4096) bytes ≡ rest = sym (drop-drop (number16_at bytes 3 % 4096) 5 bytes) ∙ ap (λ (k : ℕ). drop k (drop 5 bytes)) n ∙ drop_at e.info rest (length e.info) refl in
    let entry = same_entry e (number16_at bytes 3) (number16_at bytes 1) (take (number16_at bytes 3 % 4096) (drop 5 bytes)) pid flags info in
    rw long (ap (λ (x : Entry). found x (drop (5 + number16_at bytes 3 % 4096) bytes)) entry ∙ ap (λ (r : List ℕ). found e r) behind)

-- ---- without the entries of a PID

module _ (pid : ℕ) where
  abbrev pub others_of : List ℕ → List ℕ
  others_of bytes = entries_bytes (without_pid pid (things_of entry_at bytes))

  abbrev pub any_of : List ℕ → Bool
  any_of bytes = list_any (lists_pid pid) (things_of entry_at bytes)

  pub no_others : (bytes : List ℕ) → None ≡ option_map (shown_entry bytes) (entry_at bytes) → others_of bytes ≡ []
  no_others bytes h = ap (λ (es : List Entry). entries_bytes (without_pid pid es)) (things_ended entry_at entry_shortens bytes (none_by bytes (entry_at bytes) h))

  pub none_any : (bytes : List ℕ) → None ≡ option_map (shown_entry bytes) (entry_at bytes) → any_of bytes ≡ false
  none_any bytes h = ap (λ (es : List Entry). list_any (lists_pid pid) es) (things_ended entry_at entry_shortens bytes (none_by bytes (entry_at bytes) h))

  -- what the loop keeps
  pub record Without (kept : List ℕ) (any : Bool) (bytes total : List ℕ) (all : Bool) (size : ℕ) : Type 0 where
    pub sound : is_some (run_of entry_at bytes) ≡ true
    pub are_bytes : AreBytes bytes
    pub so_far : kept ++ others_of bytes ≡ total
    pub any_so_far : (any || any_of bytes) ≡ all
    pub room : length kept + length bytes ≤ size

  -- the front, and what comes of it
  record Front (bytes : List ℕ) (stream : Stream) (front rest : List ℕ) : Type 0 where
    entry : Entry
    shows : stream_of entry ≡ stream
    bytes-are : front ≡ entry_bytes entry
    things : things_of entry_at bytes ≡ entry ∷ things_of entry_at rest
    whole : bytes ≡ front ++ rest
    sound : is_some (run_of entry_at bytes) ≡ is_some (run_of entry_at rest)
    are : AreBytes rest

  front_of : (bytes : List ℕ) (stream : Stream) (front rest : List ℕ) → AreBytes bytes → Some (stream, front, rest) ≡ option_map (shown_entry bytes) (entry_at bytes) → Front bytes stream front rest
  front_of bytes stream front rest are h =
      let f = shown bytes stream front rest h in
      let t = entry_taken bytes f.entry rest are f.taken in
      let same : front ≡ entry_bytes f.entry = sym f.front-is ∙ t.front in
      record {
        entry = f.entry;
        shows = f.stream-is;
        bytes-are = same;
        things = things_more entry_at entry_shortens bytes f.entry rest f.taken;
        whole = t.parts ∙ ap (λ (xs : List ℕ). xs ++ rest) (sym same);
        sound = fills_more entry_at entry_shortens bytes f.entry rest f.taken;
        are = entry_rest bytes f.entry rest are f.taken;
      }

  pid_of_stream : (e : Entry) (s : Stream) → stream_of e ≡ s → lists_pid pid e ≡ (s.pid == pid)
  pid_of_stream e s h = ap (λ (x : Stream). x.pid == pid) h

  or_false : (b : Bool) → (b || false) ≡ b
  or_false true = refl
  or_false false = refl

  or_true : (b c : Bool) → (b || (true || c)) ≡ true
  or_true true c = refl
  or_true false c = refl

  pub entry_dropped : (kept : List ℕ) (any : Bool) (bytes : List ℕ) (stream : Stream) (front rest total : List ℕ) (all : Bool) (size : ℕ)
      → Some (stream, front, rest) ≡ option_map (shown_entry bytes) (entry_at bytes) → (stream.pid == pid) ≡ true → Without kept any bytes total all size → Without kept true rest total all size
  entry_dropped kept any bytes stream front rest total all size h is w =
      let f = front_of bytes stream front rest w.are_bytes h in
      let it : lists_pid pid f.entry ≡ true = pid_of_stream f.entry stream f.shows ∙ is in
      let others : others_of bytes ≡ others_of rest = rw (f.things, it) refl in
      let found : any_of bytes ≡ true = rw (f.things, it) refl in
      let long = ap (λ (xs : List ℕ). length xs) f.whole in
      let room = w.room in
      let found-all : (any || true) ≡ all = ap (λ (b : Bool). any || b) (sym found) ∙ w.any_so_far in
      record {
        sound = sym f.sound ∙ w.sound;
        are_bytes = f.are;
        so_far = ap (λ (xs : List ℕ). kept ++ xs) (sym others) ∙ w.so_far;
        any_so_far = sym (or_true any false) ∙ found-all;
        room = omega (arith, length-append front rest);
      }

  pub entry_kept : (kept : List ℕ) (any : Bool) (bytes : List ℕ) (stream : Stream) (front rest total : List ℕ) (all : Bool) (size : ℕ)
      → Some (stream, front, rest) ≡ option_map (shown_entry bytes) (entry_at bytes) → (stream.pid == pid) ≡ false → Without kept any bytes total all size → Without (kept ++ front) any rest total all size
  entry_kept kept any bytes stream front rest total all size h is w =
      let f = front_of bytes stream front rest w.are_bytes h in
      let it : lists_pid pid f.entry ≡ false = pid_of_stream f.entry stream f.shows ∙ is in
      let things-others : others_of bytes ≡ entry_bytes f.entry ++ others_of rest = rw (f.things, it) refl in
      let others : others_of bytes ≡ front ++ others_of rest = things-others ∙ ap (λ (xs : List ℕ). xs ++ others_of rest) (sym f.bytes-are) in
      let found : any_of bytes ≡ any_of rest = rw (f.things, it) refl in
      let long = ap (λ (xs : List ℕ). length xs) f.whole in
      let room = w.room in
      record {
        sound = sym f.sound ∙ w.sound;
        are_bytes = f.are;
        so_far = append_assoc kept front (others_of rest) ∙ ap (λ (xs : List ℕ). kept ++ xs) (sym others) ∙ w.so_far;
        any_so_far = ap (λ (b : Bool). any || b) (sym found) ∙ w.any_so_far;
        room = omega (arith, length-append front rest, length-append kept front);
      }

  pub without_done : (kept : List ℕ) (any : Bool) (bytes total : List ℕ) (all : Bool) (size : ℕ) → None ≡ option_map (shown_entry bytes) (entry_at bytes) → Without kept any bytes total all size → (kept ≡ total) × (any ≡ all)
  without_done kept any bytes total all size h w = (
    sym (append-nil kept) ∙ ap (λ (xs : List ℕ). kept ++ xs) (sym (no_others bytes h)) ∙ w.so_far,
    sym (or_false any) ∙ ap (λ (b : Bool). any || b) (sym (none_any bytes h)) ∙ w.any_so_far,
  )

  pub front_room : (kept : List ℕ) (any : Bool) (bytes : List ℕ) (stream : Stream) (front rest total : List ℕ) (all : Bool) (size : ℕ)
      → Some (stream, front, rest) ≡ option_map (shown_entry bytes) (entry_at bytes) → Without kept any bytes total all size → length kept + length front ≤ size
  front_room kept any bytes stream front rest total all size h w =
      let f = front_of bytes stream front rest w.are_bytes h in
      let long = ap (λ (xs : List ℕ). length xs) f.whole in
      let room = w.room in
      omega (arith, length-append front rest)
