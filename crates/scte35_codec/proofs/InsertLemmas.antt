-- splice_insert(): what is read was spelled, and what is spelled is read.
use Rattle.std.proofs.Common.{◌≡◌, ℕ, Bool, true, false, List, [], ◌∷◌, ◌++◌, length, slice_index, Option, Some, None, refl, sym, ap, subst, ◌∙◌, arith, append_assoc}
use Rattle.std.specs.Prelude.{not, if◌then◌else◌}
use Rattle.std.proofs.lemmas.Option.{some_pair_parts}
use Rattle.wire_fields.specs.Numbers.{number_of}
use Rattle.scte35_codec.specs.Bits.{bit_of}
use Rattle.scte35_codec.specs.Fields.{◌>>=◌, byte_at, number_at, ticks_at}
use Rattle.scte35_codec.specs.declared.insert.SpliceInsert.{SpliceInsert}
use Rattle.scte35_codec.specs.declared.insert.Command.{Command}
use Rattle.scte35_codec.specs.declared.insert.Command.TheVariants.{Cancelled, Components, Inserted}
use Rattle.scte35_codec.specs.Insert.{splice_time_at, time_unless_at, duration_if_at, inserted_at, splice_insert_at}
use Rattle.scte35_codec.specs.Grammar.{IsNumber, IsTicks, IsSpliceTime, IsTime, IsDuration, IsInsert, IsCancel, BeginsComponents}
use Rattle.scte35_codec.proofs.FieldLemmas.{bind_some, HasFront, number_sound, number_back, IsTicksOf, ticks_sound, ticks_back, byte_sound}

-- ---- splice_time()

abbrev time_with : (Bool × ℕ) × List ℕ → Option ℕ × List ℕ
time_with t = (Some t.0.1, t.1)

abbrev no_time : List ℕ → Option ℕ × List ℕ
no_time rest = (None, rest)

-- a time's flag is the first bit of its bytes
flag_is : (p : Bool × ℕ) (bytes rest : List ℕ) (first : ℕ) (others : List ℕ) → bytes ≡ first ∷ others → (t : HasFront (IsTicksOf p) bytes rest) → bit_of 7 first ≡ p.0
flag_is p bytes rest first others e t =
    flag_in t.text rest first others (sym t.whole ∙ e) t.is.size ∙ t.is.flagged where
      flag_in : (text rest : List ℕ) (first : ℕ) (others : List ℕ) → text ++ rest ≡ first ∷ others → length text ≡ 5 → bit_of 7 first ≡ bit_of 7 (slice_index text 0)
      flag_in [] rest first others e size = absurd (omega arith)
      flag_in (x ∷ text) rest first others e size = let same : x ≡ first = cc in ap (bit_of 7) (sym same)

time_sound_by : (b : Bool) (bytes : List ℕ) (first : ℕ) (others : List ℕ) (time : Option ℕ) (rest : List ℕ) → bytes ≡ first ∷ others → bit_of 7 first ≡ b
    → (if not b then Some (no_time others) else (ticks_at bytes >>= λ t. Some (time_with t))) ≡ Some (time, rest) → HasFront (IsSpliceTime time) bytes rest
time_sound_by false bytes first others time rest e f h =
    let parts = some_pair_parts (no_time others).0 time others rest h in
    let made : HasFront (IsSpliceTime None) bytes others = record { text = first ∷ []; whole = e; is = (first, refl, f) } in
    subst (λ (o : Option ℕ). HasFront (IsSpliceTime o) bytes rest) parts.0 (subst (λ (r : List ℕ). HasFront (IsSpliceTime None) bytes r) parts.1 made)
time_sound_by true bytes first others time rest e f h =
    let step = bind_some (ticks_at bytes) (λ (t : (Bool × ℕ) × List ℕ). Some (time_with t)) (time, rest) h in
    let parts = some_pair_parts (time_with step.0).0 time (time_with step.0).1 rest step.2 in
    let taken = ticks_sound step.0.0 bytes step.0.1 step.1 in
    let set : step.0.0.0 ≡ true = sym (flag_is step.0.0 bytes step.0.1 first others e taken) ∙ f in
    let is : IsTicks true step.0.0.1 taken.text = subst (λ (b : Bool). IsTicks b step.0.0.1 taken.text) set taken.is in
    let made : HasFront (IsSpliceTime (Some step.0.0.1)) bytes step.0.1 = record { text = taken.text; whole = taken.whole; is = is } in
    subst (λ (o : Option ℕ). HasFront (IsSpliceTime o) bytes rest) parts.0 (subst (λ (r : List ℕ). HasFront (IsSpliceTime (Some step.0.0.1)) bytes r) parts.1 made)

pub time_sound : (time : Option ℕ) (bytes rest : List ℕ) → splice_time_at bytes ≡ Some (time, rest) → HasFront (IsSpliceTime time) bytes rest
unfolding splice_time_at
time_sound time [] rest h = absurd cc
time_sound time (first ∷ others) rest h = time_sound_by (bit_of 7 first) (first ∷ others) first others time rest refl refl h

time_back_set : (time : ℕ) (text rest : List ℕ) → IsTicks true time text → splice_time_at (text ++ rest) ≡ Some (Some time, rest)
unfolding splice_time_at
time_back_set time [] rest is = let size = is.size in absurd (omega arith)
time_back_set time (first ∷ text) rest is =
    let set : bit_of 7 first ≡ true = is.flagged in
    let read = ticks_back true time (first ∷ text) rest is in
    rw (set, read) refl

time_back_none : (first : ℕ) (rest : List ℕ) → bit_of 7 first ≡ false → splice_time_at (first ∷ rest) ≡ Some (None, rest)
unfolding splice_time_at
time_back_none first rest f = rw f refl

pub time_back : (time : Option ℕ) (text rest : List ℕ) → IsSpliceTime time text → splice_time_at (text ++ rest) ≡ Some (time, rest)
time_back (Some time) text rest is = time_back_set time text rest is
time_back None text rest is = ap (λ (xs : List ℕ). splice_time_at (xs ++ rest)) is.1 ∙ time_back_none is.0 rest is.2

-- ---- where there is one

unless_sound : (immediate : Bool) (time : Option ℕ) (bytes rest : List ℕ) → time_unless_at immediate bytes ≡ Some (time, rest) → HasFront (IsTime immediate time) bytes rest
unfolding time_unless_at
unless_sound true time bytes rest h =
    let parts = some_pair_parts (no_time bytes).0 time bytes rest h in
    let made : HasFront (IsTime true None) bytes bytes = record { text = []; whole = refl; is = refl } in
    subst (λ (o : Option ℕ). HasFront (IsTime true o) bytes rest) parts.0 (subst (λ (r : List ℕ). HasFront (IsTime true None) bytes r) parts.1 made)
unless_sound false time bytes rest h = time_sound time bytes rest h

unless_back : (immediate : Bool) (time : Option ℕ) (text rest : List ℕ) → IsTime immediate time text → time_unless_at immediate (text ++ rest) ≡ Some (time, rest)
unfolding time_unless_at
unless_back true (Some time) text rest is = absurd is
unless_back true None text rest is = rw is refl
unless_back false time text rest is = time_back time text rest is

-- ---- break_duration()

abbrev duration_with : (Bool × ℕ) × List ℕ → Option (Bool × ℕ) × List ℕ
duration_with t = (Some (t.0.0, t.0.1), t.1)

abbrev no_duration : List ℕ → Option (Bool × ℕ) × List ℕ
no_duration rest = (None, rest)

if_sound : (given : Bool) (duration : Option (Bool × ℕ)) (bytes rest : List ℕ) → duration_if_at given bytes ≡ Some (duration, rest) → HasFront (IsDuration given duration) bytes rest
unfolding duration_if_at
if_sound false duration bytes rest h =
    let parts = some_pair_parts (no_duration bytes).0 duration bytes rest h in
    let made : HasFront (IsDuration false None) bytes bytes = record { text = []; whole = refl; is = refl } in
    subst (λ (o : Option (Bool × ℕ)). HasFront (IsDuration false o) bytes rest) parts.0 (subst (λ (r : List ℕ). HasFront (IsDuration false None) bytes r) parts.1 made)
if_sound true duration bytes rest h =
    let step = bind_some (ticks_at bytes) (λ (t : (Bool × ℕ) × List ℕ). Some (duration_with t)) (duration, rest) h in
    let parts = some_pair_parts (duration_with step.0).0 duration (duration_with step.0).1 rest step.2 in
    let taken = ticks_sound step.0.0 bytes step.0.1 step.1 in
    let made : HasFront (IsDuration true (Some (step.0.0.0, step.0.0.1))) bytes step.0.1 = record { text = taken.text; whole = taken.whole; is = taken.is } in
    subst (λ (o : Option (Bool × ℕ)). HasFront (IsDuration true o) bytes rest) parts.0 (subst (λ (r : List ℕ). HasFront (IsDuration true (Some (step.0.0.0, step.0.0.1))) bytes r) parts.1 made)

if_back : (given : Bool) (duration : Option (Bool × ℕ)) (text rest : List ℕ) → IsDuration given duration text → duration_if_at given (text ++ rest) ≡ Some (duration, rest)
unfolding duration_if_at
if_back true (Some d) text rest is = rw (ticks_back d.0 d.1 text rest is) refl
if_back true None text rest is = absurd is
if_back false (Some d) text rest is = absurd is
if_back false None text rest is = rw is refl

-- ---- behind the flags

abbrev made_insert : ℕ → ℕ → Option ℕ → Option (Bool × ℕ) → ℕ → ℕ → ℕ → SpliceInsert
made_insert event flags time duration program avail expected =
    record { event = event; out = bit_of 7 flags; time = time; length = duration; program = program; avail = avail; expected = expected }

abbrev pub behind_flags : List ℕ → List ℕ → List ℕ → SpliceInsert → List ℕ
behind_flags time duration program i = time ++ (duration ++ (program ++ i.avail ∷ i.expected ∷ []))

-- the texts behind the byte of flags
pub record Parts (event flags : ℕ) (i : SpliceInsert) (bytes rest : List ℕ) : Type 0 where
  pub time : List ℕ
  pub duration : List ℕ
  pub program : List ℕ
  pub whole : bytes ≡ behind_flags time duration program i ++ rest
  pub same_event : i.event ≡ event
  pub same_out : bit_of 7 flags ≡ i.out
  pub time_is : IsTime (bit_of 4 flags) i.time time
  pub duration_is : IsDuration (bit_of 5 flags) i.length duration
  pub program_is : IsNumber 2 i.program program

regroup : (time duration program : List ℕ) (a b : ℕ) (rest : List ℕ) → time ++ (duration ++ (program ++ a ∷ b ∷ rest)) ≡ (time ++ (duration ++ (program ++ a ∷ b ∷ []))) ++ rest
regroup time duration program a b rest = simp append_assoc

joined : (bytes time b1 duration b2 program b3 b4 : List ℕ) (avail expected : ℕ) (rest : List ℕ) → bytes ≡ time ++ b1 → b1 ≡ duration ++ b2 → b2 ≡ program ++ b3 → b3 ≡ avail ∷ b4 → b4 ≡ expected ∷ rest
    → bytes ≡ (time ++ (duration ++ (program ++ avail ∷ expected ∷ []))) ++ rest
joined bytes time b1 duration b2 program b3 b4 avail expected rest e1 e2 e3 e4 e5 =
    rw (e1, e2, e3, e4, e5) (regroup time duration program avail expected rest)

parts_made : (event flags : ℕ) (time : Option ℕ) (duration : Option (Bool × ℕ)) (program avail expected : ℕ) (time_text duration_text program_text bytes rest : List ℕ)
    → bytes ≡ (time_text ++ (duration_text ++ (program_text ++ avail ∷ expected ∷ []))) ++ rest → IsTime (bit_of 4 flags) time time_text → IsDuration (bit_of 5 flags) duration duration_text → IsNumber 2 program program_text
    → Parts event flags (made_insert event flags time duration program avail expected) bytes rest
parts_made event flags time duration program avail expected time_text duration_text program_text bytes rest whole t d p = record {
  time = time_text;
  duration = duration_text;
  program = program_text;
  whole = whole;
  same_event = refl;
  same_out = refl;
  time_is = t;
  duration_is = d;
  program_is = p;
}

pub inserted_sound : (event flags : ℕ) (i : SpliceInsert) (bytes rest : List ℕ) → inserted_at event flags bytes ≡ Some (i, rest) → Parts event flags i bytes rest
unfolding inserted_at
inserted_sound event flags i bytes rest h =
    let s1 = bind_some (time_unless_at (bit_of 4 flags) bytes) (λ (time : Option ℕ × List ℕ). duration_if_at (bit_of 5 flags) time.1 >>= λ duration. number_at 2 duration.1 >>= λ program. byte_at program.1 >>= λ avail. byte_at avail.1 >>= λ expected. Some (made_insert event flags time.0 duration.0 program.0 avail.0 expected.0, expected.1)) (i, rest) h in
    let s2 = bind_some (duration_if_at (bit_of 5 flags) s1.0.1) (λ (duration : Option (Bool × ℕ) × List ℕ). number_at 2 duration.1 >>= λ program. byte_at program.1 >>= λ avail. byte_at avail.1 >>= λ expected. Some (made_insert event flags s1.0.0 duration.0 program.0 avail.0 expected.0, expected.1)) (i, rest) s1.2 in
    let s3 = bind_some (number_at 2 s2.0.1) (λ (program : ℕ × List ℕ). byte_at program.1 >>= λ avail. byte_at avail.1 >>= λ expected. Some (made_insert event flags s1.0.0 s2.0.0 program.0 avail.0 expected.0, expected.1)) (i, rest) s2.2 in
    let s4 = bind_some (byte_at s3.0.1) (λ (avail : ℕ × List ℕ). byte_at avail.1 >>= λ expected. Some (made_insert event flags s1.0.0 s2.0.0 s3.0.0 avail.0 expected.0, expected.1)) (i, rest) s3.2 in
    let s5 = bind_some (byte_at s4.0.1) (λ (expected : ℕ × List ℕ). Some (made_insert event flags s1.0.0 s2.0.0 s3.0.0 s4.0.0 expected.0, expected.1)) (i, rest) s4.2 in
    let made = made_insert event flags s1.0.0 s2.0.0 s3.0.0 s4.0.0 s5.0.0 in
    let parts = some_pair_parts made i s5.0.1 rest s5.2 in
    let time = unless_sound (bit_of 4 flags) s1.0.0 bytes s1.0.1 s1.1 in
    let duration = if_sound (bit_of 5 flags) s2.0.0 s1.0.1 s2.0.1 s2.1 in
    let program = number_sound 2 s3.0.0 s2.0.1 s3.0.1 s3.1 in
    let avail = byte_sound s4.0.0 s3.0.1 s4.0.1 s4.1 in
    let expected = byte_sound s5.0.0 s4.0.1 s5.0.1 s5.1 in
    let whole = joined bytes time.text s1.0.1 duration.text s2.0.1 program.text s3.0.1 s4.0.1 s4.0.0 s5.0.0 s5.0.1 time.whole duration.whole program.whole avail expected in
    let all = parts_made event flags s1.0.0 s2.0.0 s3.0.0 s4.0.0 s5.0.0 time.text duration.text program.text bytes s5.0.1 whole time.is duration.is program.is in
    subst (λ (j : SpliceInsert). Parts event flags j bytes rest) parts.0 (subst (λ (r : List ℕ). Parts event flags made bytes r) parts.1 all)

pub inserted_back : (flags : ℕ) (i : SpliceInsert) (time duration program rest : List ℕ) → bit_of 7 flags ≡ i.out → IsTime (bit_of 4 flags) i.time time → IsDuration (bit_of 5 flags) i.length duration → IsNumber 2 i.program program
    → inserted_at i.event flags (behind_flags time duration program i ++ rest) ≡ Some (i, rest)
unfolding inserted_at
inserted_back flags i time duration program rest out t d p =
    let grouped = sym (regroup time duration program i.avail i.expected rest) in
    let r1 = unless_back (bit_of 4 flags) i.time time (duration ++ (program ++ i.avail ∷ i.expected ∷ rest)) t in
    let r2 = if_back (bit_of 5 flags) i.length duration (program ++ i.avail ∷ i.expected ∷ rest) d in
    let r3 = number_back 2 i.program program (i.avail ∷ i.expected ∷ rest) p in
    ap (inserted_at i.event flags) grouped ∙ rw (r1, r2, r3, out) refl

-- ---- the whole command

abbrev pub IsRead : Command → List ℕ → List ℕ → Type 0
IsRead (Cancelled event) bytes rest = HasFront (IsCancel event) bytes rest
IsRead Components bytes rest = BeginsComponents bytes
IsRead (Inserted i) bytes rest = HasFront (IsInsert i) bytes rest

abbrev cancelled_with : ℕ → List ℕ → Command × List ℕ
cancelled_with event rest = (Cancelled event, rest)

abbrev components_with : List ℕ → Command × List ℕ
components_with rest = (Components, rest)

abbrev inserted_with : SpliceInsert × List ℕ → Command × List ℕ
inserted_with x = (Inserted x.0, x.1)

record Before (event indicator flags : ℕ) (bytes behind : List ℕ) : Type 0 where
  pub id : List ℕ
  pub whole : bytes ≡ id ++ indicator ∷ flags ∷ behind
  pub is : IsNumber 4 event id
  pub standing : bit_of 7 indicator ≡ false

whole_insert : (event indicator flags : ℕ) (i : SpliceInsert) (bytes behind rest : List ℕ) → Before event indicator flags bytes behind → bit_of 6 flags ≡ true → Parts event flags i behind rest → HasFront (IsInsert i) bytes rest
whole_insert event indicator flags i bytes behind rest before program parts =
    let text = before.id ++ indicator ∷ flags ∷ behind_flags parts.time parts.duration parts.program i in
    let whole : bytes ≡ text ++ rest = before.whole ∙ ap (λ (xs : List ℕ). before.id ++ indicator ∷ flags ∷ xs) parts.whole ∙ sym (append_assoc before.id (indicator ∷ flags ∷ behind_flags parts.time parts.duration parts.program i) rest) in
    record {
      text = text;
      whole = whole;
      is = record {
        event = before.id;
        indicator = indicator;
        flags = flags;
        time = parts.time;
        duration = parts.duration;
        program = parts.program;
        whole = refl;
        splice_event_id = subst (λ (n : ℕ). IsNumber 4 n before.id) (sym parts.same_event) before.is;
        splice_event_cancel_indicator = before.standing;
        out_of_network_indicator = parts.same_out;
        program_splice_flag = program;
        splice_time = parts.time_is;
        break_duration = parts.duration_is;
        unique_program_id = parts.program_is;
      };
    }

flags_sound : (b : Bool) (event indicator flags : ℕ) (c : Command) (bytes behind rest : List ℕ) → Before event indicator flags bytes behind → bit_of 6 flags ≡ b
    → (if not b then Some (components_with behind) else (inserted_at event flags behind >>= λ x. Some (inserted_with x))) ≡ Some (c, rest) → IsRead c bytes rest
flags_sound false event indicator flags c bytes behind rest before f h =
    let parts = some_pair_parts (components_with behind).0 c behind rest h in
    let made : IsRead Components bytes rest = record {
      id = before.id;
      rest = behind;
      indicator = indicator;
      flags = flags;
      whole = before.whole;
      splice_event_id = before.is.size;
      splice_event_cancel_indicator = before.standing;
      program_splice_flag = f;
    } in
    subst (λ (d : Command). IsRead d bytes rest) parts.0 made
flags_sound true event indicator flags c bytes behind rest before f h =
    let step = bind_some (inserted_at event flags behind) (λ (x : SpliceInsert × List ℕ). Some (inserted_with x)) (c, rest) h in
    let parts = some_pair_parts (inserted_with step.0).0 c step.0.1 rest step.2 in
    let read = inserted_sound event flags step.0.0 behind step.0.1 step.1 in
    let made : IsRead (Inserted step.0.0) bytes step.0.1 = whole_insert event indicator flags step.0.0 bytes behind step.0.1 before f read in
    subst (λ (d : Command). IsRead d bytes rest) parts.0 (subst (λ (r : List ℕ). IsRead (Inserted step.0.0) bytes r) parts.1 made)

abbrev behind_indicator : ℕ → List ℕ → Option (Command × List ℕ)
behind_indicator event rest = byte_at rest >>= λ (flags : ℕ × List ℕ). if not (bit_of 6 flags.0) then Some (components_with flags.1) else (inserted_at event flags.0 flags.1 >>= λ x. Some (inserted_with x))

indicator_sound : (b : Bool) (event indicator : ℕ) (c : Command) (bytes id behind rest : List ℕ) → bytes ≡ id ++ indicator ∷ behind → IsNumber 4 event id → bit_of 7 indicator ≡ b
    → (if b then Some (cancelled_with event behind) else behind_indicator event behind) ≡ Some (c, rest) → IsRead c bytes rest
indicator_sound true event indicator c bytes id behind rest e is f h =
    let parts = some_pair_parts (cancelled_with event behind).0 c behind rest h in
    let whole : bytes ≡ (id ++ indicator ∷ []) ++ behind = e ∙ sym (append_assoc id (indicator ∷ []) behind) in
    let made : IsRead (Cancelled event) bytes behind = record {
      text = id ++ indicator ∷ [];
      whole = whole;
      is = record { id = id; indicator = indicator; whole = refl; splice_event_id = is; splice_event_cancel_indicator = f };
    } in
    subst (λ (d : Command). IsRead d bytes rest) parts.0 (subst (λ (r : List ℕ). IsRead (Cancelled event) bytes r) parts.1 made)
indicator_sound false event indicator c bytes id behind rest e is f h =
    let step = bind_some (byte_at behind) (λ (flags : ℕ × List ℕ). if not (bit_of 6 flags.0) then Some (components_with flags.1) else (inserted_at event flags.0 flags.1 >>= λ x. Some (inserted_with x))) (c, rest) h in
    let next = byte_sound step.0.0 behind step.0.1 step.1 in
    let before : Before event indicator step.0.0 bytes step.0.1 = record { id = id; whole = e ∙ ap (λ (xs : List ℕ). id ++ indicator ∷ xs) next; is = is; standing = f } in
    flags_sound (bit_of 6 step.0.0) event indicator step.0.0 c bytes step.0.1 rest before refl step.2

pub insert_sound : (c : Command) (bytes rest : List ℕ) → splice_insert_at bytes ≡ Some (c, rest) → IsRead c bytes rest
unfolding splice_insert_at
insert_sound c bytes rest h =
    let s1 = bind_some (number_at 4 bytes) (λ (event : ℕ × List ℕ). byte_at event.1 >>= λ (cancel : ℕ × List ℕ). if bit_of 7 cancel.0 then Some (cancelled_with event.0 cancel.1) else behind_indicator event.0 cancel.1) (c, rest) h in
    let s2 = bind_some (byte_at s1.0.1) (λ (cancel : ℕ × List ℕ). if bit_of 7 cancel.0 then Some (cancelled_with s1.0.0 cancel.1) else behind_indicator s1.0.0 cancel.1) (c, rest) s1.2 in
    let id = number_sound 4 s1.0.0 bytes s1.0.1 s1.1 in
    let next = byte_sound s2.0.0 s1.0.1 s2.0.1 s2.1 in
    let whole : bytes ≡ id.text ++ s2.0.0 ∷ s2.0.1 = id.whole ∙ ap (λ (xs : List ℕ). id.text ++ xs) next in
    indicator_sound (bit_of 7 s2.0.0) s1.0.0 s2.0.0 c bytes id.text s2.0.1 rest whole id.is refl s2.2

-- ---- spelled, then read

pub cancel_back : (event : ℕ) (text rest : List ℕ) → IsCancel event text → splice_insert_at (text ++ rest) ≡ Some (Cancelled event, rest)
unfolding splice_insert_at
cancel_back event text rest is =
    let grouped : text ++ rest ≡ is.id ++ is.indicator ∷ rest = ap (λ (xs : List ℕ). xs ++ rest) is.whole ∙ append_assoc is.id (is.indicator ∷ []) rest in
    let id = number_back 4 event is.id (is.indicator ∷ rest) is.splice_event_id in
    ap splice_insert_at grouped ∙ rw (id, is.splice_event_cancel_indicator) refl

pub insert_back : (i : SpliceInsert) (text rest : List ℕ) → IsInsert i text → splice_insert_at (text ++ rest) ≡ Some (Inserted i, rest)
unfolding splice_insert_at
insert_back i text rest is =
    let behind = behind_flags is.time is.duration is.program i in
    let grouped : text ++ rest ≡ is.event ++ is.indicator ∷ is.flags ∷ (behind ++ rest) = ap (λ (xs : List ℕ). xs ++ rest) is.whole ∙ append_assoc is.event (is.indicator ∷ is.flags ∷ behind) rest in
    let id = number_back 4 i.event is.event (is.indicator ∷ is.flags ∷ (behind ++ rest)) is.splice_event_id in
    let others = inserted_back is.flags i is.time is.duration is.program rest is.out_of_network_indicator is.splice_time is.break_duration is.unique_program_id in
    ap splice_insert_at grouped ∙ rw (id, is.splice_event_cancel_indicator, is.program_splice_flag, others) refl

pub components_back : (bytes : List ℕ) → BeginsComponents bytes → (rest : List ℕ) × (splice_insert_at bytes ≡ Some (Components, rest))
unfolding splice_insert_at
components_back bytes is =
    let numbered : IsNumber 4 (number_of 4 is.id) is.id = record { size = is.splice_event_id; worth = refl } in
    let id = number_back 4 (number_of 4 is.id) is.id (is.indicator ∷ is.flags ∷ is.rest) numbered in
    (is.rest, ap splice_insert_at is.whole ∙ rw (id, is.splice_event_cancel_indicator, is.program_splice_flag) refl)
