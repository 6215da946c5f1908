-- The cues of our own are in the grammar.
use Rattle.std.proofs.Common.{◌≡◌, ℕ, ◌+◌, ◌-◌, ◌*◌, ◌/◌, ◌%◌, ◌^◌, ◌<◌, ◌≤◌, true, false, List, [], ◌∷◌, ◌++◌, length, map, drop, Option, Some, None, refl, sym, ap, subst, ◌∙◌, arith, inr, append_assoc, eq-eqb}
use Rattle.std.specs.Prelude.{option_map}
use Rattle.std.specs.List.{flat_map, cons_option, AllByRecursion}
use Rattle.std.proofs.lemmas.List.{length-append, take_at, append-nil}
use Rattle.std.proofs.lemmas.List.Concat.{flat_map-cons}
use Rattle.byteorder.specs.Endian.{big_bytes}
use Rattle.byteorder.specs.Numbers.{big_number-reads_back}
use Rattle.psi_section.specs.Crc.{crc}
use Rattle.scte35_codec.specs.declared.insert.SpliceInsert.{SpliceInsert}
use Rattle.scte35_codec.specs.declared.cue_out.CueOut.{CueOut}
use Rattle.scte35_codec.specs.declared.cue_out.CueOut.TheVariants.{Start, Cancel, End}
use Rattle.wire_fields.specs.Numbers.{number_of}
use Rattle.scte35_codec.specs.Descriptors.{SpliceDescriptor, descriptor_bytes, avail_id, avails_of}
use Rattle.scte35_codec.specs.Insert.{later}
use Rattle.psi_section.specs.Sections.{section_length}
use Rattle.scte35_codec.specs.Reading.{CueReading, insert, cancel, cue_of, pts_adjustment, splice_command_length, command_part}
use Rattle.scte35_codec.specs.Grammar.{IsNumber, IsTicks, IsInsert, IsCancel, HasLoop, HasCommand, SpellsInsert, SpellsInsertIn, IsCue, IsWhole, IsVersioned, IsClearCommand, Spells}
use Rattle.scte35_codec.specs.Spelling.{head_bytes, ticks_bytes, avail_descriptor_bytes, loop_bytes, start_bytes, end_bytes, unchecked_bytes, cue_bytes, told_of, Fits}
use Rattle.scte35_codec.proofs.DescriptorLemmas.{avail_is}
use Rattle.scte35_codec.proofs.SpellingLemmas.{avails_length}
use Rattle.scte35_codec.proofs.GrammarLemmas.{reads_back}

-- ---- numbers

number_written : (n x : ℕ) (rest : List ℕ) → x < 256 ^ n → number_of n (big_bytes n x ++ rest) ≡ x
unfolding number_of
number_written n x rest lt = big_number-reads_back n x rest lt

number2 : (x : ℕ) → x < 65536 → IsNumber 2 x (big_bytes 2 x)
number2 x lt = record { size = refl; worth = number_written 2 x [] (omega arith) }

number4 : (x : ℕ) → x < 2 ^ 32 → IsNumber 4 x (big_bytes 4 x)
number4 x lt = record { size = refl; worth = number_written 4 x [] (omega arith) }

ticks : (t : ℕ) → t < 2 ^ 33 → IsTicks true t (ticks_bytes t)
ticks t lt =
    let n = 127 * 2 ^ 33 + t in
    let worth : number_of 5 (big_bytes 5 n) ≡ n = number_written 5 n [] (omega arith) in
    record {
      size = refl;
      flagged = eq-eqb (n / 2 ^ 32 % 256 / 128 % 2) 1 (omega arith);
      worth = ap (λ (x : ℕ). x % 2 ^ 33) worth ∙ omega arith;
    }

-- ---- the head

module _ (command descriptors : ℕ) (rest : List ℕ) (c : command ≤ 20) (d : descriptors ≤ 140) (size : length rest ≡ command + descriptors + 6) where
  length_written : section_length (head_bytes command descriptors ++ rest) ≡ 17 + command + descriptors
  length_written =
      let n = 0x3000 + (17 + command + descriptors) in
      let stated : n / 256 % 256 % 16 * 256 + n % 256 ≡ 17 + command + descriptors = omega arith in
      stated

  stated_written : splice_command_length (head_bytes command descriptors ++ rest) ≡ command
  unfolding splice_command_length
  stated_written =
      let n = 0xFFF000 + command in
      let read = number_written 3 n (drop 13 (head_bytes command descriptors ++ rest)) (omega arith) in
      ap (λ (x : ℕ). x % 4096) read ∙ omega arith

  clear_written : IsClearCommand 5 (head_bytes command descriptors ++ rest)
  clear_written =
      let long : length (head_bytes command descriptors ++ rest) ≡ 14 + length rest = omega arith in
      let stated = length_written in
      let cue : IsCue (head_bytes command descriptors ++ rest) = record { size = omega arith; table_id = refl } in
      let whole : IsWhole (head_bytes command descriptors ++ rest) = record { cue = cue; size = omega arith } in
      let versioned : IsVersioned (head_bytes command descriptors ++ rest) = record { section = whole; protocol_version = refl } in
      record { section = versioned; encrypted_packet = refl; splice_command_type = refl }

adjustment_written : (command descriptors : ℕ) (rest : List ℕ) → pts_adjustment (head_bytes command descriptors ++ rest) ≡ 0
unfolding pts_adjustment number_of
adjustment_written command descriptors rest = refl

part_written : (command descriptors : ℕ) (part check : List ℕ) → length check ≡ 4 → command_part (head_bytes command descriptors ++ (part ++ check)) ≡ part
unfolding command_part
part_written command descriptors part check four =
    let n : length part ≡ length (part ++ check) - 4 = omega (arith, length-append part check) in
    take_at part check (length (part ++ check) - 4) n

-- a section of our own, by what its command spells
abbrev pub section : ℕ → ℕ → List ℕ → List ℕ → List ℕ → List ℕ
section command descriptors text loop check = head_bytes command descriptors ++ text ++ loop ++ check

pub section_grouped : (command descriptors : ℕ) (text loop check : List ℕ) → head_bytes command descriptors ++ ((text ++ loop) ++ check) ≡ section command descriptors text loop check
section_grouped command descriptors text loop check =
    sym (append_assoc (head_bytes command descriptors) (text ++ loop) check) ∙ ap (λ (xs : List ℕ). xs ++ check) (sym (append_assoc (head_bytes command descriptors) text loop))

pub section_spelled : (read : CueReading) (command descriptors : ℕ) (text loop check : List ℕ) → command ≤ 20 → descriptors ≤ 140 → length text ≡ command → length loop ≡ 2 + descriptors → length check ≡ 4
    → SpellsInsert read 0 command (text ++ loop) → IsClearCommand 5 (section command descriptors text loop check) × SpellsInsertIn (section command descriptors text loop check) read
section_spelled read command descriptors text loop check c d t l four s =
    let rest = (text ++ loop) ++ check in
    let grouped = section_grouped command descriptors text loop check in
    let size : length rest ≡ command + descriptors + 6 = omega (arith, length-append (text ++ loop) check, length-append text loop) in
    let clear = clear_written command descriptors rest c d size in
    let stated = stated_written command descriptors rest c d size in
    let adjustment = adjustment_written command descriptors rest in
    let part = part_written command descriptors (text ++ loop) check four in
    let told : SpellsInsertIn (head_bytes command descriptors ++ rest) read =
    subst (λ (n : ℕ). SpellsInsert read n (splice_command_length (head_bytes command descriptors ++ rest)) (command_part (head_bytes command descriptors ++ rest))) (sym adjustment)
    (subst (λ (n : ℕ). SpellsInsert read 0 n (command_part (head_bytes command descriptors ++ rest))) (sym stated)
    (subst (λ (xs : List ℕ). SpellsInsert read 0 command xs) (sym part) s)) in
    subst (λ (xs : List ℕ). IsClearCommand 5 xs × SpellsInsertIn xs read) grouped (clear, told)

-- ---- the loop

abbrev avail_descriptor : ℕ → SpliceDescriptor
avail_descriptor id = record { tag = 0; body = 0x43 ∷ 0x55 ∷ 0x45 ∷ 0x49 ∷ big_bytes 4 id }

mark_written : (id : ℕ) → number_of 4 (0x43 ∷ 0x55 ∷ 0x45 ∷ 0x49 ∷ big_bytes 4 id) ≡ 0x43554549
unfolding number_of
mark_written id = refl

id_written : (id : ℕ) → id < 2 ^ 32 → avail_id (avail_descriptor id) ≡ Some id
id_written id lt = avail_is 0 (avail_descriptor id).body refl refl (mark_written id) ∙ ap (λ (n : ℕ). Some n) (number_written 4 id [] (omega arith))

ids_written : (ids : List ℕ) → AllByRecursion (λ id. id < 2 ^ 32) ids → avails_of (map avail_descriptor ids) ≡ ids
ids_written [] fits = refl
ids_written (id ∷ ids) fits =
    let others = ids_written ids fits.1 in
    ap (λ (o : Option ℕ). cons_option o (avails_of (map avail_descriptor ids))) (id_written id fits.0) ∙ ap (λ (xs : List ℕ). id ∷ xs) others

bytes_written : (ids : List ℕ) → flat_map descriptor_bytes (map avail_descriptor ids) ≡ flat_map avail_descriptor_bytes ids
bytes_written [] = refl
bytes_written (id ∷ ids) =
    flat_map-cons descriptor_bytes (avail_descriptor id) (map avail_descriptor ids)
    ∙ ap (λ (xs : List ℕ). avail_descriptor_bytes id ++ xs) (bytes_written ids)
    ∙ sym (flat_map-cons avail_descriptor_bytes id ids)

loop_written : (ids : List ℕ) → length ids < 15 → HasLoop (map avail_descriptor ids) (loop_bytes ids)
loop_written ids few =
    let loop = flat_map avail_descriptor_bytes ids in
    let same = bytes_written ids in
    let size = avails_length ids in
    let long : length (flat_map descriptor_bytes (map avail_descriptor ids)) ≡ 10 * length ids = ap length same ∙ size in
    record {
      size = big_bytes 2 (10 * length ids);
      passed = [];
      whole = ap (λ (xs : List ℕ). big_bytes 2 (10 * length ids) ++ xs) (sym same ∙ sym (append-nil (flat_map descriptor_bytes (map avail_descriptor ids))));
      descriptor_loop_length = subst (λ (n : ℕ). IsNumber 2 n (big_bytes 2 (10 * length ids))) (sym long) (number2 (10 * length ids) (omega arith));
    }

pub loop_length : (ids : List ℕ) → length (loop_bytes ids) ≡ 2 + 10 * length ids
loop_length ids = omega (arith, avails_length ids)

-- ---- the commands

abbrev started : ℕ → ℕ → ℕ → ℕ → ℕ → ℕ → SpliceInsert
started event time duration program avail expected =
    record { event = event; out = true; time = Some time; length = Some (true, duration); program = program; avail = avail; expected = expected }

start_is : (event time duration program avail expected : ℕ) → event < 2 ^ 32 → time < 2 ^ 33 → duration < 2 ^ 33 → program < 2 ^ 16 → IsInsert (started event time duration program avail expected) (start_bytes event time duration program avail expected)
start_is event time duration program avail expected e t d p = record {
  event = big_bytes 4 event;
  indicator = 0x7F;
  flags = 0xEF;
  time = ticks_bytes time;
  duration = ticks_bytes duration;
  program = big_bytes 2 program;
  whole = refl;
  splice_event_id = number4 event e;
  splice_event_cancel_indicator = refl;
  out_of_network_indicator = refl;
  program_splice_flag = refl;
  splice_time = ticks time t;
  break_duration = ticks duration d;
  unique_program_id = number2 program p;
}

abbrev ended : ℕ → ℕ → SpliceInsert
ended event time = record { event = event; out = false; time = Some time; length = None; program = 0; avail = 0; expected = 0 }

end_is : (event time : ℕ) → event < 2 ^ 32 → time < 2 ^ 33 → IsInsert (ended event time) (end_bytes event time)
end_is event time e t = record {
  event = big_bytes 4 event;
  indicator = 0x7F;
  flags = 0x4F;
  time = ticks_bytes time;
  duration = [];
  program = 0 ∷ 0 ∷ [];
  whole = refl;
  splice_event_id = number4 event e;
  splice_event_cancel_indicator = refl;
  out_of_network_indicator = refl;
  program_splice_flag = refl;
  splice_time = ticks time t;
  break_duration = refl;
  unique_program_id = number2 0 (omega arith);
}

cancel_is : (event : ℕ) → event < 2 ^ 32 → IsCancel event (big_bytes 4 event ++ (0xFF ∷ []))
cancel_is event e = record { id = big_bytes 4 event; indicator = 0xFF; whole = refl; splice_event_id = number4 event e; splice_event_cancel_indicator = refl }

abbrev time_later : Option ℕ → Option ℕ
time_later time = option_map (λ t. (t + 0) % 2 ^ 33) time

not_later : (i : SpliceInsert) (time : ℕ) → i.time ≡ Some time → time < 2 ^ 33 → i ≡ later 0 i
not_later i time e lt =
    let same : time ≡ (time + 0) % 2 ^ 33 = omega arith in
    let moved : i.time ≡ time_later i.time = e ∙ ap (λ (t : ℕ). Some t) same ∙ sym (ap time_later e) in
    ap (λ (o : Option ℕ). record i { time = o }) moved

-- ---- the three cues

check_length : (n : ℕ) → length (big_bytes 4 n) ≡ 4
check_length n = refl

pub cue_spelled : (cue : CueOut) → Fits cue → Spells (told_of cue) (cue_bytes cue)
unfolding cue_bytes unchecked_bytes
cue_spelled (Start event time duration program avail expected avails) fits =
    let ids = avails.items in
    let raw = started event time duration program avail expected in
    let text = start_bytes event time duration program avail expected in
    let few = fits.4 in
    let check = big_bytes 4 (crc (head_bytes 20 (10 * length ids) ++ text ++ loop_bytes ids)) in
    let has : HasCommand 20 (IsInsert raw) (map avail_descriptor ids) (text ++ loop_bytes ids) = record {
      command = text;
      rest = loop_bytes ids;
      whole = refl;
      is = start_is event time duration program avail expected fits.0 fits.1 fits.2 fits.3;
      length_stated = inr refl;
      loop = loop_written ids few;
    } in
    section_spelled (insert raw ids) 20 (10 * length ids) text (loop_bytes ids) check (omega arith) (omega arith) refl (loop_length ids) refl
    (raw, map avail_descriptor ids, has, not_later raw time refl fits.1, sym (ids_written ids fits.5))
cue_spelled (Cancel event) fits =
    let text = big_bytes 4 event ++ (0xFF ∷ []) in
    let check = big_bytes 4 (crc (head_bytes 5 0 ++ text ++ loop_bytes [])) in
    let has : HasCommand 5 (IsCancel event) [] (text ++ loop_bytes []) = record {
      command = text;
      rest = loop_bytes [];
      whole = refl;
      is = cancel_is event fits;
      length_stated = inr refl;
      loop = loop_written [] (omega arith);
    } in
    section_spelled (cancel event) 5 0 text (loop_bytes []) check (omega arith) (omega arith) refl refl refl ([], has)
cue_spelled (End event time) fits =
    let raw = ended event time in
    let text = end_bytes event time in
    let check = big_bytes 4 (crc (head_bytes 15 0 ++ text ++ loop_bytes [])) in
    let has : HasCommand 15 (IsInsert raw) [] (text ++ loop_bytes []) = record {
      command = text;
      rest = loop_bytes [];
      whole = refl;
      is = end_is event time fits.0 fits.1;
      length_stated = inr refl;
      loop = loop_written [] (omega arith);
    } in
    section_spelled (insert raw []) 15 0 text (loop_bytes []) check (omega arith) (omega arith) refl refl refl
    (raw, [], has, not_later raw time refl fits.1, refl)

pub cue_back : (cue : CueOut) → Fits cue → Spells (told_of cue) (cue_bytes cue) × (cue_of (cue_bytes cue) ≡ told_of cue)
cue_back cue fits =
    let s = cue_spelled cue fits in
    (s, reads_back (told_of cue) (cue_bytes cue) s)
