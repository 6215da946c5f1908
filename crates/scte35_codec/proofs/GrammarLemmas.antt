-- The two laws of reading: what is read is spelled so, and what is spelled so is read.
use Rattle.std.proofs.Common.{◌≡◌, ◌≢◌, ℕ, ◌+◌, Bool, true, false, List, ◌++◌, length, slice_index, Option, Some, None, refl, sym, ap, subst, ◌∙◌, arith, inl, inr, ◌⊎◌, eq-eqb}
use Rattle.std.specs.Prelude.{not, ◌||◌, nat_lt, ◌==◌, if◌then◌else◌}
use Rattle.std.proofs.lemmas.Bool.{cases_lt, cases_eq, ltb-false, le-ltb, eqb-true, ne_eqb}
use Rattle.std.proofs.lemmas.List.{length-append}
use Rattle.std.proofs.Math.Bool.{or-true}
use Rattle.scte35_codec.specs.declared.insert.SpliceInsert.{SpliceInsert}
use Rattle.scte35_codec.specs.declared.insert.Command.{Command}
use Rattle.scte35_codec.specs.declared.insert.Command.TheVariants.{Cancelled, Components, Inserted}
use Rattle.scte35_codec.specs.declared.cue.CueFault.TheVariants as faults
use Rattle.scte35_codec.specs.Bits.{bit_of}
use Rattle.scte35_codec.specs.Descriptors.{SpliceDescriptor, descriptor_loop_at, avails_of}
use Rattle.scte35_codec.specs.Insert.{splice_insert_at, later}
use Rattle.psi_section.specs.Sections.{section_length}
use Rattle.scte35_codec.specs.Reading.{CueReading, insert, cancel, null, other, bad, pts_adjustment, splice_command_length, command_part, behind_command, with_loop, told_by, splice_insert_of, cue_of}
use Rattle.scte35_codec.specs.Grammar.{IsInsert, IsCancel, HasLoop, HasCommand, SpellsInsert, SpellsInsertIn, IsCue, IsWhole, IsVersioned, IsClearCommand, Spells}
use Rattle.scte35_codec.proofs.FieldLemmas.{HasFront}
use Rattle.scte35_codec.proofs.InsertLemmas.{insert_sound, cancel_back, insert_back, components_back}
use Rattle.scte35_codec.proofs.LoopLemmas.{loop_sound, loop_back}

-- ---- what stands behind a command

record Behind (stated size : ℕ) (rest : List ℕ) (ds : List SpliceDescriptor) : Type 0 where
  pub length_stated : (stated ≡ 4095) ⊎ (stated + length rest ≡ size)
  pub loop : HasLoop ds rest

behind_by : (b c : Bool) (stated size : ℕ) (rest : List ℕ) (ds : List SpliceDescriptor) → (stated == 4095) ≡ b → (stated + length rest == size) ≡ c
    → (if b || c then descriptor_loop_at rest else None) ≡ Some ds → Behind stated size rest ds
behind_by true c stated size rest ds f g h = record { length_stated = inl (eqb-true stated 4095 f); loop = loop_sound rest ds h }
behind_by false true stated size rest ds f g h = record { length_stated = inr (eqb-true (stated + length rest) size g); loop = loop_sound rest ds h }
behind_by false false stated size rest ds f g h = absurd cc

behind_sound : (stated size : ℕ) (rest : List ℕ) (ds : List SpliceDescriptor) → behind_command stated size rest ≡ Some ds → Behind stated size rest ds
unfolding behind_command
behind_sound stated size rest ds h = behind_by (stated == 4095) (stated + length rest == size) stated size rest ds refl refl h

behind_back : (stated size : ℕ) (rest : List ℕ) (ds : List SpliceDescriptor) → (stated ≡ 4095) ⊎ (stated + length rest ≡ size) → HasLoop ds rest → behind_command stated size rest ≡ Some ds
unfolding behind_command
behind_back stated size rest ds (inl e) loop = rw e (loop_back rest ds loop)
behind_back stated size rest ds (inr e) loop =
    rw (eq-eqb (stated + length rest) size e, or-true (stated == 4095)) (loop_back rest ds loop)

has_command : (stated : ℕ) (Is : List ℕ → Type 0) (ds : List SpliceDescriptor) (part rest : List ℕ) → HasFront Is part rest → Behind stated (length part) rest ds → HasCommand stated Is ds part
has_command stated Is ds part rest taken behind = record {
  command = taken.text;
  rest = rest;
  whole = taken.whole;
  is = taken.is;
  length_stated = elim behind.length_stated [
    | inl e ↦ inl e
    | inr e ↦ inr (omega (arith, e, ap length taken.whole, length-append taken.text rest))
  ];
  loop = behind.loop;
}

stated_back : (stated : ℕ) (part command rest : List ℕ) → part ≡ command ++ rest → (stated ≡ 4095) ⊎ (stated ≡ length command) → (stated ≡ 4095) ⊎ (stated + length rest ≡ length part)
stated_back stated part command rest e (inl s) = inl s
stated_back stated part command rest e (inr s) = inr (omega (arith, s, ap length e, length-append command rest))

-- ---- splice_insert() and what follows it

abbrev Told : ℕ → ℕ → List ℕ → CueReading → Type 0
Told adjustment stated part read = (read ≡ bad faults.Command) ⊎ SpellsInsert read adjustment stated part

module _ (adjustment stated : ℕ) (part : List ℕ) where
  cancel_told : (event : ℕ) (rest : List ℕ) (o : Option (List SpliceDescriptor)) → HasFront (IsCancel event) part rest → behind_command stated (length part) rest ≡ o
      → Told adjustment stated part (with_loop (λ ds. cancel event) o)
  cancel_told event rest None taken e = inl refl
  cancel_told event rest (Some ds) taken e = inr (ds, has_command stated (IsCancel event) ds part rest taken (behind_sound stated (length part) rest ds e))

  insert_told : (i : SpliceInsert) (rest : List ℕ) (o : Option (List SpliceDescriptor)) → HasFront (IsInsert i) part rest → behind_command stated (length part) rest ≡ o
      → Told adjustment stated part (with_loop (λ ds. insert (later adjustment i) (avails_of ds)) o)
  insert_told i rest None taken e = inl refl
  insert_told i rest (Some ds) taken e = inr (i, ds, has_command stated (IsInsert i) ds part rest taken (behind_sound stated (length part) rest ds e), refl, refl)

  told_sound_by : (r : Option (Command × List ℕ)) → splice_insert_at part ≡ r → Told adjustment stated part (told_by adjustment stated (length part) r)
  told_sound_by None e = inl refl
  told_sound_by (Some (Components, rest)) e = inr (insert_sound Components part rest e)
  told_sound_by (Some (Cancelled event, rest)) e = cancel_told event rest (behind_command stated (length part) rest) (insert_sound (Cancelled event) part rest e) refl
  told_sound_by (Some (Inserted i, rest)) e = insert_told i rest (behind_command stated (length part) rest) (insert_sound (Inserted i) part rest e) refl

  told_back : (read : CueReading) → SpellsInsert read adjustment stated part → told_by adjustment stated (length part) (splice_insert_at part) ≡ read
  told_back (insert i avails) s =
      let raw = s.0 in
      let ds = s.1 in
      let has = s.2 in
      let command = ap splice_insert_at has.whole ∙ insert_back raw has.command has.rest has.is in
      let loop = behind_back stated (length part) has.rest ds (stated_back stated part has.command has.rest has.whole has.length_stated) has.loop in
      rw (command, loop, s.3, s.4) refl
  told_back (cancel event) s =
      let ds = s.0 in
      let has = s.1 in
      let command = ap splice_insert_at has.whole ∙ cancel_back event has.command has.rest has.is in
      let loop = behind_back stated (length part) has.rest ds (stated_back stated part has.command has.rest has.whole has.length_stated) has.loop in
      rw (command, loop) refl
  told_back other s =
      let command = components_back part s in
      rw command.1 refl
  told_back null s = absurd s
  told_back (bad fault) s = absurd s

of_sound : (bytes : List ℕ) → (splice_insert_of bytes ≡ bad faults.Command) ⊎ SpellsInsertIn bytes (splice_insert_of bytes)
unfolding splice_insert_of
of_sound bytes = told_sound_by (pts_adjustment bytes) (splice_command_length bytes) (command_part bytes) (splice_insert_at (command_part bytes)) refl

of_back : (bytes : List ℕ) (read : CueReading) → SpellsInsertIn bytes read → splice_insert_of bytes ≡ read
unfolding splice_insert_of
of_back bytes read s = told_back (pts_adjustment bytes) (splice_command_length bytes) (command_part bytes) read s

-- ---- the fields before it

abbrev kind_told : ℕ → List ℕ → CueReading
kind_told kind bytes = if kind == 0 then null else (if kind == 5 then splice_insert_of bytes else other)

no_cue_by : (b c : Bool) (bytes : List ℕ) → nat_lt (length bytes) 20 ≡ b → (slice_index bytes 0 == 252) ≡ c → (IsCue bytes → ⊥) → (b || not c) ≡ true
no_cue_by true c bytes f g wrong = refl
no_cue_by false false bytes f g wrong = refl
no_cue_by false true bytes f g wrong = absurd (wrong (record { size = ltb-false (length bytes) 20 f; table_id = eqb-true (slice_index bytes 0) 252 g }))

at_no_cue : (bytes : List ℕ) → (IsCue bytes → ⊥) → cue_of bytes ≡ bad faults.NotCue
unfolding cue_of
at_no_cue bytes wrong = rw (no_cue_by (nat_lt (length bytes) 20) (slice_index bytes 0 == 252) bytes refl refl wrong) refl

cue_first : (bytes : List ℕ) → IsCue bytes → (nat_lt (length bytes) 20 || not (slice_index bytes 0 == 252)) ≡ false
cue_first bytes is = rw (le-ltb (length bytes) 20 is.size, is.table_id) refl

at_length : (bytes : List ℕ) → IsCue bytes → (section_length bytes + 3 ≢ length bytes) → cue_of bytes ≡ bad faults.Length
unfolding cue_of
at_length bytes is wrong = rw (cue_first bytes is, ne_eqb (section_length bytes + 3) (length bytes) wrong) refl

at_version : (bytes : List ℕ) → IsWhole bytes → slice_index bytes 3 ≢ 0 → cue_of bytes ≡ bad faults.Version
unfolding cue_of
at_version bytes is wrong = rw (cue_first bytes is.cue, eq-eqb (section_length bytes + 3) (length bytes) is.size, ne_eqb (slice_index bytes 3) 0 wrong) refl

at_encrypted : (bytes : List ℕ) → IsVersioned bytes → bit_of 7 (slice_index bytes 4) ≡ true → cue_of bytes ≡ bad faults.Encrypted
unfolding cue_of
at_encrypted bytes is e = rw (cue_first bytes is.section.cue, eq-eqb (section_length bytes + 3) (length bytes) is.section.size, eq-eqb (slice_index bytes 3) 0 is.protocol_version, e) refl

at_clear : (kind : ℕ) (bytes : List ℕ) → IsClearCommand kind bytes → cue_of bytes ≡ kind_told kind bytes
unfolding cue_of
at_clear kind bytes is =
    let v = is.section in
    let w = v.section in
    rw (cue_first bytes w.cue, eq-eqb (section_length bytes + 3) (length bytes) w.size, eq-eqb (slice_index bytes 3) 0 v.protocol_version, is.encrypted_packet, is.splice_command_type) refl

-- ---- what can be told of any bytes

cue_told : (bytes : List ℕ) → IsCue bytes ⊎ (IsCue bytes → ⊥)
cue_told bytes =
    elim (cases_lt (length bytes) 20) [
      | inl lt ↦ inr (λ (is : IsCue bytes). let le = is.size in omega arith)
      | inr le ↦ elim (cases_eq (slice_index bytes 0) 252) [
        | inl e ↦ inl (record { size = le; table_id = e })
        | inr wrong ↦ inr (λ (is : IsCue bytes). wrong is.table_id)
      ]
    ]

-- ---- what is read is spelled so

spelled_of : (bytes : List ℕ) (read : CueReading) → IsClearCommand 5 bytes → splice_insert_of bytes ≡ read → (read ≡ bad faults.Command) ⊎ SpellsInsertIn bytes read → Spells read bytes
spelled_of bytes (insert i avails) is e (inl c) = absurd cc
spelled_of bytes (insert i avails) is e (inr s) = (is, s)
spelled_of bytes (cancel event) is e (inl c) = absurd cc
spelled_of bytes (cancel event) is e (inr s) = (is, s)
spelled_of bytes null is e (inl c) = absurd cc
spelled_of bytes null is e (inr s) = absurd s
spelled_of bytes other is e (inl c) = absurd cc
spelled_of bytes other is e (inr s) = inl (is, s)
spelled_of bytes (bad fault) is e (inr s) = absurd s
spelled_of bytes (bad faults.Command) is e (inl c) = (is, λ (read : CueReading) s. nothing_bad read (sym (of_back bytes read s) ∙ e) s) where
  nothing_bad : (read : CueReading) → read ≡ bad faults.Command → SpellsInsertIn bytes read → ⊥
  nothing_bad (insert i avails) f s = cc
  nothing_bad (cancel event) f s = cc
  nothing_bad null f s = s
  nothing_bad other f s = cc
  nothing_bad (bad fault) f s = s
spelled_of bytes (bad faults.NotCue) is e (inl c) = absurd cc
spelled_of bytes (bad faults.Length) is e (inl c) = absurd cc
spelled_of bytes (bad faults.Version) is e (inl c) = absurd cc
spelled_of bytes (bad faults.Encrypted) is e (inl c) = absurd cc

clear_spelled : (kind : ℕ) (bytes : List ℕ) → IsClearCommand kind bytes → (kind ≡ 0) ⊎ (kind ≢ 0) → (kind ≡ 5) ⊎ (kind ≢ 5) → Spells (kind_told kind bytes) bytes
clear_spelled kind bytes is (inl zero_kind) five =
    let told : kind_told kind bytes ≡ null = rw zero_kind refl in
    subst (λ (read : CueReading). Spells read bytes) (sym told) (subst (λ (k : ℕ). IsClearCommand k bytes) zero_kind is)
clear_spelled kind bytes is (inr some) (inl five) =
    let told : kind_told kind bytes ≡ splice_insert_of bytes = rw five refl in
    let is5 : IsClearCommand 5 bytes = subst (λ (k : ℕ). IsClearCommand k bytes) five is in
    subst (λ (read : CueReading). Spells read bytes) (sym told) (spelled_of bytes (splice_insert_of bytes) is5 refl (of_sound bytes))
clear_spelled kind bytes is (inr some) (inr unlike) =
    let told : kind_told kind bytes ≡ other = rw (ne_eqb kind 0 some, ne_eqb kind 5 unlike) refl in
    subst (λ (read : CueReading). Spells read bytes) (sym told) (inr (kind, is, some, unlike))

versioned_spelled : (b : Bool) (bytes : List ℕ) → IsVersioned bytes → bit_of 7 (slice_index bytes 4) ≡ b → Spells (cue_of bytes) bytes
versioned_spelled true bytes is e = subst (λ (read : CueReading). Spells read bytes) (sym (at_encrypted bytes is e)) (is, e)
versioned_spelled false bytes is e =
    let kind = slice_index bytes 13 in
    let clear : IsClearCommand kind bytes = record { section = is; encrypted_packet = e; splice_command_type = refl } in
    subst (λ (read : CueReading). Spells read bytes) (sym (at_clear kind bytes clear)) (clear_spelled kind bytes clear (cases_eq kind 0) (cases_eq kind 5))

whole_spelled : (bytes : List ℕ) → IsWhole bytes → Spells (cue_of bytes) bytes
whole_spelled bytes is =
    elim (cases_eq (slice_index bytes 3) 0) [
      | inl e ↦ versioned_spelled (bit_of 7 (slice_index bytes 4)) bytes (record { section = is; protocol_version = e }) refl
      | inr wrong ↦ subst (λ (read : CueReading). Spells read bytes) (sym (at_version bytes is wrong)) (is, λ (v : IsVersioned bytes). wrong v.protocol_version)
    ]

pub is_spelled : (bytes : List ℕ) → Spells (cue_of bytes) bytes
is_spelled bytes =
    elim (cue_told bytes) [
      | inr wrong ↦ subst (λ (read : CueReading). Spells read bytes) (sym (at_no_cue bytes wrong)) wrong
      | inl is ↦ elim (cases_eq (section_length bytes + 3) (length bytes)) [
        | inl e ↦ whole_spelled bytes (record { cue = is; size = e })
        | inr wrong ↦ subst (λ (read : CueReading). Spells read bytes) (sym (at_length bytes is wrong)) (is, λ (w : IsWhole bytes). wrong w.size)
      ]
    ]

-- ---- what is spelled so is read

command_back : (bytes : List ℕ) (r : CueReading) → ((read : CueReading) → SpellsInsertIn bytes read → ⊥) → (r ≡ bad faults.Command) ⊎ SpellsInsertIn bytes r → r ≡ bad faults.Command
command_back bytes r none (inl e) = e
command_back bytes r none (inr s) = absurd (none r s)

pub reads_back : (read : CueReading) (bytes : List ℕ) → Spells read bytes → cue_of bytes ≡ read
reads_back (insert i avails) bytes s = at_clear 5 bytes s.0 ∙ of_back bytes (insert i avails) s.1
reads_back (cancel event) bytes s = at_clear 5 bytes s.0 ∙ of_back bytes (cancel event) s.1
reads_back null bytes s = at_clear 0 bytes s
reads_back other bytes (inl s) = at_clear 5 bytes s.0 ∙ of_back bytes other s.1
reads_back other bytes (inr s) = at_clear s.0 bytes s.1 ∙ rw (ne_eqb s.0 0 s.2, ne_eqb s.0 5 s.3) refl
reads_back (bad faults.NotCue) bytes s = at_no_cue bytes s
reads_back (bad faults.Length) bytes s = at_length bytes s.0 (λ e. s.1 (record { cue = s.0; size = e }))
reads_back (bad faults.Version) bytes s = at_version bytes s.0 (λ e. s.1 (record { section = s.0; protocol_version = e }))
reads_back (bad faults.Encrypted) bytes s = at_encrypted bytes s.0 s.1
reads_back (bad faults.Command) bytes s = at_clear 5 bytes s.0 ∙ command_back bytes (splice_insert_of bytes) s.1 (of_sound bytes)
