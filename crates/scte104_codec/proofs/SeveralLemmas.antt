-- A multiple_operation_message, by its fields and by its bytes.
use Rattle.std.proofs.Common.{◌≡◌, ℕ, ◌+◌, ◌≤◌, List, [], ◌∷◌, ◌++◌, length, drop, slice_index, Option, Some, refl, sym, ap, subst, ◌∙◌, arith}
use Rattle.std.specs.Prelude.{◌==◌, if◌then◌else◌}
use Rattle.std.proofs.lemmas.List.{length-drop, length-append}
use Rattle.byteorder.specs.Endian.{big_bytes}
use Rattle.scte104_codec.specs.declared.framing.Frame.TheVariants.{Whole}
use Rattle.wire_fields.specs.Numbers.{number16_at, AreBytes}
use Rattle.scte104_codec.specs.Framing.{frame_of}
use Rattle.scte104_codec.specs.Head.{head_at, head_bytes}
use Rattle.scte104_codec.specs.Operations.{Operation, operations_in}
use Rattle.scte104_codec.specs.Spelling.{MultipleOperation, IsMultipleOperation, multiple_operation_message}
use Rattle.scte104_codec.specs.Reading.{multiple_operation_of, message_of}
use Rattle.scte104_codec.proofs.FrameLemmas.{framed, least_several}
use Rattle.wire_fields.proofs.Cells.{field16, two_at, one_at, number16_fits}
use Rattle.scte104_codec.proofs.HeadLemmas.{head_back, head_fits, head_is}

-- ---- the fields of a message that is spelled, whatever follows it

pub record SeveralFields (m : MultipleOperation) (bytes : List ℕ) : Type 0 where
  pub mark : number16_at bytes 0 ≡ 65535
  pub size : number16_at bytes 2 ≡ 11 + length m.contents
  pub protocol_version : slice_index bytes 4 ≡ m.protocol_version
  pub head : head_at bytes 5 ≡ m.head
  pub cue_version : slice_index bytes 9 ≡ m.cue_version
  pub time_type : slice_index bytes 10 ≡ m.time_type

pub several_fields : (m : MultipleOperation) (more : List ℕ) → IsMultipleOperation m → SeveralFields m (multiple_operation_message m ++ more)
several_fields m more fits =
    let bytes = multiple_operation_message m ++ more in
    record {
      mark = field16 bytes 0 65535 (drop 2 bytes) refl (omega arith);
      size = field16 bytes 2 (11 + length m.contents) (drop 4 bytes) refl fits.size;
      protocol_version = refl;
      head = head_back bytes 5 m.head (drop 9 bytes) refl refl refl fits.head;
      cue_version = refl;
      time_type = refl;
    }

pub several_length : (m : MultipleOperation) → length (multiple_operation_message m) ≡ 11 + length m.contents
several_length m = omega arith

pub several_framed : (m : MultipleOperation) (more : List ℕ) → IsMultipleOperation m → frame_of (multiple_operation_message m ++ more) ≡ Whole (length (multiple_operation_message m))
several_framed m more fits =
    let bytes = multiple_operation_message m ++ more in
    let f = several_fields m more fits in
    let long : length bytes ≡ length (multiple_operation_message m) + length more = length-append (multiple_operation_message m) more in
    let own = several_length m in
    let least = least_several bytes f.mark in
    let some = fits.some in
    framed bytes (length (multiple_operation_message m)) (omega arith) (f.size ∙ sym own) (omega arith) (omega arith)

-- ---- a message from its bytes

abbrev pub several_from : List ℕ → MultipleOperation
several_from bytes = record { protocol_version = slice_index bytes 4; head = head_at bytes 5; cue_version = slice_index bytes 9; time_type = slice_index bytes 10; contents = drop 11 bytes }

pub several_is : (bytes : List ℕ) → 12 ≤ length bytes → number16_at bytes 0 ≡ 65535 → number16_at bytes 2 ≡ length bytes → AreBytes bytes → bytes ≡ multiple_operation_message (several_from bytes)
several_is bytes le mark size h =
    let front = two_at bytes 0 (omega arith) h in
    let sized = two_at bytes 2 (omega arith) h in
    let version = one_at bytes 4 (omega arith) in
    let head = head_is bytes 5 (omega arith) h in
    let cue = one_at bytes 9 (omega arith) in
    let time = one_at bytes 10 (omega arith) in
    let n : number16_at bytes 2 ≡ 11 + length (drop 11 bytes) = omega (arith, length-drop 11 bytes) in
    let front' : bytes ≡ big_bytes 2 65535 ++ drop 2 bytes = subst (λ (k : ℕ). bytes ≡ big_bytes 2 k ++ drop 2 bytes) mark front in
    let sized' : drop 2 bytes ≡ big_bytes 2 (11 + length (drop 11 bytes)) ++ drop 4 bytes = subst (λ (k : ℕ). drop 2 bytes ≡ big_bytes 2 k ++ drop 4 bytes) n sized in
    front' ∙ ap (λ (xs : List ℕ). big_bytes 2 65535 ++ xs) (sized'
    ∙ ap (λ (xs : List ℕ). big_bytes 2 (11 + length (drop 11 bytes)) ++ xs) (version
    ∙ ap (λ (xs : List ℕ). slice_index bytes 4 ∷ xs) (head
    ∙ ap (λ (xs : List ℕ). head_bytes (head_at bytes 5) ++ xs) (cue
    ∙ ap (λ (xs : List ℕ). slice_index bytes 9 ∷ xs) time))))

pub several_fits : (bytes : List ℕ) → 12 ≤ length bytes → number16_at bytes 2 ≡ length bytes → AreBytes bytes → IsMultipleOperation (several_from bytes)
several_fits bytes le size h =
    let sized = number16_fits bytes 2 h in
    record {
      protocol_version = h 4;
      head = head_fits bytes 5 h;
      cue_version = h 9;
      time_type = h 10;
      some = omega (arith, length-drop 11 bytes);
      size = omega (arith, length-drop 11 bytes);
    }

-- ---- how it is read

abbrev pub operations_told : ℕ → List ℕ → Option (List Operation)
operations_told time_type contents = if time_type == 0 then operations_in (slice_index contents 0) (drop 1 contents) else Some []

pub several_read : (bytes : List ℕ) → number16_at bytes 0 ≡ 65535 → message_of bytes ≡ multiple_operation_of bytes
unfolding message_of
several_read bytes mark = rw mark refl
