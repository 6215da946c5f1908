-- A single_operation_message, by its fields and by its bytes.
use Rattle.std.proofs.Common.{◌≡◌, ◌≢◌, ℕ, ◌+◌, ◌≤◌, false, List, [], ◌∷◌, ◌++◌, length, drop, slice_index, refl, sym, ap, subst, ◌∙◌, arith}
use Rattle.std.specs.Prelude.{nat_le, ◌==◌, if◌then◌else◌}
use Rattle.std.proofs.lemmas.List.{length-drop, length-append, append-nil}
use Rattle.byteorder.specs.Endian.{big_bytes}
use Rattle.scte104_codec.specs.declared.head.Head.{Head}
use Rattle.wire_fields.specs.Numbers.{number16_at, AreBytes}
use Rattle.scte104_codec.specs.Head.{head_at}
use Rattle.scte104_codec.specs.Spelling.{SingleOperation, IsSingleOperation, single_operation_message}
use Rattle.scte104_codec.specs.Reading.{MessageReading, single_fields_of, init, alive, other, bad, single_operation_of, message_of}
use Rattle.scte104_codec.specs.declared.framing.Frame.TheVariants.{Whole}
use Rattle.scte104_codec.specs.Framing.{frame_of}
use Rattle.scte104_codec.proofs.FrameLemmas.{framed, least_at_most}
use Rattle.wire_fields.proofs.Cells.{field16, two_at, one_at, number16_fits}
use Rattle.scte104_codec.proofs.HeadLemmas.{head_back, head_fits, head_is}

-- ---- the fields of a message that is spelled, whatever follows it

pub record SingleFields (m : SingleOperation) (bytes : List ℕ) : Type 0 where
  pub op : number16_at bytes 0 ≡ m.op
  pub size : number16_at bytes 2 ≡ 13 + length m.body
  pub result : number16_at bytes 4 ≡ m.result
  pub result_extension : number16_at bytes 6 ≡ m.result_extension
  pub protocol_version : slice_index bytes 8 ≡ m.protocol_version
  pub head : head_at bytes 9 ≡ m.head

pub single_fields : (m : SingleOperation) (more : List ℕ) → IsSingleOperation m → SingleFields m (single_operation_message m ++ more)
single_fields m more fits =
    let bytes = single_operation_message m ++ more in
    record {
      op = field16 bytes 0 m.op (drop 2 bytes) refl (omega (arith, fits.op));
      size = field16 bytes 2 (13 + length m.body) (drop 4 bytes) refl fits.size;
      result = field16 bytes 4 m.result (drop 6 bytes) refl fits.result;
      result_extension = field16 bytes 6 m.result_extension (drop 8 bytes) refl fits.result_extension;
      protocol_version = refl;
      head = head_back bytes 9 m.head (drop 13 bytes) refl refl refl fits.head;
    }

pub single_length : (m : SingleOperation) → length (single_operation_message m) ≡ 13 + length m.body
single_length m = omega arith

-- ---- a message from its bytes

pub single_is : (bytes : List ℕ) → 13 ≤ length bytes → number16_at bytes 2 ≡ length bytes → AreBytes bytes → bytes ≡ single_operation_message (single_fields_of bytes)
single_is bytes le size h =
    let op = two_at bytes 0 (omega arith) h in
    let sized = two_at bytes 2 (omega arith) h in
    let result = two_at bytes 4 (omega arith) h in
    let extension = two_at bytes 6 (omega arith) h in
    let version = one_at bytes 8 (omega arith) in
    let head = head_is bytes 9 (omega arith) h in
    let n : number16_at bytes 2 ≡ 13 + length (drop 13 bytes) = omega (arith, length-drop 13 bytes) in
    let sized' : drop 2 bytes ≡ big_bytes 2 (13 + length (drop 13 bytes)) ++ drop 4 bytes = subst (λ (k : ℕ). drop 2 bytes ≡ big_bytes 2 k ++ drop 4 bytes) n sized in
    op ∙ ap (λ (xs : List ℕ). big_bytes 2 (number16_at bytes 0) ++ xs) (sized'
    ∙ ap (λ (xs : List ℕ). big_bytes 2 (13 + length (drop 13 bytes)) ++ xs) (result
    ∙ ap (λ (xs : List ℕ). big_bytes 2 (number16_at bytes 4) ++ xs) (extension
    ∙ ap (λ (xs : List ℕ). big_bytes 2 (number16_at bytes 6) ++ xs) (version
    ∙ ap (λ (xs : List ℕ). slice_index bytes 8 ∷ xs) head))))

pub single_fits : (bytes : List ℕ) → 13 ≤ length bytes → number16_at bytes 2 ≡ length bytes → number16_at bytes 0 ≢ 65535 → AreBytes bytes → IsSingleOperation (single_fields_of bytes)
single_fits bytes le size op h =
    let wide = number16_fits bytes 0 h in
    let sized = number16_fits bytes 2 h in
    record {
      op = omega arith;
      result = number16_fits bytes 4 h;
      result_extension = number16_fits bytes 6 h;
      protocol_version = h 8;
      head = head_fits bytes 9 h;
      size = omega (arith, length-drop 13 bytes);
    }

-- ---- how it is read

abbrev pub single_reading : ℕ → Head → List ℕ → MessageReading
single_reading op head body =
    if op == 1 then init head
    else (if op == 3 then (if nat_le (length body) 8 then alive head body else bad false head) else other head)

pub single_read : (bytes : List ℕ) → number16_at bytes 0 ≢ 65535 → message_of bytes ≡ single_reading (number16_at bytes 0) (head_at bytes 9) (drop 13 bytes)
unfolding message_of single_operation_of
single_read bytes op = grind (arith, op)

-- ---- where it ends

pub single_framed : (m : SingleOperation) (more : List ℕ) → IsSingleOperation m → frame_of (single_operation_message m ++ more) ≡ Whole (length (single_operation_message m))
single_framed m more fits =
    let bytes = single_operation_message m ++ more in
    let f = single_fields m more fits in
    let long : length bytes ≡ length (single_operation_message m) + length more = length-append (single_operation_message m) more in
    let own = single_length m in
    let least = least_at_most bytes in
    framed bytes (length (single_operation_message m)) (omega arith) (f.size ∙ sym own) (omega arith) (omega arith)

-- ---- two with the same bytes are one

rebuilt : (m : SingleOperation) (bytes : List ℕ) → SingleFields m bytes → drop 13 bytes ≡ m.body → single_fields_of bytes ≡ m
rebuilt m bytes f body = rw (f.op, f.result, f.result_extension, f.protocol_version, f.head, body) refl

pub single_back : (m : SingleOperation) → IsSingleOperation m → single_fields_of (single_operation_message m) ≡ m
single_back m fits =
    let f = subst (λ (xs : List ℕ). SingleFields m xs) (append-nil (single_operation_message m)) (single_fields m [] fits) in
    rebuilt m (single_operation_message m) f refl

pub single_same : (m n : SingleOperation) → IsSingleOperation m → IsSingleOperation n → single_operation_message m ≡ single_operation_message n → m ≡ n
single_same m n a b e = sym (single_back m a) ∙ ap single_fields_of e ∙ single_back n b
