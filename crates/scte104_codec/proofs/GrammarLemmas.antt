-- What a message is read as is what its bytes spell, and nothing else.
use Rattle.std.proofs.Common.{◌≡◌, ◌≢◌, ℕ, ◌<◌, ◌≤◌, true, false, List, [], ◌∷◌, length, drop, slice_index, Option, Some, None, refl, sym, ap, subst, ◌∙◌, arith, inl, inr}
use Rattle.std.specs.List.{flat_map}
use Rattle.std.proofs.lemmas.List.{append-nil}
use Rattle.std.proofs.lemmas.Bool.{cases_eq, cases_lt}
use Rattle.scte104_codec.specs.declared.head.Head.{Head}
use Rattle.scte104_codec.specs.declared.framing.Frame.TheVariants.{Whole}
use Rattle.wire_fields.specs.Numbers.{number16_at, AreBytes}
use Rattle.scte104_codec.specs.Framing.{frame_of}
use Rattle.scte104_codec.specs.Head.{head_at}
use Rattle.scte104_codec.specs.Operations.{Operation, AreOperations, operation_bytes, operations_bytes, operations_in}
use Rattle.scte104_codec.specs.Spelling.{SingleOperation, single_operation_message, MultipleOperation, multiple_operation_message}
use Rattle.scte104_codec.specs.Reading.{MessageReading, single_fields_of, init, alive, other, multiple, bad, Multiple, multiple_with, multiple_operation_of, message_of}
use Rattle.scte104_codec.specs.Grammar.{Single, Several, HoldsFields, Spells}
use Rattle.scte104_codec.proofs.FrameLemmas.{is_whole, is_size, whole_single, whole_multiple}
use Rattle.wire_fields.proofs.Cells.{AreBytes-drop}
use Rattle.scte104_codec.proofs.SingleLemmas.{SingleFields, single_fields, single_is, single_fits, single_reading, single_read}
use Rattle.scte104_codec.proofs.SeveralLemmas.{SeveralFields, several_fields, several_from, several_is, several_fits, several_read}
use Rattle.scte104_codec.proofs.OperationsBack.{operations_back, operations_filled}

-- ---- a single_operation_message: spelled, then read

pub single_told : (bytes : List ℕ) (head : Head) (m : SingleOperation) → Single bytes head m → message_of bytes ≡ single_reading m.op head m.body
single_told bytes head m s =
    let f = subst (λ (xs : List ℕ). SingleFields m xs) (append-nil (single_operation_message m) ∙ sym s.whole) (single_fields m [] s.fits) in
    let op-fits = s.fits.op in
    let op : number16_at bytes 0 ≢ 65535 = λ e. omega (arith, f.op, e) in
    let body : drop 13 bytes ≡ m.body = ap (λ (xs : List ℕ). drop 13 xs) s.whole in
    let head-is : head_at bytes 9 ≡ head = f.head ∙ sym s.same_head in
    single_read bytes op ∙ rw (f.op, head-is, body) refl

pub init_read : (op : ℕ) (head : Head) (body : List ℕ) → op ≡ 1 → single_reading op head body ≡ init head
init_read op head body e = rw e refl

pub alive_read : (op : ℕ) (head : Head) (body : List ℕ) → op ≡ 3 → length body ≤ 8 → single_reading op head body ≡ alive head body
alive_read op head body e le = rw e (grind (arith, le))

long_read : (op : ℕ) (head : Head) (body : List ℕ) → op ≡ 3 → 8 < length body → single_reading op head body ≡ bad false head
long_read op head body e lt = rw e (grind (arith, lt))

pub other_read : (op : ℕ) (head : Head) (body : List ℕ) → op ≢ 1 → op ≢ 3 → single_reading op head body ≡ other head
other_read op head body a b = grind (arith, a, b)

-- ---- a multiple_operation_message: spelled, then read

several_told : (bytes : List ℕ) (head : Head) (m : MultipleOperation) → Several bytes head m → SeveralFields m bytes × (number16_at bytes 0 ≡ 65535) × (head_at bytes 5 ≡ head)
several_told bytes head m s =
    let f = subst (λ (xs : List ℕ). SeveralFields m xs) (append-nil (multiple_operation_message m) ∙ sym s.whole) (several_fields m [] s.fits) in
    (f, f.mark, f.head ∙ sym s.same_head)

-- where there is no time, what the operations are read as decides
timeless : (bytes : List ℕ) (r : Option (List Operation)) → slice_index bytes 10 ≡ 0 → operations_in (slice_index bytes 11) (drop 12 bytes) ≡ r → multiple_operation_of bytes ≡ multiple_with bytes r
unfolding multiple_operation_of
timeless bytes r t e = rw (t, e) refl

timed : (bytes : List ℕ) → slice_index bytes 10 ≢ 0 → multiple_operation_of bytes ≡ multiple_with bytes (Some [])
unfolding multiple_operation_of
timed bytes t = grind (arith, t)

contents_count : (bytes : List ℕ) (m : MultipleOperation) → bytes ≡ multiple_operation_message m → slice_index bytes 11 ≡ slice_index m.contents 0
contents_count bytes m e = ap (λ (xs : List ℕ). slice_index xs 11) e

contents_rest : (bytes : List ℕ) (m : MultipleOperation) → bytes ≡ multiple_operation_message m → drop 12 bytes ≡ drop 1 m.contents
contents_rest bytes m e = ap (λ (xs : List ℕ). drop 12 xs) e

contents_bytes : (bytes : List ℕ) (m : MultipleOperation) → bytes ≡ multiple_operation_message m → AreBytes bytes → AreBytes m.contents
contents_bytes bytes m e h = subst (λ (xs : List ℕ). AreBytes xs) (ap (λ (xs : List ℕ). drop 11 xs) e) (AreBytes-drop 11 bytes h)

multiple_same : (bytes : List ℕ) (read : Multiple) (os : List Operation) → head_at bytes 5 ≡ read.head → slice_index bytes 4 ≡ read.version → slice_index bytes 9 ≡ read.cue_version → slice_index bytes 10 ≡ read.time_kind → os ≡ read.operations → multiple_with bytes (Some os) ≡ multiple read
multiple_same bytes read os a b c d e = rw (a, b, c, d, e) refl

pub multiple_read : (bytes : List ℕ) (read : Multiple) (m : MultipleOperation) → Several bytes read.head m → HoldsFields read m → message_of bytes ≡ multiple read
multiple_read bytes read m s h =
    let t = several_told bytes read.head m s in
    let version = t.0.protocol_version ∙ sym h.version in
    let cue = t.0.cue_version ∙ sym h.cue_version in
    let time = t.0.time_type ∙ sym h.time_kind in
    several_read bytes t.1 ∙ elim (cases_eq m.time_type 0) [
      | inl z ↦
          let o = h.timeless z in
          let count : slice_index bytes 11 ≡ length read.operations = contents_count bytes m s.whole ∙ ap (λ (xs : List ℕ). slice_index xs 0) o.1 in
          let rest : drop 12 bytes ≡ flat_map operation_bytes read.operations = contents_rest bytes m s.whole ∙ ap (λ (xs : List ℕ). drop 1 xs) o.1 in
          let back : operations_in (slice_index bytes 11) (drop 12 bytes) ≡ Some read.operations = rw (count, rest) (operations_back read.operations o.0.1) in
          timeless bytes (Some read.operations) (t.0.time_type ∙ z) back ∙ multiple_same bytes read read.operations t.2 version cue time refl
      | inr n ↦
          let some : slice_index bytes 10 ≢ 0 = λ e. n (sym t.0.time_type ∙ e) in
          timed bytes some ∙ multiple_same bytes read [] t.2 version cue time (sym (h.timed n))
    ]

-- contents that no operations spell aren't read as any
nonempty : (xs : List ℕ) → 1 ≤ length xs → xs ≡ slice_index xs 0 ∷ drop 1 xs
nonempty [] le = absurd (omega arith)
nonempty (x ∷ xs) le = refl

spelled_by : (contents : List ℕ) (os : List Operation) → 1 ≤ length contents → AreBytes contents → operations_in (slice_index contents 0) (drop 1 contents) ≡ Some os → AreOperations os × (contents ≡ operations_bytes os)
spelled_by contents os some fits e =
    let f = operations_filled (slice_index contents 0) (drop 1 contents) os (AreBytes-drop 1 contents fits) e in
    let count : slice_index contents 0 ≡ length os = sym f.count in
    let byte = fits 0 in
    let whole : contents ≡ operations_bytes os = nonempty contents some ∙ rw (count, f.parts) refl in
    ((omega arith, f.all), whole)

none_read : (contents : List ℕ) (r : Option (List Operation)) → 1 ≤ length contents → AreBytes contents → ((os : List Operation) → AreOperations os → contents ≢ operations_bytes os) → operations_in (slice_index contents 0) (drop 1 contents) ≡ r → r ≡ None
none_read contents None some fits none e = refl
none_read contents (Some os) some fits none e =
    let s = spelled_by contents os some fits e in
    absurd (none os s.0 s.1)

bad_read : (bytes : List ℕ) (head : Head) (m : MultipleOperation) → AreBytes bytes → Several bytes head m → m.time_type ≡ 0 → ((os : List Operation) → AreOperations os → m.contents ≢ operations_bytes os) → message_of bytes ≡ bad true head
bad_read bytes head m fits s z spells =
    let t = several_told bytes head m s in
    let none = none_read m.contents (operations_in (slice_index m.contents 0) (drop 1 m.contents)) s.fits.some (contents_bytes bytes m s.whole fits) spells refl in
    let here : operations_in (slice_index bytes 11) (drop 12 bytes) ≡ None = rw (contents_count bytes m s.whole, contents_rest bytes m s.whole) none in
    several_read bytes t.1 ∙ timeless bytes None (t.0.time_type ∙ z) here ∙ ap (λ (h : Head). bad true h) t.2

-- what is spelled is read
pub reads_back : (read : MessageReading) (bytes : List ℕ) → AreBytes bytes → Spells read bytes → message_of bytes ≡ read
reads_back (init head) bytes fits s = single_told bytes head s.0 s.1 ∙ init_read s.0.op head s.0.body s.2
reads_back (alive head body) bytes fits s =
    let short : length s.0.body ≤ 8 = subst (λ (xs : List ℕ). length xs ≤ 8) s.3 s.4 in
    single_told bytes head s.0 s.1 ∙ alive_read s.0.op head s.0.body s.2 short ∙ ap (λ (xs : List ℕ). alive head xs) (sym s.3)
reads_back (other head) bytes fits s = single_told bytes head s.0 s.1 ∙ other_read s.0.op head s.0.body s.2 s.3
reads_back (multiple read) bytes fits s = multiple_read bytes read s.0 s.1 s.2
reads_back (bad false head) bytes fits s = single_told bytes head s.0 s.1 ∙ long_read s.0.op head s.0.body s.2 s.3
reads_back (bad true head) bytes fits s = bad_read bytes head s.0 fits s.1 s.2 s.3

-- ---- read, then spelled

single_found : (bytes : List ℕ) → frame_of bytes ≡ Whole (length bytes) → number16_at bytes 0 ≢ 65535 → AreBytes bytes → Single bytes (head_at bytes 9) (single_fields_of bytes)
single_found bytes whole op fits =
    let long = whole_single bytes whole op in
    let w = is_whole bytes (length bytes) whole in
    let size = sym (is_size bytes (length bytes) w.sized).field in
    record { fits = single_fits bytes long size op fits; same_head = refl; whole = single_is bytes long size fits }

several_found : (bytes : List ℕ) → frame_of bytes ≡ Whole (length bytes) → number16_at bytes 0 ≡ 65535 → AreBytes bytes → Several bytes (head_at bytes 5) (several_from bytes)
several_found bytes whole mark fits =
    let long = whole_multiple bytes whole mark in
    let w = is_whole bytes (length bytes) whole in
    let size = sym (is_size bytes (length bytes) w.sized).field in
    record { fits = several_fits bytes long size fits; same_head = refl; whole = several_is bytes long mark size fits }

single_spelled : (bytes : List ℕ) → Single bytes (head_at bytes 9) (single_fields_of bytes) → Spells (single_reading (number16_at bytes 0) (head_at bytes 9) (drop 13 bytes)) bytes
single_spelled bytes s =
    let head = head_at bytes 9 in
    let op = number16_at bytes 0 in
    let body = drop 13 bytes in
    let P : MessageReading → Type 0 = λ r. Spells r bytes in
    elim (cases_eq op 1) [
      | inl e ↦ subst P (sym (init_read op head body e)) (single_fields_of bytes, s, e)
      | inr n ↦ elim (cases_eq op 3) [
        | inl e ↦ elim (cases_lt 8 (length body)) [
          | inl lt ↦ subst P (sym (long_read op head body e lt)) (single_fields_of bytes, s, e, lt)
          | inr le ↦ subst P (sym (alive_read op head body e le)) (single_fields_of bytes, s, e, refl, le)
        ]
        | inr m ↦ subst P (sym (other_read op head body n m)) (single_fields_of bytes, s, n, m)
      ]
    ]

timeless_spelled : (bytes : List ℕ) (r : Option (List Operation)) → AreBytes bytes → Several bytes (head_at bytes 5) (several_from bytes) → slice_index bytes 10 ≡ 0 → operations_in (slice_index (drop 11 bytes) 0) (drop 1 (drop 11 bytes)) ≡ r → Spells (multiple_with bytes r) bytes
timeless_spelled bytes None fits s z e = (
  several_from bytes,
  s,
  z,
  λ os are same.
      let f : operations_in (slice_index (drop 11 bytes) 0) (drop 1 (drop 11 bytes)) ≡ Some os = rw same (operations_back os are.1) in
      let clash : None ≡ Some os = sym e ∙ f in
      cc,
)
timeless_spelled bytes (Some os) fits s z e =
    let told = spelled_by (drop 11 bytes) os s.fits.some (AreBytes-drop 11 bytes fits) e in
    (several_from bytes, s, record { version = refl; cue_version = refl; time_kind = refl; timeless = λ t. told; timed = λ n. absurd (n z) })

several_spelled : (bytes : List ℕ) → AreBytes bytes → Several bytes (head_at bytes 5) (several_from bytes) → Spells (multiple_operation_of bytes) bytes
several_spelled bytes fits s =
    let P : MessageReading → Type 0 = λ r. Spells r bytes in
    elim (cases_eq (slice_index bytes 10) 0) [
      | inl z ↦
          let count = contents_count bytes (several_from bytes) s.whole in
          let rest = contents_rest bytes (several_from bytes) s.whole in
          let there : operations_in (slice_index bytes 11) (drop 12 bytes) ≡ operations_in (slice_index (drop 11 bytes) 0) (drop 1 (drop 11 bytes)) = rw (count, rest) refl in
          subst P (sym (timeless bytes (operations_in (slice_index (drop 11 bytes) 0) (drop 1 (drop 11 bytes))) z there)) (timeless_spelled bytes _ fits s z refl)
      | inr n ↦ subst P (sym (timed bytes n)) (several_from bytes, s, record { version = refl; cue_version = refl; time_kind = refl; timeless = λ z. absurd (n z); timed = λ t. refl })
    ]

-- what is read is spelled
pub is_spelled : (bytes : List ℕ) → frame_of bytes ≡ Whole (length bytes) → AreBytes bytes → Spells (message_of bytes) bytes
is_spelled bytes whole fits =
    let P : MessageReading → Type 0 = λ r. Spells r bytes in
    elim (cases_eq (number16_at bytes 0) 65535) [
      | inl mark ↦ subst P (sym (several_read bytes mark)) (several_spelled bytes fits (several_found bytes whole mark fits))
      | inr op ↦ subst P (sym (single_read bytes op)) (single_spelled bytes (single_found bytes whole op fits))
    ]
