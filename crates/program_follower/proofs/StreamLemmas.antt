-- The stream that a packet is of.
use Rattle.std.proofs.Common.{◌≡◌, ℕ, suc, ◌+◌, ◌<◌, ◌≤◌, List, [], ◌∷◌, Bool, true, false, not, ◌&&◌, ◌||◌, ◌==◌, refl, sym, ap, subst, ◌∙◌, arith, length, if◌then◌else◌, Option, Some, None}
use Rattle.std.specs.Prelude.{is_some, option_map, ◌≢◌, slice_index_or}
use Rattle.std.proofs.lemmas.Bool.{eqb-true, eq-eqb, and_parts, or_from, or_parts}
use Rattle.std.proofs.Math.ListN.{set}
use Rattle.std.proofs.lemmas.List.{get_or-set_same, get_or-set_other}
use Rattle.ts_packet.specs.Fields.{in_error, pid_of, on, payload, payload_on, scrambled, unit_start, is_among}
use Rattle.ts_packet.specs.Duplicates.{repeats}
use Rattle.ts_packet.proofs.Cases.{by_test}
use Rattle.ts_packet.proofs.FieldLemmas.{off_payload, without-payload}
use Rattle.psi_tables.specs.declared.stream.Stream.{Stream}
use Rattle.unit_stream.specs.declared.reader.UnitReader.{UnitReader}
use Rattle.unit_stream.specs.declared.fault.UnitFault.{UnitFault}
use Rattle.unit_stream.specs.declared.fault.UnitFault.TheVariants.{Scrambled}
use Rattle.unit_stream.specs.Times.{begins, begins_one, high, stamp, splits}
use Rattle.unit_stream.specs.Faults.{scrambled_one, start_fault, unit_fault}
use Rattle.unit_stream.specs.Pieces.{Reads}
use Rattle.unit_stream.specs.Starts.{ReadsStarts}
use Rattle.unit_stream.specs.declared.starts.StartReader.{StartReader}
use Rattle.unit_stream.proofs.ClockLemmas.{begins_off}
use Rattle.unit_stream.proofs.StartLemmas.{starts_passed}
use Rattle.psi_tables.specs.Streams.{is_switched, switched_of}
use Rattle.program_follower.specs.Faults.{pids_in}
use Rattle.program_follower.specs.declared.starts.Starts.{Starts}
use Rattle.program_follower.specs.Streaming.{next_place, first_on, AllFirst, AllRead, AllStartsRead, StartsRead, IsOne, begin_fault}
use Rattle.pes_time.specs.Line.{ring_of}
use Rattle.program_follower.proofs.JudgingLemmas.{or_later}

-- ---- of one PID

-- two packets that are of one PID are of the same PIDs
pub on_parts : (pid : ℕ) (p : List ℕ) → on pid p ≡ true → (not (in_error p) ≡ true) × (pid_of p ≡ pid)
unfolding on
on_parts pid p h = let r = and_parts (not (in_error p)) (pid_of p == pid) h in (r.0, eqb-true (pid_of p) pid r.1)

pub one_pid : (a b : ℕ) (p : List ℕ) → on a p ≡ true → on b p ≡ true → a ≡ b
one_pid a b p h k = sym (on_parts a p h).1 ∙ (on_parts b p k).1

on_alike : (pid x : ℕ) (p q : List ℕ) → on pid p ≡ true → on pid q ≡ true → on x p ≡ on x q
unfolding on
on_alike pid x p q h k =
    let a = on_parts pid p h in
    let b = on_parts pid q k in
    ap (λ e. e && (pid_of p == x)) (a.0 ∙ sym b.0) ∙ ap (λ n. not (in_error q) && (n == x)) (a.1 ∙ sym b.1)

first_alike : (pids : List ℕ) (pid : ℕ) (p q : List ℕ) → on pid p ≡ true → on pid q ≡ true → first_on pids p ≡ first_on pids q
first_alike [] pid p q h k = refl
first_alike (x ∷ xs) pid p q h k =
    ap (λ b. if b then Some (0, x) else option_map next_place (first_on xs p)) (on_alike pid x p q h k)
    ∙ ap (λ o. if on x q then Some (0, x) else option_map next_place o) (first_alike xs pid p q h k)

-- ---- the first

record Moved (o : Option (ℕ × ℕ)) (x : ℕ × ℕ) : Type 0 where
  place : ℕ × ℕ
  is : o ≡ Some place
  next : next_place place ≡ x

moved_some : (o : Option (ℕ × ℕ)) (x : ℕ × ℕ) → option_map next_place o ≡ Some x → Moved o x
moved_some None x h = absurd (cc)
moved_some (Some y) x h = record { place = y; is = refl; next = cc }

pub some_is : (a b : ℕ × ℕ) → Some a ≡ Some b → a ≡ b
some_is a b h = cc

pub first_is_on : (pids : List ℕ) (p : List ℕ) (x : ℕ × ℕ) → first_on pids p ≡ Some x → on x.1 p ≡ true
first_is_on [] p x h = absurd (cc)
first_is_on (pid ∷ pids) p x h =
    by_test (on pid p)
    (λ y. let e : Some (0, pid) ≡ Some x = simp y at h in ap (λ n. on n p) (sym (ap (λ (z : ℕ × ℕ). z.1) (some_is (0, pid) x e))) ∙ y)
    (λ n. let r = moved_some (first_on pids p) x (simp n at h) in ap (λ m. on m p) (sym (ap (λ (z : ℕ × ℕ). z.1) r.next)) ∙ first_is_on pids p r.place r.is)

pub first_within : (pids : List ℕ) (p : List ℕ) (x : ℕ × ℕ) → first_on pids p ≡ Some x → x.0 < length pids
first_within [] p x h = absurd (cc)
first_within (pid ∷ pids) p x h =
    by_test (on pid p)
    (λ y. let e : Some (0, pid) ≡ Some x = simp y at h in let z : 0 ≡ x.0 = ap (λ (z : ℕ × ℕ). z.0) (some_is (0, pid) x e) in omega arith)
    (λ n. let r = moved_some (first_on pids p) x (simp n at h) in let z : r.place.0 + 1 ≡ x.0 = ap (λ (z : ℕ × ℕ). z.0) r.next in let w = first_within pids p r.place r.is in omega arith)

same_place : (pids : List ℕ) (p q : List ℕ) (x y : ℕ × ℕ) → first_on pids p ≡ Some x → first_on pids q ≡ Some y → x.0 ≡ y.0 → x.1 ≡ y.1
same_place [] p q x y h k e = absurd (cc)
same_place (pid ∷ pids) p q x y h k e =
    by_test (on pid p)
    (λ a. let f = some_is (0, pid) x (simp a at h) in let f0 : 0 ≡ x.0 = ap (λ (z : ℕ × ℕ). z.0) f in
    by_test (on pid q)
    (λ b. sym (ap (λ (z : ℕ × ℕ). z.1) f) ∙ ap (λ (z : ℕ × ℕ). z.1) (some_is (0, pid) y (simp b at k)))
    (λ b. let s = moved_some (first_on pids q) y (simp b at k) in let s0 : s.place.0 + 1 ≡ y.0 = ap (λ (z : ℕ × ℕ). z.0) s.next in absurd (omega arith)))
    (λ a. let r = moved_some (first_on pids p) x (simp a at h) in let r0 : r.place.0 + 1 ≡ x.0 = ap (λ (z : ℕ × ℕ). z.0) r.next in
    by_test (on pid q)
    (λ b. let g = some_is (0, pid) y (simp b at k) in let g0 : 0 ≡ y.0 = ap (λ (z : ℕ × ℕ). z.0) g in absurd (omega arith))
    (λ b. let s = moved_some (first_on pids q) y (simp b at k) in let s0 : s.place.0 + 1 ≡ y.0 = ap (λ (z : ℕ × ℕ). z.0) s.next in
    sym (ap (λ (z : ℕ × ℕ). z.1) r.next) ∙ same_place pids p q r.place s.place r.is s.is (omega arith) ∙ ap (λ (z : ℕ × ℕ). z.1) s.next))

-- ---- what holds of one of the PIDs

abbrev pub one_of : (ℕ → Bool) → List ℕ → Bool
one_of f [] = false
one_of f (pid ∷ pids) = f pid || one_of f pids

abbrev pub NeedsOn : (ℕ → Bool) → List ℕ → Type 0
NeedsOn f p = (pid : ℕ) → on pid p ≡ false → f pid ≡ false

or_same : (a b : Bool) → (a ≡ false → b ≡ false) → a || b ≡ a
or_same true b h = refl
or_same false b h = h refl

module _ (f : ℕ → Bool) (p : List ℕ) (needs : NeedsOn f p) where
  none_but : (pid : ℕ) (pids : List ℕ) → on pid p ≡ true → f pid ≡ false → one_of f pids ≡ false
  none_but pid [] h k = refl
  none_but pid (x ∷ xs) h k = or_from (f x) (one_of f xs) (by_test (on x p) (λ y. ap f (one_pid x pid p y h) ∙ k) (needs x)) (none_but pid xs h k)

  pub first_of : (pids : List ℕ) (x : ℕ × ℕ) → first_on pids p ≡ Some x → one_of f pids ≡ f x.1
  first_of [] x h = absurd (cc)
  first_of (pid ∷ pids) x h =
      by_test (on pid p)
      (λ y. or_same (f pid) (one_of f pids) (none_but pid pids y) ∙ ap f (ap (λ (z : ℕ × ℕ). z.1) (some_is (0, pid) x (simp y at h))))
      (λ n. let r = moved_some (first_on pids p) x (simp n at h) in or_later (f pid) (one_of f pids) (needs pid n) ∙ first_of pids r.place r.is ∙ ap f (ap (λ (z : ℕ × ℕ). z.1) r.next))

  pub none_of : (pids : List ℕ) → first_on pids p ≡ None → one_of f pids ≡ false
  none_of [] h = refl
  none_of (pid ∷ pids) h =
      by_test (on pid p)
      (λ y. absurd (let e : Some (0, pid) ≡ None = simp y at h in cc))
      (λ n. or_from (f pid) (one_of f pids) (needs pid n) (none_of pids (moved_none (first_on pids p) (simp n at h)))) where
        moved_none : (o : Option (ℕ × ℕ)) → option_map next_place o ≡ None → o ≡ None
        moved_none None h = refl
        moved_none (Some y) h = absurd (cc)

abbrev pub scrambled_on : List ℕ → ℕ → Bool
scrambled_on p pid = payload_on pid p && scrambled p

abbrev pub begins_on : List ℕ → List (List ℕ) → ℕ → Bool
begins_on p past pid = begins pid p past

pub scrambled_needs : (p : List ℕ) → NeedsOn (scrambled_on p) p
scrambled_needs p pid o = ap (λ b. b && scrambled p) (off_payload pid p o)

pub begins_needs : (p : List ℕ) (past : List (List ℕ)) → NeedsOn (begins_on p past) p
begins_needs p past pid o = ap (λ b. (b && not (repeats pid p past)) && unit_start p) (off_payload pid p o)

pub scrambled_is : (p : List ℕ) (pids : List ℕ) → scrambled_one pids p ≡ one_of (scrambled_on p) pids
scrambled_is p [] = refl
scrambled_is p (pid ∷ pids) = ap (λ b. scrambled_on p pid || b) (scrambled_is p pids)

pub begins_is : (p : List ℕ) (past : List (List ℕ)) (pids : List ℕ) → begins_one pids p past ≡ one_of (begins_on p past) pids
begins_is p past [] = refl
begins_is p past (pid ∷ pids) = ap (λ b. begins_on p past pid || b) (begins_is p past pids)

-- ---- the readers

pub reads_off : (r : UnitReader) (pid : ℕ) (p : List ℕ) (past : List (List ℕ)) → on pid p ≡ false → Reads r pid past → Reads r pid (p ∷ past)
reads_off r pid p past o h =
    let y = off_payload pid p o in
    record {
      same = h.same;
      follows = record { same = h.follows.same; last = simp y h.follows.last };
      begun = h.begun ∙ sym (simp y refl);
    }

pub starts_off : (r : StartReader) (pid : ℕ) (p : List ℕ) (past : List (List ℕ)) → on pid p ≡ false → ReadsStarts r pid past → ReadsStarts r pid (p ∷ past)
starts_off r pid p past o h = starts_passed r pid p past (off_payload pid p o) h

-- of readers that stand for one thing before a packet, and for another behind it
module _ {R : Type 0} (before behind : R → ℕ → Type 0) (pids : List ℕ) (p : List ℕ) (off : (r : R) (pid : ℕ) → on pid p ≡ false → before r pid → behind r pid) where
  -- a packet of none of the PIDs
  pub every_off : (rs : List R) → first_on pids p ≡ None → AllFirst before rs pids → AllFirst behind rs pids
  every_off rs n h q x d k =
      let o : on x.1 p ≡ false = by_test (on x.1 p) (λ y. absurd (let e = first_alike pids x.1 p q y (first_is_on pids q x k) in cc)) (λ z. z) in
      off (slice_index_or rs x.0 d) x.1 o (h q x d k)

  -- a packet of one of them
  pub every_on : (rs new : List R) (x : ℕ × ℕ) → first_on pids p ≡ Some x → AllFirst before rs pids
      → ((i : ℕ) (d : R) → i ≢ x.0 → slice_index_or new i d ≡ slice_index_or rs i d)
      → ((d : R) → before (slice_index_or rs x.0 d) x.1 → behind (slice_index_or new x.0 d) x.1) → AllFirst behind new pids
  every_on rs new x f h others reads q y d k =
      by_test (on y.1 p)
      (λ o. let e : x ≡ y = some_is x y (sym f ∙ first_alike pids y.1 p q o (first_is_on pids q y k) ∙ k) in
      let P : ℕ × ℕ → Type 0 = λ z. behind (slice_index_or new z.0 d) z.1 in
      subst P e (reads d (h p x d f)))
      (λ o. let apart : y.0 ≢ x.0 = (λ e. let same = same_place pids p q x y f k (sym e) in let z : on y.1 p ≡ true = ap (λ n. on n p) (sym same) ∙ first_is_on pids p x f in absurd (cc)) in
      let P : R → Type 0 = λ r. behind r y.1 in
      subst P (sym (others y.0 d apart)) (off (slice_index_or rs y.0 d) y.1 o (h q y d k)))

-- the same of readers of units, and of readers of their begins
pub all_off : (rs : List UnitReader) (pids : List ℕ) (p : List ℕ) (past : List (List ℕ)) → first_on pids p ≡ None → AllRead rs pids past → AllRead rs pids (p ∷ past)
all_off rs pids p past n h = every_off (λ r pid. Reads r pid past) (λ r pid. Reads r pid (p ∷ past)) pids p (λ r pid o k. reads_off r pid p past o k) rs n h

pub all_on : (rs new : List UnitReader) (pids : List ℕ) (p : List ℕ) (past : List (List ℕ)) (x : ℕ × ℕ) → first_on pids p ≡ Some x → AllRead rs pids past
    → ((i : ℕ) (d : UnitReader) → i ≢ x.0 → slice_index_or new i d ≡ slice_index_or rs i d)
    → ((d : UnitReader) (pid : ℕ) (ps : List (List ℕ)) → Reads (slice_index_or rs x.0 d) pid ps → Reads (slice_index_or new x.0 d) pid (p ∷ ps)) → AllRead new pids (p ∷ past)
all_on rs new pids p past x f h others reads = every_on (λ r pid. Reads r pid past) (λ r pid. Reads r pid (p ∷ past)) pids p (λ r pid o k. reads_off r pid p past o k) rs new x f h others (λ d k. reads d x.1 past k)

pub starts_all_off : (rs : List StartReader) (pids : List ℕ) (p : List ℕ) (past : List (List ℕ)) → first_on pids p ≡ None → AllStartsRead rs pids past → AllStartsRead rs pids (p ∷ past)
starts_all_off rs pids p past n h = every_off (λ r pid. ReadsStarts r pid past) (λ r pid. ReadsStarts r pid (p ∷ past)) pids p (λ r pid o k. starts_off r pid p past o k) rs n h

pub starts_all_on : (rs new : List StartReader) (pids : List ℕ) (p : List ℕ) (past : List (List ℕ)) (x : ℕ × ℕ) → first_on pids p ≡ Some x → AllStartsRead rs pids past
    → ((i : ℕ) (d : StartReader) → i ≢ x.0 → slice_index_or new i d ≡ slice_index_or rs i d)
    → ((d : StartReader) → ReadsStarts (slice_index_or rs x.0 d) x.1 past → ReadsStarts (slice_index_or new x.0 d) x.1 (p ∷ past)) → AllStartsRead new pids (p ∷ past)
starts_all_on rs new pids p past x f h others reads = every_on (λ r pid. ReadsStarts r pid past) (λ r pid. ReadsStarts r pid (p ∷ past)) pids p (λ r pid o k. starts_off r pid p past o k) rs new x f h others reads

-- without payload, whatever PID it is of
pub starts_all_passed : (rs : List StartReader) (pids : List ℕ) (p : List ℕ) (past : List (List ℕ)) → is_some (payload p) ≡ false → AllStartsRead rs pids past → AllStartsRead rs pids (p ∷ past)
starts_all_passed rs pids p past n h = λ q x d k. starts_passed (slice_index_or rs x.0 d) x.1 p past (without-payload x.1 p n) (h q x d k)

-- ---- the stream of a PID

behind_one : (s : Stream) (ss : List Stream) (n : ℕ) (d : Stream) → slice_index_or (s ∷ ss) (n + 1) d ≡ slice_index_or ss n d
behind_one s ss n d = let e : n + 1 ≡ suc n = omega arith in ap (λ (k : ℕ). slice_index_or (s ∷ ss) k d) e

-- the PID at its place
pub first_pid : (ss : List Stream) (q : List ℕ) (x : ℕ × ℕ) (d : Stream) → first_on (pids_in ss) q ≡ Some x → x.1 ≡ (slice_index_or ss x.0 d).pid
first_pid [] q x d h = absurd (cc)
first_pid (s ∷ ss) q x d h =
    by_test (on s.pid q)
    (λ y. let e = some_is (0, s.pid) x (simp y at h) in
    sym (ap (λ (z : ℕ × ℕ). z.1) e) ∙ ap (λ (n : ℕ). (slice_index_or (s ∷ ss) n d).pid) (ap (λ (z : ℕ × ℕ). z.0) e))
    (λ n. let r = moved_some (first_on (pids_in ss) q) x (simp n at h) in
    sym (ap (λ (z : ℕ × ℕ). z.1) r.next) ∙ first_pid ss q r.place d r.is ∙ sym (ap (λ (t : Stream). t.pid) (behind_one s ss r.place.0 d)) ∙ ap (λ (n : ℕ). (slice_index_or (s ∷ ss) n d).pid) (ap (λ (z : ℕ × ℕ). z.0) r.next))

-- ---- one packet more

module _ (pids : List ℕ) (p : List ℕ) (past : List (List ℕ)) where
  pub none_begins : first_on pids p ≡ None → begins_one pids p past ≡ false
  none_begins h = begins_is p past pids ∙ none_of (begins_on p past) p (begins_needs p past) pids h

  pub none_fault : first_on pids p ≡ None → unit_fault pids p past ≡ None
  none_fault h =
      let a = scrambled_is p pids ∙ none_of (scrambled_on p) p (scrambled_needs p) pids h in
      let b = none_begins h in
      simp (a, b) refl

  pub none_high : first_on pids p ≡ None → high pids (p ∷ past) ≡ high pids past
  none_high h = let b = none_begins h in simp b refl

  module _ (x : ℕ × ℕ) (h : first_on pids p ≡ Some x) where
    pub of_begins : begins_one pids p past ≡ begins x.1 p past
    of_begins = begins_is p past pids ∙ first_of (begins_on p past) p (begins_needs p past) pids x h

    of_scrambled : scrambled_one pids p ≡ payload_on x.1 p && scrambled p
    of_scrambled = scrambled_is p pids ∙ first_of (scrambled_on p) p (scrambled_needs p) pids x h

    pub is_one : IsOne pids x.1 p past
    is_one = record { good = not_true (in_error p) (on_parts x.1 p (first_is_on pids p x h)).0; begins_it = of_begins } where
      not_true : (b : Bool) → not b ≡ true → b ≡ false
      not_true true e = absurd (cc)
      not_true false e = refl

    pub fault_scrambled : payload_on x.1 p && scrambled p ≡ true → unit_fault pids p past ≡ Some Scrambled
    fault_scrambled y = let e = of_scrambled ∙ y in simp e refl

    pub fault_begin : (o : Option UnitFault) → payload_on x.1 p && scrambled p ≡ false → begin_fault pids x.1 p past ≡ o → unit_fault pids p past ≡ o
    fault_begin o n e =
        let a = of_scrambled ∙ n in
        let b = of_begins in
        ap (λ s. if s then Some Scrambled else (if begins_one pids p past then start_fault (high pids past) (splits p) (stamp p) else None)) a
        ∙ ap (λ s. if s then start_fault (high pids past) (splits p) (stamp p) else None) b ∙ e

    pub no_payload_fault : payload_on x.1 p ≡ false → unit_fault pids p past ≡ None
    no_payload_fault y =
        fault_begin None (ap (λ b. b && scrambled p) y) (ap (λ b. if b then start_fault (high pids past) (splits p) (stamp p) else None) (begins_off x.1 p past y))

    pub no_payload_high : payload_on x.1 p ≡ false → high pids (p ∷ past) ≡ high pids past
    no_payload_high y = let b = of_begins ∙ begins_off x.1 p past y in simp b refl

-- a packet of none of the PIDs tells nothing of their begins
pub starts_read_off : (s : Starts) (pids : List ℕ) (p : List ℕ) (past : List (List ℕ)) → first_on pids p ≡ None → StartsRead s pids past → StartsRead s pids (p ∷ past)
starts_read_off s pids p past off h = record {
  places = h.places;
  clock = h.clock ∙ ap (option_map ring_of) (sym (none_high pids p past off));
  readers = starts_all_off s.readers pids p past off h.readers;
}

-- a packet of the PID has a payload where it has one
pub payload_of : (pid : ℕ) (p : List ℕ) → on pid p ≡ true → payload_on pid p ≡ is_some (payload p)
unfolding payload_on
payload_of pid p h = ap (λ b. b && is_some (payload p)) h

-- ---- the readers at the end of the head

pids_length : (ss : List Stream) → length (pids_in ss) ≡ length ss
pids_length [] = refl
pids_length (s ∷ ss) = let i = pids_length ss in omega arith

pub first_within_streams : (ss : List Stream) (q : List ℕ) (x : ℕ × ℕ) (n : ℕ) → first_on (pids_in ss) q ≡ Some x → length ss ≤ n → x.0 < n
first_within_streams ss q x n h le = let a = first_within (pids_in ss) q x h in let b = pids_length ss in omega arith

abbrev pub ReadBelow : {R : Type 0} → (R → ℕ → Type 0) → List R → List Stream → ℕ → Type 0
ReadBelow {R} is rs ss n = (q : List ℕ) (x : ℕ × ℕ) (d : R) → first_on (pids_in ss) q ≡ Some x → x.0 < n → is (slice_index_or rs x.0 d) x.1

pub read_on : {R : Type 0} (is : R → ℕ → Type 0) (ss : List Stream) (rs : List R) (n : ℕ) (v : R) (s : Stream) → n < length rs → is v (slice_index_or ss n s).pid → ReadBelow is rs ss n
    → ReadBelow is (set rs n v) ss (n + 1)
read_on {R} is ss rs n v s lt r below q x d h le =
    by_test (x.0 == n)
    (λ y. let e : x.0 ≡ n = eqb-true x.0 n y in
    let pid : (slice_index_or ss n s).pid ≡ x.1 = ap (λ (k : ℕ). (slice_index_or ss k s).pid) (sym e) ∙ sym (first_pid ss q x s h) in
    let at : v ≡ slice_index_or (set rs n v) x.0 d = sym (get_or-set_same rs n v d lt) ∙ ap (λ (k : ℕ). slice_index_or (set rs n v) k d) (sym e) in
    let P : R → Type 0 = λ u. is u x.1 in
    let Q : ℕ → Type 0 = λ k. is v k in
    subst P at (subst Q pid r))
    (λ z. let apart : x.0 ≢ n = (λ e. let k = eq-eqb x.0 n e in absurd (cc)) in
    let P : R → Type 0 = λ u. is u x.1 in
    subst P (sym (get_or-set_other rs n x.0 v d apart)) (below q x d h (omega arith)))

-- any reader
pub some_reader : UnitReader
some_reader = record { units = record { pid = 0; follower = record { pid = 0; last = None }; has_begun = false }; last = [] }

pub some_starts : StartReader
some_starts = record { pid = 0; follower = record { pid = 0; last = None }; last = [] }

pub in_switched : (x : ℕ) (ss : List Stream) → is_among x (pids_in ss) ≡ false → is_among x (pids_in (switched_of ss)) ≡ false
in_switched x [] h = refl
in_switched x (s ∷ ss) h =
    let r = or_parts (s.pid == x) (is_among x (pids_in ss)) h in
    let more = in_switched x ss r.1 in
    by_test (is_switched s.kind)
    (λ y. simp y (or_from (s.pid == x) (is_among x (pids_in (switched_of ss))) r.0 more))
    (λ n. simp n more)
