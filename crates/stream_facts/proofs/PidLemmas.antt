-- What is known of a PID stays with a packet on another one.
use Rattle.std.proofs.Common.{◌≡◌, ℕ, ◌+◌, ◌<◌, List, [], ◌∷◌, ◌++◌, length, slice_index_or, slice_set, nat_lt, Option, Some, None, sym, ap, subst, ◌∙◌, true, false, arith}
use Rattle.std.specs.Prelude.{◌==◌}
use Rattle.std.proofs.Math.Seq.{get_or-append_seam}
use Rattle.std.proofs.lemmas.Bool.{eq-eqb, eqb-true, eqb-false, ltb-true, ltb-false}
use Rattle.std.proofs.lemmas.Grind.{get_or-set_at}
use Rattle.std.proofs.lemmas.List.{append-nil, get_or_append_left, get_or-set_other}
use Rattle.ts_packet.specs.Fields.{in_error, pid_of, on, payload_on}
use Rattle.ts_packet.specs.Duplicates.{last_of}
use Rattle.ts_packet.proofs.Cases.{by_test}
use Rattle.unit_stream.specs.Starts.{since_more}
use Rattle.random_access.specs.declared.reader.PointReader.{PointReader}
use Rattle.random_access.specs.Points.{ReadsPoints, begins_back}
use Rattle.stream_facts.specs.declared.pid_facts.PidFacts.{PidFacts}
use Rattle.stream_facts.specs.declared.pid_facts.PidTable.{PidTable}
use Rattle.stream_facts.specs.Pids.{is_used, IsPidKnown, KnowsPids}

-- a packet that is not on the PID changes nothing for its reader
pub reads_elsewhere : (r : PointReader) (pid : ℕ) (p : List ℕ) (past : List (List ℕ)) → on pid p ≡ false → ReadsPoints r pid past → ReadsPoints r pid (p ∷ past)
unfolding payload_on
reads_elsewhere r pid p past off k =
    let no : payload_on pid p ≡ false = simp off in
    let same : last_of pid (since_more pid (p ∷ past)) ≡ last_of pid (since_more pid past) = simp no in
    let none : begins_back pid (p ∷ past) ≡ begins_back pid past = simp (no, append-nil) in
    record {
      starts = record {
        same = k.starts.same;
        follows = record { same = k.starts.follows.same; last = rw same k.starts.follows.last };
      };
      kept = rw none k.kept;
    }

pub off_newest : (pid : ℕ) (p : List ℕ) (past : List (List ℕ)) → is_used pid (p ∷ past) ≡ false → on pid p ≡ false
off_newest pid p past h = by_test (on pid p) (λ t. absurd (let e = simp t at h in cc)) (λ f. f)

pub off_older : (pid : ℕ) (p : List ℕ) (past : List (List ℕ)) → is_used pid (p ∷ past) ≡ false → is_used pid past ≡ false
off_older pid p past h = by_test (on pid p) (λ t. absurd (let e = simp t at h in cc)) (λ f. simp f at h)

-- a reader of a PID without a packet is as it was in the beginning
pub reads_nothing : (r : PointReader) (pid : ℕ) (past : List (List ℕ)) → is_used pid past ≡ false → ReadsPoints r pid [] → ReadsPoints r pid past
reads_nothing r pid [] h k = k
reads_nothing r pid (p ∷ past) h k =
    reads_elsewhere r pid p past (off_newest pid p past h) (reads_nothing r pid past (off_older pid p past h) k)

pub used_now : (pid : ℕ) (p : List ℕ) (past : List (List ℕ)) → on pid p ≡ true → is_used pid (p ∷ past) ≡ true
used_now pid p past h = simp h

-- one more slot that is empty
pub empty_more : (xs : List (Option PidFacts)) (n : ℕ) → length xs ≡ n → ((k : ℕ) (d : Option PidFacts) → k < n → slice_index_or xs k d ≡ None)
    → (k : ℕ) (d : Option PidFacts) → k < n + 1 → slice_index_or (xs ++ None ∷ []) k d ≡ None
empty_more xs n size all k d h =
    by_test (nat_lt k n)
    (λ below.
    let lt = ltb-true k n below in
    get_or_append_left xs (None ∷ []) d k (omega (arith, lt, size)) ∙ all k d lt)
    (λ above.
    let le = ltb-false k n above in
    let at : k ≡ length xs = omega (arith, le, size, h) in
    ap (λ i. slice_index_or (xs ++ None ∷ []) i d) at ∙ get_or-append_seam xs None [] d)

-- a PID of which nothing is known has no packet
pub unknown_unused : (slot : Option PidFacts) (pid : ℕ) (past : List (List ℕ)) → slot ≡ None → IsPidKnown slot pid past → is_used pid past ≡ false
unknown_unused slot pid past none h = rw none at h

-- what is known of another PID than the packet's
pub known_elsewhere : (slot : Option PidFacts) (pid : ℕ) (p : List ℕ) (past : List (List ℕ)) → on pid p ≡ false → IsPidKnown slot pid past → IsPidKnown slot pid (p ∷ past)
known_elsewhere None pid p past off h = simp (off, h)
known_elsewhere (Some facts) pid p past off h = (simp (off, h.0), reads_elsewhere facts.points pid p past off h.1)

-- a packet that is marked in error is on no PID
pub marked_off : (pid : ℕ) (p : List ℕ) → in_error p ≡ true → on pid p ≡ false
unfolding on
marked_off pid p h = simp h

-- a packet is on its own PID, where it is not marked in error, and on no other
pub on_own : (pid : ℕ) (p : List ℕ) → in_error p ≡ false → pid ≡ pid_of p → on pid p ≡ true
unfolding on
on_own pid p h e = let same = eq-eqb (pid_of p) pid (sym e) in simp (h, same)

off_other : (pid i : ℕ) (p : List ℕ) → (pid == i) ≡ false → i ≡ pid_of p → on pid p ≡ false
unfolding on
off_other pid i p other at =
    let no : (pid_of p == pid) ≡ false = by_test (pid_of p == pid)
    (λ t. absurd (eqb-false pid i other (sym (eqb-true (pid_of p) pid t) ∙ sym at)))
    (λ f. f) in
    by_test (in_error p) (λ m. simp m) (λ m. simp (m, no))

pub known_marked : (table : PidTable) (p : List ℕ) (past : List (List ℕ)) → in_error p ≡ true → KnowsPids table past → KnowsPids table (p ∷ past)
known_marked table p past marked k = record {
  size = k.size;
  each = λ pid d h. known_elsewhere (slice_index_or table.slots.items pid d) pid p past (marked_off pid p marked) (k.each pid d h);
}

-- a packet changes what is known of its own PID alone
pub known_set : (items : List (Option PidFacts)) (i : ℕ) (new : Option PidFacts) (p : List ℕ) (past : List (List ℕ)) → length items ≡ 8192 → i ≡ pid_of p
    → ((pid : ℕ) (d : Option PidFacts) → pid < 8192 → IsPidKnown (slice_index_or items pid d) pid past) → IsPidKnown new i (p ∷ past)
    → (pid : ℕ) (d : Option PidFacts) → pid < 8192 → IsPidKnown (slice_index_or (slice_set items i new) pid d) pid (p ∷ past)
known_set items i new p past size at each known pid d h =
    by_test (pid == i)
    (λ t.
    let e = eqb-true pid i t in
    let is = get_or-set_at items i pid new d e (omega (arith, h, size, e)) in
    subst (λ (o : Option PidFacts). IsPidKnown o pid (p ∷ past)) (sym is) (subst (λ (k : ℕ). IsPidKnown new k (p ∷ past)) (sym e) known))
    (λ f.
    let is = get_or-set_other items i pid new d (eqb-false pid i f) in
    subst (λ (o : Option PidFacts). IsPidKnown o pid (p ∷ past)) (sym is) (known_elsewhere (slice_index_or items pid d) pid p past (off_other pid i p f at) (each pid d h)))
