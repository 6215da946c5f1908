-- The table of the places of the switched streams.
use Rattle.std.proofs.Common.{◌≡◌, ℕ, ◌+◌, ◌<◌, ◌≤◌, List, [], ◌∷◌, true, false, not, ◌&&◌, ◌==◌, refl, sym, ap, subst, ◌∙◌, arith, length, if◌then◌else◌, Option, Some, None}
use Rattle.std.specs.Prelude.{option_map, ◌≢◌, slice_index_or, drop, replicate}
use Rattle.std.proofs.lemmas.Bool.{eqb-true, eq-eqb}
use Rattle.std.proofs.Math.ListN.{set}
use Rattle.std.proofs.Math.Seq.{drop-length}
use Rattle.std.proofs.lemmas.List.{get_or-set_same, get_or-set_other, get_or-replicate, at_drop_more}
use Rattle.ts_packet.specs.Fields.{in_error, pid_of, on}
use Rattle.ts_packet.proofs.Cases.{by_test}
use Rattle.psi_tables.specs.declared.stream.Stream.{Stream}
use Rattle.program_follower.specs.Faults.{pids_in}
use Rattle.program_follower.specs.Streaming.{next_place, first_on, place_in, numbered}
use Rattle.program_follower.specs.PidUses.{IsTablePid, HasPlacesElsewhere}
use Rattle.program_follower.proofs.StreamLemmas.{on_parts}

-- ---- the numbers

-- each number is that of one of eight places, or 0
abbrev pub AreNumbers : List ℕ → Type 0
AreNumbers numbers = (pid : ℕ) → pid < 8192 → slice_index_or numbers pid 0 ≤ 8

zero_within : (n : ℕ) → n ≡ 0 → n ≤ 8
zero_within n e = omega arith

pub zeros_are : AreNumbers (replicate 8192 0)
zeros_are pid h = zero_within (slice_index_or (replicate 8192 0) pid 0) (get_or-replicate 8192 pid 0 0 h)

pub set_are : (numbers : List ℕ) (i v : ℕ) → i < length numbers → v ≤ 8 → AreNumbers numbers → AreNumbers (set numbers i v)
set_are numbers i v lt le are pid h =
    by_test (pid == i)
    (λ y. let e = ap (λ (k : ℕ). slice_index_or (set numbers i v) k 0) (eqb-true pid i y) ∙ get_or-set_same numbers i v 0 lt in omega arith)
    (λ n. let apart : pid ≢ i = (λ e. let k = eq-eqb pid i e in absurd (cc)) in let e = get_or-set_other numbers i pid v 0 apart in let a = are pid h in omega arith)

pub zeros_elsewhere : HasPlacesElsewhere (replicate 8192 0) []
zeros_elsewhere p good lt le = get_or-replicate 8192 (pid_of p) 0 0 lt

pub zeros_small : (pid : ℕ) → pid < 8192 → slice_index_or (replicate 8192 0) pid 0 ≤ 8
zeros_small pid lt = let small : 0 ≤ 8 = omega arith in subst (λ (n : ℕ). n ≤ 8) (sym (get_or-replicate 8192 pid 0 0 lt)) small

-- ---- the places, from the last stream to the first

-- of some streams, behind this many
abbrev pub farther : ℕ → Option ℕ → Option ℕ
farther n o = option_map (λ (place : ℕ). n + place) o

next_numbered : (n : ℕ) (o : Option (ℕ × ℕ)) → numbered (farther (n + 1) (option_map (λ (x : ℕ × ℕ). x.0) o)) ≡ numbered (farther n (option_map (λ (x : ℕ × ℕ). x.0) (option_map next_place o)))
next_numbered n None = refl
next_numbered n (Some x) = let e : (n + 1) + x.0 + 1 ≡ n + (x.0 + 1) + 1 = omega arith in e

module _ (p : List ℕ) (good : in_error p ≡ false) where
  pub on_good : (pid : ℕ) → pid_of p ≡ pid → on pid p ≡ true
  unfolding on
  on_good pid e = ap (λ b. not b && (pid_of p == pid)) good ∙ eq-eqb (pid_of p) pid e

  number_here : (s : Stream) (rest : List Stream) (n : ℕ) → on s.pid p ≡ true → n + 1 ≡ numbered (farther n (place_in (pids_in (s ∷ rest)) p))
  number_here s rest n y =
      let a : first_on (pids_in (s ∷ rest)) p ≡ Some (0, s.pid) = simp y refl in
      let k : n + 1 ≡ n + 0 + 1 = omega arith in
      k ∙ sym (ap (λ (o : Option (ℕ × ℕ)). numbered (farther n (option_map (λ (x : ℕ × ℕ). x.0) o))) a)

  number_later : (s : Stream) (rest : List Stream) (n : ℕ) → on s.pid p ≡ false
      → numbered (farther (n + 1) (place_in (pids_in rest) p)) ≡ numbered (farther n (place_in (pids_in (s ∷ rest)) p))
  number_later s rest n y =
      let a : first_on (pids_in (s ∷ rest)) p ≡ option_map next_place (first_on (pids_in rest) p) = simp y refl in
      next_numbered n (first_on (pids_in rest) p) ∙ sym (ap (λ (o : Option (ℕ × ℕ)). numbered (farther n (option_map (λ (x : ℕ × ℕ). x.0) o))) a)

same_farther : (o : Option ℕ) → numbered (farther 0 o) ≡ numbered o
same_farther None = refl
same_farther (Some k) = let e : 0 + k + 1 ≡ k + 1 = omega arith in e

-- the table has the places of the streams from this one on, but under the PIDs of tables
abbrev pub HasPlacesFromElsewhere : List ℕ → List Stream → ℕ → Type 0
HasPlacesFromElsewhere numbers ss n = (p : List ℕ) → in_error p ≡ false → pid_of p < 8192 → slice_index_or numbers (pid_of p) 0 ≤ 8
    → slice_index_or numbers (pid_of p) 0 ≡ numbered (farther n (place_in (pids_in (drop n ss)) p))

pub none_elsewhere : (numbers : List ℕ) (ss : List Stream) (n : ℕ) → n ≡ length ss → HasPlacesElsewhere numbers [] → HasPlacesFromElsewhere numbers ss n
none_elsewhere numbers ss n e has p good within le =
    let none : drop n ss ≡ [] = ap (λ (k : ℕ). drop k ss) e ∙ drop-length ss in
    has p good within le ∙ sym (ap (λ (xs : List Stream). numbered (farther n (place_in (pids_in xs) p))) none)

module _ (ss : List Stream) (numbers : List ℕ) (n m pid : ℕ) (s : Stream) (lt : n < length ss) (is : pid ≡ (slice_index_or ss n s).pid) (next : m ≡ n + 1) where
  later_elsewhere : (p : List ℕ) → in_error p ≡ false → on (slice_index_or ss n s).pid p ≡ false
      → numbered (farther m (place_in (pids_in (drop m ss)) p)) ≡ numbered (farther n (place_in (pids_in (drop n ss)) p))
  later_elsewhere p good z =
      ap (λ (k : ℕ). numbered (farther k (place_in (pids_in (drop k ss)) p))) next
      ∙ number_later p good (slice_index_or ss n s) (drop (n + 1) ss) n z
      ∙ sym (at_drop_more (λ (xs : List Stream). numbered (farther n (place_in (pids_in xs) p))) ss n s lt)

  pub one_elsewhere : pid < length numbers → HasPlacesFromElsewhere numbers ss m → HasPlacesFromElsewhere (set numbers pid (n + 1)) ss n
  one_elsewhere within has p good below le =
      let t : Stream = slice_index_or ss n s in
      by_test (on t.pid p)
      (λ y. ap (λ (k : ℕ). slice_index_or (set numbers pid (n + 1)) k 0) ((on_parts t.pid p y).1 ∙ sym is) ∙ get_or-set_same numbers pid (n + 1) 0 within
      ∙ number_here p good t (drop (n + 1) ss) n y
      ∙ sym (at_drop_more (λ (xs : List Stream). numbered (farther n (place_in (pids_in xs) p))) ss n s lt))
      (λ z. let apart : pid_of p ≢ pid = (λ e. let k = on_good p good t.pid (e ∙ is) in absurd (cc)) in
      let e = get_or-set_other numbers pid (pid_of p) (n + 1) 0 apart in
      e ∙ has p good below (omega arith) ∙ later_elsewhere p good z)

  -- a PID of tables stays that
  pub no_place_elsewhere : IsTablePid (slice_index_or numbers pid 0) → HasPlacesFromElsewhere numbers ss m → HasPlacesFromElsewhere numbers ss n
  no_place_elsewhere above has p good below le =
      let t : Stream = slice_index_or ss n s in
      by_test (on t.pid p)
      (λ y. let e = ap (λ (k : ℕ). slice_index_or numbers k 0) ((on_parts t.pid p y).1 ∙ sym is) in absurd (omega arith))
      (λ z. has p good below le ∙ later_elsewhere p good z)

pub all_elsewhere : (ss : List Stream) (numbers : List ℕ) (n : ℕ) → n ≡ 0 → HasPlacesFromElsewhere numbers ss n → HasPlacesElsewhere numbers (pids_in ss)
all_elsewhere ss numbers n e has p good within le =
    has p good within le
    ∙ ap (λ (k : ℕ). numbered (farther k (place_in (pids_in (drop k ss)) p))) e
    ∙ same_farther (place_in (pids_in ss) p)

-- ---- a place that is looked up

-- a packet that is marked in error has none
pub no_place : (pids : List ℕ) (p : List ℕ) → in_error p ≡ true → None ≡ place_in pids p
unfolding on
no_place pids p bad = ap (option_map (λ (x : ℕ × ℕ). x.0)) (sym (none_first pids)) where
  off : (pid : ℕ) → on pid p ≡ false
  off pid = ap (λ b. not b && (pid_of p == pid)) bad

  none_first : (pids : List ℕ) → first_on pids p ≡ None
  none_first [] = refl
  none_first (pid ∷ pids) = ap (λ b. if b then Some (0, pid) else option_map next_place (first_on pids p)) (off pid) ∙ ap (option_map next_place) (none_first pids)

-- a place is that of the first PID
pub unplaced : (pids : List ℕ) (p : List ℕ) → None ≡ place_in pids p → first_on pids p ≡ None
unplaced pids p h = none_by (first_on pids p) h where
  none_by : (o : Option (ℕ × ℕ)) → None ≡ option_map (λ (x : ℕ × ℕ). x.0) o → o ≡ None
  none_by None h = refl
  none_by (Some x) h = absurd (cc)

pub placed : (pids : List ℕ) (p : List ℕ) (i : ℕ) → Some i ≡ place_in pids p → (pid : ℕ) × (first_on pids p ≡ Some (i, pid))
placed pids p i h = some_by (first_on pids p) h where
  some_by : (o : Option (ℕ × ℕ)) → Some i ≡ option_map (λ (x : ℕ × ℕ). x.0) o → (pid : ℕ) × (o ≡ Some (i, pid))
  some_by None h = absurd (cc)
  some_by (Some x) h = (x.1, let e : i ≡ x.0 = cc in ap (λ (k : ℕ). let y : Option (ℕ × ℕ) = Some (k, x.1) in y) (sym e))
