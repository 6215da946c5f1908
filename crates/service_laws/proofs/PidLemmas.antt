-- The PIDs that are known of a program, and packets on them.
use Rattle.std.proofs.Common.{◌≡◌, ℕ, ◌+◌, ◌*◌, ◌%◌, ◌<◌, List, [], ◌∷◌, ◌++◌, Bool, true, false, not, ◌||◌, ◌==◌, refl, sym, ap, ◌∙◌, Option, None, Some, arith, slice_index}
use Rattle.std.specs.Prelude.{option_map, option_to_list}
use Rattle.std.specs.List.{AllByRecursion, list_any}
use Rattle.std.proofs.lemmas.Bool.{true≢false, or_parts, or_from, or_left, or_right, and_from, not_from_false, eq-eqb}
use Rattle.ts_packet.specs.Fields.{in_error, pid_of, on, on_one, is_among}
use Rattle.ts_packet.proofs.Cases.{by_test}
use Rattle.wire_fields.specs.Numbers.{AreBytes}
use Rattle.psi_tables.specs.ProgramMap.{ProgramMap}
use Rattle.program_follower.specs.declared.purpose.Listed.{Listed}
use Rattle.program_follower.specs.Program.{listed, known_map, program_in, program_of, pids_of, known_pids}
use Rattle.program_follower.specs.Following.{on_map}
use Rattle.program_laws.proofs.FaultLemmas.{Each-map}
use Rattle.program_laws.proofs.WritingLemmas.{off_other}
use Rattle.switch_laws.proofs.OtherLemmas.{within-self}
use Rattle.switch_laws.proofs.WholeLemmas.{listed-later, known-later}

-- ---- lists of PIDs

-- of three tests it is all one which two are joined first
or-joined : (a b c : Bool) → (a || (b || c)) ≡ ((a || b) || c)
or-joined true b c = refl
or-joined false b c = refl

-- a test joined with one that fails is itself
or-none : (a : Bool) → (a || false) ≡ a
or-none true = refl
or-none false = refl

-- a packet on one of two lists of PIDs
pub one-append : (xs ys : List ℕ) (q : List ℕ) → on_one (xs ++ ys) q ≡ (on_one xs q || on_one ys q)
one-append [] ys q = refl
one-append (x ∷ xs) ys q = ap (λ b. on x q || b) (one-append xs ys q) ∙ or-joined (on x q) (on_one xs q) (on_one ys q)

-- a packet that is not marked in error is on its PID
pub on-own : (x : ℕ) (q : List ℕ) → in_error q ≡ false → pid_of q ≡ x → on x q ≡ true
unfolding on
on-own x q e h = and_from (not (in_error q)) (pid_of q == x) (not_from_false (in_error q) e) (eq-eqb (pid_of q) x h)

-- a packet on a PID that a test takes is on none of those of which it takes none
not-one : (f : ℕ → Bool) (pids : List ℕ) (a : ℕ) → f a ≡ true → list_any f pids ≡ false → (q : List ℕ) → on a q ≡ true → on_one pids q ≡ false
not-one f [] a is none q y = refl
not-one f (pid ∷ pids) a is none q y =
    let r = or_parts (f pid) (list_any f pids) none in
    or_from (on pid q) (on_one pids q) (off_other a pid q (λ e. true≢false (sym is ∙ ap f e ∙ r.0)) y) (not-one f pids a is r.1 q y)

-- where a test takes each PID of a second list and none of a first, a packet on the first is not on the second
pub one-apart : (f : ℕ → Bool) (pids others : List ℕ) → AllByRecursion (λ a. f a ≡ true) others → list_any f pids ≡ false → (q : List ℕ) → on_one pids q ≡ true → on_one others q ≡ false
one-apart f pids [] each none q y = refl
one-apart f pids (a ∷ others) each none q y =
    or_from (on a q) (on_one others q)
    (by_test (on a q) (λ o. absurd (true≢false (sym y ∙ not-one f pids a each.0 none q o))) (λ n. n))
    (one-apart f pids others each.1 none q y)

-- each of some PIDs is one of them and one more
pub within-one-more : (x : ℕ) (pids : List ℕ) → AllByRecursion (λ a. is_among a (x ∷ pids) ≡ true) pids
within-one-more x pids = Each-map (λ a. is_among a pids ≡ true) (λ a. is_among a (x ∷ pids) ≡ true) (λ a h. or_right (x == a) (is_among a pids) h) pids (within-self pids)

-- the PID of a packet of bytes has 13 bits
pub bytes-pid : (p : List ℕ) → AreBytes p → pid_of p < 8192
unfolding pid_of
bytes-pid p h = let b = h 2 in small (slice_index p 1) (slice_index p 2) b
  where
    small : (a b : ℕ) → b < 256 → a % 32 * 256 + b < 8192
    small a b l = omega (arith, l)

-- ---- the PIDs of a program

-- on the PID of the map, where there is one
one-map : (o : Option Listed) (q : List ℕ) → on_one (option_to_list (option_map (λ (l : Listed). l.pid) o)) q ≡ on_map o q
one-map None q = refl
one-map (Some l) q = or-none (on l.pid q)

-- a packet on one of them is on the PID of the map, or of a switched stream
pub known-on : (program : ℕ) (past : List (List ℕ)) (q : List ℕ) →
    on_one (known_pids (Some program) past) q ≡ (on_map (listed (Some program) past) q || on_one (pids_of (program_of (Some program) past)) q)
known-on program past q =
    one-append (option_to_list (option_map (λ (l : Listed). l.pid) (listed (Some program) past))) (pids_of (program_of (Some program) past)) q
    ∙ ap (λ b. b || on_one (pids_of (program_of (Some program) past)) q) (one-map (listed (Some program) past) q)

module _ (program : ℕ) (more past : List (List ℕ)) (q : List ℕ) where
  -- on the PID of the map, as it is known later
  map-grows : (o : Option Listed) → listed (Some program) past ≡ o → on_map o q ≡ true → on_map (listed (Some program) (more ++ past)) q ≡ true
  map-grows None e y = absurd (true≢false (sym y))
  map-grows (Some l) e y = ap (λ o. on_map o q) (listed-later (Some program) l more past e) ∙ y

  -- on the PID of a switched stream, as they are known later
  streams-grow : (o : Option ProgramMap) → known_map (Some program) past ≡ o → on_one (pids_of (option_map program_in o)) q ≡ true → on_one (pids_of (program_of (Some program) (more ++ past))) q ≡ true
  streams-grow None e y = absurd (true≢false (sym y))
  streams-grow (Some m) e y = ap (λ o. on_one (pids_of (option_map program_in o)) q) (known-later (Some program) m more past e) ∙ y

  -- what is known of a program stays known
  pub known-grows : on_one (known_pids (Some program) past) q ≡ true → on_one (known_pids (Some program) (more ++ past)) q ≡ true
  known-grows h =
      let now : Bool = on_map (listed (Some program) (more ++ past)) q in
      let streams : Bool = on_one (pids_of (program_of (Some program) (more ++ past))) q in
      let here : (on_map (listed (Some program) past) q || on_one (pids_of (program_of (Some program) past)) q) ≡ true = sym (known-on program past q) ∙ h in
      known-on program (more ++ past) q
      ∙ by_test (on_map (listed (Some program) past) q)
      (λ y. or_left now streams (map-grows (listed (Some program) past) refl y))
      (λ n. or_right now streams (streams-grow (known_map (Some program) past) refl (simp n at here)))
