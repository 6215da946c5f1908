-- The PIDs that are known of the program: which packets are on them, and that they only grow.
use Rattle.std.proofs.Common.{◌≡◌, ℕ, ◌+◌, List, [], ◌∷◌, ◌++◌, Bool, true, false, ◌||◌, ◌==◌, ◌⊎◌, inl, inr, refl, sym, ap, ◌∙◌, arith, length, Option, Some, None}
use Rattle.std.specs.Prelude.{option_map, option_to_list, is_some}
use Rattle.std.proofs.Math.Bool.{or-false}
use Rattle.std.proofs.lemmas.Bool.{or_left, or_right}
use Rattle.std.proofs.lemmas.List.{append-nil, length-append, nil_from_length}
use Rattle.ts_packet.specs.Fields.{on, on_one, is_among}
use Rattle.ts_packet.proofs.Cases.{by_test, true_or_false}
use Rattle.program_follower.specs.declared.purpose.Listed.{Listed}
use Rattle.program_follower.specs.Program.{listed, pmt_pid_of, Program, program_of, pids_of, known_pids}
use Rattle.program_follower.specs.Streaming.{next_place, first_on, place_in}
use Rattle.program_follower.specs.Following.{on_map}
use Rattle.program_follower.proofs.StepLemmas.{listed_stays}
use Rattle.program_follower.proofs.FollowLemmas.{program_stays}

-- ---- a packet on one of some PIDs

-- a packet is on one of the PIDs of two lists where it is on one of either
pub on_one-append : (xs ys : List ℕ) (p : List ℕ) → on_one (xs ++ ys) p ≡ on_one xs p || on_one ys p
on_one-append [] ys p = refl
on_one-append (x ∷ xs) ys p = by_test (on x p) (λ y. simp y refl) (λ n. simp n (on_one-append xs ys p))

-- a PID is among those of two lists where it is among those of either
pub is_among-append : (xs ys : List ℕ) (pid : ℕ) → is_among pid (xs ++ ys) ≡ is_among pid xs || is_among pid ys
is_among-append [] ys pid = refl
is_among-append (x ∷ xs) ys pid = by_test (x == pid) (λ y. simp y refl) (λ n. simp n (is_among-append xs ys pid))

-- the place farther on is there where the place is
place_moved : (o : Option (ℕ × ℕ)) → is_some (option_map (λ (x : ℕ × ℕ). x.0) o) ≡ is_some (option_map (λ (x : ℕ × ℕ). x.0) (option_map next_place o))
place_moved None = refl
place_moved (Some x) = refl

-- a packet is on one of the PIDs where it has a place among them
pub on_placed : (pids : List ℕ) (p : List ℕ) → on_one pids p ≡ is_some (place_in pids p)
on_placed [] p = refl
on_placed (pid ∷ pids) p = by_test (on pid p) (λ y. simp y refl) (λ n. simp n (on_placed pids p ∙ place_moved (first_on pids p)))

-- the PID of the map, where it is listed
abbrev map_pid : Option Listed → List ℕ
map_pid o = option_to_list (option_map (λ (l : Listed). l.pid) o)

-- a packet is on that PID where it is on that of the map
on_listed : (o : Option Listed) (p : List ℕ) → on_one (map_pid o) p ≡ on_map o p
on_listed None p = refl
on_listed (Some l) p = or-false (on l.pid p)

-- ---- a packet on one of the PIDs that are known of the program

module _ (wanted : Option ℕ) (p : List ℕ) (past : List (List ℕ)) (off : on_map (listed wanted past) p ≡ false) where
  -- a packet that is not on the PID of the map is on a known PID where it has a place among the streams
  pub owned_off_map : (o : Option ℕ) → o ≡ place_in (pids_of (program_of wanted past)) p → is_some o ≡ on_one (known_pids wanted past) p
  owned_off_map o e =
      ap is_some e ∙ sym (on_placed (pids_of (program_of wanted past)) p)
      ∙ sym (ap (λ b. b || on_one (pids_of (program_of wanted past)) p) (on_listed (listed wanted past) p ∙ off))
      ∙ sym (on_one-append (option_to_list (pmt_pid_of wanted past)) (pids_of (program_of wanted past)) p)

-- ---- they only grow

-- what was there before is there after
abbrev pub Stays : List ℕ → List ℕ → Type 0
Stays before after = (before ≡ []) ⊎ (after ≡ before)

-- the PID of the map stays
map_stays : (wanted : Option ℕ) (p : List ℕ) (past : List (List ℕ)) → Stays (map_pid (listed wanted past)) (map_pid (listed wanted (p ∷ past)))
map_stays wanted p past = by (listed wanted past) refl where
  by : (o : Option Listed) → listed wanted past ≡ o → Stays (map_pid (listed wanted past)) (map_pid (listed wanted (p ∷ past)))
  by None e = inl (ap map_pid e)
  by (Some l) e = inr (ap map_pid (listed_stays wanted p past l e ∙ sym e))

-- those of the streams stay
streams_stay : (wanted : Option ℕ) (p : List ℕ) (past : List (List ℕ)) → Stays (pids_of (program_of wanted past)) (pids_of (program_of wanted (p ∷ past)))
streams_stay wanted p past = by (program_of wanted past) refl where
  by : (o : Option Program) → program_of wanted past ≡ o → Stays (pids_of (program_of wanted past)) (pids_of (program_of wanted (p ∷ past)))
  by None e = inl (ap pids_of e)
  by (Some r) e = inr (ap pids_of (program_stays wanted p past r e ∙ sym e))

-- of two lists that stay, as many stay the same
same_by : (a b c d : List ℕ) → Stays a c → Stays b d → length (c ++ d) ≡ length (a ++ b) → c ++ d ≡ a ++ b
same_by a b c d (inr x) (inr y) n = ap (λ s. s ++ d) x ∙ ap (λ s. a ++ s) y
same_by a b c d (inl x) (inl y) n =
    let none : length (c ++ d) ≡ 0 = n ∙ ap (λ s. length (s ++ b)) x ∙ ap length y in
    nil_from_length (c ++ d) none ∙ sym (ap (λ s. s ++ b) x ∙ y)
same_by a b c d (inl x) (inr y) n =
    let m : length (c ++ d) ≡ length b = n ∙ ap (λ s. length (s ++ b)) x in
    let k : length c + length d ≡ length b = sym (length-append c d) ∙ m in
    let l : length d ≡ length b = ap length y in
    let z : length c ≡ 0 = omega arith in
    ap (λ s. s ++ d) (nil_from_length c z) ∙ y ∙ sym (ap (λ s. s ++ b) x)
same_by a b c d (inr x) (inl y) n =
    let m : length (c ++ d) ≡ length a = n ∙ ap (λ s. length (a ++ s)) y ∙ ap length (append-nil a) in
    let k : length c + length d ≡ length a = sym (length-append c d) ∙ m in
    let l : length c ≡ length a = ap length x in
    let z : length d ≡ 0 = omega arith in
    ap (λ s. s ++ d) x ∙ ap (λ s. a ++ s) (nil_from_length d z ∙ sym y)

-- what holds of one in a list that stays holds of one in the list after
one_by : (holds : List ℕ → Bool) → holds [] ≡ false → (before after : List ℕ) → Stays before after → holds before ≡ true → holds after ≡ true
one_by holds none before after (inl x) h = true_or_false (holds before) h (ap holds x ∙ none)
one_by holds none before after (inr x) h = ap holds x ∙ h

both_by : (holds : List ℕ → Bool) → holds [] ≡ false → ((xs ys : List ℕ) → holds (xs ++ ys) ≡ holds xs || holds ys)
    → (a b c d : List ℕ) → Stays a c → Stays b d → holds (a ++ b) ≡ true → holds (c ++ d) ≡ true
both_by holds none joined a b c d x y h =
    joined c d
    ∙ by_test (holds a)
    (λ t. or_left (holds c) (holds d) (one_by holds none a c x t))
    (λ n. or_right (holds c) (holds d) (one_by holds none b d y (sym (ap (λ s. s || holds b) n) ∙ (sym (joined a b) ∙ h))))

module _ (wanted : Option ℕ) (p : List ℕ) (past : List (List ℕ)) where
  -- THE KNOWN PIDS ONLY GROW: as many are the same ones
  pub known_pids_same : length (known_pids wanted (p ∷ past)) ≡ length (known_pids wanted past) → known_pids wanted (p ∷ past) ≡ known_pids wanted past
  known_pids_same = same_by _ _ _ _ (map_stays wanted p past) (streams_stay wanted p past)

  -- and each that is known stays known
  pub known_pid_stays : (pid : ℕ) → is_among pid (known_pids wanted past) ≡ true → is_among pid (known_pids wanted (p ∷ past)) ≡ true
  known_pid_stays pid = both_by (is_among pid) refl (λ xs ys. is_among-append xs ys pid) _ _ _ _ (map_stays wanted p past) (streams_stay wanted p past)

  -- so a packet on one of them stays on one of them
  pub owned_stays : (q : List ℕ) → on_one (known_pids wanted past) q ≡ true → on_one (known_pids wanted (p ∷ past)) q ≡ true
  owned_stays q = both_by (λ pids. on_one pids q) refl (λ xs ys. on_one-append xs ys q) _ _ _ _ (map_stays wanted p past) (streams_stay wanted p past)
