-- The events that the cues of a network arm are a history.
use Rattle.std.proofs.Common.{◌≡◌, ℕ, List, [], ◌∷◌, ◌++◌, true, refl, sym, ap, ◌∙◌, Option, None, Some, append_assoc, subst, if◌then◌else◌, length, drop}
use Rattle.std.specs.Prelude.{is_some, option_map}
use Rattle.std.proofs.lemmas.Bool.{true≢false}
use Rattle.psi_tables.specs.ProgramMap.{ProgramMap}
use Rattle.unit_stream.specs.Times.{high}
use Rattle.program_follower.specs.Program.{known_map, behind_head, program_in, pids_of}
use Rattle.program_laws.proofs.HeadLemmas.{known_stays, nothing_behind}
use Rattle.armed_events.specs.Arming.{armed}
use Rattle.armed_laws.specs.Laws.{Grows, OnlyRises}
use Rattle.armed_laws.proofs.GrowLemmas.{packets-grow}
use Rattle.armed_laws.proofs.MeetLemmas.{none-meet}
use Rattle.splice_laws.specs.Laws.{Risen}
use Rattle.splice_laws.proofs.PidLemmas.{pids_are_streams}
use Rattle.splice_plans.specs.Switching.{Setting, switched_at, high_at, head_at, history_at}
use Rattle.splice_plans.specs.Histories.{IsHistory, ArmedIsHistory}

module _ (k : Setting) where
  abbrev wanted : Option ℕ
  wanted = Some k.program

  abbrev pids : ProgramMap → List ℕ
  pids m = pids_of (Some (program_in m))

  switched-is : (past : List (List ℕ)) (m : ProgramMap) → known_map wanted past ≡ Some m → switched_at k past ≡ pids m
  switched-is past m is = ap (λ o. pids_of (option_map program_in o)) is

  behind-more : (p : List ℕ) (past : List (List ℕ)) (m : ProgramMap) → known_map wanted past ≡ Some m → behind_head wanted (p ∷ past) ≡ p ∷ behind_head wanted past
  behind-more p past m is = ap (λ o. if is_some o then p ∷ behind_head wanted past else []) is

  high-is : (past : List (List ℕ)) (m : ProgramMap) → known_map wanted past ≡ Some m → high_at k past ≡ high (pids m) (behind_head wanted past)
  high-is past m is = ap (λ s. high s (behind_head wanted past)) (switched-is past m is)

  -- the greatest time never falls
  never-by : (p : List ℕ) (past : List (List ℕ)) (o : Option ProgramMap) → known_map wanted past ≡ o → Risen (high_at k past) (high_at k (p ∷ past))
  never-by p past None is =
      let none : high_at k past ≡ None = ap (λ l. high (switched_at k past) l) (nothing_behind wanted past is) in
      rw none tt
  never-by p past (Some m) is =
      let after : high_at k (p ∷ past) ≡ high (pids m) (p ∷ behind_head wanted past) = high-is (p ∷ past) m (known_stays wanted p past m is) ∙ ap (high (pids m)) (behind-more p past m is) in
      rw (high-is past m is, after) ((pids_are_streams (pids m) 0).rises p (behind_head wanted past))

  pub never-falls : OnlyRises (high_at k)
  never-falls p past = never-by p past (known_map wanted past) refl

  -- behind a head
  pub record IsHead (m : ProgramMap) (head : List (List ℕ)) : Type 0 where
    pub known : known_map wanted head ≡ Some m
    pub nothing : behind_head wanted head ≡ []

  head-by : (p : List ℕ) (past : List (List ℕ)) (m : ProgramMap) (o : Option ProgramMap) → known_map wanted past ≡ o → known_map wanted (p ∷ past) ≡ Some m
      → ((n : ProgramMap) → known_map wanted past ≡ Some n → IsHead n (head_at k past)) → IsHead m (head_at k (p ∷ past))
  head-by p past m None is now before =
      let none : behind_head wanted (p ∷ past) ≡ [] = ap (λ o. if is_some o then p ∷ behind_head wanted past else []) is in
      let here : head_at k (p ∷ past) ≡ p ∷ past = ap (λ l. drop (length l) (p ∷ past)) none in
      rw here (record { known = now; nothing = none })
  head-by p past m (Some n) is now before =
      let more : behind_head wanted (p ∷ past) ≡ p ∷ behind_head wanted past = behind-more p past n is in
      let there : head_at k (p ∷ past) ≡ head_at k past = ap (λ l. drop (length l) (p ∷ past)) more in
      let same : Some n ≡ Some m = sym (known_stays wanted p past n is) ∙ now in
      rw there (before m (is ∙ same))

  head-is : (past : List (List ℕ)) (m : ProgramMap) → known_map wanted past ≡ Some m → IsHead m (head_at k past)
  head-is [] m is = absurd (true≢false (sym (ap is_some is)))
  head-is (p ∷ past) m is = head-by p past m (known_map wanted past) refl is (head-is past)

  known-on : (m : ProgramMap) (head : List (List ℕ)) → IsHead m head → (q : List (List ℕ)) → known_map wanted (q ++ head) ≡ Some m
  known-on m head h [] = h.known
  known-on m head h (p ∷ q) = known_stays wanted p (q ++ head) m (known-on m head h q)

  behind-on : (m : ProgramMap) (head : List (List ℕ)) → IsHead m head → (q : List (List ℕ)) → behind_head wanted (q ++ head) ≡ q
  behind-on m head h [] = h.nothing
  behind-on m head h (p ∷ q) = behind-more p (q ++ head) m (known-on m head h q) ∙ ap (λ l. p ∷ l) (behind-on m head h q)

  high-on : (m : ProgramMap) (head : List (List ℕ)) → IsHead m head → (q : List (List ℕ)) → high_at k (q ++ head) ≡ high (pids m) q
  high-on m head h q = high-is (q ++ head) m (known-on m head h q) ∙ ap (high (pids m)) (behind-on m head h q)

  is-history : (m : ProgramMap) (head : List (List ℕ)) → IsHead m head → IsHistory (high (pids m)) (λ behind. armed k.cue_pid (high_at k) (behind ++ head))
  is-history m head h = record {
    grows = λ more past.
        subst (λ (l : List (List ℕ)). Grows (high (pids m) past) (armed k.cue_pid (high_at k) (past ++ head)) (armed k.cue_pid (high_at k) l)) (sym (append_assoc more past head))
        (rw (sym (high-on m head h past)) (packets-grow k.cue_pid (high_at k) never-falls more (past ++ head)));
    apart = λ past. none-meet k.cue_pid (high_at k) (past ++ head);
  }

  by-known : (past : List (List ℕ)) (o : Option ProgramMap) → known_map wanted past ≡ o → is_some (option_map program_in o) ≡ true → IsHistory (high (switched_at k past)) (history_at k past)
  by-known past None is b = absurd (true≢false (sym b))
  by-known past (Some m) is b = rw (switched-is past m is) (is-history m (head_at k past) (head-is past m is))

pub armed_is_history : ArmedIsHistory
armed_is_history k past b = by-known k past (known_map (Some k.program) past) refl b
