-- What is looked for among the entries of a map, one entry after another.
use Rattle.std.proofs.Common.{◌≡◌, ℕ, List, [], ◌∷◌, Bool, true, false, ◌&&◌, ◌||◌, ◌==◌, refl, sym, ap, ◌∙◌, if◌then◌else◌}
use Rattle.std.specs.Prelude.{None}
use Rattle.std.specs.Bool.{Decides}
use Rattle.std.specs.List.{list_any}
use Rattle.std.proofs.lemmas.Bool.{and_parts, or_left}
use Rattle.ts_packet.proofs.Cases.{by_test}
use Rattle.psi_tables.specs.declared.stream.Stream.{Stream}
use Rattle.psi_tables.specs.Streams.{is_switched, switched_of}
use Rattle.psi_tables.proofs.SwitchedLemmas.{stream_decides}
use Rattle.program_follower.specs.declared.purpose.Purpose.{Purpose}
use Rattle.ts_packet.specs.Fields.{is_among}
use Rattle.program_follower.specs.Faults.{is_pid, pids_in, is_twice, cue_used, same_streams}

abbrev pub among : (ℕ → Bool) → List Stream → Bool
among f ss = list_any f (pids_in ss)

abbrev pub among_switched : (ℕ → Bool) → List Stream → Bool
among_switched f ss = list_any f (pids_in (switched_of ss))

pub or_later : (a b : Bool) → a ≡ false → a || b ≡ b
or_later true b h = absurd (cc)
or_later false b h = refl

module _ (f : ℕ → Bool) (all rest rest' : List Stream) (s : Stream) (e : rest ≡ s ∷ rest') where
  pub found_listed : among f rest ≡ among f all → f s.pid ≡ true → true ≡ among f all
  found_listed h y = sym (or_left (f s.pid) (among f rest') y) ∙ ap (among f) (sym e) ∙ h

  pub passed_listed : among f rest ≡ among f all → f s.pid ≡ false → among f rest' ≡ among f all
  passed_listed h n = sym (or_later (f s.pid) (among f rest') n) ∙ ap (among f) (sym e) ∙ h

  pub found_switched : among_switched f rest ≡ among_switched f all → is_switched s.kind ≡ true → f s.pid ≡ true → true ≡ among_switched f all
  found_switched h k y = let a : among_switched f (s ∷ rest') ≡ true = simp k (or_left (f s.pid) (among_switched f rest') y) in sym a ∙ ap (among_switched f) (sym e) ∙ h

  pub other_switched : among_switched f rest ≡ among_switched f all → is_switched s.kind ≡ false → among_switched f rest' ≡ among_switched f all
  other_switched h k = let a : among_switched f (s ∷ rest') ≡ among_switched f rest' = simp k refl in sym a ∙ ap (among_switched f) (sym e) ∙ h

  pub passed_switched : among_switched f rest ≡ among_switched f all → is_switched s.kind ≡ true → f s.pid ≡ false → among_switched f rest' ≡ among_switched f all
  passed_switched h k n = let a : among_switched f (s ∷ rest') ≡ among_switched f rest' = simp k (or_later (f s.pid) (among_switched f rest') n) in sym a ∙ ap (among_switched f) (sym e) ∙ h

-- ---- a PID that stands twice

-- whether it stands once more, by whether it was found
abbrev pub twice_from : Bool → ℕ → List Stream → Bool
twice_from true pid ss = is_among pid (pids_in ss)
twice_from false pid ss = is_twice pid (pids_in ss)

module _ (pid : ℕ) (all rest rest' : List Stream) (s : Stream) (e : rest ≡ s ∷ rest') where
  pub found_twice : twice_from true pid rest ≡ is_twice pid (pids_in all) → (s.pid == pid) ≡ true → true ≡ is_twice pid (pids_in all)
  found_twice h y = sym (or_left (s.pid == pid) (is_among pid (pids_in rest')) y) ∙ ap (λ x. is_among pid (pids_in x)) (sym e) ∙ h

  pub found_once : twice_from false pid rest ≡ is_twice pid (pids_in all) → (s.pid == pid) ≡ true → twice_from true pid rest' ≡ is_twice pid (pids_in all)
  found_once h y = let a : is_twice pid (pids_in (s ∷ rest')) ≡ is_among pid (pids_in rest') = simp y refl in sym a ∙ ap (λ x. is_twice pid (pids_in x)) (sym e) ∙ h

  pub not_found : (b : Bool) → twice_from b pid rest ≡ is_twice pid (pids_in all) → (s.pid == pid) ≡ false → twice_from b pid rest' ≡ is_twice pid (pids_in all)
  not_found true h n = sym (or_later (s.pid == pid) (is_among pid (pids_in rest')) n) ∙ ap (λ x. is_among pid (pids_in x)) (sym e) ∙ h
  not_found false h n = let a : is_twice pid (pids_in (s ∷ rest')) ≡ is_twice pid (pids_in rest') = simp n refl in sym a ∙ ap (λ x. is_twice pid (pids_in x)) (sym e) ∙ h

pub none_twice : (b : Bool) (pid : ℕ) (all rest : List Stream) → rest ≡ [] → twice_from b pid rest ≡ is_twice pid (pids_in all) → false ≡ is_twice pid (pids_in all)
none_twice true pid all rest e h = sym (ap (λ x. is_among pid (pids_in x)) e) ∙ h
none_twice false pid all rest e h = sym (ap (λ x. is_twice pid (pids_in x)) e) ∙ h

-- ---- no PID of cues

pub no_cue_used : (c : Purpose) (streams : List Stream) (pcr_pid : ℕ) → c.cue_pid ≡ None → false ≡ cue_used c streams pcr_pid
no_cue_used c streams pcr_pid h =
    sym (ap (λ o. list_any (is_pid o) (pcr_pid ∷ pids_in (if c.writes_cues then streams else switched_of streams))) h ∙ none_is (pcr_pid ∷ pids_in (if c.writes_cues then streams else switched_of streams))) where
      none_is : (pids : List ℕ) → list_any (is_pid None) pids ≡ false
      none_is [] = refl
      none_is (pid ∷ pids) = none_is pids

-- ---- the same streams

made : ℕ → ℕ → Stream
made kind pid = record { kind = kind; pid = pid }

pub same_is : (ss ts : List Stream) → same_streams ss ts ≡ true → ss ≡ ts
same_is [] [] h = refl
same_is [] (t ∷ ts) h = absurd (cc)
same_is (s ∷ ss) [] h = absurd (cc)
same_is (s ∷ ss) (t ∷ ts) h =
    let r = and_parts ((s.kind == t.kind) && (s.pid == t.pid)) (same_streams ss ts) h in
    ap (λ x. x ∷ ss) ((stream_decides s t).0 r.0) ∙ ap (λ xs. t ∷ xs) (same_is ss ts r.1)

pub same_self : (ss : List Stream) → same_streams ss ss ≡ true
same_self [] = refl
same_self (s ∷ ss) = let e = (stream_decides s s).1 refl in simp e (same_self ss)

pub same_by_test : (b : Bool) (ss ts : List Stream) → Decides b (ss ≡ ts) → b ≡ same_streams ss ts
same_by_test true ss ts d = sym (ap (same_streams ss) (sym (d.0 refl)) ∙ same_self ss)
same_by_test false ss ts d = by_test (same_streams ss ts) (λ y. absurd (let e = d.1 (same_is ss ts y) in cc)) (λ n. sym n)
