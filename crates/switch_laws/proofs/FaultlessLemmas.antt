-- The switched streams of a network without fault.
use Rattle.std.proofs.Common.{◌≡◌, ℕ, List, [], ◌∷◌, Bool, true, false, ◌||◌, inl, inr, refl, sym, ap, ◌∙◌, Option, None, Some, subst}
use Rattle.std.specs.Prelude.{◌==◌, option_map}
use Rattle.std.specs.Option.{option_or}
use Rattle.std.specs.List.{AllByRecursion, list_any}
use Rattle.std.proofs.lemmas.Bool.{true≢false, eq-eqb, or_from, or_parts, eqb-true}
use Rattle.ts_packet.proofs.Cases.{by_test}
use Rattle.psi_tables.specs.declared.stream.Stream.{Stream}
use Rattle.psi_tables.specs.Streams.{switched_of, is_switched, pid_in}
use Rattle.psi_tables.specs.ProgramMap.{ProgramMap, streams_of}
use Rattle.program_follower.specs.declared.purpose.Purpose.{Purpose}
use Rattle.program_follower.specs.declared.purpose.Listed.{Listed}
use Rattle.program_follower.specs.Program.{listed, Table, all_tables, known_map, first_map, program_in, pids_of}
use Rattle.psi_tables.specs.declared.network.NetworkFault.TheVariants.{BadPids, CuePidUsed}
use Rattle.program_follower.specs.Faults.{first_fault, pids_in, is_twice, bad_pid, bad_switched, is_pid, if_bad, pmt_pid_fault}
use Rattle.program_follower.proofs.OptionLemmas.{none_both}
use Rattle.program_laws.proofs.FaultLemmas.{Sound, MapSound, all_sound, not_if_bad, pid_good}
use Rattle.program_laws.proofs.ReadingLemmas.{no_tables}
use Rattle.program_laws.proofs.SplicedLemmas.{any_switched}
use Rattle.ts_packet.specs.Fields.{is_among}
use Rattle.splice_laws.specs.Streams.{IsOnce}
use Rattle.splice_plans.specs.Switching.{Setting, switched_at}
use Rattle.program_follower.proofs.StreamLemmas.{in_switched}
use Rattle.switch_laws.specs.Standing.{IsSwitchable, FaultlessIsSound}
use Rattle.switch_laws.proofs.WholeLemmas.{none-switched}
use Rattle.program_follower.specs.Purposes.{cues_read_on}

-- one that stands not twice, and is there, stands once
once : (x : ℕ) (ss : List Stream) → is_twice x (pids_in ss) ≡ false → is_among x (pids_in (switched_of ss)) ≡ true → IsOnce x (pids_in (switched_of ss))
once x [] t a = absurd (true≢false (sym a))
once x (s ∷ ss) t a = by_test (s.pid == x)
    (λ e. let n : is_among x (pids_in ss) ≡ false = simp e at t in
    by_test (is_switched s.kind)
    (λ y. simp y (inl (eqb-true s.pid x e, in_switched x ss n)))
    (λ y. let b : is_among x (pids_in (switched_of ss)) ≡ true = simp y at a in absurd (true≢false (sym b ∙ in_switched x ss n))))
    (λ e. let n : is_twice x (pids_in ss) ≡ false = simp e at t in
    by_test (is_switched s.kind)
    (λ y. let b : is_among x (pids_in (switched_of ss)) ≡ true = simp (y, e) at a in simp y (inr (e, once x ss n b)))
    (λ y. let b : is_among x (pids_in (switched_of ss)) ≡ true = simp y at a in simp y (once x ss n b)))

among-any : (x : ℕ) (f : ℕ → Bool) (qs : List ℕ) → ((q : ℕ) → f q ≡ false → (q == x) ≡ false) → list_any f qs ≡ false → is_among x qs ≡ false
among-any x f [] h n = refl
among-any x f (q ∷ qs) h n = let r = or_parts (f q) (list_any f qs) n in or_from (q == x) (is_among x qs) (h q r.0) (among-any x f qs h r.1)

any-among : (x : ℕ) (f : ℕ → Bool) (qs : List ℕ) → list_any f qs ≡ false → is_among x qs ≡ true → f x ≡ false
any-among x f [] n a = absurd (true≢false (sym a))
any-among x f (q ∷ qs) n a =
    let r = or_parts (f q) (list_any f qs) n in
    by_test (q == x) (λ e. ap f (sym (eqb-true q x e)) ∙ r.0) (λ e. any-among x f qs r.1 (simp e at a))

-- the first map is one of those that were read
same-map : (n m : ProgramMap) → Some n ≡ Some m → n ≡ m
same-map n m e = cc

sound-or : (c : Purpose) (pid : ℕ) (m : ProgramMap) (o rest : Option ProgramMap) → MapSound c pid o → option_or o rest ≡ Some m → (rest ≡ Some m → Sound c pid m) → Sound c pid m
sound-or c pid m None rest s h later = later h
sound-or c pid m (Some n) rest s h later = subst (Sound c pid) (same-map n m h) s

pub first-sound : (c : Purpose) (pid : ℕ) (m : ProgramMap) (ts : List Table) → AllByRecursion (λ (t : Table). MapSound c pid t.program_map) ts → first_map ts ≡ Some m → Sound c pid m
first-sound c pid m [] a h = cc
first-sound c pid m (t ∷ ts) a h = sound-or c pid m t.program_map (first_map ts) a.0 h (first-sound c pid m ts a.1)

module _ (k : Setting) (past : List (List ℕ)) (h : first_fault (cues_read_on (Some k.program) k.cue_pid) past ≡ None) where
  abbrev purpose : Purpose
  purpose = cues_read_on (Some k.program) k.cue_pid

  pub unlisted : (o : Option Listed) → listed (Some k.program) past ≡ o → (m : ProgramMap) → known_map (Some k.program) past ≡ Some m → (l : Listed) × (listed (Some k.program) past ≡ Some l)
  unlisted (Some l) e m known = (l, e)
  unlisted None e m known = absurd (no-map m (sym (ap first_map (no_tables (Some k.program) past e)) ∙ known))
    where
      no-map : (m : ProgramMap) → None ≡ Some m → ⊥
      no-map m e = cc

  by-map : (m : ProgramMap) (l : Listed) → known_map (Some k.program) past ≡ Some m → listed (Some k.program) past ≡ Some l → IsSwitchable k past
  by-map m l known e =
      let s = first-sound purpose l.pid m (all_tables (Some k.program) past) (all_sound purpose past l h e) known in
      let ss = streams_of m in
      let bad = or_parts (list_any (bad_pid l.pid) (pid_in m.pcr_field ∷ pids_in ss)) (list_any (bad_switched (pids_in ss)) (pids_in (switched_of ss))) s.pids in
      let each = or_parts (bad_pid l.pid (pid_in m.pcr_field)) (list_any (bad_pid l.pid) (pids_in ss)) bad.0 in
      let cue = or_parts (is_pid (Some k.cue_pid) (pid_in m.pcr_field)) (list_any (is_pid (Some k.cue_pid)) (pids_in (switched_of ss))) s.cue in
      let sw : switched_at k past ≡ pids_in (switched_of ss) = ap (λ o. pids_of (option_map program_in o)) known in
      record {
        apart = record {
          cue = ap (is_among k.cue_pid) sw ∙ among-any k.cue_pid (is_pid (Some k.cue_pid)) (pids_in (switched_of ss)) (λ q n. n) cue.1;
          pmt = λ other g.
              let same : l ≡ other = same-listed l other (sym e ∙ g) in
              ap (λ (l : Listed). is_among l.pid (switched_at k past)) (sym same)
              ∙ ap (is_among l.pid) sw
              ∙ among-any l.pid (bad_pid l.pid) (pids_in (switched_of ss)) (λ q n. (or_parts (q == 0) (q == l.pid) n).1) (any_switched (bad_pid l.pid) ss each.1);
        };
        once = λ pid a.
            let here : is_among pid (pids_in (switched_of ss)) ≡ true = sym (ap (is_among pid) sw) ∙ a in
            let t = any-among pid (bad_switched (pids_in ss)) (pids_in (switched_of ss)) bad.1 here in
            subst (IsOnce pid) (sym sw) (once pid ss (or_parts (pid == 8191) (is_twice pid (pids_in ss)) t).1 here);
      }
    where
      same-listed : (l other : Listed) → Some l ≡ Some other → l ≡ other
      same-listed l other e = cc

  by-known : (o : Option ProgramMap) → known_map (Some k.program) past ≡ o → IsSwitchable k past
  by-known None known =
      let sw : switched_at k past ≡ [] = none-switched k past known in
      record {
        apart = record { cue = ap (is_among k.cue_pid) sw; pmt = λ l g. ap (is_among l.pid) sw };
        once = λ pid a. absurd (true≢false (sym a ∙ ap (is_among pid) sw));
      }
  by-known (Some m) known = let u = unlisted (listed (Some k.program) past) refl m known in by-map m u.0 known u.1

-- ---- PID 0

module _ (k : Setting) (past : List (List ℕ)) (h : first_fault (cues_read_on (Some k.program) k.cue_pid) past ≡ None) where
  pub map-not-zero : (l : Listed) → listed (Some k.program) past ≡ Some l → l.pid ≡ 0 → ⊥
  map-not-zero l known e =
      let c = purpose k past h in
      let g : pmt_pid_fault c (Some l) ≡ None = ap (pmt_pid_fault c) (sym known) ∙ pid_good c past h in
      let r = none_both (if_bad ((l.pid == 0) || (l.pid == 8191)) BadPids) (if_bad (is_pid c.cue_pid l.pid) CuePidUsed) g in
      let z = or_parts (l.pid == 0) (l.pid == 8191) (not_if_bad ((l.pid == 0) || (l.pid == 8191)) BadPids r.0) in
      true≢false (sym (eq-eqb l.pid 0 e) ∙ z.0)

  zero-by : (m : ProgramMap) (l : Listed) → known_map (Some k.program) past ≡ Some m → listed (Some k.program) past ≡ Some l → is_among 0 (switched_at k past) ≡ false
  zero-by m l known e =
      let c = purpose k past h in
      let s = first-sound c l.pid m (all_tables (Some k.program) past) (all_sound c past l h e) known in
      let ss = streams_of m in
      let bad = or_parts (list_any (bad_pid l.pid) (pid_in m.pcr_field ∷ pids_in ss)) (list_any (bad_switched (pids_in ss)) (pids_in (switched_of ss))) s.pids in
      let each = or_parts (bad_pid l.pid (pid_in m.pcr_field)) (list_any (bad_pid l.pid) (pids_in ss)) bad.0 in
      ap (λ o. is_among 0 (pids_of (option_map program_in o))) known
      ∙ among-any 0 (bad_pid l.pid) (pids_in (switched_of ss)) (λ q n. (or_parts (q == 0) (q == l.pid) n).0) (any_switched (bad_pid l.pid) ss each.1)

  zero-known : (o : Option ProgramMap) → known_map (Some k.program) past ≡ o → is_among 0 (switched_at k past) ≡ false
  zero-known None known = ap (is_among 0) (none-switched k past known)
  zero-known (Some m) known = let u = unlisted k past h (listed (Some k.program) past) refl m known in zero-by m u.0 known u.1

  -- it is no switched stream's
  pub zero-apart : is_among 0 (switched_at k past) ≡ false
  zero-apart = zero-known (known_map (Some k.program) past) refl

pub faultless_is_sound : FaultlessIsSound
faultless_is_sound k past h = by-known k past h (known_map (Some k.program) past) refl
