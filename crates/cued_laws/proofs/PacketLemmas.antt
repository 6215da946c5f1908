-- One packet on the PID of the cues, or on that of the map, behind a stream without fault for those who read cues.
use Rattle.std.specs.Option.{option_or}
use Rattle.std.proofs.Common.{◌≡◌, ℕ, List, [], ◌∷◌, Bool, true, false, ◌||◌, ◌==◌, refl, sym, ap, ◌∙◌, Option, Some, None, if◌then◌else◌}
use Rattle.std.specs.Prelude.{filter, is_some, option_map}
use Rattle.std.specs.List.{AllByRecursion, list_any}
use Rattle.std.proofs.lemmas.Bool.{eq-eqb, or_parts}
use Rattle.ts_packet.specs.Fields.{on, on_one}
use Rattle.ts_packet.specs.Runs.{onto}
use Rattle.psi_section.specs.Sections.{given}
use Rattle.psi_section.proofs.RunLemmas.{given_off}
use Rattle.psi_tables.specs.declared.network.NetworkFault.TheVariants.{BadPids, CuePidUsed}
use Rattle.psi_tables.specs.Streams.{pid_in, switched_of}
use Rattle.psi_tables.specs.ProgramMap.{ProgramMap, streams_of}
use Rattle.unit_stream.specs.Faults.{unit_fault}
use Rattle.program_follower.specs.declared.purpose.Purpose.{Purpose}
use Rattle.program_follower.specs.declared.purpose.Listed.{Listed}
use Rattle.program_follower.specs.Program.{first_listed, listed, tables, all_tables, first_map, known_map, program_in, program_of, behind_head, pids_of}
use Rattle.program_follower.specs.Faults.{is_pid, if_bad, pmt_pid_fault, pats_fault, pids_in, bad_pid, bad_switched, tables_fault, maps_fault, as_network, network_fault, first_fault}
use Rattle.program_follower.proofs.OptionLemmas.{option_or-none, none_both}
use Rattle.program_follower.proofs.StepLemmas.{tables_off, known_off}
use Rattle.program_laws.specs.Cued.{On}
use Rattle.program_laws.proofs.FaultLemmas.{not_if_bad, MapSound, all_sound, pid_good, first_sound}
use Rattle.program_laws.proofs.ReadingLemmas.{no_tables, none_at_pat}
use Rattle.program_laws.proofs.WritingLemmas.{off_other}
use Rattle.program_laws.proofs.HeadLemmas.{nothing_behind}
use Rattle.program_laws.proofs.SplicedLemmas.{any_switched}
use Rattle.cued_laws.proofs.UnitLemmas.{unit_off}
use Rattle.program_follower.specs.Purposes.{cues_read_on}

-- ---- PIDs

pub both_none : {A : Type 0} (x y : Option A) → x ≡ None → y ≡ None → option_or x y ≡ None
both_none x y h k = ap (λ o. option_or o y) h ∙ k

other_number : (a b : ℕ) → (b == a) ≡ false → a ≡ b → ⊥
other_number a b n e = let t : (b == a) ≡ true = eq-eqb b a (sym e) in let f : true ≡ false = sym t ∙ n in cc

-- a PID that a test takes, where it takes none of these
not_one : (a : ℕ) (f : ℕ → Bool) → f a ≡ true → (pids : List ℕ) → list_any f pids ≡ false → (q : List ℕ) → on a q ≡ true → on_one pids q ≡ false
not_one a f is [] none q y = refl
not_one a f is (pid ∷ pids) none q y =
    let r = or_parts (f pid) (list_any f pids) none in
    let other : a ≡ pid → ⊥ = (λ e. let g : true ≡ false = sym is ∙ ap f e ∙ r.0 in cc) in
    let n : on pid q ≡ false = off_other a pid q other y in
    ap (λ b. b || on_one pids q) n ∙ not_one a f is pids r.1 q y

module _ (wanted : Option ℕ) (cue : ℕ) (not_pat : cue ≡ 0 → ⊥) where
  abbrev R : Purpose
  R = cues_read_on wanted cue

  pub pid_parts : (out : List (List ℕ)) (l : Listed) → first_fault R out ≡ None → listed wanted out ≡ Some l → (l.pid ≡ 0 → ⊥) × (cue ≡ l.pid → ⊥)
  pid_parts out l ok known =
      let g : pmt_pid_fault R (Some l) ≡ None = ap (pmt_pid_fault R) (sym known) ∙ pid_good R out ok in
      let r = none_both (if_bad ((l.pid == 0) || (l.pid == 8191)) BadPids) (if_bad (is_pid (Some cue) l.pid) CuePidUsed) g in
      let zero = or_parts (l.pid == 0) (l.pid == 8191) (not_if_bad ((l.pid == 0) || (l.pid == 8191)) BadPids r.0) in
      let used : (l.pid == cue) ≡ false = not_if_bad (is_pid (Some cue) l.pid) CuePidUsed r.1 in
      ((λ e. other_number 0 l.pid zero.0 (sym e)), other_number cue l.pid used)

  -- a packet on the PID of the cues, or of the map, is of no switched stream
  cue_apart : (pid : ℕ) (o : Option ProgramMap) → MapSound R pid o → (q : List ℕ) → on cue q ≡ true → on_one (pids_of (option_map program_in o)) q ≡ false
  cue_apart pid None g q y = refl
  cue_apart pid (Some m) g q y =
      let r = or_parts (is_pid (Some cue) (pid_in m.pcr_field)) (list_any (is_pid (Some cue)) (pids_in (switched_of (streams_of m)))) g.cue in
      not_one cue (is_pid (Some cue)) (eq-eqb cue cue refl) (pids_in (switched_of (streams_of m))) r.1 q y

  or_true : (a b : Bool) → b ≡ true → a || b ≡ true
  or_true true b h = refl
  or_true false b h = h

  map_apart : (pid : ℕ) (o : Option ProgramMap) → MapSound R pid o → (q : List ℕ) → on pid q ≡ true → on_one (pids_of (option_map program_in o)) q ≡ false
  map_apart pid None g q y = refl
  map_apart pid (Some m) g q y =
      let bad = or_parts (list_any (bad_pid pid) (pid_in m.pcr_field ∷ pids_in (streams_of m))) (list_any (bad_switched (pids_in (streams_of m))) (pids_in (switched_of (streams_of m)))) g.pids in
      let r = or_parts (bad_pid pid (pid_in m.pcr_field)) (list_any (bad_pid pid) (pids_in (streams_of m))) bad.0 in
      not_one pid (bad_pid pid) (or_true (pid == 0) (pid == pid) (eq-eqb pid pid refl)) (pids_in (switched_of (streams_of m))) (any_switched (bad_pid pid) (streams_of m) r.1) q y

  sound_at : (out : List (List ℕ)) (l : Listed) → first_fault R out ≡ None → listed wanted out ≡ Some l → MapSound R l.pid (known_map wanted out)
  sound_at out l ok known = first_sound R l.pid (all_tables wanted out) (all_sound R out l ok known)

  pub cue_of_none : (out : List (List ℕ)) → first_fault R out ≡ None → (q : List ℕ) → on cue q ≡ true → on_one (pids_of (program_of wanted out)) q ≡ false
  cue_of_none out ok q y = by (listed wanted out) refl
    where
      by : (o : Option Listed) → listed wanted out ≡ o → on_one (pids_of (program_of wanted out)) q ≡ false
      by None known = let n = no_tables wanted out known in rw n refl
      by (Some l) known = cue_apart l.pid (known_map wanted out) (sound_at out l ok known) q y

  -- ---- a packet on the PID of the cues

  module _ (out : List (List ℕ)) (ok : first_fault R out ≡ None) (q : List ℕ) where
    no_pats : on 0 q ≡ false → pats_fault R (listed wanted out) (given 0 q out) ≡ None
    no_pats off = ap (pats_fault R (listed wanted out)) (given_off 0 q out off)

    no_unit : on_one (pids_of (program_of wanted out)) q ≡ false → as_network (unit_fault (pids_of (program_of wanted out)) q (behind_head wanted out)) ≡ None
    no_unit off = ap as_network (unit_off (pids_of (program_of wanted out)) q (behind_head wanted out) off)

    no_maps : ((l : Listed) → listed wanted out ≡ Some l → on l.pid q ≡ false) → maps_fault R (listed wanted out) (known_map wanted out) (tables wanted q out) ≡ None
    no_maps off = by (listed wanted out) refl
      where
        by : (o : Option Listed) → listed wanted out ≡ o → maps_fault R (listed wanted out) (known_map wanted out) (tables wanted q out) ≡ None
        by None known = ap (λ o. maps_fault R o (known_map wanted out) (tables wanted q out)) known
        by (Some l) known =
            ap (λ o. maps_fault R o (known_map wanted out) (tables wanted q out)) known
            ∙ ap (tables_fault R l.pid (known_map wanted out)) (tables_off wanted q out l known (off l known))

    pub parts_none : pats_fault R (listed wanted out) (given 0 q out) ≡ None → maps_fault R (listed wanted out) (known_map wanted out) (tables wanted q out) ≡ None
        → as_network (unit_fault (pids_of (program_of wanted out)) q (behind_head wanted out)) ≡ None → first_fault R (q ∷ out) ≡ None
    parts_none pats maps unit =
        let after = both_none (maps_fault R (listed wanted out) (known_map wanted out) (tables wanted q out)) (as_network (unit_fault (pids_of (program_of wanted out)) q (behind_head wanted out))) maps unit in
        let all = both_none (pats_fault R (listed wanted out) (given 0 q out)) (option_or (maps_fault R (listed wanted out) (known_map wanted out) (tables wanted q out)) (as_network (unit_fault (pids_of (program_of wanted out)) q (behind_head wanted out)))) pats after in
        both_none (first_fault R out) (network_fault R q out) ok all

    pub cue_sound : on cue q ≡ true → first_fault R (q ∷ out) ≡ None
    cue_sound y =
        parts_none (no_pats (off_other cue 0 q not_pat y))
        (no_maps (λ l known. off_other cue l.pid q (pid_parts out l ok known).1 y))
        (no_unit (cue_of_none out ok q y))

    -- ---- a packet on the PID of the map: what is wrong with it is what is wrong with the maps that it finishes

    pub map_sound_packet : (l : Listed) → listed wanted out ≡ Some l → on l.pid q ≡ true → tables_fault R l.pid (known_map wanted out) (tables wanted q out) ≡ None → first_fault R (q ∷ out) ≡ None
    map_sound_packet l known y none =
        parts_none (no_pats (off_other l.pid 0 q (pid_parts out l ok known).0 y))
        (ap (λ o. maps_fault R o (known_map wanted out) (tables wanted q out)) known ∙ none)
        (no_unit (map_apart l.pid (known_map wanted out) (sound_at out l ok known) q y))

    pub quiet_maps : ((l : Listed) → listed wanted out ≡ Some l → on l.pid q ≡ false) → maps_fault R (listed wanted out) (known_map wanted out) (tables wanted q out) ≡ None
    quiet_maps = no_maps

    -- ---- what a packet on the PID of the cues leaves as it was

    pub cue_lists : on cue q ≡ true → listed wanted (q ∷ out) ≡ listed wanted out
    cue_lists y =
        ap (λ ss. option_or (listed wanted out) (first_listed wanted ss)) (given_off 0 q out (off_other cue 0 q not_pat y))
        ∙ option_or-none (listed wanted out)

    pub cue_knows : on cue q ≡ true → known_map wanted (q ∷ out) ≡ known_map wanted out
    cue_knows y = by (listed wanted out) refl
      where
        by : (o : Option Listed) → listed wanted out ≡ o → known_map wanted (q ∷ out) ≡ known_map wanted out
        by None known = ap first_map (none_at_pat wanted q out known) ∙ ap first_map (sym (no_tables wanted out known))
        by (Some l) known = known_off wanted q out l known (off_other cue l.pid q (pid_parts out l ok known).1 y)

    pub cue_behind : (pids : List ℕ) → on_one pids q ≡ false → filter (on_one pids) (behind_head wanted (q ∷ out)) ≡ filter (on_one pids) (behind_head wanted out)
    cue_behind pids n = by (known_map wanted out) refl
      where
        by : (o : Option ProgramMap) → known_map wanted out ≡ o → filter (on_one pids) (if is_some o then q ∷ behind_head wanted out else []) ≡ filter (on_one pids) (behind_head wanted out)
        by None h = ap (filter (on_one pids)) (sym (nothing_behind wanted out h))
        by (Some m) h = simp n refl

  -- ---- packets on the PID of the cues

  pub record Quiet (out mid : List (List ℕ)) (pids : List ℕ) : Type 0 where
    pub sound : first_fault R mid ≡ None
    pub listed : listed wanted mid ≡ listed wanted out
    pub known : known_map wanted mid ≡ known_map wanted out
    pub behind : filter (on_one pids) (behind_head wanted mid) ≡ filter (on_one pids) (behind_head wanted out)

  pub quiet : (pids : List ℕ) → ((q : List ℕ) → on cue q ≡ true → on_one pids q ≡ false) → (qs out : List (List ℕ)) → first_fault R out ≡ None → AllByRecursion (On cue) qs → Quiet out (onto out qs) pids
  quiet pids apart [] out ok all = record { sound = ok; listed = refl; known = refl; behind = refl }
  quiet pids apart (q ∷ qs) out ok all =
      let r = quiet pids apart qs (q ∷ out) (cue_sound out ok q all.0) all.1 in record {
        sound = r.sound;
        listed = r.listed ∙ cue_lists out ok q all.0;
        known = r.known ∙ cue_knows out ok q all.0;
        behind = r.behind ∙ cue_behind out ok q pids (apart q all.0);
      }
