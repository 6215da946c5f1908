-- The sections of the output are read again.
use Rattle.std.proofs.Common.{◌≡◌, ℕ, ◌<◌, List, [], ◌∷◌, ◌++◌, Bool, true, false, not, ◌||◌, refl, sym, ap, ◌∙◌, Option, None, Some, append_assoc, if◌then◌else◌, subst, map, reverse}
use Rattle.std.specs.Prelude.{◌==◌}
use Rattle.std.specs.Option.{option_or}
use Rattle.std.specs.List.{AllByRecursion}
use Rattle.std.proofs.lemmas.Bool.{true≢false, eq-eqb, or_from, or_parts, or_right}
use Rattle.std.proofs.lemmas.List.{append-nil, reverse-reverse}
use Rattle.std.proofs.lemmas.List.Elements.{All-head}
use Rattle.ts_packet.specs.Fields.{on, in_error, pid_of, pcr, on_one, is_among}
use Rattle.ts_packet.specs.Numbering.{number_out}
use Rattle.ts_packet.specs.Runs.{onto}
use Rattle.ts_packet.proofs.Cases.{by_test}
use Rattle.psi_section.proofs.RunLemmas.{others_give}
use Rattle.psi_tables.specs.Cue.{without_cue_entry}
use Rattle.psi_tables.specs.ProgramMap.{ProgramMap}
use Rattle.program_follower.specs.declared.purpose.Listed.{Listed}
use Rattle.program_follower.specs.Program.{listed, first_listed, since_pat, table_of, tables, all_tables, known_map, behind_head}
use Rattle.program_follower.specs.Faults.{first_fault}
use Rattle.program_follower.proofs.StepLemmas.{listed_stays}
use Rattle.program_laws.specs.Writing.{Along, ChangedGoesOut, IsClear, table_out, Off}
use Rattle.program_laws.proofs.FaultLemmas.{Each-parts}
use Rattle.program_laws.proofs.ReadingLemmas.{listed_onto, tables_onto, no_tables}
use Rattle.program_laws.proofs.WritingLemmas.{off_other, written_reads_again}
use Rattle.output_laws.specs.Output.{Move, Keep, Leave, counter_steps, clock_alone, out_at}
use Rattle.output_laws.specs.Others.{is_off}
use Rattle.output_laws.proofs.StepLemmas.{on-kept, on-clock, on-same, pcr-error}
use Rattle.splice_plans.specs.Switching.{Setting, switched_at, history_at, front_at, place_at, rest_at, switching, switched_past, spliced_network, front_of, end_of_run}
use Rattle.splice_plans.specs.Known.{adverts_at}
use Rattle.ts_packet.proofs.FieldLemmas.{pid_is}
use Rattle.ts_packet.proofs.RunLemmas.{reverse-onto}
use Rattle.switch_laws.specs.Whole.{ArePacked, HavePids}
use Rattle.switch_laws.specs.Standing.{is_left, done_before}
use Rattle.switch_laws.specs.Sections.{MapsGoOut, SectionsStay}
use Rattle.switch_laws.proofs.FaultlessLemmas.{faultless_is_sound, map-not-zero, zero-apart}
use Rattle.switch_laws.proofs.OtherLemmas.{within-self, front-off, end-off}
use Rattle.switch_laws.proofs.StandingLemmas.{other-place, own-place, by-fate}
use Rattle.switch_laws.proofs.StreamLemmas.{all-reversed}
use Rattle.switch_laws.proofs.WholeLemmas.{packets-each, listed-later, known-later, adverts-same, switched-same, none-switched, not-behind, is-behind}
use Rattle.program_follower.specs.Purposes.{cues_read_on}

-- ---- packets of other PIDs

pub among-off : (pids : List ℕ) (b : ℕ) (q : List ℕ) → is_among b pids ≡ false → is_off pids q ≡ false → on b q ≡ false
among-off pids b q n o = by_test (on b q)
    (λ y. let t : is_off pids q ≡ true = ap (λ x. in_error q || not (is_among x pids)) (pid_is b q y) ∙ or_right (in_error q) (not (is_among b pids)) (ap not n) in
    absurd (true≢false (sym t ∙ o)))
    (λ f. f)

among-offs : (pids : List ℕ) (b : ℕ) (qs : List (List ℕ)) → is_among b pids ≡ false → AllByRecursion (λ q. is_off pids q ≡ false) qs → AllByRecursion (Off b) qs
among-offs pids b [] n h = tt
among-offs pids b (q ∷ qs) n h = (among-off pids b q n h.0, among-offs pids b qs n h.1)

pub none-switches : (pids : List ℕ) (b : ℕ) (p : List ℕ) → is_among b pids ≡ false → on b p ≡ true → on_one pids p ≡ false
none-switches [] b p n y = refl
none-switches (pid ∷ pids) b p n y =
    let r = or_parts (pid == b) (is_among b pids) n in
    or_from (on pid p) (on_one pids p) (off_other b pid p (λ e. true≢false (sym (eq-eqb pid b (sym e)) ∙ r.0)) y) (none-switches pids b p r.1 y)

-- ---- packets behind the last

pub no-more : (x : Option Listed) → option_or x None ≡ x
no-more None = refl
no-more (Some l) = refl

module _ (wanted : Option ℕ) (out qs : List (List ℕ)) (zero : AllByRecursion (Off 0) qs) where
  listed-behind : listed wanted (onto out qs) ≡ listed wanted out
  listed-behind = listed_onto wanted qs out ∙ ap (λ ss. option_or (listed wanted out) (first_listed wanted ss)) (others_give 0 qs out zero) ∙ no-more (listed wanted out)

  tables-behind : (o : Option Listed) → listed wanted out ≡ o → ((l : Listed) → listed wanted out ≡ Some l → AllByRecursion (Off l.pid) qs) → all_tables wanted (onto out qs) ≡ all_tables wanted out
  tables-behind None h off = no_tables wanted (onto out qs) (listed-behind ∙ h) ∙ sym (no_tables wanted out h)
  tables-behind (Some l) h off =
      tables_onto wanted qs out l h
      ∙ ap (λ ss. all_tables wanted out ++ map (table_of l.program) ss) (others_give l.pid qs (since_pat wanted out) (off l h))
      ∙ append-nil (all_tables wanted out)

-- ---- the network, newest packet first

module _ (k : Setting) (network : List (List ℕ)) (ok : first_fault (cues_read_on (Some k.program) k.cue_pid) network ≡ None) (cue : k.cue_pid ≡ 0 → ⊥)
    (maps : MapsGoOut k network) (good : ArePacked k.packed (adverts_at k network)) (pids : HavePids network) where
  abbrev wanted : Option ℕ
  wanted = Some k.program

  same-known : (m : ProgramMap) (p : List ℕ) (past more : List (List ℕ)) → network ≡ more ++ (p ∷ past) → known_map wanted past ≡ Some m → known_map wanted past ≡ known_map wanted network
  same-known m p past more is known =
      let split : network ≡ (more ++ p ∷ []) ++ past = is ∙ sym (append_assoc more (p ∷ []) past) in
      known ∙ sym (ap (known_map wanted) split ∙ known-later wanted m (more ++ p ∷ []) past known)

  listed-there : (p : List ℕ) (past more : List (List ℕ)) → network ≡ more ++ (p ∷ past) → (l : Listed) → listed wanted past ≡ Some l → listed wanted network ≡ Some l
  listed-there p past more is l h =
      ap (listed wanted) (is ∙ sym (append_assoc more (p ∷ []) past)) ∙ listed-later wanted l (more ++ p ∷ []) past h

  pmt-apart : (l : Listed) → listed wanted network ≡ Some l → is_among l.pid (switched_at k network) ≡ false
  pmt-apart l h = (faultless_is_sound k network ok).apart.pmt l h

  among-by : (b : ℕ) → is_among b (switched_at k network) ≡ false → (o : Option ProgramMap) (p : List ℕ) (past more : List (List ℕ)) → network ≡ more ++ (p ∷ past) → known_map wanted past ≡ o → is_among b (switched_at k past) ≡ false
  among-by b n None p past more is known = ap (is_among b) (none-switched k past known)
  among-by b n (Some m) p past more is known = ap (is_among b) (switched-same k past network (same-known m p past more is known)) ∙ n

  front-by : (b : ℕ) → is_among b (switched_at k network) ≡ false → (o : Option ProgramMap) (p : List ℕ) (past more : List (List ℕ)) → network ≡ more ++ (p ∷ past) → known_map wanted past ≡ o → AllByRecursion (Off b) (front_at k p past)
  front-by b n None p past more is known =
      subst (λ c. AllByRecursion (Off b) (if c then front_of (switched_at k past) (adverts_at k past) (history_at k past) k.packed p (behind_head wanted past) else [])) (sym (not-behind k past known)) tt
  front-by b n (Some m) p past more is known =
      let s = same-known m p past more is known in
      let f = front_of (switched_at k past) (adverts_at k past) (history_at k past) k.packed p (behind_head wanted past) in
      subst (λ c. AllByRecursion (Off b) (if c then front_of (switched_at k past) (adverts_at k past) (history_at k past) k.packed p (behind_head wanted past) else [])) (sym (is-behind k m past known))
      (among-offs (switched_at k past) b f (among-by b n (Some m) p past more is known)
      (front-off k.packed (switched_at k past) (switched_at k past) (adverts_at k past) (history_at k past) (within-self (switched_at k past)) (subst (ArePacked k.packed) (sym (adverts-same k past network s)) good) p (behind_head wanted past)))

  alone-off : (b n : ℕ) (p : List ℕ) (o : Option (List ℕ)) → pcr p ≡ o → on b p ≡ false → pid_of p < 8192 → AllByRecursion (Off b) (clock_alone (pid_of p) n o)
  alone-off b n p None is off low = tt
  alone-off b n p (Some c) is off low = (on-clock b (pid_of p) n c low ∙ sym (on-same p b (pcr-error p c is)) ∙ off, tt)

  moved-off : (b : ℕ) (p : List ℕ) (S : List Move) (d : Bool) → on b p ≡ false → pid_of p < 8192 → AllByRecursion (Off b) (out_at k.packed (if d then Leave p else Keep p) S)
  moved-off b p S true off low = alone-off b (number_out p (counter_steps k.packed (pid_of p) (Leave p ∷ S))) p (pcr p) refl off low
  moved-off b p S false off low = (on-kept k.packed b p S ∙ off, tt)

  gone : (p : List ℕ) (past : List (List ℕ)) → on k.cue_pid p ≡ true → place_at k p past ≡ []
  gone p past y = simp y refl

  place-off : (b : ℕ) (p : List ℕ) (past : List (List ℕ)) → on b p ≡ false → pid_of p < 8192 → AllByRecursion (Off b) (place_at k p past)
  place-off b p past off low = by_test (on k.cue_pid p)
      (λ y. subst (AllByRecursion (Off b)) (sym (gone p past y)) tt)
      (λ c. by_test (on_one (switched_at k past) p)
      (λ w. subst (AllByRecursion (Off b)) (sym (own-place k p past c w ∙ by-fate k p past (is_left k p past) refl)) (moved-off b p (done_before k p past) (is_left k p past) off low))
      (λ w. subst (AllByRecursion (Off b)) (sym (other-place k p past c w)) (off, tt)))

  clear : (past more : List (List ℕ)) → network ≡ more ++ past → ((l : Listed) → listed wanted past ≡ Some l → AllByRecursion (ChangedGoesOut (without_cue_entry k.cue_pid) l.program) (all_tables wanted past)) →
      Along (IsClear (switching k) wanted) past
  clear [] more is h = tt
  clear (p ∷ past) more is h =
      let f : List ℕ → Type 0 = λ q. pid_of q < 8192 in
      let low = All-head f p past (packets-each f more (p ∷ past) (subst HavePids is pids)) in
      let zero = zero-apart k network ok in (
        record {
          front = front-by 0 zero (known_map wanted past) p past more is refl;
          keeps = λ y. other-place k p past (off_other 0 k.cue_pid p (λ e. cue (sym e)) y) (none-switches (switched_at k past) 0 p (among-by 0 zero (known_map wanted past) p past more is refl) y);
          place = λ n. place-off 0 p past n low;
          behind = λ l known. record {
            pid = map-not-zero k network ok l (listed-there p past more is l known);
            front = front-by l.pid (pmt-apart l (listed-there p past more is l known)) (known_map wanted past) p past more is refl;
            place = λ n. place-off l.pid p past n low;
            maps = (Each-parts (ChangedGoesOut (without_cue_entry k.cue_pid) l.program) (all_tables wanted past) (tables wanted p past) (h l (listed_stays wanted p past l known))).1;
          };
        },
        clear past (more ++ p ∷ []) (is ∙ sym (append_assoc more (p ∷ []) past))
            (λ l known. (Each-parts (ChangedGoesOut (without_cue_entry k.cue_pid) l.program) (all_tables wanted past) (tables wanted p past) (h l (listed_stays wanted p past l known))).0),
      )

  rest-by : (b : ℕ) → is_among b (switched_at k network) ≡ false → (o : Option ProgramMap) → known_map wanted network ≡ o → AllByRecursion (Off b) (rest_at k network)
  rest-by b n None known =
      subst (λ c. AllByRecursion (Off b) (if c then end_of_run (switched_at k network) (adverts_at k network) (history_at k network) k.packed (behind_head wanted network) else [])) (sym (not-behind k network known)) tt
  rest-by b n (Some m) known =
      let f = end_of_run (switched_at k network) (adverts_at k network) (history_at k network) k.packed (behind_head wanted network) in
      subst (λ c. AllByRecursion (Off b) (if c then end_of_run (switched_at k network) (adverts_at k network) (history_at k network) k.packed (behind_head wanted network) else [])) (sym (is-behind k m network known))
      (among-offs (switched_at k network) b f n
      (end-off k.packed (switched_at k network) (switched_at k network) (adverts_at k network) (history_at k network) (within-self (switched_at k network)) good (behind_head wanted network)))

  abbrev out : List (List ℕ)
  out = switched_past k network

  pub whole-listed : listed wanted (onto out (rest_at k network)) ≡ listed wanted network
  whole-listed =
      listed-behind wanted out (rest_at k network) (rest-by 0 (zero-apart k network ok) (known_map wanted network) refl)
      ∙ (written_reads_again (switching k) wanted network (clear network [] refl maps)).same_pat

  pub whole-tables : all_tables wanted (onto out (rest_at k network)) ≡ map (table_out (without_cue_entry k.cue_pid)) (all_tables wanted network)
  whole-tables =
      let again = written_reads_again (switching k) wanted network (clear network [] refl maps) in
      tables-behind wanted out (rest_at k network) (rest-by 0 (zero-apart k network ok) (known_map wanted network) refl) (listed wanted out) refl
      (λ l h. rest-by l.pid (pmt-apart l (sym again.same_pat ∙ h)) (known_map wanted network) refl)
      ∙ again.tables

-- the output, newest packet first
back-is : (k : Setting) (network : List (List ℕ)) → reverse (spliced_network k network) ≡ onto (switched_past k (reverse network)) (rest_at k (reverse network))
back-is k network =
    ap reverse (sym (reverse-onto (switched_past k (reverse network)) (rest_at k (reverse network))))
    ∙ reverse-reverse (onto (switched_past k (reverse network)) (rest_at k (reverse network)))

pub sections_stay : SectionsStay
sections_stay k network ok cue maps good pids =
    let w = all-reversed (λ (p : List ℕ). pid_of p < 8192) network pids in
    record {
      pat = ap (listed (Some k.program)) (back-is k network) ∙ whole-listed k (reverse network) ok cue maps good w;
      tables = ap (all_tables (Some k.program)) (back-is k network) ∙ whole-tables k (reverse network) ok cue maps good w;
    }
