-- The tables of the output, and the PID of the cues.
use Rattle.std.proofs.Common.{◌≡◌, ℕ, ◌<◌, List, [], ◌∷◌, ◌++◌, Bool, true, false, ◌||◌, refl, sym, ap, ◌∙◌, subst, Option, None, Some, if◌then◌else◌, append_assoc, map, reverse}
use Rattle.std.specs.Prelude.{filter, option_map, ◌==◌}
use Rattle.std.specs.Option.{option_or}
use Rattle.std.specs.List.{AllByRecursion, list_any}
use Rattle.std.proofs.lemmas.Bool.{true≢false, eq-eqb, or_parts, or_right, eqb-true}
use Rattle.std.proofs.lemmas.List.{reverse-reverse, append-nil}
use Rattle.std.proofs.lemmas.List.Elements.{All-head}
use Rattle.ts_packet.specs.Fields.{on, pid_of, on_one, is_among}
use Rattle.ts_packet.specs.Runs.{onto}
use Rattle.ts_packet.proofs.Cases.{by_test}
use Rattle.ts_packet.proofs.RunLemmas.{filter-reverse, reverse-onto}
use Rattle.psi_section.specs.Laws.{CanBeGiven}
use Rattle.psi_section.proofs.RunLemmas.{others_give}
use Rattle.psi_section.proofs.ReadBackLemmas.{turn_carry}
use Rattle.wire_fields.specs.Numbers.{AreBytes}
use Rattle.psi_tables.specs.declared.config.Config.{Config}
use Rattle.psi_tables.specs.declared.stream.Stream.{Stream}
use Rattle.psi_tables.specs.Streams.{pid_in, switched_of}
use Rattle.psi_tables.specs.Streams.{is_switched as is_kind_switched}
use Rattle.psi_tables.specs.ProgramMap.{ProgramMap, pmt, pmt_section, streams_of}
use Rattle.psi_tables.specs.Cue.{with_cue_entry, without_cue_entry}
use Rattle.program_follower.specs.declared.purpose.Listed.{Listed}
use Rattle.program_follower.specs.Program.{listed, first_listed, Table, table_of, map_read, tables, all_tables, first_map, known_map, program_in, behind_head, pids_of}
use Rattle.program_follower.specs.Faults.{is_pid, pids_in, bad_pid, bad_switched, pmt_pid_fault, if_bad}
use Rattle.psi_tables.specs.declared.network.NetworkFault.TheVariants.{BadPids, CuePidUsed}
use Rattle.program_follower.proofs.OptionLemmas.{none_both}
use Rattle.program_follower.proofs.StreamLemmas.{one_pid}
use Rattle.program_laws.specs.Writing.{Along, number_on, section_out, table_out, packets_out, body, Off, MapGoesOut, ChangedGoesOut, IsClear, ReadsAgain, block}
use Rattle.program_laws.specs.CueEntry.{EntryGoes}
use Rattle.program_laws.proofs.ByteLemmas.{all_bytes}
use Rattle.program_laws.proofs.CuedLemmas.{IsRead, all_read, any_entries}
use Rattle.program_laws.proofs.EntryOutLemmas.{entry_goes_out}
use Rattle.program_laws.proofs.FaultLemmas.{Each-map, Each-both, Each-parts, MapSound, all_sound, pid_good, not_if_bad}
use Rattle.program_laws.proofs.PacketLemmas.{one_past-below}
use Rattle.program_laws.proofs.ReadingLemmas.{listed_onto, tables_onto, no_tables}
use Rattle.program_laws.proofs.WritingLemmas.{carry_off, listed_below, written_reads_again}
use Rattle.ad_library.specs.Advertisements.{Advertisement}
use Rattle.injector.specs.Steps.{Step, packets_in}
use Rattle.injector.specs.Steps.{cued as sent_cues}
use Rattle.path_laws.proofs.Packets.{map-pid}
use Rattle.output_laws.specs.Others.{is_off}
use Rattle.output_laws.proofs.OtherLemmas.{off_on}
use Rattle.splice_plans.specs.Adverts.{packed_units, setting_of}
use Rattle.splice_plans.specs.Switching.{Setting, switched_at, history_at, front_at, place_at, place_of, front_of, rest_at, switching, switched_past, end_of_run}
use Rattle.splice_plans.specs.Known.{adverts_at}
use Rattle.switch_laws.specs.Whole.{ArePacked, HavePids}
use Rattle.switch_laws.proofs.FaultlessLemmas.{first-sound}
use Rattle.switch_laws.proofs.OtherLemmas.{front-off, end-off, place-off, among-self}
use Rattle.switch_laws.proofs.WholeLemmas.{packets-each, listed-later, known-later, adverts-same, switched-same, none-switched, not-behind, is-behind}
use Rattle.switch_laws.proofs.SectionLemmas.{none-switches, among-off}
use Rattle.psi_section.proofs.GivenLemmas.{each-append}
use Rattle.chain_laws.specs.Runs.{switched_by, output_by, IsWholeRun}
use Rattle.chain_laws.specs.Tables.{HasTables, TablesAreTheNetworks}
use Rattle.chain_laws.proofs.RunLemmas.{reads, cued-pids, each-onto}
use Rattle.chain_laws.proofs.CarriedLemmas.{same-switched, same-adverts, cue-apart, map-apart}
use Rattle.chain_laws.proofs.PmtLemmas.{filter-none}
use Rattle.program_follower.specs.Purposes.{writing_cues}

-- ---- packets off a PID

none-of : (f : List ℕ → Bool) (ps : List (List ℕ)) → filter f ps ≡ [] → AllByRecursion (λ p. f p ≡ false) ps
none-of f [] h = tt
none-of f (p ∷ ps) h = by_test (f p) (λ y. absurd (let bad = simp y at h in cc)) (λ n. (n, none-of f ps (simp n at h)))

within : (pids all : List ℕ) → ((x : ℕ) → is_among x pids ≡ true → is_among x all ≡ true) → AllByRecursion (λ pid. is_among pid all ≡ true) pids
within [] all h = tt
within (x ∷ pids) all h = (h x (among-self x pids), within pids all (λ y a. h y (or_right (x == y) (is_among y pids) a)))

switched-off : (pids all : List ℕ) (p : List ℕ) → AllByRecursion (λ pid. is_among pid all ≡ true) pids → on_one pids p ≡ true → is_off all p ≡ false
switched-off [] all p w s = absurd (true≢false (sym s))
switched-off (pid ∷ pids) all p w s = by_test (on pid p) (λ y. off_on packed_units all pid p w.0 y) (λ n. switched-off pids all p w.1 (simp n at s))

module _ (k : Setting) (back : List (List ℕ)) (good : ArePacked k.packed (adverts_at k back)) (pids : HavePids back) where
  abbrev wanted : Option ℕ
  wanted = Some k.program

  same-known : (m : ProgramMap) (p : List ℕ) (past more : List (List ℕ)) → back ≡ more ++ (p ∷ past) → known_map (Some k.program) past ≡ Some m → known_map (Some k.program) past ≡ known_map (Some k.program) back
  same-known m p past more is known =
      let e : back ≡ (more ++ p ∷ []) ++ past = is ∙ sym (append_assoc more (p ∷ []) past) in
      known ∙ sym (ap (known_map wanted) e ∙ known-later wanted m (more ++ p ∷ []) past known)

  good-here : (past : List (List ℕ)) → known_map (Some k.program) past ≡ known_map (Some k.program) back → ArePacked k.packed (adverts_at k past)
  good-here past h = subst (ArePacked k.packed) (sym (adverts-same k past back h)) good

  self : (past : List (List ℕ)) → AllByRecursion (λ pid. is_among pid (switched_at k past) ≡ true) (switched_at k past)
  self past = within (switched_at k past) (switched_at k past) (λ x a. a)

  module _ (a : ℕ) (none : is_among a (switched_at k back) ≡ false) where
    none-here : (past : List (List ℕ)) → known_map (Some k.program) past ≡ known_map (Some k.program) back → is_among a (switched_at k past) ≡ false
    none-here past h = ap (is_among a) (switched-same k past back h) ∙ none

    pub front-apart : (o : Option ProgramMap) (p : List ℕ) (past more : List (List ℕ)) → back ≡ more ++ (p ∷ past) → known_map (Some k.program) past ≡ o → AllByRecursion (Off a) (front_at k p past)
    front-apart None p past more is known =
        subst (λ c. AllByRecursion (Off a) (if c then front_of (switched_at k past) (adverts_at k past) (history_at k past) k.packed p (behind_head wanted past) else [])) (sym (not-behind k past known)) tt
    front-apart (Some m) p past more is known =
        let s = same-known m p past more is known in
        let f = front_of (switched_at k past) (adverts_at k past) (history_at k past) k.packed p (behind_head wanted past) in
        subst (λ c. AllByRecursion (Off a) (if c then f else [])) (sym (is-behind k m past known))
        (Each-map (λ q. is_off (switched_at k past) q ≡ false) (Off a) (λ q o. among-off (switched_at k past) a q (none-here past s) o) f
        (front-off k.packed (switched_at k past) (switched_at k past) (adverts_at k past) (history_at k past) (self past) (good-here past s) p (behind_head wanted past)))

    pub rest-apart : (o : Option ProgramMap) → known_map (Some k.program) back ≡ o → AllByRecursion (Off a) (rest_at k back)
    rest-apart None known =
        subst (λ c. AllByRecursion (Off a) (if c then end_of_run (switched_at k back) (adverts_at k back) (history_at k back) k.packed (behind_head wanted back) else [])) (sym (not-behind k back known)) tt
    rest-apart (Some m) known =
        let f = end_of_run (switched_at k back) (adverts_at k back) (history_at k back) k.packed (behind_head wanted back) in
        subst (λ c. AllByRecursion (Off a) (if c then f else [])) (sym (is-behind k m back known))
        (Each-map (λ q. is_off (switched_at k back) q ≡ false) (Off a) (λ q o. among-off (switched_at k back) a q none o) f
        (end-off k.packed (switched_at k back) (switched_at k back) (adverts_at k back) (history_at k back) (self back) good (behind_head wanted back)))

    switched-place : (m : ProgramMap) (p : List ℕ) (past more : List (List ℕ)) → back ≡ more ++ (p ∷ past) → known_map (Some k.program) past ≡ Some m → on_one (switched_at k past) p ≡ true →
        AllByRecursion (Off a) (place_of (switched_at k past) (adverts_at k past) (history_at k past) k.packed p (behind_head (Some k.program) past))
    switched-place m p past more is known y =
        let s = same-known m p past more is known in
        let f : List ℕ → Type 0 = λ q. pid_of q < 8192 in
        let l = All-head f p past (packets-each f more (p ∷ past) (subst HavePids is pids)) in
        let out = place_of (switched_at k past) (adverts_at k past) (history_at k past) k.packed p (behind_head wanted past) in
        let gone = place-off k.packed (switched_at k past) (switched_at k past) (adverts_at k past) (history_at k past) (self past) (good-here past s) p (behind_head wanted past) y l
        ∙ filter-none (is_off (switched_at k past)) (p ∷ []) (switched-off (switched_at k past) (switched_at k past) p (self past) y, tt) in
        Each-map (λ q. is_off (switched_at k past) q ≡ false) (Off a) (λ q o. among-off (switched_at k past) a q (none-here past s) o) out (none-of (is_off (switched_at k past)) out gone)

    pick : (c s : Bool) (out : List (List ℕ)) (p : List ℕ) → on a p ≡ false → (s ≡ true → AllByRecursion (Off a) out) → AllByRecursion (Off a) (if c then [] else (if s then out else p ∷ []))
    pick true s out p n h = tt
    pick false true out p n h = h refl
    pick false false out p n h = (n, tt)

    pub place-apart : (o : Option ProgramMap) (p : List ℕ) (past more : List (List ℕ)) → back ≡ more ++ (p ∷ past) → known_map (Some k.program) past ≡ o → on a p ≡ false → AllByRecursion (Off a) (place_at k p past)
    place-apart None p past more is known n =
        pick (on k.cue_pid p) (on_one (switched_at k past) p) (place_of (switched_at k past) (adverts_at k past) (history_at k past) k.packed p (behind_head wanted past)) p n
        (λ y. absurd (true≢false (sym y ∙ ap (λ sw. on_one sw p) (none-switched k past known))))
    place-apart (Some m) p past more is known n =
        pick (on k.cue_pid p) (on_one (switched_at k past) p) (place_of (switched_at k past) (adverts_at k past) (history_at k past) k.packed p (behind_head wanted past)) p n (switched-place m p past more is known)

-- ---- a whole run

not-among : (x : ℕ) (f : ℕ → Bool) (ss : List Stream) → f x ≡ true → list_any f (pids_in ss) ≡ false → is_among x (pids_in (switched_of ss)) ≡ false
not-among x f [] y n = refl
not-among x f (s ∷ ss) y n =
    let r = or_parts (f s.pid) (list_any f (pids_in ss)) n in
    by_test (is_kind_switched s.kind)
    (λ z. by_test (s.pid == x)
    (λ e. absurd (true≢false (sym (ap f (eqb-true s.pid x e) ∙ y) ∙ r.0)))
    (λ e. simp (z, e) (not-among x f ss y r.1)))
    (λ z. simp z (not-among x f ss y r.1))

module _ (c : Config) (filed : ℕ → Option Advertisement) (steps : List Step) (w : IsWholeRun c filed steps) where
  abbrev k : Setting
  k = setting_of c filed

  abbrev net : List (List ℕ)
  net = packets_in steps

  abbrev back : List (List ℕ)
  back = sent_cues c steps

  abbrev cue : ℕ
  cue = c.cue_pid

  good : ArePacked packed_units (adverts_at (setting_of c filed) (sent_cues c steps))
  good = subst (ArePacked packed_units) (sym (same-adverts c filed steps w)) w.library

  same-pat : listed (Some c.program) (sent_cues c steps) ≡ listed (Some c.program) (packets_in steps)
  same-pat = (reads c filed steps w.run).same_pat

  -- ---- maps

  module _ (l : Listed) (known : listed (Some c.program) (packets_in steps) ≡ Some l) where
    abbrev EntryIn : List ℕ → Option ProgramMap → Type 0
    EntryIn s None = Unit {0}
    EntryIn s (Some m) = EntryGoes l.program c.cue_pid s m

    takes-entry : (s : List ℕ) (o : Option ProgramMap) → map_read l.program (pmt s) ≡ o → CanBeGiven s → AreBytes s → MapSound (writing_cues c) l.pid o → EntryIn s o
    takes-entry s None r g b sound = tt
    takes-entry s (Some m) r g b sound =
        let used : list_any (is_pid (Some c.cue_pid)) (pid_in m.pcr_field ∷ pids_in (streams_of m)) ≡ false = sound.cue in
        entry_goes_out l.program c.cue_pid s m w.run.cue_pid
        (record {
          reads = r;
          bytes = b;
          given = g;
          room = sound.room;
          free = sym (any_entries c.cue_pid m.entries) ∙ (or_parts (is_pid (Some c.cue_pid) (pid_in m.pcr_field)) (list_any (is_pid (Some c.cue_pid)) (pids_in (streams_of m))) used).1;
        })

    abbrev Goes : Table → Type 0
    Goes t = EntryIn t.section t.program_map

    all-go : AllByRecursion Goes (all_tables (Some c.program) (packets_in steps))
    all-go =
        let ts = all_tables (Some c.program) net in
        let P = IsRead l.program in
        let Q = λ (t : Table). AreBytes t.section in
        let R = λ (t : Table). MapSound (writing_cues c) l.pid t.program_map in
        Each-map (λ (t : Table). P t × (Q t × R t)) Goes (λ t h. takes-entry t.section t.program_map h.0.0 h.0.1 h.1.0 h.1.1) ts
        (Each-both P (λ (t : Table). Q t × R t) ts (all_read (Some c.program) net l known) (Each-both Q R ts (all_bytes (Some c.program) net w.run.bytes) (all_sound (writing_cues c) net l w.run.faultless known)))

    back-by : (s : List ℕ) (o : Option ProgramMap) → EntryIn s o → MapGoesOut (without_cue_entry c.cue_pid) l.program (option_map (with_cue_entry c.cue_pid) o)
    back-by s None h = tt
    back-by s (Some m) h = let e = h.undone in rw e h.back

    backs : (ts : List Table) → AllByRecursion Goes ts → AllByRecursion (ChangedGoesOut (without_cue_entry c.cue_pid) l.program) (map (table_out (with_cue_entry c.cue_pid)) ts)
    backs [] h = tt
    backs (t ∷ ts) h = (back-by t.section t.program_map h.0, backs ts h.1)

    abbrev made : List ℕ → Option ProgramMap → Table
    made s o = record { section = s; program_map = o }

    same-by : (s : List ℕ) (o : Option ProgramMap) → EntryIn s o → table_out (without_cue_entry c.cue_pid) (table_out (with_cue_entry c.cue_pid) (made s o)) ≡ made s o
    same-by s None h = refl
    same-by s (Some m) h = ap (λ x. made (pmt_section x) (Some x)) h.undone ∙ ap (λ x. made x (Some m)) h.spelled

    sames : (ts : List Table) → AllByRecursion Goes ts → map (table_out (without_cue_entry c.cue_pid)) (map (table_out (with_cue_entry c.cue_pid)) ts) ≡ ts
    sames [] h = refl
    sames (t ∷ ts) h =
        ap (λ u. u ∷ map (table_out (without_cue_entry c.cue_pid)) (map (table_out (with_cue_entry c.cue_pid)) ts)) (same-by t.section t.program_map h.0)
        ∙ ap (λ us. t ∷ us) (sames ts h.1)

    maps-go : AllByRecursion (ChangedGoesOut (without_cue_entry c.cue_pid) l.program) (all_tables (Some c.program) (sent_cues c steps))
    maps-go = subst (AllByRecursion (ChangedGoesOut (without_cue_entry c.cue_pid) l.program)) (sym (reads c filed steps w.run).tables) (backs (all_tables (Some c.program) net) all-go)

    -- ---- PIDs

    zero-by : (o : Option ProgramMap) → known_map (Some c.program) (packets_in steps) ≡ o → is_among 0 (switched_by c steps) ≡ false
    zero-by None h = ap (λ o. is_among 0 (pids_of (option_map program_in o))) h
    zero-by (Some m) h =
        let s = first-sound (writing_cues c) l.pid m (all_tables (Some c.program) net) (all_sound (writing_cues c) net l w.run.faultless known) h in
        let bad = or_parts (list_any (bad_pid l.pid) (pid_in m.pcr_field ∷ pids_in (streams_of m))) (list_any (bad_switched (pids_in (streams_of m))) (pids_in (switched_of (streams_of m)))) s.pids in
        let each = or_parts (bad_pid l.pid (pid_in m.pcr_field)) (list_any (bad_pid l.pid) (pids_in (streams_of m))) bad.0 in
        ap (λ o. is_among 0 (pids_of (option_map program_in o))) h ∙ not-among 0 (bad_pid l.pid) (streams_of m) refl each.1

    pub not-cue : c.cue_pid ≡ l.pid → ⊥
    not-cue e = map-pid c net l w.run.faultless known (sym e)

    not-zero : l.pid ≡ 0 → ⊥
    not-zero e =
        let g : pmt_pid_fault (writing_cues c) (Some l) ≡ None = ap (pmt_pid_fault (writing_cues c)) (sym known) ∙ pid_good (writing_cues c) net w.run.faultless in
        let r = none_both (if_bad ((l.pid == 0) || (l.pid == 8191)) BadPids) (if_bad (l.pid == c.cue_pid) CuePidUsed) g in
        true≢false (sym (eq-eqb l.pid 0 e) ∙ (or_parts (l.pid == 0) (l.pid == 8191) (not_if_bad ((l.pid == 0) || (l.pid == 8191)) BadPids r.0)).0)

  zero-apart : (o : Option Listed) → listed (Some c.program) (packets_in steps) ≡ o → is_among 0 (switched_by c steps) ≡ false
  zero-apart None h = ap (λ ts. is_among 0 (pids_of (option_map program_in (first_map ts)))) (no_tables (Some c.program) net h)
  zero-apart (Some l) h = zero-by l h (known_map (Some c.program) net) refl

  none-of-pid : (a : ℕ) → is_among a (switched_by c steps) ≡ false → is_among a (switched_at (setting_of c filed) (sent_cues c steps)) ≡ false
  none-of-pid a h = ap (is_among a) (same-switched c filed steps w) ∙ h

  pids : HavePids (sent_cues c steps)
  pids = cued-pids c steps w.run

  -- ---- what is written can be read

  pub front-clear : (a : ℕ) → is_among a (switched_by c steps) ≡ false → (p : List ℕ) (past more : List (List ℕ)) → sent_cues c steps ≡ more ++ (p ∷ past) → AllByRecursion (Off a) (front_at (setting_of c filed) p past)
  front-clear a h p past more is = front-apart k back good pids a (none-of-pid a h) (known_map (Some c.program) past) p past more is refl

  pub place-clear : (a : ℕ) → is_among a (switched_by c steps) ≡ false → (p : List ℕ) (past more : List (List ℕ)) → sent_cues c steps ≡ more ++ (p ∷ past) → on a p ≡ false → AllByRecursion (Off a) (place_at (setting_of c filed) p past)
  place-clear a h p past more is n = place-apart k back good pids a (none-of-pid a h) (known_map (Some c.program) past) p past more is refl n

  known-back : (l : Listed) (past more : List (List ℕ)) → sent_cues c steps ≡ more ++ past → listed (Some c.program) past ≡ Some l → listed (Some c.program) (packets_in steps) ≡ Some l
  known-back l past more is h = sym same-pat ∙ ap (listed (Some c.program)) is ∙ listed-later (Some c.program) l more past h

  switched-sub : (a : ℕ) (p : List ℕ) (past more : List (List ℕ)) → sent_cues c steps ≡ more ++ (p ∷ past) → is_among a (switched_by c steps) ≡ false → (o : Option ProgramMap) → known_map (Some c.program) past ≡ o →
      is_among a (switched_at (setting_of c filed) past) ≡ false
  switched-sub a p past more is h None known = ap (is_among a) (none-switched k past known)
  switched-sub a p past more is h (Some m) known = ap (is_among a) (switched-same k past back (same-known k back good pids m p past more is known)) ∙ none-of-pid a h

  keeps : (p : List ℕ) (past more : List (List ℕ)) → sent_cues c steps ≡ more ++ (p ∷ past) → on 0 p ≡ true → place_at (setting_of c filed) p past ≡ p ∷ []
  keeps p past more is y =
      let z = zero-apart (listed (Some c.program) net) refl in
      let s = none-switches (switched_at k past) 0 p (switched-sub 0 p past more is z (known_map (Some c.program) past) refl) y in
      by_test (on c.cue_pid p)
      (λ o. absurd (w.run.not_pat (one_pid c.cue_pid 0 p o y)))
      (λ o. simp (o, s) refl)

  parts-here : (P : Table → Type 0) (p : List ℕ) (past more : List (List ℕ)) → sent_cues c steps ≡ more ++ (p ∷ past) → AllByRecursion P (all_tables (Some c.program) (sent_cues c steps)) → AllByRecursion P (tables (Some c.program) p past)
  parts-here P p past more is h = later more (subst (λ l. AllByRecursion P (all_tables (Some c.program) l)) is h)
    where
      later : (more : List (List ℕ)) → AllByRecursion P (all_tables (Some c.program) (more ++ (p ∷ past))) → AllByRecursion P (tables (Some c.program) p past)
      later [] h = (Each-parts P (all_tables (Some c.program) past) (tables (Some c.program) p past) h).1
      later (q ∷ more) h = later more (Each-parts P (all_tables (Some c.program) (more ++ (p ∷ past))) (tables (Some c.program) q (more ++ (p ∷ past))) h).0

  clear-from : (past more : List (List ℕ)) → sent_cues c steps ≡ more ++ past → Along (IsClear (switching (setting_of c filed)) (Some c.program)) past
  clear-from [] more is = tt
  clear-from (p ∷ past) more is =
      let z = zero-apart (listed (Some c.program) net) refl in
      let there : back ≡ (more ++ p ∷ []) ++ past = is ∙ sym (append_assoc more (p ∷ []) past) in (
        record {
          front = front-clear 0 z p past more is;
          keeps = keeps p past more is;
          place = place-clear 0 z p past more is;
          behind = λ l h. let g = known-back l past (more ++ p ∷ []) there h in record {
            pid = not-zero l g;
            front = front-clear l.pid (map-apart c filed steps w l g) p past more is;
            place = place-clear l.pid (map-apart c filed steps w l g) p past more is;
            maps = parts-here (ChangedGoesOut (without_cue_entry c.cue_pid) l.program) p past more is (maps-go l g);
          };
        },
        clear-from past (more ++ p ∷ []) there,
      )

  again : ReadsAgain (switching (setting_of c filed)) (Some c.program) (sent_cues c steps)
  again = written_reads_again (switching k) (Some c.program) back (clear-from back [] refl)

  -- ---- with what is left at the end

  abbrev end : List (List ℕ)
  end = rest_at (setting_of c filed) (sent_cues c steps)

  pub end-clear : (a : ℕ) → is_among a (switched_by c steps) ≡ false → AllByRecursion (Off a) (rest_at (setting_of c filed) (sent_cues c steps))
  end-clear a h = rest-apart k back good pids a (none-of-pid a h) (known_map (Some c.program) back) refl

  pub out-is : reverse (output_by c filed steps) ≡ onto (switched_past (setting_of c filed) (sent_cues c steps)) (rest_at (setting_of c filed) (sent_cues c steps))
  out-is =
      ap (λ l. reverse (reverse (switched_past k l) ++ rest_at k l)) (reverse-reverse back)
      ∙ ap reverse (sym (reverse-onto (switched_past k back) end))
      ∙ reverse-reverse (onto (switched_past k back) end)

  or-none : (o : Option Listed) → option_or o None ≡ o
  or-none None = refl
  or-none (Some l) = refl

  onto-pat : listed (Some c.program) (onto (switched_past (setting_of c filed) (sent_cues c steps)) (rest_at (setting_of c filed) (sent_cues c steps))) ≡ listed (Some c.program) (switched_past (setting_of c filed) (sent_cues c steps))
  onto-pat =
      listed_onto (Some c.program) end (switched_past k back)
      ∙ ap (λ ss. option_or (listed (Some c.program) (switched_past k back)) (firsts ss)) (others_give 0 end (switched_past k back) (end-clear 0 (zero-apart (listed (Some c.program) net) refl)))
      ∙ or-none (listed (Some c.program) (switched_past k back))
    where
      firsts : List (List ℕ) → Option Listed
      firsts ss = first_listed (Some c.program) ss

  pub stripped-by : (o : Option Listed) → listed (Some c.program) (packets_in steps) ≡ o →
      map (table_out (without_cue_entry c.cue_pid)) (map (table_out (with_cue_entry c.cue_pid)) (all_tables (Some c.program) (packets_in steps))) ≡ all_tables (Some c.program) (packets_in steps)
  stripped-by None h = let n = no_tables (Some c.program) net h in rw n refl
  stripped-by (Some l) h = sames l h (all_tables (Some c.program) net) (all-go l h)

  onto-tables : (o : Option Listed) → listed (Some c.program) (packets_in steps) ≡ o →
      all_tables (Some c.program) (onto (switched_past (setting_of c filed) (sent_cues c steps)) (rest_at (setting_of c filed) (sent_cues c steps))) ≡ all_tables (Some c.program) (packets_in steps)
  onto-tables None h =
      no_tables (Some c.program) (onto (switched_past k back) end) (onto-pat ∙ again.same_pat ∙ same-pat ∙ h) ∙ sym (no_tables (Some c.program) net h)
  onto-tables (Some l) h =
      tables_onto (Some c.program) end (switched_past k back) l (again.same_pat ∙ same-pat ∙ h)
      ∙ ap (λ ss. all_tables (Some c.program) (switched_past k back) ++ map (table_of l.program) ss) (others_give l.pid end _ (end-clear l.pid (map-apart c filed steps w l h)))
      ∙ append-nil (all_tables (Some c.program) (switched_past k back))
      ∙ again.tables ∙ ap (map (table_out (without_cue_entry c.cue_pid))) (reads c filed steps w.run).tables ∙ stripped-by (Some l) h

  -- ---- the cue PID

  cue-body : (p : List ℕ) (past more out : List (List ℕ)) → sent_cues c steps ≡ more ++ (p ∷ past) → (o : Option Listed) → listed (Some c.program) past ≡ o →
      AllByRecursion (Off c.cue_pid) (body (switching (setting_of c filed)) o p past (tables (Some c.program) p past) out)
  cue-body p past more out is None known = cue-place
    where
      cue-place : AllByRecursion (Off c.cue_pid) (place_at (setting_of c filed) p past)
      cue-place = by_test (on c.cue_pid p) (λ y. simp y tt) (λ n. place-clear c.cue_pid (cue-apart c filed steps w) p past more is n)
  cue-body p past more out is (Some l) known =
      let there : back ≡ (more ++ p ∷ []) ++ past = is ∙ sym (append_assoc more (p ∷ []) past) in
      let g = known-back l past (more ++ p ∷ []) there known in
      let ss = map (section_out (without_cue_entry c.cue_pid)) (tables (Some c.program) p past) in
      by_test (on l.pid p)
      (λ y. simp y (carry_off l.pid c.cue_pid (packets_out l.pid out ss) (λ e. not-cue l g (sym e)) (turn_carry l.pid _ ss (listed_below (Some c.program) past l known) (one_past-below (number_on l.pid out)))))
      (λ n. simp n (by_test (on c.cue_pid p) (λ y. simp y tt) (λ m. place-clear c.cue_pid (cue-apart c filed steps w) p past more is m)))

  cue-from : (past more : List (List ℕ)) → sent_cues c steps ≡ more ++ past → AllByRecursion (Off c.cue_pid) (switched_past (setting_of c filed) past)
  cue-from [] more is = tt
  cue-from (p ∷ past) more is =
      let out = switched_past k past in
      each-onto (Off c.cue_pid) out (block (switching k) (Some c.program) p past out) (cue-from past (more ++ p ∷ []) (is ∙ sym (append_assoc more (p ∷ []) past)))
      (each-append (Off c.cue_pid) (front_at k p past) (body (switching k) (listed (Some c.program) past) p past (tables (Some c.program) p past) out)
      (front-clear c.cue_pid (cue-apart c filed steps w) p past more is) (cue-body p past more out is (listed (Some c.program) past) refl))

  no-cues : filter (on c.cue_pid) (output_by c filed steps) ≡ []
  no-cues =
      ap (filter (on c.cue_pid)) (sym (reverse-reverse (output_by c filed steps)))
      ∙ filter-reverse (on c.cue_pid) (reverse (output_by c filed steps))
      ∙ ap reverse (ap (filter (on c.cue_pid)) out-is
      ∙ filter-none (on c.cue_pid) (onto (switched_past k back) end) (each-onto (Off c.cue_pid) (switched_past k back) end (cue-from back [] refl) (end-clear c.cue_pid (cue-apart c filed steps w))))

  pub has-tables : HasTables c filed steps
  has-tables = record {
    pat = ap (listed (Some c.program)) out-is ∙ onto-pat ∙ again.same_pat ∙ same-pat;
    tables = ap (all_tables (Some c.program)) out-is ∙ onto-tables (listed (Some c.program) net) refl;
    no_cues = no-cues;
  }

pub tables_are_the_networks : TablesAreTheNetworks
tables_are_the_networks c filed steps w = has-tables c filed steps w
