-- The cued stream of a network without fault.
use Rattle.std.specs.Option.{option_or}
use Rattle.std.proofs.Common.{◌≡◌, ℕ, ◌<◌, List, [], ◌∷◌, Bool, true, false, ◌&&◌, ◌||◌, ◌==◌, refl, sym, ap, ◌∙◌, Option, Some, None, map, if◌then◌else◌}
use Rattle.std.specs.List.{AllByRecursion}
use Rattle.std.specs.Prelude.{filter, option_map}
use Rattle.std.specs.List.{list_any}
use Rattle.std.proofs.lemmas.Bool.{eq-eqb, or_parts}
use Rattle.ts_packet.specs.Fields.{on, on_one}
use Rattle.ts_packet.proofs.Cases.{by_test}
use Rattle.psi_section.specs.Sections.{given}
use Rattle.psi_section.specs.Laws.{CanBeGiven}
use Rattle.psi_tables.specs.declared.network.NetworkFault.TheVariants.{BadPids, CuePidUsed}
use Rattle.psi_tables.specs.declared.stream.Stream.{Stream}
use Rattle.wire_fields.specs.Numbers.{AreBytes}
use Rattle.psi_tables.specs.Streams.{Entry, pid_in, switched_of, is_switched, stream_of}
use Rattle.psi_tables.specs.ProgramMap.{ProgramMap, pmt, pmt_section, streams_of}
use Rattle.psi_tables.specs.Cue.{with_cue_entry, without_cue_entry, lists_pid}
use Rattle.program_follower.specs.declared.purpose.Purpose.{Purpose}
use Rattle.program_follower.specs.declared.purpose.Listed.{Listed}
use Rattle.program_follower.specs.Program.{listed, since_pat, Table, table_of, map_read, tables, all_tables, first_map, known_map, Program, program_in, program_of, behind_head, pids_of}
use Rattle.program_follower.specs.Faults.{is_pid, if_bad, pmt_pid_fault, pids_in, bad_pid, bad_switched, too_long, first_fault}
use Rattle.program_laws.specs.Writing.{Along, Writing, written, table_out, Off, MapGoesOut, ChangedGoesOut, IsClear, ReadsAgain}
use Rattle.program_laws.specs.Behind.{Passes, TakesAll, SameUnits}
use Rattle.program_laws.specs.CueEntry.{EntryGoes}
use Rattle.program_laws.specs.Cued.{On, cueing, stripping, CuedReads, CuedStreamReads}
use Rattle.psi_section.proofs.GivenLemmas.{each-append, given_can_each}
use Rattle.ts_packet.proofs.FieldLemmas.{off_payload}
use Rattle.program_laws.proofs.ReadingLemmas.{none_at_pat, no_tables}
use Rattle.program_follower.proofs.StepLemmas.{listed_stays, tables_at}
use Rattle.program_laws.proofs.WritingLemmas.{off_other, written_reads_again}
use Rattle.program_laws.proofs.UnitLemmas.{others_are_no_units}
use Rattle.program_laws.proofs.HeadLemmas.{head_passes}
use Rattle.program_laws.proofs.EntryOutLemmas.{entry_goes_out}
use Rattle.program_laws.proofs.ByteLemmas.{all_bytes}
use Rattle.program_follower.proofs.OptionLemmas.{none_both}
use Rattle.program_laws.proofs.FaultLemmas.{not_if_bad, Each-map, Each-both, Each-parts, same_listed, MapSound, all_sound, pid_good}

pub ons_off : (a b : ℕ) (qs : List (List ℕ)) → (a ≡ b → ⊥) → AllByRecursion (On a) qs → AllByRecursion (Off b) qs
ons_off a b [] ne h = tt
ons_off a b (q ∷ qs) ne h = (off_other a b q ne h.0, ons_off a b qs ne h.1)

-- ---- a writing that puts packets on one PID, and may leave out those on it

pub record OnOnePid (w : Writing) (cue : ℕ) : Type 0 where
  pub stays : (p : List ℕ) (past : List (List ℕ)) → on cue p ≡ false → w.place p past ≡ p ∷ []
  pub gone : (p : List ℕ) (past : List (List ℕ)) → on cue p ≡ true → AllByRecursion (On cue) (w.place p past)

-- what must hold of the tables of a whole past
pub record Fits (w : Writing) (wanted : Option ℕ) (cue : ℕ) (past : List (List ℕ)) (l : Listed) : Type 0 where
  pub zero : l.pid ≡ 0 → ⊥
  pub clear : cue ≡ l.pid → ⊥
  pub maps : AllByRecursion (ChangedGoesOut w.change l.program) (all_tables wanted past)

module _ (w : Writing) (wanted : Option ℕ) (cue : ℕ) (no : cue ≡ 0 → ⊥) (one : OnOnePid w cue) where
  abbrev Front : List ℕ → List (List ℕ) → Type 0
  Front p past = AllByRecursion (On cue) (w.front p past)

  place_off : (b : ℕ) (p : List ℕ) (past : List (List ℕ)) → (cue ≡ b → ⊥) → on b p ≡ false → AllByRecursion (Off b) (w.place p past)
  place_off b p past ne off =
      by_test (on cue p)
      (λ y. ons_off cue b (w.place p past) ne (one.gone p past y))
      (λ n. let e = one.stays p past n in rw e (off, tt))

  clear_along : (past : List (List ℕ)) → Along Front past → ((l : Listed) → listed wanted past ≡ Some l → Fits w wanted cue past l) → Along (IsClear w wanted) past
  clear_along [] f h = tt
  clear_along (p ∷ past) f h = (
    record {
      front = ons_off cue 0 (w.front p past) no f.0;
      keeps = λ y. one.stays p past (off_other 0 cue p (λ e. no (sym e)) y);
      place = λ n. place_off 0 p past no n;
      behind = λ l known. let g = h l (listed_stays wanted p past l known) in record {
        pid = g.zero;
        front = ons_off cue l.pid (w.front p past) g.clear f.0;
        place = λ n. place_off l.pid p past g.clear n;
        maps = (Each-parts (ChangedGoesOut w.change l.program) (all_tables wanted past) (tables wanted p past) g.maps).1;
      };
    },
    clear_along past f.1 (λ l known. let g = h l (listed_stays wanted p past l known) in record {
      zero = g.zero;
      clear = g.clear;
      maps = (Each-parts (ChangedGoesOut w.change l.program) (all_tables wanted past) (tables wanted p past) g.maps).0;
    }),
  )

-- ---- what is read of tables

abbrev pub IsRead : ℕ → Table → Type 0
IsRead program t = (map_read program (pmt t.section) ≡ t.program_map) × CanBeGiven t.section

read_each : (program : ℕ) (ss : List (List ℕ)) → AllByRecursion CanBeGiven ss → AllByRecursion (IsRead program) (map (table_of program) ss)
read_each program [] h = tt
read_each program (s ∷ ss) h = ((refl, h.0), read_each program ss h.1)

read_at : (wanted : Option ℕ) (p : List ℕ) (past : List (List ℕ)) (l : Listed) → listed wanted past ≡ Some l → AllByRecursion (IsRead l.program) (tables wanted p past)
read_at wanted p past l h = let e = tables_at wanted p past l h in rw e (read_each l.program (given l.pid p (since_pat wanted past)) (given_can_each l.pid p (since_pat wanted past)))

pub all_read : (wanted : Option ℕ) (past : List (List ℕ)) (l : Listed) → listed wanted past ≡ Some l → AllByRecursion (IsRead l.program) (all_tables wanted past)
all_read wanted [] l e = tt
all_read wanted (p ∷ past) l e = by_known (listed wanted past) refl (λ f. all_read wanted past l f) where
  by_known : (o : Option Listed) → listed wanted past ≡ o → (listed wanted past ≡ Some l → AllByRecursion (IsRead l.program) (all_tables wanted past)) → AllByRecursion (IsRead l.program) (all_tables wanted (p ∷ past))
  by_known None g ih = let n = none_at_pat wanted p past g in rw n tt
  by_known (Some k) g ih =
      let same : k ≡ l = same_listed k l (sym (listed_stays wanted p past k g) ∙ e) in
      let here : listed wanted past ≡ Some l = g ∙ ap (λ x. let y : Option Listed = Some x in y) same in
      each-append (IsRead l.program) (all_tables wanted past) (tables wanted p past) (ih here) (read_at wanted p past l here)

-- ---- what no fault says of PIDs

pub any_entries : (cue : ℕ) (es : List Entry) → list_any (is_pid (Some cue)) (pids_in (map stream_of es)) ≡ list_any (lists_pid cue) es
any_entries cue [] = refl
any_entries cue (e ∷ es) = ap (λ b. lists_pid cue e || b) (any_entries cue es)

-- one PID is none of some
abbrev pub Apart : ℕ → List ℕ → Type 0
Apart a pids = AllByRecursion (λ pid. a ≡ pid → ⊥) pids

apart_by : (a : ℕ) (f : ℕ → Bool) → f a ≡ true → (ss : List Stream) → list_any f (pids_in ss) ≡ false → Apart a (pids_in (switched_of ss))
apart_by a f h [] k = tt
apart_by a f h (s ∷ ss) k =
    let r = or_parts (f s.pid) (list_any f (pids_in ss)) k in
    let more = apart_by a f h ss r.1 in
    by_test (is_switched s.kind)
    (λ y. simp y ((λ e. let g : f a ≡ f s.pid = ap f e in let c : f a ≡ false = g ∙ r.0 in absurd (let t = sym h ∙ c in cc)), more))
    (λ n. simp n more)

pub apart_on : (a : ℕ) (pids : List ℕ) → Apart a pids → (q : List ℕ) → on a q ≡ true → on_one pids q ≡ false
apart_on a [] h q y = refl
apart_on a (pid ∷ pids) h q y = let n = off_other a pid q h.0 y in ap (λ b. b || on_one pids q) n ∙ apart_on a pids h.1 q y

pub takes_within : (pids all : List ℕ) → ((q : List ℕ) → on_one all q ≡ false → on_one pids q ≡ false) → AllByRecursion (TakesAll (on_one all)) pids
takes_within [] all h = tt
takes_within (pid ∷ pids) all h = (
  λ q n. off_payload pid q (or_parts (on pid q) (on_one pids q) (h q n)).0,
  takes_within pids all (λ q n. (or_parts (on pid q) (on_one pids q) (h q n)).1),
)

-- ---- the law

module _ (c : Purpose) (cue : ℕ) (past : List (List ℕ)) (is_cue : c.cue_pid ≡ Some cue) (writes : c.writes_cues ≡ true) (no0 : cue ≡ 0 → ⊥) (below : cue < 8192) (ok : first_fault c past ≡ None) where
  module _ (l : Listed) (known : listed c.program past ≡ Some l) where
    pid_parts : (((l.pid == 0) || (l.pid == 8191)) ≡ false) × (is_pid c.cue_pid l.pid ≡ false)
    pid_parts =
        let g : pmt_pid_fault c (Some l) ≡ None = ap (pmt_pid_fault c) (sym known) ∙ pid_good c past ok in
        let r = none_both (if_bad ((l.pid == 0) || (l.pid == 8191)) BadPids) (if_bad (is_pid c.cue_pid l.pid) CuePidUsed) g in
        (not_if_bad ((l.pid == 0) || (l.pid == 8191)) BadPids r.0, not_if_bad (is_pid c.cue_pid l.pid) CuePidUsed r.1)

    not_zero : l.pid ≡ 0 → ⊥
    not_zero e = let r = (or_parts (l.pid == 0) (l.pid == 8191) pid_parts.0).0 in let t : (l.pid == 0) ≡ true = eq-eqb l.pid 0 e in absurd (let f = sym t ∙ r in cc)

    not_cue : cue ≡ l.pid → ⊥
    not_cue e =
        let r : (l.pid == cue) ≡ false = ap (λ o. is_pid o l.pid) (sym is_cue) ∙ pid_parts.1 in
        let t : (l.pid == cue) ≡ true = eq-eqb l.pid cue (sym e) in absurd (let f = sym t ∙ r in cc)

    -- a table's map takes the entry
    abbrev Entry-goes : List ℕ → Option ProgramMap → Type 0
    Entry-goes s None = Unit {0}
    Entry-goes s (Some m) = EntryGoes l.program cue s m

    takes_entry : (s : List ℕ) (o : Option ProgramMap) → map_read l.program (pmt s) ≡ o → CanBeGiven s → AreBytes s → MapSound c l.pid o → Entry-goes s o
    takes_entry s None r g b sound = tt
    takes_entry s (Some m) r g b sound =
        let room : too_long (Some cue) m ≡ false = ap (λ o. too_long o m) (sym is_cue) ∙ ap (λ x. x && too_long c.cue_pid m) (sym writes) ∙ sound.room in
        let used : list_any (is_pid (Some cue)) (pid_in m.pcr_field ∷ pids_in (streams_of m)) ≡ false =
        ap (λ o. list_any (is_pid o) (pid_in m.pcr_field ∷ pids_in (streams_of m))) (sym is_cue)
        ∙ ap (λ x. list_any (is_pid c.cue_pid) (pid_in m.pcr_field ∷ pids_in (if x then streams_of m else switched_of (streams_of m)))) (sym writes)
        ∙ sound.cue in
        let free : list_any (lists_pid cue) m.entries ≡ false = sym (any_entries cue m.entries) ∙ (or_parts (is_pid (Some cue) (pid_in m.pcr_field)) (list_any (is_pid (Some cue)) (pids_in (streams_of m))) used).1 in
        entry_goes_out l.program cue s m below (record { reads = r; bytes = b; given = g; room = room; free = free })

    abbrev Goes : Table → Type 0
    Goes t = Entry-goes t.section t.program_map

    all_go : AllByRecursion (λ (t : Table). AreBytes t.section) (all_tables c.program past) → AllByRecursion Goes (all_tables c.program past)
    all_go bytes =
        let ts = all_tables c.program past in
        let P = IsRead l.program in
        let Q = λ (t : Table). AreBytes t.section in
        let R = λ (t : Table). MapSound c l.pid t.program_map in
        Each-map (λ (t : Table). P t × (Q t × R t)) Goes (λ t h. takes_entry t.section t.program_map h.0.0 h.0.1 h.1.0 h.1.1) ts
        (Each-both P (λ (t : Table). Q t × R t) ts (all_read c.program past l known) (Each-both Q R ts bytes (all_sound c past l ok known)))

    out_by : (s : List ℕ) (o : Option ProgramMap) → Entry-goes s o → MapGoesOut (with_cue_entry cue) l.program o
    out_by s None h = tt
    out_by s (Some m) h = h.out

    back_by : (s : List ℕ) (o : Option ProgramMap) → Entry-goes s o → MapGoesOut (without_cue_entry cue) l.program (option_map (with_cue_entry cue) o)
    back_by s None h = tt
    back_by s (Some m) h = let e = h.undone in rw e h.back

    backs : (ts : List Table) → AllByRecursion Goes ts → AllByRecursion (ChangedGoesOut (without_cue_entry cue) l.program) (map (table_out (with_cue_entry cue)) ts)
    backs [] h = tt
    backs (t ∷ ts) h = (back_by t.section t.program_map h.0, backs ts h.1)

    abbrev made : List ℕ → Option ProgramMap → Table
    made s o = record { section = s; program_map = o }

    same_by : (s : List ℕ) (o : Option ProgramMap) → Entry-goes s o → table_out (without_cue_entry cue) (table_out (with_cue_entry cue) (made s o)) ≡ made s o
    same_by s None h = refl
    same_by s (Some m) h = ap (λ x. made (pmt_section x) (Some x)) h.undone ∙ ap (λ x. made x (Some m)) h.spelled

    sames : (ts : List Table) → AllByRecursion Goes ts → map (table_out (without_cue_entry cue)) (map (table_out (with_cue_entry cue)) ts) ≡ ts
    sames [] h = refl
    sames (t ∷ ts) h =
        ap (λ u. u ∷ map (table_out (without_cue_entry cue)) (map (table_out (with_cue_entry cue)) ts)) (same_by t.section t.program_map h.0)
        ∙ ap (λ us. t ∷ us) (sames ts h.1)

    -- the program
    same_first : (s : List ℕ) (o x : Option ProgramMap) → Entry-goes s o → option_map program_in (option_map (with_cue_entry cue) x) ≡ option_map program_in x
        → option_map program_in (option_map (with_cue_entry cue) (option_or o x)) ≡ option_map program_in (option_or o x)
    same_first s None x g k = k
    same_first s (Some m) x g k = ap (λ r. let y : Option Program = Some r in y) g.same

    same_program : (ts : List Table) → AllByRecursion Goes ts → option_map program_in (option_map (with_cue_entry cue) (first_map ts)) ≡ option_map program_in (first_map ts)
    same_program [] h = refl
    same_program (t ∷ ts) h = same_first t.section t.program_map (first_map ts) h.0 (same_program ts h.1)

  -- ---- PIDs that are apart

  or_true : (a b : Bool) → b ≡ true → a || b ≡ true
  or_true true b h = refl
  or_true false b h = h

  apart_sound : (l : Listed) (o : Option ProgramMap) → MapSound c l.pid o → Apart l.pid (pids_of (option_map program_in o)) × Apart cue (pids_of (option_map program_in o))
  apart_sound l None g = (tt, tt)
  apart_sound l (Some m) g =
      let bad = or_parts (list_any (bad_pid l.pid) (pid_in m.pcr_field ∷ pids_in (streams_of m))) (list_any (bad_switched (pids_in (streams_of m))) (pids_in (switched_of (streams_of m)))) g.pids in
      let none = or_parts (bad_pid l.pid (pid_in m.pcr_field)) (list_any (bad_pid l.pid) (pids_in (streams_of m))) bad.0 in
      let used : list_any (is_pid (Some cue)) (pid_in m.pcr_field ∷ pids_in (streams_of m)) ≡ false =
      ap (λ o. list_any (is_pid o) (pid_in m.pcr_field ∷ pids_in (streams_of m))) (sym is_cue)
      ∙ ap (λ x. list_any (is_pid c.cue_pid) (pid_in m.pcr_field ∷ pids_in (if x then streams_of m else switched_of (streams_of m)))) (sym writes)
      ∙ g.cue in
      let free = or_parts (is_pid (Some cue) (pid_in m.pcr_field)) (list_any (is_pid (Some cue)) (pids_in (streams_of m))) used in (
        apart_by l.pid (bad_pid l.pid) (or_true (l.pid == 0) (l.pid == l.pid) (eq-eqb l.pid l.pid refl)) (streams_of m) none.1,
        apart_by cue (is_pid (Some cue)) (eq-eqb cue cue refl) (streams_of m) free.1,
      )

  map_sound : (l : Listed) (ts : List Table) → AllByRecursion (λ (t : Table). MapSound c l.pid t.program_map) ts → MapSound c l.pid (first_map ts)
  map_sound l [] h = tt
  map_sound l (t ∷ ts) h = by_map l t.program_map (first_map ts) h.0 (map_sound l ts h.1) where
    by_map : (l : Listed) (o x : Option ProgramMap) → MapSound c l.pid o → MapSound c l.pid x → MapSound c l.pid (option_or o x)
    by_map l None x g k = k
    by_map l (Some m) x g k = g

  abbrev pids : List ℕ
  pids = pids_of (program_of c.program past)

  aparts : (l : Listed) → listed c.program past ≡ Some l → Apart l.pid pids × Apart cue pids
  aparts l h = apart_sound l (known_map c.program past) (map_sound l (all_tables c.program past) (all_sound c past l ok h))

  apart_cue : (o : Option Listed) → listed c.program past ≡ o → Apart cue pids
  apart_cue None h = let n = no_tables c.program past h in rw n tt
  apart_cue (Some l) h = (aparts l h).1

  all_left : (qs : List (List ℕ)) → AllByRecursion (On cue) qs → AllByRecursion (λ q. on_one pids q ≡ false) qs
  all_left qs h = Each-map (On cue) (λ q. on_one pids q ≡ false) (λ q y. apart_on cue pids (apart_cue (listed c.program past) refl) q y) qs h

  module _ (cues : List ℕ → List (List ℕ) → List (List ℕ)) where
    pass_along : (back : List (List ℕ)) → Along (λ p past. AllByRecursion (On cue) (cues p past)) back → ((l : Listed) → listed c.program back ≡ Some l → listed c.program past ≡ Some l)
        → Along (Passes (on_one pids) (cueing cue cues) c.program) back
    pass_along [] f h = tt
    pass_along (p ∷ back) f h = (
      record {
        front = all_left (cues p back) f.0;
        place = refl;
        own = λ l known q y. apart_on l.pid pids (aparts l (h l (listed_stays c.program p back l known))).0 q y;
      },
      pass_along back f.1 (λ l known. h l (listed_stays c.program p back l known)),
    )

    module _ (fronts : Along (λ p past. AllByRecursion (On cue) (cues p past)) past) (bytes : AllByRecursion (λ (t : Table). AreBytes t.section) (all_tables c.program past)) where
      abbrev w : Writing
      w = cueing cue cues

      abbrev out : List (List ℕ)
      out = written w c.program past

      clear : Along (IsClear w c.program) past
      clear = clear_along w c.program cue no0 (record { stays = λ p past n. refl; gone = λ p past y. (y, tt) }) past fronts
          (λ l known. record {
            zero = not_zero l known;
            clear = not_cue l known;
            maps = Each-map (Goes l known) (ChangedGoesOut (with_cue_entry cue) l.program) (λ t g. out_by l known t.section t.program_map g) (all_tables c.program past) (all_go l known bytes);
          })

      again : ReadsAgain w c.program past
      again = written_reads_again w c.program past clear

      packets : filter (on_one pids) (behind_head c.program out) ≡ filter (on_one pids) (behind_head c.program past)
      packets = head_passes (on_one pids) w c.program past clear (pass_along past fronts (λ l known. known))

      every : AllByRecursion (TakesAll (on_one pids)) pids
      every = takes_within pids pids (λ q n. n)

      units : AllByRecursion (SameUnits pids (behind_head c.program out) (behind_head c.program past)) pids
      units = Each-map (TakesAll (on_one pids)) (SameUnits pids (behind_head c.program out) (behind_head c.program past))
          (λ pid t. others_are_no_units (on_one pids) pids pid (behind_head c.program out) (behind_head c.program past) every t packets) pids every

      program_by : (o : Option Listed) → listed c.program past ≡ o → option_map program_in (option_map (with_cue_entry cue) (known_map c.program past)) ≡ option_map program_in (known_map c.program past)
      program_by None h = let n = no_tables c.program past h in rw n refl
      program_by (Some l) h = same_program l h (all_tables c.program past) (all_go l h bytes)

      abbrev v : Writing
      v = stripping cue

      on_none : (back : List (List ℕ)) → Along (λ p past. AllByRecursion (On cue) (v.front p past)) back
      on_none [] = tt
      on_none (p ∷ back) = (tt, on_none back)

      clear_back : Along (IsClear v c.program) out
      clear_back = clear_along v c.program cue no0 (record { stays = λ p past n. simp n refl; gone = λ p past y. simp y tt }) out (on_none out)
          (λ l known. let here : listed c.program past ≡ Some l = sym again.same_pat ∙ known in record {
            zero = not_zero l here;
            clear = not_cue l here;
            maps = rw again.tables (backs l here (all_tables c.program past) (all_go l here bytes));
          })

      stripped_by : (o : Option Listed) → listed c.program past ≡ o → map (table_out (without_cue_entry cue)) (map (table_out (with_cue_entry cue)) (all_tables c.program past)) ≡ all_tables c.program past
      stripped_by None h = let n = no_tables c.program past h in rw n refl
      stripped_by (Some l) h = sames l h (all_tables c.program past) (all_go l h bytes)

      reads : CuedReads c.program cue out past pids
      reads = record {
        same_pat = again.same_pat;
        program = ap (option_map program_in) again.head ∙ program_by (listed c.program past) refl;
        tables = again.tables;
        packets = packets;
        units = units;
        stripped_pat = (written_reads_again v c.program out clear_back).same_pat ∙ again.same_pat;
        stripped = (written_reads_again v c.program out clear_back).tables ∙ ap (map (table_out (without_cue_entry cue))) again.tables ∙ stripped_by (listed c.program past) refl;
      }

pub cued_stream_reads : CuedStreamReads
cued_stream_reads c cue cues past is_cue writes no0 below ok bytes fronts = reads c cue past is_cue writes no0 below ok cues fronts (all_bytes c.program past bytes)
