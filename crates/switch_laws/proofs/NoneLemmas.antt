-- Where no event is played, and where no program is listed, nothing is put in and nothing but the cues left out.
use Rattle.std.proofs.Common.{◌≡◌, ℕ, List, [], ◌∷◌, ◌++◌, Bool, true, false, not, ◌||◌, refl, sym, ap, ◌∙◌, Option, None, Some, append_assoc, if◌then◌else◌, subst, map, length, reverse}
use Rattle.std.specs.Prelude.{filter, ◌==◌}
use Rattle.std.proofs.lemmas.List.{append-nil, reverse-reverse}
use Rattle.std.proofs.lemmas.List.Elements.{All-head, All-tail, All-cons, All-nil}
use Rattle.ts_packet.specs.Fields.{on, on_one, is_among}
use Rattle.ts_packet.specs.Runs.{onto}
use Rattle.ts_packet.proofs.Cases.{by_test, test-same}
use Rattle.ts_packet.proofs.RunLemmas.{filter-reverse}
use Rattle.unit_stream.specs.Times.{high}
use Rattle.psi_tables.specs.ProgramMap.{ProgramMap}
use Rattle.psi_tables.specs.Cue.{without_cue_entry}
use Rattle.event_table.specs.Standing.{Standing}
use Rattle.program_follower.specs.declared.purpose.Listed.{Listed}
use Rattle.program_follower.specs.Program.{listed, tables, known_map, first_map, behind_head}
use Rattle.program_laws.specs.Writing.{Along, Writing, written, block, body}
use Rattle.program_laws.specs.Behind.{Passes}
use Rattle.program_laws.specs.Cued.{stripping}
use Rattle.program_laws.proofs.HeadLemmas.{others_are_written}
use Rattle.splice_laws.specs.Splicing.{SliceUnit}
use Rattle.splice_laws.specs.Streams.{is_dropped}
use Rattle.output_laws.specs.Output.{Move, Keep, Leave, out_after, out_at}
use Rattle.output_laws.specs.Others.{is_off}
use Rattle.output_laws.specs.Spliced.{puts_at}
use Rattle.output_laws.proofs.Unchanged.{same_packet}
use Rattle.output_laws.proofs.OtherLemmas.{off_on}
use Rattle.program_laws.proofs.ReadingLemmas.{no_tables, or_first}
use Rattle.splice_plans.specs.Playing.{Adverts, History, played, as_played}
use Rattle.splice_plans.specs.Switching.{Setting, switched_at, events_at, head_at, history_at, front_at, place_at, rest_at, switching, switched_past, moves, puts_before, puts_at_end, puts_by, fate, place_of, front_of, end_of_run}
use Rattle.splice_plans.specs.Histories.{IsHistory, AreSteady}
use Rattle.splice_plans.proofs.HistoryLemmas.{armed_is_history}
use Rattle.switch_laws.specs.Moving.{sent_in_all, sent_count}
use Rattle.switch_laws.specs.Laws.{ArePackets}
use Rattle.splice_plans.specs.Known.{adverts_at}
use Rattle.switch_laws.specs.Whole.{table_pids, pmt_pids, NothingIsPlayed, NoPacketChanges, NoProgram}
use Rattle.switch_laws.proofs.BringLemmas.{end_rule}
use Rattle.switch_laws.proofs.MoveLemmas.{same-puts, same-fate}
use Rattle.switch_laws.proofs.RunLemmas.{none-dropped, none-each}
use Rattle.switch_laws.proofs.WholeLemmas.{along-each, packets-each, known-later, behind-later, head-later, head-joined, listed-later, adverts-same, none-switched, not-behind, is-behind}

-- ---- a run in which nothing is played

module _ (switched : List ℕ) (ads : Adverts) (steady : AreSteady ads) (events : History) (h : IsHistory (high switched) events) (whole : List (List ℕ)) (none : played ads (events whole) ≡ []) where
  pub none-put : (p : List ℕ) (past more : List (List ℕ)) → whole ≡ more ++ (p ∷ past) → puts_before switched ads events p past ≡ []
  none-put p past more is =
      same-puts switched ads steady events h whole p past more is
      ∙ ap (λ es. puts_at switched (map as_played es) (λ pid x. sent_in_all switched ads events whole pid x) (λ pid x. sent_count switched ads events whole pid x) p past) none
      ∙ both-none (none-each switched) (none-each switched)
    where
      both-none : {a b : List Move} → a ≡ [] → b ≡ [] → a ++ b ≡ []
      both-none e f = rw (e, f) refl

  pub kept-here : (p : List ℕ) (past more : List (List ℕ)) → whole ≡ more ++ (p ∷ past) → fate switched ads events p past ≡ Keep p
  kept-here p past more is =
      same-fate switched ads steady events h whole p past more is
      ∙ ap (λ es. if is_dropped switched (map as_played es) p past switched then Leave p else Keep p) none
      ∙ ap (λ b. if b then Leave p else Keep p) (none-dropped switched p past switched)

  pub all-kept : (past more : List (List ℕ)) → whole ≡ more ++ past → moves switched ads events past ≡ map (λ (p : List ℕ). Keep p) past
  all-kept [] more is = refl
  all-kept (p ∷ past) more is =
      ap (λ m. m ∷ (reverse (puts_before switched ads events p past) ++ moves switched ads events past)) (kept-here p past more is)
      ∙ ap (λ ms. Keep p ∷ (reverse ms ++ moves switched ads events past)) (none-put p past more is)
      ∙ ap (λ ms. Keep p ∷ ms) (all-kept past (more ++ p ∷ []) (is ∙ sym (append_assoc more (p ∷ []) past)))

-- ---- writings that put in and leave out the same

pub record IsSame (w v : Writing) (p : List ℕ) (past : List (List ℕ)) : Type 0 where
  pub front : w.front p past ≡ v.front p past
  pub place : w.place p past ≡ v.place p past

module _ (change : ProgramMap → ProgramMap) (front other : List ℕ → List (List ℕ) → List (List ℕ)) (place beside : List ℕ → List (List ℕ) → List (List ℕ)) (wanted : Option ℕ) where
  abbrev w : Writing
  w = record { change = change; front = front; place = place }

  abbrev v : Writing
  v = record { change = change; front = other; place = beside }

  same-body : (o : Option Listed) (p : List ℕ) (past out : List (List ℕ)) → IsSame w v p past → body w o p past (tables wanted p past) out ≡ body v o p past (tables wanted p past) out
  same-body None p past out s = s.place
  same-body (Some l) p past out s = by_test (on l.pid p) (λ y. simp y refl) (λ n. simp n s.place)

  pub same-written : (past : List (List ℕ)) → Along (IsSame w v) past → written w wanted past ≡ written v wanted past
  same-written [] s = refl
  same-written (p ∷ past) s =
      ap (λ out. onto out (block w wanted p past out)) (same-written past s.1)
      ∙ ap (λ qs. onto (written v wanted past) (qs ++ body w (listed wanted past) p past (tables wanted p past) (written v wanted past))) s.0.front
      ∙ ap (λ qs. onto (written v wanted past) (other p past ++ qs)) (same-body (listed wanted past) p past (written v wanted past) s.0)

-- ---- the whole network

module _ (k : Setting) (network : List (List ℕ)) (long : ArePackets network) (steady : AreSteady (adverts_at k network)) (none : played (adverts_at k network) (events_at k network) ≡ []) where
  abbrev wanted : Option ℕ
  wanted = Some k.program

  abbrev strip : List ℕ → List (List ℕ)
  strip p = if on k.cue_pid p then [] else p ∷ []

  module _ (m : ProgramMap) (past more : List (List ℕ)) (is : network ≡ more ++ past) (known : known_map wanted past ≡ Some m) where
    same-known : known_map wanted past ≡ known_map wanted network
    same-known = known ∙ sym (ap (known_map wanted) is ∙ known-later wanted m more past known)

    whole-is : behind_head wanted network ≡ more ++ behind_head wanted past
    whole-is = ap (behind_head wanted) is ∙ behind-later wanted m more past known

    abbrev ads : Adverts
    ads = adverts_at k past

    ads-steady : AreSteady (adverts_at k past)
    ads-steady = subst AreSteady (sym (adverts-same k past network same-known)) steady

    story : IsHistory (high (switched_at k past)) (history_at k past)
    story = armed_is_history k past (is-behind k m past known)

    none-here : played (adverts_at k past) (history_at k past (behind_head wanted network)) ≡ []
    none-here =
        ap (λ a. played a (history_at k past (behind_head wanted network))) (adverts-same k past network same-known)
        ∙ ap (λ l. played (adverts_at k network) (events_at k (behind_head wanted network ++ l))) (sym (ap (head_at k) is ∙ head-later k m more past known))
        ∙ ap (λ l. played (adverts_at k network) (events_at k l)) (head-joined k network)
        ∙ none

    long-here : ArePackets past
    long-here = packets-each (λ (p : List ℕ). length p ≡ 188) more past (subst ArePackets is long)

  -- at a packet
  front-none : (o : Option ProgramMap) (p : List ℕ) (past more : List (List ℕ)) → network ≡ more ++ (p ∷ past) → known_map wanted past ≡ o → front_at k p past ≡ []
  front-none None p past more is known =
      ap (λ b. if b then front_of (switched_at k past) (adverts_at k past) (history_at k past) k.packed p (behind_head wanted past) else []) (not-behind k past known)
  front-none (Some m) p past more is known =
      let there : network ≡ (more ++ p ∷ []) ++ past = is ∙ sym (append_assoc more (p ∷ []) past) in
      let b = behind_head wanted past in
      let e : puts_before (switched_at k past) (adverts_at k past) (history_at k past) p b ≡ [] =
      none-put (switched_at k past) (adverts_at k past) (ads-steady m past (more ++ p ∷ []) there known) (history_at k past) (story m past (more ++ p ∷ []) there known) (behind_head wanted network)
      (none-here m past (more ++ p ∷ []) there known) p b more (whole-is m past (more ++ p ∷ []) there known ∙ append_assoc more (p ∷ []) b) in
      ap (λ c. if c then front_of (switched_at k past) (adverts_at k past) (history_at k past) k.packed p b else []) (is-behind k m past known)
      ∙ ap (λ ms. out_after k.packed (moves (switched_at k past) (adverts_at k past) (history_at k past) b) ms) e

  pick : (c s : Bool) (a : List (List ℕ)) (p : List ℕ) → (s ≡ true → a ≡ p ∷ []) → (if c then [] else (if s then a else p ∷ [])) ≡ (if c then [] else p ∷ [])
  pick true s a p h = refl
  pick false true a p h = h refl
  pick false false a p h = refl

  place-same : (o : Option ProgramMap) (p : List ℕ) (past more : List (List ℕ)) → network ≡ more ++ (p ∷ past) → known_map wanted past ≡ o → place_at k p past ≡ strip p
  place-same None p past more is known =
      ap (λ sw. if on k.cue_pid p then [] else (if on_one sw p then place_of (switched_at k past) (adverts_at k past) (history_at k past) k.packed p (behind_head wanted past) else p ∷ [])) (none-switched k past known)
  place-same (Some m) p past more is known =
      let there : network ≡ (more ++ p ∷ []) ++ past = is ∙ sym (append_assoc more (p ∷ []) past) in
      let b = behind_head wanted past in
      let sw = switched_at k past in
      let a = adverts_at k past in
      let ev = history_at k past in
      let st = ads-steady m past (more ++ p ∷ []) there known in
      let h = story m past (more ++ p ∷ []) there known in
      let n = none-here m past (more ++ p ∷ []) there known in
      let w = whole-is m past (more ++ p ∷ []) there known in
      let e = none-put sw a st ev h (behind_head wanted network) n p b more (w ∙ append_assoc more (p ∷ []) b) in
      let f = kept-here sw a st ev h (behind_head wanted network) n p b more (w ∙ append_assoc more (p ∷ []) b) in
      let g = all-kept sw a st ev h (behind_head wanted network) n b (more ++ p ∷ []) w in
      let here : List ℕ → Type 0 = λ q. length q ≡ 188 in
      let size = All-head here p past (packets-each here more (p ∷ past) (subst ArePackets is long)) in
      pick (on k.cue_pid p) (on_one sw p) (place_of sw a ev k.packed p b) p
      (λ _. ap (λ s. out_at k.packed s (reverse (puts_before sw a ev p b) ++ moves sw a ev b)) f
      ∙ ap (λ ms. out_at k.packed (Keep p) (reverse ms ++ moves sw a ev b)) e
      ∙ ap (λ ms. out_at k.packed (Keep p) ms) g
      ∙ ap (λ q. q ∷ []) (same_packet k.packed p b size))

  pub along-same : Along (IsSame (switching k) (stripping k.cue_pid)) network
  along-same = along-each (IsSame (switching k) (stripping k.cue_pid)) network network [] refl
      (λ p past more is. record { front = front-none (known_map wanted past) p past more is refl; place = place-same (known_map wanted past) p past more is refl })

  rest-none : (o : Option ProgramMap) → known_map wanted network ≡ o → rest_at k network ≡ []
  rest-none None known = ap (λ b. if b then end_of_run (switched_at k network) (adverts_at k network) (history_at k network) k.packed (behind_head wanted network) else []) (not-behind k network known)
  rest-none (Some m) known =
      ap (λ b. if b then end_of_run (switched_at k network) (adverts_at k network) (history_at k network) k.packed (behind_head wanted network) else []) (is-behind k m network known)
      ∙ ap (λ ms. out_after k.packed (moves (switched_at k network) (adverts_at k network) (history_at k network) (behind_head wanted network)) ms) no-puts
    where
      none-by : (pids : List ℕ) (rule : ℕ → Standing → List SliceUnit) → puts_by pids [] rule ≡ []
      none-by [] rule = refl
      none-by (pid ∷ pids) rule = none-by pids rule

      no-puts : puts_at_end (switched_at k network) (adverts_at k network) (history_at k network) (behind_head wanted network) ≡ []
      no-puts =
          ap (λ es. puts_by (switched_at k network) es (end_rule (switched_at k network) (adverts_at k network) (history_at k network) (behind_head wanted network)))
          (ap (λ l. played (adverts_at k network) (events_at k l)) (head-joined k network) ∙ none)
          ∙ none-by (switched_at k network) (end_rule (switched_at k network) (adverts_at k network) (history_at k network) (behind_head wanted network))

  pub switched-stripped : switched_past k network ≡ written (stripping k.cue_pid) wanted network
  switched-stripped = same-written (without_cue_entry k.cue_pid) (front_at k) (λ p past. []) (place_at k) (λ p past. if on k.cue_pid p then [] else p ∷ []) wanted network along-same

pub nothing_is_played : NothingIsPlayed
nothing_is_played k network steady long none =
    let back = reverse network in
    let l = long-reversed network long in
    ap (λ qs. reverse (switched_past k back) ++ qs) (rest-none k back l steady none (known_map (Some k.program) back) refl)
    ∙ append-nil (reverse (switched_past k back))
    ∙ ap reverse (switched-stripped k back l steady none)
  where
    long-onto : (past ps : List (List ℕ)) → ArePackets past → ArePackets ps → ArePackets (onto past ps)
    long-onto past [] a b = a
    long-onto past (p ∷ ps) a b =
        let f : List ℕ → Type 0 = λ q. length q ≡ 188 in
        long-onto (p ∷ past) ps (All-cons f p past (All-head f p ps b) a) (All-tail f p ps b)

    long-reversed : (ps : List (List ℕ)) → ArePackets ps → ArePackets (reverse ps)
    long-reversed ps a = long-onto [] ps (All-nil (λ (q : List ℕ). length q ≡ 188)) a

-- ---- packets of other PIDs

among-first : (q pid : ℕ) (qs : List ℕ) → q ≡ pid → is_among pid (q ∷ qs) ≡ true
among-first q pid qs e = ap (λ n. (n == pid) || is_among pid qs) e ∙ ap (λ b. b || is_among pid qs) (test-same pid)

among-second : (a q pid : ℕ) → q ≡ pid → is_among pid (a ∷ q ∷ []) ≡ true
among-second a q pid e = by_test (a == pid) (λ y. simp y refl) (λ n. simp n (among-first q pid [] e))

module _ (k : Setting) (network : List (List ℕ)) where
  abbrev pids : List ℕ
  pids = table_pids k network

  abbrev takes : List ℕ → Bool
  takes q = is_off (table_pids k network) q

  cue-left : (q : List ℕ) → on k.cue_pid q ≡ true → takes q ≡ false
  cue-left q o = off_on k.packed (table_pids k network) k.cue_pid q (among-first k.cue_pid k.cue_pid (pmt_pids (listed (Some k.program) network)) refl) o

  pmt-left : (l : Listed) (past more : List (List ℕ)) → network ≡ more ++ past → listed (Some k.program) past ≡ Some l → (q : List ℕ) → on l.pid q ≡ true → takes q ≡ false
  pmt-left l past more is h q o =
      let there : listed (Some k.program) network ≡ Some l = ap (listed (Some k.program)) is ∙ listed-later (Some k.program) l more past h in
      off_on k.packed (table_pids k network) l.pid q (ap (λ (o : Option Listed). is_among l.pid (k.cue_pid ∷ pmt_pids o)) there ∙ among-second k.cue_pid l.pid l.pid refl) o

  strip-taken : (p : List ℕ) → filter takes (if on k.cue_pid p then [] else p ∷ []) ≡ filter takes (p ∷ [])
  strip-taken p = by_test (on k.cue_pid p) (λ y. let n = cue-left p y in simp (y, n) refl) (λ n. simp n refl)

  pub strip-passes : (past more : List (List ℕ)) → network ≡ more ++ past → Along (Passes takes (stripping k.cue_pid) (Some k.program)) past
  strip-passes past more is = along-each (Passes takes (stripping k.cue_pid) (Some k.program)) network past more is
      (λ p past more there. record {
        front = tt;
        place = strip-taken p;
        own = pmt-there p past more there;
      })
    where
      pmt-there : (p : List ℕ) (past more : List (List ℕ)) → network ≡ more ++ (p ∷ past) → (l : Listed) → listed (Some k.program) past ≡ Some l → (q : List ℕ) → on l.pid q ≡ true → takes q ≡ false
      pmt-there p past more there l h q o = pmt-left l past (more ++ p ∷ []) (there ∙ sym (append_assoc more (p ∷ []) past)) h q o

pub no_packet_changes : NoPacketChanges
no_packet_changes k network steady long none =
    let back = reverse network in
    let takes : List ℕ → Bool = λ q. is_off (table_pids k (reverse network)) q in
    ap (filter takes) (nothing_is_played k network steady long none)
    ∙ filter-reverse takes (written (stripping k.cue_pid) (Some k.program) back)
    ∙ ap reverse (others_are_written takes (stripping k.cue_pid) (Some k.program) back (strip-passes k back back [] refl))
    ∙ sym (filter-reverse takes back)
    ∙ ap (filter takes) (reverse-reverse network)

-- ---- without a program

module _ (k : Setting) where
  none-before : (more past : List (List ℕ)) → listed (Some k.program) (more ++ past) ≡ None → listed (Some k.program) past ≡ None
  none-before [] past h = h
  none-before (p ∷ more) past h = none-before more past (or_first (listed (Some k.program) (more ++ past)) _ h)

  abbrev others : List ℕ → Bool
  others p = not (on k.cue_pid p)

  no-map : (past : List (List ℕ)) → listed (Some k.program) past ≡ None → known_map (Some k.program) past ≡ None
  no-map past h = ap first_map (no_tables (Some k.program) past h)

  one-packet : (p : List ℕ) (past out : List (List ℕ)) → listed (Some k.program) past ≡ None → block (switching k) (Some k.program) p past out ≡ (if on k.cue_pid p then [] else p ∷ [])
  one-packet p past out h =
      let known = no-map past h in
      let b = behind_head (Some k.program) past in
      ap (λ c. (if c then front_of (switched_at k past) (adverts_at k past) (history_at k past) k.packed p b else []) ++ body (switching k) (listed (Some k.program) past) p past (tables (Some k.program) p past) out) (not-behind k past known)
      ∙ ap (λ o. body (switching k) o p past (tables (Some k.program) p past) out) h
      ∙ ap (λ sw. if on k.cue_pid p then [] else (if on_one sw p then place_of (switched_at k past) (adverts_at k past) (history_at k past) k.packed p b else p ∷ [])) (none-switched k past known)

  pub without-program : (past : List (List ℕ)) → listed (Some k.program) past ≡ None → switched_past k past ≡ filter others past
  without-program [] h = refl
  without-program (p ∷ past) h =
      let n = or_first (listed (Some k.program) past) _ h in
      ap (onto (switched_past k past)) (one-packet p past (switched_past k past) n)
      ∙ by_test (on k.cue_pid p) (λ y. simp y (without-program past n)) (λ y. simp y (ap (λ l. p ∷ l) (without-program past n)))

pub no_program : NoProgram
no_program k network h =
    let back = reverse network in
    let takes : List ℕ → Bool = λ p. not (on k.cue_pid p) in
    ap (λ c. reverse (switched_past k back) ++ (if c then end_of_run (switched_at k back) (adverts_at k back) (history_at k back) k.packed (behind_head (Some k.program) back) else [])) (not-behind k back (no-map k back h))
    ∙ append-nil (reverse (switched_past k back))
    ∙ ap reverse (without-program k back h)
    ∙ sym (filter-reverse takes back)
    ∙ ap (filter takes) (reverse-reverse network)
