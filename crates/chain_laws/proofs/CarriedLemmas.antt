-- What a switched stream of the output carries, said of the network's packets.
use Rattle.std.proofs.Common.{◌≡◌, ℕ, ℤ, ◌<◌, List, [], ◌∷◌, ◌++◌, Bool, true, false, ◌&&◌, ◌||◌, refl, sym, ap, ◌∙◌, subst, Option, None, Some, if◌then◌else◌, length, drop, map, reverse, append_assoc}
use Rattle.std.specs.Prelude.{filter, All, is_some, int_lt, ◌==◌}
use Rattle.std.specs.List.{AllByRecursion}
use Rattle.std.proofs.lemmas.Bool.{true≢false, or_parts, eqb-true}
use Rattle.std.proofs.lemmas.List.{append_cancel_left, reverse-reverse}
use Rattle.std.proofs.lemmas.List.Elements.{All-nil, All-cons, filter-append}
use Rattle.ts_packet.specs.Fields.{on, payload_on, pid_of, on_one, is_among}
use Rattle.ts_packet.specs.Runs.{Seen, seen_after, onto}
use Rattle.ts_packet.proofs.Cases.{by_test}
use Rattle.ts_packet.proofs.FieldLemmas.{off_payload}
use Rattle.ts_packet.proofs.RunLemmas.{filter-reverse}
use Rattle.unit_stream.specs.Units.{lead_in, units}
use Rattle.unit_stream.specs.Carrying.{CarriesUnits}
use Rattle.psi_tables.specs.declared.config.Config.{Config}
use Rattle.program_follower.specs.declared.purpose.Listed.{Listed}
use Rattle.program_follower.specs.Program.{Program, listed, program_of, behind_head, pids_of}
use Rattle.program_follower.specs.Following.{streams_of_program}
use Rattle.program_laws.specs.Behind.{TakesAll}
use Rattle.event_table.specs.Standing.{Standing, end_of}
use Rattle.ad_library.specs.Advertisements.{Advertisement}
use Rattle.injector.specs.Steps.{Step, packets_in, cued}
use Rattle.splice_laws.specs.Splicing.{PlayedEvent, SliceUnit, TimedStream, stream, begun, passed, below}
use Rattle.splice_laws.specs.Laws.{AreOrdered, IsCrossedOnce}
use Rattle.splice_laws.specs.Streams.{IsOnce}
use Rattle.splice_laws.specs.Ends.{up_to_end}
use Rattle.output_laws.specs.Spliced.{placed_payloads}
use Rattle.splice_plans.specs.Playing.{is_played, is_crossed, put_by_start, by_start, played, as_played, end_known}
use Rattle.splice_plans.specs.Histories.{AreSteady}
use Rattle.splice_plans.specs.Adverts.{adverts_of, packed_units, setting_of}
use Rattle.splice_plans.specs.Switching.{Setting, switched_at, streams_at, events_at, head_at, history_at, spliced_network}
use Rattle.splice_plans.proofs.AdvertLemmas.{libraries_are_steady}
use Rattle.splice_plans.proofs.HistoryLemmas.{armed_is_history}
use Rattle.switch_laws.specs.Laws.{ArePackets, IsPlayable}
use Rattle.switch_laws.specs.Moving.{intervals, sent_in_all}
use Rattle.splice_plans.specs.Known.{adverts_at}
use Rattle.switch_laws.specs.Whole.{ArePacked, HavePids, TablesAreApart, IsSwitchedOnce, breaks, slices, placed_in}
use Rattle.switch_laws.specs.Slices.{IsWholeSlice, IsOverBehind, IsSliceToAnEnd}
use Rattle.switch_laws.proofs.IntervalLemmas.{intervals-ordered}
use Rattle.switch_laws.proofs.SliceLemmas.{slices_are_whole, slices_go_to_an_end}
use Rattle.switch_laws.proofs.StreamLemmas.{placed_is_carried, all-reversed}
use Rattle.switch_laws.proofs.WholeLemmas.{head-joined}
use Rattle.switch_laws.proofs.SectionLemmas.{none-switches}
use Rattle.switch_laws.proofs.OtherLemmas.{among-self}
use Rattle.switch_laws.proofs.RunLemmas.{once-contained}
use Rattle.armed_laws.proofs.MeetLemmas.{none-meet}
use Rattle.splice_plans.proofs.KnownLemmas.{played-stays}
use Rattle.chain_laws.specs.Breaks.{accepted_by, armed_by, SameTaken}
use Rattle.chain_laws.specs.Runs.{switched_by, program_by, behind_by, run_by, head_by, adverts_by, played_by, IsWholeRun}
use Rattle.chain_laws.specs.UnitSplices.{splice_from, slice_payloads, payloads_between, IsConditionedAt}
use Rattle.chain_laws.specs.Streams.{slice_of, is_reached, end_behind, GoesOutWhole, GoesOutToAnEnd, CarriesPlaced, StreamsCarryPlaced, break_splice, CarriesSplice, StreamsCarrySplice}
use Rattle.chain_laws.proofs.BreakLemmas.{breaks_are_armed}
use Rattle.chain_laws.proofs.TakenLemmas.{filter-within, begun_both, crossed_both, placed_both, lead_both}
use Rattle.chain_laws.proofs.RunLemmas.{reads, sound, others, cued-long, cued-pids}
use Rattle.chain_laws.proofs.UnitSpliceLemmas.{placed_is_unit_splice}

-- ---- PIDs

pub off-one : (pids : List ℕ) (pid : ℕ) (q : List ℕ) → is_among pid pids ≡ true → on_one pids q ≡ false → on pid q ≡ false
off-one [] pid q a n = absurd (true≢false (sym a))
off-one (x ∷ pids) pid q a n =
    let r = or_parts (on x q) (on_one pids q) n in
    by_test (x == pid)
    (λ e. ap (λ m. on m q) (sym (eqb-true x pid e)) ∙ r.0)
    (λ e. off-one pids pid q (simp e at a) r.1)

pub takes-pid : (pids : List ℕ) (pid : ℕ) → is_among pid pids ≡ true → TakesAll (on_one pids) pid
takes-pid pids pid a q n = off_payload pid q (off-one pids pid q a n)

among-later : (x y : ℕ) (pids : List ℕ) → is_among x pids ≡ true → is_among x (y ∷ pids) ≡ true
among-later x y pids h = or-true (y == x) (is_among x pids) h
  where
    or-true : (a b : Bool) → b ≡ true → (a || b) ≡ true
    or-true true b h = refl
    or-true false b h = h

takes-each : (pids all : List ℕ) → ((x : ℕ) → is_among x pids ≡ true → is_among x all ≡ true) → AllByRecursion (TakesAll (on_one all)) pids
takes-each [] all h = tt
takes-each (x ∷ pids) all h = (takes-pid all x (h x (among-self x pids)), takes-each pids all (λ y a. h y (among-later y x pids a)))

pub takes-own : (pids : List ℕ) → AllByRecursion (TakesAll (on_one pids)) pids
takes-own pids = takes-each pids pids (λ x a. a)

-- ---- streams

streams-at : (k : Setting) (back : List (List ℕ)) → TablesAreApart k back → AreSteady (adverts_at k back) → ArePacked k.packed (adverts_at k back) → ArePackets (reverse back) → HavePids (reverse back) → (pid : ℕ) → IsSwitchedOnce k back pid →
    (carried : List (List ℕ)) × (filter (payload_on pid) (spliced_network k (reverse back))
    ≡ filter (payload_on pid) (reverse (head_at k back)) ++ (lead_in pid (reverse (behind_head (Some k.program) back)) ++ carried))
    × CarriesUnits carried (placed_in k back pid)
streams-at k back =
    subst (λ past. TablesAreApart k past → AreSteady (adverts_at k past) → ArePacked k.packed (adverts_at k past) → ArePackets (reverse back) → HavePids (reverse back) → (pid : ℕ) → IsSwitchedOnce k past pid →
    (carried : List (List ℕ)) × (filter (payload_on pid) (spliced_network k (reverse back))
    ≡ filter (payload_on pid) (reverse (head_at k past)) ++ (lead_in pid (reverse (behind_head (Some k.program) past)) ++ carried))
    × CarriesUnits carried (placed_in k past pid)) (reverse-reverse back) (λ a s g l h pid o. placed_is_carried k (reverse back) a s g l h pid o)

-- ---- what goes out of an event

abbrev Crossed : TimedStream → ℤ → Seen → Type 0
Crossed r edge s = r.begins s.packet s.past ≡ true → passed r edge s.past ≡ true → below edge (r.time (s.packet ∷ s.past)) ≡ false

crossed-after : (r : TimedStream) (edge : ℤ) (past ps : List (List ℕ)) → is_crossed r edge (onto past ps) ≡ false → All (Crossed r edge) (seen_after past ps) × (is_crossed r edge past ≡ false)
crossed-after r edge past [] h = (All-nil (Crossed r edge), h)
crossed-after r edge past (p ∷ ps) h =
    let m = crossed-after r edge (p ∷ past) ps h in
    let o = or_parts (is_crossed r edge past) _ m.1 in
    (All-cons (Crossed r edge) (record { packet = p; past = past }) (seen_after (p ∷ past) ps) (one-crossed o.1) m.0, o.0)
  where
    one-crossed : (r.begins p past && (passed r edge past && below edge (r.time (p ∷ past)))) ≡ false → r.begins p past ≡ true → passed r edge past ≡ true → below edge (r.time (p ∷ past)) ≡ false
    one-crossed n b e = simp (b, e) at n

once-crossed : (r : TimedStream) (edge : ℤ) (past : List (List ℕ)) → is_crossed r edge past ≡ false → IsCrossedOnce r edge (reverse past)
once-crossed r edge past h = (crossed-after r edge [] (reverse past) (ap (is_crossed r edge) (reverse-reverse past) ∙ h)).0

each-put : (P : Standing → Type 0) (x : Standing) (es : List Standing) → P x → AllByRecursion P es → AllByRecursion P (put_by_start x es)
each-put P x [] p a = (p, tt)
each-put P x (e ∷ es) p a = by_test (int_lt x.start e.start) (λ y. simp y (p, a)) (λ n. simp n (a.0, each-put P x es p a.1))

-- of those that a test takes, in order
pub each-sorted : (P : Standing → Type 0) (test : Standing → Bool) (es : List Standing) → AllByRecursion P es → AllByRecursion (λ e. (test e ≡ true) × P e) (by_start (filter test es))
each-sorted P test [] a = tt
each-sorted P test (e ∷ es) a = by_test (test e)
    (λ y. simp y (each-put (λ e. (test e ≡ true) × P e) e (by_start (filter test es)) (y, a.0) (each-sorted P test es a.1)))
    (λ n. simp n (each-sorted P test es a.1))

pub each-map : {P Q : Standing → Type 0} → ((e : Standing) → P e → Q e) → (es : List Standing) → AllByRecursion P es → AllByRecursion Q es
each-map f [] a = tt
each-map f (e ∷ es) a = (f e a.0, each-map f es a.1)

-- ---- a whole run

module _ (c : Config) (filed : ℕ → Option Advertisement) (steps : List Step) (w : IsWholeRun c filed steps) where
  abbrev pub k : Setting
  k = setting_of c filed

  abbrev pub back : List (List ℕ)
  back = cued c steps

  pub same-program : program_of (Some c.program) (cued c steps) ≡ program_by c steps
  same-program = (reads c filed steps w.run).program

  pub same-switched : switched_at (setting_of c filed) (cued c steps) ≡ switched_by c steps
  same-switched = ap pids_of same-program

  pub same-adverts : adverts_at (setting_of c filed) (cued c steps) ≡ adverts_by c filed steps
  same-adverts = ap (λ o. adverts_of filed (streams_of_program o)) same-program

  pub apart : TablesAreApart (setting_of c filed) (cued c steps)
  apart = (sound c filed steps w.run).apart

  pub cue-apart : is_among c.cue_pid (switched_by c steps) ≡ false
  cue-apart = ap (is_among c.cue_pid) (sym same-switched) ∙ apart.cue

  pub map-apart : (l : Listed) → listed (Some c.program) (packets_in steps) ≡ Some l → is_among l.pid (switched_by c steps) ≡ false
  map-apart l h = ap (is_among l.pid) (sym same-switched) ∙ apart.pmt l ((reads c filed steps w.run).same_pat ∙ h)

  abbrev pub taken : List ℕ → Bool
  taken = on_one (switched_by c steps)

  pub same-behind : filter (on_one (switched_by c steps)) (behind_head (Some c.program) (cued c steps)) ≡ filter (on_one (switched_by c steps)) (behind_by c steps)
  same-behind = (reads c filed steps w.run).packets

  pub same-all : filter (on_one (switched_by c steps)) (cued c steps) ≡ filter (on_one (switched_by c steps)) (packets_in steps)
  same-all = others c filed steps w.run (on_one (switched_by c steps)) (λ q y. none-switches (switched_by c steps) c.cue_pid q cue-apart y) (λ l h q y. none-switches (switched_by c steps) l.pid q (map-apart l h) y)

  abbrev network_head : List (List ℕ)
  network_head = drop (length (behind_by c steps)) (packets_in steps)

  joined : (head other : List (List ℕ)) → behind_head (Some c.program) (cued c steps) ++ head ≡ cued c steps → behind_by c steps ++ other ≡ packets_in steps →
      filter (on_one (switched_by c steps)) head ≡ filter (on_one (switched_by c steps)) other
  joined head other h g =
      append_cancel_left (filter taken (behind_by c steps)) (filter taken head) (filter taken other)
      (ap (λ l. l ++ filter taken head) (sym same-behind)
      ∙ sym (filter-append taken (behind_head (Some c.program) (cued c steps)) head)
      ∙ ap (filter taken) h ∙ same-all ∙ ap (filter taken) (sym g) ∙ filter-append taken (behind_by c steps) other)

  same-head : filter (on_one (switched_by c steps)) (head_at (setting_of c filed) (cued c steps)) ≡ filter (on_one (switched_by c steps)) (drop (length (behind_by c steps)) (packets_in steps))
  same-head = joined (head_at k back) network_head (head-joined k back) (head-joined k (packets_in steps))

  pub same-run : filter (on_one (switched_by c steps)) (reverse (behind_head (Some c.program) (cued c steps))) ≡ filter (on_one (switched_by c steps)) (run_by c steps)
  same-run = filter-reverse taken (behind_head (Some c.program) back) ∙ ap reverse same-behind ∙ sym (filter-reverse taken (behind_by c steps))

  steady : AreSteady (adverts_at (setting_of c filed) (cued c steps))
  steady = libraries_are_steady filed (streams_at k back)

  pub same-taken : SameTaken (is_played (adverts_by c filed steps)) (armed_by c steps) (accepted_by c steps)
  same-taken = breaks_are_armed c steps w.run w.whole (is_played (adverts_by c filed steps)) (played-stays (adverts_by c filed steps))

  same-breaks : breaks (setting_of c filed) (cued c steps) ≡ played_by c filed steps
  same-breaks = ap (λ ads. intervals ads (events_at k back)) same-adverts ∙ ap (map as_played) same-taken.sorted

  module _ (pid : ℕ) (a : is_among pid (switched_by c steps) ≡ true) where
    own : is_among pid (switched_at (setting_of c filed) (cued c steps)) ≡ true
    own = ap (is_among pid) same-switched ∙ a

    once : IsOnce pid (switched_at (setting_of c filed) (cued c steps))
    once = (sound c filed steps w.run).once pid own

    head-packets : filter (payload_on pid) (reverse (head_at (setting_of c filed) (cued c steps))) ≡ filter (payload_on pid) (head_by c steps)
    head-packets =
        let t = takes-pid (switched_by c steps) pid a in
        filter-reverse (payload_on pid) (head_at k back)
        ∙ ap reverse (sym (filter-within taken (payload_on pid) t (head_at k back)) ∙ ap (filter (payload_on pid)) same-head ∙ filter-within taken (payload_on pid) t network_head)
        ∙ sym (filter-reverse (payload_on pid) network_head)

    same-lead : lead_in pid (reverse (behind_head (Some c.program) (cued c steps))) ≡ lead_in pid (run_by c steps)
    same-lead = lead_both taken (switched_by c steps) (takes-own (switched_by c steps)) pid (takes-pid (switched_by c steps) pid a) (reverse (behind_head (Some c.program) back)) (run_by c steps) same-run

    abbrev sent : PlayedEvent → List SliceUnit
    sent = slices (setting_of c filed) (cued c steps) pid

    same-placed : placed_in (setting_of c filed) (cued c steps) pid ≡ placed_payloads (switched_by c steps) pid (played_by c filed steps) (slices (setting_of c filed) (cued c steps) pid) [] (run_by c steps)
    same-placed =
        ap (λ sw. placed_payloads sw pid (breaks k back) sent [] (reverse (behind_head (Some c.program) back))) same-switched
        ∙ ap (λ xs. placed_payloads (switched_by c steps) pid xs sent [] (reverse (behind_head (Some c.program) back))) same-breaks
        ∙ placed_both taken (switched_by c steps) (takes-own (switched_by c steps)) pid (takes-pid (switched_by c steps) pid a) (reverse (behind_head (Some c.program) back)) (run_by c steps) same-run (played_by c filed steps) sent

    stream-law : (carried : List (List ℕ)) × (filter (payload_on pid) (spliced_network (setting_of c filed) (reverse (cued c steps)))
        ≡ filter (payload_on pid) (reverse (head_at (setting_of c filed) (cued c steps))) ++ (lead_in pid (reverse (behind_head (Some c.program) (cued c steps))) ++ carried))
        × CarriesUnits carried (placed_in (setting_of c filed) (cued c steps) pid)
    stream-law =
        streams-at k back apart steady (subst (ArePacked packed_units) (sym same-adverts) w.library)
        (all-reversed (λ (p : List ℕ). length p ≡ 188) back (cued-long c steps w.run w.long)) (all-reversed (λ (p : List ℕ). pid_of p < 8192) back (cued-pids c steps w.run)) pid once

    -- ---- slices

    abbrev WholeHere : Standing → Type 0
    WholeHere = IsWholeSlice (switched_at (setting_of c filed) (cued c steps)) (adverts_at (setting_of c filed) (cued c steps)) (history_at (setting_of c filed) (cued c steps)) (reverse (behind_head (Some c.program) (cued c steps))) pid

    behind-head : (o : Option Program) → program_of (Some c.program) (cued c steps) ≡ o → is_some o ≡ true
    behind-head (Some r) h = refl
    behind-head None h = absurd (true≢false (sym own ∙ ap (λ o. is_among pid (pids_of o)) h))

    here-whole : AllByRecursion (IsWholeSlice (switched_at (setting_of c filed) (cued c steps)) (adverts_at (setting_of c filed) (cued c steps)) (history_at (setting_of c filed) (cued c steps)) (reverse (behind_head (Some c.program) (cued c steps))) pid) (armed_by c steps)
    here-whole =
        let b = behind_head (Some c.program) back in
        let play : IsPlayable (switched_at k back) (adverts_at k back) (history_at k back) = record { steady = steady; history = armed_is_history k back (behind-head (program_of (Some c.program) back) refl) } in
        let events : history_at k back (reverse (reverse b)) ≡ armed_by c steps = ap (history_at k back) (reverse-reverse b) ∙ ap (events_at k) (head-joined k back) in
        subst (AllByRecursion WholeHere) events (slices_are_whole (switched_at k back) (adverts_at k back) (history_at k back) play (reverse b) pid (once-contained pid (switched_at k back) once))

    one-whole : (e : Standing) → (is_played (adverts_by c filed steps) e ≡ true) × WholeHere e → GoesOutWhole c filed steps pid sent e
    one-whole e h clear =
        let b = behind_head (Some c.program) back in
        let t = takes-own (switched_by c steps) in
        let mine = takes-pid (switched_by c steps) pid a in
        let crossed : is_crossed (stream (switched_at k back) pid) e.start b ≡ false =
        ap (λ sw. is_crossed (stream sw pid) e.start b) same-switched ∙ crossed_both taken (switched_by c steps) t pid mine b (behind_by c steps) same-behind e.start ∙ clear in
        ap (λ l. sent_in_all (switched_at k back) (adverts_at k back) (history_at k back) l pid (as_played e)) (sym (reverse-reverse b))
        ∙ h.1 (ap (λ ads. is_played ads e) same-adverts ∙ h.0) (once-crossed (stream (switched_at k back) pid) e.start b crossed)
        ∙ ap (λ l. if begun (stream (switched_at k back) pid) (as_played e) l then up_to_end (end_of e) ((adverts_at k back).units e pid) else []) (reverse-reverse b)
        ∙ ap (λ sw. if begun (stream sw pid) (as_played e) b then up_to_end (end_of e) ((adverts_at k back).units e pid) else []) same-switched
        ∙ ap (λ ads. if begun (stream (switched_by c steps) pid) (as_played e) b then slice_of ads pid e else []) same-adverts
        ∙ ap (λ x. if x then slice_of (adverts_by c filed steps) pid e else []) (begun_both taken (switched_by c steps) t pid mine b (behind_by c steps) same-behind (as_played e))

    all-whole : AllByRecursion (GoesOutWhole c filed steps pid (slices (setting_of c filed) (cued c steps) pid)) (played (adverts_by c filed steps) (accepted_by c steps))
    all-whole =
        subst (AllByRecursion (GoesOutWhole c filed steps pid sent)) same-taken.sorted
        (each-map one-whole (by_start (filter (is_played (adverts_by c filed steps)) (armed_by c steps))) (each-sorted WholeHere (is_played (adverts_by c filed steps)) (armed_by c steps) here-whole))

    abbrev ToHere : Standing → Type 0
    ToHere = IsSliceToAnEnd (switched_at (setting_of c filed) (cued c steps)) (adverts_at (setting_of c filed) (cued c steps)) (history_at (setting_of c filed) (cued c steps)) (behind_head (Some c.program) (cued c steps)) pid

    here-to : AllByRecursion (IsSliceToAnEnd (switched_at (setting_of c filed) (cued c steps)) (adverts_at (setting_of c filed) (cued c steps)) (history_at (setting_of c filed) (cued c steps)) (behind_head (Some c.program) (cued c steps)) pid) (armed_by c steps)
    here-to =
        let b = behind_head (Some c.program) back in
        let play : IsPlayable (switched_at k back) (adverts_at k back) (history_at k back) = record { steady = steady; history = armed_is_history k back (behind-head (program_of (Some c.program) back) refl) } in
        let events : history_at k back b ≡ armed_by c steps = ap (events_at k) (head-joined k back) in
        subst (AllByRecursion ToHere) events (slices_go_to_an_end (switched_at k back) (adverts_at k back) (history_at k back) play b pid (once-contained pid (switched_at k back) once))

    one-to : (e : Standing) → (is_played (adverts_by c filed steps) e ≡ true) × ToHere e → GoesOutToAnEnd c filed steps pid sent e
    one-to e h =
        let b = behind_head (Some c.program) back in
        let g = h.1 (ap (λ ads. is_played ads e) same-adverts ∙ h.0) in
        record {
          stop = g.stop;
          in_force = (
            g.later,
            g.before,
            g.at,
            subst (λ sw. IsOverBehind (stream sw pid) (as_played e) (end_behind c filed steps e) b g.before) same-switched
                (subst (λ ads. IsOverBehind (stream (switched_at k back) pid) (as_played e) (end_known ads (history_at k back) e.start) b g.before) same-adverts g.over),
            ap (λ ads. end_known ads (history_at k back) e.start g.before) (sym same-adverts) ∙ g.in_force,
          );
          last = g.last;
          goes = g.goes
              ∙ ap (λ sw. if begun (stream sw pid) (as_played e) b then up_to_end g.stop ((adverts_at k back).units e pid) else []) same-switched
              ∙ ap (λ ads. if begun (stream (switched_by c steps) pid) (as_played e) b then up_to_end g.stop (ads.units e pid) else []) same-adverts
              ∙ ap (λ x. if x then up_to_end g.stop ((adverts_by c filed steps).units e pid) else [])
              (begun_both taken (switched_by c steps) (takes-own (switched_by c steps)) pid (takes-pid (switched_by c steps) pid a) b (behind_by c steps) same-behind (as_played e));
        }

    all-to : AllByRecursion (GoesOutToAnEnd c filed steps pid (slices (setting_of c filed) (cued c steps) pid)) (played (adverts_by c filed steps) (accepted_by c steps))
    all-to =
        subst (AllByRecursion (GoesOutToAnEnd c filed steps pid sent)) same-taken.sorted
        (each-map one-to (by_start (filter (is_played (adverts_by c filed steps)) (armed_by c steps))) (each-sorted ToHere (is_played (adverts_by c filed steps)) (armed_by c steps) here-to))

    pub carries-placed : CarriesPlaced c filed steps pid
    carries-placed = record {
      sent = sent;
      slices = all-to;
      whole = all-whole;
      carried = stream-law.0;
      packets = stream-law.1
          ∙ ap (λ l. l ++ (lead_in pid (reverse (behind_head (Some c.program) back)) ++ stream-law.0)) head-packets
          ∙ ap (λ l. filter (payload_on pid) (head_by c steps) ++ (l ++ stream-law.0)) same-lead
          ∙ sym (append_assoc (filter (payload_on pid) (head_by c steps)) (lead_in pid (run_by c steps)) stream-law.0);
      carries = subst (CarriesUnits stream-law.0) same-placed stream-law.2;
    }

    -- ---- on a conditioned network

    ordered : AreOrdered (played_by c filed steps)
    ordered = subst AreOrdered same-breaks (intervals-ordered (adverts_at k back) (events_at k back) (none-meet k.cue_pid _ back))

    same-splice : (q : PlayedEvent → List SliceUnit) (low : Option ℤ) (es : List Standing) → AllByRecursion (GoesOutWhole c filed steps pid q) es → IsConditionedAt (switched_by c steps) pid (map as_played es) (behind_by c steps) →
        splice_from low (map as_played es) (λ (x : PlayedEvent). begun (stream (switched_by c steps) pid) x (reverse (run_by c steps))) q (units (switched_by c steps) pid (run_by c steps))
        ≡ break_splice low es (is_reached (switched_by c steps) pid (behind_by c steps)) (slice_of (adverts_by c filed steps) pid) (units (switched_by c steps) pid (run_by c steps))
    same-splice q low [] h d = refl
    same-splice q low (e ∷ es) h d =
        let us = units (switched_by c steps) pid (run_by c steps) in
        let r : (b : Bool) (new : List SliceUnit) (old : List SliceUnit) → old ≡ (if b then new else []) → (if b then slice_payloads old else []) ≡ (if b then slice_payloads new else []) = reached-same in
        let first : (if begun (stream (switched_by c steps) pid) (as_played e) (reverse (run_by c steps)) then slice_payloads (q (as_played e)) else []) ≡ (if is_reached (switched_by c steps) pid (behind_by c steps) e then slice_payloads (slice_of (adverts_by c filed steps) pid e) else []) =
        ap (λ l. if begun (stream (switched_by c steps) pid) (as_played e) l then slice_payloads (q (as_played e)) else []) (reverse-reverse (behind_by c steps))
        ∙ r (is_reached (switched_by c steps) pid (behind_by c steps) e) (slice_of (adverts_by c filed steps) pid e) (q (as_played e)) (h.0 d.0) in
        ap (λ l. payloads_between low (Some e.start) us ++ (l ++ splice_from (Some (end_of e)) (map as_played es) (λ (x : PlayedEvent). begun (stream (switched_by c steps) pid) x (reverse (run_by c steps))) q us)) first
        ∙ ap (λ l. payloads_between low (Some e.start) us ++ ((if is_reached (switched_by c steps) pid (behind_by c steps) e then slice_payloads (slice_of (adverts_by c filed steps) pid e) else []) ++ l)) (same-splice q (Some (end_of e)) es h.1 d.1)
      where
        reached-same : (b : Bool) (new old : List SliceUnit) → old ≡ (if b then new else []) → (if b then slice_payloads old else []) ≡ (if b then slice_payloads new else [])
        reached-same true new old e = ap slice_payloads e
        reached-same false new old e = refl

    pub carries-splice : IsConditionedAt (switched_by c steps) pid (played_by c filed steps) (behind_by c steps) → CarriesSplice c filed steps pid
    carries-splice d =
        let p = carries-placed in
        record {
          carried = p.carried;
          packets = p.packets;
          carries = subst (CarriesUnits p.carried)
              (placed_is_unit_splice (switched_by c steps) pid (played_by c filed steps) ordered p.sent (run_by c steps) (subst (IsConditionedAt (switched_by c steps) pid (played_by c filed steps)) (sym (reverse-reverse (behind_by c steps))) d)
              ∙ same-splice p.sent None (played (adverts_by c filed steps) (accepted_by c steps)) p.whole d)
              p.carries;
        }

pub streams_carry_placed : StreamsCarryPlaced
streams_carry_placed c filed steps w pid a = carries-placed c filed steps w pid a

pub streams_carry_splice : StreamsCarrySplice
streams_carry_splice c filed steps w pid a d = carries-splice c filed steps w pid a d
