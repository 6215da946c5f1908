-- What the output leaves as it was, and what is reported.
use Rattle.std.proofs.Common.{◌≡◌, ℕ, ◌<◌, List, [], ◌∷◌, ◌++◌, Bool, true, false, ◌&&◌, ◌||◌, refl, sym, ap, ◌∙◌, subst, Option, None, Some, length, map, reverse}
use Rattle.std.specs.Prelude.{filter, flat_map, not, count_by, ◌==◌}
use Rattle.std.specs.List.{AllByRecursion, list_any}
use Rattle.std.proofs.lemmas.Bool.{true≢false, or_right}
use Rattle.std.proofs.lemmas.List.{reverse-reverse}
use Rattle.std.proofs.lemmas.List.Sums.{length-filter}
use Rattle.ts_packet.specs.Fields.{on, pid_of, on_one, is_among}
use Rattle.ts_packet.specs.Runs.{seen_after}
use Rattle.ts_packet.proofs.Cases.{by_test}
use Rattle.ts_packet.proofs.RunLemmas.{filter-reverse}
use Rattle.psi_tables.specs.declared.config.Config.{Config}
use Rattle.program_follower.specs.declared.purpose.Listed.{Listed}
use Rattle.program_follower.specs.Program.{listed, all_tables, behind_head}
use Rattle.program_laws.specs.Writing.{Along, written}
use Rattle.program_laws.specs.Cued.{stripping}
use Rattle.program_laws.specs.Behind.{TakesAll}
use Rattle.program_laws.proofs.FaultLemmas.{no_cue_packets}
use Rattle.event_table.specs.Standing.{Standing, end_of}
use Rattle.ad_library.specs.Advertisements.{Advertisement}
use Rattle.armed_events.specs.Arming.{ignored}
use Rattle.injector.specs.Steps.{Step, packets_in}
use Rattle.injector.specs.Steps.{cued as sent_cues}
use Rattle.splice_laws.specs.Splicing.{stream}
use Rattle.output_laws.specs.Others.{is_off}
use Rattle.output_laws.proofs.OtherLemmas.{off_on}
use Rattle.splice_plans.specs.Playing.{Adverts, is_played, is_crossed, played, as_played}
use Rattle.splice_plans.specs.Adverts.{packed_units, setting_of}
use Rattle.splice_plans.specs.Histories.{AreSteady}
use Rattle.splice_plans.specs.Reporting.{EventCounts, is_not_fitted, is_unconditioned, report_of}
use Rattle.splice_plans.specs.Switching.{Setting, switched_at, streams_at, events_at, rest_at, spliced_network}
use Rattle.splice_plans.proofs.AdvertLemmas.{libraries_are_steady}
use Rattle.switch_laws.specs.Laws.{ArePackets}
use Rattle.splice_plans.specs.Known.{adverts_at}
use Rattle.switch_laws.specs.Whole.{ArePacked, HavePids, pmt_pids, table_pids}
use Rattle.switch_laws.specs.Standing.{touched}
use Rattle.switch_laws.proofs.NoneLemmas.{nothing_is_played, no_packet_changes, no_program}
use Rattle.switch_laws.proofs.OtherLemmas.{others_stay, among-self}
use Rattle.switch_laws.proofs.WholeLemmas.{output_is_in_order}
use Rattle.switch_laws.proofs.StandingLemmas.{packets_stand_as}
use Rattle.switch_laws.proofs.StreamLemmas.{all-reversed}
use Rattle.chain_laws.specs.Breaks.{accepted_by, armed_by}
use Rattle.chain_laws.specs.Runs.{network_of, switched_by, behind_by, adverts_by, played_by, output_by, IsWholeRun}
use Rattle.chain_laws.specs.Others.{table_pids_by, touched_by, OthersAreUnchanged, NoProgramIsNoChange, IsUnplayed, NoBreakIsNoChange}
use Rattle.chain_laws.specs.Order.{goes_out_at, IsInOrder, OrderIsTheNetworks}
use Rattle.chain_laws.specs.Reports.{counts_by, BreaksAreCounted}
use Rattle.chain_laws.proofs.BreakLemmas.{breaks_are_armed}
use Rattle.chain_laws.proofs.TakenLemmas.{crossed_both}
use Rattle.chain_laws.proofs.RunLemmas.{reads, others, cued-long, cued-pids}
use Rattle.chain_laws.proofs.CarriedLemmas.{same-switched, same-adverts, same-behind, same-taken, takes-own}
use Rattle.program_follower.specs.Purposes.{writing_cues}
use Rattle.program_follower.specs.Following.{high_of}

-- ---- laws of a whole network, of the packets newest first

others-at : (k : Setting) (back : List (List ℕ)) → ArePacked k.packed (adverts_at k back) → HavePids (reverse back) →
    filter (is_off (touched k back)) (spliced_network k (reverse back)) ≡ filter (is_off (touched k back)) (reverse back)
others-at k back =
    subst (λ past. ArePacked k.packed (adverts_at k past) → HavePids (reverse back) → filter (is_off (touched k past)) (spliced_network k (reverse back)) ≡ filter (is_off (touched k past)) (reverse back))
    (reverse-reverse back) (λ g h. others_stay k (reverse back) g h)

unplayed-at : (k : Setting) (back : List (List ℕ)) → AreSteady (adverts_at k back) → ArePackets (reverse back) → played (adverts_at k back) (events_at k back) ≡ [] →
    (spliced_network k (reverse back) ≡ reverse (written (stripping k.cue_pid) (Some k.program) back))
    × (filter (is_off (table_pids k back)) (spliced_network k (reverse back)) ≡ filter (is_off (table_pids k back)) (reverse back))
unplayed-at k back =
    subst (λ past. AreSteady (adverts_at k past) → ArePackets (reverse back) → played (adverts_at k past) (events_at k past) ≡ [] →
    (spliced_network k (reverse back) ≡ reverse (written (stripping k.cue_pid) (Some k.program) past))
    × (filter (is_off (table_pids k past)) (spliced_network k (reverse back)) ≡ filter (is_off (table_pids k past)) (reverse back)))
    (reverse-reverse back) (λ s l n. (nothing_is_played k (reverse back) s l n, no_packet_changes k (reverse back) s l n))

-- ---- lists of PIDs

map-empty : {A B : Type 0} (f : A → B) (xs : List A) → map f xs ≡ [] → xs ≡ []
map-empty f [] h = refl
map-empty f (x ∷ xs) h = cc

filter-all : (f : List ℕ → Bool) (ps : List (List ℕ)) → AllByRecursion (λ p. f p ≡ true) ps → filter f ps ≡ ps
filter-all f [] h = refl
filter-all f (p ∷ ps) h = let y = h.0 in simp y (ap (λ l. p ∷ l) (filter-all f ps h.1))

filter-same : {A : Type 0} (f g : A → Bool) → ((x : A) → f x ≡ g x) → (xs : List A) → filter f xs ≡ filter g xs
filter-same f g h [] = refl
filter-same f g h (x ∷ xs) = let e = h x in by_test (g x) (λ y. let z = e ∙ y in simp (y, z) (ap (λ l. x ∷ l) (filter-same f g h xs))) (λ n. let z = e ∙ n in simp (n, z) (filter-same f g h xs))

count-same : {A : Type 0} (f g : A → Bool) → ((x : A) → f x ≡ g x) → (xs : List A) → count_by f xs ≡ count_by g xs
count-same f g h xs = sym (length-filter f xs) ∙ ap length (filter-same f g h xs) ∙ length-filter g xs

-- ---- a whole run

module _ (c : Config) (filed : ℕ → Option Advertisement) (steps : List Step) (w : IsWholeRun c filed steps) where
  abbrev k : Setting
  k = setting_of c filed

  abbrev back : List (List ℕ)
  back = sent_cues c steps

  same-pat : listed (Some c.program) (sent_cues c steps) ≡ listed (Some c.program) (packets_in steps)
  same-pat = (reads c filed steps w.run).same_pat

  same-touched : touched (setting_of c filed) (sent_cues c steps) ≡ touched_by c steps
  same-touched =
      ap (λ o. (c.cue_pid ∷ pmt_pids o) ++ switched_at k back) same-pat
      ∙ ap (λ sw. table_pids_by c steps ++ sw) (same-switched c filed steps w)

  same-tables : table_pids (setting_of c filed) (sent_cues c steps) ≡ table_pids_by c steps
  same-tables = ap (λ o. c.cue_pid ∷ pmt_pids o) same-pat

  good : ArePacked packed_units (adverts_at (setting_of c filed) (sent_cues c steps))
  good = subst (ArePacked packed_units) (sym (same-adverts c filed steps w)) w.library

  -- of packets off some PIDs, among which are those of the cues and the map
  module _ (more : List ℕ) where
    abbrev pids : List ℕ
    pids = table_pids_by c steps ++ more

    map-off : (o : Option Listed) (l : Listed) → o ≡ Some l → is_among l.pid ((c.cue_pid ∷ pmt_pids o) ++ more) ≡ true
    map-off None l h = cc
    map-off (Some x) l h = let e : x.pid ≡ l.pid = cc in or_right (c.cue_pid == l.pid) (is_among l.pid (x.pid ∷ more)) (ap (λ n. is_among l.pid (n ∷ more)) e ∙ among-self l.pid more)

    pub off-same : filter (is_off (table_pids_by c steps ++ more)) (reverse (sent_cues c steps)) ≡ filter (is_off (table_pids_by c steps ++ more)) (network_of steps)
    off-same =
        filter-reverse (is_off pids) back
        ∙ ap reverse (others c filed steps w.run (is_off pids)
        (λ q y. off_on packed_units pids c.cue_pid q (among-self c.cue_pid (pmt_pids (listed (Some c.program) (packets_in steps)) ++ more)) y)
        (λ l h q y. off_on packed_units pids l.pid q (map-off (listed (Some c.program) (packets_in steps)) l h) y))
        ∙ sym (filter-reverse (is_off pids) (packets_in steps))

  pub others-unchanged : filter (is_off (touched_by c steps)) (output_by c filed steps) ≡ filter (is_off (touched_by c steps)) (network_of steps)
  others-unchanged =
      subst (λ t. filter (is_off t) (output_by c filed steps) ≡ filter (is_off t) (reverse back)) same-touched
      (others-at k back good (all-reversed (λ (p : List ℕ). pid_of p < 8192) back (cued-pids c steps w.run)))
      ∙ off-same (switched_by c steps)

  -- no program

  no-cues : (ps : List (List ℕ)) → Along (λ p past. on c.cue_pid p ≡ false) ps → AllByRecursion (λ p. not (on c.cue_pid p) ≡ true) ps
  no-cues [] h = tt
  no-cues (p ∷ ps) h = (ap not h.0, no-cues ps h.1)

  pub unlisted-unchanged : listed (Some c.program) (packets_in steps) ≡ None → output_by c filed steps ≡ network_of steps
  unlisted-unchanged none =
      let t : List ℕ → Bool = λ p. not (on c.cue_pid p) in
      no_program k (reverse back) (ap (listed (Some c.program)) (reverse-reverse back) ∙ same-pat ∙ none)
      ∙ filter-reverse t back
      ∙ ap reverse (others c filed steps w.run t (λ q y. ap not y) (λ l h. absurd (no-map l (sym none ∙ h)))
      ∙ filter-all t (packets_in steps) (no-cues (packets_in steps) (no_cue_packets (writing_cues c) c.cue_pid (packets_in steps) refl refl w.run.faultless)))
    where
      no-map : (l : Listed) → None ≡ Some l → ⊥
      no-map l e = cc

  -- no played break

  none-played : played_by c filed steps ≡ [] → played (adverts_at (setting_of c filed) (sent_cues c steps)) (events_at (setting_of c filed) (sent_cues c steps)) ≡ []
  none-played h = ap (λ ads. played ads (events_at k back)) (same-adverts c filed steps w) ∙ (same-taken c filed steps w).sorted ∙ map-empty as_played (played (adverts_by c filed steps) (accepted_by c steps)) h

  append-none : (xs : List ℕ) → xs ++ [] ≡ xs
  append-none [] = refl
  append-none (x ∷ xs) = ap (λ l. x ∷ l) (append-none xs)

  pub unplayed-unchanged : played_by c filed steps ≡ [] → IsUnplayed c filed steps
  unplayed-unchanged h =
      let u = unplayed-at k back (libraries_are_steady filed (streams_at k back)) (all-reversed (λ (p : List ℕ). length p ≡ 188) back (cued-long c steps w.run w.long)) (none-played h) in
      let stripped : reverse (output_by c filed steps) ≡ written (stripping c.cue_pid) (Some c.program) back = ap reverse u.0 ∙ reverse-reverse (written (stripping c.cue_pid) (Some c.program) back) in
      record {
        packets = subst (λ t. filter (is_off t) (output_by c filed steps) ≡ filter (is_off t) (reverse back)) same-tables u.1
            ∙ subst (λ t. filter (is_off t) (reverse back) ≡ filter (is_off t) (network_of steps)) (append-none (table_pids_by c steps)) (off-same []);
        pat = ap (listed (Some c.program)) stripped ∙ (reads c filed steps w.run).stripped_pat;
        tables = ap (all_tables (Some c.program)) stripped ∙ (reads c filed steps w.run).stripped;
      }

  -- ---- the order across all PIDs

  pub in-order : IsInOrder c filed steps
  in-order = record {
    network = subst (λ t. filter (is_off t) (reverse back) ≡ filter (is_off t) (network_of steps)) (append-none (table_pids_by c steps)) (off-same []);
    order = output_is_in_order k (reverse back)
        ∙ ap (λ b. flat_map (goes_out_at k) (seen_after [] (reverse back)) ++ rest_at k b) (reverse-reverse back);
    stands = packets_stand_as k;
  }

  -- ---- the report

  crossed-same : (pids : List ℕ) → AllByRecursion (TakesAll (on_one (switched_by c steps))) pids → (e : Standing) →
      list_any (λ pid. is_crossed (stream (switched_by c steps) pid) e.start (behind_head (Some c.program) (sent_cues c steps)) || is_crossed (stream (switched_by c steps) pid) (end_of e) (behind_head (Some c.program) (sent_cues c steps))) pids
      ≡ list_any (λ pid. is_crossed (stream (switched_by c steps) pid) e.start (behind_by c steps) || is_crossed (stream (switched_by c steps) pid) (end_of e) (behind_by c steps)) pids
  crossed-same [] t e = refl
  crossed-same (pid ∷ pids) t e =
      let b = behind_head (Some c.program) back in
      let same = crossed_both (on_one (switched_by c steps)) (switched_by c steps) (takes-own (switched_by c steps)) pid t.0 b (behind_by c steps) (same-behind c filed steps w) in
      ap (λ x. (x || is_crossed (stream (switched_by c steps) pid) (end_of e) b) || list_any (λ pid. is_crossed (stream (switched_by c steps) pid) e.start b || is_crossed (stream (switched_by c steps) pid) (end_of e) b) pids) (same e.start)
      ∙ ap (λ x. (is_crossed (stream (switched_by c steps) pid) e.start (behind_by c steps) || x) || list_any (λ pid. is_crossed (stream (switched_by c steps) pid) e.start b || is_crossed (stream (switched_by c steps) pid) (end_of e) b) pids) (same (end_of e))
      ∙ ap (λ x. (is_crossed (stream (switched_by c steps) pid) e.start (behind_by c steps) || is_crossed (stream (switched_by c steps) pid) (end_of e) (behind_by c steps)) || x) (crossed-same pids t.1 e)

  not-first : (a b : Bool) → (not a && b) ≡ true → a ≡ false
  not-first true b h = absurd (true≢false (sym h))
  not-first false b h = refl

  and-first : (a b : Bool) → (a && b) ≡ true → a ≡ true
  and-first true b h = refl
  and-first false b h = absurd (true≢false (sym h))

  abbrev ads : Adverts
  ads = adverts_by c filed steps

  abbrev is_bad : Standing → Bool
  is_bad e = is_played (adverts_by c filed steps) e && is_unconditioned (switched_by c steps) (behind_by c steps) e

  unconditioned-same : count_by (λ e. is_played (adverts_at (setting_of c filed) (sent_cues c steps)) e && is_unconditioned (switched_at (setting_of c filed) (sent_cues c steps)) (behind_head (Some c.program) (sent_cues c steps)) e) (armed_by c steps)
      ≡ count_by is_bad (accepted_by c steps)
  unconditioned-same =
      let b = behind_head (Some c.program) back in
      ap (λ ads. count_by (λ e. is_played ads e && is_unconditioned (switched_at k back) b e) (armed_by c steps)) (same-adverts c filed steps w)
      ∙ ap (λ sw. count_by (λ e. is_played (adverts_by c filed steps) e && is_unconditioned sw b e) (armed_by c steps)) (same-switched c filed steps w)
      ∙ count-same (λ e. is_played (adverts_by c filed steps) e && is_unconditioned (switched_by c steps) b e) is_bad
      (λ e. ap (λ x. is_played (adverts_by c filed steps) e && x) (crossed-same (switched_by c steps) (takes-own (switched_by c steps)) e)) (armed_by c steps)
      ∙ (breaks_are_armed c steps w.run w.whole is_bad (λ e h. not-first e.cancelled (ads.fits e) (and-first (is_played ads e) _ h))).counted

  abbrev counts : ℕ → ℕ → ℕ → ℕ → EventCounts
  counts a b d i = record { played = a; not_fitted = b; unconditioned = d; ignored = i }

  pub breaks-counted : report_of (setting_of c filed) (sent_cues c steps) ≡ counts_by c filed steps
  breaks-counted =
      let i = ignored c.cue_pid (high_of (Some c.program)) back in
      let p : count_by (is_played (adverts_at k back)) (armed_by c steps) ≡ count_by (is_played ads) (accepted_by c steps) =
      ap (λ x. count_by (is_played x) (armed_by c steps)) (same-adverts c filed steps w) ∙ (same-taken c filed steps w).counted in
      let n : count_by (is_not_fitted (adverts_at k back)) (armed_by c steps) ≡ count_by (is_not_fitted ads) (accepted_by c steps) =
      ap (λ x. count_by (is_not_fitted x) (armed_by c steps)) (same-adverts c filed steps w)
      ∙ (breaks_are_armed c steps w.run w.whole (is_not_fitted ads) (λ e h. not-first e.cancelled (not (ads.fits e)) h)).counted in
      ap (λ x. counts x (count_by (is_not_fitted (adverts_at k back)) (armed_by c steps)) (count_by (λ e. is_played (adverts_at k back) e && is_unconditioned (switched_at k back) (behind_head (Some c.program) back) e) (armed_by c steps)) i) p
      ∙ ap (λ x. counts (count_by (is_played ads) (accepted_by c steps)) x (count_by (λ e. is_played (adverts_at k back) e && is_unconditioned (switched_at k back) (behind_head (Some c.program) back) e) (armed_by c steps)) i) n
      ∙ ap (λ x. counts (count_by (is_played ads) (accepted_by c steps)) (count_by (is_not_fitted ads) (accepted_by c steps)) x i) unconditioned-same

pub others_are_unchanged : OthersAreUnchanged
others_are_unchanged c filed steps w = others-unchanged c filed steps w

pub no_program_is_no_change : NoProgramIsNoChange
no_program_is_no_change c filed steps w none = unlisted-unchanged c filed steps w none

pub no_break_is_no_change : NoBreakIsNoChange
no_break_is_no_change c filed steps w none = unplayed-unchanged c filed steps w none

pub order_is_the_networks : OrderIsTheNetworks
order_is_the_networks c filed steps w = in-order c filed steps w

pub breaks_are_counted : BreaksAreCounted
breaks_are_counted c filed steps w = breaks-counted c filed steps w
