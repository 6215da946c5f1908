-- The packets of the output on the PID of the PMT.
use Rattle.std.proofs.Common.{◌≡◌, ℕ, List, [], ◌∷◌, ◌++◌, true, false, refl, sym, ap, ◌∙◌, Option, None, Some, append_assoc, map, reverse, arith}
use Rattle.std.specs.Prelude.{filter}
use Rattle.std.specs.Option.{option_or}
use Rattle.std.specs.List.{AllByRecursion}
use Rattle.std.proofs.lemmas.List.{reverse-reverse}
use Rattle.ts_packet.specs.Fields.{on, on_one, is_among}
use Rattle.ts_packet.specs.Numbering.{one_past}
use Rattle.ts_packet.specs.Runs.{onto}
use Rattle.ts_packet.proofs.Cases.{by_test}
use Rattle.ts_packet.proofs.RunLemmas.{filter-reverse, onto-append, reverse-onto}
use Rattle.wire_fields.specs.Numbers.{AreBytes}
use Rattle.psi_section.specs.Packetising.{packets_in_turn}
use Rattle.psi_section.proofs.RunLemmas.{others_give}
use Rattle.psi_tables.specs.declared.config.Config.{Config}
use Rattle.psi_tables.specs.ProgramMap.{ProgramMap}
use Rattle.psi_tables.specs.Cue.{without_cue_entry}
use Rattle.program_follower.specs.declared.purpose.Listed.{Listed}
use Rattle.program_follower.specs.Program.{listed, first_listed, Table, tables, all_tables, first_map}
use Rattle.program_follower.specs.Faults.{first_fault, network_fault}
use Rattle.program_follower.proofs.OptionLemmas.{none_both}
use Rattle.program_follower.proofs.StreamLemmas.{one_pid}
use Rattle.program_laws.specs.Writing.{Along, number_on, Writing, section_out, table_out, packets_out, body, written, Off}
use Rattle.program_laws.specs.Cued.{On, cueing}
use Rattle.program_laws.proofs.CuedLemmas.{cued_stream_reads}
use Rattle.program_laws.proofs.ReadingLemmas.{listed_onto, no_tables}
use Rattle.program_laws.proofs.WritingLemmas.{listed_below, off_other}
use Rattle.program_laws.proofs.FaultLemmas.{Each-map}
use Rattle.ad_library.specs.Advertisements.{Advertisement}
use Rattle.injector.specs.Steps.{Step, packets_in}
use Rattle.injector.specs.Steps.{cued as sent_cues}
use Rattle.injector.specs.Laws.{own_fronts}
use Rattle.injector.proofs.CuedLemmas.{cued-is-written}
use Rattle.splice_plans.specs.Adverts.{setting_of}
use Rattle.splice_plans.specs.Switching.{Setting, switched_at, place_at, rest_at, switching, switched_past}
use Rattle.switch_laws.proofs.WholeLemmas.{none-switched}
use Rattle.switch_laws.proofs.SplitLemmas.{filter-onto}
use Rattle.switch_laws.proofs.SectionLemmas.{no-more}
use Rattle.chain_laws.specs.Runs.{switched_by, output_by, IsWholeRun}
use Rattle.chain_laws.specs.Tables.{up_to_pat, pmt_packets, PmtIsSections}
use Rattle.chain_laws.proofs.RunLemmas.{reads}
use Rattle.chain_laws.proofs.CarriedLemmas.{map-apart}
use Rattle.chain_laws.proofs.TableLemmas.{front-clear, place-clear, end-clear, out-is, stripped-by, not-cue}
use Rattle.chain_laws.proofs.PmtLemmas.{filter-none, number-own, IsClearOn, step-before, before, up-at, up-behind, map-out}
use Rattle.program_follower.specs.Purposes.{writing_cues}

sections-of : (change : ProgramMap → ProgramMap) (ts : List Table) → map (section_out change) ts ≡ map (λ (t : Table). t.section) (map (table_out change) ts)
sections-of change [] = refl
sections-of change (t ∷ ts) = ap (λ l. section_out change t ∷ l) (sections-of change ts)

-- ---- the cued stream

module _ (c : Config) (F : List ℕ → List (List ℕ) → List (List ℕ)) (pid : ℕ) (apart : c.cue_pid ≡ pid → ⊥) where
  abbrev w : Writing
  w = cueing c.cue_pid F

  abbrev sought : Option ℕ
  sought = Some c.program

  abbrev Cues : List (List ℕ) → Type 0
  Cues past = Along (λ p past. AllByRecursion (On c.cue_pid) (F p past)) past

  cues-off : (other : ℕ) → (c.cue_pid ≡ other → ⊥) → (qs : List (List ℕ)) → AllByRecursion (On c.cue_pid) qs → AllByRecursion (Off other) qs
  cues-off other ne qs h = Each-map (On c.cue_pid) (Off other) (λ q y. off_other c.cue_pid other q ne y) qs h

  clear-on : (past : List (List ℕ)) → Cues past → Along (IsClearOn (cueing c.cue_pid F) (Some c.program) pid) past
  clear-on [] h = tt
  clear-on (p ∷ past) h = (record { front = cues-off pid apart (F p past) h.0; keeps = λ none y. refl; place = λ n. (n, tt) }, clear-on past h.1)

  not-zero : c.cue_pid ≡ 0 → ⊥
  not-zero e = let above = c.above_reserved in absurd (omega (arith, e, above))

  same-listed : (past : List (List ℕ)) → first_fault (writing_cues c) past ≡ None → Along (λ p past. AreBytes p) past → Cues past → listed (Some c.program) (written (cueing c.cue_pid F) (Some c.program) past) ≡ listed (Some c.program) past
  same-listed past ok bytes h = (cued_stream_reads (writing_cues c) c.cue_pid F past refl refl not-zero (let below = c.below_null in omega (arith, below)) ok bytes h).same_pat

  abbrev sent : List (List ℕ) → List (List ℕ)
  sent past = written (cueing c.cue_pid F) (Some c.program) past

  -- the packets up to its PAT are the network's there
  up-same : (past : List (List ℕ)) → first_fault (writing_cues c) past ≡ None → Along (λ p past. AreBytes p) past → Cues past →
      filter (on pid) (up_to_pat (Some c.program) (written (cueing c.cue_pid F) (Some c.program) past)) ≡ filter (on pid) (up_to_pat (Some c.program) past)
  up-same [] ok bytes h = refl
  up-same (p ∷ past) ok bytes h = by (listed sought past) refl (up-same past (none_both (first_fault (writing_cues c) past) (network_fault (writing_cues c) p past) ok).0 bytes.1 h.1)
    where
      sound : first_fault (writing_cues c) past ≡ None
      sound = (none_both (first_fault (writing_cues c) past) (network_fault (writing_cues c) p past) ok).0

      same : listed (Some c.program) (written (cueing c.cue_pid F) (Some c.program) past) ≡ listed (Some c.program) past
      same = same-listed past sound bytes.1 h.1

      quiet : listed (Some c.program) (onto (written (cueing c.cue_pid F) (Some c.program) past) (F p past)) ≡ listed (Some c.program) (written (cueing c.cue_pid F) (Some c.program) past)
      quiet =
          listed_onto sought (F p past) (sent past)
          ∙ ap (λ ss. option_or (listed sought (sent past)) (first_listed sought ss)) (others_give 0 (F p past) (sent past) (cues-off 0 not-zero (F p past) h.0))
          ∙ no-more (listed sought (sent past))

      here : (o : Option Listed) → listed (Some c.program) past ≡ o →
          written (cueing c.cue_pid F) (Some c.program) (p ∷ past) ≡ onto (written (cueing c.cue_pid F) (Some c.program) past) (F p past ++ body (cueing c.cue_pid F) o p past (tables (Some c.program) p past) (written (cueing c.cue_pid F) (Some c.program) past))
      here o known = ap (λ o. onto (sent past) (F p past ++ body w o p past (tables sought p past) (sent past))) known

      by : (o : Option Listed) → listed (Some c.program) past ≡ o →
          filter (on pid) (up_to_pat (Some c.program) (written (cueing c.cue_pid F) (Some c.program) past)) ≡ filter (on pid) (up_to_pat (Some c.program) past) →
          filter (on pid) (up_to_pat (Some c.program) (written (cueing c.cue_pid F) (Some c.program) (p ∷ past))) ≡ filter (on pid) (up_to_pat (Some c.program) (p ∷ past))
      by None known earlier =
          let s = clear-on (p ∷ past) h in
          let last : written (cueing c.cue_pid F) (Some c.program) (p ∷ past) ≡ p ∷ onto (sent past) (F p past) = here None known ∙ onto-append (sent past) (F p past) (p ∷ []) in
          ap (λ l. filter (on pid) (up_to_pat sought l)) last
          ∙ ap (filter (on pid)) (up-at w sought pid p (onto (sent past) (F p past)) (quiet ∙ same ∙ known) ∙ sym last)
          ∙ step-before w sought pid p past s.0 known (before w sought pid past s.1 known)
          ∙ ap (filter (on pid)) (sym (up-at w sought pid p past known))
      by (Some l) known earlier =
          ap (λ l. filter (on pid) (up_to_pat sought l)) (here (Some l) known)
          ∙ ap (filter (on pid)) (up-behind w sought pid (F p past ++ body w (Some l) p past (tables sought p past) (sent past)) (sent past) l (same ∙ known))
          ∙ earlier
          ∙ ap (filter (on pid)) (sym (up-behind w sought pid (p ∷ []) past l known))

-- ---- a whole run

module _ (c : Config) (filed : ℕ → Option Advertisement) (steps : List Step) (w : IsWholeRun c filed steps) (l : Listed) (known : listed (Some c.program) (packets_in steps) ≡ Some l) where
  abbrev k : Setting
  k = setting_of c filed

  abbrev net : List (List ℕ)
  net = packets_in steps

  abbrev back : List (List ℕ)
  back = sent_cues c steps

  abbrev wanted : Option ℕ
  wanted = Some c.program

  apart-from : is_among l.pid (switched_by c steps) ≡ false
  apart-from = map-apart c filed steps w l known

  keeps-here : (p : List ℕ) (past : List (List ℕ)) → listed (Some c.program) past ≡ None → on l.pid p ≡ true → place_at (setting_of c filed) p past ≡ p ∷ []
  keeps-here p past none y =
      let s : on_one (switched_at k past) p ≡ false = ap (λ sw. on_one sw p) (none-switched k past (ap first_map (no_tables wanted past none))) in
      by_test (on c.cue_pid p)
      (λ o. absurd (not-cue c filed steps w l known (one_pid c.cue_pid l.pid p o y)))
      (λ o. simp (o, s) refl)

  clear-from : (past more : List (List ℕ)) → sent_cues c steps ≡ more ++ past → Along (IsClearOn (switching (setting_of c filed)) (Some c.program) l.pid) past
  clear-from [] more is = tt
  clear-from (p ∷ past) more is = (
    record {
      front = front-clear c filed steps w l.pid apart-from p past more is;
      keeps = λ none y. keeps-here p past none y;
      place = place-clear c filed steps w l.pid apart-from p past more is;
    },
    clear-from past (more ++ p ∷ []) (is ∙ sym (append_assoc more (p ∷ []) past)),
  )

  same-first : filter (on l.pid) (up_to_pat (Some c.program) (sent_cues c steps)) ≡ filter (on l.pid) (up_to_pat (Some c.program) (packets_in steps))
  same-first =
      let is = cued-is-written c steps w.run.faultless in
      ap (λ out. filter (on l.pid) (up_to_pat wanted out)) is.stream
      ∙ up-same c (own_fronts c steps) l.pid (not-cue c filed steps w l known) net w.run.faultless w.run.bytes is.cues

  same-sections : map (section_out (without_cue_entry c.cue_pid)) (all_tables (Some c.program) (sent_cues c steps)) ≡ map (λ (t : Table). t.section) (all_tables (Some c.program) (packets_in steps))
  same-sections =
      sections-of (without_cue_entry c.cue_pid) (all_tables wanted back)
      ∙ ap (λ ts. map (λ (t : Table). t.section) (map (table_out (without_cue_entry c.cue_pid)) ts)) (reads c filed steps w.run).tables
      ∙ ap (map (λ (t : Table). t.section)) (stripped-by c filed steps w (Some l) known)

  abbrev ended : List (List ℕ)
  ended = packets_out l.pid (up_to_pat (Some c.program) (packets_in steps)) (map (λ (t : Table). t.section) (all_tables (Some c.program) (packets_in steps)))

  same-turn : packets_out l.pid (up_to_pat (Some c.program) (sent_cues c steps)) (map (section_out (without_cue_entry c.cue_pid)) (all_tables (Some c.program) (sent_cues c steps))) ≡ ended
  same-turn =
      ap (packets_out l.pid (up_to_pat wanted back)) same-sections
      ∙ ap (λ n. packets_in_turn l.pid (one_past n) (map (λ (t : Table). t.section) (all_tables wanted net)))
      (number-own l.pid (up_to_pat wanted back) ∙ ap (number_on l.pid) same-first ∙ sym (number-own l.pid (up_to_pat wanted net)))

  pub pmt-stands : filter (on l.pid) (output_by c filed steps) ≡ pmt_packets c steps l.pid
  pmt-stands =
      let end = rest_at k back in
      let there : listed wanted back ≡ Some l = (reads c filed steps w.run).same_pat ∙ known in
      ap (filter (on l.pid)) (sym (reverse-reverse (output_by c filed steps)))
      ∙ filter-reverse (on l.pid) (reverse (output_by c filed steps))
      ∙ ap (λ out. reverse (filter (on l.pid) out)) (out-is c filed steps w)
      ∙ ap reverse (filter-onto (on l.pid) (switched_past k back) end
      ∙ ap (onto (filter (on l.pid) (switched_past k back))) (filter-none (on l.pid) end (end-clear c filed steps w l.pid apart-from))
      ∙ map-out (switching k) wanted l.pid l refl (listed_below wanted net l known) back (clear-from back [] refl) there
      ∙ ap (λ up. onto up (packets_out l.pid (up_to_pat wanted back) (map (section_out (without_cue_entry c.cue_pid)) (all_tables wanted back)))) same-first
      ∙ ap (onto (filter (on l.pid) (up_to_pat wanted net))) same-turn)
      ∙ reverse-onto (filter (on l.pid) (up_to_pat wanted net)) ended
      ∙ ap (λ qs. qs ++ ended) (sym (filter-reverse (on l.pid) (up_to_pat wanted net)))

pub pmt_is_sections : PmtIsSections
pmt_is_sections c filed steps w l known = pmt-stands c filed steps w l known
