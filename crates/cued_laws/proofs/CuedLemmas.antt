-- The stream with cues of a network without fault has none either.
use Rattle.std.specs.Option.{option_or}
use Rattle.std.proofs.Common.{◌≡◌, ℕ, ◌<◌, true, false, inl, inr, List, [], ◌∷◌, ◌++◌, length, drop, refl, sym, ap, ◌∙◌, subst, Option, Some, None, Result, Ok, Err, map, if◌then◌else◌, arith}
use Rattle.std.specs.Prelude.{option_map}
use Rattle.std.specs.List.{AllByRecursion}
use Rattle.std.proofs.lemmas.List.{map-append}
use lib.Seq.{drop-append_seam}
use Rattle.ts_packet.specs.Fields.{on, on_one}
use Rattle.ts_packet.specs.Numbering.{one_past}
use Rattle.ts_packet.specs.Runs.{onto}
use Rattle.ts_packet.proofs.Cases.{by_test}
use Rattle.ts_packet.proofs.RunLemmas.{onto-append}
use Rattle.psi_section.specs.Sections.{given, sections_after}
use Rattle.psi_section.proofs.GivenLemmas.{each-append}
use Rattle.psi_section.proofs.ReadBackLemmas.{IsPayloadOn, turn_carry}
use Rattle.psi_section.proofs.RunLemmas.{Alike, given_on, alike_on, alike_off, alike_none, alike_back, others_alike}
use Rattle.psi_tables.specs.declared.fault.TableFault.{TableFault}
use Rattle.psi_tables.specs.declared.fault.TableFault.TheVariants as table_faults
use Rattle.psi_tables.specs.Association.{Association, Pair, pat}
use Rattle.psi_tables.specs.Cue.{with_cue_entry}
use Rattle.psi_tables.specs.Sections.{is_current}
use Rattle.unit_stream.specs.Faults.{unit_fault}
use Rattle.program_follower.specs.declared.purpose.Purpose.{Purpose}
use Rattle.program_follower.specs.declared.purpose.Listed.{Listed}
use Rattle.program_follower.specs.Program.{listed_in, lists, listed, since_pat, Table, table_of, tables, all_tables, first_map, known_map, program_in, program_of, behind_head, pids_of}
use Rattle.program_follower.specs.Faults.{pmt_pid_fault, pairs_fault, pat_fault, pats_fault, tables_fault, maps_fault, cue_fault, as_network, network_fault, first_fault}
use Rattle.program_follower.specs.Purposes.{reading_cues as reading, cues_written_on, cues_read_on}
use Rattle.program_follower.proofs.OptionLemmas.{none_both}
use Rattle.program_laws.specs.Writing.{Along, number_on, section_out, table_out, packets_out, body, Off}
use Rattle.program_laws.specs.Cued.{On, cueing, CuedReads, cued as cued_network}
use Rattle.program_laws.proofs.CuedLemmas.{ons_off, cued_stream_reads}
use Rattle.program_laws.proofs.FaultLemmas.{Each-map, same_listed}
use Rattle.program_laws.proofs.PacketLemmas.{one_past-below}
use Rattle.program_laws.proofs.ReadingLemmas.{tables_onto}
use Rattle.program_laws.proofs.WritingLemmas.{listed_below, carry_off, first_map-out}
use Rattle.injector.specs.Steps.{Packet, packets_in, cued, sent_at}
use Rattle.injector.specs.Laws.{own_fronts}
use Rattle.injector.proofs.CuedLemmas.{cued-is-written, carried-on}
use Rattle.cued_laws.specs.Laws.{ArePacketsOfBytes, CuedIsFaultless, InjectedIsFaultless, NoneSentIsAtFault}
use Rattle.cued_laws.proofs.UnitLemmas.{unit_same}
use Rattle.cued_laws.proofs.PacketLemmas.{pid_parts, cue_of_none, parts_none, quiet_maps, Quiet, quiet}
use Rattle.cued_laws.proofs.TableLemmas.{entries_sound, IsOfBoth, block_sound}

-- what stands behind the same front
behind_front : {A : Type 0} (front xs ys : List A) → front ++ xs ≡ front ++ ys → xs ≡ ys
behind_front front xs ys e = sym (drop-append_seam front xs) ∙ ap (drop (length front)) e ∙ drop-append_seam front ys

module _ (wanted : Option ℕ) (cue : ℕ) where
  abbrev R : Purpose
  R = cues_read_on wanted cue

  abbrev W : Purpose
  W = cues_written_on wanted cue

  -- ---- of a PAT both say the same

  same_pid : (o : Option Listed) → pmt_pid_fault R o ≡ pmt_pid_fault W o
  same_pid None = refl
  same_pid (Some l) = refl

  same_pairs : (o : Option Listed) (pairs : List Pair) → pairs_fault R o pairs ≡ pairs_fault W o pairs
  same_pairs None pairs = same_pid (listed_in wanted pairs)
  same_pairs (Some l) pairs = refl

  same_pat : (o : Option Listed) (r : Result Association TableFault) → pat_fault R o r ≡ pat_fault W o r
  same_pat o (Ok a) = ap (λ x. if is_current a.version then x else None) (same_pairs o a.pairs)
  same_pat o (Err table_faults.Sections) = refl
  same_pat o (Err table_faults.WrongTable) = refl
  same_pat o (Err table_faults.BadLength) = refl

  same_pats : (o : Option Listed) (ss : List (List ℕ)) → pats_fault R o ss ≡ pats_fault W o ss
  same_pats o [] = refl
  same_pats o (s ∷ ss) =
      let later = option_or o (lists wanted s) in
      ap (λ x. option_or x (pats_fault R later ss)) (same_pat o (pat s)) ∙ ap (option_or (pat_fault W o (pat s))) (same_pats later ss)

  -- ---- a packet without fault

  record Parts (p : List ℕ) (past : List (List ℕ)) : Type 0 where
    pats : pats_fault W (listed wanted past) (given 0 p past) ≡ None
    maps : maps_fault W (listed wanted past) (known_map wanted past) (tables wanted p past) ≡ None
    unit : as_network (unit_fault (pids_of (program_of wanted past)) p (behind_head wanted past)) ≡ None

  parts : (p : List ℕ) (past : List (List ℕ)) → network_fault W p past ≡ None → Parts p past
  parts p past h =
      let pats = pats_fault W (listed wanted past) (given 0 p past) in
      let maps = maps_fault W (listed wanted past) (known_map wanted past) (tables wanted p past) in
      let last = as_network (unit_fault (pids_of (program_of wanted past)) p (behind_head wanted past)) in
      let a = none_both (cue_fault W p) (option_or pats (option_or maps last)) h in
      let b = none_both pats (option_or maps last) a.1 in
      let d = none_both maps last b.1 in
      record { pats = b.0; maps = d.0; unit = d.1 }

  module _ (cues : List ℕ → List (List ℕ) → List (List ℕ)) (not_pat : cue ≡ 0 → ⊥) (below : cue < 8192) where
    abbrev out_of : List (List ℕ) → List (List ℕ)
    out_of past = cued_network wanted cue cues past

    abbrev AreCues : List (List ℕ) → Type 0
    AreCues past = Along (λ p past. AllByRecursion (On cue) (cues p past)) past

    record Stands (past : List (List ℕ)) : Type 0 where
      sound : first_fault R (out_of past) ≡ None
      zero : Alike 0 (out_of past) past

    -- ---- one packet more

    module _ (p : List ℕ) (past : List (List ℕ)) (ok : first_fault W (p ∷ past) ≡ None) (bytes : ArePacketsOfBytes (p ∷ past)) (all : AreCues (p ∷ past)) (s : Stands past) where
      abbrev out : List (List ℕ)
      out = out_of past

      abbrev mid : List (List ℕ)
      mid = onto out (cues p past)

      abbrev pids : List ℕ
      pids = pids_of (program_of wanted past)

      before : (first_fault W past ≡ None) × (network_fault W p past ≡ None)
      before = none_both (first_fault W past) (network_fault W p past) ok

      here : Parts p past
      here = parts p past before.1

      reads : CuedReads wanted cue out past pids
      reads = cued_stream_reads W cue cues past refl refl not_pat below before.0 bytes.1 all.1

      now : CuedReads wanted cue (out_of (p ∷ past)) (p ∷ past) (pids_of (program_of wanted (p ∷ past)))
      now = cued_stream_reads W cue cues (p ∷ past) refl refl not_pat below ok bytes all

      apart : (q : List ℕ) → on cue q ≡ true → on_one pids q ≡ false
      apart q y = ap (λ r. on_one (pids_of r) q) (sym reads.program) ∙ cue_of_none wanted cue not_pat out s.sound q y

      stays : Quiet wanted cue not_pat out mid pids
      stays = quiet wanted cue not_pat pids apart (cues p past) out s.sound all.0

      zero_mid : Alike 0 mid past
      zero_mid = others_alike 0 (cues p past) out past (ons_off cue 0 (cues p past) not_pat all.0) s.zero

      same_listed_mid : listed wanted mid ≡ listed wanted past
      same_listed_mid = stays.listed ∙ reads.same_pat

      -- a packet that is not on the PID of the map passes
      pass : ((l : Listed) → listed wanted past ≡ Some l → on l.pid p ≡ false) → first_fault R (p ∷ mid) ≡ None
      pass off = parts_none wanted cue not_pat mid stays.sound p
          (ap (λ o. pats_fault R o (given 0 p mid)) same_listed_mid
          ∙ ap (pats_fault R (listed wanted past)) (given_on 0 p mid past zero_mid)
          ∙ same_pats (listed wanted past) (given 0 p past)
          ∙ here.pats)
          (quiet_maps wanted cue not_pat mid stays.sound p (λ l known. off l (sym same_listed_mid ∙ known)))
          (ap (λ r. as_network (unit_fault (pids_of r) p (behind_head wanted mid))) (ap (option_map program_in) stays.known ∙ reads.program)
          ∙ ap as_network (unit_same pids p (behind_head wanted mid) (behind_head wanted past) (stays.behind ∙ reads.packets))
          ∙ here.unit)

      abbrev GoesOn : List (List ℕ) → Type 0
      GoesOn o = (first_fault R o ≡ None) × Alike 0 o (p ∷ past)

      passes : ((l : Listed) → listed wanted past ≡ Some l → on l.pid p ≡ false) → GoesOn (onto out (cues p past ++ p ∷ []))
      passes off = subst GoesOn (sym (onto-append out (cues p past) (p ∷ []))) (pass off, alike_on 0 p mid past zero_mid)

      abbrev whole : Option Listed → List (List ℕ)
      whole o = cues p past ++ body (cueing cue cues) o p past (tables wanted p past) out

      -- of one on it the sections go out
      module _ (l : Listed) (known : listed wanted past ≡ Some l) (y : on l.pid p ≡ true) where
        abbrev packets : List (List ℕ)
        packets = packets_out l.pid out (map (section_out (with_cue_entry cue)) (tables wanted p past))

        carry : AllByRecursion (IsPayloadOn l.pid) packets
        carry = turn_carry l.pid (one_past (number_on l.pid out)) (map (section_out (with_cue_entry cue)) (tables wanted p past)) (listed_below wanted past l known) (one_past-below (number_on l.pid out))

        known_out : listed wanted out ≡ Some l
        known_out = reads.same_pat ∙ known

        other : (l.pid ≡ 0 → ⊥) × (cue ≡ l.pid → ⊥)
        other = pid_parts wanted cue not_pat out l s.sound known_out

        both : AllByRecursion (IsOfBoth wanted cue not_pat l) (cues p past ++ packets)
        both = each-append (IsOfBoth wanted cue not_pat l) (cues p past) packets
            (Each-map (On cue) (IsOfBoth wanted cue not_pat l) (λ q h. inl h) (cues p past) all.0)
            (Each-map (On l.pid) (IsOfBoth wanted cue not_pat l) (λ q h. inr h) packets (carried-on l.pid packets carry))

        out_is : out_of (p ∷ past) ≡ onto out (cues p past ++ packets)
        out_is = ap (λ o. onto out (whole o)) known ∙ (let e : onto out (whole (Some l)) ≡ onto out (cues p past ++ packets) = simp y refl in e)

        abbrev found : List Table
        found = map (table_of l.program) (sections_after (since_pat wanted out) l.pid (cues p past ++ packets))

        found_is : found ≡ map (table_out (with_cue_entry cue)) (tables wanted p past)
        found_is = behind_front (map (table_out (with_cue_entry cue)) (all_tables wanted past)) found (map (table_out (with_cue_entry cue)) (tables wanted p past))
            (ap (λ a. a ++ found) (sym reads.tables)
            ∙ sym (tables_onto wanted (cues p past ++ packets) out l known_out)
            ∙ ap (all_tables wanted) (sym out_is)
            ∙ now.tables
            ∙ map-append (table_out (with_cue_entry cue)) (all_tables wanted past) (tables wanted p past))

        maps_sound : tables_fault R l.pid (known_map wanted out) found ≡ None
        maps_sound =
            ap (λ ts. tables_fault R l.pid (known_map wanted out) ts) found_is
            ∙ ap (λ o. tables_fault R l.pid o (map (table_out (with_cue_entry cue)) (tables wanted p past))) (ap first_map reads.tables ∙ first_map-out (with_cue_entry cue) (all_tables wanted past))
            ∙ entries_sound wanted cue not_pat l.pid below other.1 (known_map wanted past) (tables wanted p past) (ap (λ o. maps_fault W o (known_map wanted past) (tables wanted p past)) (sym known) ∙ here.maps)

        written_out : GoesOn (onto out (cues p past ++ packets))
        written_out =
            let end = onto out (cues p past ++ packets) in
            let offs = each-append (Off 0) (cues p past) packets (ons_off cue 0 (cues p past) not_pat all.0) (carry_off l.pid 0 packets other.0 carry) in
            let z = others_alike 0 (cues p past ++ packets) out past offs s.zero in
            let off = (ons_off l.pid 0 (p ∷ []) other.0 (y, tt)).0 in (
              block_sound wanted cue not_pat l (cues p past ++ packets) out known_out s.sound both maps_sound,
              alike_back 0 (p ∷ past) end (alike_off 0 p past end off (alike_back 0 end past z)),
            )

      step : (o : Option Listed) → listed wanted past ≡ o → GoesOn (onto out (whole o))
      step None known = passes (λ l e. absurd (let f : None ≡ Some l = sym known ∙ e in cc))
      step (Some l) known =
          by_test (on l.pid p)
          (λ y. simp y (written_out l known y))
          (λ n. simp n (passes (λ k e. ap (λ (x : Listed). on x.pid p) (sym (same_listed l k (sym known ∙ e))) ∙ n)))

    stands : (past : List (List ℕ)) → first_fault W past ≡ None → ArePacketsOfBytes past → AreCues past → Stands past
    stands [] ok bytes all = record { sound = refl; zero = alike_none 0 [] }
    stands (p ∷ past) ok bytes all =
        let b = none_both (first_fault W past) (network_fault W p past) ok in
        let s = stands past b.0 bytes.1 all.1 in
        let r = step p past ok bytes all s (listed wanted past) refl in
        record { sound = r.0; zero = r.1 }

pub cued_is_faultless : CuedIsFaultless
cued_is_faultless wanted cue cues past not_pat below ok bytes all = (stands wanted cue cues not_pat below past ok bytes all).sound

-- ---- what an injector sends

pub injected_is_faultless : InjectedIsFaultless
injected_is_faultless c past ok bytes =
    let above = c.above_reserved in
    let below = c.below_null in
    let is = cued-is-written c past ok in
    ap (first_fault (reading c)) is.stream
    ∙ cued_is_faultless (Some c.program) c.cue_pid (own_fronts c past) (packets_in past) (λ e. omega (arith, e)) (omega arith) ok bytes is.cues

sound_before : (k : Purpose) (qs past : List (List ℕ)) → first_fault k (onto past qs) ≡ None → first_fault k past ≡ None
sound_before k [] past h = h
sound_before k (q ∷ qs) past h = (none_both (first_fault k past) (network_fault k q past) (sound_before k qs (q ∷ past) h)).0

pub none_sent_is_at_fault : NoneSentIsAtFault
none_sent_is_at_fault c p past put left q ok bytes is =
    let whole = injected_is_faultless c (Packet p ∷ past) ok bytes in
    let mid = onto (cued c past) put in
    let split : onto (cued c past) (sent_at c p past) ≡ onto (q ∷ mid) left = ap (onto (cued c past)) is ∙ onto-append (cued c past) put (q ∷ left) in
    let upto = sound_before (reading c) left (q ∷ mid) (ap (first_fault (reading c)) (sym split) ∙ whole) in
    (none_both (first_fault (reading c) mid) (network_fault (reading c) q mid) upto).1
