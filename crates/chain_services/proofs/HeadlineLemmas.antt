-- The headline for one service of several, from that of a run of it alone.
use Rattle.std.proofs.Common.{◌≡◌, ℕ, List, [], ◌∷◌, ◌++◌, Bool, true, false, refl, sym, ap, subst, ◌∙◌, Option, None, Some, length, reverse}
use Rattle.std.specs.Prelude.{filter}
use Rattle.std.proofs.lemmas.Bool.{or_parts}
use Rattle.std.proofs.lemmas.List.{reverse-reverse}
use Rattle.ts_packet.specs.Fields.{on, on_one, payload_on, pcr, is_among}
use Rattle.ts_packet.specs.Packets.{packets_of}
use Rattle.ts_packet.proofs.Cases.{by_test}
use Rattle.wire_fields.specs.Numbers.{AreBytes}
use Rattle.psi_tables.specs.declared.config.Config.{Config}
use Rattle.program_follower.specs.declared.purpose.Listed.{Listed}
use Rattle.program_follower.specs.Program.{listed, program_of, pids_of, known_pids}
use Rattle.program_follower.specs.Following.{on_map}
use Rattle.program_follower.specs.Purposes.{writing_cues}
use Rattle.injector.specs.Steps.{Step, packets_in, cued}
use Rattle.cued_laws.specs.Laws.{ArePacketsOfBytes}
use Rattle.ad_library.specs.Advertisements.{Advertisement}
use Rattle.ad_library.specs.Library.{IsLibrary}
use Rattle.scte104_codec.specs.declared.reply.Reply.{Reply}
use Rattle.splice_plans.specs.Adverts.{setting_of}
use Rattle.splice_plans.specs.Reporting.{ReportIs, report_of}
use Rattle.splice_plans.specs.declared.report.SwitchReport.{SwitchReport}
use Rattle.switch_laws.specs.Clocks.{clocks, listed_clock}
use Rattle.chain_engine.specs.Automation.{Take, bytes_of}
use Rattle.chain_engine.specs.Stops.{first_run_fault}
use Rattle.chain_engine.proofs.StepsLemmas.{steps_packets}
use Rattle.chain_laws.specs.Runs.{switched_by, output_by}
use Rattle.chain_laws.specs.Exactly.{history_of, IsSpliced}
use Rattle.chain_laws.proofs.TakenLemmas.{filter-within}
use Rattle.chain_laws.proofs.CarriedLemmas.{off-one}
use Rattle.chain_laws.proofs.UnchangedLemmas.{breaks-counted}
use Rattle.chain_laws.proofs.HeadlineLemmas.{whole-run, spliced-so}
use Rattle.ts_packet.proofs.FieldLemmas.{off_payload}
use Rattle.service_laws.proofs.PidLemmas.{known-on}
use Rattle.chain_services.specs.Isolation.{HasHeadline}

-- the clock references of a PID are those of its packets
clocks_on : (pid : ℕ) (ps : List (List ℕ)) → clocks pid (filter (on pid) ps) ≡ clocks pid ps
clocks_on pid [] = refl
clocks_on pid (p ∷ ps) =
    let behind = clocks_on pid ps in
    by_test (on pid p) (λ y. simp y (ap (λ l. listed_clock (pcr p) ++ l) behind)) (λ n. simp n behind)

module _ (c : Config) (past : List (List ℕ)) (q : List ℕ) (off : on_one (known_pids (Some c.program) past) q ≡ false) where
  -- a packet on no PID that is known of a program is on that of no switched stream
  off_both : (on_map (listed (Some c.program) past) q ≡ false) × (on_one (pids_of (program_of (Some c.program) past)) q ≡ false)
  off_both = or_parts (on_map (listed (Some c.program) past) q) (on_one (pids_of (program_of (Some c.program) past)) q) (sym (known-on c.program past q) ∙ off)

  pub off_stream : (pid : ℕ) → is_among pid (pids_of (program_of (Some c.program) past)) ≡ true → on pid q ≡ false
  off_stream pid a = off-one (pids_of (program_of (Some c.program) past)) pid q a off_both.1

  -- nor on that of its map
  pub off_pmt : (l : Listed) → listed (Some c.program) past ≡ Some l → on l.pid q ≡ false
  off_pmt l known = ap (λ o. on_map o q) (sym known) ∙ off_both.0

module _ (c : Config) (filed : ℕ → Option Advertisement) (library : IsLibrary filed) (bs : List ℕ) (sound : first_run_fault (writing_cues c) bs ≡ None) (takes : List Take) (rs : List Reply)
    (network : ArePacketsOfBytes (reverse (packets_of bs))) (automation : AreBytes (bytes_of takes)) (out : List (List ℕ)) (switch : SwitchReport) where
  abbrev steps : List Step
  steps = history_of bs takes rs

  abbrev pids : List ℕ
  pids = known_pids (Some c.program) (reverse (packets_of bs))

  -- the history has the network's packets
  same_packets : packets_in (history_of bs takes rs) ≡ reverse (packets_of bs)
  same_packets = steps_packets (length rs) takes (reverse (packets_of bs))

  -- a switched stream is of the network's program
  among_here : (pid : ℕ) → is_among pid (switched_by c (history_of bs takes rs)) ≡ true → is_among pid (pids_of (program_of (Some c.program) (reverse (packets_of bs)))) ≡ true
  among_here pid a = subst (λ l. is_among pid (pids_of (program_of (Some c.program) l)) ≡ true) same_packets a

  -- where these have the packets of its PIDs that the output of its run alone has, they have its headline
  module _ (same : filter (on_one (known_pids (Some c.program) (reverse (packets_of bs)))) out ≡ filter (on_one (known_pids (Some c.program) (reverse (packets_of bs)))) (output_by c filed (history_of bs takes rs)))
      (counts : ReportIs switch (report_of (setting_of c filed) (cued c (history_of bs takes rs)))) where
    -- a narrower test takes the same of both
    agree : (f : List ℕ → Bool) → ((q : List ℕ) → on_one pids q ≡ false → f q ≡ false) → filter f out ≡ filter f (output_by c filed steps)
    agree f w = sym (filter-within (on_one pids) f w out) ∙ ap (filter f) same ∙ filter-within (on_one pids) f w (output_by c filed steps)

    -- of a switched stream
    module _ (pid : ℕ) (a : is_among pid (switched_by c (history_of bs takes rs)) ≡ true) where
      agree_on : filter (on pid) out ≡ filter (on pid) (output_by c filed steps)
      agree_on = agree (on pid) (λ q off. off_stream c (reverse (packets_of bs)) q off pid (among_here pid a))

      agree_payload : filter (payload_on pid) out ≡ filter (payload_on pid) (output_by c filed steps)
      agree_payload = agree (payload_on pid) (λ q off. off_payload pid q (off_stream c (reverse (packets_of bs)) q off pid (among_here pid a)))

    pub headline_of : HasHeadline out c filed bs (history_of bs takes rs) switch
    headline_of =
        let s : IsSpliced c filed steps = spliced-so c filed library bs sound takes rs network automation in
        record {
          placed = λ pid a. let p = s.placed pid a in record {
            sent = p.sent;
            slices = p.slices;
            whole = p.whole;
            carried = p.carried;
            packets = agree_payload pid a ∙ p.packets;
            carries = p.carries;
          };
          spliced = λ pid a conditioned. let p = s.spliced pid a conditioned in record { carried = p.carried; packets = agree_payload pid a ∙ p.packets; carries = p.carries };
          clocks = λ pid a.
              sym (clocks_on pid out) ∙ ap (clocks pid) (agree_on pid a) ∙ clocks_on pid (output_by c filed steps) ∙ s.clocks pid a
              ∙ ap (λ l. clocks pid (reverse l)) same_packets ∙ ap (clocks pid) (reverse-reverse (packets_of bs));
          pmt = λ l known.
              agree (on l.pid) (λ q off. off_pmt c (reverse (packets_of bs)) q off l known)
              ∙ s.pmt l (ap (listed (Some c.program)) same_packets ∙ known);
          counted = subst (ReportIs switch) (breaks-counted c filed steps (whole-run c filed library bs sound takes rs network automation)) counts;
        }
