-- The counters that an injector keeps give what it sends, and go on.
use Rattle.std.proofs.Common.{◌≡◌, ℕ, List, [], ◌∷◌, ◌++◌, sym, ap, ◌∙◌}
use Rattle.std.specs.Prelude.{Some}
use Rattle.ts_packet.specs.Runs.{onto}
use Rattle.psi_tables.specs.declared.config.Config.{Config}
use Rattle.program_follower.specs.Program.{listed, tables}
use Rattle.program_laws.specs.Writing.{number_on, packets_out}
use Rattle.program_laws.specs.Cued.{cueing}
use Rattle.outgoing_packets.specs.Numbers.{GoOnAs}
use Rattle.outgoing_packets.proofs.GoOnLemmas.{go-on-later, go-on-same, packets-same, body-same}
use Rattle.injector.specs.Steps.{Step, packets_in, sections_before, cue_packets, body_at, sent_at, cued}

module _ (c : Config) (p : List ℕ) (past : List Step) where
  -- what stands in the place of the packet
  pub body-by : (a b : List (List ℕ)) → GoOnAs (listed (Some c.program) (packets_in past)) a b → body_at c p (packets_in past) a ≡ body_at c p (packets_in past) b
  body-by a b h = body-same (cueing c.cue_pid (λ q qs. [])) (listed (Some c.program) (packets_in past)) p (packets_in past) (tables (Some c.program) p (packets_in past)) a b h

  -- what is sent behind packets whose counters go on as those of all that is out
  pub sent-behind : (cue : ℕ) (out : List (List ℕ)) → cue ≡ c.cue_pid → number_on c.cue_pid out ≡ number_on c.cue_pid (cued c past)
      → GoOnAs (listed (Some c.program) (packets_in past)) out (cued c past)
      → sent_at c p past ≡ packets_out cue out (sections_before c p past) ++ body_at c p (packets_in past) (onto out (packets_out cue out (sections_before c p past)))
  sent-behind cue out is cues go =
      let ss = sections_before c p past in
      let C = cued c past in
      let net = packets_in past in
      let same : cue_packets c p past C ≡ packets_out cue out ss = packets-same c.cue_pid C out ss (sym cues) ∙ ap (λ q. packets_out q out ss) (sym is) in
      let qs = packets_out cue out ss in
      ap (λ l. l ++ body_at c p net (onto C l)) same
      ∙ ap (λ m. qs ++ m) (sym (body-by (onto out qs) (onto C qs) (go-on-same (listed (Some c.program) net) qs out C go)))

  -- and behind them the counters go on
  pub sent-go-on : (out : List (List ℕ)) → GoOnAs (listed (Some c.program) (packets_in past)) out (cued c past)
      → GoOnAs (listed (Some c.program) (p ∷ packets_in past)) (onto out (sent_at c p past)) (onto (cued c past) (sent_at c p past))
  sent-go-on out go =
      go-on-later (Some c.program) p (packets_in past) (onto out (sent_at c p past)) (onto (cued c past) (sent_at c p past))
      (go-on-same (listed (Some c.program) (packets_in past)) (sent_at c p past) out (cued c past) go)
