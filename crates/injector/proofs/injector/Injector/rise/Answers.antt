use Rattle.std.proofs.Common.{◌≡◌, ◌∷◌, false, refl, sym, ap, subst, ◌∙◌}
use Rattle.std.specs.Prelude.{option_map, Some}
use Rattle.pes_time.specs.Line.{ring_of}
use Rattle.unit_stream.specs.Clocks.{Rises}
use Rattle.program_follower.specs.Program.{listed}
use Rattle.program_follower.specs.Purposes.{writing_cues}
use Rattle.program_follower.specs.Following.{StartsStandFor, high_of}
use Rattle.injector.specs.Noting.{IsBefore, NotesStandFor, ring_reached}
use Rattle.injector.specs.Requests.{RequestsStandFor}
use Rattle.injector.specs.Turns.{greatest_in, Passed}
use Rattle.injector.specs.Steps.{Packet, packets_in, turns_in, cued}
use Rattle.injector.specs.Injecting.{CountsAre, CuesGoOn}
use Rattle.injector.proofs.FeedLemmas.{rises-at, turns-high}
use Rattle.injector.proofs.RestLemmas.{idle-between, idle-told}
use Rattle.injector.proofs.BoundLemmas.{stays-at-rest}
use Rattle.injector.proofs.PassedLemmas.{goes-on-sent, out-past}
use Rattle.injector.proofs.injector.Injector.rise.Goals as goal

pub returns-clause-stands : goal.returns-clause-stands
returns-clause-stands c = λ cfg of p past b.
    let turns = turns_in cfg.program past in
    let latest = high_of (Some cfg.program) (p ∷ packets_in past) in
    let g = b.alone.goes_on in
    let is : c.high-high.result ≡ option_map ring_of latest = c.high-high.ensures (writing_cues cfg) (p ∷ packets_in past) b.follower in
    let rises : Rises (greatest_in turns) latest = subst (λ h. Rises h latest) (sym (turns-high cfg.program past)) (rises-at cfg p (packets_in past) g.sound) in
    let before : IsBefore false c.args.self.now.requests c.high-high.result cfg.index turns latest
    = record { stands = b.judges.requests; notes = b.notes; rises = rises; time = is; idle = λ none. b.alone.idle } in
    let told = idle-told c.args.self.now.requests c.high-high.result cfg.index turns latest before in
    let risen = c.rise.ensures.stands cfg.index turns latest b.judges.requests rises is in
    let notes = c.rise.ensures.notes cfg.index turns latest b.judges.requests told rises is in
    let quiet = b.news ∙ b.alone.quiet in
    let n = b.judges.counted in
    let m = c.note_rest.ensures.kept in
    record {
      judges = record {
        requests = subst (λ r. RequestsStandFor r cfg.index (Passed latest ∷ turns)) (sym m.requests) risen;
        counted = subst (λ x. CountsAre x cfg.index (Passed latest ∷ turns)) (sym m.counts)
            (record { messages = n.messages; accepted = n.accepted; refused = n.refused });
      };
      cue_pid = m.cue_pid ∙ b.cue_pid;
      notes = subst (λ r. NotesStandFor r cfg.index (Passed latest ∷ turns)) (sym m.requests) notes;
      news = c.note_rest.ensures.news (λ none. quiet);
      rest = λ still. c.note_rest.ensures.rest cfg.index (Passed latest ∷ turns) risen notes (idle-between cfg (Packet p ∷ past) latest refl refl)
          (λ none. let below : ring_reached c.args.self.now.rest (option_map ring_of latest) ≡ false
          = ap (ring_reached c.args.self.now.rest) (sym is) ∙ sym c.is_reached-is_due.ensures ∙ none in
          (stays-at-rest c.args.self.now.rest cfg.index turns latest rises b.notes.kept (idle-between cfg past (greatest_in turns) b.alone.quiet refl) (b.rest quiet) below).rests);
      follower = subst (λ f. StartsStandFor f (writing_cues cfg) (p ∷ packets_in past)) (sym m.follower) b.follower;
      out = subst (λ o. CuesGoOn o cfg.cue_pid (listed (Some cfg.program) (p ∷ packets_in past)) (cued cfg (Packet p ∷ past))) (sym m.out)
          (out-past cfg p past g.listed g.elsewhere (goes-on-sent cfg of p past b.alone) c.args.self.now.out b.out);
      whole = m.is_spent ∙ b.whole;
    }
