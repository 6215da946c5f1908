-- A packet that goes on alone for an injector goes on for those who read its cues.
use Rattle.std.proofs.Common.{ℕ, List, [], ap, sym, subst, ◌∙◌}
use Rattle.std.specs.Prelude.{Some, is_some}
use Rattle.wire_fields.specs.Numbers.{AreBytes}
use Rattle.psi_tables.specs.declared.config.Config.{Config}
use Rattle.program_follower.specs.declared.starts.StreamPart.{StreamPart}
use Rattle.program_follower.specs.Purposes.{reading_cues}
use Rattle.program_follower.specs.Program.{program_of, behind_head, pids_of}
use Rattle.program_follower.specs.Streaming.{place_in, IsOfStarts}
use Rattle.program_follower.specs.Following.{IsPartOf, on_map}
use Rattle.injector.specs.Steps.{Step, packets_in, cued}
use Rattle.injector.specs.Injecting.{GoesOnAlone}
use Rattle.injector.proofs.CuedLemmas.{cued-reads-again}
use Rattle.injector.proofs.PassedLemmas.{goes-on-sent}
use Rattle.cued_laws.proofs.CuedLemmas.{none_sent_is_at_fault}
use Rattle.cued_laws.proofs.UnitLemmas.{part_same}
use Rattle.chain_engine.specs.Passing.{IsSoundNetwork}
use Rattle.chain_engine.proofs.PassingLemmas.{one_more}

module _ (c : Config) (x : StreamPart) (p : List ℕ) (steps : List Step) (net : IsSoundNetwork c (packets_in steps)) (bytes : AreBytes p) (alone : GoesOnAlone c x p steps) where
  -- THE LAW OF PACKETS THAT GO ON
  pub alone-read : IsPartOf (reading_cues c) x p (cued c steps)
  alone-read =
      let past = packets_in steps in
      let out = cued c steps in
      let part = alone.goes_on in
      let read = cued-reads-again c steps net.sound net.bytes in
      let known = pids_of (program_of (Some c.program) past) in
      let pids = ap pids_of read.program in
      let (pid, is) = part.place in
      let whole = one_more c p past net bytes part.sound in
      record {
        listed = ap is_some read.same_pat ∙ part.listed;
        elsewhere = record { pat = part.elsewhere.pat; cue = part.elsewhere.cue; map = ap (λ l. on_map l p) read.same_pat ∙ part.elsewhere.map };
        sound = none_sent_is_at_fault c p steps [] [] p whole.sound whole.bytes (goes-on-sent c x p steps alone);
        clear = part.clear;
        here = part.here ∙ ap (λ qs. place_in qs p) (sym pids);
        place = subst (λ qs. IsOfStarts (Some (x.stream, x.part)) qs p (behind_head (Some c.program) out)) (sym pids)
            (pid, (is.0, part_same x.part known (x.stream, pid) p (behind_head (Some c.program) past) (behind_head (Some c.program) out) is.0 (sym read.packets) is.1));
      }
