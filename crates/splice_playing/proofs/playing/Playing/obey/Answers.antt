use Rattle.std.proofs.Common.{List, ◌∷◌, ap, sym, subst, ◌∙◌, arith}
use Rattle.std.specs.List.{list_any}
use Rattle.std.proofs.lemmas.Option.{none-some}
use Rattle.splice_plans.specs.Reporting.{ReportIs}
use Rattle.splice_plans.specs.Switching.{high_at}
use Rattle.splice_plans.specs.Known.{plans_at, behind_at}
use Rattle.known_laws.proofs.OtherLemmas.{unswitched_change_nothing}
use Rattle.psi_section.proofs.AssemblerLemmas.{on-of}
use Rattle.splice_playing.proofs.LeavingLemmas.{taken-other}
use Rattle.splice_playing.proofs.PacketLemmas.{new-is}
use Rattle.splice_plans.specs.declared.plan.Part.{Part}
use Rattle.splice_plans.specs.Parts.{is_running}
use Rattle.splice_playing.proofs.WaitingLemmas.{idle-fed}
use Rattle.splice_playing.proofs.UntilLemmas.{rest-there}
use Rattle.splice_playing.proofs.CourseLemmas.{counts-one}
use Rattle.splice_playing.proofs.playing.Playing.obey.Goals as goal

pub invariant_of-self-clause-rested : goal.invariant_of-self-clause-rested
invariant_of-self-clause-rested c = rest-there c.feed.new.self.obeyed.table c.table.result.now c.first_rest-self.result c.first_rest-self.ensures c.table.ensures.same

pub invariant_of-self-clause-idle : goal.invariant_of-self-clause-idle
invariant_of-self-clause-idle c =
    idle-fed c.args.self.now.events.obeyed.table c.feed.new.self.obeyed.table c.args.self.now.may_run c.new.result c.feed.ensures.added
    (ap (λ (parts : List Part). list_any (λ (part : Part). is_running part.stage) parts) c.new.ensures.parts) c.args.self.now.idle

pub returns-clause-plays : goal.returns-clause-plays
returns-clause-plays c = λ k past steps i f.
    let p = c.args.packet.now in
    let n = unswitched_change_nothing k p past i.other i.steady i.separate.few in
    let new = new-is c.new.result c.new.ensures.parts c.new.ensures.crossed in
    record {
      events = c.feed.ensures.obeys k.cue_pid (high_at k) past (on-of k.cue_pid p i.cue) n.high f.events;
      plans = c.feed.ensures.values k.cue_pid (high_at k) past (plans_at k (p ∷ past) (behind_at k (p ∷ past))) (on-of k.cue_pid p i.cue) n.high f.events
          (λ start ahead. n.fresh start ahead ∙ sym new) (f.plans ∙ n.plans);
      streams = n.streams c.args.self.now.streams steps f.streams;
      leaving = taken-other k c.args.self.now.leaving c.args.self.now.streams p past i.other f.leaving;
      forgotten = subst (ReportIs c.args.self.now.forgotten) (sym n.forgotten) f.forgotten;
      all_out = λ out. absurd (none-some out.0 out.1);
    }

pub returns-clause-turns : goal.returns-clause-turns
returns-clause-turns c = counts-one c.args.self.now _ (omega arith) c.saturating_add-self.ensures
