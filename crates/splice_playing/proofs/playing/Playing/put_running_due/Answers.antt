use Rattle.std.proofs.Common.{◌++◌, sym, ap, subst, ◌∙◌}
use Rattle.std.specs.Prelude.{slice_index_or}
use Rattle.std.proofs.lemmas.List.{append-nil}
use Rattle.ts_packet.specs.Numbering.{Counts}
use Rattle.unit_stream.specs.UnitPackets.{put_in}
use Rattle.event_table.specs.Tables.{values_of}
use Rattle.ad_library.specs.Library.{held}
use Rattle.splice_plans.specs.Fronts.{all_running, running_of, all_ran}
use Rattle.splice_playing.proofs.WaitingLemmas.{as-many-plans}
use Rattle.splice_playing.proofs.DuesLemmas.{all-none, one-none, ran-none}
use Rattle.splice_playing.proofs.playing.Playing.put_running_due.Goals as goal

pub returns-then-is_all_out-clause-ok : goal.returns-then-is_all_out-clause-ok
returns-then-is_all_out-clause-ok g c = λ latest latest_behind es begin ps steps small st is leaves h counts.
    let filed = held c.args.library.now in
    let streams = c.args.streams.now in
    let old = c.args.self.now.events.obeyed.table in
    let out = c.is_all_out.ensures latest latest_behind es st is c.if-is_all_out.true in
    let none = leaves out.1 in
    let nothing = ap (λ high. all_running filed streams high es steps (values_of old) 0 streams) out.0 ∙ all-none filed streams latest es (values_of old) (as-many-plans old latest es st) none steps in
    subst (g.S.PacketSink.holds c.args.sink.now begin) (sym (ap (λ l. ps ++ l) nothing ∙ append-nil ps)) h

pub returns-then-is_all_out-clause-runs : goal.returns-then-is_all_out-clause-runs
returns-then-is_all_out-clause-runs g c = record {
  counted = λ latest latest_behind es steps small st is leaves counts.
      let filed = held c.args.library.now in
      let streams = c.args.streams.now in
      let old = c.args.self.now.events.obeyed.table in
      let out = c.is_all_out.ensures latest latest_behind es st is c.if-is_all_out.true in
      let none = leaves out.1 in
      λ i s l. subst (λ qs. Counts (slice_index_or c.args.self.now.streams i s).counter (put_in qs (steps i)))
      (sym (ap (λ high. running_of filed streams high es steps (values_of old) 0 streams i) out.0 ∙ one-none filed streams latest es (values_of old) (as-many-plans old latest es st) none steps i)) (counts i s l);
  plans = λ latest latest_behind es st is leaves.
      let filed = held c.args.library.now in
      let streams = c.args.streams.now in
      let old = c.args.self.now.events.obeyed.table in
      let out = c.is_all_out.ensures latest latest_behind es st is c.if-is_all_out.true in
      let none = leaves out.1 in
      sym (ap (λ high. all_ran filed streams high es (values_of old) 0 streams) out.0 ∙ ran-none filed streams latest es (values_of old) (as-many-plans old latest es st) none);
}

pub returns-in-Ok-clause-ok : goal.returns-in-Ok-clause-ok
returns-in-Ok-clause-ok g c = λ latest latest_behind es begin ps steps small st is leaves h counts. c.in-Ok.ensures.ok latest latest_behind es begin ps steps small st is tt h counts

pub returns-in-Ok-clause-runs : goal.returns-in-Ok-clause-runs
returns-in-Ok-clause-runs g c = record {
  counted = λ latest latest_behind es steps small st is leaves counts. c.in-Ok.ensures.runs.counted latest latest_behind es steps small st is tt counts;
  plans = λ latest latest_behind es st is leaves. c.in-Ok.ensures.runs.plans latest latest_behind es st is tt;
}
