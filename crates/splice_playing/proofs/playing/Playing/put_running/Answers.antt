use Rattle.std.proofs.Common.{◌++◌, sym, ap, subst, ◌∙◌}
use Rattle.std.specs.Prelude.{slice_index_or}
use Rattle.std.proofs.lemmas.List.{append-nil}
use Rattle.ts_packet.specs.Numbering.{Counts}
use Rattle.unit_stream.specs.UnitPackets.{put_in}
use Rattle.event_table.specs.Tables.{values_of}
use Rattle.ad_library.specs.Library.{held}
use Rattle.splice_playing.proofs.WaitingLemmas.{as-many-plans, none-run-waiting, none-run-idle, all-quiet, one-quiet, ran-quiet}
use Rattle.splice_playing.proofs.UntilLemmas.{waits-by}
use Rattle.splice_playing.proofs.playing.Playing.put_running.Goals as goal

pub returns-in-Some-clause-ok : goal.returns-in-Some-clause-ok
returns-in-Some-clause-ok g c = λ latest latest_behind es begin ps steps small st is known h counts.
    let old = c.args.self.now.events.obeyed.table in
    let waits = none-run-waiting (values_of old) (waits-by c.args.self.now.rest old _ c.in-Some.is c.args.self.now.rested) in
    let none = all-quiet (held c.args.library.now) c.args.streams.now latest_behind es (values_of old) (as-many-plans old latest es st) waits steps 0 c.args.streams.now in
    subst (g.S.PacketSink.holds c.args.sink.now begin) (sym (ap (λ l. ps ++ l) none ∙ append-nil ps)) h

pub returns-in-Some-clause-runs : goal.returns-in-Some-clause-runs
returns-in-Some-clause-runs g c = record {
  counted = λ latest latest_behind es steps small st is known counts.
      let old = c.args.self.now.events.obeyed.table in
      let waits = none-run-waiting (values_of old) (waits-by c.args.self.now.rest old _ c.in-Some.is c.args.self.now.rested) in
      λ i s l. subst (λ qs. Counts (slice_index_or c.args.self.now.streams i s).counter (put_in qs (steps i)))
      (sym (one-quiet (held c.args.library.now) c.args.streams.now latest_behind es (values_of old) (as-many-plans old latest es st) waits steps 0 c.args.streams.now i)) (counts i s l);
  plans = λ latest latest_behind es st is known.
      let old = c.args.self.now.events.obeyed.table in
      let waits = none-run-waiting (values_of old) (waits-by c.args.self.now.rest old _ c.in-Some.is c.args.self.now.rested) in
      sym (ran-quiet (held c.args.library.now) c.args.streams.now latest_behind es (values_of old) (as-many-plans old latest es st) waits 0 c.args.streams.now);
}

pub returns-then-not-self-clause-ok : goal.returns-then-not-self-clause-ok
returns-then-not-self-clause-ok g c = λ latest latest_behind es begin ps steps small st is known h counts.
    let old = c.args.self.now.events.obeyed.table in
    let waits = none-run-idle c.args.self.now.may_run old c.if-not-self.true c.args.self.now.idle in
    let none = all-quiet (held c.args.library.now) c.args.streams.now latest_behind es (values_of old) (as-many-plans old latest es st) waits steps 0 c.args.streams.now in
    subst (g.S.PacketSink.holds c.args.sink.now begin) (sym (ap (λ l. ps ++ l) none ∙ append-nil ps)) h

pub returns-then-not-self-clause-runs : goal.returns-then-not-self-clause-runs
returns-then-not-self-clause-runs g c = record {
  counted = λ latest latest_behind es steps small st is known counts.
      let old = c.args.self.now.events.obeyed.table in
      let waits = none-run-idle c.args.self.now.may_run old c.if-not-self.true c.args.self.now.idle in
      λ i s l. subst (λ qs. Counts (slice_index_or c.args.self.now.streams i s).counter (put_in qs (steps i)))
      (sym (one-quiet (held c.args.library.now) c.args.streams.now latest_behind es (values_of old) (as-many-plans old latest es st) waits steps 0 c.args.streams.now i)) (counts i s l);
  plans = λ latest latest_behind es st is known.
      let old = c.args.self.now.events.obeyed.table in
      let waits = none-run-idle c.args.self.now.may_run old c.if-not-self.true c.args.self.now.idle in
      sym (ran-quiet (held c.args.library.now) c.args.streams.now latest_behind es (values_of old) (as-many-plans old latest es st) waits 0 c.args.streams.now);
}
