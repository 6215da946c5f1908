use Rattle.std.proofs.Common.{◌<◌, ◌%◌, ◌++◌, ◌∙◌, refl, rules, arith, ap, sym, subst, append_assoc, length}
use Rattle.std.specs.Prelude.{slice_index_or}
use Rattle.ts_packet.specs.Numbering.{Counts}
use Rattle.ts_packet.proofs.CountLemmas.{well-refl, well-trans}
use Rattle.unit_stream.specs.UnitPackets.{put_in}
use Rattle.event_table.specs.Tables.{values_of}
use Rattle.event_table.proofs.TableLemmas.{same-stands}
use Rattle.ad_library.specs.Library.{held}
use Rattle.splice_plans.specs.declared.stream.SwitchedStream.{SwitchedStream}
use Rattle.splice_plans.specs.Parts.{beside, running_packets}
use Rattle.splice_plans.specs.Fronts.{all_ran}
use Rattle.splice_plans.proofs.AllTurnedLemmas.{keeps-more}
use Rattle.splice_plans.proofs.ClosingLemmas.{keeps-same}
use Rattle.splice_playing.proofs.StreamLemmas.{none-run, run-holds, run-counts, one-run, one-stops, one-ran, some-there, slot-new, slot-old, slot-other, slot-leaving, drop-past}
use Rattle.splice_playing.proofs.playing.Playing.put_each_running.Goals as goal

pub loop-stream-init : goal.loop-stream-init
loop-stream-init g c = record {
  wakes = c.requires.wakes;
  runs = c.requires.runs;
  leads = g.met.S.PacketSink.leads_refl c.args.sink.now;
  well = well-refl _;
  keeps = keeps-same c.args.self.now.events;
  units = refl;
  forgotten = refl;
  turns = refl;
  leaving = λ i s. refl;
  plans = λ latest latest_behind es st is. refl;
  run = λ latest latest_behind es steps small st is counts. none-run (held c.args.library.now) c.args.streams.now latest_behind es steps (values_of c.args.self.now.events.obeyed.table) _ c.args.self.now.streams counts;
}

pub returns-clause-ok : goal.returns-clause-ok
returns-clause-ok g c = λ latest latest_behind es begin ps steps small st is known h counts.
    run-holds (held c.args.library.now) c.args.streams.now latest_behind es steps _ _ _ _ _ _ (c.loop-stream.invariant.run latest latest_behind es steps small st is counts) c.loop-stream-test.false begin ps h

pub returns-clause-runs : goal.returns-clause-runs
returns-clause-runs g c = record {
  counted = λ latest latest_behind es steps small st is known counts.
      run-counts (held c.args.library.now) c.args.streams.now latest_behind es steps _ _ _ _ _ _ (c.loop-stream.invariant.run latest latest_behind es steps small st is counts) c.loop-stream-test.false;
  plans = λ latest latest_behind es st is known.
      sym (ap (λ rest. all_ran (held c.args.library.now) c.args.streams.now latest_behind es (values_of c.loop-stream.self.events.obeyed.table) c.loop-stream.stream rest) (drop-past c.args.streams.now c.loop-stream.stream c.loop-stream-test.false))
      ∙ c.loop-stream.invariant.plans latest latest_behind es st is;
}

pub returns-in-Err-clause-err : goal.returns-in-Err-clause-err
returns-in-Err-clause-err g c = λ latest latest_behind es begin ps steps small st is known h counts.
    let at = c.loop-stream.stream in
    let test = c.loop-stream-test.true in
    let low : at < 8 = omega (arith, test, small) in
    let kept = c.loop-stream.invariant.keeps in
    let stands = same-stands c.args.self.now.events.obeyed.table c.loop-stream.self.events.obeyed.table latest es kept.high kept.events st in
    let i = c.loop-stream.invariant.run latest latest_behind es steps small st is counts in
    let of = some-there c.args.streams.now at test in
    let below : at % 8 < length c.loop-stream.self.streams = search rules in
    let r = c.index-self-stream.result in
    let k = subst (λ (t : SwitchedStream). Counts t.counter (put_in (i.fronts at) (steps at))) (slot-old c.loop-stream.self.streams at r below r r low) (i.counted at r low) in
    let k0 = subst (λ qs. Counts (slice_index_or c.loop-stream.self.streams (at % 8) r).counter (put_in qs (steps at))) (i.later at (omega arith)) k in
    one-stops (held c.args.library.now) c.args.streams.now latest_behind es steps _ _ _ at _ _ (g.S.PacketSink.holds c.put_running.new.sink) _ c.loop-stream.self.streams i test of.0 of.1 refl
    (λ qs put p. g.S.PacketSink.fails c.put_running.new.sink begin (qs ++ put) p c.in-Err.fault) begin ps h
    (λ qs holds. c.in-Err.ensures.err of.0 latest latest_behind es begin qs (steps at) of.1 stands is holds k0)
    (λ put p f. subst (λ l. g.S.PacketSink.fails c.put_running.new.sink begin l p c.in-Err.fault) (append_assoc ps i.done put) f)

pub loop-stream-preserved : goal.loop-stream-preserved
loop-stream-preserved g c =
    let at = c.loop-stream.stream in
    let test = c.loop-stream-test.true in
    let kept = c.loop-stream.invariant.keeps in
    let e = c.in-Ok.ensures in
    let below : at % 8 < length c.loop-stream.self.streams = search rules in
    let r = c.index-self-stream.result in
    let y : SwitchedStream = record { counter = c.put_running.new.counter; is_leaving = (slice_index_or c.loop-stream.self.streams (at % 8) r).is_leaving } in
    let of = some-there c.args.streams.now at test in
    record {
      wakes = c.loop-stream.invariant.wakes;
      runs = c.loop-stream.invariant.runs;
      leads = g.met.S.PacketSink.leads_trans c.args.sink.now c.loop-stream.sink c.put_running.new.sink c.loop-stream.invariant.leads e.leads;
      well = well-trans _ _ _ c.loop-stream.invariant.well e.well;
      keeps = keeps-more c.args.self.now.events c.loop-stream.self.events c.put_running.new.events kept e.keeps;
      units = c.loop-stream.invariant.units;
      forgotten = c.loop-stream.invariant.forgotten;
      turns = c.loop-stream.invariant.turns;
      leaving = λ n s. slot-leaving c.loop-stream.self.streams at y below r refl n s ∙ c.loop-stream.invariant.leaving n s;
      plans = λ latest latest_behind es st is.
          let stands = same-stands c.args.self.now.events.obeyed.table c.loop-stream.self.events.obeyed.table latest es kept.high kept.events st in
          one-ran (held c.args.library.now) c.args.streams.now latest_behind es (values_of c.loop-stream.self.events.obeyed.table) (values_of c.put_running.new.events.obeyed.table) at of.0 test of.1
          (e.values of.0 latest latest_behind es of.1 stands is) ∙ c.loop-stream.invariant.plans latest latest_behind es st is;
      run = λ latest latest_behind es steps small st is counts.
          let low : at < 8 = omega (arith, test, small) in
          let stands = same-stands c.args.self.now.events.obeyed.table c.loop-stream.self.events.obeyed.table latest es kept.high kept.events st in
          let i = c.loop-stream.invariant.run latest latest_behind es steps small st is counts in
          let k = subst (λ (t : SwitchedStream). Counts t.counter (put_in (i.fronts at) (steps at))) (slot-old c.loop-stream.self.streams at y below r r low) (i.counted at r low) in
          let k0 = subst (λ qs. Counts (slice_index_or c.loop-stream.self.streams (at % 8) r).counter (put_in qs (steps at))) (i.later at (omega arith)) k in
          one-run (held c.args.library.now) c.args.streams.now latest_behind es steps _ _ (values_of c.put_running.new.events.obeyed.table) at _ _ (g.S.PacketSink.holds c.put_running.new.sink) c.loop-stream.self.streams _ i test of.0 of.1
          (e.values of.0 latest latest_behind es of.1 stands is)
          (λ begin ps h. e.ok of.0 latest latest_behind es begin ps (steps at) of.1 stands is h k0)
          (λ s l before. subst (λ (t : SwitchedStream). Counts t.counter (put_in (running_packets (held c.args.library.now) c.args.streams.now at of.0 latest_behind (steps at) (beside es (values_of c.loop-stream.self.events.obeyed.table))) (steps at))) (sym (slot-new c.loop-stream.self.streams at y below s low)) (e.counted of.0 latest latest_behind es (steps at) of.1 stands is k0))
          (λ n s differ. slot-other c.loop-stream.self.streams at y below n s low differ);
    }
