use Rattle.std.proofs.Common.{◌<◌, ◌%◌, ◌^◌, ◌++◌, ◌&&◌, not, map, rules, arith, ◌∙◌, ap, sym, subst, List, ℕ, length}
use Rattle.std.specs.List.{list_any}
use Rattle.std.proofs.lemmas.List.{get_or-set_same}
use Rattle.ts_packet.specs.Numbering.{Counts}
use Rattle.unit_stream.specs.UnitPackets.{put_in}
use Rattle.outgoing_packets.specs.Numbers.{FrontFails}
use Rattle.event_table.specs.declared.table.Table.{Table}
use Rattle.event_table.specs.Events.{covers_on_ring}
use Rattle.event_table.specs.Tables.{values_of}
use Rattle.event_table.proofs.TableLemmas.{same-stands}
use Rattle.ad_library.specs.Library.{held}
use Rattle.splice_plans.specs.declared.plan.Plan.{Plan}
use Rattle.splice_plans.specs.declared.stream.SwitchedStream.{SwitchedStream}
use Rattle.splice_plans.specs.Turning.{part_of}
use Rattle.splice_plans.specs.Parts.{is_waiting, beside, closing_pairs, rest_packets, closed_plan}
use Rattle.splice_plans.specs.Fronts.{IsNearTime, closing_packets, closed_plans, is_left}
use Rattle.splice_plans.proofs.PartLemmas.{one-there}
use Rattle.splice_playing.proofs.FrontLemmas.{inside-pairs}
use Rattle.splice_playing.proofs.playing.Playing.turn_each.Goals as goal

pub returns-in-Err-clause-err : goal.returns-in-Err-clause-err
returns-in-Err-clause-err g c = λ of latest es s begin ps steps of_is st near s_is h k.
    let old = c.args.self.now.events.obeyed.table in
    let turned = c.turn_all.new.events.obeyed.table in
    let kept = c.turn_all.ensures.keeps in
    let values = c.turn_all.ensures.values latest es st (subst (IsNearTime latest) c.in-Some.is near) in
    let below : c.args.stream % 8 < length c.args.self.now.streams = search rules in
    let same = one-there c.args.self.now.streams (c.args.stream % 8) s c.index-self-stream.result below s_is c.index-self-stream.is in
    let F : List (List ℕ) → List ℕ → Type 0 = λ put p. g.S.PacketSink.fails c.close_all.new.sink begin (ps ++ put) p c.in-Err.fault in
    subst (λ t. FrontFails (closing_packets (held c.args.library.now) c.args.streams.now c.args.stream of latest t steps es (values_of old)) F) (sym c.in-Some.is)
    (subst (λ vs. FrontFails (rest_packets (held c.args.library.now) c.args.streams.now c.args.stream of steps (closing_pairs c.args.stream (beside es vs))) F) values
    (c.in-Err.ensures.err of latest es begin ps steps of_is (same-stands old turned latest es kept.high kept.events st) h (subst (λ (x : SwitchedStream). Counts x.counter steps) (same ∙ c.index-self-stream.is) k)))

pub returns-clause-ok : goal.returns-clause-ok
returns-clause-ok g c = λ of latest es s begin ps steps of_is st near s_is h k.
    let old = c.args.self.now.events.obeyed.table in
    let turned = c.turn_all.new.events.obeyed.table in
    let kept = c.turn_all.ensures.keeps in
    let values = c.turn_all.ensures.values latest es st (subst (IsNearTime latest) c.in-Some.is near) in
    let below : c.args.stream % 8 < length c.args.self.now.streams = search rules in
    let same = one-there c.args.self.now.streams (c.args.stream % 8) s c.index-self-stream.result below s_is c.index-self-stream.is in
    subst (λ t. g.S.PacketSink.holds c.close_all.new.sink begin (ps ++ closing_packets (held c.args.library.now) c.args.streams.now c.args.stream of latest t steps es (values_of old))) (sym c.in-Some.is)
    (subst (λ vs. g.S.PacketSink.holds c.close_all.new.sink begin (ps ++ rest_packets (held c.args.library.now) c.args.streams.now c.args.stream of steps (closing_pairs c.args.stream (beside es vs)))) values
    (c.in-Ok.ensures.ok of latest es begin ps steps of_is (same-stands old turned latest es kept.high kept.events st) h (subst (λ (x : SwitchedStream). Counts x.counter steps) (same ∙ c.index-self-stream.is) k)))

pub returns-clause-closes : goal.returns-clause-closes
returns-clause-closes g c = record {
  counted = λ of latest es s t steps of_is st near s_is t_is k.
      let old = c.args.self.now.events.obeyed.table in
      let turned = c.turn_all.new.events.obeyed.table in
      let kept = c.turn_all.ensures.keeps in
      let values = c.turn_all.ensures.values latest es st (subst (IsNearTime latest) c.in-Some.is near) in
      let below : c.args.stream % 8 < length c.args.self.now.streams = search rules in
      let same = one-there c.args.self.now.streams (c.args.stream % 8) s c.index-self-stream.result below s_is c.index-self-stream.is in
      let now = t_is ∙ get_or-set_same c.args.self.now.streams (c.args.stream % 8) _ t below in
      subst (λ (x : SwitchedStream). Counts x.counter (put_in (closing_packets (held c.args.library.now) c.args.streams.now c.args.stream of latest c.args.time.now steps es (values_of old)) steps)) (sym now)
      (subst (λ t. Counts c.close_all.new.counter (put_in (closing_packets (held c.args.library.now) c.args.streams.now c.args.stream of latest t steps es (values_of old)) steps)) (sym c.in-Some.is)
      (subst (λ vs. Counts c.close_all.new.counter (put_in (rest_packets (held c.args.library.now) c.args.streams.now c.args.stream of steps (closing_pairs c.args.stream (beside es vs))) steps)) values
      (c.in-Ok.ensures.counted of latest es steps of_is (same-stands old turned latest es kept.high kept.events st) (subst (λ (x : SwitchedStream). Counts x.counter steps) (same ∙ c.index-self-stream.is) k))));
  leaving = λ latest es s t st s_is t_is.
      let old = c.args.self.now.events.obeyed.table in
      let turned = c.turn_all.new.events.obeyed.table in
      let new = c.close_all.new.events.obeyed.table in
      let kept = c.turn_all.ensures.keeps in
      let closed = c.in-Ok.ensures.keeps in
      let below : c.args.stream % 8 < length c.args.self.now.streams = search rules in
      let fits : c.in-Some.time < 2 ^ 33 = let below = c.ticks-ticks.ensures.below in let value = c.ticks-ticks.ensures.value in omega (arith, below, value) in
      let now = t_is ∙ get_or-set_same c.args.self.now.streams (c.args.stream % 8) _ t below in
      let stands = same-stands turned new latest es closed.high closed.events (same-stands old turned latest es kept.high kept.events st) in
      ap (λ (x : SwitchedStream). x.is_leaving) now ∙ c.is_inside.ensures
      ∙ ap (λ (tb : Table Plan). list_any (λ entry. covers_on_ring entry.event c.in-Some.time && not (is_waiting (part_of entry.value c.args.stream).stage)) tb.entries.items) c.table.ensures.same
      ∙ inside-pairs c.args.stream latest c.in-Some.time fits new es stands
      ∙ ap (λ u. is_left c.args.stream latest u s.is_leaving es (values_of new)) (sym c.in-Some.is);
  plans = λ of latest es of_is st near.
      let old = c.args.self.now.events.obeyed.table in
      let turned = c.turn_all.new.events.obeyed.table in
      let kept = c.turn_all.ensures.keeps in
      let values = c.turn_all.ensures.values latest es st (subst (IsNearTime latest) c.in-Some.is near) in
      c.in-Ok.ensures.values of latest es of_is (same-stands old turned latest es kept.high kept.events st)
      ∙ ap (λ vs. map (closed_plan (held c.args.library.now) c.args.streams.now c.args.stream of) (beside es vs)) values
      ∙ ap (λ t. closed_plans (held c.args.library.now) c.args.streams.now c.args.stream of latest t es (values_of old)) (sym c.in-Some.is);
}
