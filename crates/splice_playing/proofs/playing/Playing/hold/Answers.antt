use Rattle.std.proofs.Common.{◌<◌, ◌%◌, ◌^◌, ◌&&◌, not, rules, arith, ◌∙◌, ap, sym, length}
use Rattle.std.specs.List.{list_any}
use Rattle.std.proofs.lemmas.List.{get_or-set_same}
use Rattle.event_table.specs.declared.table.Table.{Table}
use Rattle.event_table.specs.Events.{covers_on_ring}
use Rattle.splice_plans.specs.declared.plan.Plan.{Plan}
use Rattle.splice_plans.specs.declared.stream.SwitchedStream.{SwitchedStream}
use Rattle.splice_plans.specs.Turning.{part_of}
use Rattle.splice_plans.specs.Parts.{is_waiting}
use Rattle.splice_plans.proofs.PartLemmas.{one-there}
use Rattle.splice_playing.proofs.FrontLemmas.{inside-pairs}
use Rattle.splice_playing.proofs.playing.Playing.hold.Goals as goal

pub returns-clause-holds : goal.returns-clause-holds
returns-clause-holds c = λ latest es s t st s_is t_is.
    let old = c.args.self.now.events.obeyed.table in
    let below : c.args.stream % 8 < length c.args.self.now.streams = search rules in
    let fits : c.args.time < 2 ^ 33 = let below = c.ticks-ticks.ensures.below in let value = c.ticks-ticks.ensures.value in omega (arith, below, value) in
    let same = one-there c.args.self.now.streams (c.args.stream % 8) s c.index-self-stream.result below s_is c.index-self-stream.is in
    let now = t_is ∙ get_or-set_same c.args.self.now.streams (c.args.stream % 8) _ t below in
    record {
      counter = ap (λ (x : SwitchedStream). x.counter) now ∙ ap (λ (x : SwitchedStream). x.counter) (sym (same ∙ c.index-self-stream.is));
      leaving = ap (λ (x : SwitchedStream). x.is_leaving) now ∙ c.is_inside-is_left.ensures
          ∙ ap (λ (tb : Table Plan). list_any (λ entry. covers_on_ring entry.event c.args.time && not (is_waiting (part_of entry.value c.args.stream).stage)) tb.entries.items) c.table.ensures.same
          ∙ inside-pairs c.args.stream latest c.args.time fits old es st;
    }
