use Rattle.std.proofs.Common.{◌≡◌, ◌<◌, ◌≤◌, ◌∙◌, true, length, sym, ap, subst, refl}
use Rattle.std.specs.Prelude.{slice_index_or}
use Rattle.std.proofs.lemmas.List.{get_or_default}
use Rattle.pes_time.specs.Line.{place}
use Rattle.event_table.specs.declared.table.Entry.{Entry}
use Rattle.ad_library.specs.Library.{held}
use Rattle.splice_plans.specs.declared.plan.Plan.{Plan}
use Rattle.splice_plans.specs.Adverts.{adverts_of}
use Rattle.splice_plans.specs.Playing.{is_played}
use Rattle.splice_plans.specs.Turning.{plan_turned}
use Rattle.splice_plans.specs.Parts.{no_entry}
use Rattle.splice_plans.specs.Waiting.{waits_before}
use Rattle.splice_plans.proofs.AllTurnedLemmas.{one-turned, one-stays, keeps-more, keeps-size, all-turned}
use Rattle.splice_plans.proofs.WaitLemmas.{entry-stays}
use Rattle.splice_plans.proofs.turns.turn_all.Goals as goal

pub loop-at-preserved-then-waits_before : goal.loop-at-preserved-then-waits_before
loop-at-preserved-then-waits_before c =
    let i = c.loop-at.invariant in
    let items = c.loop-at.events.obeyed.table.entries.items in
    let entry : Entry Plan = slice_index_or items c.loop-at.at no_entry in
    let below : c.loop-at.at < length items = subst (λ n. c.loop-at.at < n) (i.size ∙ keeps-size c.args.events.now c.loop-at.events i.keeps) c.loop-at-test.true in
    let waits : waits_before c.args.stream c.args.time entry ≡ true
    = ap (λ t. waits_before c.args.stream c.args.time (slice_index_or t.entries.items c.loop-at.at no_entry)) (sym c.table-in-loop-at.ensures.same) ∙ sym c.waits_before.ensures.value ∙ c.if-waits_before.true in
    let ads = adverts_of (held c.args.library.now) c.args.streams.now in
    record {
      keeps = i.keeps;
      size = i.size;
      values = λ latest es s near.
          one-stays ads c.args.stream c.args.time c.loop-at.at c.args.events.now c.loop-at.events i.keeps entry entry.value below (get_or_default items c.loop-at.at no_entry entry below)
          (λ latest e is within near. entry-stays c.args.stream c.args.time (is_played ads e) entry c.waits_before.ensures.below waits latest e is within near)
          latest es s near refl (i.values latest es s near);
    }

pub loop-at-preserved : goal.loop-at-preserved
loop-at-preserved c =
    let i = c.loop-at.invariant in
    let e = c.set_value.ensures in
    let items = c.standing.ensures.entries ∙ ap (λ t. t.entries.items) c.table-in-loop-at-2.ensures.same in
    let ads = adverts_of (held c.args.library.now) c.args.streams.now in
    let entry = c.index-standing-at.result in
    record {
      keeps = keeps-more c.args.events.now c.loop-at.events c.set_value.new.self i.keeps (record { obeys = e.obeys; events = e.events; high = e.high; assembler = e.assembler });
      size = i.size;
      values = λ latest es s near. e.values
          ∙ one-turned ads c.args.stream c.args.time c.loop-at.at c.args.events.now c.loop-at.events i.keeps entry c.turned.result
          (subst (λ n. c.loop-at.at < n) (i.size ∙ keeps-size c.args.events.now c.loop-at.events i.keeps) c.loop-at-test.true) (c.index-standing-at.is ∙ ap (λ xs. slice_index_or xs c.loop-at.at entry) items)
          (λ latest e is within near. c.turned.ensures latest e is within near ∙ ap (λ b. plan_turned e (place latest c.args.time) b c.args.stream entry.value) (c.is_played-plays.ensures e is))
          latest es s near (i.values latest es s near);
    }

pub returns-clause-values : goal.returns-clause-values
returns-clause-values c = λ latest es s near.
    let i = c.loop-at.invariant in
    all-turned (adverts_of (held c.args.library.now) c.args.streams.now) c.args.stream c.loop-at.at (place latest c.args.time) c.args.events.now c.loop-at.events latest es s
    (subst (λ n. n ≤ c.loop-at.at) i.size c.loop-at-test.false) (i.values latest es s near)
