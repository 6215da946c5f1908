use Rattle.std.proofs.Common.{◌≡◌, ◌<◌, ◌++◌, ◌∙◌, ap, subst, refl, false, append_assoc, length}
use Rattle.std.specs.Prelude.{slice_index_or}
use Rattle.std.specs.List.{list_any}
use Rattle.std.proofs.lemmas.List.{get_or_default}
use Rattle.ts_packet.proofs.CountLemmas.{well-refl, well-trans, blamed-after}
use Rattle.event_table.specs.declared.table.Table.{Table}
use Rattle.event_table.specs.Tables.{values_of}
use Rattle.event_table.proofs.TableLemmas.{same-stands}
use Rattle.ad_library.specs.Library.{held}
use Rattle.splice_plans.specs.declared.plan.Plan.{Plan}
use Rattle.splice_plans.specs.Parts.{no_entry, closes_in, IsFirstClosing}
use Rattle.splice_plans.proofs.AllTurnedLemmas.{keeps-more}
use Rattle.splice_plans.proofs.ClosingLemmas.{nothing-closed, closed-holds, closed-counts, closed-plans, none-over, all-over, as-many-values, one-closed, one-fails, keeps-same}
use Rattle.splice_plans.proofs.runs.close_all.Goals as goal

pub loop-turn-init : goal.loop-turn-init
loop-turn-init g c = record {
  leads = g.met.S.PacketSink.leads_refl c.args.sink.now;
  well = well-refl _;
  keeps = keeps-same c.args.events.now;
  size = ap length (c.standing-turn-end.ensures.entries ∙ ap (λ (t : Table Plan). t.entries.items) c.table.ensures.same);
  closed = λ of latest es of_is s. nothing-closed (held c.args.library.now) c.args.streams.now c.args.stream of c.args.events.now.obeyed.table _ _ _ latest es s (ap length (c.standing-turn-end.ensures.entries ∙ ap (λ (t : Table Plan). t.entries.items) c.table.ensures.same));
}

pub returns-in_default-clause-leads : goal.returns-in_default-clause-leads
returns-in_default-clause-leads g c = c.loop-turn.invariant.leads

pub returns-in_default-clause-well : goal.returns-in_default-clause-well
returns-in_default-clause-well g c = c.loop-turn.invariant.well

pub returns-in_default-clause-keeps : goal.returns-in_default-clause-keeps
returns-in_default-clause-keeps g c = c.loop-turn.invariant.keeps

pub returns-in_default-clause-ok : goal.returns-in_default-clause-ok
returns-in_default-clause-ok g c = λ of latest es begin ps steps of_is s h k.
    let none = subst (λ (t : Table Plan). list_any (closes_in c.args.stream) (values_of t) ≡ false) c.table-in-loop-turn.ensures.same (c.in_default.ensures.none refl) in
    let i = c.loop-turn.invariant.closed of latest es of_is s in
    closed-holds (held c.args.library.now) c.args.streams.now c.args.stream of _ _ _ _ _ _ _ _ es i (none-over (held c.args.library.now) c.args.streams.now c.args.stream of c.loop-turn.events.obeyed.table es none) steps begin ps h k

pub returns-in_default-clause-counted : goal.returns-in_default-clause-counted
returns-in_default-clause-counted g c = λ of latest es steps of_is s k.
    let none = subst (λ (t : Table Plan). list_any (closes_in c.args.stream) (values_of t) ≡ false) c.table-in-loop-turn.ensures.same (c.in_default.ensures.none refl) in
    let i = c.loop-turn.invariant.closed of latest es of_is s in
    closed-counts (held c.args.library.now) c.args.streams.now c.args.stream of _ _ _ _ _ _ _ _ es i (none-over (held c.args.library.now) c.args.streams.now c.args.stream of c.loop-turn.events.obeyed.table es none) steps k

pub returns-in_default-clause-values : goal.returns-in_default-clause-values
returns-in_default-clause-values g c = λ of latest es of_is s.
    let none = subst (λ (t : Table Plan). list_any (closes_in c.args.stream) (values_of t) ≡ false) c.table-in-loop-turn.ensures.same (c.in_default.ensures.none refl) in
    let i = c.loop-turn.invariant.closed of latest es of_is s in
    let k = c.loop-turn.invariant.keeps in
    let stands = same-stands c.args.events.now.obeyed.table c.loop-turn.events.obeyed.table latest es k.high k.events s in
    closed-plans (held c.args.library.now) c.args.streams.now c.args.stream of _ _ _ _ _ _ _ _ es i (none-over (held c.args.library.now) c.args.streams.now c.args.stream of c.loop-turn.events.obeyed.table es none)
    (as-many-values (held c.args.library.now) c.args.streams.now c.args.stream of c.loop-turn.events.obeyed.table latest es stands)

pub returns-clause-leads : goal.returns-clause-leads
returns-clause-leads g c = c.loop-turn.invariant.leads

pub returns-clause-well : goal.returns-clause-well
returns-clause-well g c = c.loop-turn.invariant.well

pub returns-clause-keeps : goal.returns-clause-keeps
returns-clause-keeps g c = c.loop-turn.invariant.keeps

pub returns-clause-ok : goal.returns-clause-ok
returns-clause-ok g c = λ of latest es begin ps steps of_is s h k.
    let i = c.loop-turn.invariant.closed of latest es of_is s in
    closed-holds (held c.args.library.now) c.args.streams.now c.args.stream of _ _ _ _ _ _ _ _ es i
    (all-over (held c.args.library.now) c.args.streams.now c.args.stream of _ _ _ _ _ _ _ _ es i c.loop-turn-test.false) steps begin ps h k

pub returns-clause-counted : goal.returns-clause-counted
returns-clause-counted g c = λ of latest es steps of_is s k.
    let i = c.loop-turn.invariant.closed of latest es of_is s in
    closed-counts (held c.args.library.now) c.args.streams.now c.args.stream of _ _ _ _ _ _ _ _ es i
    (all-over (held c.args.library.now) c.args.streams.now c.args.stream of _ _ _ _ _ _ _ _ es i c.loop-turn-test.false) steps k

pub returns-clause-values : goal.returns-clause-values
returns-clause-values g c = λ of latest es of_is s.
    let i = c.loop-turn.invariant.closed of latest es of_is s in
    let k = c.loop-turn.invariant.keeps in
    let stands = same-stands c.args.events.now.obeyed.table c.loop-turn.events.obeyed.table latest es k.high k.events s in
    closed-plans (held c.args.library.now) c.args.streams.now c.args.stream of _ _ _ _ _ _ _ _ es i
    (all-over (held c.args.library.now) c.args.streams.now c.args.stream of _ _ _ _ _ _ _ _ es i c.loop-turn-test.false)
    (as-many-values (held c.args.library.now) c.args.streams.now c.args.stream of c.loop-turn.events.obeyed.table latest es stands)

pub returns-in-Err-clause-leads : goal.returns-in-Err-clause-leads
returns-in-Err-clause-leads g c = g.met.S.PacketSink.leads_trans c.args.sink.now c.loop-turn.sink c.put_part.new.sink c.loop-turn.invariant.leads c.in-Err.ensures.leads

pub returns-in-Err-clause-blamed : goal.returns-in-Err-clause-blamed
returns-in-Err-clause-blamed g c = blamed-after _ _ _ _ _ c.loop-turn.invariant.well c.in-Err.ensures.blamed

pub returns-in-Err-clause-keeps : goal.returns-in-Err-clause-keeps
returns-in-Err-clause-keeps g c = keeps-more c.args.events.now c.loop-turn.events c.put_part.new.events c.loop-turn.invariant.keeps c.in-Err.ensures.keeps

pub returns-in-Err-clause-err : goal.returns-in-Err-clause-err
returns-in-Err-clause-err g c = λ of latest es begin ps steps of_is s h k.
    let now = c.loop-turn.events.obeyed.table in
    let i = c.loop-turn.invariant.closed of latest es of_is s in
    let kept = c.loop-turn.invariant.keeps in
    let stands = same-stands c.args.events.now.obeyed.table now latest es kept.high kept.events s in
    let below = subst (λ (t : Table Plan). c.in-Some.place < length t.entries.items) c.table-in-loop-turn.ensures.same c.in-Some.ensures.below in
    let first = subst (λ (t : Table Plan). IsFirstClosing c.args.stream es (values_of t) c.in-Some.place) c.table-in-loop-turn.ensures.same (c.in-Some.ensures.some latest es (rw c.table-in-loop-turn.ensures.same stands)) in
    one-fails (held c.args.library.now) c.args.streams.now c.args.stream of c.args.events.now.obeyed.table now _ _ _ _ _ _ latest es stands i c.in-Some.place first
    (λ qs put p. g.S.PacketSink.fails c.put_part.new.sink begin (qs ++ put) p c.in-Err.fault) steps begin ps h k
    (λ qs st held_now counts_now. c.in-Err.ensures.err (slice_index_or now.entries.items c.in-Some.place no_entry) of begin qs st (get_or_default now.entries.items c.in-Some.place no_entry _ below) of_is held_now counts_now)
    (λ put p f. subst (λ l. g.S.PacketSink.fails c.put_part.new.sink begin l p c.in-Err.fault) (append_assoc ps _ put) f)

pub loop-turn-preserved : goal.loop-turn-preserved
loop-turn-preserved g c =
    let now = c.loop-turn.events.obeyed.table in
    let kept = c.loop-turn.invariant.keeps in
    let e = c.in-Ok.ensures in
    let below = subst (λ (t : Table Plan). c.in-Some.place < length t.entries.items) c.table-in-loop-turn.ensures.same c.in-Some.ensures.below in
    record {
      leads = g.met.S.PacketSink.leads_trans c.args.sink.now c.loop-turn.sink c.put_part.new.sink c.loop-turn.invariant.leads e.leads;
      well = well-trans _ _ _ c.loop-turn.invariant.well e.well;
      keeps = keeps-more c.args.events.now c.loop-turn.events c.put_part.new.events kept e.keeps;
      size = c.loop-turn.invariant.size;
      closed = λ of latest es of_is s.
          let stands = same-stands c.args.events.now.obeyed.table now latest es kept.high kept.events s in
          let entry = slice_index_or now.entries.items c.in-Some.place no_entry in
          let there = get_or_default now.entries.items c.in-Some.place no_entry entry below in
          let first = subst (λ (t : Table Plan). IsFirstClosing c.args.stream es (values_of t) c.in-Some.place) c.table-in-loop-turn.ensures.same (c.in-Some.ensures.some latest es (rw c.table-in-loop-turn.ensures.same stands)) in
          one-closed (held c.args.library.now) c.args.streams.now c.args.stream of c.args.events.now.obeyed.table now _ _ _ _ _ _ latest es stands
          (c.loop-turn.invariant.closed of latest es of_is s) c.in-Some.place first c.put_part.new.events.obeyed.table _ _
          (e.values entry of there of_is) (λ steps k. e.counted entry of steps there of_is k) (λ begin ps steps h k. e.ok entry of begin ps steps there of_is h k);
    }
