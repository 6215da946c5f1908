use Rattle.std.proofs.Common.{◌≡◌, ◌++◌, ◌∷◌, [], ℕ, List, length, ◌∙◌, sym, ap, subst, append_assoc, arith, refl}
use Rattle.std.proofs.lemmas.List.{append-nil}
use Rattle.ts_packet.specs.Numbering.{Counts}
use Rattle.ts_packet.proofs.CountLemmas.{well-refl, well-trans, blamed-after}
use Rattle.unit_stream.specs.UnitPackets.{put_in}
use Rattle.ad_library.specs.Lending.{unit_seen}
use Rattle.ad_library.specs.Slices.{left}
use Rattle.splice_plans.specs.Slicing.{due_units, delta_of, moved_packets, slice_packets}
use Rattle.splice_plans.proofs.SliceLemmas.{packets-one, steps-one, fails-within, none-left, few-none, nothing-more, not-due, whole, one-due, fewer, one-longer, at-end, delta-is}
use Rattle.splice_plans.proofs.slices.put_units.Goals as goal

pub loop-count-init : goal.loop-count-init
loop-count-init g c = record {
  leads = g.met.S.PacketSink.leads_refl c.args.sink.now;
  well = well-refl _;
  few = (let m = c.most-most.ensures in omega (arith, m));
  put = ([], refl, refl, λ steps k. k, λ begin ps steps h k. rw (append-nil ps) h);
}

pub returns-in_default-clause-leads : goal.returns-in_default-clause-leads
returns-in_default-clause-leads g c = c.loop-count.invariant.leads

pub returns-in_default-clause-well : goal.returns-in_default-clause-well
returns-in_default-clause-well g c = c.loop-count.invariant.well

pub returns-in_default-clause-ok : goal.returns-in_default-clause-ok
returns-in_default-clause-ok g c = λ begin ps steps h k.
    let i = c.loop-count.invariant in
    let all : due_units c.args.reached (left c.args.slice) ≡ i.put.0 = nothing-more c.args.reached (left c.args.slice) (left c.loop-count.rest) i.put.0 i.put.2 (none-left (left c.loop-count.rest) c.in_default.ensures.unit) in
    let moves : c.minus-delta.result ≡ delta_of c.args.start c.args.slice.zero = delta-is c.minus-delta.result c.args.start c.ticks.result c.args.slice.zero c.zero.result c.minus-delta.ensures c.ticks.ensures.value c.zero.ensures in
    let now = i.put.4 begin ps steps h k in
    subst (λ d. g.S.PacketSink.holds c.loop-count.sink begin (ps ++ slice_packets c.args.pid d steps (due_units c.args.reached (left c.args.slice)))) moves
    (subst (λ us. g.S.PacketSink.holds c.loop-count.sink begin (ps ++ slice_packets c.args.pid c.minus-delta.result steps us)) (sym all) now)

pub returns-in_default-clause-counted : goal.returns-in_default-clause-counted
returns-in_default-clause-counted g c = λ steps k.
    let i = c.loop-count.invariant in
    let all : due_units c.args.reached (left c.args.slice) ≡ i.put.0 = nothing-more c.args.reached (left c.args.slice) (left c.loop-count.rest) i.put.0 i.put.2 (none-left (left c.loop-count.rest) c.in_default.ensures.unit) in
    let moves : c.minus-delta.result ≡ delta_of c.args.start c.args.slice.zero = delta-is c.minus-delta.result c.args.start c.ticks.result c.args.slice.zero c.zero.result c.minus-delta.ensures c.ticks.ensures.value c.zero.ensures in
    let now = i.put.3 steps k in
    subst (λ d. Counts c.loop-count.counter (put_in (slice_packets c.args.pid d steps (due_units c.args.reached (left c.args.slice))) steps)) moves
    (subst (λ us. Counts c.loop-count.counter (put_in (slice_packets c.args.pid c.minus-delta.result steps us) steps)) (sym all) now)

pub returns-in_default-clause-count : goal.returns-in_default-clause-count
returns-in_default-clause-count g c =
    let i = c.loop-count.invariant in
    let all : due_units c.args.reached (left c.args.slice) ≡ i.put.0 = nothing-more c.args.reached (left c.args.slice) (left c.loop-count.rest) i.put.0 i.put.2 (none-left (left c.loop-count.rest) c.in_default.ensures.unit) in
    sym i.put.1 ∙ ap length (sym all)

pub returns-then-not-is_due-clause-leads : goal.returns-then-not-is_due-clause-leads
returns-then-not-is_due-clause-leads g c = c.loop-count.invariant.leads

pub returns-then-not-is_due-clause-well : goal.returns-then-not-is_due-clause-well
returns-then-not-is_due-clause-well g c = c.loop-count.invariant.well

pub returns-then-not-is_due-clause-ok : goal.returns-then-not-is_due-clause-ok
returns-then-not-is_due-clause-ok g c = λ begin ps steps h k.
    let i = c.loop-count.invariant in
    let all : due_units c.args.reached (left c.args.slice) ≡ i.put.0 = not-due c.args.reached (left c.args.slice) (left c.loop-count.rest) i.put.0 i.put.2 (unit_seen c.in-Some.unit) (left c.next.new.self) c.in-Some.unit.offset c.in-Some.ensures.unit c.in-Some.ensures.left refl (sym c.is_due.ensures ∙ c.if-not-is_due.true) in
    let moves : c.minus-delta.result ≡ delta_of c.args.start c.args.slice.zero = delta-is c.minus-delta.result c.args.start c.ticks.result c.args.slice.zero c.zero.result c.minus-delta.ensures c.ticks.ensures.value c.zero.ensures in
    let now = i.put.4 begin ps steps h k in
    subst (λ d. g.S.PacketSink.holds c.loop-count.sink begin (ps ++ slice_packets c.args.pid d steps (due_units c.args.reached (left c.args.slice)))) moves
    (subst (λ us. g.S.PacketSink.holds c.loop-count.sink begin (ps ++ slice_packets c.args.pid c.minus-delta.result steps us)) (sym all) now)

pub returns-then-not-is_due-clause-counted : goal.returns-then-not-is_due-clause-counted
returns-then-not-is_due-clause-counted g c = λ steps k.
    let i = c.loop-count.invariant in
    let all : due_units c.args.reached (left c.args.slice) ≡ i.put.0 = not-due c.args.reached (left c.args.slice) (left c.loop-count.rest) i.put.0 i.put.2 (unit_seen c.in-Some.unit) (left c.next.new.self) c.in-Some.unit.offset c.in-Some.ensures.unit c.in-Some.ensures.left refl (sym c.is_due.ensures ∙ c.if-not-is_due.true) in
    let moves : c.minus-delta.result ≡ delta_of c.args.start c.args.slice.zero = delta-is c.minus-delta.result c.args.start c.ticks.result c.args.slice.zero c.zero.result c.minus-delta.ensures c.ticks.ensures.value c.zero.ensures in
    let now = i.put.3 steps k in
    subst (λ d. Counts c.loop-count.counter (put_in (slice_packets c.args.pid d steps (due_units c.args.reached (left c.args.slice))) steps)) moves
    (subst (λ us. Counts c.loop-count.counter (put_in (slice_packets c.args.pid c.minus-delta.result steps us) steps)) (sym all) now)

pub returns-then-not-is_due-clause-count : goal.returns-then-not-is_due-clause-count
returns-then-not-is_due-clause-count g c =
    let i = c.loop-count.invariant in
    let all : due_units c.args.reached (left c.args.slice) ≡ i.put.0 = not-due c.args.reached (left c.args.slice) (left c.loop-count.rest) i.put.0 i.put.2 (unit_seen c.in-Some.unit) (left c.next.new.self) c.in-Some.unit.offset c.in-Some.ensures.unit c.in-Some.ensures.left refl (sym c.is_due.ensures ∙ c.if-not-is_due.true) in
    sym i.put.1 ∙ ap length (sym all)

pub returns-clause-leads : goal.returns-clause-leads
returns-clause-leads g c = c.loop-count.invariant.leads

pub returns-clause-well : goal.returns-clause-well
returns-clause-well g c = c.loop-count.invariant.well

pub returns-clause-ok : goal.returns-clause-ok
returns-clause-ok g c = λ begin ps steps h k.
    let i = c.loop-count.invariant in
    let all : due_units c.args.reached (left c.args.slice) ≡ i.put.0 = nothing-more c.args.reached (left c.args.slice) (left c.loop-count.rest) i.put.0 i.put.2 (few-none (left c.loop-count.rest) c.loop-count.count c.most-most.result c.loop-count-test.false i.few) in
    let moves : c.minus-delta.result ≡ delta_of c.args.start c.args.slice.zero = delta-is c.minus-delta.result c.args.start c.ticks.result c.args.slice.zero c.zero.result c.minus-delta.ensures c.ticks.ensures.value c.zero.ensures in
    let now = i.put.4 begin ps steps h k in
    subst (λ d. g.S.PacketSink.holds c.loop-count.sink begin (ps ++ slice_packets c.args.pid d steps (due_units c.args.reached (left c.args.slice)))) moves
    (subst (λ us. g.S.PacketSink.holds c.loop-count.sink begin (ps ++ slice_packets c.args.pid c.minus-delta.result steps us)) (sym all) now)

pub returns-clause-counted : goal.returns-clause-counted
returns-clause-counted g c = λ steps k.
    let i = c.loop-count.invariant in
    let all : due_units c.args.reached (left c.args.slice) ≡ i.put.0 = nothing-more c.args.reached (left c.args.slice) (left c.loop-count.rest) i.put.0 i.put.2 (few-none (left c.loop-count.rest) c.loop-count.count c.most-most.result c.loop-count-test.false i.few) in
    let moves : c.minus-delta.result ≡ delta_of c.args.start c.args.slice.zero = delta-is c.minus-delta.result c.args.start c.ticks.result c.args.slice.zero c.zero.result c.minus-delta.ensures c.ticks.ensures.value c.zero.ensures in
    let now = i.put.3 steps k in
    subst (λ d. Counts c.loop-count.counter (put_in (slice_packets c.args.pid d steps (due_units c.args.reached (left c.args.slice))) steps)) moves
    (subst (λ us. Counts c.loop-count.counter (put_in (slice_packets c.args.pid c.minus-delta.result steps us) steps)) (sym all) now)

pub returns-clause-count : goal.returns-clause-count
returns-clause-count g c =
    let i = c.loop-count.invariant in
    let all : due_units c.args.reached (left c.args.slice) ≡ i.put.0 = nothing-more c.args.reached (left c.args.slice) (left c.loop-count.rest) i.put.0 i.put.2 (few-none (left c.loop-count.rest) c.loop-count.count c.most-most.result c.loop-count-test.false i.few) in
    at-end c.loop-count.count c.most-most.result c.loop-count-test.false c.loop-count.auto.count-end (sym i.put.1 ∙ ap length (sym all))

pub returns-in-Err-clause-leads : goal.returns-in-Err-clause-leads
returns-in-Err-clause-leads g c = g.met.S.PacketSink.leads_trans c.args.sink.now c.loop-count.sink c.put_moved.new.sink c.loop-count.invariant.leads c.in-Err.ensures.leads

pub returns-in-Err-clause-blamed : goal.returns-in-Err-clause-blamed
returns-in-Err-clause-blamed g c = blamed-after _ _ _ _ _ c.loop-count.invariant.well c.in-Err.ensures.blamed

pub returns-in-Err-clause-err : goal.returns-in-Err-clause-err
returns-in-Err-clause-err g c = λ begin ps steps h k.
    let i = c.loop-count.invariant in
    let u = unit_seen c.in-Some.unit in
    let d = c.minus-delta.result in
    let all : due_units c.args.reached (left c.args.slice) ≡ i.put.0 ++ u ∷ due_units c.args.reached (left c.next.new.self)
    = whole c.args.reached (left c.args.slice) (left c.loop-count.rest) i.put.0 i.put.2 u (left c.next.new.self) c.in-Some.unit.offset c.in-Some.ensures.unit c.in-Some.ensures.left refl (sym c.is_due.ensures ∙ c.if-not-is_due.false) in
    let out = slice_packets c.args.pid d steps i.put.0 in
    let e = c.in-Err.ensures.err begin (ps ++ out) (put_in out steps) (i.put.4 begin ps steps h k) (i.put.3 steps k) in
    let moves : d ≡ delta_of c.args.start c.args.slice.zero = delta-is c.minus-delta.result c.args.start c.ticks.result c.args.slice.zero c.zero.result c.minus-delta.ensures c.ticks.ensures.value c.zero.ensures in
    let F : List (List ℕ) → List ℕ → Type 0 = λ put p. g.S.PacketSink.fails c.put_moved.new.sink begin (ps ++ put) p c.in-Err.fault in
    subst (λ m. Rattle.outgoing_packets.specs.Numbers.FrontFails (slice_packets c.args.pid m steps (due_units c.args.reached (left c.args.slice))) F) moves
    (fails-within c.args.pid d steps (due_units c.args.reached (left c.args.slice)) i.put.0 (due_units c.args.reached (left c.next.new.self)) u e.put e.packet e.left F all e.all
    (subst (λ l. g.S.PacketSink.fails c.put_moved.new.sink begin l e.packet c.in-Err.fault) (append_assoc ps out e.put) e.fault))

pub loop-count-preserved : goal.loop-count-preserved
loop-count-preserved g c =
    let i = c.loop-count.invariant in
    let e = c.in-Ok.ensures in
    let u = unit_seen c.in-Some.unit in
    let d = c.minus-delta.result in
    let before = left c.loop-count.rest in
    let after = left c.next.new.self in
    let due = sym c.is_due.ensures ∙ c.if-not-is_due.false in
    record {
      leads = g.met.S.PacketSink.leads_trans c.args.sink.now c.loop-count.sink c.put_moved.new.sink i.leads c.put_moved.ensures.leads;
      well = well-trans _ _ _ i.well e.well;
      few = fewer c.args.reached (left c.args.slice) before i.put.0 i.put.2 u after c.in-Some.unit.offset c.in-Some.ensures.unit c.in-Some.ensures.left refl c.loop-count.count c.most-most.result i.few;
      put = (
        i.put.0 ++ u ∷ [],
        one-longer i.put.0 u c.loop-count.count i.put.1,
        one-due c.args.reached (left c.args.slice) before i.put.0 i.put.2 u after c.in-Some.unit.offset c.in-Some.ensures.unit c.in-Some.ensures.left refl due,
        λ steps k. rw (steps-one c.args.pid d steps i.put.0 u) (e.counted (put_in (slice_packets c.args.pid d steps i.put.0) steps) (i.put.3 steps k)),
        λ begin ps steps h k.
            let out = slice_packets c.args.pid d steps i.put.0 in
            rw (packets-one c.args.pid d steps i.put.0 u)
            (subst (λ l. g.S.PacketSink.holds c.put_moved.new.sink begin l) (append_assoc ps out (moved_packets c.args.pid d (put_in out steps) u))
            (e.ok begin (ps ++ out) (put_in out steps) (i.put.4 begin ps steps h k) (i.put.3 steps k))),
      );
    }
