use Rattle.std.proofs.Common.{◌+◌, inl, inr, arith, length, sym, ap, ◌∙◌, subst, length-append}
use Rattle.std.proofs.Math.Nat.{add-zero}
use Rattle.packet_recovery.proofs.SearchLemmas.{Turned, hunt_none, hunt_on, hunt_few, hunt_missed, missed_at, stepped_is, few_is, counts_is, waited}
use Rattle.packet_recovery.specs.declared.search.Step.TheVariants.{On, Over}
use Rattle.packet_recovery.proofs.search.search.Goals as goal
use Rattle.packet_recovery.proofs.search.search.Goals.{in-Ok-On, in-Err-Interrupted, then-loose-ge188, else-loose-ge188+else-turns-eq-MAX_TURNS}

pub loop-call-init : goal.loop-call-init
loop-call-init g c = hunt_none (g.S.Source.remaining c.args.source.now) c.args.window.now c.args.skipped.now (g.S.Source.counts c.args.source.now) c.told-window c.requires (omega arith)

pub returns-in-Ok-Over-clause-ok : goal.returns-in-Ok-Over-clause-ok
returns-in-Ok-Over-clause-ok g c =
    stepped_is c.in-Ok-Over.field-0 (Over c.in-Ok-Over.regained) _ _ _ _ c.read_on.new.held _ _ c.in-Ok-Over.field-0-is (c.in-Ok-Over.ensures.ok _ c.loop-call.invariant.out _ c.loop-call.invariant.searching)

pub returns-in-Ok-Over-clause-few : goal.returns-in-Ok-Over-clause-few
returns-in-Ok-Over-clause-few g c =
    hunt_few _ _ _ _ _ _ _ _ _ c.read_on.new.skipped _ _ (g.S.Source.counts c.read_on.new.source) c.loop-call.invariant c.in-Ok-Over.ensures.later c.read_on.ensures.fits (omega arith) c.in-Ok-Over.ensures.calls

pub returns-in-Err-Failed-clause-err : goal.returns-in-Err-Failed-clause-err
returns-in-Err-Failed-clause-err g c =
    missed_at _ _ c.loop-call.invariant.out c.read_on.new.window c.read_on.new.held _ _ (c.in-Err-Failed.ensures.err _ c.loop-call.invariant.out _ c.loop-call.invariant.searching) c.read_on.array_long c.in-Err-Failed.ensures.within

pub returns-in-Err-Failed-clause-few : goal.returns-in-Err-Failed-clause-few
returns-in-Err-Failed-clause-few g c =
    hunt_few _ _ _ _ _ _ _ _ _ c.read_on.new.skipped _ _ (g.S.Source.counts c.read_on.new.source) c.loop-call.invariant c.in-Err-Failed.ensures.later c.read_on.ensures.fits (omega arith) c.in-Err-Failed.ensures.calls

pub returns-then-turns-eq-MAX_TURNS-clause-err : goal.returns-then-turns-eq-MAX_TURNS-clause-err
returns-then-turns-eq-MAX_TURNS-clause-err g c = elim c.match-read_on.branch [
  | in-Ok-On w ↦
      let s = stepped_is w.in-Ok-On.field-0 (On w.in-Ok-On.out) _ _ _ _ c.read_on.new.held _ _ w.in-Ok-On.field-0-is (w.in-Ok-On.ensures.ok _ c.loop-call.invariant.out _ c.loop-call.invariant.searching) in
      missed_at _ _ _ c.read_on.new.window c.read_on.new.held _ _ s.1 c.read_on.array_long w.in-Ok-On.ensures.within
  | in-Err-Interrupted w ↦
      missed_at _ _ c.loop-call.invariant.out c.read_on.new.window c.read_on.new.held _ _ (w.in-Err-Interrupted.ensures.err _ c.loop-call.invariant.out _ c.loop-call.invariant.searching) c.read_on.array_long w.in-Err-Interrupted.ensures.within
]

pub returns-then-turns-eq-MAX_TURNS-clause-few : goal.returns-then-turns-eq-MAX_TURNS-clause-few
returns-then-turns-eq-MAX_TURNS-clause-few g c =
    hunt_few _ _ _ _ _ _ _ _ _ c.read_on.new.skipped _ _ (g.S.Source.counts c.read_on.new.source) c.loop-call.invariant c.read_on.ensures.later c.read_on.ensures.fits (omega arith) c.read_on.ensures.calls

pub loop-call-preserved : goal.loop-call-preserved
loop-call-preserved g c =
    let turned : Turned c.match-read_on.loose c.if-loose-ge188.loose c.loop-call.turns c.if-loose-ge188.turns = elim c.if-loose-ge188.branch [
      | then-loose-ge188 w ↦ inl (w.if-loose-ge188.true, w.loose-is, w.turns-is)
      | else-loose-ge188+else-turns-eq-MAX_TURNS w ↦ inr (omega (arith, w.if-loose-ge188.false), w.loose-is, w.turns-is, λ e. w.if-turns-eq-MAX_TURNS.false (sym w.turns-is ∙ e))
    ] in
    elim c.match-read_on.branch [
      | in-Ok-On w ↦
          let s = stepped_is w.in-Ok-On.field-0 (On w.in-Ok-On.out) _ _ _ _ c.read_on.new.held _ _ w.in-Ok-On.field-0-is (w.in-Ok-On.ensures.ok _ c.loop-call.invariant.out _ c.loop-call.invariant.searching) in
          hunt_on _ _ _ _ c.read_on.new.window _ c.read_on.new.held _ _ _ _ _ _ _ _ w.in-Ok-On.out _ _ _ c.loop-call.invariant _ s.1 c.read_on.array_long w.in-Ok-On.ensures.within
          (length-append c.loop-call.invariant.out s.0 ∙ ap (λ n. length c.loop-call.invariant.out + n) s.2) (few_is w.in-Ok-On.field-0 (On w.in-Ok-On.out) w.in-Ok-On.field-0-is w.in-Ok-On.ensures.some) w.in-Ok-On.ensures.calls (counts_is w.in-Ok-On.field-0 (On w.in-Ok-On.out) _ _ w.in-Ok-On.field-0-is w.in-Ok-On.ensures.counts)
          (subst (λ l. Turned l c.if-loose-ge188.loose c.loop-call.turns c.if-loose-ge188.turns) w.loose-is turned)
      | in-Err-Interrupted w ↦
          hunt_on _ _ _ _ c.read_on.new.window _ c.read_on.new.held _ _ _ _ _ _ _ _ 0 _ _ _ c.loop-call.invariant c.loop-call.invariant.out
          (w.in-Err-Interrupted.ensures.err _ c.loop-call.invariant.out _ c.loop-call.invariant.searching) c.read_on.array_long w.in-Err-Interrupted.ensures.within
          (sym (add-zero _)) (omega arith) w.in-Err-Interrupted.ensures.calls (waited w.in-Err-Interrupted.field-0 _ _ w.in-Err-Interrupted.field-0-is w.in-Err-Interrupted.ensures.counts)
          (subst (λ l. Turned l c.if-loose-ge188.loose c.loop-call.turns c.if-loose-ge188.turns) (w.loose-is ∙ sym (add-zero c.loop-call.loose)) turned)
    ]

pub returns-clause-err : goal.returns-clause-err
returns-clause-err g c = hunt_missed _ _ _ _ _ _ _ _ _ _ _ c.loop-call.invariant
