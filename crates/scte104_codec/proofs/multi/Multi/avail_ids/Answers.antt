use Rattle.std.proofs.Common.{◌≡◌, length, refl, ap, arith}
use Rattle.scte104_codec.specs.Asked.{avail_ids}
use Rattle.scte104_codec.specs.OperationsLeft.{operations_left}
use Rattle.scte104_codec.proofs.AskedLemmas.{next_formed, ids_size, ids_next, ids_skip, ids_many, ids_kept, ids_count}
use Rattle.scte104_codec.proofs.multi.Multi.avail_ids.Goals as goal
use Rattle.scte104_codec.proofs.multi.Multi.avail_ids.Goals.{else-op-eq-INSERT_AVAIL_DESCRIPTOR-via-then-op-eq-INSERT_AVAIL_DESCRIPTOR+else-not-add_ids, else-op-eq-INSERT_AVAIL_DESCRIPTOR-via-else-op-eq-INSERT_AVAIL_DESCRIPTOR}

pub of_data-requires : goal.of_data-requires
of_data-requires g c = ids_size _ c.if-op-eq-INSERT_AVAIL_DESCRIPTOR.true (next_formed _ _ _ c.in-Some.ensures.steps)

pub returns-then-not-add_ids-clause-many : goal.returns-then-not-add_ids-clause-many
returns-then-not-add_ids-clause-many g c =
    let now = ids_next _ _ _ _ _ _ c.loop-op.invariant.1 c.in-Some.ensures.steps c.if-op-eq-INSERT_AVAIL_DESCRIPTOR.true c.of_data.ensures in
    let many = ids_many _ _ _ _ g.row.N now c.if-not-add_ids.ensures.fits.1 in
    (λ e. many, λ lt. refl)

pub loop-op-preserved : goal.loop-op-preserved
loop-op-preserved g c = elim c.else-op-eq-INSERT_AVAIL_DESCRIPTOR.branch [
  | else-op-eq-INSERT_AVAIL_DESCRIPTOR-via-then-op-eq-INSERT_AVAIL_DESCRIPTOR+else-not-add_ids w ↦
      let now = ids_next _ _ _ _ _ _ c.loop-op.invariant.1 c.in-Some.ensures.steps w.if-op-eq-INSERT_AVAIL_DESCRIPTOR.true w.of_data.ensures in
      let more = ids_kept _ _ _ _ _ g.row.N w.if-not-add_ids.ensures.added (w.if-not-add_ids.ensures.fits.0 refl) now in
      rw w.ids-is more
  | else-op-eq-INSERT_AVAIL_DESCRIPTOR-via-else-op-eq-INSERT_AVAIL_DESCRIPTOR w ↦
      rw w.ids-is (c.loop-op.invariant.0, ids_skip _ _ _ _ _ c.loop-op.invariant.1 c.in-Some.ensures.steps w.if-op-eq-INSERT_AVAIL_DESCRIPTOR.false)
]

pub returns-clause-many : goal.returns-clause-many
returns-clause-many g c =
    let none : length (avail_ids (operations_left c.loop-op.op-iterator)) ≡ 0 = ap (λ os. length (avail_ids os)) c.in-None.ensures.steps.0 in
    let count = ids_count c.loop-op.ids.items (avail_ids (operations_left c.loop-op.op-iterator)) (avail_ids (operations_left c.args.self.now.operations)) c.loop-op.invariant.1 in
    (λ e. absurd (cc), λ lt. absurd (omega (arith, none, count, lt, c.loop-op.invariant.0)))
