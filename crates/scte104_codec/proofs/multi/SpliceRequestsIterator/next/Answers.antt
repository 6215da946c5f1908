use Rattle.std.proofs.Common.{ap, sym, ◌∙◌, rules}
use Rattle.scte104_codec.specs.Asked.{splice_requests}
use Rattle.scte104_codec.specs.RequestsLeft.{splice_requests_left}
use Rattle.scte104_codec.proofs.AskedLemmas.{next_formed, request_size, requests_first, requests_other}
use Rattle.scte104_codec.proofs.multi.SpliceRequestsIterator.next.Goals as goal

pub of_data-requires : goal.of_data-requires
of_data-requires c = request_size _ c.if-op-eq-SPLICE_REQUEST.true (next_formed _ _ _ c.in-Some.ensures.steps)

pub returns-then-op-eq-SPLICE_REQUEST-clause-steps : goal.returns-then-op-eq-SPLICE_REQUEST-clause-steps
unfolding splice_requests_left
returns-then-op-eq-SPLICE_REQUEST-clause-steps c =
    sym c.loop-op.invariant ∙ ap splice_requests c.in-Some.ensures.steps ∙ requests_first _ _ _ c.if-op-eq-SPLICE_REQUEST.true c.of_data.ensures

pub returns-then-op-eq-SPLICE_REQUEST-clause-goes : goal.returns-then-op-eq-SPLICE_REQUEST-clause-goes
returns-then-op-eq-SPLICE_REQUEST-clause-goes c =
    let steps = returns-then-op-eq-SPLICE_REQUEST-clause-steps c in
    search rules

pub loop-op-preserved : goal.loop-op-preserved
unfolding splice_requests_left
loop-op-preserved c =
    sym (ap splice_requests c.in-Some.ensures.steps ∙ requests_other _ _ c.if-op-eq-SPLICE_REQUEST.false) ∙ c.loop-op.invariant

pub returns-clause-steps : goal.returns-clause-steps
unfolding splice_requests_left
returns-clause-steps c =
    (sym c.loop-op.invariant ∙ ap splice_requests c.in_default.ensures.steps.0, ap splice_requests c.in_default.ensures.steps.1)
