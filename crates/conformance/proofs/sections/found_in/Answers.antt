use Rattle.std.proofs.Common.{refl}
use Rattle.conformance.proofs.SectionLemmas.{past_more, is_of_at, finished_more, finished_at_end, sections_kept}
use Rattle.conformance.proofs.sections.found_in.Goals as goal

pub loop-place-init : goal.loop-place-init
loop-place-init c = record {
  ready = c.new-assembler.ensures.ready;
  waits = λ pid all. c.new-assembler.ensures.waits pid;
  finished = λ pid all. rw c.new-finished.ensures.items refl;
}

pub loop-place-preserved : goal.loop-place-preserved
loop-place-preserved c =
    let i = c.loop-place.place in
    let packets = c.args.packets.now in
    let packet = c.index-packets-place.result in
    let past = past_more packets i packet c.loop-place-test.true c.index-packets-place.is in
    record {
      ready = c.in_ok-feed.ensures.ready;
      waits = λ pid all. rw past (c.in_ok-feed.ensures.waits pid _ (is_of_at pid packets i packet all c.loop-place-test.true c.index-packets-place.is) (c.loop-place.invariant.waits pid all));
      finished = λ pid all. rw past
          (finished_more pid packets i packet _ _ _ c.loop-place-test.true c.index-packets-place.is
          (c.in_ok-feed.ensures.finished pid _ (is_of_at pid packets i packet all c.loop-place-test.true c.index-packets-place.is) (c.loop-place.invariant.waits pid all))
          (c.loop-place.invariant.finished pid all));
    }

pub returns-clause-sections : goal.returns-clause-sections
returns-clause-sections c = λ pid all.
    sections_kept pid c.args.packets.now c.loop-place.finished.items
    (finished_at_end pid _ c.args.packets.now c.loop-place.place _ _ c.loop-place-test.false (c.loop-place.invariant.finished pid all))
