use Rattle.std.proofs.lemmas.List.Elements.{All-push, All-same}
use Rattle.stream_facts.specs.Facts.{AreStreamsOf}
use Rattle.stream_facts.proofs.programs.programs.Goals as goal

pub loop-listing-preserved : goal.loop-listing-preserved
loop-listing-preserved c = λ past k. All-same (AreStreamsOf past) _ _ c.in_ok-push.ensures.items
    (All-push (AreStreamsOf past) _ _ (c.loop-listing.invariant past k) (c.in_ok-program.ensures past k))
