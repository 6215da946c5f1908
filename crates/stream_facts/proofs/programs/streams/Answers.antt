use Rattle.std.proofs.lemmas.List.Elements.{All-push, All-same}
use Rattle.stream_facts.specs.Facts.{IsStreamOf}
use Rattle.stream_facts.proofs.programs.streams.Goals as goal

pub loop-stream-preserved : goal.loop-stream-preserved
loop-stream-preserved c = λ past k. All-same (IsStreamOf past) _ _ c.in_ok-push.ensures.items
    (All-push (IsStreamOf past) _ _ (c.loop-stream.invariant past k) (c.in_ok-facts.ensures past k))
