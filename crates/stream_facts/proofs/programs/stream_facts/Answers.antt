use Rattle.std.proofs.Common.{refl}
use Rattle.stream_facts.proofs.StreamLemmas.{nothing_told}
use Rattle.stream_facts.proofs.programs.stream_facts.Goals as goal

pub returns-in-None : goal.returns-in-None
returns-in-None c = λ past k. nothing_told past _ (c.in-None.ensures past k) c.is_switched_kind-switched.ensures refl refl refl c.new.ensures.items
