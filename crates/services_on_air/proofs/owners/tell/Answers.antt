use Rattle.services_on_air.proofs.OwnerLemmas.{told-set}
use Rattle.services_on_air.proofs.owners.tell.Goals as goal

pub returns : goal.returns
returns c = λ xs all before.
    told-set c.args.owners.now c.set.new.self c.args.pid c.takers_of.result xs c.set.ensures.new c.set.ensures.size c.set.ensures.pid (c.takers_of.ensures xs all) before
