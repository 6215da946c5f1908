use Rattle.injector.specs.Steps.{packets_in}
use Rattle.chain_services.proofs.OwnerLemmas.{told-set}
use Rattle.chain_services.proofs.owners.tell.Goals as goal

pub returns : goal.returns
returns c = λ ts steps all.
    told-set c.args.owners.now c.set.new.self c.args.pid c.takers_of.result ts (packets_in steps) c.set.ensures.new c.set.ensures.size c.set.ensures.pid
    (c.takers_of.ensures ts steps all)
