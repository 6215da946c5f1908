use Rattle.std.proofs.lemmas.List.{get_or-replicate}
use Rattle.chain_services.proofs.owners.Owners.of_all.Goals as goal

pub returns : goal.returns
returns c = λ pid within. get_or-replicate 8192 pid c.args.takers 0 within
