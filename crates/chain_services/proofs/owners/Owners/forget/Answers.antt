use Rattle.std.proofs.lemmas.List.{get_or-replicate}
use Rattle.chain_services.proofs.owners.Owners.forget.Goals as goal

pub returns : goal.returns
returns c = λ pid within. get_or-replicate 8192 pid 255 0 within
