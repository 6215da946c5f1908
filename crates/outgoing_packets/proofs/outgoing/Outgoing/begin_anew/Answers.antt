use Rattle.std.proofs.lemmas.List.{get_or-replicate}
use Rattle.outgoing_packets.proofs.outgoing.Outgoing.begin_anew.Goals as goal

-- src/outgoing.rt:28:5
pub returns : goal.returns
returns c = record { next = λ pid below. get_or-replicate 8192 pid 0 0 below }
