use Rattle.chain_engine.proofs.TalkLemmas.{begins_open, begins_empty, none_bytes}
use Rattle.chain_engine.proofs.talk.Talk.new_in.Goals as goal

pub returns : goal.returns
returns g c = record { talked = begins_open; pending = λ _. begins_empty _ c.in_ok-new_in.ensures; bytes = none_bytes }
