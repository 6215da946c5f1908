use Rattle.chain_services.proofs.ConverseLemmas.{each_sound_is_enough}
use Rattle.chain_services.proofs.laws.each_sound_is_enough.Goals as goal

pub returns : goal.returns
returns c = each_sound_is_enough
