use Rattle.service_laws.proofs.MessageLemmas.{others_messages_change_nothing}
use Rattle.service_laws.proofs.laws.others_messages_change_nothing.Goals as goal

pub returns : goal.returns
returns c = others_messages_change_nothing
