use Rattle.scte104_codec.proofs.SingleLemmas.{single_framed}
use Rattle.scte104_codec.proofs.SeveralLemmas.{several_framed}
use Rattle.scte104_codec.proofs.laws.messages_are_framed.Goals as goal

pub returns : goal.returns
returns c = record { single = λ m fits more. single_framed m more fits; several = λ m fits more. several_framed m more fits }
