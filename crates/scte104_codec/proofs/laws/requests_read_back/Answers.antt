use Rattle.scte104_codec.proofs.RequestLemmas.{request_back, ids_back}
use Rattle.scte104_codec.proofs.laws.requests_read_back.Goals as goal

pub returns : goal.returns
returns c = record { request = request_back; ids = ids_back }
