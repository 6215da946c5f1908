use Rattle.splice_laws.proofs.PidLemmas.{pids_are_streams}
use Rattle.splice_laws.proofs.laws.pids_are_streams.Goals as goal

pub returns : goal.returns
returns c = pids_are_streams
