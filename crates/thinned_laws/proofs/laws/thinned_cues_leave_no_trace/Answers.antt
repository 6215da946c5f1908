use Rattle.thinned_laws.proofs.Traces.{thinned_cues_leave_no_trace}
use Rattle.thinned_laws.proofs.laws.thinned_cues_leave_no_trace.Goals as goal

pub returns : goal.returns
returns c = thinned_cues_leave_no_trace
