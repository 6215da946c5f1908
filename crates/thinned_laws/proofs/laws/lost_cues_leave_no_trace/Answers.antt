use Rattle.thinned_laws.proofs.Traces.{lost_cues_leave_no_trace}
use Rattle.thinned_laws.proofs.laws.lost_cues_leave_no_trace.Goals as goal

pub returns : goal.returns
returns c = lost_cues_leave_no_trace
