use Rattle.std.proofs.Common.{sym, ◌∙◌}
use Rattle.program_follower.proofs.StreamLemmas.{none_fault}
use Rattle.program_follower.proofs.PlaceLemmas.{unplaced}
use Rattle.program_follower.proofs.starts.Starts.look.Goals as goal

pub returns-in_default : goal.returns-in_default
returns-in_default c = λ ps past h.
    let p = c.args.packet.now in
    sym (none_fault ps p past (unplaced ps p (sym c.in_default.is ∙ c.place_of.ensures.first ps h.places)))
