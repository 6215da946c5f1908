use Rattle.std.proofs.Common.{sym, ◌∙◌}
use Rattle.program_follower.proofs.StreamLemmas.{starts_read_off, none_fault}
use Rattle.program_follower.proofs.PlaceLemmas.{unplaced}
use Rattle.program_follower.proofs.starts.Starts.feed.Goals as goal

pub returns-in_default-clause-reads : goal.returns-in_default-clause-reads
returns-in_default-clause-reads c = λ ps past h.
    starts_read_off c.args.self.now ps c.args.packet.now past (unplaced ps c.args.packet.now (sym c.in_default.is ∙ c.place_of.ensures.first ps h.places)) h

pub returns-in_default-clause-ok : goal.returns-in_default-clause-ok
returns-in_default-clause-ok c = λ ps past h. none_fault ps c.args.packet.now past (unplaced ps c.args.packet.now (sym c.in_default.is ∙ c.place_of.ensures.first ps h.places))
