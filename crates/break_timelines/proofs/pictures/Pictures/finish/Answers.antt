use Rattle.std.proofs.Common.{◌≡◌, ◌∙◌}
use Rattle.break_timelines.proofs.UnitLemmas.{ended_last}
use Rattle.break_timelines.proofs.pictures.Pictures.finish.Goals as goal

pub returns : goal.returns
returns c = λ program past s.
    c.in_ok-settle.ensures.settled ∙ ended_last program past c.args.self.settled.items c.args.self.unfinished c.args.self.unit.items s
