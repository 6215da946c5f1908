use Rattle.break_plans.proofs.DraftLemmas.{an_end}
use Rattle.break_plans.proofs.drafts.Setting.end.Goals as goal

pub returns-in-Ok : goal.returns-in-Ok
returns-in-Ok c = an_end c.args.self.now c.args.at c.args.event c.ended.result (c.ended.ensures c.args.at c.in-Ok.ensures.placed)
