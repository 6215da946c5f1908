use Rattle.break_plans.proofs.DraftLemmas.{a_break}
use Rattle.break_plans.proofs.drafts.Setting.start.Goals as goal

pub returns-in-Some : goal.returns-in-Some
returns-in-Some c =
    a_break c.args.self.now c.args.at c.args.event c.args.advert c.args.length c.started.result
    (c.started.ensures c.args.at c.args.length c.in-Ok.ensures.placed c.in-Some.ensures.ends)
