use Rattle.std.proofs.Common.{ap, ◌∙◌, take}
use Rattle.std.proofs.lemmas.List.{take_min}
use Rattle.break_timelines.specs.Timelines.{looked_at}
use Rattle.break_timelines.proofs.UnitLemmas.{judged_as}
use Rattle.break_timelines.proofs.pictures.BegunPicture.judged.Goals as goal

pub returns-then-self : goal.returns-then-self
returns-then-self c =
    judged_as c.args.self.now c.args.unit.now (take c.min.result c.args.unit.now) c.continues.result c.if-self.true
    (ap (λ n. take n c.args.unit.now) c.min.ensures ∙ take_min looked_at c.args.unit.now) c.continues.ensures
