use Rattle.std.proofs.Common.{sym}
use Rattle.break_timelines.specs.Timelines.{pictures_behind}
use Rattle.break_timelines.proofs.pictures.Pictures.new.Goals as goal

pub returns : goal.returns
unfolding pictures_behind
returns c = λ program after. sym c.new.ensures.items
