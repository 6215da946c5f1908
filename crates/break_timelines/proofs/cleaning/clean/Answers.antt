use Rattle.std.proofs.Common.{ap, ◌∙◌, None}
use Rattle.break_timelines.specs.Cleaning.{from_before}
use Rattle.break_timelines.proofs.CleanLemmas.{both_ways}
use Rattle.break_timelines.proofs.cleaning.clean.Goals as goal

pub returns : goal.returns
returns c = c.clear_before.ensures ∙ ap (from_before None) c.clear_behind.ensures ∙ both_ways c.args.pictures.now
