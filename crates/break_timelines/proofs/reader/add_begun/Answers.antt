use Rattle.std.proofs.Common.{◌||◌, ap, sym, ◌∙◌}
use Rattle.break_timelines.specs.Timelines.{has_place, is_of}
use Rattle.break_timelines.proofs.PictureLemmas.{has_more}
use Rattle.break_timelines.proofs.reader.add_begun.Goals as goal

pub returns-in_ok-push : goal.returns-in_ok-push
returns-in_ok-push c = λ place.
    ap (has_place place) c.in_ok-push.ensures.items ∙ has_more place c.in-Some.timed.index c.args.begun.now.items
    ∙ ap (λ t. is_of place t || has_place place c.args.begun.now.items) (sym c.in-Some.is)
