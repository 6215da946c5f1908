use Rattle.std.proofs.Common.{◌≡◌, ◌∷◌, Some, ap, sym, ◌∙◌}
use Rattle.break_timelines.specs.Timelines.{begun_at}
use Rattle.break_timelines.proofs.UnitLemmas.{ended_before}
use Rattle.break_timelines.proofs.pictures.Pictures.feed.Goals as goal

pub returns-in_ok-settle-in-Some : goal.returns-in_ok-settle-in-Some
returns-in_ok-settle-in-Some c = λ program past s begun.
    let self = c.args.self.now in
    let p = c.args.packet.now in
    let some : Some c.in-Some.picture ≡ begun_at program p past = sym c.in-Some.is ∙ begun in
    c.begin.ensures program past c.in_ok-settle-in-Some.ensures.open
    (λ after. ended_before program p past self.settled.items self.unfinished self.unit.items c.in-Some.picture some s after
    ∙ sym c.in_ok-settle-in-Some.ensures.settled) some
