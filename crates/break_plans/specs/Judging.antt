-- A request that was judged, but for its verdict.
use Rattle.break_plans.specs.declared.planned.Judged.{Judged}
use Rattle.break_plans.specs.declared.order.AskedBy.{AskedBy}

abbrev pub unjudged : Judged → AskedBy
unjudged j = record { place = j.place; placed = j.placed }
