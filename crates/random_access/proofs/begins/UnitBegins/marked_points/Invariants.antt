use Rattle.std.proofs.Common.{◌≡◌, take}
use Rattle.std.specs.List.{filter_map}
use Rattle.random_access.specs.Points.{point_of}
use Rattle.random_access.proofs.begins.UnitBegins.marked_points.Given as goal

-- the points found so far are those among the begins so far
abbrev pub invariant-loop-begin : goal.invariant-loop-begin
invariant-loop-begin l = l.points.items ≡ filter_map (point_of l.coding) (take l.begin-index l.begin-items)
