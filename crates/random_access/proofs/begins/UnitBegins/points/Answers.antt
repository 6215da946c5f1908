use Rattle.random_access.proofs.PointLemmas.{points_of_all}
use Rattle.random_access.proofs.begins.UnitBegins.points.Goals as goal

pub returns : goal.returns
returns c = λ bs h. points_of_all (λ v. v.items) c.marked_points.result c.args.coding c.args.self.now.marked.items bs h.marked c.marked_points.ensures
