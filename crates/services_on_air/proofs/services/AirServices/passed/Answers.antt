use Rattle.std.proofs.Common.{ap, ◌∙◌, subst, sym}
use Rattle.services_on_air.specs.Serving.{DeskGone}
use Rattle.services_on_air.specs.declared.desk.AirDesk.{AirDesk}
use Rattle.services_on_air.proofs.PassLemmas.{stands-next}
use Rattle.services_on_air.proofs.AllLemmas.{stays-gone}
use Rattle.services_on_air.proofs.services.AirServices.passed.Goals as goal

pub returns-clause-stands : goal.returns-clause-stands
returns-clause-stands g c = λ cs past h.
    let counted = c.count.ensures in
    let parted = c.part.ensures in
    stands-next c.args.self.now c.count.new.self c.part.new.self cs c.args.last.packet.now past c.args.passed h counted.packets counted.unjudged counted.others.0 counted.others.1
    parted.all parted.owners parted.judged parted.others.0 parted.others.1 parted.others.2

pub returns-clause-gone : goal.returns-clause-gone
returns-clause-gone g c = λ ts past takes rs gone.
    let counted = c.count.ensures.others in
    let parted = c.part.ensures in
    stays-gone c.args.self.now c.part.new.self ts past takes rs (parted.others.0 ∙ counted.0) (parted.counts ∙ ap (λ (d : AirDesk g.row.M.Denot). d.counts) counted.1)
    (λ gs d. parted.gone ts gs (subst (λ (w : AirDesk g.row.M.Denot). DeskGone w ts gs) (sym counted.1) d)) gone

pub returns-clause-talk : goal.returns-clause-talk
returns-clause-talk g c = c.part.ensures.others.0 ∙ c.count.ensures.others.0
