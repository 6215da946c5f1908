use Rattle.std.proofs.Common.{◌+◌, refl, sym, ap, subst}
use Rattle.std.specs.Prelude.{if◌then◌else◌}
use Rattle.psi_section.specs.Assembling.{capped}
use Rattle.services_on_air.specs.Airing.{parted}
use Rattle.services_on_air.specs.Standing.{AllStand}
use Rattle.services_on_air.specs.Owners.{HasOwnersOnAir}
use Rattle.services_on_air.proofs.PassLemmas.{stands-next}
use Rattle.services_on_air.proofs.AllLemmas.{stays-gone}
use Rattle.services_on_air.proofs.services.AirServices.passed_still.Goals as goal

pub returns-clause-stands : goal.returns-clause-stands
returns-clause-stands g c = λ cs past told h still judged.
    let old = c.args.self.now in
    let desk = old.desk in
    stands-next old _ _ cs c.args.packet.now past told h c.saturating_add-self.ensures (sym (ap (λ b. if b then capped (old.unjudged + 1) else old.unjudged) judged)) refl refl
    (λ xs all. subst (λ b. AllStand desk.services.items (if b then parted xs else xs)) (sym still) all)
    (λ xs all owns. subst (λ b. HasOwnersOnAir desk.owners (if b then parted xs else xs)) (sym still) (owns still)) (λ j. j) refl refl refl

pub returns-clause-gone : goal.returns-clause-gone
returns-clause-gone g c = λ ts past takes rs gone. stays-gone c.args.self.now _ ts past takes rs refl refl (λ gs d. d) gone
