use Rattle.std.proofs.Common.{true, refl, sym, ◌∙◌}
use Rattle.program_follower.specs.Purposes.{writing_cues}
use Rattle.on_air.specs.AirRuns.{newest}
use Rattle.services_on_air.proofs.ServiceLemmas.{judges-on, goes-settled}
use Rattle.services_on_air.proofs.GoneLemmas.{not-anew}
use Rattle.services_on_air.proofs.service.AirService.stays_still.Goals as goal

pub returns-in-Some-clause-settled : goal.returns-in-Some-clause-settled
returns-in-Some-clause-settled c = λ a h.
    let s = c.args.self.now in
    let p = c.args.packet.now in
    let on = c.in-Some.ensures.goes_on in
    let becomes = c.in-Some.ensures.becomes a.config (newest a.stretches) h.config h.marks h.followed in
    goes-settled s s p a true h on.0 on.1 refl refl refl refl c.in-Some.ensures.alone.0 (judges-on s.marks (writing_cues a.config) p a.stretches (sym h.is_empty ∙ on.0) becomes)

pub returns-in-Some-clause-anew : goal.returns-in-Some-clause-anew
returns-in-Some-clause-anew c = λ a h.
    let s = c.args.self.now in
    let p = c.args.packet.now in
    let on = c.in-Some.ensures.goes_on in
    let becomes = c.in-Some.ensures.becomes a.config (newest a.stretches) h.config h.marks h.followed in
    not-anew p a s true (sym h.shares ∙ on.1) (judges-on s.marks (writing_cues a.config) p a.stretches (sym h.is_empty ∙ on.0) becomes)
