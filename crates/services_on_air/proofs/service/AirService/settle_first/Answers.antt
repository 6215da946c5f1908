use Rattle.std.proofs.Common.{[], not, refl, sym, ap, subst, ◌∙◌}
use Rattle.program_follower.specs.Purposes.{writing_cues}
use Rattle.chain_engine.specs.Followed.{HasFollowed}
use Rattle.on_air.specs.Stretches.{as_first, verdict}
use Rattle.services_on_air.proofs.ServiceLemmas.{first-of}
use Rattle.services_on_air.proofs.GoneLemmas.{same-gone}
use Rattle.services_on_air.proofs.service.AirService.settle_first.Goals as goal

pub returns-clause-stands : goal.returns-clause-stands
returns-clause-stands c = λ config ss h.
    let p = c.args.packet.now in
    let becomes = c.judge-verdict.ensures.becomes config [] h.config h.marks h.followed in
    let first = first-of c.judge-verdict.result c.judge-verdict.new.self.marks (writing_cues config) p becomes in
    record {
      j = as_first (verdict (writing_cues config) p []);
      past = [];
      earlier = ss;
      parts = refl;
      config = ap (λ s. s.config) c.judge-verdict.ensures.service ∙ h.config;
      marks = first.1;
      followed = subst (λ s. HasFollowed s config []) (sym c.judge-verdict.ensures.service) h.followed;
      unjudged = ap not (c.is_judged.ensures ∙ sym first.0);
      is_empty = refl;
      shares = refl;
      begun = c.judge-verdict.ensures.counts.2 ∙ h.begun;
    }

pub returns-clause-gone : goal.returns-clause-gone
returns-clause-gone c = λ t g h.
    let judged = c.judge-verdict.ensures in
    same-gone c.args.self.now _ t g judged.service judged.kept.0 judged.kept.1 judged.kept.2 h
