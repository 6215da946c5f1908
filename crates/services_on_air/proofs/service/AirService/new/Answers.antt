use Rattle.std.proofs.Common.{[], refl, None, sym, subst}
use Rattle.program_follower.specs.Purposes.{writing_cues}
use Rattle.chain_engine.specs.Passing.{ServiceStandsFor}
use Rattle.services_on_air.proofs.GoneLemmas.{airs-new}
use Rattle.services_on_air.proofs.KeptLemmas.{kept-new}
use Rattle.services_on_air.proofs.service.AirService.new.Goals as goal

pub returns-clause-stands : goal.returns-clause-stands
returns-clause-stands c =
    let stands = c.new.ensures (λ n. None) in
    record {
      config = stands.config;
      marks = c.new-2.ensures.keeps (writing_cues c.args.config);
      followed = record { steps = []; injector = stands.injector; packets = refl };
      is_empty = refl;
      shares = refl;
      begun = refl;
      quiet = stands.injector.news;
    }

pub returns-clause-gone : goal.returns-clause-gone
returns-clause-gone c = λ t is.
    let stands = subst (λ d. ServiceStandsFor c.new.result d t.filed []) (sym is) (c.new.ensures t.filed) in
    record {
      airs = airs-new c.new.result t stands;
      tail = kept-new c.new-3.result (writing_cues t.config) c.new-3.ensures;
      counted = c.new-4.ensures;
      lost = refl;
    }
