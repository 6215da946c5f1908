use Rattle.std.proofs.Common.{rules, [], refl, sym, subst}
use Rattle.services_on_air.specs.Standing.{AllStand}
use Rattle.std.proofs.Common.{ap, ◌∙◌}
use Rattle.std.specs.Option.{option_copied}
use Rattle.chain_services.proofs.BeginLemmas.{first_index}
use Rattle.services_on_air.specs.Serving.{AllGone}
use Rattle.std.proofs.Common.{◌≡◌, true, false}
use Rattle.services_on_air.specs.Owners.{IsBeside}
use Rattle.services_on_air.proofs.OwnerLemmas.{all-take}
use Rattle.services_on_air.proofs.services.AirServices.new_in.Goals as goal

pub returns-clause-ok : goal.returns-clause-ok
returns-clause-ok g c = record {
  ts = [];
  n = 0;
  k = 0;
  talks = search rules;
  all = c.in-Ok-add_services.ensures.stands [] (subst (λ l. AllStand l []) (sym c.in-Ok-with_capacity.ensures.items) tt);
  packets = refl;
  unjudged = refl;
  owners = all-take IsBeside c.new-2.result _ c.new-2.ensures;
  judged = λ quiet. absurd (let no : true ≡ false = quiet in cc);
}

pub returns-clause-begins : goal.returns-clause-begins
returns-clause-begins g c = record {
  talks = search rules;
  gone = λ ts e. record {
    all = c.in-Ok-add_services.ensures.gone [] ts [] e (subst (λ l. AllGone l [] []) (sym c.in-Ok-with_capacity.ensures.items) tt);
    none = record {
      index = c.in-Some.first.now.index;
      steps = [];
      is_first = first_index ts c.args.configs.now c.in-Some.first.now e (sym c.first.ensures.value ∙ ap option_copied c.in-Some.is);
      stands = c.new.ensures.stands;
    };
  };
  counts = record { messages = refl; accepted = refl; refused = refl };
  indexes = c.in-Ok.ensures.ok.indexes;
}
