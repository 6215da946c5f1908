use Rattle.std.proofs.Common.{rules, ◌≡◌, ◌≤◌, [], false, length, refl, sym, ap, ◌∙◌}
use Rattle.std.specs.Option.{option_copied}
use Rattle.service_laws.specs.Messages.{share_an_index}
use Rattle.chain_services.proofs.BeginLemmas.{first_index}
use Rattle.chain_services.proofs.services.Services.new_in.Goals as goal

pub returns-clause-ok : goal.returns-clause-ok
returns-clause-ok g c =
    let few : length c.args.configs.now ≤ 8 = search rules in
    let apart : share_an_index c.args.configs.now ≡ false = search rules in
    record {
      talk = search rules;
      serve = λ ts e. c.in-Ok-services_of.ensures ts e;
      none = λ ts e. record {
        index = c.in-Some.first.now.index;
        steps = [];
        is_first = first_index ts c.args.configs.now c.in-Some.first.now e (sym c.first.ensures.value ∙ ap option_copied c.in-Some.is);
        stands = c.new.ensures.stands;
      };
      counts = record { messages = refl; accepted = refl; refused = refl };
      owners = c.new-2.ensures;
      indexes = apart;
      few = few;
    }
