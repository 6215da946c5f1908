use Rattle.std.proofs.Common.{rules}
use Rattle.std.proofs.lemmas.Fn.{filter_same}
use Rattle.stream_facts.specs.Facts.{is_told_program}
use Rattle.stream_facts.proofs.programs.of_number.Goals as goal

pub returns : goal.returns
returns c = filter_same _ (is_told_program c.args.wanted) _ (λ x b q h. (search rules, search rules)) _ _ c.retain.ensures.filtered
