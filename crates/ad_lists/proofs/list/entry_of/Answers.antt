use Rattle.std.proofs.Common.{◌≡◌, ◌<◌, length, rules}
use Rattle.std.specs.List.{before_first, after_first}
use Rattle.std.specs.Str.{is_utf8}
use Rattle.std.proofs.lemmas.Str.{IsUtf8-from_is_utf8, is_utf8-from_IsUtf8}
use Rattle.ad_lists.specs.Lists.{is_space}
use Rattle.ad_lists.proofs.ListLemmas.{no_text, given}
use Rattle.ad_lists.proofs.list.entry_of.Goals as goal

pub returns-in_default : goal.returns-in_default
returns-in_default c = no_text (is_utf8 c.args.line.now) _ _ (λ e. c.in_default.ensures.cases.0 (IsUtf8-from_is_utf8 _ e))

pub returns-in-Some-number_below : goal.returns-in-Some-number_below
returns-in-Some-number_below c =
    let line = c.args.line.now in
    let number : c.in-Some.number.now ≡ before_first is_space line = search rules in
    let path : c.in-Some.path.now ≡ after_first is_space line = search rules in
    let some : 0 < length c.in-Some.path.now = search rules in
    given (is_utf8 line) c.in-Some-number_below.id c.in-Some.path.now (after_first is_space line) (before_first is_space line)
    (is_utf8-from_IsUtf8 line c.in-Ok.ensures.cases.1) path some (search rules)
