use Rattle.std.proofs.Common.{rules}
use Rattle.std.specs.Str.{is_utf8}
use Rattle.std.proofs.lemmas.Str.{IsUtf8-from_is_utf8, is_utf8-from_IsUtf8}
use Rattle.break_lists.proofs.WordLemmas.{text_is_read, no_text_is_read}
use Rattle.break_lists.proofs.words.whole_number.Goals as goal

pub returns-in-Ok-clause-value : goal.returns-in-Ok-clause-value
returns-in-Ok-clause-value c =
    text_is_read (is_utf8 c.args.word.now) _ c.number_below.result (is_utf8-from_IsUtf8 c.args.word.now c.in-Ok.ensures.cases.1) (search rules)

pub returns-in-Err-clause-value : goal.returns-in-Err-clause-value
returns-in-Err-clause-value c = no_text_is_read (is_utf8 c.args.word.now) _ (λ e. c.in-Err.ensures.cases.0 (IsUtf8-from_is_utf8 _ e))
