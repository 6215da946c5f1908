use Rattle.std.proofs.Common.{◌≡◌, ℕ, ◌^◌, ◌<◌, length, Some, sym, subst, rules, refl, ◌∙◌}
use Rattle.std.specs.List.{before_first, after_first}
use Rattle.std.proofs.lemmas.Str.{IsUtf8-from_is_utf8, is_utf8-from_IsUtf8}
use Rattle.decimal_numbers.specs.Numbers.{number_below}
use Rattle.ad_lists.specs.Lists.{is_space}
use Rattle.service_lists.specs.Lists.{ServiceText, said_by, behind_program, behind_cue_pid, behind_index, BlamesText}
use Rattle.service_lists.proofs.LineLemmas.{no_text, said}
use Rattle.service_lists.proofs.line.service_of.Goals as goal

pub returns-in_default-clause-refused : goal.returns-in_default-clause-refused
returns-in_default-clause-refused c = no_text c.args.line.now (λ e. c.in_default.ensures.cases.0 (IsUtf8-from_is_utf8 _ e))

pub returns-in-Ok-config_of-clause-taken : goal.returns-in-Ok-config_of-clause-taken
returns-in-Ok-config_of-clause-taken c =
    let line = c.args.line.now in
    let program : Some c.in-Some.program ≡ number_below (before_first is_space line) (2 ^ 16) = search rules in
    let cue_pid : Some c.in-Some-number_before.cue_pid ≡ number_below (before_first is_space (behind_program line)) 8192 = search rules in
    let index : Some c.in-Some-number_before-2.index ≡ number_below (before_first is_space (behind_cue_pid line)) (2 ^ 16) = search rules in
    let path : c.in-Some-number_before-2.adverts.now ≡ behind_index line = search rules in
    let some : 0 < length c.in-Some-number_before-2.adverts.now = search rules in
    let made = c.in-Ok-config_of.ensures.ok in
    rw (made.1, made.2, made.3) (said line _ _ _ _ (is_utf8-from_IsUtf8 line c.in-Ok.ensures.cases.1) program cue_pid index path some, made.0)

pub returns-in-Err-clause-refused : goal.returns-in-Err-clause-refused
returns-in-Err-clause-refused c =
    let line = c.args.line.now in
    let program : Some c.in-Some.program ≡ number_below (before_first is_space line) (2 ^ 16) = search rules in
    let cue_pid : Some c.in-Some-number_before.cue_pid ≡ number_below (before_first is_space (behind_program line)) 8192 = search rules in
    let index : Some c.in-Some-number_before-2.index ≡ number_below (before_first is_space (behind_cue_pid line)) (2 ^ 16) = search rules in
    let path : c.in-Some-number_before-2.adverts.now ≡ behind_index line = search rules in
    let some : 0 < length c.in-Some-number_before-2.adverts.now = search rules in
    let told : said_by line ≡ Some (record { program = c.in-Some.program; cue_pid = c.in-Some-number_before.cue_pid; index = c.in-Some-number_before-2.index; adverts = c.in-Some-number_before-2.adverts.now }) =
    said line _ _ _ _ (is_utf8-from_IsUtf8 line c.in-Ok.ensures.cases.1) program cue_pid index path some in
    let (bad, name, wrong) = c.in-Err.ensures.refused in
    subst (λ f. BlamesText f line) (sym name) (_, told, wrong)
