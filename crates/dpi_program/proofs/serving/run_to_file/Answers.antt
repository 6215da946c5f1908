use Rattle.std.proofs.Common.{◌≡◌, ◌∙◌, sym, subst, ap, ◌∷◌, [], map, Ok, option_copied}
use Rattle.std.proofs.lemmas.Result.{IfOk-weaker, IfOk-at_ok}
use Rattle.dpi_program.specs.Ends.{IsMade}
use Rattle.dpi_program.proofs.serving.run_to_file.Goals as goal

-- the file that was made is the one that was run to, and it was made beside the files that were opened
pub returns-clause-done : goal.returns-clause-done
returns-clause-done g c = λ off.
    let opened = c.in_ok-opened.opened in
    let about = opened.network.about in
    let script = opened.script in
    let list = opened.listed in
    let log = c.in_ok-end.field-0.about in
    let made : c.make_output-made.result ≡ Ok c.in_ok-file.file = sym c.tell_fault.ensures ∙ c.in_ok-file.was in
    let others : map option_copied (c.as_ref-about.result ∷ c.as_ref-script.result ∷ c.as_ref-listed.result ∷ c.as_ref.result ∷ []) ≡ about ∷ script ∷ list ∷ log ∷ [] =
    ap (λ x. x ∷ option_copied c.as_ref-script.result ∷ option_copied c.as_ref-listed.result ∷ option_copied c.as_ref.result ∷ []) c.as_ref-about.ensures.value
    ∙ ap (λ x. about ∷ x ∷ option_copied c.as_ref-listed.result ∷ option_copied c.as_ref.result ∷ []) c.as_ref-script.ensures.value
    ∙ ap (λ x. about ∷ script ∷ x ∷ option_copied c.as_ref.result ∷ []) c.as_ref-listed.ensures.value ∙ ap (λ x. about ∷ script ∷ list ∷ x ∷ []) c.as_ref.ensures.value in
    let is_made : IsMade g.R.RunFiles.makes_at c.args.options.now.output (about ∷ script ∷ list ∷ log ∷ []) c.in_ok-file.file =
    subst (λ beside. IsMade g.R.RunFiles.makes_at c.args.options.now.output beside c.in_ok-file.file) others (IfOk-at_ok _ made c.make_output-made.ensures.made) in
    IfOk-weaker c.run_ends.result _ _ (λ ran done. (c.in_ok-file.file, c.run_ends.new.output, (opened, g.I.Read.remaining c.open_inputs.new.input, c.in_ok-opened.ensures.opened, ((log, is_made), done)))) (c.run_ends.ensures.done (c.in_ok-on_air.ensures.plain off))

pub returns-clause-on_air : goal.returns-clause-on_air
returns-clause-on_air g c = λ on.
    let opened = c.in_ok-opened.opened in
    let about = opened.network.about in
    let script = opened.script in
    let list = opened.listed in
    let log = c.in_ok-end.field-0.about in
    let made : c.make_output-made.result ≡ Ok c.in_ok-file.file = sym c.tell_fault.ensures ∙ c.in_ok-file.was in
    let others : map option_copied (c.as_ref-about.result ∷ c.as_ref-script.result ∷ c.as_ref-listed.result ∷ c.as_ref.result ∷ []) ≡ about ∷ script ∷ list ∷ log ∷ [] =
    ap (λ x. x ∷ option_copied c.as_ref-script.result ∷ option_copied c.as_ref-listed.result ∷ option_copied c.as_ref.result ∷ []) c.as_ref-about.ensures.value
    ∙ ap (λ x. about ∷ x ∷ option_copied c.as_ref-listed.result ∷ option_copied c.as_ref.result ∷ []) c.as_ref-script.ensures.value
    ∙ ap (λ x. about ∷ script ∷ x ∷ option_copied c.as_ref.result ∷ []) c.as_ref-listed.ensures.value ∙ ap (λ x. about ∷ script ∷ list ∷ x ∷ []) c.as_ref.ensures.value in
    let is_made : IsMade g.R.RunFiles.makes_at c.args.options.now.output (about ∷ script ∷ list ∷ log ∷ []) c.in_ok-file.file =
    subst (λ beside. IsMade g.R.RunFiles.makes_at c.args.options.now.output beside c.in_ok-file.file) others (IfOk-at_ok _ made c.make_output-made.ensures.made) in
    IfOk-weaker c.run_ends.result _ _ (λ ran done. (c.in_ok-file.file, c.run_ends.new.output, (opened, g.I.Read.remaining c.open_inputs.new.input, c.in_ok-opened.ensures.opened, ((log, is_made), done)))) (c.run_ends.ensures.on_air (c.in_ok-on_air.ensures.on_air on))
