use Rattle.std.proofs.Common.{ℕ, List, ◌++◌, sym, ap, ◌∙◌, rules, append_assoc}
use Rattle.std.specs.Prelude.{codes}
use Rattle.std.proofs.Output.{has_written_append}
use Rattle.codec_text.specs.Texts.{more_avails_text, number32_text}
use Rattle.codec_text.proofs.cue.MoreAvailsDisplay.fmt.Goals as goal

pub loop-avail-preserved : goal.loop-avail-preserved
loop-avail-preserved g c = λ plain.
    let so_far = c.loop-avail.invariant plain in
    let text : List ℕ = codes "," ++ number32_text c.in-Some.avail in
    let steps = c.in-Some.ensures.steps in (
      so_far.0 ++ text,
      has_written_append _ _ _ _ _ _ so_far.1 (search rules),
      append_assoc so_far.0 text _ ∙ ap (λ (t : List ℕ). so_far.0 ++ t) (sym (ap more_avails_text steps)) ∙ so_far.2,
    )
