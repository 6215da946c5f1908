use Rattle.std.proofs.Common.{ℕ, List, ◌++◌, sym, ap, ◌∙◌, rules, append_assoc}
use Rattle.std.proofs.Output.{has_written_append}
use Rattle.codec_text.specs.Texts.{more_operations_text, operation_text}
use Rattle.codec_text.proofs.message.MoreOperationsDisplay.fmt.Goals as goal

pub loop-op-preserved : goal.loop-op-preserved
loop-op-preserved g c = λ plain.
    let so_far = c.loop-op.invariant plain in
    let text : List ℕ = operation_text (record { op = c.in-Some.op; body = c.in-Some.data.now }) in
    let steps = c.in-Some.ensures.steps in (
      so_far.0 ++ text,
      has_written_append _ _ _ _ _ _ so_far.1 (search rules),
      append_assoc so_far.0 text _ ∙ ap (λ (t : List ℕ). so_far.0 ++ t) (sym (ap more_operations_text steps)) ∙ so_far.2,
    )
