use Rattle.std.proofs.Common.{sym, ap, ◌∙◌, ◌-◌, length}
use Rattle.std.proofs.Math.Numerals.{suc-eq-add-one}
use Rattle.std.specs.Prelude.{slice_get, nat_le}
use Rattle.automations.proofs.ReadingLemmas.{behind_last_line}
use Rattle.automations.proofs.script_text.Reading.rises.Goals as goal

pub returns-in-Some : goal.returns-in-Some
returns-in-Some g c =
    let line = c.in-Some.line.now in
    let last = sym (c.in-Some.ensures.value ∙ ap (λ ls. slice_get ls (length ls - 1)) c.deref.ensures.value) in
    ap (λ k. nat_le k c.args.packet) (suc-eq-add-one line.packet ∙ sym (behind_last_line c.args.self.now.lines.items 0 line last))
