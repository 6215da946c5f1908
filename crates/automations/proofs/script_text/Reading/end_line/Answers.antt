use Rattle.std.proofs.Common.{sym, subst, arith, ◌++◌, ◌∷◌, []}
use Rattle.automations.specs.ScriptReading.{IsBehind}
use Rattle.automations.specs.ScriptLines.{lines_from}
use Rattle.automations.specs.ScriptText.{SpellsLines}
use Rattle.automations.proofs.ReadingLemmas.{line_ends}
use Rattle.automations.proofs.PlaceLemmas.{line_on}
use Rattle.automations.proofs.script_text.Reading.end_line.Goals as goal

pub returns-clause-whole : goal.returns-clause-whole
returns-clause-whole g c = λ h.
    let some = c.if-count-eq0.false in
    let bytes = c.args.self.now.bytes.items in
    let size = c.args.self.now.bytes.ok.0 in
    let end = c.len-end.ensures in
    subst (λ ls. IsBehind bytes ls 0) (sym c.in-Ok.ensures.items)
    (line_ends bytes c.args.self.now.lines.items (record { packet = c.args.packet; end = c.len-end.result }) c.args.count h (omega (arith, some)) (omega (arith, size, end)))

pub returns-clause-text : goal.returns-clause-text
returns-clause-text g c = λ text i h.
    let some = c.if-count-eq0.false in
    let bytes = c.args.self.now.bytes.items in
    let size = c.args.self.now.bytes.ok.0 in
    let end = c.len-end.ensures in
    subst (λ ls. SpellsLines 0 (text ++ 10 ∷ []) (lines_from bytes 0 ls)) (sym c.in-Ok.ensures.items)
    (line_on bytes c.args.self.now.lines.items (record { packet = c.args.packet; end = c.len-end.result }) c.args.count text i (omega (arith, some)) (omega (arith, size, end)) h)
