use Rattle.std.proofs.Common.{subst}
use Rattle.automations.specs.ScriptReading.{IsAt, IsTextAt}
use Rattle.automations.proofs.StopLemmas.{ends_empty, ends_half, ends_number}
use Rattle.automations.proofs.script_text.Reading.finish.Goals as goal

pub returns-in-Bytes-clause-stops : goal.returns-in-Bytes-clause-stops
returns-in-Bytes-clause-stops g c = λ text r bad.
    let old = c.args.self.now in
    let at = subst (λ p. IsTextAt old.bytes.items old.lines.items p text) c.in-Bytes.is r.text_is in
    let i = subst (IsAt old.bytes.items old.lines.items) c.in-Bytes.is r.reading in
    ends_empty old.bytes.items old.lines.items c.in-Bytes.packet text at c.in-Bytes.count i (c.end_line.ensures.empty bad)

pub returns-in-Number-clause-stops : goal.returns-in-Number-clause-stops
returns-in-Number-clause-stops g c = λ text r bad.
    let old = c.args.self.now in
    let at = subst (λ p. IsTextAt old.bytes.items old.lines.items p text) c.in-Number.is r.text_is in
    ends_number old.bytes.items old.lines.items at.0 text c.in-Number.field-0 at.1 at.2

pub returns-in-Half-clause-stops : goal.returns-in-Half-clause-stops
returns-in-Half-clause-stops g c = λ text r bad.
    let old = c.args.self.now in
    let at = subst (λ p. IsTextAt old.bytes.items old.lines.items p text) c.in-Half.is r.text_is in
    ends_half old.bytes.items old.lines.items c.in-Half.field-0 text at.0 c.in-Half.field-2 at.1 at.3
