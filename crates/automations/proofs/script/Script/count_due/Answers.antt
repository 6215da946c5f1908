use Rattle.std.proofs.Common.{suc, ◌≤◌, sym, ap, ◌∙◌, arith, drop, length, get_or}
use Rattle.std.proofs.lemmas.List.{drop_all}
use Rattle.automations.specs.ScriptLines.{count_due}
use Rattle.automations.proofs.ScriptLemmas.{comes, waits, is_due}
use Rattle.automations.proofs.script.Script.count_due.Goals as goal

pub returns-in_default-clause-due : goal.returns-in_default-clause-due
returns-in_default-clause-due g c =
    let e = c.in_default.ensures.lookup in
    let size = ap length c.deref.ensures.value in
    let s = c.args.self.now in
    let le : length s.lines.items ≤ s.next = omega (arith, size, e.3) in
    sym (ap (count_due s.begin s.packet) (drop_all s.next s.lines.items le))

pub returns-then-line-self-clause-due : goal.returns-then-line-self-clause-due
returns-then-line-self-clause-due g c =
    let e = c.in-Some.ensures.lookup in
    let v = c.deref.ensures.value in
    let size = ap length v in
    let s = c.args.self.now in
    let line = c.in-Some.line.now in
    let here = comes s.lines.items s.next line (omega (arith, size, e.3.0)) (e.1 ∙ ap (λ ls. get_or ls s.next line) v) in
    sym (ap (count_due s.begin s.packet) here ∙ waits s.begin s.packet line (drop (suc s.next) s.lines.items) c.if-line-self.true)

pub returns-clause-due : goal.returns-clause-due
returns-clause-due g c =
    let e = c.in-Some.ensures.lookup in
    let v = c.deref.ensures.value in
    let size = ap length v in
    let s = c.args.self.now in
    let line = c.in-Some.line.now in
    let here = comes s.lines.items s.next line (omega (arith, size, e.3.0)) (e.1 ∙ ap (λ ls. get_or ls s.next line) v) in
    c.saturating_sub.ensures ∙ sym (ap (count_due s.begin s.packet) here ∙ is_due s.begin s.packet line (drop (suc s.next) s.lines.items) c.if-line-self.false)
