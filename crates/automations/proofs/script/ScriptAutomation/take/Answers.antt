use Rattle.std.proofs.Common.{List, ◌≡◌, ◌≢◌, ◌<◌, ◌+◌, [], ◌∷◌, sym, ap, ◌∙◌, subst, arith, drop, take, ◌++◌}
use Rattle.std.proofs.lemmas.List.{drop-drop}
use Rattle.chain_engine.specs.Automation.{piece}
use Rattle.automations.specs.ScriptLines.{ScriptLine, count_due, GivesFrom}
use Rattle.automations.proofs.ScriptLemmas.{gives_nothing, goes_on_waiting, goes_on_behind, fits, end_is, lies_in, piece_is}
use Rattle.automations.proofs.script.ScriptAutomation.take.Given as given
use Rattle.automations.proofs.script.ScriptAutomation.take.Goals as goal

pub returns-then-due-eq0-clause-takes : goal.returns-then-due-eq0-clause-takes
returns-then-due-eq0-clause-takes g c =
    let s = c.args.self.now in
    let left = drop s.next s.lines.items in
    let e = sym c.count_due-due.ensures.due ∙ c.if-due-eq0.true in
    let n = c.saturating_add-self.ensures in
    λ script h few.
    let next : c.saturating_add-self.result ≡ s.packet + 1 = omega (arith, n, few) in (
      ap (λ l. piece l ∷ []) (sym (gives_nothing s.bytes.items s.begin s.packet left script h e)),
      next,
      goes_on_waiting s.bytes.items s.begin s.packet left script h c.saturating_add-self.result next e,
    )

-- the bytes that are due lie inside
never_out : (g : given.Over) (c : goal.In_default g) (script : List ScriptLine) → GivesFrom c.args.self.now.bytes.items c.args.self.now.begin c.args.self.now.packet (drop c.args.self.now.next c.args.self.now.lines.items) script → ⊥
never_out g c script h =
    let s = c.args.self.now in
    let left = drop s.next s.lines.items in
    let due = c.count_due-due.ensures.due in
    let ne : count_due s.begin s.packet left ≢ 0 = λ z. c.if-due-eq0.false (due ∙ z) in
    let least = fits s.bytes.items s.begin s.packet left script h ne in
    let room = c.requires.room in
    let took = c.min-count.ensures in
    let count : c.min-count.result ≡ count_due s.begin s.packet left = omega (arith, least, room, took, due) in
    let inside = lies_in s.bytes.items s.begin s.packet left script h ne c.min-count.result c.saturating_add-end.result c.deref.result.now [] [] count c.saturating_add-end.ensures c.deref.ensures.value c.deref.type_inv.0 in
    let low = inside.0 in
    let high = inside.1 in
    let out = c.in_default.ensures.lookup.0 in
    omega (arith, low, high, out)

pub returns-in_default-clause-takes : goal.returns-in_default-clause-takes
returns-in_default-clause-takes g c = λ script h few. absurd (never_out g c script h)

pub returns-then-count-due-clause-takes : goal.returns-then-count-due-clause-takes
returns-then-count-due-clause-takes g c =
    let s = c.args.self.now in
    let left = drop s.next s.lines.items in
    let due = c.count_due-due.ensures.due in
    let e = c.in-Some.ensures.lookup.0 in
    let n = c.saturating_add-self.ensures in
    let m = c.saturating_add-self-then-count-due.ensures in
    λ script h few.
    let ne : count_due s.begin s.packet left ≢ 0 = λ z. c.if-due-eq0.false (due ∙ z) in
    let given = ap (λ l. piece (take c.min-count.result (l ++ drop c.min-count.result c.args.room.now))) c.copy_from_slice.ensures.after
    ∙ ap piece (piece_is s.bytes.items s.begin s.packet left script h ne c.min-count.result c.saturating_add-end.result c.deref.result.now c.in-Some.bytes.now
    (drop c.min-count.result c.args.room.now) (c.if-count-due.true ∙ due) c.saturating_add-end.ensures c.deref.ensures.value c.deref.type_inv.0 e.2 e.3) in
    let asked : c.saturating_add-self.result ≡ s.packet + 1 = omega (arith, n, few) in
    let at = end_is s.bytes.items s.begin s.packet left script h ne c.min-count.result c.saturating_add-end.result c.deref.result.now c.in-Some.bytes.now [] (c.if-count-due.true ∙ due) c.saturating_add-end.ensures c.deref.ensures.value c.deref.type_inv.0 in
    let not_none = c.if-due-eq0.false in
    let some : 0 < c.count_due-due.result = omega (arith, not_none) in
    let within = c.count_due-due.ensures.within some in
    let next : c.saturating_add-self-then-count-due.result ≡ s.next + 1 = omega (arith, m, within) in
    let lines = drop-drop 1 s.next s.lines.items ∙ ap (λ k. drop k s.lines.items) (sym next) in (
      ap (λ x. x ∷ []) given,
      asked,
      subst (λ l. GivesFrom s.bytes.items c.saturating_add-end.result c.saturating_add-self.result l script) lines
          (subst (λ b. GivesFrom s.bytes.items b c.saturating_add-self.result (drop 1 left) script) (sym at)
          (goes_on_behind s.bytes.items s.begin s.packet left script h ne c.saturating_add-self.result asked)),
    )

-- a piece takes all that is due
never_less : (g : given.Over) (c : goal.Else-count-due g) (script : List ScriptLine) → GivesFrom c.args.self.now.bytes.items c.args.self.now.begin c.args.self.now.packet (drop c.args.self.now.next c.args.self.now.lines.items) script → ⊥
never_less g c script h =
    let s = c.args.self.now in
    let left = drop s.next s.lines.items in
    let due = c.count_due-due.ensures.due in
    let ne : count_due s.begin s.packet left ≢ 0 = λ z. c.if-due-eq0.false (due ∙ z) in
    let least = fits s.bytes.items s.begin s.packet left script h ne in
    let room = c.requires.room in
    let took = c.min-count.ensures in
    c.if-count-due.false (omega (arith, least, room, took, due))

pub returns-else-count-due-clause-takes : goal.returns-else-count-due-clause-takes
returns-else-count-due-clause-takes g c = λ script h few. absurd (never_less g c script h)
