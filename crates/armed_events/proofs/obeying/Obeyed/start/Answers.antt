use Rattle.std.proofs.Common.{◌≡◌, sym, ap, ◌∙◌, subst}
use Rattle.std.proofs.lemmas.Bool.{and_parts}
use Rattle.event_table.specs.Standing.{on_line, is_ahead_of}
use Rattle.event_table.specs.Tables.{StandsFor, values_of}
use Rattle.armed_events.specs.Arming.{Change, is_fresh}
use Rattle.armed_events.specs.Obeying.{after_change, is_obeyed}
use Rattle.armed_events.specs.Valuing.{values_by}
use Rattle.armed_events.proofs.TestLemmas.{can-arm}
use Rattle.armed_events.proofs.ChangeLemmas.{start-refused, start-answered, arm-after}
use Rattle.armed_events.proofs.ValueLemmas.{arm-values, arm-adds, ok-obeyed}
use Rattle.armed_events.proofs.obeying.Obeyed.start.Goals as goal

pub returns-then-not-can_arm-clause-stands : goal.returns-then-not-can_arm-clause-stands
returns-then-not-can_arm-clause-stands g c = λ latest standing s.
    let refused = start-refused latest standing (on_line latest c.args.event)
    (sym (c.is_repeat.ensures latest standing s) ∙ c.if-is_repeat.false)
    (sym (can-arm c.args.self.now.table latest standing c.args.event c.can_arm.result s c.can_arm.ensures) ∙ c.if-not-can_arm.true) in
    subst (λ (x : Change). StandsFor c.args.self.now.table latest (after_change x standing)) (sym refused) s

pub returns-then-not-can_arm-clause-values : goal.returns-then-not-can_arm-clause-values
returns-then-not-can_arm-clause-values g c = λ latest standing value s fresh is.
    let refused = start-refused latest standing (on_line latest c.args.event)
    (sym (c.is_repeat.ensures latest standing s) ∙ c.if-is_repeat.false)
    (sym (can-arm c.args.self.now.table latest standing c.args.event c.can_arm.result s c.can_arm.ensures) ∙ c.if-not-can_arm.true) in
    subst (λ (x : Change). values_of c.args.self.now.table ≡ values_by value (after_change x standing)) (sym refused) is

pub returns-clause-answer : goal.returns-clause-answer
returns-clause-answer g c = λ latest standing s.
    let e = on_line latest c.args.event in
    let can = sym (can-arm c.args.self.now.table latest standing c.args.event c.can_arm.result s c.can_arm.ensures) ∙ c.if-not-can_arm.false in
    let answered = start-answered latest standing e c.arm.result (sym (c.is_repeat.ensures latest standing s) ∙ c.if-is_repeat.false) can (c.arm.ensures.answer latest standing s) in
    c.is_ok.ensures.value ∙ ok-obeyed e c.arm.result ∙ ap is_obeyed (sym answered)

pub returns-clause-stands : goal.returns-clause-stands
returns-clause-stands g c = λ latest standing s.
    let e = on_line latest c.args.event in
    let can = sym (can-arm c.args.self.now.table latest standing c.args.event c.can_arm.result s c.can_arm.ensures) ∙ c.if-not-can_arm.false in
    let answered = start-answered latest standing e c.arm.result (sym (c.is_repeat.ensures latest standing s) ∙ c.if-is_repeat.false) can (c.arm.ensures.answer latest standing s) in
    subst (λ (x : Change). StandsFor c.arm.new.self latest (after_change x standing)) (sym answered)
    (arm-after c.args.self.now.table c.arm.new.self latest standing e c.arm.result s (λ is. c.arm.ensures.new is latest standing s) c.arm.ensures.same c.arm.ensures.refused)

pub returns-clause-values : goal.returns-clause-values
returns-clause-values g c = λ latest standing value s fresh is.
    let e = on_line latest c.args.event in
    let can = sym (can-arm c.args.self.now.table latest standing c.args.event c.can_arm.result s c.can_arm.ensures) ∙ c.if-not-can_arm.false in
    let answered = start-answered latest standing e c.arm.result (sym (c.is_repeat.ensures latest standing s) ∙ c.if-is_repeat.false) can (c.arm.ensures.answer latest standing s) in
    subst (λ (x : Change). values_of c.arm.new.self ≡ values_by value (after_change x standing)) (sym answered)
    (arm-values value c.args.self.now.table c.arm.new.self standing e c.args.fresh c.arm.result c.arm.ensures.value c.arm.ensures.same c.arm.ensures.refused
    (fresh e.start (and_parts (is_fresh e) (is_ahead_of latest e.start) can).1) is)

pub returns-clause-added : goal.returns-clause-added
returns-clause-added g c = arm-adds c.args.self.now.table c.arm.new.self c.args.fresh c.arm.result c.arm.ensures.value c.arm.ensures.same c.arm.ensures.refused
