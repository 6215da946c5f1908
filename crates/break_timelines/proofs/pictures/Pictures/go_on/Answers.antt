use Rattle.std.proofs.Common.{◌≡◌, ◌∷◌, [], ◌++◌, ◌&&◌, true, ap, sym, ◌∙◌, subst}
use Rattle.std.proofs.lemmas.Result.{on_ok_weaker}
use Rattle.ts_packet.specs.Fields.{unit_start}
use Rattle.break_timelines.specs.Timelines.{judged}
use Rattle.break_timelines.specs.Pictures.{Settle}
use Rattle.break_timelines.proofs.UnitLemmas.{none_open, other, longer_by, ended, closed, both_ok}
use Rattle.break_timelines.proofs.pictures.Pictures.go_on.Goals as goal

pub returns-in_default : goal.returns-in_default
returns-in_default c = λ program past s none.
    let self = c.args.self.now in
    subst (λ o. Settle self.settled.items o self.unit.items program (c.args.packet.now ∷ past)) (sym c.in_default.is)
    (none_open program c.args.packet.now past self.settled.items self.unit.items self.unit.items none
    (subst (λ o. Settle self.settled.items o self.unit.items program past) c.in_default.is s))

pub returns-then-not-is_original : goal.returns-then-not-is_original
returns-then-not-is_original c = λ program past s none.
    let self = c.args.self.now in
    other program c.args.packet.now past self.settled.items c.in-Some.open c.is_original.new.self self.unit.items none
    c.is_original.ensures.picture c.is_original.ensures.follows
    (λ pid since f. sym (c.is_original.ensures.answer pid since f) ∙ c.if-not-is_original.true)
    (subst (λ o. Settle self.settled.items o self.unit.items program past) c.in-Some.is s)

pub returns-then-unit_start : goal.returns-then-unit_start
returns-then-unit_start c = λ program past s none.
    let self = c.args.self.now in
    let p = c.args.packet.now in
    let start : unit_start p ≡ true = sym c.unit_start.ensures ∙ c.if-unit_start.true in
    both_ok c.settle.result
    (λ none_left settled. closed program (p ∷ past) c.settle.new.self.settled.items c.settle.new.self.unfinished c.settle.new.self.unit.items none_left
    (λ after. ended program p past self.settled.items c.in-Some.open self.unit.items none
    (λ pid since f. ap (λ b. b && unit_start p) (sym (c.is_original.ensures.answer pid since f) ∙ c.if-not-is_original.false) ∙ start)
    (subst (λ o. Settle self.settled.items o self.unit.items program past) c.in-Some.is s) after
    ∙ ap (λ b. self.settled.items ++ judged b self.unit.items ∷ []) (sym c.is_original.ensures.picture) ∙ sym settled))
    c.settle.ensures.open c.settle.ensures.settled

pub returns : goal.returns
returns c = λ program past s none.
    let self = c.args.self.now in
    on_ok_weaker c.hold.result
    (λ holds. longer_by program c.args.packet.now past self.settled.items c.in-Some.open c.is_original.new.self self.unit.items c.hold.new.unit.items none
    c.is_original.ensures.picture c.is_original.ensures.follows
    (λ pid since f. sym (c.is_original.ensures.answer pid since f) ∙ c.if-not-is_original.false)
    (sym c.unit_start.ensures ∙ c.if-unit_start.false) holds
    (subst (λ o. Settle self.settled.items o self.unit.items program past) c.in-Some.is s))
    c.hold.ensures
