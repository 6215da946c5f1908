use Rattle.std.proofs.Common.{rules, ◌≡◌, length, sym, subst}
use Rattle.std.proofs.lemmas.List.{with_items_is}
use Rattle.services_on_air.specs.Standing.{AllSettled}
use Rattle.scte104_codec.specs.Views.{reading_of}
use Rattle.services_on_air.specs.Serving.{AllGone, gones_asked}
use Rattle.services_on_air.proofs.TogetherLemmas.{no-index, answered-none}
use Rattle.services_on_air.proofs.desk.AirDesk.judge.Goals as goal

pub returns-in-Some-ask_own-clause-stands : goal.returns-in-Some-ask_own-clause-stands
returns-in-Some-ask_own-clause-stands g c = λ p xs h.
    let v = c.args.self.now.services in
    let kept : length c.ask_own.new.services ≡ v.len = search rules in
    subst (λ l. AllSettled l p xs) (sym (with_items_is v c.ask_own.new.services kept)) (c.ask_own.ensures.stands p xs (subst (λ l. AllSettled l p xs) (sym c.as_mut_slice.ensures.value) h))

pub returns-in-None-ask_own-clause-stands : goal.returns-in-None-ask_own-clause-stands
returns-in-None-ask_own-clause-stands g c = λ p xs h.
    let v = c.args.self.now.services in
    let kept : length c.ask_own.new.services ≡ v.len = search rules in
    subst (λ l. AllSettled l p xs) (sym (with_items_is v c.ask_own.new.services kept)) (c.ask_own.ensures.stands p xs (subst (λ l. AllSettled l p xs) (sym c.as_mut_slice.ensures.value) h))

pub returns-in-None-clause-gone : goal.returns-in-None-clause-gone
returns-in-None-clause-gone g c = λ ts gs h.
    let m = reading_of c.args.message in
    let old = c.args.self.now in
    let no = no-index m ts c.in-None.ensures in
    let (says, all, none) = answered-none old.services.items old.none c.ask.new.self ts gs m c.ask.result no c.ask.ensures.answer c.ask.ensures.turn h.all h.none in
    (says, record { all = all; none = none })

pub returns-in-Some-ask_own-clause-gone : goal.returns-in-Some-ask_own-clause-gone
returns-in-Some-ask_own-clause-gone g c = λ ts gs h.
    let m = reading_of c.args.message in
    let v = c.args.self.now.services in
    let kept : length c.ask_own.new.services ≡ v.len = search rules in
    let asked = c.in-Some-ask_own.ensures.gone ts gs c.in-Some.ensures (subst (λ l. AllGone l ts gs) (sym c.as_mut_slice.ensures.value) h.all) in
    (asked.1, record { all = subst (λ l. AllGone l ts (gones_asked ts m gs)) (sym (with_items_is v c.ask_own.new.services kept)) asked.2; none = h.none })

pub returns-in-None-ask_own-clause-gone : goal.returns-in-None-ask_own-clause-gone
returns-in-None-ask_own-clause-gone g c = λ ts gs h.
    let m = reading_of c.args.message in
    let old = c.args.self.now in
    let v = old.services in
    let kept : length c.ask_own.new.services ≡ v.len = search rules in
    let asked = c.in-None-ask_own.ensures.gone ts gs c.in-Some.ensures (subst (λ l. AllGone l ts gs) (sym c.as_mut_slice.ensures.value) h.all) in
    let ask = c.ask-in-None-ask_own in
    let (says, all, none) = answered-none c.ask_own.new.services old.none ask.new.self ts gs m ask.result asked.0 ask.ensures.answer ask.ensures.turn asked.1 h.none in
    (says, record { all = subst (λ l. AllGone l ts (gones_asked ts m gs)) (sym (with_items_is v c.ask_own.new.services kept)) all; none = none })
