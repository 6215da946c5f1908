use Rattle.std.proofs.Common.{rules, ◌≡◌, ◌∷◌, ◌∙◌, length, sym, subst}
use Rattle.std.proofs.lemmas.List.{with_items_is}
use Rattle.scte104_codec.specs.Views.{reading_of}
use Rattle.injector.specs.Steps.{Message}
use Rattle.chain_services.specs.Serving.{AllServe}
use Rattle.chain_services.proofs.ServingLemmas.{all_stay, answers_none, for_none, none_reply}
use Rattle.chain_services.proofs.desk.Desk.judge.Goals as goal

pub returns-in-None-clause-judged : goal.returns-in-None-clause-judged
returns-in-None-clause-judged g c = λ ts steps apart all none.
    let m = reading_of c.args.message in
    let self = c.args.self.now in
    let not_so = for_none m ts c.in-None.ensures in
    let (says, now) = answers_none self.none c.ask.new.self ts m c.ask.result not_so c.ask.ensures.answer c.ask.ensures.turn none in
    (says ∙ sym (none_reply ts m steps not_so), all_stay self.services.items ts m steps not_so all, now)

pub returns-in-Some-ask_own-clause-judged : goal.returns-in-Some-ask_own-clause-judged
returns-in-Some-ask_own-clause-judged g c = λ ts steps apart all none.
    let m = reading_of c.args.message in
    let v = c.args.self.now.services in
    let kept : length c.ask_own.new.services ≡ v.len = search rules in
    let asked = c.in-Some-ask_own.ensures ts steps apart (subst (λ l. AllServe l ts steps) (sym c.as_mut_slice.ensures.value) all) c.in-Some.ensures in
    (asked.1, subst (λ l. AllServe l ts (Message m ∷ steps)) (sym (with_items_is v c.ask_own.new.services kept)) asked.2, none)

pub returns-in-None-ask_own-clause-judged : goal.returns-in-None-ask_own-clause-judged
returns-in-None-ask_own-clause-judged g c = λ ts steps apart all none.
    let m = reading_of c.args.message in
    let self = c.args.self.now in
    let v = self.services in
    let ask = c.ask-in-None-ask_own in
    let kept : length c.ask_own.new.services ≡ v.len = search rules in
    let asked = c.in-None-ask_own.ensures ts steps apart (subst (λ l. AllServe l ts steps) (sym c.as_mut_slice.ensures.value) all) c.in-Some.ensures in
    let (says, now) = answers_none self.none ask.new.self ts m ask.result asked.0 ask.ensures.answer ask.ensures.turn none in
    (says ∙ sym (none_reply ts m steps asked.0), subst (λ l. AllServe l ts (Message m ∷ steps)) (sym (with_items_is v c.ask_own.new.services kept)) asked.1, now)
