use Rattle.std.proofs.Common.{rules, ◌≡◌, length, sym, subst}
use Rattle.std.proofs.lemmas.List.{with_items_is}
use Rattle.services_on_air.specs.Airing.{parted}
use Rattle.services_on_air.specs.Standing.{AllStand}
use Rattle.services_on_air.proofs.PassLemmas.{picked-then, picked-else}
use Rattle.services_on_air.specs.Serving.{AllGone}
use Rattle.std.proofs.Common.{true, false, ap, ◌∙◌}
use Rattle.services_on_air.specs.Owners.{IsBeside, HasOwnersOnAir, AllJudged}
use Rattle.services_on_air.proofs.OwnerLemmas.{all-take, moved-gone}
use Rattle.services_on_air.proofs.services.AirServices.part.Goals as goal

pub returns-then-learns-clause-all : goal.returns-then-learns-clause-all
returns-then-learns-clause-all g c = λ xs all.
    let v = c.args.self.now.desk.services in
    let kept : length c.part_each.new.services ≡ v.len = search rules in
    let now = subst (λ l. AllStand l (parted xs)) (sym (with_items_is v c.part_each.new.services kept)) (c.part_each.ensures.stands xs (subst (λ l. AllStand l xs) (sym c.as_mut_slice.ensures.value) all)) in
    picked-then (AllStand _) c.args.learns (parted xs) xs c.if-learns.true (subst (λ w. AllStand w.items (parted xs)) (sym c.forget.ensures.others.0) now)

pub returns-then-learns-clause-owners : goal.returns-then-learns-clause-owners
returns-then-learns-clause-owners g c = λ xs all has.
    picked-then (HasOwnersOnAir _) c.args.learns (parted xs) xs c.if-learns.true (all-take IsBeside c.forget.new.self.owners (parted xs) c.forget.ensures.table)

pub returns-then-learns-clause-judged : goal.returns-then-learns-clause-judged
returns-then-learns-clause-judged g c = λ h quiet. absurd (let no : true ≡ false = sym c.forget.ensures.all ∙ quiet in cc)

pub returns-clause-owners : goal.returns-clause-owners
returns-clause-owners g c = λ xs all has.
    picked-else (HasOwnersOnAir _) c.args.learns (parted xs) xs c.if-learns.false (c.look_up.ensures.owners xs all (has c.if-learns.false))

pub returns-clause-all : goal.returns-clause-all
returns-clause-all g c = λ xs all.
    picked-else (AllStand _) c.args.learns (parted xs) xs c.if-learns.false (subst (λ w. AllStand w.items xs) (sym c.look_up.ensures.others.0) all)

pub returns-clause-gone : goal.returns-clause-gone
returns-clause-gone g c = λ ts gs h. moved-gone c.look_up.new.self _ _ ts gs (ap (λ w. w.items) c.look_up.ensures.others.0) c.look_up.ensures.others.1 h.all h.none

pub returns-clause-judged : goal.returns-clause-judged
returns-clause-judged g c = λ h quiet. subst (λ w. AllJudged w.items) (sym c.look_up.ensures.others.0) (h (sym c.look_up.ensures.all ∙ quiet))

pub returns-then-learns-clause-gone : goal.returns-then-learns-clause-gone
returns-then-learns-clause-gone g c = λ ts gs h.
    let v = c.args.self.now.desk.services in
    let kept : length c.part_each.new.services ≡ v.len = search rules in
    moved-gone c.forget.new.self _ _ ts gs (ap (λ w. w.items) c.forget.ensures.others.0) c.forget.ensures.others.1
    (subst (λ l. AllGone l ts gs) (sym (with_items_is v c.part_each.new.services kept)) (c.part_each.ensures.gone ts gs (subst (λ l. AllGone l ts gs) (sym c.as_mut_slice.ensures.value) h.all))) h.none
