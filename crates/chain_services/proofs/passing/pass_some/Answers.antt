use Rattle.std.proofs.Common.{rules, ◌≡◌, ◌++◌, take, sym, ap, subst, ◌∙◌}
use Rattle.std.proofs.lemmas.List.{append-nil, take-append-drop}
use Rattle.chain_services.specs.Owners.{IsShifted, AreSkipped}
use Rattle.chain_services.specs.Serving.{FiledAs, AllServe}
use Rattle.chain_services.proofs.UnfollowedLemmas.{passed-all}
use Rattle.chain_services.proofs.ShiftLemmas.{behind-front, passed-behind, failed-behind, if-ok, if-err}
use Rattle.chain_services.proofs.passing.pass_some.Goals as goal

pub returns-then-leaves_out_all-clause-ok : goal.returns-then-leaves_out_all-clause-ok
returns-then-leaves_out_all-clause-ok g c = λ ts steps start ps filed all skip is_held.
    passed-all c.args.services.now ts c.args.packet.now steps c.args.takers (λ l. g.K.PacketSink.holds c.args.out.now start (ps ++ l)) all c.of_bytes.ensures
    (c.leaves_out_all.ensures.none c.if-leaves_out_all.true) (skip (c.leaves_out_all.ensures.all c.if-leaves_out_all.true)) (subst (g.K.PacketSink.holds c.args.out.now start) (sym (append-nil ps)) is_held)

pub returns-clause-ok : goal.returns-clause-ok
returns-clause-ok g c = λ ts steps start ps filed all skip is_held.
    let front = c.split_at_mut-services.result.0.now in
    let back = c.split_at_mut-services.result.1.now in
    let lfront = c.split_at.result.0.now in
    let lback = c.split_at.result.1.now in
    let n = c.shift_of-shift.result.count in
    let left = c.shift_of-shift.result.takers in
    let whole : c.args.libraries.now ≡ lfront ++ lback =
    sym (ap (λ l. l ++ lback) c.split_at.ensures.front ∙ ap (λ l. take n c.args.libraries.now ++ l) c.split_at.ensures.back ∙ take-append-drop n c.args.libraries.now) in
    let w = behind-front lfront lback front back ts c.args.packet.now steps left c.args.takers (c.split_at.ensures.front_len ∙ sym c.split_at_mut-services.ensures.front_len)
    (subst (λ k. IsShifted k left c.args.takers) (sym c.split_at_mut-services.ensures.front_len) c.shift_of-shift.ensures.shifted) c.of_bytes.ensures
    (subst (λ l. FiledAs l ts) whole filed) (subst (λ l. AllServe l ts steps) c.split_at_mut-services.ensures.value all) (skip c.if-all.false) in
    if-ok c.pass_each-2.result _ _ (λ x h. passed-behind lback front back left ts c.args.packet.now steps w x.is_own x.learns c.pass_each-2.new.services _ h)
    (c.pass_each-2.ensures.ok w.us steps start ps w.filed w.serve (λ f. w.skip) is_held)

pub returns-clause-err : goal.returns-clause-err
returns-clause-err g c = λ ts steps start ps filed all skip is_held.
    let front = c.split_at_mut-services.result.0.now in
    let back = c.split_at_mut-services.result.1.now in
    let lfront = c.split_at.result.0.now in
    let lback = c.split_at.result.1.now in
    let n = c.shift_of-shift.result.count in
    let left = c.shift_of-shift.result.takers in
    let whole : c.args.libraries.now ≡ lfront ++ lback =
    sym (ap (λ l. l ++ lback) c.split_at.ensures.front ∙ ap (λ l. take n c.args.libraries.now ++ l) c.split_at.ensures.back ∙ take-append-drop n c.args.libraries.now) in
    let w = behind-front lfront lback front back ts c.args.packet.now steps left c.args.takers (c.split_at.ensures.front_len ∙ sym c.split_at_mut-services.ensures.front_len)
    (subst (λ k. IsShifted k left c.args.takers) (sym c.split_at_mut-services.ensures.front_len) c.shift_of-shift.ensures.shifted) c.of_bytes.ensures
    (subst (λ l. FiledAs l ts) whole filed) (subst (λ l. AllServe l ts steps) c.split_at_mut-services.ensures.value all) (skip c.if-all.false) in
    if-err c.pass_each-2.result _ _ (λ f h. failed-behind lback front back left ts c.args.packet.now steps w f _ _ h)
    (c.pass_each-2.ensures.err w.us steps start ps w.filed w.serve (λ f. w.skip) is_held)

pub returns-then-shift-eq1-clause-ok : goal.returns-then-shift-eq1-clause-ok
returns-then-shift-eq1-clause-ok g c = λ ts steps start ps filed all skip is_held.
    let front = c.split_at_mut-services.result.0.now in
    let back = c.split_at_mut-services.result.1.now in
    let lfront = c.split_at.result.0.now in
    let lback = c.split_at.result.1.now in
    let n = c.shift_of-shift.result.count in
    let left = c.shift_of-shift.result.takers in
    let alone : left ≡ 1 = search rules in
    let whole : c.args.libraries.now ≡ lfront ++ lback =
    sym (ap (λ l. l ++ lback) c.split_at.ensures.front ∙ ap (λ l. take n c.args.libraries.now ++ l) c.split_at.ensures.back ∙ take-append-drop n c.args.libraries.now) in
    let w = behind-front lfront lback front back ts c.args.packet.now steps left c.args.takers (c.split_at.ensures.front_len ∙ sym c.split_at_mut-services.ensures.front_len)
    (subst (λ k. IsShifted k left c.args.takers) (sym c.split_at_mut-services.ensures.front_len) c.shift_of-shift.ensures.shifted) c.of_bytes.ensures
    (subst (λ l. FiledAs l ts) whole filed) (subst (λ l. AllServe l ts steps) c.split_at_mut-services.ensures.value all) (skip c.if-all.false) in
    if-ok c.pass_first.result _ _ (λ x h. passed-behind lback front back left ts c.args.packet.now steps w x.is_own x.learns c.pass_first.new.services _ h)
    (c.pass_first.ensures.ok w.us steps start ps w.filed w.serve (subst (λ k. AreSkipped k w.us c.args.packet.now steps) alone w.skip) is_held)

pub returns-then-shift-eq1-clause-err : goal.returns-then-shift-eq1-clause-err
returns-then-shift-eq1-clause-err g c = λ ts steps start ps filed all skip is_held.
    let front = c.split_at_mut-services.result.0.now in
    let back = c.split_at_mut-services.result.1.now in
    let lfront = c.split_at.result.0.now in
    let lback = c.split_at.result.1.now in
    let n = c.shift_of-shift.result.count in
    let left = c.shift_of-shift.result.takers in
    let alone : left ≡ 1 = search rules in
    let whole : c.args.libraries.now ≡ lfront ++ lback =
    sym (ap (λ l. l ++ lback) c.split_at.ensures.front ∙ ap (λ l. take n c.args.libraries.now ++ l) c.split_at.ensures.back ∙ take-append-drop n c.args.libraries.now) in
    let w = behind-front lfront lback front back ts c.args.packet.now steps left c.args.takers (c.split_at.ensures.front_len ∙ sym c.split_at_mut-services.ensures.front_len)
    (subst (λ k. IsShifted k left c.args.takers) (sym c.split_at_mut-services.ensures.front_len) c.shift_of-shift.ensures.shifted) c.of_bytes.ensures
    (subst (λ l. FiledAs l ts) whole filed) (subst (λ l. AllServe l ts steps) c.split_at_mut-services.ensures.value all) (skip c.if-all.false) in
    if-err c.pass_first.result _ _ (λ f h. failed-behind lback front back left ts c.args.packet.now steps w f _ _ h)
    (c.pass_first.ensures.err w.us steps start ps w.filed w.serve (subst (λ k. AreSkipped k w.us c.args.packet.now steps) alone w.skip) is_held)
