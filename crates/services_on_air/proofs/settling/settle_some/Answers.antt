use Rattle.std.proofs.Common.{rules, ◌≡◌, ◌++◌, length, refl, sym, subst, ◌∙◌}
use Rattle.std.proofs.lemmas.List.{append-nil}
use Rattle.ts_packet.specs.Fields.{pid_of}
use Rattle.chain_services.specs.Owners.{IsShifted}
use Rattle.chain_services.specs.Serving.{FiledAs}
use Rattle.chain_services.proofs.ShiftLemmas.{if-ok, whole-of}
use Rattle.services_on_air.specs.Airing.{nexts}
use Rattle.services_on_air.specs.Standing.{AllStand}
use Rattle.services_on_air.specs.Serving.{AllGone}
use Rattle.services_on_air.specs.Owners.{MayAllStay, AreLeftOut}
use Rattle.services_on_air.proofs.StayLemmas.{all-stay, stay-gone}
use Rattle.services_on_air.proofs.FrontLemmas.{behind-settled, gone-behind-settled, fewer-behind, on-ok}
use Rattle.services_on_air.proofs.settling.settle_some.Goals as goal

pub returns-clause-stands : goal.returns-clause-stands
returns-clause-stands g c = λ xs h many may.
    let front = c.split_at_mut-services.result.0.now in
    let back = c.split_at_mut-services.result.1.now in
    let lfront = c.split_at.result.0.now in
    let lback = c.split_at.result.1.now in
    let left = c.shift_of-shift.result.takers in
    let value = c.split_at_mut-services.ensures.value in
    let many_front = c.split_at_mut-services.ensures.front_len in
    let whole = whole-of c.shift_of-shift.result.count c.args.libraries.now lfront lback c.split_at.ensures.front c.split_at.ensures.back in
    let shifted = subst (λ k. IsShifted k left c.args.takers) (sym many_front) c.shift_of-shift.ensures.shifted in
    let p = c.args.next.packet.now in
    let w = behind-settled front back left c.args.takers p xs shifted (subst (λ l. AllStand l xs) value h) (subst (λ l. MayAllStay c.args.takers l (pid_of p) xs) value (may c.if-all.false)) in
    let long = fewer-behind c.args.libraries.now lfront lback (length xs) (length front) (length w.ys) c.shift_of-shift.result.count whole many w.long c.split_at.ensures.front_len many_front in
    on-ok c.settle_each-2.result _ _ (w.settled c.settle_each-2.new.services) (c.settle_each-2.ensures.stands w.ys w.stand long (λ f. w.may))

pub returns-clause-anew : goal.returns-clause-anew
returns-clause-anew g c = λ xs h many may.
    let front = c.split_at_mut-services.result.0.now in
    let back = c.split_at_mut-services.result.1.now in
    let lfront = c.split_at.result.0.now in
    let lback = c.split_at.result.1.now in
    let left = c.shift_of-shift.result.takers in
    let value = c.split_at_mut-services.ensures.value in
    let many_front = c.split_at_mut-services.ensures.front_len in
    let whole = whole-of c.shift_of-shift.result.count c.args.libraries.now lfront lback c.split_at.ensures.front c.split_at.ensures.back in
    let shifted = subst (λ k. IsShifted k left c.args.takers) (sym many_front) c.shift_of-shift.ensures.shifted in
    let p = c.args.next.packet.now in
    let w = behind-settled front back left c.args.takers p xs shifted (subst (λ l. AllStand l xs) value h) (subst (λ l. MayAllStay c.args.takers l (pid_of p) xs) value (may c.if-all.false)) in
    let long = fewer-behind c.args.libraries.now lfront lback (length xs) (length front) (length w.ys) c.shift_of-shift.result.count whole many w.long c.split_at.ensures.front_len many_front in
    if-ok c.settle_each-2.result _ _ (λ is_anew same. same ∙ sym w.same) (c.settle_each-2.ensures.anew w.ys w.stand long (λ f. w.may))

pub returns-clause-left : goal.returns-clause-left
returns-clause-left g c = λ xs h many may none.
    let front = c.split_at_mut-services.result.0.now in
    let back = c.split_at_mut-services.result.1.now in
    let lfront = c.split_at.result.0.now in
    let lback = c.split_at.result.1.now in
    let left = c.shift_of-shift.result.takers in
    let value = c.split_at_mut-services.ensures.value in
    let many_front = c.split_at_mut-services.ensures.front_len in
    let whole = whole-of c.shift_of-shift.result.count c.args.libraries.now lfront lback c.split_at.ensures.front c.split_at.ensures.back in
    let shifted = subst (λ k. IsShifted k left c.args.takers) (sym many_front) c.shift_of-shift.ensures.shifted in
    let p = c.args.next.packet.now in
    let w = behind-settled front back left c.args.takers p xs shifted (subst (λ l. AllStand l xs) value h) (subst (λ l. MayAllStay c.args.takers l (pid_of p) xs) value (may c.if-all.false)) in
    let long = fewer-behind c.args.libraries.now lfront lback (length xs) (length front) (length w.ys) c.shift_of-shift.result.count whole many w.long c.split_at.ensures.front_len many_front in
    on-ok c.settle_each-2.result _ _ (w.leave c.settle_each-2.new.services) (c.settle_each-2.ensures.left w.ys w.stand long (λ f. w.may) refl)

pub returns-clause-out : goal.returns-clause-out
returns-clause-out g c = λ xs ts gs start ps h may filed all is_held.
    let front = c.split_at_mut-services.result.0.now in
    let back = c.split_at_mut-services.result.1.now in
    let lfront = c.split_at.result.0.now in
    let lback = c.split_at.result.1.now in
    let left = c.shift_of-shift.result.takers in
    let value = c.split_at_mut-services.ensures.value in
    let many_front = c.split_at_mut-services.ensures.front_len in
    let whole = whole-of c.shift_of-shift.result.count c.args.libraries.now lfront lback c.split_at.ensures.front c.split_at.ensures.back in
    let shifted = subst (λ k. IsShifted k left c.args.takers) (sym many_front) c.shift_of-shift.ensures.shifted in
    let p = c.args.next.packet.now in
    let w = gone-behind-settled lfront lback front back left c.args.takers ts gs p xs (c.split_at.ensures.front_len ∙ sym many_front) shifted (subst (λ l. AllStand l xs) value h)
    (subst (λ l. MayAllStay c.args.takers l (pid_of p) xs) value (may c.if-all.false)) (subst (λ l. FiledAs l ts) whole filed) (subst (λ l. AllGone l ts gs) value all) in
    let holds = g.K.PacketSink.holds c.settle_each-2.new.out start in
    on-ok c.settle_each-2.result _ _ (λ k. (w.gone c.settle_each-2.new.services k.0, subst (λ l. holds (ps ++ l)) (sym w.put) k.1))
    (c.settle_each-2.ensures.out w.ys w.us w.hs start ps w.stand (λ f. w.may) w.filed w.all is_held)

pub returns-then-leaves_out_all-clause-stands : goal.returns-then-leaves_out_all-clause-stands
returns-then-leaves_out_all-clause-stands g c = λ xs h many may.
    let p = c.args.next.packet.now in
    let ss = c.args.services.now in
    let zero = c.leaves_out_all.ensures.none c.if-leaves_out_all.true in
    let k = all-stay ss p xs h (subst (λ n. MayAllStay n ss (pid_of p) xs) zero (may (c.leaves_out_all.ensures.all c.if-leaves_out_all.true))) in
    k.settled

pub returns-then-leaves_out_all-clause-anew : goal.returns-then-leaves_out_all-clause-anew
returns-then-leaves_out_all-clause-anew g c = λ xs h many may.
    let p = c.args.next.packet.now in
    let ss = c.args.services.now in
    let zero = c.leaves_out_all.ensures.none c.if-leaves_out_all.true in
    let k = all-stay ss p xs h (subst (λ n. MayAllStay n ss (pid_of p) xs) zero (may (c.leaves_out_all.ensures.all c.if-leaves_out_all.true))) in
    sym k.same

pub returns-then-leaves_out_all-clause-left : goal.returns-then-leaves_out_all-clause-left
returns-then-leaves_out_all-clause-left g c = λ xs h many may none.
    let p = c.args.next.packet.now in
    let ss = c.args.services.now in
    let zero = c.leaves_out_all.ensures.none c.if-leaves_out_all.true in
    let k = all-stay ss p xs h (subst (λ n. MayAllStay n ss (pid_of p) xs) zero (may (c.leaves_out_all.ensures.all c.if-leaves_out_all.true))) in
    subst (λ n. AreLeftOut n ss (pid_of p) (nexts p xs)) (sym zero) k.left

pub returns-then-leaves_out_all-clause-out : goal.returns-then-leaves_out_all-clause-out
returns-then-leaves_out_all-clause-out g c = λ xs ts gs start ps h may filed all is_held.
    let p = c.args.next.packet.now in
    let ss = c.args.services.now in
    let zero = c.leaves_out_all.ensures.none c.if-leaves_out_all.true in
    let k = all-stay ss p xs h (subst (λ n. MayAllStay n ss (pid_of p) xs) zero (may (c.leaves_out_all.ensures.all c.if-leaves_out_all.true))) in
    let holds = g.K.PacketSink.holds c.args.out.now start in
    let (same, put) = stay-gone ss ts gs p xs h all k.same in
    (subst (AllGone ss ts) (sym same) all, subst (λ l. holds (ps ++ l)) (sym put) (subst holds (sym (append-nil ps)) is_held))

pub returns-then-shift-eq1-clause-stands : goal.returns-then-shift-eq1-clause-stands
returns-then-shift-eq1-clause-stands g c = λ xs h many may.
    let front = c.split_at_mut-services.result.0.now in
    let back = c.split_at_mut-services.result.1.now in
    let lfront = c.split_at.result.0.now in
    let lback = c.split_at.result.1.now in
    let left = c.shift_of-shift.result.takers in
    let value = c.split_at_mut-services.ensures.value in
    let many_front = c.split_at_mut-services.ensures.front_len in
    let whole = whole-of c.shift_of-shift.result.count c.args.libraries.now lfront lback c.split_at.ensures.front c.split_at.ensures.back in
    let shifted = subst (λ k. IsShifted k left c.args.takers) (sym many_front) c.shift_of-shift.ensures.shifted in
    let p = c.args.next.packet.now in
    let w = behind-settled front back left c.args.takers p xs shifted (subst (λ l. AllStand l xs) value h) (subst (λ l. MayAllStay c.args.takers l (pid_of p) xs) value (may c.if-all.false)) in
    let one : left ≡ 1 = search rules in
    let alone = subst (λ n. MayAllStay n back (pid_of p) w.ys) one w.may in
    let long = fewer-behind c.args.libraries.now lfront lback (length xs) (length front) (length w.ys) c.shift_of-shift.result.count whole many w.long c.split_at.ensures.front_len many_front in
    on-ok c.settle_first.result _ _ (w.settled c.settle_first.new.services) (c.settle_first.ensures.stands w.ys w.stand long alone)

pub returns-then-shift-eq1-clause-anew : goal.returns-then-shift-eq1-clause-anew
returns-then-shift-eq1-clause-anew g c = λ xs h many may.
    let front = c.split_at_mut-services.result.0.now in
    let back = c.split_at_mut-services.result.1.now in
    let lfront = c.split_at.result.0.now in
    let lback = c.split_at.result.1.now in
    let left = c.shift_of-shift.result.takers in
    let value = c.split_at_mut-services.ensures.value in
    let many_front = c.split_at_mut-services.ensures.front_len in
    let whole = whole-of c.shift_of-shift.result.count c.args.libraries.now lfront lback c.split_at.ensures.front c.split_at.ensures.back in
    let shifted = subst (λ k. IsShifted k left c.args.takers) (sym many_front) c.shift_of-shift.ensures.shifted in
    let p = c.args.next.packet.now in
    let w = behind-settled front back left c.args.takers p xs shifted (subst (λ l. AllStand l xs) value h) (subst (λ l. MayAllStay c.args.takers l (pid_of p) xs) value (may c.if-all.false)) in
    let one : left ≡ 1 = search rules in
    let alone = subst (λ n. MayAllStay n back (pid_of p) w.ys) one w.may in
    let long = fewer-behind c.args.libraries.now lfront lback (length xs) (length front) (length w.ys) c.shift_of-shift.result.count whole many w.long c.split_at.ensures.front_len many_front in
    if-ok c.settle_first.result _ _ (λ is_anew same. same ∙ sym w.same) (c.settle_first.ensures.anew w.ys w.stand long alone)

pub returns-then-shift-eq1-clause-left : goal.returns-then-shift-eq1-clause-left
returns-then-shift-eq1-clause-left g c = λ xs h many may none.
    let front = c.split_at_mut-services.result.0.now in
    let back = c.split_at_mut-services.result.1.now in
    let lfront = c.split_at.result.0.now in
    let lback = c.split_at.result.1.now in
    let left = c.shift_of-shift.result.takers in
    let value = c.split_at_mut-services.ensures.value in
    let many_front = c.split_at_mut-services.ensures.front_len in
    let whole = whole-of c.shift_of-shift.result.count c.args.libraries.now lfront lback c.split_at.ensures.front c.split_at.ensures.back in
    let shifted = subst (λ k. IsShifted k left c.args.takers) (sym many_front) c.shift_of-shift.ensures.shifted in
    let p = c.args.next.packet.now in
    let w = behind-settled front back left c.args.takers p xs shifted (subst (λ l. AllStand l xs) value h) (subst (λ l. MayAllStay c.args.takers l (pid_of p) xs) value (may c.if-all.false)) in
    let one : left ≡ 1 = search rules in
    let alone = subst (λ n. MayAllStay n back (pid_of p) w.ys) one w.may in
    let long = fewer-behind c.args.libraries.now lfront lback (length xs) (length front) (length w.ys) c.shift_of-shift.result.count whole many w.long c.split_at.ensures.front_len many_front in
    on-ok c.settle_first.result _ _ (λ k. w.leave c.settle_first.new.services (subst (λ n. AreLeftOut n c.settle_first.new.services (pid_of p) (nexts p w.ys)) (sym one) k)) (c.settle_first.ensures.left w.ys w.stand long alone)

pub returns-then-shift-eq1-clause-out : goal.returns-then-shift-eq1-clause-out
returns-then-shift-eq1-clause-out g c = λ xs ts gs start ps h may filed all is_held.
    let front = c.split_at_mut-services.result.0.now in
    let back = c.split_at_mut-services.result.1.now in
    let lfront = c.split_at.result.0.now in
    let lback = c.split_at.result.1.now in
    let left = c.shift_of-shift.result.takers in
    let value = c.split_at_mut-services.ensures.value in
    let many_front = c.split_at_mut-services.ensures.front_len in
    let whole = whole-of c.shift_of-shift.result.count c.args.libraries.now lfront lback c.split_at.ensures.front c.split_at.ensures.back in
    let shifted = subst (λ k. IsShifted k left c.args.takers) (sym many_front) c.shift_of-shift.ensures.shifted in
    let p = c.args.next.packet.now in
    let w = gone-behind-settled lfront lback front back left c.args.takers ts gs p xs (c.split_at.ensures.front_len ∙ sym many_front) shifted (subst (λ l. AllStand l xs) value h)
    (subst (λ l. MayAllStay c.args.takers l (pid_of p) xs) value (may c.if-all.false)) (subst (λ l. FiledAs l ts) whole filed) (subst (λ l. AllGone l ts gs) value all) in
    let one : left ≡ 1 = search rules in
    let alone = subst (λ n. MayAllStay n back (pid_of p) w.ys) one w.may in
    let holds = g.K.PacketSink.holds c.settle_first.new.out start in
    on-ok c.settle_first.result _ _ (λ k. (w.gone c.settle_first.new.services k.0, subst (λ l. holds (ps ++ l)) (sym w.put) k.1))
    (c.settle_first.ensures.out w.ys w.us w.hs start ps w.stand alone w.filed w.all is_held)
