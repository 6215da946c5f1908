use Rattle.std.proofs.Common.{rules, ◌≡◌, ◌++◌, length, sym, subst, ◌∙◌}
use Rattle.std.proofs.lemmas.List.{append-nil}
use Rattle.ts_packet.specs.Fields.{pid_of}
use Rattle.chain_services.specs.Owners.{IsShifted}
use Rattle.chain_services.specs.Serving.{FiledAs}
use Rattle.chain_services.proofs.ShiftLemmas.{if-ok, whole-of}
use Rattle.services_on_air.specs.Standing.{AllSettled}
use Rattle.services_on_air.specs.Serving.{AllGone}
use Rattle.services_on_air.specs.Owners.{AreLeftOut}
use Rattle.services_on_air.proofs.StayLemmas.{all-pass, pass-gone}
use Rattle.services_on_air.proofs.FrontLemmas.{behind-passed, gone-behind-passed, fewer-behind, on-ok}
use Rattle.services_on_air.proofs.passing.pass_some.Goals as goal

pub returns-clause-stands : goal.returns-clause-stands
returns-clause-stands g c = λ xs h many out.
    let front = c.split_at_mut-services.result.0.now in
    let back = c.split_at_mut-services.result.1.now in
    let lfront = c.split_at.result.0.now in
    let lback = c.split_at.result.1.now in
    let left = c.shift_of-shift.result.takers in
    let value = c.split_at_mut-services.ensures.value in
    let many_front = c.split_at_mut-services.ensures.front_len in
    let whole = whole-of c.shift_of-shift.result.count c.args.libraries.now lfront lback c.split_at.ensures.front c.split_at.ensures.back in
    let shifted = subst (λ k. IsShifted k left c.args.takers) (sym many_front) c.shift_of-shift.ensures.shifted in
    let p = c.args.packet.now in
    let w = behind-passed front back left c.args.takers p xs shifted (subst (λ l. AllSettled l p xs) value h) (subst (λ l. AreLeftOut c.args.takers l (pid_of p) xs) value (out c.if-all.false)) in
    let long = fewer-behind c.args.libraries.now lfront lback (length xs) (length front) (length w.ys) c.shift_of-shift.result.count whole many w.long c.split_at.ensures.front_len many_front in
    if-ok c.pass_each-2.result _ _ (λ passed k. (
      w.stand c.pass_each-2.new.services k.0,
      record {
        own = k.1.own ∙ sym w.own;
        unjudged = k.1.unjudged ∙ sym w.unjudged;
        learns = k.1.learns ∙ sym w.learned;
      },
    )) (c.pass_each-2.ensures.stands w.ys w.settled long (λ f. w.left_out))

pub returns-clause-judged : goal.returns-clause-judged
returns-clause-judged g c = λ xs h many out.
    let front = c.split_at_mut-services.result.0.now in
    let back = c.split_at_mut-services.result.1.now in
    let lfront = c.split_at.result.0.now in
    let lback = c.split_at.result.1.now in
    let left = c.shift_of-shift.result.takers in
    let value = c.split_at_mut-services.ensures.value in
    let many_front = c.split_at_mut-services.ensures.front_len in
    let whole = whole-of c.shift_of-shift.result.count c.args.libraries.now lfront lback c.split_at.ensures.front c.split_at.ensures.back in
    let shifted = subst (λ k. IsShifted k left c.args.takers) (sym many_front) c.shift_of-shift.ensures.shifted in
    let p = c.args.packet.now in
    let w = behind-passed front back left c.args.takers p xs shifted (subst (λ l. AllSettled l p xs) value h) (subst (λ l. AreLeftOut c.args.takers l (pid_of p) xs) value (out c.if-all.false)) in
    let long = fewer-behind c.args.libraries.now lfront lback (length xs) (length front) (length w.ys) c.shift_of-shift.result.count whole many w.long c.split_at.ensures.front_len many_front in
    if-ok c.pass_each-2.result _ _ (λ passed k none. w.judged c.pass_each-2.new.services (k none)) (c.pass_each-2.ensures.judged w.ys w.settled long (λ f. w.left_out))

pub returns-clause-out : goal.returns-clause-out
returns-clause-out g c = λ xs ts gs start ps h out filed all is_held.
    let front = c.split_at_mut-services.result.0.now in
    let back = c.split_at_mut-services.result.1.now in
    let lfront = c.split_at.result.0.now in
    let lback = c.split_at.result.1.now in
    let left = c.shift_of-shift.result.takers in
    let value = c.split_at_mut-services.ensures.value in
    let many_front = c.split_at_mut-services.ensures.front_len in
    let whole = whole-of c.shift_of-shift.result.count c.args.libraries.now lfront lback c.split_at.ensures.front c.split_at.ensures.back in
    let shifted = subst (λ k. IsShifted k left c.args.takers) (sym many_front) c.shift_of-shift.ensures.shifted in
    let p = c.args.packet.now in
    let w = gone-behind-passed lfront lback front back left c.args.takers ts gs p xs (c.split_at.ensures.front_len ∙ sym many_front) shifted c.of_bytes.ensures (subst (λ l. AllSettled l p xs) value h)
    (subst (λ l. AreLeftOut c.args.takers l (pid_of p) xs) value (out c.if-all.false)) (subst (λ l. FiledAs l ts) whole filed) (subst (λ l. AllGone l ts gs) value all) in
    let holds = g.K.PacketSink.holds c.pass_each-2.new.out start in
    on-ok c.pass_each-2.result _ _ (λ k. (w.gone c.pass_each-2.new.services k.0, subst (λ l. holds (ps ++ l)) (sym w.put) k.1))
    (c.pass_each-2.ensures.out w.ys w.us w.hs start ps w.settled (λ f. w.left_out) w.filed w.all is_held)

pub returns-then-leaves_out_all-clause-stands : goal.returns-then-leaves_out_all-clause-stands
returns-then-leaves_out_all-clause-stands g c = λ xs h many out.
    let p = c.args.packet.now in
    let ss = c.args.services.now in
    let zero = c.leaves_out_all.ensures.none c.if-leaves_out_all.true in
    let left = subst (λ n. AreLeftOut n ss (pid_of p) xs) zero (out (c.leaves_out_all.ensures.all c.if-leaves_out_all.true)) in
    let k = all-pass ss p xs h left in
    (k.stand, record { own = c.beside.ensures.own ∙ sym k.own; unjudged = c.beside.ensures.unjudged ∙ sym k.unjudged; learns = c.beside.ensures.learns ∙ sym k.learns })

pub returns-then-leaves_out_all-clause-judged : goal.returns-then-leaves_out_all-clause-judged
returns-then-leaves_out_all-clause-judged g c = λ xs h many out none.
    let p = c.args.packet.now in
    let ss = c.args.services.now in
    let zero = c.leaves_out_all.ensures.none c.if-leaves_out_all.true in
    let left = subst (λ n. AreLeftOut n ss (pid_of p) xs) zero (out (c.leaves_out_all.ensures.all c.if-leaves_out_all.true)) in
    (all-pass ss p xs h left).judged

pub returns-then-leaves_out_all-clause-out : goal.returns-then-leaves_out_all-clause-out
returns-then-leaves_out_all-clause-out g c = λ ys ts gs start ps h out filed all is_held.
    let p = c.args.packet.now in
    let ss = c.args.services.now in
    let zero = c.leaves_out_all.ensures.none c.if-leaves_out_all.true in
    let left = subst (λ n. AreLeftOut n ss (pid_of p) ys) zero (out (c.leaves_out_all.ensures.all c.if-leaves_out_all.true)) in
    let holds = g.K.PacketSink.holds c.args.out.now start in
    let (gone, put) = pass-gone ss ts gs p ys c.of_bytes.ensures h left all in
    (gone, subst (λ l. holds (ps ++ l)) (sym put) (subst holds (sym (append-nil ps)) is_held))

pub returns-then-shift-eq1-clause-stands : goal.returns-then-shift-eq1-clause-stands
returns-then-shift-eq1-clause-stands g c = λ xs h many out.
    let front = c.split_at_mut-services.result.0.now in
    let back = c.split_at_mut-services.result.1.now in
    let lfront = c.split_at.result.0.now in
    let lback = c.split_at.result.1.now in
    let left = c.shift_of-shift.result.takers in
    let value = c.split_at_mut-services.ensures.value in
    let many_front = c.split_at_mut-services.ensures.front_len in
    let whole = whole-of c.shift_of-shift.result.count c.args.libraries.now lfront lback c.split_at.ensures.front c.split_at.ensures.back in
    let shifted = subst (λ k. IsShifted k left c.args.takers) (sym many_front) c.shift_of-shift.ensures.shifted in
    let p = c.args.packet.now in
    let w = behind-passed front back left c.args.takers p xs shifted (subst (λ l. AllSettled l p xs) value h) (subst (λ l. AreLeftOut c.args.takers l (pid_of p) xs) value (out c.if-all.false)) in
    let one : left ≡ 1 = search rules in
    let alone = subst (λ n. AreLeftOut n back (pid_of p) w.ys) one w.left_out in
    let long = fewer-behind c.args.libraries.now lfront lback (length xs) (length front) (length w.ys) c.shift_of-shift.result.count whole many w.long c.split_at.ensures.front_len many_front in
    if-ok c.pass_first.result _ _ (λ passed k. (
      w.stand c.pass_first.new.services k.0,
      record {
        own = k.1.own ∙ sym w.own;
        unjudged = k.1.unjudged ∙ sym w.unjudged;
        learns = k.1.learns ∙ sym w.learned;
      },
    )) (c.pass_first.ensures.stands w.ys w.settled long alone)

pub returns-then-shift-eq1-clause-judged : goal.returns-then-shift-eq1-clause-judged
returns-then-shift-eq1-clause-judged g c = λ xs h many out.
    let front = c.split_at_mut-services.result.0.now in
    let back = c.split_at_mut-services.result.1.now in
    let lfront = c.split_at.result.0.now in
    let lback = c.split_at.result.1.now in
    let left = c.shift_of-shift.result.takers in
    let value = c.split_at_mut-services.ensures.value in
    let many_front = c.split_at_mut-services.ensures.front_len in
    let whole = whole-of c.shift_of-shift.result.count c.args.libraries.now lfront lback c.split_at.ensures.front c.split_at.ensures.back in
    let shifted = subst (λ k. IsShifted k left c.args.takers) (sym many_front) c.shift_of-shift.ensures.shifted in
    let p = c.args.packet.now in
    let w = behind-passed front back left c.args.takers p xs shifted (subst (λ l. AllSettled l p xs) value h) (subst (λ l. AreLeftOut c.args.takers l (pid_of p) xs) value (out c.if-all.false)) in
    let one : left ≡ 1 = search rules in
    let alone = subst (λ n. AreLeftOut n back (pid_of p) w.ys) one w.left_out in
    let long = fewer-behind c.args.libraries.now lfront lback (length xs) (length front) (length w.ys) c.shift_of-shift.result.count whole many w.long c.split_at.ensures.front_len many_front in
    if-ok c.pass_first.result _ _ (λ passed k none. w.judged c.pass_first.new.services (k none)) (c.pass_first.ensures.judged w.ys w.settled long alone)

pub returns-then-shift-eq1-clause-out : goal.returns-then-shift-eq1-clause-out
returns-then-shift-eq1-clause-out g c = λ xs ts gs start ps h out filed all is_held.
    let front = c.split_at_mut-services.result.0.now in
    let back = c.split_at_mut-services.result.1.now in
    let lfront = c.split_at.result.0.now in
    let lback = c.split_at.result.1.now in
    let left = c.shift_of-shift.result.takers in
    let value = c.split_at_mut-services.ensures.value in
    let many_front = c.split_at_mut-services.ensures.front_len in
    let whole = whole-of c.shift_of-shift.result.count c.args.libraries.now lfront lback c.split_at.ensures.front c.split_at.ensures.back in
    let shifted = subst (λ k. IsShifted k left c.args.takers) (sym many_front) c.shift_of-shift.ensures.shifted in
    let p = c.args.packet.now in
    let w = gone-behind-passed lfront lback front back left c.args.takers ts gs p xs (c.split_at.ensures.front_len ∙ sym many_front) shifted c.of_bytes.ensures (subst (λ l. AllSettled l p xs) value h)
    (subst (λ l. AreLeftOut c.args.takers l (pid_of p) xs) value (out c.if-all.false)) (subst (λ l. FiledAs l ts) whole filed) (subst (λ l. AllGone l ts gs) value all) in
    let one : left ≡ 1 = search rules in
    let alone = subst (λ n. AreLeftOut n back (pid_of p) w.ys) one w.left_out in
    let holds = g.K.PacketSink.holds c.pass_first.new.out start in
    on-ok c.pass_first.result _ _ (λ k. (w.gone c.pass_first.new.services k.0, subst (λ l. holds (ps ++ l)) (sym w.put) k.1))
    (c.pass_first.ensures.out w.ys w.us w.hs start ps w.settled alone w.filed w.all is_held)
