use Rattle.std.proofs.Common.{rules, ◌≡◌, ◌∷◌, ◌++◌, false, sym, subst}
use Rattle.std.proofs.lemmas.List.{append-nil}
use Rattle.chain_services.specs.Parts.{part_of}
use Rattle.chain_services.proofs.PartLemmas.{parted, each_joined, first_of_failed, later_of_failed, behind_part}
use Rattle.chain_services.proofs.UnfollowedLemmas.{passed-all, skips-first}
use Rattle.chain_services.proofs.passing.+pass_each.Goals as goal

pub returns-in-Err-clause-err : goal.returns-in-Err-clause-err
returns-in-Err-clause-err g t c = λ ts steps start ps filed all skip is_held.
    let shape : c.args.services.now ≡ c.in-Some.service.now ∷ c.in-Some.others.now = search rules in
    let long : c.args.libraries.now ≡ c.in-Some-split_first.library.now ∷ c.in-Some-split_first.libraries.now = search rules in
    let h = parted c.args.services.now c.args.libraries.now c.in-Some.service.now c.in-Some.others.now c.in-Some-split_first.library.now c.in-Some-split_first.libraries.now ts steps shape long filed all in
    first_of_failed c.in-Err.fault ts h.t h.rest h.parts c.args.packet.now steps _ _ (c.in-Err.ensures.err h.t steps start ps h.filed h.serves is_held)

pub returns-in-Ok-pass_each-clause-ok : goal.returns-in-Ok-pass_each-clause-ok
returns-in-Ok-pass_each-clause-ok g t c = λ ts steps start ps filed all skip is_held.
    let shape : c.args.services.now ≡ c.in-Some.service.now ∷ c.in-Some.others.now = search rules in
    let long : c.args.libraries.now ≡ c.in-Some-split_first.library.now ∷ c.in-Some-split_first.libraries.now = search rules in
    let h = parted c.args.services.now c.args.libraries.now c.in-Some.service.now c.in-Some.others.now c.in-Some-split_first.library.now c.in-Some-split_first.libraries.now ts steps shape long filed all in
    let p = c.args.packet.now in
    let skips = (λ (n : c.args.all ≡ false). skips-first c.args.takers h.t h.rest ts p steps h.parts (skip n)) in
    let one = c.in-Ok.ensures.ok h.t steps start ps h.filed h.serves (λ out. (skips (c.leaves_out.ensures.all out)).0 (c.leaves_out.ensures.bit out)) is_held in
    let more = c.in-Ok-pass_each.ensures.ok h.rest steps start (ps ++ part_of h.t p steps) h.filed_rest h.serve_rest (λ n. (skips n).1) one.out in
    each_joined c.joined.result.is_own c.joined.result.learns _ _ _ _ c.joined.ensures.own c.joined.ensures.learns c.pass_one.new.service c.pass_each.new.services ts h.t h.rest h.parts p steps
    _ (g.K.PacketSink.holds c.pass_each.new.out start) ps one more

pub returns-in-Err-pass_each-clause-err : goal.returns-in-Err-pass_each-clause-err
returns-in-Err-pass_each-clause-err g t c = λ ts steps start ps filed all skip is_held.
    let shape : c.args.services.now ≡ c.in-Some.service.now ∷ c.in-Some.others.now = search rules in
    let long : c.args.libraries.now ≡ c.in-Some-split_first.library.now ∷ c.in-Some-split_first.libraries.now = search rules in
    let h = parted c.args.services.now c.args.libraries.now c.in-Some.service.now c.in-Some.others.now c.in-Some-split_first.library.now c.in-Some-split_first.libraries.now ts steps shape long filed all in
    let p = c.args.packet.now in
    let skips = (λ (n : c.args.all ≡ false). skips-first c.args.takers h.t h.rest ts p steps h.parts (skip n)) in
    let part = part_of h.t p steps in
    let f = c.in-Err-pass_each.fault in
    let holds = g.K.PacketSink.holds c.pass_each.new.out start in
    let fails = g.K.PacketSink.fails c.pass_each.new.out start in
    let one = c.in-Ok.ensures.ok h.t steps start ps h.filed h.serves (λ out. (skips (c.leaves_out.ensures.all out)).0 (c.leaves_out.ensures.bit out)) is_held in
    later_of_failed f ts h.t h.rest h.parts p steps (λ l. holds (ps ++ l)) (λ put q x. fails (ps ++ put) q x) c.pass_one.new.service one.serves
    (behind_part f h.rest p steps _ ps part holds fails (c.in-Err-pass_each.ensures.err h.rest steps start (ps ++ part) h.filed_rest h.serve_rest (λ n. (skips n).1) one.out))

pub returns-then-leaves_out_all-clause-ok : goal.returns-then-leaves_out_all-clause-ok
returns-then-leaves_out_all-clause-ok g t c = λ ts steps start ps filed all skip is_held.
    passed-all c.args.services.now ts c.args.packet.now steps c.args.takers (λ l. g.K.PacketSink.holds c.args.out.now start (ps ++ l)) all c.of_bytes.ensures
    (c.leaves_out_all.ensures.none c.if-leaves_out_all.true) (skip (c.leaves_out_all.ensures.all c.if-leaves_out_all.true)) (subst (g.K.PacketSink.holds c.args.out.now start) (sym (append-nil ps)) is_held)
