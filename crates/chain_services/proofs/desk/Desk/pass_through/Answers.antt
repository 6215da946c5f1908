use Rattle.std.proofs.Common.{rules, ◌≡◌, ◌++◌, false, length, sym, subst}
use Rattle.std.proofs.lemmas.List.{append-nil, with_items_is}
use Rattle.chain_services.specs.Serving.{AllServe, services_in}
use Rattle.chain_services.specs.Parts.{PassedEach}
use Rattle.chain_services.proofs.UnfollowedLemmas.{passed-all}
use Rattle.chain_services.proofs.desk.Desk.pass_through.Goals as goal

pub returns-then-leaves_out_all-clause-ok : goal.returns-then-leaves_out_all-clause-ok
returns-then-leaves_out_all-clause-ok g c = λ ts steps start ps filed all skip is_held.
    passed-all (services_in c.args.self.now) ts c.args.packet.now steps c.args.takers (λ l. g.K.PacketSink.holds c.args.out.now start (ps ++ l)) all c.of_bytes.ensures
    (c.leaves_out_all.ensures.none c.if-leaves_out_all.true) (skip (c.leaves_out_all.ensures.all c.if-leaves_out_all.true)) (subst (g.K.PacketSink.holds c.args.out.now start) (sym (append-nil ps)) is_held)

pub returns-in-Ok-clause-ok : goal.returns-in-Ok-clause-ok
returns-in-Ok-clause-ok g c = λ ts steps start ps filed all skip is_held.
    let none : c.args.all ≡ false = search rules in
    c.in-Ok.ensures.ok ts steps c.args.takers start ps filed all (skip none) c.in-Some.ensures.goes_on is_held

pub returns-in-Err-clause-err : goal.returns-in-Err-clause-err
returns-in-Err-clause-err g c = λ ts steps start ps filed all skip is_held.
    let none : c.args.all ≡ false = search rules in
    c.in-Err.ensures.err ts steps c.args.takers start ps filed all (skip none) c.in-Some.ensures.goes_on is_held

pub returns-in-Ok-pass_some-clause-ok : goal.returns-in-Ok-pass_some-clause-ok
returns-in-Ok-pass_some-clause-ok g c = λ ts steps start ps filed all skip is_held.
    let v = c.args.self.now.services in
    let new = c.pass_some.new.services in
    let passed = c.in-Ok-pass_some.passed in
    let kept : length new ≡ v.len = search rules in
    subst (λ l. PassedEach passed.is_own passed.learns l ts c.args.packet.now steps (λ qs. g.K.PacketSink.holds c.pass_some.new.out start (ps ++ qs))) (sym (with_items_is v new kept))
    (c.in-Ok-pass_some.ensures.ok ts steps start ps filed (subst (λ l. AllServe l ts steps) (sym c.as_mut_slice-services.ensures.value) all) skip is_held)

pub returns-in-Err-pass_some-clause-err : goal.returns-in-Err-pass_some-clause-err
returns-in-Err-pass_some-clause-err g c = λ ts steps start ps filed all skip is_held.
    c.in-Err-pass_some.ensures.err ts steps start ps filed (subst (λ l. AllServe l ts steps) (sym c.as_mut_slice-services.ensures.value) all) skip is_held
