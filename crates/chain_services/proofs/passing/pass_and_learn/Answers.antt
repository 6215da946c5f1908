use Rattle.std.proofs.Common.{◌++◌, ◌∷◌, ◌∙◌, sym, subst}
use Rattle.std.proofs.lemmas.List.{append-nil}
use Rattle.injector.specs.Steps.{Packet as PacketStep}
use Rattle.chain_engine.specs.Passing.{ServiceStandsFor, PassFails, chain_at}
use Rattle.chain_services.proofs.PartLemmas.{serves_packet, taken_chain, knows_same, not_apart, failed_on}
use Rattle.chain_services.proofs.passing.pass_and_learn.Goals as goal

pub returns-in-Ok-clause-ok : goal.returns-in-Ok-clause-ok
returns-in-Ok-clause-ok g c = λ t steps start ps filed h is_held.
    let p = c.args.packet.now in
    let old = c.args.service.now in
    let stands = subst (λ v. ServiceStandsFor old t.config v h.taken) (sym filed) h.stands in
    let (goes, out) = c.in-Ok.ensures.ok t.config h.taken start ps stands is_held in
    let goes' = subst (λ v. ServiceStandsFor c.pass_on.new.self t.config v (PacketStep p ∷ h.taken)) filed goes in
    let out' = subst (λ v. g.K.PacketSink.holds c.pass_on.new.out start (ps ++ chain_at t.config v p h.taken)) filed out in
    record {
      still = λ n. knows_same old t p steps h (sym (c.pid_count.ensures t.config (PacketStep p ∷ h.taken) goes.injector) ∙ not_apart c.pid_count.result c.pid_count-known.result n ∙ c.pid_count-known.ensures t.config h.taken h.stands.injector);
      serves = serves_packet old c.pass_on.new.self t p steps h goes';
      out = subst (λ l. g.K.PacketSink.holds c.pass_on.new.out start (ps ++ l)) (taken_chain old t p steps h) out';
    }

pub returns-in-Err-clause-err : goal.returns-in-Err-clause-err
returns-in-Err-clause-err g c = λ t steps start ps filed h is_held.
    let p = c.args.packet.now in
    let old = c.args.service.now in
    let stands = subst (λ v. ServiceStandsFor old t.config v h.taken) (sym filed) h.stands in
    let holds = g.K.PacketSink.holds c.pass_on.new.out start in
    let fails = g.K.PacketSink.fails c.pass_on.new.out start in
    let failed = subst (λ v. PassFails c.in-Err.fault t.config v p h.taken (holds ps) (λ put q x. fails (ps ++ put) q x)) filed (c.in-Err.ensures.err t.config h.taken start ps stands is_held) in
    failed_on old t p steps h (λ l. holds (ps ++ l)) (λ put q x. fails (ps ++ put) q x) c.in-Err.fault (holds ps) (λ o. subst holds (sym (append-nil ps)) o) failed
