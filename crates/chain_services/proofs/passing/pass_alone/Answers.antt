use Rattle.std.proofs.Common.{◌++◌, ◌∷◌, sym, subst}
use Rattle.std.proofs.lemmas.List.{append-nil}
use Rattle.injector.specs.Steps.{Packet as PacketStep}
use Rattle.chain_engine.specs.Passing.{ServiceStandsFor, PassFails, chain_at}
use Rattle.chain_services.proofs.PartLemmas.{serves_packet, taken_chain, failed_on, own_out, own_failed}
use Rattle.chain_services.proofs.GoOnLemmas.{alone-owned, alone-same}
use Rattle.chain_services.proofs.passing.pass_alone.Goals as goal

pub returns-in-Ok-clause-ok : goal.returns-in-Ok-clause-ok
returns-in-Ok-clause-ok g c = λ t steps start ps filed h by is_held.
    let p = c.args.packet.now in
    let old = c.args.service.now in
    let alone = by t.config h.taken h.stands.injector in
    let holds = g.K.PacketSink.holds c.go_on.new.out start in
    let stands = subst (λ v. ServiceStandsFor old t.config v h.taken) (sym filed) h.stands in
    let (goes, out) = c.in-Ok.ensures.ok t.config h.taken start ps alone stands is_held in
    let goes' = subst (λ v. ServiceStandsFor c.go_on.new.self t.config v (PacketStep p ∷ h.taken)) filed goes in
    let out' = subst (λ v. holds (ps ++ chain_at t.config v p h.taken)) filed out in
    let owned = alone-owned old t c.args.of p steps h alone in
    record {
      owns_it = sym owned;
      still = λ quiet. alone-same old t c.args.of p steps h alone;
      serves = serves_packet old c.go_on.new.self t p steps h goes';
      out = own_out t p steps (λ l. holds (ps ++ l)) owned (subst (λ l. holds (ps ++ l)) (taken_chain old t p steps h) out');
    }

pub returns-in-Err-clause-err : goal.returns-in-Err-clause-err
returns-in-Err-clause-err g c = λ t steps start ps filed h by is_held.
    let p = c.args.packet.now in
    let old = c.args.service.now in
    let alone = by t.config h.taken h.stands.injector in
    let holds = g.K.PacketSink.holds c.go_on.new.out start in
    let fails = g.K.PacketSink.fails c.go_on.new.out start in
    let stands = subst (λ v. ServiceStandsFor old t.config v h.taken) (sym filed) h.stands in
    let failed = subst (λ v. PassFails c.in-Err.fault t.config v p h.taken (holds ps) (λ put q x. fails (ps ++ put) q x)) filed (c.in-Err.ensures.err t.config h.taken start ps alone stands is_held) in
    own_failed c.in-Err.fault t p steps (λ l. holds (ps ++ l)) (λ put q x. fails (ps ++ put) q x) (alone-owned old t c.args.of p steps h alone)
    (failed_on old t p steps h (λ l. holds (ps ++ l)) (λ put q x. fails (ps ++ put) q x) c.in-Err.fault (holds ps) (λ o. subst holds (sym (append-nil ps)) o) failed)
