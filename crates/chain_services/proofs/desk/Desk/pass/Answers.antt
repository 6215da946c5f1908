use Rattle.std.proofs.Common.{◌≡◌, ◌<◌, false, List, sym, subst}
use Rattle.ts_packet.specs.Fields.{pid_of}
use Rattle.injector.specs.Steps.{Step, packets_in}
use Rattle.service_laws.specs.Services.{ServiceTerms}
use Rattle.chain_services.specs.Owners.{LeavesOut, HasOwners}
use Rattle.chain_services.proofs.desk.Desk.pass.Goals as goal

pub returns-then-unit_start-clause-ok : goal.returns-then-unit_start-clause-ok
returns-then-unit_start-clause-ok g c = λ ts steps start ps filed apart stands is_held.
    let owned = (λ (us : List ServiceTerms) (past : List Step) (has : HasOwners c.args.self.now.owners us (packets_in past)) (n : c.takes_all-all.result ≡ false).
    subst (λ k. LeavesOut k us (pid_of c.args.packet.now) (packets_in past)) (sym c.takers-takers.ensures.value)
    (has (pid_of c.args.packet.now) c.takers-takers.ensures.pid (subst (λ k. k < 255) c.takers-takers.ensures.value (c.takes_all-all.ensures.told n)))) in
    c.pass_start.ensures.ok ts steps start ps filed apart stands.services (λ n. (stands.quiet (c.takes_all-all.ensures.asked n), owned ts steps stands.owners n)) is_held

pub returns-then-unit_start-clause-err : goal.returns-then-unit_start-clause-err
returns-then-unit_start-clause-err g c = λ ts steps start ps filed apart stands is_held.
    let owned = (λ (us : List ServiceTerms) (past : List Step) (has : HasOwners c.args.self.now.owners us (packets_in past)) (n : c.takes_all-all.result ≡ false).
    subst (λ k. LeavesOut k us (pid_of c.args.packet.now) (packets_in past)) (sym c.takers-takers.ensures.value)
    (has (pid_of c.args.packet.now) c.takers-takers.ensures.pid (subst (λ k. k < 255) c.takers-takers.ensures.value (c.takes_all-all.ensures.told n)))) in
    c.pass_start.ensures.err ts steps start ps filed apart stands.services (λ n. (stands.quiet (c.takes_all-all.ensures.asked n), owned ts steps stands.owners n)) is_held

pub returns-clause-ok : goal.returns-clause-ok
returns-clause-ok g c = λ ts steps start ps filed apart stands is_held.
    let owned = (λ (us : List ServiceTerms) (past : List Step) (has : HasOwners c.args.self.now.owners us (packets_in past)) (n : c.takes_all-all.result ≡ false).
    subst (λ k. LeavesOut k us (pid_of c.args.packet.now) (packets_in past)) (sym c.takers-takers.ensures.value)
    (has (pid_of c.args.packet.now) c.takers-takers.ensures.pid (subst (λ k. k < 255) c.takers-takers.ensures.value (c.takes_all-all.ensures.told n)))) in
    c.pass_next.ensures.ok ts steps start ps filed apart stands.services (λ n. (stands.quiet (c.takes_all-all.ensures.asked n), owned ts steps stands.owners n)) is_held

pub returns-clause-err : goal.returns-clause-err
returns-clause-err g c = λ ts steps start ps filed apart stands is_held.
    let owned = (λ (us : List ServiceTerms) (past : List Step) (has : HasOwners c.args.self.now.owners us (packets_in past)) (n : c.takes_all-all.result ≡ false).
    subst (λ k. LeavesOut k us (pid_of c.args.packet.now) (packets_in past)) (sym c.takers-takers.ensures.value)
    (has (pid_of c.args.packet.now) c.takers-takers.ensures.pid (subst (λ k. k < 255) c.takers-takers.ensures.value (c.takes_all-all.ensures.told n)))) in
    c.pass_next.ensures.err ts steps start ps filed apart stands.services (λ n. (stands.quiet (c.takes_all-all.ensures.asked n), owned ts steps stands.owners n)) is_held
