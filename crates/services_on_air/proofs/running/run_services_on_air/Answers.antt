use Rattle.std.proofs.Common.{[], ◌∷◌, ◌++◌, reverse, sym, subst}
use Rattle.std.proofs.lemmas.List.{append-nil, reverse-append}
use Rattle.ts_packet.proofs.RunBlameLemmas.{given_none, given_more}
use Rattle.ts_packet.proofs.PacketsLemmas.{read_to_end}
use Rattle.service_laws.specs.Services.{configs_of}
use Rattle.chain_engine.specs.Runs.{Exchanged}
use Rattle.cued_laws.specs.Laws.{ArePacketsOfBytes}
use Rattle.on_air.proofs.LoopLemmas.{bytes-next}
use Rattle.services_on_air.specs.Standing.{AirServicesStandFor, TellsOfAll}
use Rattle.services_on_air.specs.Serving.{RunsSoFar}
use Rattle.services_on_air.proofs.AllLemmas.{filed-long, begins-gone, told-gone, ended-on-air}
use Rattle.services_on_air.proofs.running.run_services_on_air.Goals as goal

pub loop-fault-init : goal.loop-fault-init
loop-fault-init g c = (
  [],
  given_none _ _,
  tt,
  g.met.P.PacketSource.leads_refl _,
  g.met.K.PacketSink.leads_refl _,
  λ cs stands many. stands,
  λ ts start before stands begins filed is_held.
      begins-gone g.U.Automation.exchanges g.met.U.Automation.exchanges_refl g.met.U.Automation.exchanges_trans g.U.Automation.failures c.args.automation.now c.args.services ts
      (λ l. g.K.PacketSink.holds c.args.out.now start (before ++ l)) begins (subst (g.K.PacketSink.holds c.args.out.now start) (sym (append-nil before)) is_held),
)

pub loop-fault-preserved : goal.loop-fault-preserved
loop-fault-preserved g c =
    let (ps, n, bytes, reads, leads, run, gone) = c.loop-fault.invariant in
    let q = c.read_next.new.next in
    let r = rw c.in-Ok-true.field-0-test at c.in-Ok-true.ensures.read in
    let e = rw c.in-Ok-true.field-0-test at c.in-Ok-true.ensures.given in (
      ps ++ q ∷ [],
      given_more _ _ _ _ _ _ ps q n r e.0,
      bytes-next ps q bytes c.in-Ok-true.ensures.bytes,
      g.met.P.PacketSource.leads_trans _ _ _ reads c.in-Ok-true.ensures.reads,
      g.met.K.PacketSink.leads_trans _ _ _ (g.met.K.PacketSink.leads_trans _ _ _ leads c.in-Ok-true.ensures.leads) c.in-Ok.ensures.leads,
      λ cs stands many. subst (AirServicesStandFor c.pass.new.self cs) (sym (reverse-append ps (q ∷ []))) (c.in-Ok.ensures.stands cs (reverse ps) (run cs stands many) many),
      λ ts start before stands begins filed is_held.
          let prior = gone ts start before stands begins filed is_held in
          let stood = run (configs_of ts) stands (filed-long _ ts filed) in
          let read = told-gone _ ts (reverse ps) _ (λ l. g.K.PacketSink.holds c.read_next.new.out start (before ++ l)) _ (λ l k. c.in-Ok-true.ensures.held start (before ++ l) k) prior in
          subst (λ l. RunsSoFar c.pass.new.self ts l (λ w. g.K.PacketSink.holds c.pass.new.out start (before ++ w)) (Exchanged g.U.Automation.exchanges g.U.Automation.failures c.args.automation.now c.pass.new.automation)) (sym (reverse-append ps (q ∷ [])))
          (c.in-Ok.ensures.out ts (reverse ps) before start _ begins.indexes stood filed read),
    )

pub returns-in-Ok-finish-clause-stretches : goal.returns-in-Ok-finish-clause-stretches
returns-in-Ok-finish-clause-stretches g c = λ cs bs stands many given.
    let (ps, n, bytes, reads, leads, run, gone) = c.loop-fault.invariant in
    let r = rw c.in-Ok-false.field-0-test at c.in-Ok-false.ensures.read in
    let all = rw given at (read_to_end _ _ ps n.read r.0) in
    subst (λ l. TellsOfAll c.in-Ok-finish.told cs (reverse l)) (sym all.0) (c.in-Ok-finish.ensures.stands cs (reverse ps) (run cs stands many))

pub returns-in-Ok-finish-clause-out : goal.returns-in-Ok-finish-clause-out
returns-in-Ok-finish-clause-out g c = λ ts start before bs stands begins filed is_held given.
    let (ps, n, bytes, reads, leads, run, gone) = c.loop-fault.invariant in
    let r = rw c.in-Ok-false.field-0-test at c.in-Ok-false.ensures.read in
    let all = rw given at (read_to_end _ _ ps n.read r.0) in
    let prior = gone ts start before stands begins filed is_held in
    let read = told-gone _ ts (reverse ps) _ (λ l. g.K.PacketSink.holds c.read_next.new.out start (before ++ l)) _ (λ l k. c.in-Ok-false.ensures.held start (before ++ l) k) prior in
    let (ended, out) = c.in-Ok-finish.ensures.out ts (reverse ps) before read.takes read.rs start filed read.gone read.out in
    ended-on-air _ c.in-Ok-finish.told ts bs ps read.takes read.rs _ _ all.0 read.gone read.exchanges ended out

pub returns-in-Ok-finish-clause-bytes : goal.returns-in-Ok-finish-clause-bytes
returns-in-Ok-finish-clause-bytes g c = λ bs given.
    let (ps, n, bytes, reads, leads, run, gone) = c.loop-fault.invariant in
    let r = rw c.in-Ok-false.field-0-test at c.in-Ok-false.ensures.read in
    let all = rw given at (read_to_end _ _ ps n.read r.0) in
    subst (λ l. ArePacketsOfBytes (reverse l)) (sym all.0) bytes
