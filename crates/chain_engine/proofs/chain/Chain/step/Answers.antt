use Rattle.std.proofs.Common.{rules, ℕ, List, ◌++◌, subst}
use Rattle.std.specs.Prelude.{OnOk, IfErr}
use Rattle.std.proofs.lemmas.Result.{on_ok_weaker, IfErr-weaker}
use Rattle.ts_packet.specs.declared.sink.PutFault.{PutFault}
use Rattle.ad_library.specs.Library.{held}
use Rattle.chain_engine.specs.ChainRuns.{HasStepped, Stepped, StepStops}
use Rattle.chain_engine.proofs.chain.Chain.step.Goals as goal

pub returns-clause-ok : goal.returns-clause-ok
returns-clause-ok g c = λ ts n k steps start before h.
    let filed = held c.args.library.now in
    let is_out = (λ (qs : List (List ℕ)). g.K.PacketSink.holds c.args.out.now start (before ++ qs)) in
    let is_out' = (λ (qs : List (List ℕ)). g.K.PacketSink.holds c.step_with_same.new.out start (before ++ qs)) in
    let done = subst (λ w. OnOk c.step_with_same.result (Stepped g.U.Automation.exchanges c.args.automation.now c.step_with_same.new.automation (record c.args.self.now { service = w }) c.step_with_same.new.self filed is_out' ts n k c.args.packet.now steps))
    c.ask_anew.ensures (c.step_with_same.ensures.ok ts n k steps start before (subst (λ chain. HasStepped chain filed is_out ts n k steps) (search rules) h)) in
    on_ok_weaker c.step_with_same.result (λ s. record { config = s.config; more = s.more; rs = s.rs; hears = s.hears; sound = s.sound; stands = s.stands }) done

pub returns-clause-err : goal.returns-clause-err
returns-clause-err g c = λ ts n k steps start before h.
    let filed = held c.args.library.now in
    let is_out = (λ (qs : List (List ℕ)). g.K.PacketSink.holds c.args.out.now start (before ++ qs)) in
    let is_out' = (λ (qs : List (List ℕ)). g.K.PacketSink.holds c.step_with_same.new.out start (before ++ qs)) in
    let fails = (λ (qs : List (List ℕ)) (q : List ℕ) (x : PutFault). g.K.PacketSink.fails c.step_with_same.new.out start (before ++ qs) q x) in
    let done = subst (λ w. IfErr c.step_with_same.result (λ f. StepStops g.U.Automation.exchanges c.args.automation.now c.step_with_same.new.automation (record c.args.self.now { service = w }) c.step_with_same.new.self f filed is_out' fails ts n k c.args.packet.now steps))
    c.ask_anew.ensures (c.step_with_same.ensures.err ts n k steps start before (subst (λ chain. HasStepped chain filed is_out ts n k steps) (search rules) h)) in
    IfErr-weaker c.step_with_same.result _ _ (λ fault s. record { more = s.more; rs = s.rs; hears = s.hears; talk = s.talk; why = s.why }) done
