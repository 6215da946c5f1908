use Rattle.std.proofs.Common.{◌+◌, ◌%◌, [], ◌∷◌, ◌++◌, ◌∙◌, arith, drop, append_assoc}
use Rattle.ts_packet.proofs.CountLemmas.{well-trans, blamed-after}
use Rattle.psi_section.specs.Packetising.{rest_packets}
use Rattle.psi_section.proofs.PacketiserLemmas.{one_put, one_more_put, counted_more}
use Rattle.psi_section.proofs.packetiser.Packetiser.put_rest.Goals as goal

pub returns-in-Err-clause-err : goal.returns-in-Err-clause-err
returns-in-Err-clause-err g c = λ start ps h.
    let i = c.loop-at.invariant in
    let s = c.loop-at.self in
    let a = c.args.self.now in
    let e = c.in-Err.ensures in
    record {
      put = i.put.0;
      packet = c.next_packet-packet.result;
      left = rest_packets a.pid ((s.counter + 1) % 16) (drop 184 (drop c.loop-at.at c.args.bytes.now));
      all = one_put a.pid a.counter s.pid s.counter c.loop-at.at c.args.bytes.now c.next_packet-packet.result i.put.0 c.loop-at-test.true i.put.1 i.same_pid c.next_packet-packet.ensures;
      fault = e.err start (ps ++ i.put.0) (i.put.3 start ps h);
      counted = record { same_pid = e.same.same_pid ∙ i.same_pid; upcoming = e.same.upcoming ∙ i.put.2 };
    }

pub loop-at-preserved : goal.loop-at-preserved
loop-at-preserved g c =
    let i = c.loop-at.invariant in
    let s = c.loop-at.self in
    let a = c.args.self.now in
    let e = c.in-Ok.ensures in
    let p = c.next_packet-packet.result in
    let m = c.min-at.ensures in
    record {
      leads = g.met.S.PacketSink.leads_trans c.args.sink.now c.loop-at.sink c.send.new.sink i.leads c.send.ensures.leads;
      well = well-trans _ _ _ i.well e.well;
      within = omega arith;
      same_pid = e.counted.same_pid ∙ i.same_pid;
      put = (
        i.put.0 ++ p ∷ [],
        one_more_put a.pid a.counter s.pid s.counter c.loop-at.at c.args.bytes.now p i.put.0 c.loop-at-test.true i.put.1 i.same_pid c.next_packet-packet.ensures
            c.send.new.self.counter c.min-at.result e.counted.upcoming m,
        counted_more a.counter s.counter c.send.new.self.counter i.put.0 p i.put.2 e.counted.upcoming,
        λ start ps h. rw (← append_assoc ps i.put.0 (p ∷ [])) (e.ok start (ps ++ i.put.0) (i.put.3 start ps h)),
      );
    }

pub returns-in-Err-clause-blamed : goal.returns-in-Err-clause-blamed
returns-in-Err-clause-blamed g c = blamed-after _ _ _ _ _ c.loop-at.invariant.well c.in-Err.ensures.blamed
