use Rattle.std.proofs.Common.{subst, ℕ, ◌+◌, ◌%◌, List, [], ◌∷◌, ◌++◌, sym, ap, ◌∙◌, arith, drop, append_assoc}
use Rattle.std.proofs.lemmas.List.{append-nil}
use Rattle.ts_packet.proofs.Cases.{on_ok_more, if_err_more}
use Rattle.psi_section.proofs.PacketiserLemmas.{whole_put, whole_behind, puts_more, fails_more}
use Rattle.ts_packet.proofs.CountLemmas.{well-trans, blamed-after}
use Rattle.psi_section.specs.Packetising.{rest_packets}
use Rattle.psi_section.proofs.packetiser.Packetiser.put.Goals as goal

pub returns-in-Err-clause-err : goal.returns-in-Err-clause-err
returns-in-Err-clause-err g c = λ start ps h.
    let a = c.args.self.now in
    let e = c.in-Err.ensures in
    record {
      put = [];
      packet = c.first_packet-packet.result;
      left = rest_packets a.pid ((a.counter + 1) % 16) (drop 183 c.args.section.now);
      all = ap (λ x. x ∷ rest_packets a.pid ((a.counter + 1) % 16) (drop 183 c.args.section.now)) (sym c.first_packet-packet.ensures);
      fault = rw append-nil (e.err start ps h);
      counted = record { same_pid = e.same.same_pid; upcoming = e.same.upcoming ∙ omega arith };
    }

pub returns-clause-ok : goal.returns-clause-ok
returns-clause-ok g c = λ start ps h.
    let a = c.args.self.now in
    let b = c.send.new.self in
    let e = c.in-Ok.ensures in
    let w = whole_behind a.pid a.counter b.pid b.counter c.min.result c.args.section.now c.first_packet-packet.result c.first_packet-packet.ensures c.min.ensures (e.counted.same_pid, e.counted.upcoming) ps in
    let k = c.put_rest.ensures.ok start (ps ++ c.first_packet-packet.result ∷ []) (e.ok start ps h) in
    let P : List (List ℕ) → Type 0 = λ l. g.S.PacketSink.holds c.put_rest.new.sink start l in
    on_ok_more c.put_rest.result (λ x. subst P w x) k

pub returns-clause-counter : goal.returns-clause-counter
returns-clause-counter g c =
    let a = c.args.self.now in
    let b = c.send.new.self in
    let e = c.in-Ok.ensures in
    let w = whole_put a.pid a.counter b.pid b.counter c.min.result c.args.section.now c.first_packet-packet.result c.first_packet-packet.ensures c.min.ensures (e.counted.same_pid, e.counted.upcoming) in
    on_ok_more c.put_rest.result (λ x. puts_more a b c.put_rest.new.self c.first_packet-packet.result _ _ e.counted w x) c.put_rest.ensures.counter

pub returns-clause-err : goal.returns-clause-err
returns-clause-err g c = λ start ps h.
    let a = c.args.self.now in
    let b = c.send.new.self in
    let e = c.in-Ok.ensures in
    let first = c.first_packet-packet.result in
    let w = whole_put a.pid a.counter b.pid b.counter c.min.result c.args.section.now first c.first_packet-packet.ensures c.min.ensures (e.counted.same_pid, e.counted.upcoming) in
    let k = c.put_rest.ensures.err start (ps ++ first ∷ []) (e.ok start ps h) in
    if_err_more c.put_rest.result
    (λ f x. fails_more a b c.put_rest.new.self first _ _ _ _ e.counted w
    (λ put p y. let P : List (List ℕ) → Type 0 = λ l. g.S.PacketSink.fails c.put_rest.new.sink start l p f in subst P (append_assoc ps (first ∷ []) put) y) x) k

pub returns-clause-well : goal.returns-clause-well
returns-clause-well g c = on_ok_more c.put_rest.result (λ x. well-trans _ _ _ c.in-Ok.ensures.well x) c.put_rest.ensures.well

pub returns-clause-blamed : goal.returns-clause-blamed
returns-clause-blamed g c = if_err_more c.put_rest.result (λ f x. blamed-after f _ _ _ _ c.in-Ok.ensures.well x) c.put_rest.ensures.blamed
