use Rattle.std.proofs.Common.{ℕ, List, ◌-◌, [], ◌∷◌, ◌++◌, ◌∙◌, arith, drop, take, append_assoc, subst, ap, sym, length}
use Rattle.std.proofs.lemmas.List.{append-nil}
use Rattle.ts_packet.proofs.Cases.{on_ok_more, if_err_more}
use Rattle.unit_packing.specs.Packing.{rest_unit_packets}
use Rattle.unit_packing.specs.Putting.{next_number}
use Rattle.unit_stream.specs.UnitPackets.{put_in}
use Rattle.ts_packet.specs.Numbering.{Inserted, Counts}
use Rattle.ts_packet.proofs.CountLemmas.{well-trans, blamed-after}
use Rattle.unit_packing.proofs.PutLemmas.{no_fault, same_counts, fails_more, first_fits, whole_put}
use Rattle.unit_packing.proofs.put.put_unit.Goals as goal

pub packet_of-first-requires : goal.packet_of-first-requires
packet_of-first-requires g c =
    let f = first_fits c.args.random_access c.room.result c.min-size.result c.args.bytes.now c.room.ensures.value c.min-size.ensures c.requires in
    no_fault c.args.pid c.fresh.result _ _ _ c.write_packet.new.bytes c.write_packet.ensures.value c.write_packet.ensures.below c.fresh.ensures.below (omega (arith, f.0, f.2)) (omega (arith, f.0, f.1))

pub returns-in-Err-clause-err : goal.returns-in-Err-clause-err
returns-in-Err-clause-err g c = λ start ps steps h k.
    let e = c.in-Err.ensures in
    record {
      put = [];
      packet = c.packet_of-first.result;
      left = rest_unit_packets c.args.pid (next_number (Inserted ∷ steps)) (take (length c.args.bytes.now - c.min-size.result) (drop c.min-size.result c.args.bytes.now));
      all = whole_put c.args.pid c.fresh.result c.room.result c.min-size.result c.args.random_access c.args.bytes.now c.packet_of-first.result steps c.room.ensures.value c.min-size.ensures (c.fresh.ensures.number steps k) (c.packet_of-first.ensures ∙ c.write_packet.ensures.value);
      fault = rw append-nil (e.err start ps h);
      counted = same_counts c.put_packet.new.counter c.args.counter.now steps e.same k;
    }

pub returns-clause-ok : goal.returns-clause-ok
returns-clause-ok g c = λ start ps steps h k.
    let e = c.in-Ok.ensures in
    let w = whole_put c.args.pid c.fresh.result c.room.result c.min-size.result c.args.random_access c.args.bytes.now c.packet_of-first.result steps c.room.ensures.value c.min-size.ensures (c.fresh.ensures.number steps k) (c.packet_of-first.ensures ∙ c.write_packet.ensures.value) in
    let now = same_counts c.put_packet.new.counter c.fresh.new.self (Inserted ∷ steps) e.counted (c.fresh.ensures.counts steps k) in
    let r = c.put_rest.ensures.ok start (ps ++ c.packet_of-first.result ∷ []) (Inserted ∷ steps) (e.ok start ps h) now in
    let P : List (List ℕ) → Type 0 = λ l. g.S.PacketSink.holds c.put_rest.new.sink start l in
    on_ok_more c.put_rest.result (λ x. subst P (append_assoc ps (c.packet_of-first.result ∷ []) _ ∙ ap (λ l. ps ++ l) (sym w)) x) r

pub returns-clause-counted : goal.returns-clause-counted
returns-clause-counted g c = λ steps k.
    let e = c.in-Ok.ensures in
    let w = whole_put c.args.pid c.fresh.result c.room.result c.min-size.result c.args.random_access c.args.bytes.now c.packet_of-first.result steps c.room.ensures.value c.min-size.ensures (c.fresh.ensures.number steps k) (c.packet_of-first.ensures ∙ c.write_packet.ensures.value) in
    let now = same_counts c.put_packet.new.counter c.fresh.new.self (Inserted ∷ steps) e.counted (c.fresh.ensures.counts steps k) in
    let P : List (List ℕ) → Type 0 = λ l. Counts c.put_rest.new.counter (put_in l steps) in
    on_ok_more c.put_rest.result (λ x. subst P (sym w) x) (c.put_rest.ensures.counted (Inserted ∷ steps) now)

pub returns-clause-err : goal.returns-clause-err
returns-clause-err g c = λ start ps steps h k.
    let e = c.in-Ok.ensures in
    let first = c.packet_of-first.result in
    let w = whole_put c.args.pid c.fresh.result c.room.result c.min-size.result c.args.random_access c.args.bytes.now c.packet_of-first.result steps c.room.ensures.value c.min-size.ensures (c.fresh.ensures.number steps k) (c.packet_of-first.ensures ∙ c.write_packet.ensures.value) in
    let now = same_counts c.put_packet.new.counter c.fresh.new.self (Inserted ∷ steps) e.counted (c.fresh.ensures.counts steps k) in
    let r = c.put_rest.ensures.err start (ps ++ first ∷ []) (Inserted ∷ steps) (e.ok start ps h) now in
    if_err_more c.put_rest.result
    (λ f x. fails_more c.put_rest.new.counter steps first _ _ _ _ w
    (λ put p y. let P : List (List ℕ) → Type 0 = λ l. g.S.PacketSink.fails c.put_rest.new.sink start l p f in subst P (append_assoc ps (first ∷ []) put) y) x) r

pub returns-clause-well : goal.returns-clause-well
returns-clause-well g c = on_ok_more c.put_rest.result (λ x. well-trans _ _ _ c.in-Ok.ensures.well x) c.put_rest.ensures.well

pub returns-clause-blamed : goal.returns-clause-blamed
returns-clause-blamed g c = if_err_more c.put_rest.result (λ f x. blamed-after f _ _ _ _ c.in-Ok.ensures.well x) c.put_rest.ensures.blamed
