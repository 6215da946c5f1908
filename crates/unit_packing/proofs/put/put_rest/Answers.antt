use Rattle.std.proofs.Common.{ℕ, List, ◌+◌, ◌%◌, length, [], ◌∷◌, ◌++◌, ◌∙◌, arith, drop, append_assoc, subst, ap, sym}
use Rattle.unit_packing.specs.Packing.{rest_unit_packets}
use Rattle.unit_packing.specs.Putting.{next_number}
use Rattle.unit_stream.specs.UnitPackets.{put_in}
use Rattle.ts_packet.specs.Numbering.{Counts}
use Rattle.ts_packet.proofs.Cases.{on_ok_more}
use Rattle.ts_packet.proofs.CountLemmas.{well-trans, blamed-after}
use Rattle.unit_packing.proofs.PutLemmas.{no_fault, part_fits, one_put, one_more_put, last_put, counted_more, rest_done, same_counts, fails_because, if_err_both}
use Rattle.unit_packing.proofs.put.put_rest.Goals as goal

pub packet_of-packet-requires : goal.packet_of-packet-requires
packet_of-packet-requires g c =
    let f = part_fits c.loop-at.at (length c.args.bytes.now) c.args.bytes.now (omega arith) (omega arith) in
    no_fault c.args.pid c.fresh-2.result _ _ _ c.write_packet.new.bytes c.write_packet.ensures.value c.write_packet.ensures.below c.fresh-2.ensures.below f.0 f.1

pub returns-in-Err-clause-err : goal.returns-in-Err-clause-err
returns-in-Err-clause-err g c = λ start ps steps h k.
    let i = c.loop-at.invariant in
    let e = c.in-Err.ensures in
    let now = i.put.1 steps k in
    record {
      put = i.put.0;
      packet = c.full_packet-packet.result;
      left = rest_unit_packets c.args.pid ((c.fresh.result + 1) % 16) (drop 184 (drop c.loop-at.at c.args.bytes.now));
      all = one_put c.args.pid (next_number steps) c.fresh.result c.loop-at.at (c.loop-at.at + 184) c.args.bytes.now c.full_packet-packet.result i.put.0 steps (omega arith) (omega arith)
          c.full_packet-packet.ensures now.0 (c.fresh.ensures.number (put_in i.put.0 steps) now.1);
      fault = e.err start (ps ++ i.put.0) (i.put.2 start ps h);
      counted = same_counts c.put_packet.new.counter c.loop-at.counter (put_in i.put.0 steps) e.same now.1;
    }

pub loop-at-preserved : goal.loop-at-preserved
loop-at-preserved g c =
    let i = c.loop-at.invariant in
    let e = c.in-Ok.ensures in
    let p = c.full_packet-packet.result in
    record {
      leads = g.met.S.PacketSink.leads_trans c.args.sink.now c.loop-at.sink c.put_packet.new.sink i.leads c.put_packet.ensures.leads;
      well = well-trans _ _ _ i.well e.well;
      within = omega arith;
      put = (
        i.put.0 ++ p ∷ [],
        λ steps k. let now = i.put.1 steps k in (
          one_more_put c.args.pid (next_number steps) c.fresh.result c.loop-at.at (c.loop-at.at + 184) c.args.bytes.now p i.put.0 steps (omega arith) (omega arith)
              c.full_packet-packet.ensures now.0 (c.fresh.ensures.number (put_in i.put.0 steps) now.1),
          same_counts c.put_packet.new.counter c.fresh.new.self (put_in (i.put.0 ++ p ∷ []) steps) e.counted
              (counted_more c.fresh.new.self i.put.0 p steps (c.fresh.ensures.counts (put_in i.put.0 steps) now.1)),
        ),
        λ start ps h. rw (← append_assoc ps i.put.0 (p ∷ [])) (e.ok start (ps ++ i.put.0) (i.put.2 start ps h)),
      );
    }

pub returns-then-at-bytes-clause-ok : goal.returns-then-at-bytes-clause-ok
returns-then-at-bytes-clause-ok g c = λ start ps steps h k.
    let i = c.loop-at.invariant in
    let e = rest_done c.args.pid (next_number steps) (next_number (put_in i.put.0 steps)) c.loop-at.at c.args.bytes.now i.put.0 (omega arith) ((i.put.1 steps k).0) in
    let P : List (List ℕ) → Type 0 = λ l. g.S.PacketSink.holds c.loop-at.sink start (ps ++ l) in
    subst P (sym e) (i.put.2 start ps h)

pub returns-then-at-bytes-clause-counted : goal.returns-then-at-bytes-clause-counted
returns-then-at-bytes-clause-counted g c = λ steps k.
    let i = c.loop-at.invariant in
    let now = i.put.1 steps k in
    let e = rest_done c.args.pid (next_number steps) (next_number (put_in i.put.0 steps)) c.loop-at.at c.args.bytes.now i.put.0 (omega arith) now.0 in
    let P : List (List ℕ) → Type 0 = λ l. Counts c.loop-at.counter (put_in l steps) in
    subst P (sym e) now.1

pub returns-clause-ok : goal.returns-clause-ok
returns-clause-ok g c = λ start ps steps h k.
    let i = c.loop-at.invariant in
    let now = i.put.1 steps k in
    let p = c.packet_of-packet.result in
    let w = last_put c.args.pid (next_number steps) c.fresh-2.result c.loop-at.at c.args.bytes.now p i.put.0 steps (omega arith) (omega arith) (c.packet_of-packet.ensures ∙ c.write_packet.ensures.value) now.0 (c.fresh-2.ensures.number (put_in i.put.0 steps) now.1) in
    let P : List (List ℕ) → Type 0 = λ l. g.S.PacketSink.holds c.put_packet-2.new.sink start l in
    on_ok_more c.put_packet-2.result (λ x. subst P (append_assoc ps i.put.0 (p ∷ []) ∙ ap (λ l. ps ++ l) (sym w)) x) (c.put_packet-2.ensures.ok start (ps ++ i.put.0) (i.put.2 start ps h))

pub returns-clause-counted : goal.returns-clause-counted
returns-clause-counted g c = λ steps k.
    let i = c.loop-at.invariant in
    let now = i.put.1 steps k in
    let p = c.packet_of-packet.result in
    let w = last_put c.args.pid (next_number steps) c.fresh-2.result c.loop-at.at c.args.bytes.now p i.put.0 steps (omega arith) (omega arith) (c.packet_of-packet.ensures ∙ c.write_packet.ensures.value) now.0 (c.fresh-2.ensures.number (put_in i.put.0 steps) now.1) in
    let P : List (List ℕ) → Type 0 = λ l. Counts c.put_packet-2.new.counter (put_in l steps) in
    on_ok_more c.put_packet-2.result (λ e. subst P (sym w) (same_counts c.put_packet-2.new.counter c.fresh-2.new.self (put_in (i.put.0 ++ p ∷ []) steps) e
    (counted_more c.fresh-2.new.self i.put.0 p steps (c.fresh-2.ensures.counts (put_in i.put.0 steps) now.1)))) c.put_packet-2.ensures.counted

pub returns-clause-err : goal.returns-clause-err
returns-clause-err g c = λ start ps steps h k.
    let i = c.loop-at.invariant in
    let e = c.put_packet-2.ensures in
    let now = i.put.1 steps k in
    let p = c.packet_of-packet.result in
    let w = last_put c.args.pid (next_number steps) c.fresh-2.result c.loop-at.at c.args.bytes.now p i.put.0 steps (omega arith) (omega arith) (c.packet_of-packet.ensures ∙ c.write_packet.ensures.value) now.0 (c.fresh-2.ensures.number (put_in i.put.0 steps) now.1) in
    if_err_both c.put_packet-2.result (λ f same fault. fails_because c.put_packet-2.new.counter steps _ i.put.0 p [] _ w fault (same_counts c.put_packet-2.new.counter c.loop-at.counter (put_in i.put.0 steps) same now.1))
    e.same (e.err start (ps ++ i.put.0) (i.put.2 start ps h))

pub returns-in-Err-clause-blamed : goal.returns-in-Err-clause-blamed
returns-in-Err-clause-blamed g c = blamed-after _ _ _ _ _ c.loop-at.invariant.well c.in-Err.ensures.blamed
