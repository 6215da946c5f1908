use Rattle.std.proofs.Common.{[], ◌≡◌}
use Rattle.ts_packet.specs.declared.reader.ReadFault.TheVariants as read_faults
use Rattle.ad_library.specs.declared.fault.AdFault.TheVariants as ad_faults
use Rattle.std.specs.Prelude.{reverse}
use Rattle.std.proofs.lemmas.List.Elements.{All-nil}
use Rattle.ts_packet.proofs.RunBlameLemmas.{on-refl, on-more, on-end}
use Rattle.ts_packet.proofs.RunBlameLemmas.{given_none, given_more}
use Rattle.ad_library.proofs.ReadLemmas.{one_taken, all_taken, take_says, read_says, read_own, told_blamed, quiet_take, not_turns, reader_blamed}
use Rattle.ad_library.proofs.reading.gather.Goals as goal

pub loop-gathering-init : goal.loop-gathering-init
loop-gathering-init g c = record {
  whole = c.requires.whole;
  reads = g.met.P.PacketSource.leads_refl _;
  well = on-refl _ _;
  taken = record { packets = []; read = given_none _ _; clean = All-nil _; gathered = c.requires.none };
}

pub take-requires : goal.take-requires
take-requires g c =
    let h = c.loop-gathering.invariant.taken in
    (reverse h.packets, h.gathered)

pub loop-gathering-preserved : goal.loop-gathering-preserved
loop-gathering-preserved g c =
    let h = c.loop-gathering.invariant.taken in
    let p = c.read_packet.new.packet in
    let r = rw c.in-Ok-true.field-0-test at c.in-Ok-true.ensures.ok in
    let n = rw c.in-Ok-true.field-0-test at c.in-Ok-true.ensures.given in
    record {
      whole = c.in-Ok-true.ensures.broken;
      reads = g.met.P.PacketSource.leads_trans _ _ _ c.loop-gathering.invariant.reads c.in-Ok-true.ensures.leads;
      well = on-more _ _ _ _ _ _ c.loop-gathering.invariant.well (rw c.in-Ok-true.field-0-test at c.in-Ok-true.ensures.counts);
      taken = one_taken _ _ _ _ _ _ _ _ p h (given_more _ _ _ _ _ _ h.packets p h.read r n.1) (c.in-Ok.ensures.sound (reverse h.packets) h.gathered) (c.in-Ok.ensures.ok (reverse h.packets) h.gathered);
    }

pub returns-in-Err-take-clause-says : goal.returns-in-Err-take-clause-says
returns-in-Err-take-clause-says g c =
    let h = c.loop-gathering.invariant.taken in
    let r = rw c.in-Ok-true.field-0-test at c.in-Ok-true.ensures.ok in
    (take_says _ _ _ _ _ _ c.read_packet.new.packet c.in-Err-take.fault h r (c.in-Err-take.ensures.err (reverse h.packets) h.gathered)).0

pub returns-in-Err-take-clause-own : goal.returns-in-Err-take-clause-own
returns-in-Err-take-clause-own g c =
    let h = c.loop-gathering.invariant.taken in
    let r = rw c.in-Ok-true.field-0-test at c.in-Ok-true.ensures.ok in
    (take_says _ _ _ _ _ _ c.read_packet.new.packet c.in-Err-take.fault h r (c.in-Err-take.ensures.err (reverse h.packets) h.gathered)).1

pub returns-in-Err-take-clause-reading : goal.returns-in-Err-take-clause-reading
returns-in-Err-take-clause-reading g c =
    let h = c.loop-gathering.invariant.taken in
    told_blamed _ _ _ _ _ _ c.in-Err-take.fault c.loop-gathering.invariant.well (rw c.in-Ok-true.field-0-test at c.in-Ok-true.ensures.counts)
    (quiet_take c.read_packet.new.packet (reverse h.packets) c.in-Err-take.fault (c.in-Err-take.ensures.err (reverse h.packets) h.gathered))

pub returns-in-Err-take-clause-turns : goal.returns-in-Err-take-clause-turns
returns-in-Err-take-clause-turns g c = λ e.
    let h = c.loop-gathering.invariant.taken in
    not_turns c.in-Err-take.fault (quiet_take c.read_packet.new.packet (reverse h.packets) c.in-Err-take.fault (c.in-Err-take.ensures.err (reverse h.packets) h.gathered)) (let k : c.in-Err-take.fault ≡ ad_faults.Packets read_faults.Turns = cc in k)

pub returns-in-Ok-false-clause-ok : goal.returns-in-Ok-false-clause-ok
returns-in-Ok-false-clause-ok g c =
    let r = rw c.in-Ok-false.field-0-test at c.in-Ok-false.ensures.ok in
    all_taken _ _ _ _ _ c.loop-gathering.invariant.taken r.0

pub returns-in-Ok-false-clause-read : goal.returns-in-Ok-false-clause-read
returns-in-Ok-false-clause-read g c = on-end _ _ _ _ _ _ c.loop-gathering.invariant.well (rw c.in-Ok-false.field-0-test at c.in-Ok-false.ensures.counts)

pub returns-in-Err-clause-says : goal.returns-in-Err-clause-says
returns-in-Err-clause-says g c =
    let r = rw c.loop-gathering.invariant.whole at c.in-Err.ensures.err in
    let s = read_says _ _ _ _ _ c.in-Err.fault c.loop-gathering.invariant.taken r in
    rw c.of_read.ensures s

pub returns-in-Err-clause-own : goal.returns-in-Err-clause-own
returns-in-Err-clause-own g c = rw c.of_read.ensures (read_own c.in-Err.fault)

pub returns-in-Err-clause-reading : goal.returns-in-Err-clause-reading
returns-in-Err-clause-reading g c =
    let r = rw c.loop-gathering.invariant.whole at c.in-Err.ensures.err in
    rw c.of_read.ensures (reader_blamed _ _ (g.P.PacketSource.has_ended c.read_packet.new.self) _ _ _ _ _ c.loop-gathering.invariant.well c.in-Err.ensures.blamed.0 c.in-Err.fault r c.in-Err.ensures.blamed.1)
