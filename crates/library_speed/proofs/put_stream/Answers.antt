use Rattle.ts_packet.proofs.CountLemmas.{well-trans}
use Rattle.library_speed.proofs.put_stream.Goals as goal

pub loop-preserved : goal.loop-preserved
loop-preserved g c =
    let i = c.loop.invariant in
    record {
      leads = g.met.S.PacketSink.leads_trans c.args.sink.now c.loop.sink c.put_moved.new.sink i.leads c.put_moved.ensures.leads;
      well = well-trans _ _ _ i.well c.in-Ok.ensures.well;
    }
