use Rattle.std.proofs.Common.{length, ap, arith}
use Rattle.std.proofs.lemmas.List.{length-append}
use Rattle.scte35_codec.proofs.SpellingLemmas.{avails_room}
use Rattle.scte35_codec.proofs.cue_out.put_avails.Goals as goal

pub put-requires : goal.put-requires
put-requires c =
    let room = avails_room c.loop-id.out.items c.args.out.now.items c.args.avails.now c.loop-id.id-index c.loop-id.invariant c.loop-id.auto.id-index-end in
    omega arith

pub put_number32-requires : goal.put_number32-requires
put_number32-requires c =
    let room = avails_room c.loop-id.out.items c.args.out.now.items c.args.avails.now c.loop-id.id-index c.loop-id.invariant c.loop-id.auto.id-index-end in
    omega (arith, simp length-append at (ap length c.put.ensures))
