use Rattle.std.proofs.Common.{◌≡◌, ◌-◌, ◌≤◌, arith, length, take, sym, ap, ◌∙◌, subst, le_refl}
use Rattle.std.proofs.lemmas.Slice.{take-put_mid_below}
use Rattle.std.specs.Io.KnownBytes.{Consumes}
use Rattle.std.proofs.KnownBytes.{Consumes-trans, Consumes-kept}
use borrow.Rule.Slice.PartMut.{put_mid}
use Rattle.ts_packet.proofs.TransferLemmas.{length-filled, take-filled}
use Rattle.ts_packet.proofs.transfer.fill_in_turns.Goals as goal
use Rattle.ts_packet.proofs.transfer.fill_in_turns.Goals.{in-Ok+else-at-buf, in-Err-Interrupted}

pub loop-turn-preserved : goal.loop-turn-preserved
loop-turn-preserved g c =
    let from = c.loop-turn.at in
    let room = length c.loop-turn.buf - from in
    let within : from ≤ length c.loop-turn.buf = omega arith in
    let part : length c.read.new.buf ≡ length c.loop-turn.buf - from = grind arith in
    let long = length-filled from c.loop-turn.buf c.read.new.buf within part in
    elim c.match-read.branch [
      | in-Ok+else-at-buf w ↦ record {
        same = grind arith;
        within = grind arith;
        bytes = subst (Consumes _ _) (sym (take-filled from room w.in-Ok.n c.loop-turn.buf c.read.new.buf within w.in-Ok.ensures.bound.0) ∙ ap (λ k. take k (put_mid from room c.loop-turn.buf c.read.new.buf)) (sym w.at-is)) (Consumes-trans _ _ _ _ _ c.loop-turn.invariant.bytes w.in-Ok.ensures.bytes.0);
        turns = grind arith;
        few = grind arith;
        well = record { calls = grind arith; failed = grind arith; zeros = grind arith };
      }
      | in-Err-Interrupted w ↦ record {
        same = grind arith;
        within = grind arith;
        bytes = rw w.at-is (subst (Consumes _ _) (sym (take-put_mid_below from room c.loop-turn.buf c.read.new.buf from (le_refl _) within)) (Consumes-kept _ _ _ _ c.loop-turn.invariant.bytes w.in-Err-Interrupted.ensures.bytes));
        turns = grind arith;
        few = grind arith;
        well = record { calls = grind arith; failed = grind arith; zeros = grind arith };
      }
    ]
