use Rattle.std.proofs.Common.{◌++◌, arith, take, sym, ap, ◌∙◌, subst}
use Rattle.std.specs.Io.KnownBytes.{Appends}
use Rattle.std.proofs.KnownBytes.{Appends-trans, Appends-kept}
use Rattle.std.proofs.lemmas.List.{take_rest}
use lib.Seq.{take-add}
use Rattle.passages.proofs.gathered.write_out.Goals as goal
use Rattle.passages.proofs.gathered.write_out.Goals.{in-Ok, in-Err+else-eq}

pub loop-turn-preserved : goal.loop-turn-preserved
loop-turn-preserved g c =
    elim c.match-write.branch [
      | in-Ok w ↦ record {
        within = grind arith;
        bytes = subst (Appends _ _) (ap (λ l. take c.loop-turn.at c.args.bytes.now ++ take w.in-Ok.n l) (take_rest c.args.bytes.now c.loop-turn.at) ∙ sym (take-add c.loop-turn.at w.in-Ok.n c.args.bytes.now) ∙ ap (λ k. take k c.args.bytes.now) (sym w.at-is)) (Appends-trans _ _ _ _ _ c.loop-turn.invariant.bytes w.in-Ok.ensures.bytes);
      }
      | in-Err+else-eq w ↦ record {
        within = grind arith;
        bytes = rw w.at-is (Appends-kept _ _ _ _ c.loop-turn.invariant.bytes w.in-Err.ensures.bytes);
      }
    ]
