use Rattle.std.proofs.Common.{◌≡◌, ◌++◌, length}
use Rattle.std.specs.Prelude.{codes}
use Rattle.hex_digits.specs.Digits.{digits_of}
use Rattle.automations.proofs.ReplyLemmas.{IsOnTheWay}
use Rattle.automations.proofs.script.print_reply.Given as goal

abbrev pub invariant-loop-filled : goal.invariant-loop-filled
invariant-loop-filled g l = record {
  way : IsOnTheWay (g.W.Write.contents l.initial.replies.writer) (g.W.Write.contents l.replies.writer) l.line l.filled l.rest (codes "reply " ++ digits_of l.initial.rest);
  counts : l.replies.counts ≡ l.initial.replies.counts;
}

abbrev pub decreases-loop-filled : goal.decreases-loop-filled
decreases-loop-filled g l = length l.rest
