use Rattle.std.proofs.Common.{◌≡◌, ap, sym, ◌∙◌, true, false}
use Rattle.ts_packet.specs.Fields.{payload_on}
use Rattle.ts_packet.specs.Duplicates.{repeats}
use Rattle.ts_packet.proofs.HistoryLemmas.{walk_is_last, no_gap, gap_is}
use Rattle.ts_packet.proofs.follower.Follower.has_gap.Goals as goal

pub returns-then-is_duplicate : goal.returns-then-is_duplicate
returns-then-is_duplicate c = λ pid past h.
    let p = c.args.packet.now in
    let y : payload_on pid p ≡ true = ap (λ n. payload_on n p) (sym h.same) ∙ sym c.has_payload_on.ensures ∙ c.if-not-has_payload_on.false in
    let r : repeats pid p past ≡ true = walk_is_last pid p past ∙ sym (c.is_repeated-is_duplicate.ensures pid past h) ∙ c.if-is_duplicate.true in
    no_gap pid p past y r

pub returns : goal.returns
returns c = λ pid past h.
    let p = c.args.packet.now in
    let y : payload_on pid p ≡ true = ap (λ n. payload_on n p) (sym h.same) ∙ sym c.has_payload_on.ensures ∙ c.if-not-has_payload_on.false in
    let r : repeats pid p past ≡ false = walk_is_last pid p past ∙ sym (c.is_repeated-is_duplicate.ensures pid past h) ∙ c.if-is_duplicate.false in
    gap_is pid p past _ y r (c.follows_on.ensures c.args.kept.now pid past h)
