use Rattle.std.proofs.Common.{◌≡◌, true, false, refl, ap, sym, ◌∙◌, ◌&&◌}
use Rattle.ts_packet.specs.Fields.{unit_start}
use Rattle.ts_packet.specs.Duplicates.{original}
use Rattle.unit_stream.specs.Starts.{since_more}
use Rattle.unit_stream.proofs.StartLemmas.{start_original, begin_is}
use Rattle.unit_stream.proofs.starts.StartReader.take_start.Goals as goal

pub returns-then-is_original-clause-begins : goal.returns-then-is_original-clause-begins
returns-then-is_original-clause-begins c = λ pid past h y.
    let p = c.args.packet.now in
    let new : original pid p past ≡ true = sym (start_original pid p past c.requires) ∙ sym (c.take-is_original.ensures.answer pid (since_more pid past) h.follows y) ∙ c.if-is_original.true in
    begin_is c.payload.result pid p past y (rw (new, c.requires) refl) c.payload.ensures

pub returns-else-is_original-clause-begins : goal.returns-else-is_original-clause-begins
returns-else-is_original-clause-begins c = λ pid past h y.
    let p = c.args.packet.now in
    let old : original pid p past ≡ false = sym (start_original pid p past c.requires) ∙ sym (c.take-is_original.ensures.answer pid (since_more pid past) h.follows y) ∙ c.if-is_original.false in
    ap (λ b. b && unit_start p) old
