use Rattle.std.proofs.Common.{◌≡◌, true, false, refl, ap, sym, ◌∙◌, ◌&&◌}
use Rattle.std.proofs.Math.Bool.{and-false}
use Rattle.ts_packet.specs.Fields.{unit_start}
use Rattle.ts_packet.specs.Duplicates.{original}
use Rattle.unit_stream.specs.Starts.{since_more}
use Rattle.unit_stream.proofs.StartLemmas.{start_original, begin_is}
use Rattle.unit_stream.proofs.starts.StartReader.look.Goals as goal

pub returns-then-not-unit_start : goal.returns-then-not-unit_start
returns-then-not-unit_start c = λ pid past h y.
    let p = c.args.packet.now in
    ap (λ b. original pid p past && b) (sym c.unit_start.ensures ∙ c.if-not-unit_start.true) ∙ and-false (original pid p past)

pub returns-then-is_original : goal.returns-then-is_original
returns-then-is_original c = λ pid past h y.
    let p = c.args.packet.now in
    let start : unit_start p ≡ true = sym c.unit_start.ensures ∙ c.if-not-unit_start.false in
    let new : original pid p past ≡ true = sym (start_original pid p past start) ∙ sym (c.take-is_original.ensures.answer pid (since_more pid past) h.follows y) ∙ c.if-is_original.true in
    begin_is c.payload.result pid p past y (rw (new, start) refl) c.payload.ensures

pub returns-else-is_original : goal.returns-else-is_original
returns-else-is_original c = λ pid past h y.
    let p = c.args.packet.now in
    let start : unit_start p ≡ true = sym c.unit_start.ensures ∙ c.if-not-unit_start.false in
    let old : original pid p past ≡ false = sym (start_original pid p past start) ∙ sym (c.take-is_original.ensures.answer pid (since_more pid past) h.follows y) ∙ c.if-is_original.false in
    ap (λ b. b && unit_start p) old
