use Rattle.std.proofs.Common.{◌+◌, ◌*◌, ◌≤◌, ◌<◌, ◌++◌, ◌∷◌, [], length, take, arith, ap, ◌∙◌, refl}
use Rattle.std.proofs.lemmas.List.{take_more_set, length-set, length-drop}
use Rattle.hex_digits.specs.Digits.{spelled}
use Rattle.hex_digits.proofs.DigitLemmas.{behind, behind_none, spelled_more}
use Rattle.hex_digits.proofs.digits.bytes_into.Goals as goal

pub loop-index-init : goal.loop-index-init
loop-index-init c = record { size = refl; left = omega arith; done = behind_none (spelled c.args.text.now) }

pub loop-index-preserved : goal.loop-index-preserved
loop-index-preserved c =
    let i = c.loop-index.invariant in
    let at = c.loop-index.index in
    let h = c.in-Some-Some.high in
    let l = c.in-Some-Some.low in
    let inside : at < length c.loop-index.bytes = grind (arith, i.size) in
    let two : 2 ≤ length c.loop-index.rest.now = grind (arith, i.left) in
    let more = spelled_more (take at c.loop-index.bytes) c.loop-index.rest.now h l two c.in-Some-Some.ensures.value c.in-Some-Some.ensures'.value in
    let same = length-set c.loop-index.bytes at (16 * h + l) in
    let behind_two = ap length c.split_at.ensures.back ∙ length-drop 2 c.loop-index.rest.now in
    record {
      size = same ∙ i.size;
      left = omega (arith, i.left, same, behind_two, two);
      done = ap (λ d. behind d (spelled c.split_at.result.1.now)) (take_more_set c.loop-index.bytes at (16 * h + l) inside) ∙ ap (λ r. behind (take at c.loop-index.bytes ++ (16 * h + l) ∷ []) (spelled r)) c.split_at.ensures.back ∙ more ∙ i.done;
    }
