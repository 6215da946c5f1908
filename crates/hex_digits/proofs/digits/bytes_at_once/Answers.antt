use Rattle.std.proofs.Common.{◌+◌, ◌*◌, ◌≤◌, ◌<◌, ◌++◌, ◌∷◌, [], length, take, arith, ap, ◌∙◌, refl}
use Rattle.std.proofs.lemmas.List.{take_more_set, length-set, length-drop}
use Rattle.hex_digits.specs.Digits.{spelled}
use Rattle.hex_digits.proofs.DigitLemmas.{behind, behind_none, spelled_on, spelled_off}
use Rattle.hex_digits.proofs.digits.bytes_at_once.Goals as goal

pub loop-index-init : goal.loop-index-init
loop-index-init c = record { size = refl; left = omega arith; done = λ e. behind_none (spelled c.args.text.now); none = λ e. absurd cc }

pub loop-index-preserved : goal.loop-index-preserved
loop-index-preserved c =
    let i = c.loop-index.invariant in
    let at = c.loop-index.index in
    let rest = c.loop-index.rest.now in
    let first = c.is_digit in
    let second = c.is_digit-in-loop-index in
    let h = c.half_of.result in
    let l = c.half_of-in-loop-index.result in
    let inside : at < length c.loop-index.bytes = grind (arith, i.size) in
    let two : 2 ≤ length rest = grind (arith, i.left) in
    let same = length-set c.loop-index.bytes at (16 * h + l) in
    let behind_two = ap length c.split_at.ensures.back ∙ length-drop 2 rest in
    record {
      size = same ∙ i.size;
      left = omega (arith, i.left, same, behind_two, two);
      done = λ e.
          ap (λ d. behind d (spelled c.split_at.result.1.now)) (take_more_set c.loop-index.bytes at (16 * h + l) inside)
          ∙ ap (λ r. behind (take at c.loop-index.bytes ++ (16 * h + l) ∷ []) (spelled r)) c.split_at.ensures.back
          ∙ spelled_on (take at c.loop-index.bytes) rest (spelled c.args.text.now) c.loop-index.is_spelled first.result second.result h l two first.ensures second.ensures
          c.half_of.ensures.value c.half_of-in-loop-index.ensures.value i.done e;
      none = λ e.
          spelled_off (take at c.loop-index.bytes) rest (spelled c.args.text.now) c.loop-index.is_spelled first.result second.result two first.ensures second.ensures i.done i.none e;
    }
