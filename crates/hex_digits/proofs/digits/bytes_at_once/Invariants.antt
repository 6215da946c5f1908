use Rattle.std.proofs.Common.{◌≡◌, ◌+◌, ◌*◌, length, take, true, false, None}
use Rattle.hex_digits.specs.Digits.{spelled}
use Rattle.hex_digits.proofs.DigitLemmas.{behind}
use Rattle.hex_digits.proofs.digits.bytes_at_once.Given as goal

abbrev pub invariant-loop-index : goal.invariant-loop-index
invariant-loop-index l = record {
  size : length l.bytes ≡ length l.initial.bytes;
  left : length l.rest + 2 * l.index ≡ 2 * length l.bytes;
  done : l.is_spelled ≡ true → behind (take l.index l.bytes) (spelled l.rest) ≡ spelled l.text;
  none : l.is_spelled ≡ false → spelled l.text ≡ None;
}
