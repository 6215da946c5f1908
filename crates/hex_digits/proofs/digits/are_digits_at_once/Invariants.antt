use Rattle.std.proofs.Common.{◌≡◌, take}
use Rattle.std.specs.Prelude.{is_some}
use Rattle.std.specs.List.{list_all}
use Rattle.hex_digits.specs.Digits.{digit_value}
use Rattle.hex_digits.proofs.digits.are_digits_at_once.Given as goal

abbrev pub invariant-loop-byte : goal.invariant-loop-byte
invariant-loop-byte l = l.all ≡ list_all (λ byte. is_some (digit_value byte)) (take l.byte-index l.text)
