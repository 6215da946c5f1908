use Rattle.std.proofs.Common.{◌≡◌, ◌+◌, ◌*◌, ◌++◌, take, drop}
use Rattle.hex_digits.specs.Digits.{digits_of}
use Rattle.hex_digits.proofs.digits.spell.Given as goal

abbrev pub invariant-loop-index : goal.invariant-loop-index
invariant-loop-index l = l.line ≡ take (2 * l.start) l.initial.line ++ digits_of (take l.index l.bytes) ++ drop (2 * (l.start + l.index)) l.initial.line
