use Rattle.std.proofs.Common.{◌≡◌, length, option_map}
use Rattle.conformance.specs.Sections.{packets_in, words_of, words_behind}
use Rattle.hex_digits.proofs.DigitLemmas.{behind}
use Rattle.conformance.proofs.sections.packets_of.Given as goal

abbrev pub invariant-loop-rest : goal.invariant-loop-rest
invariant-loop-rest l = behind l.packets.items (packets_in (words_behind (option_map (λ r. r.now) l.rest))) ≡ packets_in (words_of l.words)

abbrev pub decreases-loop-rest : goal.decreases-loop-rest
decreases-loop-rest l = length (words_behind (option_map (λ r. r.now) l.rest))
