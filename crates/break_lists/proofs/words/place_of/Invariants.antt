use Rattle.std.proofs.Common.{◌≡◌, ◌+◌, ◌==◌, length}
use Rattle.std.specs.List.{position_or_len}
use Rattle.break_lists.proofs.words.place_of.Given as goal

-- so many bytes before what is left of the text, in which the first of these bytes stands
abbrev pub invariant-loop-first : goal.invariant-loop-first
invariant-loop-first l = record {
  place : l.count + position_or_len (λ x. x == l.at) l.rest ≡ position_or_len (λ x. x == l.at) l.fn.text;
  whole : l.count + length l.rest ≡ length l.fn.text;
}

abbrev pub decreases-loop-first : goal.decreases-loop-first
decreases-loop-first l = length l.rest
