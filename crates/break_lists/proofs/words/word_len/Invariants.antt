use Rattle.std.proofs.Common.{◌≡◌, ◌+◌, length}
use Rattle.std.specs.List.{position_or_len}
use Rattle.std.specs.Char.{is_ascii_whitespace}
use Rattle.break_lists.proofs.words.word_len.Given as goal

-- so many bytes before what is left of the text, in which the first white space stands
abbrev pub invariant-loop-first : goal.invariant-loop-first
invariant-loop-first l = record {
  place : l.count + position_or_len is_ascii_whitespace l.rest ≡ position_or_len is_ascii_whitespace l.fn.text;
  whole : l.count + length l.rest ≡ length l.fn.text;
}

abbrev pub decreases-loop-first : goal.decreases-loop-first
decreases-loop-first l = length l.rest
