use Rattle.std.proofs.Common.{◌≡◌, take, vec_len}
use Rattle.two_program_streams.specs.Sizes.{size_of}
use Rattle.two_program_streams.proofs.stream.Stream.of.Given as goal

-- the stream has the bytes of the items so far
abbrev pub invariant-loop-item : goal.invariant-loop-item
invariant-loop-item l = vec_len l.stream.bytes ≡ size_of (take l.item-index l.items)
