-- What an iterator over operations has left.
use Rattle.std.specs.Prelude.{ℕ, List}
use Rattle.std.specs.Borrow.{Bor}
use Rattle.scte104_codec.specs.declared.operations.Operations.{Operations}
use Rattle.scte104_codec.specs.Operations.{Operation, operations_from}

-- the operations that are still to come
unfoldable pub operations_left : Operations → List Operation
operations_left o = operations_from o.count o.bytes.now

-- an item of the iterator
abbrev pub operation_of : ℕ × Bor (List ℕ) → Operation
operation_of item = record { op = item.0; body = item.1.now }
