-- The operations of a multiple_operation_message: of each opID, data_length and the data.
use Rattle.std.specs.Prelude.{◌≡◌, ℕ, zero, suc, ◌+◌, ◌*◌, ◌<◌, Bool, true, List, [], ◌∷◌, ◌++◌, length, take, drop, slice_index, Option, Some, None, option_map, nat_lt, ◌==◌, if◌then◌else◌}
use Rattle.std.specs.Option.{option_and_then, option_map_or}
use Rattle.std.specs.List.{flat_map, list_all, AllByRecursion}
use Rattle.std.specs.Borrow.{Bor}
use Rattle.byteorder.specs.Endian.{big_bytes}
use Rattle.wire_fields.specs.Numbers.{number16_at}

pub record Operation : Type 0 where
  pub op : ℕ
  pub body : List ℕ

-- ---- how they are spelled

abbrev pub operation_bytes : Operation → List ℕ
operation_bytes o = (big_bytes 2 o.op ++ big_bytes 2 (length o.body)) ++ o.body

-- num_ops, and one operation after another
abbrev pub operations_bytes : List Operation → List ℕ
operations_bytes os = length os ∷ flat_map operation_bytes os

-- the data have the size of their kind: of a splice_request 14 bytes, and of an insert_avail_descriptor a count and as
-- many avail ids of four bytes
unfoldable pub is_well_formed : Operation → Bool
is_well_formed o =
    if o.op == 0x0101 then length o.body == 14
    else (if o.op == 0x010A then length o.body == 1 + 4 * slice_index o.body 0 else true)

-- what is spelled, and has the size of its kind
pub record IsOperation (o : Operation) : Type 0 where
  pub op : o.op < 65536
  pub data_length : length o.body < 65536
  pub well_formed : is_well_formed o ≡ true

abbrev pub AreOperations : List Operation → Type 0
AreOperations os = (length os < 256) × AllByRecursion IsOperation os

-- ---- how they are read

-- the operation at the front and the bytes behind it, where the bytes don't end before it does
unfoldable pub operation_at : List ℕ → Option (Operation × List ℕ)
operation_at bytes =
    if nat_lt (length bytes) (4 + number16_at bytes 2) then None
    else Some (record { op = number16_at bytes 0; body = take (number16_at bytes 2) (drop 4 bytes) }, drop (4 + number16_at bytes 2) bytes)

-- so many operations, where they fill the bytes exactly and each has the size of its kind
unfoldable pub operations_in : ℕ → List ℕ → Option (List Operation)
operations_in zero [] = Some []
operations_in zero (b ∷ bytes) = None
operations_in (suc n) bytes =
    option_and_then (λ o. if is_well_formed o.0 then option_map (λ os. o.0 ∷ os) (operations_in n o.1) else None) (operation_at bytes)

-- so many operations, as far as the bytes have them
unfoldable pub operations_from : ℕ → List ℕ → List Operation
operations_from zero bytes = []
operations_from (suc n) bytes = option_map_or (λ o. o.0 ∷ operations_from n o.1) (operation_at bytes) []

-- each of them has the size of its kind
abbrev pub are_well_formed : List Operation → Bool
are_well_formed os = list_all is_well_formed os

-- what the code takes from the front
abbrev pub taken : ℕ × Bor (List ℕ) × Bor (List ℕ) → Operation × List ℕ
taken t = (record { op = t.0; body = t.1.now }, t.2.now)
