use Rattle.std.proofs.Common.{◌≡◌, ◌++◌, List, ℕ, length}
use Rattle.service_lists.specs.Lists.{IsRead}
use Rattle.service_lists.proofs.loading.Loading.take_in.Given as goal

-- what lies before the rest was read
abbrev pub invariant-loop-byte : goal.invariant-loop-byte
invariant-loop-byte g l = record {
  read : (done : List ℕ) × (l.part ≡ done ++ l.rest) × ((text : List ℕ) → IsRead l.initial.self text → IsRead l.self (text ++ done));
}

abbrev pub decreases-loop-byte : goal.decreases-loop-byte
decreases-loop-byte g l = length l.rest
