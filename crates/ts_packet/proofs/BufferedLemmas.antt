-- What a buffer serves by itself.
use Rattle.std.proofs.Common.{ℕ, List, ◌++◌, Bool, true, false, if◌then◌else◌, take, drop, sym, ap, ◌∙◌, append_assoc}
use Rattle.std.specs.Prelude.{Option, None, Some}
use Rattle.std.specs.Io.KnownBytes.{prepend_known, Consumes}
use Rattle.std.proofs.lemmas.List.{take-append-drop}

-- the bytes held, and then those behind, lose the front of those held
held_lose : (held : List ℕ) (behind : Option (List ℕ)) (n : ℕ) → Consumes (prepend_known held behind) (prepend_known (drop n held) behind) (take n held)
held_lose held None n = tt
held_lose held (Some xs) n = ap (λ l. l ++ xs) (sym (take-append-drop n held)) ∙ append_assoc (take n held) (drop n held) xs

-- with no capacity nothing is known
pub served : (is_closed : Bool) (held : List ℕ) (behind : Option (List ℕ)) (n : ℕ)
    → Consumes (if is_closed then None else prepend_known held behind) (if is_closed then None else prepend_known (drop n held) behind) (take n held)
served true held behind n = tt
served false held behind n = held_lose held behind n
