-- What a target that keeps nothing back has sent: all that it holds.
use Rattle.std.specs.Prelude.{◌≡◌, ℕ, List, [], Option, None, Some, refl}
use Rattle.std.specs.Io.KnownBytes.{append_known}
use Rattle.std.proofs.Common.{sym, ap}
use Rattle.std.proofs.lemmas.List.{append-nil}

-- a law: nothing behind known bytes leaves them as they are
pub appends-none : (known : Option (List ℕ)) → known ≡ append_known known []
appends-none None = refl
appends-none (Some bs) = ap Some (sym (append-nil bs))
