-- What tests of a chain say, where no fault is found.
use Rattle.std.proofs.Common.{◌≡◌, Bool, true, false, Option, Some, None, refl}
use Rattle.std.specs.Prelude.{is_none, if◌then◌else◌}
use Rattle.psi_tables.specs.declared.fault.TableFault.{TableFault}

pub guarded : (b : Bool) (f : TableFault) (r : Option TableFault) → is_none (if b then Some f else r) ≡ true → (b ≡ false) × (is_none r ≡ true)
guarded true f r h = absurd cc
guarded false f r h = (refl, h)

pub none_is : (r : Option TableFault) → is_none r ≡ true → r ≡ None
none_is None h = refl
none_is (Some f) h = absurd cc
