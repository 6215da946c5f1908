use Rattle.std.proofs.Common.{rules, ◌≡◌, ℕ, true, List, None, arith}
use Rattle.pes_time.specs.Stamps.{stamp_of, is_split}
use Rattle.passages.proofs.watch.Watch.see_unit.Goals as goal
use Rattle.passages.proofs.watch.Watch.see_unit.Goals.{in_default-via-in-Err-1, in_default-via-in-Ok+in-None-1}

split_has_none : (payload : List ℕ) → is_split payload ≡ true → stamp_of payload ≡ None
unfolding stamp_of
split_has_none payload e = grind (arith, e)

pub returns-in_default : goal.returns-in_default
returns-in_default c =
    elim c.in_default.branch [
      | in_default-via-in-Err-1 w ↦ let none = split_has_none c.args.payload.now (search rules) in search rules
      | in_default-via-in-Ok+in-None-1 w ↦ search rules
    ]
