-- What a piece says of the begin of units.
use Rattle.std.proofs.Common.{◌≡◌, ℕ, List, ◌∷◌, true, false, ◌||◌, if◌then◌else◌, Some, None, refl, ap, ◌∙◌}
use Rattle.unit_stream.specs.Times.{begins, high, raised, stamp}
use Rattle.pes_time.specs.Stamps.{is_split, is_untimed, stamp_of, stamp_at}
use Rattle.std.proofs.Math.Bool.{or-true}
use Rattle.program_follower.specs.Streaming.{IsOne}

module _ (pids : List ℕ) (pid : ℕ) (p : List ℕ) (past : List (List ℕ)) (one : IsOne pids pid p past) where
  pub high_start : begins pid p past ≡ true → high pids (p ∷ past) ≡ raised (high pids past) (stamp p)
  high_start h = let e = one.begins_it ∙ h in simp e refl

  pub high_other : begins pid p past ≡ false → high pids (p ∷ past) ≡ high pids past
  high_other h = let e = one.begins_it ∙ h in simp e refl

-- ---- the stamp of a payload

-- one that ends before its stamps has none
pub split_none : (bs : List ℕ) → is_split bs ≡ true → stamp_of bs ≡ None
unfolding stamp_of
split_none bs h =
    ap (λ b. if is_untimed bs || b then None else Some (stamp_at bs 9)) h
    ∙ ap (λ b. if b then None else Some (stamp_at bs 9)) (or-true (is_untimed bs))
