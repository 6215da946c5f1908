-- What a reader of units knows of a packet.
use Rattle.std.proofs.Common.{◌≡◌, ◌⊎◌, inl, inr, ℕ, List, ◌∷◌, Bool, true, false, refl, sym, ap, subst, ◌∙◌, ◌||◌, Option, None, Some, if◌then◌else◌}
use Rattle.ts_packet.specs.Fields.{in_error, on, payload_on, payload, bytes, or_none}
use Rattle.ts_packet.specs.Duplicates.{original, repeats, last_of}
use Rattle.ts_packet.specs.declared.follower.Last.{Last}
use Rattle.ts_packet.specs.declared.follower.Mark.{Mark}
use Rattle.ts_packet.specs.declared.follower.Follower.{Follower}
use Rattle.ts_packet.specs.Following.{CarriesSame, Marks, Follows, kept_after}
use Rattle.ts_packet.proofs.Cases.{by_test}
use Rattle.unit_stream.specs.Times.{begins, in_unit}
use Rattle.unit_stream.specs.Pieces.{FollowsUnits, Brings}
use Rattle.unit_stream.specs.declared.reader.Piece.{Piece}
use Rattle.unit_stream.specs.declared.reader.Piece.TheVariants.{NoPayload, Error}
use Rattle.unit_stream.specs.declared.reader.UnitFollower.{UnitFollower}

pub error_off : (pid : ℕ) (p : List ℕ) → in_error p ≡ true → payload_on pid p ≡ false
unfolding payload_on on
error_off pid p h = rw h refl

pub without_payload : (pid : ℕ) (p : List ℕ) → payload p ≡ None → payload_on pid p ≡ false
unfolding payload_on
without_payload pid p h = by_test (on pid p) (λ o. simp (o, h)) (λ o. simp o)

pub with_payload : (pid : ℕ) (p bs : List ℕ) → on pid p ≡ true → payload p ≡ Some bs → payload_on pid p ≡ true
unfolding payload_on
with_payload pid p bs o h = simp (o, h)

pub bytes_are : (p bs : List ℕ) → payload p ≡ Some bs → bs ≡ bytes p
unfolding bytes
bytes_are p bs h = sym (ap or_none h)

-- these two pieces come of packets without payload on the PID
pub no_payload_on : (piece : Piece) (pid : ℕ) (p : List ℕ) (past : List (List ℕ)) → (piece ≡ Error) ⊎ (piece ≡ NoPayload) → Brings piece pid p past → payload_on pid p ≡ false
no_payload_on piece pid p past (inl e) b = error_off pid p (subst (λ x. Brings x pid p past) e b)
no_payload_on piece pid p past (inr e) b = (subst (λ x. Brings x pid p past) e b).1

-- a packet without payload on the PID changes nothing
pub passes : (r : UnitFollower) (pid : ℕ) (p kept : List ℕ) (past : List (List ℕ)) → payload_on pid p ≡ false → FollowsUnits r kept pid past → FollowsUnits r (kept_after pid p p kept) pid (p ∷ past)
passes r pid p kept past y h = record { same = h.same; follows = record { same = h.follows.same; last = simp y h.follows.last }; begun = simp y h.begun }

-- what is kept may become another packet that carries the same
became : (m : Option Mark) (last : Option Last) (p q : List ℕ) → CarriesSame q p → Marks m p last → Marks m q last
became None None p q same h = h
became None (Some l) p q same h = h
became (Some m) None p q same h = h
became (Some m) (Some l) p q same h = (h.0, h.1, λ r. same r ∙ h.2 r)

became_by : (b : Bool) (m : Option Mark) (last : Option Last) (p q kept : List ℕ) → CarriesSame q p → Marks m (if b then p else kept) last → Marks m (if b then q else kept) last
became_by true m last p q kept same h = became m last p q same h
became_by false m last p q kept same h = h

pub kept_became : (r : UnitFollower) (pid : ℕ) (p q kept : List ℕ) (past : List (List ℕ)) → CarriesSame q p → FollowsUnits r (kept_after pid p p kept) pid past → FollowsUnits r (kept_after pid p q kept) pid past
kept_became r pid p q kept past same h = record { same = h.same; follows = record { same = h.follows.same; last = became_by (payload_on pid p) r.follower.last (last_of pid past) p q kept same h.follows.last }; begun = h.begun }

pub is_repeat : (pid : ℕ) (p : List ℕ) (past : List (List ℕ)) → payload_on pid p ≡ true → original pid p past ≡ false → repeats pid p past ≡ true
is_repeat pid p past y o = by_test (repeats pid p past) (λ r. r) (λ r. let e = simp (y, r) at o in cc)

-- ---- a payload packet of the PID

module _ (u : UnitFollower) (f : Follower) (pid : ℕ) (p kept : List ℕ) (past : List (List ℕ)) (y : payload_on pid p ≡ true) (h : FollowsUnits u kept pid past) (k : Follows f p pid (p ∷ past)) where
  pub goes_on : begins pid p past ≡ false → FollowsUnits (record { pid = u.pid; follower = f; has_begun = u.has_begun }) (kept_after pid p p kept) pid (p ∷ past)
  goes_on b = record { same = h.same; follows = simp y k; begun = h.begun ∙ ap (λ x. x || in_unit pid past) (sym b) }

  pub has_begun : begins pid p past ≡ true → FollowsUnits (record { pid = u.pid; follower = f; has_begun = true }) (kept_after pid p p kept) pid (p ∷ past)
  has_begun b = record { same = h.same; follows = simp y k; begun = ap (λ x. x || in_unit pid past) (sym b) }
