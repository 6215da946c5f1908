-- What tells the duplicates of units that are left out, with one packet more.
use Rattle.std.proofs.Common.{◌≡◌, ℕ, ◌%◌, ◌<◌, ◌==◌, ◌||◌, List, [], ◌∷◌, length, Bool, true, false, refl, sym, ap, ◌∙◌, subst, arith, Option, None, Some}
use Rattle.std.specs.Prelude.{is_some, option_map, slice_get, slice_index_or, slice_set}
use Rattle.std.proofs.lemmas.Bool.{true≢false, eq-eqb}
use Rattle.std.proofs.lemmas.Option.{same_Some}
use Rattle.ts_packet.specs.declared.follower.Follower.{Follower}
use Rattle.ts_packet.specs.Fields.{on, on_one, payload, payload_on, pid_of}
use Rattle.ts_packet.specs.Duplicates.{repeats, last_of}
use Rattle.ts_packet.specs.Following.{Marks, Follows}
use Rattle.ts_packet.proofs.Cases.{by_test}
use Rattle.ts_packet.proofs.FieldLemmas.{off_payload, payload_on-on, pid_is}
use Rattle.unit_stream.specs.Times.{begins, in_unit}
use Rattle.unit_stream.proofs.ClockLemmas.{begins_off, begins_repeat}
use Rattle.output_laws.proofs.StepLemmas.{payload-none}
use Rattle.psi_tables.specs.ProgramMap.{ProgramMap}
use Rattle.program_follower.specs.Program.{known_map, program_in}
use Rattle.splice_laws.specs.Streams.{IsOnce}
use Rattle.splice_plans.specs.declared.stream.SwitchedStream.{SwitchedStream}
use Rattle.splice_plans.specs.Fronts.{IsOther}
use Rattle.splice_plans.specs.Switching.{Setting, switched_at, is_behind_head}
use Rattle.splice_plans.specs.Known.{behind_at}
use Rattle.known_laws.proofs.HeadLemmas.{same-switched, more-behind, first-behind}
use Rattle.known_laws.proofs.OtherLemmas.{off-at}
use Rattle.splice_playing.specs.declared.leaving.LeavingUnit.{LeavingUnit}
use Rattle.splice_playing.specs.Leaving.{HasTaken, AllTaken, OthersTaken}
use Rattle.splice_playing.proofs.PlaceLemmas.{clash, other-pid, off-other}
use Rattle.splice_playing.proofs.StreamLemmas.{slot-new, slot-old, slot-other}

-- a packet without payload on the PID changes nothing
pub takes-none : (unit : LeavingUnit) (pid : ℕ) (p : List ℕ) (past : List (List ℕ)) → payload_on pid p ≡ false → HasTaken unit pid past → HasTaken unit pid (p ∷ past)
takes-none unit pid p past y h = record { same = h.same; last = simp y h.last }

-- a unit had begun before a packet that begins none
pub was-in : (pid : ℕ) (p : List ℕ) (past : List (List ℕ)) → begins pid p past ≡ false → in_unit pid (p ∷ past) ≡ true → in_unit pid past ≡ true
was-in pid p past none inside = sym (ap (λ b. b || in_unit pid past) none) ∙ inside

-- the unit before is forgotten
pub begun-takes : (f : Follower) (pid q : ℕ) (p : List ℕ) (past : List (List ℕ)) → q ≡ pid_of p → begins pid p past ≡ true → (payload_on q p ≡ true → Follows f p q (p ∷ [])) → HasTaken (record { follower = f; last = p }) pid (p ∷ past)
begun-takes f pid q p past is h takes =
    let y : payload_on pid p ≡ true = by_test (payload_on pid p) (λ y. y) (λ n. absurd (clash (begins pid p past) h (begins_off pid p past n))) in
    let new : repeats pid p past ≡ false = by_test (repeats pid p past) (λ r. absurd (clash (begins pid p past) h (begins_repeat pid p past r))) (λ n. n) in
    let same : q ≡ pid = is ∙ pid_is pid p (payload_on-on pid p y) in
    let k : Follows f p pid (p ∷ []) = subst (λ n. Follows f p n (p ∷ [])) same (takes (ap (λ n. payload_on n p) same ∙ y)) in
    let last : last_of pid (p ∷ []) ≡ last_of pid (p ∷ past) = simp (y, new) refl in
    record { same = k.same; last = subst (λ o. Marks f.last p o) last k.last }

pub with-payload : (pid : ℕ) (p : List ℕ) → on pid p ≡ true → is_some (payload p) ≡ true → payload_on pid p ≡ true
with-payload pid p o h = by_test (payload_on pid p) (λ y. y) (λ n. absurd (clash (is_some (payload p)) h (payload-none pid p o n)))

-- ---- a packet of none of the streams

pub none-taken : (units : List LeavingUnit) (streams : List SwitchedStream) (switched : List ℕ) (p : List ℕ) (past : List (List ℕ)) → on_one switched p ≡ false
    → OthersTaken units streams switched p past → AllTaken units streams switched (p ∷ past)
none-taken units streams switched p past off all = λ i pid u s l of leaves inside.
    let y = off_payload pid p (off-at switched p i pid off of) in
    let none = begins_off pid p past y in
    takes-none (slice_index_or units i u) pid p past y (all i pid u s l of leaves none (was-in pid p past none inside))

pub others-taken : (units : List LeavingUnit) (streams : List SwitchedStream) (switched : List ℕ) (p : List ℕ) (past : List (List ℕ)) → AllTaken units streams switched past
    → OthersTaken units streams switched p past
others-taken units streams switched p past all = λ i pid u s l of leaves none inside. all i pid u s l of leaves inside

-- ---- a packet of one

module _ (switched : List ℕ) (n pid : ℕ) (p : List ℕ) (past : List (List ℕ)) (low : n < 8) (of : slice_get switched n ≡ Some pid) where
  slot-is : (i : ℕ) → (n == i) ≡ true → n ≡ i
  slot-is i e = grind (arith, e)

  other-of : (i : ℕ) → (n ≡ i → ⊥) → IsOther i (n % 8)
  other-of i differ = λ h. differ (omega (arith, h, low))

  number-is : (i q : ℕ) → n ≡ i → slice_get switched i ≡ Some q → pid ≡ q
  number-is i q is at = same_Some pid q (sym of ∙ ap (slice_get switched) is ∙ at)

  -- it begins a unit, before which others may have been left out
  pub begun-taken : (units : List LeavingUnit) (old turned final : List SwitchedStream) → begins pid p past ≡ true
      → ((j : ℕ) (s : SwitchedStream) → IsOther j (n % 8) → slice_index_or turned j s ≡ slice_index_or old j s)
      → ((j : ℕ) (s : SwitchedStream) → (slice_index_or final j s).is_leaving ≡ (slice_index_or turned j s).is_leaving)
      → AllTaken units old switched past → OthersTaken units final switched p past
  begun-taken units old turned final begun others keeps all = λ i q u s l at leaves none inside. by i q u s l at leaves none inside (n == i) refl
    where
      by : (i q : ℕ) (u : LeavingUnit) (s : SwitchedStream) → i < 8 → slice_get switched i ≡ Some q → (slice_index_or final i s).is_leaving ≡ true
          → begins q p past ≡ false → in_unit q past ≡ true → (b : Bool) → (n == i) ≡ b → HasTaken (slice_index_or units i u) q past
      by i q u s l at leaves none inside true e = absurd (clash (begins pid p past) begun (ap (λ r. begins r p past) (number-is i q (slot-is i e) at) ∙ none))
      by i q u s l at leaves none inside false e =
          let differ : n ≡ i → ⊥ = λ is. clash (n == i) (eq-eqb n i is) e in
          let left : (slice_index_or old i s).is_leaving ≡ true
          = sym (ap (λ (x : SwitchedStream). x.is_leaving) (others i s (other-of i differ))) ∙ sym (keeps i s) ∙ leaves in
          all i q u s l at left inside

  -- before it, where it begins none
  pub own-taken : (units : List LeavingUnit) (streams : List SwitchedStream) (r : SwitchedStream) (u : LeavingUnit) → n % 8 < length streams → OthersTaken units streams switched p past
      → (slice_index_or streams (n % 8) r).is_leaving ≡ true → (is_start : Bool) → is_start ≡ begins pid p past → in_unit pid (p ∷ past) ≡ true → is_start ≡ false
      → HasTaken (slice_index_or units (n % 8) u) pid past
  own-taken units streams r u below all leaves is_start start inside goes =
      let none : begins pid p past ≡ false = sym start ∙ goes in
      let slot : n ≡ n % 8 = omega (arith, low) in
      subst (λ m. HasTaken (slice_index_or units m u) pid past) slot
      (all n pid u r low of (ap (λ (x : SwitchedStream). x.is_leaving) (slot-old streams n r below r r low) ∙ leaves) none (was-in pid p past none inside))

  -- it is put, or left out: the other streams stay
  pub put-taken : (units after : List LeavingUnit) (streams : List SwitchedStream) (y : SwitchedStream) → n % 8 < length streams → IsOnce pid switched → on pid p ≡ true
      → ((i : ℕ) (u : LeavingUnit) → IsOther i (n % 8) → slice_index_or after i u ≡ slice_index_or units i u)
      → (y.is_leaving ≡ true → in_unit pid (p ∷ past) ≡ true → (u : LeavingUnit) → HasTaken (slice_index_or after (n % 8) u) pid (p ∷ past))
      → OthersTaken units streams switched p past → AllTaken after (slice_set streams (n % 8) y) switched (p ∷ past)
  put-taken units after streams y below once o others own all = λ i q u s l at leaves inside. by i q u s l at leaves inside (n == i) refl
    where
      by : (i q : ℕ) (u : LeavingUnit) (s : SwitchedStream) → i < 8 → slice_get switched i ≡ Some q → (slice_index_or (slice_set streams (n % 8) y) i s).is_leaving ≡ true
          → in_unit q (p ∷ past) ≡ true → (b : Bool) → (n == i) ≡ b → HasTaken (slice_index_or after i u) q (p ∷ past)
      by i q u s l at leaves inside true e =
          let is = slot-is i e in
          let same = number-is i q is at in
          let slot : n % 8 ≡ i = omega (arith, is, low) in
          let left : y.is_leaving ≡ true = sym (ap (λ (x : SwitchedStream). x.is_leaving) (slot-new streams n y below s low)) ∙ ap (λ m. (slice_index_or (slice_set streams (n % 8) y) m s).is_leaving) is ∙ leaves in
          subst (λ m. HasTaken (slice_index_or after m u) q (p ∷ past)) slot
          (subst (λ r. HasTaken (slice_index_or after (n % 8) u) r (p ∷ past)) same (own left (subst (λ r. in_unit r (p ∷ past) ≡ true) (sym same) inside) u))
      by i q u s l at leaves inside false e =
          let differ : n ≡ i → ⊥ = λ is. clash (n == i) (eq-eqb n i is) e in
          let none = off_payload q p (off-other pid q p o (other-pid pid q switched n i once of at differ)) in
          let old = begins_off q p past none in
          let left : (slice_index_or streams i s).is_leaving ≡ true = sym (ap (λ (x : SwitchedStream). x.is_leaving) (slot-other streams n y below i s low differ)) ∙ leaves in
          subst (λ x. HasTaken x q (p ∷ past)) (sym (others i u (other-of i differ)))
          (takes-none (slice_index_or units i u) q p past none (all i q u s l at left old (was-in q p past old inside)))

-- ---- behind it

module _ (k : Setting) (units : List LeavingUnit) (streams : List SwitchedStream) (p : List ℕ) (past : List (List ℕ)) where
  abbrev Taken : Type 0
  Taken = AllTaken units streams (switched_at k (p ∷ past)) (behind_at k (p ∷ past))

  with-known : (m : ProgramMap) → known_map (Some k.program) past ≡ Some m → AllTaken units streams (switched_at k past) (p ∷ behind_at k past) → Taken
  with-known m known all =
      subst (λ sw. AllTaken units streams sw (behind_at k (p ∷ past))) (sym (same-switched k p past m known))
      (subst (AllTaken units streams (switched_at k past)) (sym (more-behind k p past m known)) all)

  -- no unit has begun in the head, nor at its end
  pub first-taken : known_map (Some k.program) past ≡ None → Taken
  first-taken none = subst (AllTaken units streams (switched_at k (p ∷ past))) (sym (first-behind k past none p)) (λ i pid u s l of leaves inside. absurd (true≢false (sym inside)))

  pub taken-behind : is_behind_head k past ≡ true → AllTaken units streams (switched_at k past) (p ∷ behind_at k past) → Taken
  taken-behind is all = by (known_map (Some k.program) past) refl
    where
      by : (o : Option ProgramMap) → known_map (Some k.program) past ≡ o → Taken
      by None none = absurd (true≢false (sym is ∙ ap (λ o. is_some (option_map program_in o)) none))
      by (Some m) known = with-known m known all

  pub taken-other : on_one (switched_at k past) p ≡ false → AllTaken units streams (switched_at k past) (behind_at k past) → Taken
  taken-other off all = by (known_map (Some k.program) past) refl
    where
      by : (o : Option ProgramMap) → known_map (Some k.program) past ≡ o → Taken
      by None none = first-taken none
      by (Some m) known =
          with-known m known (none-taken units streams (switched_at k past) p (behind_at k past) off (others-taken units streams (switched_at k past) p (behind_at k past) all))

pub some-unit : LeavingUnit
some-unit = record { follower = record { pid = 0; last = None }; last = [] }
