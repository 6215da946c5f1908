-- What one packet more does to the greatest time, and what is wrong with it, for any list of switched PIDs.
use Rattle.std.proofs.Common.{◌≡◌, ℕ, List, ◌∷◌, true, false, ap, ◌∙◌, Some, None, if◌then◌else◌, Bool, Option, [], refl}
use Rattle.pes_time.specs.Stamps.{stamp_of, is_split}
use Rattle.ts_packet.specs.Fields.{payload_on, unit_start, bytes, on, on_one}
use Rattle.ts_packet.specs.Duplicates.{original, repeats}
use Rattle.ts_packet.proofs.Cases.{by_test}
use Rattle.std.specs.Prelude.{ℤ}
use Rattle.std.proofs.lemmas.Bool.{or_parts, or_from}
use Rattle.ts_packet.proofs.FieldLemmas.{off_payload}
use Rattle.unit_stream.specs.Times.{begins, begins_one, high, raised, stamp, splits}
use Rattle.unit_stream.specs.Faults.{unit_fault, start_fault, scrambled_one, jumps}
use Rattle.unit_stream.specs.declared.fault.UnitFault.TheVariants.{Scrambled, TimeJump}

pub stamp_is : (p bs : List ℕ) → bs ≡ bytes p → stamp_of bs ≡ stamp p
unfolding stamp
stamp_is p bs h = ap stamp_of h

pub splits_is : (p bs : List ℕ) → bs ≡ bytes p → is_split bs ≡ splits p
unfolding splits
splits_is p bs h = ap is_split h

-- ---- a packet that begins no unit

pub begins_off : (pid : ℕ) (p : List ℕ) (past : List (List ℕ)) → payload_on pid p ≡ false → begins pid p past ≡ false
begins_off pid p past y = simp y

pub begins_not : (pid : ℕ) (p : List ℕ) (past : List (List ℕ)) → unit_start p ≡ false → begins pid p past ≡ false
begins_not pid p past s = by_test (original pid p past) (λ o. simp (o, s)) (λ o. simp o)

pub begins_repeat : (pid : ℕ) (p : List ℕ) (past : List (List ℕ)) → repeats pid p past ≡ true → begins pid p past ≡ false
begins_repeat pid p past r = by_test (payload_on pid p) (λ y. simp (y, r)) (λ y. simp y)

-- ---- the greatest time

pub high_begun : (sw : List ℕ) (p : List ℕ) (past : List (List ℕ)) → begins_one sw p past ≡ true → high sw (p ∷ past) ≡ raised (high sw past) (stamp p)
high_begun sw p past b = simp b

pub high_same : (sw : List ℕ) (p : List ℕ) (past : List (List ℕ)) → begins_one sw p past ≡ false → high sw (p ∷ past) ≡ high sw past
high_same sw p past b = simp b

-- ---- faults

pub fault_scrambled : (sw : List ℕ) (p : List ℕ) (past : List (List ℕ)) → scrambled_one sw p ≡ true → unit_fault sw p past ≡ Some Scrambled
fault_scrambled sw p past h = ap (λ b. if b then Some Scrambled else (if begins_one sw p past then start_fault (high sw past) (splits p) (stamp p) else None)) h

pub fault_none : (sw : List ℕ) (p : List ℕ) (past : List (List ℕ)) → scrambled_one sw p ≡ false → begins_one sw p past ≡ false → unit_fault sw p past ≡ None
fault_none sw p past h b =
    ap (λ v. if v then Some Scrambled else (if begins_one sw p past then start_fault (high sw past) (splits p) (stamp p) else None)) h
    ∙ ap (λ v. if v then start_fault (high sw past) (splits p) (stamp p) else None) b

pub fault_begun : (sw : List ℕ) (p : List ℕ) (past : List (List ℕ)) → scrambled_one sw p ≡ false → begins_one sw p past ≡ true
    → unit_fault sw p past ≡ start_fault (high sw past) (splits p) (stamp p)
fault_begun sw p past h b =
    ap (λ v. if v then Some Scrambled else (if begins_one sw p past then start_fault (high sw past) (splits p) (stamp p) else None)) h
    ∙ ap (λ v. if v then start_fault (high sw past) (splits p) (stamp p) else None) b

-- ---- of several streams

pub begins_off_all : (pids : List ℕ) (p : List ℕ) (past : List (List ℕ)) → on_one pids p ≡ false → begins_one pids p past ≡ false
begins_off_all [] p past h = refl
begins_off_all (pid ∷ pids) p past h =
    let r = or_parts (on pid p) (on_one pids p) h in
    or_from (begins pid p past) (begins_one pids p past) (begins_off pid p past (off_payload pid p r.0)) (begins_off_all pids p past r.1)

-- ---- a start without a fault

jump_by : (b : Bool) → (if b then Some TimeJump else None) ≡ None → b ≡ false
jump_by true h = absurd (cc)
jump_by false h = refl

pub jump_sound : (high : Option ℤ) (split : Bool) (s : Option ℕ) → start_fault high split s ≡ None → jumps high s ≡ false
jump_sound high true s h = absurd (cc)
jump_sound high false s h = jump_by (jumps high s) h
