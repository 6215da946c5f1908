-- What is wrong with a packet of a unit, by the packets of the switched PIDs alone.
use Rattle.std.proofs.Common.{◌≡◌, ℕ, List, [], ◌∷◌, Bool, true, false, not, ◌&&◌, ◌||◌, refl, sym, ap, subst, ◌∙◌, Some, None, if◌then◌else◌}
use Rattle.std.specs.Prelude.{filter}
use Rattle.std.specs.List.{AllByRecursion}
use Rattle.std.proofs.lemmas.Bool.{or_parts}
use Rattle.ts_packet.specs.Fields.{on, payload_on, unit_start, on_one}
use Rattle.ts_packet.specs.Duplicates.{repeats}
use Rattle.ts_packet.proofs.Cases.{by_test}
use Rattle.ts_packet.proofs.FieldLemmas.{off_payload}
use Rattle.unit_stream.specs.Times.{begins, begins_one, high, raised, stamp, splits}
use Rattle.unit_stream.specs.Faults.{scrambled_one, start_fault, unit_fault}
use Rattle.unit_stream.specs.declared.fault.UnitFault.TheVariants.{Scrambled}
use Rattle.unit_stream.specs.Clocks.{Tells}
use Rattle.program_follower.specs.declared.starts.StartPacket.{StartPacket}
use Rattle.program_follower.specs.declared.starts.StartPacket.TheVariants.{Start, NoStart}
use Rattle.program_follower.specs.Streaming.{first_on, IsStartPacket}
use Rattle.program_follower.proofs.StreamLemmas.{is_one}
use Rattle.program_laws.specs.Behind.{TakesAll}
use Rattle.program_laws.proofs.CuedLemmas.{takes_within}
use Rattle.unit_stream.proofs.ClockLemmas.{begins_off_all}

-- ---- a packet of no switched PID

scrambled_off : (pids : List ℕ) (q : List ℕ) → on_one pids q ≡ false → scrambled_one pids q ≡ false
scrambled_off [] q n = refl
scrambled_off (pid ∷ pids) q n =
    let r = or_parts (on pid q) (on_one pids q) n in
    let k = off_payload pid q r.0 in
    let m = scrambled_off pids q r.1 in
    simp k m

pub unit_off : (pids : List ℕ) (q : List ℕ) (past : List (List ℕ)) → on_one pids q ≡ false → unit_fault pids q past ≡ None
unit_off pids q past n =
    let s = scrambled_off pids q n in
    let b = begins_off_all pids q past n in
    simp (s, b)

-- ---- the same packets of the switched PIDs

module _ (takes : List ℕ → Bool) where
  filter_yes : (q : List ℕ) (past : List (List ℕ)) → takes q ≡ true → filter takes (q ∷ past) ≡ q ∷ filter takes past
  filter_yes q past h = simp h

  filter_no : (q : List ℕ) (past : List (List ℕ)) → takes q ≡ false → filter takes (q ∷ past) ≡ filter takes past
  filter_no q past h = simp h

  repeats_taken : (pid : ℕ) → TakesAll takes pid → (p : List ℕ) (past : List (List ℕ)) → repeats pid p past ≡ repeats pid p (filter takes past)
  repeats_taken pid all p [] = refl
  repeats_taken pid all p (q ∷ past) =
      let i = repeats_taken pid all p past in
      let j = repeats_taken pid all q past in
      by_test (takes q)
      (λ y. rw (filter_yes q past y) (simp (i, j) refl))
      (λ n. let k = all q n in rw (filter_no q past n) (simp k i))

  begins_not : (pids : List ℕ) → AllByRecursion (TakesAll takes) pids → (p : List ℕ) (past : List (List ℕ)) → takes p ≡ false → begins_one pids p past ≡ false
  begins_not [] h p past n = refl
  begins_not (pid ∷ pids) h p past n = let k = h.0 p n in let m = begins_not pids h.1 p past n in simp (k, m)

  one_taken : (pids : List ℕ) → AllByRecursion (TakesAll takes) pids → (p : List ℕ) (past : List (List ℕ)) → begins_one pids p past ≡ begins_one pids p (filter takes past)
  one_taken [] h p past = refl
  one_taken (pid ∷ pids) h p past =
      ap (λ x. ((payload_on pid p && not x) && unit_start p) || begins_one pids p past) (repeats_taken pid h.0 p past)
      ∙ ap (λ x. begins pid p (filter takes past) || x) (one_taken pids h.1 p past)

  high_taken : (pids : List ℕ) → AllByRecursion (TakesAll takes) pids → (past : List (List ℕ)) → high pids past ≡ high pids (filter takes past)
  high_taken pids every [] = refl
  high_taken pids every (p ∷ past) =
      let i = high_taken pids every past in
      by_test (takes p)
      (λ y. rw (filter_yes p past y) (
      ap (λ b. if b then raised (high pids past) (stamp p) else high pids past) (one_taken pids every p past)
      ∙ ap (λ h. if begins_one pids p (filter takes past) then raised h (stamp p) else h) i))
      (λ n. rw (filter_no p past n) (ap (λ b. if b then raised (high pids past) (stamp p) else high pids past) (begins_not pids every p past n) ∙ i))

  one_same : (pids : List ℕ) → AllByRecursion (TakesAll takes) pids → (p : List ℕ) (past other : List (List ℕ)) → filter takes past ≡ filter takes other → begins_one pids p past ≡ begins_one pids p other
  one_same pids h p past other e = one_taken pids h p past ∙ ap (begins_one pids p) e ∙ sym (one_taken pids h p other)

same_high : (pids : List ℕ) → AllByRecursion (TakesAll (on_one pids)) pids → (past other : List (List ℕ)) → filter (on_one pids) past ≡ filter (on_one pids) other → high pids past ≡ high pids other
same_high pids every past other e = high_taken (on_one pids) pids every past ∙ ap (high pids) e ∙ sym (high_taken (on_one pids) pids every other)

pub unit_same : (pids : List ℕ) (p : List ℕ) (past other : List (List ℕ)) → filter (on_one pids) past ≡ filter (on_one pids) other → unit_fault pids p past ≡ unit_fault pids p other
unit_same pids p past other e =
    ap (λ b. if scrambled_one pids p then Some Scrambled else (if b then start_fault (high pids past) (splits p) (stamp p) else None)) (one_same (on_one pids) pids (takes_within pids pids (λ q n. n)) p past other e)
    ∙ ap (λ h. if scrambled_one pids p then Some Scrambled else (if begins_one pids p other then start_fault h (splits p) (stamp p) else None)) (same_high pids (takes_within pids pids (λ q n. n)) past other e)

-- what a packet is to its stream
pub part_same : (part : StartPacket) (pids : List ℕ) (x : ℕ × ℕ) (p : List ℕ) (past other : List (List ℕ)) → first_on pids p ≡ Some x
    → filter (on_one pids) past ≡ filter (on_one pids) other → IsStartPacket part pids x.1 p past → IsStartPacket part pids x.1 p other
part_same part pids x p past other here e is = by part is where
  same : begins x.1 p past ≡ begins x.1 p other
  same =
      sym (is_one pids p past x here).begins_it
      ∙ one_same (on_one pids) pids (takes_within pids pids (λ q n. n)) p past other e
      ∙ (is_one pids p other x here).begins_it

  by : (part : StartPacket) → IsStartPacket part pids x.1 p past → IsStartPacket part pids x.1 p other
  by (Start begun) is = (sym same ∙ is.0, subst (λ h. Tells begun h (stamp p)) (same_high pids (takes_within pids pids (λ q n. n)) past other e) is.1)
  by NoStart is = sym same ∙ is
