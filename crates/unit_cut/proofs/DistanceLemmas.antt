-- The distance of the greatest time, which stops at 2^40.
use Rattle.std.proofs.Common.{◌≡◌, ℕ, ◌-◌, ◌^◌, ◌<◌, Some, refl, arith, inl, inr, Option, None, ap}
use Rattle.std.specs.Prelude.{ℤ, pos, negsuc, ◌+ℤ◌, ◌≤ℤ◌, ◌<ℤ◌, ◌&&◌}
use Rattle.std.specs.Int.{int_max, int_min}
use Rattle.std.proofs.lemmas.Int.{ints}
use lib.Signed.{lt_z, le_z}
use Rattle.ts_packet.proofs.Cases.{by_test}
use Rattle.unit_cut.specs.Cutting.{inside}
use Rattle.pes_time.specs.Line.{place, raise}
use Rattle.unit_stream.specs.Clocks.{way_from}
use Rattle.unit_cut.specs.Standing.{IsDistance, high_or}

near_by : (a s begin h : ℤ) → (a +ℤ s) <ℤ pos (2 ^ 40) → pos 0 <ℤ s → IsDistance a begin h → IsDistance (a +ℤ s) begin (h +ℤ s)
near_by a s begin h l f (inl i) = inl (omega (arith, ints))
near_by a s begin h l f (inr i) = absurd (omega (arith, ints))

far_off : (a s begin h : ℤ) → pos (2 ^ 40) ≤ℤ (a +ℤ s) → pos 0 <ℤ s → IsDistance a begin h → IsDistance (pos (2 ^ 40)) begin (h +ℤ s)
far_off a s begin h l f (inl i) = inr (refl, omega (arith, ints))
far_off a s begin h l f (inr i) = inr (refl, omega (arith, ints))

-- a step forward keeps the distance, up to the greatest
forward : (a s begin h : ℤ) → pos 0 <ℤ s → IsDistance a begin h → IsDistance (int_min (a +ℤ s) (pos (2 ^ 40))) begin (h +ℤ s)
forward a s begin h f i =
    by_test (lt_z (a +ℤ s) (pos (2 ^ 40)))
    (λ l.
    let m : int_min (a +ℤ s) (pos (2 ^ 40)) ≡ a +ℤ s = grind (arith, ints) in
    rw m (near_by a s begin h (grind (arith, ints)) f i))
    (λ l.
    let m : int_min (a +ℤ s) (pos (2 ^ 40)) ≡ pos (2 ^ 40) = grind (arith, ints) in
    rw m (far_off a s begin h (grind (arith, ints)) f i))

pub raised : (a s b begin h : ℤ) → pos 0 <ℤ s → b ≡ int_min (a +ℤ s) (pos (2 ^ 40)) → IsDistance a begin h → IsDistance b begin (int_max h (h +ℤ s))
raised a s b begin h f e i =
    let m : int_max h (h +ℤ s) ≡ h +ℤ s = grind (arith, ints) in
    rw (m, e) (forward a s begin h f i)

pub stays : (a s begin h : ℤ) → s ≤ℤ pos 0 → IsDistance a begin h → IsDistance a begin (int_max h (h +ℤ s))
stays a s begin h f i =
    let m : int_max h (h +ℤ s) ≡ h = grind (arith, ints) in
    rw m i

-- the distance tells what lies inside
pub within_is : (a s begin h : ℤ) (length : ℕ) → negsuc (2 ^ 32 - 1) ≤ℤ s → length < 2 ^ 34 → IsDistance a begin h → (le_z (pos 0) (a +ℤ s) && lt_z (a +ℤ s) (pos length)) ≡ inside begin length (Some (h +ℤ s))
within_is a s begin h length r l (inl i) = grind (arith, ints)
within_is a s begin h length r l (inr i) = grind (arith, ints)

-- ---- a stamp on the line, by the way to it

pub place_is : (high : Option ℤ) (p : ℕ) → place high p ≡ high_or high p +ℤ way_from high p
place_is None p = omega (arith, ints)
place_is (Some h) p = omega (arith, ints)

pub raise_is : (high : Option ℤ) (p : ℕ) → raise high (place high p) ≡ Some (int_max (high_or high p) (high_or high p +ℤ way_from high p))
raise_is None p = ap Some (grind (arith, ints))
raise_is (Some h) p = ap (λ t. Some (int_max h t)) (omega (arith, ints))
