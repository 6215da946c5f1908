-- The code's test of an event is that of its interval on the line.
use Rattle.std.proofs.Common.{◌≡◌, ℕ, ◌^◌, ◌<◌, ◌≤◌, ◌==◌, nat_lt, nat_le, Bool, true, false, not, ◌&&◌, List, refl, sym, ◌∙◌, subst, arith}
use Rattle.std.specs.Prelude.{ℤ, Option, None, Some}
use Rattle.std.proofs.lemmas.Bool.Decides.{nat_tests, same_from_decides}
use Rattle.std.proofs.lemmas.Bool.{and_from, and_parts}
use Rattle.pes_time.specs.Line.{signed, ring_of, place}
use Rattle.event_table.specs.declared.event.Event.{Event}
use Rattle.event_table.specs.declared.table.Table.{Table}
use Rattle.event_table.specs.Events.{CanArm, IsArmable}
use Rattle.event_table.specs.Standing.{Standing, on_line, is_ahead_of}
use Rattle.event_table.specs.Tables.{StandsFor}
use Rattle.event_table.proofs.TableLemmas.{is_ahead-is, is_ahead-from}
use Rattle.std.proofs.Math.Bool.{and-false}
use Rattle.armed_events.specs.Arming.{is_fresh}

-- the test tells it
abbrev pub Tells : Bool → Type 0 → Type 0
Tells b P = (b ≡ true → P) × (P → b ≡ true)

none-false : (b : Bool) → (b ≡ true → ⊥) → b ≡ false
none-false true h = absurd (h refl)
none-false false h = refl

fresh-true : (c : Bool) (l a : ℕ) → c ≡ false → l ≡ a → 0 < l → l ≤ 2 ^ 30 → (not c && (l == a && (nat_lt 0 l && nat_le l (2 ^ 30)))) ≡ true
fresh-true true l a x same some most = absurd (grind (arith, x))
fresh-true false l a x same some most = grind (arith, nat_tests)

pub record FreshParts (c : Bool) (l a : ℕ) : Type 0 where
  pub uncancelled : c ≡ false
  pub whole : l ≡ a
  pub some : 0 < l
  pub most : l ≤ 2 ^ 30

fresh-parts : (c : Bool) (l a : ℕ) → (not c && (l == a && (nat_lt 0 l && nat_le l (2 ^ 30)))) ≡ true → FreshParts c l a
fresh-parts true l a h = absurd (grind (arith, h))
fresh-parts false l a h = record { uncancelled = refl; whole = grind (arith, nat_tests); some = grind (arith, nat_tests); most = grind (arith, nat_tests) }

armable-decides : (h : ℤ) (e : Event) → Tells (is_fresh (on_line (Some h) e) && is_ahead_of (Some h) (place (Some h) e.start)) (IsArmable (ring_of h) e)
armable-decides h e = (to, from)
  where
    to : (is_fresh (on_line (Some h) e) && is_ahead_of (Some h) (place (Some h) e.start)) ≡ true → IsArmable (ring_of h) e
    to is =
        let both = and_parts (is_fresh (on_line (Some h) e)) (is_ahead_of (Some h) (place (Some h) e.start)) is in
        let f = fresh-parts e.cancelled e.length e.asked both.0 in
        let a = is_ahead-from h (signed e.start (ring_of h)) both.1 in
        record {
          fresh = record { uncancelled = f.uncancelled; whole = f.whole; some = f.some; most = f.most };
          ahead = record { above = a.0; below = a.1 };
        }

    from : IsArmable (ring_of h) e → (is_fresh (on_line (Some h) e) && is_ahead_of (Some h) (place (Some h) e.start)) ≡ true
    from can =
        and_from (is_fresh (on_line (Some h) e)) (is_ahead_of (Some h) (place (Some h) e.start))
        (fresh-true e.cancelled e.length e.asked can.fresh.uncancelled can.fresh.whole can.fresh.some can.fresh.most)
        (is_ahead-is h (signed e.start (ring_of h)) can.ahead.above can.ahead.below)

-- whether an event may be armed
pub can-arm : {T : Type 0} → (t : Table T) (latest : Option ℤ) (standing : List Standing) (e : Event) (b : Bool) → StandsFor t latest standing → Tells b (CanArm t.last e)
    → b ≡ (is_fresh (on_line latest e) && is_ahead_of latest (place latest e.start))
can-arm t None standing e b s d =
    let d' : Tells b (CanArm None e) = subst (λ (h : Option ℕ). Tells b (CanArm h e)) s.high d in
    none-false b d'.0 ∙ sym (and-false (is_fresh (on_line None e)))
can-arm t (Some h) standing e b s d =
    let d' : Tells b (CanArm (Some (ring_of h)) e) = subst (λ (x : Option ℕ). Tells b (CanArm x e)) s.high d in
    same_from_decides b _ d' (armable-decides h e)
