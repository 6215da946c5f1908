-- Times, edges and events.
use Rattle.std.specs.Prelude.{ℤ, ◌≤ℤ◌, is_some}
use Rattle.std.proofs.Common.{◌≡◌, true, false, not, refl, Option, None, Some, arith}
use Rattle.std.proofs.lemmas.Int.{ints}
use Rattle.splice_laws.specs.Splicing.{PlayedEvent, at_or_past, below, holds, break_stands}
use Rattle.splice_laws.specs.Laws.{Risen}

pub stands-later : (x : PlayedEvent) (h h' : Option ℤ) → Risen h h' → break_stands x h ≡ false → break_stands x h' ≡ false
stands-later x None h' k s = cc
stands-later x (Some a) None k s = absurd k
stands-later x (Some a) (Some b) k s = grind (arith, ints)

pub past_lower : (a b : ℤ) (t : Option ℤ) → a ≤ℤ b → at_or_past b t ≡ true → at_or_past a t ≡ true
past_lower a b None k h = h
past_lower a b (Some t) k h = grind (arith, ints)

pub holds-past : (x : PlayedEvent) (t : Option ℤ) → holds x t ≡ true → at_or_past x.start t ≡ true
holds-past x None h = h
holds-past x (Some t) h = grind (arith, ints)

pub holds-below : (x : PlayedEvent) (t : Option ℤ) (b : ℤ) → holds x t ≡ true → x.stop ≤ℤ b → at_or_past b t ≡ false
holds-below x None b h k = refl
holds-below x (Some t) b h k = grind (arith, ints)

-- at or past the start and not in the event: at or past the end
pub holds-or_past : (x : PlayedEvent) (t : Option ℤ) → at_or_past x.start t ≡ true → holds x t ≡ not (at_or_past x.stop t)
holds-or_past x None h = cc
holds-or_past x (Some t) h = grind (arith, ints)

pub not-below : (e : ℤ) (t : Option ℤ) → below e t ≡ false → is_some t ≡ true → at_or_past e t ≡ true
not-below e None h k = k
not-below e (Some t) h k = grind (arith, ints)

pub due-later : (t : ℤ) (h h' : Option ℤ) → Risen h h' → at_or_past t h ≡ true → at_or_past t h' ≡ true
due-later t None h' k d = cc
due-later t (Some a) None k d = absurd k
due-later t (Some a) (Some b) k d = grind (arith, ints)

pub starts_ordered : (x y : PlayedEvent) → x.start ≤ℤ x.stop → x.stop ≤ℤ y.start → x.start ≤ℤ y.start
starts_ordered x y l m = grind (arith, ints)

pub timed_past : (edge : ℤ) (t : Option ℤ) → at_or_past edge t ≡ true → is_some t ≡ true
timed_past edge None h = h
timed_past edge (Some t) h = refl
