-- Membership, tests on lists, and counting.
use Rattle.std.proofs.Common.{◌≡◌, ◌≤◌, suc, Bool, ◌⊎◌, inl, inr, refl, sym, ap, ◌∙◌, List, [], ◌∷◌, length, arith}
use Rattle.std.specs.Prelude.{ℤ, int_lt, filter, map}
use Rattle.std.proofs.lemmas.Int.{ints}
use Rattle.ts_packet.proofs.Cases.{by_test}
use Rattle.ts_packet.specs.Membership.{In}
use Rattle.ts_packet.proofs.MembershipLemmas.{In-mapped, In-filtered}
use Rattle.cue_laws.specs.Events.{LineEvent}

-- no two have one start
abbrev pub Distinct : List LineEvent → Type 0
Distinct [] = Unit {0}
Distinct (a ∷ es) = ((b : LineEvent) → In b es → b.start ≡ a.start → ⊥) × Distinct es

pub distinct-filter : (p : LineEvent → Bool) (es : List LineEvent) → Distinct es → Distinct (filter p es)
distinct-filter p [] d = tt
distinct-filter p (a ∷ es) d =
    by_test (p a)
    (λ u. simp u (λ b i is. d.0 b (In-filtered p b es i).0 is, distinct-filter p es d.1))
    (λ u. simp u (distinct-filter p es d.1))

pub distinct-map : (f : LineEvent → LineEvent) → ((e : LineEvent) → (f e).start ≡ e.start) → (es : List LineEvent) → Distinct es → Distinct (map f es)
distinct-map f keeps [] d = tt
distinct-map f keeps (a ∷ es) d = (
  λ b i is. let r = In-mapped f b es i in d.0 r.0 r.1 (sym (keeps r.0) ∙ sym (ap (λ (e : LineEvent). e.start) r.2) ∙ is ∙ keeps a),
  distinct-map f keeps es d.1,
)

-- a list without one of its elements
removed : (x : LineEvent) (xs : List LineEvent) → In x xs → (ys : List LineEvent) × (length xs ≡ suc (length ys)) × ((y : LineEvent) → In y xs → (y.start ≡ x.start → ⊥) → In y ys)
removed x [] i = absurd i
removed x (z ∷ zs) (inl is) = (zs, refl, λ y i other. others y i other)
  where
    others : (y : LineEvent) → In y (z ∷ zs) → (y.start ≡ x.start → ⊥) → In y zs
    others y (inl same) other = absurd (other (ap (λ (e : LineEvent). e.start) (same ∙ sym is)))
    others y (inr i) other = i
removed x (z ∷ zs) (inr i) = let r = removed x zs i in (z ∷ r.0, ap suc r.1, λ y j other. others r.0 r.2 y j other)
  where
    others : (ys : List LineEvent) → ((y : LineEvent) → In y zs → (y.start ≡ x.start → ⊥) → In y ys) → (y : LineEvent) → In y (z ∷ zs) → (y.start ≡ x.start → ⊥) → In y (z ∷ ys)
    others ys rest y (inl same) other = inl same
    others ys rest y (inr j) other = inr (rest y j other)

-- events of different starts, each of which has one of its start in a list, are no more than that list has
pub no_more : (es all : List LineEvent) → Distinct es → ((e : LineEvent) → In e es → (t : LineEvent) × In t all × (e.start ≡ t.start)) → length es ≤ length all
no_more [] all d each = omega arith
no_more (a ∷ es) all d each =
    let mine = each a (inl refl) in
    let r = removed mine.0 all mine.1 in
    let rest = no_more es r.0 d.1 (λ e i. let t = each e (inr i) in (t.0, r.2 t.0 t.1 (λ same. d.0 e i (t.2 ∙ same ∙ sym mine.2)), t.2)) in
    let l = r.1 in omega (arith, l)

-- an event of this start is among them, or none is
pub has_start : (start : ℤ) (es : List LineEvent) → ((e : LineEvent) × In e es × (e.start ≡ start)) ⊎ ((e : LineEvent) → In e es → e.start ≡ start → ⊥)
has_start start [] = inr (λ e i is. i)
has_start start (a ∷ es) =
    by_test (int_lt a.start start)
    (λ l. rest (λ is. grind (arith, ints)) (has_start start es))
    (λ l. by_test (int_lt start a.start)
    (λ g. rest (λ is. grind (arith, ints)) (has_start start es))
    (λ g. let is : a.start ≡ start = grind (arith, ints) in inl (a, inl refl, is)))
  where
    rest : (a.start ≡ start → ⊥) → ((e : LineEvent) × In e es × (e.start ≡ start)) ⊎ ((e : LineEvent) → In e es → e.start ≡ start → ⊥)
        → ((e : LineEvent) × In e (a ∷ es) × (e.start ≡ start)) ⊎ ((e : LineEvent) → In e (a ∷ es) → e.start ≡ start → ⊥)
    rest other (inl r) = inl (r.0, inr r.1, r.2)
    rest other (inr none) = inr (λ e i is. apart e i is)
      where
        apart : (e : LineEvent) → In e (a ∷ es) → e.start ≡ start → ⊥
        apart e (inl same) is = other (ap (λ (e : LineEvent). e.start) (sym same) ∙ is)
        apart e (inr i) is = none e i is
