-- The switched streams, as far as the entries have come.
use Rattle.std.proofs.Common.{◌≡◌, ℕ, ◌+◌, ◌<◌, ◌≤◌, List, [], ◌∷◌, ◌++◌, length, Bool, true, false, Result, Ok, Err, refl, sym, ap, ◌∙◌, arith, append_assoc}
use Rattle.std.specs.Prelude.{◌==◌, ◌&&◌, nat_lt}
use Rattle.std.specs.Bool.{Decides}
use Rattle.std.proofs.lemmas.Bool.{le-ltb, lt-ltb, eqb-true, and_parts}
use Rattle.std.proofs.lemmas.List.{append-nil, length-append}
use Rattle.std.proofs.lemmas.Bool.Decides.{Decides-eqb}
use Rattle.psi_tables.specs.declared.stream.Stream.{Stream}
use Rattle.psi_tables.specs.declared.fault.TooManyStreams.{TooManyStreams}
use Rattle.psi_tables.specs.Streams.{is_switched, switched_of, few_switched}

-- the list so far, and what is to come
pub record Switching (found rest all : List Stream) : Type 0 where
  pub so_far : found ++ switched_of rest ≡ switched_of all
  pub few : length found ≤ 8

pub switching_more : (found more rest rest' all : List Stream) (s : Stream) → rest ≡ s ∷ rest' → is_switched s.kind ≡ true → length found < 8 → more ≡ found ++ s ∷ [] → Switching found rest all → Switching more rest' all
switching_more found more rest rest' all s e is lt same w =
    let one : switched_of rest ≡ s ∷ switched_of rest' = rw (e, is) refl in
    let long : length more ≡ length found + 1 = ap (λ (xs : List Stream). length xs) same ∙ length-append found (s ∷ []) in
    record {
      so_far = ap (λ (xs : List Stream). xs ++ switched_of rest') same ∙ append_assoc found (s ∷ []) (switched_of rest') ∙ ap (λ (xs : List Stream). found ++ xs) (sym one) ∙ w.so_far;
      few = omega arith;
    }

pub switching_past : (found rest rest' all : List Stream) (s : Stream) → rest ≡ s ∷ rest' → is_switched s.kind ≡ false → Switching found rest all → Switching found rest' all
switching_past found rest rest' all s e is w =
    let one : switched_of rest ≡ switched_of rest' = rw (e, is) refl in
    record { so_far = ap (λ (xs : List Stream). found ++ xs) (sym one) ∙ w.so_far; few = w.few }

pub switching_done : (found rest all : List Stream) → rest ≡ [] → Switching found rest all → Ok found ≡ few_switched all
switching_done found rest all e w =
    let same : found ≡ switched_of all = sym (append-nil found) ∙ ap (λ (xs : List Stream). found ++ switched_of xs) (sym e) ∙ w.so_far in
    let few = w.few in
    let long = ap (λ (xs : List Stream). length xs) same in
    let test : nat_lt 8 (length (switched_of all)) ≡ false = le-ltb 8 (length (switched_of all)) (omega arith) in
    rw (test, ← same) refl

pub switching_full : (found rest rest' all : List Stream) (s : Stream) → rest ≡ s ∷ rest' → is_switched s.kind ≡ true → length found ≡ 8 → Switching found rest all → Err (record {}) ≡ few_switched all
switching_full found rest rest' all s e is full w =
    let one : switched_of rest ≡ s ∷ switched_of rest' = rw (e, is) refl in
    let whole : found ++ s ∷ switched_of rest' ≡ switched_of all = ap (λ (xs : List Stream). found ++ xs) (sym one) ∙ w.so_far in
    let long = ap (λ (xs : List Stream). length xs) whole in
    let test : nat_lt 8 (length (switched_of all)) ≡ true = lt-ltb 8 (length (switched_of all)) (omega (arith, length-append found (s ∷ switched_of rest'))) in
    rw test refl

-- ---- the same streams

abbrev made : ℕ → ℕ → Stream
made kind pid = record { kind = kind; pid = pid }

stream_of_parts : (a b : Stream) → a.kind ≡ b.kind → a.pid ≡ b.pid → a ≡ b
stream_of_parts a b p q = ap (λ (k : ℕ). made k a.pid) p ∙ ap (λ (n : ℕ). made b.kind n) q

pub stream_decides : (a b : Stream) → Decides ((a.kind == b.kind) && (a.pid == b.pid)) (a ≡ b)
stream_decides a b = (
  λ h. let parts = and_parts (a.kind == b.kind) (a.pid == b.pid) h in stream_of_parts a b (eqb-true _ _ parts.0) (eqb-true _ _ parts.1),
  λ e. rw ((Decides-eqb a.kind b.kind).1 (ap (λ (s : Stream). s.kind) e), (Decides-eqb a.pid b.pid).1 (ap (λ (s : Stream). s.pid) e)) refl,
)

module _ (few : Result (List Stream) TooManyStreams) (ys : List Stream) where
  abbrev answered : List Stream → Result (List Stream) TooManyStreams
  answered xs = Ok xs

  ok_same : (xs : List Stream) → answered xs ≡ answered ys → xs ≡ ys
  ok_same xs e = cc

  pub same_by : (xs : List Stream) (r : Bool) → Ok xs ≡ few → Decides r (xs ≡ ys) → Decides r (few ≡ Ok ys)
  same_by xs r h d = (λ t. sym h ∙ ap (λ (zs : List Stream). answered zs) (d.0 t), λ e. d.1 (ok_same xs (h ∙ e)))

  pub other_by : (e : TooManyStreams) → Err e ≡ few → Decides false (few ≡ Ok ys)
  other_by e h = (λ t. absurd cc, λ same. let clash : Err e ≡ answered ys = h ∙ same in absurd cc)
