-- From histories, newest first, to runs in order.
use Rattle.std.proofs.Common.{◌≡◌, ℕ, List, [], ◌∷◌, ◌++◌, reverse, Bool, true, false, refl, sym, ap, ◌∙◌, if◌then◌else◌, Option, None, Some, append_assoc, map}
use Rattle.std.proofs.lemmas.List.{append-nil, reverse-append, map-append}
use Rattle.std.proofs.lemmas.List.Elements.{filter-append, All-head, All-tail, All-cons, All-nil}
use Rattle.std.specs.Prelude.{filter, All}
use Rattle.ts_packet.specs.declared.follower.Last.{Last}
use Rattle.ts_packet.specs.Fields.{payload_on}
use Rattle.ts_packet.specs.Duplicates.{repeats, last_of, nearest, InStep, IsNext, IsSame, Gapless}
use Rattle.ts_packet.specs.Runs.{Seen, seen_after, IsGapless, IsGaplessAfter}
pub use Rattle.ts_packet.specs.Runs.{onto}
use Rattle.ts_packet.proofs.Cases.{by_test}

-- `reverse ps` computes to `onto [] ps`

-- the packets of a run of two parts: those of the second have the first in their past
pub seen_after-append : (past ps qs : List (List ℕ)) → seen_after past (ps ++ qs) ≡ seen_after past ps ++ seen_after (onto past ps) qs
seen_after-append past [] qs = refl
seen_after-append past (p ∷ ps) qs = ap (λ l. record { packet = p; past = past } ∷ l) (seen_after-append (p ∷ past) ps qs)

-- ---- lists read backwards

pub reverse-cons : {A : Type 0} (x : A) (xs : List A) → reverse (x ∷ xs) ≡ reverse xs ++ x ∷ []
reverse-cons x xs = reverse-append (x ∷ []) xs

pub reverse-more : {A : Type 0} (x : A) (xs ys : List A) → reverse (x ∷ xs) ++ ys ≡ reverse xs ++ x ∷ ys
reverse-more x xs ys = ap (λ l. l ++ ys) (reverse-append (x ∷ []) xs) ∙ append_assoc (reverse xs) (x ∷ []) ys

pub map-reverse : {A B : Type 0} (f : A → B) (xs : List A) → map f (reverse xs) ≡ reverse (map f xs)
map-reverse f [] = refl
map-reverse f (x ∷ xs) = ap (map f) (reverse-cons x xs) ∙ map-append f (reverse xs) (x ∷ []) ∙ ap (λ l. l ++ f x ∷ []) (map-reverse f xs) ∙ sym (reverse-cons (f x) (map f xs))

filter-one : {A : Type 0} (f : A → Bool) (x : A) (xs : List A) → reverse (filter f xs) ++ filter f (x ∷ []) ≡ reverse (filter f (x ∷ xs))
filter-one f x xs = by_test (f x) (λ y. simp y (sym (reverse-cons x (filter f xs)))) (λ y. simp (y, append-nil))

pub filter-reverse : {A : Type 0} (f : A → Bool) (xs : List A) → filter f (reverse xs) ≡ reverse (filter f xs)
filter-reverse f [] = refl
filter-reverse f (x ∷ xs) = ap (filter f) (reverse-cons x xs) ∙ filter-append f (reverse xs) (x ∷ []) ∙ ap (λ l. l ++ filter f (x ∷ [])) (filter-reverse f xs) ∙ filter-one f x xs

-- ---- the nearest payload packet

-- the last one's packet or, where there is none, the one given
abbrev pub packet_or : Option (List ℕ) → Option Last → Option (List ℕ)
packet_or before None = before
packet_or before (Some l) = Some l.packet

packet_both : (b : Bool) (before : Option (List ℕ)) (l : Last) (ol : Option Last) (near : Option (List ℕ)) → near ≡ packet_or before ol
    → (if b then Some l.packet else near) ≡ packet_or before (if b then Some l else ol)
packet_both true before l ol near h = refl
packet_both false before l ol near h = h

-- the nearest payload packet is the last one's
pub nearest_is_last : (before : Option (List ℕ)) (pid : ℕ) (past : List (List ℕ)) → nearest before pid past ≡ packet_or before (last_of pid past)
nearest_is_last before pid [] = refl
nearest_is_last before pid (p ∷ past) =
    packet_both (payload_on pid p) before (record { packet = p; is_repeat = repeats pid p past }) (last_of pid past) (nearest before pid past) (nearest_is_last before pid past)

-- ---- gapless runs

module _ (before : Option (List ℕ)) (pid : ℕ) where
  -- a run that is gapless in order is so newest first
  pub gapless_glue : (past ps : List (List ℕ)) → Gapless before pid past → All (λ (s : Seen). InStep before pid s.packet s.past) (seen_after past ps) → Gapless before pid (onto past ps)
  gapless_glue past [] h k = h
  gapless_glue past (p ∷ ps) h k =
      let f = λ (s : Seen). InStep before pid s.packet s.past in
      let s : Seen = record { packet = p; past = past } in
      gapless_glue (p ∷ past) ps (All-head f s (seen_after (p ∷ past) ps) k, h) (All-tail f s (seen_after (p ∷ past) ps) k)

  -- and the other way
  pub gapless_back : (past ps : List (List ℕ)) → Gapless before pid (onto past ps) → Gapless before pid past × All (λ (s : Seen). InStep before pid s.packet s.past) (seen_after past ps)
  gapless_back past [] h = (h, All-nil (λ (s : Seen). InStep before pid s.packet s.past))
  gapless_back past (p ∷ ps) h =
      let r = gapless_back (p ∷ past) ps h in
      (r.0.1, All-cons (λ (s : Seen). InStep before pid s.packet s.past) (record { packet = p; past = past }) (seen_after (p ∷ past) ps) r.0.0 r.1)

-- ---- a run that is gapless behind a head is so by itself

next_alone : (before : Option (List ℕ)) (p : List ℕ) (ol : Option Last) → IsNext p (packet_or before ol) → IsNext p (packet_or None ol)
next_alone before p None h = tt
next_alone before p (Some l) h = h

same_alone : (before : Option (List ℕ)) (p : List ℕ) (ol : Option Last) → IsSame p (packet_or before ol) → IsSame p (packet_or None ol)
same_alone before p None h = tt
same_alone before p (Some l) h = h

in_step_alone : (before : Option (List ℕ)) (pid : ℕ) (p : List ℕ) (past : List (List ℕ)) → InStep before pid p past → InStep None pid p past
in_step_alone before pid p past h = record {
  next = λ o. rw (nearest_is_last None pid past) (next_alone before p (last_of pid past) (rw (← nearest_is_last before pid past) (h.next o)));
  same = λ o y. rw (nearest_is_last None pid past) (same_alone before p (last_of pid past) (rw (← nearest_is_last before pid past) (h.same o y)));
}

gapless_past : (before : Option (List ℕ)) (pid : ℕ) (past : List (List ℕ)) → Gapless before pid past → Gapless None pid past
gapless_past before pid [] h = tt
gapless_past before pid (p ∷ past) h = (in_step_alone before pid p past h.0, gapless_past before pid past h.1)

pub gapless_alone : (before : Option (List ℕ)) (pid : ℕ) (ps : List (List ℕ)) → IsGaplessAfter before pid ps → IsGapless pid ps
gapless_alone before pid ps h = (gapless_back None pid [] ps (gapless_past before pid (reverse ps) (gapless_glue before pid [] ps tt h))).1

-- a past with two runs added in turn
pub onto-append : (past ps qs : List (List ℕ)) → onto past (ps ++ qs) ≡ onto (onto past ps) qs
onto-append past [] qs = refl
onto-append past (p ∷ ps) qs = onto-append (p ∷ past) ps qs

pub reverse-onto : (past ps : List (List ℕ)) → reverse (onto past ps) ≡ reverse past ++ ps
reverse-onto past [] = sym (append-nil (reverse past))
reverse-onto past (p ∷ ps) = reverse-onto (p ∷ past) ps ∙ ap (λ l. l ++ ps) (reverse-append (p ∷ []) past) ∙ append_assoc (reverse past) (p ∷ []) ps
