-- Sections as they are given, packet by packet.
use Rattle.std.proofs.Common.{◌≡◌, ℕ, ◌+◌, ◌<◌, ◌≤◌, List, [], ◌∷◌, ◌++◌, length, map, reverse, take, drop, get_or, All, refl, sym, ap, ◌∙◌, subst, append_assoc, length-take-le, arith}
use Rattle.std.proofs.lemmas.List.{map-append, reverse-append, length-reverse, take_more, drop_more, drop_all, append-nil}
use Rattle.ts_packet.specs.Runs.{Seen, seen_after}
use Rattle.psi_section.specs.Sections.{given, sections_with, sections_after}
use Rattle.psi_section.specs.Assembling.{IsOf}
use Rattle.psi_section.proofs.RunLemmas.{have_packets}
use Rattle.conformance.specs.declared.sections.Finished.{Finished}
use Rattle.conformance.specs.Sections.{at_place, place_of, finished_after, placed}

-- ---- one section of a packet

-- a section that is kept stands behind those that were kept, and before those that are still to come
pub kept_more : (place : ℕ) (s : List ℕ) (rest : List (List ℕ)) (old new : List Finished) (f : Finished) (all : List (ℕ × List ℕ)) → placed f ≡ (place, s) → new ≡ old ++ f ∷ []
    → map placed old ++ at_place place (s ∷ rest) ≡ all → map placed new ++ at_place place rest ≡ all
kept_more place s rest old new f all e grown so_far =
    ap (λ l. map placed l ++ at_place place rest) grown
    ∙ ap (λ l. l ++ at_place place rest) (map-append placed old (f ∷ []))
    ∙ append_assoc (map placed old) (placed f ∷ []) (at_place place rest)
    ∙ ap (λ x. map placed old ++ x ∷ at_place place rest) e
    ∙ so_far

-- ---- one packet of a run

pub past_more : (xs : List (List ℕ)) (i : ℕ) (p : List ℕ) → i < length xs → p ≡ get_or xs i p → reverse (take (i + 1) xs) ≡ p ∷ reverse (take i xs)
past_more xs i p lt e = ap reverse (take_more xs i p lt) ∙ reverse-append (take i xs) (get_or xs i p ∷ []) ∙ ap (λ x. x ∷ reverse (take i xs)) (sym e)

pub is_of_at : (pid : ℕ) (xs : List (List ℕ)) (i : ℕ) (p : List ℕ) → All (IsOf pid) xs → i < length xs → p ≡ get_or xs i p → IsOf pid p
is_of_at pid xs i p all lt e = subst (IsOf pid) (sym e) (all i p lt)

-- a packet's sections, and those of the packets behind it
placed_with : (s : Seen) (ss : List (List ℕ)) → map place_of (map (λ section. let x : Seen × List ℕ = (s, section) in x) ss) ≡ at_place (length s.past) ss
placed_with s [] = refl
placed_with s (t ∷ ts) = ap (λ l. (length s.past, t) ∷ l) (placed_with s ts)

finished_first : (pid : ℕ) (past : List (List ℕ)) (p : List ℕ) (ps : List (List ℕ))
    → finished_after pid past (p ∷ ps) ≡ at_place (length past) (given pid p past) ++ finished_after pid (p ∷ past) ps
finished_first pid past p ps =
    let s : Seen = record { packet = p; past = past } in
    let here = map (λ section. let x : Seen × List ℕ = (s, section) in x) (given pid p past) in
    map-append place_of here (sections_with pid (seen_after (p ∷ past) ps)) ∙ ap (λ l. l ++ finished_after pid (p ∷ past) ps) (placed_with s (given pid p past))

pub finished_more : (pid : ℕ) (xs : List (List ℕ)) (i : ℕ) (p : List ℕ) (old new all : List (ℕ × List ℕ)) → i < length xs → p ≡ get_or xs i p
    → new ≡ old ++ at_place i (given pid p (reverse (take i xs))) → old ++ finished_after pid (reverse (take i xs)) (drop i xs) ≡ all
    → new ++ finished_after pid (p ∷ reverse (take i xs)) (drop (i + 1) xs) ≡ all
finished_more pid xs i p old new all lt e grown so_far =
    let past = reverse (take i xs) in
    let rest = finished_after pid (p ∷ past) (drop (i + 1) xs) in
    let here : drop i xs ≡ p ∷ drop (i + 1) xs = drop_more xs i p lt ∙ ap (λ x. x ∷ drop (i + 1) xs) (sym e) in
    let place : length past ≡ i = length-reverse (take i xs) ∙ length-take-le i xs (omega arith) in
    let split : finished_after pid past (drop i xs) ≡ at_place i (given pid p past) ++ rest = ap (finished_after pid past) here ∙ finished_first pid past p (drop (i + 1) xs) ∙ ap (λ k. at_place k (given pid p past) ++ rest) place in
    ap (λ l. l ++ rest) grown ∙ append_assoc old (at_place i (given pid p past)) rest ∙ ap (λ l. old ++ l) (sym split) ∙ so_far

pub finished_at_end : (pid : ℕ) (past xs : List (List ℕ)) (i : ℕ) (kept all : List (ℕ × List ℕ)) → length xs ≤ i
    → kept ++ finished_after pid past (drop i xs) ≡ all → kept ≡ all
finished_at_end pid past xs i kept all le e =
    sym (append-nil kept) ∙ ap (λ l. kept ++ finished_after pid past l) (sym (drop_all i xs le)) ∙ e

-- ---- the sections of a run, without their places

abbrev second : ℕ × List ℕ → List ℕ
second x = x.1

second_of_places : (xs : List (Seen × List ℕ)) → map second (map place_of xs) ≡ map (λ x. x.1) xs
second_of_places [] = refl
second_of_places (x ∷ xs) = ap (λ l. x.1 ∷ l) (second_of_places xs)

sections_finished : (pid : ℕ) (past ps : List (List ℕ)) → map second (finished_after pid past ps) ≡ sections_after past pid ps
sections_finished pid past ps = second_of_places (sections_with pid (seen_after past ps)) ∙ have_packets pid (seen_after past ps)

second_of_placed : (fs : List Finished) → map (λ f. f.section.items) fs ≡ map second (map placed fs)
second_of_placed [] = refl
second_of_placed (f ∷ fs) = ap (λ l. f.section.items ∷ l) (second_of_placed fs)

pub sections_kept : (pid : ℕ) (ps : List (List ℕ)) (fs : List Finished) → map placed fs ≡ finished_after pid [] ps
    → map (λ f. f.section.items) fs ≡ sections_after [] pid ps
sections_kept pid ps fs e = second_of_placed fs ∙ ap (map second) e ∙ sections_finished pid [] ps
