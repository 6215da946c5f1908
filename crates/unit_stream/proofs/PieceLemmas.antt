-- The pieces of a reader join to units.
use Rattle.std.proofs.Common.{◌≡◌, ℕ, List, [], ◌∷◌, ◌++◌, reverse, Bool, true, false, not, ◌&&◌, refl, sym, ap, ◌∙◌, if◌then◌else◌}
use Rattle.std.proofs.lemmas.List.{map-append}
use Rattle.std.proofs.lemmas.Bool.{or_parts}
use Rattle.ts_packet.specs.Fields.{payload_on, bytes, unit_start, random_access}
use Rattle.ts_packet.specs.Duplicates.{original, repeats}
use Rattle.ts_packet.proofs.Cases.{by_test}
use Rattle.ts_packet.proofs.RunLemmas.{map-reverse}
use Rattle.unit_stream.specs.Times.{begins, in_unit, unit_time}
use Rattle.unit_stream.specs.Units.{TimedUnit, units, units_back, units_with, with_last_longer, longer, payloads}
use Rattle.unit_stream.specs.Pieces.{first_longer, PiecesJoin}
use Rattle.unit_stream.specs.declared.reader.Piece.TheVariants.{Start, More, Duplicate, NoPayload, Lead, Error}
use Rattle.unit_stream.proofs.UnitLemmas.{units_grow, units_in_order}
use Rattle.unit_stream.proofs.ReadingLemmas.{error_off}

no_units_more : (sw : List ℕ) (pid : ℕ) (p : List ℕ) (past : List (List ℕ)) → (in_unit pid past ≡ false → units_back sw pid past ≡ []) → in_unit pid (p ∷ past) ≡ false → units_back sw pid (p ∷ past) ≡ []
no_units_more sw pid p past i h =
    let (b, n) = or_parts (begins pid p past) (in_unit pid past) h in
    let none = i n in
    by_test (original pid p past) (λ o. let s : unit_start p ≡ false = simp o at b in simp (o, s, none)) (λ o. simp o none)

-- before the first start there is no unit
no_units : (sw : List ℕ) (pid : ℕ) (past : List (List ℕ)) → in_unit pid past ≡ false → units_back sw pid past ≡ []
no_units sw pid [] h = refl
no_units sw pid (p ∷ past) h = no_units_more sw pid p past (no_units sw pid past) h

longer_payloads : (us : List TimedUnit) (bs : List ℕ) → payloads (longer us bs) ≡ first_longer (payloads us) bs
longer_payloads [] bs = refl
longer_payloads (u ∷ us) bs = refl

last_longer : (us : List TimedUnit) (bs : List ℕ) → payloads (with_last_longer us bs) ≡ reverse (first_longer (reverse (payloads us)) bs)
last_longer us bs =
    map-reverse (λ (u : TimedUnit). u.payload) (longer (reverse us) bs)
    ∙ ap reverse (longer_payloads (reverse us) bs ∙ ap (λ l. first_longer l bs) (map-reverse (λ (u : TimedUnit). u.payload) us))

-- the units after one packet more, by the two tests
with_by : (sw : List ℕ) (pid : ℕ) (p : List ℕ) (past : List (List ℕ)) (us : List TimedUnit) (b o : Bool) → begins pid p past ≡ b → original pid p past ≡ o
    → payloads (units_with sw pid p past us) ≡ (if b then payloads us ++ bytes p ∷ [] else (if o then reverse (first_longer (reverse (payloads us)) (bytes p)) else payloads us))
with_by sw pid p past us true o e f = ap payloads (ap (λ t. if t then us ++ (record { time = unit_time sw pid (p ∷ past); payload = bytes p; random_access = random_access p }) ∷ [] else (if original pid p past then with_last_longer us (bytes p) else us)) e)
    ∙ map-append (λ (u : TimedUnit). u.payload) us (record { time = unit_time sw pid (p ∷ past); payload = bytes p; random_access = random_access p } ∷ [])
with_by sw pid p past us false true e f = ap payloads (ap (λ t. if t then us ++ (record { time = unit_time sw pid (p ∷ past); payload = bytes p; random_access = random_access p }) ∷ [] else (if original pid p past then with_last_longer us (bytes p) else us)) e
    ∙ ap (λ t. if t then with_last_longer us (bytes p) else us) f) ∙ last_longer us (bytes p)
with_by sw pid p past us false false e f = ap payloads (ap (λ t. if t then us ++ (record { time = unit_time sw pid (p ∷ past); payload = bytes p; random_access = random_access p }) ∷ [] else (if original pid p past then with_last_longer us (bytes p) else us)) e
    ∙ ap (λ t. if t then with_last_longer us (bytes p) else us) f)

begins_by : (pid : ℕ) (p : List ℕ) (past : List (List ℕ)) (o s : Bool) → original pid p past ≡ o → unit_start p ≡ s → begins pid p past ≡ (o && s)
begins_by pid p past o s e f = ap (λ t. t && unit_start p) e ∙ ap (λ t. o && t) f

not_original : (pid : ℕ) (p : List ℕ) (past : List (List ℕ)) → payload_on pid p ≡ false → original pid p past ≡ false
not_original pid p past y = ap (λ t. t && not (repeats pid p past)) y

pub repeated : (pid : ℕ) (p : List ℕ) (past : List (List ℕ)) → payload_on pid p ≡ true → repeats pid p past ≡ true → original pid p past ≡ false
repeated pid p past y r = ap (λ t. t && not (repeats pid p past)) y ∙ ap not r

nothing : (sw : List ℕ) (pid : ℕ) (ps : List (List ℕ)) (p : List ℕ) → original pid p (reverse ps) ≡ false → payloads (units sw pid (ps ++ p ∷ [])) ≡ payloads (units sw pid ps)
nothing sw pid ps p o =
    ap payloads (units_grow sw pid ps p) ∙ with_by sw pid p (reverse ps) (units sw pid ps) false false (begins_by pid p (reverse ps) false (unit_start p) o refl) o

pub pieces_join : PiecesJoin
pieces_join sw pid ps p (Start b) h =
    ap payloads (units_grow sw pid ps p) ∙ with_by sw pid p (reverse ps) (units sw pid ps) true true h.0 h.1 ∙ ap (λ l. payloads (units sw pid ps) ++ l ∷ []) (sym h.3)
pieces_join sw pid ps p (More b) h =
    ap payloads (units_grow sw pid ps p) ∙ with_by sw pid p (reverse ps) (units sw pid ps) false true (begins_by pid p (reverse ps) true false h.0 h.2) h.0
    ∙ ap (λ l. reverse (first_longer (reverse (payloads (units sw pid ps))) l)) (sym h.4)
pieces_join sw pid ps p Lead h =
    let none : units sw pid ps ≡ [] = units_in_order sw pid ps ∙ ap reverse (no_units sw pid (reverse ps) h.3) in
    ap payloads (units_grow sw pid ps p) ∙ with_by sw pid p (reverse ps) (units sw pid ps) false true (begins_by pid p (reverse ps) true false h.0 h.2) h.0
    ∙ ap (λ us. reverse (first_longer (reverse (payloads us)) (bytes p))) none ∙ ap payloads (sym none)
pieces_join sw pid ps p Duplicate h = nothing sw pid ps p (repeated pid p (reverse ps) h.0 h.1)
pieces_join sw pid ps p NoPayload h = nothing sw pid ps p (not_original pid p (reverse ps) h.1)
pieces_join sw pid ps p Error h = nothing sw pid ps p (not_original pid p (reverse ps) (error_off pid p h))
