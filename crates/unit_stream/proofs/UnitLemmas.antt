-- The units of a run in order are those found one packet at a time.
use Rattle.std.specs.Prelude.{ℤ, filter}
use Rattle.std.proofs.Common.{◌≡◌, ℕ, List, [], ◌∷◌, ◌++◌, reverse, refl, sym, ap, ◌∙◌, Option, None, append_assoc}
use Rattle.std.proofs.lemmas.List.{append-nil, reverse-append, reverse-reverse}
use Rattle.ts_packet.specs.Fields.{unit_start, bytes, random_access}
use Rattle.ts_packet.specs.Duplicates.{original}
use Rattle.ts_packet.specs.Runs.{seen_after}
use Rattle.ts_packet.proofs.Cases.{by_test}
use Rattle.ts_packet.proofs.RunLemmas.{onto, reverse-more}
use Rattle.unit_stream.specs.Times.{unit_time, timed, high, stamp}
use Rattle.unit_stream.specs.Units.{TimedUnit, rest_of_unit, units_of, is_original, units, longer, units_back, units_with, UnitsGrow}

pub longer-longer : (us : List TimedUnit) (a b : List ℕ) → longer (longer us a) b ≡ longer us (a ++ b)
longer-longer [] a b = refl
longer-longer (u ∷ us) a b = ap (λ l. record { time = u.time; payload = l; random_access = u.random_access } ∷ us) (append_assoc u.payload a b)

pub longer-nil : (us : List TimedUnit) → longer us [] ≡ us
longer-nil [] = refl
longer-nil (u ∷ us) = ap (λ l. record { time = u.time; payload = l; random_access = u.random_access } ∷ us) (append-nil u.payload)

-- the units of a past and of packets behind it: those of the past, the last one longer, and those that begin
abbrev Glued : List ℕ → ℕ → List (List ℕ) → List (List ℕ) → Type 0
Glued sw pid past ps = let S = filter (is_original pid) (seen_after past ps) in
    reverse (units_back sw pid (onto past ps)) ≡ reverse (longer (units_back sw pid past) (rest_of_unit S)) ++ units_of sw pid S

glued-none : (sw : List ℕ) (pid : ℕ) (past : List (List ℕ)) → Glued sw pid past []
glued-none sw pid past = simp (longer-nil, append-nil)

glued-more : (sw : List ℕ) (pid : ℕ) (p : List ℕ) (past ps : List (List ℕ)) → Glued sw pid (p ∷ past) ps → Glued sw pid past (p ∷ ps)
glued-more sw pid p past ps h =
    let S = filter (is_original pid) (seen_after (p ∷ past) ps) in
    let t = timed (high sw past) (stamp p) (unit_time sw pid past) in
    by_test (original pid p past)
    (λ o. by_test (unit_start p)
    (λ st. let e = simp (o, st) at h in simp (o, st, longer-nil) (e ∙ reverse-more (record { time = t; payload = bytes p ++ rest_of_unit S; random_access = random_access p }) (units_back sw pid past) (units_of sw pid S)))
    (λ st. let e = simp (o, st, longer-longer) at h in simp (o, st) e))
    (λ o. let e = simp o at h in simp o e)

units_glue : (sw : List ℕ) (pid : ℕ) (past ps : List (List ℕ)) → Glued sw pid past ps
units_glue sw pid past [] = glued-none sw pid past
units_glue sw pid past (p ∷ ps) = glued-more sw pid p past ps (units_glue sw pid (p ∷ past) ps)

-- a run's units, in order, are those found one packet at a time
pub units_in_order : (sw : List ℕ) (pid : ℕ) (ps : List (List ℕ)) → units sw pid ps ≡ reverse (units_back sw pid (reverse ps))
units_in_order sw pid ps = sym (units_glue sw pid [] ps)

-- what one more packet makes of the units
grow : (sw : List ℕ) (pid : ℕ) (p : List ℕ) (past : List (List ℕ)) → reverse (units_back sw pid (p ∷ past)) ≡ units_with sw pid p past (reverse (units_back sw pid past))
grow sw pid p past =
    by_test (original pid p past)
    (λ o. by_test (unit_start p)
    (λ s. simp (o, s) (reverse-append (record { time = timed (high sw past) (stamp p) (unit_time sw pid past); payload = bytes p; random_access = random_access p } ∷ []) (units_back sw pid past)))
    (λ s. simp (o, s, reverse-reverse)))
    (λ o. simp o)

pub units_grow : UnitsGrow
units_grow sw pid ps p =
    let e : units sw pid (ps ++ p ∷ []) ≡ reverse (units_back sw pid (p ∷ reverse ps)) =
    units_in_order sw pid (ps ++ p ∷ []) ∙ ap (λ l. reverse (units_back sw pid l)) (reverse-append ps (p ∷ [])) in
    e ∙ grow sw pid p (reverse ps) ∙ ap (units_with sw pid p (reverse ps)) (sym (units_in_order sw pid ps))

-- ---- the unit that began last

-- it has the time of the history
abbrev pub HeadTime : List TimedUnit → Option ℤ → Type 0
HeadTime [] t = t ≡ None
HeadTime (u ∷ us) t = u.time ≡ t

longer_time : (us : List TimedUnit) (t : Option ℤ) (bs : List ℕ) → HeadTime us t → HeadTime (longer us bs) t
longer_time [] t bs h = h
longer_time (u ∷ us) t bs h = h

pub head_time : (sw : List ℕ) (pid : ℕ) (past : List (List ℕ)) → HeadTime (units_back sw pid past) (unit_time sw pid past)
head_time sw pid [] = refl
head_time sw pid (p ∷ past) =
    by_test (original pid p past)
    (λ o. by_test (unit_start p)
    (λ s. simp (o, s))
    (λ s. simp (o, s) (longer_time _ _ (bytes p) (head_time sw pid past))))
    (λ o. simp o (head_time sw pid past))
