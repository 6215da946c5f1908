-- The packets of one unit read back, behind a run.
use Rattle.std.specs.Prelude.{flat_map, map}
use Rattle.std.proofs.Common.{◌≡◌, ℕ, ◌+◌, ◌%◌, List, [], ◌∷◌, ◌++◌, reverse, true, false, Option, None, Some, refl, sym, ap, ◌∙◌, arith, append_assoc}
use Rattle.std.proofs.lemmas.List.{append-nil, map-append}
use Rattle.ts_packet.specs.Fields.{number, unit_start, random_access, bytes}
use Rattle.ts_packet.specs.Duplicates.{original, nearest, IsNext}
use Rattle.ts_packet.proofs.FieldLemmas.{number-below}
use Rattle.ts_packet.proofs.RunLemmas.{onto, nearest_is_last, reverse-cons, gapless_glue, gapless_back, onto-append}
use Rattle.unit_stream.specs.Times.{unit_time}
use Rattle.unit_stream.specs.Units.{TimedUnit, units, units_back, payloads}
use Rattle.unit_stream.specs.UnitPackets.{GoOn, IsPacked}
use Rattle.unit_stream.specs.Carrying.{CarriesUnits}
use Rattle.unit_stream.proofs.UnitLemmas.{units_in_order}
use Rattle.unit_stream.proofs.PackedLemmas.{Numbered, AllOriginal, put_gapless, put_originals, carries_one}
use Rattle.unit_packing.specs.Laws.{PackedReadBack}

pub carry_one : (pid n : ℕ) (bs : List ℕ) (qs : List (List ℕ)) → IsPacked pid bs n qs → CarriesUnits qs (bs ∷ [])
carry_one pid n bs qs p = (qs, [], sym (append-nil qs), carries_one qs bs p.starts p.joined, refl)

-- originals that begin no unit make the last one longer
grown : (sw : List ℕ) (pid : ℕ) (qs past : List (List ℕ)) (u : TimedUnit) (us : List TimedUnit) → AllOriginal pid past qs → GoOn qs → units_back sw pid past ≡ u ∷ us
    → units_back sw pid (onto past qs) ≡ record { time = u.time; random_access = u.random_access; payload = u.payload ++ flat_map bytes qs } ∷ us
grown sw pid [] past u us a g e = e ∙ ap (λ l. record { time = u.time; random_access = u.random_access; payload = l } ∷ us) (sym (append-nil u.payload))
grown sw pid (q ∷ qs) past u us a g e =
    let o : original pid q past ≡ true = a.0 in
    let s : unit_start q ≡ false = g.0 in
    let f : units_back sw pid (q ∷ past) ≡ record { time = u.time; random_access = u.random_access; payload = u.payload ++ bytes q } ∷ us = simp (o, s, e) in
    grown sw pid qs (q ∷ past) (record { time = u.time; random_access = u.random_access; payload = u.payload ++ bytes q }) us a.1 g.1 f
    ∙ ap (λ l. record { time = u.time; random_access = u.random_access; payload = l } ∷ us) (append_assoc u.payload (bytes q) (flat_map bytes qs))

-- and one that begins a unit is a new last one
begun : (sw : List ℕ) (pid : ℕ) (q : List ℕ) (past : List (List ℕ)) → original pid q past ≡ true → unit_start q ≡ true
    → units_back sw pid (q ∷ past) ≡ record { time = unit_time sw pid (q ∷ past); random_access = random_access q; payload = bytes q } ∷ units_back sw pid past
begun sw pid q past o s = simp (o, s)

numbered : (n : ℕ) (q : List ℕ) (o : Option (List ℕ)) → number q ≡ n → IsNext q o → Numbered (n + 15) o
numbered n q None e h = tt
numbered n q (Some p) e h = let b = number-below p in omega (arith, b, e, h)

next_of : (n : ℕ) (q : List ℕ) → number q ≡ n → ((n + 15) + 1) % 16 ≡ n
next_of n q e = let b = number-below q in omega (arith, b, e)

payloads-reverse : (u : TimedUnit) (us : List TimedUnit) → payloads (reverse (u ∷ us)) ≡ payloads (reverse us) ++ u.payload ∷ []
payloads-reverse u us = ap (map (λ (v : TimedUnit). v.payload)) (reverse-cons u us) ∙ map-append (λ (v : TimedUnit). v.payload) (reverse us) (u ∷ [])

pub read_back : PackedReadBack
read_back before sw pid n bs ps first rest p g =
    let O = reverse ps in
    let k = n + 15 in
    let m : (k + 1) % 16 ≡ n = next_of n first p.counted.0 in
    let c = rw (← m) at p.counted in
    let near = numbered n first (nearest before pid O) p.counted.0 g.next in
    let last = rw (nearest_is_last before pid O) at near in
    let gap = put_gapless pid before (first ∷ rest) k O p.on_pid c last (gapless_glue before pid [] ps tt g.gapless) in
    let all = put_originals pid before (first ∷ rest) k O p.on_pid c last in
    let e : onto [] (ps ++ first ∷ rest) ≡ onto O (first ∷ rest) = onto-append [] ps (first ∷ rest) in
    let t : TimedUnit = record { time = unit_time sw pid (first ∷ O); random_access = random_access first; payload = bytes first } in
    let u = grown sw pid rest (first ∷ O) t (units_back sw pid O) all.1 p.starts.1 (begun sw pid first O all.0 p.starts.0) in
    let w : TimedUnit = record { time = t.time; random_access = t.random_access; payload = bytes first ++ flat_map bytes rest } in (
      (gapless_back before pid [] (ps ++ first ∷ rest) (rw e gap)).1,
      ap payloads (units_in_order sw pid (ps ++ first ∷ rest) ∙ ap (λ l. reverse (units_back sw pid l)) e ∙ ap reverse u)
          ∙ payloads-reverse w (units_back sw pid O)
          ∙ ap (λ l. payloads l ++ w.payload ∷ []) (sym (units_in_order sw pid ps))
          ∙ ap (λ l. payloads (units sw pid ps) ++ l ∷ []) p.joined,
    )
