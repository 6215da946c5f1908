-- Packets of one unit behind others: their counters, and those that come after them.
use Rattle.std.specs.Prelude.{flat_map}
use Rattle.std.proofs.Common.{◌≡◌, ℕ, ◌+◌, ◌%◌, List, [], ◌∷◌, true, false, refl, sym, ◌∙◌, Option, None, Some, arith, length, inr}
use Rattle.ts_packet.specs.declared.follower.Last.{Last}
use Rattle.ts_packet.specs.Fields.{number, payload_on, alike, bytes}
use Rattle.ts_packet.specs.Duplicates.{repeats, repeats_last, last_of, original, IsNext, InStep, Gapless}
use Rattle.ts_packet.proofs.Cases.{by_test}
use Rattle.ts_packet.proofs.FieldLemmas.{alike-number}
use Rattle.ts_packet.proofs.HistoryLemmas.{walk_is_last}
use Rattle.ts_packet.proofs.RunLemmas.{onto, packet_or, nearest_is_last}
use Rattle.unit_stream.specs.UnitPackets.{AllOn, GoOn, BeginsAlone, CountsFrom}
use Rattle.unit_stream.specs.Carrying.{IsUnit, Joins}

-- the counter of a packet, where there is one
abbrev pub Numbered : ℕ → Option (List ℕ) → Type 0
Numbered k None = Unit {0}
Numbered k (Some q) = number q ≡ k % 16

not_again : (q : List ℕ) (k : ℕ) (b : Option (List ℕ)) (ol : Option Last) → number q ≡ (k + 1) % 16 → Numbered k (packet_or b ol) → repeats_last q ol ≡ false
not_again q k b None e h = refl
not_again q k b (Some m) e h =
    by_test (alike m.packet q)
    (λ a. let c = alike-number _ _ a in absurd (omega (arith, c, e, h)))
    (λ a. rw a)

is_next : (q : List ℕ) (k : ℕ) (o : Option (List ℕ)) → number q ≡ (k + 1) % 16 → Numbered k o → IsNext q o
is_next q k None e h = tt
is_next q k (Some m) e h = omega (arith, e, h)

counts_on : (k : ℕ) (qs : List (List ℕ)) → CountsFrom (((k + 1) % 16 + 1) % 16) qs → CountsFrom (((k + 1) + 1) % 16) qs
counts_on k qs h = let e : ((k + 1) % 16 + 1) % 16 ≡ ((k + 1) + 1) % 16 = omega arith in rw e at h

-- each of these packets is an original, behind the ones before it
abbrev pub AllOriginal : ℕ → List (List ℕ) → List (List ℕ) → Type 0
AllOriginal pid past [] = Unit {0}
AllOriginal pid past (q ∷ qs) = (original pid q past ≡ true) × AllOriginal pid (q ∷ past) qs

-- the last payload packet has this counter
abbrev pub Ends : ℕ → Option Last → Type 0
Ends k None = ⊥
Ends k (Some m) = number m.packet ≡ k % 16

module _ (pid : ℕ) (b : Option (List ℕ)) where
  new_put : (q : List ℕ) (k : ℕ) (O : List (List ℕ)) → number q ≡ (k + 1) % 16 → Numbered k (packet_or b (last_of pid O)) → repeats pid q O ≡ false
  new_put q k O e h = walk_is_last pid q O ∙ not_again q k b (last_of pid O) e h

  step_put : (q : List ℕ) (k : ℕ) (O : List (List ℕ)) → payload_on pid q ≡ true → number q ≡ (k + 1) % 16 → Numbered k (packet_or b (last_of pid O)) → InStep b pid q O
  step_put q k O y e h = record {
    next = λ o. rw (nearest_is_last b pid O) (is_next q k (packet_or b (last_of pid O)) e h);
    same = λ o n. let f : true ≡ false = sym y ∙ n in cc;
  }

  then : (q : List ℕ) (k : ℕ) (O : List (List ℕ)) → payload_on pid q ≡ true → number q ≡ (k + 1) % 16 → Numbered (k + 1) (packet_or b (last_of pid (q ∷ O)))
  then q k O y e = simp y e

  pub put_gapless : (qs : List (List ℕ)) (k : ℕ) (O : List (List ℕ)) → AllOn pid qs → CountsFrom ((k + 1) % 16) qs → Numbered k (packet_or b (last_of pid O)) → Gapless b pid O → Gapless b pid (onto O qs)
  put_gapless [] k O a c h g = g
  put_gapless (q ∷ qs) k O a c h g = put_gapless qs (k + 1) (q ∷ O) a.1 (counts_on k qs c.1) (then q k O a.0 c.0) (step_put q k O a.0 c.0 h, g)

  pub put_originals : (qs : List (List ℕ)) (k : ℕ) (O : List (List ℕ)) → AllOn pid qs → CountsFrom ((k + 1) % 16) qs → Numbered k (packet_or b (last_of pid O)) → AllOriginal pid O qs
  put_originals [] k O a c h = tt
  put_originals (q ∷ qs) k O a c h =
      let y : payload_on pid q ≡ true = a.0 in
      let r = new_put q k O c.0 h in
      (simp (y, r), put_originals qs (k + 1) (q ∷ O) a.1 (counts_on k qs c.1) (then q k O a.0 c.0))

pub put_ends : (pid : ℕ) (q : List ℕ) (qs : List (List ℕ)) (k : ℕ) (O : List (List ℕ)) → AllOn pid (q ∷ qs) → CountsFrom ((k + 1) % 16) (q ∷ qs) → Ends (k + length (q ∷ qs)) (last_of pid (onto O (q ∷ qs)))
put_ends pid q [] k O a c = let y : payload_on pid q ≡ true = a.0 in simp y c.0
put_ends pid q (q' ∷ qs) k O a c =
    let i = put_ends pid q' qs (k + 1) (q ∷ O) a.1 (counts_on k (q' ∷ qs) c.1) in
    let e : (k + 1) + length (q' ∷ qs) ≡ k + length (q ∷ q' ∷ qs) = omega arith in rw e at i

-- ---- what they carry

-- packets without start bits join to their bytes
put_joins : (p : List ℕ) (qs : List (List ℕ)) → GoOn qs → Joins (Some p) qs (flat_map bytes qs)
put_joins p [] g = refl
put_joins p (q ∷ qs) g = inr (g.0, (flat_map bytes qs, refl, put_joins q qs g.1))

pub carries_one : (qs : List (List ℕ)) (bs : List ℕ) → BeginsAlone qs → flat_map bytes qs ≡ bs → IsUnit qs bs
carries_one [] bs s j = absurd s
carries_one (q ∷ qs) bs s j = (s.0, (flat_map bytes qs, sym j, put_joins q qs s.1))
