-- The nearest payload packet of a gapless run, and of what the cut leaves of it.
use Rattle.std.specs.Prelude.{ℤ}
use Rattle.std.proofs.Common.{◌≡◌, ℕ, ◌+◌, ◌*◌, ◌%◌, List, [], ◌∷◌, Bool, true, false, ◌&&◌, refl, sym, ◌∙◌, Option, None, Some, arith}
use Rattle.ts_packet.specs.declared.follower.Last.{Last}
use Rattle.ts_packet.specs.Fields.{on, payload_on, number, alike, renumbered}
use Rattle.ts_packet.specs.Duplicates.{repeats, repeats_last, last_of, original, Gapless, IsNext, IsSame, nearest}
use Rattle.ts_packet.proofs.Cases.{by_test}
use Rattle.ts_packet.proofs.FieldLemmas.{number-below, number-renumbered, payload_on-renumbered, payload_on-on, alike-number, alike-renumbered}
use Rattle.ts_packet.proofs.HistoryLemmas.{walk_is_last}
use Rattle.ts_packet.proofs.RunLemmas.{packet_or, nearest_is_last}
use Rattle.unit_stream.specs.Times.{unit_time}
use Rattle.unit_cut.proofs.Counted.{gone, kept_as, cut_back}

pub and_left : (a b : Bool) → a && b ≡ true → a ≡ true
and_left true b h = refl
and_left false b h = h

-- a counter is the other's less n, where both are there
abbrev pub IsLower : ℕ → Option (List ℕ) → Option (List ℕ) → Type 0
IsLower n None q = Unit {0}
IsLower n (Some p) None = Unit {0}
IsLower n (Some p) (Some q) = number q ≡ (number p + 15 * n) % 16

-- The last payload packets of a run and of its kept packets, behind the last one of a head: n have gone, and g says whether the unit that runs goes.
abbrev pub Matched : Option (List ℕ) → ℕ → Bool → Option Last → Option Last → Type 0
Matched b n g None None = n ≡ 0
Matched b n g None (Some m) = ⊥
Matched b n g (Some l) None = (g ≡ true) × IsLower n (Some l.packet) b
Matched b n g (Some l) (Some m) = (number m.packet ≡ (number l.packet + 15 * n) % 16) × (g ≡ false → (m.packet ≡ renumbered (15 * n) l.packet) × (m.is_repeat ≡ l.is_repeat))

-- a duplicate in a kept unit is one among the kept
pub repeats_kept : (b : Option (List ℕ)) (n : ℕ) (g : Bool) (p : List ℕ) (ol om : Option Last) → Matched b n g ol om → g ≡ false → repeats_last p ol ≡ true → repeats_last (renumbered (15 * n) p) om ≡ true
repeats_kept b n g p None om h f r = cc
repeats_kept b n g p (Some l) None h f r = let e = h.0 in cc
repeats_kept b n g p (Some l) (Some m) h f r =
    let (e, d) = h.1 f in rw (e, d, alike-renumbered) r

-- an original that is the next is one among the kept
pub next_kept : (b : Option (List ℕ)) (n : ℕ) (g : Bool) (p : List ℕ) (ol om : Option Last) → Matched b n g ol om → IsNext p (packet_or b ol) → repeats_last (renumbered (15 * n) p) om ≡ false
next_kept b n g p None None h k = refl
next_kept b n g p None (Some m) h k = absurd h
next_kept b n g p (Some l) None h k = refl
next_kept b n g p (Some l) (Some m) h k =
    by_test (alike m.packet (renumbered (15 * n) p))
    (λ a. let b = alike-number _ _ a in let c = number-renumbered (15 * n) p in absurd (omega (arith, h.0, b, c, k, number-below l.packet)))
    (λ a. rw a)

-- one that goes leaves the count of the kept in step
next_gone : (b : Option (List ℕ)) (n : ℕ) (g : Bool) (p : List ℕ) (r : Bool) (ol om : Option Last) → Matched b n g ol om → IsNext p (packet_or b ol) → Matched b (n + 1) true (Some (record { packet = p; is_repeat = r })) om
next_gone None n g p r None None h k = (refl, tt)
next_gone (Some q) n g p r None None h k = (refl, omega (arith, h, k, number-below q))
next_gone b n g p r None (Some m) h k = absurd h
next_gone None n g p r (Some l) None h k = (refl, tt)
next_gone (Some q) n g p r (Some l) None h k = (refl, omega (arith, h.1, k))
next_gone b n g p r (Some l) (Some m) h k = (omega (arith, h.0, k), λ (f : true ≡ false). cc)

repeat_gone : (b : Option (List ℕ)) (n : ℕ) (p : List ℕ) (r : Bool) (ol om : Option Last) → Matched b n true ol om → repeats_last p ol ≡ true → Matched b n true (Some (record { packet = p; is_repeat = r })) om
repeat_gone b n p r None om h k = cc
repeat_gone None n p r (Some l) None h k = (refl, tt)
repeat_gone (Some q) n p r (Some l) None h k = let a = alike-number l.packet p (and_left _ _ k) in (refl, rw (← a) h.1)
repeat_gone b n p r (Some l) (Some m) h k =
    let a = alike-number l.packet p (and_left _ _ k) in (rw (← a) h.0, λ (f : true ≡ false). cc)

-- ---- renumbered, it is in step with the kept

pub next_lowered : (b : Option (List ℕ)) (n : ℕ) (g : Bool) (p : List ℕ) (ol om : Option Last) → Matched b n g ol om → IsNext p (packet_or b ol) → IsNext (renumbered (15 * n) p) (packet_or b om)
next_lowered None n g p None None h k = tt
next_lowered (Some q) n g p None None h k = let c = number-renumbered (15 * n) p in omega (arith, h, k, c, number-below q)
next_lowered b n g p None (Some m) h k = absurd h
next_lowered None n g p (Some l) None h k = tt
next_lowered (Some q) n g p (Some l) None h k = let c = number-renumbered (15 * n) p in omega (arith, h.1, k, c)
next_lowered b n g p (Some l) (Some m) h k = let c = number-renumbered (15 * n) p in omega (arith, h.0, k, c)

pub same_lowered : (b : Option (List ℕ)) (n : ℕ) (g : Bool) (p : List ℕ) (ol om : Option Last) → Matched b n g ol om → IsSame p (packet_or b ol) → IsSame (renumbered (15 * n) p) (packet_or b om)
same_lowered None n g p None None h k = tt
same_lowered (Some q) n g p None None h k = let c = number-renumbered (15 * n) p in omega (arith, h, k, c, number-below q)
same_lowered b n g p None (Some m) h k = absurd h
same_lowered None n g p (Some l) None h k = tt
same_lowered (Some q) n g p (Some l) None h k = let c = number-renumbered (15 * n) p in omega (arith, h.1, k, c)
same_lowered b n g p (Some l) (Some m) h k = let c = number-renumbered (15 * n) p in omega (arith, h.0, k, c)

module _ (goes : Option ℤ → Bool) (sw : List ℕ) (pid : ℕ) where
  pub payload_on-kept : (p : List ℕ) (past : List (List ℕ)) → payload_on pid (kept_as goes sw pid p past) ≡ payload_on pid p
  payload_on-kept p past = by_test (on pid p) (λ o. simp (o, payload_on-renumbered)) (λ o. simp o)

module _ (b : Option (List ℕ)) (goes : Option ℤ → Bool) (sw : List ℕ) (pid : ℕ) where
  abbrev pub Here : List (List ℕ) → Type 0
  Here past = Matched b (gone goes sw pid past) (goes (unit_time sw pid past)) (last_of pid past) (last_of pid (cut_back goes sw pid past))

  -- an original of a gapless run is the next after the last
  pub next_of : (p : List ℕ) (past : List (List ℕ)) → IsNext p (nearest b pid past) → IsNext p (packet_or b (last_of pid past))
  next_of p past h = rw (← nearest_is_last b pid past) h

  matched_more : (p : List ℕ) (past : List (List ℕ)) → Gapless b pid (p ∷ past) → Here past → Here (p ∷ past)
  matched_more p past k h =
      by_test (payload_on pid p)
      (λ y. by_test (repeats pid p past)
      (λ r.
      let again = sym (walk_is_last pid p past) ∙ r in
      by_test (goes (unit_time sw pid past))
      (λ g. let m = simp g at h in simp (y, r, g) (repeat_gone b _ p true _ _ m again))
      (λ g.
      let o = payload_on-on pid p y in
      let kept = walk_is_last pid (renumbered (15 * gone goes sw pid past) p) (cut_back goes sw pid past) ∙ repeats_kept b _ _ p _ _ h g again in
      simp (y, r, g, o, payload_on-renumbered) (number-renumbered _ p, λ _. (refl, kept))))
      (λ r.
      let new : original pid p past ≡ true = simp (y, r) in
      let next = next_of p past (k.0.next new) in
      by_test (goes (unit_time sw pid (p ∷ past)))
      (λ g. let f = simp (y, r) at g in simp (y, r, f) (next_gone b _ _ p false _ _ h next))
      (λ g.
      let f = simp (y, r) at g in
      let o = payload_on-on pid p y in
      let kept = walk_is_last pid (renumbered (15 * gone goes sw pid past) p) (cut_back goes sw pid past) ∙ next_kept b _ _ p _ _ h next in
      simp (y, r, f, o, payload_on-renumbered) (number-renumbered _ p, λ _. (refl, kept)))))
      (λ y. simp (y, payload_on-kept) h)

  pub matched : (past : List (List ℕ)) → Gapless b pid past → Here past
  matched [] k = refl
  matched (p ∷ past) k = matched_more p past k (matched past k.1)
