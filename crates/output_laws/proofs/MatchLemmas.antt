-- The last payload packets of a PID on the network and in the output: how one more packet moves them. Over plain variables.
use Rattle.std.proofs.Common.{◌≡◌, ℕ, ◌+◌, ◌%◌, List, Bool, true, false, refl, sym, Option, None, Some, arith}
use Rattle.ts_packet.specs.declared.follower.Last.{Last}
use Rattle.ts_packet.specs.Fields.{number, alike, renumbered}
use Rattle.ts_packet.specs.Duplicates.{repeats_last, IsNext, IsSame}
use Rattle.ts_packet.proofs.Cases.{by_test}
use Rattle.ts_packet.proofs.FieldLemmas.{number-below, number-renumbered, alike-number, alike-renumbered}
use Rattle.ts_packet.proofs.RunLemmas.{packet_or}
use Rattle.unit_cut.proofs.CutLemmas.{and_left}
use Rattle.output_laws.specs.Output.{Place, Keeping, Leaving}

-- a counter is the other's, moved up by n, where both are there
abbrev pub IsMoved : ℕ → Option (List ℕ) → Option (List ℕ) → Type 0
IsMoved n None q = Unit {0}
IsMoved n (Some p) None = Unit {0}
IsMoved n (Some p) (Some q) = number q ≡ (number p + n) % 16

-- the last payload packets of the network and of the output, behind the last one of a head
abbrev pub Matched : Option (List ℕ) → ℕ → Place → Option Last → Option Last → Type 0
Matched b n st None None = n ≡ 0
Matched b n st None (Some m) = ⊥
Matched b n st (Some l) None = (st ≡ Keeping → ⊥) × IsMoved n (Some l.packet) b
Matched b n st (Some l) (Some m) = (number m.packet ≡ (number l.packet + n) % 16) × (st ≡ Keeping → (m.packet ≡ renumbered n l.packet) × (m.is_repeat ≡ l.is_repeat))

module _ (b : Option (List ℕ)) (n : ℕ) (st : Place) (p : List ℕ) where
  pub repeats_kept : (ol om : Option Last) → Matched b n st ol om → st ≡ Keeping → repeats_last p ol ≡ true → repeats_last (renumbered n p) om ≡ true
  repeats_kept None om h k r = cc
  repeats_kept (Some l) None h k r = absurd (h.0 k)
  repeats_kept (Some l) (Some m) h k r = let (e, d) = h.1 k in rw (e, d, alike-renumbered) r

  pub next_kept : (ol om : Option Last) → Matched b n st ol om → IsNext p (packet_or b ol) → repeats_last (renumbered n p) om ≡ false
  next_kept None None h k = refl
  next_kept None (Some m) h k = absurd h
  next_kept (Some l) None h k = refl
  next_kept (Some l) (Some m) h k =
      by_test (alike m.packet (renumbered n p))
      (λ a. let b = alike-number _ _ a in let c = number-renumbered n p in absurd (omega (arith, h.0, b, c, k, number-below l.packet)))
      (λ a. rw a)

module _ (n : ℕ) (st : Place) (p : List ℕ) where
  pub next_moved : (b : Option (List ℕ)) (ol om : Option Last) → Matched b n st ol om → IsNext p (packet_or b ol) → IsNext (renumbered n p) (packet_or b om)
  next_moved None None None h k = tt
  next_moved (Some q) None None h k = let c = number-renumbered n p in omega (arith, h, k, c, number-below q)
  next_moved b None (Some m) h k = absurd h
  next_moved None (Some l) None h k = tt
  next_moved (Some q) (Some l) None h k = let c = number-renumbered n p in omega (arith, h.1, k, c)
  next_moved b (Some l) (Some m) h k = let c = number-renumbered n p in omega (arith, h.0, k, c)

  -- a packet with a packet's counter, moved up
  pub same_moved : (b : Option (List ℕ)) (q : List ℕ) (ol om : Option Last) → Matched b n st ol om → number q ≡ (number p + n) % 16 → IsSame p (packet_or b ol) → IsSame q (packet_or b om)
  same_moved None q None None h c k = tt
  same_moved (Some o) q None None h c k = omega (arith, h, k, c, number-below o)
  same_moved b q None (Some m) h c k = absurd h
  same_moved None q (Some l) None h c k = tt
  same_moved (Some o) q (Some l) None h c k = omega (arith, h.1, k, c)
  same_moved b q (Some l) (Some m) h c k = omega (arith, h.0, k, c)

  -- the same of an original that is left out: it counts itself
  pub left_moved : (b : Option (List ℕ)) (q : List ℕ) (ol om : Option Last) → Matched b n st ol om → number q ≡ (number p + (n + 15)) % 16 → IsNext p (packet_or b ol) → IsSame q (packet_or b om)
  left_moved None q None None h c k = tt
  left_moved (Some o) q None None h c k = omega (arith, h, k, c, number-below o)
  left_moved b q None (Some m) h c k = absurd h
  left_moved None q (Some l) None h c k = tt
  left_moved (Some o) q (Some l) None h c k = omega (arith, h.1, k, c)
  left_moved b q (Some l) (Some m) h c k = omega (arith, h.0, k, c)

  leaving : {P : Type 0} → Leaving ≡ Keeping → P
  leaving e = cc

  -- one that is left out
  pub next_left : (b : Option (List ℕ)) (r : Bool) (ol om : Option Last) → Matched b n st ol om → IsNext p (packet_or b ol) → Matched b (n + 15) Leaving (Some (record { packet = p; is_repeat = r })) om
  next_left None r None None h k = (leaving, tt)
  next_left (Some q) r None None h k = (leaving, omega (arith, h, k, number-below q))
  next_left b r None (Some m) h k = absurd h
  next_left None r (Some l) None h k = (leaving, tt)
  next_left (Some q) r (Some l) None h k = (leaving, omega (arith, h.1, k))
  next_left b r (Some l) (Some m) h k = (omega (arith, h.0, k), leaving)

  pub repeat_left : (b : Option (List ℕ)) (r : Bool) (ol om : Option Last) → Matched b n st ol om → repeats_last p ol ≡ true → Matched b n Leaving (Some (record { packet = p; is_repeat = r })) om
  repeat_left b r None om h k = cc
  repeat_left None r (Some l) None h k = (leaving, tt)
  repeat_left (Some q) r (Some l) None h k = let a = alike-number l.packet p (and_left _ _ k) in (leaving, rw (← a) h.1)
  repeat_left b r (Some l) (Some m) h k = let a = alike-number l.packet p (and_left _ _ k) in (rw (← a) h.0, leaving)

pub repeats_same : (p : List ℕ) (b : Option (List ℕ)) (ol : Option Last) → repeats_last p ol ≡ true → IsSame p (packet_or b ol)
repeats_same p b None h = cc
repeats_same p b (Some l) h = sym (alike-number l.packet p (and_left _ _ h))
