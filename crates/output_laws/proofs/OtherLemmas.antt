-- Packets of other PIDs pass as they are.
use Rattle.std.specs.Prelude.{All, ◌==◌, ◌||◌, filter, if◌then◌else◌}
use Rattle.std.proofs.Common.{◌≡◌, ℕ, ◌%◌, ◌+◌, ◌<◌, List, [], ◌∷◌, ◌++◌, Bool, true, false, not, refl, sym, ap, ◌∙◌, Option, None, Some, length}
use Rattle.std.proofs.lemmas.List.Elements.{All-head, All-tail}
use Rattle.std.proofs.lemmas.Bool.{eqb-true}
use Rattle.ts_packet.specs.Fields.{in_error, pid_of, on, number, pcr, payload_on, renumbered, is_among}
use Rattle.ts_packet.specs.Clock.{clock_packet}
use Rattle.ts_packet.specs.Numbering.{moved, number_out, last_number, one_past}
use Rattle.ts_packet.proofs.Cases.{by_test}
use Rattle.ts_packet.proofs.FieldLemmas.{error-with, pid-with, payload_on-on, pid_is}
use Rattle.ts_packet.proofs.Renumbered.{renumbered-zero}
use Rattle.unit_stream.specs.UnitPackets.{AllOn}
use Rattle.ts_packet.proofs.ClockLemmas.{error-clock, pid-clock}
use Rattle.output_laws.specs.Output.{Move, Keep, Leave, Put, network, Packing, counter_steps, kept_packet, clock_alone, out_after, Sound, AlongMoves}
use Rattle.output_laws.specs.Others.{is_off, ChangesOnly, OthersPass}
use Rattle.output_laws.proofs.StepLemmas.{onto_moves, along_past, error_is}
use Rattle.output_laws.proofs.GaplessLemmas.{one_below}

off-renumbered : (pids : List ℕ) (n : ℕ) (p : List ℕ) → is_off pids (renumbered n p) ≡ is_off pids p
unfolding renumbered
off-renumbered pids n p = rw (error-with ((number p + n) % 16) p, pid-with ((number p + n) % 16) p) refl

off_none : (e a : Bool) → e || not a ≡ false → (e ≡ false) × (a ≡ true)
off_none true a h = cc
off_none false true h = (refl, refl)
off_none false false h = cc

off_some : (e a : Bool) → e ≡ false → e || not a ≡ true → a ≡ false
off_some true a e h = cc
off_some false true e h = cc
off_some false false e h = refl

on_off : (e a : Bool) → e ≡ false → a ≡ true → e || not a ≡ false
on_off true a f h = cc
on_off false true f h = refl
on_off false false f h = cc

module _ (packed : Packing) (pids : List ℕ) where
  -- a packet of one of the PIDs
  pub off_on : (q : ℕ) (p : List ℕ) → is_among q pids ≡ true → on q p ≡ true → is_off pids p ≡ false
  off_on q p a o = on_off (in_error p) (is_among (pid_of p) pids) (error_is q p o) (ap (λ n. is_among n pids) (pid_is q p o) ∙ a)

  unmoved : (pid : ℕ) (past : List Move) → is_among pid pids ≡ false → AlongMoves (ChangesOnly pids) past → moved (counter_steps packed pid past) ≡ 0
  unmoved pid [] a w = refl
  unmoved pid (Keep p ∷ past) a w = by_test (on pid p) (λ o. simp o (unmoved pid past a w.1)) (λ o. simp o (unmoved pid past a w.1))
  unmoved pid (Leave p ∷ past) a w =
      by_test (payload_on pid p)
      (λ y.
      let o = payload_on-on pid p y in
      let f : is_among pid pids ≡ true = ap (λ n. is_among n pids) (sym (pid_is pid p o)) ∙ (off_none (in_error p) (is_among (pid_of p) pids) w.0).1 in
      let g : true ≡ false = sym f ∙ a in cc)
      (λ y. simp y (unmoved pid past a w.1))
  unmoved pid (Put q u ∷ past) a w =
      by_test (q == pid)
      (λ e. let g : true ≡ false = sym w.0 ∙ ap (λ n. is_among n pids) (eqb-true q pid e) ∙ a in cc)
      (λ e. simp e (unmoved pid past a w.1))

  pub off-kept : (p : List ℕ) (past : List Move) → is_off pids (kept_packet packed p past) ≡ is_off pids p
  off-kept p past = by_kept (in_error p) where
    by_kept : (b : Bool) → is_off pids (if b then p else renumbered (moved (counter_steps packed (pid_of p) past)) p) ≡ is_off pids p
    by_kept true = refl
    by_kept false = off-renumbered pids (moved (counter_steps packed (pid_of p) past)) p

  kept-off : (p : List ℕ) (past : List Move) → length p ≡ 188 → AlongMoves (ChangesOnly pids) past → is_off pids p ≡ true → kept_packet packed p past ≡ p
  kept-off p past l w f =
      by_test (in_error p)
      (λ e. simp e)
      (λ e.
      let a = off_some (in_error p) (is_among (pid_of p) pids) e f in
      let z = unmoved (pid_of p) past a w in
      simp e (ap (λ n. renumbered n p) z ∙ renumbered-zero p l))

  pub skip_on : (q : ℕ) (qs tail : List (List ℕ)) → is_among q pids ≡ true → AllOn q qs → filter (is_off pids) (qs ++ tail) ≡ filter (is_off pids) tail
  skip_on q [] tail a h = refl
  skip_on q (p ∷ qs) tail a h = skip (is_off pids p) (off_on q p a (payload_on-on q p h.0)) ∙ skip_on q qs tail a h.1 where
    skip : (b : Bool) → b ≡ false → (if b then p ∷ filter (is_off pids) (qs ++ tail) else filter (is_off pids) (qs ++ tail)) ≡ filter (is_off pids) (qs ++ tail)
    skip true e = cc
    skip false e = refl

  pub skip_clock : (k n : ℕ) (o : Option (List ℕ)) (tail : List (List ℕ)) → k < 8192 → is_among k pids ≡ true → filter (is_off pids) (clock_alone k n o ++ tail) ≡ filter (is_off pids) tail
  skip_clock k n None tail l a = refl
  skip_clock k n (Some c) tail l a =
      skip (is_off pids (clock_packet k n c)) (on_off (in_error (clock_packet k n c)) _ (error-clock k n c l) (ap (λ m. is_among m pids) (pid-clock k n c l) ∙ a)) where
        skip : (b : Bool) → b ≡ false → (if b then clock_packet k n c ∷ filter (is_off pids) tail else filter (is_off pids) tail) ≡ filter (is_off pids) tail
        skip true e = cc
        skip false e = refl

  one_kept : (q p : List ℕ) (a b : List (List ℕ)) → is_off pids q ≡ is_off pids p → (is_off pids p ≡ true → q ≡ p) → a ≡ b → (if is_off pids q then q ∷ a else a) ≡ (if is_off pids p then p ∷ b else b)
  one_kept q p a b e f h = ap (λ t. if t then q ∷ a else a) e ∙ both (is_off pids p) f where
    both : (t : Bool) → (t ≡ true → q ≡ p) → (if t then q ∷ a else a) ≡ (if t then p ∷ b else b)
    both true f = let g = f refl in rw (g, h) refl
    both false f = h

  others_after : (past ss : List Move) → AlongMoves (λ (s : Move) (before : List Move). Sound packed s) (onto_moves past ss) → AlongMoves (ChangesOnly pids) (onto_moves past ss) →
      All (λ (p : List ℕ). length p ≡ 188) (network ss) → filter (is_off pids) (out_after packed past ss) ≡ filter (is_off pids) (network ss)
  others_after past [] s w l = refl
  others_after past (Keep p ∷ ss) s w l =
      let f = λ (p : List ℕ). length p ≡ 188 in
      let v = along_past (ChangesOnly pids) (Keep p ∷ past) ss w in
      one_kept (kept_packet packed p past) p (filter (is_off pids) (out_after packed (Keep p ∷ past) ss)) (filter (is_off pids) (network ss)) (off-kept p past)
      (kept-off p past (All-head f p (network ss) l) v.1)
      (others_after (Keep p ∷ past) ss s w (All-tail f p (network ss) l))
  others_after past (Leave p ∷ ss) s w l =
      let f = λ (p : List ℕ). length p ≡ 188 in
      let v = along_past (ChangesOnly pids) (Leave p ∷ past) ss w in
      let u = along_past (λ (s : Move) (before : List Move). Sound packed s) (Leave p ∷ past) ss s in
      skip_clock (pid_of p) (number_out p (counter_steps packed (pid_of p) (Leave p ∷ past))) (pcr p) (out_after packed (Leave p ∷ past) ss) u.0 (off_none (in_error p) (is_among (pid_of p) pids) v.0).1
      ∙ others_after (Leave p ∷ past) ss s w (All-tail f p (network ss) l)
      ∙ skip (is_off pids p) v.0 where
        skip : (b : Bool) → b ≡ false → filter (is_off pids) (network ss) ≡ (if b then p ∷ filter (is_off pids) (network ss) else filter (is_off pids) (network ss))
        skip true e = cc
        skip false e = refl
  others_after past (Put q u ∷ ss) s w l =
      let v = along_past (ChangesOnly pids) (Put q u ∷ past) ss w in
      let t = along_past (λ (s : Move) (before : List Move). Sound packed s) (Put q u ∷ past) ss s in
      let m = one_past (last_number (counter_steps packed q past)) in
      skip_on q (packed q u m) (out_after packed (Put q u ∷ past) ss) v.0 (t.0 m (one_below (last_number (counter_steps packed q past)))).on_pid
      ∙ others_after (Put q u ∷ past) ss s w l

pub others_pass : OthersPass
others_pass packed pids moves s w l = others_after packed pids [] moves s w l
