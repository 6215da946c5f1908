-- The cut by one number: how many payload packets went. The steps of the counter come to that.
use Rattle.std.specs.Prelude.{ℤ, filter, cond}
use Rattle.std.proofs.Common.{◌≡◌, ℕ, ◌+◌, ◌*◌, ◌%◌, List, [], ◌∷◌, Bool, true, false, not, ◌&&◌, refl, ap, ◌∙◌, if◌then◌else◌, Option, map, arith}
use Rattle.std.proofs.lemmas.List.Sums.{sum_by-cons}
use Rattle.ts_packet.specs.Fields.{on, number, renumbered, with_number}
use Rattle.ts_packet.specs.Duplicates.{original}
use Rattle.ts_packet.specs.Numbering.{Step, Kept, Dropped, moved, number_out, is_inserted, is_dropped}
use Rattle.ts_packet.specs.Runs.{Seen, seen_after}
use Rattle.unit_stream.specs.Fates.{is_cut, steps, numbered}
use Rattle.unit_cut.specs.Cutting.{cut}

module _ (goes : Option ℤ → Bool) (sw : List ℕ) (pid : ℕ) where
  -- how many payload packets went, duplicates not counted
  abbrev pub gone : List (List ℕ) → ℕ
  gone [] = 0
  gone (p ∷ past) = if is_cut goes sw pid p past && original pid p past then gone past + 1 else gone past

  abbrev pub kept_as : List ℕ → List (List ℕ) → List ℕ
  kept_as p past = if on pid p then renumbered (15 * gone past) p else p

  abbrev pub counted_cut : List (List ℕ) → List (List ℕ)
  counted_cut ps = map (λ (s : Seen). kept_as s.packet s.past) (filter (λ (s : Seen). not (is_cut goes sw pid s.packet s.past)) (seen_after [] ps))

  -- the same, one packet at a time, newest first
  abbrev pub cut_back : List (List ℕ) → List (List ℕ)
  cut_back [] = []
  cut_back (p ∷ past) = if is_cut goes sw pid p past then cut_back past else kept_as p past ∷ cut_back past

-- ---- the steps

pub moved-kept : (p : List ℕ) (es : List Step) → moved (Kept p ∷ es) ≡ moved es
moved-kept p es =
    let a = sum_by-cons (λ e. cond (is_inserted e) 1 0) (Kept p) es in
    let b = sum_by-cons (λ e. cond (is_dropped e) 1 0) (Kept p) es in
    omega (arith, a, b)

pub moved-dropped : (p : List ℕ) (es : List Step) → moved (Dropped p ∷ es) ≡ moved es + 15
moved-dropped p es =
    let a = sum_by-cons (λ e. cond (is_inserted e) 1 0) (Dropped p) es in
    let b = sum_by-cons (λ e. cond (is_dropped e) 1 0) (Dropped p) es in
    omega (arith, a, b)

one_more : (m n : ℕ) → m ≡ 15 * n → m + 15 ≡ 15 * (n + 1)
one_more m n h = omega arith

-- by the three tests on a packet
moved_by : (o c n : Bool) (p : List ℕ) (es : List Step) (g : ℕ) → moved es ≡ 15 * g
    → moved (if c then (if n then Dropped p ∷ es else es) else (if o then Kept p ∷ es else es)) ≡ 15 * (if c && n then g + 1 else g)
moved_by o true true p es g h = moved-dropped p es ∙ one_more _ _ h
moved_by o true false p es g h = h
moved_by true false n p es g h = moved-kept p es ∙ h
moved_by false false n p es g h = h

renumbered_is : (n m : ℕ) (p : List ℕ) → n ≡ m → with_number ((number p + n) % 16) p ≡ renumbered m p
unfolding renumbered
renumbered_is n m p h = rw h refl

-- a packet with the number that the counter gives it
pub numbered_is : (pid : ℕ) (p : List ℕ) (es : List Step) → on pid p ≡ true → with_number (number_out p es) p ≡ numbered pid p es
numbered_is pid p es o = simp o (renumbered_is (moved es) (moved es) p refl)

same_each : (f g : Seen → List ℕ) → ((s : Seen) → f s ≡ g s) → (ss : List Seen) → map f ss ≡ map g ss
same_each f g h [] = refl
same_each f g h (s ∷ ss) = ap (λ q. q ∷ map f ss) (h s) ∙ ap (λ l. g s ∷ l) (same_each f g h ss)

module _ (goes : Option ℤ → Bool) (sw : List ℕ) (pid : ℕ) where
  pub moved_is : (past : List (List ℕ)) → moved (steps goes sw pid past) ≡ 15 * gone goes sw pid past
  moved_is [] = refl
  moved_is (p ∷ past) = moved_by (on pid p) (is_cut goes sw pid p past) (original pid p past) p (steps goes sw pid past) (gone goes sw pid past) (moved_is past)

  pub kept_is : (p : List ℕ) (past : List (List ℕ)) → numbered pid p (steps goes sw pid past) ≡ kept_as goes sw pid p past
  kept_is p past = ap (λ n. if on pid p then renumbered n p else p) (moved_is past)

  pub cut_is : (ps : List (List ℕ)) → cut goes sw pid ps ≡ counted_cut goes sw pid ps
  cut_is ps = same_each (λ (s : Seen). numbered pid s.packet (steps goes sw pid s.past)) (λ (s : Seen). kept_as goes sw pid s.packet s.past)
      (λ (s : Seen). kept_is s.packet s.past) (filter (λ (s : Seen). not (is_cut goes sw pid s.packet s.past)) (seen_after [] ps))
