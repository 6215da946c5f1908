-- Breaks that a table does not hold.
use Rattle.std.specs.Prelude.{ℤ, ◌<ℤ◌, All, length, if◌then◌else◌}
use Rattle.std.proofs.Common.{◌≡◌, ℕ, suc, List, [], ◌∷◌, Bool, true, false, not, ◌&&◌, ◌||◌, refl, sym, ap, ◌∙◌, Option, None, Some, arith}
use Rattle.std.proofs.lemmas.Int.{ints}
use Rattle.std.proofs.lemmas.List.Elements.{All-head, All-tail}
use Rattle.ts_packet.proofs.Cases.{by_test}
use Rattle.splice_laws.specs.Splicing.{PlayedEvent, SliceUnit, TimedStream, holds, break_stands, comes, opens, begun, closed, front, at_or_past}
use Rattle.splice_laws.specs.Laws.{Risen, IsStream}
use Rattle.splice_laws.specs.Settled.{IsAhead, NeverPassesHigh, NothingEarly, NothingLate, NearIsPastForgotten}
use Rattle.splice_laws.proofs.TimeLemmas.{stands-later}
use Rattle.splice_laws.proofs.HistoryLemmas.{closed-begun}
use Rattle.splice_laws.proofs.SettledLemmas.{early, early-out}

pub ahead-before : (h h' : Option ℤ) (edge : ℤ) → Risen h h' → IsAhead h' edge → IsAhead h edge
ahead-before None h' edge g a = tt
ahead-before (Some h) None edge g a = absurd g
ahead-before (Some h) (Some h') edge g a = grind (arith, ints)

not_begun : (r : TimedStream) → IsStream r → NeverPassesHigh r → (x : PlayedEvent) (past : List (List ℕ)) → IsAhead (r.high past) x.start → begun r x past ≡ false
not_begun r k w x [] a = refl
not_begun r k w x (p ∷ past) a =
    let i = not_begun r k w x past (ahead-before (r.high past) (r.high (p ∷ past)) x.start (k.rises p past) a) in
    let e = early x (r.time (p ∷ past)) (r.high (p ∷ past)) (w (p ∷ past)) a in
    by_test (r.begins p past) (λ s. simp (i, s, e)) (λ s. simp (i, s))

pub nothing_early : NothingEarly
nothing_early r k w x past a = (not_begun r k w x past a, early-out x (r.time past) (early x (r.time past) (r.high past) (w past) a))

-- a unit below the end is due once the event stands no more
due-late : (x : PlayedEvent) (t : ℤ) (h : Option ℤ) → t <ℤ x.stop → break_stands x h ≡ false → at_or_past t h ≡ true
due-late x t None l s = sym s
due-late x t (Some h) l s = grind (arith, ints)

front-late : (x : PlayedEvent) (us : List SliceUnit) (h : Option ℤ) → All (λ (u : SliceUnit). u.time <ℤ x.stop) us → break_stands x h ≡ false → front us h ≡ length us
front-late x [] h n s = refl
front-late x (u ∷ us) h n s =
    let f = λ (u : SliceUnit). u.time <ℤ x.stop in
    let d = due-late x u.time h (All-head f u us n) s in
    simp d (ap suc (front-late x us h (All-tail f u us n) s))

same_count : (c b o z : Bool) (all f f' : ℕ) → f ≡ all → f' ≡ all → o ≡ false → (c ≡ true → b ≡ true) →
    (if c || ((b || o) && z) then all else (if b || o then f' else 0)) ≡ (if c then all else (if b then f else 0))
same_count true b o z all f f' e g n i = refl
same_count false true o true all f f' e g n i = sym e
same_count false true o false all f f' e g n i = g ∙ sym e
same_count false false true z all f f' e g n i = cc
same_count false false false z all f f' e g n i = refl

pub nothing_late : NothingLate
nothing_late r k x units n p past s =
    let s' = stands-later x (r.high past) (r.high (p ∷ past)) (k.rises p past) s in
    same_count (closed r x past) (begun r x past) (opens r x p past) (r.begins p past && not (holds x (r.time (p ∷ past)))) (length units) (front units (r.high past)) (front units (r.high (p ∷ past)))
    (front-late x units (r.high past) n s) (front-late x units (r.high (p ∷ past)) n s') (none (comes r x.start p past) (break_stands x (r.high past)) s) (closed-begun r k x past) where
      none : (a b : Bool) → b ≡ false → a && b ≡ false
      none true b e = e
      none false b e = refl

pub near_is_past_forgotten : NearIsPastForgotten
near_is_past_forgotten x h t n s = grind (arith, ints)
