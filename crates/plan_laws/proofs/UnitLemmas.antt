-- A unit that begins, of each event that is known: its stage in the stream, and whether the unit crosses it.
use Rattle.std.proofs.Common.{◌≡◌, ℕ, List, ◌∷◌, Bool, true, false, not, ◌&&◌, ◌||◌, refl, sym, ap, ◌∙◌, Option, None, Some}
use Rattle.std.specs.Prelude.{ℤ, int_le, int_lt}
use Rattle.std.proofs.lemmas.Bool.{true≢false}
use lib.Signed.{lt_z}
use Rattle.ts_packet.proofs.Cases.{by_test}
use Rattle.event_table.specs.Standing.{Standing, end_of, covers, forgotten_at, stands}
use Rattle.splice_laws.specs.Splicing.{PlayedEvent, TimedStream, at_or_past, below, comes}
use Rattle.splice_laws.specs.Settled.{begun_now, closed_now, stands_now, holds_now}
use Rattle.splice_plans.specs.declared.plan.Stage.{Stage}
use Rattle.splice_plans.specs.declared.plan.Stage.TheVariants.{Waiting, Running, Closing, Over}
use Rattle.splice_plans.specs.Playing.{Adverts, is_played, as_played}
use Rattle.splice_plans.specs.Laws.{EndsFall}
use Rattle.splice_plans.specs.Turning.{turned, crosses}
use Rattle.splice_plans.specs.Parts.{is_closing}
use Rattle.splice_plans.specs.Known.{stage_known, below_known, crosses_known, crossed_known}
use Rattle.plan_laws.proofs.StageLemmas.{le-same, lt-same, stage_by, shut, turned_by, turned-is, step-stage, step-closing, now-closed-begun, none-begun, none-closed}
use Rattle.plan_laws.proofs.ToldLemmas.{end_if}

comes-is : (start t : ℤ) (b : Bool) (o : Option ℤ) → b ≡ true → o ≡ Some t → (b && at_or_past start o) ≡ int_le start t
comes-is start t b o h k = rw (h, k) (le-same start t)

stands-is : (e : Standing) (o h : Option ℤ) → o ≡ Some (end_of e) → stands h e ≡ true → stands_now (as_played e) o h ≡ true
stands-is e o None h s = rw h refl
stands-is e o (Some a) h s = rw h (lt-same a (forgotten_at e) ∙ s)

pub holds-is : (e : Standing) (o : Option ℤ) (t : ℤ) (u : Option ℤ) → o ≡ Some (end_of e) → u ≡ Some t → holds_now (as_played e) o u ≡ (int_le e.start t && int_lt t (end_of e))
holds-is e o t u h k = rw (h, k) (ap (λ b. b && lt_z t (end_of e)) (le-same e.start t) ∙ ap (λ b. int_le e.start t && b) (lt-same t (end_of e)))

pub covers-is : (e : Standing) (t : ℤ) (f : Bool) → (not e.cancelled && f) ≡ true → covers t e ≡ (int_le e.start t && int_lt t (end_of e))
covers-is e t f h = by e.cancelled (int_le e.start t) (int_lt t (end_of e)) h
  where
    by : (c s l : Bool) → (not c && f) ≡ true → (not c && s && l) ≡ (s && l)
    by true s l h = absurd (true≢false (sym h))
    by false s l h = refl

and-true : (a b : Bool) → b ≡ true → (a && b) ≡ a
and-true true b h = h
and-true false b h = refl

or-none : (a b : Bool) → b ≡ false → (a || b) ≡ a
or-none true b h = refl
or-none false b h = h

end-played : (ads : Adverts) (e : Standing) → is_played ads e ≡ true → end_if ads e ≡ Some (end_of e)
end-played ads e h = rw h refl

end-none : (ads : Adverts) (e : Standing) → is_played ads e ≡ false → end_if ads e ≡ None
end-none ads e h = rw h refl

-- ---- a unit with a stamp

module _ (r : TimedStream) (ads : Adverts) (e : Standing) (known : List (List ℕ) → Option ℤ) (falls : EndsFall r (as_played e) known) (p : List ℕ) (past : List (List ℕ))
    (before : known past ≡ end_if ads e) (now : known (p ∷ past) ≡ end_if ads e) (b : r.begins p past ≡ true) (t : ℤ) (time_is : r.time (p ∷ past) ≡ Some t) where
  abbrev x : PlayedEvent
  x = as_played e

  module _ (up : stands (r.high past) e ≡ true) where
    pub played-begun : is_played ads e ≡ true → begun_now r x known (p ∷ past) ≡ (begun_now r x known past || int_le e.start t)
    played-begun y =
        ap (λ s. begun_now r x known past || s)
        (and-true (comes r e.start p past) (stands_now x (known (p ∷ past)) (r.high past)) (stands-is e (known (p ∷ past)) (r.high past) (now ∙ end-played ads e y) up)
        ∙ comes-is e.start t (r.begins p past) (r.time (p ∷ past)) b time_is)

    played-closed : is_played ads e ≡ true → closed_now r x known (p ∷ past) ≡ (closed_now r x known past || ((begun_now r x known past || int_le e.start t) && not (int_le e.start t && int_lt t (end_of e))))
    played-closed y =
        ap (λ g. closed_now r x known past || (begun_now r x known (p ∷ past) && g))
        (begins-not (r.begins p past) (holds_now x (known (p ∷ past)) (r.time (p ∷ past))) _ b (holds-is e (known (p ∷ past)) t (r.time (p ∷ past)) (now ∙ end-played ads e y) time_is))
        ∙ ap (λ g. closed_now r x known past || (g && not (int_le e.start t && int_lt t (end_of e)))) (played-begun y)
      where
        begins-not : (b h v : Bool) → b ≡ true → h ≡ v → (b && not h) ≡ not v
        begins-not b h v k l = rw (k, l) refl

    played-turned : is_played ads e ≡ true → turned e t (is_played ads e) (stage_known r x known past) ≡ turned_by true (int_le e.start t) (int_le e.start t && int_lt t (end_of e)) (stage_known r x known past)
    played-turned y =
        turned-is e t (is_played ads e) (stage_known r x known past)
        ∙ ap (λ g. turned_by g (int_le e.start t) (covers t e) (stage_known r x known past)) y
        ∙ ap (λ g. turned_by true (int_le e.start t) g (stage_known r x known past)) (covers-is e t (ads.fits e) y)

    -- one that is not played waits for ever
    never-begun : (qs : List (List ℕ)) → known qs ≡ end_if ads e → is_played ads e ≡ false → begun_now r x known qs ≡ false
    never-begun qs k n = none-begun r x known falls qs (k ∙ end-none ads e n)

    never-closed : (qs : List (List ℕ)) → known qs ≡ end_if ads e → is_played ads e ≡ false → closed_now r x known qs ≡ false
    never-closed qs k n = none-closed r x known falls qs (k ∙ end-none ads e n)

    pub never-staged : (qs : List (List ℕ)) → known qs ≡ end_if ads e → is_played ads e ≡ false → stage_known r x known qs ≡ Waiting
    never-staged qs k n = ap (λ c. stage_by c (begun_now r x known qs)) (never-closed qs k n) ∙ ap (stage_by false) (never-begun qs k n)

    waits : is_played ads e ≡ false → turned e t (is_played ads e) (stage_known r x known past) ≡ Waiting
    waits n = ap (turned e t (is_played ads e)) (never-staged past before n) ∙ ap (λ g. turned e t g Waiting) n

    pub stamped-stage : stage_known r x known (p ∷ past) ≡ shut (turned e t (is_played ads e) (stage_known r x known past))
    stamped-stage = by_test (is_played ads e)
        (λ y.
        ap (λ c. stage_by c (begun_now r x known (p ∷ past))) (played-closed y)
        ∙ ap (stage_by (closed_now r x known past || ((begun_now r x known past || int_le e.start t) && not (int_le e.start t && int_lt t (end_of e))))) (played-begun y)
        ∙ step-stage (int_le e.start t) (int_lt t (end_of e)) (closed_now r x known past) (begun_now r x known past) (now-closed-begun r x known past)
        ∙ sym (ap shut (played-turned y)))
        (λ n. never-staged (p ∷ past) now n ∙ sym (ap shut (waits n)))

    pub stamped-closing : is_closing (turned e t (is_played ads e) (stage_known r x known past)) ≡ (closed_now r x known (p ∷ past) && not (closed_now r x known past))
    stamped-closing = by_test (is_played ads e)
        (λ y.
        ap is_closing (played-turned y)
        ∙ step-closing (int_le e.start t) (int_lt t (end_of e)) (closed_now r x known past) (begun_now r x known past) (now-closed-begun r x known past)
        ∙ sym (ap (λ c. c && not (closed_now r x known past)) (played-closed y)))
        (λ n. ap is_closing (waits n) ∙ sym (ap (λ c. c && not (closed_now r x known past)) (never-closed (p ∷ past) now n)))

    crosses-is : (stage : Stage) → is_played ads e ≡ true → crosses_known r x known stage (known (p ∷ past)) (r.time (p ∷ past)) ≡ crosses e t stage
    crosses-is Waiting y = refl
    crosses-is Running y = ap (below e.start) time_is ∙ lt-same t e.start
    crosses-is Closing y = ap (λ o. below_known r x known o (r.time (p ∷ past))) (now ∙ end-played ads e y) ∙ ap (below (end_of e)) time_is ∙ lt-same t (end_of e)
    crosses-is Over y = ap (λ o. below_known r x known o (r.time (p ∷ past))) (now ∙ end-played ads e y) ∙ ap (below (end_of e)) time_is ∙ lt-same t (end_of e)

    pub stamped-crossed : crossed_known r x known (p ∷ past) ≡ (crossed_known r x known past || crosses e t (stage_known r x known past))
    stamped-crossed =
        ap (λ g. crossed_known r x known past || (g && crosses_known r x known (stage_known r x known past) (known (p ∷ past)) (r.time (p ∷ past)))) b
        ∙ ap (λ g. crossed_known r x known past || g) (by_test (is_played ads e) (crosses-is (stage_known r x known past))
        (λ n. ap (λ s. crosses_known r x known s (known (p ∷ past)) (r.time (p ∷ past))) (never-staged past before n) ∙ sym (ap (crosses e t) (never-staged past before n))))
