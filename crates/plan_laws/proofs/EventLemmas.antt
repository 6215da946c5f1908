-- What goes out of an event that stands, in one stream, where the packet closes it there, and where it runs on.
use Rattle.std.proofs.Common.{◌≡◌, ℕ, ◌+◌, List, [], ◌∷◌, Bool, true, false, refl, sym, ap, ◌∙◌, Option, None, Some, arith, if◌then◌else◌, length, drop, length-append}
use Rattle.std.specs.Prelude.{ℤ, pos, ◌+ℤ◌, ◌-ℤ◌, int_lt, unsigned_abs}
use Rattle.std.proofs.lemmas.Int.{ints}
use Rattle.std.proofs.lemmas.Bool.{true≢false, or_parts}
use Rattle.ts_packet.proofs.Cases.{by_test}
use Rattle.event_table.specs.Standing.{Standing, end_of}
use Rattle.ad_library.specs.Advertisements.{Advertisement}
use Rattle.splice_laws.specs.Splicing.{PlayedEvent, SliceUnit, TimedStream}
use Rattle.splice_laws.specs.Laws.{IsStream}
use Rattle.splice_laws.specs.Settled.{IsAhead, NeverPassesHigh, begun_now, closed_now}
use Rattle.splice_laws.specs.Ends.{up_to_end, longest_front}
use Rattle.splice_laws.proofs.EndLemmas.{run_of, longest-run, IsFront}
use Rattle.splice_plans.specs.Playing.{Turns, as_played, up_to_known, sent_of_begun, sent_known, due_at, closing_at, running_at}
use Rattle.splice_plans.specs.Laws.{EndsFall}
use Rattle.splice_plans.specs.Parts.{reached_by}
use Rattle.splice_plans.proofs.SentLemmas.{sent-before, sent-grows, due-rest}
use Rattle.splice_plans.proofs.KnownLemmas.{begun-past}
use Rattle.std.proofs.lemmas.List.{drop_at}
use Rattle.plan_laws.proofs.StageLemmas.{now-closed-begun}
use Rattle.plan_laws.proofs.DueLemmas.{goes-on}
use Rattle.plan_laws.proofs.PlayedLemmas.{as_played_units, slice_filed, rest_filed, rest-all, rest-due, rest-length}

front-sum : (a b : List SliceUnit) → IsFront a b → length b ≡ length a + length (drop (length a) b)
front-sum a b f = let l = ap length f.1 ∙ length-append a f.0 in let d = ap (λ l. length (drop (length a) l)) f.1 ∙ ap length ((drop_at a f.0 (length a) refl)) in omega (arith, l, d)

-- the greatest time is at or past the start, so it lies this far past it
reached-far : (e : Standing) (h : ℤ) → (IsAhead (Some h) e.start → ⊥) → (e.start +ℤ pos (unsigned_abs (h -ℤ e.start)) ≡ h) × (reached_by (Some h) e ≡ Some (unsigned_abs (h -ℤ e.start)))
reached-far e h past = by_test (int_lt h e.start)
    (λ y. absurd (past (lower h e.start y)))
    (λ n. (far e.start h n, simp n refl))
  where
    lower : (h s : ℤ) → int_lt h s ≡ true → IsAhead (Some h) s
    lower h s y = grind (arith, ints, y)

    far : (s h : ℤ) → int_lt h s ≡ false → s +ℤ pos (unsigned_abs (h -ℤ s)) ≡ h
    far s h n = grind (arith, ints, n)

module _ (turns : Turns) (r : TimedStream) (k : IsStream r) (w : NeverPassesHigh r) (e : Standing) (known : List (List ℕ) → Option ℤ) (units : List SliceUnit) (falls : EndsFall r (as_played e) known)
    (p : List ℕ) (past : List (List ℕ)) (turn : turns p past ≡ true) (now : begun_now r (as_played e) known (p ∷ past) ≡ true → known (p ∷ past) ≡ Some (end_of e))
    (o : Option Advertisement) (kind place : ℕ) (slice_is : up_to_end (end_of e) units ≡ as_played_units e.start o (slice_filed e.start kind place e.length o)) where
  abbrev x : PlayedEvent
  x = as_played e

  abbrev sent : List (List ℕ) → List SliceUnit
  sent = sent_known turns r x known units

  abbrev out : ℕ
  out = length (sent past)

  abbrev all : List SliceUnit
  all = as_played_units e.start o (slice_filed e.start kind place e.length o)

  all-is : begun_now r x known (p ∷ past) ≡ true → up_to_known (known (p ∷ past)) units ≡ all
  all-is b = ap (λ o. up_to_known o units) (now b) ∙ slice_is

  longer : length (sent (p ∷ past)) ≡ out + length (due_at turns r x known units p past)
  longer = front-sum (sent past) (sent (p ∷ past)) (sent-grows turns r k x known units falls p past)

  shut-by : (c : Bool) (a b : List SliceUnit) → c ≡ true → (if c then a else b) ≡ a
  shut-by true a b h = refl
  shut-by false a b h = absurd (true≢false (sym h))

  open-by : (c : Bool) (a b : List SliceUnit) → c ≡ false → (if c then a else b) ≡ b
  open-by true a b h = absurd (true≢false h)
  open-by false a b h = refl

  -- ---- the packet closes it

  module _ (was : closed_now r x known past ≡ false) (shut : closed_now r x known (p ∷ past) ≡ true) where
    begun-then : begun_now r x known (p ∷ past) ≡ true
    begun-then = now-closed-begun r x known (p ∷ past) shut

    sent-all : sent (p ∷ past) ≡ all
    sent-all =
        goes-on (sent_of_begun turns r x known units p past) (sent past) (turns p past) (closed_now r x known past) (begun_now r x known (p ∷ past)) turn was begun-then
        ∙ shut-by (closed_now r x known (p ∷ past)) (up_to_known (known (p ∷ past)) units) (longest_front (up_to_known (known (p ∷ past)) units) (r.high (p ∷ past))) shut
        ∙ all-is begun-then

    due-left : due_at turns r x known units p past ≡ as_played_units e.start o (rest_filed e.start kind place e.length o out None)
    due-left = ap (drop out) sent-all ∙ rest-all e.start kind place e.length o out

    pub closing-is : closing_at turns r x known units p past ≡ as_played_units e.start o (rest_filed e.start kind place e.length o out None)
    closing-is = shut-by (closed_now r x known (p ∷ past)) (due_at turns r x known units p past) [] shut ∙ due-left

    pub closing-length : length (sent (p ∷ past)) ≡ out + length (rest_filed e.start kind place e.length o out None)
    closing-length = longer ∙ ap (λ us. out + length us) due-left ∙ ap (λ n. out + n) (rest-length e.start kind place e.length o out None)

  -- ---- it runs on

  module _ (b : begun_now r x known (p ∷ past) ≡ true) (still : closed_now r x known (p ∷ past) ≡ false) where
    was-open : closed_now r x known past ≡ false
    was-open = (or_parts (closed_now r x known past) _ still).0

    not-ahead-now : IsAhead (r.high (p ∷ past)) e.start → ⊥
    not-ahead-now = begun-past r k w x known (p ∷ past) b

    due-run : due_at turns r x known units p past ≡ run_of (drop out all) (r.high (p ∷ past))
    due-run =
        ap (drop out)
        (goes-on (sent_of_begun turns r x known units p past) (sent past) (turns p past) (closed_now r x known past) (begun_now r x known (p ∷ past)) turn was-open b
        ∙ open-by (closed_now r x known (p ∷ past)) (up_to_known (known (p ∷ past)) units) (longest_front (up_to_known (known (p ∷ past)) units) (r.high (p ∷ past))) still
        ∙ longest-run (up_to_known (known (p ∷ past)) units) (r.high (p ∷ past)))
        ∙ due-rest (up_to_known (known (p ∷ past)) units) (sent past) (r.high (p ∷ past)) (sent-before turns r k x known units falls p past was-open)
        ∙ ap (λ us. run_of (drop out us) (r.high (p ∷ past))) (all-is b)

    by-high : (h : Option ℤ) → (IsAhead h e.start → ⊥) → run_of (drop out all) h ≡ as_played_units e.start o (rest_filed e.start kind place e.length o out (reached_by h e))
    by-high None past = absurd (past tt)
    by-high (Some h) past =
        let f = reached-far e h past in
        rest-due e.start kind place e.length o out h (unsigned_abs (h -ℤ e.start)) f.0
        ∙ ap (λ n. as_played_units e.start o (rest_filed e.start kind place e.length o out n)) (sym f.1)

    due-reached : due_at turns r x known units p past ≡ as_played_units e.start o (rest_filed e.start kind place e.length o out (reached_by (r.high (p ∷ past)) e))
    due-reached = due-run ∙ by-high (r.high (p ∷ past)) not-ahead-now

    pub running-is : running_at turns r x known units p past ≡ as_played_units e.start o (rest_filed e.start kind place e.length o out (reached_by (r.high (p ∷ past)) e))
    running-is = open-by (closed_now r x known (p ∷ past)) [] (due_at turns r x known units p past) still ∙ due-reached

    pub running-length : length (sent (p ∷ past)) ≡ out + length (rest_filed e.start kind place e.length o out (reached_by (r.high (p ∷ past)) e))
    running-length = longer ∙ ap (λ us. out + length us) due-reached ∙ ap (λ n. out + n) (rest-length e.start kind place e.length o out (reached_by (r.high (p ∷ past)) e))
