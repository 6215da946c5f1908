-- What is out of an event is a front of what will be, also where its end comes earlier meanwhile.
use Rattle.std.proofs.Common.{◌≡◌, ℕ, List, [], ◌∷◌, ◌++◌, Bool, true, false, not, ◌&&◌, refl, sym, ap, ◌∙◌, Option, None, Some, if◌then◌else◌, length, drop, suc}
use Rattle.std.specs.Prelude.{ℤ}
use Rattle.std.proofs.lemmas.Bool.{true≢false, or_parts}
use Rattle.ts_packet.proofs.Cases.{by_test}
use Rattle.splice_laws.specs.Splicing.{PlayedEvent, SliceUnit, TimedStream, at_or_past}
use Rattle.splice_laws.specs.Laws.{IsStream, Risen}
use Rattle.splice_laws.specs.Settled.{begun_now, closed_now}
use Rattle.splice_laws.specs.Ends.{longest_front}
use Rattle.splice_laws.proofs.EndLemmas.{run_of, longest-run, IsFront, front-trans, empty-front, run-front, front-earlier}
use Rattle.splice_plans.specs.Playing.{Turns, up_to_known, sent_of_begun, sent_known}
use Rattle.splice_plans.specs.Laws.{EndFalls, EndsFall, SentGrows}

none-behind : (a : List SliceUnit) → a ≡ a ++ []
none-behind [] = refl
none-behind (u ∷ a) = ap (λ l. u ∷ l) (none-behind a)

same-front : (a : List SliceUnit) → IsFront a a
same-front a = ([], none-behind a)

-- a case of a test of three parts
module _ {A : Type 0} (new old : A) where
  not-turn : (t b : Bool) → t ≡ false → (if t && b then new else old) ≡ old
  not-turn true b h = absurd (true≢false h)
  not-turn false b h = refl

  was-closed : (t c b : Bool) → c ≡ true → (if t && (not c && b) then new else old) ≡ old
  was-closed true true b h = refl
  was-closed false true b h = refl
  was-closed t false b h = absurd (true≢false (sym h))

  not-begun : (t c b : Bool) → b ≡ false → (if t && (not c && b) then new else old) ≡ old
  not-begun true true false h = refl
  not-begun true false false h = refl
  not-begun false c false h = refl
  not-begun t c true h = absurd (true≢false h)

  goes-on : (t c b : Bool) → t ≡ true → c ≡ false → b ≡ true → (if t && (not c && b) then new else old) ≡ new
  goes-on true false true h k l = refl
  goes-on false c b h k l = absurd (true≢false (sym h))
  goes-on true true b h k l = absurd (true≢false k)
  goes-on true false false h k l = absurd (true≢false (sym l))

module _ (turns : Turns) (r : TimedStream) (k : IsStream r) (x : PlayedEvent) (known : List (List ℕ) → Option ℤ) (units : List SliceUnit) (falls : EndsFall r x known) where
  abbrev sent : List (List ℕ) → List SliceUnit
  sent = sent_known turns r x known units

  abbrev is_begun : List (List ℕ) → Bool
  is_begun = begun_now r x known

  abbrev is_closed : List (List ℕ) → Bool
  is_closed = closed_now r x known

  -- what has come due before the end in force
  abbrev due_now : List (List ℕ) → List SliceUnit
  due_now past = run_of (up_to_known (known past) units) (r.high past)

  earlier-begun : (p : List ℕ) (past : List (List ℕ)) → is_begun (p ∷ past) ≡ false → is_begun past ≡ false
  earlier-begun p past h = (or_parts (is_begun past) _ h).0

  earlier-open : (p : List ℕ) (past : List (List ℕ)) → is_closed (p ∷ past) ≡ false → is_closed past ≡ false
  earlier-open p past h = (or_parts (is_closed past) _ h).0

  unbegun-one : (p : List ℕ) (past : List (List ℕ)) → is_begun (p ∷ past) ≡ false → sent (p ∷ past) ≡ sent past
  unbegun-one p past h = not-begun (sent_of_begun turns r x known units p past) (sent past) (turns p past) (is_closed past) (is_begun (p ∷ past)) h

  pub none-unbegun : (past : List (List ℕ)) → is_begun past ≡ false → sent past ≡ []
  none-unbegun [] h = refl
  none-unbegun (p ∷ past) h = unbegun-one p past h ∙ none-unbegun past (earlier-begun p past h)

  due-by : (a b : Option ℤ) (h h' : Option ℤ) → Risen h h' → EndFalls h a b → IsFront (run_of (up_to_known a units) h) (run_of (up_to_known b units) h')
  due-by None b h h' rise f = (run_of (up_to_known b units) h', refl)
  due-by (Some a) None h h' rise f = absurd f
  due-by (Some a) (Some b) h h' rise f = front-earlier units a b h h' rise f.0 f.1

  due-step : (p : List ℕ) (past : List (List ℕ)) → is_begun past ≡ true → IsFront (due_now past) (due_now (p ∷ past))
  due-step p past b = due-by (known past) (known (p ∷ past)) (r.high past) (r.high (p ∷ past)) (k.rises p past) (falls p past b)

  -- with a turn
  sent-turn : (p : List ℕ) (past : List (List ℕ)) → turns p past ≡ true → is_closed past ≡ false → is_begun (p ∷ past) ≡ true → sent (p ∷ past) ≡ sent_of_begun turns r x known units p past
  sent-turn p past t c b = goes-on (sent_of_begun turns r x known units p past) (sent past) (turns p past) (is_closed past) (is_begun (p ∷ past)) t c b

  sent-open : (p : List ℕ) (past : List (List ℕ)) → is_closed (p ∷ past) ≡ false → sent_of_begun turns r x known units p past ≡ due_now (p ∷ past)
  sent-open p past c = opened (is_closed (p ∷ past)) c ∙ longest-run (up_to_known (known (p ∷ past)) units) (r.high (p ∷ past))
    where
      opened : (c : Bool) → c ≡ false → (if c then up_to_known (known (p ∷ past)) units else longest_front (up_to_known (known (p ∷ past)) units) (r.high (p ∷ past)))
          ≡ longest_front (up_to_known (known (p ∷ past)) units) (r.high (p ∷ past))
      opened true h = absurd (true≢false h)
      opened false h = refl

  sent-closed : (p : List ℕ) (past : List (List ℕ)) → is_closed (p ∷ past) ≡ true → sent_of_begun turns r x known units p past ≡ up_to_known (known (p ∷ past)) units
  sent-closed p past c = shut (is_closed (p ∷ past)) c
    where
      shut : (c : Bool) → c ≡ true → (if c then up_to_known (known (p ∷ past)) units else longest_front (up_to_known (known (p ∷ past)) units) (r.high (p ∷ past)))
          ≡ up_to_known (known (p ∷ past)) units
      shut true h = refl
      shut false h = absurd (true≢false (sym h))

  due-with : (p : List ℕ) (past : List (List ℕ)) → is_closed (p ∷ past) ≡ false → IsFront (sent past) (due_now past) → IsFront (sent (p ∷ past)) (due_now (p ∷ past))
  due-with p past c before = by_test (is_begun (p ∷ past)) begun (λ h. empty-front (sent (p ∷ past)) (due_now (p ∷ past)) (none-unbegun (p ∷ past) h))
    where
      still : is_begun past ≡ true → IsFront (sent past) (due_now (p ∷ past))
      still b = front-trans (sent past) (due_now past) (due_now (p ∷ past)) before (due-step p past b)

      unturned : IsFront (sent past) (due_now (p ∷ past))
      unturned = by_test (is_begun past) still (λ h. empty-front (sent past) (due_now (p ∷ past)) (none-unbegun past h))

      begun : is_begun (p ∷ past) ≡ true → IsFront (sent (p ∷ past)) (due_now (p ∷ past))
      begun b = by_test (turns p past)
          (λ t. rw (sent-turn p past t (earlier-open p past c) b ∙ sent-open p past c) (same-front (due_now (p ∷ past))))
          (λ t. rw (not-turn (sent_of_begun turns r x known units p past) (sent past) (turns p past) (not (is_closed past) && is_begun (p ∷ past)) t) unturned)

  -- what is out while it is open has come due
  pub sent-due : (past : List (List ℕ)) → is_closed past ≡ false → IsFront (sent past) (due_now past)
  sent-due [] c = (due_now [], refl)
  sent-due (p ∷ past) c = due-with p past c (sent-due past (earlier-open p past c))

  -- before a packet it is a front of what has come due with the packet
  pub sent-before : (p : List ℕ) (past : List (List ℕ)) → is_closed past ≡ false → IsFront (sent past) (due_now (p ∷ past))
  sent-before p past c = by_test (is_begun past)
      (λ b. front-trans (sent past) (due_now past) (due_now (p ∷ past)) (sent-due past c) (due-step p past b))
      (λ h. empty-front (sent past) (due_now (p ∷ past)) (none-unbegun past h))

  pub sent-grows : (p : List ℕ) (past : List (List ℕ)) → IsFront (sent past) (sent (p ∷ past))
  sent-grows p past = by_test (turns p past) turned
      (λ t. rw (not-turn (sent_of_begun turns r x known units p past) (sent past) (turns p past) (not (is_closed past) && is_begun (p ∷ past)) t) (same-front (sent past)))
    where
      onward : is_closed past ≡ false → turns p past ≡ true → is_begun (p ∷ past) ≡ true → IsFront (sent past) (sent (p ∷ past))
      onward c t b = rw (sent-turn p past t c b) (by_test (is_closed (p ∷ past))
          (λ now. rw (sent-closed p past now) (front-trans (sent past) (due_now (p ∷ past)) (up_to_known (known (p ∷ past)) units) (sent-before p past c) (run-front (up_to_known (known (p ∷ past)) units) (r.high (p ∷ past)))))
          (λ now. rw (sent-open p past now) (sent-before p past c)))

      turned : turns p past ≡ true → IsFront (sent past) (sent (p ∷ past))
      turned t = by_test (is_closed past)
          (λ c. rw (was-closed (sent_of_begun turns r x known units p past) (sent past) (turns p past) (is_closed past) (is_begun (p ∷ past)) c) (same-front (sent past)))
          (λ c. by_test (is_begun (p ∷ past)) (onward c t)
          (λ b. rw (unbegun-one p past b) (same-front (sent past))))

abbrev is_none : List SliceUnit → Bool
is_none [] = true
is_none (u ∷ us) = false

rest-one : (u x : SliceUnit) (us a : List SliceUnit) (h : Option ℤ) → IsFront (x ∷ a) (run_of (u ∷ us) h) → (IsFront a (run_of us h) → drop (length a) (run_of us h) ≡ run_of (drop (length a) us) h)
    → drop (suc (length a)) (run_of (u ∷ us) h) ≡ run_of (drop (length a) us) h
rest-one u x us a h f later = by_test (at_or_past u.time h) go gone
  where
    go : at_or_past u.time h ≡ true → drop (suc (length a)) (run_of (u ∷ us) h) ≡ run_of (drop (length a) us) h
    go d =
        let all : run_of (u ∷ us) h ≡ u ∷ run_of us h = simp d refl in
        let tail : run_of us h ≡ a ++ f.0 = ap (drop 1) (sym all ∙ f.1) in
        ap (drop (suc (length a))) all ∙ later (f.0, tail)

    gone : at_or_past u.time h ≡ false → drop (suc (length a)) (run_of (u ∷ us) h) ≡ run_of (drop (length a) us) h
    gone d = let none : run_of (u ∷ us) h ≡ [] = simp d refl in absurd (true≢false (ap is_none (sym none ∙ f.1)))

-- what is left of those that have come due is what comes due of those that are left
pub due-rest : (us a : List SliceUnit) (h : Option ℤ) → IsFront a (run_of us h) → drop (length a) (run_of us h) ≡ run_of (drop (length a) us) h
due-rest us [] h f = refl
due-rest [] (x ∷ a) h f = refl
due-rest (u ∷ us) (x ∷ a) h f = rest-one u x us a h f (due-rest us a h)

pub sent_grows : SentGrows
sent_grows turns r k x known units falls p past = sent-grows turns r k x known units falls p past
