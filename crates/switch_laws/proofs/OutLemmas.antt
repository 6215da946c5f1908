-- What is out of an event, packet by packet: it never shrinks, and once the event is closed all is out.
use Rattle.std.proofs.Common.{◌≡◌, ℕ, List, [], ◌∷◌, ◌++◌, Bool, true, false, not, ◌&&◌, ◌||◌, refl, sym, ap, ◌∙◌, Option, append_assoc, if◌then◌else◌, length, drop, take, subst}
use Rattle.std.proofs.lemmas.List.{append-nil, drop_at}
use Rattle.std.proofs.lemmas.Bool.{true≢false}
use Rattle.ts_packet.proofs.Cases.{by_test}
use Rattle.splice_laws.specs.Splicing.{PlayedEvent, SliceUnit, TimedStream, begun, closed, rest}
use Rattle.splice_laws.specs.Laws.{IsStream, CountsOver, CountsAt}
use Rattle.splice_laws.specs.Settled.{begun_now, closed_now}
use Rattle.splice_laws.proofs.EndLemmas.{IsFront, front-trans, front-take, front-length}
use Rattle.splice_plans.specs.Playing.{Turns, sent_known, sent_of_begun, due_at, left_at_end, up_to_known}
use Rattle.splice_plans.specs.Laws.{EndsFall}
use Rattle.splice_plans.proofs.SentLemmas.{none-unbegun, sent-grows}
use Rattle.std.specs.Prelude.{ℤ}

module _ (turns : Turns) (r : TimedStream) (k : IsStream r) (x : PlayedEvent) (known : List (List ℕ) → Option ℤ) (units : List SliceUnit) (falls : EndsFall r x known) where
  abbrev sent : List (List ℕ) → List SliceUnit
  sent = sent_known turns r x known units

  abbrev left : List (List ℕ) → List SliceUnit
  left = left_at_end turns r x known units

  -- all of it, where the run is this one
  abbrev all : List (List ℕ) → List SliceUnit
  all whole = sent whole ++ left whole

  -- the flags as they were known are those of the event
  abbrev pub IsTold : List (List ℕ) → Type 0
  IsTold past = (begun_now r x known past ≡ begun r x past) × (closed_now r x known past ≡ closed r x past)

  front-on : (more past : List (List ℕ)) → IsFront (sent past) (sent (more ++ past))
  front-on [] past = ([], sym (append-nil (sent past)))
  front-on (p ∷ more) past = front-trans (sent past) (sent (more ++ past)) (sent (p ∷ (more ++ past))) (front-on more past) (sent-grows turns r k x known units falls p (more ++ past))

  front-all : (more past : List (List ℕ)) → IsFront (sent past) (all (more ++ past))
  front-all more past = front-trans (sent past) (sent (more ++ past)) (all (more ++ past)) (front-on more past) (left (more ++ past), refl)

  -- what goes out with a packet
  pub piece-is : (more past : List (List ℕ)) (p : List ℕ) → drop (length (sent past)) (take (length (sent (p ∷ past))) (all (more ++ (p ∷ past)))) ≡ due_at turns r x known units p past
  piece-is more past p = ap (drop (length (sent past))) (sym (front-take (sent (p ∷ past)) (all (more ++ (p ∷ past))) (front-all more (p ∷ past))))

  -- once closed
  closed-on : (more past : List (List ℕ)) → closed_now r x known past ≡ true → closed_now r x known (more ++ past) ≡ true
  closed-on [] past c = c
  closed-on (p ∷ more) past c = or_first _ _ (closed-on more past c)
    where
      or_first : (a b : Bool) → a ≡ true → (a || b) ≡ true
      or_first true b h = refl
      or_first false b h = absurd (true≢false (sym h))

  pub stays : (p : List ℕ) (past : List (List ℕ)) → closed_now r x known past ≡ true → sent (p ∷ past) ≡ sent past
  stays p past c = was (turns p past) (closed_now r x known past) (begun_now r x known (p ∷ past)) (sent_of_begun turns r x known units p past) (sent past) c
    where
      was : (t c b : Bool) (new old : List SliceUnit) → c ≡ true → (if t && (not c && b) then new else old) ≡ old
      was true true b new old h = refl
      was false true b new old h = refl
      was t false b new old h = absurd (true≢false (sym h))

  sent-closed-on : (more past : List (List ℕ)) → closed_now r x known past ≡ true → sent (more ++ past) ≡ sent past
  sent-closed-on [] past c = refl
  sent-closed-on (p ∷ more) past c = stays p (more ++ past) (closed-on more past c) ∙ sent-closed-on more past c

  none-left : (past : List (List ℕ)) → closed_now r x known past ≡ true → left past ≡ []
  none-left past c = none (begun_now r x known past) (closed_now r x known past) (drop (length (sent past)) (up_to_known (known past) units)) c
    where
      none : (b c : Bool) (l : List SliceUnit) → c ≡ true → (if b && not c then l else []) ≡ []
      none true true l h = refl
      none false true l h = refl
      none b false l h = absurd (true≢false (sym h))

  pub all-closed : (more past : List (List ℕ)) → closed_now r x known past ≡ true → all (more ++ past) ≡ sent past
  all-closed more past c =
      ap (λ l. sent (more ++ past) ++ l) (none-left (more ++ past) (closed-on more past c)) ∙ append-nil (sent (more ++ past)) ∙ sent-closed-on more past c

  counts-at : (more past : List (List ℕ)) → IsTold past → CountsAt r x (all (more ++ past)) (λ past. length (sent past)) past
  counts-at more past t = record {
    starts = λ b. ap length (none-unbegun turns r k x known units falls past (t.0 ∙ b));
    ends = λ c. ap length (sym (all-closed more past (t.1 ∙ c)));
  }

  -- the count of what is out
  pub counts : (more past : List (List ℕ)) (p : List ℕ) → IsTold past → IsTold (p ∷ past) → CountsOver r x (all (more ++ (p ∷ past))) (λ past. length (sent past)) (record { packet = p; past = past })
  counts more past p before after = record {
    before = (λ (e : (more ++ p ∷ []) ++ past ≡ more ++ (p ∷ past)). subst (λ l. CountsAt r x (all l) (λ past. length (sent past)) past) e (counts-at (more ++ p ∷ []) past before)) (append_assoc more (p ∷ []) past);
    grows = front-length (sent past) (sent (p ∷ past)) (sent-grows turns r k x known units falls p past);
    after = counts-at more (p ∷ past) after;
  }

  -- what is left at the end
  pub rest-is : (whole : List (List ℕ)) → IsTold whole → rest r x (all whole) (λ past. length (sent past)) whole ≡ left whole
  rest-is whole t = by_test (begun r x whole)
      (λ b. simp b ((drop_at (sent whole) (left whole) (length (sent whole)) refl)))
      (λ b. simp b (sym (none (begun_now r x known whole) (closed_now r x known whole) (drop (length (sent whole)) (up_to_known (known whole) units)) (t.0 ∙ b))))
    where
      none : (b c : Bool) (l : List SliceUnit) → b ≡ false → (if b && not c then l else []) ≡ []
      none true c l h = absurd (true≢false h)
      none false c l h = refl
