-- What is due of an event with a packet: nothing before it has begun, once it is closed, or once it stands no longer.
use Rattle.std.proofs.Common.{◌≡◌, ℕ, List, [], ◌∷◌, Bool, true, false, not, ◌&&◌, ◌||◌, ◌⊎◌, inl, inr, refl, sym, ap, ◌∙◌, Option, None, Some, arith, if◌then◌else◌, length, drop}
use Rattle.std.specs.Prelude.{ℤ, pos, ◌+ℤ◌, int_lt, is_some}
use Rattle.std.proofs.lemmas.Int.{ints}
use Rattle.std.proofs.lemmas.Bool.{true≢false, or_left, or_parts}
use Rattle.std.proofs.Math.Seq.{drop-length}
use lib.Signed.{le_z, lt_z}
use Rattle.ts_packet.proofs.Cases.{by_test}
use Rattle.event_table.specs.Standing.{Standing, end_of, forgotten_at, stands}
use Rattle.splice_laws.specs.Splicing.{PlayedEvent, SliceUnit, TimedStream, at_or_past, comes}
use Rattle.splice_laws.specs.Laws.{IsStream}
use Rattle.splice_laws.specs.Settled.{IsAhead, begun_now, closed_now, stands_now}
use Rattle.splice_laws.specs.Ends.{up_to_end, longest_front}
use Rattle.splice_laws.proofs.EndLemmas.{run_of, longest-run}
use Rattle.splice_laws.proofs.TimeLemmas.{due-later}
use Rattle.splice_plans.specs.Playing.{Adverts, Turns, is_played, as_played, up_to_known, sent_of_begun, sent_known, due_at, closing_at, running_at}
use Rattle.splice_plans.specs.Laws.{EndFalls, EndsFall}
use Rattle.plan_laws.proofs.StageLemmas.{begun-some, none-begun, begun-stays, closed-stays, lt-same}
use Rattle.plan_laws.proofs.ToldLemmas.{end_if}

pick : (b : Bool) (us vs : List SliceUnit) → us ≡ vs → (if b then vs else us) ≡ vs
pick true us vs h = refl
pick false us vs h = h

module _ (new old : List SliceUnit) where
  not-turn : (t b : Bool) → t ≡ false → (if t && b then new else old) ≡ old
  not-turn true b h = absurd (true≢false h)
  not-turn false b h = refl

  was-closed : (t c b : Bool) → c ≡ true → (if t && (not c && b) then new else old) ≡ old
  was-closed true true b h = refl
  was-closed false true b h = refl
  was-closed t false b h = absurd (true≢false (sym h))

  not-begun : (t c b : Bool) → b ≡ false → (if t && (not c && b) then new else old) ≡ old
  not-begun true true false h = refl
  not-begun true false false h = refl
  not-begun false c false h = refl
  not-begun t c true h = absurd (true≢false h)

  pub goes-on : (t c b : Bool) → t ≡ true → c ≡ false → b ≡ true → (if t && (not c && b) then new else old) ≡ new
  goes-on true false true h k l = refl
  goes-on false c b h k l = absurd (true≢false (sym h))
  goes-on true true b h k l = absurd (true≢false k)
  goes-on true false false h k l = absurd (true≢false (sym l))

-- all units below an end that is reached have come due
due-below : (t stop : ℤ) (h : Option ℤ) → at_or_past stop h ≡ true → lt_z t stop ≡ true → at_or_past t h ≡ true
due-below t stop None h l = absurd (true≢false (sym h))
due-below t stop (Some a) h l = grind (arith, ints)

all-due : (us : List SliceUnit) (stop : ℤ) (h : Option ℤ) → at_or_past stop h ≡ true → run_of (up_to_end stop us) h ≡ up_to_end stop us
all-due [] stop h r = refl
all-due (u ∷ us) stop h r = by_test (lt_z u.time stop)
    (λ l. let d = due-below u.time stop h r l in simp (l, d) (ap (λ l. u ∷ l) (all-due us stop h r)))
    (λ l. simp l (all-due us stop h r))

-- one that has come to its end does not end earlier any more
end-same : (a stop : ℤ) (h : Option ℤ) → at_or_past stop h ≡ true → (a ≡ stop) ⊎ IsAhead h stop → a ≡ stop
end-same a stop h r (inl e) = e
end-same a stop None r (inr k) = absurd (true≢false (sym r))
end-same a stop (Some h) r (inr k) = absurd (grind (arith, ints, r, k))

known-same : (o h : Option ℤ) (stop : ℤ) → at_or_past stop h ≡ true → is_some o ≡ true → EndFalls h o (Some stop) → o ≡ Some stop
known-same None h stop r s f = absurd (true≢false (sym s))
known-same (Some a) h stop r s f = ap (λ z. let o : Option ℤ = Some z in o) (end-same a stop h r f.1)

module _ (turns : Turns) (r : TimedStream) (k : IsStream r) (x : PlayedEvent) (known : List (List ℕ) → Option ℤ) (units : List SliceUnit) (falls : EndsFall r x known)
    (unturned : (p : List ℕ) (past : List (List ℕ)) → turns p past ≡ false → r.begins p past ≡ false)
    (still : (p : List ℕ) (past : List (List ℕ)) → turns p past ≡ false → r.high (p ∷ past) ≡ r.high past) where
  abbrev sent : List (List ℕ) → List SliceUnit
  sent = sent_known turns r x known units

  abbrev of-begun : List ℕ → List (List ℕ) → List SliceUnit
  of-begun p past = sent_of_begun turns r x known units p past

  -- where the end is reached all is out
  of-reached : (p : List ℕ) (past : List (List ℕ)) (stop : ℤ) → known (p ∷ past) ≡ Some stop → at_or_past stop (r.high (p ∷ past)) ≡ true → of-begun p past ≡ up_to_end stop units
  of-reached p past stop e h =
      let all : up_to_known (known (p ∷ past)) units ≡ up_to_end stop units = ap (λ o. up_to_known o units) e in
      pick (closed_now r x known (p ∷ past)) (longest_front (up_to_known (known (p ∷ past)) units) (r.high (p ∷ past))) (up_to_known (known (p ∷ past)) units)
      (longest-run (up_to_known (known (p ∷ past)) units) (r.high (p ∷ past)) ∙ ap (λ us. run_of us (r.high (p ∷ past))) all ∙ all-due units stop (r.high (p ∷ past)) h ∙ sym all)
      ∙ all

  pub all-out : (past : List (List ℕ)) (stop : ℤ) → begun_now r x known past ≡ true → closed_now r x known past ≡ false → known past ≡ Some stop → at_or_past stop (r.high past) ≡ true → sent past ≡ up_to_end stop units
  all-out [] stop b c e h = absurd (true≢false (sym b))
  all-out (p ∷ past) stop b c e h = by_test (turns p past)
      (λ t. goes-on (of-begun p past) (sent past) (turns p past) (closed_now r x known past) (begun_now r x known (p ∷ past)) t ((or_parts (closed_now r x known past) _ c).0) b ∙ of-reached p past stop e h)
      (λ t.
      let g = unturned p past t in
      let was : begun_now r x known past ≡ true = sym (begun-stays r x known p past g) ∙ b in
      let before : at_or_past stop (r.high past) ≡ true = ap (at_or_past stop) (sym (still p past t)) ∙ h in
      not-turn (of-begun p past) (sent past) (turns p past) (not (closed_now r x known past) && begun_now r x known (p ∷ past)) t
      ∙ all-out past stop was (sym (closed-stays r x known p past g) ∙ c) (known-same (known past) (r.high past) stop before (begun-some r x known falls past was) (falls-to p past stop was e)) before)
    where
      falls-to : (p : List ℕ) (past : List (List ℕ)) (stop : ℤ) → begun_now r x known past ≡ true → known (p ∷ past) ≡ Some stop → EndFalls (r.high past) (known past) (Some stop)
      falls-to p past stop b e = rw (sym e) (falls p past b)

  module _ (p : List ℕ) (past : List (List ℕ)) where
    abbrev due_now : List SliceUnit
    due_now = due_at turns r x known units p past

    same-none : sent (p ∷ past) ≡ sent past → due_now ≡ []
    same-none h = ap (drop (length (sent past))) h ∙ drop-length (sent past)

    pub sent-closed : closed_now r x known past ≡ true → sent (p ∷ past) ≡ sent past
    sent-closed c = was-closed (of-begun p past) (sent past) (turns p past) (closed_now r x known past) (begun_now r x known (p ∷ past)) c

    pub sent-unbegun : begun_now r x known (p ∷ past) ≡ false → sent (p ∷ past) ≡ sent past
    sent-unbegun b = not-begun (of-begun p past) (sent past) (turns p past) (closed_now r x known past) (begun_now r x known (p ∷ past)) b

    pub due-closed : closed_now r x known past ≡ true → due_now ≡ []
    due-closed c = same-none (sent-closed c)

    pub due-unbegun : begun_now r x known (p ∷ past) ≡ false → due_now ≡ []
    due-unbegun b = same-none (sent-unbegun b)

    -- nothing goes out at the close of one that the packet does not close, nor of one that does not run
    pub closing-none : (closed_now r x known (p ∷ past) && not (closed_now r x known past)) ≡ false → closing_at turns r x known units p past ≡ []
    closing-none h = by (closed_now r x known (p ∷ past)) (closed_now r x known past) due_now h due-closed
      where
        by : (a b : Bool) (us : List SliceUnit) → (a && not b) ≡ false → (b ≡ true → us ≡ []) → (if a then us else []) ≡ []
        by true true us h k = k refl
        by true false us h k = absurd (true≢false h)
        by false b us h k = refl

    pub running-none : (begun_now r x known (p ∷ past) && not (closed_now r x known (p ∷ past))) ≡ false → running_at turns r x known units p past ≡ []
    running-none h = by (begun_now r x known (p ∷ past)) (closed_now r x known (p ∷ past)) due_now h due-unbegun
      where
        by : (a b : Bool) (us : List SliceUnit) → (a && not b) ≡ false → (a ≡ false → us ≡ []) → (if b then [] else us) ≡ []
        by true true us h k = refl
        by true false us h k = absurd (true≢false h)
        by false true us h k = refl
        by false false us h k = k refl

    closing-due : due_now ≡ [] → closing_at turns r x known units p past ≡ []
    closing-due h = by (closed_now r x known (p ∷ past)) due_now h
      where
        by : (a : Bool) (us : List SliceUnit) → us ≡ [] → (if a then us else []) ≡ []
        by true us h = h
        by false us h = refl

    running-due : due_now ≡ [] → running_at turns r x known units p past ≡ []
    running-due h = by (closed_now r x known (p ∷ past)) due_now h
      where
        by : (a : Bool) (us : List SliceUnit) → us ≡ [] → (if a then [] else us) ≡ []
        by true us h = refl
        by false us h = h

    -- ---- one that stands no longer

    module _ (ads : Adverts) (e : Standing) (x_is : x ≡ as_played e) (before : known past ≡ end_if ads e) (now : known (p ∷ past) ≡ end_if ads e) (out : stands (r.high past) e ≡ false) where
      end-reached : (h : Option ℤ) → stands h e ≡ false → at_or_past (end_of e) h ≡ true
      end-reached None s = absurd (true≢false s)
      end-reached (Some h) s = at (end_of e) h s
        where
          at : (stop h : ℤ) → int_lt h (stop +ℤ pos 900000) ≡ false → le_z stop h ≡ true
          at stop h s = grind (arith, ints)

      stands-out : (o h : Option ℤ) → o ≡ end_if ads e → stands h e ≡ false → stands_now (as_played e) o h ≡ false
      stands-out None h k s = refl
      stands-out (Some a) None k s = absurd (true≢false s)
      stands-out (Some a) (Some h) k s = by_test (is_played ads e)
          (λ y. let is : Some a ≡ Some (end_of e) = k ∙ simp y refl in let same : a ≡ end_of e = cc in rw same (lt-same h (forgotten_at e) ∙ s))
          (λ n. let is : Some a ≡ None = k ∙ simp n refl in absurd (cc))

      not-begun-now : begun_now r x known past ≡ false → begun_now r x known (p ∷ past) ≡ false
      not-begun-now n = ap (λ g. g || (comes r x.start p past && stands_now x (known (p ∷ past)) (r.high past))) n
          ∙ ap (λ g. comes r x.start p past && g) (ap (λ z. stands_now z (known (p ∷ past)) (r.high past)) x_is ∙ stands-out (known (p ∷ past)) (r.high past) now out) ∙ and-false (comes r x.start p past)
        where
          and-false : (a : Bool) → (a && false) ≡ false
          and-false true = refl
          and-false false = refl

      played-if : begun_now r x known past ≡ true → is_played ads e ≡ true
      played-if b = by_test (is_played ads e) (λ y. y) (λ n. absurd (true≢false (sym b ∙ none-begun r x known falls past (before ∙ simp n refl))))

      all-before : begun_now r x known past ≡ true → closed_now r x known past ≡ false → due_now ≡ []
      all-before b c =
          let y = played-if b in
          let end : end_if ads e ≡ Some (end_of e) = simp y refl in
          let is : sent past ≡ up_to_end (end_of e) units = all-out past (end_of e) b c (before ∙ end) (end-reached (r.high past) out) in
          let later = due-later (end_of e) (r.high past) (r.high (p ∷ past)) (k.rises p past) (end-reached (r.high past) out) in
          same-none (by_test (turns p past)
          (λ t. goes-on (of-begun p past) (sent past) (turns p past) (closed_now r x known past) (begun_now r x known (p ∷ past)) t c (or_left (begun_now r x known past) _ b) ∙ of-reached p past (end_of e) (now ∙ end) later ∙ sym is)
          (λ t. not-turn (of-begun p past) (sent past) (turns p past) (not (closed_now r x known past) && begun_now r x known (p ∷ past)) t))

      none-due : due_now ≡ []
      none-due = by_test (closed_now r x known past) due-closed
          (λ c. by_test (begun_now r x known past) (λ b. all-before b c) (λ b. due-unbegun (not-begun-now b)))

      pub forgotten-closing : closing_at turns r x known units p past ≡ []
      forgotten-closing = closing-due none-due

      pub forgotten-running : running_at turns r x known units p past ≡ []
      forgotten-running = running-due none-due
