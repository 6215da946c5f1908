-- In a conditioned stream the units of an event before its last end go out.
use Rattle.std.proofs.Common.{◌≡◌, ℕ, List, [], ◌∷◌, ◌++◌, Bool, true, false, not, ◌&&◌, ◌||◌, ◌⊎◌, inl, inr, refl, sym, ap, ◌∙◌, Option, None, Some, append_assoc, if◌then◌else◌, subst, length, drop, reverse, arith}
use Rattle.std.specs.Prelude.{ℤ, ◌≤ℤ◌, All, Contains, is_some, option_map}
use Rattle.std.specs.List.{AllByRecursion}
use Rattle.std.proofs.lemmas.Int.{ints}
use Rattle.std.proofs.lemmas.Bool.{true≢false}
use Rattle.std.proofs.lemmas.List.{append-nil, drop_at}
use Rattle.std.proofs.lemmas.List.Elements.{All-head, All-tail, recursion_from_All}
use Rattle.ts_packet.specs.Runs.{Seen, seen_after, onto}
use Rattle.ts_packet.proofs.Cases.{by_test}
use Rattle.unit_stream.specs.Times.{begins, begins_one, high}
use Rattle.event_table.specs.Standing.{Standing, end_of}
use Rattle.splice_laws.specs.Splicing.{PlayedEvent, SliceUnit, TimedStream, stream, at_or_past, below, passed, comes, begun}
use Rattle.splice_laws.specs.Laws.{IsStream, IsCrossedOnce, Risen}
use Rattle.splice_laws.specs.Settled.{IsAhead, IsSettled, NeverPassesHigh, begun_now, closed_now, holds_now, stands_now}
use Rattle.splice_laws.specs.Ends.{up_to_end, longest_front}
use Rattle.splice_laws.proofs.TimeLemmas.{not-below, timed_past}
use Rattle.splice_laws.proofs.PidLemmas.{pids_are_streams}
use Rattle.splice_laws.proofs.SettledLemmas.{switched_pids_are_within, begins-among}
use Rattle.splice_laws.proofs.EndLemmas.{run_of, IsFront, front-trans, run-front}
use Rattle.splice_plans.specs.Playing.{Adverts, History, Turns, is_played, as_played, end_known, up_to_known, sent_of_begun, sent_known, left_at_end}
use Rattle.splice_plans.specs.Laws.{EndsFall}
use Rattle.splice_plans.proofs.SentLemmas.{none-unbegun, sent-due}
use Rattle.splice_plans.specs.Histories.{IsHistory, AreSteady, IsSettledAt}
use Rattle.splice_plans.proofs.KnownLemmas.{begun-past, ends_never_rise, played_settle, all-settled}
use Rattle.switch_laws.specs.Moving.{meant_by, units_for, sent_in_all}
use Rattle.switch_laws.specs.Slices.{SlicesAreWhole, ClosesWith, IsOverBehind, IsSliceToAnEnd, SlicesGoToAnEnd}
use Rattle.switch_laws.proofs.IntervalLemmas.{IsMeant, all-meant}
use Rattle.switch_laws.proofs.OutLemmas.{stays}

-- ---- what holds of each packet seen, holds along the past

module _ (P : Seen → Type 0) where
  abbrev pub AlongSeen : List (List ℕ) → Type 0
  AlongSeen [] = Unit {0}
  AlongSeen (p ∷ past) = P (record { packet = p; past = past }) × AlongSeen past

  pub seen-along : (past ps : List (List ℕ)) → AlongSeen past → All P (seen_after past ps) → AlongSeen (onto past ps)
  seen-along past [] a n = a
  seen-along past (p ∷ ps) a n =
      let s : Seen = record { packet = p; past = past } in
      seen-along (p ∷ past) ps (All-head P s (seen_after (p ∷ past) ps) n, a) (All-tail P s (seen_after (p ∷ past) ps) n)

-- ---- one event

held : (x : PlayedEvent) (stop : ℤ) (t h : Option ℤ) → Risen t h → IsAhead h x.stop → x.stop ≤ℤ stop → at_or_past x.start t ≡ true → holds_now x (Some stop) t ≡ true
held x stop None h w a l s = absurd (true≢false (sym s))
held x stop (Some t) None w a l s = absurd w
held x stop (Some t) (Some h) w a l s = grind (arith, ints)

module _ (turns : Turns) (r : TimedStream) (k : IsStream r) (w : NeverPassesHigh r) (x : PlayedEvent) (known : List (List ℕ) → Option ℤ) (units : List SliceUnit) (falls : EndsFall r x known)
    (turned : (p : List ℕ) (past : List (List ℕ)) → r.begins p past ≡ true → turns p past ≡ true) where
  abbrev sent : List (List ℕ) → List SliceUnit
  sent = sent_known turns r x known units

  abbrev Crossed : Seen → Type 0
  Crossed s = r.begins s.packet s.past ≡ true → passed r x.start s.past ≡ true → below x.start (r.time (s.packet ∷ s.past)) ≡ false

  abbrev IsKnown : Seen → Type 0
  IsKnown s = IsSettled x (known (s.packet ∷ s.past)) (r.high (s.packet ∷ s.past))

  or-cases : (a b : Bool) → (a || b) ≡ true → (a ≡ true) ⊎ (b ≡ true)
  or-cases true b h = inl refl
  or-cases false b h = inr h

  and-both : (a b : Bool) → (a && b) ≡ true → (a ≡ true) × (b ≡ true)
  and-both true b h = (refl, h)
  and-both false b h = absurd (true≢false (sym h))

  or-one : (a b : Bool) → a ≡ true → (a || b) ≡ true
  or-one true b h = refl
  or-one false b h = absurd (true≢false (sym h))

  or-two : (a b : Bool) → b ≡ true → (a || b) ≡ true
  or-two true b h = refl
  or-two false b h = h

  -- one that has begun has a unit at or past its start
  began : (past : List (List ℕ)) → begun_now r x known past ≡ true → passed r x.start past ≡ true
  began [] h = absurd (true≢false (sym h))
  began (p ∷ past) h = by (or-cases (begun_now r x known past) _ h) (began past)
    where
      by : (begun_now r x known past ≡ true) ⊎ ((comes r x.start p past && stands_now x (known (p ∷ past)) (r.high past)) ≡ true) → (begun_now r x known past ≡ true → passed r x.start past ≡ true) → (passed r x.start past || comes r x.start p past) ≡ true
      by (inl b) before = or-one (passed r x.start past) (comes r x.start p past) (before b)
      by (inr c) before = or-two (passed r x.start past) (comes r x.start p past) (and-both (comes r x.start p past) _ c).0

  timed : (past : List (List ℕ)) → passed r x.start past ≡ true → is_some (r.time past) ≡ true
  timed [] h = absurd (true≢false (sym h))
  timed (p ∷ past) h = by (or-cases (passed r x.start past) (comes r x.start p past) h) (timed past)
    where
      by : (passed r x.start past ≡ true) ⊎ (comes r x.start p past ≡ true) → (passed r x.start past ≡ true → is_some (r.time past) ≡ true) → is_some (r.time (p ∷ past)) ≡ true
      by (inl b) before = k.timed p past (before b)
      by (inr c) before = timed_past x.start (r.time (p ∷ past)) (and-both (r.begins p past) (at_or_past x.start (r.time (p ∷ past))) c).1

  -- a unit that begins once the event has begun lies at or past its start
  lies-past : (p : List ℕ) (past : List (List ℕ)) → Crossed (record { packet = p; past = past }) → r.begins p past ≡ true → begun_now r x known (p ∷ past) ≡ true → at_or_past x.start (r.time (p ∷ past)) ≡ true
  lies-past p past c b h = by (or-cases (begun_now r x known past) _ h)
    where
      by : (begun_now r x known past ≡ true) ⊎ ((comes r x.start p past && stands_now x (known (p ∷ past)) (r.high past)) ≡ true) → at_or_past x.start (r.time (p ∷ past)) ≡ true
      by (inl g) = let e = began past g in not-below x.start (r.time (p ∷ past)) (c b e) (k.timed p past (timed past e))
      by (inr g) = (and-both (r.begins p past) (at_or_past x.start (r.time (p ∷ past))) (and-both (comes r x.start p past) _ g).0).1

  -- the end in force with the unit that closes it is the last one
  last-end : (o : Option ℤ) (t h : Option ℤ) → IsSettled x o h → Risen t h → (IsAhead h x.start → ⊥) → at_or_past x.start t ≡ true → holds_now x o t ≡ false → o ≡ Some x.stop
  last-end None t h s g late past out = absurd (late s)
  last-end (Some stop) t h (inl e) g late past out = ap (λ z. let o : Option ℤ = Some z in o) e
  last-end (Some stop) t h (inr ahead) g late past out = absurd (true≢false (sym (held x stop t h g ahead.0 ahead.1 past) ∙ out))

  goes : (t c b : Bool) (new old : List SliceUnit) → t ≡ true → c ≡ false → b ≡ true → (if t && (not c && b) then new else old) ≡ new
  goes true false true new old e f g = refl
  goes false c b new old e f g = absurd (true≢false (sym e))
  goes t true b new old e f g = absurd (true≢false f)
  goes t c false new old e f g = absurd (true≢false (sym g))

  closing : (p : List ℕ) (past : List (List ℕ)) → Crossed (record { packet = p; past = past }) → IsKnown (record { packet = p; past = past }) → closed_now r x known past ≡ false → closed_now r x known (p ∷ past) ≡ true →
      sent (p ∷ past) ≡ up_to_end x.stop units
  closing p past c s still is_shut = by (or-cases (closed_now r x known past) _ is_shut)
    where
      shut : (c : Bool) (a b : List SliceUnit) → c ≡ true → (if c then a else b) ≡ a
      shut true a b h = refl
      shut false a b h = absurd (true≢false (sym h))

      flip : (b : Bool) → not b ≡ true → b ≡ false
      flip true h = absurd (true≢false (sym h))
      flip false h = refl

      by : (closed_now r x known past ≡ true) ⊎ ((begun_now r x known (p ∷ past) && (r.begins p past && not (holds_now x (known (p ∷ past)) (r.time (p ∷ past))))) ≡ true) → sent (p ∷ past) ≡ up_to_end x.stop units
      by (inl b) = absurd (true≢false (sym b ∙ still))
      by (inr g) =
          let e = and-both (begun_now r x known (p ∷ past)) _ g in
          let f = and-both (r.begins p past) _ e.1 in
          let last = last-end (known (p ∷ past)) (r.time (p ∷ past)) (r.high (p ∷ past)) s (w (p ∷ past)) (begun-past r k w x known (p ∷ past) e.0) (lies-past p past c f.0 e.0) (flip (holds_now x (known (p ∷ past)) (r.time (p ∷ past))) f.1) in
          goes (turns p past) (closed_now r x known past) (begun_now r x known (p ∷ past)) (sent_of_begun turns r x known units p past) (sent past) (turned p past f.0) still e.0
          ∙ shut (closed_now r x known (p ∷ past)) (up_to_known (known (p ∷ past)) units) (longest_front (up_to_known (known (p ∷ past)) units) (r.high (p ∷ past))) is_shut
          ∙ ap (λ o. up_to_known o units) last

  closed-whole : (past : List (List ℕ)) → AlongSeen Crossed past → AlongSeen IsKnown past → closed_now r x known past ≡ true → sent past ≡ up_to_end x.stop units
  closed-whole [] c s h = absurd (true≢false (sym h))
  closed-whole (p ∷ past) c s h = by_test (closed_now r x known past)
      (λ y. stays turns r k x known units falls p past y ∙ closed-whole past c.1 s.1 y)
      (λ n. closing p past c.0 s.0 n h)

  whole-front : (a b : List SliceUnit) → IsFront a b → a ++ drop (length a) b ≡ b
  whole-front a b f = ap (λ l. a ++ drop (length a) l) f.1 ∙ ap (λ l. a ++ l) ((drop_at a f.0 (length a) refl)) ∙ sym f.1

  -- all that goes out
  pub all-whole : (past : List (List ℕ)) → AlongSeen Crossed past → AlongSeen IsKnown past → known past ≡ Some x.stop →
      sent past ++ left_at_end turns r x known units past ≡ (if begun_now r x known past then up_to_end x.stop units else [])
  all-whole past c s e = by_test (begun_now r x known past)
      (λ b. by_test (closed_now r x known past)
      (λ y. simp (b, y) (append-nil (sent past) ∙ closed-whole past c s y))
      (λ n. simp (b, n) (whole-front (sent past) (up_to_known (known past) units) (front-trans (sent past) (run_of (up_to_known (known past) units) (r.high past)) (up_to_known (known past) units) (sent-due turns r k x known units falls past n) (run-front (up_to_known (known past) units) (r.high past))) ∙ ap (λ o. up_to_known o units) e)))
      (λ n. let none = none-unbegun turns r k x known units falls past n in simp (n, none) refl)

  -- ---- on any network

  -- it is the units before the end that was in force as it was over, which is not before the last one
  abbrev UpTo : List (List ℕ) → (List (List ℕ) → Type 0) → (ℤ → List SliceUnit) → List SliceUnit → Type 0
  UpTo past is_over slice out = (later : List (List ℕ)) × (before : List (List ℕ)) × (stop : ℤ) × (past ≡ later ++ before) × is_over before × (known before ≡ Some stop) × (x.stop ≤ℤ stop) × (out ≡ slice stop)

  abbrev slice_to : ℤ → List SliceUnit
  slice_to stop = up_to_end stop units

  -- with a packet with which it has begun an end is in force
  in-force : (p : List ℕ) (past : List (List ℕ)) → IsKnown (record { packet = p; past = past }) → begun_now r x known (p ∷ past) ≡ true → (stop : ℤ) × (known (p ∷ past) ≡ Some stop) × (x.stop ≤ℤ stop)
  in-force p past s b = by (known (p ∷ past)) refl s
    where
      by : (o : Option ℤ) → known (p ∷ past) ≡ o → IsSettled x o (r.high (p ∷ past)) → (stop : ℤ) × (known (p ∷ past) ≡ Some stop) × (x.stop ≤ℤ stop)
      by None e n = absurd (begun-past r k w x known (p ∷ past) b n)
      by (Some stop) e (inl same) = (stop, e, omega (arith, ints, same))
      by (Some stop) e (inr ahead) = (stop, e, ahead.1)

  closing-to : (p : List ℕ) (past : List (List ℕ)) → IsKnown (record { packet = p; past = past }) → closed_now r x known past ≡ false → closed_now r x known (p ∷ past) ≡ true → UpTo (p ∷ past) (ClosesWith r x known) slice_to (sent (p ∷ past))
  closing-to p past s still is_shut = by (or-cases (closed_now r x known past) _ is_shut)
    where
      shut : (c : Bool) (a b : List SliceUnit) → c ≡ true → (if c then a else b) ≡ a
      shut true a b h = refl
      shut false a b h = absurd (true≢false (sym h))

      by : (closed_now r x known past ≡ true) ⊎ ((begun_now r x known (p ∷ past) && (r.begins p past && not (holds_now x (known (p ∷ past)) (r.time (p ∷ past))))) ≡ true) → UpTo (p ∷ past) (ClosesWith r x known) slice_to (sent (p ∷ past))
      by (inl b) = absurd (true≢false (sym b ∙ still))
      by (inr g) =
          let e = and-both (begun_now r x known (p ∷ past)) _ g in
          let f = and-both (r.begins p past) _ e.1 in
          let (stop, now, last) = in-force p past s e.0 in (
            [],
            p ∷ past,
            stop,
            refl,
            (still, is_shut),
            now,
            last,
            goes (turns p past) (closed_now r x known past) (begun_now r x known (p ∷ past)) (sent_of_begun turns r x known units p past) (sent past) (turned p past f.0) still e.0
                ∙ shut (closed_now r x known (p ∷ past)) (up_to_known (known (p ∷ past)) units) (longest_front (up_to_known (known (p ∷ past)) units) (r.high (p ∷ past))) is_shut
                ∙ ap (λ o. up_to_known o units) now,
          )

  closed-to : (past : List (List ℕ)) → AlongSeen IsKnown past → closed_now r x known past ≡ true → UpTo past (ClosesWith r x known) slice_to (sent past)
  closed-to [] s h = absurd (true≢false (sym h))
  closed-to (p ∷ past) s h = by_test (closed_now r x known past)
      (λ y. let (later, before, stop, at, over, now, last, out) = closed-to past s.1 y in (p ∷ later, before, stop, ap (λ l. p ∷ l) at, over, now, last, stays turns r k x known units falls p past y ∙ out))
      (λ n. closing-to p past s.0 n h)

  -- all that goes out
  pub all-to : (past : List (List ℕ)) → AlongSeen IsKnown past → known past ≡ Some x.stop →
      UpTo past (IsOverBehind r x known past) (λ stop. if begun_now r x known past then up_to_end stop units else []) (sent past ++ left_at_end turns r x known units past)
  all-to past s e = by_test (begun_now r x known past)
      (λ b. by_test (closed_now r x known past)
      (λ y. let (later, before, stop, at, over, now, last, out) = closed-to past s y in (later, before, stop, at, inl over, now, last, simp (b, y) (append-nil (sent past) ∙ out)))
      (λ n. ([], past, x.stop, refl, inr (refl, n), e, omega (arith, ints), simp (b, n) (whole-front (sent past) (up_to_known (known past) units) (front-trans (sent past) (run_of (up_to_known (known past) units) (r.high past)) (up_to_known (known past) units) (sent-due turns r k x known units falls past n) (run-front (up_to_known (known past) units) (r.high past))) ∙ ap (λ o. up_to_known o units) e))))
      (λ n. let none = none-unbegun turns r k x known units falls past n in by_test (closed_now r x known past)
      (λ y. let (later, before, stop, at, over, now, last, out) = closed-to past s y in (later, before, stop, at, inl over, now, last, simp (n, none) refl))
      (λ m. ([], past, x.stop, refl, inr (refl, m), e, omega (arith, ints), simp (n, none) refl)))

-- ---- of all events

module _ (switched : List ℕ) (ads : Adverts) (steady : AreSteady ads) (events : History) (h : IsHistory (high switched) events) (pid : ℕ) (c : Contains switched pid) (whole : List (List ℕ)) where
  -- with a packet, of an event of the end
  abbrev IsSettledWith : List ℕ → List (List ℕ) → Standing → Type 0
  IsSettledWith p past x = is_played ads x ≡ true → IsSettled (as_played x) (end_known ads events x.start (p ∷ past)) (high switched (p ∷ past))

  settled-with : (p : List ℕ) (past more : List (List ℕ)) → whole ≡ more ++ (p ∷ past) → AllByRecursion (IsSettledWith p past) (events whole)
  settled-with p past more is =
      subst (λ l. AllByRecursion (IsSettledWith p past) (events l)) (sym is)
      (recursion_from_All (IsSettledWith p past) (events (more ++ (p ∷ past)))
      (all-settled ads steady (high switched (p ∷ past)) (events (p ∷ past)) (events (more ++ (p ∷ past))) (h.grows more (p ∷ past)) (h.apart (more ++ (p ∷ past)))))

  abbrev Throughout : Standing → Type 0
  Throughout x = (p : List ℕ) (past more : List (List ℕ)) → whole ≡ more ++ (p ∷ past) → IsSettledWith p past x

  throughout : (es : List Standing) → ((p : List ℕ) (past more : List (List ℕ)) → whole ≡ more ++ (p ∷ past) → AllByRecursion (IsSettledWith p past) es) → AllByRecursion Throughout es
  throughout [] a = tt
  throughout (x ∷ es) a = (λ p past more is. (a p past more is).0, throughout es (λ p past more is. (a p past more is).1))

  known-along : (x : Standing) → is_played ads x ≡ true → Throughout x → (past more : List (List ℕ)) → whole ≡ more ++ past →
      AlongSeen (λ (s : Seen). IsSettled (as_played x) (end_known ads events x.start (s.packet ∷ s.past)) (high switched (s.packet ∷ s.past))) past
  known-along x y t [] more is = tt
  known-along x y t (p ∷ past) more is = (t p past more is y, known-along x y t past (more ++ p ∷ []) (is ∙ sym (append_assoc more (p ∷ []) past)))

  abbrev IsTo : Standing → Type 0
  IsTo = IsSliceToAnEnd switched ads events whole pid

  one-to : (x : Standing) → IsMeant ads (events whole) x → IsSettledAt switched pid ads events whole x → Throughout x → IsTo x
  one-to x m t through y =
      let r = stream switched pid in
      let known = end_known ads events x.start in
      let us = units_for ads pid (meant_by ads (events whole) (as_played x)) in
      let (later, before, stop, at, over, now, last, out) = all-to (begins_one switched) r (pids_are_streams switched pid) (switched_pids_are_within switched pid c) (as_played x) known us
      (ends_never_rise switched pid c ads steady events h (as_played x)) (λ p past b. begins-among switched pid c p past b) whole (known-along x y through whole [] refl) (ap (option_map end_of) (m y)) in
      record {
        later = later;
        before = before;
        stop = stop;
        at = at;
        over = over;
        in_force = now;
        last = last;
        goes = out
            ∙ ap (λ b. if b then up_to_end stop us else []) (t y).0
            ∙ ap (λ us. if begun r (as_played x) whole then up_to_end stop us else []) (ap (units_for ads pid) (m y));
      }

  each-to : (es : List Standing) → AllByRecursion (IsMeant ads (events whole)) es → AllByRecursion (IsSettledAt switched pid ads events whole) es → AllByRecursion Throughout es → AllByRecursion IsTo es
  each-to [] m t n = tt
  each-to (x ∷ es) m t n = (one-to x m.0 t.0 n.0, each-to es m.1 t.1 n.1)

  module _ (ps : List (List ℕ)) (is : whole ≡ reverse ps) where
    abbrev IsWhole : Standing → Type 0
    IsWhole e = is_played ads e ≡ true → IsCrossedOnce (stream switched pid) e.start ps →
        sent_in_all switched ads events whole pid (as_played e) ≡ (if begun (stream switched pid) (as_played e) whole then up_to_end (end_of e) (ads.units e pid) else [])

    one-whole : (x : Standing) → IsMeant ads (events whole) x → IsSettledAt switched pid ads events whole x → Throughout x → IsWhole x
    one-whole x m t through y crossed =
        let r = stream switched pid in
        let k = pids_are_streams switched pid in
        let w = switched_pids_are_within switched pid c in
        let known = end_known ads events x.start in
        let us = units_for ads pid (meant_by ads (events whole) (as_played x)) in
        let falls = ends_never_rise switched pid c ads steady events h (as_played x) in
        let turns : Turns = begins_one switched in
        let Crossed : Seen → Type 0 = λ s. r.begins s.packet s.past ≡ true → passed r x.start s.past ≡ true → below x.start (r.time (s.packet ∷ s.past)) ≡ false in
        let along : AlongSeen Crossed whole = subst (AlongSeen Crossed) (sym is) (seen-along Crossed [] ps tt crossed) in
        all-whole turns r k w (as_played x) known us falls (λ p past b. begins-among switched pid c p past b) whole along (known-along x y through whole [] refl) (ap (option_map end_of) (m y))
        ∙ ap (λ b. if b then up_to_end (end_of x) us else []) (t y).0
        ∙ ap (λ us. if begun r (as_played x) whole then up_to_end (end_of x) us else []) (ap (units_for ads pid) (m y))

    each-whole : (es : List Standing) → AllByRecursion (IsMeant ads (events whole)) es → AllByRecursion (IsSettledAt switched pid ads events whole) es → AllByRecursion Throughout es → AllByRecursion IsWhole es
    each-whole [] m t n = tt
    each-whole (x ∷ es) m t n = (one-whole x m.0 t.0 n.0, each-whole es m.1 t.1 n.1)

pub slices_are_whole : SlicesAreWhole
slices_are_whole switched ads events k ps pid c =
    let whole = reverse ps in
    each-whole switched ads k.steady events k.history pid c whole ps refl (events (reverse ps)) (all-meant ads (events (reverse ps)) (k.history.apart (reverse ps)))
    (recursion_from_All (IsSettledAt switched pid ads events (reverse ps)) (events (reverse ps)) (played_settle switched pid c ads k.steady events k.history [] (reverse ps)))
    (throughout switched ads k.steady events k.history pid c whole (events (reverse ps)) (settled-with switched ads k.steady events k.history pid c whole))

pub slices_go_to_an_end : SlicesGoToAnEnd
slices_go_to_an_end switched ads events k whole pid c =
    each-to switched ads k.steady events k.history pid c whole (events whole) (all-meant ads (events whole) (k.history.apart whole))
    (recursion_from_All (IsSettledAt switched pid ads events whole) (events whole) (played_settle switched pid c ads k.steady events k.history [] whole))
    (throughout switched ads k.steady events k.history pid c whole (events whole) (settled-with switched ads k.steady events k.history pid c whole))
