-- What goes out of the events with a packet, as they were known then, is what goes out of the events of the end.
use Rattle.std.proofs.Common.{◌≡◌, ℕ, zero, suc, List, [], ◌∷◌, ◌++◌, Bool, true, false, refl, sym, ap, ◌∙◌, Option, if◌then◌else◌, length, drop, take, subst, map}
use Rattle.std.specs.Prelude.{ℤ, Contains, All, flat_map}
use Rattle.std.specs.List.{AllByRecursion}
use Rattle.std.proofs.lemmas.List.Elements.{All-head, All-tail}
use Rattle.ts_packet.proofs.Cases.{by_test}
use Rattle.unit_stream.specs.Times.{begins_one, high}
use Rattle.event_table.specs.Standing.{Standing, end_of}
use Rattle.armed_laws.specs.Laws.{Becomes, Grows}
use Rattle.splice_laws.specs.Splicing.{PlayedEvent, SliceUnit, TimedStream, stream, closed, inserted, rest}
use Rattle.splice_laws.specs.Laws.{IsStream}
use Rattle.splice_laws.specs.Settled.{IsAhead, begun_now, closed_now}
use Rattle.splice_laws.proofs.PidLemmas.{pids_are_streams}
use Rattle.splice_laws.proofs.SettledLemmas.{switched_pids_are_within}
use Rattle.splice_plans.specs.Playing.{Adverts, History, Turns, is_played, played, as_played, end_known, due_at, left_at_end, sent_known}
use Rattle.splice_plans.specs.Laws.{EndsFall}
use Rattle.splice_plans.specs.Histories.{IsHistory, AreSteady, IsSettledAt}
use Rattle.splice_plans.proofs.SentLemmas.{none-unbegun}
use Rattle.splice_plans.proofs.KnownLemmas.{begun-past, ends_never_rise}
use Rattle.switch_laws.specs.Moving.{intervals, meant_by, units_for, sent_in_all, sent_count}
use Rattle.splice_plans.proofs.OrderLemmas.{pieces, with_piece, gated, same-by-start}
use Rattle.switch_laws.proofs.IntervalLemmas.{IsMeant}
use Rattle.switch_laws.proofs.KnownLemmas.{played-before, taken-back, closed-alike, sent-alike}
use Rattle.switch_laws.proofs.OutLemmas.{piece-is, rest-is}

abbrev nothing : List SliceUnit
nothing = []

drop-none : (n : ℕ) → drop n nothing ≡ nothing
drop-none zero = refl
drop-none (suc n) = refl

-- of an event that is closed, or of one that runs on
abbrev pub picked : Bool → Bool → List SliceUnit → List SliceUnit
picked true b us = if b then us else []
picked false b us = if b then [] else us

picked-none : (w b : Bool) → picked w b [] ≡ []
picked-none true true = refl
picked-none true false = refl
picked-none false true = refl
picked-none false false = refl

flat-map : (f : PlayedEvent → List SliceUnit) (es : List Standing) → flat_map f (map as_played es) ≡ flat_map (λ e. f (as_played e)) es
flat-map f [] = refl
flat-map f (e ∷ es) = ap (λ l. f (as_played e) ++ l) (flat-map f es)

module _ (switched : List ℕ) (ads : Adverts) (steady : AreSteady ads) (events : History) (h : IsHistory (high switched) events) (pid : ℕ) (c : Contains switched pid) (whole : List (List ℕ)) where
  abbrev r : TimedStream
  r = stream switched pid

  abbrev k : IsStream (stream switched pid)
  k = pids_are_streams switched pid

  abbrev known : Standing → List (List ℕ) → Option ℤ
  known e = end_known ads events e.start

  abbrev slice : PlayedEvent → List SliceUnit
  slice x = sent_in_all switched ads events whole pid x

  abbrev out : PlayedEvent → List (List ℕ) → ℕ
  out x = sent_count switched ads events whole pid x

  falls : (e : Standing) → EndsFall (stream switched pid) (as_played e) (end_known ads events e.start)
  falls e = ends_never_rise switched pid c ads steady events h (as_played e)

  meant-units : (x : Standing) → IsMeant ads (events whole) x → is_played ads x ≡ true → units_for ads pid (meant_by ads (events whole) (as_played x)) ≡ ads.units x pid
  meant-units x m is = ap (units_for ads pid) (m is)

  module _ (w : Bool) (p : List ℕ) (past more : List (List ℕ)) (is : whole ≡ more ++ (p ∷ past)) where
    abbrev due : Standing → List SliceUnit
    due e = due_at (begins_one switched) r (as_played e) (known e) (ads.units e pid) p past

    -- as it was known then, and as it is in the end
    abbrev pub earlier : Standing → List SliceUnit
    earlier e = picked w (closed_now r (as_played e) (known e) (p ∷ past)) (due e)

    abbrev pub now : PlayedEvent → List SliceUnit
    now x = picked w (closed r x (p ∷ past)) (inserted (slice x) (out x) p past)

    -- what is known of the events of the end
    pub record Ready (x : Standing) : Type 0 where
      pub meant : IsMeant ads (events whole) x
      pub told : IsSettledAt switched pid ads events (p ∷ past) x

    inserted-is : (x : Standing) → IsMeant ads (events whole) x → is_played ads x ≡ true → inserted (slice (as_played x)) (out (as_played x)) p past ≡ due x
    inserted-is x m played =
        let us = units_for ads pid (meant_by ads (events whole) (as_played x)) in
        let turns : Turns = begins_one switched in
        let sent : List (List ℕ) → List SliceUnit = sent_known turns r (as_played x) (known x) us in
        subst (λ l. drop (length (sent past)) (take (length (sent (p ∷ past))) (sent l ++ left_at_end turns r (as_played x) (known x) us l)) ≡ due_at turns r (as_played x) (known x) us p past) (sym is)
        (piece-is turns r k (as_played x) (known x) us (falls x) more past p)
        ∙ ap (λ us. due_at turns r (as_played x) (known x) us p past) (meant-units x m played)

    earlier-now : (x : Standing) → Ready x → is_played ads x ≡ true → earlier x ≡ now (as_played x)
    earlier-now x y played = ap (λ b. picked w b (due x)) (y.told played).1 ∙ ap (picked w (closed r (as_played x) (p ∷ past))) (sym (inserted-is x y.meant played))

    -- by a start, an end, a name and units
    abbrev thus : ℤ → ℤ → ℕ → List SliceUnit → List SliceUnit
    thus start stop name us =
        picked w (closed_now r (record { start = start; stop = stop; name = name }) (end_known ads events start) (p ∷ past))
        (due_at (begins_one switched) r (record { start = start; stop = stop; name = name }) (end_known ads events start) us p past)

    other-end : (start stop other : ℤ) (name called : ℕ) (us : List SliceUnit) → thus start stop name us ≡ thus start other called us
    other-end start stop other name called us =
        let e = end_known ads events start in
        let turns : Turns = begins_one switched in
        let x : PlayedEvent = record { start = start; stop = stop; name = name } in
        let y : PlayedEvent = record { start = start; stop = other; name = called } in
        ap (λ b. picked w b (due_at turns r x e us p past)) (closed-alike r start stop other name called e (p ∷ past))
        ∙ ap (λ l. picked w (closed_now r y e (p ∷ past)) (drop (length l) (sent_known turns r x e us (p ∷ past)))) (sent-alike r start stop other name called e turns us past)
        ∙ ap (λ l. picked w (closed_now r y e (p ∷ past)) (drop (length (sent_known turns r y e us past)) l)) (sent-alike r start stop other name called e turns us (p ∷ past))

    became : (latest : Option ℤ) (e x : Standing) → Becomes latest e x → earlier e ≡ earlier x
    became latest e x b =
        other-end e.start (end_of e) (end_of x) e.program x.program (ads.units e pid)
        ∙ ap (λ start. thus start (end_of x) x.program (ads.units e pid)) (sym b.start)
        ∙ ap (λ us. thus x.start (end_of x) x.program us) (sym (steady.units latest e x b pid))

    -- of one that is still to come nothing goes out
    none-early : (e : Standing) → IsAhead (high switched (p ∷ past)) e.start → earlier e ≡ []
    none-early e ahead =
        let turns : Turns = begins_one switched in
        let b : begun_now r (as_played e) (known e) (p ∷ past) ≡ false = by_test (begun_now r (as_played e) (known e) (p ∷ past))
        (λ y. absurd (begun-past r k (switched_pids_are_within switched pid c) (as_played e) (known e) (p ∷ past) y ahead)) (λ n. n) in
        let none = none-unbegun turns r k (as_played e) (known e) (ads.units e pid) (falls e) (p ∷ past) b in
        ap (picked w (closed_now r (as_played e) (known e) (p ∷ past))) (ap (drop (length (sent_known turns r (as_played e) (known e) (ads.units e pid) past))) none ∙ drop-none (length (sent_known turns r (as_played e) (known e) (ads.units e pid) past)))
        ∙ picked-none w (closed_now r (as_played e) (known e) (p ∷ past))

    abbrev Now : Standing → List SliceUnit
    Now x = now (as_played x)

    gate-yes : (f : Standing → List SliceUnit) (x : Standing) → is_played ads x ≡ true → gated (is_played ads) f x ≡ f x
    gate-yes f x y = simp y refl

    gate-no : (f : Standing → List SliceUnit) (x : Standing) → is_played ads x ≡ false → gated (is_played ads) f x ≡ []
    gate-no f x n = simp n refl

    one : (e x : Standing) → Becomes (high switched (p ∷ past)) e x → Ready x → gated (is_played ads) earlier e ≡ gated (is_played ads) Now x
    one e x b y = by_test (is_played ads x)
        (λ is. gate-yes earlier e (played-before ads steady (high switched (p ∷ past)) e x b is) ∙ became (high switched (p ∷ past)) e x b ∙ earlier-now x y is ∙ sym (gate-yes Now x is))
        (λ is. by_test (is_played ads e)
        (λ was. gate-yes earlier e was ∙ none-early e (taken-back ads steady (high switched (p ∷ past)) e x b was is))
        (λ was. gate-no earlier e was)
        ∙ sym (gate-no Now x is))

    new : (x : Standing) → IsAhead (high switched (p ∷ past)) x.start → Ready x → gated (is_played ads) Now x ≡ []
    new x ahead y = by_test (is_played ads x) (λ is. gate-yes Now x is ∙ sym (earlier-now x y is) ∙ none-early x ahead) (λ is. gate-no Now x is)

    all-new : (later : List Standing) → All (λ (x : Standing). IsAhead (high switched (p ∷ past)) x.start) later → AllByRecursion Ready later → pieces (gated (is_played ads) Now) later ≡ []
    all-new [] g y = refl
    all-new (x ∷ later) g y =
        let ahead = λ (x : Standing). IsAhead (high switched (p ∷ past)) x.start in
        ap (λ l. with_piece x.start l (pieces (gated (is_played ads) Now) later)) (new x (All-head ahead x later g) y.0) ∙ all-new later (All-tail ahead x later g) y.1

    all-pieces : (es later : List Standing) → Grows (high switched (p ∷ past)) es later → AllByRecursion Ready later → pieces (gated (is_played ads) earlier) es ≡ pieces (gated (is_played ads) Now) later
    all-pieces [] later g y = sym (all-new later g y)
    all-pieces (e ∷ es) [] g y = absurd g
    all-pieces (e ∷ es) (x ∷ later) g y =
        ap (λ s. with_piece s (gated (is_played ads) earlier e) (pieces (gated (is_played ads) earlier) es)) (sym g.0.start)
        ∙ ap (λ l. with_piece x.start l (pieces (gated (is_played ads) earlier) es)) (one e x g.0 y.0)
        ∙ ap (with_piece x.start (gated (is_played ads) Now x)) (all-pieces es later g.1 y.1)

    -- of all events
    pub same-pieces : Grows (high switched (p ∷ past)) (events (p ∷ past)) (events whole) → AllByRecursion Ready (events whole) →
        flat_map earlier (played ads (events (p ∷ past))) ≡ flat_map now (intervals ads (events whole))
    same-pieces g y =
        same-by-start (is_played ads) (is_played ads) earlier Now (events (p ∷ past)) (events whole) (all-pieces (events (p ∷ past)) (events whole) g y)
        ∙ sym (flat-map now (played ads (events whole)))

  -- ---- at the end

  pub record Ended (x : Standing) : Type 0 where
    pub meant : IsMeant ads (events whole) x
    pub told : IsSettledAt switched pid ads events whole x

  abbrev pub ending : Standing → List SliceUnit
  ending e = left_at_end (begins_one switched) r (as_played e) (known e) (ads.units e pid) whole

  abbrev pub remaining : PlayedEvent → List SliceUnit
  remaining x = rest r x (slice x) (out x) whole

  end-one : (x : Standing) → Ended x → gated (is_played ads) ending x ≡ gated (is_played ads) (λ e. remaining (as_played e)) x
  end-one x y = by_test (is_played ads x)
      (λ is. let us = units_for ads pid (meant_by ads (events whole) (as_played x)) in
      let turns : Turns = begins_one switched in
      let e : ending x ≡ remaining (as_played x) =
      sym (rest-is turns r k (as_played x) (known x) us (falls x) whole (y.told is) ∙ ap (λ us. left_at_end turns r (as_played x) (known x) us whole) (meant-units x y.meant is)) in
      simp is e)
      (λ is. simp is refl)

  end-pieces : (es : List Standing) → AllByRecursion Ended es → pieces (gated (is_played ads) ending) es ≡ pieces (gated (is_played ads) (λ e. remaining (as_played e))) es
  end-pieces [] y = refl
  end-pieces (x ∷ es) y =
      ap (λ l. with_piece x.start l (pieces (gated (is_played ads) ending) es)) (end-one x y.0) ∙ ap (with_piece x.start (gated (is_played ads) (λ e. remaining (as_played e)) x)) (end-pieces es y.1)

  pub same-end : AllByRecursion Ended (events whole) → flat_map ending (played ads (events whole)) ≡ flat_map remaining (intervals ads (events whole))
  same-end y =
      same-by-start (is_played ads) (is_played ads) ending (λ e. remaining (as_played e)) (events whole) (events whole) (end-pieces (events whole) y)
      ∙ sym (flat-map remaining (played ads (events whole)))
