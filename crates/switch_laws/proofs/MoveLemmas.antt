-- The moves of a run, by what was known at each packet, are those of the splice of the events of the end.
use Rattle.std.proofs.Common.{◌≡◌, ℕ, List, [], ◌∷◌, ◌++◌, Bool, true, false, not, ◌&&◌, ◌||◌, refl, sym, ap, ◌∙◌, append_assoc, if◌then◌else◌, subst, map, length}
use Rattle.std.specs.Prelude.{Contains, All, flat_map, int_lt}
use Rattle.std.specs.List.{AllByRecursion}
use Rattle.std.proofs.lemmas.List.Elements.{All-head, All-tail, All-cons, All-nil, All-contains_itself, recursion_from_All}
use Rattle.ts_packet.specs.Fields.{payload_on}
use Rattle.ts_packet.specs.Runs.{Seen, seen_after, onto}
use Rattle.ts_packet.proofs.Cases.{by_test}
use Rattle.unit_stream.specs.Times.{high, unit_time, begins_one}
use Rattle.unit_stream.specs.Fates.{is_left_out}
use Rattle.event_table.specs.Standing.{Standing}
use Rattle.armed_laws.specs.Laws.{Grows}
use Rattle.splice_laws.specs.Splicing.{PlayedEvent, SliceUnit, stream, inserted, rest, outside}
use Rattle.splice_laws.specs.Laws.{CountsOver, AreOrdered}
use Rattle.splice_laws.specs.Streams.{all_closing, all_running, is_dropped}
use Rattle.splice_laws.proofs.PidLemmas.{pids_are_streams}
use Rattle.splice_laws.proofs.SettledLemmas.{switched_pids_are_within}
use Rattle.output_laws.specs.Output.{Keep, Leave}
use Rattle.output_laws.specs.Spliced.{puts_on, puts_each, puts_at, moves_after}
use Rattle.splice_plans.specs.Playing.{Adverts, History, is_played, played, put_by_start, as_played, end_known, is_inside, sent_known, left_at_end}
use Rattle.splice_plans.specs.Switching.{puts_by, puts_before, fate}
use Rattle.splice_plans.specs.Histories.{IsHistory, AreSteady, IsSettledAt}
use Rattle.splice_plans.proofs.KnownLemmas.{ends_never_rise, played_settle}
use Rattle.splice_plans.proofs.GrowLemmas.{onto_grows}
use Rattle.switch_laws.specs.Moving.{intervals, meant_by, units_for, sent_in_all, sent_count, moves_from}
use Rattle.switch_laws.proofs.BringLemmas.{closing_rule, running_rule, end_rule}
use Rattle.switch_laws.proofs.IntervalLemmas.{IsMeant, all-meant, intervals-ordered, outside-any}
use Rattle.switch_laws.proofs.KnownLemmas.{any-held}
use Rattle.switch_laws.proofs.OutLemmas.{counts}
use Rattle.switch_laws.proofs.PieceLemmas.{Ready, Ended, same-pieces, same-end}

-- ---- lists

-- what is put on each of these PIDs
each-pid : (pids : List ℕ) (es : List Standing) (rule : ℕ → Standing → List SliceUnit) (f : ℕ → List SliceUnit) → AllByRecursion (λ pid. flat_map (rule pid) es ≡ f pid) pids → puts_by pids es rule ≡ puts_each pids f
each-pid [] es rule f a = refl
each-pid (pid ∷ pids) es rule f a =
    ap (λ us. puts_on pid us ++ puts_by pids es rule) a.0 ∙ ap (λ ms. puts_on pid (f pid) ++ ms) (each-pid pids es rule f a.1)

-- what holds of each played event, holds of each as an interval
module _ (ads : Adverts) (Q : PlayedEvent → Type 0) where
  all-put : (e : Standing) (es : List Standing) → Q (as_played e) → All Q (map as_played es) → All Q (map as_played (put_by_start e es))
  all-put e [] q a = All-cons Q (as_played e) [] q (All-nil Q)
  all-put e (y ∷ es) q a = by_test (int_lt e.start y.start)
      (λ c. simp c (All-cons Q (as_played e) (map as_played (y ∷ es)) q a))
      (λ c. simp c (All-cons Q (as_played y) (map as_played (put_by_start e es)) (All-head Q (as_played y) (map as_played es) a) (all-put e es q (All-tail Q (as_played y) (map as_played es) a))))

  pub all-intervals : (es : List Standing) → AllByRecursion (λ e. is_played ads e ≡ true → Q (as_played e)) es → All Q (intervals ads es)
  all-intervals [] a = All-nil Q
  all-intervals (e ∷ es) a = by_test (is_played ads e)
      (λ y. simp y (all-put e (played ads es) (a.0 y) (all-intervals es a.1)))
      (λ n. simp n (all-intervals es a.1))

module _ (switched : List ℕ) (ads : Adverts) (steady : AreSteady ads) (events : History) (h : IsHistory (high switched) events) (whole : List (List ℕ)) where
  abbrev xs : List PlayedEvent
  xs = intervals ads (events whole)

  abbrev slice : ℕ → PlayedEvent → List SliceUnit
  slice pid x = sent_in_all switched ads events whole pid x

  abbrev out : ℕ → PlayedEvent → List (List ℕ) → ℕ
  out pid x = sent_count switched ads events whole pid x

  pub ordered : AreOrdered (intervals ads (events whole))
  ordered = intervals-ordered ads (events whole) (h.apart whole)

  settled : (pid : ℕ) → Contains switched pid → (more past : List (List ℕ)) → whole ≡ more ++ past → AllByRecursion (IsSettledAt switched pid ads events past) (events whole)
  settled pid c more past is =
      subst (λ l. AllByRecursion (IsSettledAt switched pid ads events past) (events l)) (sym is)
      (recursion_from_All (IsSettledAt switched pid ads events past) (events (more ++ past)) (played_settle switched pid c ads steady events h more past))

  grown : (more past : List (List ℕ)) → whole ≡ more ++ past → Grows (high switched past) (events past) (events whole)
  grown more past is = subst (λ l. Grows (high switched past) (events past) (events l)) (sym is) (h.grows more past)

  ready : (pid : ℕ) (c : Contains switched pid) (w : Bool) (p : List ℕ) (past more : List (List ℕ)) (is : whole ≡ more ++ (p ∷ past)) → (es : List Standing) → AllByRecursion (IsMeant ads (events whole)) es → AllByRecursion (IsSettledAt switched pid ads events (p ∷ past)) es →
      AllByRecursion (Ready switched ads steady events h pid c whole w p past more is) es
  ready pid c w p past more is [] m t = tt
  ready pid c w p past more is (x ∷ es) m t = (record { meant = m.0; told = t.0 }, ready pid c w p past more is es m.1 t.1)

  ended : (pid : ℕ) (c : Contains switched pid) → (es : List Standing) → AllByRecursion (IsMeant ads (events whole)) es → AllByRecursion (IsSettledAt switched pid ads events whole) es → AllByRecursion (Ended switched ads steady events h pid c whole) es
  ended pid c [] m t = tt
  ended pid c (x ∷ es) m t = (record { meant = m.0; told = t.0 }, ended pid c es m.1 t.1)

  meant : AllByRecursion (IsMeant ads (events whole)) (events whole)
  meant = all-meant ads (events whole) (h.apart whole)

  module _ (p : List ℕ) (past more : List (List ℕ)) (is : whole ≡ more ++ (p ∷ past)) where
    closing-pids : (pids : List ℕ) → AllByRecursion (Contains switched) pids →
        AllByRecursion (λ pid. flat_map (closing_rule switched ads events p past pid) (played ads (events (p ∷ past))) ≡ all_closing (stream switched pid) xs (λ (x : PlayedEvent). inserted (slice pid x) (out pid x)) p past) pids
    closing-pids [] c = tt
    closing-pids (pid ∷ pids) c =
        (same-pieces switched ads steady events h pid c.0 whole true p past more is (grown more (p ∷ past) is) (ready pid c.0 true p past more is (events whole) meant (settled pid c.0 more (p ∷ past) is)), closing-pids pids c.1)

    running-pids : (pids : List ℕ) → AllByRecursion (Contains switched) pids →
        AllByRecursion (λ pid. flat_map (running_rule switched ads events p past pid) (played ads (events (p ∷ past))) ≡ all_running (stream switched pid) xs (λ (x : PlayedEvent). inserted (slice pid x) (out pid x)) p past) pids
    running-pids [] c = tt
    running-pids (pid ∷ pids) c =
        (same-pieces switched ads steady events h pid c.0 whole false p past more is (grown more (p ∷ past) is) (ready pid c.0 false p past more is (events whole) meant (settled pid c.0 more (p ∷ past) is)), running-pids pids c.1)

    all-pids : AllByRecursion (Contains switched) switched
    all-pids = recursion_from_All (Contains switched) switched (All-contains_itself switched)

    pub same-puts : puts_before switched ads events p past ≡ puts_at switched xs slice out p past
    same-puts =
        let es = played ads (events (p ∷ past)) in
        ap (λ ms. ms ++ puts_by switched es (running_rule switched ads events p past))
        (each-pid switched es (closing_rule switched ads events p past) (λ pid. all_closing (stream switched pid) xs (λ (x : PlayedEvent). inserted (slice pid x) (out pid x)) p past) (closing-pids switched all-pids))
        ∙ ap (λ ms. puts_each switched (λ pid. all_closing (stream switched pid) xs (λ (x : PlayedEvent). inserted (slice pid x) (out pid x)) p past) ++ ms)
        (each-pid switched es (running_rule switched ads events p past) (λ pid. all_running (stream switched pid) xs (λ (x : PlayedEvent). inserted (slice pid x) (out pid x)) p past) (running-pids switched all-pids))

    -- whether the packet's unit lies in a played event
    same-time : (pid : ℕ) → Contains switched pid → is_inside ads (events (p ∷ past)) (unit_time switched pid (p ∷ past)) ≡ not (outside xs (unit_time switched pid (p ∷ past)))
    same-time pid c =
        let t = unit_time switched pid (p ∷ past) in
        any-held ads steady (high switched (p ∷ past)) t (switched_pids_are_within switched pid c (p ∷ past)) (events (p ∷ past)) (events whole) (grown more (p ∷ past) is)
        ∙ sym (outside-any t (is_played ads) (events whole))

    same-fates : (pids : List ℕ) → AllByRecursion (Contains switched) pids → is_left_out (λ pid time. is_inside ads (events (p ∷ past)) time) switched p past pids ≡ is_dropped switched xs p past pids
    same-fates [] c = refl
    same-fates (pid ∷ pids) c =
        ap (λ b. (payload_on pid p && b) || is_left_out (λ pid time. is_inside ads (events (p ∷ past)) time) switched p past pids) (same-time pid c.0)
        ∙ ap (λ b. (payload_on pid p && not (outside xs (unit_time switched pid (p ∷ past)))) || b) (same-fates pids c.1)

    pub same-fate : fate switched ads events p past ≡ (if is_dropped switched xs p past switched then Leave p else Keep p)
    same-fate = ap (λ b. if b then Leave p else Keep p) (same-fates switched all-pids)

  end-pids : (pids : List ℕ) → AllByRecursion (Contains switched) pids →
      AllByRecursion (λ pid. flat_map (end_rule switched ads events whole pid) (played ads (events whole)) ≡ flat_map (λ (x : PlayedEvent). rest (stream switched pid) x (slice pid x) (out pid x) whole) xs) pids
  end-pids [] c = tt
  end-pids (pid ∷ pids) c = (same-end switched ads steady events h pid c.0 whole (ended pid c.0 (events whole) meant (settled pid c.0 [] whole refl)), end-pids pids c.1)

  -- THE MOVES
  moves-at-end : (past : List (List ℕ)) → whole ≡ past → moves_from switched ads events past [] ≡ moves_after switched xs slice out past []
  moves-at-end past is =
      subst (λ l. moves_from switched ads events l [] ≡ moves_after switched xs slice out l []) is
      (each-pid switched (played ads (events whole)) (end_rule switched ads events whole) (λ pid. flat_map (λ (x : PlayedEvent). rest (stream switched pid) x (slice pid x) (out pid x) whole) xs)
      (end-pids switched (recursion_from_All (Contains switched) switched (All-contains_itself switched))))

  pub same-moves : (past ps : List (List ℕ)) → whole ≡ onto past ps → moves_from switched ads events past ps ≡ moves_after switched xs slice out past ps
  same-moves past [] is = moves-at-end past is
  same-moves past (p ∷ ps) is =
      let g = onto_grows (p ∷ past) ps in
      let there : whole ≡ g.0 ++ (p ∷ past) = is ∙ g.1 in
      ap (λ ms. ms ++ (fate switched ads events p past ∷ moves_from switched ads events (p ∷ past) ps)) (same-puts p past g.0 there)
      ∙ ap (λ m. puts_at switched xs slice out p past ++ (m ∷ moves_from switched ads events (p ∷ past) ps)) (same-fate p past g.0 there)
      ∙ ap (λ ms. puts_at switched xs slice out p past ++ ((if is_dropped switched xs p past switched then Leave p else Keep p) ∷ ms)) (same-moves (p ∷ past) ps is)

  -- ---- the count

  module _ (pid : ℕ) (c : Contains switched pid) where
    -- an event is told at each past of the run
    abbrev IsToldThrough : Standing → Type 0
    IsToldThrough x = (more past : List (List ℕ)) → whole ≡ more ++ past → IsSettledAt switched pid ads events past x

    told-each : (es : List Standing) → ((more past : List (List ℕ)) → whole ≡ more ++ past → AllByRecursion (IsSettledAt switched pid ads events past) es) → AllByRecursion IsToldThrough es
    told-each [] a = tt
    told-each (x ∷ es) a = (λ more past is. (a more past is).0, told-each es (λ more past is. (a more past is).1))

    abbrev CountsHere : PlayedEvent → Seen → Type 0
    CountsHere x s = CountsOver (stream switched pid) x (slice pid x) (out pid x) s

    abbrev sent_of : Standing → List SliceUnit → List (List ℕ) → List SliceUnit
    sent_of x us = sent_known (begins_one switched) (stream switched pid) (as_played x) (end_known ads events x.start) us

    abbrev all_of : Standing → List SliceUnit → List (List ℕ) → List SliceUnit
    all_of x us l = sent_of x us l ++ left_at_end (begins_one switched) (stream switched pid) (as_played x) (end_known ads events x.start) us l

    counted-in : (x : Standing) (us : List SliceUnit) (p : List ℕ) (past l : List (List ℕ)) → l ≡ whole
        → CountsOver (stream switched pid) (as_played x) (all_of x us l) (λ q. length (sent_of x us q)) (record { packet = p; past = past })
        → CountsOver (stream switched pid) (as_played x) (all_of x us whole) (λ q. length (sent_of x us q)) (record { packet = p; past = past })
    counted-in x us p past l e n = subst (λ l. CountsOver (stream switched pid) (as_played x) (all_of x us l) (λ q. length (sent_of x us q)) (record { packet = p; past = past })) e n

    count-one : (x : Standing) → IsToldThrough x → is_played ads x ≡ true → (past ps : List (List ℕ)) → whole ≡ onto past ps → All (CountsHere (as_played x)) (seen_after past ps)
    count-one x t is past [] e = All-nil (CountsHere (as_played x))
    count-one x t is past (p ∷ ps) e =
        let g = onto_grows (p ∷ past) ps in
        let there : whole ≡ g.0 ++ (p ∷ past) = e ∙ g.1 in
        let before : whole ≡ (g.0 ++ p ∷ []) ++ past = there ∙ sym (append_assoc g.0 (p ∷ []) past) in
        let us = units_for ads pid (meant_by ads (events whole) (as_played x)) in
        let n = counts (begins_one switched) (stream switched pid) (pids_are_streams switched pid) (as_played x) (end_known ads events x.start) us
        (ends_never_rise switched pid c ads steady events h (as_played x)) g.0 past p (t (g.0 ++ p ∷ []) past before is) (t g.0 (p ∷ past) there is) in
        All-cons (CountsHere (as_played x)) (record { packet = p; past = past }) (seen_after (p ∷ past) ps)
        (counted-in x us p past (g.0 ++ (p ∷ past)) (sym there) n)
        (count-one x t is (p ∷ past) ps e)

    pub all-counted : (ps : List (List ℕ)) → whole ≡ onto [] ps → All (λ (x : PlayedEvent). All (CountsHere x) (seen_after [] ps)) (intervals ads (events whole))
    all-counted ps is = all-intervals ads (λ (x : PlayedEvent). All (CountsHere x) (seen_after [] ps)) (events whole) (each (events whole) (told-each (events whole) (settled pid c)))
      where
        each : (es : List Standing) → AllByRecursion IsToldThrough es → AllByRecursion (λ e. is_played ads e ≡ true → All (CountsHere (as_played e)) (seen_after [] ps)) es
        each [] t = tt
        each (x ∷ es) t = (λ y. count-one x t.0 y [] ps is, each es t.1)
