-- What is known of an event goes by its start and by its ends as they were known: what becomes of it changes nothing of that.
use Rattle.std.proofs.Common.{◌≡◌, ℕ, ◌≤◌, List, [], ◌∷◌, Bool, true, false, not, ◌&&◌, ◌||◌, refl, ap, ◌∙◌, Option, None, Some, length, map, if◌then◌else◌, arith}
use Rattle.std.specs.Prelude.{ℤ, All, find}
use Rattle.std.specs.List.{list_any}
use Rattle.std.specs.Ordering.{int_eq}
use Rattle.std.proofs.lemmas.Int.{ints}
use Rattle.std.proofs.lemmas.List.Elements.{All-head, All-tail}
use Rattle.ts_packet.proofs.Cases.{by_test}
use Rattle.unit_stream.specs.Times.{begins_one, high}
use Rattle.event_table.specs.Standing.{Standing, end_of}
use Rattle.armed_laws.specs.Laws.{Becomes, Grows}
use Rattle.splice_laws.specs.Splicing.{PlayedEvent, SliceUnit, TimedStream, stream, comes}
use Rattle.splice_laws.specs.Settled.{IsAhead, holds_now, stands_now, begun_now, closed_now}
use Rattle.splice_laws.specs.Ends.{longest_front}
use Rattle.splice_plans.specs.declared.plan.Stage.{Stage}
use Rattle.splice_plans.specs.declared.plan.Stage.TheVariants.{Waiting, Running, Closing, Over}
use Rattle.splice_plans.specs.declared.plan.Part.{Part}
use Rattle.splice_plans.specs.declared.plan.Plan.{Plan}
use Rattle.splice_plans.specs.Playing.{Adverts, History, Turns, as_played, end_known, up_to_known, sent_known, sent_of_begun}
use Rattle.splice_plans.specs.Histories.{AreSteady}
use Rattle.splice_plans.specs.Known.{stage_known, crosses_known, crossed_known, nothing_known, padded, part_known, is_crossed_known, plan_known, plan_found}
use Rattle.known_laws.proofs.QuietLemmas.{same-stage, same-part, same-plan}
use Rattle.known_laws.proofs.AheadLemmas.{plan-ahead}

-- ---- an event's own end counts for nothing

module _ (r : TimedStream) (start : ℤ) (stop other : ℤ) (name called : ℕ) (known : List (List ℕ) → Option ℤ) where
  abbrev a : PlayedEvent
  a = record { start = start; stop = stop; name = name }

  abbrev b : PlayedEvent
  b = record { start = start; stop = other; name = called }

  stands-alike : (o h : Option ℤ) → stands_now a o h ≡ stands_now b o h
  stands-alike None h = refl
  stands-alike (Some s) None = refl
  stands-alike (Some s) (Some h) = refl

  holds-alike : (o t : Option ℤ) → holds_now a o t ≡ holds_now b o t
  holds-alike None t = refl
  holds-alike (Some s) None = refl
  holds-alike (Some s) (Some t) = refl

  begun-alike : (past : List (List ℕ)) → begun_now r a known past ≡ begun_now r b known past
  begun-alike [] = refl
  begun-alike (p ∷ past) =
      ap (λ c. c || (comes r start p past && stands_now a (known (p ∷ past)) (r.high past))) (begun-alike past)
      ∙ ap (λ s. begun_now r b known past || (comes r start p past && s)) (stands-alike (known (p ∷ past)) (r.high past))

  closed-alike : (past : List (List ℕ)) → closed_now r a known past ≡ closed_now r b known past
  closed-alike [] = refl
  closed-alike (p ∷ past) =
      ap (λ c. c || (begun_now r a known (p ∷ past) && (r.begins p past && not (holds_now a (known (p ∷ past)) (r.time (p ∷ past)))))) (closed-alike past)
      ∙ ap (λ c. closed_now r b known past || (c && (r.begins p past && not (holds_now a (known (p ∷ past)) (r.time (p ∷ past)))))) (begun-alike (p ∷ past))
      ∙ ap (λ c. closed_now r b known past || (begun_now r b known (p ∷ past) && (r.begins p past && not c))) (holds-alike (known (p ∷ past)) (r.time (p ∷ past)))

  stage-alike : (past : List (List ℕ)) → stage_known r a known past ≡ stage_known r b known past
  stage-alike past = same-stage (closed-alike past) (begun-alike past)

  crosses-alike : (s : Stage) (stop t : Option ℤ) → crosses_known r a known s stop t ≡ crosses_known r b known s stop t
  crosses-alike Waiting stop t = refl
  crosses-alike Running stop t = refl
  crosses-alike Closing stop t = refl
  crosses-alike Over stop t = refl

  crossed-alike : (past : List (List ℕ)) → crossed_known r a known past ≡ crossed_known r b known past
  crossed-alike [] = refl
  crossed-alike (p ∷ past) =
      ap (λ c. c || (r.begins p past && crosses_known r a known (stage_known r a known past) (known (p ∷ past)) (r.time (p ∷ past)))) (crossed-alike past)
      ∙ ap (λ s. crossed_known r b known past || (r.begins p past && crosses_known r a known s (known (p ∷ past)) (r.time (p ∷ past)))) (stage-alike past)
      ∙ ap (λ c. crossed_known r b known past || (r.begins p past && c)) (crosses-alike (stage_known r b known past) (known (p ∷ past)) (r.time (p ∷ past)))

  module _ (turns : Turns) (units : List SliceUnit) where
    begun-sent-alike : (p : List ℕ) (past : List (List ℕ)) → sent_of_begun turns r a known units p past ≡ sent_of_begun turns r b known units p past
    begun-sent-alike p past =
        choose (up_to_known (known (p ∷ past)) units) (longest_front (up_to_known (known (p ∷ past)) units) (r.high (p ∷ past))) (closed-alike (p ∷ past))
      where
        choose : (l m : List SliceUnit) {c d : Bool} → c ≡ d → (if c then l else m) ≡ (if d then l else m)
        choose l m e = rw e refl

    sent-alike : (past : List (List ℕ)) → sent_known turns r a known units past ≡ sent_known turns r b known units past
    sent-alike [] = refl
    sent-alike (p ∷ past) = one (turns p past) (closed-alike past) (begun-alike (p ∷ past)) (begun-sent-alike p past) (sent-alike past)
      where
        one : (t : Bool) {c d g h : Bool} {l m k n : List SliceUnit} → c ≡ d → g ≡ h → l ≡ m → k ≡ n → (if t && (not c && g) then l else k) ≡ (if t && (not d && h) then m else n)
        one t e f i j = rw (e, f, i, j) refl

-- ---- the plan of what becomes of an event

module _ (switched : List ℕ) (ads : Adverts) (events : History) (past : List (List ℕ)) where
  -- a part by the start, the units and what else names the event
  abbrev part_by : ℤ → ℤ → ℕ → (ℕ → List SliceUnit) → ℕ → Part
  part_by start stop name units pid =
      record {
        stage = stage_known (stream switched pid) (record { start = start; stop = stop; name = name }) (end_known ads events start) past;
        sent = length (sent_known (begins_one switched) (stream switched pid) (record { start = start; stop = stop; name = name }) (end_known ads events start) (units pid) past);
      }

  module _ (steady : AreSteady ads) (latest : Option ℤ) (e x : Standing) (b : Becomes latest e x) where
    part-same : (pid : ℕ) → part_known switched ads events x past pid ≡ part_known switched ads events e past pid
    part-same pid =
        ap (λ start. part_by start (end_of x) x.program (ads.units x) pid) b.start
        ∙ ap (λ us. part_by e.start (end_of x) x.program (λ q. us) pid) (steady.units latest e x b pid)
        ∙ same-part (stage-alike (stream switched pid) e.start (end_of x) (end_of e) x.program e.program (end_known ads events e.start) past)
        (ap length (sent-alike (stream switched pid) e.start (end_of x) (end_of e) x.program e.program (end_known ads events e.start) (begins_one switched) (ads.units e pid) past))

    parts-same : (pids : List ℕ) → map (part_known switched ads events x past) pids ≡ map (part_known switched ads events e past) pids
    parts-same [] = refl
    parts-same (pid ∷ pids) =
        ap (λ part. part ∷ map (part_known switched ads events x past) pids) (part-same pid)
        ∙ ap (λ parts. part_known switched ads events e past pid ∷ parts) (parts-same pids)

    crossed-same : (pid : ℕ) → crossed_known (stream switched pid) (as_played x) (end_known ads events x.start) past ≡ crossed_known (stream switched pid) (as_played e) (end_known ads events e.start) past
    crossed-same pid =
        ap (λ start. crossed_known (stream switched pid) (record { start = start; stop = end_of x; name = x.program }) (end_known ads events start) past) b.start
        ∙ crossed-alike (stream switched pid) e.start (end_of x) (end_of e) x.program e.program (end_known ads events e.start) past

    any-same : (pids : List ℕ) → list_any (λ pid. crossed_known (stream switched pid) (as_played x) (end_known ads events x.start) past) pids
        ≡ list_any (λ pid. crossed_known (stream switched pid) (as_played e) (end_known ads events e.start) past) pids
    any-same [] = refl
    any-same (pid ∷ pids) = both (crossed-same pid) (any-same pids)
      where
        both : {a b c d : Bool} → a ≡ b → c ≡ d → (a || c) ≡ (b || d)
        both h k = rw (h, k) refl

    pub any-crossed-same : is_crossed_known switched ads events past x ≡ is_crossed_known switched ads events past e
    any-crossed-same = any-same switched

    plan-same : plan_known switched ads events past x ≡ plan_known switched ads events past e
    plan-same = same-plan (ap padded (parts-same switched)) any-crossed-same

  -- of the event that starts then
  module _ (few : length switched ≤ 8) (steady : AreSteady ads) where
    abbrev latest : Option ℤ
    latest = high switched past

    abbrev found : ℤ → List Standing → Plan
    found start es = plan_found switched ads events past (find (λ (e : Standing). int_eq e.start start) es)

    none-found : (start : ℤ) (later : List Standing) → All (λ (x : Standing). IsAhead latest x.start) later → found start later ≡ nothing_known
    none-found start [] g = refl
    none-found start (x ∷ later) g =
        let ahead = λ (y : Standing). IsAhead latest y.start in
        by_test (int_eq x.start start)
        (λ is. simp is (plan-ahead switched few ads events x past (All-head ahead x later g)))
        (λ is. simp is (none-found start later (All-tail ahead x later g)))

    pub found-same : (start : ℤ) (es later : List Standing) → Grows latest es later → found start later ≡ found start es
    found-same start [] later g = none-found start later g
    found-same start (e ∷ es) [] g = absurd g
    found-same start (e ∷ es) (x ∷ later) g = by_test (int_eq e.start start)
        (λ is. let also : int_eq x.start start ≡ true = ap (λ s. int_eq s start) g.0.start ∙ is in simp (is, also) (plan-same steady latest e x g.0))
        (λ is. let also : int_eq x.start start ≡ false = ap (λ s. int_eq s start) g.0.start ∙ is in simp (is, also) (found-same start es later g.1))

    -- one that is still to come
    pub found-ahead : (start : ℤ) → IsAhead latest start → (es : List Standing) → found start es ≡ nothing_known
    found-ahead start a [] = refl
    found-ahead start a (e ∷ es) = by_test (int_eq e.start start)
        (λ is. let s = same-time e.start start is in simp is (plan-ahead switched few ads events e past (rw s a)))
        (λ is. simp is (found-ahead start a es))
      where
        same-time : (a b : ℤ) → int_eq a b ≡ true → a ≡ b
        same-time a b h = grind (arith, ints, h)
