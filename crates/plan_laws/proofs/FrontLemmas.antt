-- What goes out before a packet that begins a unit, and what the counters have counted then: the rest of what the packet closes, and then what is due of what runs on.
use Rattle.std.proofs.Common.{◌≡◌, ℕ, zero, suc, ◌+◌, ◌==◌, ◌<◌, ◌≤◌, List, [], ◌∷◌, ◌++◌, Bool, true, false, ◌⊎◌, inl, inr, refl, sym, ap, ◌∙◌, subst, Option, None, Some, arith, if◌then◌else◌, length, map}
use Rattle.std.specs.Prelude.{ℤ, slice_get, slice_index_or, flat_map}
use Rattle.std.proofs.lemmas.Bool.{true≢false, eqb-true}
use Rattle.std.proofs.lemmas.Bool.Decides.{nat_tests}
use Rattle.std.proofs.lemmas.List.{append-nil, length-map}
use Rattle.std.proofs.lemmas.Option.{slice_get_cases, slice_get_within}
use Rattle.std.proofs.Math.ListN.{get_or}
use Rattle.ts_packet.proofs.Cases.{by_test, test-same}
use Rattle.ts_packet.specs.Numbering.{Step}
use Rattle.pes_time.specs.Line.{place}
use Rattle.unit_stream.specs.Times.{begins, begins_one, stamp, high}
use Rattle.unit_stream.specs.UnitPackets.{put_in}
use Rattle.psi_tables.specs.declared.stream.Stream.{Stream}
use Rattle.event_table.specs.Standing.{Standing, stands}
use Rattle.armed_events.specs.Valuing.{values_by}
use Rattle.ad_library.specs.Advertisements.{Advertisement}
use Rattle.splice_laws.specs.Splicing.{SliceUnit}
use Rattle.output_laws.specs.Output.{Move}
use Rattle.splice_plans.specs.Counters.{PidSteps, counted_after, out_behind}
use Rattle.splice_plans.specs.declared.plan.Plan.{Plan}
use Rattle.splice_plans.specs.Playing.{History, played}
use Rattle.splice_plans.specs.Switching.{puts_by, puts_before}
use Rattle.splice_plans.specs.Histories.{IsHistory}
use Rattle.splice_plans.specs.Adverts.{packed_units}
use Rattle.splice_plans.specs.Parts.{beside, ran_plans}
use Rattle.splice_plans.specs.Fronts.{closing_packets, closed_plans, all_running, running_of}
use Rattle.splice_plans.specs.Known.{AreSeparate, plan_at}
use Rattle.program_follower.specs.Faults.{pids_in}
use Rattle.ts_packet.proofs.FieldLemmas.{among-get}
use Rattle.plan_laws.specs.Laws.{steps_of, steps_with}
use Rattle.plan_laws.proofs.PlayedLemmas.{put_on, counted-append, out-append, steps-other}
use Rattle.plan_laws.proofs.PlanLemmas.{IsOf, pick-second}
use Rattle.plan_laws.proofs.RunningLemmas.{first}
use Rattle.plan_laws.proofs.StandingLemmas.{plans-are, all-pass, others-begin-not, get-stream, once-place}
use Rattle.plan_laws.proofs.RunLemmas.{small, all-are-told, told, is-of, all-of, time-same, between-are}
use Rattle.plan_laws.proofs.StreamsLemmas.{ads, es, turned, put, Counted, all-put}
use Rattle.plan_laws.proofs.CountersLemmas.{all-counted}
use Rattle.plan_laws.proofs.ClosingLemmas.{close, other-none, unstamped-none, closing-put}

-- ---- in one stream alone

puts-none : (f : ℕ → List SliceUnit) (xs : List ℕ) → ((j q : ℕ) → slice_get xs j ≡ Some q → f q ≡ []) → flat_map (λ (q : ℕ). put_on q (f q)) xs ≡ []
puts-none f [] h = refl
puts-none f (y ∷ xs) h = ap (λ us. put_on y us ++ flat_map (λ (q : ℕ). put_on q (f q)) xs) (h 0 y refl) ∙ puts-none f xs (λ j q is. h (suc j) q is)

puts-one : (f : ℕ → List SliceUnit) (xs : List ℕ) (n pid : ℕ) → slice_get xs n ≡ Some pid → ((j q : ℕ) → slice_get xs j ≡ Some q → (j ≡ n → ⊥) → f q ≡ [])
    → flat_map (λ (q : ℕ). put_on q (f q)) xs ≡ put_on pid (f pid)
puts-one f [] n pid is h = absurd (cc)
puts-one f (y ∷ xs) zero pid is h =
    let same : y ≡ pid = cc in
    ap (λ ms. put_on y (f y) ++ ms) (puts-none f xs (λ j q k. h (suc j) q k (λ z. absurd (omega (arith, z)))))
    ∙ append-nil (put_on y (f y)) ∙ ap (λ q. put_on q (f q)) same
puts-one f (y ∷ xs) (suc n) pid is h =
    ap (λ us. put_on y us ++ flat_map (λ (q : ℕ). put_on q (f q)) xs) (h 0 y refl (λ z. absurd (omega (arith, z))))
    ∙ puts-one f xs n pid is (λ j q k differ. h (suc j) q k (λ z. differ (omega (arith, z))))

-- nothing runs where no stream is
running-past : (filed : ℕ → Option Advertisement) (streams : List Stream) (top : Option ℤ) (es : List Standing) (steps : ℕ → List Step) (i : ℕ) (plans : List Plan) (number : ℕ) (rest : List Stream)
    → number + length rest ≤ i → running_of filed streams top es steps plans number rest i ≡ []
running-past filed streams top es steps i plans number [] l = refl
running-past filed streams top es steps i plans number (of ∷ rest) l =
    pick-second _ _ (number == i) (below number i (omega (arith, l)))
    ∙ running-past filed streams top es steps i (ran_plans filed streams number of top (beside es plans)) (number + 1) rest (omega (arith, l))
  where
    below : (a c : ℕ) → a < c → (a == c) ≡ false
    below a c l = grind (arith, nat_tests, l)

module _ (filed : ℕ → Option Advertisement) (streams : List Stream) (events : History) (p : List ℕ) (past : List (List ℕ))
    (h : IsHistory (high (pids_in streams)) events) (stay : events (p ∷ past) ≡ events past) (s : AreSeparate (pids_in streams)) (n pid : ℕ) (there : slice_get (pids_in streams) n ≡ Some pid) (b : begins pid p past ≡ true) where
  abbrev pids : List ℕ
  pids = pids_in streams

  abbrev standing : List Standing
  standing = es filed streams events p past h stay s n pid there b

  abbrev turn : begins_one pids p past ≡ true
  turn = turned filed streams events p past h stay s n pid there b

  abbrev firsts : List Plan
  firsts = map (first filed streams events p past h turn) standing

  abbrev all_played : List Standing
  all_played = played (ads filed streams events p past h stay s n pid there b) (events past)

  abbrev rest_at : ℕ → Standing → List SliceUnit
  rest_at q e = close filed streams events p past h turn q e

  abbrev due_at : ℕ → Standing → List SliceUnit
  due_at q e = put filed streams events p past h stay s n pid there b q e

  -- the moves that put in what is left of what the packet closes
  abbrev closing : List Move
  closing = puts_by pids all_played rest_at

  abbrev running : List Move
  running = puts_by pids all_played due_at

  abbrev left : List SliceUnit
  left = flat_map (rest_at pid) all_played

  closing-one : closing ≡ put_on pid left
  closing-one = puts-one (λ q. flat_map (rest_at q) all_played) pids n pid there
      (λ j q is differ. other-none filed streams events p past h turn j q is (others-begin-not pids s n pid there p past b j q is differ) all_played)

  module _ (of : Stream) (of_is : of ≡ slice_index_or streams n of) (now : PidSteps) where
    abbrev rest_packets_of : Option ℕ → List Step → List (List ℕ)
    rest_packets_of st steps = closing_packets filed streams n of (high pids past) st steps standing firsts

    here : IsOf filed streams events p past n pid of
    here =
        let g = get-stream streams n pid of there of_is in
        subst (λ q. IsOf filed streams events p past n q of) g.0 (is-of filed streams events p past h stay s n pid there b n of g.1 of_is (there ∙ ap (λ z. let o : Option ℕ = Some z in o) (sym g.0)))

    rest-by : (st : Option ℕ) → stamp p ≡ st → (done : PidSteps)
        → (rest_packets_of st (done pid) ≡ out_behind packed_units done (put_on pid left))
        × (((counted_after packed_units done (put_on pid left)) pid) ≡ put_in (rest_packets_of st (done pid)) (done pid))
    rest-by None e done =
        let none : left ≡ [] = unstamped-none filed streams events p past h turn n pid there (time-same filed streams events p past h stay s n pid there b None e) (events past) (all-are-told filed streams events p past h stay s n pid there b) in
        (sym (ap (λ us. out_behind packed_units done (put_on pid us)) none), ap (λ us. ((counted_after packed_units done (put_on pid us)) pid)) none)
    rest-by (Some t) e done =
        closing-put filed streams events p past h turn n pid there (small filed streams events p past h stay s n pid there b) (others-begin-not pids s n pid there p past b) b
        (place (high pids past) t) (time-same filed streams events p past h stay s n pid there b (Some t) e) of here
        (events past) (all-are-told filed streams events p past h stay s n pid there b) standing refl (told filed streams events p past h stay s n pid there b) (all-pass (stands (high pids past)) (events past)) done

    -- ---- behind any steps

    abbrev steps_then : ℕ → List Step
    steps_then i = steps_of now (slice_get pids i)

    abbrev plans_then : List Plan
    plans_then = values_by (plan_at pids (ads filed streams events p past h stay s n pid there b) events past (events past)) standing

    abbrev closing_out : List (List ℕ)
    closing_out = closing_packets filed streams n of (high pids past) (stamp p) (steps_then n) standing plans_then

    abbrev steps_next : ℕ → List Step
    steps_next = steps_with n closing_out steps_then

    abbrev plans_next : List Plan
    plans_next = closed_plans filed streams n of (high pids past) (stamp p) standing plans_then

    closing-by : closing_out ≡ rest_packets_of (stamp p) (now pid)
    closing-by =
        ap (λ steps. closing_packets filed streams n of (high pids past) (stamp p) steps standing plans_then) (ap (steps_of now) there)
        ∙ ap (closing_packets filed streams n of (high pids past) (stamp p) (now pid) standing)
        (plans-are pids (ads filed streams events p past h stay s n pid there b) events past (events past) (h.apart past) (stands (high pids past)))

    closing-out : closing_out ≡ out_behind packed_units now closing
    closing-out = closing-by ∙ (rest-by (stamp p) refl now).0 ∙ ap (out_behind packed_units now) (sym closing-one)

    closing-counted : ((counted_after packed_units now closing) pid) ≡ put_in closing_out (now pid)
    closing-counted =
        ap (λ ms. ((counted_after packed_units now ms) pid)) closing-one ∙ (rest-by (stamp p) refl now).1
        ∙ ap (λ ps. put_in ps (now pid)) (sym closing-by)

    next-counted : Counted filed streams events p past h stay s n pid there b 0 steps_next (counted_after packed_units now closing)
    next-counted j q is l = by_test (j == n)
        (λ e.
        let same : j ≡ n = eqb-true j n e in
        let o : Some pid ≡ Some q = sym there ∙ ap (slice_get pids) (sym same) ∙ is in
        let q_is : pid ≡ q = cc in
        pick-first _ _ (j == n) e
        ∙ ap (λ o. put_in closing_out (steps_of now o)) is
        ∙ ap (λ z. put_in closing_out (now z)) (sym q_is)
        ∙ sym closing-counted
        ∙ ap (λ z. ((counted_after packed_units now closing) z)) q_is)
        (λ e.
        pick-second _ _ (j == n) e
        ∙ ap (steps_of now) is
        ∙ sym (ap (λ ms. ((counted_after packed_units now ms) q)) closing-one ∙ steps-other packed_units pid q now left (differ j q is e)))
      where
        pick-first : (x y : List Step) (c : Bool) → c ≡ true → (if c then x else y) ≡ x
        pick-first x y true k = refl
        pick-first x y false k = absurd (true≢false (sym k))

        differ : (j q : ℕ) → slice_get pids j ≡ Some q → (j == n) ≡ false → (pid == q) ≡ false
        differ j q is e = by_test (pid == q)
            (λ t.
            let same : pid ≡ q = eqb-true pid q t in
            let here : slice_get pids j ≡ Some pid = is ∙ ap (λ z. let o : Option ℕ = Some z in o) (sym same) in
            let at : j ≡ n = once-place pids pid j n (s.alone pid (among-get pids n pid there)) here there in
            absurd (true≢false (sym (ap (λ m. m == n) at ∙ test-same n) ∙ e)))
            (λ t. t)

    -- ---- the whole front

    abbrev all_puts : List Move
    all_puts = puts_before pids (ads filed streams events p past h stay s n pid there b) events p past

    puts-are : all_puts ≡ closing ++ running
    puts-are = ap (λ evs. puts_by pids (played (ads filed streams events p past h stay s n pid there b) evs) rest_at ++ puts_by pids (played (ads filed streams events p past h stay s n pid there b) evs) due_at) stay

    abbrev running_out : List (List ℕ)
    running_out = all_running filed streams (high pids (p ∷ past)) standing steps_next plans_next 0 streams

    running-out : running_out ≡ out_behind packed_units (counted_after packed_units now closing) running
    running-out =
        ap (λ plans. all_running filed streams (high pids (p ∷ past)) standing steps_next plans 0 streams) (between-are filed streams events p past h stay s n pid there b of of_is)
        ∙ all-put filed streams events p past h stay s n pid there b streams 0 (all-of filed streams events p past h stay s n pid there b [] streams 0 refl refl) (counted_after packed_units now closing) steps_next next-counted

    pub front-is : out_behind packed_units now all_puts ≡ closing_out ++ running_out
    front-is =
        ap (out_behind packed_units now) puts-are ∙ out-append packed_units now closing running
        ∙ ap (λ ps. ps ++ out_behind packed_units (counted_after packed_units now closing) running) (sym closing-out)
        ∙ ap (λ ps. closing_out ++ ps) (sym running-out)

    -- ---- the counters

    abbrev running_in : ℕ → List (List ℕ)
    running_in i = running_of filed streams (high pids (p ∷ past)) standing steps_next plans_next 0 streams i

    abbrev all_steps : PidSteps
    all_steps = counted_after packed_units now all_puts

    counted-there : (i q : ℕ) → slice_get pids i ≡ Some q → put_in (running_in i) (steps_next i) ≡ all_steps q
    counted-there i q is =
        ap (λ plans. put_in (running_of filed streams (high pids (p ∷ past)) standing steps_next plans 0 streams i) (steps_next i)) (between-are filed streams events p past h stay s n pid there b of of_is)
        ∙ all-counted filed streams events p past h stay s n pid there b streams 0 (all-of filed streams events p past h stay s n pid there b [] streams 0 refl refl) (counted_after packed_units now closing) steps_next next-counted i q is (omega arith)
        (let l = slice_get_within pids i q is in let m = length-map streams (λ (x : Stream). x.pid) in omega (arith, l, m))
        ∙ ap (λ (f : PidSteps). f q) (sym (counted-append now closing running) ∙ ap (counted_after packed_units now) (sym puts-are))

    none-there : (i : ℕ) → length pids ≤ i → slice_get pids i ≡ None → put_in (running_in i) (steps_next i) ≡ []
    none-there i beyond is =
        ap (λ ps. put_in ps (steps_next i)) (running-past filed streams (high pids (p ∷ past)) standing steps_next i plans_next 0 streams
        (let m = length-map streams (λ (x : Stream). x.pid) in omega (arith, beyond, m)))
        ∙ pick-second _ _ (i == n) (other (i == n) refl) ∙ ap (steps_of now) is
      where
        other : (c : Bool) → (i == n) ≡ c → (i == n) ≡ false
        other true e =
            let o : Some pid ≡ None = sym there ∙ ap (slice_get pids) (sym (eqb-true i n e)) ∙ is in
            absurd (cc)
        other false e = e

    pub counters-are : (i : ℕ) → put_in (running_in i) (steps_next i) ≡ steps_of all_steps (slice_get pids i)
    counters-are i = by (slice_get_cases pids i).1
      where
        by : ((q : ℕ) × (i < length pids) × (slice_get pids i ≡ Some q) × (get_or pids i q ≡ q)) ⊎ ((length pids ≤ i) × (slice_get pids i ≡ None)) → put_in (running_in i) (steps_next i) ≡ steps_of all_steps (slice_get pids i)
        by (inl (q, l, is, at)) = counted-there i q is ∙ sym (ap (steps_of all_steps) is)
        by (inr (l, is)) = none-there i l is ∙ sym (ap (steps_of all_steps) is)
