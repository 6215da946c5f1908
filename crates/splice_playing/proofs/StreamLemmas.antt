-- What goes out of the events that run, stream by stream.
use Rattle.std.proofs.Common.{◌≡◌, ℕ, zero, suc, ◌+◌, ◌%◌, ◌<◌, ◌≤◌, ◌==◌, refl, sym, ap, ◌∙◌, subst, arith, append_assoc, List, [], ◌∷◌, ◌++◌, length, drop, Bool, true, false, if◌then◌else◌, Option, add-one}
use Rattle.std.specs.Prelude.{ℤ, slice_index_or, slice_set}
use Rattle.std.proofs.lemmas.Bool.{true≢false}
use Rattle.std.proofs.lemmas.List.{append-nil, get_or_default, get_or-set_same, get_or-set_other}
use Rattle.psi_tables.specs.declared.stream.Stream.{Stream}
use Rattle.ts_packet.specs.Numbering.{Step, Counts}
use Rattle.unit_stream.specs.UnitPackets.{put_in}
use Rattle.outgoing_packets.specs.Numbers.{FrontFails}
use Rattle.event_table.specs.Standing.{Standing}
use Rattle.ad_library.specs.Advertisements.{Advertisement}
use Rattle.splice_plans.specs.declared.plan.Plan.{Plan}
use Rattle.splice_plans.specs.declared.stream.SwitchedStream.{SwitchedStream}
use Rattle.splice_plans.specs.Parts.{beside, running_packets, ran_plans}
use Rattle.splice_plans.specs.Fronts.{AllCount, all_running, running_of, all_ran}
use Rattle.ts_packet.proofs.Cases.{test-same}
use Rattle.plan_laws.proofs.PartLemmas.{small-number}

-- the front of a list falls away one by one
drop-suc : {X : Type 0} (xs : List X) (n : ℕ) (d : X) → n < length xs → drop n xs ≡ slice_index_or xs n d ∷ drop (suc n) xs
drop-suc [] n d h = absurd (omega (arith, h))
drop-suc (x ∷ xs) zero d h = refl
drop-suc (x ∷ xs) (suc n) d h = drop-suc xs n d (omega (arith, h))

pub drop-one : {X : Type 0} (xs : List X) (n : ℕ) (d : X) → n < length xs → drop n xs ≡ slice_index_or xs n d ∷ drop (n + 1) xs
drop-one xs n d h = drop-suc xs n d h ∙ ap (λ m. slice_index_or xs n d ∷ drop m xs) (sym (add-one n))

pub drop-past : {X : Type 0} (xs : List X) (n : ℕ) → length xs ≤ n → drop n xs ≡ []
drop-past [] zero h = refl
drop-past [] (suc n) h = refl
drop-past (x ∷ xs) zero h = absurd (omega (arith, h))
drop-past (x ∷ xs) (suc n) h = drop-past xs n (omega (arith, h))

apart : (a b : ℕ) → a ≡ b → (a == b) ≡ false → ⊥
apart a b is k = true≢false (sym (test-same a) ∙ ap (λ m. a == m) is ∙ k)

other-number : (a b : ℕ) → (a ≡ b → ⊥) → (a == b) ≡ false
other-number a b h = by (a == b) refl
  where
    by : (x : Bool) → (a == b) ≡ x → (a == b) ≡ false
    by true k = absurd (h (grind (arith, k)))
    by false k = k

module _ (filed : ℕ → Option Advertisement) (streams : List Stream) (high : Option ℤ) (es : List Standing) (steps : ℕ → List Step) where
  abbrev ran : List Plan → ℕ → Stream → List Plan
  ran plans number of = ran_plans filed streams number of high (beside es plans)

  abbrev puts : List Plan → ℕ → Stream → List (List ℕ)
  puts plans number of = running_packets filed streams number of high (steps number) (beside es plans)

  abbrev running-in : List Plan → ℕ → List Stream → ℕ → List (List ℕ)
  running-in plans number rest i = running_of filed streams high es steps plans number rest i

  none-before : (plans : List Plan) (number : ℕ) (rest : List Stream) (i : ℕ) → i < number → running-in plans number rest i ≡ []
  none-before plans number [] i h = refl
  none-before plans number (of ∷ rest) i h =
      ap (λ b. if b then puts plans number of else running-in (ran plans number of) (number + 1) rest i) (other-number number i (λ is. omega (arith, is, h)))
      ∙ none-before (ran plans number of) (number + 1) rest i (omega (arith, h))

  pub record RunSoFar (old now : List Plan) (at : ℕ) (H K : Option (List ℕ) → List (List ℕ) → Type 0) (counters : List SwitchedStream) : Type 0 where
    pub done : List (List ℕ)
    pub all : all_running filed streams high es steps old 0 streams ≡ done ++ all_running filed streams high es steps now at (drop at streams)
    pub holds : (begin : Option (List ℕ)) (ps : List (List ℕ)) → H begin ps → K begin (ps ++ done)
    pub fronts : ℕ → List (List ℕ)
    pub later : (i : ℕ) → at ≤ i → fronts i ≡ []
    pub parts : (i : ℕ) → running-in old 0 streams i ≡ fronts i ++ running-in now at (drop at streams) i
    pub counted : AllCount counters (λ i. put_in (fronts i) (steps i))

  pub none-run : (old : List Plan) (H : Option (List ℕ) → List (List ℕ) → Type 0) (counters : List SwitchedStream) → AllCount counters steps → RunSoFar old old 0 H H counters
  none-run old H counters counts = record {
    done = [];
    all = refl;
    holds = λ begin ps h. rw (append-nil ps) h;
    fronts = λ i. [];
    later = λ i l. refl;
    parts = λ i. refl;
    counted = counts;
  }

  -- all have run
  module _ (old now : List Plan) (at : ℕ) (H K : Option (List ℕ) → List (List ℕ) → Type 0) (counters : List SwitchedStream) (i : RunSoFar old now at H K counters) (over : length streams ≤ at) where
    pub run-holds : (begin : Option (List ℕ)) (ps : List (List ℕ)) → H begin ps → K begin (ps ++ all_running filed streams high es steps old 0 streams)
    run-holds begin ps h =
        subst (λ qs. K begin (ps ++ qs)) (sym (i.all ∙ ap (λ rest. i.done ++ all_running filed streams high es steps now at rest) (drop-past streams at over) ∙ append-nil i.done)) (i.holds begin ps h)

    pub run-counts : AllCount counters (λ n. put_in (running-in old 0 streams n) (steps n))
    run-counts = λ n s l.
        subst (λ qs. Counts (slice_index_or counters n s).counter (put_in qs (steps n)))
        (sym (i.parts n ∙ ap (λ rest. i.fronts n ++ running-in now at rest n) (drop-past streams at over) ∙ append-nil (i.fronts n))) (i.counted n s l)

  -- one stream more
  module _ (old now new : List Plan) (at : ℕ) (H K L : Option (List ℕ) → List (List ℕ) → Type 0) (counters counters' : List SwitchedStream) (i : RunSoFar old now at H K counters) (below : at < length streams)
      (of : Stream) (of_is : of ≡ slice_index_or streams at of) (plans : new ≡ ran now at of) where
    here : drop at streams ≡ of ∷ drop (at + 1) streams
    here = drop-one streams at of below ∙ ap (λ x. x ∷ drop (at + 1) streams) (sym of_is)

    abbrev more : List (List ℕ)
    more = puts now at of

    all-is : all_running filed streams high es steps old 0 streams ≡ i.done ++ (more ++ all_running filed streams high es steps new (at + 1) (drop (at + 1) streams))
    all-is =
        i.all ∙ ap (λ rest. i.done ++ all_running filed streams high es steps now at rest) here
        ∙ ap (λ vs. i.done ++ (more ++ all_running filed streams high es steps vs (at + 1) (drop (at + 1) streams))) (sym plans)

    fronts-now : ℕ → List (List ℕ)
    fronts-now n = if at == n then more else i.fronts n

    front-here : (n : ℕ) → at ≡ n → fronts-now n ≡ more
    unfolding fronts-now
    front-here n is = rw (sym is) (rw (test-same at) refl)

    front-there : (n : ℕ) → (at ≡ n → ⊥) → fronts-now n ≡ i.fronts n
    unfolding fronts-now
    front-there n differ = rw (other-number at n differ) refl

    part-is : (n : ℕ) → running-in old 0 streams n ≡ i.fronts n ++ (if at == n then more else running-in new (at + 1) (drop (at + 1) streams) n)
    part-is n =
        i.parts n ∙ ap (λ rest. i.fronts n ++ running-in now at rest n) here
        ∙ ap (λ vs. i.fronts n ++ (if at == n then more else running-in vs (at + 1) (drop (at + 1) streams) n)) (sym plans)

    parts-now : (n : ℕ) → running-in old 0 streams n ≡ fronts-now n ++ running-in new (at + 1) (drop (at + 1) streams) n
    parts-now n = by (at == n) refl
      where
        by : (b : Bool) → (at == n) ≡ b → running-in old 0 streams n ≡ fronts-now n ++ running-in new (at + 1) (drop (at + 1) streams) n
        by true k =
            let is : at ≡ n = grind (arith, k) in
            part-is n ∙ ap (λ b. i.fronts n ++ (if b then more else running-in new (at + 1) (drop (at + 1) streams) n)) k
            ∙ ap (λ l. l ++ more) (i.later n (omega (arith, is)))
            ∙ sym (append-nil more)
            ∙ ap (λ l. more ++ l) (sym (none-before new (at + 1) (drop (at + 1) streams) n (omega (arith, is))))
            ∙ ap (λ l. l ++ running-in new (at + 1) (drop (at + 1) streams) n) (sym (front-here n is))
        by false k =
            part-is n ∙ ap (λ b. i.fronts n ++ (if b then more else running-in new (at + 1) (drop (at + 1) streams) n)) k
            ∙ ap (λ l. l ++ running-in new (at + 1) (drop (at + 1) streams) n) (sym (front-there n (λ is. apart at n is k)))

    pub one-stops : (F : List (List ℕ) → List (List ℕ) → List ℕ → Type 0) (begin : Option (List ℕ)) (ps : List (List ℕ)) → H begin ps
        → ((qs : List (List ℕ)) → K begin qs → FrontFails more (λ put p. F qs put p))
        → ((put : List (List ℕ)) (p : List ℕ) → F (ps ++ i.done) put p → F ps (i.done ++ put) p)
        → FrontFails (all_running filed streams high es steps old 0 streams) (λ put p. F ps put p)
    one-stops F begin ps h fails moved =
        let f = fails (ps ++ i.done) (i.holds begin ps h) in
        let later = all_running filed streams high es steps (ran now at of) (at + 1) (drop (at + 1) streams) in
        record {
          put = i.done ++ f.put;
          packet = f.packet;
          left = f.left ++ later;
          all = i.all ∙ ap (λ rest. i.done ++ all_running filed streams high es steps now at rest) here ∙ ap (λ l. i.done ++ (l ++ later)) f.all
              ∙ ap (λ l. i.done ++ l) (append_assoc f.put (f.packet ∷ f.left) later) ∙ sym (append_assoc i.done f.put (f.packet ∷ (f.left ++ later)));
          fault = moved f.put f.packet f.fault;
        }

    pub one-run : ((begin : Option (List ℕ)) (ps : List (List ℕ)) → K begin ps → L begin (ps ++ more))
        → ((s : SwitchedStream) → at < 8 → Counts (slice_index_or counters at s).counter (steps at) → Counts (slice_index_or counters' at s).counter (put_in more (steps at)))
        → ((n : ℕ) (s : SwitchedStream) → (at ≡ n → ⊥) → slice_index_or counters' n s ≡ slice_index_or counters n s)
        → RunSoFar old new (at + 1) H L counters'
    one-run holds counted others = record {
      done = i.done ++ more;
      all = all-is ∙ sym (append_assoc i.done more (all_running filed streams high es steps new (at + 1) (drop (at + 1) streams)));
      holds = λ begin ps h. subst (λ l. L begin l) (append_assoc ps i.done more) (holds begin (ps ++ i.done) (i.holds begin ps h));
      fronts = fronts-now;
      later = λ n l. front-there n (λ is. omega (arith, is, l)) ∙ i.later n (omega (arith, l));
      parts = parts-now;
      counted = λ n s l. counts-now n s l (at == n) refl;
    }
      where
        counts-now : (n : ℕ) (s : SwitchedStream) → n < 8 → (b : Bool) → (at == n) ≡ b → Counts (slice_index_or counters' n s).counter (put_in (fronts-now n) (steps n))
        counts-now n s l true k =
            let is : at ≡ n = grind (arith, k) in
            subst (λ m. Counts (slice_index_or counters' m s).counter (put_in (fronts-now m) (steps m))) is
            (subst (λ qs. Counts (slice_index_or counters' at s).counter (put_in qs (steps at))) (sym (front-here at refl))
            (counted s (omega (arith, is, l)) (subst (λ qs. Counts (slice_index_or counters at s).counter (put_in qs (steps at))) (i.later at (omega arith)) (i.counted at s (omega (arith, is, l))))))
        counts-now n s l false k =
            let differ : at ≡ n → ⊥ = λ is. apart at n is k in
            subst (λ (t : SwitchedStream). Counts t.counter (put_in (fronts-now n) (steps n))) (sym (others n s differ))
            (subst (λ qs. Counts (slice_index_or counters n s).counter (put_in qs (steps n))) (sym (front-there n differ)) (i.counted n s l))

-- ---- the plans

pub one-ran : (filed : ℕ → Option Advertisement) (streams : List Stream) (high : Option ℤ) (es : List Standing) (now new : List Plan) (at : ℕ) (of : Stream) → at < length streams → of ≡ slice_index_or streams at of
    → new ≡ ran_plans filed streams at of high (beside es now)
    → all_ran filed streams high es new (at + 1) (drop (at + 1) streams) ≡ all_ran filed streams high es now at (drop at streams)
one-ran filed streams high es now new at of below of_is plans =
    ap (λ vs. all_ran filed streams high es vs (at + 1) (drop (at + 1) streams)) plans
    ∙ sym (ap (λ rest. all_ran filed streams high es now at rest) (drop-one streams at of below ∙ ap (λ x. x ∷ drop (at + 1) streams) (sym of_is)))

-- ---- the streams

pub some-there : {X : Type 0} (xs : List X) (n : ℕ) → n < length xs → (x : X) × (x ≡ slice_index_or xs n x)
some-there [] n h = absurd (omega (arith, h))
some-there (x ∷ xs) zero h = (x, refl)
some-there (x ∷ xs) (suc n) h = some-there xs n (omega (arith, h))

module _ (xs : List SwitchedStream) (at : ℕ) (y : SwitchedStream) (below : at % 8 < length xs) where
  pub slot-new : (s : SwitchedStream) → at < 8 → slice_index_or (slice_set xs (at % 8) y) at s ≡ y
  slot-new s l = subst (λ n. slice_index_or (slice_set xs (at % 8) y) n s ≡ y) (small-number at l) (get_or-set_same xs (at % 8) y s below)

  pub slot-old : (r s : SwitchedStream) → at < 8 → slice_index_or xs at s ≡ slice_index_or xs (at % 8) r
  slot-old r s l = ap (λ n. slice_index_or xs n s) (sym (small-number at l)) ∙ get_or_default xs (at % 8) s r below

  pub slot-other : (n : ℕ) (s : SwitchedStream) → at < 8 → (at ≡ n → ⊥) → slice_index_or (slice_set xs (at % 8) y) n s ≡ slice_index_or xs n s
  slot-other n s l differ = get_or-set_other xs (at % 8) n y s (λ is. differ (sym (is ∙ small-number at l)))

  pub slot-leaving : (r : SwitchedStream) → y.is_leaving ≡ (slice_index_or xs (at % 8) r).is_leaving → (n : ℕ) (s : SwitchedStream) → (slice_index_or (slice_set xs (at % 8) y) n s).is_leaving ≡ (slice_index_or xs n s).is_leaving
  slot-leaving r same n s = by ((at % 8) == n) refl
    where
      by : (b : Bool) → ((at % 8) == n) ≡ b → (slice_index_or (slice_set xs (at % 8) y) n s).is_leaving ≡ (slice_index_or xs n s).is_leaving
      by true k =
          let is : at % 8 ≡ n = grind (arith, k) in
          subst (λ m. (slice_index_or (slice_set xs (at % 8) y) m s).is_leaving ≡ (slice_index_or xs m s).is_leaving) is
          (ap (λ (t : SwitchedStream). t.is_leaving) (get_or-set_same xs (at % 8) y s below) ∙ same ∙ ap (λ (t : SwitchedStream). t.is_leaving) (get_or_default xs (at % 8) r s below))
      by false k = ap (λ (t : SwitchedStream). t.is_leaving) (get_or-set_other xs (at % 8) n y s (λ is. apart (at % 8) n (sym is) k))
