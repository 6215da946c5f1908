-- A unit start: what goes out before it, the plans behind it, and the streams.
use Rattle.std.proofs.Common.{◌≡◌, ℕ, zero, suc, ◌+◌, ◌%◌, ◌<◌, ◌≤◌, List, [], ◌∷◌, ◌++◌, length, Bool, true, false, if◌then◌else◌, ◌==◌, refl, sym, ap, ◌∙◌, subst, arith, append_assoc, Option, None, Some}
use Rattle.std.specs.Prelude.{ℤ, All, slice_get, slice_index_or, Result, Ok, Err, OnOk}
use Rattle.std.proofs.lemmas.List.{append-nil, length-map}
use Rattle.std.proofs.lemmas.Option.{none-some, same_Some, slice_get_within}
use Rattle.std.proofs.lemmas.Bool.{eq-eqb}
use Rattle.ts_packet.specs.Numbering.{Step, Counts}
use Rattle.unit_stream.specs.Times.{stamp}
use Rattle.unit_stream.specs.UnitPackets.{put_in}
use Rattle.psi_tables.specs.declared.stream.Stream.{Stream}
use Rattle.program_follower.specs.Program.{Program, program_of, pids_of}
use Rattle.program_follower.specs.Following.{streams_of_program}
use Rattle.event_table.specs.Standing.{Standing, IsWithin}
use Rattle.armed_events.specs.Arming.{standing}
use Rattle.armed_events.specs.Valuing.{values_by}
use Rattle.ad_library.specs.Advertisements.{Advertisement}
use Rattle.outgoing_packets.specs.Numbers.{FrontFails}
use Rattle.splice_plans.specs.declared.plan.Plan.{Plan}
use Rattle.splice_plans.specs.declared.stream.SwitchedStream.{SwitchedStream}
use Rattle.splice_plans.specs.Parts.{IsReached}
use Rattle.splice_plans.specs.Fronts.{IsNearTime, IsOther, closing_packets, closed_plans, is_left, AllCount, all_running, running_of, all_ran}
use Rattle.splice_plans.specs.Counters.{PidSteps}
use Rattle.splice_plans.specs.Switching.{Setting, switched_at, streams_at, high_at}
use Rattle.splice_plans.specs.Known.{GoesAs, AllGo, behind_at, plans_at, inside_at}
use Rattle.splice_plans.specs.Stepping.{counted_before, front_by}
use Rattle.plan_laws.specs.Laws.{steps_of, steps_known, Starts, IsReady, closing_before, plans_between, steps_between, running_before, running_in}
use Rattle.splice_playing.specs.Dues.{NoneDue, NoneDueAt, NoneDueWith}
use Rattle.splice_playing.specs.Relations.{BeginsIn}
use Rattle.splice_playing.proofs.DuesLemmas.{all-settle}
use Rattle.splice_playing.proofs.StreamLemmas.{slot-old}
use Rattle.splice_playing.proofs.PlaceLemmas.{clash}
use Rattle.plan_laws.proofs.TimeLemmas.{starts_are_near, high_is_reached, others_lie_as_before}
use Rattle.plan_laws.proofs.JoinedLemmas.{front_goes_out, plans_go_on, counters_go_on}
use Rattle.plan_laws.proofs.NothingLemmas.{nothing_stands}
use Rattle.plan_laws.proofs.LyingLemmas.{units_lie_as_left}

-- ---- answers

pub on-both : {T E : Type 0} (P Q : Type 0) (r : Result T E) → OnOk r P → OnOk r Q → OnOk r (P × Q)
on-both P Q (Ok v) p q = (p, q)
on-both P Q (Err e) p q = tt

pub fails-more : (F : List (List ℕ) → List ℕ → Type 0) (a rest all : List (List ℕ)) → all ≡ a ++ rest → FrontFails a F → FrontFails all F
fails-more F a rest all is f = record {
  put = f.put;
  packet = f.packet;
  left = f.left ++ rest;
  all = is ∙ ap (λ l. l ++ rest) f.all ∙ append_assoc f.put (f.packet ∷ f.left) rest;
  fault = f.fault;
}

pub fails-behind : (F G : List (List ℕ) → List ℕ → Type 0) (a rest all : List (List ℕ)) → all ≡ a ++ rest → ((put : List (List ℕ)) (q : List ℕ) → F put q → G (a ++ put) q) → FrontFails rest F → FrontFails all G
fails-behind F G a rest all is moved f = record {
  put = a ++ f.put;
  packet = f.packet;
  left = f.left;
  all = is ∙ ap (λ l. a ++ l) f.all ∙ sym (append_assoc a f.put (f.packet ∷ f.left));
  fault = moved f.put f.packet f.fault;
}

-- what stands at a place, or stands in for it, stands for itself there
itself : (xs : List SwitchedStream) (n : ℕ) (s : SwitchedStream) → slice_index_or xs n (slice_index_or xs n s) ≡ slice_index_or xs n s
itself [] n s = refl
itself (x ∷ xs) zero s = refl
itself (x ∷ xs) (suc n) s = itself xs n s

-- ---- the streams' counters

counts-by : (t : SwitchedStream) (is_in : ℕ → Bool) (steps : PidSteps) (o : Option ℕ) → GoesAs t is_in steps o → Counts t.counter (steps_of steps o)
counts-by t is_in steps None g = g.0
counts-by t is_in steps (Some pid) g = g.counter

pub all-count : (k : Setting) (past : List (List ℕ)) (streams : List SwitchedStream) (is_in : ℕ → Bool) (steps : PidSteps) → AllGo streams is_in steps (switched_at k past) → AllCount streams (steps_known k past steps)
all-count k past streams is_in steps all = λ i s l. counts-by (slice_index_or streams i s) is_in steps (slice_get (switched_at k past) i) (all i s l)

goes-by : (t : SwitchedStream) (is_in : ℕ → Bool) (steps : PidSteps) (o : Option ℕ) → Counts t.counter (steps_of steps o)
    → ((pid : ℕ) → o ≡ Some pid → t.is_leaving ≡ is_in pid) → (o ≡ None → t.is_leaving ≡ false) → GoesAs t is_in steps o
goes-by t is_in steps None counts some none = (counts, none refl)
goes-by t is_in steps (Some pid) counts some none = record { counter = counts; leaving = some pid refl }

leaves-as : (t : SwitchedStream) (is_in : ℕ → Bool) (steps : PidSteps) (o : Option ℕ) → GoesAs t is_in steps o → (pid : ℕ) → o ≡ Some pid → t.is_leaving ≡ is_in pid
leaves-as t is_in steps None g pid h = absurd (none-some pid h)
leaves-as t is_in steps (Some q) g pid h = g.leaving ∙ ap is_in (same_Some q pid h)

stays-none : (t : SwitchedStream) (is_in : ℕ → Bool) (steps : PidSteps) (o : Option ℕ) → GoesAs t is_in steps o → o ≡ None → t.is_leaving ≡ false
stays-none t is_in steps None g h = g.1
stays-none t is_in steps (Some q) g h = absurd (none-some q (sym h))

-- as many streams as PIDs
pub as-many : (k : Setting) (past : List (List ℕ)) → length (switched_at k past) ≡ length (streams_at k past)
as-many k past = by (program_of (Some k.program) past)
  where
    by : (o : Option Program) → length (pids_of o) ≡ length (streams_of_program o)
    by None = refl
    by (Some r) = length-map r.streams (λ (s : Stream). s.pid)

module _ (k : Setting) (filed : ℕ → Option Advertisement) (listed : List Stream) (number : ℕ) (time high : Option ℕ) (p : List ℕ) (past : List (List ℕ)) (i : BeginsIn k filed listed number time high p past) where
  pub starts : Starts k filed number i.pid p past
  starts = record { of = i.of; begins_it = i.begins_it; sound = i.sound; cue = i.cue; separate = i.separate; adverts_are = i.adverts_are; packed_is = i.packed_is }

  pub near : IsNearTime (high_at k past) time
  near = subst (IsNearTime (high_at k past)) i.stamp_is (starts_are_near k filed number i.pid p past starts)

  pub reached : IsReached (high_at k past) high (high_at k (p ∷ past))
  reached = subst (λ h. IsReached (high_at k past) h (high_at k (p ∷ past))) (sym i.high_is) (high_is_reached k filed number i.pid p past starts)

  pub low : number < 8
  low = let within = slice_get_within (switched_at k past) number i.pid i.of in let few = i.separate.few in omega (arith, within, few)

  pub few-listed : length listed ≤ 8
  few-listed = let few = i.separate.few in let same = ap length i.listed_is ∙ sym (as-many k past) in omega (arith, same, few)

  module _ (within : All (IsWithin (high_at k past)) (standing k.cue_pid (high_at k) past)) (of : Stream) (of_is : of ≡ slice_index_or listed number of) (counted : PidSteps) where
    pub ready : IsReady k filed number of p past i.pid
    ready = record { starts = starts; within = within; of_is = subst (λ ss. of ≡ slice_index_or ss number of) i.listed_is of_is }

    abbrev es : List Standing
    es = standing k.cue_pid (high_at k) past

    abbrev steps : ℕ → List Step
    steps = steps_known k past counted

    pub front-is : front_by k counted p past ≡ closing_before k filed number of p past counted ++ running_before k filed number of p past counted
    front-is = front_goes_out k filed number i.pid of p past ready counted

    -- nothing is due behind it, whatever library says the same of the events
    pub none-due : NoneDueWith k p past
    none-due = λ library is.
        let ready' : IsReady k library number of p past i.pid = record { starts = record { of = i.of; begins_it = i.begins_it; sound = i.sound; cue = i.cue; separate = i.separate; adverts_are = is; packed_is = i.packed_is }; within = within; of_is = ready.of_is } in
        let few : 0 + length (streams_at k past) ≤ 8 = let few = few-listed in let same = ap length i.listed_is in omega (arith, few, same) in
        subst (NoneDue library (streams_at k past) (high_at k (p ∷ past)) es) (plans_go_on k library number i.pid of p past ready')
        (all-settle library (streams_at k past) (high_at k (p ∷ past)) es (plans_between k library number of p past) few)

    module _ (vals : List Plan) (is : vals ≡ values_by (plans_at k past (behind_at k past)) es) where
      -- and before it, where nothing was
      pub none-before : NoneDueAt k past → NoneDue filed listed (high_at k past) es vals
      none-before h =
          subst (λ ss. NoneDue filed ss (high_at k past) es vals) (sym i.listed_is)
          (subst (NoneDue filed (streams_at k past) (high_at k past) es) (sym is) (h filed i.adverts_are))

      pub closing-is : closing_packets filed listed number of (high_at k past) time (steps number) es vals ≡ closing_before k filed number of p past counted
      closing-is =
          ap (λ ss. closing_packets filed ss number of (high_at k past) time (steps number) es vals) i.listed_is
          ∙ ap (λ t. closing_packets filed (streams_at k past) number of (high_at k past) t (steps number) es vals) (sym i.stamp_is)
          ∙ ap (λ vs. closing_packets filed (streams_at k past) number of (high_at k past) (stamp p) (steps number) es vs) is

      pub closed-are : closed_plans filed listed number of (high_at k past) time es vals ≡ plans_between k filed number of p past
      closed-are =
          ap (λ ss. closed_plans filed ss number of (high_at k past) time es vals) i.listed_is
          ∙ ap (λ t. closed_plans filed (streams_at k past) number of (high_at k past) t es vals) (sym i.stamp_is)
          ∙ ap (λ vs. closed_plans filed (streams_at k past) number of (high_at k past) (stamp p) es vs) is

    module _ (vals : List Plan) (is : vals ≡ plans_between k filed number of p past) where
      abbrev after : Option ℤ
      after = high_at k (p ∷ past)

      abbrev between : ℕ → List Step
      between = steps_between k filed number of p past counted

      pub running-is : all_running filed listed after es between vals 0 listed ≡ running_before k filed number of p past counted
      running-is =
          ap (λ ss. all_running filed ss after es between vals 0 ss) i.listed_is
          ∙ ap (λ vs. all_running filed (streams_at k past) after es between vs 0 (streams_at k past)) is

      pub running-in-is : (n : ℕ) → running_of filed listed after es between vals 0 listed n ≡ running_in k filed number of p past counted n
      running-in-is n =
          ap (λ ss. running_of filed ss after es between vals 0 ss n) i.listed_is
          ∙ ap (λ vs. running_of filed (streams_at k past) after es between vs 0 (streams_at k past) n) is

      pub ran-are : all_ran filed listed after es vals 0 listed ≡ values_by (plans_at k past (p ∷ behind_at k past)) es
      ran-are =
          ap (λ ss. all_ran filed ss after es vals 0 ss) i.listed_is
          ∙ ap (λ vs. all_ran filed (streams_at k past) after es vs 0 (streams_at k past)) is
          ∙ plans_go_on k filed number i.pid of p past ready

    -- without a greatest time
    module _ (none : high_at k (p ∷ past) ≡ None) where
      pub front-none : front_by k counted p past ≡ closing_before k filed number of p past counted
      front-none = front-is ∙ ap (λ l. closing_before k filed number of p past counted ++ l) ((nothing_stands k filed number i.pid of p past ready none).0 counted).0 ∙ append-nil (closing_before k filed number of p past counted)

      pub plans-none : plans_between k filed number of p past ≡ values_by (plans_at k past (p ∷ behind_at k past)) es
      plans-none = sym (nothing_stands k filed number i.pid of p past ready none).1 ∙ plans_go_on k filed number i.pid of p past ready

      pub counts-none : (streams : List SwitchedStream) → AllCount streams (steps_between k filed number of p past counted)
          → AllCount streams (λ j. put_in (running_in k filed number of p past counted j) (steps_between k filed number of p past counted j))
      counts-none streams all = λ j s l. subst (λ qs. Counts (slice_index_or streams j s).counter (put_in qs (steps_between k filed number of p past counted j))) (sym (((nothing_stands k filed number i.pid of p past ready none).0 counted).1 j)) (all j s l)

    -- the streams once the rest of what the unit closes is out
    module _ (old turned : List SwitchedStream) (others : (j : ℕ) (s : SwitchedStream) → IsOther j (number % 8) → slice_index_or turned j s ≡ slice_index_or old j s) where
      other-of : (j : ℕ) → (number ≡ j → ⊥) → IsOther j (number % 8)
      other-of j differ = λ h. let l = low in differ (omega (arith, h, l))

      there : (s : SwitchedStream) → (t : SwitchedStream) × (t ≡ slice_index_or turned (number % 8) t) × (slice_index_or turned number s ≡ t)
      there s = (slice_index_or turned (number % 8) s, sym (itself turned (number % 8) s), ap (λ n. slice_index_or turned n s) (let l = low in omega (arith, l)))

      pub counts-between : AllCount old steps → ((t : SwitchedStream) → t ≡ slice_index_or turned (number % 8) t → Counts t.counter (put_in (closing_before k filed number of p past counted) (steps number)))
          → AllCount turned (steps_between k filed number of p past counted)
      counts-between all own = λ j s l. by j s l (j == number) refl
        where
          by : (j : ℕ) (s : SwitchedStream) → j < 8 → (b : Bool) → (j == number) ≡ b → Counts (slice_index_or turned j s).counter (steps_between k filed number of p past counted j)
          by j s l true h =
              let is : number ≡ j = grind (arith, h) in
              let t = there s in
              subst (λ m. Counts (slice_index_or turned m s).counter (steps_between k filed number of p past counted m)) is
              (subst (λ b. Counts (slice_index_or turned number s).counter (if b then put_in (closing_before k filed number of p past counted) (steps number) else steps number)) (sym (eq-eqb number number refl))
              (subst (λ (x : SwitchedStream). Counts x.counter (put_in (closing_before k filed number of p past counted) (steps number))) (sym t.2) (own t.0 t.1)))
          by j s l false h =
              let differ : number ≡ j → ⊥ = λ is. clash (j == number) (eq-eqb j number (sym is)) h in
              subst (λ b. Counts (slice_index_or turned j s).counter (if b then put_in (closing_before k filed number of p past counted) (steps j) else steps j)) (sym h)
              (subst (λ (x : SwitchedStream). Counts x.counter (steps j)) (sym (others j s (other-of j differ))) (all j s l))

      -- and once all is out
      module _ (final : List SwitchedStream) (was : AllGo old (inside_at k past (behind_at k past)) counted (switched_at k past))
          (left : (t : SwitchedStream) → t ≡ slice_index_or turned (number % 8) t → t.is_leaving ≡ inside_at k past (p ∷ behind_at k past) i.pid)
          (keeps : (j : ℕ) (s : SwitchedStream) → (slice_index_or final j s).is_leaving ≡ (slice_index_or turned j s).is_leaving)
          (count : AllCount final (λ j. put_in (running_in k filed number of p past counted j) (steps_between k filed number of p past counted j))) where
        leaves : (j : ℕ) (s : SwitchedStream) → j < 8 → (q : ℕ) → slice_get (switched_at k past) j ≡ Some q → (b : Bool) → (number == j) ≡ b → (slice_index_or final j s).is_leaving ≡ inside_at k past (p ∷ behind_at k past) q
        leaves j s l q h true e =
            let is : number ≡ j = grind (arith, e) in
            let t = there s in
            let same : i.pid ≡ q = same_Some i.pid q (sym i.of ∙ ap (slice_get (switched_at k past)) is ∙ h) in
            keeps j s ∙ ap (λ m. (slice_index_or turned m s).is_leaving) (sym is) ∙ ap (λ (x : SwitchedStream). x.is_leaving) t.2 ∙ left t.0 t.1
            ∙ ap (inside_at k past (p ∷ behind_at k past)) same
        leaves j s l q h false e =
            let differ : number ≡ j → ⊥ = λ is. clash (number == j) (eq-eqb number j is) e in
            keeps j s ∙ ap (λ (x : SwitchedStream). x.is_leaving) (others j s (other-of j differ))
            ∙ leaves-as (slice_index_or old j s) (inside_at k past (behind_at k past)) counted (slice_get (switched_at k past) j) (was j s l) q h
            ∙ sym (others_lie_as_before k filed number i.pid p past starts j q h (λ is. differ (sym is)))

        unused : (j : ℕ) (s : SwitchedStream) → j < 8 → slice_get (switched_at k past) j ≡ None → (slice_index_or final j s).is_leaving ≡ false
        unused j s l h =
            let differ : number ≡ j → ⊥ = λ is. none-some i.pid (sym h ∙ ap (slice_get (switched_at k past)) (sym is) ∙ i.of) in
            keeps j s ∙ ap (λ (x : SwitchedStream). x.is_leaving) (others j s (other-of j differ))
            ∙ stays-none (slice_index_or old j s) (inside_at k past (behind_at k past)) counted (slice_get (switched_at k past) j) (was j s l) h

        pub all-go : AllGo final (inside_at k past (p ∷ behind_at k past)) (counted_before k counted p past) (switched_at k past)
        all-go = λ j s l.
            goes-by (slice_index_or final j s) (inside_at k past (p ∷ behind_at k past)) (counted_before k counted p past) (slice_get (switched_at k past) j)
            (subst (Counts (slice_index_or final j s).counter) (counters_go_on k filed number i.pid of p past ready counted j) (count j s l))
            (λ q h. leaves j s l q h (number == j) refl) (unused j s l)

    -- the stream in which it begins, before it, and whether its unit is left out
    module _ (old : List SwitchedStream) (size : number % 8 < length old) (was : AllGo old (inside_at k past (behind_at k past)) counted (switched_at k past)) (s : SwitchedStream) (s_is : s ≡ slice_index_or old (number % 8) s) where
      at-number : slice_index_or old number s ≡ s
      at-number = slot-old old number s size s s low ∙ sym s_is

      pub count-of : Counts s.counter (steps number)
      count-of = subst (λ (x : SwitchedStream). Counts x.counter (steps number)) at-number (all-count k past old (inside_at k past (behind_at k past)) counted was number s low)

      was-in : s.is_leaving ≡ inside_at k past (behind_at k past) i.pid
      was-in = ap (λ (x : SwitchedStream). x.is_leaving) (sym at-number)
          ∙ leaves-as (slice_index_or old number s) (inside_at k past (behind_at k past)) counted (slice_get (switched_at k past) number) (was number s low) i.pid i.of

      pub left-is : (vals : List Plan) → vals ≡ plans_between k filed number of p past → is_left number (high_at k past) time s.is_leaving es vals ≡ inside_at k past (p ∷ behind_at k past) i.pid
      left-is vals is =
          ap (λ b. is_left number (high_at k past) time b es vals) was-in
          ∙ ap (λ t. is_left number (high_at k past) t (inside_at k past (behind_at k past) i.pid) es vals) (sym i.stamp_is)
          ∙ ap (λ vs. is_left number (high_at k past) (stamp p) (inside_at k past (behind_at k past) i.pid) es vs) is
          ∙ units_lie_as_left k filed number i.pid of p past ready
