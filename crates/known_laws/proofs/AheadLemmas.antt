-- Of an event that is still to come nothing is known.
use Rattle.std.proofs.Common.{◌≡◌, ℕ, suc, ◌+◌, ◌-◌, ◌≤◌, List, [], ◌∷◌, ◌++◌, Bool, true, false, not, ◌&&◌, ◌||◌, refl, ap, ◌∙◌, Option, length, map, if◌then◌else◌, arith}
use Rattle.std.specs.Prelude.{ℤ, Contains, replicate}
use Rattle.std.specs.List.{list_any, AllByRecursion}
use Rattle.std.proofs.lemmas.Bool.{true≢false, or_from}
use Rattle.std.proofs.lemmas.List.{length-replicate, replicate-append-replicate}
use Rattle.program_laws.proofs.FaultLemmas.{Each-map}
use Rattle.ts_packet.proofs.Cases.{by_test}
use Rattle.unit_stream.specs.Times.{begins_one, high}
use Rattle.event_table.specs.Standing.{Standing}
use Rattle.splice_laws.specs.Splicing.{PlayedEvent, SliceUnit, TimedStream, stream}
use Rattle.splice_laws.specs.Laws.{IsStream}
use Rattle.splice_laws.specs.Settled.{IsAhead, NeverPassesHigh, begun_now, closed_now, holds_now}
use Rattle.splice_laws.proofs.PidLemmas.{pids_are_streams}
use Rattle.splice_laws.proofs.SettledLemmas.{switched_pids_are_within}
use Rattle.splice_laws.proofs.TableLemmas.{ahead-before}
use Rattle.splice_plans.specs.declared.plan.Stage.TheVariants.{Waiting}
use Rattle.splice_plans.specs.declared.plan.Part.{Part}
use Rattle.splice_plans.specs.Playing.{Adverts, History, Turns, as_played, end_known, sent_known, sent_of_begun}
use Rattle.splice_plans.specs.Turning.{waiting}
use Rattle.splice_plans.specs.Known.{stage_known, crosses_known, crossed_known, nothing_known, padded, part_known, is_crossed_known, plan_known}
use Rattle.splice_plans.proofs.KnownLemmas.{begun-past}
use Rattle.known_laws.proofs.QuietLemmas.{same-stage, same-part, same-plan}

module _ (r : TimedStream) (k : IsStream r) (w : NeverPassesHigh r) (x : PlayedEvent) (known : List (List ℕ) → Option ℤ) where
  earlier : (p : List ℕ) (past : List (List ℕ)) → IsAhead (r.high (p ∷ past)) x.start → IsAhead (r.high past) x.start
  earlier p past a = ahead-before (r.high past) (r.high (p ∷ past)) x.start (k.rises p past) a

  not-begun : (past : List (List ℕ)) → IsAhead (r.high past) x.start → begun_now r x known past ≡ false
  not-begun past a = by_test (begun_now r x known past) (λ b. absurd (begun-past r k w x known past b a)) (λ n. n)

  not-closed : (past : List (List ℕ)) → IsAhead (r.high past) x.start → closed_now r x known past ≡ false
  not-closed [] a = refl
  not-closed (p ∷ past) a =
      neither (closed_now r x known past) (begun_now r x known (p ∷ past)) (r.begins p past && not (holds_now x (known (p ∷ past)) (r.time (p ∷ past))))
      (not-closed past (earlier p past a)) (not-begun (p ∷ past) a)
    where
      neither : (a b c : Bool) → a ≡ false → b ≡ false → (a || (b && c)) ≡ false
      neither a b c h k = rw (h, k) refl

  pub stage-ahead : (past : List (List ℕ)) → IsAhead (r.high past) x.start → stage_known r x known past ≡ Waiting
  stage-ahead past a = same-stage (not-closed past a) (not-begun past a)

  pub sent-ahead : (turns : Turns) (units : List SliceUnit) (past : List (List ℕ)) → IsAhead (r.high past) x.start → sent_known turns r x known units past ≡ []
  sent-ahead turns units [] a = refl
  sent-ahead turns units (p ∷ past) a =
      pick (turns p past) (not (closed_now r x known past)) (begun_now r x known (p ∷ past)) (sent_of_begun turns r x known units p past) (sent_known turns r x known units past) (not-begun (p ∷ past) a)
      ∙ sent-ahead turns units past (earlier p past a)
    where
      pick : (a b c : Bool) (us vs : List SliceUnit) → c ≡ false → (if a && (b && c) then us else vs) ≡ vs
      pick a b true us vs e = absurd (true≢false e)
      pick true true false us vs e = refl
      pick true false false us vs e = refl
      pick false b false us vs e = refl

  pub crossed-ahead : (past : List (List ℕ)) → IsAhead (r.high past) x.start → crossed_known r x known past ≡ false
  crossed-ahead [] a = refl
  crossed-ahead (p ∷ past) a =
      let b = earlier p past a in
      none (crossed_known r x known past) (r.begins p past) (crosses_known r x known (stage_known r x known past) (known (p ∷ past)) (r.time (p ∷ past)))
      (crossed-ahead past b) (ap (λ s. crosses_known r x known s (known (p ∷ past)) (r.time (p ∷ past))) (stage-ahead past b))
    where
      none : (a b c : Bool) → a ≡ false → c ≡ false → (a || (b && c)) ≡ false
      none true b c h k = absurd (true≢false h)
      none false true c h k = k
      none false false c h k = refl

-- ---- in all streams

pub all-in : (pids : List ℕ) → AllByRecursion (Contains pids) pids
all-in [] = tt
all-in (pid ∷ pids) = (first, Each-map (Contains pids) (Contains (pid ∷ pids)) later pids (all-in pids))
  where
    first : Contains (pid ∷ pids) pid
    first = (0, omega arith, refl)

    later : (q : ℕ) → Contains pids q → Contains (pid ∷ pids) q
    later q c = (suc c.0, let l = c.1 in omega (arith, l), c.2)

module _ (switched : List ℕ) (few : length switched ≤ 8) (ads : Adverts) (events : History) (e : Standing) (past : List (List ℕ)) (a : IsAhead (high switched past) e.start) where
  part-ahead : (pid : ℕ) → Contains switched pid → part_known switched ads events e past pid ≡ waiting
  part-ahead pid c =
      let r = stream switched pid in
      let k = pids_are_streams switched pid in
      let w = switched_pids_are_within switched pid c in
      same-part (stage-ahead r k w (as_played e) (end_known ads events e.start) past a)
      (ap length (sent-ahead r k w (as_played e) (end_known ads events e.start) (begins_one switched) (ads.units e pid) past a))

  parts-ahead : (pids : List ℕ) → AllByRecursion (Contains switched) pids → map (part_known switched ads events e past) pids ≡ replicate (length pids) waiting
  parts-ahead [] h = refl
  parts-ahead (pid ∷ pids) h =
      ap (λ part. part ∷ map (part_known switched ads events e past) pids) (part-ahead pid h.0)
      ∙ ap (λ (parts : List Part). waiting ∷ parts) (parts-ahead pids h.1)

  any-ahead : (pids : List ℕ) → AllByRecursion (Contains switched) pids → list_any (λ pid. crossed_known (stream switched pid) (as_played e) (end_known ads events e.start) past) pids ≡ false
  any-ahead [] h = refl
  any-ahead (pid ∷ pids) h =
      or_from _ _ (crossed-ahead (stream switched pid) (pids_are_streams switched pid) (switched_pids_are_within switched pid h.0) (as_played e) (end_known ads events e.start) past a)
      (any-ahead pids h.1)

  filled : (n : ℕ) → n ≤ 8 → padded (replicate n waiting) ≡ replicate 8 waiting
  filled n h =
      ap (λ (m : ℕ). replicate n waiting ++ replicate (8 - m) waiting) (length-replicate n waiting)
      ∙ replicate-append-replicate n (8 - n) waiting
      ∙ ap (λ (m : ℕ). replicate m waiting) (eight n h)
    where
      eight : (n : ℕ) → n ≤ 8 → n + (8 - n) ≡ 8
      eight n h = omega (arith, h)

  pub crossed-none : is_crossed_known switched ads events past e ≡ false
  crossed-none = any-ahead switched (all-in switched)

  pub plan-ahead : plan_known switched ads events past e ≡ nothing_known
  plan-ahead = same-plan (ap padded (parts-ahead switched (all-in switched)) ∙ filled (length switched) few) crossed-none
