-- Which units cross an event's start or its end, by the flags that its last end gives.
use Rattle.std.proofs.Common.{◌≡◌, ℕ, List, [], ◌∷◌, Bool, true, false, not, ◌&&◌, ◌||◌, ◌⊎◌, inl, inr, refl, sym, ap, ◌∙◌, Option, None, Some, if◌then◌else◌, arith}
use Rattle.std.specs.Prelude.{ℤ, pos, ◌+ℤ◌, ◌-ℤ◌, ◌≤ℤ◌, Contains}
use Rattle.std.proofs.lemmas.Int.{ints}
use Rattle.std.proofs.lemmas.Bool.{true≢false, or_left}
use Rattle.ts_packet.proofs.Cases.{by_test}
use Rattle.pes_time.specs.Line.{place}
use Rattle.unit_stream.specs.Times.{begins, begins_one, high, unit_time, stamp, splits, timed}
use Rattle.unit_stream.specs.Faults.{unit_fault, scrambled_one, start_fault, jumps, is_far}
use Rattle.unit_stream.specs.declared.fault.UnitFault.{UnitFault}
use Rattle.unit_stream.specs.declared.fault.UnitFault.TheVariants.{Scrambled}
use Rattle.splice_laws.specs.Splicing.{PlayedEvent, TimedStream, at_or_past, below, holds, break_stands, begun, closed}
use Rattle.splice_laws.specs.Laws.{Risen, IsStream}
use Rattle.splice_laws.specs.Settled.{IsAhead, IsSettled, IsSettledSince, NeverPassesHigh}
use Rattle.splice_laws.proofs.SettledLemmas.{flags_settle, begins-among}
use Rattle.splice_laws.proofs.EndLemmas.{not-ahead, settled-low}
use Rattle.splice_laws.proofs.HistoryLemmas.{closed-begun, running-inside}
use Rattle.splice_laws.proofs.TableLemmas.{ahead-before}
use Rattle.splice_plans.specs.declared.plan.Stage.{Stage}
use Rattle.splice_plans.specs.declared.plan.Stage.TheVariants.{Waiting, Running, Over}
use Rattle.splice_plans.specs.Known.{stage_known, below_known, crosses_known, crossed_known}
use Rattle.unit_stream.proofs.ClockLemmas.{jump_sound}
use Rattle.known_laws.proofs.QuietLemmas.{stage_of, same-stage}

-- ---- units and edges

pub below-more : (a b : ℤ) (t : Option ℤ) → a ≤ℤ b → below a t ≡ true → below b t ≡ true
below-more a b None l h = h
below-more a b (Some t) l h = grind (arith, ints)

pub below-less : (a b : ℤ) (t : Option ℤ) → a ≤ℤ b → below b t ≡ false → below a t ≡ false
below-less a b None l h = h
below-less a b (Some t) l h = grind (arith, ints)

-- below the end and not in the event: below the start
pub out-below : (x : PlayedEvent) (t : Option ℤ) → holds x t ≡ false → below x.stop t ≡ true → below x.start t ≡ true
out-below x None h b = b
out-below x (Some t) h b = grind (arith, ints)

pub in-past : (x : PlayedEvent) (t : Option ℤ) → holds x t ≡ true → below x.start t ≡ false
in-past x None h = refl
in-past x (Some t) h = grind (arith, ints)

pub past-below : (edge : ℤ) (t : Option ℤ) → at_or_past edge t ≡ true → below edge t ≡ true → ⊥
past-below edge None h b = true≢false (sym h)
past-below edge (Some t) h b = grind (arith, ints)

-- an event that stands no more has its end behind
pub gone-ahead : (x : PlayedEvent) (h h' : Option ℤ) → Risen h h' → break_stands x h ≡ false → IsAhead h' x.stop → ⊥
gone-ahead x None h' r s a = true≢false s
gone-ahead x (Some h) None r s a = r
gone-ahead x (Some h) (Some h') r s a = grind (arith, ints)

or-later : (a c : Bool) → c ≡ true → (a || (true && c)) ≡ true
or-later true c h = refl
or-later false c h = h

still-closed : (a b g d : Bool) → g ≡ false → (a || (b && (g && d))) ≡ true → a ≡ true
still-closed a b true d n h = absurd (true≢false n)
still-closed true b false d n h = refl
still-closed false true false d n h = h
still-closed false false false d n h = h

pub new-closed : (a b g d : Bool) → a ≡ false → (a || (b && (g && not d))) ≡ true → d ≡ false
new-closed true b g d n h = absurd (true≢false n)
new-closed false true true true n h = absurd (true≢false (sym h))
new-closed false true true false n h = refl
new-closed false true false d n h = absurd (true≢false (sym h))
new-closed false false g d n h = absurd (true≢false (sym h))

pub new-begun : (a b c d : Bool) → a ≡ false → (a || ((b && c) && d)) ≡ true → c ≡ true
new-begun true b c d n h = absurd (true≢false n)
new-begun false true true d n h = refl
new-begun false true false d n h = absurd (true≢false (sym h))
new-begun false false c d n h = absurd (true≢false (sym h))

or-false : (a c : Bool) → c ≡ false → (a || (true && c)) ≡ a
or-false true c h = refl
or-false false c h = h

or-true : (a c : Bool) → a ≡ true → (a || (true && c)) ≡ a
or-true a c h = rw h refl

-- ---- an event in a stream, of which all ends were settled

module _ (r : TimedStream) (k : IsStream r) (w : NeverPassesHigh r) (x : PlayedEvent) (known : List (List ℕ) → Option ℤ) where
  abbrev pub SettledAll : List (List ℕ) → Type 0
  SettledAll [] = Unit {0}
  SettledAll (p ∷ past) = IsSettled x (known (p ∷ past)) (r.high (p ∷ past)) × SettledAll past

  since : (past : List (List ℕ)) → SettledAll past → IsSettledSince r x known past
  since [] s = tt
  since (p ∷ past) s = (inl s.0, since past s.1)

  pub stage-settled : (past : List (List ℕ)) → SettledAll past → stage_known r x known past ≡ stage_of (closed r x past) (begun r x past)
  stage-settled past s = let f = flags_settle r k w x known past (since past s) in same-stage f.1 f.0

  -- an event that has begun has its start behind
  pub begun-behind : (past : List (List ℕ)) → begun r x past ≡ true → IsAhead (r.high past) x.start → ⊥
  begun-behind [] b a = true≢false (sym b)
  begun-behind (p ∷ past) b a = by_test (begun r x past)
      (λ y. begun-behind past y (ahead-before (r.high past) (r.high (p ∷ past)) x.start (k.rises p past) a))
      (λ n. not-ahead x.start (r.time (p ∷ past)) (r.high (p ∷ past)) (w (p ∷ past))
      (new-begun (begun r x past) (r.begins p past) (at_or_past x.start (r.time (p ∷ past))) (break_stands x (r.high past)) n b) a)

  crosses-over : (stop t : Option ℤ) (h : Option ℤ) → (IsAhead h x.start → ⊥) → IsSettled x stop h → below x.stop t ≡ true → below_known r x known stop t ≡ true
  crosses-over None t h past s b = absurd (past s)
  crosses-over (Some stop) t h past s b = below-more x.stop stop t (settled-low x stop h s) b

  -- a unit below the end, of an event that is closed, has crossed it
  module _ (p : List ℕ) (past : List (List ℕ)) (s : SettledAll (p ∷ past)) (c : closed r x (p ∷ past) ≡ true) (b : below x.stop (r.time (p ∷ past)) ≡ true) where
    abbrev crosses_here : Stage → Bool
    crosses_here stage = crosses_known r x known stage (known (p ∷ past)) (r.time (p ∷ past))

    at-stage : (stage : Stage) → stage_known r x known past ≡ stage → crosses_here stage ≡ true → r.begins p past ≡ true → crossed_known r x known (p ∷ past) ≡ true
    at-stage stage is over y =
        ap (λ a. crossed_known r x known past || (a && crosses_here (stage_known r x known past))) y
        ∙ or-later (crossed_known r x known past) (crosses_here (stage_known r x known past)) (ap crosses_here is ∙ over)

    goes-on : r.begins p past ≡ false → (closed r x past ≡ true → below x.stop (r.time past) ≡ true → crossed_known r x known past ≡ true) → crossed_known r x known (p ∷ past) ≡ true
    goes-on n before =
        let was : closed r x past ≡ true = still-closed (closed r x past) (begun r x (p ∷ past)) (r.begins p past) (not (holds x (r.time (p ∷ past)))) n c in
        or_left (crossed_known r x known past) _ (before was (ap (below x.stop) (sym (k.steady p past n)) ∙ b))

    starts : r.begins p past ≡ true → crossed_known r x known (p ∷ past) ≡ true
    starts y = by_test (closed r x past)
        (λ was. at-stage Over (stage-settled past s.1 ∙ ap (λ a. stage_of a (begun r x past)) was)
        (crosses-over (known (p ∷ past)) (r.time (p ∷ past)) (r.high (p ∷ past)) (begun-behind (p ∷ past) (closed-begun r k x (p ∷ past) c)) s.0 b) y)
        (λ was.
        let out : holds x (r.time (p ∷ past)) ≡ false = new-closed (closed r x past) (begun r x (p ∷ past)) (r.begins p past) (holds x (r.time (p ∷ past))) was c in
        let low = out-below x (r.time (p ∷ past)) out b in
        by_test (begun r x past)
        (λ ran. at-stage Running (stage-settled past s.1 ∙ ap (λ a. stage_of a (begun r x past)) was ∙ ap (λ a. stage_of false a) ran) low y)
        (λ not_yet. absurd (past-below x.start (r.time (p ∷ past))
        (new-begun (begun r x past) (r.begins p past) (at_or_past x.start (r.time (p ∷ past))) (break_stands x (r.high past)) not_yet (closed-begun r k x (p ∷ past) c)) low)))

  pub over-crossed : (past : List (List ℕ)) → SettledAll past → closed r x past ≡ true → below x.stop (r.time past) ≡ true → crossed_known r x known past ≡ true
  over-crossed [] s c b = absurd (true≢false (sym c))
  over-crossed (p ∷ past) s c b = by_test (r.begins p past) (starts p past s c b) (λ n. goes-on p past s c b n (over-crossed past s.1))

  -- a unit of an event that stands no more, with the time of the unit before it or at or past the end, crosses nothing
  module _ (order : x.start ≤ℤ x.stop) (p : List ℕ) (past : List (List ℕ)) (y : r.begins p past ≡ true) (gone : break_stands x (r.high past) ≡ false) (s : SettledAll (p ∷ past))
      (near : (r.time (p ∷ past) ≡ r.time past) ⊎ (below x.stop (r.time (p ∷ past)) ≡ false)) where
    last-end : (stop : Option ℤ) → IsSettled x stop (r.high (p ∷ past)) → below x.stop (r.time (p ∷ past)) ≡ false → below_known r x known stop (r.time (p ∷ past)) ≡ false
    last-end None st b = refl
    last-end (Some stop) (inl is) b = ap (λ e. below e (r.time (p ∷ past))) is ∙ b
    last-end (Some stop) (inr a) b = absurd (gone-ahead x (r.high past) (r.high (p ∷ past)) (k.rises p past) gone a.0)

    same-by : (stage : Stage) → stage_known r x known past ≡ stage → crosses_known r x known stage (known (p ∷ past)) (r.time (p ∷ past)) ≡ false → crossed_known r x known (p ∷ past) ≡ crossed_known r x known past
    same-by stage is none =
        ap (λ a. crossed_known r x known past || (a && crosses_known r x known (stage_known r x known past) (known (p ∷ past)) (r.time (p ∷ past)))) y
        ∙ or-false (crossed_known r x known past) (crosses_known r x known (stage_known r x known past) (known (p ∷ past)) (r.time (p ∷ past)))
        (ap (λ st. crosses_known r x known st (known (p ∷ past)) (r.time (p ∷ past))) is ∙ none)

    already : crossed_known r x known past ≡ true → crossed_known r x known (p ∷ past) ≡ crossed_known r x known past
    already h = or_left (crossed_known r x known past) _ h ∙ sym h

    not-below-start : (r.time (p ∷ past) ≡ r.time past) ⊎ (below x.stop (r.time (p ∷ past)) ≡ false) → begun r x past ≡ true → closed r x past ≡ false → below x.start (r.time (p ∷ past)) ≡ false
    not-below-start (inl same) b c = ap (below x.start) same ∙ in-past x (r.time past) (running-inside r k x past b c)
    not-below-start (inr far) b c = below-less x.start x.stop (r.time (p ∷ past)) order far

    when-over : closed r x past ≡ true → (r.time (p ∷ past) ≡ r.time past) ⊎ (below x.stop (r.time (p ∷ past)) ≡ false) → crossed_known r x known (p ∷ past) ≡ crossed_known r x known past
    when-over c (inl same) = by_test (below x.stop (r.time (p ∷ past)))
        (λ b. already (over-crossed past s.1 c (ap (below x.stop) (sym same) ∙ b)))
        (λ b. same-by Over (stage-settled past s.1 ∙ ap (λ a. stage_of a (begun r x past)) c) (last-end (known (p ∷ past)) s.0 b))
    when-over c (inr far) = same-by Over (stage-settled past s.1 ∙ ap (λ a. stage_of a (begun r x past)) c) (last-end (known (p ∷ past)) s.0 far)

    pub gone-crossed : crossed_known r x known (p ∷ past) ≡ crossed_known r x known past
    gone-crossed = by_test (closed r x past) (λ c. when-over c near)
        (λ c. by_test (begun r x past)
        (λ b. same-by Running (stage-settled past s.1 ∙ ap (λ a. stage_of a (begun r x past)) c ∙ ap (λ a. stage_of false a) b) (not-below-start near b c))
        (λ b. same-by Waiting (stage-settled past s.1 ∙ ap (λ a. stage_of a (begun r x past)) c ∙ ap (λ a. stage_of false a) b) refl))

-- ---- units of a PID

near-above : (h t : ℤ) → is_far (t -ℤ h) ≡ false → h ≤ℤ (t +ℤ pos 900000)
near-above h t near = grind (arith, ints)

begun-fault : (scrambled starts : Bool) (f : Option UnitFault) → starts ≡ true → (if scrambled then Some Scrambled else (if starts then f else None)) ≡ None → f ≡ None
begun-fault true starts f y h = absurd (let no : Some Scrambled ≡ None = h in cc)
begun-fault false true f y h = h
begun-fault false false f y h = absurd (true≢false (sym y))

far-by : (x : PlayedEvent) (h : Option ℤ) (s : Option ℕ) (before : Option ℤ) → break_stands x h ≡ false → jumps h s ≡ false → (timed h s before ≡ before) ⊎ (below x.stop (timed h s before) ≡ false)
far-by x h None before gone j = inl refl
far-by x None (Some t) before gone j = absurd (true≢false gone)
far-by x (Some h) (Some t) before gone j = inr (at h (place (Some h) t) x.stop (near-above h (place (Some h) t) j) gone)
  where
    at : (h t stop : ℤ) → h ≤ℤ (t +ℤ pos 900000) → break_stands (record { start = stop; stop = stop; name = 0 }) (Some h) ≡ false → below stop (Some t) ≡ false
    at h t stop l g = grind (arith, ints)

-- a unit that begins without a fault, of an event that stands no more
pub unit-near : (sw : List ℕ) (pid : ℕ) → Contains sw pid → (x : PlayedEvent) (p : List ℕ) (past : List (List ℕ)) → begins pid p past ≡ true → unit_fault sw p past ≡ None → break_stands x (high sw past) ≡ false
    → (unit_time sw pid (p ∷ past) ≡ unit_time sw pid past) ⊎ (below x.stop (unit_time sw pid (p ∷ past)) ≡ false)
unit-near sw pid c x p past y sound gone =
    let one = begins-among sw pid c p past y in
    let fault = begun-fault (scrambled_one sw p) (begins_one sw p past) (start_fault (high sw past) (splits p) (stamp p)) one sound in
    let t : unit_time sw pid (p ∷ past) ≡ timed (high sw past) (stamp p) (unit_time sw pid past) = ap (λ b. if b then timed (high sw past) (stamp p) (unit_time sw pid past) else unit_time sw pid past) y in
    rw t (far-by x (high sw past) (stamp p) (unit_time sw pid past) gone (jump_sound (high sw past) (splits p) (stamp p) fault))
