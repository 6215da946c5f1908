-- What is left of the advertisements that run at the end of a stretch are packets of theirs.
use Rattle.std.proofs.Common.{◌≡◌, ◌==◌, ◌||◌, inl, inr, ℕ, zero, suc, ◌<◌, List, [], ◌∷◌, ◌++◌, map, Bool, true, false, not, ◌&&◌, if◌then◌else◌, refl, sym, subst, arith, Option, None, Some}
use Rattle.std.specs.Prelude.{ℤ, drop, flat_map, length}
use Rattle.std.specs.List.{AllByRecursion}
use Rattle.ts_packet.specs.Fields.{is_among}
use Rattle.ts_packet.specs.Membership.{In}
use Rattle.ts_packet.specs.Numbering.{one_past, last_number}
use Rattle.ts_packet.proofs.MembershipLemmas.{In-filtered}
use Rattle.event_table.specs.Standing.{Standing}
use Rattle.splice_laws.specs.Splicing.{PlayedEvent, SliceUnit, TimedStream, stream}
use Rattle.splice_laws.specs.Settled.{begun_now, closed_now}
use Rattle.unit_stream.specs.Times.{begins_one}
use Rattle.output_laws.specs.Output.{Move, Keep, Leave, Put}
use Rattle.splice_plans.specs.Adverts.{packed_units}
use Rattle.splice_plans.specs.Counters.{PidSteps, counted_at, out_behind}
use Rattle.splice_plans.specs.Playing.{Turns, played, as_played, end_known, up_to_known, sent_known, left_at_end}
use Rattle.splice_plans.specs.Switching.{Setting, puts_by, switched_at, history_at, is_behind_head}
use Rattle.splice_plans.specs.Known.{adverts_at, behind_at}
use Rattle.splice_plans.specs.Stepping.{rest_by}
use Rattle.switch_laws.proofs.OtherLemmas.{among-self}

-- ---- lists

each-in : {X : Type 0} (xs : List X) → AllByRecursion (λ x. In x xs) xs
each-in [] = tt
each-in {X} (x ∷ xs) = (inl refl, later xs (each-in xs))
  where
    later : (ys : List X) → AllByRecursion (λ y. In y xs) ys → AllByRecursion (λ y. In y (x ∷ xs)) ys
    later [] h = tt
    later (y ∷ ys) h = (inr h.0, later ys h.1)

each-both : {X : Type 0} (P : X → Type 0) (xs ys : List X) → AllByRecursion P xs → AllByRecursion P ys → AllByRecursion P (xs ++ ys)
each-both P [] ys h k = k
each-both P (x ∷ xs) ys h k = (h.0, each-both P xs ys h.1 k)

pub each-so : {X : Type 0} (P Q : X → Type 0) → ((x : X) → P x → Q x) → (xs : List X) → AllByRecursion P xs → AllByRecursion Q xs
each-so P Q f [] h = tt
each-so P Q f (x ∷ xs) h = (f x h.0, each-so P Q f xs h.1)

dropped : {X : Type 0} (n : ℕ) (x : X) (xs : List X) → In x (drop n xs) → In x xs
dropped zero x xs i = i
dropped (suc n) x [] i = i
dropped (suc n) x (y ∷ xs) i = inr (dropped n x xs i)

-- ---- what is left of an event

known-in : (stop : Option ℤ) (units : List SliceUnit) (u : SliceUnit) → In u (up_to_known stop units) → In u units
known-in None units u i = absurd i
known-in (Some stop) units u i = (In-filtered _ u units i).0

left-in : (turns : Turns) (r : TimedStream) (x : PlayedEvent) (known : List (List ℕ) → Option ℤ) (units : List SliceUnit) (past : List (List ℕ)) (u : SliceUnit)
    → In u (left_at_end turns r x known units past) → In u units × ((begun_now r x known past && not (closed_now r x known past)) ≡ true)
left-in turns r x known units past u i = by (begun_now r x known past && not (closed_now r x known past)) refl i
  where
    by : (b : Bool) → (begun_now r x known past && not (closed_now r x known past)) ≡ b
        → In u (if b then drop (length (sent_known turns r x known units past)) (up_to_known (known past) units) else [])
        → In u units × ((begun_now r x known past && not (closed_now r x known past)) ≡ true)
    by true e i = (known-in (known past) units u (dropped (length (sent_known turns r x known units past)) u (up_to_known (known past) units) i), e)
    by false e i = absurd i

-- ---- the moves

-- on one of these PIDs a unit of one of these events is put in
module _ (own : List ℕ) (es : List Standing) (units : Standing → ℕ → List SliceUnit) (runs : ℕ → Standing → Bool) where
  pub record IsUnitOf (pid : ℕ) (u : SliceUnit) : Type 0 where
    pub e : Standing
    pub switched : is_among pid own ≡ true
    pub of : In e es
    pub unit : In u (units e pid)
    pub running : runs pid e ≡ true

  abbrev IsAdvert : Move → Type 0
  IsAdvert (Keep p) = ⊥
  IsAdvert (Leave p) = ⊥
  IsAdvert (Put q u) = IsUnitOf q u

  put-on : (pid : ℕ) (us : List SliceUnit) → AllByRecursion (IsUnitOf pid) us → AllByRecursion IsAdvert (map (λ (u : SliceUnit). Put pid u) us)
  put-on pid [] h = tt
  put-on pid (u ∷ us) h = (h.0, put-on pid us h.1)

  module _ (rule : ℕ → Standing → List SliceUnit) (of_units : (pid : ℕ) (e : Standing) (u : SliceUnit) → In u (rule pid e) → In u (units e pid) × (runs pid e ≡ true)) where
    of-one : (pid : ℕ) (e : Standing) → is_among pid own ≡ true → In e es → (us : List SliceUnit) → AllByRecursion (λ u. In u (rule pid e)) us → AllByRecursion (IsUnitOf pid) us
    of-one pid e a i [] h = tt
    of-one pid e a i (u ∷ us) h = (let o = of_units pid e u h.0 in record { e = e; switched = a; of = i; unit = o.0; running = o.1 }, of-one pid e a i us h.1)

    of-all : (pid : ℕ) → is_among pid own ≡ true → (some : List Standing) → AllByRecursion (λ e. In e es) some → AllByRecursion (IsUnitOf pid) (flat_map (rule pid) some)
    of-all pid a [] h = tt
    of-all pid a (e ∷ some) h = each-both (IsUnitOf pid) (rule pid e) (flat_map (rule pid) some) (of-one pid e a h.0 (rule pid e) (each-in (rule pid e))) (of-all pid a some h.1)

    put-by : (pids : List ℕ) → AllByRecursion (λ pid. is_among pid own ≡ true) pids → AllByRecursion IsAdvert (puts_by pids es rule)
    put-by [] h = tt
    put-by (pid ∷ pids) h =
        each-both IsAdvert (map (λ (u : SliceUnit). Put pid u) (flat_map (rule pid) es)) (puts_by pids es rule)
        (put-on pid (flat_map (rule pid) es) (of-all pid h.0 es (each-in es)))
        (put-by pids h.1)

  -- their packets
  pub record IsPacketOf (q : List ℕ) : Type 0 where
    pub pid : ℕ
    pub unit : SliceUnit
    pub of : IsUnitOf pid unit
    pub counter : ℕ
    pub small : counter < 16
    pub packed : In q (packed_units pid unit counter)

  past-below : (o : Option ℕ) → one_past o < 16
  past-below None = omega arith
  past-below (Some n) = omega arith

  out-of : (ms : List Move) (steps : PidSteps) → AllByRecursion IsAdvert ms → AllByRecursion IsPacketOf (out_behind packed_units steps ms)
  out-of [] steps h = tt
  out-of (Keep p ∷ ms) steps h = absurd h.0
  out-of (Leave p ∷ ms) steps h = absurd h.0
  out-of (Put q u ∷ ms) steps h =
      let n = one_past (last_number (steps q)) in
      each-both IsPacketOf (packed_units q u n) (out_behind packed_units (counted_at packed_units (Put q u) [] steps) ms)
      (each-so (λ p. In p (packed_units q u n)) IsPacketOf (λ p i. record { pid = q; unit = u; of = h.0; counter = n; small = past-below (last_number (steps q)); packed = i }) (packed_units q u n) (each-in (packed_units q u n)))
      (out-of ms (counted_at packed_units (Put q u) [] steps) h.1)

own-among : (own : List ℕ) → AllByRecursion (λ pid. is_among pid own ≡ true) own
own-among own = within own own (λ pid a. a)
  where
    later : (a b : Bool) → b ≡ true → (a || b) ≡ true
    later true b h = refl
    later false b h = h

    within : (pids all : List ℕ) → ((pid : ℕ) → is_among pid pids ≡ true → is_among pid all ≡ true) → AllByRecursion (λ pid. is_among pid all ≡ true) pids
    within [] all h = tt
    within (pid ∷ pids) all h = (h pid (among-self pid pids), within pids all (λ q a. h q (later (pid == q) (is_among q pids) a)))

-- an event runs in a stream behind what was read, by what was known of it at each packet
abbrev pub runs_known : Setting → List (List ℕ) → ℕ → Standing → Bool
runs_known k past pid e =
    begun_now (stream (switched_at k past) pid) (as_played e) (end_known (adverts_at k past) (history_at k past) e.start) (behind_at k past)
    && not (closed_now (stream (switched_at k past) pid) (as_played e) (end_known (adverts_at k past) (history_at k past) e.start) (behind_at k past))

-- the packets of units of those events
abbrev pub IsLeftOver : Setting → List (List ℕ) → List ℕ → Type 0
IsLeftOver k past q = IsPacketOf (switched_at k past) (played (adverts_at k past) (history_at k past (behind_at k past))) (adverts_at k past).units (runs_known k past) q

-- WHAT IS LEFT AT THE END
pub rest-of : (k : Setting) → k.packed ≡ packed_units → (steps : PidSteps) (past : List (List ℕ)) → AllByRecursion (IsLeftOver k past) (rest_by k steps past)
rest-of k packed steps past =
    let own = switched_at k past in
    let ads = adverts_at k past in
    let events = history_at k past in
    let es = played ads (events (behind_at k past)) in
    let rule : ℕ → Standing → List SliceUnit = λ pid e. left_at_end (begins_one own) (stream own pid) (as_played e) (end_known ads events e.start) (ads.units e pid) (behind_at k past) in
    let ms = puts_by own es rule in
    let all = put-by own es ads.units (runs_known k past) rule (λ pid e u i. left-in (begins_one own) (stream own pid) (as_played e) (end_known ads events e.start) (ads.units e pid) (behind_at k past) u i) own (own-among own) in
    by (is_behind_head k past) (out_behind k.packed steps ms)
    (subst (λ f. AllByRecursion (IsLeftOver k past) (out_behind f steps ms)) (sym packed) (out-of own es ads.units (runs_known k past) ms steps all))
  where
    by : (b : Bool) (qs : List (List ℕ)) → AllByRecursion (IsLeftOver k past) qs → AllByRecursion (IsLeftOver k past) (if b then qs else [])
    by true qs h = h
    by false qs h = tt
