-- A packet of a switched stream on its way out: what stands in its place, what its counter counts, and that the other streams stay.
use Rattle.std.proofs.Common.{◌≡◌, ℕ, zero, suc, ◌%◌, ◌<◌, List, [], ◌∷◌, ◌++◌, length, drop, Bool, true, false, not, ◌&&◌, ◌||◌, ◌==◌, inl, inr, refl, sym, ap, ◌∙◌, subst, arith, if◌then◌else◌, Option, None, Some}
use Rattle.std.specs.Prelude.{ℤ, is_some, slice_get, slice_index_or, slice_set}
use Rattle.std.proofs.lemmas.Bool.{true≢false, or_right, eq-eqb, or_parts}
use Rattle.std.proofs.lemmas.Option.{none-some, same_Some, slice_get_within}
use Rattle.ts_packet.specs.Fields.{on, payload, payload_on, pid_of, pcr, renumbered, on_one, is_among}
use Rattle.ts_packet.specs.Duplicates.{original}
use Rattle.ts_packet.specs.Numbering.{Step, Kept, Dropped, moved, number_out, Counts}
use Rattle.ts_packet.proofs.Cases.{by_test}
use Rattle.ts_packet.proofs.FieldLemmas.{payload_on-on, off_payload, payload-some, pid_is}
use Rattle.unit_stream.specs.Times.{begins, in_unit, unit_time}
use Rattle.unit_stream.specs.Fates.{is_left_out, steps_after}
use Rattle.event_table.specs.Standing.{Standing}
use Rattle.psi_tables.specs.ProgramMap.{ProgramMap}
use Rattle.program_follower.specs.Program.{known_map, behind_head}
use Rattle.armed_events.specs.Arming.{Heard}
use Rattle.armed_events.proofs.PastLemmas.{heard-off}
use Rattle.splice_laws.specs.Streams.{IsOnce}
use Rattle.output_laws.specs.Output.{Keep, Leave, Packing, clock_alone}
use Rattle.output_laws.proofs.StepLemmas.{payload-none, error_is}
use Rattle.outgoing_packets.specs.Numbers.{FrontFails}
use Rattle.splice_plans.specs.declared.stream.SwitchedStream.{SwitchedStream}
use Rattle.splice_plans.specs.Counters.{PidSteps, counted_at, out_by}
use Rattle.splice_plans.specs.Playing.{Adverts, is_inside, is_played}
use Rattle.splice_plans.specs.Counting.{left_steps, steps_behind, left_place}
use Rattle.splice_plans.specs.Switching.{Setting, switched_at, head_at, history_at, events_at}
use Rattle.splice_plans.specs.Known.{Goes, GoesAs, AllGo, AreSeparate, adverts_at, behind_at, inside_at}
use Rattle.splice_plans.specs.Stepping.{place_by, counted_before}
use Rattle.splice_playing.specs.Relations.{counted_with}
use Rattle.splice_playing.proofs.StreamLemmas.{slot-new, slot-old, slot-other}

-- ---- PIDs by their numbers

pub clash : (b : Bool) → b ≡ true → b ≡ false → ⊥
clash b h k = true≢false (sym h ∙ k)

pub among-by : (pid : ℕ) (pids : List ℕ) (n : ℕ) → slice_get pids n ≡ Some pid → is_among pid pids ≡ true
among-by pid [] n h = absurd (none-some pid h)
among-by pid (q ∷ pids) zero h = ap (λ b. b || is_among pid pids) (eq-eqb q pid (same_Some q pid h))
among-by pid (q ∷ pids) (suc n) h = or_right (q == pid) (is_among pid pids) (among-by pid pids n h)

not-among : (pid q : ℕ) (pids : List ℕ) (i : ℕ) → is_among pid pids ≡ false → slice_get pids i ≡ Some q → (q == pid) ≡ false
not-among pid q [] i none h = absurd (none-some q h)
not-among pid q (r ∷ pids) zero none h = ap (λ n. n == pid) (sym (same_Some r q h)) ∙ (or_parts (r == pid) (is_among pid pids) none).0
not-among pid q (r ∷ pids) (suc i) none h = not-among pid q pids i ((or_parts (r == pid) (is_among pid pids) none).1) h

-- another stream has another PID
pub other-pid : (pid q : ℕ) (pids : List ℕ) (n i : ℕ) → IsOnce pid pids → slice_get pids n ≡ Some pid → slice_get pids i ≡ Some q → (n ≡ i → ⊥) → (q == pid) ≡ false
other-pid pid q [] n i once h k differ = absurd once
other-pid pid q (r ∷ pids) zero zero once h k differ = absurd (differ refl)
other-pid pid q (r ∷ pids) zero (suc i) (inl once) h k differ = not-among pid q pids i once.1 k
other-pid pid q (r ∷ pids) zero (suc i) (inr once) h k differ = absurd (clash (r == pid) (eq-eqb r pid (same_Some r pid h)) once.0)
other-pid pid q (r ∷ pids) (suc n) zero (inl once) h k differ = absurd (clash (is_among pid pids) (among-by pid pids n h) once.1)
other-pid pid q (r ∷ pids) (suc n) zero (inr once) h k differ = ap (λ m. m == pid) (sym (same_Some r q k)) ∙ once.0
other-pid pid q (r ∷ pids) (suc n) (suc i) (inl once) h k differ = absurd (clash (is_among pid pids) (among-by pid pids n h) once.1)
other-pid pid q (r ∷ pids) (suc n) (suc i) (inr once) h k differ = other-pid pid q pids n i once.1 h k (λ is. differ (ap suc is))

-- a packet of one PID is on no other
pub off-other : (pid q : ℕ) (p : List ℕ) → on pid p ≡ true → (q == pid) ≡ false → on q p ≡ false
off-other pid q p o differ = by_test (on q p) (λ h. absurd (clash (q == pid) (eq-eqb q pid (sym (pid_is q p h) ∙ pid_is pid p o)) differ)) (λ h. h)

pub on-switched : (pid : ℕ) (pids : List ℕ) (n : ℕ) (p : List ℕ) → slice_get pids n ≡ Some pid → on pid p ≡ true → on_one pids p ≡ true
on-switched pid [] n p h o = absurd (none-some pid h)
on-switched pid (q ∷ pids) zero p h o = ap (λ b. b || on_one pids p) (ap (λ r. on r p) (same_Some q pid h) ∙ o)
on-switched pid (q ∷ pids) (suc n) p h o = or_right (on q p) (on_one pids p) (on-switched pid pids n p h o)

-- ---- what the counters count

steps-other : (out : Bool) (q : ℕ) (p : List ℕ) (past : List (List ℕ)) (steps : List Step) → on q p ≡ false → steps_after out q p past steps ≡ steps
steps-other true q p past steps o = let n = off_payload q p o in simp n refl
steps-other false q p past steps o = simp o refl

module _ (packed : Packing) (p : List ℕ) (read : List (List ℕ)) (steps : PidSteps) where
  pub count-other : (b : Bool) (q : ℕ) → on q p ≡ false → counted_at packed (if b then Leave p else Keep p) read steps q ≡ steps q
  count-other true q o = steps-other true q p read (steps q) o
  count-other false q o = steps-other false q p read (steps q) o

  pub count-kept : (pid : ℕ) → on pid p ≡ true → counted_at packed (Keep p) read steps pid ≡ Kept p ∷ steps pid
  count-kept pid o = simp o refl

  left-by : (o r : Bool) (steps : List Step) → r ≡ not o → (if o then Dropped p ∷ steps else steps) ≡ left_steps r p steps
  left-by true r steps h = rw h refl
  left-by false r steps h = rw h refl

  with-payload : (is_repeat : Bool) (steps : List Step) → is_some (payload p) ≡ true → left_steps is_repeat p steps ≡ steps_behind is_repeat p steps
  with-payload is_repeat steps some = simp some refl

  pub count-gone : (pid : ℕ) (is_repeat : Bool) → payload_on pid p ≡ true → is_repeat ≡ not (original pid p read) →
      counted_at packed (Leave p) read steps pid ≡ steps_behind is_repeat p (steps pid)
  count-gone pid is_repeat y is = left-by (original pid p read) is_repeat (steps pid) is ∙ with-payload is_repeat (steps pid) (payload-some pid p y)

  -- what goes out in its place
  pub place-kept : (pid : ℕ) → on pid p ≡ true → out_by packed (Keep p) read steps ≡ renumbered (moved (steps pid)) p ∷ []
  place-kept pid o = let e = error_is pid p o in simp e (ap (λ n. renumbered (moved (steps n)) p ∷ []) (pid_is pid p o))

  gone-by : (is_repeat : Bool) (steps : List Step) → is_some (payload p) ≡ true →
      clock_alone (pid_of p) (number_out p (left_steps is_repeat p steps)) (pcr p) ≡ left_place is_repeat p steps
  gone-by is_repeat steps some = simp some refl

  pub place-gone : (pid : ℕ) (is_repeat : Bool) → payload_on pid p ≡ true → is_repeat ≡ not (original pid p read) →
      out_by packed (Leave p) read steps ≡ left_place is_repeat p (steps pid)
  place-gone pid is_repeat y is =
      ap (λ n. clock_alone (pid_of p) (number_out p (steps_after true n p read (steps n))) (pcr p)) (pid_is pid p (payload_on-on pid p y))
      ∙ ap (λ s. clock_alone (pid_of p) (number_out p s) (pcr p)) (left-by (original pid p read) is_repeat (steps pid) is)
      ∙ gone-by is_repeat (steps pid) (payload-some pid p y)

-- ---- whether it is left out

module _ (goes : ℕ → Option ℤ → Bool) (sw : List ℕ) (p : List ℕ) (past : List (List ℕ)) where
  not-payload : (q : ℕ) → payload_on q p ≡ false → (payload_on q p && goes q (unit_time sw q (p ∷ past))) ≡ false
  not-payload q n = ap (λ b. b && goes q (unit_time sw q (p ∷ past))) n

  first-out : (a b c : Bool) → a ≡ true → c ≡ false → ((a && b) || c) ≡ b
  first-out true true c h k = refl
  first-out true false c h k = k
  first-out false b c h k = absurd (true≢false (sym h))

  other-out : (a c : Bool) → a ≡ false → (a || c) ≡ c
  other-out true c h = absurd (true≢false h)
  other-out false c h = refl

  none-out : (pid : ℕ) (pids : List ℕ) → on pid p ≡ true → is_among pid pids ≡ false → is_left_out goes sw p past pids ≡ false
  none-out pid [] o none = refl
  none-out pid (q ∷ pids) o none =
      other-out (payload_on q p && goes q (unit_time sw q (p ∷ past))) (is_left_out goes sw p past pids) (not-payload q (off_payload q p (off-other pid q p o ((or_parts (q == pid) (is_among pid pids) none).0))))
      ∙ none-out pid pids o ((or_parts (q == pid) (is_among pid pids) none).1)

  pub out-is : (pid : ℕ) (pids : List ℕ) → payload_on pid p ≡ true → IsOnce pid pids → is_left_out goes sw p past pids ≡ goes pid (unit_time sw pid (p ∷ past))
  out-is pid [] y once = absurd once
  out-is pid (q ∷ pids) y (inl once) =
      ap (λ n. (payload_on n p && goes n (unit_time sw n (p ∷ past))) || is_left_out goes sw p past pids) once.0
      ∙ first-out (payload_on pid p) (goes pid (unit_time sw pid (p ∷ past))) (is_left_out goes sw p past pids) y (none-out pid pids (payload_on-on pid p y) once.1)
  out-is pid (q ∷ pids) y (inr once) =
      other-out (payload_on q p && goes q (unit_time sw q (p ∷ past))) (is_left_out goes sw p past pids) (not-payload q (off_payload q p (off-other pid q p (payload_on-on pid p y) once.0)))
      ∙ out-is pid pids y once.1

  -- where it has no payload, or the test does not take the unit
  no-payload : (q : ℕ) → is_some (payload p) ≡ false → payload_on q p ≡ false
  no-payload q none = by_test (payload_on q p) (λ h. absurd (clash (is_some (payload p)) (payload-some q p h) none)) (λ h. h)

  pub none-left : (pids : List ℕ) → is_some (payload p) ≡ false → is_left_out goes sw p past pids ≡ false
  none-left [] none = refl
  none-left (q ∷ pids) none = other-out (payload_on q p && goes q (unit_time sw q (p ∷ past))) (is_left_out goes sw p past pids) (not-payload q (no-payload q none)) ∙ none-left pids none

-- a stream has no time before its first unit
no-time : (sw : List ℕ) (pid : ℕ) (past : List (List ℕ)) → in_unit pid past ≡ false → unit_time sw pid past ≡ None
no-time sw pid [] h = refl
no-time sw pid (p ∷ past) h =
    let n = (or_parts (begins pid p past) (in_unit pid past) h).0 in
    simp n (no-time sw pid past ((or_parts (begins pid p past) (in_unit pid past) h).1))

pub nothing-holds : (ads : Adverts) (es : List Standing) → is_inside ads es None ≡ false
nothing-holds ads [] = refl
nothing-holds ads (e ∷ es) = none (is_played ads e) (is_inside ads es None) (nothing-holds ads es)
  where
    none : (a b : Bool) → b ≡ false → ((a && false) || b) ≡ false
    none true b h = h
    none false b h = h

-- ---- behind the head

module _ (k : Setting) where
  joined-by : (p : List ℕ) (past : List (List ℕ)) (o : Option ProgramMap) → known_map (Some k.program) past ≡ o → behind_at k past ++ head_at k past ≡ past → behind_at k (p ∷ past) ++ head_at k (p ∷ past) ≡ p ∷ past
  joined-by p past None is before = ap (λ l. l ++ drop (length l) (p ∷ past)) (ap (λ o. if is_some o then p ∷ behind_head (Some k.program) past else []) is)
  joined-by p past (Some m) is before =
      ap (λ l. l ++ drop (length l) (p ∷ past)) (ap (λ o. if is_some o then p ∷ behind_head (Some k.program) past else []) is) ∙ ap (λ l. p ∷ l) before

  -- a past is its head, and what stands behind it
  pub joined : (past : List (List ℕ)) → behind_at k past ++ head_at k past ≡ past
  joined [] = refl
  joined (p ∷ past) = joined-by p past (known_map (Some k.program) past) refl (joined past)

  -- a packet that is no cue arms nothing
  pub same-events : (p : List ℕ) (past : List (List ℕ)) → on k.cue_pid p ≡ false → history_at k past (p ∷ behind_at k past) ≡ events_at k past
  same-events p past cue = ap (λ l. events_at k (p ∷ l)) (joined past) ∙ ap (λ (h : Heard). h.events) (heard-off k.cue_pid _ p past cue)

  module _ (p : List ℕ) (past : List (List ℕ)) where
    abbrev pub is_gone : Bool
    is_gone = is_left_out (λ pid time. is_inside (adverts_at k past) (history_at k past (p ∷ behind_at k past)) time) (switched_at k past) p (behind_at k past) (switched_at k past)

    pub place-is : (steps : PidSteps) (pid n : ℕ) → on k.cue_pid p ≡ false → slice_get (switched_at k past) n ≡ Some pid → on pid p ≡ true
        → place_by k steps p past ≡ out_by k.packed (if is_gone then Leave p else Keep p) (behind_at k past) (counted_before k steps p past)
    place-is steps pid n cue of o = let s = on-switched pid (switched_at k past) n p of o in simp (cue, s) refl

    pub gone-is : (pid : ℕ) → on k.cue_pid p ≡ false → IsOnce pid (switched_at k past) → payload_on pid p ≡ true → is_gone ≡ inside_at k past (p ∷ behind_at k past) pid
    gone-is pid cue once y =
        out-is (λ pid time. is_inside (adverts_at k past) (history_at k past (p ∷ behind_at k past)) time) (switched_at k past) p (behind_at k past) pid (switched_at k past) y once
        ∙ ap (λ es. is_inside (adverts_at k past) es (unit_time (switched_at k past) pid (p ∷ behind_at k past))) (same-events p past cue)

    stays-by : (pid : ℕ) → IsOnce pid (switched_at k past) → on pid p ≡ true → (y u : Bool) → payload_on pid p ≡ y → in_unit pid (p ∷ behind_at k past) ≡ u → (y && u) ≡ false → is_gone ≡ false
    stays-by pid once o true true y u h = absurd (true≢false h)
    stays-by pid once o true false y u h =
        out-is (λ pid time. is_inside (adverts_at k past) (history_at k past (p ∷ behind_at k past)) time) (switched_at k past) p (behind_at k past) pid (switched_at k past) y once
        ∙ ap (λ t. is_inside (adverts_at k past) (history_at k past (p ∷ behind_at k past)) t) (no-time (switched_at k past) pid (p ∷ behind_at k past) u)
        ∙ nothing-holds (adverts_at k past) (history_at k past (p ∷ behind_at k past))
    stays-by pid once o false u y is h =
        none-left (λ pid time. is_inside (adverts_at k past) (history_at k past (p ∷ behind_at k past)) time) (switched_at k past) p (behind_at k past) (switched_at k past) (payload-none pid p o y)

    pub stays-is : (pid : ℕ) → IsOnce pid (switched_at k past) → on pid p ≡ true → (payload_on pid p && in_unit pid (p ∷ behind_at k past)) ≡ false → is_gone ≡ false
    stays-is pid once o h = stays-by pid once o (payload_on pid p) (in_unit pid (p ∷ behind_at k past)) refl refl h

-- ---- the streams

goes-other : (s : SwitchedStream) (is_in : ℕ → Bool) (next steps : PidSteps) (o : Option ℕ) → ((q : ℕ) → o ≡ Some q → next q ≡ steps q) → GoesAs s is_in steps o → GoesAs s is_in next o
goes-other s is_in next steps None same g = g
goes-other s is_in next steps (Some q) same g = record { counter = subst (Counts s.counter) (sym (same q refl)) g.counter; leaving = g.leaving }

-- the steps of the switched PIDs alone matter
pub all-same : (streams : List SwitchedStream) (is_in : ℕ → Bool) (next steps : PidSteps) (switched : List ℕ) → ((n pid : ℕ) → slice_get switched n ≡ Some pid → next pid ≡ steps pid)
    → AllGo streams is_in steps switched → AllGo streams is_in next switched
all-same streams is_in next steps switched same all = λ i s l. goes-other (slice_index_or streams i s) is_in next steps (slice_get switched i) (same i) (all i s l)

module _ (streams : List SwitchedStream) (y : SwitchedStream) (n : ℕ) (below : n % 8 < length streams) (low : n < 8) (is_in : ℕ → Bool) (next steps : PidSteps) (switched : List ℕ) (pid : ℕ) where
  -- one stream goes on, and the others stay
  pub one-goes : slice_get switched n ≡ Some pid → IsOnce pid switched → ((q : ℕ) → (q == pid) ≡ false → next q ≡ steps q)
      → Goes y (next pid) (is_in pid) → AllGo streams is_in steps switched → AllGo (slice_set streams (n % 8) y) is_in next switched
  one-goes of once same goes all = λ i s l. slot i s l (n == i) refl
    where
      slot : (i : ℕ) (s : SwitchedStream) → i < 8 → (b : Bool) → (n == i) ≡ b → GoesAs (slice_index_or (slice_set streams (n % 8) y) i s) is_in next (slice_get switched i)
      slot i s l true h =
          let is : n ≡ i = grind (arith, h) in
          subst (λ j. GoesAs (slice_index_or (slice_set streams (n % 8) y) j s) is_in next (slice_get switched j)) is
          (subst (λ o. GoesAs (slice_index_or (slice_set streams (n % 8) y) n s) is_in next o) (sym of)
          (subst (λ (t : SwitchedStream). Goes t (next pid) (is_in pid)) (sym (slot-new streams n y below s low)) goes))
      slot i s l false h =
          let differ : n ≡ i → ⊥ = λ is. clash (n == i) (eq-eqb n i is) h in
          subst (λ (t : SwitchedStream). GoesAs t is_in next (slice_get switched i)) (sym (slot-other streams n y below i s low differ))
          (goes-other (slice_index_or streams i s) is_in next steps (slice_get switched i) (λ q h. same q (other-pid pid q switched n i once of h differ)) (all i s l))

  pub stream-of : slice_get switched n ≡ Some pid → (r : SwitchedStream) → AllGo streams is_in steps switched → Goes (slice_index_or streams (n % 8) r) (steps pid) (is_in pid)
  stream-of of r all =
      subst (λ (t : SwitchedStream). Goes t (steps pid) (is_in pid)) (slot-old streams n r below r r low)
      (subst (λ x. GoesAs (slice_index_or streams n r) is_in steps x) of (all n r low))

module _ (k : Setting) (number : ℕ) (p : List ℕ) (past : List (List ℕ)) (pid : ℕ) (of : slice_get (switched_at k past) number ≡ Some pid) (separate : AreSeparate (switched_at k past)) (o : on pid p ≡ true)
    (cue : on k.cue_pid p ≡ false) (steps : PidSteps) where
  pub once-of : IsOnce pid (switched_at k past)
  once-of = separate.alone pid (among-by pid (switched_at k past) number of)

  pub low-of : number < 8
  low-of = let within = slice_get_within (switched_at k past) number pid of in let few = separate.few in omega (arith, within, few)

  abbrev pub steps-of : List Step
  steps-of = counted_before k steps p past pid

  abbrev pub Go : List SwitchedStream → PidSteps → Type 0
  Go streams counted = AllGo streams (inside_at k past (p ∷ behind_at k past)) counted (switched_at k past)

  pub place-by : (b : Bool) → is_gone k p past ≡ b → place_by k steps p past ≡ out_by k.packed (if b then Leave p else Keep p) (behind_at k past) (counted_before k steps p past)
  place-by b is = place-is k p past steps pid number cue of o ∙ ap (λ d. out_by k.packed (if d then Leave p else Keep p) (behind_at k past) (counted_before k steps p past)) is

  pub stream-was : (streams : List SwitchedStream) (r : SwitchedStream) → number % 8 < length streams → Go streams (counted_before k steps p past)
      → Goes (slice_index_or streams (number % 8) r) steps-of (inside_at k past (p ∷ behind_at k past) pid)
  stream-was streams r below all =
      let counted = counted_before k steps p past in
      stream-of streams r number below low-of (inside_at k past (p ∷ behind_at k past)) counted counted (switched_at k past) pid of r all

  pub all-behind : (b : Bool) (more : List Step) → is_gone k p past ≡ b → counted_at k.packed (if b then Leave p else Keep p) (behind_at k past) (counted_before k steps p past) pid ≡ more
      → (streams : List SwitchedStream) (y : SwitchedStream) → number % 8 < length streams → Counts y.counter more → y.is_leaving ≡ inside_at k past (p ∷ behind_at k past) pid → Go streams (counted_before k steps p past)
      → Go (slice_set streams (number % 8) y) (counted_with k steps p past)
  all-behind b more is count streams y below counts leaving all =
      one-goes streams y number below low-of (inside_at k past (p ∷ behind_at k past)) (counted_with k steps p past) (counted_before k steps p past) (switched_at k past) pid of once-of
      (λ q differ. count-other k.packed p (behind_at k past) (counted_before k steps p past) (is_gone k p past) q (off-other pid q p o differ))
      (record {
        counter = subst (Counts y.counter) (sym (ap (λ d. counted_at k.packed (if d then Leave p else Keep p) (behind_at k past) (counted_before k steps p past) pid) is ∙ count)) counts;
        leaving = leaving;
      }) all

  -- ---- one that is kept

  pub kept-place : is_gone k p past ≡ false → place_by k steps p past ≡ renumbered (moved steps-of) p ∷ []
  kept-place is = place-by false is ∙ place-kept k.packed p (behind_at k past) (counted_before k steps p past) pid o

  pub kept-count : counted_at k.packed (Keep p) (behind_at k past) (counted_before k steps p past) pid ≡ Kept p ∷ steps-of
  kept-count = count-kept k.packed p (behind_at k past) (counted_before k steps p past) pid o

  -- ---- one that is left out

  pub gone-place : (is_repeat : Bool) → is_gone k p past ≡ true → payload_on pid p ≡ true → is_repeat ≡ not (original pid p (behind_at k past)) → place_by k steps p past ≡ left_place is_repeat p steps-of
  gone-place is_repeat is y repeat = place-by true is ∙ place-gone k.packed p (behind_at k past) (counted_before k steps p past) pid is_repeat y repeat

  pub gone-count : (is_repeat : Bool) → payload_on pid p ≡ true → is_repeat ≡ not (original pid p (behind_at k past))
      → counted_at k.packed (Leave p) (behind_at k past) (counted_before k steps p past) pid ≡ steps_behind is_repeat p steps-of
  gone-count is_repeat y repeat = count-gone k.packed p (behind_at k past) (counted_before k steps p past) pid is_repeat y repeat

  -- one whose unit is left out, where it is told whether it is a duplicate
  pub record IsLeft (is_repeat : Bool) : Type 0 where
    pub gone : Bool
    pub is : is_gone k p past ≡ gone
    pub place : place_by k steps p past ≡ left_place is_repeat p steps-of
    pub count : counted_at k.packed (if gone then Leave p else Keep p) (behind_at k past) (counted_before k steps p past) pid ≡ steps_behind is_repeat p steps-of

  -- one without payload stays all the same
  pub left : (is_repeat : Bool) → inside_at k past (p ∷ behind_at k past) pid ≡ true → (payload_on pid p ≡ true → is_repeat ≡ not (original pid p (behind_at k past))) → IsLeft is_repeat
  left is_repeat inside repeat = by_test (payload_on pid p)
      (λ y. let gone = gone-is k p past pid cue once-of y ∙ inside in
      record { gone = true; is = gone; place = gone-place is_repeat gone y (repeat y); count = gone-count is_repeat y (repeat y) })
      (λ n. let stays = stays-is k p past pid once-of o (ap (λ b. b && in_unit pid (p ∷ behind_at k past)) n) in
      let none = payload-none pid p o n in
      record { gone = false; is = stays; place = simp none (kept-place stays); count = simp none kept-count })

  -- and one whose unit is kept
  pub kept : inside_at k past (p ∷ behind_at k past) pid ≡ false → is_gone k p past ≡ false
  kept inside = by_test (payload_on pid p) (λ y. gone-is k p past pid cue once-of y ∙ inside) (λ n. stays-is k p past pid once-of o (ap (λ b. b && in_unit pid (p ∷ behind_at k past)) n))

-- no unit lies in an event before the first
pub inside-begun : (k : Setting) (p : List ℕ) (past : List (List ℕ)) (pid : ℕ) → inside_at k past (p ∷ behind_at k past) pid ≡ true → in_unit pid (p ∷ behind_at k past) ≡ true
inside-begun k p past pid h = by_test (in_unit pid (p ∷ behind_at k past)) (λ y. y)
    (λ n. absurd (clash (inside_at k past (p ∷ behind_at k past) pid) h
    (ap (λ t. is_inside (adverts_at k past) (events_at k past) t) (no-time (switched_at k past) pid (p ∷ behind_at k past) n) ∙ nothing-holds (adverts_at k past) (events_at k past))))

-- the only packet failed
pub one-fails : (F : List (List ℕ) → List ℕ → Type 0) (place : List (List ℕ)) (q : List ℕ) → place ≡ q ∷ [] → F [] q → FrontFails place F
one-fails F place q is fails = record { put = []; packet = q; left = []; all = is; fault = fails }
