-- A packet of no switched stream, as one with cues, changes nothing.
use Rattle.std.proofs.Common.{◌≡◌, ℕ, zero, suc, ◌≤◌, List, [], ◌∷◌, Bool, false, ◌&&◌, refl, sym, ap, ◌∙◌, subst, Option, None, Some, length, if◌then◌else◌}
use Rattle.std.specs.Prelude.{ℤ, Contains, slice_index_or, slice_get, filter, find, is_some, option_map}
use Rattle.std.specs.Ordering.{int_eq}
use Rattle.std.proofs.lemmas.Bool.{or_from, or_parts}
use Rattle.ts_packet.specs.Fields.{on, on_one}
use Rattle.ts_packet.specs.Numbering.{Kept, Counts}
use Rattle.ts_packet.proofs.FieldLemmas.{off_payload}
use Rattle.unit_stream.specs.Times.{begins_one, high, unit_time, raised, timed, stamp}
use Rattle.unit_stream.specs.Fates.{is_left_out}
use Rattle.unit_stream.proofs.ClockLemmas.{begins_off, begins_off_all}
use Rattle.psi_tables.specs.ProgramMap.{ProgramMap}
use Rattle.program_follower.specs.Program.{known_map, program_in}
use Rattle.event_table.specs.Standing.{Standing, stands}
use Rattle.armed_events.specs.Arming.{standing}
use Rattle.armed_events.specs.Valuing.{values_by}
use Rattle.armed_laws.specs.Laws.{Grows}
use Rattle.armed_laws.proofs.GrowLemmas.{packet-grows}
use Rattle.armed_laws.proofs.TimeLemmas.{ahead-of}
use Rattle.splice_laws.proofs.SettledLemmas.{switched_pids_are_within}
use Rattle.output_laws.specs.Output.{Move, Keep, Leave, Packing}
use Rattle.splice_plans.specs.declared.plan.Plan.{Plan}
use Rattle.splice_plans.specs.declared.stream.SwitchedStream.{SwitchedStream}
use Rattle.splice_plans.specs.Playing.{Adverts, History, is_inside}
use Rattle.splice_plans.specs.Counters.{PidSteps, counted_at, counted_after}
use Rattle.splice_plans.specs.Switching.{Setting, puts_before, fate, switched_at, high_at, events_at, history_at}
use Rattle.splice_plans.specs.Histories.{AreSteady}
use Rattle.splice_plans.specs.Known.{plan_found, plan_at, GoesAs, AllGo, adverts_at, behind_at, plans_at, inside_at, fate_at, counts_known, is_forgotten}
use Rattle.splice_plans.specs.Stepping.{counted_before, counted_next}
use Rattle.splice_plans.proofs.PutLemmas.{puts_at_unit_starts}
use Rattle.splice_plans.proofs.KnownLemmas.{contained}
use Rattle.known_laws.specs.Laws.{ChangesNothing, UnswitchedChangeNothing}
use Rattle.known_laws.proofs.HeadLemmas.{none-switched, none-high, first-high, none-armed, first-armed, is-behind, same-switched, same-adverts, more-behind, same-history, high-next}
use Rattle.known_laws.proofs.QuietLemmas.{plan-still, any-crossed-still}
use Rattle.known_laws.proofs.SameLemmas.{found-same, found-ahead}
use Rattle.known_laws.proofs.HeldLemmas.{inside-same}
use Rattle.known_laws.proofs.CountLemmas.{counts_of, counts-same}

-- ---- several words at once

pub same-five : {A B C D E F : Type 0} (f : A → B → C → D → E → F) {a a' : A} {b b' : B} {c c' : C} {d d' : D} {e e' : E} → a ≡ a' → b ≡ b' → c ≡ c' → d ≡ d' → e ≡ e' → f a b c d e ≡ f a' b' c' d' e'
same-five f h i j k l = rw (h, i, j, k, l) refl

pub with-five : {A B C D E : Type 0} (P : A → B → C → D → E → Type 0) {a a' : A} {b b' : B} {c c' : C} {d d' : D} {e e' : E} → a ≡ a' → b ≡ b' → c ≡ c' → d ≡ d' → e ≡ e' → P a' b' c' d' e' → P a b c d e
with-five P h i j k l x = rw (h, i, j, k, l) x

pub values-same : (v w : ℤ → Plan) → ((start : ℤ) → v start ≡ w start) → (es : List Standing) → values_by v es ≡ values_by w es
values-same v w h [] = refl
values-same v w h (e ∷ es) = ap (λ x. x ∷ values_by v es) (h e.start) ∙ ap (λ xs. w e.start ∷ xs) (values-same v w h es)

-- ---- behind the head

pub off-at : (pids : List ℕ) (p : List ℕ) (i pid : ℕ) → on_one pids p ≡ false → slice_get pids i ≡ Some pid → on pid p ≡ false
off-at [] p i pid n h = cc
off-at (q ∷ pids) p zero pid n h = let same : q ≡ pid = cc in ap (λ a. on a p) (sym same) ∙ (or_parts (on q p) (on_one pids p) n).0
off-at (q ∷ pids) p (suc i) pid n h = off-at pids p i pid (or_parts (on q p) (on_one pids p) n).1 h

none-left-out : (goes : ℕ → Option ℤ → Bool) (switched : List ℕ) (p : List ℕ) (past : List (List ℕ)) (pids : List ℕ) → on_one pids p ≡ false → is_left_out goes switched p past pids ≡ false
none-left-out goes switched p past [] n = refl
none-left-out goes switched p past (pid ∷ pids) n =
    let r = or_parts (on pid p) (on_one pids p) n in
    or_from _ (is_left_out goes switched p past pids) (ap (λ b. b && goes pid (unit_time switched pid (p ∷ past))) (off_payload pid p r.0)) (none-left-out goes switched p past pids r.1)

module _ (switched : List ℕ) (ads : Adverts) (steady : AreSteady ads) (events : History) (p : List ℕ) (past : List (List ℕ)) (off : on_one switched p ≡ false) where
  quiet : begins_one switched p past ≡ false
  quiet = begins_off_all switched p past off

  pub high-still : high switched (p ∷ past) ≡ high switched past
  high-still = ap (λ b. if b then raised (high switched past) (stamp p) else high switched past) quiet

  counted-same : (packed : Packing) (steps : PidSteps) (pid : ℕ) → on pid p ≡ false
      → counted_at packed (fate switched ads events p past) past (counted_after packed steps (puts_before switched ads events p past)) pid ≡ steps pid
  counted-same packed steps pid n =
      ap (λ b. counted_at packed (if b then Leave p else Keep p) past (counted_after packed steps (puts_before switched ads events p past)) pid)
      (none-left-out (λ pid time. is_inside ads (events (p ∷ past)) time) switched p past switched off)
      ∙ ap (λ (ms : List Move). counted_at packed (Keep p) past (counted_after packed steps ms) pid) (puts_at_unit_starts switched ads events p past quiet)
      ∙ ap (λ b. if b then Kept p ∷ steps pid else steps pid) n

  time-same : (pid : ℕ) → on pid p ≡ false → unit_time switched pid (p ∷ past) ≡ unit_time switched pid past
  time-same pid n = ap (λ b. if b then timed (high switched past) (stamp p) (unit_time switched pid past) else unit_time switched pid past) (begins_off pid p past (off_payload pid p n))

  module _ (es later : List Standing) (g : Grows (high switched past) es later) where
    inside-still : (pid : ℕ) → Contains switched pid → on pid p ≡ false → is_inside ads es (unit_time switched pid past) ≡ is_inside ads later (unit_time switched pid (p ∷ past))
    inside-still pid c n =
        inside-same ads steady (high switched past) (unit_time switched pid past) (switched_pids_are_within switched pid c past) es later g ∙ ap (is_inside ads later) (sym (time-same pid n))

    abbrev inside : List Standing → List (List ℕ) → ℕ → Bool
    inside es behind pid = is_inside ads es (unit_time switched pid behind)

    module _ (steps next : PidSteps) (same : (pid : ℕ) → on pid p ≡ false → next pid ≡ steps pid) where
      goes-one : (s : SwitchedStream) (i : ℕ) (o : Option ℕ) → slice_get switched i ≡ o → GoesAs s (inside es past) steps o → GoesAs s (inside later (p ∷ past)) next o
      goes-one s i None is go = go
      goes-one s i (Some pid) is go =
          let n = off-at switched p i pid off is in
          record { counter = subst (Counts s.counter) (sym (same pid n)) go.counter; leaving = go.leaving ∙ inside-still pid (contained switched i pid is) n }

      pub all-go-on : (streams : List SwitchedStream) → AllGo streams (inside es past) steps switched → AllGo streams (inside later (p ∷ past)) next switched
      all-go-on streams all = λ i s l. goes-one (slice_index_or streams i s) i (slice_get switched i) refl (all i s l)

    pub all-plans : length switched ≤ 8 → (start : ℤ) → plan_at switched ads events (p ∷ past) later start ≡ plan_at switched ads events past es start
    all-plans few start =
        found-still (find (λ (e : Standing). int_eq e.start start) later) ∙ found-same switched ads events past few steady start es later g
      where
        found-still : (o : Option Standing) → plan_found switched ads events (p ∷ past) o ≡ plan_found switched ads events past o
        found-still None = refl
        found-still (Some e) = plan-still switched ads events e p past quiet

    pub all-counts : counts_of switched ads events (p ∷ past) later (is_forgotten (high switched past)) ≡ counts_of switched ads events past es (is_forgotten (high switched past))
    all-counts = counts-same switched ads steady events (high switched past) (p ∷ past) past (λ e. any-crossed-still switched ads events e p past quiet) es later g

-- ---- the whole network

module _ (k : Setting) (p : List ℕ) (past : List (List ℕ)) (off : on_one (switched_at k past) p ≡ false) (steady : AreSteady (adverts_at k past)) (few : length (switched_at k past) ≤ 8) where
  abbrev wanted : Option ℕ
  wanted = Some k.program

  module _ (m : ProgramMap) (is : known_map wanted past ≡ Some m) where
    abbrev sw : List ℕ
    sw = switched_at k past

    abbrev ads : Adverts
    ads = adverts_at k past

    abbrev hist : History
    hist = history_at k past

    grown : Grows (high_at k past) (events_at k past) (events_at k (p ∷ past))
    grown = packet-grows k.cue_pid (high_at k) p past

    same-high : high_at k (p ∷ past) ≡ high_at k past
    same-high = high-next k p past m is ∙ high-still sw ads steady hist p (behind_at k past) off

    five : {F : Type 0} (f : List ℕ → Adverts → History → List (List ℕ) → List Standing → F)
        → f (switched_at k (p ∷ past)) (adverts_at k (p ∷ past)) (history_at k (p ∷ past)) (behind_at k (p ∷ past)) (events_at k (p ∷ past)) ≡ f sw ads hist (p ∷ behind_at k past) (events_at k (p ∷ past))
    five f = same-five f (same-switched k p past m is) (same-adverts k p past m is) (same-history k p past m is) (more-behind k p past m is) refl

    same-plans : (start : ℤ) → plans_at k (p ∷ past) (behind_at k (p ∷ past)) start ≡ plans_at k past (behind_at k past) start
    same-plans start =
        five (λ s a h b es. plan_at s a h b es start)
        ∙ all-plans sw ads steady hist p (behind_at k past) off (events_at k past) (events_at k (p ∷ past)) grown few start

    pub next-same : (steps : PidSteps) (pid : ℕ) → on pid p ≡ false → counted_next k steps p past pid ≡ steps pid
    next-same steps pid n =
        ap (λ b. (if b then counted_at k.packed (fate_at k p past) (behind_at k past) (counted_before k steps p past) else (λ pid. [])) pid) (is-behind k p past m is)
        ∙ counted-same sw ads steady hist p (behind_at k past) off k.packed steps pid n

    events-are : events_at k (p ∷ past) ≡ events_at k (p ∷ past)
    events-are = refl

    in-program : ChangesNothing k p past
    in-program = record {
      high = same-high;
      fresh = λ start a. same-plans start ∙ found-ahead sw ads hist (behind_at k past) few steady start (ahead-of (high_at k past) start a) (events_at k past);
      plans = sym (values-same (plans_at k (p ∷ past) (behind_at k (p ∷ past))) (plans_at k past (behind_at k past)) same-plans (standing k.cue_pid (high_at k) past));
      streams = λ streams steps all.
          with-five (λ s a h b es. AllGo streams (λ pid. is_inside a es (unit_time s pid b)) (counted_next k steps p past) s)
          (same-switched k p past m is) (same-adverts k p past m is) (same-history k p past m is) (more-behind k p past m is) events-are
          (all-go-on sw ads steady hist p (behind_at k past) off (events_at k past) (events_at k (p ∷ past)) grown steps (counted_next k steps p past) (next-same steps) streams all);
      forgotten =
          ap (λ latest. counts_known k (p ∷ past) (is_forgotten latest)) same-high
          ∙ five (λ s a h b es. counts_of s a h b es (is_forgotten (high_at k past)))
          ∙ all-counts sw ads steady hist p (behind_at k past) off (events_at k past) (events_at k (p ∷ past)) grown;
    }

  -- in the head, or at its end: no event is armed, and no unit has begun
  module _ (none : known_map wanted past ≡ None) where
    empty : {F : Type 0} (f : List Standing → F) → f (events_at k past) ≡ f []
    empty f = ap f (none-armed k past none)

    empty-next : {F : Type 0} (f : List Standing → F) → f (events_at k (p ∷ past)) ≡ f []
    empty-next f = ap f (first-armed k p past none)

    next-none : (steps : PidSteps) (pid : ℕ) → counted_next k steps p past pid ≡ []
    next-none steps pid =
        ap (λ o. (if is_some (option_map program_in o) then counted_at k.packed (fate_at k p past) (behind_at k past) (counted_before k steps p past) else (λ pid. [])) pid) none

    goes-first : (s : SwitchedStream) (f : ℕ → Bool) (steps : PidSteps) (o : Option ℕ) → GoesAs s f steps None → GoesAs s (inside_at k (p ∷ past) (behind_at k (p ∷ past))) (counted_next k steps p past) o
    goes-first s f steps None go = go
    goes-first s f steps (Some pid) go = record {
      counter = subst (Counts s.counter) (sym (next-none steps pid)) go.0;
      leaving = go.1 ∙ sym (empty-next (λ es. is_inside (adverts_at k (p ∷ past)) es (unit_time (switched_at k (p ∷ past)) pid (behind_at k (p ∷ past)))));
    }

    in-head : ChangesNothing k p past
    in-head = record {
      high = first-high k past none p ∙ sym (none-high k past none);
      fresh = λ start a. empty-next (λ es. plan_at (switched_at k (p ∷ past)) (adverts_at k (p ∷ past)) (history_at k (p ∷ past)) (behind_at k (p ∷ past)) es start);
      plans =
          empty (λ es. values_by (plans_at k past (behind_at k past)) (filter (stands (high_at k past)) es))
          ∙ sym (empty (λ es. values_by (plans_at k (p ∷ past) (behind_at k (p ∷ past))) (filter (stands (high_at k past)) es)));
      streams = λ streams steps all i s l.
          goes-first (slice_index_or streams i s) (inside_at k past (behind_at k past)) steps (slice_get (switched_at k (p ∷ past)) i)
          (subst (λ (pids : List ℕ). GoesAs (slice_index_or streams i s) (inside_at k past (behind_at k past)) steps (slice_get pids i)) (none-switched k past none) (all i s l));
      forgotten =
          empty-next (λ es. counts_of (switched_at k (p ∷ past)) (adverts_at k (p ∷ past)) (history_at k (p ∷ past)) (behind_at k (p ∷ past)) es (is_forgotten (high_at k (p ∷ past))))
          ∙ sym (empty (λ es. counts_of (switched_at k past) (adverts_at k past) (history_at k past) (behind_at k past) es (is_forgotten (high_at k past))));
    }

  by-known : (o : Option ProgramMap) → known_map wanted past ≡ o → ChangesNothing k p past
  by-known None none = in-head none
  by-known (Some m) is = in-program m is

pub unswitched_change_nothing : UnswitchedChangeNothing
unswitched_change_nothing k p past off steady few = by-known k p past off steady few (known_map (Some k.program) past) refl
