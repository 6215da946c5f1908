-- Behind a packet that is none of the cues.
use Rattle.std.proofs.Common.{◌≡◌, ℕ, ◌+◌, ◌<◌, List, [], ◌∷◌, ◌++◌, Bool, true, false, not, ◌&&◌, ◌||◌, refl, sym, ap, ◌∙◌, subst, Option, None, Some, arith, append_assoc}
use Rattle.std.specs.Prelude.{ℤ, pos, ◌+ℤ◌, ◌≤ℤ◌, int_lt, All, Contains, filter, find, count_by, is_some, option_map}
use Rattle.std.specs.List.{list_any, AllByRecursion}
use Rattle.std.specs.Ordering.{int_eq}
use Rattle.std.proofs.lemmas.Int.{ints}
use Rattle.std.proofs.lemmas.Bool.{true≢false}
use Rattle.std.proofs.lemmas.List.Elements.{All-head, All-tail}
use Rattle.program_laws.proofs.FaultLemmas.{Each-map, Each-both}
use Rattle.ts_packet.proofs.Cases.{by_test}
use Rattle.ts_packet.specs.Fields.{on}
use Rattle.unit_stream.specs.Times.{begins, high, unit_time}
use Rattle.unit_stream.specs.Faults.{unit_fault}
use Rattle.psi_tables.specs.ProgramMap.{ProgramMap}
use Rattle.program_follower.specs.Program.{known_map, program_in}
use Rattle.event_table.specs.Standing.{Standing, end_of, forgotten_at, stands}
use Rattle.event_table.proofs.AdvanceLemmas.{may-advance}
use Rattle.armed_events.specs.Arming.{standing, Heard}
use Rattle.armed_events.specs.Valuing.{values_by}
use Rattle.armed_events.proofs.PastLemmas.{heard-off}
use Rattle.armed_laws.specs.Laws.{IsApartOf, NoneMeet}
use Rattle.armed_laws.proofs.MeetLemmas.{none-meet, starts-differ}
use Rattle.splice_laws.specs.Splicing.{stream, break_stands}
use Rattle.splice_laws.specs.Laws.{Risen}
use Rattle.splice_laws.specs.Settled.{IsSettled}
use Rattle.splice_laws.proofs.PidLemmas.{pids_are_streams}
use Rattle.splice_laws.proofs.SettledLemmas.{switched_pids_are_within}
use Rattle.splice_plans.specs.declared.plan.Plan.{Plan}
use Rattle.splice_plans.specs.Playing.{Adverts, History, is_played, as_played, end_known, is_inside}
use Rattle.splice_plans.specs.Switching.{Setting, moves, switched_at, high_at, events_at, history_at, is_behind_head}
use Rattle.splice_plans.specs.Histories.{IsHistory, AreSteady}
use Rattle.splice_plans.specs.Parts.{beside}
use Rattle.splice_plans.specs.Known.{plan_found, plan_at, crossed_known, is_crossed_known, adverts_at, behind_at, plans_at, counts_known, is_forgotten}
use Rattle.event_table.specs.Counting.{one_if}
use Rattle.splice_plans.specs.Reporting.{is_not_fitted, with_counted, is_out_at}
use Rattle.splice_plans.proofs.KnownLemmas.{all-settled}
use Rattle.splice_plans.proofs.HistoryLemmas.{armed_is_history, never-falls}
use Rattle.known_laws.specs.Laws.{PassesOn, PacketsPass}
use Rattle.known_laws.proofs.HeadLemmas.{same-switched, same-adverts, more-behind, same-history, high-next, history-next}
use Rattle.known_laws.proofs.QuietLemmas.{crossed-still}
use Rattle.known_laws.proofs.AheadLemmas.{all-in}
use Rattle.known_laws.proofs.CountLemmas.{count-cons, same-count, counts_of, same-counts}
use Rattle.known_laws.proofs.CrossLemmas.{SettledAll, gone-crossed, unit-near}
use Rattle.known_laws.proofs.OtherLemmas.{same-five}

-- ---- the start says which event is meant

all-differ : (e : Standing) (es : List Standing) → 0 < e.length → IsApartOf e es → NoneMeet es → AllByRecursion (λ (x : Standing). int_eq e.start x.start ≡ false) es
all-differ e [] h a n = tt
all-differ e (x ∷ es) h a n = (starts-differ e x h n.0 a.0, all-differ e es h a.1 n.2)

abbrev pub IsFound : List Standing → Standing → Type 0
IsFound es e = find (λ (x : Standing). int_eq x.start e.start) es ≡ Some e

pub itself : (es : List Standing) → NoneMeet es → AllByRecursion (IsFound es) es
itself [] n = tt
itself (e ∷ es) n =
    let same = equal e.start in
    let other : Standing → Type 0 = λ x. int_eq e.start x.start ≡ false in (
      simp same refl,
      Each-map (λ x. other x × IsFound es x) (IsFound (e ∷ es)) (λ x h. let no = h.0 in simp no h.1) es
          (Each-both other (IsFound es) es (all-differ e es n.0 n.1 n.2) (itself es n.2)),
    )
  where
    equal : (a : ℤ) → int_eq a a ≡ true
    equal a = grind (arith, ints)

-- ---- all ends of the events of the end are settled

module _ (switched : List ℕ) (pid : ℕ) (c : Contains switched pid) (ads : Adverts) (steady : AreSteady ads) (events : History) (h : IsHistory (high switched) events) where
  abbrev pub IsSettledIn : List (List ℕ) → Standing → Type 0
  IsSettledIn past e = is_played ads e ≡ true →
      SettledAll (stream switched pid) (pids_are_streams switched pid) (switched_pids_are_within switched pid c) (as_played e) (end_known ads events e.start) past

  abbrev IsSettledAfter : List (List ℕ) → Standing → Type 0
  IsSettledAfter past x = is_played ads x ≡ true → IsSettled (as_played x) (end_known ads events x.start past) (high switched past)

  one-settled : (p : List ℕ) (past : List (List ℕ)) (later : List Standing) → All (IsSettledAfter (p ∷ past)) later → AllByRecursion (IsSettledIn past) later → AllByRecursion (IsSettledIn (p ∷ past)) later
  one-settled p past [] all before = tt
  one-settled p past (e ∷ later) all before =
      let after = IsSettledAfter (p ∷ past) in
      ((λ is. (All-head after e later all is, before.0 is)), one-settled p past later (All-tail after e later all) before.1)

  none-settled : (later : List Standing) → AllByRecursion (IsSettledIn []) later
  none-settled [] = tt
  none-settled (e ∷ later) = ((λ is. tt), none-settled later)

  pub settled-all : (more past : List (List ℕ)) → AllByRecursion (IsSettledIn past) (events (more ++ past))
  settled-all more [] = none-settled (events (more ++ []))
  settled-all more (p ∷ past) =
      let all = all-settled ads steady (high switched (p ∷ past)) (events (p ∷ past)) (events (more ++ (p ∷ past))) (h.grows more (p ∷ past)) (h.apart (more ++ (p ∷ past))) in
      let before : AllByRecursion (IsSettledIn past) (events (more ++ (p ∷ past))) =
      subst (λ (l : List (List ℕ)). AllByRecursion (IsSettledIn past) (events l)) (append_assoc more (p ∷ []) past) (settled-all (more ++ p ∷ []) past) in
      one-settled p past (events (more ++ (p ∷ past))) all before

pub ordered : (e : Standing) → e.start ≤ℤ end_of e
ordered e = at e.start e.length
  where
    at : (s : ℤ) (n : ℕ) → s ≤ℤ (s +ℤ pos n)
    at s n = omega (arith, ints)

-- ---- events that are forgotten are crossed no more

module _ (switched : List ℕ) (ads : Adverts) (steady : AreSteady ads) (events : History) (h : IsHistory (high switched) events) (p : List ℕ) (past : List (List ℕ)) (sound : unit_fault switched p past ≡ None) where
  abbrev IsCrossedOn : Standing → ℕ → Type 0
  IsCrossedOn e pid = crossed_known (stream switched pid) (as_played e) (end_known ads events e.start) (p ∷ past) ≡ crossed_known (stream switched pid) (as_played e) (end_known ads events e.start) past

  gone-stands : (latest : Option ℤ) (e : Standing) → is_forgotten latest e ≡ true → break_stands (as_played e) latest ≡ false
  gone-stands None e gone = absurd (true≢false (sym gone))
  gone-stands (Some high) e gone = at high (end_of e) gone
    where
      at : (high stop : ℤ) → not (int_lt high (stop +ℤ pos 900000)) ≡ true → break_stands (record { start = stop; stop = stop; name = 0 }) (Some high) ≡ false
      at high stop gone = grind (arith, ints)

  crossed-on : (pid : ℕ) (c : Contains switched pid) (e : Standing) → IsSettledIn switched pid c ads steady events h (p ∷ past) e → is_played ads e ≡ true → is_forgotten (high switched past) e ≡ true → IsCrossedOn e pid
  crossed-on pid c e s plays gone =
      let r = stream switched pid in
      let g = gone-stands (high switched past) e gone in
      by_test (begins pid p past)
      (λ y. gone-crossed r (pids_are_streams switched pid) (switched_pids_are_within switched pid c) (as_played e) (end_known ads events e.start) (ordered e) p past y g (s plays)
      (unit-near switched pid c (as_played e) p past y sound g))
      (λ n. crossed-still r (as_played e) (end_known ads events e.start) p past n)

  abbrev IsOver : Standing → Type 0
  IsOver e = is_played ads e ≡ true → is_forgotten (high switched past) e ≡ true → is_crossed_known switched ads events (p ∷ past) e ≡ is_crossed_known switched ads events past e

  any-crossed : (e : Standing) (pids : List ℕ) → AllByRecursion (IsCrossedOn e) pids
      → list_any (λ pid. crossed_known (stream switched pid) (as_played e) (end_known ads events e.start) (p ∷ past)) pids ≡ list_any (λ pid. crossed_known (stream switched pid) (as_played e) (end_known ads events e.start) past) pids
  any-crossed e [] h = refl
  any-crossed e (pid ∷ pids) h = both h.0 (any-crossed e pids h.1)
    where
      both : {a b c d : Bool} → a ≡ b → c ≡ d → (a || c) ≡ (b || d)
      both h k = rw (h, k) refl

  -- of all events, pid by pid
  abbrev IsOverOn : List ℕ → Standing → Type 0
  IsOverOn pids e = is_played ads e ≡ true → is_forgotten (high switched past) e ≡ true → AllByRecursion (IsCrossedOn e) pids

  over-on : (pids : List ℕ) → AllByRecursion (Contains switched) pids → AllByRecursion (IsOverOn pids) (events (p ∷ past))
  over-on [] all = each-none (events (p ∷ past))
    where
      each-none : (es : List Standing) → AllByRecursion (IsOverOn []) es
      each-none [] = tt
      each-none (e ∷ es) = ((λ plays gone. tt), each-none es)
  over-on (pid ∷ pids) all =
      let settled = IsSettledIn switched pid all.0 ads steady events h (p ∷ past) in
      Each-map (λ e. settled e × IsOverOn pids e) (IsOverOn (pid ∷ pids)) (λ e k. λ plays gone. (crossed-on pid all.0 e k.0 plays gone, k.1 plays gone)) (events (p ∷ past))
      (Each-both settled (IsOverOn pids) (events (p ∷ past)) (settled-all switched pid all.0 ads steady events h [] (p ∷ past)) (over-on pids all.1))

  pub all-over : AllByRecursion IsOver (events (p ∷ past))
  all-over = Each-map (IsOverOn switched) IsOver (λ e k. λ plays gone. any-crossed e switched (k plays gone)) (events (p ∷ past)) (over-on switched (all-in switched))

-- ---- counts over those that stand and those that do not

abbrev is_found : Standing → Plan → Standing × Plan
is_found e plan = (e, plan)

sum-standing : (x n l p q r s : ℕ) → x ≡ n + l → p ≡ n + q → r ≡ s → l ≡ q + s → x ≡ p + r
sum-standing x n l p q r s h i j k = omega (arith, h, i, j, k)

sum-gone : (x n l q r s : ℕ) → x ≡ n + l → r ≡ n + s → l ≡ q + s → x ≡ q + r
sum-gone x n l q r s h i j = omega (arith, h, i, j)

stands-later : (latest : Option ℤ) (later : ℤ) (e : Standing) → Risen latest (Some later) → stands latest e ≡ false → is_out_at later e ≡ true
stands-later None later e r gone = absurd (true≢false gone)
stands-later (Some h) later e r gone = at h later (forgotten_at e) r gone
  where
    at : (h later t : ℤ) → h ≤ℤ later → int_lt h t ≡ false → not (int_lt later t) ≡ true
    at h later t r gone = grind (arith, ints)

module _ (latest : Option ℤ) (later : ℤ) (rises : Risen latest (Some later)) (v : ℤ → Plan) (a b : Standing → Bool) (c : Standing × Plan → Bool) where
  abbrev pub IsCounted : Standing → Type 0
  IsCounted e = (stands latest e ≡ true → a e ≡ c (e, v e.start)) × (stands latest e ≡ false → a e ≡ b e)

  abbrev now : Standing → Bool
  now e = is_out_at later e && a e

  abbrev gone : Standing → Bool
  gone e = is_forgotten latest e && b e

  abbrev out : Standing × Plan → Bool
  out x = is_out_at later x.0 && c x

  abbrev those : List Standing → List (Standing × Plan)
  those es = beside (filter (stands latest) es) (values_by v (filter (stands latest) es))

  count-one : (e : Standing) (es : List Standing) (f : Bool) → stands latest e ≡ f → IsCounted e → count_by now es ≡ count_by out (those es) + count_by gone es
      → count_by now (e ∷ es) ≡ count_by out (those (e ∷ es)) + count_by gone (e ∷ es)
  count-one e es true h fact before =
      let same : one_if (out (e, v e.start)) ≡ one_if (now e) = ap (λ d. one_if (is_out_at later e && d)) (sym (fact.0 h)) in
      let here : those (e ∷ es) ≡ (e, v e.start) ∷ those es = simp h refl in
      let pairs : count_by out (those (e ∷ es)) ≡ one_if (now e) + count_by out (those es) =
      ap (count_by out) here ∙ count-cons out (e, v e.start) (those es) ∙ ap (λ (n : ℕ). n + count_by out (those es)) same in
      let rest : count_by gone (e ∷ es) ≡ count_by gone es = count-cons gone e es ∙ none-of (gone e) (count_by gone es) (ap (λ d. not d && b e) h) in
      sum-standing (count_by now (e ∷ es)) (one_if (now e)) (count_by now es) (count_by out (those (e ∷ es))) (count_by out (those es)) (count_by gone (e ∷ es)) (count_by gone es)
      (count-cons now e es) pairs rest before
    where
      none-of : (d : Bool) (n : ℕ) → d ≡ false → one_if d + n ≡ n
      none-of true n k = absurd (true≢false k)
      none-of false n k = omega arith
  count-one e es false h fact before =
      let out_now = stands-later latest later e rises h in
      let here : those (e ∷ es) ≡ those es = simp h refl in
      let same : one_if (gone e) ≡ one_if (now e) = ap (λ d. one_if (not d && b e)) h ∙ ap one_if (sym (fact.1 h)) ∙ ap (λ d. one_if (d && a e)) (sym out_now) in
      let rest : count_by gone (e ∷ es) ≡ one_if (now e) + count_by gone es = count-cons gone e es ∙ ap (λ (n : ℕ). n + count_by gone es) same in
      ap (λ (n : ℕ). n) (sum-gone (count_by now (e ∷ es)) (one_if (now e)) (count_by now es) (count_by out (those es)) (count_by gone (e ∷ es)) (count_by gone es) (count-cons now e es) rest before)
      ∙ ap (λ l. count_by out l + count_by gone (e ∷ es)) (sym here)

  pub counted-split : (es : List Standing) → AllByRecursion IsCounted es → count_by now es ≡ count_by out (those es) + count_by gone es
  counted-split [] facts = refl
  counted-split (e ∷ es) facts = count-one e es (stands latest e) refl facts.0 (counted-split es facts.1)

pub each-fact : {X : Type 0} (P : X → Type 0) → ((x : X) → P x) → (xs : List X) → AllByRecursion P xs
each-fact P f [] = tt
each-fact P f (x ∷ xs) = (f x, each-fact P f xs)

-- ---- the whole network

all-counts : {a b c d : ℕ} → a ≡ b → c ≡ d → {e f : ℕ} → e ≡ f → Rattle.known_laws.proofs.CountLemmas.three_counts a c e ≡ Rattle.known_laws.proofs.CountLemmas.three_counts b d f
all-counts h k l = rw (h, k, l) refl

module _ (k : Setting) (p : List ℕ) (past : List (List ℕ)) (m : ProgramMap) (is : known_map (Some k.program) past ≡ Some m) (behind : is_behind_head k past ≡ true)
    (off : on k.cue_pid p ≡ false) (steady : AreSteady (adverts_at k past)) (sound : unit_fault (switched_at k past) p (behind_at k past) ≡ None) where
  abbrev sw : List ℕ
  sw = switched_at k past

  abbrev ads : Adverts
  ads = adverts_at k past

  abbrev hist : History
  hist = history_at k past

  abbrev next : List (List ℕ)
  next = p ∷ behind_at k past

  abbrev es : List Standing
  es = events_at k past

  same-events : events_at k (p ∷ past) ≡ events_at k past
  same-events = ap (λ (h : Heard). h.events) (heard-off k.cue_pid (high_at k) p past off)

  five : {F : Type 0} (f : List ℕ → Adverts → History → List (List ℕ) → List Standing → F)
      → f (switched_at k (p ∷ past)) (adverts_at k (p ∷ past)) (history_at k (p ∷ past)) (behind_at k (p ∷ past)) (events_at k (p ∷ past)) ≡ f sw ads hist next es
  five f = same-five f (same-switched k p past m is) (same-adverts k p past m is) (same-history k p past m is) (more-behind k p past m is) same-events

  story : IsHistory (high sw) hist
  story = armed_is_history k past behind

  abbrev IsOverNow : Standing → Type 0
  IsOverNow e = is_played ads e ≡ true → is_forgotten (high_at k past) e ≡ true → is_crossed_known sw ads hist next e ≡ is_crossed_known sw ads hist (behind_at k past) e

  over : AllByRecursion IsOverNow es
  over = subst (λ l. AllByRecursion IsOverNow l) (history-next k p past ∙ same-events) (all-over sw ads steady hist story p (behind_at k past) sound)

  found : AllByRecursion (IsFound es) es
  found = itself es (none-meet k.cue_pid (high_at k) past)

  no-rise : (a b : Option ℤ) → Risen a b → b ≡ None → a ≡ None
  no-rise None b r h = refl
  no-rise (Some a) None r h = absurd r
  no-rise (Some a) (Some b) r h = cc

  -- counts by the packet more, at this greatest time
  recounted : (latest : Option ℤ) → high_at k (p ∷ past) ≡ latest → counts_known k (p ∷ past) (is_forgotten (high_at k (p ∷ past))) ≡ counts_of sw ads hist next es (is_forgotten latest)
  recounted latest h = ap (λ l. counts_known k (p ∷ past) (is_forgotten l)) h ∙ five (λ s a h b es. counts_of s a h b es (is_forgotten latest))

  abbrev latest : Option ℤ
  latest = high_at k past

  same-gone : (e : Standing) → IsOverNow e → (is_forgotten latest e && (is_played ads e && is_crossed_known sw ads hist next e)) ≡ (is_forgotten latest e && (is_played ads e && is_crossed_known sw ads hist (behind_at k past) e))
  same-gone e o = by (is_forgotten latest e) (is_played ads e) (is_crossed_known sw ads hist next e) (is_crossed_known sw ads hist (behind_at k past) e) (λ g q. o q g)
    where
      by : (f q a b : Bool) → (f ≡ true → q ≡ true → a ≡ b) → (f && (q && a)) ≡ (f && (q && b))
      by true true a b h = h refl refl
      by true false a b h = refl
      by false q a b h = refl

  still-counts : counts_of sw ads hist next es (is_forgotten latest) ≡ counts_of sw ads hist (behind_at k past) es (is_forgotten latest)
  still-counts =
      let f : Standing → Bool = λ e. is_forgotten latest e && (is_played ads e && is_crossed_known sw ads hist next e) in
      let g : Standing → Bool = λ e. is_forgotten latest e && (is_played ads e && is_crossed_known sw ads hist (behind_at k past) e) in
      same-counts refl refl (same-count f g es (Each-map IsOverNow (λ e. f e ≡ g e) same-gone es over))

  module _ (later : ℤ) (rises : Risen latest (Some later)) where
    abbrev v : ℤ → Plan
    v = plans_at k past next

    abbrev crossed : Standing → Bool
    crossed e = is_played ads e && is_crossed_known sw ads hist next e

    abbrev crossed_before : Standing → Bool
    crossed_before e = is_played ads e && is_crossed_known sw ads hist (behind_at k past) e

    abbrev told : Standing × Plan → Bool
    told x = is_played ads x.0 && x.1.is_crossed

    fact : (e : Standing) → IsOverNow e × IsFound es e → IsCounted latest later rises v crossed crossed_before told e
    fact e h = (
      (λ _. ap (λ o. is_played ads e && (plan_found sw ads hist next o).is_crossed) (sym h.1)),
      (λ gone. by (is_played ads e) (is_crossed_known sw ads hist next e) (is_crossed_known sw ads hist (behind_at k past) e) (λ q. h.0 q (ap not gone))),
    )
      where
        by : (q a b : Bool) → (q ≡ true → a ≡ b) → (q && a) ≡ (q && b)
        by true a b h = h refl
        by false a b h = refl

    all-split : counts_of sw ads hist next es (is_forgotten (Some later))
        ≡ with_counted (is_out_at later) ads (beside (standing k.cue_pid (high_at k) past) (values_by v (standing k.cue_pid (high_at k) past))) (counts_of sw ads hist (behind_at k past) es (is_forgotten latest))
    all-split =
        let plays : Standing × Plan → Bool = λ x. is_played ads x.0 in
        let unfit : Standing × Plan → Bool = λ x. is_not_fitted ads x.0 in
        same-counts
        (counted-split latest later rises v (is_played ads) (is_played ads) plays es (each-fact (IsCounted latest later rises v (is_played ads) (is_played ads) plays) (λ e. ((λ _. refl), (λ _. refl))) es))
        (counted-split latest later rises v (is_not_fitted ads) (is_not_fitted ads) unfit es (each-fact (IsCounted latest later rises v (is_not_fitted ads) (is_not_fitted ads) unfit) (λ e. ((λ _. refl), (λ _. refl))) es))
        (counted-split latest later rises v crossed crossed_before told es
        (Each-map (λ e. IsOverNow e × IsFound es e) (IsCounted latest later rises v crossed crossed_before told) fact es (Each-both IsOverNow (IsFound es) es over found)))

  risen-to : (later : ℤ) → high_at k (p ∷ past) ≡ Some later → Risen latest (Some later)
  risen-to later h = subst (λ l. Risen latest l) h (never-falls k p past)

  pub passes : PassesOn k p past
  passes = record {
    plans = five (λ s a h b es. λ (start : ℤ). plan_at s a h b es start);
    inside = five (λ s a h b es. λ (pid : ℕ). is_inside a es (unit_time s pid b));
    moves = five (λ s a h b es. moves s a h b);
    switched = same-switched k p past m is;
    events = same-events;
    unheard = no-rise (high_at k past) (high_at k (p ∷ past)) (never-falls k p past);
    higher = λ later h. may-advance sw p (behind_at k past) later sound (sym (high-next k p past m is) ∙ h);
    same = λ h. recounted latest h ∙ still-counts;
    counted = λ later h. recounted (Some later) h ∙ all-split later (risen-to later h);
  }

pub packets_pass : PacketsPass
packets_pass k p past behind off steady sound = by (known_map (Some k.program) past) refl
  where
    by : (o : Option ProgramMap) → known_map (Some k.program) past ≡ o → PassesOn k p past
    by None none = absurd (true≢false (sym behind ∙ ap (λ o. is_some (option_map program_in o)) none))
    by (Some m) is = passes k p past m is behind off steady sound
