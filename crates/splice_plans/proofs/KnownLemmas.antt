-- The ends that are known of events, by what becomes of these.
use Rattle.std.proofs.Common.{◌≡◌, ℕ, ◌<◌, List, [], ◌∷◌, ◌++◌, Bool, true, false, not, ◌&&◌, ◌||◌, ◌⊎◌, inl, inr, refl, sym, ap, ◌∙◌, Option, Some, arith, append_assoc}
use Rattle.std.specs.Prelude.{ℤ, pos, ◌+ℤ◌, ◌≤ℤ◌, option_map, find, All, Contains, slice_get}
use Rattle.std.specs.Ordering.{int_eq}
use Rattle.std.proofs.lemmas.Int.{ints}
use Rattle.std.proofs.lemmas.Bool.{true≢false, and_left, not-true, and_parts}
use Rattle.std.proofs.lemmas.List.Elements.{All-cons, All-nil, All-head, All-tail}
use Rattle.ts_packet.proofs.Cases.{by_test}
use Rattle.unit_stream.specs.Times.{high}
use Rattle.event_table.specs.Standing.{Standing, end_of}
use Rattle.armed_laws.specs.Laws.{Becomes, Grows, AreApart, IsApartOf, NoneMeet}
use Rattle.splice_laws.specs.Splicing.{PlayedEvent, TimedStream, stream, at_or_past}
use Rattle.splice_laws.specs.Laws.{IsStream}
use Rattle.splice_laws.specs.Settled.{IsAhead, IsSettled, IsSettledSince, NeverPassesHigh, begun_now, stands_now}
use Rattle.splice_laws.proofs.EndLemmas.{not-ahead}
use Rattle.splice_laws.proofs.PidLemmas.{pids_are_streams}
use Rattle.splice_laws.proofs.SettledLemmas.{flags_settle, switched_pids_are_within}
use Rattle.splice_laws.proofs.TableLemmas.{ahead-before}
use Rattle.armed_laws.proofs.MeetLemmas.{same-low}
use Rattle.pes_time.proofs.IntLemmas.{int-is}
use Rattle.std.proofs.lemmas.Option.{slice_get_within, get_or_from_slice_get}
use Rattle.splice_plans.specs.Playing.{Adverts, History, is_played, as_played, end_known}
use Rattle.splice_plans.specs.Laws.{EndFalls}
use Rattle.splice_plans.specs.Histories.{IsHistory, AreSteady, EndsNeverRise, IsSettledAt, PlayedSettle}

and-right : (a b c : Bool) → a ≡ true → b ≡ c → (a && b) ≡ (a && c)
and-right a b c h k = ap (λ d. a && d) k

module _ (ads : Adverts) (steady : AreSteady ads) (latest : Option ℤ) where
  abbrev is_meant : ℤ → Standing → Bool
  is_meant start e = int_eq e.start start && is_played ads e

  abbrev known_in : ℤ → List Standing → Option ℤ
  known_in start es = option_map end_of (find (is_meant start) es)

  -- ---- played then, played now

  uncancelled : (e x : Standing) → Becomes latest e x → (IsAhead latest e.start → ⊥) → x.cancelled ≡ e.cancelled
  uncancelled e x b past = by b.cancelled
    where
      by : (x.cancelled ≡ e.cancelled) ⊎ (IsAhead latest e.start × (x.cancelled ≡ true)) → x.cancelled ≡ e.cancelled
      by (inl is) = is
      by (inr ahead) = absurd (past ahead.0)

  same-played : (e x : Standing) → Becomes latest e x → x.cancelled ≡ e.cancelled → is_played ads x ≡ is_played ads e
  same-played e x b is = ap (λ c. not c && ads.fits x) is ∙ ap (λ f. not e.cancelled && f) (steady.fits latest e x b)

  same-meant : (start : ℤ) → (IsAhead latest start → ⊥) → (e x : Standing) → Becomes latest e x → is_meant start x ≡ is_meant start e
  same-meant start past e x b = by_test (int_eq e.start start)
      (λ is. ap (λ s. int_eq s start && is_played ads x) b.start
      ∙ ap (λ p. int_eq e.start start && p) (same-played e x b (uncancelled e x b (λ ahead. past (rw (sym (int-is e.start start is)) ahead)))))
      (λ is. and_left (int_eq x.start start) (is_played ads x) (ap (λ s. int_eq s start) b.start ∙ is) ∙ sym (and_left (int_eq e.start start) (is_played ads e) is))

  falls-one : (e x : Standing) → (end_of x ≡ end_of e) ⊎ (IsAhead latest (end_of x) × (end_of x ≤ℤ end_of e)) → EndFalls latest (Some (end_of e)) (Some (end_of x))
  falls-one e x (inl is) = (rw is (same-low (end_of e)), inl (sym is))
  falls-one e x (inr ahead) = (ahead.1, inr ahead.0)

  falls-first : (start : ℤ) (b : Bool) (e x : Standing) (es later : List Standing) → is_meant start e ≡ b → is_meant start x ≡ b → Becomes latest e x → EndFalls latest (known_in start es) (known_in start later)
      → EndFalls latest (known_in start (e ∷ es)) (known_in start (x ∷ later))
  falls-first start true e x es later h k b rest = simp (h, k) (falls-one e x b.end)
  falls-first start false e x es later h k b rest = simp (h, k) rest

  pub known-falls : (start : ℤ) → (IsAhead latest start → ⊥) → (es later : List Standing) → Grows latest es later → EndFalls latest (known_in start es) (known_in start later)
  known-falls start past [] later g = tt
  known-falls start past (e ∷ es) [] g = absurd g
  known-falls start past (e ∷ es) (x ∷ later) g =
      falls-first start (is_meant start e) e x es later refl (same-meant start past e x g.0) g.0 (known-falls start past es later g.1)

  -- ---- settled

  abbrev Settled : List Standing → Standing → Type 0
  Settled es x = is_played ads x ≡ true → IsSettled (as_played x) (known_in x.start es) latest

  played-before : (e x : Standing) → Becomes latest e x → is_played ads x ≡ true → is_played ads e ≡ true
  played-before e x b is = by b.cancelled
    where
      clash : (c f : Bool) → c ≡ true → (not c && f) ≡ true → ⊥
      clash true f h k = true≢false (sym k)
      clash false f h k = true≢false (sym h)

      by : (x.cancelled ≡ e.cancelled) ⊎ (IsAhead latest e.start × (x.cancelled ≡ true)) → is_played ads e ≡ true
      by (inl same) = sym (same-played e x b same) ∙ is
      by (inr ahead) = absurd (clash x.cancelled (ads.fits x) ahead.1 is)

  equal : (a : ℤ) → int_eq a a ≡ true
  equal a = grind (arith, ints)

  meant-itself : (e x : Standing) → Becomes latest e x → is_played ads x ≡ true → is_meant x.start e ≡ true
  meant-itself e x b is = ap (λ s. int_eq s x.start && is_played ads e) (sym b.start) ∙ ap (λ c. c && is_played ads e) (equal x.start) ∙ played-before e x b is

  settled-end : (e x : Standing) → (end_of x ≡ end_of e) ⊎ (IsAhead latest (end_of x) × (end_of x ≤ℤ end_of e)) → IsSettled (as_played x) (Some (end_of e)) latest
  settled-end e x (inl is) = inl (sym is)
  settled-end e x (inr ahead) = inr ahead

  settled-first : (e x : Standing) (es : List Standing) → Becomes latest e x → Settled (e ∷ es) x
  settled-first e x es b is =
      let meant = meant-itself e x b is in
      simp meant (settled-end e x b.end)

  starts-differ : (y x : Standing) → 0 < y.length → 0 < x.length → AreApart y x → int_eq y.start x.start ≡ false
  starts-differ y x h k (inl a) = by y.start y.length x.start h a
    where
      by : (s : ℤ) (n : ℕ) (t : ℤ) → 0 < n → (s +ℤ pos n) ≤ℤ t → int_eq s t ≡ false
      by s n t h a = grind (arith, ints, h, a)
  starts-differ y x h k (inr a) = by x.start x.length y.start k a
    where
      by : (s : ℤ) (n : ℕ) (t : ℤ) → 0 < n → (s +ℤ pos n) ≤ℤ t → int_eq t s ≡ false
      by s n t h a = grind (arith, ints, h, a)

  not-meant : (e y x : Standing) → Becomes latest e y → 0 < y.length → 0 < x.length → AreApart y x → is_meant x.start e ≡ false
  not-meant e y x b h k a = and_left (int_eq e.start x.start) (is_played ads e) (ap (λ s. int_eq s x.start) (sym b.start) ∙ starts-differ y x h k a)

  settled-one : (e y x : Standing) (es : List Standing) → Becomes latest e y → 0 < y.length → 0 < x.length → AreApart y x → Settled es x → Settled (e ∷ es) x
  settled-one e y x es b h k a s is =
      let no = not-meant e y x b h k a in
      simp no (s is)

  settled-more : (e y : Standing) (es : List Standing) → Becomes latest e y → 0 < y.length → (later : List Standing) → IsApartOf y later → NoneMeet later → All (Settled es) later → All (Settled (e ∷ es)) later
  settled-more e y es b h [] apart none all = All-nil (Settled (e ∷ es))
  settled-more e y es b h (x ∷ later) apart none all =
      All-cons (Settled (e ∷ es)) x later (settled-one e y x es b h none.0 apart.0 (All-head (Settled es) x later all))
      (settled-more e y es b h later apart.1 none.2 (All-tail (Settled es) x later all))

  settled-new : (later : List Standing) → All (λ (x : Standing). IsAhead latest x.start) later → All (Settled []) later
  settled-new [] all = All-nil (Settled [])
  settled-new (x ∷ later) all =
      let ahead = λ (y : Standing). IsAhead latest y.start in
      All-cons (Settled []) x later (λ is. All-head ahead x later all) (settled-new later (All-tail ahead x later all))

  pub all-settled : (es later : List Standing) → Grows latest es later → NoneMeet later → All (Settled es) later
  all-settled [] later g none = settled-new later g
  all-settled (e ∷ es) [] g none = absurd g
  all-settled (e ∷ es) (y ∷ later) g none =
      All-cons (Settled (e ∷ es)) y later (settled-first e y es g.0) (settled-more e y es g.0 none.0 later none.1 none.2 (all-settled es later g.1 none.2))

-- ---- in a stream

module _ (r : TimedStream) (k : IsStream r) (w : NeverPassesHigh r) (x : PlayedEvent) (known : List (List ℕ) → Option ℤ) where
  begun-by : (a b c s : Bool) (edge : ℤ) (t : Option ℤ) → (a || ((b && c) && s)) ≡ true → (a ≡ true) ⊎ (c ≡ true)
  begun-by true b c s edge t h = inl refl
  begun-by false true true s edge t h = inr refl
  begun-by false true false s edge t h = absurd (true≢false (sym h))
  begun-by false false c s edge t h = absurd (true≢false (sym h))

  -- where an event has begun, the greatest time is at or past its start
  pub begun-past : (past : List (List ℕ)) → begun_now r x known past ≡ true → IsAhead (r.high past) x.start → ⊥
  begun-past [] h ahead = true≢false (sym h)
  begun-past (p ∷ past) h ahead = either (begun-by (begun_now r x known past) (r.begins p past) (at_or_past x.start (r.time (p ∷ past))) (stands_now x (known (p ∷ past)) (r.high past)) x.start (r.time (p ∷ past)) h)
      (λ b. begun-past past b (ahead-before (r.high past) (r.high (p ∷ past)) x.start (k.rises p past) ahead))
    where
      either : (begun_now r x known past ≡ true) ⊎ (at_or_past x.start (r.time (p ∷ past)) ≡ true) → (begun_now r x known past ≡ true → ⊥) → ⊥
      either (inl b) earlier = earlier b
      either (inr c) earlier = not-ahead x.start (r.time (p ∷ past)) (r.high (p ∷ past)) (w (p ∷ past)) c ahead

pub ends_never_rise : EndsNeverRise
ends_never_rise switched pid c ads steady events h x = λ p past b.
    let r = stream switched pid in
    let one : List (List ℕ) = p ∷ [] in
    known-falls ads steady (high switched past) x.start
    (begun-past r (pids_are_streams switched pid) (switched_pids_are_within switched pid c) x (end_known ads events x.start) past b)
    (events past) (events (p ∷ past)) (h.grows one past)

-- at each past of a run
module _ (ads : Adverts) (steady : AreSteady ads) (r : TimedStream) (events : History) (h : IsHistory r.high events) where
  abbrev Since : List (List ℕ) → Standing → Type 0
  Since past e = is_played ads e ≡ true → IsSettledSince r (as_played e) (end_known ads events e.start) past

  since-one : (p : List ℕ) (past : List (List ℕ)) (later : List Standing) → All (Settled ads steady (r.high (p ∷ past)) (events (p ∷ past))) later → All (Since past) later → All (Since (p ∷ past)) later
  since-one p past [] all since = All-nil (Since (p ∷ past))
  since-one p past (e ∷ later) all since =
      let s = Settled ads steady (r.high (p ∷ past)) (events (p ∷ past)) in
      All-cons (Since (p ∷ past)) e later (λ is. (inl (All-head s e later all is), All-head (Since past) e later since is))
      (since-one p past later (All-tail s e later all) (All-tail (Since past) e later since))

  since-none : (later : List Standing) → All (Since []) later
  since-none [] = All-nil (Since [])
  since-none (e ∷ later) = All-cons (Since []) e later (λ is. tt) (since-none later)

  one-fewer : (more : List (List ℕ)) (p : List ℕ) (past : List (List ℕ)) → (more ++ p ∷ []) ++ past ≡ more ++ (p ∷ past)
  one-fewer more p past = append_assoc more (p ∷ []) past

  pub settled-since : (more past : List (List ℕ)) → All (Since past) (events (more ++ past))
  settled-since more [] = since-none (events (more ++ []))
  settled-since more (p ∷ past) =
      let all = all-settled ads steady (r.high (p ∷ past)) (events (p ∷ past)) (events (more ++ (p ∷ past))) (h.grows more (p ∷ past)) (h.apart (more ++ (p ∷ past))) in
      let before : All (Since past) (events (more ++ (p ∷ past))) = rw (sym (one-fewer more p past)) (settled-since (more ++ p ∷ []) past) in
      since-one p past (events (more ++ (p ∷ past))) all before

settle-all : (switched : List ℕ) (pid : ℕ) → Contains switched pid → (ads : Adverts) (steady : AreSteady ads) (events : History) (h : IsHistory (high switched) events) → (past : List (List ℕ)) (later : List Standing)
    → All (Since ads steady (stream switched pid) events h past) later → All (IsSettledAt switched pid ads events past) later
settle-all switched pid c ads steady events h past [] all = All-nil (IsSettledAt switched pid ads events past)
settle-all switched pid c ads steady events h past (e ∷ later) all =
    let since = Since ads steady (stream switched pid) events h past in
    All-cons (IsSettledAt switched pid ads events past) e later
    (λ is. flags_settle (stream switched pid) (pids_are_streams switched pid) (switched_pids_are_within switched pid c) (as_played e) (end_known ads events e.start) past (All-head since e later all is))
    (settle-all switched pid c ads steady events h past later (All-tail since e later all))

pub played_settle : PlayedSettle
played_settle switched pid c ads steady events h more past =
    settle-all switched pid c ads steady events h past (events (more ++ past)) (settled-since ads steady (stream switched pid) events h more past)

pub contained : (pids : List ℕ) (i pid : ℕ) → slice_get pids i ≡ Some pid → Contains pids pid
contained pids i pid h = (i, slice_get_within pids i pid h, get_or_from_slice_get pids i pid pid h)

pub played-stays : (ads : Adverts) (e : Standing) → is_played ads e ≡ true → e.cancelled ≡ false
played-stays ads e h = not-true e.cancelled (and_parts (not e.cancelled) (ads.fits e) h).0
