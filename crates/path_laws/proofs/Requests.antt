-- The accepted requests are a run on the line, with the injector's events.
use Rattle.std.proofs.Common.{◌≡◌, ℕ, ◌*◌, ◌^◌, ◌<◌, ◌≤◌, ◌==◌, Bool, true, false, not, ◌&&◌, refl, sym, ap, ◌∙◌, subst, List, [], ◌∷◌, ◌++◌, arith, if◌then◌else◌}
use Rattle.std.specs.Prelude.{ℤ, pos, ◌+ℤ◌, ◌≤ℤ◌, int_lt, int_le, map, filter, find, Option, None, Some, Result, Ok, Err}
use Rattle.std.proofs.lemmas.Int.{ints}
use Rattle.std.proofs.lemmas.Bool.{and_parts}
use Rattle.ts_packet.proofs.Cases.{by_test}
use Rattle.scte104_codec.specs.declared.requests.SpliceRequest.{SpliceRequest}
use Rattle.event_table.specs.Standing.{Standing, end_of, has_begun, has_id, cancelled_one, ending_at, with_first, stands, is_of}
use Rattle.injector.specs.declared.refusal.Refusal.{Refusal}
use Rattle.injector.specs.declared.refusal.Refusal.TheVariants.{InUse, Full, Overlap, NoSuchEvent}
use Rattle.injector.specs.Asking.{is_start, asked_of}
use Rattle.injector.specs.Verdicts.{time_at, start_event, start_verdict_at, end_verdict_at, cancel_verdict_at, verdict_of}
use Rattle.injector.specs.Turns.{Turn, Judged, Passed, greatest_in, standing}
use Rattle.injector.specs.Senders.{Sender, with_event, sender_stands, stands_by, events_in, with_request, with_judged, senders}
use Rattle.injector.proofs.SenderLemmas.{standing-events, filter-events}
use Rattle.cue_laws.specs.Events.{Turn as LineTurn, Started, Cancelled, Ended, LineEvent, before, events, can_start, can_cancel, can_end, cancel_by, end_by}
use Rattle.unit_stream.specs.Clocks.{Rises}
use Rattle.cue_laws.specs.Events.{high as line_high, is_of as line_is_of}
use Rattle.cue_laws.specs.Cueing.{Sender as LineSender, IsRun, change}
use Rattle.cue_laws.specs.Cueing.{senders as line_senders, tell as line_tell}
use Rattle.cue_laws.proofs.Fair.{IsFair, Fair, stand, event_of}
use Rattle.cue_laws.proofs.Orders.{Orderly}
use Rattle.ts_packet.specs.Membership.{In}
use Rattle.ts_packet.proofs.MembershipLemmas.{In-map}
use Rattle.path_laws.specs.Path.{FieldsFit, FitsIn, IsSteadyHistory, with_verdict, with_asked, asked_line}
use Rattle.path_laws.proofs.Alike.{Alike, AtMostOnce, alike-in, find-some}
use Rattle.path_laws.proofs.Switch.{view, IsView, find-filter, is_of-view, at-most-once, the-one, used-is, meets-is, full-is, some-is}
use Rattle.path_laws.proofs.Facts.{IsServed, ServedBy, asked-facts}
use Rattle.path_laws.proofs.Senders.{IsSender, cancel-senders, end-senders, fair-in, tell-senders, view-senders}

-- a history of senders stands for a run on the line
pub record Stood (h : Option ℤ) (xs : List Sender) (run : List LineTurn) : Type 0 where
  pub clock : line_high run ≡ h
  pub accepted : IsRun run
  pub alike : Alike (IsSender h) xs (line_senders run)

-- ---- what stands at a time

module _ (h : ℤ) (xs : List Sender) (run : List LineTurn) (s : Stood (Some h) xs run) where
  ordered : Orderly (Some h) (events run)
  ordered = subst (λ k. Orderly k (events run)) s.clock (stand run s.accepted).order

  same-events : map event_of (line_senders run) ≡ events run
  same-events = (stand run s.accepted).same

  viewed : Alike IsView (events_in xs) (events run)
  viewed = subst (Alike IsView (events_in xs)) same-events (view-senders (Some h) xs (line_senders run) s.alike)

  fairly : (y : LineSender) → In y (line_senders run) → (older : List LineEvent) × IsFair (Some h) y.event y.told older
  fairly = fair-in (Some h) (line_senders run) (subst (λ k. Fair k (line_senders run)) s.clock (stand run s.accepted).fair)

  mine-of : (y : LineSender) → In y (line_senders run) → In y.event (events run)
  mine-of y i = subst (In y.event) same-events (In-map event_of y (line_senders run) i)

  -- ---- cancels

  begun-not : (z : Standing) → has_begun (Some h) z ≡ false → before (Some h) z.start ≡ true
  begun-not z is = late h z.start is
    where
      late : (k start : ℤ) → int_le start k ≡ false → int_lt k start ≡ true
      late k start is = grind (arith, ints)

  cancel-by-found : (id : ℕ) (f : Option Standing) → find (is_of (Some h) id) (events_in xs) ≡ f → cancel_verdict_at (Some h) f ≡ Ok tt → (e : LineEvent) × In e (events run) × (can_cancel (Some h) id e ≡ true)
  cancel-by-found id None is verdict = absurd (let bad : Err NoSuchEvent ≡ Ok tt = verdict in cc)
  cancel-by-found id (Some z) is verdict =
      let f = find-some (is_of (Some h) id) z (events_in xs) is in
      let r = alike-in IsView z (events_in xs) (events run) viewed f.0 in
      let t : line_is_of (Some h) id r.0 ≡ true = sym (is_of-view (Some h) id z r.0 r.2) ∙ f.1 in
      let early : before (Some h) (r.0).start ≡ true = ap (λ (e : LineEvent). before (Some h) e.start) (sym r.2) ∙ begun-not z (by_test (has_begun (Some h) z) (λ b. absurd (let bad = simp b at verdict in cc)) (λ b. b)) in
      (r.0, r.1, simp (t, early) refl)

  found-is : (id : ℕ) → find (has_id id) (events_in (filter (sender_stands (Some h)) xs)) ≡ find (is_of (Some h) id) (events_in xs)
  found-is id = ap (find (has_id id)) (filter-events (stands (Some h)) xs) ∙ sym (find-filter (stands (Some h)) (has_id id) (events_in xs))

  pub cancel-stood : (id : ℕ) → cancel_verdict_at (Some h) (find (has_id id) (events_in (filter (sender_stands (Some h)) xs))) ≡ Ok tt
      → Stood (Some h) (with_first (stands_by (Some h) id) (with_event cancelled_one) xs) (Cancelled id ∷ run)
  cancel-stood id verdict =
      let e = cancel-by-found id (find (is_of (Some h) id) (events_in xs)) refl (ap (cancel_verdict_at (Some h)) (sym (found-is id)) ∙ verdict) in
      let mine : line_is_of (Some h) id e.0 ≡ true = (and_parts (line_is_of (Some h) id e.0) (before (Some h) (e.0).start) e.2).0 in
      record {
        clock = s.clock;
        accepted = ((e.0, e.1, ap (λ k. can_cancel k id e.0) s.clock ∙ e.2), s.accepted);
        alike = subst (λ k. Alike (IsSender (Some h)) (with_first (stands_by (Some h) id) (with_event cancelled_one) xs) (map (change (cancel_by k id)) (line_senders run))) (sym s.clock)
            (cancel-senders h id xs (line_senders run) s.alike (subst (λ l. AtMostOnce (line_is_of (Some h) id) l) (sym same-events) (at-most-once (Some h) id (events run) ordered))
            (λ y i on. ap (can_cancel (Some h) id) (the-one (Some h) id (events run) ordered y.event e.0 (mine-of y i) e.1 on mine) ∙ e.2));
      }

  -- ---- early ends

  end-by-found : (r : SpliceRequest) (f : Option Standing) → find (is_of (Some h) r.splice_event_id) (events_in xs) ≡ f → end_verdict_at (Some h) f r ≡ Ok tt
      → (e : LineEvent) × In e (events run) × (can_end (Some h) r.splice_event_id (time_at h r) e ≡ true)
  end-by-found r None is verdict = absurd (let bad : Err NoSuchEvent ≡ Ok tt = verdict in cc)
  end-by-found r (Some z) is verdict =
      let f = find-some (is_of (Some h) r.splice_event_id) z (events_in xs) is in
      let q = alike-in IsView z (events_in xs) (events run) viewed f.0 in
      let t : line_is_of (Some h) r.splice_event_id q.0 ≡ true = sym (is_of-view (Some h) r.splice_event_id z q.0 q.2) ∙ f.1 in
      (q.0, q.1, subst (λ e. can_end (Some h) r.splice_event_id (time_at h r) e ≡ true) q.2 (may z f.1 verdict))
    where
      may : (z : Standing) → is_of (Some h) r.splice_event_id z ≡ true → end_verdict_at (Some h) (Some z) r ≡ Ok tt → can_end (Some h) r.splice_event_id (time_at h r) (view z) ≡ true
      may z t verdict =
          by_test (not z.cancelled && (int_lt z.start (time_at h r) && (int_lt h (time_at h r) && int_lt (time_at h r) (end_of z))))
          (λ c. simp (t, c) refl)
          (λ c. absurd (let bad = simp c at verdict in cc))

  pub end-stood : (r : SpliceRequest) → r.pre_roll_time < 2 ^ 16 → end_verdict_at (Some h) (find (has_id r.splice_event_id) (events_in (filter (sender_stands (Some h)) xs))) r ≡ Ok tt
      → Stood (Some h) (with_first (stands_by (Some h) r.splice_event_id) (with_event (ending_at (time_at h r))) xs) (Ended r.splice_event_id (time_at h r) ∷ run)
  end-stood r small verdict =
      let id = r.splice_event_id in
      let e = end-by-found r (find (is_of (Some h) id) (events_in xs)) refl (ap (λ f. end_verdict_at (Some h) f r) (sym (found-is id)) ∙ verdict) in
      let mine : line_is_of (Some h) id e.0 ≡ true = (and_parts (line_is_of (Some h) id e.0) _ e.2).0 in
      record {
        clock = s.clock;
        accepted = ((e.0, e.1, ap (λ k. can_end k id (time_at h r) e.0) s.clock ∙ e.2), s.accepted);
        alike = subst (λ k. Alike (IsSender (Some h)) (with_first (stands_by (Some h) id) (with_event (ending_at (time_at h r))) xs) (map (change (end_by k id (time_at h r))) (line_senders run))) (sym s.clock)
            (end-senders h id (time_at h r) (near h r.pre_roll_time small) xs (line_senders run) s.alike (subst (λ l. AtMostOnce (line_is_of (Some h) id) l) (sym same-events) (at-most-once (Some h) id (events run) ordered))
            (λ y i on. ap (can_end (Some h) id (time_at h r)) (the-one (Some h) id (events run) ordered y.event e.0 (mine-of y i) e.1 on mine) ∙ e.2) fairly);
      }
    where
      near : (k : ℤ) (n : ℕ) → n < 2 ^ 16 → (k +ℤ pos (90 * n)) ≤ℤ (k +ℤ pos (2 ^ 29))
      near k n small = omega (arith, ints)

  -- ---- starts

  abbrev by_tests : Bool → Bool → Bool → Result (Unit {0}) Refusal
  by_tests u f m = if u then Err InUse else (if f then Err Full else (if m then Err Overlap else Ok tt))

  start-parts : (u f m : Bool) → by_tests u f m ≡ Ok tt → (u ≡ false) × (f ≡ false) × (m ≡ false)
  start-parts true f m is = absurd (let bad : Err InUse ≡ Ok tt = is in cc)
  start-parts false true m is = absurd (let bad : Err Full ≡ Ok tt = is in cc)
  start-parts false false true is = absurd (let bad : Err Overlap ≡ Ok tt = is in cc)
  start-parts false false false is = (refl, refl, refl)

  pub start-stood : (r : SpliceRequest) (avails : List ℕ) (num expected : ℕ) → FieldsFit r avails → IsServed r avails → is_start r ≡ true
      → start_verdict_at h (events_in (filter (sender_stands (Some h)) xs)) r ≡ Ok tt
      → Stood (Some h) (xs ++ (record { event = start_event h r; avail_num = num; avails_expected = expected; avails = avails; told = None; last = None }) ∷ [])
      (Started r.splice_event_id (time_at h r) (time_at h r +ℤ pos (9000 * r.break_duration)) ∷ run)
  start-stood r avails num expected fits served is verdict =
      let id = r.splice_event_id in
      let start = time_at h r in
      let ticks = 9000 * r.break_duration in
      let near : start ≤ℤ (h +ℤ pos (2 ^ 29)) = close h r.pre_roll_time fits.pre_roll_time in
      let some : 0 < ticks = long r.break_duration (served.duration is) in
      let most : ticks ≤ 2 ^ 30 = short r.break_duration fits.break_duration in
      let p = start-parts _ _ _ (subst (λ l. start_verdict_at h l r ≡ Ok tt) (filter-events (stands (Some h)) xs) verdict) in
      let used = sym (used-is h id start ticks r.unique_program_id near some most (events_in xs) (events run) ordered viewed) ∙ p.0 in
      let full = sym (full-is h id start ticks r.unique_program_id near some most (events_in xs) (events run) ordered viewed) ∙ ap not p.1 in
      let met = sym (meets-is h id start ticks r.unique_program_id near some most (events_in xs) (events run) ordered viewed) ∙ p.2 in
      let long_is = some-is h id start ticks r.unique_program_id near some most (events_in xs) (events run) ordered viewed in
      let ahead : before (Some h) start ≡ true = later h r.pre_roll_time (served.pre_roll is) in
      let can : can_start (Some h) id start (start +ℤ pos ticks) (events run) ≡ true = simp (long_is, ahead, used, full, met) refl in
      record {
        clock = s.clock;
        accepted = (ap (λ k. can_start k id start (start +ℤ pos ticks) (events run)) s.clock ∙ can, s.accepted);
        alike = (
          xs,
          _,
          refl,
          record {
            event_is = refl;
            told_is = tt;
            last_is = refl;
            held = record {
              id = fits.splice_event_id;
              program = fits.unique_program_id;
              some = some;
              most = most;
              whole = omega arith;
              start = near;
              end = λ less. absurd (omega (arith, less));
              count = let n = served.avails_most in omega (arith, n);
              avails = fits.avails_fit;
            };
          },
          s.alike,
        );
      }
    where
      close : (k : ℤ) (n : ℕ) → n < 2 ^ 16 → (k +ℤ pos (90 * n)) ≤ℤ (k +ℤ pos (2 ^ 29))
      close k n small = omega (arith, ints)

      long : (n : ℕ) → 0 < n → 0 < 9000 * n
      long n some = omega arith

      short : (n : ℕ) → n < 2 ^ 16 → 9000 * n ≤ 2 ^ 30
      short n small = omega arith

      later : (k : ℤ) (n : ℕ) → 0 < n → int_lt k (k +ℤ pos (90 * n)) ≡ true
      later k n some = grind (arith, ints)

-- ---- a message

-- before the first time there are none
pub none-there : (xs : List Sender) (ys : List LineSender) → Alike (IsSender None) xs ys → (xs ≡ []) × (ys ≡ [])
none-there xs [] a = (a, refl)
none-there xs (y ∷ ys) a = absurd (a.3).held

none-judged : (x : Result _ Refusal) → with_request None [] x ≡ []
none-judged (Err e) = refl
none-judged (Ok a) = by (verdict_of None [] a.request)
  where
    by : (v : Result (Unit {0}) Refusal) → with_judged None (stands_by None a.request.splice_event_id) [] a v ≡ []
    by (Err e) = refl
    by (Ok u) = by_test (is_start a.request) (λ c. simp c refl) (λ c. by_test (a.request.splice_insert_type == 3) (λ d. simp (c, d) refl) (λ d. simp (c, d) refl))

none-asked : (standing : List Standing) (x : Result _ Refusal) (xs : List Sender) (run : List LineTurn) → Stood None (with_request None xs x) run
    → Stood None (with_request None xs x) (with_asked None standing x (λ a. a.request) run)
none-asked standing (Err e) xs run s = s
none-asked standing (Ok a) xs run s = s

judged-stood : (h : Option ℤ) (xs : List Sender) (run : List LineTurn) → Stood h xs run → (x : Result _ Refusal) (after : List Sender) → with_request h xs x ≡ after
    → FitsIn x (λ a. a.request) (λ a. a.avails.items) → ServedBy x (λ a. a.request) (λ a. a.avails.items)
    → Stood h (with_request h xs x) (with_asked h (events_in (filter (sender_stands h) xs)) x (λ a. a.request) run)
judged-stood None xs run s x after is f v =
    let none = none-there xs (line_senders run) s.alike in
    none-asked (events_in (filter (sender_stands None) xs)) x xs run
    (record { clock = s.clock; accepted = s.accepted; alike = subst (λ ys. Alike (IsSender None) (with_request None xs x) ys) (sym none.1) (ap (λ zs. with_request None zs x) none.0 ∙ none-judged x) })
judged-stood (Some h) xs run s (Err e) after same f v = s
judged-stood (Some h) xs run s (Ok a) after same f v = by (verdict_of (Some h) (events_in (filter (sender_stands (Some h)) xs)) a.request) refl
  where
    by : (w : Result (Unit {0}) Refusal) → verdict_of (Some h) (events_in (filter (sender_stands (Some h)) xs)) a.request ≡ w
        → Stood (Some h) (with_judged (Some h) (stands_by (Some h) a.request.splice_event_id) xs a w) (with_verdict (Some h) a.request w run)
    by (Err e) is = s
    by (Ok u) is =
        by_test (is_start a.request)
        (λ c. let w = simp c at is in simp c (start-stood h xs run s a.request a.avails.items a.request.avail_num a.request.avails_expected f v c w))
        (λ c. by_test (a.request.splice_insert_type == 3)
        (λ d. let w = simp (c, d) at is in simp (c, d) (end-stood h xs run s a.request f.pre_roll_time w))
        (λ d. let w = simp (c, d) at is in simp (c, d) (cancel-stood h xs run s a.request.splice_event_id w)))

-- THE HISTORY
pub stood : (index : ℕ) (past : List Turn) → IsSteadyHistory index past → Stood (greatest_in past) (senders index past) (asked_line index past)
stood index [] i = record { clock = refl; accepted = tt; alike = refl }
stood index (Judged m ∷ past) i =
    subst (λ l. Stood (greatest_in past) (with_request (greatest_in past) (senders index past) (asked_of index m)) (with_asked (greatest_in past) l (asked_of index m) (λ a. a.request) (asked_line index past)))
    (standing-events index past)
    (judged-stood (greatest_in past) (senders index past) (asked_line index past) (stood index past i.1) (asked_of index m) _ refl i.0 (asked-facts index m))
stood index (Passed later ∷ past) i =
    let s = stood index past i.1 in
    record {
      clock = refl;
      accepted = (subst (λ k. Rises k later) (sym s.clock) i.0, s.accepted);
      alike = subst (λ k. Alike (IsSender later) (senders index (Passed later ∷ past)) (map (line_tell k later) (line_senders (asked_line index past)))) (sym s.clock)
          (tell-senders (greatest_in past) later i.0 (senders index past) (line_senders (asked_line index past)) (subst (λ k. Fair k (line_senders (asked_line index past))) s.clock (stand (asked_line index past) s.accepted).fair) s.alike);
    }
