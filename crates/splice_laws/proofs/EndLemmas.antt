-- What is out by the end in force is a front of the slice for the last end.
use Rattle.std.specs.Prelude.{ℤ, ◌≤ℤ◌, All, length, take, drop, flat_map, reverse, if◌then◌else◌, suc}
use Rattle.std.proofs.Common.{◌≡◌, ℕ, ◌≤◌, List, [], ◌∷◌, ◌++◌, Bool, true, false, ◌⊎◌, inl, inr, refl, sym, ap, ◌∙◌, Option, None, Some, arith, append_assoc, length-append}
use Rattle.std.proofs.lemmas.Int.{ints}
use Rattle.std.proofs.lemmas.List.{append-nil, drop_at}
use Rattle.std.proofs.lemmas.List.Elements.{All-head, All-tail, All-cons, All-nil}
use lib.Signed.{lt_z}
use Rattle.ts_packet.specs.Runs.{Seen, seen_after}
use Rattle.ts_packet.proofs.Cases.{by_test, true_or_false}
use Rattle.ts_packet.proofs.RunLemmas.{onto}
use Rattle.splice_laws.specs.Splicing.{PlayedEvent, SliceUnit, Out, TimedStream, at_or_past, begun, closed, as_inserted, kept, inserted, rest, all_inserted, all_rest}
use Rattle.splice_laws.specs.Laws.{Risen, IsStream, CountsAt, CountsOver}
use Rattle.splice_laws.specs.Settled.{IsAhead, IsSettled}
use Rattle.splice_laws.specs.Ends.{up_to_end, longest_front, sent, sent_at, unsent, sent_whole, EndsAt, EndSoon, SentIsPlaced}
use Rattle.splice_laws.proofs.TimeLemmas.{due-later}
use Rattle.splice_laws.proofs.StepLemmas.{or_left}
use Rattle.splice_laws.proofs.HistoryLemmas.{closed-begun}
use Rattle.splice_laws.proofs.PlacedLemmas.{counted_is_placed}

-- ---- fronts

-- the same, by recursion
abbrev pub run_of : List SliceUnit → Option ℤ → List SliceUnit
run_of [] h = []
run_of (u ∷ us) h = if at_or_past u.time h then u ∷ run_of us h else []

pub longest-run : (us : List SliceUnit) (h : Option ℤ) → longest_front us h ≡ run_of us h
longest-run [] h = refl
longest-run (u ∷ us) h = by_test (at_or_past u.time h) (λ d. simp d (ap (λ l. u ∷ l) (longest-run us h))) (λ d. simp d)

abbrev pub IsFront : List SliceUnit → List SliceUnit → Type 0
IsFront a b = (more : List SliceUnit) × (b ≡ a ++ more)

front-cons : (u : SliceUnit) (a b : List SliceUnit) → IsFront a b → IsFront (u ∷ a) (u ∷ b)
front-cons u a b f = (f.0, ap (λ l. u ∷ l) f.1)

pub front-trans : (a b c : List SliceUnit) → IsFront a b → IsFront b c → IsFront a c
front-trans a b c f g = (f.0 ++ g.0, g.1 ∙ ap (λ l. l ++ g.0) f.1 ∙ append_assoc a f.0 g.0)

pub empty-front : (a b : List SliceUnit) → a ≡ [] → IsFront a b
empty-front a b e = (b, sym (ap (λ l. l ++ b) e))

pub run-front : (us : List SliceUnit) (h : Option ℤ) → IsFront (run_of us h) us
run-front [] h = ([], refl)
run-front (u ∷ us) h = by_test (at_or_past u.time h) (λ d. simp d (front-cons u (run_of us h) us (run-front us h))) (λ d. simp d (u ∷ us, refl))

pub front-take : (a b : List SliceUnit) → IsFront a b → a ≡ take (length a) b
front-take [] b f = refl
front-take (u ∷ a) b f = ap (λ l. u ∷ l) (front-take a (a ++ f.0) (f.0, refl)) ∙ sym (ap (take (suc (length a))) f.1)

pub front-length : (a b : List SliceUnit) → IsFront a b → length a ≤ length b
front-length a b f = let e = ap length f.1 ∙ length-append a f.0 in omega arith

cut-lower : (t a b : ℤ) → b ≤ℤ a → lt_z t b ≡ true → lt_z t a ≡ true
cut-lower t a b l h = grind (arith, ints)

not-due : (t b : ℤ) (h : Option ℤ) → IsAhead h b → lt_z t b ≡ false → at_or_past t h ≡ false
not-due t b None a l = refl
not-due t b (Some h) a l = grind (arith, ints)

-- what is reached below an end is reached below an earlier one that is still to come
pub front-earlier : (us : List SliceUnit) (a b : ℤ) (h h' : Option ℤ) → Risen h h' → b ≤ℤ a → (a ≡ b) ⊎ (IsAhead h b) → IsFront (run_of (up_to_end a us) h) (run_of (up_to_end b us) h')
front-earlier [] a b h h' g l s = ([], refl)
front-earlier (u ∷ us) a b h h' g l s =
    let i = front-earlier us a b h h' g l s in
    by_test (lt_z u.time b)
    (λ c. let d = cut-lower u.time a b l c in by_test (at_or_past u.time h)
    (λ e. let e' = due-later u.time h h' g e in simp (c, d, e, e') (front-cons u _ _ i))
    (λ e. simp (c, d, e) (run_of (u ∷ up_to_end b us) h', refl)))
    (λ c. by_test (lt_z u.time a)
    (λ d. skipped d c s i)
    (λ d. simp (c, d) i)) where
      skipped : lt_z u.time a ≡ true → lt_z u.time b ≡ false → (a ≡ b) ⊎ (IsAhead h b) → IsFront (run_of (up_to_end a us) h) (run_of (up_to_end b us) h') → IsFront (run_of (up_to_end a (u ∷ us)) h) (run_of (up_to_end b (u ∷ us)) h')
      skipped d c (inl e) i = true_or_false (lt_z u.time a) d (ap (lt_z u.time) e ∙ c)
      skipped d c (inr k) i = let n = not-due u.time b h k c in simp (c, d, n) (run_of (up_to_end b us) h', refl)

-- ---- one event

-- a time that is past the end, and not past the greatest
pub not-ahead : (edge : ℤ) (t h : Option ℤ) → Risen t h → at_or_past edge t ≡ true → IsAhead h edge → ⊥
not-ahead edge None h w a k = true_or_false false a refl
not-ahead edge (Some t) None w a k = absurd w
not-ahead edge (Some t) (Some h) w a k = grind (arith, ints)

pub settled-low : (x : PlayedEvent) (stop : ℤ) (h : Option ℤ) → IsSettled x (Some stop) h → x.stop ≤ℤ stop
settled-low x stop h (inl e) = rw e (at x.stop) where
  at : (a : ℤ) → a ≤ℤ a
  at a = grind (arith, ints)
settled-low x stop h (inr k) = k.1

pub settled-or : (x : PlayedEvent) (stop : ℤ) (h : Option ℤ) → IsSettled x (Some stop) h → (stop ≡ x.stop) ⊎ (IsAhead h x.stop)
settled-or x stop h (inl e) = inl e
settled-or x stop h (inr k) = inr k.0

ahead-more : (h : Option ℤ) (a b : ℤ) → IsAhead h a → a ≤ℤ b → IsAhead h b
ahead-more None a b k l = tt
ahead-more (Some h) a b k l = grind (arith, ints)

meet : (a b : ℤ) → a ≤ℤ b → b ≤ℤ a → a ≡ b
meet a b h k = omega (arith, ints)

-- of two ends in force the later one is the same, or still to come
step-or : (x : PlayedEvent) (a b : ℤ) (h h' : Option ℤ) → IsSettled x (Some a) h → IsSettled x (Some b) h' → b ≤ℤ a → (a ≡ b) ⊎ (IsAhead h b)
step-or x a b h h' (inl e) s l = inl (let low = settled-low x b h' s in meet a b (rw e low) l)
step-or x a b h h' (inr k) s l = inr (ahead-more h x.stop b k.0 (settled-low x b h' s))

pick_running : {A : Type 0} (c b d : Bool) (old all run none : A) → c ≡ false → b ≡ true → d ≡ false → (if c then old else (if b then (if d then all else run) else none)) ≡ run
pick_running c b d old all run none e f g = rw (e, f, g) refl

pick_closed : {A : Type 0} (c b d : Bool) (old all run none : A) → c ≡ false → b ≡ true → d ≡ true → (if c then old else (if b then (if d then all else run) else none)) ≡ all
pick_closed c b d old all run none e f g = rw (e, f, g) refl

module _ (r : TimedStream) (k : IsStream r) (x : PlayedEvent) (units : List SliceUnit) (stop : List (List ℕ) → ℤ) where
  abbrev pub Since : List (List ℕ) → Type 0
  Since [] = Unit {0}
  Since (p ∷ past) = EndsAt r x stop (record { packet = p; past = past }) × Since past

  abbrev out : List (List ℕ) → List SliceUnit
  out past = sent r x units stop past

  abbrev whole : List (List ℕ) → List SliceUnit
  whole past = sent_whole r x units stop past

  settled-of : (past : List (List ℕ)) → Since past → begun r x past ≡ true → IsSettled x (Some (stop past)) (r.high past)
  settled-of [] s b = true_or_false false b refl
  settled-of (p ∷ past) s b = s.0.settled

  sent-none : (past : List (List ℕ)) → begun r x past ≡ false → out past ≡ []
  sent-none [] b = refl
  sent-none (p ∷ past) b = by_test (closed r x past)
      (λ c. true_or_false (begun r x past) (closed-begun r k x past c) (or_left (begun r x past) _ b))
      (λ c. simp (c, b))

  pub sent-running : (past : List (List ℕ)) → begun r x past ≡ true → closed r x past ≡ false → out past ≡ run_of (up_to_end (stop past) units) (r.high past)
  sent-running [] b c = true_or_false false b refl
  sent-running (p ∷ past) b c =
      let us = up_to_end (stop (p ∷ past)) units in
      let h = r.high (p ∷ past) in
      pick_running (closed r x past) (begun r x (p ∷ past)) (closed r x (p ∷ past)) (out past) us (longest_front us h) [] (or_left (closed r x past) _ c) b c ∙ longest-run us h

  pub sent-closing : (p : List ℕ) (past : List (List ℕ)) → closed r x past ≡ false → closed r x (p ∷ past) ≡ true → out (p ∷ past) ≡ up_to_end (stop (p ∷ past)) units
  sent-closing p past d c =
      let us = up_to_end (stop (p ∷ past)) units in
      pick_closed (closed r x past) (begun r x (p ∷ past)) (closed r x (p ∷ past)) (out past) us (longest_front us (r.high (p ∷ past))) [] d (closed-begun r k x (p ∷ past) c) c

  sent-grows : (p : List ℕ) (past : List (List ℕ)) → Since (p ∷ past) → IsFront (out past) (out (p ∷ past))
  sent-grows p past s = by_test (begun r x past)
      (λ b. by_test (closed r x past)
      (λ c. let e : out (p ∷ past) ≡ out past = simp c in rw e ([], sym (append-nil (out past))))
      (λ c.
      let b' : begun r x (p ∷ past) ≡ true = simp b in
      let e = sent-running past b c in
      let us = up_to_end (stop (p ∷ past)) units in
      let h' = r.high (p ∷ past) in
      let f = front-earlier units (stop past) (stop (p ∷ past)) (r.high past) h' (k.rises p past) s.0.falls
      (step-or x (stop past) (stop (p ∷ past)) (r.high past) h' (settled-of past s.1 b) s.0.settled s.0.falls) in
      by_test (closed r x (p ∷ past))
      (λ d. let e' = sent-closing p past c d in rw (e', e) (front-trans (run_of (up_to_end (stop past) units) (r.high past)) (run_of us h') us f (run-front us h')))
      (λ d. let e' = sent-running (p ∷ past) b' d in rw (e', e) f)))
      (λ b. empty-front (out past) (out (p ∷ past)) (sent-none past b))

  sent-on : (past ps : List (List ℕ)) → Since past → All (EndsAt r x stop) (seen_after past ps) → IsFront (out past) (out (onto past ps))
  sent-on past [] s n = ([], sym (append-nil (out past)))
  sent-on past (p ∷ ps) s n =
      let t : Seen = record { packet = p; past = past } in
      let s' : Since (p ∷ past) = (All-head (EndsAt r x stop) t (seen_after (p ∷ past) ps) n, s) in
      front-trans (out past) (out (p ∷ past)) (out (onto (p ∷ past) ps)) (sent-grows p past s') (sent-on (p ∷ past) ps s' (All-tail (EndsAt r x stop) t (seen_after (p ∷ past) ps) n))

  -- once closed nothing more goes out
  whole-closed : (past ps : List (List ℕ)) → closed r x past ≡ true → whole (onto past ps) ≡ out past
  whole-closed past [] c = by_test (begun r x past) (λ b. simp (b, c) (append-nil (out past))) (λ b. simp b (append-nil (out past)))
  whole-closed past (p ∷ ps) c = let e : out (p ∷ past) ≡ out past = simp c in whole-closed (p ∷ past) ps (simp c) ∙ e

  abbrev number_out : List (List ℕ) → ℕ
  number_out past = length (out past)

  sent-counts : (past ps : List (List ℕ)) → CountsAt r x (whole (onto past ps)) number_out past
  sent-counts past ps = record { starts = λ b. ap length (sent-none past b); ends = λ c. sym (ap length (whole-closed past ps c)) }

  pub counted_on : (past ps : List (List ℕ)) → Since past → All (EndsAt r x stop) (seen_after past ps) → All (CountsOver r x (whole (onto past ps)) number_out) (seen_after past ps)
  counted_on past [] s n = All-nil (CountsOver r x (whole past) number_out)
  counted_on past (p ∷ ps) s n =
      let t : Seen = record { packet = p; past = past } in
      let s' : Since (p ∷ past) = (All-head (EndsAt r x stop) t (seen_after (p ∷ past) ps) n, s) in
      let c : CountsOver r x (whole (onto (p ∷ past) ps)) number_out t = record {
        before = sent-counts past (p ∷ ps);
        grows = front-length (out past) (out (p ∷ past)) (sent-grows p past s');
        after = sent-counts (p ∷ past) ps;
      } in
      All-cons (CountsOver r x (whole (onto (p ∷ past) ps)) number_out) t (seen_after (p ∷ past) ps) c (counted_on (p ∷ past) ps s' (All-tail (EndsAt r x stop) t (seen_after (p ∷ past) ps) n))

  -- what goes out is by this count
  pub same-at : (p : List ℕ) (past ps : List (List ℕ)) → Since (p ∷ past) → All (EndsAt r x stop) (seen_after (p ∷ past) ps) → sent_at r x units stop p past ≡ inserted (whole (onto (p ∷ past) ps)) number_out p past
  same-at p past ps s n =
      let E = onto (p ∷ past) ps in
      ap (drop (number_out past)) (front-take (out (p ∷ past)) (whole E) (front-trans (out (p ∷ past)) (out E) (whole E) (sent-on (p ∷ past) ps s n) (unsent r x units stop E, refl)))

  pub same-rest : (past : List (List ℕ)) → unsent r x units stop past ≡ rest r x (whole past) number_out past
  same-rest past = by_test (begun r x past)
      (λ b. sym ((drop_at (out past) (unsent r x units stop past) (length (out past)) refl)) ∙ taken (begun r x past) b)
      (λ b. simp b) where
        taken : (b : Bool) → b ≡ true → drop (length (out past)) (whole past) ≡ (if b then drop (number_out past) (whole past) else [])
        taken true e = refl
        taken false e = cc

-- ---- all events

module _ (r : TimedStream) (k : IsStream r) (units : PlayedEvent → List SliceUnit) (stop : PlayedEvent → List (List ℕ) → ℤ) where
  abbrev pub slice : List (List ℕ) → PlayedEvent → List SliceUnit
  slice end x = sent_whole r x (units x) (stop x) end

  abbrev pub count : PlayedEvent → List (List ℕ) → ℕ
  count x past = length (sent r x (units x) (stop x) past)

  abbrev pub AllSince : List PlayedEvent → List (List ℕ) → Type 0
  AllSince [] past = Unit {0}
  AllSince (x ∷ xs) past = Since r k x (units x) (stop x) past × AllSince xs past

  abbrev pub AllEnds : List PlayedEvent → List Seen → Type 0
  AllEnds [] ss = Unit {0}
  AllEnds (x ∷ xs) ss = All (EndsAt r x (stop x)) ss × AllEnds xs ss

  pub since_more : (xs : List PlayedEvent) (p : List ℕ) (past ps : List (List ℕ)) → AllSince xs past → AllEnds xs (seen_after past (p ∷ ps)) → AllSince xs (p ∷ past) × AllEnds xs (seen_after (p ∷ past) ps)
  since_more [] p past ps s n = (tt, tt)
  since_more (x ∷ xs) p past ps s n =
      let t : Seen = record { packet = p; past = past } in
      let m = since_more xs p past ps s.1 n.1 in
      (((All-head (EndsAt r x (stop x)) t (seen_after (p ∷ past) ps) n.0, s.0), m.0), (All-tail (EndsAt r x (stop x)) t (seen_after (p ∷ past) ps) n.0, m.1))

  both_append : (a b c d : List Out) → a ≡ b → c ≡ d → a ++ c ≡ b ++ d
  both_append a b c d e f = rw (e, f) refl

  at_now : (xs : List PlayedEvent) (p : List ℕ) (past ps : List (List ℕ)) → AllSince xs (p ∷ past) → AllEnds xs (seen_after (p ∷ past) ps) →
      flat_map (λ (x : PlayedEvent). as_inserted (sent_at r x (units x) (stop x) p past)) xs ≡ all_inserted xs (slice (onto (p ∷ past) ps)) count p past
  at_now [] p past ps s n = refl
  at_now (x ∷ xs) p past ps s n = both_append _ _ _ _ (ap as_inserted (same-at r k x (units x) (stop x) p past ps s.0 n.0)) (at_now xs p past ps s.1 n.1)

  rest_now : (xs : List PlayedEvent) (past : List (List ℕ)) → flat_map (λ (x : PlayedEvent). as_inserted (unsent r x (units x) (stop x) past)) xs ≡ all_rest r xs (slice past) count past
  rest_now [] past = refl
  rest_now (x ∷ xs) past = both_append _ _ _ _ (ap as_inserted (same-rest r k x (units x) (stop x) past)) (rest_now xs past)

  module _ (xs : List PlayedEvent) where
    abbrev puts_now : Seen → List Out
    puts_now s = flat_map (λ (x : PlayedEvent). as_inserted (sent_at r x (units x) (stop x) s.packet s.past)) xs ++ kept r xs s.packet s.past

    abbrev puts : List (List ℕ) → Seen → List Out
    puts end s = all_inserted xs (slice end) count s.packet s.past ++ kept r xs s.packet s.past

    now_is_counted : (past ps : List (List ℕ)) → AllSince xs past → AllEnds xs (seen_after past ps) →
        flat_map puts_now (seen_after past ps) ++ flat_map (λ (x : PlayedEvent). as_inserted (unsent r x (units x) (stop x) (onto past ps))) xs
        ≡ flat_map (puts (onto past ps)) (seen_after past ps) ++ all_rest r xs (slice (onto past ps)) count (onto past ps)
    now_is_counted past [] s n = rest_now xs past
    now_is_counted past (p ∷ ps) s n =
        let t : Seen = record { packet = p; past = past } in
        let E = onto (p ∷ past) ps in
        let m = since_more xs p past ps s n in
        let U = flat_map (λ (x : PlayedEvent). as_inserted (unsent r x (units x) (stop x) E)) xs in
        append_assoc (puts_now t) (flat_map puts_now (seen_after (p ∷ past) ps)) U
        ∙ ap (λ a. (a ++ kept r xs p past) ++ (flat_map puts_now (seen_after (p ∷ past) ps) ++ U)) (at_now xs p past ps m.0 m.1)
        ∙ ap (λ a. puts E t ++ a) (now_is_counted (p ∷ past) ps m.0 m.1)
        ∙ sym (append_assoc (puts E t) (flat_map (puts E) (seen_after (p ∷ past) ps)) (all_rest r xs (slice E) count E))

  pub all_ends : (xs : List PlayedEvent) (ps : List (List ℕ)) → EndSoon r xs stop ps → AllEnds xs (seen_after [] ps) × AllSince xs []
  all_ends [] ps n = (tt, tt)
  all_ends (x ∷ xs) ps n =
      let f = λ (x : PlayedEvent). All (EndsAt r x (stop x)) (seen_after [] ps) in
      let m = all_ends xs ps (All-tail f x xs n) in
      ((All-head f x xs n, m.0), (tt, m.1))

  pub ends_counted : (xs : List PlayedEvent) (ps : List (List ℕ)) → AllEnds xs (seen_after [] ps) → All (λ (x : PlayedEvent). All (CountsOver r x (slice (reverse ps) x) (count x)) (seen_after [] ps)) xs
  ends_counted [] ps n = All-nil (λ (x : PlayedEvent). All (CountsOver r x (slice (reverse ps) x) (count x)) (seen_after [] ps))
  ends_counted (x ∷ xs) ps n = All-cons (λ (x : PlayedEvent). All (CountsOver r x (slice (reverse ps) x) (count x)) (seen_after [] ps)) x xs (counted_on r k x (units x) (stop x) [] ps tt n.0) (ends_counted xs ps n.1)

pub sent_is_placed : SentIsPlaced
sent_is_placed r k xs o units stop ps n =
    let m = all_ends r k units stop xs ps n in
    now_is_counted r k units stop xs [] ps m.1 m.0
    ∙ counted_is_placed r k xs o (λ (x : PlayedEvent). sent_whole r x (units x) (stop x) (reverse ps)) (λ (x : PlayedEvent) (past : List (List ℕ)). length (sent r x (units x) (stop x) past)) ps (ends_counted r k units stop xs ps m.0)
