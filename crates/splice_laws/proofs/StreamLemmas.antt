-- From all streams to one.
use Rattle.std.specs.Prelude.{◌≤ℤ◌, flat_map, if◌then◌else◌, ◌==◌, All, ℤ, reverse}
use Rattle.std.proofs.Common.{◌≡◌, ℕ, List, [], ◌∷◌, ◌++◌, Bool, true, false, not, ◌&&◌, ◌||◌, ◌⊎◌, inl, inr, refl, sym, ap, ◌∙◌, append_assoc}
use Rattle.std.proofs.lemmas.List.{append-nil}
use Rattle.std.proofs.lemmas.List.Elements.{All-head, All-tail, All-cons, All-nil}
use Rattle.std.proofs.lemmas.Bool.{eqb-true}
use Rattle.ts_packet.specs.Fields.{payload_on, on, pid_of, is_among}
use Rattle.ts_packet.specs.Runs.{Seen, seen_after}
use Rattle.ts_packet.proofs.Cases.{by_test, test-same, true_or_false}
use Rattle.ts_packet.proofs.FieldLemmas.{payload_on-on}
use Rattle.ts_packet.proofs.RunLemmas.{onto}
use Rattle.unit_stream.specs.Times.{unit_time}
use Rattle.splice_laws.specs.Splicing.{PlayedEvent, SliceUnit, Out, Network, Inserted, TimedStream, stream, begun, closed, out_of, inserted, rest, as_inserted, kept, outside}
use Rattle.splice_laws.specs.Laws.{IsStream, EndsBeforeAll, AreOrdered, CountsOver}
use Rattle.splice_laws.specs.Streams.{Act, Through, Insert, closing, running, insert_on, all_closing, all_running, on_each, is_dropped, spliced_at, of_stream, IsOnce, StreamsCarryByCount, StreamsCarry, StreamsAreSpliced, StreamsCarryNow}
use Rattle.splice_laws.proofs.StepLemmas.{or_left}
use Rattle.splice_laws.proofs.PidLemmas.{pids_are_streams}
use Rattle.splice_laws.specs.Ends.{sent_at, unsent}
use Rattle.splice_laws.proofs.EndLemmas.{slice, count, AllSince, AllEnds, since_more, all_ends, ends_counted, same-at}
use Rattle.splice_laws.proofs.PidLaws.{carries_splice_units}
use Rattle.splice_laws.proofs.PlacedLemmas.{silent, out_counts_all, as_inserted-append, nothing_new, swap, AllAt, AllCounted, counted_head, counted_tail, all_counted}

pub same-pid : (q pid : ℕ) (p : List ℕ) → payload_on q p ≡ true → payload_on pid p ≡ true → q ≡ pid
unfolding on
same-pid q pid p h g = let a = payload_on-on q p h in let b = payload_on-on pid p g in sym (eqb-true (pid_of p) q (and_right _ _ a)) ∙ eqb-true (pid_of p) pid (and_right _ _ b) where
  and_right : (a b : Bool) → a && b ≡ true → b ≡ true
  and_right true b h = h
  and_right false true h = refl
  and_right false false h = h

-- ---- before one packet

module _ (r : TimedStream) (k : IsStream r) (slice : PlayedEvent → List SliceUnit) (out : PlayedEvent → List (List ℕ) → ℕ) where
  abbrev all_units : List PlayedEvent → List ℕ → List (List ℕ) → List SliceUnit
  all_units xs p past = flat_map (λ (x : PlayedEvent). inserted (slice x) (out x) p past) xs

  none_behind : (x : PlayedEvent) (xs : List PlayedEvent) → x.start ≤ℤ x.stop → EndsBeforeAll x xs → (p : List ℕ) (past : List (List ℕ)) → AllAt r k slice out xs (record { packet = p; past = past }) →
      begun r x (p ∷ past) ≡ true → closed r x (p ∷ past) ≡ false → all_units xs p past ≡ []
  none_behind x [] l b p past n g h = refl
  none_behind x (y ∷ ys) l b p past n g h =
      ap (λ a. a ++ all_units ys p past) (silent r k slice out x y l b.0 p past n.0 g h) ∙ none_behind x ys l b.1 p past n.1 g h

  none_yet : (x : PlayedEvent) (p : List ℕ) (past : List (List ℕ)) → CountsOver r x (slice x) (out x) (record { packet = p; past = past }) → begun r x (p ∷ past) ≡ false → inserted (slice x) (out x) p past ≡ []
  none_yet x p past n b = nothing_new (slice x) (out x past) (out x (p ∷ past)) (n.before.starts (or_left (begun r x past) _ b) ∙ sym (n.after.starts b))

  nil-left : (a b : List SliceUnit) → a ++ b ≡ [] → a ≡ []
  nil-left [] b h = refl
  nil-left (u ∷ a) b h = cc

  mix : (c C d D : List SliceUnit) → C ++ d ≡ d ++ C → (c ++ C) ++ (d ++ D) ≡ (c ++ d) ++ (C ++ D)
  mix c C d D h =
      append_assoc c C (d ++ D) ∙ ap (λ l. c ++ l) (sym (append_assoc C d D) ∙ ap (λ l. l ++ D) h ∙ append_assoc d C D) ∙ sym (append_assoc c d (C ++ D))

  -- first what is closed, then what runs on
  pub phases : (xs : List PlayedEvent) → AreOrdered xs → (p : List ℕ) (past : List (List ℕ)) → AllAt r k slice out xs (record { packet = p; past = past }) →
      all_closing r xs (λ (y : PlayedEvent). inserted (slice y) (out y)) p past ++ all_running r xs (λ (y : PlayedEvent). inserted (slice y) (out y)) p past ≡ all_units xs p past
  phases [] o p past n = refl
  phases (x ∷ xs) o p past n =
      let i = phases xs o.2 p past n.1 in
      let c = closing r x (inserted (slice x) (out x)) p past in
      let d = running r x (inserted (slice x) (out x)) p past in
      mix c (all_closing r xs (λ (y : PlayedEvent). inserted (slice y) (out y)) p past) d (all_running r xs (λ (y : PlayedEvent). inserted (slice y) (out y)) p past) (swap (all_closing r xs (λ (y : PlayedEvent). inserted (slice y) (out y)) p past) d (either i))
      ∙ ap (λ l. l ++ (all_closing r xs (λ (y : PlayedEvent). inserted (slice y) (out y)) p past ++ all_running r xs (λ (y : PlayedEvent). inserted (slice y) (out y)) p past)) (one (closed r x (p ∷ past)) (inserted (slice x) (out x) p past))
      ∙ ap (λ l. inserted (slice x) (out x) p past ++ l) i where
        one : (b : Bool) (l : List SliceUnit) → (if b then l else []) ++ (if b then [] else l) ≡ l
        one true l = append-nil l
        one false l = refl

        either : all_closing r xs (λ (y : PlayedEvent). inserted (slice y) (out y)) p past ++ all_running r xs (λ (y : PlayedEvent). inserted (slice y) (out y)) p past ≡ all_units xs p past → (all_closing r xs (λ (y : PlayedEvent). inserted (slice y) (out y)) p past ≡ []) ⊎ (running r x (inserted (slice x) (out x)) p past ≡ [])
        either i = by_test (closed r x (p ∷ past))
            (λ h. inr (simp h))
            (λ h. by_test (begun r x (p ∷ past))
            (λ g. inl (nil-left (all_closing r xs (λ (y : PlayedEvent). inserted (slice y) (out y)) p past) (all_running r xs (λ (y : PlayedEvent). inserted (slice y) (out y)) p past) (i ∙ none_behind x xs o.0 o.1 p past n.1 g h)))
            (λ g. inr (none_if (closed r x (p ∷ past)) (none_yet x p past n.0 g)))) where
              none_if : (b : Bool) {l : List SliceUnit} → l ≡ [] → (if b then [] else l) ≡ []
              none_if true e = refl
              none_if false e = e

pub as_inserted-flat : (f : PlayedEvent → List SliceUnit) (xs : List PlayedEvent) → as_inserted (flat_map f xs) ≡ flat_map (λ (x : PlayedEvent). as_inserted (f x)) xs
as_inserted-flat f [] = refl
as_inserted-flat f (x ∷ xs) = as_inserted-append (f x) (flat_map f xs) ∙ ap (λ l. as_inserted (f x) ++ l) (as_inserted-flat f xs)

-- ---- read by streams

pub of_stream-append : (pid : ℕ) (a b : List Act) → of_stream pid (a ++ b) ≡ of_stream pid a ++ of_stream pid b
of_stream-append pid [] b = refl
of_stream-append pid (Through p ∷ a) b = by_test (payload_on pid p) (λ y. simp y (ap (λ l. Network p ∷ l) (of_stream-append pid a b))) (λ y. simp y (of_stream-append pid a b))
of_stream-append pid (Insert q u ∷ a) b = by_test (q == pid) (λ y. simp y (ap (λ l. Inserted u ∷ l) (of_stream-append pid a b))) (λ y. simp y (of_stream-append pid a b))

of_insert-same : (q pid : ℕ) → (q == pid) ≡ true → (us : List SliceUnit) → of_stream pid (insert_on q us) ≡ as_inserted us
of_insert-same q pid h [] = refl
of_insert-same q pid h (u ∷ us) = simp h (ap (λ l. Inserted u ∷ l) (of_insert-same q pid h us))

of_insert-other : (q pid : ℕ) → (q == pid) ≡ false → (us : List SliceUnit) → of_stream pid (insert_on q us) ≡ []
of_insert-other q pid h [] = refl
of_insert-other q pid h (u ∷ us) = simp h (of_insert-other q pid h us)

or_right : (a b : Bool) → a || b ≡ false → b ≡ false
or_right true b h = cc
or_right false b h = h

pub none_on : (pid : ℕ) (qs : List ℕ) (f : ℕ → List SliceUnit) → is_among pid qs ≡ false → of_stream pid (on_each qs f) ≡ []
none_on pid [] f h = refl
none_on pid (q ∷ qs) f h =
    of_stream-append pid (insert_on q (f q)) (on_each qs f) ∙ ap (λ l. l ++ of_stream pid (on_each qs f)) (of_insert-other q pid (or_left (q == pid) _ h) (f q)) ∙ none_on pid qs f (or_right (q == pid) _ h)

pub once_on : (pid : ℕ) (qs : List ℕ) (f : ℕ → List SliceUnit) → IsOnce pid qs → of_stream pid (on_each qs f) ≡ as_inserted (f pid)
once_on pid [] f h = absurd h
once_on pid (q ∷ qs) f (inl h) =
    of_stream-append pid (insert_on q (f q)) (on_each qs f)
    ∙ ap (λ l. of_stream pid (insert_on q (f q)) ++ l) (none_on pid qs f h.1) ∙ append-nil (of_stream pid (insert_on q (f q)))
    ∙ of_insert-same q pid (ap (λ n. n == pid) h.0 ∙ test-same pid) (f q) ∙ ap (λ n. as_inserted (f n)) h.0
once_on pid (q ∷ qs) f (inr h) =
    of_stream-append pid (insert_on q (f q)) (on_each qs f) ∙ ap (λ l. l ++ of_stream pid (on_each qs f)) (of_insert-other q pid h.0 (f q)) ∙ once_on pid qs f h.1

-- ---- the packet itself

module _ (sw : List ℕ) (xs : List PlayedEvent) (p : List ℕ) (past : List (List ℕ)) where
  not_other : (pid q : ℕ) → payload_on pid p ≡ true → (q == pid) ≡ false → payload_on q p ≡ false
  not_other pid q y h = by_test (payload_on q p)
      (λ g. true_or_false (q == pid) (ap (λ n. n == pid) (same-pid q pid p g y) ∙ test-same pid) h)
      (λ g. g)

  not_dropped : (pid : ℕ) (qs : List ℕ) → payload_on pid p ≡ true → is_among pid qs ≡ false → is_dropped sw xs p past qs ≡ false
  not_dropped pid [] y h = refl
  not_dropped pid (q ∷ qs) y h = let n = not_other pid q y (or_left (q == pid) _ h) in simp n (not_dropped pid qs y (or_right (q == pid) _ h))

  pub dropped_is : (pid : ℕ) (qs : List ℕ) → payload_on pid p ≡ true → IsOnce pid qs → is_dropped sw xs p past qs ≡ not (outside xs (unit_time sw pid (p ∷ past)))
  dropped_is pid [] y h = absurd h
  dropped_is pid (q ∷ qs) y (inl h) =
      ap (λ n. (payload_on n p && not (outside xs (unit_time sw n (p ∷ past)))) || is_dropped sw xs p past qs) h.0
      ∙ first _ _ _ y (not_dropped pid qs y h.1) where
        first : (a b c : Bool) → a ≡ true → c ≡ false → (a && b) || c ≡ b
        first true true c e f = refl
        first true false c e f = f
        first false b c e f = cc
  dropped_is pid (q ∷ qs) y (inr h) = let n = not_other pid q y h.0 in simp n (dropped_is pid qs y h.1)

  through : (pid : ℕ) → IsOnce pid sw → of_stream pid (if is_dropped sw xs p past sw then [] else Through p ∷ []) ≡ kept (stream sw pid) xs p past
  through pid h =
      of_one (is_dropped sw xs p past sw)
      ∙ same (payload_on pid p) (is_dropped sw xs p past sw) (outside xs (unit_time sw pid (p ∷ past))) (Network p ∷ []) (λ y. dropped_is pid sw y h) where
        of_one : (d : Bool) → of_stream pid (if d then [] else Through p ∷ []) ≡ (if d then [] else (if payload_on pid p then Network p ∷ [] else []))
        of_one true = refl
        of_one false = refl

        same : (y d o : Bool) (l : List Out) → (y ≡ true → d ≡ not o) → (if d then [] else (if y then l else [])) ≡ (if y && o then l else [])
        same false true o l e = refl
        same false false o l e = refl
        same true d true l e = let f = e refl in rw f refl
        same true d false l e = let f = e refl in rw f refl

-- ---- all packets

module _ (sw : List ℕ) (xs : List PlayedEvent) (piece : ℕ → PlayedEvent → List ℕ → List (List ℕ) → List SliceUnit) (left : ℕ → PlayedEvent → List (List ℕ) → List SliceUnit) (pid : ℕ) (h : IsOnce pid sw) where
  abbrev r : TimedStream
  r = stream sw pid

  -- what is closed and what runs on is all that goes out
  abbrev pub Phased : Seen → Type 0
  Phased s = all_closing r xs (piece pid) s.packet s.past ++ all_running r xs (piece pid) s.packet s.past ≡ flat_map (λ (x : PlayedEvent). piece pid x s.packet s.past) xs

  abbrev puts : Seen → List Out
  puts s = flat_map (λ (x : PlayedEvent). as_inserted (piece pid x s.packet s.past)) xs ++ kept r xs s.packet s.past

  at_packet : (p : List ℕ) (past : List (List ℕ)) → Phased (record { packet = p; past = past }) →
      of_stream pid (spliced_at sw xs piece (record { packet = p; past = past })) ≡ puts (record { packet = p; past = past })
  at_packet p past n =
      let C = on_each sw (λ (q : ℕ). all_closing (stream sw q) xs (piece q) p past) in
      let R = on_each sw (λ (q : ℕ). all_running (stream sw q) xs (piece q) p past) in
      let T : List Act = if is_dropped sw xs p past sw then [] else Through p ∷ [] in
      let c = all_closing r xs (piece pid) p past in
      let d = all_running r xs (piece pid) p past in
      of_stream-append pid (C ++ R) T
      ∙ ap (λ l. l ++ of_stream pid T) (of_stream-append pid C R)
      ∙ ap (λ l. (l ++ of_stream pid R) ++ of_stream pid T) (once_on pid sw (λ (q : ℕ). all_closing (stream sw q) xs (piece q) p past) h)
      ∙ ap (λ l. (as_inserted c ++ l) ++ of_stream pid T) (once_on pid sw (λ (q : ℕ). all_running (stream sw q) xs (piece q) p past) h)
      ∙ ap (λ l. l ++ of_stream pid T) (sym (as_inserted-append c d) ∙ ap as_inserted n ∙ as_inserted-flat (λ (x : PlayedEvent). piece pid x p past) xs)
      ∙ ap (λ l. flat_map (λ (x : PlayedEvent). as_inserted (piece pid x p past)) xs ++ l) (through sw xs p past pid h)

  pub read_after : (past ps : List (List ℕ)) → All Phased (seen_after past ps) →
      of_stream pid (flat_map (spliced_at sw xs piece) (seen_after past ps) ++ on_each sw (λ (q : ℕ). flat_map (λ (x : PlayedEvent). left q x (onto past ps)) xs))
      ≡ flat_map puts (seen_after past ps) ++ flat_map (λ (x : PlayedEvent). as_inserted (left pid x (onto past ps))) xs
  read_after past [] n = once_on pid sw (λ (q : ℕ). flat_map (λ (x : PlayedEvent). left q x past) xs) h ∙ as_inserted-flat (λ (x : PlayedEvent). left pid x past) xs
  read_after past (p ∷ ps) n =
      let s : Seen = record { packet = p; past = past } in
      let A = spliced_at sw xs piece s in
      let F = flat_map (spliced_at sw xs piece) (seen_after (p ∷ past) ps) in
      let L = on_each sw (λ (q : ℕ). flat_map (λ (x : PlayedEvent). left q x (onto (p ∷ past) ps)) xs) in
      ap (of_stream pid) (append_assoc A F L) ∙ of_stream-append pid A (F ++ L)
      ∙ ap (λ l. l ++ of_stream pid (F ++ L)) (at_packet p past (All-head Phased s (seen_after (p ∷ past) ps) n))
      ∙ ap (λ l. puts s ++ l) (read_after (p ∷ past) ps (All-tail Phased s (seen_after (p ∷ past) ps) n))
      ∙ sym (append_assoc (puts s) (flat_map puts (seen_after (p ∷ past) ps)) (flat_map (λ (x : PlayedEvent). as_inserted (left pid x (onto (p ∷ past) ps))) xs))

-- ---- by a count

module _ (r : TimedStream) (k : IsStream r) (xs : List PlayedEvent) (o : AreOrdered xs) (slice : PlayedEvent → List SliceUnit) (out : PlayedEvent → List (List ℕ) → ℕ) where
  abbrev PhasedBy : Seen → Type 0
  PhasedBy s = all_closing r xs (λ (y : PlayedEvent). inserted (slice y) (out y)) s.packet s.past ++ all_running r xs (λ (y : PlayedEvent). inserted (slice y) (out y)) s.packet s.past ≡ flat_map (λ (x : PlayedEvent). inserted (slice x) (out x) s.packet s.past) xs

  phased_by : (past ps : List (List ℕ)) → AllCounted r k slice out xs (seen_after past ps) → All PhasedBy (seen_after past ps)
  phased_by past [] n = All-nil PhasedBy
  phased_by past (p ∷ ps) n =
      let s : Seen = record { packet = p; past = past } in
      let S = seen_after (p ∷ past) ps in
      All-cons PhasedBy s S (phases r k slice out xs o p past (counted_head r k slice out xs s S n)) (phased_by (p ∷ past) ps (counted_tail r k slice out xs s S n))

pub streams_carry_by_count : StreamsCarryByCount
streams_carry_by_count sw xs o slice out ps pid h n =
    let r = stream sw pid in
    let k = pids_are_streams sw pid in
    read_after sw xs (λ (q : ℕ) (x : PlayedEvent). inserted (slice q x) (out q x)) (λ (q : ℕ) (x : PlayedEvent). rest (stream sw q) x (slice q x) (out q x)) pid h [] ps
    (phased_by r k xs o (slice pid) (out pid) [] ps (all_counted r k (slice pid) (out pid) xs (seen_after [] ps) n))

pub streams_carry : StreamsCarry
streams_carry sw xs o slice ps pid h =
    streams_carry_by_count sw xs o slice (λ (q : ℕ) (x : PlayedEvent). out_of (stream sw q) x (slice q x)) ps pid h (out_counts_all (stream sw pid) (pids_are_streams sw pid) xs (slice pid) ps)

pub streams_are_spliced : StreamsAreSpliced
streams_are_spliced sw xs o slice ps pid h d = streams_carry sw xs o slice ps pid h ∙ carries_splice_units sw pid xs o (slice pid) ps d

-- ---- by the ends in force

module _ (r : TimedStream) (k : IsStream r) (units : PlayedEvent → List SliceUnit) (stop : PlayedEvent → List (List ℕ) → ℤ) where
  abbrev now : PlayedEvent → List ℕ → List (List ℕ) → List SliceUnit
  now x = sent_at r x (units x) (stop x)

  abbrev counted : List (List ℕ) → PlayedEvent → List ℕ → List (List ℕ) → List SliceUnit
  counted end x = inserted (slice r k units stop end x) (count r k units stop x)

  both_append : (a b c d : List SliceUnit) → a ≡ b → c ≡ d → a ++ c ≡ b ++ d
  both_append a b c d e f = rw (e, f) refl

  -- three lists of parts, whose parts agree
  now_same : (g : PlayedEvent → List SliceUnit → List SliceUnit) (xs : List PlayedEvent) (p : List ℕ) (past ps : List (List ℕ)) → AllSince r k units stop xs (p ∷ past) → AllEnds r k units stop xs (seen_after (p ∷ past) ps) →
      flat_map (λ (x : PlayedEvent). g x (now x p past)) xs ≡ flat_map (λ (x : PlayedEvent). g x (counted (onto (p ∷ past) ps) x p past)) xs
  now_same g [] p past ps s n = refl
  now_same g (x ∷ xs) p past ps s n = both_append _ _ _ _ (ap (g x) (same-at r k x (units x) (stop x) p past ps s.0 n.0)) (now_same g xs p past ps s.1 n.1)

  module _ (xs : List PlayedEvent) (o : AreOrdered xs) where
    abbrev PhasedNow : Seen → Type 0
    PhasedNow s = all_closing r xs now s.packet s.past ++ all_running r xs now s.packet s.past ≡ flat_map (λ (x : PlayedEvent). now x s.packet s.past) xs

    phased_now : (past ps : List (List ℕ)) → AllSince r k units stop xs past → AllEnds r k units stop xs (seen_after past ps) →
        AllCounted r k (slice r k units stop (onto past ps)) (count r k units stop) xs (seen_after past ps) → All PhasedNow (seen_after past ps)
    phased_now past [] s n c = All-nil PhasedNow
    phased_now past (p ∷ ps) s n c =
        let t : Seen = record { packet = p; past = past } in
        let S = seen_after (p ∷ past) ps in
        let E = onto (p ∷ past) ps in
        let m = since_more r k units stop xs p past ps s n in
        let sl = slice r k units stop E in
        let ct = count r k units stop in
        let e : PhasedNow t =
        both_append _ _ _ _ (now_same (λ x l. if closed r x (p ∷ past) then l else []) xs p past ps m.0 m.1) (now_same (λ x l. if closed r x (p ∷ past) then [] else l) xs p past ps m.0 m.1)
        ∙ phases r k sl ct xs o p past (counted_head r k sl ct xs t S c)
        ∙ sym (now_same (λ x l. l) xs p past ps m.0 m.1) in
        All-cons PhasedNow t S e (phased_now (p ∷ past) ps m.0 m.1 (counted_tail r k sl ct xs t S c))

pub streams_carry_now : StreamsCarryNow
streams_carry_now sw xs o units stop ps pid h n =
    let r = stream sw pid in
    let k = pids_are_streams sw pid in
    let m = all_ends r k (units pid) stop xs ps n in
    let c = all_counted r k (slice r k (units pid) stop (reverse ps)) (count r k (units pid) stop) xs (seen_after [] ps) (ends_counted r k (units pid) stop xs ps m.0) in
    read_after sw xs (λ (q : ℕ) (x : PlayedEvent). sent_at (stream sw q) x (units q x) (stop x)) (λ (q : ℕ) (x : PlayedEvent). unsent (stream sw q) x (units q x) (stop x)) pid h [] ps
    (phased_now r k (units pid) stop xs o [] ps m.1 m.0 c)
