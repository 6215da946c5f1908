-- The pieces of each slice join before the first unit at or past the start.
use Rattle.std.specs.Prelude.{All, ◌≤ℤ◌, flat_map, if◌then◌else◌, take, drop}
use Rattle.std.proofs.Common.{◌≡◌, ℕ, List, [], ◌∷◌, ◌++◌, Bool, true, false, not, ◌&&◌, ◌⊎◌, inl, inr, refl, sym, ap, ◌∙◌, append_assoc}
use Rattle.std.proofs.lemmas.List.{append-nil, map-append}
use Rattle.std.proofs.lemmas.List.Elements.{All-head, All-tail, All-cons, All-nil}
use Rattle.ts_packet.specs.Runs.{Seen, seen_after}
use Rattle.ts_packet.proofs.Cases.{by_test, true_or_false}
use Rattle.ts_packet.proofs.RunLemmas.{onto}
use Rattle.std.proofs.Math.Seq.{drop-length}
use Rattle.splice_laws.specs.Splicing.{PlayedEvent, SliceUnit, Out, TimedStream, Network, Inserted, holds, outside, comes, passed, opens, begun, closed, out_of, inserted, rest, as_inserted, kept, all_inserted, all_rest, slice_at, all_slices_at, placed}
use Rattle.splice_laws.specs.Laws.{IsStream, EndsBeforeAll, AreOrdered, CountsAt, CountsOver, CountedIsPlaced, CarriedIsPlaced}
use Rattle.splice_laws.proofs.TimeLemmas.{starts_ordered, holds-below}
use Rattle.splice_laws.proofs.StepLemmas.{or_left, both, drop-take, joined_one}
use Rattle.splice_laws.proofs.HistoryLemmas.{passed-lower, begun-passed, passed-dead, closed-begun, running-inside, out-grows, alone}

module _ (r : TimedStream) (k : IsStream r) where
  -- where it opens, and had not begun, no unit had passed its start
  pub opens-first : (x : PlayedEvent) (p : List ℕ) (past : List (List ℕ)) → begun r x past ≡ false → opens r x p past ≡ true → passed r x.start past ≡ false
  opens-first x p past b o = by_test (passed r x.start past)
      (λ e. let d = passed-dead r k x past e b in by_test (comes r x.start p past) (λ c. let f = simp (c, d) at o in cc) (λ c. let f = simp c at o in cc))
      (λ e. e)

  -- running after the packet, and passed before it: it ran before it
  ran : (x : PlayedEvent) (p : List ℕ) (past : List (List ℕ)) → begun r x (p ∷ past) ≡ true → closed r x (p ∷ past) ≡ false → passed r x.start past ≡ true → begun r x past ≡ true
  ran x p past b c e = by_test (begun r x past) (λ g. g)
      (λ g. let d = passed-dead r k x past e g in by_test (comes r x.start p past) (λ s. let f = simp (g, s, d) at b in cc) (λ s. let f = simp (g, s) at b in cc))

pub swap : {A : Type 0} (a b : List A) → (a ≡ []) ⊎ (b ≡ []) → a ++ b ≡ b ++ a
swap a b (inl e) = rw e (sym (append-nil b))
swap a b (inr e) = rw e (append-nil a)

-- two lists of parts, joined in pairs
pairs : {A : Type 0} (ra sa ia ta rs ss is ts : List A) → ra ++ sa ≡ ia ++ ta → rs ++ ss ≡ is ++ ts → sa ++ rs ≡ rs ++ sa → ta ++ is ≡ is ++ ta →
    (ra ++ rs) ++ (sa ++ ss) ≡ (ia ++ is) ++ (ta ++ ts)
pairs ra sa ia ta rs ss is ts h g s t =
    append_assoc ra rs (sa ++ ss) ∙ ap (λ l. ra ++ l) (sym (append_assoc rs sa ss) ∙ ap (λ l. l ++ ss) (sym s) ∙ append_assoc sa rs ss)
    ∙ sym (append_assoc ra sa (rs ++ ss)) ∙ ap (λ l. l ++ (rs ++ ss)) h ∙ ap (λ l. (ia ++ ta) ++ l) g
    ∙ append_assoc ia ta (is ++ ts) ∙ ap (λ l. ia ++ l) (sym (append_assoc ta is ts) ∙ ap (λ l. l ++ ts) t ∙ append_assoc is ta ts)
    ∙ sym (append_assoc ia is (ta ++ ts))

pub as_inserted-append : (a b : List SliceUnit) → as_inserted (a ++ b) ≡ as_inserted a ++ as_inserted b
as_inserted-append a b = map-append (λ (u : SliceUnit). Inserted u) a b

put_nil : (a : List SliceUnit) (b : List Out) → (a ≡ []) ⊎ (b ≡ []) → as_inserted a ++ b ≡ b ++ as_inserted a
put_nil a b (inl e) = rw e (sym (append-nil b))
put_nil a b (inr e) = rw e (append-nil (as_inserted a))

pub nothing_new : (units : List SliceUnit) (m n : ℕ) → m ≡ n → drop m (take n units) ≡ []
nothing_new units m n e = rw e (drop-take n units)

module _ (r : TimedStream) (k : IsStream r) (slice : PlayedEvent → List SliceUnit) (out : PlayedEvent → List (List ℕ) → ℕ) where
  abbrev pub CountedAt : PlayedEvent → Seen → Type 0
  CountedAt x s = CountsOver r x (slice x) (out x) s

  -- ---- one event

  joined : (x : PlayedEvent) (p : List ℕ) (past : List (List ℕ)) → CountedAt x (record { packet = p; past = past }) →
      rest r x (slice x) (out x) past ++ slice_at r x (slice x) p past ≡ inserted (slice x) (out x) p past ++ rest r x (slice x) (out x) (p ∷ past)
  joined x p past n =
      joined_one (slice x) (begun r x past) (closed r x past) (opens r x p past) (passed r x.start past) false (out x past) (out x (p ∷ past))
      n.grows n.before.starts n.after.starts (begun-passed r k x past) (opens-first r k x p past)

  -- ---- an event and those behind it

  -- no unit has passed its start: none of those behind it has begun
  none_begun : (x : PlayedEvent) (xs : List PlayedEvent) → x.start ≤ℤ x.stop → EndsBeforeAll x xs → (past : List (List ℕ)) → passed r x.start past ≡ false → all_rest r xs slice out past ≡ []
  none_begun x [] l b past e = refl
  none_begun x (y ∷ ys) l b past e =
      let n : begun r y past ≡ false = by_test (begun r y past)
      (λ g. true_or_false (passed r x.start past) (passed-lower r k x.start y.start (starts_ordered x y l b.0) past (begun-passed r k y past g)) e)
      (λ g. g) in
      simp n (none_begun x ys l b.1 past e)

  -- an event behind one that runs after the packet puts nothing
  pub silent : (x y : PlayedEvent) → x.start ≤ℤ x.stop → x.stop ≤ℤ y.start → (p : List ℕ) (past : List (List ℕ)) → CountedAt y (record { packet = p; past = past }) → begun r x (p ∷ past) ≡ true → closed r x (p ∷ past) ≡ false →
      inserted (slice y) (out y) p past ≡ []
  silent x y l m p past n b c =
      let inside = running-inside r k x (p ∷ past) b c in
      let far = holds-below x (r.time (p ∷ past)) y.start inside m in
      nothing_new (slice y) (out y past) (out y (p ∷ past))
      (by_test (begun r y past)
      (λ g. by_test (closed r y past)
      (λ h. let h' : closed r y (p ∷ past) ≡ true = simp h in n.before.ends h ∙ sym (n.after.ends h'))
      (λ h.
      let e = passed-lower r k x.start y.start (starts_ordered x y l m) past (begun-passed r k y past g) in
      absurd (alone r k x y m past (ran r k x p past b c e) (or_left (closed r x past) _ c) g h)))
      (λ g.
      let o : begun r y (p ∷ past) ≡ false = by_test (r.begins p past) (λ s. simp (g, s, far)) (λ s. simp (g, s)) in
      n.before.starts g ∙ sym (n.after.starts o)))

  -- the counts of these events at a packet
  abbrev pub AllAt : List PlayedEvent → Seen → Type 0
  AllAt [] s = Unit {0}
  AllAt (x ∷ xs) s = CountedAt x s × AllAt xs s

  silent_all : (x : PlayedEvent) (xs : List PlayedEvent) → x.start ≤ℤ x.stop → EndsBeforeAll x xs → (p : List ℕ) (past : List (List ℕ)) → AllAt xs (record { packet = p; past = past }) → begun r x (p ∷ past) ≡ true → closed r x (p ∷ past) ≡ false →
      all_inserted xs slice out p past ≡ []
  silent_all x [] l b p past n g h = refl
  silent_all x (y ∷ ys) l b p past n g h =
      ap (λ l. as_inserted l ++ all_inserted ys slice out p past) (silent x y l b.0 p past n.0 g h) ∙ silent_all x ys l b.1 p past n.1 g h

  -- an event that does not run has no rest
  no_rest : (x : PlayedEvent) (past : List (List ℕ)) → CountsAt r x (slice x) (out x) past → (begun r x past && not (closed r x past)) ≡ false → rest r x (slice x) (out x) past ≡ []
  no_rest x past a n = by_test (begun r x past)
      (λ b. by_test (closed r x past) (λ c. let e = a.ends c in simp (b, e) (drop-length (slice x))) (λ c. let f = simp (b, c) at n in cc))
      (λ b. simp b)

  -- either nothing is left of it, or none behind it puts anything
  one_puts : (x : PlayedEvent) (xs : List PlayedEvent) → x.start ≤ℤ x.stop → EndsBeforeAll x xs → (p : List ℕ) (past : List (List ℕ)) → AllAt (x ∷ xs) (record { packet = p; past = past }) →
      (rest r x (slice x) (out x) (p ∷ past) ≡ []) ⊎ (all_inserted xs slice out p past ≡ [])
  one_puts x xs l b p past n = by_test (begun r x (p ∷ past) && not (closed r x (p ∷ past)))
      (λ g. let h = both _ _ g in inr (silent_all x xs l b p past n.1 h.0 h.1))
      (λ g. inl (no_rest x (p ∷ past) n.0.after g))

  -- either it does not begin, or nothing is left of those behind it
  one_begins : (x : PlayedEvent) (xs : List PlayedEvent) → x.start ≤ℤ x.stop → EndsBeforeAll x xs → (p : List ℕ) (past : List (List ℕ)) →
      (slice_at r x (slice x) p past ≡ []) ⊎ (all_rest r xs slice out past ≡ [])
  one_begins x xs l b p past = by_test (passed r x.start past)
      (λ e. inl (by_test (opens r x p past) (λ o. simp (o, e)) (λ o. simp (o, e))))
      (λ e. inr (none_begun x xs l b past e))

  -- ---- all events

  pub all_joined : (xs : List PlayedEvent) → AreOrdered xs → (p : List ℕ) (past : List (List ℕ)) → AllAt xs (record { packet = p; past = past }) →
      all_rest r xs slice out past ++ all_slices_at r xs slice p past ≡ all_inserted xs slice out p past ++ all_rest r xs slice out (p ∷ past)
  all_joined [] o p past n = refl
  all_joined (x ∷ xs) o p past n =
      let R = rest r x (slice x) (out x) past in
      let S = slice_at r x (slice x) p past in
      let I = inserted (slice x) (out x) p past in
      let T = rest r x (slice x) (out x) (p ∷ past) in
      pairs (as_inserted R) (as_inserted S) (as_inserted I) (as_inserted T) (all_rest r xs slice out past) (all_slices_at r xs slice p past) (all_inserted xs slice out p past) (all_rest r xs slice out (p ∷ past))
      (sym (as_inserted-append R S) ∙ ap as_inserted (joined x p past n.0) ∙ as_inserted-append I T)
      (all_joined xs o.2 p past n.1)
      (put_nil S (all_rest r xs slice out past) (one_begins x xs o.0 o.1 p past))
      (put_nil T (all_inserted xs slice out p past) (one_puts x xs o.0 o.1 p past n))

  -- where something is left to go out, the stream's unit lies in an event
  pub left_inside : (xs : List PlayedEvent) (p : List ℕ) (past : List (List ℕ)) → AllAt xs (record { packet = p; past = past }) → (all_rest r xs slice out (p ∷ past) ≡ []) ⊎ (outside xs (r.time (p ∷ past)) ≡ false)
  left_inside [] p past n = inl refl
  left_inside (x ∷ xs) p past n = by_test (begun r x (p ∷ past) && not (closed r x (p ∷ past)))
      (λ g. let h = both _ _ g in let i = running-inside r k x (p ∷ past) h.0 h.1 in inr (simp i))
      (λ g. more (rest r x (slice x) (out x) (p ∷ past)) (all_rest r xs slice out (p ∷ past)) (not (holds x (r.time (p ∷ past)))) (outside xs (r.time (p ∷ past))) (left_inside xs p past n.1) (no_rest x (p ∷ past) n.0.after g)) where
        more : (a : List SliceUnit) (l : List Out) (b c : Bool) → (l ≡ []) ⊎ (c ≡ false) → a ≡ [] → (as_inserted a ++ l ≡ []) ⊎ (b && c ≡ false)
        more a l b c (inl e) h = inl (rw (h, e) refl)
        more a l true c (inr e) h = inr e
        more a l false c (inr e) h = inr refl

  -- no packet stands between two pieces of one slice
  kept_alone : (xs : List PlayedEvent) (p : List ℕ) (past : List (List ℕ)) → AllAt xs (record { packet = p; past = past }) → all_rest r xs slice out (p ∷ past) ++ kept r xs p past ≡ kept r xs p past ++ all_rest r xs slice out (p ∷ past)
  kept_alone xs p past n = swap (all_rest r xs slice out (p ∷ past)) (kept r xs p past) (none (all_rest r xs slice out (p ∷ past)) (r.carries p) (outside xs (r.time (p ∷ past))) (Network p ∷ []) (left_inside xs p past n)) where
    none : (a : List Out) (c o : Bool) (l : List Out) → (a ≡ []) ⊎ (o ≡ false) → (a ≡ []) ⊎ ((if c && o then l else []) ≡ [])
    none a c o l (inl e) = inl e
    none a true o l (inr e) = inr (rw e refl)
    none a false o l (inr e) = inr refl

  -- ---- all packets

  -- the counts of these events at these packets
  abbrev pub AllCounted : List PlayedEvent → List Seen → Type 0
  AllCounted [] ss = Unit {0}
  AllCounted (x ∷ xs) ss = All (CountedAt x) ss × AllCounted xs ss

  pub counted_head : (xs : List PlayedEvent) (s : Seen) (ss : List Seen) → AllCounted xs (s ∷ ss) → AllAt xs s
  counted_head [] s ss n = tt
  counted_head (x ∷ xs) s ss n = (All-head (CountedAt x) s ss n.0, counted_head xs s ss n.1)

  pub counted_tail : (xs : List PlayedEvent) (s : Seen) (ss : List Seen) → AllCounted xs (s ∷ ss) → AllCounted xs ss
  counted_tail [] s ss n = tt
  counted_tail (x ∷ xs) s ss n = (All-tail (CountedAt x) s ss n.0, counted_tail xs s ss n.1)

  pub all_counted : (xs : List PlayedEvent) (ss : List Seen) → All (λ (x : PlayedEvent). All (CountedAt x) ss) xs → AllCounted xs ss
  all_counted [] ss n = tt
  all_counted (x ∷ xs) ss n = (All-head (λ (x : PlayedEvent). All (CountedAt x) ss) x xs n, all_counted xs ss (All-tail (λ (x : PlayedEvent). All (CountedAt x) ss) x xs n))

  module _ (xs : List PlayedEvent) (o : AreOrdered xs) where
    abbrev puts : Seen → List Out
    puts s = all_inserted xs slice out s.packet s.past ++ kept r xs s.packet s.past

    abbrev places : Seen → List Out
    places s = all_slices_at r xs slice s.packet s.past ++ kept r xs s.packet s.past

    turn : {A : Type 0} (R S I T K F : List A) → R ++ S ≡ I ++ T → T ++ K ≡ K ++ T → R ++ ((S ++ K) ++ F) ≡ (I ++ K) ++ (T ++ F)
    turn R S I T K F h g =
        ap (λ l. R ++ l) (append_assoc S K F) ∙ sym (append_assoc R S (K ++ F)) ∙ ap (λ l. l ++ (K ++ F)) h ∙ append_assoc I T (K ++ F)
        ∙ ap (λ l. I ++ l) (sym (append_assoc T K F) ∙ ap (λ l. l ++ F) g ∙ append_assoc K T F) ∙ sym (append_assoc I K (T ++ F))

    pub placed_after : (past ps : List (List ℕ)) → AllCounted xs (seen_after past ps) →
        all_rest r xs slice out past ++ flat_map places (seen_after past ps) ≡ flat_map puts (seen_after past ps) ++ all_rest r xs slice out (onto past ps)
    placed_after past [] n = append-nil (all_rest r xs slice out past)
    placed_after past (p ∷ ps) n =
        let s : Seen = record { packet = p; past = past } in
        let F = flat_map places (seen_after (p ∷ past) ps) in
        let a = counted_head xs s (seen_after (p ∷ past) ps) n in
        turn (all_rest r xs slice out past) (all_slices_at r xs slice p past) (all_inserted xs slice out p past) (all_rest r xs slice out (p ∷ past)) (kept r xs p past) F
        (all_joined xs o p past a) (kept_alone xs p past a)
        ∙ ap (λ l. puts s ++ l) (placed_after (p ∷ past) ps (counted_tail xs s (seen_after (p ∷ past) ps) n))
        ∙ sym (append_assoc (puts s) (flat_map puts (seen_after (p ∷ past) ps)) (all_rest r xs slice out (onto (p ∷ past) ps)))

pub none_at_first : (r : TimedStream) (xs : List PlayedEvent) (slice : PlayedEvent → List SliceUnit) (out : PlayedEvent → List (List ℕ) → ℕ) → all_rest r xs slice out [] ≡ []
none_at_first r [] slice out = refl
none_at_first r (x ∷ xs) slice out = none_at_first r xs slice out

pub counted_is_placed : CountedIsPlaced
counted_is_placed r k xs o slice out ps n =
    sym (ap (λ l. l ++ placed r xs slice ps) (sym (none_at_first r xs slice out)) ∙ placed_after r k slice out xs o [] ps (all_counted r k slice out xs (seen_after [] ps) n))

-- ---- the count by the greatest time

module _ (r : TimedStream) (k : IsStream r) where
  out_counts : (x : PlayedEvent) (units : List SliceUnit) (past : List (List ℕ)) → CountsAt r x units (out_of r x units) past
  out_counts x units past = record {
    starts = λ b. by_test (closed r x past) (λ c. true_or_false (begun r x past) (closed-begun r k x past c) b) (λ c. simp (c, b));
    ends = λ c. simp c;
  }

  pub out_is_count : (x : PlayedEvent) (units : List SliceUnit) (s : Seen) → CountsOver r x units (out_of r x units) s
  out_is_count x units s = record {
    before = out_counts x units s.past;
    grows = out-grows r k x units s.packet s.past;
    after = out_counts x units (s.packet ∷ s.past);
  }

all_of : {A : Type 0} (P : A → Type 0) → ((x : A) → P x) → (xs : List A) → All P xs
all_of P h [] = All-nil P
all_of P h (x ∷ xs) = All-cons P x xs (h x) (all_of P h xs)

pub out_counts_all : (r : TimedStream) → IsStream r → (xs : List PlayedEvent) (slice : PlayedEvent → List SliceUnit) (ps : List (List ℕ)) →
    All (λ (x : PlayedEvent). All (CountsOver r x (slice x) (out_of r x (slice x))) (seen_after [] ps)) xs
out_counts_all r k xs slice ps =
    all_of (λ (x : PlayedEvent). All (CountsOver r x (slice x) (out_of r x (slice x))) (seen_after [] ps)) (λ (x : PlayedEvent). all_of (CountsOver r x (slice x) (out_of r x (slice x))) (out_is_count r k x (slice x)) (seen_after [] ps)) xs

pub carried_is_placed : CarriedIsPlaced
carried_is_placed r k xs o slice ps = counted_is_placed r k xs o slice (λ (x : PlayedEvent). out_of r x (slice x)) ps (out_counts_all r k xs slice ps)
