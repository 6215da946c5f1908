-- In a conditioned stream a slice is closed by a unit at or past its last end.
use Rattle.std.specs.Prelude.{ℤ, All, length, drop, flat_map, reverse, if◌then◌else◌}
use Rattle.std.proofs.Common.{◌≡◌, ℕ, List, [], ◌∷◌, ◌++◌, Bool, true, false, not, ◌&&◌, ◌||◌, ◌⊎◌, inl, inr, refl, sym, ap, ◌∙◌}
use Rattle.std.proofs.lemmas.List.{append-nil, drop_at}
use Rattle.std.proofs.lemmas.List.Elements.{All-head, All-tail}
use Rattle.ts_packet.specs.Runs.{Seen, seen_after}
use Rattle.ts_packet.proofs.Cases.{by_test, true_or_false}
use Rattle.ts_packet.proofs.RunLemmas.{onto}
use Rattle.splice_laws.specs.Splicing.{PlayedEvent, SliceUnit, Out, TimedStream, at_or_past, holds, passed, opens, begun, closed, as_inserted, kept, slice_at, all_slices_at}
use Rattle.splice_laws.specs.Laws.{IsStream, IsCrossedOnce, IsConditioned}
use Rattle.splice_laws.specs.Settled.{IsAhead, NeverPassesHigh}
use Rattle.splice_laws.specs.Ends.{up_to_end, sent, unsent, sent_whole, EndsAt, EndSoon, EndsMayComeEarlier}
use Rattle.splice_laws.proofs.TimeLemmas.{holds-past, holds-or_past, not-below, timed_past}
use Rattle.splice_laws.proofs.HistoryLemmas.{begun-passed, running-inside}
use Rattle.splice_laws.proofs.SpliceLemmas.{Crossed, begun-stays}
use Rattle.splice_laws.proofs.EndLemmas.{not-ahead, settled-or, run_of, run-front, Since, sent-running, sent-closing, sent_is_placed}

module _ (r : TimedStream) (k : IsStream r) (w : NeverPassesHigh r) (x : PlayedEvent) (units : List SliceUnit) (stop : List (List ℕ) → ℤ) where
  abbrev CrossedSince : List (List ℕ) → Type 0
  CrossedSince [] = Unit {0}
  CrossedSince (p ∷ past) = Crossed r k x.start (record { packet = p; past = past }) × CrossedSince past

  -- it is closed by a unit at or past its end, which is then the last one
  closes-last : (p : List ℕ) (past : List (List ℕ)) → EndsAt r x stop (record { packet = p; past = past }) → Crossed r k x.start (record { packet = p; past = past }) →
      closed r x past ≡ false → closed r x (p ∷ past) ≡ true → stop (p ∷ past) ≡ x.stop
  closes-last p past e g c d = last (settled-or x (stop (p ∷ past)) (r.high (p ∷ past)) e.settled) where
    begins : r.begins p past ≡ true
    begins = by_test (r.begins p past) (λ s. s) (λ s. let f = simp (c, s) at d in let g = and_false _ f in cc) where
      and_false : (a : Bool) → a && false ≡ true → false ≡ true
      and_false true h = h
      and_false false h = h

    not_held : holds x (r.time (p ∷ past)) ≡ false
    not_held = by_test (holds x (r.time (p ∷ past))) (λ s. let f = simp (c, s) at d in let g = and_and _ _ f in cc) (λ s. s) where
      and_and : (a b : Bool) → a && (b && false) ≡ true → false ≡ true
      and_and true true h = h
      and_and true false h = h
      and_and false b h = h

    started : at_or_past x.start (r.time (p ∷ past)) ≡ true
    started = by_test (begun r x past)
        (λ b.
        let i = timed_past x.start (r.time past) (holds-past x (r.time past) (running-inside r k x past b c)) in
        not-below x.start (r.time (p ∷ past)) (g begins (begun-passed r k x past b)) (k.timed p past i))
        (λ b. by_test (at_or_past x.start (r.time (p ∷ past))) (λ s. s) (λ s. let n = begins in let f = simp (c, b, n, s) at d in cc))

    ended : at_or_past x.stop (r.time (p ∷ past)) ≡ true
    ended = let h = holds-or_past x (r.time (p ∷ past)) started in turned _ (sym h ∙ not_held) where
      turned : (a : Bool) → not a ≡ false → a ≡ true
      turned true h = refl
      turned false h = sym h

    last : (stop (p ∷ past) ≡ x.stop) ⊎ (IsAhead (r.high (p ∷ past)) x.stop) → stop (p ∷ past) ≡ x.stop
    last (inl h) = h
    last (inr h) = absurd (not-ahead x.stop (r.time (p ∷ past)) (r.high (p ∷ past)) (w (p ∷ past)) ended h)

  sent-closed : (past : List (List ℕ)) → Since r k x units stop past → CrossedSince past → closed r x past ≡ true → sent r x units stop past ≡ up_to_end x.stop units
  sent-closed [] s g c = true_or_false false c refl
  sent-closed (p ∷ past) s g c = by_test (closed r x past)
      (λ d. simp d (sent-closed past s.1 g.1 d))
      (λ d. sent-closing r k x units stop p past d c ∙ ap (λ e. up_to_end e units) (closes-last p past s.0 g.0 d c))

  pub whole-last : (past : List (List ℕ)) → Since r k x units stop past → CrossedSince past → stop past ≡ x.stop → begun r x past ≡ true → sent_whole r x units stop past ≡ up_to_end x.stop units
  whole-last past s g e b = by_test (closed r x past)
      (λ c. ap (λ l. sent r x units stop past ++ l) (none c) ∙ append-nil (sent r x units stop past) ∙ sent-closed past s g c)
      (λ c.
      let us = up_to_end (stop past) units in
      let f = run-front us (r.high past) in
      ap (λ l. sent r x units stop past ++ l) (left c)
      ∙ ap (λ l. l ++ drop (length l) us) (sent-running r k x units stop past b c)
      ∙ joins (run_of us (r.high past)) us f.0 f.1
      ∙ ap (λ t. up_to_end t units) e) where
        none : closed r x past ≡ true → unsent r x units stop past ≡ []
        none c = by_test (begun r x past) (λ b. simp (b, c)) (λ b. simp b)

        left : closed r x past ≡ false → unsent r x units stop past ≡ drop (length (sent r x units stop past)) (up_to_end (stop past) units)
        left c = picked (begun r x past) (closed r x past) b c where
          picked : (a d : Bool) → a ≡ true → d ≡ false → (if a && not d then drop (length (sent r x units stop past)) (up_to_end (stop past) units) else []) ≡ drop (length (sent r x units stop past)) (up_to_end (stop past) units)
          picked a d e f = rw (e, f) refl

        joins : (a b more : List SliceUnit) → b ≡ a ++ more → a ++ drop (length a) b ≡ b
        joins a b more h = ap (λ l. a ++ drop (length a) l) h ∙ ap (λ l. a ++ l) ((drop_at a more (length a) refl)) ∙ sym h

  since : (past ps : List (List ℕ)) → Since r k x units stop past → CrossedSince past → All (EndsAt r x stop) (seen_after past ps) → All (Crossed r k x.start) (seen_after past ps) →
      Since r k x units stop (onto past ps) × CrossedSince (onto past ps)
  since past [] s g n c = (s, g)
  since past (p ∷ ps) s g n c =
      let t : Seen = record { packet = p; past = past } in
      let S = seen_after (p ∷ past) ps in
      since (p ∷ past) ps (All-head (EndsAt r x stop) t S n, s) (All-head (Crossed r k x.start) t S c, g) (All-tail (EndsAt r x stop) t S n) (All-tail (Crossed r k x.start) t S c)

-- ---- slices that agree where their event begins stand in place alike

module _ (r : TimedStream) (k : IsStream r) (one other : PlayedEvent → List SliceUnit) where
  abbrev pub Agree : List PlayedEvent → List (List ℕ) → Type 0
  Agree [] past = Unit {0}
  Agree (x ∷ xs) past = (begun r x past ≡ true → one x ≡ other x) × Agree xs past

  agree_at : (x : PlayedEvent) (p : List ℕ) (past ps : List (List ℕ)) → (begun r x (onto (p ∷ past) ps) ≡ true → one x ≡ other x) → slice_at r x (one x) p past ≡ slice_at r x (other x) p past
  agree_at x p past ps h = pick (opens r x p past) (passed r x.start past) (λ o. h (begun-stays r k x (p ∷ past) ps (later (begun r x past) (opens r x p past) o))) where
    later : (a b : Bool) → b ≡ true → a || b ≡ true
    later true b e = refl
    later false b e = e

    pick : (o e : Bool) → (o ≡ true → one x ≡ other x) → (if o && not e then one x else []) ≡ (if o && not e then other x else [])
    pick true true g = refl
    pick true false g = g refl
    pick false e g = refl

  agree_all : (xs : List PlayedEvent) (p : List ℕ) (past ps : List (List ℕ)) → Agree xs (onto (p ∷ past) ps) → all_slices_at r xs one p past ≡ all_slices_at r xs other p past
  agree_all [] p past ps h = refl
  agree_all (x ∷ xs) p past ps h = both_append _ _ _ _ (ap as_inserted (agree_at x p past ps h.0)) (agree_all xs p past ps h.1) where
    both_append : (a b c d : List Out) → a ≡ b → c ≡ d → a ++ c ≡ b ++ d
    both_append a b c d e f = rw (e, f) refl

  module _ (xs : List PlayedEvent) where
    abbrev places : (PlayedEvent → List SliceUnit) → Seen → List Out
    places slice s = all_slices_at r xs slice s.packet s.past ++ kept r xs s.packet s.past

    pub placed-same : (past ps : List (List ℕ)) → Agree xs (onto past ps) → flat_map (places one) (seen_after past ps) ≡ flat_map (places other) (seen_after past ps)
    placed-same past [] h = refl
    placed-same past (p ∷ ps) h =
        ap (λ l. (l ++ kept r xs p past) ++ flat_map (places one) (seen_after (p ∷ past) ps)) (agree_all xs p past ps h)
        ∙ ap (λ l. places other (record { packet = p; past = past }) ++ l) (placed-same (p ∷ past) ps h)

agree_last : (r : TimedStream) (k : IsStream r) (w : NeverPassesHigh r) (units : PlayedEvent → List SliceUnit) (stop : PlayedEvent → List (List ℕ) → ℤ) (ps : List (List ℕ)) (xs : List PlayedEvent) →
    EndSoon r xs stop ps → All (λ (x : PlayedEvent). stop x (reverse ps) ≡ x.stop) xs → IsConditioned r xs ps →
    Agree r k (λ (x : PlayedEvent). sent_whole r x (units x) (stop x) (reverse ps)) (λ (x : PlayedEvent). up_to_end x.stop (units x)) xs (reverse ps)
agree_last r k w units stop ps [] n l d = tt
agree_last r k w units stop ps (x ∷ xs) n l d =
    let fn = λ (x : PlayedEvent). All (EndsAt r x (stop x)) (seen_after [] ps) in
    let fl = λ (x : PlayedEvent). stop x (reverse ps) ≡ x.stop in
    let fd = λ (x : PlayedEvent). IsCrossedOnce r x.start ps in
    let s = since r k w x (units x) (stop x) [] ps tt tt (All-head fn x xs n) (All-head fd x xs d) in
    (λ b. whole-last r k w x (units x) (stop x) (reverse ps) s.0 s.1 (All-head fl x xs l) b, agree_last r k w units stop ps xs (All-tail fn x xs n) (All-tail fl x xs l) (All-tail fd x xs d))

pub ends_may_come_earlier : EndsMayComeEarlier
ends_may_come_earlier r k w xs o units stop ps n l d =
    sent_is_placed r k xs o units stop ps n
    ∙ placed-same r k (λ (x : PlayedEvent). sent_whole r x (units x) (stop x) (reverse ps)) (λ (x : PlayedEvent). up_to_end x.stop (units x)) xs [] ps (agree_last r k w units stop ps xs n l d)
