-- The moves of a splice keep whole units, and put slices in their places.
use Rattle.std.specs.Prelude.{All, ℤ, ◌==◌, if◌then◌else◌, filter, flat_map, map, reverse}
use Rattle.std.proofs.Common.{◌≡◌, ℕ, List, [], ◌∷◌, ◌++◌, Bool, true, false, not, ◌&&◌, ◌⊎◌, inl, inr, refl, sym, ap, ◌∙◌, Option, append_assoc, length, subst}
use Rattle.std.proofs.lemmas.List.{append-nil}
use Rattle.ts_packet.specs.Fields.{payload_on, bytes}
use Rattle.ts_packet.specs.Runs.{Seen, seen_after, IsGaplessAfter}
use Rattle.ts_packet.proofs.Cases.{by_test}
use Rattle.ts_packet.proofs.RunLemmas.{onto}
use Rattle.unit_stream.specs.Times.{begins, unit_time}
use Rattle.unit_stream.specs.Carrying.{CarriesUnits}
use Rattle.unit_stream.specs.Units.{is_original, rest_of_unit, lead_in, units, payloads}
use Rattle.unit_stream.proofs.ClockLemmas.{begins_off}
use Rattle.splice_laws.specs.Splicing.{PlayedEvent, SliceUnit, Out, Network, Inserted, TimedStream, stream, begun, closed, out_of, inserted, rest, holds, outside, all_inserted, all_rest, all_slices_at}
use Rattle.splice_laws.specs.Laws.{AreOrdered, IsStream, CountsOver}
use Rattle.splice_laws.specs.Streams.{Act, Through, Insert, all_closing, all_running, insert_on, on_each, is_dropped, spliced_at, of_stream, IsOnce}
use Rattle.splice_laws.proofs.PidLemmas.{pids_are_streams}
use Rattle.splice_laws.proofs.HistoryLemmas.{running-inside}
use Rattle.splice_laws.proofs.PlacedLemmas.{nothing_new, as_inserted-append, swap, AllAt, AllCounted, counted_head, counted_tail, all_counted, all_joined, left_inside, none_at_first, out_counts_all}
use Rattle.splice_laws.proofs.StreamLemmas.{of_stream-append, once_on, phases, as_inserted-flat, dropped_is}
use Rattle.splice_laws.proofs.RowLemmas.{outside-none}
use Rattle.output_laws.specs.Output.{Move, Keep, Leave, Put, acts, network, Place, Keeping, Leaving, place, KeepsUnitsWhole, Packing, output, Sound, HasComeBefore, AlongMoves, units_out}
use Rattle.output_laws.specs.Spliced.{puts_on, puts_each, puts_at, fate, moves_after, MovesAreSpliced, inserted_payloads, unit_at, placed_payloads, SplicedCarries, SplicedHasUnits}
use Rattle.output_laws.specs.Laws.{AreSoundMoves}
use Rattle.output_laws.proofs.StepLemmas.{onto_moves}
use Rattle.output_laws.proofs.GaplessLemmas.{output_stays_gapless}
use Rattle.output_laws.proofs.UnitLemmas.{output_has_units}
use Rattle.output_laws.proofs.CarryLemmas.{output_carries_units}

-- ---- lists of units put in

abbrev IsPuts : List Move → Type 0
IsPuts [] = Unit {0}
IsPuts (Keep p ∷ a) = ⊥
IsPuts (Leave p ∷ a) = ⊥
IsPuts (Put q u ∷ a) = IsPuts a

puts-append : (a b : List Move) → IsPuts a → IsPuts b → IsPuts (a ++ b)
puts-append [] b h g = g
puts-append (Keep p ∷ a) b h g = absurd h
puts-append (Leave p ∷ a) b h g = absurd h
puts-append (Put q u ∷ a) b h g = puts-append a b h g

puts_on_are : (q : ℕ) (us : List SliceUnit) → IsPuts (puts_on q us)
puts_on_are q [] = tt
puts_on_are q (u ∷ us) = puts_on_are q us

puts_each_are : (qs : List ℕ) (f : ℕ → List SliceUnit) → IsPuts (puts_each qs f)
puts_each_are [] f = tt
puts_each_are (q ∷ qs) f = puts-append (puts_on q (f q)) (puts_each qs f) (puts_on_are q (f q)) (puts_each_are qs f)

acts-append : (a b : List Move) → acts (a ++ b) ≡ acts a ++ acts b
acts-append [] b = refl
acts-append (Keep p ∷ a) b = ap (λ l. Through p ∷ l) (acts-append a b)
acts-append (Leave p ∷ a) b = acts-append a b
acts-append (Put q u ∷ a) b = ap (λ l. Insert q u ∷ l) (acts-append a b)

acts_on : (q : ℕ) (us : List SliceUnit) → acts (puts_on q us) ≡ insert_on q us
acts_on q [] = refl
acts_on q (u ∷ us) = ap (λ l. Insert q u ∷ l) (acts_on q us)

acts_each : (qs : List ℕ) (f : ℕ → List SliceUnit) → acts (puts_each qs f) ≡ on_each qs f
acts_each [] f = refl
acts_each (q ∷ qs) f = acts-append (puts_on q (f q)) (puts_each qs f) ∙ ap (λ l. l ++ acts (puts_each qs f)) (acts_on q (f q)) ∙ ap (λ l. insert_on q (f q) ++ l) (acts_each qs f)

network_more : (a b : List Move) → IsPuts a → network (a ++ b) ≡ network b
network_more [] b h = refl
network_more (Keep p ∷ a) b h = absurd h
network_more (Leave p ∷ a) b h = absurd h
network_more (Put q u ∷ a) b h = network_more a b h

network_puts : (a S : List Move) → IsPuts a → network (onto_moves S a) ≡ network S
network_puts [] S h = refl
network_puts (Keep p ∷ a) S h = absurd h
network_puts (Leave p ∷ a) S h = absurd h
network_puts (Put q u ∷ a) S h = network_puts a (Put q u ∷ S) h

module _ (pid : ℕ) where
  place_left : (a S : List Move) → IsPuts a → place pid S ≡ Leaving → place pid (onto_moves S a) ≡ Leaving
  place_left [] S h l = l
  place_left (Keep p ∷ a) S h l = absurd h
  place_left (Leave p ∷ a) S h l = absurd h
  place_left (Put q u ∷ a) S h l = place_left a (Put q u ∷ S) h (by_test (q == pid) (λ e. simp (e, l)) (λ e. simp (e, l)))

  place_none : (a S : List Move) → IsPuts a → of_stream pid (acts a) ≡ [] → place pid (onto_moves S a) ≡ place pid S
  place_none [] S h n = refl
  place_none (Keep p ∷ a) S h n = absurd h
  place_none (Leave p ∷ a) S h n = absurd h
  place_none (Put q u ∷ a) S h n =
      by_test (q == pid)
      (λ e. let f = simp e at n in cc)
      (λ e. let f = simp e at n in place_none a (Put q u ∷ S) h f ∙ simp e)

  units_puts : (a b S : List Move) → IsPuts a → units_out pid S (a ++ b) ≡ inserted_payloads (of_stream pid (acts a)) ++ units_out pid (onto_moves S a) b
  units_puts [] b S h = refl
  units_puts (Keep p ∷ a) b S h = absurd h
  units_puts (Leave p ∷ a) b S h = absurd h
  units_puts (Put q u ∷ a) b S h =
      let i = units_puts a b (Put q u ∷ S) h in
      by_test (q == pid)
      (λ e. simp e (ap (λ l. u.payload ∷ l) i))
      (λ e. simp e i)

  whole_puts : (a S : List Move) → IsPuts a → AlongMoves (KeepsUnitsWhole pid) S → AlongMoves (KeepsUnitsWhole pid) (onto_moves S a)
  whole_puts [] S h w = w
  whole_puts (Keep p ∷ a) S h w = absurd h
  whole_puts (Leave p ∷ a) S h w = absurd h
  whole_puts (Put q u ∷ a) S h w = whole_puts a (Put q u ∷ S) h (tt, w)

pub onto_moves-append : (S a b : List Move) → onto_moves S (a ++ b) ≡ onto_moves (onto_moves S a) b
onto_moves-append S [] b = refl
onto_moves-append S (s ∷ a) b = onto_moves-append (s ∷ S) a b

pub payloads-append : (a b : List Out) → inserted_payloads (a ++ b) ≡ inserted_payloads a ++ inserted_payloads b
payloads-append [] b = refl
payloads-append (Network p ∷ a) b = payloads-append a b
payloads-append (Inserted u ∷ a) b = ap (λ l. u.payload ∷ l) (payloads-append a b)

-- ---- where a unit outside all events goes on, nothing is put in

module _ (r : TimedStream) (k : IsStream r) (slice : PlayedEvent → List SliceUnit) (out : PlayedEvent → List (List ℕ) → ℕ) where
  none_put_one : (x : PlayedEvent) (p : List ℕ) (past : List (List ℕ)) → CountsOver r x (slice x) (out x) (record { packet = p; past = past }) → r.begins p past ≡ false → holds x (r.time past) ≡ false → inserted (slice x) (out x) p past ≡ []
  none_put_one x p past n b h =
      nothing_new (slice x) (out x past) (out x (p ∷ past)) (
      by_test (begun r x past)
      (λ g. by_test (closed r x past)
      (λ c. let c' : closed r x (p ∷ past) ≡ true = simp c in n.before.ends c ∙ sym (n.after.ends c'))
      (λ c. let i = running-inside r k x past g c in let f : true ≡ false = sym i ∙ h in cc))
      (λ g. let g' : begun r x (p ∷ past) ≡ false = simp (g, b) in n.before.starts g ∙ sym (n.after.starts g'))
      )

  none_put : (xs : List PlayedEvent) (p : List ℕ) (past : List (List ℕ)) → AllAt r k slice out xs (record { packet = p; past = past }) → r.begins p past ≡ false → outside xs (r.time past) ≡ true → all_inserted xs slice out p past ≡ []
  none_put [] p past n b h = refl
  none_put (x ∷ xs) p past n b h =
      by_test (holds x (r.time past))
      (λ g. let f = simp g at h in cc)
      (λ g. let f = simp g at h in let e = none_put_one x p past n.0 b g in rw e (none_put xs p past n.1 b f))

-- ---- the moves

abbrev fate_place : Bool → Place
fate_place true = Keeping
fate_place false = Leaving

module _ (sw : List ℕ) (xs : List PlayedEvent) (slice : ℕ → PlayedEvent → List SliceUnit) (out : ℕ → PlayedEvent → List (List ℕ) → ℕ) where
  puts_are : (p : List ℕ) (past : List (List ℕ)) → IsPuts (puts_at sw xs slice out p past)
  puts_are p past =
      let fc : ℕ → List SliceUnit = λ (q : ℕ). all_closing (stream sw q) xs (λ (x : PlayedEvent). inserted (slice q x) (out q x)) p past in
      let fr : ℕ → List SliceUnit = λ (q : ℕ). all_running (stream sw q) xs (λ (x : PlayedEvent). inserted (slice q x) (out q x)) p past in
      puts-append (puts_each sw fc) (puts_each sw fr) (puts_each_are sw fc) (puts_each_are sw fr)

  fate_network : (d : Bool) (p : List ℕ) (rest : List Move) → network ((if d then Leave p else Keep p) ∷ rest) ≡ p ∷ network rest
  fate_network true p rest = refl
  fate_network false p rest = refl

  pub network_moves : (past ps : List (List ℕ)) → network (moves_after sw xs slice out past ps) ≡ ps
  network_moves past [] =
      let E = puts_each sw (λ (q : ℕ). flat_map (λ (x : PlayedEvent). rest (stream sw q) x (slice q x) (out q x) past) xs) in
      ap network (sym (append-nil E)) ∙ network_more E [] (puts_each_are sw (λ (q : ℕ). flat_map (λ (x : PlayedEvent). rest (stream sw q) x (slice q x) (out q x) past) xs))
  network_moves past (p ∷ ps) =
      network_more (puts_at sw xs slice out p past) (fate sw xs p past ∷ moves_after sw xs slice out (p ∷ past) ps) (puts_are p past)
      ∙ fate_network (is_dropped sw xs p past sw) p (moves_after sw xs slice out (p ∷ past) ps) ∙ ap (λ l. p ∷ l) (network_moves (p ∷ past) ps)

  module _ (o : AreOrdered xs) (pid : ℕ) (h : IsOnce pid sw) where
    abbrev r : TimedStream
    r = stream sw pid

    abbrev k : IsStream (stream sw pid)
    k = pids_are_streams sw pid

    abbrev At : List ℕ → List (List ℕ) → Type 0
    At p past = AllAt (stream sw pid) (pids_are_streams sw pid) (slice pid) (out pid) xs (record { packet = p; past = past })

    read_puts : (p : List ℕ) (past : List (List ℕ)) → At p past → of_stream pid (acts (puts_at sw xs slice out p past)) ≡ all_inserted xs (slice pid) (out pid) p past
    read_puts p past n =
        let fc : ℕ → List SliceUnit = λ (q : ℕ). all_closing (stream sw q) xs (λ (x : PlayedEvent). inserted (slice q x) (out q x)) p past in
        let fr : ℕ → List SliceUnit = λ (q : ℕ). all_running (stream sw q) xs (λ (x : PlayedEvent). inserted (slice q x) (out q x)) p past in
        ap (of_stream pid) (acts-append (puts_each sw fc) (puts_each sw fr) ∙ ap (λ l. l ++ acts (puts_each sw fr)) (acts_each sw fc) ∙ ap (λ l. on_each sw fc ++ l) (acts_each sw fr))
        ∙ of_stream-append pid (on_each sw fc) (on_each sw fr)
        ∙ ap (λ l. l ++ of_stream pid (on_each sw fr)) (once_on pid sw fc h)
        ∙ ap (λ l. map (λ (u : SliceUnit). Inserted u) (fc pid) ++ l) (once_on pid sw fr h)
        ∙ sym (as_inserted-append (fc pid) (fr pid))
        ∙ ap (λ l. map (λ (u : SliceUnit). Inserted u) l) (phases (stream sw pid) (pids_are_streams sw pid) (slice pid) (out pid) xs o p past n)
        ∙ as_inserted-flat (λ (x : PlayedEvent). inserted (slice pid x) (out pid x) p past) xs

    record Inv (S : List Move) (past : List (List ℕ)) : Type 0 where
      pub net : network S ≡ past
      pub at : place pid S ≡ fate_place (outside xs (unit_time sw pid past))
      pub whole : AlongMoves (KeepsUnitsWhole pid) S

    module _ (p : List ℕ) (past : List (List ℕ)) (S : List Move) (n : At p past) (i : Inv S past) where
      abbrev behind : List Move
      behind = onto_moves S (puts_at sw xs slice out p past)

      net_behind : network behind ≡ past
      net_behind = network_puts (puts_at sw xs slice out p past) S (puts_are p past) ∙ i.net

      whole_behind : AlongMoves (KeepsUnitsWhole pid) behind
      whole_behind = whole_puts pid (puts_at sw xs slice out p past) S (puts_are p past) i.whole

      place_behind : begins pid p past ≡ false → place pid behind ≡ fate_place (outside xs (unit_time sw pid (p ∷ past)))
      place_behind b =
          let A = puts_at sw xs slice out p past in
          let t = (pids_are_streams sw pid).steady p past b in
          by_test (outside xs (unit_time sw pid past))
          (λ g. place_none pid A S (puts_are p past) (read_puts p past n ∙ none_put (stream sw pid) (pids_are_streams sw pid) (slice pid) (out pid) xs p past n b g) ∙ i.at)
          (λ g. place_left pid A S (puts_are p past) (i.at ∙ ap fate_place g) ∙ sym (ap fate_place g))
          ∙ ap (λ (u : Option ℤ). fate_place (outside xs u)) (sym t)

      begins_behind : begins pid p (network behind) ≡ false → begins pid p past ≡ false
      begins_behind b = ap (λ l. begins pid p l) (sym net_behind) ∙ b

      inv_keep : payload_on pid p ≡ true → outside xs (unit_time sw pid (p ∷ past)) ≡ true → Inv (Keep p ∷ behind) (p ∷ past)
      inv_keep y g = record {
        net = ap (λ l. p ∷ l) net_behind;
        at = kept_at (payload_on pid p) y ∙ sym (ap fate_place g);
        whole = (λ _ b. place_behind (begins_behind b) ∙ ap fate_place g, whole_behind);
      } where
        kept_at : (b : Bool) → b ≡ true → (if b then Keeping else place pid behind) ≡ Keeping
        kept_at true e = refl
        kept_at false e = cc

      inv_leave : payload_on pid p ≡ true → outside xs (unit_time sw pid (p ∷ past)) ≡ false → Inv (Leave p ∷ behind) (p ∷ past)
      inv_leave y g = record {
        net = ap (λ l. p ∷ l) net_behind;
        at = left_at (payload_on pid p) y ∙ sym (ap fate_place g);
        whole = (λ _ b. place_behind (begins_behind b) ∙ ap fate_place g, whole_behind);
      } where
        left_at : (b : Bool) → b ≡ true → (if b then Leaving else place pid behind) ≡ Leaving
        left_at true e = refl
        left_at false e = cc

      other_at : (b : Bool) (w : Place) → b ≡ false → (if b then w else place pid behind) ≡ place pid behind
      other_at true w e = cc
      other_at false w e = refl

      inv_other : (d : Bool) → payload_on pid p ≡ false → Inv ((if d then Leave p else Keep p) ∷ behind) (p ∷ past)
      inv_other true y = record {
        net = ap (λ l. p ∷ l) net_behind;
        at = other_at (payload_on pid p) Leaving y ∙ place_behind (begins_off pid p past y);
        whole = (λ z b. let f : true ≡ false = sym z ∙ y in cc, whole_behind);
      }
      inv_other false y = record {
        net = ap (λ l. p ∷ l) net_behind;
        at = other_at (payload_on pid p) Keeping y ∙ place_behind (begins_off pid p past y);
        whole = (λ z b. let f : true ≡ false = sym z ∙ y in cc, whole_behind);
      }

      fate_is : payload_on pid p ≡ true → (b : Bool) → outside xs (unit_time sw pid (p ∷ past)) ≡ b → fate sw xs p past ≡ (if not b then Leave p else Keep p)
      fate_is y b g = ap (λ d. if d then Leave p else Keep p) (dropped_is sw xs p past pid sw y h ∙ ap not g)

      inv_more : Inv (fate sw xs p past ∷ behind) (p ∷ past)
      inv_more =
          by_test (payload_on pid p)
          (λ y. by_test (outside xs (unit_time sw pid (p ∷ past)))
          (λ g. subst (λ s. Inv (s ∷ behind) (p ∷ past)) (sym (fate_is y true g)) (inv_keep y g))
          (λ g. subst (λ s. Inv (s ∷ behind) (p ∷ past)) (sym (fate_is y false g)) (inv_leave y g)))
          (λ y. inv_other (is_dropped sw xs p past sw) y)

    -- ---- all moves

    whole_after : (past ps : List (List ℕ)) (S : List Move) → AllCounted (stream sw pid) (pids_are_streams sw pid) (slice pid) (out pid) xs (seen_after past ps) → Inv S past → AlongMoves (KeepsUnitsWhole pid) (onto_moves S (moves_after sw xs slice out past ps))
    whole_after past [] S n i =
        let f : ℕ → List SliceUnit = λ (q : ℕ). flat_map (λ (x : PlayedEvent). rest (stream sw q) x (slice q x) (out q x) past) xs in
        whole_puts pid (puts_each sw f) S (puts_each_are sw f) i.whole
    whole_after past (p ∷ ps) S n i =
        let s : Seen = record { packet = p; past = past } in
        let a = counted_head (stream sw pid) (pids_are_streams sw pid) (slice pid) (out pid) xs s (seen_after (p ∷ past) ps) n in
        let t = counted_tail (stream sw pid) (pids_are_streams sw pid) (slice pid) (out pid) xs s (seen_after (p ∷ past) ps) n in
        let A = puts_at sw xs slice out p past in
        let F = fate sw xs p past in
        let w = whole_after (p ∷ past) ps (F ∷ onto_moves S A) t (inv_more p past S a i) in
        subst (AlongMoves (KeepsUnitsWhole pid)) (sym (onto_moves-append S A (F ∷ moves_after sw xs slice out (p ∷ past) ps))) w

    -- what a packet adds
    keep_units : (p : List ℕ) (past ps : List (List ℕ)) (S rest : List Move) → network S ≡ past → network rest ≡ ps → outside xs (unit_time sw pid (p ∷ past)) ≡ true →
        unit_at sw pid xs past p ps ++ units_out pid (Keep p ∷ S) rest ≡ units_out pid S (Keep p ∷ rest)
    keep_units p past ps S rest n m g =
        ap (λ b. (if b then (bytes p ++ rest_of_unit (filter (is_original pid) (seen_after (p ∷ past) ps))) ∷ [] else []) ++ units_out pid (Keep p ∷ S) rest) (and_true (begins pid p past) _ g)
        ∙ both_ways (begins pid p past) (bytes p ++ rest_of_unit (filter (is_original pid) (seen_after (p ∷ past) ps))) (units_out pid (Keep p ∷ S) rest)
        ∙ ap (λ l. if begins pid p l then (bytes p ++ rest_of_unit (filter (is_original pid) (seen_after (p ∷ l) ps))) ∷ units_out pid (Keep p ∷ S) rest else units_out pid (Keep p ∷ S) rest) (sym n)
        ∙ ap (λ l. if begins pid p (network S) then (bytes p ++ rest_of_unit (filter (is_original pid) (seen_after (p ∷ network S) l))) ∷ units_out pid (Keep p ∷ S) rest else units_out pid (Keep p ∷ S) rest) (sym m) where
          and_true : (a b : Bool) → b ≡ true → a && b ≡ a
          and_true true b e = e
          and_true false b e = refl

          both_ways : (b : Bool) (x : List ℕ) (l : List (List ℕ)) → (if b then x ∷ [] else []) ++ l ≡ (if b then x ∷ l else l)
          both_ways true x l = refl
          both_ways false x l = refl

    no_unit : (p : List ℕ) (past ps : List (List ℕ)) → begins pid p past && outside xs (unit_time sw pid (p ∷ past)) ≡ false → unit_at sw pid xs past p ps ≡ []
    no_unit p past ps e = ap (λ b. if b then (bytes p ++ rest_of_unit (filter (is_original pid) (seen_after (p ∷ past) ps))) ∷ [] else []) e

    and_right : (a b : Bool) → b ≡ false → a && b ≡ false
    and_right true b e = e
    and_right false b e = refl

    and_left : (a b : Bool) → a ≡ false → a && b ≡ false
    and_left true b e = cc
    and_left false b e = refl

    other_units : (d : Bool) (p : List ℕ) (S rest : List Move) → begins pid p (network S) ≡ false → units_out pid ((if d then Leave p else Keep p) ∷ S) rest ≡ units_out pid S ((if d then Leave p else Keep p) ∷ rest)
    other_units true p S rest b = refl
    other_units false p S rest b = skip (begins pid p (network S)) _ _ b where
      skip : (c : Bool) (x : List ℕ) (l : List (List ℕ)) → c ≡ false → l ≡ (if c then x ∷ l else l)
      skip true x l e = cc
      skip false x l e = refl

    step_units : (p : List ℕ) (past ps : List (List ℕ)) (S rest : List Move) (n : At p past) (i : Inv S past) → network rest ≡ ps →
        unit_at sw pid xs past p ps ++ units_out pid (fate sw xs p past ∷ onto_moves S (puts_at sw xs slice out p past)) rest ≡ units_out pid (onto_moves S (puts_at sw xs slice out p past)) (fate sw xs p past ∷ rest)
    step_units p past ps S rest n i m =
        let B = onto_moves S (puts_at sw xs slice out p past) in
        let P : Move → Type 0 = λ s. unit_at sw pid xs past p ps ++ units_out pid (s ∷ B) rest ≡ units_out pid B (s ∷ rest) in
        by_test (payload_on pid p)
        (λ y. by_test (outside xs (unit_time sw pid (p ∷ past)))
        (λ g. subst P (sym (fate_is p past S n i y true g)) (keep_units p past ps B rest (net_behind p past S n i) m g))
        (λ g. subst P (sym (fate_is p past S n i y false g)) (ap (λ l. l ++ units_out pid (Leave p ∷ B) rest) (no_unit p past ps (and_right (begins pid p past) _ g)))))
        (λ y.
        let b = begins_off pid p past y in
        ap (λ l. l ++ units_out pid (fate sw xs p past ∷ B) rest) (no_unit p past ps (and_left (begins pid p past) _ b))
        ∙ other_units (is_dropped sw xs p past sw) p B rest (begins_off pid p (network B) y))

    turn : {A : Type 0} (R S I T K F : List A) → R ++ S ≡ I ++ T → T ++ K ≡ K ++ T → R ++ (S ++ (K ++ F)) ≡ I ++ (K ++ (T ++ F))
    turn R S I T K F e g =
        sym (append_assoc R S (K ++ F)) ∙ ap (λ l. l ++ (K ++ F)) e ∙ append_assoc I T (K ++ F)
        ∙ ap (λ l. I ++ l) (sym (append_assoc T K F) ∙ ap (λ l. l ++ F) g ∙ append_assoc K T F)

    -- what is left of the slices that run, and what is placed then, is what goes out
    placed_after : (past ps : List (List ℕ)) (S : List Move) → AllCounted (stream sw pid) (pids_are_streams sw pid) (slice pid) (out pid) xs (seen_after past ps) → Inv S past →
        inserted_payloads (all_rest (stream sw pid) xs (slice pid) (out pid) past) ++ placed_payloads sw pid xs (slice pid) past ps ≡ units_out pid S (moves_after sw xs slice out past ps)
    placed_after past [] S n i =
        let f : ℕ → List SliceUnit = λ (q : ℕ). flat_map (λ (x : PlayedEvent). rest (stream sw q) x (slice q x) (out q x) past) xs in
        let E = puts_each sw f in
        sym (
        ap (units_out pid S) (sym (append-nil E)) ∙ units_puts pid E [] S (puts_each_are sw f)
        ∙ ap (λ l. inserted_payloads l ++ []) (ap (of_stream pid) (acts_each sw f) ∙ once_on pid sw f h ∙ as_inserted-flat (λ (x : PlayedEvent). rest (stream sw pid) x (slice pid x) (out pid x) past) xs)
        )
    placed_after past (p ∷ ps) S n i =
        let s : Seen = record { packet = p; past = past } in
        let a = counted_head (stream sw pid) (pids_are_streams sw pid) (slice pid) (out pid) xs s (seen_after (p ∷ past) ps) n in
        let t = counted_tail (stream sw pid) (pids_are_streams sw pid) (slice pid) (out pid) xs s (seen_after (p ∷ past) ps) n in
        let A = puts_at sw xs slice out p past in
        let F = fate sw xs p past in
        let L = moves_after sw xs slice out (p ∷ past) ps in
        let R = all_rest (stream sw pid) xs (slice pid) (out pid) past in
        let Sl = all_slices_at (stream sw pid) xs (slice pid) p past in
        let I = all_inserted xs (slice pid) (out pid) p past in
        let T = all_rest (stream sw pid) xs (slice pid) (out pid) (p ∷ past) in
        let K = unit_at sw pid xs past p ps in
        let V = placed_payloads sw pid xs (slice pid) (p ∷ past) ps in
        turn (inserted_payloads R) (inserted_payloads Sl) (inserted_payloads I) (inserted_payloads T) K V
        (sym (payloads-append R Sl) ∙ ap inserted_payloads (all_joined (stream sw pid) (pids_are_streams sw pid) (slice pid) (out pid) xs o p past a) ∙ payloads-append I T)
        (apart T K (λ g. no_unit p past ps (and_right (begins pid p past) _ g)) (left_inside (stream sw pid) (pids_are_streams sw pid) (slice pid) (out pid) xs p past a))
        ∙ ap (λ l. inserted_payloads I ++ (K ++ l)) (placed_after (p ∷ past) ps (F ∷ onto_moves S A) t (inv_more p past S a i))
        ∙ ap (λ l. inserted_payloads I ++ l) (step_units p past ps S L a i (network_moves (p ∷ past) ps))
        ∙ ap (λ l. inserted_payloads l ++ units_out pid (onto_moves S A) (F ∷ L)) (sym (read_puts p past a))
        ∙ sym (units_puts pid A (F ∷ L) S (puts_are p past)) where
          apart : (T : List Out) (K : List (List ℕ)) {o : Bool} → (o ≡ false → K ≡ []) → (T ≡ []) ⊎ (o ≡ false) → inserted_payloads T ++ K ≡ K ++ inserted_payloads T
          apart T K f (inl e) = swap (inserted_payloads T) K (inl (ap inserted_payloads e))
          apart T K f (inr e) = swap (inserted_payloads T) K (inr (f e))

-- ---- for any count

module _ (packed : Packing) (sw : List ℕ) (xs : List PlayedEvent) (o : AreOrdered xs) (slice : ℕ → PlayedEvent → List SliceUnit) (out : ℕ → PlayedEvent → List (List ℕ) → ℕ)
    (ps : List (List ℕ)) (pid : ℕ) (h : IsOnce pid sw) (c : All (λ (x : PlayedEvent). All (CountsOver (stream sw pid) x (slice pid x) (out pid x)) (seen_after [] ps)) xs)
    (s : AlongMoves (λ (s : Move) (past : List Move). Sound packed s) (reverse (moves_after sw xs slice out [] ps))) where
  abbrev counted : AllCounted (stream sw pid) (pids_are_streams sw pid) (slice pid) (out pid) xs (seen_after [] ps)
  counted = all_counted (stream sw pid) (pids_are_streams sw pid) (slice pid) (out pid) xs (seen_after [] ps) c

  abbrev first : Inv sw xs slice out o pid h [] []
  first = record { net = refl; at = sym (ap fate_place (outside-none xs)); whole = tt }

  abbrev run : AreSoundMoves packed pid (moves_after sw xs slice out [] ps)
  run = record { sound = s; whole = whole_after sw xs slice out o pid h [] ps [] counted first }

  placed_is : placed_payloads sw pid xs (slice pid) [] ps ≡ units_out pid [] (moves_after sw xs slice out [] ps)
  placed_is =
      ap (λ q. inserted_payloads q ++ placed_payloads sw pid xs (slice pid) [] ps) (sym (none_at_first (stream sw pid) xs (slice pid) (out pid)))
      ∙ placed_after sw xs slice out o pid h [] ps [] counted first

  pub counted_carries : All (λ (p : List ℕ). length p ≡ 188) ps →
      (carried : List (List ℕ)) × (filter (payload_on pid) (output packed (moves_after sw xs slice out [] ps)) ≡ lead_in pid ps ++ carried)
      × CarriesUnits carried (placed_payloads sw pid xs (slice pid) [] ps)
  counted_carries l =
      let e = network_moves sw xs slice out [] ps in
      let c = output_carries_units packed pid (moves_after sw xs slice out [] ps) run (subst (λ q. All (λ (p : List ℕ). length p ≡ 188) q) (sym e) l) in
      (c.0, c.1 ∙ ap (λ q. lead_in pid q ++ c.0) e, subst (CarriesUnits c.0) (sym placed_is) c.2)

  pub counted_has_units : AlongMoves (HasComeBefore pid) (reverse (moves_after sw xs slice out [] ps)) → (before : Option (List ℕ)) → IsGaplessAfter before pid ps → (switched : List ℕ) →
      IsGaplessAfter before pid (output packed (moves_after sw xs slice out [] ps))
      × (payloads (units switched pid (output packed (moves_after sw xs slice out [] ps))) ≡ placed_payloads sw pid xs (slice pid) [] ps)
  counted_has_units f b g switched =
      let moves = moves_after sw xs slice out [] ps in
      let g' : IsGaplessAfter b pid (network moves) = subst (IsGaplessAfter b pid) (sym (network_moves sw xs slice out [] ps)) g in
      (output_stays_gapless packed pid b moves run f g', output_has_units packed pid b switched moves run f g' ∙ sym placed_is)

pub spliced_carries : SplicedCarries
spliced_carries packed sw xs o slice ps pid h s l =
    counted_carries packed sw xs o slice (λ (q : ℕ) (x : PlayedEvent). out_of (stream sw q) x (slice q x)) ps pid h (out_counts_all (stream sw pid) (pids_are_streams sw pid) xs (slice pid) ps) s l

pub spliced_has_units : SplicedHasUnits
spliced_has_units packed sw xs o slice ps pid h s f b g sw' =
    counted_has_units packed sw xs o slice (λ (q : ℕ) (x : PlayedEvent). out_of (stream sw q) x (slice q x)) ps pid h (out_counts_all (stream sw pid) (pids_are_streams sw pid) xs (slice pid) ps) s f b g sw'

-- ---- they are the acts of the splice law

four : {A : Type 0} (a a' t g e l : List A) → a ≡ a' → l ≡ g ++ e → a ++ (t ++ l) ≡ ((a' ++ t) ++ g) ++ e
four a a' t g e l p q = rw (p, q) (sym (append_assoc a' t (g ++ e)) ∙ sym (append_assoc (a' ++ t) g e))

fate_acts : (d : Bool) (p : List ℕ) (l : List Move) → acts ((if d then Leave p else Keep p) ∷ l) ≡ (if d then [] else Through p ∷ []) ++ acts l
fate_acts true p l = refl
fate_acts false p l = refl

module _ (sw : List ℕ) (xs : List PlayedEvent) (slice : ℕ → PlayedEvent → List SliceUnit) (out : ℕ → PlayedEvent → List (List ℕ) → ℕ) where
  abbrev piece : ℕ → PlayedEvent → List ℕ → List (List ℕ) → List SliceUnit
  piece q x = inserted (slice q x) (out q x)

  abbrev left : ℕ → PlayedEvent → List (List ℕ) → List SliceUnit
  left q x = rest (stream sw q) x (slice q x) (out q x)

  pub acts_after : (past ps : List (List ℕ)) → acts (moves_after sw xs slice out past ps)
      ≡ flat_map (spliced_at sw xs piece) (seen_after past ps) ++ on_each sw (λ (q : ℕ). flat_map (λ (x : PlayedEvent). left q x (onto past ps)) xs)
  acts_after past [] = acts_each sw (λ (q : ℕ). flat_map (λ (x : PlayedEvent). left q x past) xs)
  acts_after past (p ∷ ps) =
      let fc : ℕ → List SliceUnit = λ (q : ℕ). all_closing (stream sw q) xs (piece q) p past in
      let fr : ℕ → List SliceUnit = λ (q : ℕ). all_running (stream sw q) xs (piece q) p past in
      let L = moves_after sw xs slice out (p ∷ past) ps in
      let A = puts_at sw xs slice out p past in
      let d = is_dropped sw xs p past sw in
      let T : List Act = if d then [] else Through p ∷ [] in
      acts-append A (fate sw xs p past ∷ L)
      ∙ ap (λ l. acts A ++ l) (fate_acts d p L)
      ∙ four (acts A) (on_each sw fc ++ on_each sw fr) T (flat_map (spliced_at sw xs piece) (seen_after (p ∷ past) ps)) (on_each sw (λ (q : ℕ). flat_map (λ (x : PlayedEvent). left q x (onto (p ∷ past) ps)) xs)) (acts L)
      (acts-append (puts_each sw fc) (puts_each sw fr) ∙ ap (λ l. l ++ acts (puts_each sw fr)) (acts_each sw fc) ∙ ap (λ l. on_each sw fc ++ l) (acts_each sw fr))
      (acts_after (p ∷ past) ps)

pub moves_are_spliced : MovesAreSpliced
moves_are_spliced sw xs slice ps =
    let out : ℕ → PlayedEvent → List (List ℕ) → ℕ = λ (q : ℕ) (x : PlayedEvent). out_of (stream sw q) x (slice q x) in
    (acts_after sw xs slice out [] ps, network_moves sw xs slice out [] ps)
