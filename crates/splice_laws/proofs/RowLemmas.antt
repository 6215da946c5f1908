-- From packets to units.
use Rattle.std.specs.Prelude.{ℤ, filter, flat_map, if◌then◌else◌}
use Rattle.std.proofs.Common.{◌≡◌, ℕ, List, [], ◌∷◌, ◌++◌, map, Bool, true, false, ◌&&◌, refl, sym, ap, ◌∙◌, Option, None, Some, append_assoc}
use Rattle.std.proofs.lemmas.List.{append-nil}
use Rattle.ts_packet.specs.Fields.{payload_on, unit_start}
use Rattle.ts_packet.specs.Duplicates.{repeats}
use Rattle.ts_packet.specs.Runs.{Seen, seen_after}
use Rattle.ts_packet.proofs.Cases.{by_test}
use Rattle.unit_stream.specs.Times.{begins, unit_time}
use Rattle.unit_stream.specs.Units.{Row, has_payload, rest_of_row, rows_of, rows, lead_in}
use Rattle.splice_laws.specs.Splicing.{PlayedEvent, SliceUnit, Out, Network, Inserted, TimedStream, stream, slice_at, all_slices_at, as_inserted, kept, outside, parts, placed}
use Rattle.splice_laws.proofs.PidLemmas.{pids_are_streams}
use Rattle.splice_laws.specs.Rows.{Item, Own, Played, out_items, own_items, slice_items, slices_before, placed_units_of, is_between, units_between, unit_parts, carried_items}

pub out_items-append : (a b : List Item) → out_items (a ++ b) ≡ out_items a ++ out_items b
out_items-append [] b = refl
out_items-append (Own row ∷ a) b = ap (λ l. map (λ (p : List ℕ). Network p) row.packets ++ l) (out_items-append a b) ∙ sym (append_assoc (map (λ (p : List ℕ). Network p) row.packets) (out_items a) (out_items b))
out_items-append (Played u ∷ a) b = ap (λ l. Inserted u ∷ l) (out_items-append a b)

pub out_items-slice : (us : List SliceUnit) → out_items (slice_items us) ≡ as_inserted us
out_items-slice [] = refl
out_items-slice (u ∷ us) = ap (λ l. Inserted u ∷ l) (out_items-slice us)

abbrev pub network : List (List ℕ) → List Out
network ps = map (λ (p : List ℕ). Network p) ps

module _ (goes : Option ℤ → Bool) (sw : List ℕ) (pid : ℕ) where
  -- the packets of units by a test on their time
  abbrev picked : List (List ℕ) → List (List ℕ) → List Out
  picked past ps = map (λ (s : Seen). Network s.packet) (filter (λ (s : Seen). payload_on pid s.packet && goes (unit_time sw pid (s.packet ∷ s.past))) (seen_after past ps))

  abbrev PickedRows : List (List ℕ) → List (List ℕ) → Type 0
  PickedRows past ps = let S = filter (has_payload pid) (seen_after past ps) in
      picked past ps ≡ network (if goes (unit_time sw pid past) then rest_of_row pid S else []) ++ out_items (own_items (filter (λ (row : Row). goes row.time) (rows_of sw pid S)))

  picked_more : (p : List ℕ) (past ps : List (List ℕ)) → PickedRows (p ∷ past) ps → PickedRows past (p ∷ ps)
  picked_more p past ps h =
      by_test (payload_on pid p)
      (λ y. by_test (repeats pid p past)
      (λ r. by_test (goes (unit_time sw pid past))
      (λ g. let e = simp (y, r, g) at h in simp (y, r, g) (ap (λ l. Network p ∷ l) e))
      (λ g. let e = simp (y, r, g) at h in simp (y, r, g) e))
      (λ r. by_test (unit_start p)
      (λ s. by_test (goes (unit_time sw pid past))
      (λ g. by_test (goes (unit_time sw pid (p ∷ past)))
      (λ g'. let f = simp (y, r, s) at g' in let e = simp (y, r, s, f) at h in simp (y, r, s, f, g) (ap (λ l. Network p ∷ l) e))
      (λ g'. let f = simp (y, r, s) at g' in let e = simp (y, r, s, f) at h in simp (y, r, s, f, g) e))
      (λ g. by_test (goes (unit_time sw pid (p ∷ past)))
      (λ g'. let f = simp (y, r, s) at g' in let e = simp (y, r, s, f) at h in simp (y, r, s, f, g) (ap (λ l. Network p ∷ l) e))
      (λ g'. let f = simp (y, r, s) at g' in let e = simp (y, r, s, f) at h in simp (y, r, s, f, g) e)))
      (λ s. by_test (goes (unit_time sw pid past))
      (λ g. let e = simp (y, r, s, g) at h in simp (y, r, s, g) (ap (λ l. Network p ∷ l) e))
      (λ g. let e = simp (y, r, s, g) at h in simp (y, r, s, g) e))))
      (λ y. let e = simp y at h in simp y e)

  picked_rows : (past ps : List (List ℕ)) → PickedRows past ps
  picked_rows past [] = by_test (goes (unit_time sw pid past)) (λ g. simp g) (λ g. simp g)
  picked_rows past (p ∷ ps) = picked_more p past ps (picked_rows (p ∷ past) ps)

three : (A B C : List Item) (P Q R : List Out) → P ≡ out_items A → Q ≡ out_items B → R ≡ out_items C → P ++ (Q ++ R) ≡ out_items (A ++ (B ++ C))
three A B C P Q R a b c = rw (a, b, c) (sym (out_items-append A (B ++ C) ∙ ap (λ l. out_items A ++ l) (out_items-append B C)))

slice_if : (b : Bool) (us : List SliceUnit) → (if b then as_inserted us else []) ≡ out_items (if b then slice_items us else [])
slice_if true us = sym (out_items-slice us)
slice_if false us = refl

module _ (sw : List ℕ) (pid : ℕ) (slice : PlayedEvent → List SliceUnit) (reached : PlayedEvent → Bool) where
  -- behind an edge the packets before the first unit do not count
  parts_rows : (low : ℤ) (xs : List PlayedEvent) (ps : List (List ℕ)) →
      parts (stream sw pid) (Some low) xs reached slice (seen_after [] ps) ≡ out_items (unit_parts (Some low) xs reached slice (rows sw pid ps))
  parts_rows low [] ps = picked_rows (is_between (Some low) None) sw pid [] ps
  parts_rows low (x ∷ xs) ps =
      three (own_items (units_between (Some low) (Some x.start) (rows sw pid ps))) (if reached x then slice_items (slice x) else []) (unit_parts (Some x.stop) xs reached slice (rows sw pid ps)) _ _ _
      (picked_rows (is_between (Some low) (Some x.start)) sw pid [] ps) (slice_if (reached x) (slice x)) (parts_rows x.stop xs ps)

  pub first_rows : (xs : List PlayedEvent) (ps : List (List ℕ)) →
      parts (stream sw pid) None xs reached slice (seen_after [] ps) ≡ carried_items pid ps (unit_parts None xs reached slice (rows sw pid ps))
  first_rows [] ps = picked_rows (is_between None None) sw pid [] ps
  first_rows (x ∷ xs) ps =
      let A = own_items (units_between None (Some x.start) (rows sw pid ps)) in
      let Q : List Out = if reached x then as_inserted (slice x) else [] in
      let R = parts (stream sw pid) (Some x.stop) xs reached slice (seen_after [] ps) in
      ap (λ l. l ++ (Q ++ R)) (picked_rows (is_between None (Some x.start)) sw pid [] ps)
      ∙ append_assoc (network (lead_in pid ps)) (out_items A) (Q ++ R)
      ∙ ap (λ l. network (lead_in pid ps) ++ l) (three A (if reached x then slice_items (slice x) else []) (unit_parts (Some x.stop) xs reached slice (rows sw pid ps)) (out_items A) Q R refl (slice_if (reached x) (slice x)) (parts_rows x.stop xs ps))

-- ---- placed

none_placed : (r : TimedStream) (xs : List PlayedEvent) (slice : PlayedEvent → List SliceUnit) (p : List ℕ) (past : List (List ℕ)) → r.begins p past ≡ false → all_slices_at r xs slice p past ≡ []
none_placed r [] slice p past b = refl
none_placed r (x ∷ xs) slice p past b = let e : slice_at r x (slice x) p past ≡ [] = simp b in ap (λ l. as_inserted l ++ all_slices_at r xs slice p past) e ∙ none_placed r xs slice p past b

-- a packet of no unit's begin, and one that begins a unit
going_on : (p : List ℕ) (A F : List Out) (o : Bool) (R : List (List ℕ)) (P : List Item) → A ≡ [] → F ≡ network (if o then R else []) ++ out_items P →
    (A ++ (if o then Network p ∷ [] else [])) ++ F ≡ network (if o then p ∷ R else []) ++ out_items P
going_on p A F true R P a f = simp (a, f)
going_on p A F false R P a f = simp (a, f)

beginning : (p : List ℕ) (t : Option ℤ) (A F : List Out) (o : Bool) (R : List (List ℕ)) (B P : List Item) → A ≡ out_items B → F ≡ network (if o then R else []) ++ out_items P →
    (A ++ (if o then Network p ∷ [] else [])) ++ F ≡ out_items (B ++ ((if o then Own (record { time = t; packets = p ∷ R }) ∷ [] else []) ++ P))
beginning p t A F true R B P a f = simp (a, f, out_items-append, append_assoc)
beginning p t A F false R B P a f = simp (a, f, out_items-append, append-nil)

own_if : (y o : Bool) (l : List Out) → y ≡ true → (if y && o then l else []) ≡ (if o then l else [])
own_if true o l h = refl
own_if false o l h = cc

own_none : (y o : Bool) (l : List Out) → y ≡ false → (if y && o then l else []) ≡ []
own_none true o l h = cc
own_none false o l h = refl

row_begins : (b o : Bool) (R : List (List ℕ)) (X Y : List Item) → b ≡ true → network (if o then (if b then [] else R) else []) ++ out_items (if b then X else Y) ≡ out_items X
row_begins true true R X Y h = refl
row_begins true false R X Y h = refl
row_begins false o R X Y h = cc

row_goes_on : (b o : Bool) (R : List (List ℕ)) (X Y : List Item) → b ≡ false → network (if o then (if b then [] else R) else []) ++ out_items (if b then X else Y) ≡ network (if o then R else []) ++ out_items Y
row_goes_on true o R X Y h = cc
row_goes_on false o R X Y h = refl

module _ (sw : List ℕ) (pid : ℕ) (xs : List PlayedEvent) (slice : PlayedEvent → List SliceUnit) where
  slices_out : (ys : List PlayedEvent) (s : Seen) → all_slices_at (stream sw pid) ys slice s.packet s.past ≡ out_items (slices_before sw pid ys slice s)
  slices_out [] s = refl
  slices_out (y ∷ ys) s =
      let us = slice_at (stream sw pid) y (slice y) s.packet s.past in
      ap (λ l. as_inserted us ++ l) (slices_out ys s) ∙ ap (λ l. l ++ out_items (slices_before sw pid ys slice s)) (sym (out_items-slice us)) ∙ sym (out_items-append (slice_items us) (slices_before sw pid ys slice s))

  abbrev places : Seen → List Out
  places s = all_slices_at (stream sw pid) xs slice s.packet s.past ++ kept (stream sw pid) xs s.packet s.past

  abbrev PlacedRows : List (List ℕ) → List (List ℕ) → Type 0
  PlacedRows past ps = let S = filter (has_payload pid) (seen_after past ps) in
      flat_map places (seen_after past ps) ≡ network (if outside xs (unit_time sw pid past) then rest_of_row pid S else []) ++ out_items (placed_units_of sw pid xs slice S)

  begins-payload : (p : List ℕ) (past : List (List ℕ)) → payload_on pid p ≡ false → begins pid p past ≡ false
  begins-payload p past y = simp y

  -- the units of packets behind a past, at whose end a unit of this time runs
  abbrev units_out : Option ℤ → List Seen → List Out
  units_out t S = network (if outside xs t then rest_of_row pid S else []) ++ out_items (placed_units_of sw pid xs slice S)

  placed_more : (p : List ℕ) (past ps : List (List ℕ)) → PlacedRows (p ∷ past) ps → PlacedRows past (p ∷ ps)
  placed_more p past ps h =
      let s : Seen = record { packet = p; past = past } in
      let S = filter (has_payload pid) (seen_after (p ∷ past) ps) in
      let A = all_slices_at (stream sw pid) xs slice p past in
      let F = flat_map places (seen_after (p ∷ past) ps) in
      let t = unit_time sw pid (p ∷ past) in
      let t0 = unit_time sw pid past in
      let B = slices_before sw pid xs slice s in
      let R = rest_of_row pid S in
      let P = placed_units_of sw pid xs slice S in
      by_test (payload_on pid p)
      (λ y.
      let es : filter (has_payload pid) (seen_after past (p ∷ ps)) ≡ s ∷ S = simp y in
      let own = own_if (payload_on pid p) (outside xs t) (Network p ∷ []) y in
      by_test (begins pid p past)
      (λ b.
      ap (λ l. (A ++ l) ++ F) own
      ∙ beginning p t A F (outside xs t) R B P (slices_out xs s) h
      ∙ sym (row_begins (begins pid p past) (outside xs t0) (p ∷ R) (B ++ ((if outside xs t then Own (record { time = t; packets = p ∷ R }) ∷ [] else []) ++ P)) P b)
      ∙ ap (units_out t0) (sym es))
      (λ b.
      let same = (pids_are_streams sw pid).steady p past b in
      ap (λ l. (A ++ l) ++ F) own
      ∙ going_on p A F (outside xs t) R P (none_placed (stream sw pid) xs slice p past b) h
      ∙ ap (λ u. network (if outside xs u then p ∷ R else []) ++ out_items P) same
      ∙ sym (row_goes_on (begins pid p past) (outside xs t0) (p ∷ R) (B ++ ((if outside xs t then Own (record { time = t; packets = p ∷ R }) ∷ [] else []) ++ P)) P b)
      ∙ ap (units_out t0) (sym es)))
      (λ y.
      let es : filter (has_payload pid) (seen_after past (p ∷ ps)) ≡ S = simp y in
      let b = begins-payload p past y in
      ap (λ l. (l ++ kept (stream sw pid) xs p past) ++ F) (none_placed (stream sw pid) xs slice p past b)
      ∙ ap (λ l. l ++ F) (own_none (payload_on pid p) (outside xs t) (Network p ∷ []) y)
      ∙ h ∙ ap (λ u. units_out u S) ((pids_are_streams sw pid).steady p past b) ∙ ap (units_out t0) (sym es))

  placed_rows : (past ps : List (List ℕ)) → PlacedRows past ps
  placed_rows past [] = by_test (outside xs (unit_time sw pid past)) (λ g. simp g) (λ g. simp g)
  placed_rows past (p ∷ ps) = placed_more p past ps (placed_rows (p ∷ past) ps)

pub outside-none : (xs : List PlayedEvent) → outside xs None ≡ true
outside-none [] = refl
outside-none (x ∷ xs) = outside-none xs

pub placed_units_are : (sw : List ℕ) (pid : ℕ) (xs : List PlayedEvent) (slice : PlayedEvent → List SliceUnit) (ps : List (List ℕ)) →
    placed (stream sw pid) xs slice ps ≡ carried_items pid ps (placed_units_of sw pid xs slice (filter (has_payload pid) (seen_after [] ps)))
placed_units_are sw pid xs slice ps = let h = placed_rows sw pid xs slice [] ps in let e = outside-none xs in simp e at h
