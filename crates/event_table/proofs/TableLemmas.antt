-- A table and the list that it stands for: each test of the one is that of the other, and each change keeps the relation.
use Rattle.std.proofs.Common.{◌≡◌, ◌↔◌, IsTrue, ℕ, ◌+◌, ◌%◌, ◌^◌, ◌<◌, ◌==◌, Bool, true, false, ◌&&◌, List, [], ◌∷◌, ◌++◌, length, refl, ap, sym, ◌∙◌, subst, arith}
use Rattle.std.specs.Prelude.{ℤ, pos, ◌+ℤ◌, ◌-ℤ◌, ◌<ℤ◌, ◌≤ℤ◌, int_lt, int_le, unsigned_abs, map, find, filter, All, slice_set, slice_index_or, Option, None, Some, option_map, Ok, Err}
use Rattle.std.specs.List.{list_any, position}
use Rattle.std.specs.Ordering.{int_eq}
use Rattle.std.proofs.lemmas.Int.{ints}
use Rattle.std.proofs.lemmas.Bool.{or_parts, and_parts}
use Rattle.std.proofs.lemmas.List.Elements.{All-append, All-cons, All-nil, All-head, All-tail, All-filter, filter_passes}
use Rattle.std.proofs.lemmas.List.{length-map, map-append, map-set}
use Rattle.std.proofs.Math.Seq.{map-set_same}
use Rattle.std.proofs.Math.ListN.{get_or-map}
use Rattle.std.proofs.lemmas.List.Kept.{AllPairs-filter}
use Rattle.std.proofs.lemmas.List.Quantifiers.{all_pairs_push}
use Rattle.pes_time.specs.Line.{signed, ring_of, lift, place as place_of}
use Rattle.pes_time.proofs.LineLemmas.{signed-near, ring-lift}
use Rattle.event_table.specs.declared.event.Event.{Event}
use Rattle.event_table.specs.declared.table.Entry.{Entry}
use Rattle.event_table.specs.declared.table.Table.{Table}
use Rattle.event_table.specs.declared.table.Armed.TheVariants.{New, Same}
use Rattle.event_table.specs.declared.table.ArmRefusal.TheVariants.{InUse, Full, Overlap}
use Rattle.event_table.specs.declared.table.CancelRefusal.TheVariants.{NoSuchEvent, TooLate}
use Rattle.event_table.specs.declared.table.ShortenRefusal.TheVariants.{NoSuchEvent as NothingToShorten, BadEnd}
use Rattle.event_table.specs.Rings.{is_before_on_ring, has_reached_on_ring, IsAheadOf, CanAdvance, IsAheadOnRing}
use Rattle.event_table.specs.Events.{ring_end, covers_on_ring, meets_on_ring, repeats_on_ring, ends_early_on_ring, cancelled_event, ended_on_ring, CanArm}
use Rattle.event_table.specs.Standing.{Standing, on_ring, on_line, end_of, forgotten_at, has_id, covers, meets, repeats, is_full, arm_answer, has_begun, cancel_answer, is_early_end, is_ahead_of, shorten_answer, with_first, cancelled_one, ending_at, with_cancelled, with_end, still_standing, IsTimeAt, IsApart, IsInReach, IsWithin}
use Rattle.event_table.specs.Tables.{StandsFor, events_of, values_of}
use Rattle.event_table.proofs.TimeLemmas.{InWindow, near-window, before-window, ring-plus, same-place}
use Rattle.event_table.proofs.EventLemmas.{covers-near, repeats-near, meets-near, meets-comm, armable-reach, on_ring-on_line, high-window, not-lt, early-by, meets-less, early-parts, ahead-of, ending-end, ending-reach, next-window, next-reach, start-window, end-window, forgotten-window, ring_end-on_ring}
use Rattle.event_table.proofs.ListLemmas.{list_any-map, position-map, filter-map, find-map, map-joined, map-map, with_first-map, with_first-found, All-find, All-with_first, AllPairs-with_first, found-at, not_found}

any-none : {X : Type 0} (p : X → Bool) (xs : List X) → list_any p xs ≡ false → All (λ x. p x ≡ false) xs
any-none p [] none = All-nil (λ x. p x ≡ false)
any-none p (x ∷ xs) none = All-cons (λ y. p y ≡ false) x xs (or_parts (p x) (list_any p xs) none).0 (any-none p xs (or_parts (p x) (list_any p xs) none).1)

-- tests of the entries are those of their events
any-entry : {T : Type 0} (p : Event → Bool) (t : Table T) → list_any (λ entry. p entry.event) t.entries.items ≡ list_any p (events_of t)
any-entry p t = sym (list_any-map (λ entry. entry.event) (λ _. Unit {0}) p (λ entry. p entry.event) (λ _ _. refl) t.entries.items (λ k d below. tt))

pub place-entry : {T : Type 0} (p : Event → Bool) (t : Table T) → position (λ entry. p entry.event) t.entries.items ≡ position p (events_of t)
place-entry p t = sym (position-map (λ entry. entry.event) (λ _. Unit {0}) p (λ entry. p entry.event) (λ _ _. refl) t.entries.items (λ k d below. tt))

pub place-id : {T : Type 0} (t : Table T) (latest : Option ℤ) (standing : List Standing) (id : ℕ) → StandsFor t latest standing
    → position (λ entry. entry.event.id == id) t.entries.items ≡ position (has_id id) standing
place-id t latest standing id stands =
    place-entry (λ e. e.id == id) t ∙ rw stands.events (position-map on_ring (IsWithin latest) (λ e. e.id == id) (has_id id) (λ s _. refl) standing stands.within)

pub length-entries : {T : Type 0} (t : Table T) (latest : Option ℤ) (standing : List Standing) → StandsFor t latest standing → length t.entries.items ≡ length standing
length-entries t latest standing stands =
    sym (length-map t.entries.items (λ entry. entry.event)) ∙ ap length stands.events ∙ length-map standing on_ring

repeats-within : (latest : Option ℤ) (e : Event) → e.start < 2 ^ 33 → (s : Standing) → IsWithin latest s → repeats_on_ring e (on_ring s) ≡ repeats (on_line latest e) s
repeats-within None e fits s nothing = absurd nothing
repeats-within (Some high) e fits s reach = repeats-near high e fits s reach

covers-within : (latest : Option ℤ) (p : ℕ) → p < 2 ^ 33 → (s : Standing) → IsWithin latest s → covers_on_ring (on_ring s) p ≡ covers (place_of latest p) s
covers-within None p fits s nothing = absurd nothing
covers-within (Some high) p fits s reach = covers-near high p fits s reach

pub any-repeats : {T : Type 0} (t : Table T) (latest : Option ℤ) (standing : List Standing) (e : Event) → e.start < 2 ^ 33 → StandsFor t latest standing
    → list_any (λ entry. repeats_on_ring e entry.event) t.entries.items ≡ list_any (repeats (on_line latest e)) standing
any-repeats t latest standing e fits stands = any-entry (repeats_on_ring e) t ∙ rw stands.events (list_any-map on_ring (IsWithin latest) _ _ (repeats-within latest e fits) standing stands.within)

pub find-covers : {T : Type 0} (t : Table T) (latest : Option ℤ) (standing : List Standing) (p : ℕ) → p < 2 ^ 33 → StandsFor t latest standing
    → position (λ entry. covers_on_ring entry.event p) t.entries.items ≡ position (covers (place_of latest p)) standing
find-covers t latest standing p fits stands = place-entry (λ e. covers_on_ring e p) t ∙ rw stands.events (position-map on_ring (IsWithin latest) _ _ (covers-within latest p fits) standing stands.within)

pub any-has_id : {T : Type 0} (t : Table T) (latest : Option ℤ) (standing : List Standing) (id : ℕ) → StandsFor t latest standing
    → list_any (λ entry. entry.event.id == id) t.entries.items ≡ list_any (has_id id) standing
any-has_id t latest standing id stands = any-entry (λ e. e.id == id) t ∙ rw stands.events (list_any-map on_ring (IsWithin latest) (λ e. e.id == id) (has_id id) (λ s _. refl) standing stands.within)

meets-within : (high : ℤ) (e : Event) → e.start < 2 ^ 33 → CanArm (Some (ring_of high)) e → (s : Standing) → IsInReach high s
    → meets_on_ring e (on_ring s) ≡ meets (on_line (Some high) e) s
meets-within high e fits can s reach =
    ap (λ a. meets_on_ring a (on_ring s)) (sym (on_ring-on_line high e fits)) ∙ meets-near high (on_line (Some high) e) s (armable-reach high e fits can) reach

pub any-meets : {T : Type 0} (t : Table T) (latest : Option ℤ) (standing : List Standing) (e : Event) → e.start < 2 ^ 33 → CanArm t.last e → StandsFor t latest standing
    → list_any (λ entry. meets_on_ring e entry.event) t.entries.items ≡ list_any (meets (on_line latest e)) standing
any-meets t None standing e fits can stands = absurd (subst (λ h. CanArm h e) stands.high can)
any-meets t (Some high) standing e fits can stands =
    any-entry (meets_on_ring e) t ∙ rw stands.events (list_any-map on_ring (IsInReach high) _ _ (meets-within high e fits (subst (λ h. CanArm h e) stands.high can)) standing stands.within)

pub arm-in_use : (standing : List Standing) (n : Standing) → list_any (repeats n) standing ≡ false → list_any (has_id n.id) standing ≡ true → Err InUse ≡ arm_answer standing n
arm-in_use standing n r i = rw (r, i) refl

pub arm-full : (standing : List Standing) (n : Standing) → list_any (repeats n) standing ≡ false → list_any (has_id n.id) standing ≡ false → is_full standing ≡ true
    → Err Full ≡ arm_answer standing n
arm-full standing n r i f = rw (r, i, f) refl

pub arm-overlap : (standing : List Standing) (n : Standing) → list_any (repeats n) standing ≡ false → list_any (has_id n.id) standing ≡ false → is_full standing ≡ false
    → list_any (meets n) standing ≡ true → Err Overlap ≡ arm_answer standing n
arm-overlap standing n r i f m = rw (r, i, f, m) refl

pub arm-new : (standing : List Standing) (n : Standing) → list_any (repeats n) standing ≡ false → list_any (has_id n.id) standing ≡ false → is_full standing ≡ false
    → list_any (meets n) standing ≡ false → Ok New ≡ arm_answer standing n
arm-new standing n r i f m = rw (r, i, f, m) refl

pub is_full-items : {T : Type 0} (t : Table T) (latest : Option ℤ) (standing : List Standing) → StandsFor t latest standing → (length t.entries.items == 32) ≡ is_full standing
is_full-items t latest standing stands = ap (λ n. n == 32) (length-entries t latest standing stands)

-- one entry more
pub pushed-events : {T : Type 0} (entries entries' : List (Entry T)) (entry : Entry T) → entries' ≡ entries ++ entry ∷ []
    → map (λ x. x.event) entries' ≡ map (λ x. x.event) entries ++ entry.event ∷ []
pushed-events entries entries' entry items = ap (map (λ x. x.event)) items ∙ map-append (λ x. x.event) entries (entry ∷ [])

pub pushed-values : {T : Type 0} (entries entries' : List (Entry T)) (entry : Entry T) → entries' ≡ entries ++ entry ∷ []
    → map (λ x. x.value) entries' ≡ map (λ x. x.value) entries ++ entry.value ∷ []
pushed-values entries entries' entry items = ap (map (λ x. x.value)) items ∙ map-append (λ x. x.value) entries (entry ∷ [])

-- one entry put in the place of another
pub put-events : {T : Type 0} (entries entries' : List (Entry T)) (place : ℕ) (entry : Entry T) → entries' ≡ slice_set entries place entry
    → map (λ x. x.event) entries' ≡ slice_set (map (λ x. x.event) entries) place entry.event
put-events entries entries' place entry items = ap (map (λ x. x.event)) items ∙ map-set (λ x. x.event) entries place entry

pub put-values : {T : Type 0} (entries entries' : List (Entry T)) (place : ℕ) (entry : Entry T) → entries' ≡ slice_set entries place entry
    → map (λ x. x.value) entries' ≡ slice_set (map (λ x. x.value) entries) place entry.value
put-values entries entries' place entry items = ap (map (λ x. x.value)) items ∙ map-set (λ x. x.value) entries place entry

pub put-same_events : {T : Type 0} (entries entries' : List (Entry T)) (place : ℕ) (old entry : Entry T) → entries' ≡ slice_set entries place entry
    → old ≡ slice_index_or entries place old → entry.event ≡ old.event → map (λ x. x.event) entries' ≡ map (λ x. x.event) entries
put-same_events entries entries' place old entry items at same =
    ap (map (λ x. x.event)) items ∙ map-set_same (λ x. x.event) entries place entry old (same ∙ ap (λ x. x.event) at)

pub put-same_values : {T : Type 0} (entries entries' : List (Entry T)) (place : ℕ) (old entry : Entry T) → entries' ≡ slice_set entries place entry
    → old ≡ slice_index_or entries place old → entry.value ≡ old.value → map (λ x. x.value) entries' ≡ map (λ x. x.value) entries
put-same_values entries entries' place old entry items at same =
    ap (map (λ x. x.value)) items ∙ map-set_same (λ x. x.value) entries place entry old (same ∙ ap (λ x. x.value) at)

-- a table with the events and the high time of another stands for what that one does
pub same-stands : {T : Type 0} (t t' : Table T) (latest : Option ℤ) (standing : List Standing) → t'.last ≡ t.last → events_of t' ≡ events_of t → StandsFor t latest standing → StandsFor t' latest standing
same-stands t t' latest standing high events stands = record { high = high ∙ stands.high; events = events ∙ stands.events; within = stands.within; apart = stands.apart }

-- with no high time nothing may be armed
pub arm-line : {X T : Type 0} (t : Table T) (standing : List Standing) (e : Event) → CanArm t.last e → StandsFor t None standing → X
arm-line t standing e can stands = absurd (subst (λ h. CanArm h e) stands.high can)

-- the list with the event added behind all others
pub arm-stands : {T : Type 0} (t t' : Table T) (latest : Option ℤ) (standing : List Standing) (e : Event) → e.start < 2 ^ 33 → CanArm t.last e → StandsFor t latest standing
    → list_any (has_id e.id) standing ≡ false → list_any (meets (on_line latest e)) standing ≡ false
    → t'.last ≡ t.last → events_of t' ≡ events_of t ++ e ∷ [] → StandsFor t' latest (standing ++ on_line latest e ∷ [])
arm-stands t t' None standing e fits can stands new_id apart high items = arm-line t standing e can stands
arm-stands t t' (Some h) standing e fits can stands new_id apart high items =
    let n : Standing = on_line (Some h) e in
    let reach : IsInReach h n = armable-reach h e fits (subst (λ p. CanArm p e) stands.high can) in
    let ids = any-none (has_id e.id) standing new_id in
    let times = any-none (meets n) standing apart in
    record {
      high = high ∙ stands.high;
      events = items ∙ ap (λ xs. xs ++ e ∷ []) stands.events ∙ ap (λ x. map on_ring standing ++ x ∷ []) (sym (on_ring-on_line h e fits)) ∙ sym (map-append on_ring standing (n ∷ []));
      within = All-append (IsInReach h) standing (n ∷ []) stands.within (All-cons (IsInReach h) n [] reach (All-nil (IsInReach h)));
      apart = all_pairs_push IsApart standing n stands.apart (λ k d below. record { ids = ids k d below; times = meets-comm (slice_index_or standing k d) n ∙ times k d below });
    }

-- the event of the line that a look-up by id found, and what stands at its place on the ring
pub record Found (latest : Option ℤ) (standing : List Standing) (id : ℕ) (e : Event) : Type 0 where
  pub event : Standing
  pub is : find (has_id id) standing ≡ Some event
  pub ring : on_ring event ≡ e
  pub within : IsWithin latest event

find-id : {T : Type 0} (t : Table T) (latest : Option ℤ) (standing : List Standing) (id : ℕ) → StandsFor t latest standing
    → find (λ e. e.id == id) (events_of t) ≡ option_map on_ring (find (has_id id) standing)
find-id t latest standing id stands = rw stands.events (find-map on_ring (IsWithin latest) (λ e. e.id == id) (has_id id) (λ s _. refl) standing stands.within)

pub found : {T : Type 0} (t : Table T) (latest : Option ℤ) (standing : List Standing) (id place : ℕ) (e : Event) → StandsFor t latest standing
    → position (λ e. e.id == id) (events_of t) ≡ Some place → e ≡ slice_index_or (events_of t) place e → Found latest standing id e
found t latest standing id place e stands is at =
    from (find (has_id id) standing) refl (sym (find-id t latest standing id stands) ∙ (found-at (λ e. e.id == id) e e (events_of t) place is at).0)
  where
    from : (o : Option Standing) → find (has_id id) standing ≡ o → option_map on_ring o ≡ Some e → Found latest standing id e
    from None here is = absurd (let nothing : None ≡ Some e = is in cc)
    from (Some s) here is = record { event = s; is = here; ring = cc; within = All-find (has_id id) (IsWithin latest) s standing here stands.within }

-- the same of the place in the list of entries
pub event-place : {T : Type 0} (t : Table T) (id : ℕ) {o : Option ℕ} → position (λ entry. entry.event.id == id) t.entries.items ≡ o → position (λ e. e.id == id) (events_of t) ≡ o
event-place t id is = sym (place-entry (λ e. e.id == id) t) ∙ is

pub event-at : {T : Type 0} (t : Table T) (place : ℕ) (entry : Entry T) → entry ≡ slice_index_or t.entries.items place entry → entry.event ≡ slice_index_or (events_of t) place entry.event
event-at t place entry at = ap (λ x. x.event) at ∙ sym (get_or-map (λ x. x.event) t.entries.items place entry)

pub nothing-found : {T : Type 0} (t : Table T) (latest : Option ℤ) (standing : List Standing) (id : ℕ) → StandsFor t latest standing
    → position (λ e. e.id == id) (events_of t) ≡ None → find (has_id id) standing ≡ None
nothing-found t latest standing id stands is =
    from (find (has_id id) standing) refl (sym (find-id t latest standing id stands) ∙ not_found (λ e. e.id == id) (events_of t) is)
  where
    from : (o : Option Standing) → find (has_id id) standing ≡ o → option_map on_ring o ≡ None → find (has_id id) standing ≡ None
    from None here is = here
    from (Some s) here is = absurd (let nothing : Some (on_ring s) ≡ None = is in cc)

-- the event found, changed on the ring and on the line
pub changed-stands : {T : Type 0} (t t' : Table T) (latest : Option ℤ) (standing : List Standing) (id place : ℕ) (e e' : Event) (change : Standing → Standing) (f : Found latest standing id e)
    → StandsFor t latest standing → position (λ e. e.id == id) (events_of t) ≡ Some place → e ≡ slice_index_or (events_of t) place e
    → on_ring (change f.event) ≡ e' → IsWithin latest (change f.event)
    → ((x : Standing) → IsApart f.event x → IsApart (change f.event) x) → ((x : Standing) → IsApart x f.event → IsApart x (change f.event))
    → t'.last ≡ t.last → events_of t' ≡ slice_set (events_of t) place e' → StandsFor t' latest (with_first (has_id id) change standing)
changed-stands t t' latest standing id place e e' change f stands is at ring within after before high items =
    let one : with_first (has_id id) change standing ≡ with_first (has_id id) (λ _. change f.event) standing = with_first-found (has_id id) change f.event standing f.is in
    rw one (record {
      high = high ∙ stands.high;
      events = items ∙ (found-at (λ e. e.id == id) e' e (events_of t) place is at).1
          ∙ ap (λ xs. with_first (λ e. e.id == id) (λ _. e') xs) stands.events
          ∙ ap (λ y. with_first (λ e. e.id == id) (λ _. y) (map on_ring standing)) (sym ring)
          ∙ with_first-map on_ring (IsWithin latest) (λ e. e.id == id) (has_id id) (λ s _. refl) (change f.event) standing stands.within;
      within = All-with_first (has_id id) (IsWithin latest) (change f.event) within standing stands.within;
      apart = AllPairs-with_first (has_id id) IsApart f.event (change f.event) after before standing f.is stands.apart;
    })

has_begun-within : (latest : Option ℤ) (s : Standing) → IsWithin latest s → has_reached_on_ring (option_map ring_of latest) (ring_of s.start) ≡ has_begun latest s
has_begun-within None s nothing = absurd nothing
has_begun-within (Some h) s reach =
    rw (before-window h h s.start (high-window h) (start-window h s reach)) (not-lt h s.start)

pub reached : {T : Type 0} (t : Table T) (latest : Option ℤ) (standing : List Standing) (id : ℕ) (e : Event) (f : Found latest standing id e) → StandsFor t latest standing
    → has_reached_on_ring t.last e.start ≡ has_begun latest f.event
reached t latest standing id e f stands =
    let start : e.start ≡ ring_of f.event.start = sym (ap (λ x. x.start) f.ring) in
    rw (stands.high, start) (has_begun-within latest f.event f.within)

pub cancel-nothing : (latest : Option ℤ) (standing : List Standing) (id : ℕ) → find (has_id id) standing ≡ None → Err NoSuchEvent ≡ cancel_answer latest standing id
cancel-nothing latest standing id is = rw is refl

pub cancel-late : (latest : Option ℤ) (standing : List Standing) (id : ℕ) (s : Standing) → find (has_id id) standing ≡ Some s → has_begun latest s ≡ true → Err TooLate ≡ cancel_answer latest standing id
cancel-late latest standing id s is begun = rw (is, begun) refl

pub cancel-done : (latest : Option ℤ) (standing : List Standing) (id : ℕ) (s : Standing) → find (has_id id) standing ≡ Some s → has_begun latest s ≡ false → Ok tt ≡ cancel_answer latest standing id
cancel-done latest standing id s is begun = rw (is, begun) refl

cancelled-within : (latest : Option ℤ) (s : Standing) → IsWithin latest s → IsWithin latest (cancelled_one s)
cancelled-within None s nothing = nothing
cancelled-within (Some h) s reach = record { some = reach.some; shortened = reach.shortened; most = reach.most; start = reach.start; stands = reach.stands }

pub cancelled-stands : {T : Type 0} (t t' : Table T) (latest : Option ℤ) (standing : List Standing) (id place : ℕ) (e : Event) → StandsFor t latest standing
    → position (λ e. e.id == id) (events_of t) ≡ Some place → e ≡ slice_index_or (events_of t) place e
    → t'.last ≡ t.last → events_of t' ≡ slice_set (events_of t) place (cancelled_event e) → StandsFor t' latest (with_cancelled id standing)
cancelled-stands t t' latest standing id place e stands is at high items =
    let f = found t latest standing id place e stands is at in
    changed-stands t t' latest standing id place e (cancelled_event e) cancelled_one f stands is at
    (ap cancelled_event f.ring) (cancelled-within latest f.event f.within)
    (λ x apart. record { ids = apart.ids; times = apart.times }) (λ x apart. record { ids = apart.ids; times = apart.times }) high items

pub shorten-nothing : (latest : Option ℤ) (standing : List Standing) (id : ℕ) (time : ℤ) → find (has_id id) standing ≡ None → Err NothingToShorten ≡ shorten_answer latest standing id time
shorten-nothing latest standing id time is = rw is refl

pub shorten-far : (latest : Option ℤ) (standing : List Standing) (id : ℕ) (time : ℤ) (s : Standing) → find (has_id id) standing ≡ Some s → is_ahead_of latest time ≡ false
    → Err BadEnd ≡ shorten_answer latest standing id time
shorten-far latest standing id time s is far = rw (is, far) refl

pub shorten-cancelled : (latest : Option ℤ) (standing : List Standing) (id : ℕ) (time : ℤ) (s : Standing) → find (has_id id) standing ≡ Some s → is_ahead_of latest time ≡ true
    → s.cancelled ≡ true → Err BadEnd ≡ shorten_answer latest standing id time
shorten-cancelled latest standing id time s is ahead cancelled = rw (is, ahead, cancelled) refl

pub shorten-same : (latest : Option ℤ) (standing : List Standing) (id : ℕ) (time : ℤ) (s : Standing) → find (has_id id) standing ≡ Some s → is_ahead_of latest time ≡ true
    → s.cancelled ≡ false → int_eq time (end_of s) ≡ true → Ok Same ≡ shorten_answer latest standing id time
shorten-same latest standing id time s is ahead cancelled same = rw (is, ahead, cancelled, same) refl

pub shorten-bad : (latest : Option ℤ) (standing : List Standing) (id : ℕ) (time : ℤ) (s : Standing) → find (has_id id) standing ≡ Some s → is_ahead_of latest time ≡ true
    → s.cancelled ≡ false → int_eq time (end_of s) ≡ false → is_early_end s time ≡ false → Err BadEnd ≡ shorten_answer latest standing id time
shorten-bad latest standing id time s is ahead cancelled same early = rw (is, ahead, cancelled, same, early) refl

pub shorten-new : (latest : Option ℤ) (standing : List Standing) (id : ℕ) (time : ℤ) (s : Standing) → find (has_id id) standing ≡ Some s → is_ahead_of latest time ≡ true
    → s.cancelled ≡ false → int_eq time (end_of s) ≡ false → is_early_end s time ≡ true → Ok New ≡ shorten_answer latest standing id time
shorten-new latest standing id time s is ahead cancelled same early = rw (is, ahead, cancelled, same, early) refl

-- whether a time lies ahead of the high time, on the ring and on the line
pub is_ahead-is : (h w : ℤ) → pos 0 <ℤ w → w ≤ℤ pos (2 ^ 29) → (int_lt h (h +ℤ w) && int_le (h +ℤ w) (h +ℤ pos (2 ^ 29))) ≡ true
is_ahead-is h w above below = grind (arith, ints)

pub is_ahead-from : (h w : ℤ) → (int_lt h (h +ℤ w) && int_le (h +ℤ w) (h +ℤ pos (2 ^ 29))) ≡ true → (pos 0 <ℤ w) × (w ≤ℤ pos (2 ^ 29))
is_ahead-from h w is = (grind (arith, ints), grind (arith, ints))

pub is_ahead-line : (latest : Option ℤ) (p : ℕ) → IsAheadOf (option_map ring_of latest) p → is_ahead_of latest (place_of latest p) ≡ true
is_ahead-line None p nothing = absurd nothing
is_ahead-line (Some h) p ahead = is_ahead-is h (signed p (ring_of h)) ahead.above ahead.below

pub is_ahead-line_from : (latest : Option ℤ) (p : ℕ) → is_ahead_of latest (place_of latest p) ≡ true → IsAheadOf (option_map ring_of latest) p
is_ahead-line_from None p is = absurd (let no : false ≡ true = is in cc)
is_ahead-line_from (Some h) p is = let parts = is_ahead-from h (signed p (ring_of h)) is in record { above = parts.0; below = parts.1 }

is_ahead-told : (latest : Option ℤ) (p : ℕ) (b : Bool) → (IsTrue b ↔ IsAheadOf (option_map ring_of latest) p) → is_ahead_of latest (place_of latest p) ≡ b
is_ahead-told latest p true tells = is_ahead-line latest p (tells.0 refl)
is_ahead-told latest p false tells = told (is_ahead_of latest (place_of latest p)) refl
  where
    told : (b : Bool) → is_ahead_of latest (place_of latest p) ≡ b → b ≡ false
    told true is = let no : false ≡ true = tells.1 (is_ahead-line_from latest p is) in cc
    told false is = refl

pub ahead-told : {T : Type 0} (t : Table T) (latest : Option ℤ) (standing : List Standing) (p : ℕ) (b : Bool) → (IsTrue b ↔ IsAheadOf t.last p) → StandsFor t latest standing
    → is_ahead_of latest (place_of latest p) ≡ b
ahead-told t latest standing p b tells stands = is_ahead-told latest p b (subst (λ h. IsTrue b ↔ IsAheadOf h p) stands.high tells)

-- the end that is asked for lies ahead of the high time
ahead-window : (high : ℤ) (p : ℕ) → IsAheadOnRing (ring_of high) p → InWindow high (lift high p)
ahead-window high p ahead = let above = ahead.above in let below = ahead.below in record { low = omega (arith, ints); top = omega (arith, ints) }

same-end-within : (latest : Option ℤ) (p : ℕ) → p < 2 ^ 33 → IsAheadOf (option_map ring_of latest) p → (s : Standing) → IsWithin latest s
    → (p == ring_end (on_ring s)) ≡ int_eq (place_of latest p) (end_of s)
same-end-within None p fits nothing s within = absurd nothing
same-end-within (Some h) p fits ahead s reach = rw (ring_end-on_ring s) (same-place h p (end_of s) fits (end-window h s reach))

early-within : (latest : Option ℤ) (p : ℕ) → p < 2 ^ 33 → IsAheadOf (option_map ring_of latest) p → (s : Standing) → IsWithin latest s
    → ends_early_on_ring (on_ring s) p ≡ is_early_end s (place_of latest p)
early-within None p fits nothing s within = absurd nothing
early-within (Some h) p fits ahead s reach =
    let t : ℤ = lift h p in
    let window : InWindow h t = ahead-window h p ahead in
    let ring : ring_of t ≡ p = ring-lift h p fits in
    let way : signed (ring_of t) (ring_of s.start) ≡ t -ℤ s.start = signed-near t s.start (near-window h t s.start window (start-window h s reach)) in
    let way' : signed p (ring_of s.start) ≡ t -ℤ s.start = subst (λ r. signed r (ring_of s.start) ≡ t -ℤ s.start) ring way in
    let end : is_before_on_ring (ring_of t) (ring_of (end_of s)) ≡ int_lt t (end_of s) = before-window h t (end_of s) window (end-window h s reach) in
    let end' : is_before_on_ring p (ring_of (end_of s)) ≡ int_lt t (end_of s) = subst (λ r. is_before_on_ring r (ring_of (end_of s)) ≡ int_lt t (end_of s)) ring end in
    rw (ring_end-on_ring s, end', way') (early-by s.start t (int_lt t (end_of s)))

-- what was cut off its end is apart from what it was apart from
ending-apart : (time : ℤ) (s x : Standing) → int_lt s.start time ≡ true → int_lt time (end_of s) ≡ true → IsApart s x → IsApart (ending_at time s) x
ending-apart time s x past before apart = record { ids = apart.ids; times = meets-less s.start (end_of s) time x.start (end_of x) past before apart.times }

ending-apart_from : (time : ℤ) (s x : Standing) → int_lt s.start time ≡ true → int_lt time (end_of s) ≡ true → IsApart x s → IsApart x (ending_at time s)
ending-apart_from time s x past before apart =
    record { ids = apart.ids; times = meets-comm x (ending_at time s) ∙ meets-less s.start (end_of s) time x.start (end_of x) past before (meets-comm s x ∙ apart.times) }

ending-within : (latest : Option ℤ) (s : Standing) (time : ℤ) → IsWithin latest s → is_ahead_of latest time ≡ true → is_early_end s time ≡ true → IsWithin latest (ending_at time s)
ending-within None s time nothing ahead early = nothing
ending-within (Some h) s time reach ahead early =
    let end : end_of (ending_at time s) ≡ time = ending-end s.start time (early-parts s.start time (end_of s) early).0 in
    let parts = early-parts s.start time (end_of s) early in
    ending-reach h s time reach parts.0 (ahead-of h time ahead) parts.1

-- the new length on the line is the way on the ring
length-within : (latest : Option ℤ) (p : ℕ) → p < 2 ^ 33 → IsAheadOf (option_map ring_of latest) p → (s : Standing) → IsWithin latest s
    → unsigned_abs (place_of latest p -ℤ s.start) ≡ unsigned_abs (signed p (ring_of s.start))
length-within None p fits nothing s within = absurd nothing
length-within (Some h) p fits ahead s reach =
    let near = near-window h (lift h p) s.start (ahead-window h p ahead) (start-window h s reach) in
    let way : signed p (ring_of s.start) ≡ lift h p -ℤ s.start
    = subst (λ r. signed r (ring_of s.start) ≡ lift h p -ℤ s.start) (ring-lift h p fits) (signed-near (lift h p) s.start near) in
    ap unsigned_abs (sym way)

-- the event of the ring with this length
abbrev lasting : Event → ℕ → Event
lasting e length = record e { length = length }

pub shortened-stands : {T : Type 0} (t t' : Table T) (latest : Option ℤ) (standing : List Standing) (id place : ℕ) (e : Event) (p : ℕ) → p < 2 ^ 33 → is_ahead_of latest (place_of latest p) ≡ true → StandsFor t latest standing
    → position (λ e. e.id == id) (events_of t) ≡ Some place → e ≡ slice_index_or (events_of t) place e
    → ends_early_on_ring e p ≡ true
    → t'.last ≡ t.last → events_of t' ≡ slice_set (events_of t) place (ended_on_ring p e) → StandsFor t' latest (with_end id (place_of latest p) standing)
shortened-stands t t' latest standing id place e p fits can stands is at early high items =
    let f = found t latest standing id place e stands is at in
    let s : Standing = f.event in
    let can' : IsAheadOf (option_map ring_of latest) p = is_ahead-line_from latest p can in
    let early' : is_early_end s (place_of latest p) ≡ true
    = sym (early-within latest p fits can' s f.within) ∙ subst (λ x. ends_early_on_ring x p ≡ true) (sym f.ring) early in
    let length : unsigned_abs (place_of latest p -ℤ s.start) ≡ unsigned_abs (signed p (ring_of s.start)) = length-within latest p fits can' s f.within in
    let parts = and_parts (int_lt s.start (place_of latest p)) (int_lt (place_of latest p) (end_of s)) early' in
    changed-stands t t' latest standing id place e (ended_on_ring p e) (ending_at (place_of latest p)) f stands is at
    (ap (lasting (on_ring s)) length ∙ ap (ended_on_ring p) f.ring)
    (ending-within latest s (place_of latest p) f.within can early')
    (λ x apart. ending-apart (place_of latest p) s x parts.0 parts.1 apart)
    (λ x apart. ending-apart_from (place_of latest p) s x parts.0 parts.1 apart)
    high items

-- the answers' tests, at the event found
pub same-end : {T : Type 0} (t : Table T) (latest : Option ℤ) (standing : List Standing) (id : ℕ) (e : Event) (p : ℕ) (f : Found latest standing id e) → p < 2 ^ 33 → is_ahead_of latest (place_of latest p) ≡ true → StandsFor t latest standing
    → (p == ring_end e) ≡ int_eq (place_of latest p) (end_of f.event)
same-end t latest standing id e p f fits can stands =
    subst (λ x. (p == ring_end x) ≡ int_eq (place_of latest p) (end_of f.event)) f.ring (same-end-within latest p fits (is_ahead-line_from latest p can) f.event f.within)

pub early-end : {T : Type 0} (t : Table T) (latest : Option ℤ) (standing : List Standing) (id : ℕ) (e : Event) (p : ℕ) (f : Found latest standing id e) → p < 2 ^ 33 → is_ahead_of latest (place_of latest p) ≡ true → StandsFor t latest standing
    → ends_early_on_ring e p ≡ is_early_end f.event (place_of latest p)
early-end t latest standing id e p f fits can stands =
    subst (λ x. ends_early_on_ring x p ≡ is_early_end f.event (place_of latest p)) f.ring (early-within latest p fits (is_ahead-line_from latest p can) f.event f.within)

-- the next high time stands on the ring where it is said to, and lies in the window
pub ring-time : (latest : Option ℤ) (p : ℕ) (later : ℤ) → p < 2 ^ 33 → IsTimeAt latest p later → ring_of later ≡ p
ring-time None p later fits is = is
ring-time (Some h) p later fits is = ap ring_of is ∙ ring-lift h p fits

pub kept-within : (latest : Option ℤ) (p : ℕ) (later : ℤ) → p < 2 ^ 33 → CanAdvance (option_map ring_of latest) p → IsTimeAt latest p later → (s : Standing) → IsWithin latest s
    → is_before_on_ring p ((ring_end (on_ring s) + 900000) % 2 ^ 33) ≡ int_lt later (forgotten_at s)
kept-within None p later fits can is s nothing = absurd nothing
kept-within (Some h) p later fits can is s reach =
    let window : InWindow h later = next-window h (signed p (ring_of h)) later is can.above can.below in
    rw (ring_end-on_ring s, ring-plus (end_of s) 900000, sym (ring-time (Some h) p later fits is))
    (before-window h later (forgotten_at s) window (forgotten-window h s reach))

still-within : (latest : Option ℤ) (p : ℕ) (later : ℤ) → CanAdvance (option_map ring_of latest) p → IsTimeAt latest p later → (s : Standing) → IsWithin latest s
    → int_lt later (forgotten_at s) ≡ true → IsInReach later s
still-within None p later can is s nothing stands = absurd nothing
still-within (Some h) p later can is s reach stands = next-reach h (signed p (ring_of h)) later s is can.above reach stands

pub advanced-stands : {T : Type 0} (t t' : Table T) (latest : Option ℤ) (standing : List Standing) (p : ℕ) (later : ℤ) → p < 2 ^ 33 → CanAdvance t.last p → StandsFor t latest standing → IsTimeAt latest p later
    → t'.last ≡ Some p → events_of t' ≡ filter (λ e. is_before_on_ring p ((ring_end e + 900000) % 2 ^ 33)) (events_of t)
    → StandsFor t' (Some later) (still_standing later standing)
advanced-stands t t' latest standing p later fits can stands is high items =
    let can' : CanAdvance (option_map ring_of latest) p = subst (λ h. CanAdvance h p) stands.high can in
    let test : Standing → Bool = λ s. int_lt later (forgotten_at s) in
    let passes = filter_passes test standing in
    let within = All-filter test (IsWithin latest) standing stands.within in
    record {
      high = high ∙ ap Some (sym (ring-time latest p later fits is));
      events = items ∙ ap (filter (λ e. is_before_on_ring p ((ring_end e + 900000) % 2 ^ 33))) stands.events
          ∙ filter-map on_ring (IsWithin latest) (λ e. is_before_on_ring p ((ring_end e + 900000) % 2 ^ 33)) test (kept-within latest p later fits can' is) standing stands.within;
      within = λ k d below. still-within latest p later can' is (slice_index_or (filter test standing) k d) (within k d below) (passes k d below);
      apart = AllPairs-filter IsApart test standing stands.apart;
    }

-- where all are kept they stand as they did
pub kept-stands : {T : Type 0} (t t' : Table T) (latest : Option ℤ) (standing : List Standing) (p : ℕ) (later : ℤ) → p < 2 ^ 33 → CanAdvance t.last p → StandsFor t latest standing → IsTimeAt latest p later
    → t'.last ≡ Some p → events_of t' ≡ events_of t → still_standing later standing ≡ standing → StandsFor t' (Some later) standing
kept-stands t t' latest standing p later fits can stands is high items all =
    let can' : CanAdvance (option_map ring_of latest) p = subst (λ h. CanAdvance h p) stands.high can in
    let test : Standing → Bool = λ s. int_lt later (forgotten_at s) in
    let passes : All (λ s. test s ≡ true) standing = subst (All (λ s. test s ≡ true)) all (filter_passes test standing) in
    record {
      high = high ∙ ap Some (sym (ring-time latest p later fits is));
      events = items ∙ stands.events;
      within = λ k d below. still-within latest p later can' is (slice_index_or standing k d) (stands.within k d below) (passes k d below);
      apart = stands.apart;
    }

-- the events of the entries that are kept are those of the events that are
pub events-kept : {T : Type 0} (p : Event → Bool) (entries : List (Entry T)) → map (λ entry. entry.event) (filter (λ entry. p entry.event) entries) ≡ filter p (map (λ entry. entry.event) entries)
events-kept p entries = sym (filter-map (λ entry. entry.event) (λ _. Unit {0}) p (λ entry. p entry.event) (λ _ _. refl) entries (λ k d below. tt))

-- the values that are kept are those of the events that still stand
pub values-kept : {T : Type 0} (t : Table T) (entries' : List (Entry T)) (latest : Option ℤ) (standing : List Standing) (p : ℕ) (later : ℤ) (value : Standing → T) → p < 2 ^ 33 → CanAdvance t.last p
    → StandsFor t latest standing → IsTimeAt latest p later → values_of t ≡ map value standing
    → entries' ≡ filter (λ entry. is_before_on_ring p ((ring_end entry.event + 900000) % 2 ^ 33)) t.entries.items
    → map (λ entry. entry.value) entries' ≡ map value (still_standing later standing)
values-kept {T} t entries' latest standing p later value fits can stands is values items =
    let can' : CanAdvance (option_map ring_of latest) p = subst (λ h. CanAdvance h p) stands.high can in
    let entry_of : Standing → Entry T = λ s. record { event = on_ring s; value = value s } in
    let all : t.entries.items ≡ map entry_of standing
    = map-joined (λ entry. entry.event) (λ entry. entry.value) on_ring value entry_of (λ entry s event value. record-of entry s event value) t.entries.items standing stands.events values in
    ap (map (λ entry. entry.value)) (items ∙ ap (filter (λ entry. is_before_on_ring p ((ring_end entry.event + 900000) % 2 ^ 33))) all
    ∙ filter-map entry_of (IsWithin latest) (λ entry. is_before_on_ring p ((ring_end entry.event + 900000) % 2 ^ 33)) (λ s. int_lt later (forgotten_at s)) (kept-within latest p later fits can' is) standing stands.within)
    ∙ map-map entry_of (λ entry. entry.value) (still_standing later standing)
  where
    record-of : (entry : Entry T) (s : Standing) → entry.event ≡ on_ring s → entry.value ≡ value s → entry ≡ record { event = on_ring s; value = value s }
    record-of entry s event_is value_is = let build : Event → T → Entry T = λ e v. record { event = e; value = v } in ap (λ e. build e entry.value) event_is ∙ ap (build (on_ring s)) value_is

-- and so are those that stand beside the events in pairs
pub pairs-kept : {T : Type 0} (t : Table T) (entries' : List (Entry T)) (latest : Option ℤ) (pairs : List (Standing × T)) (p : ℕ) (later : ℤ) → p < 2 ^ 33 → CanAdvance t.last p
    → StandsFor t latest (map (λ x. x.0) pairs) → IsTimeAt latest p later → values_of t ≡ map (λ x. x.1) pairs
    → entries' ≡ filter (λ entry. is_before_on_ring p ((ring_end entry.event + 900000) % 2 ^ 33)) t.entries.items
    → map (λ entry. entry.value) entries' ≡ map (λ x. x.1) (filter (λ x. int_lt later (forgotten_at x.0)) pairs)
pairs-kept {T} t entries' latest pairs p later fits can stands is values items =
    let can' : CanAdvance (option_map ring_of latest) p = subst (λ h. CanAdvance h p) stands.high can in
    let first : Standing × T → Standing = λ x. x.0 in
    let second : Standing × T → T = λ x. x.1 in
    let entry_of : Standing × T → Entry T = λ x. record { event = on_ring x.0; value = x.1 } in
    let events_are : map (λ entry. entry.event) t.entries.items ≡ map (λ (x : Standing × T). on_ring x.0) pairs = stands.events ∙ map-map first on_ring pairs in
    let all : t.entries.items ≡ map entry_of pairs
    = map-joined (λ entry. entry.event) (λ entry. entry.value) (λ (x : Standing × T). on_ring x.0) second entry_of (λ entry s event value. record-of entry s event value) t.entries.items pairs events_are values in
    ap (map (λ entry. entry.value)) (items ∙ ap (filter (λ entry. is_before_on_ring p ((ring_end entry.event + 900000) % 2 ^ 33))) all
    ∙ filter-map entry_of (λ x. IsWithin latest x.0) (λ entry. is_before_on_ring p ((ring_end entry.event + 900000) % 2 ^ 33)) (λ x. int_lt later (forgotten_at x.0)) (λ x w. kept-within latest p later fits can' is x.0 w) pairs (within pairs stands.within))
    ∙ map-map entry_of (λ entry. entry.value) (filter (λ x. int_lt later (forgotten_at x.0)) pairs)
  where
    record-of : (entry : Entry T) (s : Standing × T) → entry.event ≡ on_ring s.0 → entry.value ≡ s.1 → entry ≡ record { event = on_ring s.0; value = s.1 }
    record-of entry s event_is value_is = let build : Event → T → Entry T = λ e v. record { event = e; value = v } in ap (λ e. build e entry.value) event_is ∙ ap (build (on_ring s.0)) value_is

    within : (pairs : List (Standing × T)) → All (IsWithin latest) (map (λ x. x.0) pairs) → All (λ (x : Standing × T). IsWithin latest x.0) pairs
    within [] all = All-nil (λ (x : Standing × T). IsWithin latest x.0)
    within (x ∷ xs) all = All-cons (λ (y : Standing × T). IsWithin latest y.0) x xs (All-head (IsWithin latest) x.0 (map (λ y. y.0) xs) all) (within xs (All-tail (IsWithin latest) x.0 (map (λ y. y.0) xs) all))
