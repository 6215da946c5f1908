-- The plans beside the events, turned one by one.
use Rattle.std.proofs.Common.{◌≡◌, ℕ, zero, suc, ◌+◌, ◌<◌, ◌≤◌, refl, sym, ap, ◌∙◌, arith, List, [], ◌∷◌, ◌++◌, length, take, drop, add-one}
use Rattle.std.specs.Prelude.{ℤ, Option, slice_index_or, slice_set, map}
use Rattle.std.proofs.lemmas.List.{get_or_default, length-map, set-get_or}
use Rattle.event_table.specs.declared.table.Entry.{Entry}
use Rattle.event_table.specs.Standing.{Standing, on_ring, IsWithin}
use Rattle.event_table.specs.Tables.{StandsFor, values_of}
use Rattle.event_table.proofs.TableLemmas.{length-entries, same-stands}
use Rattle.armed_events.specs.declared.obeying.ArmedEvents.{ArmedEvents}
use Rattle.pes_time.specs.Line.{place}
use Rattle.splice_plans.specs.declared.plan.Plan.{Plan}
use Rattle.splice_plans.specs.Playing.{Adverts, is_played}
use Rattle.splice_plans.specs.Turning.{IsNearHigh, plan_turned}
use Rattle.splice_plans.specs.Parts.{KeepsEvents, all_turned, no_entry, no_standing}
use Rattle.splice_plans.proofs.TurnLemmas.{event-there, within-there}

-- ---- lists changed up to a place

module _ {X : Type 0} where
  set-mixed-suc : (new old : List X) (at : ℕ) (x : X) → at < length new → length new ≡ length old → x ≡ slice_index_or new at x → slice_set (take at new ++ drop at old) at x ≡ take (suc at) new ++ drop (suc at) old
  set-mixed-suc [] old at x h same is = absurd (omega (arith, h))
  set-mixed-suc (a ∷ new) [] at x h same is = absurd (omega (arith, same))
  set-mixed-suc (a ∷ new) (b ∷ old) zero x h same is = ap (λ y. y ∷ old) is
  set-mixed-suc (a ∷ new) (b ∷ old) (suc at) x h same is = ap (λ l. a ∷ l) (set-mixed-suc new old at x (omega (arith, h)) (omega (arith, same)) is)

  pub set-mixed : (new old : List X) (at : ℕ) (x : X) → at < length new → length new ≡ length old → x ≡ slice_index_or new at x → slice_set (take at new ++ drop at old) at x ≡ take (at + 1) new ++ drop (at + 1) old
  set-mixed new old at x h same is = set-mixed-suc new old at x h same is ∙ ap (λ n. take n new ++ drop n old) (sym (add-one at))

  pub get-mixed : (new old : List X) (at : ℕ) (d : X) → at < length new → length new ≡ length old → slice_index_or (take at new ++ drop at old) at d ≡ slice_index_or old at d
  get-mixed [] old at d h same = absurd (omega (arith, h))
  get-mixed (a ∷ new) [] at d h same = absurd (omega (arith, same))
  get-mixed (a ∷ new) (b ∷ old) zero d h same = refl
  get-mixed (a ∷ new) (b ∷ old) (suc at) d h same = get-mixed new old at d (omega (arith, h)) (omega (arith, same))

  pub all-mixed : (new old : List X) (at : ℕ) → length new ≤ at → length new ≡ length old → take at new ++ drop at old ≡ new
  all-mixed [] [] zero h same = refl
  all-mixed [] [] (suc at) h same = refl
  all-mixed [] (b ∷ old) at h same = absurd (omega (arith, same))
  all-mixed (a ∷ new) [] at h same = absurd (omega (arith, same))
  all-mixed (a ∷ new) (b ∷ old) zero h same = absurd (omega (arith, h))
  all-mixed (a ∷ new) (b ∷ old) (suc at) h same = ap (λ l. a ∷ l) (all-mixed new old at (omega (arith, h)) (omega (arith, same)))

-- ---- the plans

module _ (ads : Adverts) (stream : ℕ) (t : ℤ) where
  length-turned : (es : List Standing) (plans : List Plan) → length es ≡ length plans → length (all_turned ads stream t es plans) ≡ length plans
  length-turned [] [] h = refl
  length-turned [] (p ∷ plans) h = absurd (omega (arith, h))
  length-turned (e ∷ es) [] h = absurd (omega (arith, h))
  length-turned (e ∷ es) (p ∷ plans) h = ap suc (length-turned es plans (omega (arith, h)))

  turned-at : (es : List Standing) (plans : List Plan) (at : ℕ) (d : Plan) → at < length es → length es ≡ length plans
      → slice_index_or (all_turned ads stream t es plans) at d ≡ plan_turned (slice_index_or es at no_standing) t (is_played ads (slice_index_or es at no_standing)) stream (slice_index_or plans at no_entry.value)
  turned-at [] plans at d h same = absurd (omega (arith, h))
  turned-at (e ∷ es) [] at d h same = absurd (omega (arith, same))
  turned-at (e ∷ es) (p ∷ plans) zero d h same = refl
  turned-at (e ∷ es) (p ∷ plans) (suc at) d h same = turned-at es plans at d (omega (arith, h)) (omega (arith, same))

value-at : (xs : List (Entry Plan)) (i : ℕ) → slice_index_or (map (λ (x : Entry Plan). x.value) xs) i no_entry.value ≡ (slice_index_or xs i no_entry).value
value-at xs i = Rattle.std.proofs.Math.ListN.get_or-map (λ (x : Entry Plan). x.value) xs i no_entry

-- one more plan is turned
module _ (ads : Adverts) (stream time at : ℕ) (old now : ArmedEvents Plan) (keeps : KeepsEvents old now) (entry : Entry Plan) (plan : Plan)
    (below : at < length now.obeyed.table.entries.items) (there : entry ≡ slice_index_or now.obeyed.table.entries.items at entry)
    (plan_is : (latest : Option ℤ) (e : Standing) → entry.event ≡ on_ring e → IsWithin latest e → IsNearHigh latest (place latest time) → plan ≡ plan_turned e (place latest time) (is_played ads e) stream entry.value)
    (latest : Option ℤ) (es : List Standing) (s : StandsFor old.obeyed.table latest es) (near : IsNearHigh latest (place latest time)) where
  abbrev before : List Plan
  before = values_of old.obeyed.table

  abbrev turned : List Plan
  turned = all_turned ads stream (place latest time) es before

  stands : StandsFor now.obeyed.table latest es
  stands = same-stands old.obeyed.table now.obeyed.table latest es keeps.high keeps.events s

  sizes : length es ≡ length before
  sizes = sym (length-map old.obeyed.table.entries.items (λ (x : Entry Plan). x.value) ∙ length-entries old.obeyed.table latest es s)

  within : at < length es
  within = let n = length-entries now.obeyed.table latest es stands in omega (arith, n, below)

  entry-is : entry ≡ slice_index_or now.obeyed.table.entries.items at no_entry
  entry-is = there ∙ get_or_default now.obeyed.table.entries.items at entry no_entry below

  event-is : entry.event ≡ on_ring (slice_index_or es at no_standing)
  event-is = ap (λ (x : Entry Plan). x.event) entry-is ∙ event-there now.obeyed.table latest es stands at below

  pub one-turned : (so_far : values_of now.obeyed.table ≡ take at turned ++ drop at before) → slice_set (values_of now.obeyed.table) at plan ≡ take (at + 1) turned ++ drop (at + 1) before
  one-turned so_far =
      let n = length-turned ads stream (place latest time) es before sizes in
      let in_turned : at < length turned = let w = within in let z = sizes in omega (arith, n, w, z) in
      let value : entry.value ≡ slice_index_or before at no_entry.value
      = ap (λ (x : Entry Plan). x.value) entry-is ∙ sym (value-at now.obeyed.table.entries.items at) ∙ ap (λ vs. slice_index_or vs at no_entry.value) so_far
      ∙ get-mixed turned before at no_entry.value in_turned n in
      let e = slice_index_or es at no_standing in
      let is : plan ≡ slice_index_or turned at plan
      = plan_is latest e event-is (within-there now.obeyed.table latest es stands at below) near
      ∙ ap (plan_turned e (place latest time) (is_played ads e) stream) value
      ∙ sym (turned-at ads stream (place latest time) es before at plan within sizes) in
      ap (λ vs. slice_set vs at plan) so_far ∙ set-mixed turned before at plan in_turned n is

  -- one that stays is turned as it is
  pub one-stays : plan ≡ entry.value → (so_far : values_of now.obeyed.table ≡ take at turned ++ drop at before) → values_of now.obeyed.table ≡ take (at + 1) turned ++ drop (at + 1) before
  one-stays same so_far =
      let d = no_entry.value in
      let size : at < length (values_of now.obeyed.table) = let n = length-map now.obeyed.table.entries.items (λ (x : Entry Plan). x.value) in omega (arith, below, n) in
      let here : plan ≡ slice_index_or (values_of now.obeyed.table) at d
      = same ∙ ap (λ (x : Entry Plan). x.value) entry-is ∙ sym (value-at now.obeyed.table.entries.items at) in
      sym (ap (slice_set (values_of now.obeyed.table) at) here ∙ set-get_or (values_of now.obeyed.table) at d) ∙ one-turned so_far

pub keeps-more : (old now new : ArmedEvents Plan) → KeepsEvents old now → KeepsEvents now new → KeepsEvents old new
keeps-more old now new h k = record {
  obeys = λ pid high past o. k.obeys pid high past (h.obeys pid high past o);
  events = k.events ∙ h.events;
  high = k.high ∙ h.high;
  assembler = k.assembler ∙ h.assembler;
}

pub all-turned : (ads : Adverts) (stream at : ℕ) (t : ℤ) (old now : ArmedEvents Plan) (latest : Option ℤ) (es : List Standing) → StandsFor old.obeyed.table latest es → length old.obeyed.table.entries.items ≤ at
    → values_of now.obeyed.table ≡ take at (all_turned ads stream t es (values_of old.obeyed.table)) ++ drop at (values_of old.obeyed.table)
    → values_of now.obeyed.table ≡ all_turned ads stream t es (values_of old.obeyed.table)
all-turned ads stream at t old now latest es s all so_far =
    let values = length-map old.obeyed.table.entries.items (λ (x : Entry Plan). x.value) in
    let sizes : length es ≡ length (values_of old.obeyed.table) = sym (values ∙ length-entries old.obeyed.table latest es s) in
    let n = length-turned ads stream t es (values_of old.obeyed.table) sizes in
    so_far ∙ all-mixed (all_turned ads stream t es (values_of old.obeyed.table)) (values_of old.obeyed.table) at (omega (arith, n, values, all)) n

pub keeps-size : (old now : ArmedEvents Plan) → KeepsEvents old now → length old.obeyed.table.entries.items ≡ length now.obeyed.table.entries.items
keeps-size old now k =
    sym (length-map old.obeyed.table.entries.items (λ (x : Entry Plan). x.event)) ∙ sym (ap length k.events) ∙ length-map now.obeyed.table.entries.items (λ (x : Entry Plan). x.event)
