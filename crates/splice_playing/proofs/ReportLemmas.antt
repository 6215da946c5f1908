-- Events counted one by one.
use Rattle.std.proofs.Common.{◌≡◌, ℕ, zero, suc, ◌+◌, ◌^◌, ◌%◌, ◌<◌, ◌≤◌, refl, sym, ap, ◌∙◌, subst, arith, List, [], ◌∷◌, length, take, Bool, true, false, not, ◌&&◌}
use Rattle.std.specs.Prelude.{ℤ, Option, slice_index_or, count_by}
use Rattle.std.proofs.lemmas.List.{get_or_default, length-map, take_all}
use Rattle.std.proofs.lemmas.List.Sums.{count_by_more_yes, count_by_more_no}
use Rattle.psi_section.specs.Assembling.{capped}
use Rattle.event_table.specs.declared.event.Event.{Event}
use Rattle.event_table.specs.declared.table.Entry.{Entry}
use Rattle.event_table.specs.declared.table.Table.{Table}
use Rattle.event_table.specs.Standing.{Standing, on_ring, IsTimeAt, IsWithin}
use Rattle.event_table.specs.Events.{ring_end}
use Rattle.event_table.specs.Rings.{CanAdvance, is_before_on_ring}
use Rattle.event_table.specs.Tables.{StandsFor, high_time_of, values_of}
use Rattle.event_table.proofs.TableLemmas.{length-entries, kept-within}
use Rattle.splice_plans.specs.declared.plan.Plan.{Plan}
use Rattle.splice_plans.specs.declared.report.SwitchReport.{SwitchReport}
use Rattle.splice_plans.specs.Playing.{Adverts, is_played}
use Rattle.splice_plans.specs.Parts.{beside, no_entry, no_standing}
use Rattle.event_table.specs.Counting.{one_if}
use Rattle.splice_plans.specs.Reporting.{EventCounts, ReportIs, with_one, with_counted, is_not_fitted, is_out_at}
use Rattle.splice_plans.proofs.TurnLemmas.{event-there, within-there}

abbrev pub no_pair : Standing × Plan
no_pair = (no_standing, no_entry.value)

pair-at : (es : List Standing) (plans : List Plan) (at : ℕ) → at < length es → length es ≡ length plans
    → slice_index_or (beside es plans) at no_pair ≡ (slice_index_or es at no_standing, slice_index_or plans at no_entry.value)
pair-at [] plans at below same = absurd (omega (arith, below))
pair-at (e ∷ es) [] at below same = absurd (omega (arith, same))
pair-at (e ∷ es) (p ∷ plans) zero below same = refl
pair-at (e ∷ es) (p ∷ plans) (suc at) below same = pair-at es plans at (omega (arith, below)) (omega (arith, same))

pair-count : (es : List Standing) (plans : List Plan) → length es ≡ length plans → length (beside es plans) ≡ length es
pair-count [] plans same = refl
pair-count (e ∷ es) [] same = absurd (omega (arith, same))
pair-count (e ∷ es) (p ∷ plans) same = ap suc (pair-count es plans (omega (arith, same)))

count-more : (test : Standing × Plan → Bool) (xs : List (Standing × Plan)) (at : ℕ) → at < length xs
    → count_by test (take (at + 1) xs) ≡ one_if (test (slice_index_or xs at no_pair)) + count_by test (take at xs)
count-more test xs at below = by (test (slice_index_or xs at no_pair)) refl
  where
    by : (b : Bool) → test (slice_index_or xs at no_pair) ≡ b → count_by test (take (at + 1) xs) ≡ one_if (test (slice_index_or xs at no_pair)) + count_by test (take at xs)
    by true h = let more = count_by_more_yes test xs at no_pair below h in rw h (omega (arith, more))
    by false h = let more = count_by_more_no test xs at no_pair below h in rw h (omega (arith, more))

sum-more : (a b m n k : ℕ) → m ≡ a + n → b ≡ a → b + (n + k) ≡ m + k
sum-more a b m n k h is = omega (arith, h, is)

sum-same : (a m n k : ℕ) → m ≡ a + n → a ≡ 0 → n + k ≡ m + k
sum-same a m n k h is = omega (arith, h, is)

module _ (takes : Standing → Bool) (ads : Adverts) (xs : List (Standing × Plan)) (c : EventCounts) (at : ℕ) (below : at < length xs) (report : SwitchReport) where
  abbrev here : Standing × Plan
  here = slice_index_or xs at no_pair

  taken : (b : Bool) → takes here.0 ≡ true → one_if b ≡ one_if (takes here.0 && b)
  taken b h = rw h refl

  left : (b : Bool) → takes here.0 ≡ false → one_if (takes here.0 && b) ≡ 0
  left b h = rw h refl

  pub one-more : takes here.0 ≡ true → ReportIs report (with_one here.0.cancelled (ads.fits here.0) here.1.is_crossed (with_counted takes ads (take at xs) c)) → ReportIs report (with_counted takes ads (take (at + 1) xs) c)
  one-more h r = record {
    played = r.played ∙ ap capped (sum-more _ _ _ _ c.played (count-more (λ x. takes x.0 && is_played ads x.0) xs at below) (taken _ h));
    not_fitted = r.not_fitted ∙ ap capped (sum-more _ _ _ _ c.not_fitted (count-more (λ x. takes x.0 && is_not_fitted ads x.0) xs at below) (taken _ h));
    unconditioned = r.unconditioned ∙ ap capped (sum-more _ _ _ _ c.unconditioned (count-more (λ x. takes x.0 && (is_played ads x.0 && x.1.is_crossed)) xs at below) (taken _ h));
    ignored = r.ignored;
  }

  pub none-more : takes here.0 ≡ false → ReportIs report (with_counted takes ads (take at xs) c) → ReportIs report (with_counted takes ads (take (at + 1) xs) c)
  none-more h r = record {
    played = r.played ∙ ap capped (sum-same _ _ _ c.played (count-more (λ x. takes x.0 && is_played ads x.0) xs at below) (left _ h));
    not_fitted = r.not_fitted ∙ ap capped (sum-same _ _ _ c.not_fitted (count-more (λ x. takes x.0 && is_not_fitted ads x.0) xs at below) (left _ h));
    unconditioned = r.unconditioned ∙ ap capped (sum-same _ _ _ c.unconditioned (count-more (λ x. takes x.0 && (is_played ads x.0 && x.1.is_crossed)) xs at below) (left _ h));
    ignored = r.ignored;
  }

-- the event at a place of a table, and its plan
module _ (t : Table Plan) (latest : Option ℤ) (es : List Standing) (s : StandsFor t latest es) where
  abbrev pub pairs : List (Standing × Plan)
  pairs = beside es (values_of t)

  same-size : length es ≡ length (values_of t)
  same-size = sym (length-map t.entries.items (λ (x : Entry Plan). x.value) ∙ length-entries t latest es s)

  pub pairs-size : length pairs ≡ length t.entries.items
  pairs-size = pair-count es (values_of t) same-size ∙ sym (length-entries t latest es s)

  pub all-pairs : (at : ℕ) → length t.entries.items ≤ at → take at pairs ≡ pairs
  all-pairs at h = let n = pairs-size in take_all at pairs (omega (arith, n, h))

  module _ (at : ℕ) (below : at < length t.entries.items) (entry : Entry Plan) (there : entry ≡ slice_index_or t.entries.items at entry) where
    pub in-pairs : at < length pairs
    in-pairs = let n = pairs-size in omega (arith, n, below)

    abbrev pub pair : Standing × Plan
    pair = slice_index_or pairs at no_pair

    pair-is : pair ≡ (slice_index_or es at no_standing, slice_index_or (values_of t) at no_entry.value)
    pair-is = let n = length-entries t latest es s in pair-at es (values_of t) at (omega (arith, n, below)) same-size

    entry-is : entry ≡ slice_index_or t.entries.items at no_entry
    entry-is = there ∙ get_or_default t.entries.items at entry no_entry below

    pub event-is : entry.event ≡ on_ring pair.0
    event-is = ap (λ (x : Entry Plan). x.event) entry-is ∙ event-there t latest es s at below ∙ ap (λ (x : Standing × Plan). on_ring x.0) (sym pair-is)

    pub value-is : entry.value ≡ pair.1
    value-is =
        ap (λ (x : Entry Plan). x.value) entry-is ∙ sym (Rattle.std.proofs.Math.ListN.get_or-map (λ (y : Entry Plan). y.value) t.entries.items at no_entry)
        ∙ ap (λ (x : Standing × Plan). x.1) (sym pair-is)

pub one-same : (a a' b b' d d' : Bool) (c : EventCounts) → a ≡ a' → b ≡ b' → d ≡ d' → with_one a b d c ≡ with_one a' b' d' c
one-same a a' b b' d d' c h k m = ap (λ x. with_one x b d c) h ∙ ap (λ x. with_one a' x d c) k ∙ ap (λ x. with_one a' b' x c) m

-- ---- those that are forgotten

module _ (t : Table Plan) (latest : Option ℤ) (es : List Standing) (s : StandsFor t latest es) (p : ℕ) (later : ℤ) (fits : p < 2 ^ 33) (can : CanAdvance (high_time_of t) p) (is : IsTimeAt latest p later)
    (at : ℕ) (below : at < length t.entries.items) (entry : Entry Plan) (there : entry ≡ slice_index_or t.entries.items at entry) where
  pair-within : IsWithin latest (pair t latest es s at below entry there).0
  pair-within = subst (λ (x : Standing × Plan). IsWithin latest x.0) (sym (pair-is t latest es s at below entry there)) (within-there t latest es s at below)

  pub out-is : not (is_before_on_ring p ((ring_end entry.event + 900000) % 2 ^ 33)) ≡ is_out_at later (pair t latest es s at below entry there).0
  out-is =
      ap (λ (e : Event). not (is_before_on_ring p ((ring_end e + 900000) % 2 ^ 33))) (event-is t latest es s at below entry there)
      ∙ ap not (kept-within latest p later fits (subst (λ h. CanAdvance h p) s.high can) is (pair t latest es s at below entry there).0 pair-within)
