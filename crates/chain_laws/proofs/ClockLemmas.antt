-- The clock references of the switched streams of the output.
use Rattle.std.proofs.Common.{◌≡◌, ℕ, zero, suc, ◌+◌, ◌-◌, ◌/◌, ◌%◌, ◌<◌, ◌==◌, List, [], ◌∷◌, ◌++◌, Bool, true, false, not, ◌&&◌, ◌||◌, refl, sym, ap, ◌∙◌, subst, Option, None, Some, if◌then◌else◌, length, take, drop, reverse, slice_index, arith}
use Rattle.std.specs.Prelude.{filter, nat_le}
use Rattle.std.specs.List.{AllByRecursion}
use Rattle.std.proofs.lemmas.List.{reverse-reverse}
use Rattle.ts_packet.specs.Fields.{on, pcr, pid_of, in_error, adaptation_control, adaptation_length, on_one, is_among}
use Rattle.ts_packet.proofs.Cases.{by_test}
use Rattle.ts_packet.proofs.RunLemmas.{filter-reverse}
use Rattle.unit_packing.specs.Packing.{room, field, unit_packet, later_unit_packets}
use Rattle.unit_packing.proofs.SaidLemmas.{flags_clock}
use Rattle.psi_tables.specs.declared.config.Config.{Config}
use Rattle.ad_library.specs.Advertisements.{Advertisement}
use Rattle.injector.specs.Steps.{Step, packets_in, cued}
use Rattle.splice_laws.specs.Splicing.{SliceUnit}
use Rattle.splice_plans.specs.Adverts.{packed_units, setting_of}
use Rattle.splice_plans.specs.Switching.{Setting, switched_at, spliced_network}
use Rattle.switch_laws.specs.Laws.{ArePackets}
use Rattle.splice_plans.specs.Known.{adverts_at}
use Rattle.switch_laws.specs.Whole.{HavePids, TablesAreApart}
use Rattle.switch_laws.specs.Clocks.{listed_clock, clock_on, clocks, HasNoClock, HaveNoClocks}
use Rattle.switch_laws.proofs.ClockLemmas.{clocks_stay}
use Rattle.switch_laws.proofs.StreamLemmas.{all-reversed}
use Rattle.path_laws.proofs.Thinned.{next-below}
use Rattle.chain_laws.specs.Runs.{network_of, switched_by, output_by, IsWholeRun}
use Rattle.chain_laws.specs.Clocks.{ClocksAreTheNetworks, UnitsHaveNoClocks}
use Rattle.chain_laws.proofs.RunLemmas.{cued-long, cued-pids}
use Rattle.chain_laws.proofs.CarriedLemmas.{same-switched, same-all, apart, off-one}

-- ---- the packets of units have none

no-flag : (error field long flag : Bool) (o : List ℕ) → (field && (long && flag)) ≡ false → (if (not error && (field && long)) && flag then Some o else None) ≡ None
no-flag true field long flag o h = refl
no-flag false true true flag o h = ap (λ b. if b then Some o else None) h
no-flag false true false flag o h = refl
no-flag false false long flag o h = refl

full-bare : (a b d n : ℕ) (part : List ℕ) → n < 16 → pcr (a ∷ b ∷ d ∷ (16 + n) ∷ part) ≡ None
unfolding pcr
full-bare a b d n part h =
    let p = a ∷ b ∷ d ∷ (16 + n) ∷ part in
    let control : (16 + n) / 16 % 4 ≡ 1 = omega (arith, h) in
    no-flag (in_error p) (adaptation_control p == 2 || adaptation_control p == 3) (nat_le 7 (adaptation_length p)) (slice_index p 5 / 16 % 2 == 1) (take 6 (drop 6 p)) (rw control refl)

stuffed-bare : (a b d x l : ℕ) (access : Bool) (part : List ℕ) → pcr (a ∷ b ∷ d ∷ x ∷ l ∷ (field access l ++ part)) ≡ None
unfolding pcr
stuffed-bare a b d x l access part =
    let p = a ∷ b ∷ d ∷ x ∷ l ∷ (field access l ++ part) in
    no-flag (in_error p) (adaptation_control p == 2 || adaptation_control p == 3) (nat_le 7 l) (slice_index p 5 / 16 % 2 == 1) (take 6 (drop 6 p))
    (within (adaptation_control p == 2 || adaptation_control p == 3) _ (flags_clock access l part))
  where
    within : (a b : Bool) → b ≡ false → (a && b) ≡ false
    within true b h = h
    within false b h = refl

unit-bare : (pid n : ℕ) (start access : Bool) (part : List ℕ) → n < 16 → pcr (unit_packet pid n start access part) ≡ None
unfolding unit_packet
unit-bare pid n start access part h = by_test (length part == 184)
    (λ y. simp y (full-bare 71 (pid / 256 + (if start then 64 else 0)) (pid % 256) n part h))
    (λ e. simp e (stuffed-bare 71 (pid / 256 + (if start then 64 else 0)) (pid % 256) (48 + n) (183 - length part) access part))

later-bare : (count pid n : ℕ) (bs : List ℕ) → n < 16 → AllByRecursion HasNoClock (later_unit_packets count pid n bs)
later-bare zero pid n bs h = tt
later-bare (suc count) pid n bs h = (unit-bare pid n false false (take 184 bs) h, later-bare count pid ((n + 1) % 16) (drop 184 bs) (next-below n))

each-bare : (pid : ℕ) (us : List SliceUnit) → AllByRecursion (λ (u : SliceUnit). (n : ℕ) → n < 16 → AllByRecursion HasNoClock (packed_units pid u n)) us
each-bare pid [] = tt
each-bare pid (u ∷ us) = (
  λ n h. (unit-bare pid n true u.random_access (take (room u.random_access) u.payload) h, later-bare _ pid ((n + 1) % 16) (drop (room u.random_access) u.payload) (next-below n)),
  each-bare pid us,
)

pub units_have_no_clocks : UnitsHaveNoClocks
units_have_no_clocks ads e pid = each-bare pid (ads.units e pid)

-- ---- a law of a whole network, of the packets newest first

clocks-at : (k : Setting) (back : List (List ℕ)) → TablesAreApart k back → HaveNoClocks k.packed (adverts_at k back) → ArePackets (reverse back) → HavePids (reverse back) → (pid : ℕ) → is_among pid (switched_at k back) ≡ true →
    clocks pid (spliced_network k (reverse back)) ≡ clocks pid (reverse back)
clocks-at k back =
    subst (λ past. TablesAreApart k past → HaveNoClocks k.packed (adverts_at k past) → ArePackets (reverse back) → HavePids (reverse back) → (pid : ℕ) → is_among pid (switched_at k past) ≡ true →
    clocks pid (spliced_network k (reverse back)) ≡ clocks pid (reverse back)) (reverse-reverse back) (λ a n l h pid o. clocks_stay k (reverse back) a n l h pid o)

-- ---- a whole run

-- packets of other PIDs have none of its references
clocks-within : (taken : List ℕ → Bool) (pid : ℕ) → ((q : List ℕ) → taken q ≡ false → on pid q ≡ false) → (ps : List (List ℕ)) → clocks pid (filter taken ps) ≡ clocks pid ps
clocks-within taken pid off [] = refl
clocks-within taken pid off (p ∷ ps) = by_test (taken p)
    (λ y. simp y (ap (λ l. clock_on pid p ++ l) (clocks-within taken pid off ps)))
    (λ n. simp n (clocks-within taken pid off ps ∙ ap (λ b. (if b then listed_clock (pcr p) else []) ++ clocks pid ps) (sym (off p n))))

module _ (c : Config) (filed : ℕ → Option Advertisement) (steps : List Step) (w : IsWholeRun c filed steps) (pid : ℕ) (a : is_among pid (switched_by c steps) ≡ true) where
  abbrev taken : List ℕ → Bool
  taken = on_one (switched_by c steps)

  -- of the switched streams' packets alone
  of-taken : (back : List (List ℕ)) → clocks pid (reverse back) ≡ clocks pid (reverse (filter (on_one (switched_by c steps)) back))
  of-taken back =
      sym (clocks-within taken pid (λ q n. off-one (switched_by c steps) pid q a n) (reverse back))
      ∙ ap (clocks pid) (filter-reverse taken back)

  pub clocks-same : clocks pid (output_by c filed steps) ≡ clocks pid (network_of steps)
  clocks-same =
      let back = cued c steps in
      let k = setting_of c filed in
      clocks-at k back (apart c filed steps w) (units_have_no_clocks (adverts_at k back))
      (all-reversed (λ (p : List ℕ). length p ≡ 188) back (cued-long c steps w.run w.long)) (all-reversed (λ (p : List ℕ). pid_of p < 8192) back (cued-pids c steps w.run))
      pid (ap (is_among pid) (same-switched c filed steps w) ∙ a)
      ∙ of-taken back
      ∙ ap (λ ps. clocks pid (reverse ps)) (same-all c filed steps w)
      ∙ sym (of-taken (packets_in steps))

pub clocks_are_the_networks : ClocksAreTheNetworks
clocks_are_the_networks c filed steps w pid a = clocks-same c filed steps w pid a
