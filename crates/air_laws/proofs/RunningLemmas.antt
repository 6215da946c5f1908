-- A break is over in a stream by the packets of switched streams alone; and what was known of it at each packet says so of the accepted one.
use Rattle.std.proofs.Common.{◌≡◌, ℕ, List, [], ◌∷◌, Bool, true, false, not, ◌&&◌, ◌||◌, refl, sym, ap, subst, ◌∙◌, Option, None, Some, inl, inr}
use Rattle.std.specs.Prelude.{filter, is_some, Contains}
use Rattle.std.specs.List.{AllByRecursion}
use Rattle.std.proofs.Math.Bool.{or-false}
use Rattle.std.proofs.lemmas.Bool.{true≢false}
use Rattle.std.proofs.lemmas.List.Elements.{recursion_from_All}
use Rattle.ts_packet.specs.Fields.{payload_on, unit_start, is_among, on_one}
use Rattle.ts_packet.specs.Duplicates.{repeats}
use Rattle.ts_packet.specs.Membership.{In}
use Rattle.ts_packet.proofs.Cases.{by_test}
use Rattle.unit_stream.specs.Times.{begins, unit_time}
use Rattle.event_table.specs.Standing.{Standing}
use Rattle.psi_tables.specs.declared.config.Config.{Config}
use Rattle.program_follower.specs.Program.{Program, program_of, pids_of}
use Rattle.program_laws.specs.Behind.{TakesAll}
use Rattle.program_laws.proofs.UnitLemmas.{others_are_no_units}
use Rattle.ad_library.specs.Advertisements.{Advertisement}
use Rattle.injector.specs.Steps.{Step, cued}
use Rattle.splice_laws.specs.Splicing.{PlayedEvent, TimedStream, stream, holds, begun, closed}
use Rattle.splice_laws.specs.Settled.{begun_now, closed_now}
use Rattle.splice_plans.specs.Adverts.{setting_of}
use Rattle.splice_plans.specs.Histories.{IsSettledAt}
use Rattle.splice_plans.specs.Playing.{played, is_played, as_played, end_known}
use Rattle.splice_plans.specs.Switching.{Setting, switched_at, streams_at, history_at}
use Rattle.splice_plans.specs.Known.{adverts_at, behind_at}
use Rattle.splice_plans.proofs.AdvertLemmas.{libraries_are_steady}
use Rattle.splice_plans.proofs.HistoryLemmas.{armed_is_history}
use Rattle.splice_plans.proofs.KnownLemmas.{played_settle}
use Rattle.switch_laws.proofs.RunLemmas.{once-contained}
use Rattle.chain_laws.specs.Runs.{switched_by, behind_by, IsWholeRun}
use Rattle.chain_laws.proofs.RunLemmas.{sound}
use Rattle.chain_laws.proofs.CarriedLemmas.{takes-own, takes-pid, each-sorted, same-switched, same-behind}
use Rattle.chain_laws.proofs.TakenLemmas.{filter-twice, begun_taken, begun_both}
use Rattle.air_laws.specs.Outputs.{runs_at_end}
use Rattle.air_laws.proofs.RestLemmas.{runs_known}

-- ---- packets of switched streams alone

module _ (takes : List ℕ → Bool) (switched : List ℕ) (every : AllByRecursion (TakesAll takes) switched) (pid : ℕ) (all : TakesAll takes pid) where
  abbrev r : TimedStream
  r = stream switched pid

  taken : (q : List ℕ) (past : List (List ℕ)) → takes q ≡ true → filter takes (q ∷ past) ≡ q ∷ filter takes past
  taken q past h = simp h refl

  left : (q : List ℕ) (past : List (List ℕ)) → takes q ≡ false → filter takes (q ∷ past) ≡ filter takes past
  left q past h = simp h refl

  repeats-taken : (p : List ℕ) (past : List (List ℕ)) → repeats pid p past ≡ repeats pid p (filter takes past)
  repeats-taken p [] = refl
  repeats-taken p (q ∷ past) =
      let i = repeats-taken p past in
      let j = repeats-taken q past in
      by_test (takes q)
      (λ y. rw (taken q past y) (simp (i, j) refl))
      (λ n. let k = all q n in rw (left q past n) (simp k i))

  begins-taken : (p : List ℕ) (past : List (List ℕ)) → begins pid p past ≡ begins pid p (filter takes past)
  begins-taken p past = ap (λ x. (payload_on pid p && not x) && unit_start p) (repeats-taken p past)

  begins-not : (p : List ℕ) (past : List (List ℕ)) → takes p ≡ false → begins pid p past ≡ false
  begins-not p past n = let k = all p n in simp k refl

  time-with : (p : List ℕ) (past : List (List ℕ)) → takes p ≡ true → unit_time switched pid (p ∷ past) ≡ unit_time switched pid (p ∷ filter takes past)
  time-with p past y =
      (others_are_no_units takes switched pid (p ∷ past) (filter takes (p ∷ past)) every all (sym (filter-twice takes (p ∷ past)))).time
      ∙ ap (unit_time switched pid) (taken p past y)

  abbrev closes : PlayedEvent → List ℕ → List (List ℕ) → Bool
  closes x p past = begun (stream switched pid) x (p ∷ past) && (begins pid p past && not (holds x (unit_time switched pid (p ∷ past))))

  closes-taken : (x : PlayedEvent) (p : List ℕ) (past : List (List ℕ)) → takes p ≡ true → closes x p past ≡ closes x p (filter takes past)
  closes-taken x p past y =
      ap (λ b. b && (begins pid p past && not (holds x (unit_time switched pid (p ∷ past))))) (begun_taken takes switched every pid all x (p ∷ past) ∙ ap (begun (stream switched pid) x) (taken p past y))
      ∙ ap (λ b. begun (stream switched pid) x (p ∷ filter takes past) && (b && not (holds x (unit_time switched pid (p ∷ past))))) (begins-taken p past)
      ∙ ap (λ t. begun (stream switched pid) x (p ∷ filter takes past) && (begins pid p (filter takes past) && not (holds x t))) (time-with p past y)

  none-closes : (a b : Bool) → (a && (false && b)) ≡ false
  none-closes true b = refl
  none-closes false b = refl

  closes-not : (x : PlayedEvent) (p : List ℕ) (past : List (List ℕ)) → takes p ≡ false → closes x p past ≡ false
  closes-not x p past n =
      ap (λ b. begun (stream switched pid) x (p ∷ past) && (b && not (holds x (unit_time switched pid (p ∷ past))))) (begins-not p past n)
      ∙ none-closes (begun (stream switched pid) x (p ∷ past)) (not (holds x (unit_time switched pid (p ∷ past))))

  closed-taken : (x : PlayedEvent) (past : List (List ℕ)) → closed (stream switched pid) x past ≡ closed (stream switched pid) x (filter takes past)
  closed-taken x [] = refl
  closed-taken x (p ∷ past) = by_test (takes p)
      (λ y. rw (taken p past y) (
      ap (λ b. b || closes x p past) (closed-taken x past)
      ∙ ap (λ b. closed (stream switched pid) x (filter takes past) || b) (closes-taken x p past y)))
      (λ n. rw (left p past n) (
      ap (λ b. closed (stream switched pid) x past || b) (closes-not x p past n) ∙ or-false (closed (stream switched pid) x past) ∙ closed-taken x past))

  pub closed-both : (past other : List (List ℕ)) → filter takes past ≡ filter takes other → (x : PlayedEvent) → closed (stream switched pid) x past ≡ closed (stream switched pid) x other
  closed-both past other h x = closed-taken x past ∙ ap (closed (stream switched pid) x) h ∙ sym (closed-taken x other)

-- ---- the accepted break

each-at : {X : Type 0} (P : X → Type 0) (x : X) (xs : List X) → AllByRecursion P xs → In x xs → P x
each-at P x [] h i = absurd i
each-at P x (y ∷ xs) h (inl is) = subst P (sym is) h.0
each-at P x (y ∷ xs) h (inr i) = each-at P x xs h.1 i

module _ (c : Config) (filed : ℕ → Option Advertisement) (steps : List Step) (w : IsWholeRun c filed steps) (pid : ℕ) (own : is_among pid (switched_at (setting_of c filed) (cued c steps)) ≡ true) where
  abbrev k : Setting
  k = setting_of c filed

  abbrev back : List (List ℕ)
  back = cued c steps

  behind-head : (o : Option Program) → program_of (Some c.program) (cued c steps) ≡ o → is_some o ≡ true
  behind-head (Some r) h = refl
  behind-head None h = absurd (true≢false (sym own ∙ ap (λ o. is_among pid (pids_of o)) h))

  inside : Contains (switched_at (setting_of c filed) (cued c steps)) pid
  inside = once-contained pid (switched_at k back) ((sound c filed steps w.run).once pid own)

  abbrev Settles : Standing → Type 0
  Settles = IsSettledAt (switched_at (setting_of c filed) (cued c steps)) pid (adverts_at (setting_of c filed) (cued c steps)) (history_at (setting_of c filed) (cued c steps)) (behind_at (setting_of c filed) (cued c steps))

  settled : AllByRecursion (λ e. (is_played (adverts_at (setting_of c filed) (cued c steps)) e ≡ true) × Settles e)
      (played (adverts_at (setting_of c filed) (cued c steps)) (history_at (setting_of c filed) (cued c steps) (behind_at (setting_of c filed) (cued c steps))))
  settled =
      let ads = adverts_at k back in
      let es = history_at k back (behind_at k back) in
      let all = played_settle (switched_at k back) pid inside ads (libraries_are_steady filed (streams_at k back)) (history_at k back) (armed_is_history k back (behind-head (program_of (Some c.program) back) refl)) [] (behind_at k back) in
      each-sorted Settles (is_played ads) es (recursion_from_All Settles es all)

  -- runs at the end, by the network's packets
  pub runs-so : (e : Standing) → In e (played (adverts_at (setting_of c filed) (cued c steps)) (history_at (setting_of c filed) (cued c steps) (behind_at (setting_of c filed) (cued c steps))))
      → runs_known (setting_of c filed) (cued c steps) pid e ≡ true → runs_at_end (switched_by c steps) pid (behind_by c steps) e ≡ true
  runs-so e i h =
      let sw = switched_at k back in
      let b = behind_at k back in
      let x = as_played e in
      let known = end_known (adverts_at k back) (history_at k back) e.start in
      let s = each-at (λ e. (is_played (adverts_at k back) e ≡ true) × Settles e) e (played (adverts_at k back) (history_at k back b)) settled i in
      let f = s.1 s.0 in
      let same = same-switched c filed steps w in
      let t = takes-own (switched_by c steps) in
      let mine = takes-pid (switched_by c steps) pid (ap (is_among pid) (sym same) ∙ own) in
      let begun-so : begun_now (stream sw pid) x known b ≡ begun (stream (switched_by c steps) pid) x (behind_by c steps)
      = f.0 ∙ ap (λ s. begun (stream s pid) x b) same ∙ begun_both (on_one (switched_by c steps)) (switched_by c steps) t pid mine b (behind_by c steps) (same-behind c filed steps w) x in
      let closed-so : closed_now (stream sw pid) x known b ≡ closed (stream (switched_by c steps) pid) x (behind_by c steps)
      = f.1 ∙ ap (λ s. closed (stream s pid) x b) same ∙ closed-both (on_one (switched_by c steps)) (switched_by c steps) t pid mine b (behind_by c steps) (same-behind c filed steps w) x in
      sym (ap (λ b. b && not (closed_now (stream sw pid) x known (behind_at k back))) begun-so ∙ ap (λ b. begun (stream (switched_by c steps) pid) x (behind_by c steps) && not b) closed-so) ∙ h
