-- A sink that feeds a switch: what it stands for, why it fails, and what becomes of its device.
use Rattle.std.specs.Prelude.{◌≡◌, ℕ, ◌⊎◌, List, ◌∷◌, ◌++◌, map, Bool, true, Option, Some, IsSomeAnd, if◌then◌else◌}
use Rattle.std.proofs.Common.{refl, sym, inl, inr, ◌∙◌, subst}
use Rattle.ts_packet.specs.Transfers.{WentWell}
use Rattle.ts_packet.specs.declared.tally.Tally.{Tally}
use Rattle.ts_packet.specs.declared.sink.PutFault.{PutFault}
use Rattle.ts_packet.specs.declared.sink.PutFault.TheVariants as put_faults
use Rattle.ts_packet.proofs.CountLemmas.{well-refl, well-trans, blamed-after}
use Rattle.psi_tables.specs.declared.config.Config.{Config}
use Rattle.psi_tables.specs.declared.network.FeedFault.{FeedFault}
use Rattle.psi_tables.specs.declared.network.FeedFault.TheVariants.{Network, Sink, Failed}
use Rattle.ad_library.specs.Advertisements.{Advertisement}
use Rattle.splice_plans.specs.Adverts.{setting_of}
use Rattle.splice_switch.specs.declared.switch.Switch.{Switch}
use Rattle.splice_switch.specs.Standing.{SwitchStandsAt, FeedFailsAt}
use Rattle.chain_engine.specs.Runs.{OutputBlamed}
use Rattle.chain_engine.specs.Airing.{Aired, judged}
use Rattle.chain_engine.specs.Switched.{journey_of, aired_onto, aired_over}
use Rattle.chain_engine.specs.declared.faults.RunFault.TheVariants.{Feed}

-- an aired packet, as one list
abbrev pub coded : Aired → List ℕ
coded a = (if a.is_judged then 1 else 0) ∷ a.packet

-- The list that the sink stands for tells what the switch was fed before, newest first, what the output held then, and what was put
-- since: behind one list as long as the first and one as long as the second stand all three.
abbrev pub fed_behind : List Aired → List (List ℕ) → List (List ℕ) → List (List ℕ)
fed_behind past before fed = map (λ a. 0) past ∷ (map (λ p. 0) before ∷ (map coded past ++ (before ++ fed)))

-- The sink stands for this list: the output holds what it held and what the switch sends for what it was fed since, which is each packet
-- that was put, as `as_fed` has it. `holds` is the output's.
pub record FeedingHolds {K : Type 0} (holds : K → Option (List ℕ) → List (List ℕ) → Type 0) (as_fed : List ℕ → Aired) (switch : Switch)
    (c : Config) (filed : ℕ → Option Advertisement) (out : K) (start : Option (List ℕ)) (ps : List (List ℕ)) : Type 0 where
  pub past : List Aired
  pub before : List (List ℕ)
  pub fed : List (List ℕ)
  pub parts : ps ≡ fed_behind past before fed
  pub stands : SwitchStandsAt switch c filed (journey_of (setting_of c filed) (aired_onto past (map as_fed fed)))
  pub sent : holds out start (before ++ aired_over (setting_of c filed) past (map as_fed fed))

-- It stood for this list, and the switch did not take this packet, which is judged as those before it; the kept fault says why. `fails` is
-- the output's.
pub record FeedingFails {K : Type 0} (fails : K → Option (List ℕ) → List (List ℕ) → List ℕ → PutFault → Type 0) (kept : Option FeedFault) (c : Config)
    (filed : ℕ → Option Advertisement) (out : K) (start : Option (List ℕ)) (ps : List (List ℕ)) (p : List ℕ) (fault : PutFault) : Type 0 where
  pub past : List Aired
  pub before : List (List ℕ)
  pub fed : List (List ℕ)
  pub parts : ps ≡ fed_behind past before fed
  pub failed : fault ≡ put_faults.Failed
  pub why : IsSomeAnd kept (λ f. FeedFailsAt f c filed p (journey_of (setting_of c filed) (aired_onto past (map judged fed)))
      (λ put q x. fails out start (before ++ (aired_over (setting_of c filed) past (map judged fed) ++ put)) q x))

-- The fault that is kept now was kept before, and all went well; or it came between, the switch is spent, and it is blamed on what the
-- output's device counted.
abbrev pub FaultKept : Option FeedFault → Option FeedFault → Bool → Tally → Tally → Bool → Type 0
FaultKept before now spent old new full =
    ((now ≡ before) × WentWell old new) ⊎ ((fault : FeedFault) × (now ≡ Some fault) × (spent ≡ true) × OutputBlamed (Feed fault) old new full)

-- laws of it: nothing came between
pub FaultKept-refl : (x : Option FeedFault) (spent : Bool) (a : Tally) (full : Bool) → FaultKept x x spent a a full
FaultKept-refl x spent a full = inl (refl, well-refl a)

pub Blamed-behind : (fault : FeedFault) (a b c : Tally) (full : Bool) → WentWell a b → OutputBlamed (Feed fault) b c full → OutputBlamed (Feed fault) a c full
Blamed-behind (Network f) a b c full w h = well-trans a b c w h
Blamed-behind (Sink f) a b c full w h = blamed-after f a b c full w h
Blamed-behind Failed a b c full w h = well-trans a b c w h

-- what a spent switch keeps
pub record StaysSpent (x y : Option FeedFault) (s t : Bool) (a b : Tally) (full more : Bool) : Type 0 where
  pub fault : y ≡ x
  pub spent : t ≡ s
  pub counts : b ≡ a
  pub is_full : more ≡ full

-- and one thing after another, where nothing changes once the switch is spent
pub FaultKept-trans : (x y z : Option FeedFault) (s t : Bool) (a b c : Tally) (full more : Bool) → FaultKept x y s a b full → FaultKept y z t b c more
    → (s ≡ true → StaysSpent y z s t b c full more) → FaultKept x z t a c more
FaultKept-trans x y z s t a b c full more (inl h) (inl k) stays = inl (k.0 ∙ h.0, well-trans a b c h.1 k.1)
FaultKept-trans x y z s t a b c full more (inl h) (inr (f, e, spent, k)) stays = inr (f, e, spent, Blamed-behind f a b c more h.1 k)
FaultKept-trans x y z s t a b c full more (inr (f, e, spent, h)) k stays =
    let same = stays spent in
    inr (f, same.fault ∙ e, same.spent ∙ spent, subst (λ w. OutputBlamed (Feed f) a w more) (sym same.counts) (subst (λ w. OutputBlamed (Feed f) a b w) (sym same.is_full) h))
