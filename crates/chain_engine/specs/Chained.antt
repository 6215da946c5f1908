-- What a chain on air puts for a stretch: what its switch does by what its injector sends on. A packet that is left unjudged is sent on as one that is
-- marked in error, and goes out beside the switch; the cues before it are as those before any other packet.
use Rattle.std.proofs.Common.{◌≡◌, ℕ, ◌+◌, List, [], ◌∷◌, ◌++◌, map, length, reverse, Option, if◌then◌else◌, refl, sym, ap, subst, ◌∙◌, arith}
use Rattle.std.proofs.Math.ListN.{length-map}
use Rattle.std.proofs.lemmas.List.{length-reverse}
use Rattle.ts_packet.specs.Fields.{in_error}
use Rattle.ts_packet.specs.Runs.{onto}
use Rattle.psi_tables.specs.declared.config.Config.{Config}
use Rattle.scte104_codec.specs.declared.reply.Reply.{Reply}
use Rattle.injector.specs.Steps.{Step, Packet, packets_in, cued, sent_at}
use Rattle.ad_library.specs.Advertisements.{Advertisement}
use Rattle.splice_plans.specs.Adverts.{setting_of}
use Rattle.splice_plans.specs.Stepping.{puts_last}
use Rattle.splice_switch.specs.declared.switch.Switch.{Switch}
use Rattle.splice_switch.specs.Standing.{SwitchStandsAt}
use Rattle.chain_engine.specs.Automation.{Take}
use Rattle.chain_engine.specs.Talks.{TalkStandsFor, judged_before}
use Rattle.chain_engine.specs.Runs.{asked, steps_of, replies_by, reply_in}
use Rattle.chain_engine.specs.ChainRuns.{MessagesAre, chain_sends}
use Rattle.chain_engine.specs.Passing.{IsSoundNetwork}
use Rattle.chain_engine.specs.Stages.{HasRun, InjectsFor, ServesFor}
use Rattle.chain_engine.specs.Airing.{Aired, judged, unjudged, read_of, Stretch, packets_through, steps_on_air, steps_ahead, HasAired}
use Rattle.chain_engine.specs.Injected.{asked-cued, steps-first}
use Rattle.chain_engine.specs.Switched.{journey_of, switched_on_air, aired_onto, aired_over, ReportsOf, journey-first, switched-first}
use Rattle.chain_engine.specs.declared.hearing.SessionEnd.{SessionEnd}
use Rattle.chain_engine.specs.declared.report.Report.{Report}
use Rattle.chain_engine.specs.declared.chain.Chain.{Chain}
use Rattle.chain_engine.specs.declared.service.Service.{Service}

-- a packet that the injector sends on for one of the network, as the switch is fed it
abbrev pub fed_as : Aired → List ℕ → Aired
fed_as a q = if a.is_judged then judged q else (if in_error q then unjudged a.packet else judged q)

-- all that it is fed for one, in order
abbrev pub fed_for : Config → Aired → List Step → List Aired
fed_for c a steps = map (fed_as a) (sent_at c (read_of a) steps)

-- WHAT THE SWITCH IS FED for the packets of a stretch, newest first
abbrev pub fed_on_air : Config → ℕ → List Take → ℕ → List Aired → List Aired
fed_on_air c most takes first [] = []
fed_on_air c most takes first (a ∷ past) =
    aired_onto (fed_on_air c most takes first past) (fed_for c a (steps_ahead most takes first past))

-- ---- a run

-- THE OUTPUT of a run on air whose last stretch has these packets: the stretches' outputs one behind the other, and behind each that ended what
-- went out there. Nothing more of an advertisement that runs goes out at the end of a stretch, but at that of the last one.
abbrev pub chained_by_ended : Config → (ℕ → Option Advertisement) → ℕ → List Take → List Stretch → List (List ℕ)
chained_by_ended c filed most takes [] = []
chained_by_ended c filed most takes (s ∷ earlier) = chained_by_ended c filed most takes earlier
    ++ (switched_on_air (setting_of c filed) (fed_on_air c most takes (packets_through earlier) s.packets) ++ s.behind)

abbrev pub chained_by_all : Config → (ℕ → Option Advertisement) → ℕ → List Take → List Stretch → List Aired → List (List ℕ)
chained_by_all c filed most takes ended last = chained_by_ended c filed most takes ended
    ++ switched_on_air (setting_of c filed) (fed_on_air c most takes (packets_through ended) last)

abbrev pub chained_to_end : Config → (ℕ → Option Advertisement) → ℕ → List Take → List Stretch → List Aired → List (List ℕ)
chained_to_end c filed most takes ended last = chained_by_all c filed most takes ended last
    ++ puts_last (setting_of c filed) (journey_of (setting_of c filed) (fed_on_air c most takes (packets_through ended) last))

-- what is counted in a stretch behind so many packets of the network: its messages, and the events that its switch was cued
pub record CountsStretch (report : Report) (c : Config) (filed : ℕ → Option Advertisement) (most : ℕ) (takes : List Take) (first : ℕ)
    (packets : List Aired) : Type 0 where
  pub messages : MessagesAre report c (steps_on_air most takes first packets)
  pub events : ReportsOf (setting_of c filed) (fed_on_air c most takes first packets) report.switch

-- in those that ended, newest first
abbrev pub EachCounts : Config → (ℕ → Option Advertisement) → ℕ → List Take → List Stretch → List Report → Type 0
EachCounts c filed most takes [] [] = Unit {0}
EachCounts c filed most takes [] (report ∷ told) = ⊥
EachCounts c filed most takes (s ∷ earlier) [] = ⊥
EachCounts c filed most takes (s ∷ earlier) (report ∷ told) =
    CountsStretch report c filed most takes (packets_through earlier) s.packets × EachCounts c filed most takes earlier told

-- ---- what a service says of itself

-- it has gone these steps since it began, and its switch was fed these packets, newest first, which it reads as the cued stream
pub record ServiceAirs (s : Service) (c : Config) (filed : ℕ → Option Advertisement) (steps : List Step) (fed : List Aired) : Type 0 where
  pub injector : InjectsFor c s steps
  pub switch : SwitchStandsAt s.switch c filed (journey_of (setting_of c filed) fed)
  pub read : (journey_of (setting_of c filed) fed).read ≡ cued c steps
  pub network : IsSoundNetwork c (packets_in steps)
  pub config : s.config ≡ c

-- it has passed one more on, and this is out for it
pub record PassedOnAir (s : Service) (c : Config) (filed : ℕ → Option Advertisement) (a : Aired) (steps : List Step) (fed : List Aired)
    (is_out : List (List ℕ) → Type 0) : Type 0 where
  pub airs : ServiceAirs s c filed (Packet (read_of a) ∷ steps) (aired_onto fed (fed_for c a steps))
  pub out : is_out (aired_over (setting_of c filed) fed (fed_for c a steps))

-- ---- what a chain on air says of itself

-- its service has gone these steps, with this switch
pub record ServesOnAir (c : Config) (switch : Switch) (service : Service) (steps : List Step) : Type 0 where
  pub injector : InjectsFor c service steps
  pub switch_is : service.switch ≡ switch
  pub network : IsSoundNetwork c (packets_in steps)
  pub config : service.config ≡ c

-- its switch stands for what it was fed; this is out, and this was counted in the stretches that ended
pub record ChainedSoFar (c : Config) (filed : ℕ → Option Advertisement) (switch : Switch) (ended : List Stretch) (last : List Aired)
    (told : List Report) (qs : List (List ℕ)) (most : ℕ) (takes : List Take) : Type 0 where
  pub stands : SwitchStandsAt switch c filed (journey_of (setting_of c filed) (fed_on_air c most takes (packets_through ended) last))
  pub sent : chained_by_all c filed most takes ended last ≡ qs
  pub told_so : EachCounts c filed most takes ended told

-- a chain has passed these stretches on
abbrev pub ChainAirs : {M : Type 0} → Config → (ℕ → Option Advertisement) → Chain M → (Option SessionEnd → List Take → List Reply → Type 0)
    → List Stretch → List Aired → List Report → List (List ℕ) → Type 0
ChainAirs c filed chain exchanged ended last told qs =
    HasAired (ServesOnAir c chain.service.switch) (reply_in c) chain.service chain.talk
    (ChainedSoFar c filed chain.service.switch ended last told qs) exchanged ended last

-- all went through
pub record ChainedToEnd (c : Config) (filed : ℕ → Option Advertisement) (ended : List Stretch) (last : List Aired) (told : List Report)
    (sent : List (List ℕ)) (report : Report) (most : ℕ) (takes : List Take) : Type 0 where
  pub sent_so : chained_to_end c filed most takes ended last ≡ sent
  pub told_so : EachCounts c filed most takes ended told
  pub last_so : CountsStretch report c filed most takes (packets_through ended) last

abbrev pub ChainAirsToEnd : {M : Type 0} → Config → (ℕ → Option Advertisement) → Chain M
    → (Option SessionEnd → List Take → List Reply → Type 0) → List Stretch → List Aired → List Report → List (List ℕ) → Report → Type 0
ChainAirsToEnd c filed chain exchanged ended last told sent report =
    HasAired (λ service steps. Unit {0}) (reply_in c) chain.service chain.talk (ChainedToEnd c filed ended last told sent report)
    exchanged ended last

-- ---- a run up to its first fault is one stretch, all of whose packets are judged

pub judged-onto : (past fed : List (List ℕ)) → aired_onto (map judged past) (map judged fed) ≡ map judged (onto past fed)
judged-onto past [] = refl
judged-onto past (p ∷ fed) = judged-onto (p ∷ past) fed

pub fed-first : (c : Config) (n : ℕ) (ts : List Take) (past : List (List ℕ)) → fed_on_air c n ts 0 (map judged past) ≡ map judged (cued c (steps_of n ts past))
fed-first c n ts [] = refl
fed-first c n ts (p ∷ past) =
    let count = length-map past judged in
    let long : 0 + length (map judged past) ≡ length past = omega (arith, count) in
    let ms = judged_before n ts (length past) in
    let steps = steps_of n ts past in
    let ahead : steps_ahead n ts 0 (map judged past) ≡ asked ms steps =
    ap (λ k. asked (judged_before n ts k) (steps_on_air n ts 0 (map judged past))) long ∙ ap (asked ms) (steps-first n ts past) in
    ap (λ s. aired_onto (fed_on_air c n ts 0 (map judged past)) (map judged (sent_at c p s))) ahead
    ∙ ap (λ l. aired_onto l (map judged (sent_at c p (asked ms steps)))) (fed-first c n ts past)
    ∙ ap (λ l. aired_onto (map judged l) (map judged (sent_at c p (asked ms steps)))) (sym (asked-cued c ms steps))
    ∙ judged-onto (cued c (asked ms steps)) (sent_at c p (asked ms steps))

-- so it is on air
pub chain-airs-first : {M : Type 0} (c : Config) (filed : ℕ → Option Advertisement) (chain : Chain M)
    (exchanged : Option SessionEnd → List Take → List Reply → Type 0) (ps qs : List (List ℕ))
    → HasRun (ServesFor c filed) (reply_in c) chain.service chain.talk (λ steps. chain_sends c filed steps ≡ qs) exchanged ps
    → ChainAirs c filed chain exchanged [] (map judged (reverse ps)) [] qs
chain-airs-first c filed chain exchanged ps qs h =
    let past = reverse ps in
    let k = setting_of c filed in
    let n = length h.rs in
    let same = steps-first n h.ts past in
    let fed = fed-first c n h.ts past in
    let count = length-map past judged in
    let back = length-reverse ps in
    let stream = cued c (steps_of n h.ts past) in
    let long : length ps ≡ 0 + length (map judged past) = omega (arith, count, back) in record {
      ts = h.ts;
      rs = h.rs;
      gone = subst (ServesOnAir c chain.service.switch chain.service) (sym same)
          (record { injector = h.gone.injector; switch_is = refl; network = h.gone.network; config = h.gone.config });
      talks = subst (λ k. TalkStandsFor chain.talk h.ts (length h.rs) k) long h.talks;
      exchanges = h.exchanges;
      replies = h.replies ∙ ap (replies_by (reply_in c)) (sym same);
      out = record {
        stands = subst (λ l. SwitchStandsAt chain.service.switch c filed (journey_of k l)) (sym fed)
            (subst (SwitchStandsAt chain.service.switch c filed) (sym (journey-first k stream)) h.gone.switch);
        sent = ap (switched_on_air k) fed ∙ switched-first k stream ∙ h.out;
        told_so = tt;
      };
    }
