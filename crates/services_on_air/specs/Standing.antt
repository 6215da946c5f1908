-- What several services on air stand for, packet by packet.
use Rattle.std.specs.Prelude.{◌≡◌, ◌<◌, ℕ, ◌+◌, List, [], ◌∷◌, ◌++◌, reverse, length, true, false, not, slice_index_or}
use Rattle.std.specs.List.{list_any}
use Rattle.ts_packet.specs.Fields.{pid_of}
use Rattle.ts_packet.specs.Packets.{packets_of}
use Rattle.psi_section.specs.Assembling.{capped}
use Rattle.psi_tables.specs.declared.config.Config.{Config}
use Rattle.scte104_codec.specs.Reading.{MessageReading}
use Rattle.scte104_codec.specs.declared.reply.Reply.{Reply}
use Rattle.program_follower.specs.Purposes.{writing_cues}
use Rattle.chain_engine.specs.Automation.{Take}
use Rattle.chain_engine.specs.Talks.{TalkStandsFor}
use Rattle.chain_engine.specs.Followed.{HasFollowed}
use Rattle.on_air.specs.Stretches.{Entry, Judgement, is_judged, as_read}
use Rattle.on_air.specs.Marking.{Keeps}
use Rattle.on_air.specs.AirRuns.{newest, has_no}
use Rattle.on_air.specs.declared.report.AirReport.{AirReport}
use Rattle.services_on_air.specs.Airing.{Airing, nexts, owns, leaves, learns, is_left, airings, unjudged_among, begun_in, behind_first, one_if_some}
use Rattle.service_laws.specs.Services.{ServiceTerms}
use Rattle.chain_services.specs.Serving.{CountsReplies}
use Rattle.services_on_air.specs.Histories.{Gone}
use Rattle.services_on_air.specs.Serving.{DeskGone, gones_asked, reply_by_gone}
use Rattle.services_on_air.specs.Owners.{HasOwnersOnAir, HasOwnersAhead, AllJudged, AreLeftOut, TakerGoesOn}
use Rattle.services_on_air.specs.declared.service.AirService.{AirService}
use Rattle.services_on_air.specs.declared.service.Passed.{Passed}
use Rattle.services_on_air.specs.declared.passing.Still.{Still}
use Rattle.services_on_air.specs.declared.passing.Still.TheVariants.{Beside, Taken}
use Rattle.chain_services.specs.declared.owners.Alone.{Alone}
use Rattle.services_on_air.specs.declared.desk.AirDesk.{AirDesk}
use Rattle.services_on_air.specs.declared.services.AirServices.{AirServices}

-- ---- one service

-- between two packets
pub record AirStandsFor (service : AirService) (a : Airing) : Type 0 where
  pub config : service.service.config ≡ a.config
  pub marks : Keeps service.marks (writing_cues a.config) (newest a.stretches)
  pub followed : HasFollowed service.service a.config (as_read (newest a.stretches))
  pub is_empty : service.is_empty ≡ has_no a.stretches
  pub shares : service.shares ≡ a.shares
  pub begun : service.begun ≡ capped (behind_first a.stretches)
  pub quiet : service.service.injector.has_news ≡ false

-- where its next stretch begins: these are those before it
pub record BeginsBehind (service : AirService) (c : Config) (ss : List (List Entry)) : Type 0 where
  pub config : service.service.config ≡ c
  pub marks : Keeps service.marks (writing_cues c) []
  pub followed : HasFollowed service.service c []
  pub begun : service.begun ≡ capped (behind_first ([] ∷ ss))

-- What becomes of this packet is settled, and of the last stretch it is the last; the service has not passed it on yet.
pub record IsSettled (service : AirService) (p : List ℕ) (a : Airing) : Type 0 where
  pub j : Judgement
  pub past : List Entry
  pub earlier : List (List Entry)
  pub parts : a.stretches ≡ (record { packet = p; judgement = j } ∷ past) ∷ earlier
  pub config : service.service.config ≡ a.config
  pub marks : Keeps service.marks (writing_cues a.config) (record { packet = p; judgement = j } ∷ past)
  pub followed : HasFollowed service.service a.config (as_read past)
  pub unjudged : service.is_unjudged ≡ not (is_judged j)
  pub is_empty : service.is_empty ≡ false
  pub shares : service.shares ≡ a.shares
  pub begun : service.begun ≡ capped (behind_first a.stretches)

-- what is told of a packet that it passed on
pub record IsPassed (passed : Passed) (p : List ℕ) (a : Airing) : Type 0 where
  pub own : passed.is_own ≡ owns p a
  pub unjudged : passed.is_unjudged ≡ leaves a
  pub learns : passed.learns ≡ learns a

-- ---- several

abbrev pub AllStand : List AirService → List Airing → Type 0
AllStand [] [] = Unit {0}
AllStand [] (a ∷ xs) = ⊥
AllStand (s ∷ ss) [] = ⊥
AllStand (s ∷ ss) (a ∷ xs) = AirStandsFor s a × AllStand ss xs

abbrev pub AllSettled : List AirService → List ℕ → List Airing → Type 0
AllSettled [] p [] = Unit {0}
AllSettled [] p (a ∷ xs) = ⊥
AllSettled (s ∷ ss) p [] = ⊥
AllSettled (s ∷ ss) p (a ∷ xs) = IsSettled s p a × AllSettled ss p xs

-- what is told of a packet that all passed on
pub record ArePassed (passed : Passed) (p : List ℕ) (xs : List Airing) : Type 0 where
  pub own : passed.is_own ≡ list_any (owns p) xs
  pub unjudged : passed.is_unjudged ≡ is_left p xs
  pub learns : passed.learns ≡ list_any learns xs

-- a message was judged: each service goes on as it stood, and the one that it is for by its own steps, which answer it
pub record AirDeskJudges {M : Type 0} (old : AirDesk M) (m : MessageReading) (reply : Reply) (new : AirDesk M) : Type 0 where
  pub goes : (p : List ℕ) (xs : List Airing) → AllSettled old.services.items p xs → AllSettled new.services.items p xs
  pub answers : (ts : List ServiceTerms) (gs : List Gone) → DeskGone old ts gs
      → (reply ≡ reply_by_gone ts gs m) × DeskGone new ts (gones_asked ts m gs)
  pub counts : (rs : List Reply) → CountsReplies old.counts.messages old.counts.accepted old.counts.refused rs
      → CountsReplies new.counts.messages new.counts.accepted new.counts.refused (rs ++ reply ∷ [])
  pub owners : new.owners ≡ old.owners
  pub asks : new.asks_all ≡ true

-- unless all are to be shown it, those services that do not take the settled packet are left out
abbrev pub DeskLeavesOut : {M : Type 0} → AirDesk M → List ℕ → List Airing → Type 0
DeskLeavesOut desk p ys = desk.asks_all ≡ false → slice_index_or desk.owners (pid_of p) 0 < 255
    → AreLeftOut (slice_index_or desk.owners (pid_of p) 0) desk.services.items (pid_of p) ys

-- and it is known which take it, and in which stream it goes on alone for the one that alone does
abbrev pub StillTold : {M : Type 0} → AirDesk M → ℕ → List ℕ → Type 0
StillTold desk takers p = desk.asks_all ≡ false → takers ≡ slice_index_or desk.owners (pid_of p) 0

abbrev pub StillGoesOn : {M : Type 0} → AirDesk M → ℕ → Alone → List ℕ → Type 0
StillGoesOn desk takers alone p = desk.asks_all ≡ false → TakerGoesOn takers alone desk.services.items p

-- how a packet passes that is settled for each service as it stands: none takes it, or one alone, for which it goes on in one of its streams
abbrev pub IsStill : Still → ℕ → Type 0
IsStill Beside takers = takers ≡ 0
IsStill (Taken alone) takers = alone.of.stream < 8

abbrev pub TakerIsStill : {M : Type 0} → AirDesk M → Still → ℕ → List ℕ → Type 0
TakerIsStill desk Beside takers p = Unit {0}
TakerIsStill desk (Taken alone) takers p = StillGoesOn desk takers alone p

-- and unless all are to be shown the next one, none left the last one unjudged
abbrev pub DeskJudged : {M : Type 0} → AirDesk M → Type 0
DeskJudged desk = desk.asks_all ≡ false → AllJudged desk.services.items

-- these packets have passed, newest first
pub record AirServicesStandFor {M : Type 0} (services : AirServices M) (cs : List Config) (past : List (List ℕ)) : Type 0 where
  pub ts : List Take
  pub n : ℕ
  pub k : ℕ
  pub talks : TalkStandsFor services.talk ts n k
  pub all : AllStand services.desk.services.items (airings cs past)
  pub packets : services.packets ≡ capped (length past)
  pub unjudged : services.unjudged ≡ capped (unjudged_among cs past)
  pub owners : HasOwnersOnAir services.desk.owners (airings cs past)
  pub judged : DeskJudged services.desk

-- these have, and what becomes of this one is settled for each service, which has not passed it on yet
pub record AreSettled {M : Type 0} (services : AirServices M) (cs : List Config) (p : List ℕ) (past : List (List ℕ)) : Type 0 where
  pub ts : List Take
  pub n : ℕ
  pub k : ℕ
  pub talks : TalkStandsFor services.talk ts n k
  pub all : AllSettled services.desk.services.items p (nexts p (airings cs past))
  pub packets : services.packets ≡ capped (length past)
  pub unjudged : services.unjudged ≡ capped (unjudged_among cs past)
  pub owners : HasOwnersAhead services.desk.owners (nexts p (airings cs past))
  pub left : DeskLeavesOut services.desk p (nexts p (airings cs past))

-- each has passed it on, and this is told of it; it is not counted yet, and where services share a PID no stretch has ended
pub record HavePassed {M : Type 0} (services : AirServices M) (cs : List Config) (p : List ℕ) (past : List (List ℕ)) (passed : Passed) : Type 0 where
  pub ts : List Take
  pub n : ℕ
  pub k : ℕ
  pub talks : TalkStandsFor services.talk ts n k
  pub all : AllStand services.desk.services.items (nexts p (airings cs past))
  pub packets : services.packets ≡ capped (length past)
  pub unjudged : services.unjudged ≡ capped (unjudged_among cs past)
  pub is : ArePassed passed p (nexts p (airings cs past))
  pub owners : passed.learns ≡ false → HasOwnersOnAir services.desk.owners (nexts p (airings cs past))
  pub judged : DeskJudged services.desk

-- THE THEOREM for any network: what is told of the stretches of all services, and of their packets that were left unjudged
pub record TellsOfAll {R : Type 0} (told : AirReport R) (cs : List Config) (past : List (List ℕ)) : Type 0 where
  pub stretches : told.stretches ≡ capped (begun_in (airings cs past) + one_if_some past)
  pub unjudged : told.unjudged ≡ capped (unjudged_among cs past)

abbrev pub TellsServices : {R : Type 0} → AirReport R → List Config → List ℕ → Type 0
TellsServices told cs bs = TellsOfAll told cs (reverse (packets_of bs))
