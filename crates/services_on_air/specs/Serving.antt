-- What several services on air stand for, beside one automation: how far each has come, what is out, and what was answered.
use Rattle.std.specs.Prelude.{◌≡◌, ℕ, suc, List, [], ◌∷◌, ◌++◌, length, Bool, true, false, if◌then◌else◌, Option, None, Some}
use Rattle.std.specs.List.{list_any}
use Rattle.psi_tables.specs.declared.config.Config.{Config}
use Rattle.scte104_codec.specs.Reading.{MessageReading}
use Rattle.scte104_codec.specs.declared.reply.Reply.{Reply}
use Rattle.injector.specs.Replies.{reply_to}
use Rattle.injector.specs.Steps.{Step, turns_in}
use Rattle.service_laws.specs.Messages.{is_for, reply_of_none, share_an_index}
use Rattle.service_laws.specs.Services.{ServiceTerms, configs_of}
use Rattle.chain_engine.specs.Automation.{Take}
use Rattle.chain_engine.specs.Talks.{TalkStandsFor}
use Rattle.chain_engine.specs.Runs.{steps_of, steps_before}
use Rattle.chain_engine.specs.declared.hearing.SessionEnd.{SessionEnd}
use Rattle.chain_services.specs.Serving.{AnswersNone, CountsReplies}
use Rattle.chain_services.specs.declared.report.ServiceEvents.{ServiceEvents}
use Rattle.chain_services.specs.declared.report.ServiceReport.{ServiceReport}
use Rattle.on_air.specs.declared.report.AirReport.{AirReport}
use Rattle.psi_section.specs.Assembling.{capped}
use Rattle.services_on_air.specs.Airing.{Airing, nexts, owns, leaves, airings}
use Rattle.services_on_air.specs.Histories.{Gone, HasGone, nothing_gone, gone_asked, gone_on, gone_settled, begins_anew, aired_as}
use Rattle.services_on_air.specs.Histories.{put_settled, put_own, put_last}
use Rattle.services_on_air.specs.Outputs.{gone_ahead, gones_behind, ended_before, services_air, services_reply, replies_ahead}
use Rattle.services_on_air.specs.Outputs.{AllEventsOnAir, lost_among}
use Rattle.services_on_air.specs.declared.service.AirService.{AirService}
use Rattle.services_on_air.specs.declared.desk.AirDesk.{AirDesk}
use Rattle.services_on_air.specs.declared.services.AirServices.{AirServices}

-- ---- each service has come so far

abbrev pub AllGone : List AirService → List ServiceTerms → List Gone → Type 0
AllGone [] [] [] = Unit {0}
AllGone [] [] (g ∷ gs) = ⊥
AllGone [] (t ∷ ts) gs = ⊥
AllGone (s ∷ ss) [] gs = ⊥
AllGone (s ∷ ss) (t ∷ ts) [] = ⊥
AllGone (s ∷ ss) (t ∷ ts) (g ∷ gs) = HasGone s t g × AllGone ss ts gs

-- where the next packet is settled
abbrev pub gones_ahead : List ServiceTerms → List Airing → List Step → List Gone
gones_ahead [] ys steps = []
gones_ahead (t ∷ ts) [] steps = []
gones_ahead (t ∷ ts) (a ∷ ys) steps = gone_ahead t a steps ∷ gones_ahead ts ys steps

abbrev pub nothings_gone : List ServiceTerms → List Gone
nothings_gone [] = []
nothings_gone (t ∷ ts) = nothing_gone ∷ nothings_gone ts

-- ---- what a packet does to each

-- it is settled
abbrev pub gones_settled : List ServiceTerms → List ℕ → List Airing → List Gone → List Gone
gones_settled [] p xs gs = []
gones_settled (t ∷ ts) p [] gs = []
gones_settled (t ∷ ts) p (a ∷ xs) [] = []
gones_settled (t ∷ ts) p (a ∷ xs) (g ∷ gs) = gone_settled t (begins_anew p a) g ∷ gones_settled ts p xs gs

abbrev pub puts_settled : List ServiceTerms → List ℕ → List Airing → List Gone → List (List ℕ)
puts_settled [] p xs gs = []
puts_settled (t ∷ ts) p [] gs = []
puts_settled (t ∷ ts) p (a ∷ xs) [] = []
puts_settled (t ∷ ts) p (a ∷ xs) (g ∷ gs) = put_settled t (begins_anew p a) g ++ puts_settled ts p xs gs

-- it passes
abbrev pub gones_on : List ServiceTerms → List ℕ → List Airing → List Gone → List Gone
gones_on [] p ys gs = []
gones_on (t ∷ ts) p [] gs = []
gones_on (t ∷ ts) p (a ∷ ys) [] = []
gones_on (t ∷ ts) p (a ∷ ys) (g ∷ gs) = gone_on t (aired_as p (leaves a)) g ∷ gones_on ts p ys gs

abbrev pub puts_on : List ServiceTerms → List ℕ → List Airing → List Gone → List (List ℕ)
puts_on [] p ys gs = []
puts_on (t ∷ ts) p [] gs = []
puts_on (t ∷ ts) p (a ∷ ys) [] = []
puts_on (t ∷ ts) p (a ∷ ys) (g ∷ gs) = put_own (owns p a) t (aired_as p (leaves a)) g ++ puts_on ts p ys gs

-- the network has ended
abbrev pub puts_last : List ServiceTerms → List Gone → List (List ℕ)
puts_last [] gs = []
puts_last (t ∷ ts) [] = []
puts_last (t ∷ ts) (g ∷ gs) = put_last t g ++ puts_last ts gs

-- ---- what a message does to them

abbrev pub one_is_for : List ServiceTerms → MessageReading → Bool
one_is_for ts m = list_any (λ (t : ServiceTerms). is_for t.config.index m) ts

-- the one that it is for judges it
abbrev pub gones_asked : List ServiceTerms → MessageReading → List Gone → List Gone
gones_asked [] m gs = []
gones_asked (t ∷ ts) m [] = []
gones_asked (t ∷ ts) m (g ∷ gs) = if is_for t.config.index m then gone_asked m g ∷ gs else g ∷ gones_asked ts m gs

abbrev pub reply_by_gone : List ServiceTerms → List Gone → MessageReading → Reply
reply_by_gone [] gs m = reply_of_none m
reply_by_gone (t ∷ ts) [] m = reply_of_none m
reply_by_gone (t ∷ ts) (g ∷ gs) m = if is_for t.config.index m
    then reply_to t.config.index m (turns_in t.config.program g.own)
    else reply_by_gone ts gs m

-- one of some services judged it, if it is for one of them
abbrev pub AskedOnAir : Option Reply → List AirService → List ServiceTerms → List Gone → MessageReading → Type 0
AskedOnAir None services ts gs m = (one_is_for ts m ≡ false) × AllGone services ts gs
AskedOnAir (Some r) services ts gs m = (one_is_for ts m ≡ true) × (r ≡ reply_by_gone ts gs m) × AllGone services ts (gones_asked ts m gs)

pub record DeskGone {M : Type 0} (desk : AirDesk M) (ts : List ServiceTerms) (gs : List Gone) : Type 0 where
  pub all : AllGone desk.services.items ts gs
  pub none : AnswersNone desk.none ts

-- ---- a run

-- services of these configurations were given nothing, and no two have one index
pub record AirServicesBegin {M : Type 0} (services : AirServices M) (cs : List Config) : Type 0 where
  pub talks : TalkStandsFor services.talk [] 0 0
  pub gone : (ts : List ServiceTerms) → configs_of ts ≡ cs → DeskGone services.desk ts (nothings_gone ts)
  pub counts : CountsReplies services.desk.counts.messages services.desk.counts.accepted services.desk.counts.refused []
  pub indexes : share_an_index cs ≡ false

-- these packets have passed, newest first, and these takes and replies came
pub record ServicesGone {M : Type 0} (services : AirServices M) (ts : List ServiceTerms) (past : List (List ℕ)) (takes : List Take)
    (rs : List Reply) : Type 0 where
  pub talks : TalkStandsFor services.talk takes (length rs) (length past)
  pub replies : rs ≡ services_reply ts (steps_of (length rs) takes past)
  pub counts : CountsReplies services.desk.counts.messages services.desk.counts.accepted services.desk.counts.refused rs
  pub desk : DeskGone services.desk ts (gones_behind ts (airings (configs_of ts) past) (steps_of (length rs) takes past))

-- what is out then
abbrev pub air_behind : List ServiceTerms → List (List ℕ) → List Take → List Reply → List (List ℕ)
air_behind ts past takes rs = services_air ts (steps_of (length rs) takes past)

-- what is out where the next packet is settled, behind a history
abbrev pub air_ahead : List ServiceTerms → List ℕ → List (List ℕ) → List Step → List (List ℕ)
air_ahead ts p past steps = services_air ts steps ++ ended_before ts p (airings (configs_of ts) past) steps

-- it is settled for each service
pub record ServicesSettled {M : Type 0} (services : AirServices M) (ts : List ServiceTerms) (p : List ℕ) (past : List (List ℕ)) (takes : List Take)
    (rs : List Reply) : Type 0 where
  pub talks : TalkStandsFor services.talk takes (length rs) (length past)
  pub replies : rs ≡ replies_ahead ts p (steps_of (length rs) takes past)
  pub counts : CountsReplies services.desk.counts.messages services.desk.counts.accepted services.desk.counts.refused rs
  pub desk : DeskGone services.desk ts (gones_ahead ts (nexts p (airings (configs_of ts) past)) (steps_of (length rs) takes past))

-- and the messages before it were heard
pub record ServicesHeard {M : Type 0} (services : AirServices M) (ts : List ServiceTerms) (p : List ℕ) (past : List (List ℕ)) (takes : List Take)
    (rs : List Reply) : Type 0 where
  pub talks : TalkStandsFor services.talk takes (length rs) (suc (length past))
  pub replies : rs ≡ replies_ahead ts p (steps_before (length rs) takes past)
  pub counts : CountsReplies services.desk.counts.messages services.desk.counts.accepted services.desk.counts.refused rs
  pub desk : DeskGone services.desk ts (gones_ahead ts (nexts p (airings (configs_of ts) past)) (steps_before (length rs) takes past))

-- so they were: nothing more is out, and these takes and replies came, which the first were before
pub record HearsAll {M : Type 0} (services : AirServices M) (ts : List ServiceTerms) (p : List ℕ) (past : List (List ℕ)) (before : List (List ℕ))
    (exchanged : Option SessionEnd → List Take → List Reply → Type 0) : Type 0 where
  pub takes : List Take
  pub rs : List Reply
  pub heard : ServicesHeard services ts p past takes rs
  pub exchanges : exchanged services.talk.end takes rs
  pub same : air_ahead ts p past (steps_before (length rs) takes past) ≡ before

-- a run has come so far. `is_out` says of packets that they stand behind what was there, `exchanged` of a session's end, takes and replies that they
-- came.
pub record RunsSoFar {M : Type 0} (services : AirServices M) (ts : List ServiceTerms) (past : List (List ℕ)) (is_out : List (List ℕ) → Type 0)
    (exchanged : Option SessionEnd → List Take → List Reply → Type 0) : Type 0 where
  pub takes : List Take
  pub rs : List Reply
  pub gone : ServicesGone services ts past takes rs
  pub exchanges : exchanged services.talk.end takes rs
  pub out : is_out (air_behind ts past takes rs)

-- the network has ended, and this is told
pub record ServicesEnded (told : AirReport ServiceReport) (ts : List ServiceTerms) (past : List (List ℕ)) (takes : List Take)
    (rs : List Reply) : Type 0 where
  pub messages : CountsReplies told.report.messages told.report.accepted told.report.refused rs
  pub events : AllEventsOnAir told.report.services.items ts (gones_behind ts (airings (configs_of ts) past) (steps_of (length rs) takes past))
  pub lost : told.lost ≡ capped (lost_among (gones_behind ts (airings (configs_of ts) past) (steps_of (length rs) takes past)))

-- what is out then
abbrev pub air_to_end : List ServiceTerms → List (List ℕ) → List Take → List Reply → List (List ℕ)
air_to_end ts past takes rs = air_behind ts past takes rs
    ++ puts_last ts (gones_behind ts (airings (configs_of ts) past) (steps_of (length rs) takes past))

-- those of these services' events stand behind what was there before
abbrev pub AddsOnAir : List ServiceEvents → List ServiceEvents → List ServiceTerms → List Gone → Type 0
AddsOnAir before now ts gs = (more : List ServiceEvents) × (now ≡ before ++ more) × AllEventsOnAir more ts gs
