-- WHAT SEVERAL SERVICES ON AIR put, answer and count, by the history of the whole run: all messages judged and all packets of the network, newest
-- first. Each service does so by the stretch of its own that the packet is in.
use Rattle.std.specs.Prelude.{◌≡◌, ℕ, ◌+◌, List, [], ◌∷◌, ◌++◌, length, reverse, if◌then◌else◌, Option}
use Rattle.std.specs.List.{list_any}
use Rattle.ts_packet.specs.Packets.{packets_of}
use Rattle.wire_fields.specs.Numbers.{AreBytes}
use Rattle.psi_section.specs.Assembling.{capped}
use Rattle.scte104_codec.specs.Reading.{MessageReading}
use Rattle.scte104_codec.specs.declared.reply.Reply.{Reply}
use Rattle.injector.specs.Replies.{reply_to}
use Rattle.injector.specs.Steps.{Step, Message, Packet, packets_in, turns_in}
use Rattle.splice_plans.specs.Reporting.{ReportIs}
use Rattle.service_laws.specs.Messages.{is_for, reply_of_none}
use Rattle.service_laws.specs.Services.{ServiceTerms, configs_of}
use Rattle.chain_engine.specs.Automation.{Take, bytes_of}
use Rattle.chain_engine.specs.Talks.{HasTalked}
use Rattle.chain_engine.specs.Runs.{steps_of}
use Rattle.chain_engine.specs.declared.hearing.SessionEnd.{SessionEnd}
use Rattle.chain_services.specs.Serving.{CountsReplies}
use Rattle.chain_services.specs.declared.report.ServiceEvents.{ServiceEvents}
use Rattle.chain_services.specs.declared.report.ServiceReport.{ServiceReport}
use Rattle.on_air.specs.Stretches.{Entry}
use Rattle.on_air.specs.AirRuns.{newest}
use Rattle.on_air.specs.declared.report.AirReport.{AirReport}
use Rattle.services_on_air.specs.Airing.{Airing, nexts, before_last, owns, leaves, airings}
use Rattle.services_on_air.specs.Histories.{Gone, gone_in, begins_anew, put_settled, put_own, put_last, aired_as, counts_to_end}

abbrev pub earlier_of : List (List Entry) → List (List Entry)
earlier_of [] = []
earlier_of (past ∷ earlier) = earlier

-- how far a service has come behind this history; and where the newest packet of its stretch is the next one, which it has not passed on
abbrev pub gone_behind : ServiceTerms → Airing → List Step → Gone
gone_behind t a steps = gone_in t (newest a.stretches) (earlier_of a.stretches) steps

abbrev pub gone_ahead : ServiceTerms → Airing → List Step → Gone
gone_ahead t a steps = gone_in t (before_last (newest a.stretches)) (earlier_of a.stretches) steps

-- of each service
abbrev pub gones_behind : List ServiceTerms → List Airing → List Step → List Gone
gones_behind [] xs steps = []
gones_behind (t ∷ ts) [] steps = []
gones_behind (t ∷ ts) (a ∷ xs) steps = gone_behind t a steps ∷ gones_behind ts xs steps

-- ---- what goes out

-- BEFORE A PACKET, service by service, where another stretch begins with it
abbrev pub ended_before : List ServiceTerms → List ℕ → List Airing → List Step → List (List ℕ)
ended_before [] p xs steps = []
ended_before (t ∷ ts) p [] steps = []
ended_before (t ∷ ts) p (a ∷ xs) steps = put_settled t (begins_anew p a) (gone_behind t a steps) ++ ended_before ts p xs steps

-- FOR IT, service by service, once it is settled what becomes of it in the stretch of each: a service puts what it is on the PIDs of
abbrev pub put_by_each : List ServiceTerms → List ℕ → List Airing → List Step → List (List ℕ)
put_by_each [] p ys steps = []
put_by_each (t ∷ ts) p [] steps = []
put_by_each (t ∷ ts) p (a ∷ ys) steps =
    put_own (owns p a) t (aired_as p (leaves a)) (gone_ahead t a steps) ++ put_by_each ts p ys steps

-- a packet that is on the PIDs of none goes out as it came
abbrev pub put_for_all : List ServiceTerms → List ℕ → List Airing → List Step → List (List ℕ)
put_for_all ts p ys steps = put_by_each ts p ys steps ++ (if list_any (owns p) ys then [] else p ∷ [])

-- THE OUTPUT for all packets, in order
abbrev pub services_air : List ServiceTerms → List Step → List (List ℕ)
services_air ts [] = []
services_air ts (Message m ∷ steps) = services_air ts steps
services_air ts (Packet p ∷ steps) =
    let xs = airings (configs_of ts) (packets_in steps) in
    services_air ts steps ++ (ended_before ts p xs steps ++ put_for_all ts p (nexts p xs) steps)

-- at the end of the network, service by service, what is left of the advertisements that run in its last stretch
abbrev pub left_by_each : List ServiceTerms → List Airing → List Step → List (List ℕ)
left_by_each [] xs steps = []
left_by_each (t ∷ ts) [] steps = []
left_by_each (t ∷ ts) (a ∷ xs) steps = put_last t (gone_behind t a steps) ++ left_by_each ts xs steps

abbrev pub services_air_to_end : List ServiceTerms → List Step → List (List ℕ)
services_air_to_end ts steps = services_air ts steps ++ left_by_each ts (airings (configs_of ts) (packets_in steps)) steps

-- ---- what is answered

-- THE REPLY to a message before a packet that is settled: by the stretch that this is in of the service that it is for
abbrev pub reply_by_each : List ServiceTerms → List Airing → MessageReading → List Step → Reply
reply_by_each [] ys m steps = reply_of_none m
reply_by_each (t ∷ ts) [] m steps = reply_of_none m
reply_by_each (t ∷ ts) (a ∷ ys) m steps = if is_for t.config.index m
    then reply_to t.config.index m (turns_in t.config.program (gone_ahead t a steps).own)
    else reply_by_each ts ys m steps

abbrev pub reply_before : List ServiceTerms → List ℕ → MessageReading → List Step → Reply
reply_before ts p m steps = reply_by_each ts (nexts p (airings (configs_of ts) (packets_in steps))) m steps

-- THE REPLIES, in order, to all messages before this packet
abbrev pub replies_ahead : List ServiceTerms → List ℕ → List Step → List Reply
replies_ahead ts p [] = []
replies_ahead ts p (Message m ∷ steps) = replies_ahead ts p steps ++ reply_before ts p m steps ∷ []
replies_ahead ts p (Packet q ∷ steps) = replies_ahead ts q steps

-- and to those before the last packet
abbrev pub services_reply : List ServiceTerms → List Step → List Reply
services_reply ts [] = []
services_reply ts (Message m ∷ steps) = services_reply ts steps
services_reply ts (Packet p ∷ steps) = replies_ahead ts p steps

-- ---- what is counted

-- of the events of a service, summed over its stretches
pub record EventsOnAir (e : ServiceEvents) (t : ServiceTerms) (g : Gone) : Type 0 where
  pub index : e.index ≡ t.config.index
  pub program : e.program ≡ t.config.program
  pub switch : ReportIs e.switch (counts_to_end t g)

-- of each, service by service
abbrev pub AllEventsOnAir : List ServiceEvents → List ServiceTerms → List Gone → Type 0
AllEventsOnAir [] [] [] = Unit {0}
AllEventsOnAir [] [] (g ∷ gs) = ⊥
AllEventsOnAir [] (t ∷ ts) gs = ⊥
AllEventsOnAir (e ∷ es) [] gs = ⊥
AllEventsOnAir (e ∷ es) (t ∷ ts) [] = ⊥
AllEventsOnAir (e ∷ es) (t ∷ ts) (g ∷ gs) = EventsOnAir e t g × AllEventsOnAir es ts gs

-- LOST, of all services: the requests that stood where their stretches ended, and whose end had not come
abbrev pub lost_among : List Gone → ℕ
lost_among [] = 0
lost_among (g ∷ gs) = g.lost + lost_among gs

-- ---- the theorem

-- THE THEOREM for any network: what the services put stands behind what was there; each message is answered by the stretch of the service that it is
-- for; and what is counted is summed, over the stretches of each service. `is_out` says of packets that they stand behind what was there, `exchanged`
-- of a session's end, takes and replies that they came.
pub record ServicesOnAir (ts : List ServiceTerms) (bs : List ℕ) (is_out : List (List ℕ) → Type 0)
    (exchanged : Option SessionEnd → List Take → List Reply → Type 0) (told : AirReport ServiceReport) : Type 0 where
  pub ending : Option SessionEnd
  pub takes : List Take
  pub rs : List Reply
  pub talked : HasTalked ending takes (length rs) (length (packets_of bs))
  pub bytes : AreBytes (bytes_of takes)
  pub exchanges : exchanged ending takes rs
  pub replies : rs ≡ services_reply ts (steps_of (length rs) takes (reverse (packets_of bs)))
  pub written : is_out (services_air_to_end ts (steps_of (length rs) takes (reverse (packets_of bs))))
  pub messages : CountsReplies told.report.messages told.report.accepted told.report.refused rs
  pub events : AllEventsOnAir told.report.services.items ts
      (gones_behind ts (airings (configs_of ts) (reverse (packets_of bs))) (steps_of (length rs) takes (reverse (packets_of bs))))
  pub lost : told.lost ≡ capped (lost_among
      (gones_behind ts (airings (configs_of ts) (reverse (packets_of bs))) (steps_of (length rs) takes (reverse (packets_of bs)))))
