-- Runs on air: a network in stretches, and an automation that is heard through all of them. Each stretch is a run of its own, by its own packets
-- and the messages before them; the takes, and which messages end in which of them, are those of the whole run.
use Rattle.std.specs.Prelude.{◌≡◌, ℕ, ◌+◌, List, [], ◌∷◌, ◌++◌, map, length, Bool, true, false, Option, if◌then◌else◌}
use Rattle.ts_packet.specs.Fields.{marked}
use Rattle.psi_tables.specs.declared.config.Config.{Config}
use Rattle.scte104_codec.specs.declared.reply.Reply.{Reply}
use Rattle.scte104_codec.specs.Reading.{MessageReading}
use Rattle.injector.specs.Steps.{Step, Packet, sent_at}
use Rattle.chain_engine.specs.Automation.{Take}
use Rattle.chain_engine.specs.Talks.{TalkStandsFor, judged_before}
use Rattle.chain_engine.specs.Runs.{asked, replies_by}
use Rattle.chain_engine.specs.Unjudged.{restored}
use Rattle.chain_engine.specs.declared.hearing.SessionEnd.{SessionEnd}
use Rattle.chain_engine.specs.declared.talk.Talk.{Talk}

-- a packet of a stretch, which is judged or left unjudged
pub record Aired : Type 0 where
  pub packet : List ℕ
  pub is_judged : Bool

abbrev pub judged : List ℕ → Aired
judged p = record { packet = p; is_judged = true }

abbrev pub unjudged : List ℕ → Aired
unjudged p = record { packet = p; is_judged = false }

-- as it is read
abbrev pub read_of : Aired → List ℕ
read_of a = if a.is_judged then a.packet else marked a.packet

-- a stretch that has ended: its packets, newest first, and what went out behind it, in order
pub record Stretch : Type 0 where
  pub packets : List Aired
  pub behind : List (List ℕ)

-- how many packets came in these, newest stretch first
abbrev pub packets_through : List Stretch → ℕ
packets_through [] = 0
packets_through (s ∷ earlier) = packets_through earlier + length s.packets

-- ---- a stretch

-- THE STEPS of a stretch, behind so many packets of the network, newest first: before each packet the messages whose last byte stands in the
-- take before it
abbrev pub steps_on_air : ℕ → List Take → ℕ → List Aired → List Step
steps_on_air most takes first [] = []
steps_on_air most takes first (a ∷ past) =
    Packet (read_of a) ∷ asked (judged_before most takes (first + length past)) (steps_on_air most takes first past)

-- and the messages before the packet behind them
abbrev pub steps_ahead : ℕ → List Take → ℕ → List Aired → List Step
steps_ahead most takes first past = asked (judged_before most takes (first + length past)) (steps_on_air most takes first past)

-- what goes out for a packet, by what is sent for it as it is read: one that is left unjudged goes out as it came
abbrev pub put_for : Aired → List (List ℕ) → List (List ℕ)
put_for a sent = if a.is_judged then sent else map (restored a.packet) sent

-- WHAT GOES OUT for the packets of a stretch, in order
abbrev pub sent_on_air : Config → ℕ → List Take → ℕ → List Aired → List (List ℕ)
sent_on_air c most takes first [] = []
sent_on_air c most takes first (a ∷ past) =
    sent_on_air c most takes first past ++ put_for a (sent_at c (read_of a) (steps_ahead most takes first past))

-- ---- a run

-- THE OUTPUT of a run on air whose last stretch has these packets: the stretches' outputs one behind the other, and behind each that ended what
-- went out there
abbrev pub sent_by_ended : Config → ℕ → List Take → List Stretch → List (List ℕ)
sent_by_ended c most takes [] = []
sent_by_ended c most takes (s ∷ earlier) =
    sent_by_ended c most takes earlier ++ (sent_on_air c most takes (packets_through earlier) s.packets ++ s.behind)

abbrev pub sent_by_all : Config → ℕ → List Take → List Stretch → List Aired → List (List ℕ)
sent_by_all c most takes ended last = sent_by_ended c most takes ended ++ sent_on_air c most takes (packets_through ended) last

-- by a rule of the steps of each stretch that ended, newest first
abbrev pub told_by_ended : {R : Type 0} → (List Step → R) → ℕ → List Take → List Stretch → List R
told_by_ended rule most takes [] = []
told_by_ended rule most takes (s ∷ earlier) =
    rule (steps_on_air most takes (packets_through earlier) s.packets) ∷ told_by_ended rule most takes earlier

-- what was counted in the last of some stretches, and in those before it, newest first, summed
abbrev pub total : {R : Type 0} → (R → R → R) → R → List R → R
total summed report [] = report
total summed report (before ∷ earlier) = summed (total summed before earlier) report

-- THE REPLIES, in order, each by a rule of its message and the steps before it in the stretch of the packet before which it is judged
abbrev pub replies_by_ended : (MessageReading → List Step → Reply) → ℕ → List Take → List Stretch → List Reply
replies_by_ended rule most takes [] = []
replies_by_ended rule most takes (s ∷ earlier) =
    replies_by_ended rule most takes earlier ++ replies_by rule (steps_on_air most takes (packets_through earlier) s.packets)

abbrev pub replies_by_all : (MessageReading → List Step → Reply) → ℕ → List Take → List Stretch → List Aired → List Reply
replies_by_all rule most takes ended last =
    replies_by_ended rule most takes ended ++ replies_by rule (steps_on_air most takes (packets_through ended) last)

-- ---- what is known between two packets

-- Who judges messages and a talk have come so far on air: these stretches ended, and the last one has these packets. `stands` says of the judge and
-- steps that it has gone them since the last stretch began, `rule` which reply a message has, `is_out` of the replies' number and the takes what is
-- out by them, and `exchanged` of a session's end, takes and replies that they came.
pub record HasAired {J M : Type 0} (stands : J → List Step → Type 0) (rule : MessageReading → List Step → Reply) (judge : J) (talk : Talk M)
    (is_out : ℕ → List Take → Type 0) (exchanged : Option SessionEnd → List Take → List Reply → Type 0) (ended : List Stretch)
    (last : List Aired) : Type 0 where
  pub ts : List Take
  pub rs : List Reply
  pub gone : stands judge (steps_on_air (length rs) ts (packets_through ended) last)
  pub talks : TalkStandsFor talk ts (length rs) (packets_through ended + length last)
  pub exchanges : exchanged talk.end ts rs
  pub replies : rs ≡ replies_by_all rule (length rs) ts ended last
  pub out : is_out (length rs) ts

-- ---- what a stage on air says of itself

-- it was given a packet more, and all that it sent is out
pub record WentOnAir {S : Type 0} (airs : List (List ℕ) → S → Type 0) (now : S) (is_out : List (List ℕ) → Type 0) : Type 0 where
  pub sent : List (List ℕ)
  pub airs_so : airs sent now
  pub out : is_out sent

-- the network has ended; all that it sent is out, and it has told this of its last stretch
pub record EndedOnAir {S R : Type 0} (tells : List (List ℕ) → R → S → Type 0) (now : S) (report : R) (is_out : List (List ℕ) → Type 0) : Type 0 where
  pub sent : List (List ℕ)
  pub tells_so : tells sent report now
  pub out : is_out sent
