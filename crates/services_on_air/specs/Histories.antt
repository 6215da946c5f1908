-- What a service on air has gone since its stretch began, by the history of the whole run: all messages judged and all packets of the network, newest
-- first. Of the messages a service is given those with its index, and of the packets those of its stretch, as it reads them.
use Rattle.std.specs.Prelude.{◌≡◌, ℕ, ◌+◌, nat_lt, List, [], ◌∷◌, map, length, Bool, false, not, ◌&&◌, if◌then◌else◌}
use Rattle.std.specs.Prelude.{Option, None, Some, IfSome, option_map}
use Rattle.std.specs.List.{AllByRecursion}
use Rattle.ts_packet.specs.Fields.{payload_on}
use Rattle.psi_section.specs.Assembling.{capped}
use Rattle.psi_tables.specs.declared.config.Config.{Config}
use Rattle.program_follower.specs.declared.purpose.Purpose.{Purpose}
use Rattle.program_follower.specs.Program.{pmt_pid_of, since_pat}
use Rattle.program_follower.specs.Purposes.{writing_cues}
use Rattle.scte104_codec.specs.Reading.{MessageReading}
use Rattle.pes_time.specs.Line.{ring_of}
use Rattle.event_table.specs.Standing.{on_ring}
use Rattle.event_table.specs.Events.{open_count_of}
use Rattle.injector.specs.Turns.{greatest_in, standing}
use Rattle.injector.specs.Steps.{Step, Message, Packet, packets_in, turns_in, cued}
use Rattle.splice_plans.specs.Adverts.{setting_of}
use Rattle.splice_plans.specs.Stepping.{puts_last}
use Rattle.splice_plans.specs.Reporting.{EventCounts, no_counts, ReportIs, report_of}
use Rattle.service_laws.specs.Messages.{is_for}
use Rattle.service_laws.specs.Services.{ServiceTerms}
use Rattle.chain_engine.specs.Airing.{Aired, read_of}
use Rattle.chain_engine.specs.Switched.{aired_onto, aired_over, journey_of}
use Rattle.chain_engine.specs.Chained.{fed_for, ServiceAirs}
use Rattle.on_air.specs.Stretches.{Entry}
use Rattle.on_air.specs.Tails.{TailStands, tail_behind}
use Rattle.on_air.specs.AirRuns.{has_no}
use Rattle.on_air.specs.AirOutputs.{aired}
use Rattle.services_on_air.specs.Airing.{Airing, next_of}
use Rattle.on_air.specs.declared.tail.MapTail.{MapTail}
use Rattle.services_on_air.specs.declared.service.AirService.{AirService}

-- ---- one stretch

-- THE STEPS OF A STRETCH of a service that has this index: the packets of the stretch, newest first, and the service's messages before them, behind
-- the last packet before the stretch
abbrev pub own_since : ℕ → List Aired → List Step → List Step
own_since index last [] = []
own_since index last (Message m ∷ steps) = if is_for index m then Message m ∷ own_since index last steps else own_since index last steps
own_since index [] (Packet p ∷ steps) = []
own_since index (a ∷ last) (Packet p ∷ steps) = Packet (read_of a) ∷ own_since index last steps

-- WHAT ITS SWITCH WAS FED in the stretch, newest first
abbrev pub fed_since : Config → List Aired → List Step → List Aired
fed_since c last [] = []
fed_since c last (Message m ∷ steps) = fed_since c last steps
fed_since c [] (Packet p ∷ steps) = []
fed_since c (a ∷ last) (Packet p ∷ steps) = aired_onto (fed_since c last steps) (fed_for c a (own_since c.index last steps))

-- THE HISTORY BEFORE A STRETCH with these packets: up to the last packet before it
abbrev pub before_stretch : List Aired → List Step → List Step
before_stretch last [] = []
before_stretch last (Message m ∷ steps) = before_stretch last steps
before_stretch [] (Packet p ∷ steps) = Packet p ∷ steps
before_stretch (a ∷ last) (Packet p ∷ steps) = before_stretch last steps

-- ---- what stretches count

-- what became of the events of one, by its steps
abbrev pub counts_by : ServiceTerms → List Step → EventCounts
counts_by t own = report_of (setting_of t.config t.filed) (cued t.config own)

-- how many of its requests stand at its end, whose end has not come: accepted starts that are not cancelled, and end past its greatest time
abbrev pub open_by : ServiceTerms → List Step → ℕ
open_by t own = (let turns = turns_in t.config.program own in
    open_count_of (option_map ring_of (greatest_in turns)) (map on_ring (standing t.config.index turns)))

abbrev pub counts_sum : EventCounts → EventCounts → EventCounts
counts_sum a b = record {
  played = a.played + b.played;
  not_fitted = a.not_fitted + b.not_fitted;
  unconditioned = a.unconditioned + b.unconditioned;
  ignored = a.ignored + b.ignored;
}

-- OF ALL THESE STRETCHES, newest first, the last of which ends with the history
abbrev pub counts_in : ServiceTerms → List (List Entry) → List Step → EventCounts
counts_in t [] steps = no_counts
counts_in t (past ∷ earlier) steps =
    counts_sum (counts_in t earlier (before_stretch (aired past) steps)) (counts_by t (own_since t.config.index (aired past) steps))

abbrev pub open_in : ServiceTerms → List (List Entry) → List Step → ℕ
open_in t [] steps = 0
open_in t (past ∷ earlier) steps =
    open_in t earlier (before_stretch (aired past) steps) + open_by t (own_since t.config.index (aired past) steps)

-- ---- how far a service has come

-- the steps since its stretch began, what its switch was fed in it, and what the stretches before it counted and lost
pub record Gone : Type 0 where
  pub own : List Step
  pub fed : List Aired
  pub counted : EventCounts
  pub lost : ℕ

-- behind this history, where its stretch has these packets so far, and those before it these
abbrev pub gone_in : ServiceTerms → List Entry → List (List Entry) → List Step → Gone
gone_in t past earlier steps = record {
  own = own_since t.config.index (aired past) steps;
  fed = fed_since t.config (aired past) steps;
  counted = counts_in t earlier (before_stretch (aired past) steps);
  lost = open_in t earlier (before_stretch (aired past) steps);
}

abbrev pub nothing_gone : Gone
nothing_gone = record { own = []; fed = []; counted = no_counts; lost = 0 }

-- with a message of its own, and with a packet of its stretch
abbrev pub gone_asked : MessageReading → Gone → Gone
gone_asked m g = record g { own = Message m ∷ g.own }

abbrev pub gone_on : ServiceTerms → Aired → Gone → Gone
gone_on t a g = record g { own = Packet (read_of a) ∷ g.own; fed = aired_onto g.fed (fed_for t.config a g.own) }

-- where its stretch ends
abbrev pub gone_anew : ServiceTerms → Gone → Gone
gone_anew t g = record { own = []; fed = []; counted = counts_sum g.counted (counts_by t g.own); lost = g.lost + open_by t g.own }

-- What is kept of the packets that have brought a section of its map. Packets of other PIDs are not kept: before its first packet behind the PAT
-- nothing is, since none of the map's PID has come.
abbrev pub TailIsKept : Option ℕ → MapTail → Option ℕ → List (List ℕ) → Type 0
TailIsKept None t known since =
    ((pid : Option ℕ) → TailStands t pid []) × IfSome known (λ pid. AllByRecursion (λ q. payload_on pid q ≡ false) since)
TailIsKept (Some pid) t known since = TailStands t known since

abbrev pub TailKept : MapTail → Purpose → List (List ℕ) → Type 0
TailKept t c read = TailIsKept t.pid t (pmt_pid_of c.program read) (since_pat c.program read)

-- a service has come so far
pub record HasGone (s : AirService) (t : ServiceTerms) (g : Gone) : Type 0 where
  pub airs : ServiceAirs s.service t.config t.filed g.own g.fed
  pub tail : TailKept s.tail (writing_cues t.config) (packets_in g.own)
  pub counted : ReportIs s.ended g.counted
  pub lost : s.lost ≡ capped g.lost

-- ---- what a service puts

-- a packet, as it becomes of it
abbrev pub aired_as : List ℕ → Bool → Aired
aired_as p is_unjudged = record { packet = p; is_judged = not is_unjudged }

-- another stretch begins with the next packet
abbrev pub begins_anew : List ℕ → Airing → Bool
begins_anew p a = not (has_no a.stretches) && nat_lt (length a.stretches) (length (next_of p a).stretches)

-- WHERE A STRETCH ENDS, the packets that have brought a section of its map which is not whole
abbrev pub put_anew : ServiceTerms → Gone → List (List ℕ)
put_anew t g = tail_behind (writing_cues t.config) (packets_in g.own)

abbrev pub gone_settled : ServiceTerms → Bool → Gone → Gone
gone_settled t is_anew g = if is_anew then gone_anew t g else g

abbrev pub put_settled : ServiceTerms → Bool → Gone → List (List ℕ)
put_settled t is_anew g = if is_anew then put_anew t g else []

-- FOR A PACKET, what its switch does by what its injector sends on
abbrev pub put_on : ServiceTerms → Aired → Gone → List (List ℕ)
put_on t a g = aired_over (setting_of t.config t.filed) g.fed (fed_for t.config a g.own)

-- it goes out where the packet is on one of its PIDs
abbrev pub put_own : Bool → ServiceTerms → Aired → Gone → List (List ℕ)
put_own is_own t a g = if is_own then put_on t a g else []

-- AT THE END of the network, what is left of the advertisements that run
abbrev pub put_last : ServiceTerms → Gone → List (List ℕ)
put_last t g = puts_last (setting_of t.config t.filed) (journey_of (setting_of t.config t.filed) g.fed)

-- of all its stretches, the last one among them
abbrev pub counts_to_end : ServiceTerms → Gone → EventCounts
counts_to_end t g = counts_sum g.counted (counts_by t g.own)
