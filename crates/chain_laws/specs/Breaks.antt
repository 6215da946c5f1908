-- The breaks of a run: what the requests of its history have come to.
use Rattle.std.specs.Prelude.{◌≡◌, List, [], ◌∷◌, Bool, true, false, filter, count_by, Some}
use Rattle.program_follower.specs.Following.{high_of}
use Rattle.psi_tables.specs.declared.config.Config.{Config}
use Rattle.event_table.specs.Standing.{Standing}
use Rattle.armed_events.specs.Arming.{armed}
use Rattle.splice_plans.specs.Playing.{by_start}
use Rattle.injector.specs.Turns.{events}
use Rattle.injector.specs.Steps.{Step, Message, Packet, turns_in, cued}
use Rattle.path_laws.specs.Packets.{IsRunOf}

-- the events that were accepted, in order of acceptance, each with its last end, the cancelled ones among them
abbrev pub accepted_by : Config → List Step → List Standing
accepted_by c steps = events c.index (turns_in c.program steps)

-- the events that a switch is armed with by what an injector sends
abbrev pub armed_by : Config → List Step → List Standing
armed_by c steps = armed c.cue_pid (high_of (Some c.program)) (cued c steps)

-- a history of a whole run: the last that came, if anything, is a packet
abbrev pub EndsWithPacket : List Step → Type 0
EndsWithPacket [] = Unit {0}
EndsWithPacket (Message m ∷ past) = ⊥
EndsWithPacket (Packet p ∷ past) = Unit {0}

-- the events of two lists that a test takes are the same, in order of their starts
pub record SameTaken (test : Standing → Bool) (es others : List Standing) : Type 0 where
  pub sorted : by_start (filter test es) ≡ by_start (filter test others)
  pub counted : count_by test es ≡ count_by test others

-- the test takes no cancelled event
abbrev pub TakesBreaks : (Standing → Bool) → Type 0
TakesBreaks test = (e : Standing) → test e ≡ true → e.cancelled ≡ false

-- THE LAW OF BREAKS: the events that a switch is armed with are, of those that are not cancelled, exactly the accepted ones, with id, start,
-- last end, program and the length first asked for; so any test on breaks takes the same ones
abbrev pub BreaksAreArmed : Type 0
BreaksAreArmed = (c : Config) (steps : List Step) → IsRunOf c steps → EndsWithPacket steps → (test : Standing → Bool) → TakesBreaks test →
    SameTaken test (armed_by c steps) (accepted_by c steps)
