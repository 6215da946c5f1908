-- The cue path in packets: a network with packets of the cue PID put in front of its packets, and what the switch's reader finds in them.
use Rattle.std.specs.Prelude.{◌≡◌, ◌↔◌, ℕ, ◌<◌, false, List, [], ◌∷◌, ◌++◌, map, reverse, Some, None}
use Rattle.std.specs.List.{AllByRecursion}
use Rattle.wire_fields.specs.Numbers.{AreBytes}
use Rattle.psi_section.specs.Sections.{sections, sections_after}
use Rattle.psi_tables.specs.declared.config.Config.{Config}
use Rattle.scte35_codec.specs.declared.cue_out.CueOut.{CueOut}
use Rattle.scte35_codec.specs.Spelling.{cue_bytes}
use Rattle.program_follower.specs.Faults.{first_fault}
use Rattle.program_laws.specs.Writing.{Along}
use Rattle.program_laws.specs.Cued.{On}
use Rattle.program_laws.specs.Cued.{cued as network_with}
use Rattle.event_table.specs.Standing.{Standing}
use Rattle.armed_events.specs.Arming.{heard, armed}
use Rattle.injector.specs.Turns.{events}
use Rattle.injector.specs.Laws.{own_fronts}
use Rattle.injector.specs.Senders.{cues_before}
use Rattle.injector.specs.Steps.{Step, Message, Packet, packets_in, turns_in, sections_before, cued}
use Rattle.cue_laws.specs.Events.{Turn as LineTurn, before}
use Rattle.cue_laws.specs.Thinning.{times}
use Rattle.cue_laws.specs.Laws.{KeepsEnoughOf}
use Rattle.ts_packet.specs.Membership.{In}
use Rattle.path_laws.specs.Path.{Item, Sent, line, left, path, heard_on, asked_line, RequestFits}
use Rattle.program_follower.specs.Purposes.{writing_cues}
use Rattle.program_follower.specs.Following.{high_of}

-- ---- runs

-- the requests fit
abbrev pub RequestsFit : Config → List Step → Type 0
RequestsFit c [] = Unit {0}
RequestsFit c (Message m ∷ past) = RequestFits c.index m × RequestsFit c past
RequestsFit c (Packet p ∷ past) = RequestsFit c past

-- a network without fault for those who put cues on this PID, between whose packets messages were judged
pub record IsRunOf (c : Config) (past : List Step) : Type 0 where
  pub cue_pid : c.cue_pid < 8192
  pub not_pat : c.cue_pid ≡ 0 → ⊥
  pub faultless : first_fault (writing_cues c) (packets_in past) ≡ None
  pub bytes : Along (λ p past. AreBytes p) (packets_in past)
  pub requests : RequestsFit c past

-- ---- all cues

-- the sections of all cues of a history, in order
abbrev pub cue_sections : Config → List Step → List (List ℕ)
cue_sections c [] = []
cue_sections c (Message m ∷ past) = cue_sections c past
cue_sections c (Packet p ∷ past) = cue_sections c past ++ sections_before c p past

-- THE SECTIONS READ BACK: a reader of the cue PID finds in the cued stream exactly the sections of the cues, in order
abbrev pub SectionsReadBack : Type 0
SectionsReadBack = (c : Config) (past : List Step) → IsRunOf c past → sections c.cue_pid (reverse (cued c past)) ≡ cue_sections c past

-- ---- cues that are lost or doubled

-- the cues before a packet, and what was sent before them
abbrev pub cues_at : Config → List ℕ → List Step → List CueOut
cues_at c p past = cues_before c.index (high_of (Some c.program) (p ∷ packets_in past)) (turns_in c.program past)

abbrev pub sent_in : Config → List Step → List Item
sent_in c past = path c.index (turns_in c.program past)

-- of each cue so many copies as the choice says
abbrev pub kept : (List LineTurn → ℕ) → List Item → List CueOut → List CueOut
kept copies items [] = []
kept copies items (cue ∷ cues) = times (copies (line (Sent cue ∷ items))) cue (kept copies (Sent cue ∷ items) cues)

-- the network, whose maps have the entry for cues, with these packets in front of its packets
abbrev pub stream : Config → (List ℕ → List (List ℕ) → List (List ℕ)) → List Step → List (List ℕ)
stream c fronts past = network_with (Some c.program) c.cue_pid fronts (packets_in past)

-- The packets in front are of the cue PID, and the reader of that PID finds in them the sections of the cues that are left: none of
-- those that are lost, and of one that comes twice, in packets that are no duplicates, both.
abbrev pub BringsCues : Config → (List LineTurn → ℕ) → (List ℕ → List (List ℕ) → List (List ℕ)) → List Step → Type 0
BringsCues c copies fronts [] = Unit {0}
BringsCues c copies fronts (Message m ∷ past) = BringsCues c copies fronts past
BringsCues c copies fronts (Packet p ∷ past) =
    AllByRecursion (On c.cue_pid) (fronts p (packets_in past))
    × (sections_after (stream c fronts past) c.cue_pid (fronts p (packets_in past)) ≡ map cue_bytes (kept copies (sent_in c past) (cues_at c p past)))
    × BringsCues c copies fronts past

-- WHAT A STREAM ARMS is what the path of its cues does
abbrev pub StreamArms : Type 0
StreamArms = (c : Config) (copies : List LineTurn → ℕ) (fronts : List ℕ → List (List ℕ) → List (List ℕ)) (past : List Step) → IsRunOf c past → BringsCues c copies fronts past →
    heard c.cue_pid (high_of (Some c.program)) (stream c fronts past) ≡ heard_on (left copies (sent_in c past))

-- THE CUE PATH IN PACKETS: behind each packet of a network without fault, a switch that reads what is left of the cues has armed an
-- uncancelled event whose start is reached exactly where the injector has accepted it, whatever cues were lost or doubled
abbrev pub CuePathInPackets : Type 0
CuePathInPackets = (c : Config) (copies : List LineTurn → ℕ) (fronts : List ℕ → List (List ℕ) → List (List ℕ)) (p last : List ℕ) (past later : List Step) →
    IsRunOf c (Packet last ∷ (later ++ Packet p ∷ past)) → BringsCues c copies fronts (Packet p ∷ past) →
    KeepsEnoughOf copies (asked_line c.index (turns_in c.program (Packet last ∷ (later ++ Packet p ∷ past)))) →
    (e : Standing) → e.cancelled ≡ false → before (high_of (Some c.program) (p ∷ packets_in past)) e.start ≡ false →
    In e (armed c.cue_pid (high_of (Some c.program)) (stream c fronts (Packet p ∷ past))) ↔ In e (events c.index (turns_in c.program (Packet p ∷ past)))

-- and behind the last packet it is so for all uncancelled events
abbrev pub CuePathInPacketsAtTheEnd : Type 0
CuePathInPacketsAtTheEnd = (c : Config) (copies : List LineTurn → ℕ) (fronts : List ℕ → List (List ℕ) → List (List ℕ)) (p : List ℕ) (past : List Step) →
    IsRunOf c (Packet p ∷ past) → BringsCues c copies fronts (Packet p ∷ past) → KeepsEnoughOf copies (asked_line c.index (turns_in c.program (Packet p ∷ past))) →
    (e : Standing) → e.cancelled ≡ false →
    In e (armed c.cue_pid (high_of (Some c.program)) (stream c fronts (Packet p ∷ past))) ↔ In e (events c.index (turns_in c.program (Packet p ∷ past)))

-- ---- nothing lost

-- THE CUED STREAM ITSELF is such a stream, with one copy of each cue
abbrev pub CuedStreamBrings : Type 0
CuedStreamBrings = (c : Config) (past : List Step) → IsRunOf c past →
    (stream c (own_fronts c past) past ≡ cued c past) × BringsCues c (λ t. 1) (own_fronts c past) past

-- so of the cued stream itself a switch has armed, behind each packet of the network, all uncancelled events that were accepted, and no
-- others that are not cancelled
abbrev pub CuedStreamArms : Type 0
CuedStreamArms = (c : Config) (p : List ℕ) (past : List Step) → IsRunOf c (Packet p ∷ past) → (e : Standing) → e.cancelled ≡ false →
    In e (armed c.cue_pid (high_of (Some c.program)) (cued c (Packet p ∷ past))) ↔ In e (events c.index (turns_in c.program (Packet p ∷ past)))
