-- What an injector puts out, by its whole history: the messages that it judged and the packets of the network, newest first.
use Rattle.event_table.specs.Counting.{one_if}
use Rattle.std.specs.Prelude.{ℕ, ◌+◌, List, [], ◌∷◌, ◌++◌, map, Bool, true, false, ◌||◌, is_ok, not}
use Rattle.std.specs.Prelude.{Option, None, Some, Result, Err}
use Rattle.ts_packet.specs.Runs.{onto}
use Rattle.psi_tables.specs.declared.config.Config.{Config}
use Rattle.scte35_codec.specs.Spelling.{cue_bytes}
use Rattle.scte104_codec.specs.Reading.{MessageReading, init, alive, other, multiple, bad}
use Rattle.program_follower.specs.Program.{listed, tables}
use Rattle.program_follower.specs.Following.{high_of}
use Rattle.program_laws.specs.Writing.{packets_out, body}
use Rattle.program_laws.specs.Cued.{cueing}
use Rattle.injector.specs.declared.refusal.Refusal.{Refusal}
use Rattle.injector.specs.declared.refusal.Refusal.TheVariants.{BadSyntax}
use Rattle.injector.specs.Turns.{Turn, Judged, Passed, verdict}
use Rattle.injector.specs.Senders.{cues_before}

-- a message was judged, or a packet of the network came
pub data Step : Type 0 where
  Message : MessageReading → Step
  Packet : List ℕ → Step

-- the packets, newest first
abbrev pub packets_in : List Step → List (List ℕ)
packets_in [] = []
packets_in (Message m ∷ past) = packets_in past
packets_in (Packet p ∷ past) = p ∷ packets_in past

-- a packet counts for requests by the greatest time behind it
abbrev pub turns_in : ℕ → List Step → List Turn
turns_in program [] = []
turns_in program (Message m ∷ past) = Judged m ∷ turns_in program past
turns_in program (Packet p ∷ past) = Passed (high_of (Some program) (p ∷ packets_in past)) ∷ turns_in program past

-- the sections of the cues before a packet
abbrev pub sections_before : Config → List ℕ → List Step → List (List ℕ)
sections_before c p past =
    map cue_bytes (cues_before c.index (high_of (Some c.program) (p ∷ packets_in past)) (turns_in c.program past))

-- the cues in a packet each, whose counters go on from the last on their PID
abbrev pub cue_packets : Config → List ℕ → List Step → List (List ℕ) → List (List ℕ)
cue_packets c p past out = packets_out c.cue_pid out (sections_before c p past)

-- the packet, or in its place on the PID of the program's map the sections that it finishes, the maps with the entry for cues; their
-- counters go on from the last packet of that PID
abbrev pub body_at : Config → List ℕ → List (List ℕ) → List (List ℕ) → List (List ℕ)
body_at c p past out =
    body (cueing c.cue_pid (λ q qs. [])) (listed (Some c.program) past) p past (tables (Some c.program) p past) out

-- WHAT GOES OUT for a packet, behind what is out: the cues before it, and then the packet or what stands in its place
abbrev pub sent_behind : Config → List ℕ → List Step → List (List ℕ) → List (List ℕ)
sent_behind c p past out =
    cue_packets c p past out ++ body_at c p (packets_in past) (onto out (cue_packets c p past out))

-- THE CUED STREAM, newest packet first
abbrev pub cued : Config → List Step → List (List ℕ)
cued c [] = []
cued c (Message m ∷ past) = cued c past
cued c (Packet p ∷ past) = onto (cued c past) (sent_behind c p past (cued c past))

abbrev pub sent_at : Config → List ℕ → List Step → List (List ℕ)
sent_at c p past = sent_behind c p past (cued c past)

-- ---- counts

-- the verdict on a message, where it is a multiple operation
abbrev pub outcome : ℕ → MessageReading → List Turn → Option (Result (Unit {0}) Refusal)
outcome index (init head) past = None
outcome index (alive head body) past = None
outcome index (other head) past = None
outcome index (multiple m) past = Some (verdict index m past)
outcome index (bad true head) past = Some (Err BadSyntax)
outcome index (bad false head) past = None

abbrev pub is_accepted : Option (Result (Unit {0}) Refusal) → Bool
is_accepted None = false
is_accepted (Some r) = is_ok r

abbrev pub is_refused : Option (Result (Unit {0}) Refusal) → Bool
is_refused None = false
is_refused (Some r) = not (is_ok r)

-- a request was accepted since the last packet
abbrev pub has_news : ℕ → List Turn → Bool
has_news index [] = false
has_news index (Judged m ∷ past) = has_news index past || is_accepted (outcome index m past)
has_news index (Passed h ∷ past) = false

-- how many messages were judged, and how many multiple operations were accepted and refused
abbrev pub judged_in : List Turn → ℕ
judged_in [] = 0
judged_in (Judged m ∷ past) = 1 + judged_in past
judged_in (Passed h ∷ past) = judged_in past

abbrev pub accepted_in : ℕ → List Turn → ℕ
accepted_in index [] = 0
accepted_in index (Judged m ∷ past) = one_if (is_accepted (outcome index m past)) + accepted_in index past
accepted_in index (Passed h ∷ past) = accepted_in index past

abbrev pub refused_in : ℕ → List Turn → ℕ
refused_in index [] = 0
refused_in index (Judged m ∷ past) = one_if (is_refused (outcome index m past)) + refused_in index past
refused_in index (Passed h ∷ past) = refused_in index past
