-- The packets of the cued stream, some of the cue PID left out, and some doubled on the spot.
use Rattle.std.specs.Prelude.{◌≡◌, ◌↔◌, ℕ, zero, suc, ◌+◌, ◌%◌, ◌<◌, nat_lt, Bool, true, false, if◌then◌else◌, List, [], ◌∷◌, ◌++◌, Some}
use Rattle.ts_packet.specs.Numbering.{one_past}
use Rattle.ts_packet.specs.Duplicates.{repeats}
use Rattle.program_follower.specs.Following.{high_of}
use Rattle.psi_section.specs.Packetising.{first_packet}
use Rattle.psi_tables.specs.declared.config.Config.{Config}
use Rattle.scte35_codec.specs.declared.cue_out.CueOut.{CueOut}
use Rattle.scte35_codec.specs.Spelling.{cue_bytes}
use Rattle.program_laws.specs.Writing.{number_on}
use Rattle.event_table.specs.Standing.{Standing}
use Rattle.armed_events.specs.Arming.{armed}
use Rattle.injector.specs.Turns.{events}
use Rattle.injector.specs.Steps.{Step, Message, Packet, packets_in, turns_in, cue_packets, cued}
use Rattle.cue_laws.specs.Events.{Turn as LineTurn, before}
use Rattle.cue_laws.specs.Laws.{KeepsEnoughOf}
use Rattle.cue_laws.specs.Thinning.{times, TellsAgain, LeavesOutRepeats}
use Rattle.ts_packet.specs.Membership.{In}
use Rattle.path_laws.specs.Path.{Item, Sent, Packet as Passing, line, asked_line}
use Rattle.path_laws.specs.Packets.{IsRunOf, cues_at, sent_in, stream, BringsCues}

-- so many copies of the packet of each cue, the counters those of the cued stream
abbrev pub thin : ℕ → (List LineTurn → ℕ) → List Item → ℕ → List CueOut → List (List ℕ)
thin pid copies items n [] = []
thin pid copies items n (cue ∷ cues) = times (copies (line (Sent cue ∷ items))) (first_packet pid n (cue_bytes cue)) (thin pid copies (Sent cue ∷ items) ((n + 1) % 16) cues)

-- what came up to the last cue of which a copy is left, that cue first; nothing where none is
abbrev pub last_left : (List LineTurn → ℕ) → List Item → List LineTurn
last_left copies [] = []
last_left copies (Sent cue ∷ items) =
    if nat_lt 0 (copies (line (Sent cue ∷ items))) then line (Sent cue ∷ items) else last_left copies items
last_left copies (Passing h ∷ items) = last_left copies items

-- A packet that is left and is a duplicate of the payload packet left before it on the PID tells the same again: the cues of two events are
-- told apart.
abbrev pub AreToldApart : ℕ → (List LineTurn → ℕ) → List Item → ℕ → List (List ℕ) → List CueOut → Type 0
AreToldApart pid copies items n out [] = Unit {0}
AreToldApart pid copies items n out (cue ∷ cues) =
    (0 < copies (line (Sent cue ∷ items)) → repeats pid (first_packet pid n (cue_bytes cue)) out ≡ true →
    TellsAgain (last_left copies items) (line (Sent cue ∷ items)))
    × AreToldApart pid copies (Sent cue ∷ items) ((n + 1) % 16) (times (copies (line (Sent cue ∷ items))) (first_packet pid n (cue_bytes cue)) out) cues

-- the counter of the first cue before the next packet
abbrev pub next_cue_number : Config → List Step → ℕ
next_cue_number c past = one_past (number_on c.cue_pid (cued c past))

-- in front of each packet stand so many copies of each packet that the injector puts there, and a duplicate tells the same again
abbrev pub IsThinned : Config → (List LineTurn → ℕ) → (List ℕ → List (List ℕ) → List (List ℕ)) → List Step → Type 0
IsThinned c copies fronts [] = Unit {0}
IsThinned c copies fronts (Message m ∷ past) = IsThinned c copies fronts past
IsThinned c copies fronts (Packet p ∷ past) =
    (fronts p (packets_in past) ≡ thin c.cue_pid copies (sent_in c past) (next_cue_number c past) (cues_at c p past))
    × AreToldApart c.cue_pid copies (sent_in c past) (next_cue_number c past) (stream c fronts past) (cues_at c p past)
    × IsThinned c copies fronts past

-- how many sections copies on the spot give, where the first is no duplicate: of two in a row the second is one, and the third is none
abbrev pub sections_given : ℕ → ℕ
sections_given zero = 0
sections_given (suc zero) = 1
sections_given (suc (suc n)) = suc (sections_given n)

-- by whether the first is a duplicate: behind a duplicate the next is none
abbrev pub sections_of : Bool → ℕ → ℕ
sections_of false n = sections_given n
sections_of true zero = 0
sections_of true (suc n) = sections_given n

-- each cue gives the sections of its copies
abbrev pub AreGiven : ℕ → (List LineTurn → ℕ) → (List LineTurn → ℕ) → List Item → ℕ → List (List ℕ) → List CueOut → Type 0
AreGiven pid copies given items n out [] = Unit {0}
AreGiven pid copies given items n out (cue ∷ cues) =
    (given (line (Sent cue ∷ items)) ≡ sections_of (repeats pid (first_packet pid n (cue_bytes cue)) out) (copies (line (Sent cue ∷ items))))
    × AreGiven pid copies given (Sent cue ∷ items) ((n + 1) % 16) (times (copies (line (Sent cue ∷ items))) (first_packet pid n (cue_bytes cue)) out) cues

abbrev pub GivesSections : Config → (List LineTurn → ℕ) → (List LineTurn → ℕ) → (List ℕ → List (List ℕ) → List (List ℕ)) → List Step → Type 0
GivesSections c copies given fronts [] = Unit {0}
GivesSections c copies given fronts (Message m ∷ past) = GivesSections c copies given fronts past
GivesSections c copies given fronts (Packet p ∷ past) =
    AreGiven c.cue_pid copies given (sent_in c past) (next_cue_number c past) (stream c fronts past) (cues_at c p past) × GivesSections c copies given fronts past

-- THINNED PACKETS: the reader finds of each cue the sections of its copies, one where a cue is doubled on the spot and no duplicate of the one
-- before; and where duplicates tell the same again, what it does not find it has found before
abbrev pub ThinnedBrings : Type 0
ThinnedBrings = (c : Config) (copies : List LineTurn → ℕ) (fronts : List ℕ → List (List ℕ) → List (List ℕ)) (past : List Step) → IsRunOf c past →
    IsThinned c copies fronts past →
    (given : List LineTurn → ℕ) × GivesSections c copies given fronts past × BringsCues c given fronts past
    × LeavesOutRepeats copies given (line (sent_in c past))

-- the injector's own packets are those of which one copy is left
abbrev pub ThinnedOfAll : Type 0
ThinnedOfAll = (c : Config) (p : List ℕ) (past : List Step) → IsRunOf c (Packet p ∷ past) →
    cue_packets c p past (cued c past) ≡ thin c.cue_pid (λ t. 1) (sent_in c past) (next_cue_number c past) (cues_at c p past)

-- THE CUE PATH OF THINNED PACKETS: behind each packet of the network, from the injector's packets of which some are left out and some
-- doubled, a switch has armed an uncancelled event whose start is reached exactly where the injector has accepted it
abbrev pub ThinnedCuePath : Type 0
ThinnedCuePath = (c : Config) (copies : List LineTurn → ℕ) (fronts : List ℕ → List (List ℕ) → List (List ℕ)) (p last : List ℕ) (past later : List Step) →
    IsRunOf c (Packet last ∷ (later ++ Packet p ∷ past)) → IsThinned c copies fronts (Packet p ∷ past) →
    KeepsEnoughOf copies (asked_line c.index (turns_in c.program (Packet last ∷ (later ++ Packet p ∷ past)))) →
    (e : Standing) → e.cancelled ≡ false → before (high_of (Some c.program) (p ∷ packets_in past)) e.start ≡ false →
    In e (armed c.cue_pid (high_of (Some c.program)) (stream c fronts (Packet p ∷ past))) ↔ In e (events c.index (turns_in c.program (Packet p ∷ past)))
