-- THE TIMELINE of a program: its pictures, and where its greatest time rises, over all packets of a network, newest first.
use Rattle.std.specs.Prelude.{Bool, false, not, ◌&&◌, ◌||◌, ◌==◌, ℕ, ◌+◌, ◌^◌, ℤ, List, [], ◌∷◌, ◌++◌, length, take, if◌then◌else◌, Option, None, Some, is_some}
use lib.Signed.{lt_z}
use Rattle.pes_time.specs.Line.{place as line_place}
use Rattle.unit_stream.specs.Times.{begins, stamp}
use Rattle.ts_packet.specs.Fields.{pid_of, bytes}
use Rattle.ts_packet.specs.Duplicates.{original}
use Rattle.random_access.specs.Marks as said
use Rattle.random_access.specs.Numbering.{continues}
use Rattle.random_access.specs.declared.coding.VideoCoding.{VideoCoding}
use Rattle.program_follower.specs.declared.purpose.Purpose.{Purpose}
use Rattle.program_follower.specs.Program.{listed, program_of, behind_head, pids_of}
use Rattle.program_follower.specs.Streaming.{first_on}
use Rattle.program_follower.specs.Following.{on_map, high_of, streams_of_program}
use Rattle.break_choices.specs.declared.pictures.Picture.{Picture}
use Rattle.break_choices.specs.declared.pre_rolls.Mark.{Mark}
use Rattle.break_timelines.specs.declared.video.Video.{Video}
use Rattle.break_timelines.specs.declared.reader.Timed.{Timed}
use Rattle.break_timelines.specs.declared.pictures.BegunPicture.{BegunPicture}
use Rattle.break_timelines.specs.Cleaning.{lesser_of}
use Rattle.break_timelines.specs.Line.{tick_of}
use Rattle.break_timelines.specs.Video.{video_from}

-- the program of this number is followed, and no cues are
abbrev pub planning : ℕ → Purpose
planning program = record { program = Some program; cue_pid = None; writes_cues = false }

-- ---- units

-- a unit with this time stamp begins in the stream of this place: where it stands
abbrev pub timed_with : ℕ → Option ℤ → Option ℕ → Option Timed
timed_with place high None = None
timed_with place high (Some t) = Some (record { index = place; time = tick_of (line_place high t) })

-- a unit begins in the stream of this place and PID
abbrev pub timed_of : Option (ℕ × ℕ) → List ℕ → List (List ℕ) → Option ℤ → Option Timed
timed_of None p behind high = None
timed_of (Some x) p behind high = if begins x.1 p behind then timed_with x.0 high (stamp p) else None

-- THE UNIT with a time that begins with a packet in a switched stream; none with one on the PID of the map
abbrev pub timed_at : ℕ → List ℕ → List (List ℕ) → Option Timed
timed_at program p past = if on_map (listed (Some program) past) p then None else
    timed_of (first_on (pids_of (program_of (Some program) past)) p) p (behind_head (Some program) past) (high_of (Some program) past)

-- ---- the first time

-- one of the stream of this place has begun
abbrev pub is_of : ℕ → Option Timed → Bool
is_of place None = false
is_of place (Some x) = x.index == place

-- it is one of these
abbrev pub has_place : ℕ → List ℕ → Bool
has_place place [] = false
has_place place (i ∷ is) = (i == place) || has_place place is

unfoldable pub has_begun : ℕ → ℕ → List (List ℕ) → Bool
has_begun program place [] = false
has_begun program place (p ∷ past) = is_of place (timed_at program p past) || has_begun program place past

-- the earlier of the first time so far and a stream's first time
abbrev pub first_with : Option Timed → (ℕ → Bool) → Option ℕ → Option ℕ
first_with None begun first = first
first_with (Some x) begun first = if begun x.index then first else Some (lesser_of first x.time)

-- THE FIRST TIME: the earliest of the first times of the switched streams
unfoldable pub first_of : ℕ → List (List ℕ) → Option ℕ
first_of program [] = None
first_of program (p ∷ past) = first_with (timed_at program p past) (λ place. has_begun program place past) (first_of program past)

-- ---- pictures

-- the picture that begins with a packet, as far as that tells
abbrev pub begun_with : VideoCoding → ℕ → List ℕ → ℕ → BegunPicture
begun_with coding before p time = record {
  coding = coding;
  time = time;
  packet = before;
  is_random_access = is_some (said.mark_for (Some coding) (said.marks_of p));
}

-- if the unit is of the video
abbrev pub begun_of : Option Video → Option Timed → List ℕ → ℕ → Option BegunPicture
begun_of None x p before = None
begun_of (Some v) None p before = None
begun_of (Some v) (Some x) p before = if v.index == x.index then Some (begun_with v.coding before p x.time) else None

-- the picture of the video that begins with a packet
abbrev pub begun_at : ℕ → List ℕ → List (List ℕ) → Option BegunPicture
begun_at program p past = begun_of (video_from 0 (streams_of_program (program_of (Some program) past))) (timed_at program p past) p (length past)

-- WHAT IS LEFT OF A UNIT on a PID, of these packets in the order of the stream: the payloads of those that are no duplicates, before the next
-- unit of the PID or picture of the video begins. `since` are the packets from its begin on, and `past` all packets, both newest first.
unfoldable pub rest_of : ℕ → ℕ → List (List ℕ) → List (List ℕ) → List (List ℕ) → List ℕ
rest_of program pid since past [] = []
rest_of program pid since past (q ∷ after) = if is_some (begun_at program q past) || begins pid q since then [] else
    ((if original pid q since then bytes q else []) ++ rest_of program pid (q ∷ since) (q ∷ past) after)

-- THE UNIT that begins with a packet, by the packets behind it
abbrev pub unit_of : ℕ → List ℕ → List (List ℕ) → List (List ℕ) → List ℕ
unit_of program p past after = bytes p ++ rest_of program (pid_of p) (p ∷ []) (p ∷ past) after

-- how many bytes of a unit are looked at
abbrev pub looked_at : ℕ
looked_at = 2 ^ 16

-- AN ENTRY PICTURE is a random access picture whose unit does not show, as far as it is looked at, that its numbers go on from the pictures
-- before it; whether a cut is clean there, all pictures tell
abbrev pub judged : BegunPicture → List ℕ → Picture
judged b unit = record {
  time = b.time;
  packet = b.packet;
  is_entry = b.is_random_access && not (continues b.coding (take looked_at unit));
  is_clean = false;
}

abbrev pub judged_by : Option BegunPicture → List ℕ → List Picture
judged_by None unit = []
judged_by (Some b) unit = judged b unit ∷ []

-- the picture that begins with a packet
abbrev pub picture_at : ℕ → List ℕ → List (List ℕ) → List (List ℕ) → List Picture
picture_at program p past after = judged_by (begun_at program p past) (unit_of program p past after)

-- the pictures that begin with these packets, newest first, before others in the order of the stream
unfoldable pub pictures_behind : ℕ → List (List ℕ) → List (List ℕ) → List Picture
pictures_behind program [] after = []
pictures_behind program (p ∷ past) after = pictures_behind program past (p ∷ after) ++ picture_at program p past after

-- THE PICTURES, in the order of the stream
abbrev pub pictures_of : ℕ → List (List ℕ) → List Picture
pictures_of program past = pictures_behind program past []

-- ---- the greatest time

abbrev pub mark_at : ℕ → ℤ → Mark
mark_at packet time = record { packet = packet; high = tick_of time }

-- the greatest time is another one behind a packet than before it, which is the packet before this one
abbrev pub risen : Option ℤ → Option ℤ → ℕ → List Mark
risen before None packet = []
risen None (Some high) packet = mark_at packet high ∷ []
risen (Some before) (Some high) packet = if lt_z before high then mark_at packet high ∷ [] else []

-- THE MARKS, in the order of the stream: before each of these packets the greatest time is another one than before the packet in front of it
unfoldable pub rises_of : ℕ → List (List ℕ) → List Mark
rises_of program [] = []
rises_of program (p ∷ past) = rises_of program past ++ risen (high_of (Some program) past) (high_of (Some program) (p ∷ past)) (length past + 1)
