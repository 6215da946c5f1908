-- What a reader of a timeline, and a timeline, stand for.
use Rattle.std.specs.Prelude.{◌≡◌, ℕ, ◌+◌, List, [], ◌∷◌, length, Option, Some, option_map}
use Rattle.std.specs.Option.{option_to_list}
use Rattle.psi_tables.specs.declared.network.NetworkFault.{NetworkFault}
use Rattle.program_follower.specs.Following.{StartsStandFor, high_of}
use Rattle.break_timelines.specs.declared.reader.TimelineReader.{TimelineReader}
use Rattle.break_timelines.specs.declared.reader.Rise.{Rise}
use Rattle.break_timelines.specs.declared.reader.TimelineFault.{TimelineFault}
use Rattle.break_timelines.specs.declared.reader.TimelineFault.TheVariants.{Network, Long, OutOfMemory}
use Rattle.break_timelines.specs.declared.timeline.Timeline.{Timeline}
use Rattle.break_timelines.specs.Line.{tick_of, IsPast, Follows}
use Rattle.break_timelines.specs.Timelines.{planning, has_place, has_begun, first_of, pictures_of, risen, rises_of}
use Rattle.break_timelines.specs.Pictures.{ArePictures}
use Rattle.break_timelines.specs.Cleaning.{cleaned_behind}

-- of each stream it is known whether a unit with a time has begun
abbrev pub HasBegun : List ℕ → ℕ → List (List ℕ) → Type 0
HasBegun begun program past = (place : ℕ) → has_place place begun ≡ has_begun program place past

-- It reads the timeline of this program, was fed this past, newest first, and answered no fault.
pub record ReaderStandsFor (r : TimelineReader) (program : ℕ) (past : List (List ℕ)) : Type 0 where
  pub follower : StartsStandFor r.follower (planning program) past
  pub packets : r.packets ≡ length past
  pub high : r.high ≡ option_map tick_of (high_of (Some program) past)
  pub is_past : IsPast (high_of (Some program) past)
  pub first : r.first ≡ first_of program past
  pub begun : HasBegun r.begun.items program past
  pub pictures : ArePictures r.pictures program past
  pub marks : r.marks.items ≡ rises_of program past

-- Its follower was fed a packet more, and nothing else of it.
pub record ReaderMeets (r : TimelineReader) (program : ℕ) (p : List ℕ) (past : List (List ℕ)) : Type 0 where
  pub follower : StartsStandFor r.follower (planning program) (p ∷ past)
  pub packets : r.packets ≡ length past
  pub high : r.high ≡ option_map tick_of (high_of (Some program) past)
  pub is_past : IsPast (high_of (Some program) past)
  pub follows : Follows (high_of (Some program) past) (high_of (Some program) (p ∷ past))
  pub first : r.first ≡ first_of program past
  pub begun : HasBegun r.begun.items program past
  pub pictures : ArePictures r.pictures program past
  pub marks : r.marks.items ≡ rises_of program past

-- what the packet is to the greatest time
pub record IsRise (x : Rise) (program : ℕ) (p : List ℕ) (past : List (List ℕ)) : Type 0 where
  pub packets : x.packets ≡ length past + 1
  pub high : x.high ≡ option_map tick_of (high_of (Some program) (p ∷ past))
  pub is_past : IsPast (high_of (Some program) (p ∷ past))
  pub mark : option_to_list x.mark ≡ risen (high_of (Some program) past) (high_of (Some program) (p ∷ past)) (length past + 1)

-- what a fault says of the packet
abbrev pub SaysOf : TimelineFault → Option NetworkFault → Type 0
SaysOf (Network fault) wrong = wrong ≡ Some fault
SaysOf Long wrong = Unit {0}
SaysOf OutOfMemory wrong = Unit {0}

-- IT IS THE TIMELINE of the program in these packets, newest first
pub record IsTimelineOf (t : Timeline) (program : ℕ) (past : List (List ℕ)) : Type 0 where
  pub follower : StartsStandFor t.follower (planning program) past
  pub first : t.first ≡ first_of program past
  pub pictures : t.pictures.items ≡ cleaned_behind [] (pictures_of program past)
  pub marks : t.marks.items ≡ rises_of program past
