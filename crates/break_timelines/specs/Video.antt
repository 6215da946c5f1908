-- The video of a program, of whose pictures something is known.
use Rattle.std.specs.Prelude.{ℕ, ◌+◌, List, [], ◌∷◌, Option, None, Some}
use Rattle.psi_tables.specs.declared.stream.Stream.{Stream}
use Rattle.random_access.specs.declared.coding.VideoCoding.{VideoCoding}
use Rattle.random_access.specs.Marks.{coding_of}
use Rattle.break_timelines.specs.declared.video.Video.{Video}

-- the stream at a place, if it is video of this coding, or else another one
abbrev pub or_video : ℕ → Option VideoCoding → Option Video → Option Video
or_video place None other = other
or_video place (Some coding) other = Some (record { index = place; coding = coding })

-- THE VIDEO among these streams, the first of which has this place: the first whose coding is known
abbrev pub video_from : ℕ → List Stream → Option Video
video_from place [] = None
video_from place (s ∷ ss) = or_video place (coding_of s.kind) (video_from (place + 1) ss)
