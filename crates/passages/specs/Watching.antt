-- What is seen of a stream that goes by.
use Rattle.std.specs.Prelude.{ℕ, ◌+◌, ◌-◌, ◌^◌, min, pos, int_lt, true, false, if◌then◌else◌, List, Option, None, Some}
use Rattle.pes_time.specs.Line.{signed}
use Rattle.pes_time.specs.Stamps.{stamp_of}
use Rattle.passages.specs.declared.watch.StampRange.{StampRange}
use Rattle.passages.specs.declared.watch.Watch.{Watch}

-- the range with one more stamp: on the ring, a stamp lies before another where the shorter way to it leads back
abbrev pub with_stamp : Option StampRange → ℕ → StampRange
with_stamp None pts = record { least = pts; greatest = pts }
with_stamp (Some r) pts = record {
  least = if int_lt (signed pts r.least) (pos 0) then pts else r.least;
  greatest = if int_lt (pos 0) (signed pts r.greatest) then pts else r.greatest;
}

-- the same with the stamp of a unit, where it has one
abbrev pub with_unit : Option StampRange → Option ℕ → Option StampRange
with_unit range None = range
with_unit range (Some pts) = Some (with_stamp range pts)

-- nothing was seen
abbrev pub nothing_seen : Watch
nothing_seen = record { packets = 0; last = None; was_refused = false; units = 0; stamps = None }

-- one packet more went by, on this PID
abbrev pub with_packet : ℕ → Watch → Watch
with_packet pid w = record { packets = min (w.packets + 1) (2 ^ 64 - 1); last = Some pid; was_refused = w.was_refused; units = w.units; stamps = w.stamps }

-- one unit more began, with this payload
abbrev pub with_begun : List ℕ → Watch → Watch
with_begun payload w = record {
  packets = w.packets;
  last = w.last;
  was_refused = w.was_refused;
  units = min (w.units + 1) (2 ^ 64 - 1);
  stamps = with_unit w.stamps (stamp_of payload);
}

-- what came next was no packet
abbrev pub without_packet : Watch → Watch
without_packet w = record { packets = w.packets; last = None; was_refused = true; units = w.units; stamps = w.stamps }

-- the number, from 0, of the last packet, or of what was no packet behind it
abbrev pub last_number : Watch → ℕ
last_number w = if w.was_refused then w.packets else w.packets - 1
