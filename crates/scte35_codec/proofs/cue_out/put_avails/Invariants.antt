use Rattle.std.proofs.Common.{◌≡◌, ◌++◌, take}
use Rattle.std.specs.List.{flat_map}
use Rattle.scte35_codec.specs.Spelling.{avail_descriptor_bytes}
use Rattle.scte35_codec.proofs.cue_out.put_avails.Given as goal

-- the descriptors of the ids so far stand behind what was there
abbrev pub invariant-loop-id : goal.invariant-loop-id
invariant-loop-id l = l.out.items ≡ l.initial.out.items ++ flat_map avail_descriptor_bytes (take l.id-index l.avails)
