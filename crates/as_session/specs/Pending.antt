-- The bytes of a message that isn't whole.
use Rattle.std.specs.Prelude.{◌≡◌, ℕ, ◌-◌, ◌≤◌, Bool, true, false, List, ◌++◌, length, take}
use Rattle.scte104_codec.specs.declared.framing.Frame.{Frame}
use Rattle.scte104_codec.specs.declared.framing.Frame.TheVariants.{NeedMore, Whole, BadSize}
use Rattle.scte104_codec.specs.Framing.{frame_of}

abbrev pub needs_more : Frame → Bool
needs_more (NeedMore n) = true
needs_more (Whole size) = false
needs_more BadSize = false

-- no whole message and no bad size stands at the front
abbrev pub is_partial : List ℕ → Bool
is_partial bytes = needs_more (frame_of bytes)

-- from what was there, the first `used` bytes of the piece were added
abbrev pub TakesIn : List ℕ → List ℕ → ℕ → List ℕ → Frame → Type 0
TakesIn old piece used new (NeedMore n) = (used ≡ length piece) × (new ≡ old ++ piece)
TakesIn old piece used new (Whole size) = (used ≡ size - length old) × (new ≡ take size (old ++ piece)) × (length new ≡ size) × (size ≤ 65535)
TakesIn old piece used new BadSize = (used ≡ 4 - length old)
