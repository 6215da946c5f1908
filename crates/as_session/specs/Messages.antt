-- The messages of a byte string.
use Rattle.std.specs.Prelude.{◌≡◌, ℕ, zero, suc, List, [], ◌∷◌, ◌++◌, length, take, drop}
use Rattle.std.specs.List.{flat_map, AllByRecursion}
use Rattle.scte104_codec.specs.declared.framing.Frame.{Frame}
use Rattle.scte104_codec.specs.declared.framing.Frame.TheVariants.{NeedMore, Whole, BadSize}
use Rattle.scte104_codec.specs.Framing.{frame_of}

-- one whole message, as long as its size says
abbrev pub IsMessage : List ℕ → Type 0
IsMessage m = frame_of m ≡ Whole (length m)

-- no whole message stands at the front
abbrev pub NoneFirst : Frame → Type 0
NoneFirst (NeedMore n) = Unit {0}
NoneFirst (Whole size) = ⊥
NoneFirst BadSize = Unit {0}

abbrev pub joined : List (List ℕ) → List ℕ
joined parts = flat_map (λ part. part) parts

-- the messages, in order, and the rest
pub record Split : Type 0 where
  pub messages : List (List ℕ)
  pub rest : List ℕ

-- the bytes are these messages, one after another, and a rest with no whole message at its front
pub record Splits (bytes : List ℕ) (split : Split) : Type 0 where
  pub parts : bytes ≡ joined split.messages ++ split.rest
  pub each : AllByRecursion IsMessage split.messages
  pub none_first : NoneFirst (frame_of split.rest)

-- the message at the front, and the split of what is behind it
abbrev pub split_by : (List ℕ → Split) → List ℕ → Frame → Split
split_by others bytes (NeedMore n) = record { messages = []; rest = bytes }
split_by others bytes (Whole size) = let behind = others (drop size bytes) in record { messages = take size bytes ∷ behind.messages; rest = behind.rest }
split_by others bytes BadSize = record { messages = []; rest = bytes }

-- at most so many messages of the front
unfoldable pub messages_within : ℕ → List ℕ → Split
messages_within zero bytes = record { messages = []; rest = bytes }
messages_within (suc n) bytes = split_by (messages_within n) bytes (frame_of bytes)

-- no message is shorter than a byte
abbrev pub messages_of : List ℕ → Split
messages_of bytes = messages_within (length bytes) bytes
