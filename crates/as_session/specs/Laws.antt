-- What holds of whole runs.
use Rattle.std.specs.Prelude.{◌≡◌, ℕ, List, []}
use Rattle.std.specs.List.{AllByRecursion}
use Rattle.wire_fields.specs.Numbers.{AreBytes}
use Rattle.scte104_codec.specs.declared.framing.Frame.{Frame}
use Rattle.scte104_codec.specs.declared.framing.Frame.TheVariants.{NeedMore, Whole, BadSize}
use Rattle.scte104_codec.specs.Framing.{frame_of}
use Rattle.scte104_codec.specs.Reading.{message_of}
use Rattle.scte104_codec.specs.Widths.{ReadingFits}
use Rattle.as_session.specs.Feeding.{State, opened, shut}
use Rattle.as_session.specs.Messages.{joined, Split, Splits, messages_of}
use Rattle.as_session.specs.Runs.{take_pieces, given_in, used_in}

-- each byte string has one split
pub record MessagesAreTheOnlyOnes : Type 0 where
  pub splits : (bytes : List ℕ) → Splits bytes (messages_of bytes)
  pub only : (bytes : List ℕ) (split : Split) → Splits bytes split → messages_of bytes ≡ split

-- a session that was fed these bytes: what is left of them is pending, unless it begins with a bad size
abbrev pub left_by : List ℕ → Frame → State
left_by rest (NeedMore n) = opened rest
left_by rest (Whole size) = opened rest
left_by rest BadSize = shut

-- however the bytes are cut into pieces
pub record AnyPiecesGiveTheMessages : Type 0 where
  pub messages : (pieces : List (List ℕ)) → (take_pieces (opened []) pieces).messages ≡ (messages_of (joined pieces)).messages
  pub after : (pieces : List (List ℕ)) → let rest = (messages_of (joined pieces)).rest in (take_pieces (opened []) pieces).after ≡ left_by rest (frame_of rest)

abbrev pub CallsGiveTheMessages : Type 0
CallsGiveTheMessages = (pieces : List (List ℕ)) → given_in (opened []) pieces ≡ (messages_of (used_in (opened []) pieces)).messages

-- whatever the bytes are, each of their messages is of bytes, and each field that is read of it fits
pub record IsInWidth (m : List ℕ) : Type 0 where
  pub bytes : AreBytes m
  pub fields : ReadingFits (message_of m)

abbrev pub EachMessageFits : Type 0
EachMessageFits = (bytes : List ℕ) → AreBytes bytes → AllByRecursion IsInWidth (messages_of bytes).messages
