-- Whole runs of a session: one call after another.
use Rattle.std.specs.Prelude.{ℕ, zero, suc, List, [], ◌∷◌, ◌++◌, length, take, drop}
use Rattle.as_session.specs.Feeding.{State, Given, nothing, message, tells_shut, Fed, feed_of}

-- the messages that came out, and the session then
pub record Received : Type 0 where
  pub messages : List (List ℕ)
  pub after : State

abbrev pub messages_in : Given → List (List ℕ)
messages_in nothing = []
messages_in (message m) = m ∷ []
messages_in tells_shut = []

-- ---- a piece that is fed to its end: what a call leaves of it is fed again

abbrev pub taken_by : (State → List ℕ → Received) → List ℕ → Fed → Given → Received
taken_by again piece fed nothing = record { messages = []; after = fed.after }
taken_by again piece fed (message m) = let others = again fed.after (drop fed.used piece) in record { messages = m ∷ others.messages; after = others.after }
taken_by again piece fed tells_shut = record { messages = []; after = fed.after }

-- in at most so many calls
unfoldable pub take_within : ℕ → State → List ℕ → Received
take_within zero s piece = record { messages = []; after = s }
take_within (suc n) s piece = taken_by (take_within n) piece (feed_of s piece) (feed_of s piece).gives

-- each message uses a byte of the piece at least
abbrev pub take_piece : State → List ℕ → Received
take_piece s piece = take_within (suc (length piece)) s piece

-- one piece after another
abbrev pub take_pieces : State → List (List ℕ) → Received
take_pieces s [] = record { messages = []; after = s }
take_pieces s (piece ∷ pieces) =
    record {
      messages = (take_piece s piece).messages ++ (take_pieces (take_piece s piece).after pieces).messages;
      after = (take_pieces (take_piece s piece).after pieces).after;
    }

-- ---- calls with any pieces

abbrev pub given_in : State → List (List ℕ) → List (List ℕ)
given_in s [] = []
given_in s (piece ∷ pieces) = messages_in (feed_of s piece).gives ++ given_in (feed_of s piece).after pieces

-- the bytes that they used
abbrev pub used_in : State → List (List ℕ) → List ℕ
used_in s [] = []
used_in s (piece ∷ pieces) = take (feed_of s piece).used piece ++ used_in (feed_of s piece).after pieces
