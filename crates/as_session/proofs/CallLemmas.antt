-- For callers that feed a piece to its end: one call more, and the last call.
use Rattle.std.proofs.Common.{◌≡◌, ℕ, suc, List, [], ◌∷◌, drop, refl}
use Rattle.std.specs.Borrow.{Bor}
use Rattle.as_session.specs.declared.session.Got.{Got}
use Rattle.as_session.specs.declared.session.Got.TheVariants as got
use Rattle.as_session.specs.Feeding.{State, message, Fed, feed_of}
use Rattle.as_session.specs.Runs.{taken_by, take_within}
use Rattle.as_session.specs.Session.{given}

-- a message came, and what the call left of the piece is fed again
pub one_more : (n : ℕ) (s : State) (piece m : List ℕ) → message m ≡ (feed_of s piece).gives
    → let others = take_within n (feed_of s piece).after (drop (feed_of s piece).used piece) in
    take_within (suc n) s piece ≡ record { messages = m ∷ others.messages; after = others.after }
unfolding take_within
one_more n s piece m e = rw (← e) refl

last_by : (n : ℕ) (piece : List ℕ) (fed : Fed) (g : Got) → ((m : Bor (List ℕ)) → g ≡ got.Message m → ⊥) → taken_by (take_within n) piece fed (given g) ≡ record { messages = []; after = fed.after }
last_by n piece fed got.None none = refl
last_by n piece fed (got.Message m) none = absurd (none m refl)
last_by n piece fed got.Closed none = refl

-- no message came
pub last_call : (n : ℕ) (s : State) (piece : List ℕ) (g : Got) → ((m : Bor (List ℕ)) → g ≡ got.Message m → ⊥) → given g ≡ (feed_of s piece).gives → take_within (suc n) s piece ≡ record { messages = []; after = (feed_of s piece).after }
unfolding take_within
last_call n s piece g none e = rw (← e) (last_by n piece (feed_of s piece) g none)
