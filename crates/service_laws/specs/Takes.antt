-- What a run of one service's chain is given where the automation speaks for several: at each packet the messages with its index that were
-- judged before it, joined.
use Rattle.std.specs.Prelude.{ℕ, zero, suc, List, [], ◌∷◌, ◌++◌, filter, length, take}
use Rattle.scte104_codec.specs.Reading.{message_of}
use Rattle.as_session.specs.Messages.{joined}
use Rattle.chain_engine.specs.Automation.{Take, piece}
use Rattle.chain_engine.specs.Talks.{messages_judged, judged_before}
use Rattle.service_laws.specs.Messages.{is_for}

-- those of these messages that have this index
abbrev pub own_messages : ℕ → List (List ℕ) → List (List ℕ)
own_messages index ms = filter (λ m. is_for index (message_of m)) ms

-- THE TAKES before so many packets, where so many messages of all takes are judged
abbrev pub own_takes : ℕ → ℕ → List Take → ℕ → List Take
own_takes index most takes zero = []
own_takes index most takes (suc k) = own_takes index most takes k ++ piece (joined (own_messages index (judged_before most takes k))) ∷ []

-- how many messages stand in them
abbrev pub own_judged : ℕ → ℕ → List Take → ℕ → ℕ
own_judged index most takes k = length (own_messages index (messages_judged most (take k takes)))
