-- Slices whose end comes earlier while they run: what is out goes by the end in force.
use Rattle.std.specs.Prelude.{◌≡◌, ℕ, ℤ, ◌≤ℤ◌, ◌++◌, ◌∷◌, List, [], not, ◌&&◌, if◌then◌else◌, Option, Some, All, length, take, drop, reverse, filter, flat_map}
use lib.Signed.{lt_z}
use Rattle.ts_packet.specs.Runs.{Seen, seen_after}
use Rattle.splice_laws.specs.Splicing.{PlayedEvent, SliceUnit, Out, TimedStream, begun, closed, front, as_inserted, kept, placed}
use Rattle.splice_laws.specs.Laws.{IsStream, AreOrdered, IsConditioned}
use Rattle.splice_laws.specs.Settled.{IsSettled, NeverPassesHigh}

-- the slice, for an end
abbrev pub up_to_end : ℤ → List SliceUnit → List SliceUnit
up_to_end stop units = filter (λ (u : SliceUnit). lt_z u.time stop) units

abbrev pub longest_front : List SliceUnit → Option ℤ → List SliceUnit
longest_front units h = take (front units h) units

-- WHAT IS OUT of an event's slice, `stop` being the end in force at a past
abbrev pub sent : TimedStream → PlayedEvent → List SliceUnit → (List (List ℕ) → ℤ) → List (List ℕ) → List SliceUnit
sent r x units stop [] = []
sent r x units stop (p ∷ past) = if closed r x past then sent r x units stop past
    else (if begun r x (p ∷ past) then (if closed r x (p ∷ past) then up_to_end (stop (p ∷ past)) units else longest_front (up_to_end (stop (p ∷ past)) units) (r.high (p ∷ past))) else [])

-- before the packet
abbrev pub sent_at : TimedStream → PlayedEvent → List SliceUnit → (List (List ℕ) → ℤ) → List ℕ → List (List ℕ) → List SliceUnit
sent_at r x units stop p past = drop (length (sent r x units stop past)) (sent r x units stop (p ∷ past))

-- at the end
abbrev pub unsent : TimedStream → PlayedEvent → List SliceUnit → (List (List ℕ) → ℤ) → List (List ℕ) → List SliceUnit
unsent r x units stop past = if begun r x past && not (closed r x past) then drop (length (sent r x units stop past)) (up_to_end (stop past) units) else []

-- all that is out at the end
abbrev pub sent_whole : TimedStream → PlayedEvent → List SliceUnit → (List (List ℕ) → ℤ) → List (List ℕ) → List SliceUnit
sent_whole r x units stop past = sent r x units stop past ++ unsent r x units stop past

abbrev pub carried_now : TimedStream → List PlayedEvent → (PlayedEvent → List SliceUnit) → (PlayedEvent → List (List ℕ) → ℤ) → List (List ℕ) → List Out
carried_now r xs units stop ps =
    flat_map (λ (s : Seen). flat_map (λ (x : PlayedEvent). as_inserted (sent_at r x (units x) (stop x) s.packet s.past)) xs ++ kept r xs s.packet s.past) (seen_after [] ps)
    ++ flat_map (λ (x : PlayedEvent). as_inserted (unsent r x (units x) (stop x) (reverse ps))) xs

-- the end in force with a packet: it is x's last end, or that is still to come; and it never rises
pub record EndsAt (r : TimedStream) (x : PlayedEvent) (stop : List (List ℕ) → ℤ) (s : Seen) : Type 0 where
  pub settled : IsSettled x (Some (stop (s.packet ∷ s.past))) (r.high (s.packet ∷ s.past))
  pub falls : stop (s.packet ∷ s.past) ≤ℤ stop s.past

abbrev pub EndSoon : TimedStream → List PlayedEvent → (PlayedEvent → List (List ℕ) → ℤ) → List (List ℕ) → Type 0
EndSoon r xs stop ps = All (λ (x : PlayedEvent). All (EndsAt r x (stop x)) (seen_after [] ps)) xs

-- THE LAW OF EARLY ENDS, conditioned or not: what has gone out of each slice stands whole in its place
abbrev pub SentIsPlaced : Type 0
SentIsPlaced = (r : TimedStream) → IsStream r → (xs : List PlayedEvent) → AreOrdered xs → (units : PlayedEvent → List SliceUnit) (stop : PlayedEvent → List (List ℕ) → ℤ) →
    (ps : List (List ℕ)) → EndSoon r xs stop ps →
    carried_now r xs units stop ps ≡ placed r xs (λ (x : PlayedEvent). sent_whole r x (units x) (stop x) (reverse ps)) ps

-- THE LAW OF EARLY ENDS: in a conditioned stream these are the slices for the last ends
abbrev pub EndsMayComeEarlier : Type 0
EndsMayComeEarlier = (r : TimedStream) → IsStream r → NeverPassesHigh r → (xs : List PlayedEvent) → AreOrdered xs → (units : PlayedEvent → List SliceUnit) (stop : PlayedEvent → List (List ℕ) → ℤ) →
    (ps : List (List ℕ)) → EndSoon r xs stop ps → All (λ (x : PlayedEvent). stop x (reverse ps) ≡ x.stop) xs → IsConditioned r xs ps →
    carried_now r xs units stop ps ≡ placed r xs (λ (x : PlayedEvent). up_to_end x.stop (units x)) ps
