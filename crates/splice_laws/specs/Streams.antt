-- All switched streams of a run at once: what goes out before each packet, and whether it passes.
use Rattle.std.specs.Prelude.{◌≡◌, ℕ, ◌==◌, ◌++◌, ◌∷◌, ◌⊎◌, List, [], Bool, false, not, if◌then◌else◌, map, flat_map, reverse, All, ℤ, Option}
use Rattle.ts_packet.specs.Fields.{payload_on, is_among}
use Rattle.ts_packet.specs.Runs.{Seen, seen_after}
use Rattle.unit_stream.specs.Fates.{is_left_out}
use Rattle.splice_laws.specs.Splicing.{PlayedEvent, SliceUnit, Out, Network, Inserted, TimedStream, stream, closed, out_of, inserted, rest, outside, carried, carried_by}
use Rattle.splice_laws.specs.Laws.{AreOrdered, IsConditioned, CountsOver}
use Rattle.splice_laws.specs.Ends.{sent_at, unsent, carried_now, EndSoon}
use Rattle.splice_laws.specs.Rows.{carried_items, splice_units}

-- a packet passes, or a unit of a slice goes out on a PID
pub data Act : Type 0 where
  Through : List ℕ → Act
  Insert : ℕ → SliceUnit → Act

-- What goes out of a slice before the packet that closes it, and of one that runs on; `piece` is what goes out before a packet.
abbrev pub closing : TimedStream → PlayedEvent → (List ℕ → List (List ℕ) → List SliceUnit) → List ℕ → List (List ℕ) → List SliceUnit
closing r x piece p past = if closed r x (p ∷ past) then piece p past else []

abbrev pub running : TimedStream → PlayedEvent → (List ℕ → List (List ℕ) → List SliceUnit) → List ℕ → List (List ℕ) → List SliceUnit
running r x piece p past = if closed r x (p ∷ past) then [] else piece p past

abbrev pub insert_on : ℕ → List SliceUnit → List Act
insert_on pid us = map (λ (u : SliceUnit). Insert pid u) us

-- of all events, in order of start
abbrev pub all_closing : TimedStream → List PlayedEvent → (PlayedEvent → List ℕ → List (List ℕ) → List SliceUnit) → List ℕ → List (List ℕ) → List SliceUnit
all_closing r xs piece p past = flat_map (λ (x : PlayedEvent). closing r x (piece x) p past) xs

abbrev pub all_running : TimedStream → List PlayedEvent → (PlayedEvent → List ℕ → List (List ℕ) → List SliceUnit) → List ℕ → List (List ℕ) → List SliceUnit
all_running r xs piece p past = flat_map (λ (x : PlayedEvent). running r x (piece x) p past) xs

-- on each PID of some
abbrev pub on_each : List ℕ → (ℕ → List SliceUnit) → List Act
on_each pids f = flat_map (λ (pid : ℕ). insert_on pid (f pid)) pids

-- the packet is of a unit in an event
abbrev pub is_dropped : List ℕ → List PlayedEvent → List ℕ → List (List ℕ) → List ℕ → Bool
is_dropped switched xs p past pids = is_left_out (λ (pid : ℕ) (t : Option ℤ). not (outside xs t)) switched p past pids

-- before each packet the slices that it closes, then by stream what has come due of those that run; at the end by stream what is left
abbrev pub spliced_at : List ℕ → List PlayedEvent → (ℕ → PlayedEvent → List ℕ → List (List ℕ) → List SliceUnit) → Seen → List Act
spliced_at switched xs piece s =
    (on_each switched (λ (pid : ℕ). all_closing (stream switched pid) xs (piece pid) s.packet s.past) ++ on_each switched (λ (pid : ℕ). all_running (stream switched pid) xs (piece pid) s.packet s.past))
    ++ (if is_dropped switched xs s.packet s.past switched then [] else Through s.packet ∷ [])

abbrev pub spliced_with : List ℕ → List PlayedEvent → (ℕ → PlayedEvent → List ℕ → List (List ℕ) → List SliceUnit) → (ℕ → PlayedEvent → List (List ℕ) → List SliceUnit) → List (List ℕ) → List Act
spliced_with switched xs piece left ps =
    flat_map (spliced_at switched xs piece) (seen_after [] ps) ++ on_each switched (λ (pid : ℕ). flat_map (λ (x : PlayedEvent). left pid x (reverse ps)) xs)

-- by a count
abbrev pub spliced_by : List ℕ → List PlayedEvent → (ℕ → PlayedEvent → List SliceUnit) → (ℕ → PlayedEvent → List (List ℕ) → ℕ) → List (List ℕ) → List Act
spliced_by switched xs slice out ps =
    spliced_with switched xs (λ (pid : ℕ) (x : PlayedEvent). inserted (slice pid x) (out pid x)) (λ (pid : ℕ) (x : PlayedEvent). rest (stream switched pid) x (slice pid x) (out pid x)) ps

-- by the ends in force
abbrev pub spliced_now : List ℕ → List PlayedEvent → (ℕ → PlayedEvent → List SliceUnit) → (PlayedEvent → List (List ℕ) → ℤ) → List (List ℕ) → List Act
spliced_now switched xs units stop ps =
    spliced_with switched xs (λ (pid : ℕ) (x : PlayedEvent). sent_at (stream switched pid) x (units pid x) (stop x)) (λ (pid : ℕ) (x : PlayedEvent). unsent (stream switched pid) x (units pid x) (stop x)) ps

-- THE SPLICE OF A RUN
abbrev pub spliced : List ℕ → List PlayedEvent → (ℕ → PlayedEvent → List SliceUnit) → List (List ℕ) → List Act
spliced switched xs slice ps = spliced_by switched xs slice (λ (pid : ℕ) (x : PlayedEvent). out_of (stream switched pid) x (slice pid x)) ps

-- ---- read by streams

-- a PID's payload packets and slice units
abbrev pub of_stream : ℕ → List Act → List Out
of_stream pid [] = []
of_stream pid (Through p ∷ acts) = if payload_on pid p then Network p ∷ of_stream pid acts else of_stream pid acts
of_stream pid (Insert q u ∷ acts) = if q == pid then Inserted u ∷ of_stream pid acts else of_stream pid acts

-- it is one of them, once
abbrev pub IsOnce : ℕ → List ℕ → Type 0
IsOnce pid [] = ⊥
IsOnce pid (q ∷ qs) = ((q ≡ pid) × (is_among pid qs ≡ false)) ⊎ (((q == pid) ≡ false) × IsOnce pid qs)

-- THE LAW OF STREAMS, FOR ANY COUNT
abbrev pub StreamsCarryByCount : Type 0
StreamsCarryByCount = (switched : List ℕ) (xs : List PlayedEvent) → AreOrdered xs → (slice : ℕ → PlayedEvent → List SliceUnit) (out : ℕ → PlayedEvent → List (List ℕ) → ℕ) (ps : List (List ℕ)) →
    (pid : ℕ) → IsOnce pid switched → All (λ (x : PlayedEvent). All (CountsOver (stream switched pid) x (slice pid x) (out pid x)) (seen_after [] ps)) xs →
    of_stream pid (spliced_by switched xs slice out ps) ≡ carried_by (stream switched pid) xs (slice pid) (out pid) ps

-- THE LAW OF STREAMS: each switched PID carries what it would carry alone
abbrev pub StreamsCarry : Type 0
StreamsCarry = (switched : List ℕ) (xs : List PlayedEvent) → AreOrdered xs → (slice : ℕ → PlayedEvent → List SliceUnit) (ps : List (List ℕ)) (pid : ℕ) → IsOnce pid switched →
    of_stream pid (spliced switched xs slice ps) ≡ carried (stream switched pid) xs (slice pid) ps

-- THE HEADLINE'S HALF: in a conditioned stream its units and the slices, as their times say
abbrev pub StreamsAreSpliced : Type 0
StreamsAreSpliced = (switched : List ℕ) (xs : List PlayedEvent) → AreOrdered xs → (slice : ℕ → PlayedEvent → List SliceUnit) (ps : List (List ℕ)) (pid : ℕ) → IsOnce pid switched →
    IsConditioned (stream switched pid) xs ps → of_stream pid (spliced switched xs slice ps) ≡ carried_items pid ps (splice_units switched pid xs (slice pid) ps)

-- THE LAW OF STREAMS, FOR EARLY ENDS
abbrev pub StreamsCarryNow : Type 0
StreamsCarryNow = (switched : List ℕ) (xs : List PlayedEvent) → AreOrdered xs → (units : ℕ → PlayedEvent → List SliceUnit) (stop : PlayedEvent → List (List ℕ) → ℤ) (ps : List (List ℕ)) →
    (pid : ℕ) → IsOnce pid switched → EndSoon (stream switched pid) xs stop ps →
    of_stream pid (spliced_now switched xs units stop ps) ≡ carried_now (stream switched pid) xs (units pid) stop ps
