-- What goes out in runs on air, stretch by stretch.
use Rattle.std.specs.Prelude.{◌≡◌, ℕ, List, [], ◌∷◌, ◌++◌, map, reverse, Option, None, Some}
use Rattle.ts_packet.specs.Packets.{packets_of}
use Rattle.program_follower.specs.declared.purpose.Purpose.{Purpose}
use Rattle.program_follower.specs.Program.{pmt_pid_of, since_pat}
use Rattle.chain_engine.specs.Airing.{Aired, Stretch, total}
use Rattle.on_air.specs.Stretches.{Entry, is_judged, as_read, stretches}
use Rattle.on_air.specs.Tails.{TailOf, tail_behind}
use Rattle.on_air.specs.AirRuns.{newest}
use Rattle.on_air.specs.declared.air.Air.{Air}

-- a packet as it is passed on
abbrev pub aired_of : Entry → Aired
aired_of e = record { packet = e.packet; is_judged = is_judged e.judgement }

abbrev pub aired : List Entry → List Aired
aired past = map aired_of past

-- a stretch that ended, as it went out
abbrev pub ended_of : Purpose → List Entry → Stretch
ended_of c past = record { packets = aired past; behind = tail_behind c (as_read past) }

-- all but the newest
abbrev pub ended_in : Purpose → List (List Entry) → List Stretch
ended_in c [] = []
ended_in c (past ∷ earlier) = map (ended_of c) earlier

abbrev pub stretches_in : Purpose → List ℕ → List (List Entry)
stretches_in c bs = stretches c (reverse (packets_of bs))

-- ---- what is known between two packets

-- what the stretches that ended counted, newest first, summed; nothing before the first end
abbrev pub sum_of : {R : Type 0} → (R → R → R) → List R → Option R
sum_of summed [] = None
sum_of summed (report ∷ earlier) = Some (total summed report earlier)

-- A stage on air has come as far as these stretches, and all that went out for them is out. `airs` is the stage's, from its first state, and
-- `is_out` says of packets that they stand behind what was there.
pub record IsOnAir {S R : Type 0} (summed : R → R → R) (airs : List Stretch → List Aired → List R → List (List ℕ) → S → Type 0) (air : Air R)
    (stage : S) (c : Purpose) (ss : List (List Entry)) (is_out : List (List ℕ) → Type 0) : Type 0 where
  pub tail : TailOf air.tail c (as_read (newest ss))
  pub told : List R
  pub ended : air.ended ≡ sum_of summed told
  pub sent : List (List ℕ)
  pub airs_so : airs (ended_in c ss) (aired (newest ss)) told sent stage
  pub out : is_out sent

-- A stretch ended whose packets were read so, and the next one began: what went out behind it is out too, and what it counted is summed.
pub record BeganAnew {S R : Type 0} (summed : R → R → R) (airs : List Stretch → List Aired → List R → List (List ℕ) → S → Type 0) (air : Air R)
    (stage : S) (c : Purpose) (read : List (List ℕ)) (ended : List Stretch) (last : List Aired) (qs : List (List ℕ))
    (is_out : List (List ℕ) → Type 0) : Type 0 where
  pub told : List R
  pub ended_so : air.ended ≡ sum_of summed told
  pub airs_so : airs (record { packets = last; behind = tail_behind c read } ∷ ended) [] told (qs ++ tail_behind c read) stage
  pub out : is_out (qs ++ tail_behind c read)

-- The network has ended behind these stretches, and left the stage so: all that went out is out, and this was counted, summed. `tells` is the
-- stage's, from its first state.
pub record EndsOnAir {S R : Type 0} (summed : R → R → R) (tells : List Stretch → List Aired → List R → List (List ℕ) → R → S → Type 0)
    (c : Purpose) (ss : List (List Entry)) (report : R) (now : S) (is_out : List (List ℕ) → Type 0) : Type 0 where
  pub told : List R
  pub last : R
  pub sent : List (List ℕ)
  pub tells_so : tells (ended_in c ss) (aired (newest ss)) told sent last now
  pub summed_so : report ≡ total summed last told
  pub out : is_out sent
