-- What is said of what is put: by the answer of a call, and behind each past that its caller knows.
use Rattle.std.specs.Prelude.{ℕ, List, ◌++◌, Bool, Option, Result, OnOk, IfErr}
use Rattle.ts_packet.specs.declared.sink.PacketSink as sink
use Rattle.ts_packet.specs.declared.sink.PutFault.{PutFault}
use Rattle.psi_tables.specs.declared.stream.Stream.{Stream}
use Rattle.outgoing_packets.specs.Numbers.{FrontFails}
use Rattle.ad_library.specs.Advertisements.{Advertisement}
use Rattle.splice_plans.specs.Counters.{PidSteps}
use Rattle.splice_plans.specs.Switching.{Setting}
use Rattle.splice_plans.specs.Stepping.{front_by, place_by, rest_by}
use Rattle.splice_playing.specs.declared.playing.Playing.{Playing}
use Rattle.splice_playing.specs.Relations.{PlaysBy, PlaysBefore, BeginsIn, IsPacketOf, EndsWith}

-- what is said of packets that are put behind those that a sink holds, behind this start
abbrev pub OfPuts : Type 1
OfPuts = Option (List ℕ) → List (List ℕ) → List (List ℕ) → Type 0

-- where the answer is well, they are out
abbrev pub PutsAll : {S R F : Type 0} → sink.Ghosts S → S → Result R F → OfPuts
PutsAll puts out answer start before ps = OnOk answer (puts.holds out start (before ++ ps))

-- where it is a fault, a front of them is, and the next one failed so
abbrev pub PutsFront : {S R : Type 0} → sink.Ghosts S → S → Result R PutFault → OfPuts
PutsFront puts out answer start before ps = IfErr answer (λ f. FrontFails ps (λ put p. puts.fails out start (before ++ put) p f))

-- So it is said where a unit begins with a packet, with this stamp, in the stream of this number, and behind it this is the greatest time; and
-- of what goes out before the packet.
module _ (playing : Playing) (filed : ℕ → Option Advertisement) (listed : List Stream) (number : ℕ) (time high : Option ℕ) where
  abbrev pub AtUnitStart : (Setting → List ℕ → List (List ℕ) → PidSteps → Type 0) → Type 0
  AtUnitStart said = (k : Setting) (p : List ℕ) (past : List (List ℕ)) (steps : PidSteps) → PlaysBy playing k past steps
      → BeginsIn k filed listed number time high p past → said k p past steps

  abbrev pub OfUnitStart : {S : Type 0} → sink.Ghosts S → S → OfPuts → Type 0
  OfUnitStart puts out said = (start : Option (List ℕ)) (before : List (List ℕ)) (k : Setting) (p : List ℕ) (past : List (List ℕ))
      (steps : PidSteps) → puts.holds out start before → PlaysBy playing k past steps
      → BeginsIn k filed listed number time high p past → said start before (front_by k steps p past)

-- and of what goes out in the place of this packet, which is of the stream of this number
abbrev pub OfPlace : {S : Type 0} → Playing → ℕ → Bool → List ℕ → sink.Ghosts S → S → OfPuts → Type 0
OfPlace playing number is_start p puts out said = (start : Option (List ℕ)) (before : List (List ℕ)) (k : Setting) (past : List (List ℕ))
    (steps : PidSteps) → puts.holds out start before → PlaysBefore playing k p past steps
    → IsPacketOf k number is_start p past → said start before (place_by k steps p past)

-- and of what is left at the end
abbrev pub OfRest : {S : Type 0} → Playing → (ℕ → Option Advertisement) → List Stream → sink.Ghosts S → S → OfPuts → Type 0
OfRest playing filed listed puts out said = (start : Option (List ℕ)) (before : List (List ℕ)) (k : Setting) (past : List (List ℕ))
    (steps : PidSteps) → puts.holds out start before → PlaysBy playing k past steps
    → EndsWith k filed listed past → said start before (rest_by k steps past)
