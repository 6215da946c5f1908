-- What a sink of packets stands for, what its device counts, and why a put may fail.
use Rattle.std.specs.Prelude.{◌≡◌, ◌≢◌, ℕ, ◌^◌, ◌≤◌, Bool, true, false, ◌⊎◌, List, ◌++◌, take, Option, Some, IfSome}
use Rattle.std.proofs.Math.Nat.{le_refl, le_trans}
use Rattle.ts_packet.specs.Packets.{bytes_of}
use Rattle.ts_packet.specs.declared.tally.Tally.{Tally}
use Rattle.ts_packet.specs.Transfers.{WentWell, LastMovedNone, LastFailed, TookTurns}
use Rattle.ts_packet.specs.declared.sink.PutFault.{PutFault}
use Rattle.ts_packet.specs.declared.sink.PutFault.TheVariants.{Io, Stuck, Turns, Failed}

-- counts never fall
pub record Later (old new : Tally) : Type 0 where
  pub calls : old.calls ≤ new.calls
  pub failed : old.failed ≤ new.failed
  pub zeros : old.zeros ≤ new.zeros

-- a law of them: they are no less than themselves
pub Later-refl : (a : Tally) → Later a a
Later-refl a = record { calls = le_refl a.calls; failed = le_refl a.failed; zeros = le_refl a.zeros }

-- and another: what comes after the later comes after the former
pub Later-trans : (a b c : Tally) → Later a b → Later b c → Later a c
Later-trans a b c h k = record { calls = le_trans h.calls k.calls; failed = le_trans h.failed k.failed; zeros = le_trans h.zeros k.zeros }

-- What the calls of the device came to where a put failed so, each packet in so many turns at most; the last is whether the sink is
-- full afterwards.
abbrev pub BlamedIn : ℕ → PutFault → Tally → Tally → Bool → Type 0
BlamedIn turns Io old new full = LastFailed old new
BlamedIn turns Stuck old new full = LastMovedNone old new ⊎ ((full ≡ true) × WentWell old new)
BlamedIn turns Turns old new full = TookTurns turns old new
BlamedIn turns Failed old new full = Unit {0}

abbrev pub Blamed : PutFault → Tally → Tally → Bool → Type 0
Blamed = BlamedIn (2 ^ 20)

-- where bytes were known first, those are known, and then the packets
abbrev pub Written : Option (List ℕ) → Option (List ℕ) → List (List ℕ) → Type 0
Written known start ps = IfSome start (λ bs. known ≡ Some (bs ++ bytes_of ps))

-- and then a front of a further packet
abbrev pub FailsToWrite : Option (List ℕ) → Option (List ℕ) → List (List ℕ) → List ℕ → Type 0
FailsToWrite known start ps p = (n : ℕ) × IfSome start (λ bs. known ≡ Some (bs ++ (bytes_of ps ++ take n p)))

-- a writer that has failed in no put, and what is known of its device
abbrev pub HasWritten : Bool → Option (List ℕ) → Option (List ℕ) → List (List ℕ) → Type 0
HasWritten broken known start ps = (broken ≡ false) × Written known start ps

-- one whose put of this packet failed so, behind these
abbrev pub HasFailed : Bool → PutFault → Option (List ℕ) → Option (List ℕ) → List (List ℕ) → List ℕ → Type 0
HasFailed broken fault known start ps p = (broken ≡ true) × (fault ≢ Failed) × FailsToWrite known start ps p

-- one that could not send what it kept back of these: its device holds them all, and a front of them is out
abbrev pub HasFailedToSend : Bool → PutFault → Option (List ℕ) → Option (List ℕ) → List (List ℕ) → Type 0
HasFailedToSend broken fault known start ps = (broken ≡ true) × (fault ≢ Failed) × Written known start ps
