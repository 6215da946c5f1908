-- Where the reading of a stream stops: at one read, behind packets with which nothing is wrong. The functions are the source's.
use Rattle.std.specs.Prelude.{◌≡◌, ◌⊎◌, ℕ, ◌+◌, List, reverse, Bool, true, false, Option, Some}
use Rattle.std.specs.Io.KnownBytes.{IsAtEnd}
use Rattle.ts_packet.specs.Sources.{WasGiven, HasGiven, Refuses, SourceCounts, SourceBlamed}
use Rattle.ts_packet.specs.declared.tally.Tally.{Tally}
use Rattle.ts_packet.specs.declared.reader.ReadFault.{ReadFault}
use Rattle.ts_packet.specs.declared.reader.ReadFault.TheVariants as read_faults
use Rattle.ad_library.specs.declared.fault.AdFault.{AdFault}
use Rattle.ad_library.specs.Faults.{ad_fault_at, end_fault, of_read, is_of_library, IsWhatIsWrong}
use Rattle.ad_library.specs.Reading.{AreClean}

-- ---- one read

-- it gave this packet
pub record GavePacket {X : Type 0} (left : X → Option (List ℕ)) (given : X → ℕ) (counts : X → Tally) (ended broken : X → Bool) (p : List ℕ) (at now : X) : Type 0 where
  pub packet : WasGiven (left at) (left now) p
  pub one : given now ≡ given at + 1
  pub moved : SourceCounts true (ended at) (ended now) (counts at) (counts now)
  pub whole : broken now ≡ false

-- it told the end
pub record ToldEnd {X : Type 0} (left : X → Option (List ℕ)) (given : X → ℕ) (counts : X → Tally) (ended broken : X → Bool) (at now : X) : Type 0 where
  pub end : IsAtEnd (left at) × IsAtEnd (left now)
  pub none : given now ≡ given at
  pub moved : SourceCounts false (ended at) (ended now) (counts at) (counts now)
  pub whole : broken now ≡ false

-- it answered this fault
pub record ToldFault {X : Type 0} (left : X → Option (List ℕ)) (given : X → ℕ) (counts : X → Tally) (ended broken : X → Bool) (falls_short : X → X → Type 0) (fault : ReadFault) (at now : X) : Type 0 where
  pub refused : Refuses false (left at) fault
  pub asked : ended at ≡ false
  pub blamed : SourceBlamed fault (given at) (counts at) (counts now)
  pub short : fault ≡ read_faults.Turns → falls_short at now
  pub whole : broken now ≡ true

-- ---- the reads before it

-- these packets were given, and nothing is wrong with any
pub record GaveClean {X : Type 0} (leads : X → X → Type 0) (left : X → Option (List ℕ)) (given : X → ℕ) (ps : List (List ℕ)) (first at : X) : Type 0 where
  pub reads : leads first at
  pub read : HasGiven (left first) (left at) (given first) (given at) ps
  pub clean : AreClean ps

-- ---- the whole

-- THE END of a stream: all of its packets were given, and one read told the end behind them
pub record ReadToEnd {X : Type 0} (leads : X → X → Type 0) (left : X → Option (List ℕ)) (given : X → ℕ) (counts : X → Tally) (ended broken : X → Bool) (ps : List (List ℕ)) (first now : X) : Type 0 where
  pub at : X
  pub before : GaveClean leads left given ps first at
  pub last : ToldEnd left given counts ended broken at now

-- what the last read came to, behind these packets: a fault of its own, a packet with which this is wrong, or the end of a stream with which
-- this is wrong
abbrev pub LastReadCameTo : {X : Type 0} → (X → Option (List ℕ)) → (X → ℕ) → (X → Tally) → (X → Bool) → (X → Bool) → (X → X → Type 0) → AdFault → List (List ℕ) → X → X → Type 0
LastReadCameTo left given counts ended broken falls_short fault ps at now =
    ((f : ReadFault) × (fault ≡ of_read f) × ToldFault left given counts ended broken falls_short f at now)
    ⊎ (((p : List ℕ) × GavePacket left given counts ended broken p at now × IsWhatIsWrong (ad_fault_at p (reverse ps)) fault)
    ⊎ (ToldEnd left given counts ended broken at now × IsWhatIsWrong (end_fault ps) fault))

-- WHERE A STREAM STOPS with this fault: nothing is wrong with the packets that were given, and behind them one read was made, of which the
-- fault comes. So what is wrong with a packet, or with the whole, is told before anything is read behind it.
pub record StoppedAt {X : Type 0} (leads : X → X → Type 0) (left : X → Option (List ℕ)) (given : X → ℕ) (counts : X → Tally) (ended broken : X → Bool) (falls_short : X → X → Type 0) (fault : AdFault) (first now : X) : Type 0 where
  pub packets : List (List ℕ)
  pub at : X
  pub before : GaveClean leads left given packets first at
  pub last : LastReadCameTo left given counts ended broken falls_short fault packets at now

-- said of a fault that comes of reading
abbrev pub IfOfStream : AdFault → Type 0 → Type 0
IfOfStream fault said = is_of_library fault ≡ false → said
