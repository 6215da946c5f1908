-- What counts come to over several calls, and over several packets.
use Rattle.std.proofs.Common.{◌≡◌, ℕ, zero, suc, ◌≤◌, inl, inr, Bool, true, false, arith, Result, Ok, Err, IfOk, IfErr, ◌∙◌, le_refl, refl, ◌⊎◌}
use Rattle.std.proofs.Math.Nat.{le_trans}
use Rattle.ts_packet.specs.declared.device.DeviceFault.{DeviceFault}
use Rattle.ts_packet.specs.declared.sink.PutFault.{PutFault}
use Rattle.ts_packet.specs.declared.sink.PutFault.TheVariants as put_faults
use Rattle.ts_packet.specs.declared.tally.Tally.{Tally}
use Rattle.ts_packet.specs.Transfers.{IsCounted, Rose, CountsZero, WentWell, LastMovedNone, LastFailed, TookTurns}
use Rattle.ts_packet.specs.Sinks.{Later, Blamed}
use Rattle.ts_packet.specs.declared.reader.ReadFault.{ReadFault}
use Rattle.ts_packet.specs.declared.reader.ReadFault.TheVariants as read_faults
use Rattle.ts_packet.specs.Sources.{ReadCounts, ReadBlamed, SourceCounts, SourceBlamed, ReadSo}

pub counted-later : (old new : ℕ) → IsCounted old new → old ≤ new
counted-later old new h = grind (arith, h.0, h.1)

pub zeros-later : (r : Result ℕ DeviceFault) (old new : ℕ) → CountsZero r old new → old ≤ new
zeros-later (Ok zero) old new h = counted-later old new (h.0 refl)
zeros-later (Ok (suc n)) old new h = let same : new ≡ old = h.1 (omega arith) in omega arith
zeros-later (Err f) old new h = omega arith

-- ---- calls that went well, and then more

counted-after : (a b c : ℕ) → b ≡ a → IsCounted b c → IsCounted a c
counted-after a b c e h = rw (← e) h

rose-after : (n a b c : ℕ) → a ≤ b → Rose n b c → Rose n a c
rose-after n a b c h (inl k) = inl (omega arith)
rose-after n a b c h (inr k) = inr k

pub well-refl : (a : Tally) → WentWell a a
well-refl a = record { calls = le_refl a.calls; failed = refl; zeros = refl }

pub well-trans : (a b c : Tally) → WentWell a b → WentWell b c → WentWell a c
well-trans a b c h k = record { calls = le_trans h.calls k.calls; failed = k.failed ∙ h.failed; zeros = k.zeros ∙ h.zeros }

pub none-after : (a b c : Tally) → WentWell a b → LastMovedNone b c → LastMovedNone a c
none-after a b c h k = record { calls = le_trans h.calls k.calls; failed = k.failed ∙ h.failed; zeros = counted-after _ _ _ h.zeros k.zeros; halted = k.halted }

pub failed-after : (a b c : Tally) → WentWell a b → LastFailed b c → LastFailed a c
failed-after a b c h k = record { calls = le_trans h.calls k.calls; failed = counted-after _ _ _ h.failed k.failed; zeros = k.zeros ∙ h.zeros; halted = k.halted }

pub turns-after : (n : ℕ) (a b c : Tally) → WentWell a b → TookTurns n b c → TookTurns n a c
turns-after n a b c h k = record { well = well-trans a b c h k.well; turns = rose-after n _ _ _ h.calls k.turns }

-- packets were put well, and then a put failed
pub blamed-after : (f : PutFault) (a b c : Tally) (full : Bool) → WentWell a b → Blamed f b c full → Blamed f a c full
blamed-after put_faults.Io a b c full h k = failed-after a b c h k
blamed-after put_faults.Stuck a b c full h (inl k) = inl (none-after a b c h k)
blamed-after put_faults.Stuck a b c full h (inr k) = inr (k.0, well-trans a b c h k.1)
blamed-after put_faults.Turns a b c full h k = turns-after _ a b c h k
blamed-after put_faults.Failed a b c full h k = tt

pub well-later : (a b : Tally) → WentWell a b → Later a b
well-later a b h = record { calls = h.calls; failed = omega (arith, h.failed); zeros = omega (arith, h.zeros) }

-- ---- a reader of bytes is a source

pub source_counts : (r : Result Bool ReadFault) (old new : Tally) → IfOk r (λ more. ReadCounts more old new) → IfOk r (λ more. SourceCounts more false false old new)
source_counts (Ok true) old new h = (refl, h)
source_counts (Ok false) old new h = h
source_counts (Err f) old new h = tt

by_fault : (f : ReadFault) (given : ℕ) (old new : Tally) → ReadBlamed f given old new → SourceBlamed f given old new
by_fault read_faults.Truncated given old new h = inr h
by_fault read_faults.SyncLost given old new h = inl h
by_fault read_faults.BadAdaptation given old new h = inl h
by_fault read_faults.Io given old new h = h
by_fault read_faults.Turns given old new h = h
by_fault read_faults.Failed given old new h = h

pub source_blamed : (r : Result Bool ReadFault) (given : ℕ) (old new : Tally) → IfErr r (λ f. ReadBlamed f given old new) → IfErr r (λ f. (false ≡ false) × SourceBlamed f given old new)
source_blamed (Ok more) given old new h = tt
source_blamed (Err f) given old new h = (refl, by_fault f given old new h)

pub by_end : (ended : Bool) (old new : Tally) → ReadSo ended old new → WentWell old new ⊎ LastMovedNone old new
by_end true old new h = inr h
by_end false old new h = inl h
