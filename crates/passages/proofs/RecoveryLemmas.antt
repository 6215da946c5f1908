-- What a source of packets among other bytes has counted at its end, and what a run on air tells of it.
use Rattle.std.proofs.Common.{◌≡◌, ℕ, ◌+◌, ◌^◌, ◌<◌, List, [], Option, None, Some, arith, ap, sym, subst, refl, inl, inr, ◌∙◌}
use Rattle.std.specs.Prelude.{Result, Ok, Err, ◌⊎◌, IfOk, IfErr, OnOk, IsOkAnd, IsErrAnd}
use Rattle.std.specs.declared.io.Error.{Error}
use Rattle.std.specs.Io.KnownBytes.{IsAtEnd}
use Rattle.packet_recovery.specs.Framing.{framed, skipped}
use Rattle.packet_recovery.specs.Mending.{mends}
use Rattle.packet_recovery.specs.Reading.{capped, mended_by, skipped_by, Stays}
use Rattle.passages.specs.AirRuns.{CountsBytes, IsOfDevicesOrMemory}
use Rattle.passages.specs.Stopping.{IsStoppedWith}
use Rattle.passages.specs.declared.fault.ProgramFault.{ProgramFault}
use Rattle.passages.specs.declared.fault.ProgramFault.TheVariants as program
use Rattle.passages.specs.declared.running.Ran.{Ran}
use Rattle.passages.specs.declared.tell.Side.{Side}
use Rattle.passages.specs.declared.tell.Stopped.{Stopped}
use Rattle.passages.specs.declared.watch.Watch.{Watch}
use Rattle.passages.specs.declared.air_running.OnAir.{OnAir}

-- a number that stays is the same where it is known
pub stays_at : (a b : Option ℕ) (n : ℕ) → Stays a b → a ≡ Some n → b ≡ Some n
stays_at None b n h e = absurd (cc)
stays_at (Some m) b n h e = h ∙ e

-- a number that fits is not stopped
add-zero : (n : ℕ) → n + 0 ≡ n
add-zero n = omega arith

capped_fits : (n : ℕ) → n < 2 ^ 64 → capped n ≡ n
capped_fits n fits = grind (arith, fits)

none_framed : framed [] ≡ []
unfolding framed
none_framed = refl

none_mended : mends (framed []) ≡ 0
unfolding mends
none_mended = rw none_framed refl

none_skipped : skipped [] ≡ 0
unfolding skipped
none_skipped = rw none_framed refl

-- at the end no packet and no byte is left to be counted
pub mended_end : (n : ℕ) (rest : Option (List ℕ)) → n < 2 ^ 64 → IsAtEnd rest → Stays (mended_by n rest) (Some n)
mended_end n None fits h = tt
mended_end n (Some xs) fits h = rw (h, none_mended, add-zero n) (ap Some (sym (capped_fits n fits)))

pub skipped_end : (n : ℕ) (rest : Option (List ℕ)) → n < 2 ^ 64 → IsAtEnd rest → Stays (skipped_by n rest) (Some n)
skipped_end n None fits h = tt
skipped_end n (Some xs) fits h = rw (h, none_skipped, add-zero n) (ap Some (sym (capped_fits n fits)))

zero-add : (n : ℕ) → 0 + n ≡ n
zero-add n = omega arith

-- what a run on air tells of the bytes of its network, from what its source counts in all
pub counted_bytes : {T E : Type 0} (o : Result (OnAir T) E) (input : Option (List ℕ)) → IfOk o (λ told. Stays (mended_by 0 input) (Some told.mended))
    → IfOk o (λ told. Stays (skipped_by 0 input) (Some told.skipped)) → IfOk o (λ told. CountsBytes input told.mended told.skipped)
counted_bytes (Err f) input h k = tt
counted_bytes (Ok told) None h k = tt
counted_bytes (Ok told) (Some bs) h k =
    let one : told.mended ≡ capped (0 + mends (framed bs)) = cc in
    let other : told.skipped ≡ capped (0 + skipped bs) = cc in
    (one ∙ ap capped (zero-add (mends (framed bs))), other ∙ ap capped (zero-add (skipped bs)))

-- what is said of the report below is said of what is told with it
pub reported : {T E : Type 0} (o : Result T E) (r : Result (OnAir T) E) (said : T → Type 0) → IfOk r (λ told. o ≡ Ok told.report) → IfOk o said → IfOk r (λ told. said told.report)
reported o (Err f) said e h = tt
reported o (Ok told) said e h = subst (λ q. IfOk q said) e h

-- ---- faults

by_devices : (fault : ProgramFault) (says : Type 0) → (says → IsOfDevicesOrMemory fault) → (fault ≡ program.Unflushed) ⊎ says → IsOfDevicesOrMemory fault
by_devices fault says so (inl e) = subst IsOfDevicesOrMemory (sym e) tt
by_devices fault says so (inr h) = so h

-- where devices and memory alone stop a passage, the same is told of a run
pub of_devices : {T U : Type 0} (o : Result T ProgramFault) (r : Result U ProgramFault) (says : ProgramFault → Type 0) → ((fault : ProgramFault) → says fault → IsOfDevicesOrMemory fault)
    → IfErr o (λ fault. (fault ≡ program.Unflushed) ⊎ says fault) → IfErr o (λ fault. r ≡ Err fault) → OnOk o (IfErr r IsOfDevicesOrMemory) → IfErr r IsOfDevicesOrMemory
of_devices (Ok x) r says so h first rest = rest
of_devices (Err fault) r says so h first rest = subst (λ q. IfErr q IsOfDevicesOrMemory) (sym first) (by_devices fault (says fault) (so fault) h)

-- and of what that tells
pub told_fault_is : {T : Type 0} (o : Result T ProgramFault) (r : Result (Ran T) Stopped) (side : ProgramFault → Side) (reason : ProgramFault → Option Error) (seen : Option Watch)
    (said : ProgramFault → Type 0) → IfOk o (λ report. IsOkAnd r (λ ran. ran.report ≡ report))
    → IfErr o (λ fault. IsErrAnd r (IsStoppedWith fault (side fault) (reason fault) seen)) → IfErr o said → IfErr r (λ stopped. said stopped.fault)
told_fault_is o (Ok ran) side reason seen said e f h = tt
told_fault_is (Ok x) (Err stopped) side reason seen said e f h = absurd e
told_fault_is (Err fault) (Err stopped) side reason seen said e f h = subst said (sym f.0) h
