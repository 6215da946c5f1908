-- Reading a stream packet by packet.
use Rattle.std.specs.Prelude.{IfSome, reverse, ℤ}
use Rattle.std.specs.Io.KnownBytes.{IsAtEnd}
use Rattle.std.proofs.Common.{◌≡◌, ℕ, List, [], ◌∷◌, ◌++◌, Bool, true, false, refl, sym, ap, ◌∙◌, subst, ◌⊎◌, inl, inr, Option, Some, None, if◌then◌else◌}
use Rattle.std.proofs.lemmas.List.{reverse-append, reverse-reverse}
use Rattle.ts_packet.specs.Packets.{packets_of}
use Rattle.ts_packet.specs.Sources.{WasGiven, HasRead, Refuses, ReadSo, SourceCounts, SourceBlamed}
use Rattle.ts_packet.specs.FirstFault as firsts
use Rattle.ts_packet.specs.FirstFault.{or_then, Cause, OfInput, OfDevice, OfNothing, SaysBy, read_cause}
use Rattle.ts_packet.specs.Transfers.{WentWell, NoneFailed}
use Rattle.ts_packet.specs.declared.tally.Tally.{Tally}
use Rattle.ts_packet.specs.declared.reader.ReadFault.{ReadFault}
use Rattle.ts_packet.specs.declared.reader.ReadFault.TheVariants as read_faults
use Rattle.ts_packet.proofs.FirstFaultLemmas.{sound_more}
use Rattle.ts_packet.proofs.PacketsLemmas.{read_to_end}
use Rattle.ts_packet.proofs.CountLemmas.{well-refl}
use Rattle.psi_tables.specs.declared.network.NetworkFault.{NetworkFault}
use Rattle.psi_tables.specs.declared.network.NetworkFault.TheVariants as network_faults
use Rattle.program_follower.specs.Faults.{network_fault}
use Rattle.program_follower.specs.Program.{Program, program_of}
use Rattle.ts_packet.proofs.StoppedLemmas.{ends_sound, reader_stops, packet_stops}
use Rattle.ts_packet.specs.Sources.{ReadOn, HasGiven, RunBlamed}
use Rattle.ts_packet.proofs.RunBlameLemmas.{on-told, read_blamed}
use Rattle.ad_library.specs.declared.fault.AdFault.{AdFault}
use Rattle.ad_library.specs.declared.fault.AdFault.TheVariants as ad_faults
use Rattle.ad_library.specs.declared.gathering.Gathering.{Gathering}
use Rattle.ad_library.specs.Advertisements.{kept_streams, zero_of, Advertisement, advertisement}
use Rattle.program_follower.specs.Purposes.{reading_advertisement}
use Rattle.ad_library.specs.Faults.{of_network, as_ad_fault, large_fault, loss_fault, ad_fault_at, IsWhatIsWrong, ad_test, end_fault, without_zero, advertisement_fault, ad_cause, Says, of_read, is_of_library, StreamBlamed}
use Rattle.ad_library.specs.Gathering.{Gathers}
use Rattle.ad_library.specs.Reading.{AreClean, GathersAll}

-- ---- the loop

pub record HasTaken {A : Type 0} (input left : Option (List ℕ)) (first given : ℕ) (g : Gathering A) : Type 0 where
  pub packets : List (List ℕ)
  pub read : HasGiven input left first given packets
  pub clean : AreClean packets
  pub gathered : Gathers g (reverse packets)

pub one_taken : {A : Type 0} (input left left' : Option (List ℕ)) (first given given' : ℕ) (old new : Gathering A) (p : List ℕ) (h : HasTaken input left first given old) → HasGiven input left' first given' (h.packets ++ p ∷ [])
    → ad_fault_at p (reverse h.packets) ≡ None → Gathers new (p ∷ reverse h.packets) → HasTaken input left' first given' new
one_taken input left left' first given given' old new p h r c g = record {
  packets = h.packets ++ p ∷ [];
  read = r;
  clean = sound_more ad_test h.packets p h.clean c;
  gathered = subst (Gathers new) (sym (reverse-append h.packets (p ∷ []))) g;
}

-- ---- the end

pub all_taken : {A : Type 0} (input left : Option (List ℕ)) (first given : ℕ) (g : Gathering A) → HasTaken input left first given g → IsAtEnd left → GathersAll input g
all_taken input left first given g h e = record {
  packets = h.packets;
  gathered = h.gathered;
  packets_are = by_input input h.read.read;
  sound = ends_sound ad_faults.Packets ad_test input left h.packets h.read.read h.clean e;
} where
  by_input : (i : Option (List ℕ)) → HasRead i left h.packets → IfSome i (λ bs. h.packets ≡ packets_of bs)
  by_input None r = tt
  by_input (Some bs) r = sym (read_to_end (Some bs) left h.packets r e).0

-- ---- what a fault says

or_some : {F : Type 0} (a b : Option F) (f : F) → a ≡ Some f → or_then a b ≡ Some f
or_some a b f e = ap (λ o. or_then o b) e

first_says : (bs : List ℕ) (f : AdFault) → firsts.first_fault ad_faults.Packets ad_test bs ≡ Some f → advertisement_fault bs ≡ Some f
first_says bs f e = or_some (firsts.first_fault ad_faults.Packets ad_test bs) (end_fault (packets_of bs)) f e

says_input : (bs : List ℕ) (f : AdFault) (c : Cause) → c ≡ OfInput → advertisement_fault bs ≡ Some f → SaysBy c (advertisement_fault bs ≡ Some f)
says_input bs f OfInput e h = h
says_input bs f OfDevice e h = absurd (cc)
says_input bs f OfNothing e h = absurd (cc)

-- a fault of a packet is one of the bytes, and none of the library
pub record OfPacket (f : AdFault) : Type 0 where
  pub cause : ad_cause f ≡ OfInput
  pub own : is_of_library f ≡ false

of_if : (b : Bool) (g f : AdFault) → OfPacket g → (if b then Some g else None) ≡ Some f → OfPacket f
of_if true g f k e = let s : g ≡ f = cc in subst OfPacket s k
of_if false g f k e = absurd (cc)

of_either : (a b : Option AdFault) (f : AdFault) → ((g : AdFault) → a ≡ Some g → OfPacket g) → ((g : AdFault) → b ≡ Some g → OfPacket g) → or_then a b ≡ Some f → OfPacket f
of_either None b f k l e = l f e
of_either (Some g) b f k l e = k f e

network_is : (n : NetworkFault) → OfPacket (of_network n)
network_is network_faults.Sections = record { cause = refl; own = refl }
network_is network_faults.TooManyStreams = record { cause = refl; own = refl }
network_is network_faults.BadPids = record { cause = refl; own = refl }
network_is network_faults.ProgramChanged = record { cause = refl; own = refl }
network_is network_faults.Scrambled = record { cause = refl; own = refl }
network_is network_faults.HeaderSplit = record { cause = refl; own = refl }
network_is network_faults.TimeJump = record { cause = refl; own = refl }
network_is network_faults.CuePidUsed = record { cause = refl; own = refl }
network_is network_faults.PmtTooLong = record { cause = refl; own = refl }

of_net : (o : Option NetworkFault) (f : AdFault) → as_ad_fault o ≡ Some f → OfPacket f
of_net None f e = absurd (cc)
of_net (Some n) f e = let s : of_network n ≡ f = cc in subst OfPacket s (network_is n)

pub of_packet : (p : List ℕ) (past : List (List ℕ)) (f : AdFault) → ad_fault_at p past ≡ Some f → OfPacket f
of_packet p past f e =
    of_either (large_fault past) (or_then (as_ad_fault (network_fault reading_advertisement p past)) (loss_fault p past)) f
    (λ g k. of_if _ ad_faults.Large g (record { cause = refl; own = refl }) k)
    (λ g k. of_either (as_ad_fault (network_fault reading_advertisement p past)) (loss_fault p past) g (of_net (network_fault reading_advertisement p past))
    (λ h l. of_if _ ad_faults.Loss h (record { cause = refl; own = refl }) l) k)
    e

if_some : {X : Type 0} (P Q : X → Type 0) (o : Option X) → ((x : X) → P x → Q x) → IfSome o P → IfSome o Q
if_some P Q None f h = tt
if_some P Q (Some x) f h = f x h

every_some : {X : Type 0} (P : X → Type 0) (o : Option X) → ((x : X) → P x) → IfSome o P
every_some P None f = tt
every_some P (Some x) f = f x

pub take_says : {A : Type 0} (input left left' : Option (List ℕ)) (first given : ℕ) (g : Gathering A) (p : List ℕ) (f : AdFault) (h : HasTaken input left first given g) → WasGiven left left' p
    → IsWhatIsWrong (ad_fault_at p (reverse h.packets)) f → IfSome input (Says f) × (is_of_library f ≡ false)
take_says input left left' first given g p f h r (inl e) = subst (λ (x : AdFault). IfSome input (Says x) × (is_of_library x ≡ false)) (sym e.0) (every_some (Says ad_faults.OutOfMemory) input (λ bs. tt), refl)
take_says input left left' first given g p f h r (inr e) =
    let k = of_packet p (reverse h.packets) f e in
    let first = packet_stops ad_faults.Packets ad_test input left left' h.packets p f h.read.read h.clean r e in
    (if_some _ (Says f) input (λ bs s. says_input bs f (ad_cause f) k.cause (first_says bs f s)) first, k.own)

by_cause : (bs : List ℕ) (fault : ReadFault) → SaysBy (read_cause fault) (firsts.first_fault ad_faults.Packets ad_test bs ≡ Some (ad_faults.Packets fault)) → Says (of_read fault) bs
by_cause bs read_faults.Truncated h = first_says bs _ h
by_cause bs read_faults.SyncLost h = first_says bs _ h
by_cause bs read_faults.BadAdaptation h = first_says bs _ h
by_cause bs read_faults.Io h = tt
by_cause bs read_faults.Turns h = tt
by_cause bs read_faults.Failed h = absurd h

pub read_says : {A : Type 0} (input left : Option (List ℕ)) (first given : ℕ) (g : Gathering A) (fault : ReadFault) → HasTaken input left first given g → Refuses false left fault → IfSome input (Says (of_read fault))
read_says input left first given g fault h r =
    if_some _ (Says (of_read fault)) input (λ bs s. by_cause bs fault s) (reader_stops ad_faults.Packets ad_test input left h.packets h.read.read h.clean fault r)

pub read_own : (fault : ReadFault) → is_of_library (of_read fault) ≡ false
read_own read_faults.Truncated = refl
read_own read_faults.SyncLost = refl
read_own read_faults.BadAdaptation = refl
read_own read_faults.Io = refl
read_own read_faults.Turns = refl
read_own read_faults.Failed = refl

-- ---- what the device did

-- no fault of a reader, of a device or of the library
abbrev pub is_quiet : AdFault → Bool
is_quiet ad_faults.Exists = false
is_quiet ad_faults.Many = false
is_quiet ad_faults.Io = false
is_quiet (ad_faults.Packets fault) = false
is_quiet ad_faults.OutOfMemory = true
is_quiet ad_faults.Large = true
is_quiet ad_faults.NoProgram = true
is_quiet ad_faults.Sections = true
is_quiet ad_faults.TooManyStreams = true
is_quiet ad_faults.BadPids = true
is_quiet ad_faults.ProgramChanged = true
is_quiet ad_faults.Scrambled = true
is_quiet ad_faults.HeaderSplit = true
is_quiet ad_faults.TimeJump = true
is_quiet ad_faults.Loss = true
is_quiet ad_faults.NoTime = true

pub quiet_blamed : (f : AdFault) (a b : Tally) → is_quiet f ≡ true → NoneFailed a b → StreamBlamed f a b
quiet_blamed ad_faults.Exists a b q h = absurd (cc)
quiet_blamed ad_faults.Many a b q h = absurd (cc)
quiet_blamed ad_faults.Io a b q h = absurd (cc)
quiet_blamed (ad_faults.Packets fault) a b q h = absurd (cc)
quiet_blamed ad_faults.OutOfMemory a b q h = h
quiet_blamed ad_faults.Large a b q h = h
quiet_blamed ad_faults.NoProgram a b q h = h
quiet_blamed ad_faults.Sections a b q h = h
quiet_blamed ad_faults.TooManyStreams a b q h = h
quiet_blamed ad_faults.BadPids a b q h = h
quiet_blamed ad_faults.ProgramChanged a b q h = h
quiet_blamed ad_faults.Scrambled a b q h = h
quiet_blamed ad_faults.HeaderSplit a b q h = h
quiet_blamed ad_faults.TimeJump a b q h = h
quiet_blamed ad_faults.Loss a b q h = h
quiet_blamed ad_faults.NoTime a b q h = h

so_quiet : (ended : Bool) (a b : Tally) → ReadSo ended a b → NoneFailed a b
so_quiet true a b h = inr h
so_quiet false a b h = inl h

quiet_if : (b : Bool) (g f : AdFault) → is_quiet g ≡ true → (if b then Some g else None) ≡ Some f → is_quiet f ≡ true
quiet_if true g f k e = let s : g ≡ f = cc in ap is_quiet (sym s) ∙ k
quiet_if false g f k e = absurd (cc)

quiet_net : (o : Option NetworkFault) (f : AdFault) → as_ad_fault o ≡ Some f → is_quiet f ≡ true
quiet_net None f e = absurd (cc)
quiet_net (Some network_faults.Sections) f e = ap is_quiet (sym (let s : ad_faults.Sections ≡ f = cc in s))
quiet_net (Some network_faults.TooManyStreams) f e = ap is_quiet (sym (let s : ad_faults.TooManyStreams ≡ f = cc in s))
quiet_net (Some network_faults.BadPids) f e = ap is_quiet (sym (let s : ad_faults.BadPids ≡ f = cc in s))
quiet_net (Some network_faults.ProgramChanged) f e = ap is_quiet (sym (let s : ad_faults.ProgramChanged ≡ f = cc in s))
quiet_net (Some network_faults.Scrambled) f e = ap is_quiet (sym (let s : ad_faults.Scrambled ≡ f = cc in s))
quiet_net (Some network_faults.HeaderSplit) f e = ap is_quiet (sym (let s : ad_faults.HeaderSplit ≡ f = cc in s))
quiet_net (Some network_faults.TimeJump) f e = ap is_quiet (sym (let s : ad_faults.TimeJump ≡ f = cc in s))
quiet_net (Some network_faults.CuePidUsed) f e = ap is_quiet (sym (let s : ad_faults.BadPids ≡ f = cc in s))
quiet_net (Some network_faults.PmtTooLong) f e = ap is_quiet (sym (let s : ad_faults.BadPids ≡ f = cc in s))

quiet_either : (a b : Option AdFault) (f : AdFault) → ((g : AdFault) → a ≡ Some g → is_quiet g ≡ true) → ((g : AdFault) → b ≡ Some g → is_quiet g ≡ true) → or_then a b ≡ Some f → is_quiet f ≡ true
quiet_either None b f k l e = l f e
quiet_either (Some g) b f k l e = k f e

quiet_packet : (p : List ℕ) (past : List (List ℕ)) (f : AdFault) → ad_fault_at p past ≡ Some f → is_quiet f ≡ true
quiet_packet p past f e =
    quiet_either (large_fault past) (or_then (as_ad_fault (network_fault reading_advertisement p past)) (loss_fault p past)) f
    (λ g k. quiet_if _ ad_faults.Large g refl k)
    (λ g k. quiet_either (as_ad_fault (network_fault reading_advertisement p past)) (loss_fault p past) g (quiet_net (network_fault reading_advertisement p past)) (λ h l. quiet_if _ ad_faults.Loss h refl l) k)
    e

pub quiet_take : (p : List ℕ) (past : List (List ℕ)) (f : AdFault) → IsWhatIsWrong (ad_fault_at p past) f → is_quiet f ≡ true
quiet_take p past f (inl e) = ap is_quiet e.0
quiet_take p past f (inr e) = quiet_packet p past f e

pub told_blamed : (first now now' : Bool) (a b c : Tally) (f : AdFault) → ReadOn first now a b → SourceCounts true now now' b c → is_quiet f ≡ true → StreamBlamed f a c
told_blamed first now now' a b c f h k q = quiet_blamed f a c q (so_quiet now' a c (on-told first now now' a b c h k))

by_name : (fault : ReadFault) (ended : Bool) (a c : Tally) → RunBlamed fault a c → StreamBlamed (of_read fault) a c
by_name read_faults.Truncated ended a c h = h
by_name read_faults.SyncLost ended a c h = h
by_name read_faults.BadAdaptation ended a c h = h
by_name read_faults.Io ended a c h = h
by_name read_faults.Turns ended a c h = h
by_name read_faults.Failed ended a c h = h

pub reader_blamed : (first now ended : Bool) (given : ℕ) (left : Option (List ℕ)) (a b c : Tally) → ReadOn first now a b → now ≡ false → (fault : ReadFault) → Refuses false left fault
    → SourceBlamed fault given b c → StreamBlamed (of_read fault) a c
reader_blamed first now ended given left a b c h e fault k r = by_name fault ended a c (read_blamed first now given left a b c h e fault k r)

pub is_turns : (fault : ReadFault) → of_read fault ≡ ad_faults.Packets read_faults.Turns → fault ≡ read_faults.Turns
is_turns read_faults.Truncated e = absurd (cc)
is_turns read_faults.SyncLost e = absurd (cc)
is_turns read_faults.BadAdaptation e = absurd (cc)
is_turns read_faults.Io e = absurd (cc)
is_turns read_faults.Turns e = refl
is_turns read_faults.Failed e = absurd (cc)

pub not_turns : {P : Type 0} (f : AdFault) → is_quiet f ≡ true → f ≡ ad_faults.Packets read_faults.Turns → P
not_turns f q e = absurd (let k : true ≡ false = sym q ∙ ap is_quiet e in cc)

-- ---- the end

end_of : (first now' : Bool) (a c : Tally) → SourceCounts false first now' a c → NoneFailed a c
end_of true now' a c h = inl (subst (WentWell a) (sym h) (well-refl a))
end_of false now' a c h = inr h

pub end_blamed : (first now' : Bool) (a c : Tally) (f : AdFault) → SourceCounts false first now' a c → is_quiet f ≡ true → StreamBlamed f a c
end_blamed first now' a c f h q = quiet_blamed f a c q (end_of first now' a c h)

-- ---- what the end says

end_quiet : (o : Option Program) (f : AdFault) → without_zero o ≡ Some f → OfPacket f × (is_quiet f ≡ true)
end_quiet None f e = let s : ad_faults.NoProgram ≡ f = cc in subst (λ (x : AdFault). OfPacket x × (is_quiet x ≡ true)) s (record { cause = refl; own = refl }, refl)
end_quiet (Some r) f e = let s : ad_faults.NoTime ≡ f = cc in subst (λ (x : AdFault). OfPacket x × (is_quiet x ≡ true)) s (record { cause = refl; own = refl }, refl)

end_by : (ps : List (List ℕ)) (z : Option ℤ) (f : AdFault) → elim z as (λ (o : Option ℤ). Option AdFault) [ None ↦ without_zero (program_of None (reverse ps)) | Some zero ↦ None ] ≡ Some f
    → OfPacket f × (is_quiet f ≡ true)
end_by ps None f e = end_quiet (program_of None (reverse ps)) f e
end_by ps (Some z) f e = absurd (cc)

of_end : (ps : List (List ℕ)) (f : AdFault) → end_fault ps ≡ Some f → OfPacket f × (is_quiet f ≡ true)
of_end ps f e = end_by ps (zero_of (kept_streams ps)) f e

pub end_is_quiet : (ps : List (List ℕ)) (f : AdFault) → IsWhatIsWrong (end_fault ps) f → is_quiet f ≡ true
end_is_quiet ps f (inl e) = ap is_quiet e.0
end_is_quiet ps f (inr e) = (of_end ps f e).1

pub end_own : (ps : List (List ℕ)) (f : AdFault) → IsWhatIsWrong (end_fault ps) f → is_of_library f ≡ false
end_own ps f (inl e) = ap is_of_library e.0
end_own ps f (inr e) = (of_end ps f e).0.own

module _ {A : Type 0} (input : Option (List ℕ)) (g : Gathering A) (h : GathersAll input g) where
  whole_fault : (o : Option AdFault) → end_fault (reverse (reverse h.packets)) ≡ o → IfSome input (λ bs. advertisement_fault bs ≡ o)
  whole_fault o e = by_input input h.packets_are h.sound where
    by_input : (i : Option (List ℕ)) → IfSome i (λ bs. h.packets ≡ packets_of bs) → IfSome i (λ bs. firsts.first_fault ad_faults.Packets ad_test bs ≡ None) → IfSome i (λ bs. advertisement_fault bs ≡ o)
    by_input None p s = tt
    by_input (Some bs) p s =
        ap (λ x. or_then x (end_fault (packets_of bs))) s ∙ ap end_fault (sym p) ∙ ap end_fault (sym (reverse-reverse h.packets)) ∙ e

  pub end_sound : end_fault (reverse (reverse h.packets)) ≡ None → IfSome input (λ bs. advertisement_fault bs ≡ None)
  end_sound e = whole_fault None e

  pub end_says : (f : AdFault) → IsWhatIsWrong (end_fault (reverse (reverse h.packets))) f → IfSome input (Says f)
  end_says f (inl e) = subst (λ (x : AdFault). IfSome input (Says x)) (sym e.0) (every_some (Says ad_faults.OutOfMemory) input (λ bs. tt))
  end_says f (inr e) = if_some _ (Says f) input (λ bs s. says_input bs f (ad_cause f) (of_end (reverse (reverse h.packets)) f e).0.cause s) (whole_fault (Some f) e)

  pub end_files : (ad : Option Advertisement) → ad ≡ advertisement (reverse (reverse h.packets)) → ad ≡ advertisement h.packets
  end_files ad e = e ∙ ap advertisement (reverse-reverse h.packets)
