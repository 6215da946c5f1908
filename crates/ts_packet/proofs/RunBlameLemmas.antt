-- What the device of a source did over a whole run, packet by packet.
use Rattle.std.proofs.Common.{◌≡◌, ℕ, ◌+◌, List, [], ◌∷◌, ◌++◌, Bool, true, false, ◌⊎◌, inl, inr, refl, sym, ◌∙◌, Option, arith, length-append}
use Rattle.ts_packet.specs.Sources.{WasGiven, ReadSo, SourceCounts, SourceBlamed, Refuses, ReadOn, RunBlamed, Stalled, Exhausted, HasGiven}
use Rattle.ts_packet.specs.declared.tally.Tally.{Tally}
use Rattle.ts_packet.specs.Transfers.{WentWell}
use Rattle.ts_packet.specs.declared.reader.ReadFault.{ReadFault}
use Rattle.ts_packet.specs.declared.reader.ReadFault.TheVariants as read_faults
use Rattle.ts_packet.proofs.CountLemmas.{well-refl, well-trans, none-after, failed-after}
use Rattle.ts_packet.proofs.PacketsLemmas.{read_none, read_more}

-- ---- what was given

pub given_none : (input : Option (List ℕ)) (first : ℕ) → HasGiven input input first first []
given_none input first = record { read = read_none input; count = omega arith }

pub given_more : (input left left' : Option (List ℕ)) (first given given' : ℕ) (ps : List (List ℕ)) (p : List ℕ) → HasGiven input left first given ps → WasGiven left left' p → given' ≡ given + 1
    → HasGiven input left' first given' (ps ++ p ∷ [])
given_more input left left' first given given' ps p h r g = record {
  read = read_more input left left' ps p h.read r;
  count = let l = length-append ps (p ∷ []) in omega (arith, g, h.count, l);
}

-- ---- what the reads came to

pub on-refl : (ended : Bool) (a : Tally) → ReadOn ended ended a a
on-refl true a = (refl, refl)
on-refl false a = well-refl a

-- one packet more
pub on-more : (first now now' : Bool) (a b c : Tally) → ReadOn first now a b → SourceCounts true now now' b c → ReadOn first now' a c
on-more first true now' a b c h k = absurd (let e = k.0 in cc)
on-more true false now' a b c h k = absurd (let e = h.0 in cc)
on-more false false true a b c h k = none-after a b c h k.1
on-more false false false a b c h k = well-trans a b c h k.1

-- so they are told of a fault at the packet that was read
pub on-told : (first now now' : Bool) (a b c : Tally) → ReadOn first now a b → SourceCounts true now now' b c → ReadSo now' a c
on-told first true now' a b c h k = absurd (let e = k.0 in cc)
on-told true false now' a b c h k = absurd (let e = h.0 in cc)
on-told false false true a b c h k = none-after a b c h k.1
on-told false false false a b c h k = well-trans a b c h k.1

-- the end
pub on-end : (first now now' : Bool) (a b c : Tally) → ReadOn first now a b → SourceCounts false now now' b c → SourceCounts false first now' a c
on-end true true now' a b c h k = k ∙ h.1
on-end true false now' a b c h k = absurd (let e = h.0 in cc)
on-end false false now' a b c h k = none-after a b c h k
on-end false true now' a b c h k = rw k h

-- all went well where the end has not been told
well-on : (first now : Bool) (a b : Tally) → ReadOn first now a b → now ≡ false → WentWell a b
well-on true now a b h e = absurd (let t = h.0 in cc)
well-on false true a b h e = absurd (cc)
well-on false false a b h e = h

after : {A B C D : Type 0} → (A → C) → (B → D) → A ⊎ B → C ⊎ D
after f g (inl a) = inl (f a)
after f g (inr b) = inr (g b)

-- a read failed
pub read_blamed : (first now : Bool) (given : ℕ) (left : Option (List ℕ)) (a b c : Tally) → ReadOn first now a b → now ≡ false → (fault : ReadFault) → Refuses false left fault
    → SourceBlamed fault given b c → RunBlamed fault a c
read_blamed first now given left a b c h e read_faults.Truncated k r = let w = well-on first now a b h e in after (well-trans a b c w) (none-after a b c w) r
read_blamed first now given left a b c h e read_faults.SyncLost k r = let w = well-on first now a b h e in after (well-trans a b c w) (none-after a b c w) r
read_blamed first now given left a b c h e read_faults.BadAdaptation k r = let w = well-on first now a b h e in after (well-trans a b c w) (none-after a b c w) r
read_blamed first now given left a b c h e read_faults.Io k r = failed-after a b c (well-on first now a b h e) r
read_blamed first now given left a b c h e read_faults.Turns k (inl r) = well-trans a b c (well-on first now a b h e) r.well
read_blamed first now given left a b c h e read_faults.Turns k (inr r) = rw r.1 (well-on first now a b h e)
read_blamed first now given left a b c h e read_faults.Failed k r = absurd (cc)

-- and took too long
pub read_turns : {X : Type 0} (leads : X → X → Type 0) (counts : X → Tally) (short : X → X → Type 0) (left : X → Option (List ℕ)) (given : X → ℕ) (x y z : X) (first now : Bool) (ps : List (List ℕ))
    → leads x y → ReadOn first now (counts x) (counts y) → now ≡ false → HasGiven (left x) (left y) (given x) (given y) ps → SourceBlamed read_faults.Turns (given y) (counts y) (counts z) → short y z
    → Stalled leads counts short x z ⊎ Exhausted left given x
read_turns leads counts short left given x y z first now ps l h e r (inl k) s = inl (y, l, well-on first now _ _ h e, k, s)
read_turns leads counts short left given x y z first now ps l h e r (inr k) s = inr (left y, ps, r.read, sym r.count ∙ k.0)
