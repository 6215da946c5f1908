-- The loops of a run on air.
use Rattle.std.specs.Prelude.{All, is_some, Result, Ok, Err, OnOk}
use Rattle.std.proofs.Common.{◌≡◌, ℕ, List, [], ◌∷◌, ◌++◌, reverse, refl, ap, sym, subst, ◌∙◌, append_assoc, Option, None, Some, true}
use Rattle.std.proofs.lemmas.List.{reverse-append, append-nil}
use Rattle.ts_packet.specs.Packets.{packets_of}
use Rattle.ts_packet.specs.Runs.{Seen, seen_after}
use Rattle.ts_packet.specs.Sources.{HasRead, WasGiven}
use Rattle.ts_packet.specs.FirstFault.{first_fault}
use Rattle.ts_packet.proofs.PacketsLemmas.{packets_of-append}
use Rattle.packet_runs.specs.Stages.{seen_behind}
use Rattle.packet_runs.specs.Stops.{refusal_test}
use Rattle.packet_runs.specs.declared.run.Stop.TheVariants.{Read, Packet}
use Rattle.packet_runs.proofs.StopLemmas.{packets_stop}
use Rattle.program_follower.specs.declared.purpose.Purpose.{Purpose}
use Rattle.wire_fields.specs.Numbers.{AreBytes}
use Rattle.cued_laws.specs.Laws.{ArePacketsOfBytes}
use Rattle.on_air.specs.Stretches.{Entry, with_next, stretches}
use Rattle.on_air.specs.AirRuns.{all_next}

pub next-append : (c : Purpose) (ps : List (List ℕ)) (q : List ℕ) (ss : List (List Entry)) → all_next c (ps ++ q ∷ []) ss ≡ with_next c q (all_next c ps ss)
next-append c [] q ss = refl
next-append c (p ∷ ps) q ss = next-append c ps q (with_next c p ss)

-- the stretches of packets are those of a front of them, once the others have come
pub stretches-append : (c : Purpose) (ps qs : List (List ℕ)) → stretches c (reverse (ps ++ qs)) ≡ all_next c qs (stretches c (reverse ps))
stretches-append c ps [] = ap (λ l. stretches c (reverse l)) (append-nil ps)
stretches-append c ps (q ∷ qs) =
    ap (λ l. stretches c (reverse l)) (sym (append_assoc ps (q ∷ []) qs))
    ∙ stretches-append c (ps ++ q ∷ []) qs
    ∙ ap (λ l. all_next c qs (stretches c l)) (reverse-append ps (q ∷ []))

-- the packets of the bytes are those read, and then those of the bytes left
pub read-on : (bs : List ℕ) (left : Option (List ℕ)) (ps : List (List ℕ)) → HasRead (Some bs) left ps → (rest : List ℕ) × (left ≡ Some rest) × (packets_of bs ≡ ps ++ packets_of rest)
read-on bs None ps h = absurd h.bytes
read-on bs (Some rest) ps h = (rest, refl, ap packets_of h.bytes ∙ packets_of-append ps rest h.sizes)

pub some-of : {A : Type 0} (o : Option A) → is_some o ≡ true → (x : A) × (o ≡ Some x)
some-of None h = absurd (cc)
some-of (Some x) h = (x, refl)

-- a packet that is refused is a fault of the bytes
pub no-fault : {N : Type 0} (refusal : Seen → Option N) (bs : List ℕ) (left left' : Option (List ℕ)) (ps : List (List ℕ)) (p : List ℕ) (why : N)
    → All (λ (s : Seen). refusal_test refusal s ≡ None) (seen_after [] ps) → HasRead (Some bs) left ps → WasGiven left left' p → refusal (seen_behind ps p) ≡ Some why
    → first_fault Read (refusal_test refusal) bs ≡ None → ⊥
no-fault refusal bs left left' ps p why sound r g reason none =
    let stops = packets_stop refusal ps sound (λ bs passed rest. Unit {0}) (Some bs) left left' p r g (Packet why) reason (λ bs rest. tt) in
    let is = sym stops.says.0 ∙ none in absurd (cc)

-- packets of bytes, behind others that are
pub bytes-append : (l past : List (List ℕ)) → ArePacketsOfBytes l → ArePacketsOfBytes past → ArePacketsOfBytes (l ++ past)
bytes-append [] past h k = k
bytes-append (p ∷ l) past h k = (h.0, bytes-append l past h.1 k)

pub bytes-next : (ps : List (List ℕ)) (p : List ℕ) → ArePacketsOfBytes (reverse ps) → AreBytes p → ArePacketsOfBytes (reverse (ps ++ p ∷ []))
bytes-next ps p h is = subst ArePacketsOfBytes (sym (reverse-append ps (p ∷ []))) (is, h)

pub bytes-behind : (ps qs : List (List ℕ)) → ArePacketsOfBytes (reverse ps) → ArePacketsOfBytes (reverse qs) → ArePacketsOfBytes (reverse (ps ++ qs))
bytes-behind ps qs h k = subst ArePacketsOfBytes (sym (reverse-append ps qs)) (bytes-append (reverse qs) (reverse ps) k h)

pub on-ok-always : {T E P : Type 0} (r : Result T E) → P → OnOk r P
on-ok-always (Ok value) h = h
on-ok-always (Err error) h = tt
