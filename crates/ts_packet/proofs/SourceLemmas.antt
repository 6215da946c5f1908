-- What the bytes left are where a packet was read, and what the packets read so far are of the whole.
use Rattle.std.proofs.Common.{◌≡◌, ℕ, ◌<◌, ◌≤◌, List, ◌++◌, Option, None, Some, IfSome, arith, length, take, refl, sym, ap, ◌∙◌, subst, length-append, Bool, true, false, inl, inr, if◌then◌else◌, nat_eq, nat_lt, Result, Ok, Err, IfOk, IfErr}
use Rattle.std.proofs.lemmas.Grind.{common_steps}
use Rattle.std.specs.Io.KnownBytes.{Consumes, IsAtEnd}
use Rattle.ts_packet.specs.declared.packet.PacketFault.TheVariants as packet_faults
use Rattle.ts_packet.specs.declared.reader.ReadFault.{ReadFault}
use Rattle.ts_packet.specs.declared.reader.ReadFault.TheVariants.{Truncated, SyncLost, BadAdaptation, Io, Turns, Failed}
use Rattle.ts_packet.specs.Sources.{WasGiven, GivesInto, Refuses, answer_to, answer_over, ReadAnswers}
use lib.Seq.{take_all, take-append-le}
use Rattle.ts_packet.specs.declared.packet.PacketFault.{PacketFault}
use Rattle.ts_packet.specs.Packets.{packet_fault}
use Rattle.ts_packet.specs.Transfers.{Filled}

-- a whole packet was read, so it is the next one
next_is : (xs ys buf : List ℕ) → length buf ≡ 188 → xs ≡ take 188 buf ++ ys → (188 ≤ length xs) × (take 188 xs ≡ buf)
next_is xs ys buf h e =
    let whole : take 188 buf ≡ buf = take_all 188 buf (omega arith) in
    let joined : xs ≡ buf ++ ys = e ∙ ap (λ l. l ++ ys) whole in
    let long : length xs ≡ length (buf ++ ys) = ap length joined in
    (omega (arith, length-append buf ys), ap (take 188) joined ∙ take-append-le 188 buf ys (omega arith) ∙ whole)

-- and where it has a fault, the next one has
pub refused : (old new : Option (List ℕ)) (buf : List ℕ) (n : ℕ) (fault : PacketFault) → length buf ≡ 188 → n ≡ 188 → Filled old new buf n → packet_fault buf ≡ Some fault
    → IfSome old (λ bs. (188 ≤ length bs) × (packet_fault (take 188 bs) ≡ Some fault))
refused None new buf n fault size at h e = tt
refused (Some xs) None buf n fault size at h e = absurd h.bytes
refused (Some xs) (Some ys) buf n fault size at h e =
    let next = next_is xs ys buf size (h.bytes ∙ ap (λ k. take k buf ++ ys) at) in (next.0, ap packet_fault next.1 ∙ e)

-- ---- the clauses of a reader leave it one answer

over_none : (bs : List ℕ) → length bs ≡ 0 → answer_over bs ≡ Ok false
over_none bs h = rw h refl

sized : {X : Type 0} (n : ℕ) (a b x : X) → 188 ≤ n → (if nat_eq n 0 then a else (if nat_lt n 188 then b else x)) ≡ x
sized n a b x h = grind (arith, common_steps)

short : {X : Type 0} (n : ℕ) (a b x : X) → 0 < n → n < 188 → (if nat_eq n 0 then a else (if nat_lt n 188 then b else x)) ≡ b
short n a b x h k = grind (arith, common_steps)

over_whole : (bs : List ℕ) (o : Option PacketFault) → 188 ≤ length bs → packet_fault (take 188 bs) ≡ o → answer_over bs ≡ answer_to o
over_whole bs o h e = sized (length bs) (Ok false) (Err Truncated) (answer_to (packet_fault (take 188 bs))) h ∙ ap answer_to e

over_part : (bs : List ℕ) → 0 < length bs → length bs < 188 → answer_over bs ≡ Err Truncated
over_part bs h k = short (length bs) (Ok false) (Err Truncated) (answer_to (packet_fault (take 188 bs))) h k

pub given : (left left' : Option (List ℕ)) (slot : List ℕ) → WasGiven left left' slot → IfSome left (λ bs. ReadAnswers bs (Ok true))
given None left' slot h = tt
given (Some bs) None slot h = absurd h.bytes
given (Some bs) (Some ys) slot h =
    let whole : take 188 slot ≡ slot = take_all 188 slot (omega (arith, h.size)) in
    let next = next_is bs ys slot h.size (h.bytes ∙ ap (λ l. l ++ ys) (sym whole)) in
    inl (sym (over_whole bs None next.0 (ap packet_fault next.1 ∙ h.sound)))

-- what a full slot with no fault is
pub filled : (old new : Option (List ℕ)) (buf : List ℕ) (n : ℕ) → length buf ≡ 188 → n ≡ 188 → Filled old new buf n → packet_fault buf ≡ None → WasGiven old new buf
filled old new buf n size at h e = record {
  bytes = subst (Consumes old new) (take_all n buf (omega arith)) h.bytes;
  size = size;
  sound = e;
}

ended : (left : Option (List ℕ)) → IsAtEnd left → IfSome left (λ bs. ReadAnswers bs (Ok false))
ended None h = tt
ended (Some bs) h = inl (sym (over_none bs (ap length h)))

pub refuses : (left : Option (List ℕ)) (fault : ReadFault) → Refuses false left fault → IfSome left (λ bs. ReadAnswers bs (Err fault))
refuses None fault h = tt
refuses (Some bs) Truncated h = inl (sym (over_part bs h.0 h.1))
refuses (Some bs) SyncLost h = inl (sym (over_whole bs (Some packet_faults.SyncLost) h.0 h.1))
refuses (Some bs) BadAdaptation h = inl (sym (over_whole bs (Some packet_faults.BadAdaptation) h.0 h.1))
refuses (Some bs) Io h = inr (inl refl)
refuses (Some bs) Turns h = inr (inr refl)
refuses (Some bs) Failed h = absurd (cc)

-- by the bytes left
pub answers_exactly : (left left' : Option (List ℕ)) (slot : List ℕ) (answer : Result Bool ReadFault) → IfOk answer (λ more. GivesInto left left' more slot)
    → IfErr answer (λ fault. Refuses false left fault) → IfSome left (λ bs. ReadAnswers bs answer)
answers_exactly left left' slot (Ok true) h k = given left left' slot h
answers_exactly left left' slot (Ok false) h k = ended left h.0
answers_exactly left left' slot (Err fault) h k = refuses left fault k
