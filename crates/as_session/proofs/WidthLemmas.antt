-- The messages of bytes are as wide as their fields.
use Rattle.std.proofs.Common.{ℕ, List, [], ◌∷◌, subst}
use Rattle.std.specs.List.{AllByRecursion}
use Rattle.std.proofs.lemmas.List.Concat.{flat_map-cons}
use Rattle.wire_fields.specs.Numbers.{AreBytes}
use Rattle.scte104_codec.proofs.WidthLemmas.{front_bytes, behind_bytes, what_is_read_fits}
use Rattle.as_session.specs.Messages.{joined, messages_of}
use Rattle.as_session.specs.Laws.{IsInWidth, EachMessageFits}
use Rattle.as_session.proofs.SplitLemmas.{the_split}

parts_fit : (ms : List (List ℕ)) → AreBytes (joined ms) → AllByRecursion IsInWidth ms
parts_fit [] h = tt
parts_fit (m ∷ ms) h =
    let all = subst (λ (xs : List ℕ). AreBytes xs) (flat_map-cons (λ (part : List ℕ). part) m ms) h in
    let bytes = front_bytes m (joined ms) all in
    (record { bytes = bytes; fields = what_is_read_fits m bytes }, parts_fit ms (behind_bytes m (joined ms) all))

pub each_message_fits : EachMessageFits
each_message_fits bytes h =
    let split = messages_of bytes in
    parts_fit split.messages (front_bytes (joined split.messages) split.rest (subst (λ (xs : List ℕ). AreBytes xs) (the_split bytes).parts h))
