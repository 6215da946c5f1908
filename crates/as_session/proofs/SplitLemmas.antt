-- The split of a byte string into messages: there is one, and no other.
use Rattle.std.proofs.Common.{◌≡◌, ℕ, zero, suc, ◌≤◌, List, [], ◌∷◌, ◌++◌, length, take, drop, Some, refl, sym, ap, subst, ◌∙◌, arith, append_assoc}
use Rattle.std.specs.List.{AllByRecursion}
use Rattle.std.proofs.lemmas.List.{length-append, length-drop, length-take-le, take-append-drop, take_at, drop_at, nil_from_length}
use Rattle.scte104_codec.specs.declared.framing.Frame.{Frame}
use Rattle.scte104_codec.specs.declared.framing.Frame.TheVariants.{NeedMore, Whole, BadSize}
use Rattle.scte104_codec.specs.Framing.{size_in, frame_of}
use Rattle.scte104_codec.proofs.FrameLemmas.{is_whole, is_size, least_twelve, size_goes_on, frame_whole}
use Rattle.as_session.specs.Messages.{IsMessage, NoneFirst, joined, Split, Splits, split_by, messages_within, messages_of}

-- ---- the message at the front

-- a whole message at the front of some bytes
pub record Front (bytes : List ℕ) (size : ℕ) : Type 0 where
  pub least : 12 ≤ size
  pub fits : size ≤ length bytes
  pub long : length (take size bytes) ≡ size
  pub is_message : IsMessage (take size bytes)

pub front_of : (bytes : List ℕ) (size : ℕ) → frame_of bytes ≡ Whole size → Front bytes size
front_of bytes size e =
    let w = is_whole bytes size e in
    let s = is_size bytes size w.sized in
    let twelve = least_twelve bytes in
    let least : 12 ≤ size = omega (arith, s.least) in
    let fits = w.fits in
    let long : length (take size bytes) ≡ size = length-take-le size bytes fits in
    let same : size_in (take size bytes) ≡ Some size = sym (size_goes_on (take size bytes) (drop size bytes) (omega arith)) ∙ ap size_in (take-append-drop size bytes) ∙ w.sized in
    record { least = least; fits = fits; long = long; is_message = frame_whole (take size bytes) size (omega arith) same (omega arith) ∙ ap Whole (sym long) }

-- whatever follows a message, it stands at the front
pub message_front : (m more : List ℕ) → IsMessage m → frame_of (m ++ more) ≡ Whole (length m)
message_front m more is =
    let w = is_whole m (length m) is in
    let four = w.four in
    let long = length-append m more in
    frame_whole (m ++ more) (length m) (omega arith) (size_goes_on m more four ∙ w.sized) (omega arith)

-- ---- a split is the split

none_split : (others : List ℕ → Split) (bytes : List ℕ) (f : Frame) → NoneFirst f → split_by others bytes f ≡ record { messages = []; rest = bytes }
none_split others bytes (NeedMore n) h = refl
none_split others bytes (Whole size) h = absurd h
none_split others bytes BadSize h = refl

none_within : (n : ℕ) (bytes : List ℕ) → NoneFirst (frame_of bytes) → messages_within n bytes ≡ record { messages = []; rest = bytes }
unfolding messages_within
none_within zero bytes h = refl
none_within (suc n) bytes h = none_split (messages_within n) bytes (frame_of bytes) h

front_within : (n : ℕ) (m more : List ℕ) (behind : Split) → IsMessage m → messages_within n more ≡ behind → messages_within (suc n) (m ++ more) ≡ record { messages = m ∷ behind.messages; rest = behind.rest }
unfolding messages_within
front_within n m more behind is e =
    rw (message_front m more is, take_at m more (length m) refl, drop_at m more (length m) refl, e) refl

pub split_only : (n : ℕ) (ms : List (List ℕ)) (rest bytes : List ℕ) → length bytes ≤ n → bytes ≡ joined ms ++ rest → AllByRecursion IsMessage ms → NoneFirst (frame_of rest) → messages_within n bytes ≡ record { messages = ms; rest = rest }
split_only n [] rest bytes le parts each none = subst (λ (xs : List ℕ). messages_within n xs ≡ record { messages = []; rest = rest }) (sym parts) (none_within n rest none)
split_only zero (m ∷ ms) rest bytes le parts each none =
    let w = is_whole m (length m) each.0 in
    let four = w.four in
    let long : length bytes ≡ length ((m ++ joined ms) ++ rest) = ap length parts in
    let a = length-append (m ++ joined ms) rest in
    let b = length-append m (joined ms) in
    absurd (omega arith)
split_only (suc n) (m ∷ ms) rest bytes le parts each none =
    let w = is_whole m (length m) each.0 in
    let four = w.four in
    let regrouped : bytes ≡ m ++ (joined ms ++ rest) = parts ∙ append_assoc m (joined ms) rest in
    let long : length bytes ≡ length (m ++ (joined ms ++ rest)) = ap length regrouped in
    let a = length-append m (joined ms ++ rest) in
    let others = split_only n ms rest (joined ms ++ rest) (omega arith) refl each.1 none in
    ap (messages_within (suc n)) regrouped ∙ front_within n m (joined ms ++ rest) _ each.0 others

-- ---- there is one

none_splits : (bytes : List ℕ) → NoneFirst (frame_of bytes) → Splits bytes (record { messages = []; rest = bytes })
none_splits bytes h = record { parts = refl; each = tt; none_first = h }

front_splits : (bytes : List ℕ) (size : ℕ) (behind : Split) → Front bytes size → Splits (drop size bytes) behind → Splits bytes (record { messages = take size bytes ∷ behind.messages; rest = behind.rest })
front_splits bytes size behind front s =
    record {
      parts = sym (take-append-drop size bytes) ∙ ap (λ (xs : List ℕ). take size bytes ++ xs) s.parts ∙ sym (append_assoc (take size bytes) (joined behind.messages) behind.rest);
      each = (front.is_message, s.each);
      none_first = s.none_first;
    }

splits_by : (n : ℕ) (bytes : List ℕ) (f : Frame) → length bytes ≤ suc n → ((xs : List ℕ) → length xs ≤ n → Splits xs (messages_within n xs)) → frame_of bytes ≡ f → Splits bytes (split_by (messages_within n) bytes f)
splits_by n bytes (NeedMore more) le fewer e = none_splits bytes (subst NoneFirst (sym e) tt)
splits_by n bytes (Whole size) le fewer e =
    let front = front_of bytes size e in
    let least = front.least in
    let long = length-drop size bytes in
    front_splits bytes size (messages_within n (drop size bytes)) front (fewer (drop size bytes) (omega arith))
splits_by n bytes BadSize le fewer e = none_splits bytes (subst NoneFirst (sym e) tt)

none_empty : NoneFirst (frame_of [])
unfolding frame_of
none_empty = tt

pub splits_within : (n : ℕ) (bytes : List ℕ) → length bytes ≤ n → Splits bytes (messages_within n bytes)
unfolding messages_within
splits_within zero bytes le =
    let none : bytes ≡ [] = nil_from_length bytes (omega arith) in
    none_splits bytes (subst (λ (xs : List ℕ). NoneFirst (frame_of xs)) (sym none) none_empty)
splits_within (suc n) bytes le = splits_by n bytes (frame_of bytes) le (splits_within n) refl

pub only_split : (bytes : List ℕ) (split : Split) → Splits bytes split → messages_of bytes ≡ split
only_split bytes split s = split_only (length bytes) split.messages split.rest bytes (omega arith) s.parts s.each s.none_first

pub the_split : (bytes : List ℕ) → Splits bytes (messages_of bytes)
the_split bytes = splits_within (length bytes) bytes (omega arith)
