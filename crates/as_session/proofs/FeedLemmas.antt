-- What one call uses and gives.
use Rattle.std.proofs.Common.{◌≡◌, ℕ, ◌-◌, ◌<◌, ◌≤◌, true, List, [], ◌++◌, length, take, refl, subst, arith}
use Rattle.std.proofs.lemmas.List.{length-append}
use Rattle.scte104_codec.specs.declared.framing.Frame.{Frame}
use Rattle.scte104_codec.specs.declared.framing.Frame.TheVariants.{NeedMore, Whole, BadSize}
use Rattle.scte104_codec.specs.Framing.{frame_of}
use Rattle.as_session.specs.Pending.{is_partial}
use Rattle.as_session.specs.Feeding.{State, opened, shut, message, fed_by, feed_of}
use Rattle.as_session.specs.Messages.{IsMessage}
use Rattle.as_session.proofs.FrameLemmas.{bad_parts}
use Rattle.as_session.proofs.SplitLemmas.{front_of}
use Rattle.as_session.proofs.RunLemmas.{below_whole}

within_by : (pending piece : List ℕ) (f : Frame) → frame_of (pending ++ piece) ≡ f → (fed_by pending piece f).used ≤ length piece
within_by pending piece (NeedMore n) e = omega arith
within_by pending piece (Whole size) e =
    let front = front_of (pending ++ piece) size e in
    let fits = front.fits in
    let all = length-append pending piece in
    omega arith
within_by pending piece BadSize e =
    let bad = bad_parts (pending ++ piece) e in
    let four = bad.four in
    let all = length-append pending piece in
    omega arith

pub used_within : (s : State) (piece : List ℕ) → (feed_of s piece).used ≤ length piece
used_within (opened pending) piece = within_by pending piece (frame_of (pending ++ piece)) refl
used_within shut piece = omega arith

whole_by : (pending piece m : List ℕ) (f : Frame) → frame_of (pending ++ piece) ≡ f → (fed_by pending piece f).gives ≡ message m → IsMessage m
whole_by pending piece m (NeedMore n) e h = absurd cc
whole_by pending piece m (Whole size) e h =
    let front = front_of (pending ++ piece) size e in
    let same : take size (pending ++ piece) ≡ m = cc in
    subst IsMessage same front.is_message
whole_by pending piece m BadSize e h = absurd cc

-- what is given is a whole message
pub gives_whole : (s : State) (piece m : List ℕ) → (feed_of s piece).gives ≡ message m → IsMessage m
gives_whole (opened pending) piece m h = whole_by pending piece m (frame_of (pending ++ piece)) refl h
gives_whole shut piece m h = absurd cc

-- bytes that need more don't hold a whole message
pub uses_some : (pending piece : List ℕ) (size : ℕ) → is_partial pending ≡ true → frame_of (pending ++ piece) ≡ Whole size → 0 < size - length pending
uses_some pending piece size partial e =
    let below = below_whole pending pending piece [] (record { parts = refl; each = tt; partial = partial }) size e in
    omega arith
