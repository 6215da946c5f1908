-- The front of some bytes that a whole frame names is whole by itself.
use Rattle.std.proofs.Common.{◌≡◌, ℕ, ◌≤◌, List, length, take, drop, Some, sym, ap, ◌∙◌, arith}
use Rattle.std.proofs.lemmas.List.{take-append-drop, length-take-le}
use Rattle.scte104_codec.specs.declared.framing.Frame.TheVariants.{Whole}
use Rattle.scte104_codec.specs.Framing.{size_in, frame_of}
use Rattle.scte104_codec.proofs.FrameLemmas.{least_twelve, size_goes_on, frame_whole, is_whole, is_size}

-- ---- a size that stands there is no less than the least

size_twelve : (bytes : List ℕ) (size : ℕ) → size_in bytes ≡ Some size → 12 ≤ size
size_twelve bytes size h =
    let least = (is_size bytes size h).least in
    omega (arith, least, least_twelve bytes)

-- ---- what a whole frame says of the bytes

pub whole_fits : (bytes : List ℕ) (size : ℕ) → frame_of bytes ≡ Whole size → size ≤ length bytes
whole_fits bytes size h = (is_whole bytes size h).fits

-- ---- the front

pub front_size : (bytes : List ℕ) (size : ℕ) → frame_of bytes ≡ Whole size → size ≡ length (take size bytes)
front_size bytes size h = sym (length-take-le size bytes (whole_fits bytes size h))

pub front_whole : (bytes : List ℕ) (size : ℕ) → frame_of bytes ≡ Whole size → frame_of (take size bytes) ≡ Whole (length (take size bytes))
front_whole bytes size h =
    let whole = is_whole bytes size h in
    let twelve : 12 ≤ size = size_twelve bytes size whole.sized in
    let long : length (take size bytes) ≡ size = length-take-le size bytes whole.fits in
    let same : size_in (take size bytes) ≡ size_in bytes =
    sym (size_goes_on (take size bytes) (drop size bytes) (omega arith)) ∙ ap size_in (take-append-drop size bytes) in
    frame_whole (take size bytes) size (omega arith) (same ∙ whole.sized) (omega arith) ∙ ap Whole (sym long)
