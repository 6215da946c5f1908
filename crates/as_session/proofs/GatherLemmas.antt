-- What gathers of a piece, in two parts: up to the fourth byte, and up to the size.
use Rattle.std.proofs.Common.{◌≡◌, ℕ, ◌+◌, ◌-◌, ◌<◌, ◌≤◌, true, List, ◌++◌, length, take, drop, min, Some, None, sym, ap, ◌∙◌, arith, append_assoc, inl, inr}
use Rattle.std.proofs.Math.Seq.{take-add, take-append-add}
use Rattle.std.proofs.lemmas.Bool.{cases_lt}
use Rattle.std.proofs.lemmas.List.{length-append, length-take, take-append-drop, take_all}
use Rattle.scte104_codec.specs.declared.framing.Frame.TheVariants.{NeedMore, Whole, BadSize}
use Rattle.scte104_codec.specs.Framing.{size_in, frame_of}
use Rattle.scte104_codec.proofs.FrameLemmas.{size_goes_on, frame_whole}
use Rattle.as_session.specs.Pending.{is_partial, TakesIn}
use Rattle.as_session.proofs.FrameLemmas.{frame_short, frame_bad, frame_below, partial_below}

-- the ring after the first part
pub record First (pending piece ring : List ℕ) (used : ℕ) : Type 0 where
  pub count : used ≡ min (length piece) (4 - length pending)
  pub items : ring ≡ pending ++ take used piece

module _ (pending piece ring : List ℕ) (used : ℕ) (first : First pending piece ring used) where
  length_first : length ring ≡ length pending + used
  length_first =
      let all = length-append pending (take used piece) in
      let front = length-take used piece in
      let e : length ring ≡ length (pending ++ take used piece) = ap length first.items in
      let count = first.count in
      omega arith

  whole_first : ring ++ drop used piece ≡ pending ++ piece
  whole_first =
      ap (λ (xs : List ℕ). xs ++ drop used piece) first.items ∙ append_assoc pending (take used piece) (drop used piece) ∙ ap (λ (xs : List ℕ). pending ++ xs) (take-append-drop used piece)

  -- the piece ended before the fourth byte
  pub short_frame : length ring < 4 → NeedMore (4 - length ring) ≡ frame_of (pending ++ piece)
  short_frame lt =
      let long = length_first in
      let count = first.count in
      let all : take used piece ≡ piece = take_all used piece (omega arith) in
      let e : ring ≡ pending ++ piece = first.items ∙ ap (λ (xs : List ℕ). pending ++ xs) all in
      sym (frame_short ring lt) ∙ ap frame_of e

  pub bad_frame : 4 ≤ length ring → size_in ring ≡ None → BadSize ≡ frame_of (pending ++ piece)
  bad_frame le e =
      let there : size_in (ring ++ drop used piece) ≡ None = size_goes_on ring (drop used piece) le ∙ e in
      let long = length-append ring (drop used piece) in
      sym (frame_bad (ring ++ drop used piece) (omega arith) there) ∙ ap frame_of whole_first

  -- the second part
  module _ (size more : ℕ) (next : List ℕ) (le : 4 ≤ length ring) (sized : size_in ring ≡ Some size)
      (count : more ≡ min (length (drop used piece)) (size - length ring)) (items : next ≡ ring ++ take more (drop used piece)) where
    size_there : size_in (pending ++ piece) ≡ Some size
    size_there = ap size_in (sym whole_first) ∙ size_goes_on ring (drop used piece) le ∙ sized

    length_whole : length (pending ++ piece) ≡ length ring + length (drop used piece)
    length_whole = ap length (sym whole_first) ∙ length-append ring (drop used piece)

    length_next : length next ≡ length ring + more
    length_next =
        let all = length-append ring (take more (drop used piece)) in
        let front = length-take more (drop used piece) in
        let e : length next ≡ length (ring ++ take more (drop used piece)) = ap length items in
        omega arith

    pub below_frame : length next < size → NeedMore (size - length next) ≡ frame_of (pending ++ piece)
    below_frame lt =
        let long = length_next in
        let whole = length_whole in
        let same : length (pending ++ piece) ≡ length next = omega arith in
        sym (frame_below (pending ++ piece) size (omega arith) size_there (omega arith) ∙ ap (λ (n : ℕ). NeedMore (size - n)) same)

    pub whole_frame : size ≤ length next → Whole size ≡ frame_of (pending ++ piece)
    whole_frame fits =
        let long = length_next in
        let whole = length_whole in
        sym (frame_whole (pending ++ piece) size (omega arith) size_there (omega arith))

    -- before it the pending bytes were no whole message
    under : is_partial pending ≡ true → 12 ≤ size → length ring ≤ size
    under partial least =
        let long = length_first in
        let first-count = first.count in
        elim (cases_lt (length pending) 4) [
          | inl lt ↦ omega arith
          | inr four ↦
              let there : size_in pending ≡ Some size = sym (size_goes_on pending (take used piece) four) ∙ ap size_in (sym first.items) ∙ sized in
              let below = partial_below pending size partial four there in
              omega arith
        ]

    pub gathers : is_partial pending ≡ true → 12 ≤ size → size < 65536 → size ≤ length next → TakesIn pending piece (used + more) next (Whole size)
    gathers partial least most fits =
        let long = length_first in
        let long-next = length_next in
        let below = under partial least in
        let exact : length next ≡ size = omega arith in
        let all : length pending + (used + more) ≡ size = omega arith in
        let joined : next ≡ pending ++ take (used + more) piece =
        items ∙ ap (λ (xs : List ℕ). xs ++ take more (drop used piece)) first.items ∙ append_assoc pending (take used piece) (take more (drop used piece)) ∙ ap (λ (xs : List ℕ). pending ++ xs) (sym (take-add used more piece)) in
        let front : take size (pending ++ piece) ≡ pending ++ take (used + more) piece = ap (λ (n : ℕ). take n (pending ++ piece)) (sym all) ∙ take-append-add pending piece (used + more) in
        (omega arith, joined ∙ sym front, exact, omega arith)
