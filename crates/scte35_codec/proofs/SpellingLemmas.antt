-- The sizes of what is written.
use Rattle.std.proofs.Common.{◌≡◌, ℕ, ◌+◌, ◌*◌, ◌≤◌, List, [], ◌∷◌, ◌++◌, length, take, refl, ap, ◌∙◌, arith}
use Rattle.std.specs.List.{flat_map}
use Rattle.std.proofs.lemmas.List.{length-append, length-take}
use Rattle.std.proofs.lemmas.List.Concat.{flat_map-cons}
use Rattle.scte35_codec.specs.Spelling.{avail_descriptor_bytes}

pub avails_length : (ids : List ℕ) → length (flat_map avail_descriptor_bytes ids) ≡ 10 * length ids
avails_length [] = refl
avails_length (id ∷ ids) =
    let more = avails_length ids in
    ap length (flat_map-cons avail_descriptor_bytes id ids) ∙ omega (arith, more)

-- the room that the first of the ids have taken
pub avails_room : (out before ids : List ℕ) (i : ℕ) → out ≡ before ++ flat_map avail_descriptor_bytes (take i ids) → i ≤ length ids → length out ≡ length before + 10 * i
avails_room out before ids i e le =
    let some = avails_length (take i ids) in
    omega (arith, ap length e, length-append before (flat_map avail_descriptor_bytes (take i ids)), some, length-take i ids)
