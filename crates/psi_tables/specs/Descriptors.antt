-- The descriptors of a program (ISO/IEC 13818-1, 2.6): of each descriptor_tag, descriptor_length and the data.
use Rattle.std.specs.Prelude.{ℕ, ◌+◌, ◌<◌, List, [], ◌∷◌, length, take, drop, Bool, slice_index, nat_lt, ◌==◌, ◌&&◌, if◌then◌else◌, Option, Some, None}
use Rattle.std.specs.Borrow.{Bor}

pub record Descriptor : Type 0 where
  pub tag : ℕ
  pub body : List ℕ

abbrev pub descriptor_bytes : Descriptor → List ℕ
descriptor_bytes d = d.tag ∷ length d.body ∷ d.body

-- what has a spelling
pub record IsDescriptor (d : Descriptor) : Type 0 where
  pub tag : d.tag < 256
  pub size : length d.body < 256

-- the descriptor at the front and the bytes behind it, where the bytes don't end before it does
unfoldable pub descriptor_at : List ℕ → Option (Descriptor × List ℕ)
descriptor_at bytes =
    if nat_lt (length bytes) (2 + slice_index bytes 1) then None
    else Some (record { tag = slice_index bytes 0; body = take (slice_index bytes 1) (drop 2 bytes) }, drop (2 + slice_index bytes 1) bytes)

-- what the code takes from the front: the descriptor's own bytes and those behind it
abbrev pub taken_descriptor : Bor (List ℕ) × Bor (List ℕ) → List ℕ × List ℕ
taken_descriptor t = (t.0.now, t.1.now)

abbrev pub shown_descriptor : List ℕ → Descriptor × List ℕ → List ℕ × List ℕ
shown_descriptor bytes d = (take (2 + slice_index bytes 1) bytes, d.1)

-- the registration descriptor of programs with cues (SCTE 35): tag 5, format_identifier `CUEI`
abbrev pub cue_registration : Descriptor
cue_registration = record { tag = 5; body = 67 ∷ 85 ∷ 69 ∷ 73 ∷ [] }

-- these bytes are it
unfoldable pub registers_cues : List ℕ → Bool
registers_cues bytes =
    (length bytes == 6) && (slice_index bytes 0 == 5) && (slice_index bytes 1 == 4) && (slice_index bytes 2 == 67) && (slice_index bytes 3 == 85)
    && (slice_index bytes 4 == 69) && (slice_index bytes 5 == 73)

-- the descriptors without the last, where that is the registration descriptor
unfoldable pub without_registration : List Descriptor → List Descriptor
without_registration [] = []
without_registration (d ∷ []) = if registers_cues (descriptor_bytes d) then [] else d ∷ []
without_registration (d ∷ e ∷ ds) = d ∷ without_registration (e ∷ ds)
