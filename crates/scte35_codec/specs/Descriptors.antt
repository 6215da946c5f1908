-- The descriptor loop (ANSI/SCTE 35, splice_info_section, splice_descriptor and avail_descriptor).
use Rattle.std.specs.Prelude.{ℕ, zero, suc, Bool, ◌&&◌, List, [], ◌∷◌, length, take, drop, Option, Some, None, nat_lt, ◌==◌, if◌then◌else◌}
use Rattle.std.specs.Option.{option_map_or}
use Rattle.std.specs.List.{filter_map}
use Rattle.std.specs.Borrow.{Bor}
use Rattle.wire_fields.specs.Numbers.{number_of}
use Rattle.scte35_codec.specs.Fields.{◌>>=◌, byte_at, number_at}

-- splice_descriptor_tag, and what follows descriptor_length
pub record SpliceDescriptor : Type 0 where
  pub tag : ℕ
  pub body : List ℕ

abbrev pub descriptor_bytes : SpliceDescriptor → List ℕ
descriptor_bytes d = d.tag ∷ length d.body ∷ d.body

-- avail_descriptor(): tag 0, length 8, the identifier CUEI
unfoldable pub is_avail : SpliceDescriptor → Bool
is_avail d = (d.tag == 0) && (length d.body == 8) && (number_of 4 d.body == 0x43554549)

-- its provider_avail_id
unfoldable pub avail_id : SpliceDescriptor → Option ℕ
avail_id d = if is_avail d then Some (number_of 4 (drop 4 d.body)) else None

-- the provider_avail_id of each avail_descriptor; other descriptors are passed over
abbrev pub avails_of : List SpliceDescriptor → List ℕ
avails_of ds = filter_map avail_id ds

-- ---- how they are read

-- the descriptor at the front and the bytes behind it
unfoldable pub descriptor_at : List ℕ → Option (SpliceDescriptor × List ℕ)
descriptor_at bytes = do
  tag ← byte_at bytes
  size ← byte_at tag.1
  if nat_lt (length size.1) size.0 then None else Some (record { tag = tag.0; body = take size.0 size.1 }, drop size.0 size.1)

-- at most so many descriptors, as far as the bytes have them, and the bytes that are left
unfoldable pub descriptors_in : ℕ → List ℕ → List SpliceDescriptor × List ℕ
descriptors_in zero bytes = ([], bytes)
descriptors_in (suc n) bytes = option_map_or (λ d. let more = descriptors_in n d.1 in (d.0 ∷ more.0, more.1)) (descriptor_at bytes) ([], bytes)

-- all of them: no descriptor is empty, so there are no more than bytes
unfoldable pub descriptors_of : List ℕ → List SpliceDescriptor × List ℕ
descriptors_of bytes = descriptors_in (length bytes) bytes

-- descriptor_loop_length and as many bytes, where descriptors fill these exactly
unfoldable pub descriptor_loop_at : List ℕ → Option (List SpliceDescriptor)
descriptor_loop_at bytes = do
  size ← number_at 2 bytes
  if nat_lt (length size.1) size.0 then None else (let read = descriptors_of (take size.0 size.1) in if length read.1 == 0 then Some read.0 else None)

-- what the code takes from the front
abbrev pub descriptor_taken : ℕ × Bor (List ℕ) × Bor (List ℕ) → SpliceDescriptor × List ℕ
descriptor_taken x = (record { tag = x.0; body = x.1.now }, x.2.now)
