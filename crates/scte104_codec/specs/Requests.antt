-- The data of the operations that ask for a break.
use Rattle.std.specs.Prelude.{ℕ, zero, suc, ◌+◌, ◌*◌, ◌<◌, ◌^◌, List, [], ◌∷◌, ◌++◌, length, drop, slice_index, Option, Some, None, not, nat_lt, ◌==◌, if◌then◌else◌}
use Rattle.std.specs.List.{flat_map}
use Rattle.byteorder.specs.Endian.{big_bytes}
use Rattle.scte104_codec.specs.declared.requests.SpliceRequest.{SpliceRequest}
use Rattle.wire_fields.specs.Numbers.{number16_at, number32_at}

-- splice_request_data, by the places of its fields
unfoldable pub splice_request_of : List ℕ → Option SpliceRequest
splice_request_of bytes =
    if length bytes == 14
    then Some (record {
      splice_insert_type = slice_index bytes 0;
      splice_event_id = number32_at bytes 1;
      unique_program_id = number16_at bytes 5;
      pre_roll_time = number16_at bytes 7;
      break_duration = number16_at bytes 9;
      avail_num = slice_index bytes 11;
      avails_expected = slice_index bytes 12;
      auto_return = not (slice_index bytes 13 == 0);
    })
    else None

-- its spelling, with this auto_return_flag
abbrev pub splice_request_bytes : SpliceRequest → ℕ → List ℕ
splice_request_bytes r auto_return_flag =
    (r.splice_insert_type ∷ []) ++ big_bytes 4 r.splice_event_id ++ big_bytes 2 r.unique_program_id ++ big_bytes 2 r.pre_roll_time
    ++ big_bytes 2 r.break_duration ++ r.avail_num ∷ r.avails_expected ∷ auto_return_flag ∷ []

pub record SpliceRequestFits (r : SpliceRequest) : Type 0 where
  pub splice_event_id : r.splice_event_id < 2 ^ 32
  pub unique_program_id : r.unique_program_id < 65536
  pub pre_roll_time : r.pre_roll_time < 65536
  pub break_duration : r.break_duration < 65536

-- so many ids of four bytes, as far as the bytes have them
unfoldable pub avail_ids_from : ℕ → List ℕ → List ℕ
avail_ids_from zero bytes = []
avail_ids_from (suc n) bytes = if nat_lt (length bytes) 4 then [] else number32_at bytes 0 ∷ avail_ids_from n (drop 4 bytes)

-- insert_avail_descriptor_request_data: a count and as many ids
unfoldable pub avail_ids_of : List ℕ → Option (List ℕ)
avail_ids_of bytes = if length bytes == 1 + 4 * slice_index bytes 0 then Some (avail_ids_from (slice_index bytes 0) (drop 1 bytes)) else None

abbrev pub avail_ids_bytes : List ℕ → List ℕ
avail_ids_bytes ids = length ids ∷ flat_map (big_bytes 4) ids
