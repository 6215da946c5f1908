-- The time stamps at the front of a PES packet, ISO/IEC 13818-1, 2.4.3.6 (syntax) and 2.4.3.7 (semantics).
-- The words read the payload of the first packet of a unit, which may end before the header does.
use Rattle.std.specs.Prelude.{◌≡◌, ◌≢◌, ℕ, ◌+◌, ◌-◌, ◌*◌, ◌/◌, ◌%◌, ◌^◌, ◌<◌, ◌==◌, nat_lt, Bool, true, false, not, ◌&&◌, ◌||◌, if◌then◌else◌, List, length, slice_index, slice_set, Option, None, Some, option_map, Result, Ok, Err, ◌++◌}
use Rattle.pes_time.specs.declared.head.PesHead.{PesHead}
use Rattle.pes_time.specs.declared.head.PesHead.TheVariants.{Timed, Untimed}
use Rattle.pes_time.specs.declared.head.HeaderSplit.{HeaderSplit}

-- the payload reaches to byte k, and that byte passes the test
abbrev pub shows : List ℕ → ℕ → (ℕ → Bool) → Bool
shows payload k test = nat_lt k (length payload) && test (slice_index payload k)

-- packet_start_code_prefix is 00 00 01 (2.4.3.6); a byte that is there tells another one
abbrev pub other_start_code : List ℕ → Bool
other_start_code payload = shows payload 0 (λ b. not (b == 0)) || shows payload 1 (λ b. not (b == 0)) || shows payload 2 (λ b. not (b == 1))

-- the values of stream_id (2.4.3.7, table of stream_id) whose PES packets have no header past PES_packet_length: program_stream_map,
-- padding_stream, private_stream_2, ECM, EMM, DSMCC_stream, ITU-T Rec. H.222.1 type E, program_stream_directory
abbrev pub is_headless : ℕ → Bool
is_headless stream_id = stream_id == 0xBC || stream_id == 0xBE || stream_id == 0xBF || stream_id == 0xF0 || stream_id == 0xF1 || stream_id == 0xF2 || stream_id == 0xF8 || stream_id == 0xFF

-- PTS_DTS_flags, the top two bits of byte 7: 10 is a PTS, 11 is PTS and DTS, 00 neither, 01 is forbidden (2.4.3.7)
abbrev pub pts_dts_flags : List ℕ → ℕ
pts_dts_flags payload = slice_index payload 7 / 64

-- how many stamps the flags announce
abbrev pub stamp_count : List ℕ → ℕ
stamp_count payload = pts_dts_flags payload - 1

-- no stamp is to be read, and a byte of the payload tells so: another start code; a stream without the header; not the bits 10 before
-- the flags of byte 6; no PTS; or a PES_header_data_length, byte 8, without room for the stamps of 5 bytes each
unfoldable pub is_untimed : List ℕ → Bool
is_untimed payload =
    other_start_code payload
    || shows payload 3 is_headless
    || shows payload 6 (λ b. not (b / 64 == 2))
    || shows payload 7 (λ b. nat_lt (b / 64) 2)
    || shows payload 8 (λ b. nat_lt b (5 * stamp_count payload))

-- the payload ends before the stamps do, or before it is known whether there are any
unfoldable pub is_split : List ℕ → Bool
is_split payload = not (is_untimed payload) && nat_lt (length payload) (9 + 5 * stamp_count payload)

-- the 33 bits of a stamp whose five bytes begin at byte k: 4 bits of prefix, 32..30, marker, 29..15, marker, 14..0, marker (2.4.3.6);
-- the remainders say nothing of bytes, and bound the stamp on every list
abbrev pub stamp_at : List ℕ → ℕ → ℕ
stamp_at bytes k =
    slice_index bytes k / 2 % 8 * 2 ^ 30
    + slice_index bytes (k + 1) % 256 * 2 ^ 22
    + slice_index bytes (k + 2) / 2 % 128 * 2 ^ 15
    + slice_index bytes (k + 3) % 256 * 2 ^ 7
    + slice_index bytes (k + 4) / 2 % 128

-- the stamps at their places: the PTS at byte 9, the DTS behind it
abbrev pub timed_head : List ℕ → PesHead
timed_head payload =
    if stamp_count payload == 2
    then Timed (stamp_at payload 9) (Some (stamp_at payload 14)) 9 (Some 14)
    else Timed (stamp_at payload 9) None 9 None

-- what the header says, or that it is split
unfoldable pub head_of : List ℕ → Result PesHead HeaderSplit
head_of payload =
    if is_untimed payload then Ok Untimed
    else if is_split payload then Err (record {})
    else Ok (timed_head payload)

-- the PTS that a unit begins with: none where it has none, or is split
unfoldable pub stamp_of : List ℕ → Option ℕ
stamp_of payload = if is_untimed payload || is_split payload then None else Some (stamp_at payload 9)

-- the PTS of a head
abbrev pub pts_of : PesHead → Option ℕ
pts_of (Timed pts dts pts_at dts_at) = Some pts
pts_of Untimed = None

-- the bytes with t in the 33 bits of the stamp at byte k; prefix and marker bits stay
unfoldable pub with_stamp_at : List ℕ → ℕ → ℕ → List ℕ
with_stamp_at bytes k t =
    let first = slice_set bytes k (slice_index bytes k / 16 * 16 + t / 2 ^ 30 * 2 + slice_index bytes k % 2) in
    let second = slice_set first (k + 1) (t / 2 ^ 22 % 256) in
    let third = slice_set second (k + 2) (t / 2 ^ 15 % 128 * 2 + slice_index bytes (k + 2) % 2) in
    let fourth = slice_set third (k + 3) (t / 2 ^ 7 % 256) in
    slice_set fourth (k + 4) (t % 128 * 2 + slice_index bytes (k + 4) % 2)

-- the same where there is such a stamp
abbrev pub with_optional_stamp : List ℕ → Option ℕ → Option ℕ → List ℕ
with_optional_stamp bytes (Some k) (Some t) = with_stamp_at bytes k t
with_optional_stamp bytes (Some k) None = bytes
with_optional_stamp bytes None t = bytes

-- the bytes with the stamps of this head, where the head says that they stand
abbrev pub with_stamps : List ℕ → PesHead → List ℕ
with_stamps bytes (Timed pts dts pts_at dts_at) = with_optional_stamp (with_stamp_at bytes pts_at pts) dts_at dts
with_stamps bytes Untimed = bytes

-- the head with this done to each stamp
abbrev pub with_each : (ℕ → ℕ) → PesHead → PesHead
with_each change (Timed pts dts pts_at dts_at) = Timed (change pts) (option_map change dts) pts_at dts_at
with_each change Untimed = Untimed

-- a stamp delta ticks later, modulo 2^33
abbrev pub later : ℕ → ℕ → ℕ
later delta t = (t + delta) % 2 ^ 33

-- the bytes with this done to each stamp that is read from them
abbrev pub with_read : (ℕ → ℕ) → Result PesHead HeaderSplit → List ℕ → List ℕ
with_read change (Ok head) bytes = with_stamps bytes (with_each change head)
with_read change (Err split) bytes = bytes

-- a unit's bytes with its stamps delta ticks later
unfoldable pub restamped : List ℕ → ℕ → List ℕ
restamped bytes delta = with_read (later delta) (head_of bytes) bytes

-- a unit's bytes with the value bits of its stamps 0: what a move of its stamps leaves as it was
unfoldable pub with_stamps_zeroed : List ℕ → List ℕ
with_stamps_zeroed bytes = with_read (λ t. 0) (head_of bytes) bytes

-- what was read, with this done to each stamp
abbrev pub read_with : (ℕ → ℕ) → Result PesHead HeaderSplit → Result PesHead HeaderSplit
read_with change (Ok head) = Ok (with_each change head)
read_with change (Err split) = Err split

-- a move of the stamps by delta is read as the same head with the stamps later, and leaves all else
pub record MovesStampsAlone (bytes : List ℕ) (delta : ℕ) : Type 0 where
  pub head : head_of (restamped bytes delta) ≡ read_with (later delta) (head_of bytes)
  pub stamp : stamp_of (restamped bytes delta) ≡ option_map (later delta) (stamp_of bytes)
  pub split : is_split (restamped bytes delta) ≡ is_split bytes
  pub rest : with_stamps_zeroed (restamped bytes delta) ≡ with_stamps_zeroed bytes
  pub size : length (restamped bytes delta) ≡ length bytes

abbrev pub RestampMovesStampsAlone : Type 0
RestampMovesStampsAlone = (bytes : List ℕ) (delta : ℕ) → MovesStampsAlone bytes delta

-- what is read of the first packet's payload is read of all payloads that begin with it, so of the whole unit
abbrev pub MoreBytesReadTheSame : Type 0
MoreBytesReadTheSame = (payload more : List ℕ) → is_split payload ≡ false → (head_of (payload ++ more) ≡ head_of payload) × (stamp_of (payload ++ more) ≡ stamp_of payload) × (is_split (payload ++ more) ≡ false)

-- a payload with two continuations that are whole and are read differently
pub record Undecided (payload : List ℕ) : Type 0 where
  pub one : List ℕ
  pub other : List ℕ
  pub one_whole : is_split (payload ++ one) ≡ false
  pub other_whole : is_split (payload ++ other) ≡ false
  pub differ : head_of (payload ++ one) ≢ head_of (payload ++ other)

-- a payload, whose byte 7 is a byte, is split only where what follows it decides
abbrev pub SplitIsUndecided : Type 0
SplitIsUndecided = (payload : List ℕ) → slice_index payload 7 < 256 → is_split payload ≡ true → Undecided payload
