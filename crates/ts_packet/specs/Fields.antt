-- What one transport packet says: the fields of ISO/IEC 13818-1, 2.4.3.2 to 2.4.3.5, over its 188 bytes.
-- The words that laws over runs use are opaque (`unfoldable`): such a law knows their lemmas and never their bytes.
use Rattle.std.specs.Prelude.{ℕ, ◌+◌, ◌*◌, ◌/◌, ◌%◌, List, [], ◌∷◌, Bool, false, not, ◌&&◌, ◌||◌, ◌==◌, if◌then◌else◌, Option, None, Some, is_some, slice_index, take, drop, nat_le, nat_eq}
use lib.Pointwise.{pointwise}
use Rattle.std.specs.Bool.{beq}
use Rattle.std.specs.Option.{option_eq}

-- transport_error_indicator: the packet is marked in error
unfoldable pub in_error : List ℕ → Bool
in_error p = slice_index p 1 / 128 % 2 == 1

-- payload_unit_start_indicator
unfoldable pub unit_start : List ℕ → Bool
unit_start p = slice_index p 1 / 64 % 2 == 1

-- PID
unfoldable pub pid_of : List ℕ → ℕ
pid_of p = slice_index p 1 % 32 * 256 + slice_index p 2

-- transport_scrambling_control is not 00
unfoldable pub scrambled : List ℕ → Bool
scrambled p = not (slice_index p 3 / 64 == 0)

-- adaptation_field_control
abbrev pub adaptation_control : List ℕ → ℕ
adaptation_control p = slice_index p 3 / 16 % 4

-- continuity_counter
unfoldable pub number : List ℕ → ℕ
number p = slice_index p 3 % 16

-- adaptation_field_length, where there is an adaptation field
abbrev pub adaptation_length : List ℕ → ℕ
adaptation_length p = slice_index p 4

-- The payload. A packet marked in error has none, since its other bytes are not to be relied on,
-- and adaptation_field_control 00 is taken for a packet without payload.
unfoldable pub payload : List ℕ → Option (List ℕ)
payload p = if in_error p then None
    else (if adaptation_control p == 1 then Some (drop 4 p)
    else (if adaptation_control p == 3 && nat_le (adaptation_length p) 182 then Some (drop (5 + adaptation_length p) p)
    else None))

-- it has an adaptation field of at least this length
abbrev pub has_adaptation : ℕ → List ℕ → Bool
has_adaptation n p = not (in_error p) && ((adaptation_control p == 2 || adaptation_control p == 3) && nat_le n (adaptation_length p))

-- random_access_indicator
unfoldable pub random_access : List ℕ → Bool
random_access p = has_adaptation 1 p && (slice_index p 5 / 64 % 2 == 1)

-- the six bytes of program_clock_reference_base, the reserved bits and the extension, where PCR_flag is set
unfoldable pub pcr : List ℕ → Option (List ℕ)
pcr p = if has_adaptation 7 p && (slice_index p 5 / 16 % 2 == 1) then Some (take 6 (drop 6 p)) else None

-- the packet with this continuity_counter, below 16
unfoldable pub with_number : ℕ → List ℕ → List ℕ
with_number n p = slice_index p 0 ∷ slice_index p 1 ∷ slice_index p 2 ∷ (slice_index p 3 / 16 * 16 + n) ∷ drop 4 p

-- the packet with transport_error_indicator set, and nothing else changed
unfoldable pub marked : List ℕ → List ℕ
marked p = slice_index p 0 ∷ (slice_index p 1 % 128 + 128) ∷ drop 2 p

-- ---- the words of runs

-- a packet of the PID that is not marked in error
unfoldable pub on : ℕ → List ℕ → Bool
on pid p = not (in_error p) && (pid_of p == pid)

-- a PID among some; and a packet on one of them
abbrev pub is_among : ℕ → List ℕ → Bool
is_among pid [] = false
is_among pid (q ∷ qs) = (q == pid) || is_among pid qs

abbrev pub on_one : List ℕ → List ℕ → Bool
on_one [] p = false
on_one (pid ∷ pids) p = on pid p || on_one pids p

-- a payload packet of the PID
unfoldable pub payload_on : ℕ → List ℕ → Bool
payload_on pid p = on pid p && is_some (payload p)

-- the payload, empty where there is none
abbrev pub or_none : Option (List ℕ) → List ℕ
or_none None = []
or_none (Some bs) = bs

unfoldable pub bytes : List ℕ → List ℕ
bytes p = or_none (payload p)

-- equal in payload_unit_start_indicator and payload
unfoldable pub carries_as : List ℕ → List ℕ → Bool
carries_as q p = beq (unit_start q) (unit_start p) && option_eq (pointwise nat_eq) (payload q) (payload p)

-- equal in continuity_counter, payload_unit_start_indicator and payload
unfoldable pub alike : List ℕ → List ℕ → Bool
alike q p = (number q == number p) && carries_as q p

-- the packet with its counter moved up by n, modulo 16
unfoldable pub renumbered : ℕ → List ℕ → List ℕ
renumbered n p = with_number ((number p + n) % 16) p

-- the packet but for its counter
unfoldable pub without_number : List ℕ → List ℕ
without_number p = with_number 0 p
