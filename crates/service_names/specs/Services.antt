-- The service description section (EN 300 468, 5.2.3), and the name that it gives a service.
use Rattle.std.specs.Prelude.{ℕ, ◌+◌, ◌%◌, ◌∷◌, List, [], take, drop, length, slice_index, nat_lt, Bool, ◌==◌, ◌&&◌, if◌then◌else◌, Option, None, Some}
use Rattle.std.specs.Option.{option_and_then}
use Rattle.std.specs.Borrow.{Bor}
use Rattle.wire_fields.specs.Numbers.{number16_at}
use Rattle.psi_tables.specs.Sections.{is_table, has_size, before_crc, is_current}
use Rattle.psi_tables.specs.Runs.{things_of}
use Rattle.table_descriptors.specs.Finding.{body_in}

-- the section of the actual transport stream: table_id 0x42, eleven bytes before its services and CRC_32 behind them, and
-- current_next_indicator 1, in byte 5
unfoldable pub is_description : List ℕ → Bool
is_description bytes = (is_table 0x42 bytes && has_size 15 bytes) && is_current (slice_index bytes 5)

-- where its services stand: behind original_network_id and a reserved byte
abbrev pub services_in : List ℕ → List ℕ
services_in bytes = drop 11 (before_crc bytes)

-- of each: service_id, a byte of flags, running_status and free_CA_mode before descriptors_loop_length, and the descriptors
pub record Service : Type 0 where
  pub number : ℕ
  pub descriptors : List ℕ

-- the size of the service at the front
abbrev pub service_size : List ℕ → ℕ
service_size bytes = 5 + number16_at bytes 3 % 4096

abbrev pub front_service : List ℕ → Service
front_service bytes = record { number = number16_at bytes 0; descriptors = take (number16_at bytes 3 % 4096) (drop 5 bytes) }

-- the service at the front and the bytes behind it, where the bytes don't end before it does
unfoldable pub service_at : List ℕ → Option (Service × List ℕ)
service_at bytes = if nat_lt (length bytes) (service_size bytes) then None else Some (front_service bytes, drop (service_size bytes) bytes)

-- the descriptors of the first service of this number
abbrev pub descriptors_of : ℕ → List Service → Option (List ℕ)
descriptors_of number [] = None
descriptors_of number (s ∷ ss) = if s.number == number then Some s.descriptors else descriptors_of number ss

-- a text behind its length, at this place; none where the bytes end before it does
abbrev pub counted_at : ℕ → List ℕ → Option (List ℕ)
counted_at place bytes = if nat_lt (length bytes) (place + 1 + slice_index bytes place) then None
    else Some (take (slice_index bytes place) (drop (place + 1) bytes))

-- The name in the data of a service_descriptor (6.2.33): behind service_type and the name of the provider.
abbrev pub name_in : List ℕ → Option (List ℕ)
name_in body = if nat_lt (length body) 2 then None else counted_at (2 + slice_index body 1) body

-- the name that descriptors give: service_descriptor has descriptor_tag 0x48
abbrev pub name_told : List ℕ → Option (List ℕ)
name_told descriptors = option_and_then name_in (body_in 0x48 descriptors)

-- THE NAME OF A SERVICE, as the bytes of a text, in a section of these bytes
abbrev pub name_of : ℕ → List ℕ → Option (List ℕ)
name_of number bytes = if is_description bytes then option_and_then name_told (descriptors_of number (things_of service_at (services_in bytes))) else None

-- ---- what the code takes from the front

abbrev pub taken_service : ℕ × Bor (List ℕ) × Bor (List ℕ) → ℕ × List ℕ × List ℕ
taken_service t = (t.0, t.1.now, t.2.now)

abbrev pub shown_service : Service × List ℕ → ℕ × List ℕ × List ℕ
shown_service s = (s.0.number, s.0.descriptors, s.1)
