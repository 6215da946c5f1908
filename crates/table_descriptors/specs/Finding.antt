-- What is found in the descriptors of a table (ISO/IEC 13818-1, 2.6), the language of a stream, and what sound it is as private data.
use Rattle.std.specs.Prelude.{ℕ, Bool, is_some, ◌∷◌, List, [], take, length, nat_lt, ◌==◌, if◌then◌else◌, Option, None, Some}
use Rattle.std.specs.Option.{option_and_then}
use Rattle.std.specs.Borrow.{Bor}
use Rattle.psi_tables.specs.Runs.{things_of}
use Rattle.psi_tables.specs.Descriptors.{Descriptor, descriptor_at}
use Rattle.psi_tables.specs.Streams.{Entry, entry_at, pid_in}
use Rattle.psi_tables.specs.ProgramMap.{ProgramMap}
use Rattle.psi_tables.specs.declared.stream.Stream.{Stream}
use Rattle.table_descriptors.specs.declared.audio.PrivateAudio.{PrivateAudio}
use Rattle.table_descriptors.specs.declared.audio.PrivateAudio.TheVariants.{Ac3, EnhancedAc3}

-- the data of the first descriptor with this descriptor_tag
abbrev pub body_of : ℕ → List Descriptor → Option (List ℕ)
body_of tag [] = None
body_of tag (d ∷ ds) = if d.tag == tag then Some d.body else body_of tag ds

-- the same in the bytes of descriptors
abbrev pub body_in : ℕ → List ℕ → Option (List ℕ)
body_in tag bytes = body_of tag (things_of descriptor_at bytes)

-- ---- languages

-- the first ISO_639_language_code of the data of an ISO_639_language_descriptor: three characters, behind which audio_type stands
abbrev pub code_in : List ℕ → Option (List ℕ)
code_in body = if nat_lt (length body) 4 then None else Some (take 3 body)

-- the language that descriptors tell: ISO_639_language_descriptor (2.6.18) has descriptor_tag 10
abbrev pub language_told : List ℕ → Option (List ℕ)
language_told info = option_and_then code_in (body_in 10 info)

-- the descriptors of the first of some entries that lists this PID
abbrev pub info_on : ℕ → List Entry → Option (List ℕ)
info_on pid [] = None
info_on pid (e ∷ es) = if pid_in e.pid_field == pid then Some e.info else info_on pid es

-- the language of the stream that a map lists on this PID: that of its own entry
abbrev pub language_on : ℕ → ProgramMap → Option (List ℕ)
language_on pid m = option_and_then language_told (info_on pid m.entries)

-- ---- sound

-- a descriptor with this tag is there
abbrev pub has_descriptor : ℕ → List ℕ → Bool
has_descriptor tag info = is_some (body_in tag info)

-- the sound that descriptors tell (ETSI EN 300 468, annex D): AC-3_descriptor has descriptor_tag 0x6A, enhanced_ac-3_descriptor 0x7A
abbrev pub audio_told : List ℕ → Option PrivateAudio
audio_told info = if has_descriptor 0x6A info then Some Ac3 else (if has_descriptor 0x7A info then Some EnhancedAc3 else None)

-- the sound of a stream that a map lists with stream_type 6, PES packets of private data (2.4.4.10): by its own entry
abbrev pub audio_on : Stream → ProgramMap → Option PrivateAudio
audio_on s m = if s.kind == 6 then option_and_then audio_told (info_on s.pid m.entries) else None

-- ---- what the code takes from the front

abbrev pub taken_descriptor : ℕ × Bor (List ℕ) × Bor (List ℕ) → ℕ × List ℕ × List ℕ
taken_descriptor t = (t.0, t.1.now, t.2.now)

abbrev pub shown_descriptor : Descriptor × List ℕ → ℕ × List ℕ × List ℕ
shown_descriptor d = (d.0.tag, d.0.body, d.1)

abbrev pub taken_entry : ℕ × Bor (List ℕ) × Bor (List ℕ) → ℕ × List ℕ × List ℕ
taken_entry t = (t.0, t.1.now, t.2.now)

abbrev pub shown_entry : Entry × List ℕ → ℕ × List ℕ × List ℕ
shown_entry e = (pid_in e.0.pid_field, e.0.info, e.1)
