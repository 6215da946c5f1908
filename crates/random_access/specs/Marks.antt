-- What the first packet of a unit says of random access: the indicator in its adaptation field (ISO/IEC 13818-1, 2.4.3.5,
-- random_access_indicator), and the headers from which a decoder of video can begin, in the data behind the PES header.
use Rattle.std.specs.Prelude.{ℕ, ◌+◌, ◌/◌, ◌%◌, Bool, false, ◌&&◌, ◌||◌, ◌==◌, if◌then◌else◌, List, [], ◌∷◌, Option, None, Some, nat_le, nat_lt, length, drop, slice_index}
use Rattle.ts_packet.specs.Fields.{random_access, bytes}
use Rattle.random_access.specs.declared.coding.VideoCoding.{VideoCoding}
use Rattle.random_access.specs.declared.coding.VideoCoding.TheVariants.{Mpeg, Avc, Hevc}
use Rattle.random_access.specs.declared.marks.Header.{Header}
use Rattle.random_access.specs.declared.marks.Header.TheVariants as headers
use Rattle.random_access.specs.declared.marks.Mark.{Mark}
use Rattle.random_access.specs.declared.marks.Mark.TheVariants.{Indicator, SequenceHeader, AvcParameterSet, HevcParameterSet}
use Rattle.random_access.specs.declared.marks.Marks.{Marks}

-- stream_type of video (2.4.4.10): 0x01 ISO/IEC 11172-2 and 0x02 ISO/IEC 13818-2, 0x1B ISO/IEC 14496-10, 0x24 ISO/IEC 23008-2
abbrev pub coding_of : ℕ → Option VideoCoding
coding_of kind = if kind == 0x01 || kind == 0x02 then Some Mpeg
    else (if kind == 0x1B then Some Avc
    else (if kind == 0x24 then Some Hevc
    else None))

-- The payload begins with the whole front of a PES packet of video (2.4.3.6 and 2.4.3.7): packet_start_code_prefix, a stream_id
-- 1110 xxxx, and the bits 10 before the flags. Its byte 8 is PES_header_data_length.
abbrev pub has_video_header : List ℕ → Bool
has_video_header payload = nat_le 9 (length payload)
    && (slice_index payload 0 == 0) && (slice_index payload 1 == 0) && (slice_index payload 2 == 1)
    && (slice_index payload 3 / 16 == 14) && (slice_index payload 6 / 64 == 2)

-- PES_packet_data_byte: the video behind that header
unfoldable pub video_of : List ℕ → List ℕ
video_of payload = if has_video_header payload then drop (9 + slice_index payload 8) payload else []

-- The byte behind a start code prefix begins this header: sequence_header_code (ISO/IEC 13818-2, 6.2.1 and 6.2.2); or it is the first
-- byte of a NAL unit whose forbidden_zero_bit is 0: nal_unit_type 7, a sequence parameter set (ISO/IEC 14496-10, 7.3.1 and 7.4.1), or
-- nal_unit_type 32 or 33, a video or a sequence parameter set (ISO/IEC 23008-2, 7.3.1.2 and 7.4.2.2).
abbrev pub begins_header : Header → ℕ → Bool
begins_header headers.Sequence b = b == 0xB3
begins_header headers.AvcParameters b = nat_lt b 128 && (b % 32 == 7)
begins_header headers.HevcParameters b = nat_lt b 128 && ((b / 2 == 32) || (b / 2 == 33))

-- bytes begin with a start code prefix 00 00 01 and such a byte
abbrev pub starts_header : Header → List ℕ → Bool
starts_header header bs = nat_le 4 (length bs)
    && (slice_index bs 0 == 0) && (slice_index bs 1 == 0) && (slice_index bs 2 == 1) && begins_header header (slice_index bs 3)

-- bytes have such a header anywhere
unfoldable pub has_header : Header → List ℕ → Bool
has_header header [] = false
has_header header (b ∷ bs) = starts_header header (b ∷ bs) || has_header header bs

-- all that a packet says
abbrev pub marks_of : List ℕ → Marks
marks_of p = record {
  indicator = random_access p;
  sequence_header = has_header headers.Sequence (video_of (bytes p));
  avc_parameters = has_header headers.AvcParameters (video_of (bytes p));
  hevc_parameters = has_header headers.HevcParameters (video_of (bytes p));
}

-- one of the marks is there
abbrev pub is_marked : Marks → Bool
is_marked m = m.indicator || m.sequence_header || m.avc_parameters || m.hevc_parameters

-- the mark of the header that this coding has
abbrev pub header_mark : Option VideoCoding → Marks → Option Mark
header_mark None m = None
header_mark (Some Mpeg) m = if m.sequence_header then Some SequenceHeader else None
header_mark (Some Avc) m = if m.avc_parameters then Some AvcParameterSet else None
header_mark (Some Hevc) m = if m.hevc_parameters then Some HevcParameterSet else None

-- the mark of a unit of this coding: the indicator before the header
abbrev pub mark_for : Option VideoCoding → Marks → Option Mark
mark_for coding m = if m.indicator then Some Indicator else header_mark coding m
