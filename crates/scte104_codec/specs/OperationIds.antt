-- The values of opID that the standard gives (ANSI/SCTE 104, the tables of opID of single and of multiple operations), of those that this
-- profile names; and what begins a multiple_operation_message in the place of an opID.
use Rattle.std.specs.Prelude.{ℕ}

-- single operations
abbrev pub general_response_id : ℕ
general_response_id = 0x0000

abbrev pub init_request_id : ℕ
init_request_id = 0x0001

abbrev pub init_response_id : ℕ
init_response_id = 0x0002

abbrev pub alive_request_id : ℕ
alive_request_id = 0x0003

abbrev pub alive_response_id : ℕ
alive_response_id = 0x0004

abbrev pub inject_response_id : ℕ
inject_response_id = 0x0007

-- in a multiple operation
abbrev pub splice_request_id : ℕ
splice_request_id = 0x0101

abbrev pub splice_null_request_id : ℕ
splice_null_request_id = 0x0102

abbrev pub insert_descriptor_id : ℕ
insert_descriptor_id = 0x0108

abbrev pub insert_avail_descriptor_id : ℕ
insert_avail_descriptor_id = 0x010A

abbrev pub insert_segmentation_descriptor_id : ℕ
insert_segmentation_descriptor_id = 0x010B

abbrev pub insert_tier_id : ℕ
insert_tier_id = 0x010F

-- in the place of an opID
abbrev pub multiple_operation_mark : ℕ
multiple_operation_mark = 0xFFFF
