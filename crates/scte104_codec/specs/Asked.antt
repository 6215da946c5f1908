-- What the operations of a message ask for.
use Rattle.std.specs.Prelude.{ℕ, Bool, ◌||◌, List, [], Option, None, unwrap_or, ◌==◌, if◌then◌else◌}
use Rattle.std.specs.List.{list_all, filter_map, flat_map}
use Rattle.scte104_codec.specs.declared.requests.SpliceRequest.{SpliceRequest}
use Rattle.scte104_codec.specs.Operations.{Operation}
use Rattle.scte104_codec.specs.Requests.{splice_request_of, avail_ids_of}

-- the operations of this profile: splice_request, insert_descriptor, insert_avail_descriptor,
-- insert_segmentation_descriptor and insert_tier
unfoldable pub is_known : ℕ → Bool
is_known op = (op == 0x0101) || (op == 0x0108) || (op == 0x010A) || (op == 0x010B) || (op == 0x010F)

abbrev pub all_known : List Operation → Bool
all_known os = list_all (λ o. is_known o.op) os

-- what a splice_request asks for
unfoldable pub splice_request_in : Operation → Option SpliceRequest
splice_request_in o = if o.op == 0x0101 then splice_request_of o.body else None

-- the splice_requests, in order
abbrev pub splice_requests : List Operation → List SpliceRequest
splice_requests os = filter_map splice_request_in os

-- the ids of an insert_avail_descriptor
unfoldable pub avail_ids_in : Operation → List ℕ
avail_ids_in o = if o.op == 0x010A then unwrap_or (avail_ids_of o.body) [] else []

-- the ids of all of them, in order
abbrev pub avail_ids : List Operation → List ℕ
avail_ids os = flat_map avail_ids_in os
