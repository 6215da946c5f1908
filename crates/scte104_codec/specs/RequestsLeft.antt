-- What an iterator over splice_requests has left.
use Rattle.std.specs.Prelude.{List}
use Rattle.scte104_codec.specs.declared.requests.SpliceRequest.{SpliceRequest}
use Rattle.scte104_codec.specs.declared.multi.SpliceRequests.{SpliceRequests}
use Rattle.scte104_codec.specs.OperationsLeft.{operations_left}
use Rattle.scte104_codec.specs.Asked.{splice_requests}

-- the requests that are still to come
unfoldable pub splice_requests_left : SpliceRequests → List SpliceRequest
splice_requests_left s = splice_requests (operations_left s.operations)
