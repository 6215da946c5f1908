-- What an iterator over avail ids has left.
use Rattle.std.specs.Prelude.{ℕ, List}
use Rattle.scte104_codec.specs.declared.requests.AvailIds.{AvailIds}
use Rattle.scte104_codec.specs.Requests.{avail_ids_from}

-- the ids that are still to come
unfoldable pub avail_ids_left : AvailIds → List ℕ
avail_ids_left a = avail_ids_from a.count a.bytes.now
