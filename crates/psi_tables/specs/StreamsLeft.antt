-- What an iterator over the streams of a program map has left.
use Rattle.std.specs.Prelude.{List, map}
use Rattle.psi_tables.specs.declared.stream.Stream.{Stream}
use Rattle.psi_tables.specs.declared.entries.Entries.{Entries}
use Rattle.psi_tables.specs.Runs.{things_of}
use Rattle.psi_tables.specs.Streams.{entry_at, stream_of}

-- the streams that are still to come
unfoldable pub streams_left : Entries → List Stream
streams_left e = map stream_of (things_of entry_at e.bytes.now)
