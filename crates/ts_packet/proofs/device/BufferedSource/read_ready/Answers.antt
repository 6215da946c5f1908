use Rattle.std.proofs.Common.{◌≡◌, ◌==◌, take, length, ap, ◌∙◌}
use Rattle.std.specs.Io.Buffered.{reader_buffer, reader_inner, reader_capacity}
use Rattle.ts_packet.proofs.BufferedLemmas.{served}
use Rattle.ts_packet.proofs.device.BufferedSource.read_ready.Goals as goal

pub returns-clause-bytes : goal.returns-clause-bytes
returns-clause-bytes g c = λ ready.
    let old = c.args.self.now.device.inner in
    let n = length c.args.buf.now in
    let front : c.copy_from_slice.new.self ≡ take n (reader_buffer old) = c.copy_from_slice.ensures.after ∙ ap (take n) c.buffer-2.ensures in
    rw (front, c.consume.ensures.capacity, c.consume.ensures.inner, c.consume.ensures.buffer) (served (reader_capacity old == 0) (reader_buffer old) (g.R.Read.remaining (reader_inner old)) n)
