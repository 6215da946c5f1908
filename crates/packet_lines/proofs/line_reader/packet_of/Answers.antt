use Rattle.std.proofs.Common.{sym, length-take-le}
use Rattle.packet_lines.proofs.line_reader.packet_of.Goals as goal

pub bytes_at_once-requires : goal.bytes_at_once-requires
bytes_at_once-requires c = length-take-le 376 c.args.line.now (c.is_sized.ensures.long c.if-not-is_sized.false)

pub slice_bounds-bytes_at_once-end : goal.slice_bounds-bytes_at_once-end
slice_bounds-bytes_at_once-end c = sym (length-take-le 376 c.args.line.now (c.is_sized.ensures.long c.if-not-is_sized.false))
