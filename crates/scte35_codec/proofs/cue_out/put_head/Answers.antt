use Rattle.std.proofs.Common.{append_assoc}
use Rattle.scte35_codec.proofs.cue_out.put_head.Goals as goal

pub returns : goal.returns
returns c = rw (c.put-4.ensures, c.put-3.ensures, c.put-2.ensures, c.put_number16.ensures, c.put.ensures, c.write_u24.ensures) (simp append_assoc)
