use Rattle.std.proofs.Common.{arith, rules, ◌-◌, ◌+◌, length}
use Rattle.psi_section.proofs.StoreLemmas.{put_appends}
use Rattle.psi_section.proofs.store.Store.put.Goals as goal

pub returns : goal.returns
returns c =
    let s = c.args.self.now in
    let n = length c.args.piece.now in
    put_appends s.bytes c.copy_from_slice.new.self c.args.piece.now s.at s.end (s.end + n - s.end) (search rules) (omega (arith, s.size, s.within)) c.copy_from_slice.ensures.after
