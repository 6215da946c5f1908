use Rattle.std.proofs.Common.{◌≡◌, ◌-◌, arith, length}
use Rattle.packet_recovery.proofs.SearchLemmas.{behind}
use Rattle.packet_recovery.proofs.search.read_behind.Goals as goal

pub returns-clause-ok : goal.returns-clause-ok
returns-clause-ok g c =
    let part : length c.read.new.buf ≡ 189 - c.args.held = grind arith in
    behind c.read.result _ _ c.args.window.now c.read.new.buf c.args.held c.told-window c.requires part c.read.ensures.bound c.read.ensures.bytes
