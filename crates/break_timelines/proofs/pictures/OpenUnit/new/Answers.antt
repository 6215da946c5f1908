use Rattle.std.proofs.Common.{◌≡◌, [], ap, sym, ◌∙◌, subst}
use Rattle.ts_packet.specs.Fields.{pid_of}
use Rattle.ts_packet.specs.Following.{Follows}
use Rattle.break_timelines.proofs.pictures.OpenUnit.new.Goals as goal

pub returns-clause-follows : goal.returns-clause-follows
returns-clause-follows c =
    c.is_original.ensures.follows (pid_of c.args.packet.now) []
    (record { same = c.pid.ensures; follows = subst (λ n. Follows c.new.result c.null.result n []) c.pid-2.ensures (c.new.ensures c.null.result) })
