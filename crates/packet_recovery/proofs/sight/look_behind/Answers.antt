use Rattle.packet_recovery.proofs.SightLemmas.{sighted_as, missed_as}
use Rattle.packet_recovery.proofs.sight.look_behind.Goals as goal

pub returns-in-Ok-clause-ok : goal.returns-in-Ok-clause-ok
returns-in-Ok-clause-ok g c = λ start read.
    sighted_as start _ _ c.args.packet.now _ _ c.set_front.new.packet _ _ c.window_of-window.ensures.size c.requires read c.window_of-window.ensures.front c.set_front.ensures c.in-Ok.regained c.in-Ok.ensures.ok

pub returns-in-Err-clause-err : goal.returns-in-Err-clause-err
returns-in-Err-clause-err g c = λ start read. missed_as start _ _ c.args.packet.now _ _ _ read c.window_of-window.ensures.front c.in-Err.ensures.err
