use Rattle.std.proofs.Common.{◌≡◌, false, sym, ◌∙◌}
use Rattle.ts_packet.specs.Fields.{on}
use Rattle.program_follower.proofs.MapsLemmas.{maps_clean_off}
use Rattle.program_follower.proofs.map_reader.MapReader.look.Goals as goal

pub returns-then-not-is_on : goal.returns-then-not-is_on
returns-then-not-is_on c = λ past at h.
    let l = c.in-Some.here in
    let o : on l.pid c.args.packet.now ≡ false = cc in
    sym (maps_clean_off c.args.purpose.now c.args.self.now l c.args.packet.now past (sym c.in-Some.is ∙ at) h o)

pub returns-in-Ok : goal.returns-in-Ok
returns-in-Ok c = λ past at h. sym (c.in-Ok.ensures.ok past (sym c.in-Some.is ∙ at) (c.copied-reader.ensures c.args.purpose.now.program past h))

pub returns-in-Err : goal.returns-in-Err
returns-in-Err c = λ past at h. sym (c.in-Err.ensures.err past (sym c.in-Some.is ∙ at) (c.copied-reader.ensures c.args.purpose.now.program past h))
