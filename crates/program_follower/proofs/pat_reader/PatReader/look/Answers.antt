use Rattle.std.proofs.Common.{◌≡◌, false, sym}
use Rattle.ts_packet.specs.Fields.{on}
use Rattle.program_follower.proofs.PatLemmas.{pats_clean_off}
use Rattle.program_follower.proofs.pat_reader.PatReader.look.Goals as goal

pub returns-then-not-is_on : goal.returns-then-not-is_on
returns-then-not-is_on c = λ past h.
    let o : on 0 c.args.packet.now ≡ false = cc in
    sym (pats_clean_off c.args.purpose.now c.args.packet.now past o)

pub returns-in-Ok : goal.returns-in-Ok
returns-in-Ok c = λ past h. sym (c.in-Ok.ensures.ok past h)

pub returns-in-Err : goal.returns-in-Err
returns-in-Err c = λ past h. sym (c.in-Err.ensures.err past h)
