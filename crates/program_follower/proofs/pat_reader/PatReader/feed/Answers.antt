use Rattle.std.proofs.Common.{◌≡◌, false}
use Rattle.ts_packet.specs.Fields.{on}
use Rattle.program_follower.proofs.PatLemmas.{pats_off, pats_clean_off}
use Rattle.program_follower.proofs.pat_reader.PatReader.feed.Goals as goal

pub returns-then-not-is_on-clause-reads : goal.returns-then-not-is_on-clause-reads
returns-then-not-is_on-clause-reads c = λ past h.
    let o : on 0 c.args.packet.now ≡ false = cc in
    pats_off c.args.self.now c.args.purpose.now.program c.args.packet.now past o h

pub returns-then-not-is_on-clause-ok : goal.returns-then-not-is_on-clause-ok
returns-then-not-is_on-clause-ok c = λ past h.
    let o : on 0 c.args.packet.now ≡ false = cc in
    pats_clean_off c.args.purpose.now c.args.packet.now past o
