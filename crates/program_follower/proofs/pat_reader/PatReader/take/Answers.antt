use Rattle.std.proofs.Common.{Some, None}
use Rattle.psi_section.proofs.AssemblerLemmas.{on-of}
use Rattle.program_follower.proofs.PatLemmas.{pats_on, pats_fault_on}
use Rattle.program_follower.proofs.pat_reader.PatReader.take.Goals as goal

pub returns-in-Ok-clause-reads : goal.returns-in-Ok-clause-reads
returns-in-Ok-clause-reads c = λ past h.
    let g = c.feed.ensures 0 past (on-of 0 c.args.packet.now c.requires) (c.pass_over.ensures.waits 0 past h.todo h.assembler) in
    pats_on c.args.purpose.now c.args.self.now c.feed.new.self c.args.packet.now past h g c.in-Ok.listed c.in-Ok.ensures.ok.1

pub returns-in-Ok-clause-ok : goal.returns-in-Ok-clause-ok
returns-in-Ok-clause-ok c = λ past h.
    let g = c.feed.ensures 0 past (on-of 0 c.args.packet.now c.requires) (c.pass_over.ensures.waits 0 past h.todo h.assembler) in
    pats_fault_on c.args.purpose.now c.args.self.now c.feed.new.self c.args.packet.now past h g None c.in-Ok.ensures.ok.0

pub returns-in-Err-clause-err : goal.returns-in-Err-clause-err
returns-in-Err-clause-err c = λ past h.
    let g = c.feed.ensures 0 past (on-of 0 c.args.packet.now c.requires) (c.pass_over.ensures.waits 0 past h.todo h.assembler) in
    pats_fault_on c.args.purpose.now c.args.self.now c.feed.new.self c.args.packet.now past h g (Some c.in-Err.fault) c.in-Err.ensures.err
