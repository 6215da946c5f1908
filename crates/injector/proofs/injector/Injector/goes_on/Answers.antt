use Rattle.std.proofs.Common.{sym, ◌∙◌}
use Rattle.program_follower.specs.Purposes.{writing_cues}
use Rattle.injector.specs.Steps.{packets_in}
use Rattle.injector.proofs.injector.Injector.goes_on.Goals as goal

pub returns-clause-alone : goal.returns-clause-alone
returns-clause-alone c = λ cfg past h.
    let g = c.in-Some.ensures.goes_on (writing_cues cfg) (packets_in past) h.follower in
    let quiet = sym h.news ∙ c.if-self-2.false in
    record { goes_on = g; quiet = quiet; idle = c.may_be_due_behind.ensures.idle cfg c.args.packet.now past h quiet g c.if-may_be_due_behind.false }

pub returns-clause-told : goal.returns-clause-told
returns-clause-told c = λ cfg past h of none by. c.in-Some.ensures.told (writing_cues cfg) (packets_in past) h.follower of by.goes_on

pub returns-in_default-clause-told : goal.returns-in_default-clause-told
returns-in_default-clause-told c = λ cfg past h of none by. c.in_default.ensures.told (writing_cues cfg) (packets_in past) h.follower of by.goes_on
