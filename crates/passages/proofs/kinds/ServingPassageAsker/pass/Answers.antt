use Rattle.chain_services.proofs.ManyLemmas.{many_served}
use Rattle.passages.proofs.PassageLemmas.{asked_told}
use Rattle.passages.proofs.kinds.ServingPassageAsker.pass.Goals as goal

pub serve-requires-clause-libraries : goal.serve-requires-clause-libraries
serve-requires-clause-libraries g c = many_served c.args.self.services c.args.self.configs.now _ c.requires.ready.0 c.requires.ready.1

pub returns-in-Ok-clause-done : goal.returns-in-Ok-clause-done
returns-in-Ok-clause-done g c = λ start is_held. c.in-Ok.ensures.done c.args.self.configs.now start c.requires.ready.0 is_held

pub returns-in-Err-clause-stopped : goal.returns-in-Err-clause-stopped
returns-in-Err-clause-stopped g c = λ start is_held. rw c.told_fault.ensures (asked_told c.in-Err.fault _ _ (c.in-Err.ensures.stop c.args.self.configs.now start c.requires.ready.0 is_held))
