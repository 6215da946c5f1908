use Rattle.std.proofs.Common.{rules}
use Rattle.event_table.specs.Standing.{has_id}
use Rattle.injector.specs.Verdicts.{verdict_of}
use Rattle.injector.specs.Senders.{events_in}
use Rattle.injector.proofs.SenderLemmas.{noted-other}
use Rattle.injector.proofs.RequestLemmas.{after-cancel}
use Rattle.injector.proofs.requests.Requests.take.Goals as goal

pub returns-in_default-clause-after : goal.returns-in_default-clause-after
returns-in_default-clause-after c = λ latest standing stands.
    after-cancel c.args.self.now.table _ latest standing c.args.asked.now.request c.cancel.result (search rules) (search rules) (c.cancel.ensures.answer latest standing stands)
    (λ ok. c.cancel.ensures.cancelled ok latest standing stands) (search rules) stands

pub returns-in-3-clause-notes : goal.returns-in-3-clause-notes
returns-in-3-clause-notes c = λ latest xs stands noted.
    noted-other c.args.self.now c.end.new.self latest (λ x. has_id c.args.asked.now.request.splice_event_id x.event) xs c.args.asked.now (verdict_of latest (events_in xs) c.args.asked.now.request) (search rules) c.end.ensures.notes noted

pub returns-in_default-clause-notes : goal.returns-in_default-clause-notes
returns-in_default-clause-notes c = λ latest xs stands noted.
    noted-other c.args.self.now c.cancel.new.self latest (λ x. has_id c.args.asked.now.request.splice_event_id x.event) xs c.args.asked.now (verdict_of latest (events_in xs) c.args.asked.now.request) (search rules) c.cancel.ensures.notes noted
