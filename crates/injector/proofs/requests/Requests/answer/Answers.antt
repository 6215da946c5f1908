use Rattle.std.proofs.Common.{ap, sym, subst, ◌∙◌}
use Rattle.std.specs.Prelude.{Ok, filter}
use Rattle.event_table.specs.Tables.{StandsFor}
use Rattle.scte104_codec.specs.Reading.{multiple}
use Rattle.injector.specs.Asking.{asked_of, asked_of_multiple}
use Rattle.injector.specs.Senders.{events_in, sender_stands, with_request, noted_after, senders, standing_senders}
use Rattle.injector.specs.Noting.{AreNoted}
use Rattle.injector.proofs.SenderLemmas.{standing-events, filter-request, restate-notes}
use Rattle.scte104_codec.specs.Views.{reading_of}
use Rattle.injector.specs.Asking.{fields_of}
use Rattle.injector.specs.Turns.{greatest_in, standing, events}
use Rattle.injector.proofs.RequestLemmas.{judged-stands}
use Rattle.injector.proofs.requests.Requests.answer.Goals as goal

pub returns-in-Multi-clause-turn : goal.returns-in-Multi-clause-turn
returns-in-Multi-clause-turn c = λ index past stands.
    record {
      index_is = c.judge-verdict.ensures.index ∙ stands.index_is;
      table = judged-stands _ (greatest_in past) (events index past) _ index (fields_of c.in-Multi.multi) (reading_of (Ok c.args.message)) (ap (λ message. reading_of (Ok message)) c.in-Multi.is)
          stands.index_is
          (c.judge-verdict.ensures.after (greatest_in past) (standing index past) stands.table);
    }

pub returns-in-Multi-clause-notes : goal.returns-in-Multi-clause-notes
returns-in-Multi-clause-notes c = λ index past stands noted.
    let m = fields_of c.in-Multi.multi in
    let own = c.args.self.now.index in
    let xs = standing_senders index past in
    let at : StandsFor c.args.self.now.table (greatest_in past) (events_in xs) = subst (StandsFor c.args.self.now.table (greatest_in past)) (sym (standing-events index past)) stands.table in
    let judged : AreNoted c.judge-verdict.new.self (greatest_in past) (noted_after (greatest_in past) xs (asked_of_multiple own m)) = c.judge-verdict.ensures.notes (greatest_in past) xs at noted in
    let after : AreNoted c.judge-verdict.new.self (greatest_in past) (filter (sender_stands (greatest_in past)) (with_request (greatest_in past) (senders index past) (asked_of index (multiple m)))) =
    restate-notes c.judge-verdict.new.self (greatest_in past) _ _
    (ap (λ i. noted_after (greatest_in past) xs (asked_of_multiple i m)) stands.index_is ∙ sym (filter-request (greatest_in past) (senders index past) (asked_of index (multiple m)))) judged in
    subst (λ reading. AreNoted c.judge-verdict.new.self (greatest_in past) (filter (sender_stands (greatest_in past)) (with_request (greatest_in past) (senders index past) (asked_of index reading)))) (sym (ap (λ message. reading_of (Ok message)) c.in-Multi.is)) after
