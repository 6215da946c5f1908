use Rattle.std.proofs.Common.{◌≡◌, ◌∙◌, [], ◌∷◌, sym, ap, subst}
use Rattle.scte104_codec.specs.Replies.{reply_bytes}
use Rattle.as_session.specs.Runs.{messages_in}
use Rattle.as_session.specs.Session.{given}
use Rattle.chain_engine.specs.Automation.{answered, answer_of, takes_and_answers}
use Rattle.chain_engine.proofs.HearingLemmas.{replied_none, replied_one}
use Rattle.chain_engine.proofs.hearing.hear_one.Goals as goal

pub returns-in-None-clause-replied : goal.returns-in-None-clause-replied
returns-in-None-clause-replied g c = replied_none g.J.Judge.judges _ _ (λ l. g.U.Automation.exchanges c.args.automation.now (takes_and_answers [] l) c.args.automation.now) (g.met.U.Automation.exchanges_refl _) (ap messages_in (sym c.feed.ensures.gives ∙ ap given c.in-None.is))

pub returns-in-Message-clause-replied : goal.returns-in-Message-clause-replied
returns-in-Message-clause-replied g c =
    let gives = ap messages_in (sym c.feed.ensures.gives ∙ ap given c.in-Message.is) in
    let judged = subst (λ x. g.J.Judge.judges c.args.judge.now x c.ask-reply.result c.ask-reply.new.self) c.read.ensures.exact c.ask-reply.ensures in
    let bytes : c.as_slice.result.now ≡ reply_bytes c.ask-reply.result = c.as_slice.ensures.value ∙ c.write_reply.ensures in
    let told = subst (λ l. g.U.Automation.exchanges c.args.automation.now (answered (answer_of l c.answer-is_given.result) ∷ []) c.answer-is_given.new.self) bytes c.answer-is_given.ensures.exchanges in
    replied_one g.J.Judge.judges _ _ _ _ c.ask-reply.result (λ l. g.U.Automation.exchanges c.args.automation.now (takes_and_answers [] l) c.answer-is_given.new.self) gives judged c.answer-is_given.result told

pub returns-in-Closed-clause-replied : goal.returns-in-Closed-clause-replied
returns-in-Closed-clause-replied g c = replied_none g.J.Judge.judges _ _ (λ l. g.U.Automation.exchanges c.args.automation.now (takes_and_answers [] l) c.args.automation.now) (g.met.U.Automation.exchanges_refl _) (ap messages_in (sym c.feed.ensures.gives ∙ ap given c.in-Closed.is))
