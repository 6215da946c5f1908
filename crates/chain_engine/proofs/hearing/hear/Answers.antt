use Rattle.std.proofs.Common.{◌∙◌, [], refl, ap, drop}
use Rattle.chain_engine.proofs.HearingLemmas.{opened_partial, heard_none, heard_more, ends_whole, ends_bad, ends_lost}
use Rattle.chain_engine.specs.Automation.{takes_and_answers}
use Rattle.chain_engine.proofs.ExchangeLemmas.{answers_both}
use Rattle.chain_engine.proofs.hearing.hear.Goals as goal

pub loop-used-init : goal.loop-used-init
loop-used-init g c =
    let session = c.args.session.now in
    record {
      failures = refl;
      heard = λ stream e. heard_none g.J.Judge.judges _ (λ xs. g.U.Automation.exchanges c.args.automation.now (takes_and_answers [] xs) c.args.automation.now) (g.met.U.Automation.exchanges_refl _) stream _ _ e (opened_partial session.is_closed session.pending.items _ session.partial e);
    }

pub loop-used-preserved : goal.loop-used-preserved
loop-used-preserved g c =
    let one = c.in-Answered-default-true.ensures.replied in
    record {
      failures = (rw c.in-Answered-default-true.field-1-test at c.in-Answered-default-true.ensures.failures) ∙ c.loop-used.invariant.failures;
      heard = λ stream e.
          let so_far = c.loop-used.invariant.heard stream e in
          let (m, gives, used, some, fits) = c.in-Answered-default-true.ensures.heard in
          heard_more g.J.Judge.judges _ _ _ _ _ _ (answers_both g.U.Automation.exchanges g.met.U.Automation.exchanges_trans _ _ _) stream _ _ _ so_far one.0 _ _ (rw c.in-Answered-default-true.field-1-test at one.1) c.in-Answered-default-true.ensures.after (c.split_at.ensures.back ∙ ap (λ n. drop n c.loop-used.rest.now) used);
    }

pub returns-in-Nothing-clause-heard : goal.returns-in-Nothing-clause-heard
returns-in-Nothing-clause-heard g c = λ stream e.
    let so_far = c.loop-used.invariant.heard stream e in
    let one = c.in-Nothing.ensures.replied in
    ends_whole g.J.Judge.judges _ _ _ _ _ _ (answers_both g.U.Automation.exchanges g.met.U.Automation.exchanges_trans _ _ _) stream _ _ _ so_far one.0 _ one.1 c.in-Nothing.ensures.after c.in-Nothing.ensures.heard

pub returns-in-Answered-default-false-clause-heard : goal.returns-in-Answered-default-false-clause-heard
returns-in-Answered-default-false-clause-heard g c = λ stream e.
    let so_far = c.loop-used.invariant.heard stream e in
    let one = c.in-Answered-default-false.ensures.replied in
    let (m, gives, used, some, fits) = c.in-Answered-default-false.ensures.heard in
    ends_lost g.J.Judge.judges _ _ _ _ _ _ (answers_both g.U.Automation.exchanges g.met.U.Automation.exchanges_trans _ _ _) stream _ _ _ so_far one.0 _ (rw c.in-Answered-default-false.field-1-test at one.1) c.in-Answered-default-false.ensures.after m gives

pub returns-in-Closed-clause-heard : goal.returns-in-Closed-clause-heard
returns-in-Closed-clause-heard g c = λ stream e.
    let so_far = c.loop-used.invariant.heard stream e in
    let one = c.in-Closed.ensures.replied in
    ends_bad g.J.Judge.judges _ _ _ _ _ _ (answers_both g.U.Automation.exchanges g.met.U.Automation.exchanges_trans _ _ _) stream _ _ _ so_far one.0 _ one.1 c.in-Closed.ensures.after c.in-Closed.ensures.heard
