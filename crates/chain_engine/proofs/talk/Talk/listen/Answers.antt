use Rattle.std.proofs.Common.{[], ◌∷◌, ◌∙◌, refl, sym, subst, take}
use Rattle.std.proofs.lemmas.List.{append-nil}
use Rattle.wire_fields.specs.Numbers.{AreBytes}
use Rattle.wire_fields.proofs.Cells.{AreBytes-take}
use Rattle.chain_engine.specs.Automation.{piece, ended, failed, bytes_of, takes_and_answers}
use Rattle.chain_engine.specs.Hearing.{Replied, lost_by}
use Rattle.as_session.specs.Session.{state_of}
use Rattle.chain_engine.specs.Talks.{HasTalked}
use Rattle.chain_engine.proofs.HearingLemmas.{opened_partial}
use Rattle.chain_engine.proofs.TalkLemmas.{Goes, goes_closed, goes_nothing, goes_ended, goes_failed, goes_heard, open_end, loses_closed, hears_open, counts_heard, bytes_told, none_told, listened, listened_none}
use Rattle.chain_engine.proofs.ExchangeLemmas.{take_answered}
use Rattle.chain_engine.proofs.talk.Talk.listen.Goals.{in-Bytes, in-Nothing, in-Ended, in-Failed}
use Rattle.chain_engine.proofs.talk.Talk.listen.Goals as goal

pub returns-then-is_some-clause-talk : goal.returns-then-is_some-clause-talk
returns-then-is_some-clause-talk g c = λ ts n k t.
    let is = sym c.is_some.ensures ∙ c.if-is_some.true in
    let end = c.args.self.now.end in
    let goes = subst (λ l. Goes end (state_of c.args.self.now.session) l n k []) (sym (append-nil ts)) (goes_closed end (state_of c.args.self.now.session) ts n k is t.talked) in
    let bytes = subst (λ l. AreBytes (bytes_of l)) (sym (append-nil ts)) t.bytes in
    listened_none g.J.Judge.judges _ _ (λ l m. g.U.Automation.exchanges c.args.automation.now (takes_and_answers l m) c.args.automation.now) c.args.self.now ts n k [] _ (loses_closed end is) refl (g.met.U.Automation.exchanges_refl _) bytes goes

pub returns-clause-talk : goal.returns-clause-talk
returns-clause-talk g c = λ ts n k t.
    let e = open_end c.args.self.now.end (sym c.is_some.ensures ∙ c.if-is_some.false) in
    let h = subst (λ x. HasTalked x ts n k) e t.talked in
    let exchanges = g.U.Automation.exchanges in
    elim c.match-take.branch [
      | in-Bytes w ↦
          let bs = take w.in-Bytes.count c.take.new.room in
          let session = w.hear-self.new.session in
          let (ms, rs, hears, heard) = w.hear-self.ensures.heard (bytes_of ts) (t.pending e) in
          let replied : Replied g.J.Judge.judges c.args.judge.now w.hear-self.new.judge ms rs (lost_by w.hear-self.result) (λ l. exchanges c.args.automation.now (takes_and_answers (piece bs ∷ []) l) w.hear-self.new.automation) = record {
            judged = heard.judged;
            some = heard.some;
            told = take_answered exchanges g.met.U.Automation.exchanges_trans _ _ _ (piece bs) _ w.in-Bytes.ensures.exchanges heard.told;
          } in
          let goes = goes_heard ts n k h bs _ ms w.hear-self.result hears (λ x. opened_partial session.is_closed session.pending.items _ session.partial (hears_open (bytes_of ts) bs ms _ w.hear-self.result hears x)) in
          let bytes = bytes_told ts (piece bs) t.bytes (AreBytes-take w.in-Bytes.count c.take.new.room w.of_bytes.ensures) in
          rw (w.self-is, w.judge-is, w.automation-is, w.self2-is, e) (listened g.J.Judge.judges _ _ (λ l m. exchanges c.args.automation.now (takes_and_answers l m) w.hear-self.new.automation) _ ts n k (piece bs ∷ []) ms rs _ bytes goes replied)
      | in-Nothing w ↦ rw (w.self-is, w.judge-is, w.automation-is, w.self2-is, e)
          (listened_none g.J.Judge.judges _ _ (λ l m. exchanges c.args.automation.now (takes_and_answers l m) c.take.new.self) _ ts n k (piece [] ∷ []) _ refl refl w.in-Nothing.ensures.exchanges (none_told ts (piece []) refl t.bytes) (goes_nothing ts n k h _ (t.pending e)))
      | in-Ended w ↦ rw (w.self-is, w.judge-is, w.automation-is, w.self2-is, e)
          (listened_none g.J.Judge.judges _ _ (λ l m. exchanges c.args.automation.now (takes_and_answers l m) c.take.new.self) _ ts n k (ended ∷ []) _ refl refl w.in-Ended.ensures.exchanges (none_told ts ended refl t.bytes) (goes_ended ts n k h _))
      | in-Failed w ↦ rw (w.self-is, w.judge-is, w.automation-is, w.self2-is, e)
          (listened_none g.J.Judge.judges _ _ (λ l m. exchanges c.args.automation.now (takes_and_answers l m) c.take.new.self) _ ts n k (failed ∷ []) _ refl refl w.in-Failed.ensures.exchanges (none_told ts failed refl t.bytes) (goes_failed ts n k h _))
    ]

pub returns-clause-failures : goal.returns-clause-failures
returns-clause-failures g c =
    let e = open_end c.args.self.now.end (sym c.is_some.ensures ∙ c.if-is_some.false) in
    elim c.match-take.branch [
      | in-Bytes w ↦ rw (w.automation-is, w.self2-is, e, ← w.in-Bytes.ensures.failures) (counts_heard w.hear-self.result _ _ w.hear-self.ensures.ends w.hear-self.ensures.failures)
      | in-Nothing w ↦ rw (w.automation-is, w.self2-is, e) w.in-Nothing.ensures.failures
      | in-Ended w ↦ rw (w.automation-is, w.self2-is, e) w.in-Ended.ensures.failures
      | in-Failed w ↦ rw (w.automation-is, w.self2-is, e) w.in-Failed.ensures.failures
    ]
