use Rattle.std.proofs.Common.{sym, ◌∙◌, ◌++◌, map}
use Rattle.std.proofs.lemmas.Result.{on_ok_weaker, IfErr-weaker}
use Rattle.chain_engine.specs.Unjudged.{restored}
use Rattle.chain_engine.proofs.RestoringLemmas.{restoring_takes, restoring_fails, restored-marked, restored-other}
use Rattle.chain_engine.proofs.unjudged.RestoringPacketSink.put.Goals as goal

pub returns-then-error-clause-ok : goal.returns-then-error-clause-ok
returns-then-error-clause-ok g c = λ start ps h.
    let p = c.args.self.now.packet.now in
    let q = c.args.packet.now in
    on_ok_weaker c.put.result (restoring_takes g.K.PacketSink.holds p start c.args.self.now.out.now c.put.new.self ps q p (restored-marked p q (sym c.error.ensures ∙ c.if-error.true)) h)
    (c.put.ensures.ok start (h.before ++ map (restored p) h.put) h.sent)

pub returns-then-error-clause-err : goal.returns-then-error-clause-err
returns-then-error-clause-err g c = λ start ps h.
    let p = c.args.self.now.packet.now in
    let q = c.args.packet.now in
    IfErr-weaker c.put.result _ _ (λ f. restoring_fails g.K.PacketSink.holds p start g.K.PacketSink.fails c.args.self.now.out.now c.put.new.self ps q p f (restored-marked p q (sym c.error.ensures ∙ c.if-error.true)) h)
    (c.put.ensures.err start (h.before ++ map (restored p) h.put) h.sent)

pub returns-else-error-clause-ok : goal.returns-else-error-clause-ok
returns-else-error-clause-ok g c = λ start ps h.
    let p = c.args.self.now.packet.now in
    let q = c.args.packet.now in
    on_ok_weaker c.put-else-error.result (restoring_takes g.K.PacketSink.holds p start c.args.self.now.out.now c.put-else-error.new.self ps q q (restored-other p q (sym c.error.ensures ∙ c.if-error.false)) h)
    (c.put-else-error.ensures.ok start (h.before ++ map (restored p) h.put) h.sent)

pub returns-else-error-clause-err : goal.returns-else-error-clause-err
returns-else-error-clause-err g c = λ start ps h.
    let p = c.args.self.now.packet.now in
    let q = c.args.packet.now in
    IfErr-weaker c.put-else-error.result _ _ (λ f. restoring_fails g.K.PacketSink.holds p start g.K.PacketSink.fails c.args.self.now.out.now c.put-else-error.new.self ps q q f (restored-other p q (sym c.error.ensures ∙ c.if-error.false)) h)
    (c.put-else-error.ensures.err start (h.before ++ map (restored p) h.put) h.sent)
