use Rattle.std.proofs.Common.{◌≡◌, ◌∙◌, ℕ, List, [], ◌++◌, sym, ap, subst}
use Rattle.std.proofs.lemmas.Result.{IfOk-weaker, IfErr-weaker}
use Rattle.packet_runs.specs.Runs.{GoesThrough, Leaves}
use Rattle.packet_runs.specs.Stops.{StopsBy, refusal_test, stop_cause}
use Rattle.packet_runs.specs.declared.run.Stop.TheVariants as stop
use Rattle.run_events.proofs.ToldLemmas.{through_so, stops_so}
use Rattle.run_events.proofs.stage_run.run_stage_told.Goals as goal

pub returns-clause-ok : goal.returns-clause-ok
returns-clause-ok g c = λ start before s held.
    let is_out = (λ (l : List (List ℕ)). g.K.PacketSink.holds c.run_stage.new.out start (before ++ l)) in
    let input = g.P.PacketSource.left c.args.network.now in
    let begins = (λ (kept : List ℕ). subst (λ x. g.S.Stage.sends x [] [] kept x) (sym c.new-told.ensures.inner) (s kept)) in
    let now = sym (c.stage-1.given.1 (sym (c.run_stage.ensures.stage.0 ∙ c.new-told.ensures.same))) in
    IfOk-weaker c.run_stage.result _ _ (λ report w.
    subst (λ x. GoesThrough (g.S.Stage.refusal x) (g.S.Stage.ends x) input report c.stage-1.given.0 is_out) c.new-told.ensures.inner
    (subst (λ x. GoesThrough (g.S.Stage.refusal c.new-told.result.inner.now) (g.S.Stage.ends c.new-told.result.inner.now) input report x is_out) now
    (through_so (λ t. t.inner.now) (g.S.Stage.refusal c.new-told.result.inner.now) (g.S.Stage.ends c.new-told.result.inner.now) input report c.run_stage.new.stage is_out w)))
    (c.run_stage.ensures.ok start before begins held)

pub returns-clause-err : goal.returns-clause-err
returns-clause-err g c = λ start before s held.
    let is_out = (λ (l : List (List ℕ)). g.K.PacketSink.holds c.run_stage.new.out start (before ++ l)) in
    let fails = (λ (l : List (List ℕ)). g.K.PacketSink.fails c.run_stage.new.out start (before ++ l)) in
    let unsent = (λ (l : List (List ℕ)). g.K.GatheringSink.fails_to_send c.run_stage.new.out start (before ++ l)) in
    let input = g.P.PacketSource.left c.args.network.now in
    let begins = (λ (kept : List ℕ). subst (λ x. g.S.Stage.sends x [] [] kept x) (sym c.new-told.ensures.inner) (s kept)) in
    let now = sym (c.stage-1.given.1 (sym (c.run_stage.ensures.stage.0 ∙ c.new-told.ensures.same))) in
    IfErr-weaker c.run_stage.result _ _ (λ f w.
    subst (λ x. StopsBy stop.Read (refusal_test (g.S.Stage.refusal x)) stop_cause f input (Leaves g.S.Stage.sends g.S.Stage.refuses g.S.Stage.breaks g.S.Stage.refusal f x c.stage-1.given.0 is_out fails unsent)) c.new-told.ensures.inner
    (subst (λ y. StopsBy stop.Read (refusal_test (g.S.Stage.refusal c.new-told.result.inner.now)) stop_cause f input (Leaves g.S.Stage.sends g.S.Stage.refuses g.S.Stage.breaks g.S.Stage.refusal f c.new-told.result.inner.now y is_out fails unsent)) now
    (stops_so (λ t. t.inner.now) g.S.Stage.sends g.S.Stage.refuses g.S.Stage.breaks g.S.Stage.refusal f c.new-told.result c.run_stage.new.stage is_out fails unsent input w)))
    (c.run_stage.ensures.err start before begins held)

pub returns-clause-stage : goal.returns-clause-stage
returns-clause-stage g c =
    let now = sym (c.stage-1.given.1 (sym (c.run_stage.ensures.stage.0 ∙ c.new-told.ensures.same))) in
    subst (λ x. g.S.Stage.leads x c.stage-1.given.0) c.new-told.ensures.inner
    (subst (λ y. g.S.Stage.leads c.new-told.result.inner.now y) now c.run_stage.ensures.stage.1)
