use Rattle.std.proofs.Common.{◌≡◌, ◌∙◌, ℕ, List, [], ◌++◌, None, sym, ap, subst}
use Rattle.std.proofs.lemmas.Result.{IfOk-weaker}
use Rattle.ts_packet.specs.FirstFault.{first_fault}
use Rattle.packet_runs.specs.Stops.{refusal_test}
use Rattle.packet_runs.specs.declared.run.Stop.TheVariants.{Read}
use Rattle.on_air.specs.Plain.{GoesPlainly}
use Rattle.on_air.specs.AirOutputs.{EndsOnAir, stretches_in}
use Rattle.run_events.proofs.ToldLemmas.{plainly_so, ends_on_air_so}
use Rattle.run_events.proofs.stage_air.run_air_told.Goals as goal

pub returns-clause-sound : goal.returns-clause-sound
returns-clause-sound g c = λ start before bs s held given none.
    let is_out = (λ (l : List (List ℕ)). g.K.PacketSink.holds c.run_air.new.out start (before ++ l)) in
    let begins = (λ (kept : List ℕ). subst (λ x. g.S.Stage.sends x [] [] kept x) (sym c.new-told.ensures.inner) (s kept)) in
    let now = sym (c.stage-1.given.1 (sym (c.run_air.ensures.stage.0 ∙ c.new-told.ensures.same))) in
    let faultless = subst (λ x. first_fault Read (refusal_test (g.S.Stage.refusal x)) bs ≡ None) (sym c.new-told.ensures.inner) none in
    IfOk-weaker c.run_air.result _ _ (λ told w.
    subst (λ x. GoesPlainly (g.S.Stage.ends x) bs told c.stage-1.given.0 is_out) c.new-told.ensures.inner
    (subst (λ y. GoesPlainly (g.S.Stage.ends c.new-told.result.inner.now) bs told y is_out) now
    (plainly_so (λ t. t.inner.now) (g.S.Stage.ends c.new-told.result.inner.now) bs told c.run_air.new.stage is_out w)))
    (c.run_air.ensures.sound start before bs begins held given faultless)

pub returns-clause-stretches : goal.returns-clause-stretches
returns-clause-stretches g c = λ purpose start before bs for s held given.
    let begins = (λ (kept : List ℕ). subst (λ x. g.S.Stage.sends x [] [] kept x) (sym c.new-told.ensures.inner) (s kept)) in
    c.run_air.ensures.stretches purpose start before bs (subst (λ x. g.S.AirStage.begins x purpose) (sym c.new-told.ensures.inner) for) begins held given

pub returns-clause-out : goal.returns-clause-out
returns-clause-out g c = λ purpose start before bs for tells s held given.
    let is_out = (λ (l : List (List ℕ)). g.K.PacketSink.holds c.run_air.new.out start (before ++ l)) in
    let begins = (λ (kept : List ℕ). subst (λ x. g.S.Stage.sends x [] [] kept x) (sym c.new-told.ensures.inner) (s kept)) in
    let now = sym (c.stage-1.given.1 (sym (c.run_air.ensures.stage.0 ∙ c.new-told.ensures.same))) in
    IfOk-weaker c.run_air.result _ _ (λ told w.
    subst (λ x. EndsOnAir g.S.AirStage.summed (g.S.AirStage.airs_to_end x) purpose (stretches_in purpose bs) told.report c.stage-1.given.0 is_out) c.new-told.ensures.inner
    (subst (λ y. EndsOnAir g.S.AirStage.summed (g.S.AirStage.airs_to_end c.new-told.result.inner.now) purpose (stretches_in purpose bs) told.report y is_out) now
    (ends_on_air_so (λ t. t.inner.now) g.S.AirStage.summed (g.S.AirStage.airs_to_end c.new-told.result.inner.now) purpose (stretches_in purpose bs) told.report c.run_air.new.stage is_out w)))
    (c.run_air.ensures.out purpose start before bs (subst (λ x. g.S.AirStage.begins x purpose) (sym c.new-told.ensures.inner) for)
    (subst (λ x. g.S.AirStage.tells_out x) (sym c.new-told.ensures.inner) tells) begins held given)

pub returns-clause-stage : goal.returns-clause-stage
returns-clause-stage g c =
    let now = sym (c.stage-1.given.1 (sym (c.run_air.ensures.stage.0 ∙ c.new-told.ensures.same))) in
    subst (λ x. g.S.Stage.leads x c.stage-1.given.0) c.new-told.ensures.inner
    (subst (λ y. g.S.Stage.leads c.new-told.result.inner.now y) now c.run_air.ensures.stage.1)
