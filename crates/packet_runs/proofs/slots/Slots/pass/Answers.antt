use Rattle.std.proofs.Common.{◌≡◌, ℕ, List, ap, sym, subst, ◌++◌, ◌∙◌}
use Rattle.packet_runs.specs.Stages.{Went, kept_by}
use Rattle.packet_runs.specs.declared.slots.Slots.{Slots}
use Rattle.packet_runs.proofs.slots.Slots.pass.Goals as goal
use Rattle.packet_runs.proofs.slots.Slots.pass.Goals.{then-is_kept, else-is_kept}

pub returns-after-is_kept-clause-ok : goal.returns-after-is_kept-clause-ok
returns-after-is_kept-clause-ok g c = λ first ps qs start before s h.
    let p = c.args.self.now.next.now in
    let is_out = (λ (l : List (List ℕ)). g.K.PacketSink.holds c.step.new.out start (before ++ l)) in
    let packet = c.step.new.packet in
    let kept = c.args.self.now.kept.now in
    let turned : kept_by c.in-Ok.is_kept packet kept ≡ c.if-is_kept.self.kept.now =
    elim c.if-is_kept.branch [
      | then-is_kept w ↦ ap (λ b. kept_by b packet kept) w.if-is_kept.true ∙ sym (ap (λ r. r.now) w.swap.ensures.y_after) ∙ sym (ap (λ (s : Slots). s.kept.now) w.self-is)
      | else-is_kept w ↦ ap (λ b. kept_by b packet kept) w.if-is_kept.false ∙ sym (ap (λ (s : Slots). s.kept.now) w.self-is)
    ] in
    subst (λ k. Went g.S.Stage.sends g.S.Stage.refusal first ps p k c.step.new.self is_out) turned (c.in-Ok.ensures.ok first ps qs start before s h)
