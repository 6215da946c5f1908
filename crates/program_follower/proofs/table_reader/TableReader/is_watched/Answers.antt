use Rattle.std.proofs.Common.{sym, ◌∙◌}
use Rattle.std.proofs.lemmas.Bool.{eqb-false}
use Rattle.program_follower.proofs.ElsewhereLemmas.{elsewhere}
use Rattle.program_follower.proofs.table_reader.TableReader.is_watched.Goals as goal
use Rattle.program_follower.proofs.table_reader.TableReader.is_watched.Goals.{then-number-eq0, else-number-eq0}

pub returns-else-number-get : goal.returns-else-number-get
returns-else-number-get c = λ k past h cue.
    let is = c.get-number.ensures.value ∙ c.pid.ensures in
    elim c.if-number-eq0.branch [
      | then-number-eq0 w ↦ absurd (eqb-false _ _ (sym w.value-is ∙ c.if-number-get.false) w.if-number-eq0.true)
      | else-number-eq0 w ↦ elsewhere c.args.self.now k c.args.packet.now past h (λ e. w.if-number-eq0.false (is ∙ e))
          (λ e. eqb-false _ _ (sym w.value-is ∙ c.if-number-get.false) (is ∙ e ∙ sym w.get.ensures.value))
          (λ e. eqb-false _ _ cue (is ∙ e ∙ sym c.get-else-number-get.ensures.value))
    ]
