use Rattle.passages.proofs.PassageLemmas.{asked_told}
use Rattle.passages.proofs.kinds.ChainingPassageAsker.pass.Goals.{in-Ok-play, in-Err}
use Rattle.passages.proofs.kinds.ChainingPassageAsker.pass.Goals as goal

pub returns-clause-done : goal.returns-clause-done
returns-clause-done g c = λ start is_held. elim c.match-play.branch [
  | in-Ok-play w ↦ rw w.result-is (w.in-Ok-play.ensures.done c.args.self.options.now.config start c.in-Ok.ensures is_held)
  | in-Err w ↦ rw w.result-is tt
]

pub returns-clause-stopped : goal.returns-clause-stopped
returns-clause-stopped g c = λ start is_held. elim c.match-play.branch [
  | in-Ok-play w ↦ rw w.result-is tt
  | in-Err w ↦ rw (w.result-is, w.told_fault.ensures) (asked_told w.in-Err.fault _ _ (w.in-Err.ensures.stop c.args.self.options.now.config start c.in-Ok.ensures is_held))
]
