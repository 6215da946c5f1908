use Rattle.ts_packet.proofs.FieldLemmas.{carries-with}
use Rattle.unit_cut.proofs.cutter.Cutter.keep.Goals as goal

pub returns-clause-carries : goal.returns-clause-carries
returns-clause-carries c = λ r. rw c.set_counter.ensures (carries-with _ _ r c.kept-number.ensures.below)
