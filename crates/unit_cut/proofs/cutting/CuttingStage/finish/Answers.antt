use Rattle.unit_cut.proofs.RunLemmas.{is_cut_of}
use Rattle.unit_cut.proofs.cutting.CuttingStage.finish.Goals as goal

pub returns-clause-ok : goal.returns-clause-ok
returns-clause-ok g c = λ first ps qs kept start before h held.
    record { sent = qs; ends_so = is_cut_of first.cutter c.args.self.now.cutter ps qs kept h; out = held }
