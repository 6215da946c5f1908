use Rattle.psi_section.proofs.StoreLemmas.{skip_drops}
use Rattle.psi_section.proofs.store.Store.skip.Goals as goal

pub returns : goal.returns
returns c = skip_drops c.args.self.now.bytes c.args.self.now.at c.args.self.now.end c.args.count
