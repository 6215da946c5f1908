use Rattle.chain_laws.proofs.PmtPidLemmas.{pmt_is_sections}
use Rattle.chain_laws.proofs.laws.pmt_is_sections.Goals as goal

pub returns : goal.returns
returns c = pmt_is_sections
