use Rattle.psi_section.proofs.CrcLemmas.{crc_closed}
use Rattle.psi_section.proofs.SealLemmas.{crc_alone_closes}
use Rattle.psi_section.proofs.laws.crc_closes.Goals as goal

pub returns : goal.returns
returns c = record { closes = crc_closed; alone = crc_alone_closes }
