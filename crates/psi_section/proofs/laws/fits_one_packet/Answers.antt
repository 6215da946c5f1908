use Rattle.psi_section.proofs.laws.fits_one_packet.Goals as goal
use Rattle.psi_section.proofs.PacketiserLemmas.{fits_one}

pub returns : goal.returns
returns c = fits_one
