use Rattle.psi_section.proofs.laws.given_where_sound.Goals as goal
use Rattle.psi_section.proofs.GivenLemmas.{sound, can}

pub returns : goal.returns
returns c = record { sound = sound; given = can }
