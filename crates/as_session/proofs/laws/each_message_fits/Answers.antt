use Rattle.as_session.proofs.WidthLemmas.{each_message_fits}
use Rattle.as_session.proofs.laws.each_message_fits.Goals as goal

pub returns : goal.returns
returns c = each_message_fits
