use Rattle.scte104_codec.proofs.WidthLemmas.{what_is_read_fits}
use Rattle.scte104_codec.proofs.laws.what_is_read_fits.Goals as goal

pub returns : goal.returns
returns c = what_is_read_fits
