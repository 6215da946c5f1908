use Rattle.ad_library.proofs.PlacingLemmas.{few_left}
use Rattle.ad_library.proofs.slice.Slice.most.Goals as goal

pub returns : goal.returns
returns c = let own = c.args.self.now in few_left own.length own.zero own.places.now own.bytes.now
