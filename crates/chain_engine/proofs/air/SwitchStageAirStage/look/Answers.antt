use Rattle.std.proofs.Common.{reverse}
use Rattle.ad_library.specs.Library.{held}
use Rattle.chain_engine.proofs.air.SwitchStageAirStage.look.Goals as goal

pub returns-clause-sends : goal.returns-clause-sends
returns-clause-sends c = λ first ps qs kept s. c.look.ensures.stands first.config (held first.library.now) (reverse ps) s.1.stands
