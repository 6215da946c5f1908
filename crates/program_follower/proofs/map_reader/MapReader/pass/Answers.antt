use Rattle.program_follower.proofs.ElsewhereLemmas.{maps_elsewhere}
use Rattle.program_follower.proofs.MapsLemmas.{maps_still, none_shown}
use Rattle.std.proofs.Common.{◌∷◌, false}
use Rattle.program_follower.proofs.map_reader.MapReader.pass.Goals as goal

pub returns-clause-reads : goal.returns-clause-reads
returns-clause-reads c = λ k p past e h. maps_still c.args.self.now false _ k.program (p ∷ past) (maps_elsewhere k p past e c.args.self.now h)

pub returns-clause-shows : goal.returns-clause-shows
returns-clause-shows c = λ k p past e. none_shown c.args.self.now _ k.program p past e.map
