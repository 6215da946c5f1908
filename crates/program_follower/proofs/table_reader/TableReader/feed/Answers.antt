use Rattle.program_follower.proofs.ElsewhereLemmas.{fault_elsewhere}
use Rattle.program_follower.proofs.table_reader.TableReader.feed.Goals as goal

pub returns-clause-reads : goal.returns-clause-reads
returns-clause-reads c = λ k past h.
    c.pass.ensures.reads k c.args.packet.now past (c.is_watched.ensures k past h c.if-is_watched.false) h

pub returns-clause-shows : goal.returns-clause-shows
returns-clause-shows c = λ k past h.
    c.pass.ensures.shows k c.args.packet.now past (c.is_watched.ensures k past h c.if-is_watched.false)

pub returns-clause-ok : goal.returns-clause-ok
returns-clause-ok c = λ k past h.
    fault_elsewhere k c.args.packet.now past (c.is_watched.ensures k past h c.if-is_watched.false) c.args.self.now.maps h.maps
