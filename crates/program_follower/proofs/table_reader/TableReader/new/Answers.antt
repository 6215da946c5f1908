use Rattle.std.proofs.Common.{refl}
use Rattle.program_follower.proofs.table_reader.TableReader.new.Goals as goal

pub returns-clause-reads : goal.returns-clause-reads
returns-clause-reads c = record { purpose = refl; pats = c.new.ensures c.args.purpose.program; maps = c.new-2.ensures.reads c.args.purpose.program; cue_pid = c.or_zero.ensures; map_pid = c.of_bits.ensures }

pub returns-clause-shows : goal.returns-clause-shows
returns-clause-shows c = record { newest_is = (c.new-2.ensures.shows c.args.purpose.program).newest_is }
