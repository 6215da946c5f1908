use Rattle.std.proofs.Common.{◌≡◌, length}
use Rattle.psi_tables.specs.Runs.{things_of}
use Rattle.psi_tables.specs.Streams.{entry_at}
use Rattle.table_descriptors.specs.Finding.{info_on}
use Rattle.table_descriptors.proofs.language.find_info.Given as goal

-- what is found in what is left is what is found in all
abbrev pub invariant-loop-found : goal.invariant-loop-found
invariant-loop-found l = info_on l.pid (things_of entry_at l.rest) ≡ info_on l.pid (things_of entry_at l.entries)

abbrev pub decreases-loop-found : goal.decreases-loop-found
decreases-loop-found l = length l.rest
