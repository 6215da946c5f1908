use Rattle.std.proofs.Common.{◌≡◌, length}
use Rattle.table_descriptors.specs.Finding.{body_in}
use Rattle.table_descriptors.proofs.finding.find_descriptor.Given as goal

-- what is found in what is left is what is found in all
abbrev pub invariant-loop-found : goal.invariant-loop-found
invariant-loop-found l = body_in l.tag l.rest ≡ body_in l.tag l.bytes

abbrev pub decreases-loop-found : goal.decreases-loop-found
decreases-loop-found l = length l.rest
