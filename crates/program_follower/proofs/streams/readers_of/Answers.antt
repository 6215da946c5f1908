use Rattle.std.proofs.Common.{arith, [], ◌∙◌}
use Rattle.std.proofs.lemmas.List.{length-set}
use Rattle.unit_stream.specs.Pieces.{Reads}
use Rattle.program_follower.proofs.StreamLemmas.{first_within_streams, read_on}
use Rattle.program_follower.proofs.streams.readers_of.Goals as goal

pub loop-index-preserved : goal.loop-index-preserved
loop-index-preserved c =
    let rs = c.loop-index.readers in
    let n = c.loop-index.index in (
      omega arith,
      length-set rs n c.new.result ∙ c.loop-index.invariant.1,
      read_on (λ r pid. Reads r pid []) c.args.streams.now rs n c.new.result c.index-streams-index.result (omega arith) c.new.ensures c.loop-index.invariant.2,
    )

pub returns : goal.returns
returns c = λ q x d h. c.loop-index.invariant.2 q x d h (first_within_streams c.args.streams.now q x c.loop-index.index h (omega arith))
