use Rattle.std.proofs.Common.{◌+◌, ◌-◌, arith, refl, ◌∙◌, length}
use Rattle.std.specs.Prelude.{replicate}
use Rattle.std.proofs.lemmas.List.{length-set}
use Rattle.ts_packet.specs.Fields.{pid_of}
use Rattle.program_follower.proofs.PlaceLemmas.{zeros_are, set_are, zeros_elsewhere, none_elsewhere, one_elsewhere, all_elsewhere}
use Rattle.program_follower.proofs.places.StreamPlaces.new.Goals as goal

pub loop-index-init : goal.loop-index-init
loop-index-init c = (omega arith, refl, zeros_are, none_elsewhere (replicate 8192 0) c.args.streams.now (length c.args.streams.now) refl zeros_elsewhere)

pub loop-index-preserved : goal.loop-index-preserved
loop-index-preserved c =
    let numbers = c.loop-index.numbers in
    let n = c.loop-index.index - 1 in
    let pid = c.get.result in (
      omega arith,
      length-set numbers pid (n + 1) ∙ c.loop-index.invariant.1,
      set_are numbers pid (n + 1) (omega arith) (omega arith) c.loop-index.invariant.2,
      one_elsewhere c.args.streams.now numbers n c.loop-index.index pid c.index-streams-index.result (omega arith) c.get.ensures.value (omega arith) (omega arith) c.loop-index.invariant.3,
    )

pub returns : goal.returns
returns c = λ p good within.
    all_elsewhere c.args.streams.now c.loop-index.numbers c.loop-index.index (omega arith) c.loop-index.invariant.3 p good within (c.loop-index.invariant.2 (pid_of p) within)
