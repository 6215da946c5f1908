use Rattle.std.proofs.Common.{◌∙◌, sym, subst}
use Rattle.std.specs.Prelude.{slice_index_or}
use Rattle.program_follower.specs.PidUses.{IsTablePid}
use Rattle.program_follower.proofs.start_follower.StartFollower.new.Goals as goal

pub returns : goal.returns
returns c = record {
  tables = c.new.ensures.reads;
  streams = tt;
  uses = record {
    pat = c.new-uses.ensures.pat;
    cue = subst (λ n. IsTablePid (slice_index_or c.new-uses.result n 0)) c.or_zero.ensures c.new-uses.ensures.cue;
    map = c.new-uses.ensures.pat;
    rest = λ pid within pat cue map. c.new-uses.ensures.rest pid within pat (λ e. cue (e ∙ c.or_zero.ensures));
    places = c.new-uses.ensures.places;
  };
}
