use Rattle.std.proofs.Common.{◌∙◌, subst}
use Rattle.std.specs.Prelude.{slice_index_or}
use Rattle.program_follower.specs.PidUses.{IsTablePid}
use Rattle.program_follower.proofs.start_follower.StartFollower.begin_anew.Goals as goal

pub returns : goal.returns
returns c = record {
  tables = c.new-self.ensures.reads;
  streams = tt;
  uses = record {
    pat = c.begin_anew.ensures.pat;
    cue = subst (λ n. IsTablePid (slice_index_or c.begin_anew.new.self n 0)) c.or_zero.ensures c.begin_anew.ensures.cue;
    map = c.begin_anew.ensures.pat;
    rest = λ pid within pat cue map. c.begin_anew.ensures.rest pid within pat (λ e. cue (e ∙ c.or_zero.ensures));
    places = c.begin_anew.ensures.places;
  };
}
