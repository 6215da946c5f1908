use Rattle.std.proofs.Common.{refl, ap}
use Rattle.break_timelines.specs.Timelines.{has_place, has_begun, first_of, rises_of}
use Rattle.break_timelines.proofs.reader.TimelineReader.new.Goals as goal

pub returns : goal.returns
unfolding has_begun first_of rises_of
returns c = record {
  follower = c.new.ensures;
  packets = refl;
  high = refl;
  is_past = tt;
  first = refl;
  begun = λ place. ap (has_place place) c.new-2.ensures.items;
  pictures = c.new-3.ensures c.args.program;
  marks = c.new-4.ensures.items;
}
