use Rattle.std.proofs.Common.{refl, subst, All}
use Rattle.stream_facts.specs.Judging.{packets_in}
use Rattle.stream_facts.specs.Facts.{IsFree}
use Rattle.stream_facts.proofs.FreeLemmas.{told_counts, told_streams, told_free}
use Rattle.stream_facts.proofs.inspection.Inspection.finish.Goals as goal

pub returns : goal.returns
returns c = λ k past i small.
    let seen = packets_in past in
    let wanted = c.args.self.wanted in
    let all = c.in_ok-all.all.items in
    let count = told_counts c.args.self.counts past i.counts small in
    let free = subst (λ rs. All (IsFree seen rs) c.in_ok-free_pids.free_pids.items) c.as_slice.ensures.value (c.in_ok-free_pids.ensures seen i.pids) in
    record {
      packet_size = refl;
      damage_is = refl;
      packets = count.0;
      nulls = count.1;
      streams = told_streams seen wanted all _ c.of_number-programs.ensures (c.in_ok-all.ensures seen i.pids);
      free = told_free seen wanted all _ _ c.of_number-programs.ensures free;
      profile = c.verdict-profile.ensures k past i.judge count.0;
    }
