-- From what a chain on air leaves to what its run says.
use Rattle.std.proofs.Common.{◌≡◌, ℕ, List, length, reverse, Option, sym, subst, ◌∙◌}
use Rattle.std.proofs.lemmas.List.{length-reverse}
use Rattle.ts_packet.specs.Packets.{packets_of}
use Rattle.psi_tables.specs.declared.config.Config.{Config}
use Rattle.scte104_codec.specs.declared.reply.Reply.{Reply}
use Rattle.program_follower.specs.declared.purpose.Purpose.{Purpose}
use Rattle.program_follower.specs.Purposes.{writing_cues}
use Rattle.ad_library.specs.Advertisements.{Advertisement}
use Rattle.chain_engine.specs.Automation.{Take}
use Rattle.chain_engine.specs.Talks.{HasTalked}
use Rattle.chain_engine.specs.Runs.{reports_sum}
use Rattle.chain_engine.specs.Airing.{total}
use Rattle.chain_engine.specs.Chained.{ChainAirsToEnd}
use Rattle.chain_engine.specs.declared.hearing.SessionEnd.{SessionEnd}
use Rattle.chain_engine.specs.declared.report.Report.{Report}
use Rattle.chain_engine.specs.declared.chain.Chain.{Chain}
use Rattle.on_air.specs.AirRuns.{newest}
use Rattle.on_air.specs.AirOutputs.{aired, ended_in, stretches_in}
use Rattle.on_air.specs.AirChains.{RanOnAir}
use Rattle.on_air.proofs.InjectLemmas.{packets_in, count-all}

pub ran-on-air : {M : Type 0} (c : Config) (filed : ℕ → Option Advertisement) (purpose : Purpose) → purpose ≡ writing_cues c → (chain : Chain M)
    (exchanged : Option SessionEnd → List Take → List Reply → Type 0) (bs : List ℕ) (is_out : List (List ℕ) → Type 0) (told : List Report) (sent : List (List ℕ)) (last report : Report)
    → ChainAirsToEnd c filed chain exchanged (ended_in purpose (stretches_in purpose bs)) (aired (newest (stretches_in purpose bs))) told sent last
    → report ≡ total reports_sum last told → is_out sent → RanOnAir c filed bs is_out exchanged report
ran-on-air c filed purpose is chain exchanged bs is_out told sent last report airs sums out =
    let h = subst (λ q. ChainAirsToEnd c filed chain exchanged (ended_in q (stretches_in q bs)) (aired (newest (stretches_in q bs))) told sent last) is airs in
    let all : packets_in (writing_cues c) (stretches_in (writing_cues c) bs) ≡ length (packets_of bs) = count-all (writing_cues c) (reverse (packets_of bs)) ∙ length-reverse (packets_of bs) in
    let n = length h.rs in record {
      ending = chain.talk.end;
      ts = h.ts;
      rs = h.rs;
      talked = subst (HasTalked chain.talk.end h.ts n) all h.talks.talked;
      bytes = h.talks.bytes;
      exchanges = h.exchanges;
      replies = h.replies;
      written = subst is_out (sym h.out.sent_so) out;
      last = last;
      told = told;
      told_so = h.out.told_so;
      last_so = h.out.last_so;
      counted = sums;
    }
