-- From what an injector on air leaves to what its runs say.
use Rattle.std.proofs.Common.{◌≡◌, ℕ, suc, ◌+◌, List, [], ◌∷◌, map, length, reverse, Option, refl, sym, ap, subst, ◌∙◌, arith}
use Rattle.std.proofs.lemmas.List.{length-reverse}
use Rattle.ts_packet.specs.Packets.{packets_of}
use Rattle.psi_tables.specs.declared.config.Config.{Config}
use Rattle.scte104_codec.specs.declared.reply.Reply.{Reply}
use Rattle.program_follower.specs.declared.purpose.Purpose.{Purpose}
use Rattle.program_follower.specs.Purposes.{writing_cues}
use Rattle.chain_engine.specs.Automation.{Take}
use Rattle.chain_engine.specs.Talks.{HasTalked}
use Rattle.chain_engine.specs.Runs.{reports_sum}
use Rattle.chain_engine.specs.Airing.{packets_through, total}
use Rattle.chain_engine.specs.Injected.{InjectAirsToEnd, report_of_last, reports_of_ended}
use Rattle.chain_engine.specs.declared.hearing.SessionEnd.{SessionEnd}
use Rattle.chain_engine.specs.declared.report.Report.{Report}
use Rattle.chain_engine.specs.declared.chain.Chain.{Chain}
use Rattle.on_air.specs.Stretches.{Entry, Verdict, Is, BeginsNew, verdict, joined, with_next, stretches}
use Rattle.on_air.specs.AirRuns.{newest}
use Rattle.on_air.specs.AirOutputs.{aired, ended_of, ended_in, stretches_in}
use Rattle.on_air.specs.AirInjects.{InjectedOnAir, ended_for, last_for}

-- ---- the stretches have all packets

abbrev pub packets_in : Purpose → List (List Entry) → ℕ
packets_in c ss = packets_through (ended_in c ss) + length (aired (newest ss))

count-next : (c : Purpose) (p : List ℕ) (ss : List (List Entry)) → packets_in c (with_next c p ss) ≡ suc (packets_in c ss)
count-next c p [] = omega arith
count-next c p (past ∷ earlier) = by (verdict c p past) where
  by : (v : Verdict) → packets_in c (joined c v p past earlier) ≡ suc (packets_in c (past ∷ earlier))
  by (Is j) = omega arith
  by (BeginsNew fault) = omega arith

pub count-all : (c : Purpose) (past : List (List ℕ)) → packets_in c (stretches c past) ≡ length past
count-all c [] = omega arith
count-all c (p ∷ past) = count-next c p (stretches c past) ∙ ap suc (count-all c past)

-- ---- all went through

pub injected-on-air : {M : Type 0} (c : Config) (purpose : Purpose) → purpose ≡ writing_cues c → (chain : Chain M) (exchanged : Option SessionEnd → List Take → List Reply → Type 0) (bs : List ℕ)
    (is_out : List (List ℕ) → Type 0) (told : List Report) (sent : List (List ℕ)) (last report : Report)
    → InjectAirsToEnd c chain exchanged (ended_in purpose (stretches_in purpose bs)) (aired (newest (stretches_in purpose bs))) told sent last
    → report ≡ total reports_sum last told → is_out sent → InjectedOnAir c bs is_out exchanged report
injected-on-air c purpose is chain exchanged bs is_out told sent last report airs sums out =
    let h = subst (λ q. InjectAirsToEnd c chain exchanged (ended_in q (stretches_in q bs)) (aired (newest (stretches_in q bs))) told sent last) is airs in
    let all : packets_in (writing_cues c) (stretches_in (writing_cues c) bs) ≡ length (packets_of bs) = count-all (writing_cues c) (reverse (packets_of bs)) ∙ length-reverse (packets_of bs) in
    let n = length h.rs in record {
      ending = chain.talk.end;
      ts = h.ts;
      rs = h.rs;
      talked = subst (HasTalked chain.talk.end h.ts n) all h.talks.talked;
      bytes = h.talks.bytes;
      exchanges = h.exchanges;
      replies = h.replies;
      written = subst is_out (sym h.out.0.0) out;
      counted = sums ∙ ap (total reports_sum last) h.out.0.1 ∙ ap (λ r. total reports_sum r (reports_of_ended c n h.ts (ended_in (writing_cues c) (stretches_in (writing_cues c) bs)))) h.out.1;
    }
