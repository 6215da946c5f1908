-- What an injector on air says of itself; and a run without a fault so far, as one stretch.
use Rattle.std.proofs.Common.{◌≡◌, ℕ, ◌+◌, List, [], ◌∷◌, ◌++◌, map, length, reverse, Option, refl, sym, ap, subst, ◌∙◌, arith}
use Rattle.std.proofs.Math.ListN.{length-map}
use Rattle.std.proofs.lemmas.List.{length-reverse}
use Rattle.ts_packet.proofs.RunLemmas.{reverse-onto}
use Rattle.psi_tables.specs.declared.config.Config.{Config}
use Rattle.scte104_codec.specs.Reading.{message_of}
use Rattle.scte104_codec.specs.declared.reply.Reply.{Reply}
use Rattle.injector.specs.Steps.{Step, Message, Packet, cued, sent_at}
use Rattle.chain_engine.specs.Automation.{Take}
use Rattle.chain_engine.specs.Talks.{TalkStandsFor, judged_before}
use Rattle.chain_engine.specs.Runs.{asked, steps_of, replies_by, reply_in, sent_by, report_of}
use Rattle.chain_engine.specs.Stages.{HasRun, InjectsFor}
use Rattle.chain_engine.specs.Airing.{Aired, judged, Stretch, packets_through, steps_on_air, steps_ahead}
use Rattle.chain_engine.specs.Airing.{sent_on_air, sent_by_all, told_by_ended, HasAired}
use Rattle.chain_engine.specs.declared.hearing.SessionEnd.{SessionEnd}
use Rattle.chain_engine.specs.declared.report.Report.{Report}
use Rattle.chain_engine.specs.declared.chain.Chain.{Chain}

-- what an injector counts by these steps
abbrev pub reports_of_ended : Config → ℕ → List Take → List Stretch → List Report
reports_of_ended c most takes ended = told_by_ended (report_of c) most takes ended

abbrev pub report_of_last : Config → ℕ → List Take → List Stretch → List Aired → Report
report_of_last c most takes ended last = report_of c (steps_on_air most takes (packets_through ended) last)

-- what is out by an injector, and what was counted in the stretches that ended
abbrev pub InjectedSoFar : Config → List Stretch → List Aired → List Report → List (List ℕ) → ℕ → List Take → Type 0
InjectedSoFar c ended last told qs most takes = (sent_by_all c most takes ended last ≡ qs) × (told ≡ reports_of_ended c most takes ended)

-- a chain has passed these stretches on through its injector
abbrev pub InjectAirs : {M : Type 0} → Config → Chain M → (Option SessionEnd → List Take → List Reply → Type 0) → List Stretch → List Aired
    → List Report → List (List ℕ) → Type 0
InjectAirs c chain exchanged ended last told qs =
    HasAired (InjectsFor c) (reply_in c) chain.service chain.talk (InjectedSoFar c ended last told qs) exchanged ended last

-- all went through
abbrev pub InjectAirsToEnd : {M : Type 0} → Config → Chain M → (Option SessionEnd → List Take → List Reply → Type 0) → List Stretch → List Aired
    → List Report → List (List ℕ) → Report → Type 0
InjectAirsToEnd c chain exchanged ended last told sent report =
    HasAired (InjectsFor c) (reply_in c) chain.service chain.talk
    (λ most takes. InjectedSoFar c ended last told sent most takes × (report ≡ report_of_last c most takes ended last)) exchanged ended last

-- ---- a run up to its first fault is one stretch, all of whose packets are judged

pub asked-cued : (c : Config) (ms : List (List ℕ)) (past : List Step) → cued c (asked ms past) ≡ cued c past
asked-cued c [] past = refl
asked-cued c (m ∷ ms) past = asked-cued c ms (Message (message_of m) ∷ past)

pub steps-first : (n : ℕ) (ts : List Take) (past : List (List ℕ)) → steps_on_air n ts 0 (map judged past) ≡ steps_of n ts past
steps-first n ts [] = refl
steps-first n ts (p ∷ past) =
    let count = length-map past judged in
    let long : 0 + length (map judged past) ≡ length past = omega (arith, count) in
    ap (λ k. Packet p ∷ asked (judged_before n ts k) (steps_on_air n ts 0 (map judged past))) long
    ∙ ap (λ s. Packet p ∷ asked (judged_before n ts (length past)) s) (steps-first n ts past)

pub sent-first : (c : Config) (n : ℕ) (ts : List Take) (past : List (List ℕ))
    → sent_on_air c n ts 0 (map judged past) ≡ sent_by c (steps_of n ts past)
sent-first c n ts [] = refl
sent-first c n ts (p ∷ past) =
    let count = length-map past judged in
    let long : 0 + length (map judged past) ≡ length past = omega (arith, count) in
    let ms = judged_before n ts (length past) in
    let steps = steps_of n ts past in
    let ahead : steps_ahead n ts 0 (map judged past) ≡ asked ms steps =
    ap (λ k. asked (judged_before n ts k) (steps_on_air n ts 0 (map judged past))) long ∙ ap (asked ms) (steps-first n ts past) in
    ap (λ s. sent_on_air c n ts 0 (map judged past) ++ sent_at c p s) ahead
    ∙ ap (λ l. l ++ sent_at c p (asked ms steps)) (sent-first c n ts past)
    ∙ ap (λ l. reverse l ++ sent_at c p (asked ms steps)) (sym (asked-cued c ms steps))
    ∙ sym (reverse-onto (cued c (asked ms steps)) (sent_at c p (asked ms steps)))

-- so it is on air
pub inject-airs-first : {M : Type 0} (c : Config) (chain : Chain M) (exchanged : Option SessionEnd → List Take → List Reply → Type 0)
    (ps qs : List (List ℕ)) → HasRun (InjectsFor c) (reply_in c) chain.service chain.talk (λ steps. sent_by c steps ≡ qs) exchanged ps
    → InjectAirs c chain exchanged [] (map judged (reverse ps)) [] qs
inject-airs-first c chain exchanged ps qs h =
    let past = reverse ps in
    let same = steps-first (length h.rs) h.ts past in
    let count = length-map past judged in
    let back = length-reverse ps in
    let long : length ps ≡ 0 + length (map judged past) = omega (arith, count, back) in record {
      ts = h.ts;
      rs = h.rs;
      gone = subst (InjectsFor c chain.service) (sym same) h.gone;
      talks = subst (λ k. TalkStandsFor chain.talk h.ts (length h.rs) k) long h.talks;
      exchanges = h.exchanges;
      replies = h.replies ∙ ap (replies_by (reply_in c)) (sym same);
      out = (sent-first c (length h.rs) h.ts past ∙ h.out, refl);
    }
