-- All services on air, packet by packet: what is out, and what was answered.
use Rattle.std.proofs.Common.{◌≡◌, ℕ, suc, List, [], ◌∷◌, ◌++◌, length, reverse, true, false, Option, refl, sym, ap, subst, ◌∙◌, append_assoc}
use Rattle.std.specs.Prelude.{if◌then◌else◌}
use Rattle.std.specs.List.{list_any}
use Rattle.std.proofs.lemmas.List.{append-nil, length-reverse}
use Rattle.ts_packet.specs.Packets.{packets_of}
use Rattle.psi_section.specs.Assembling.{capped}
use Rattle.scte104_codec.specs.declared.reply.Reply.{Reply}
use Rattle.injector.specs.Steps.{Step, Packet}
use Rattle.ad_library.specs.declared.library.AdLibrary.{AdLibrary}
use Rattle.service_laws.specs.Messages.{reply_of_none}
use Rattle.service_laws.specs.Services.{ServiceTerms, configs_of}
use Rattle.chain_engine.specs.Automation.{Take, Exchange}
use Rattle.chain_engine.specs.Talks.{TalkStandsFor, HasTalked}
use Rattle.chain_engine.specs.Runs.{steps_of, steps_before, Exchanged}
use Rattle.chain_engine.specs.declared.hearing.SessionEnd.{SessionEnd}
use Rattle.chain_engine.specs.declared.talk.Talk.{Talk}
use Rattle.chain_engine.proofs.StepsLemmas.{before_packets, steps_packets}
use Rattle.chain_engine.proofs.RunLemmas.{begun}
use Rattle.chain_services.specs.Serving.{FiledAs, AnswersNone, CountsReplies}
use Rattle.chain_services.specs.declared.report.ServiceReport.{ServiceReport}
use Rattle.on_air.specs.declared.report.AirReport.{AirReport}
use Rattle.services_on_air.specs.Airing.{Airing, nexts, owns, airings}
use Rattle.services_on_air.specs.Standing.{AllSettled}
use Rattle.services_on_air.specs.Histories.{Gone, nothing_gone}
use Rattle.services_on_air.specs.Outputs.{gones_behind, ended_before, put_by_each, put_for_all, services_air, services_air_to_end, services_reply, left_by_each, AllEventsOnAir, lost_among, ServicesOnAir}
use Rattle.services_on_air.specs.Serving.{AllGone, DeskGone, gones_ahead, gones_on, nothings_gone, AirServicesBegin, ServicesGone, ServicesHeard, ServicesEnded, RunsSoFar, air_behind, air_ahead, air_to_end}
use Rattle.services_on_air.specs.declared.desk.AirDesk.{AirDesk}
use Rattle.services_on_air.specs.declared.services.AirServices.{AirServices}
use Rattle.services_on_air.proofs.HistoryLemmas.{gones-on, gones-parted, puts-last}

-- ---- as many libraries as services

pub filed-long : {A : Type 0} (ls : List (AdLibrary A)) (ts : List ServiceTerms) → FiledAs ls ts → length ls ≡ length (configs_of ts)
filed-long [] [] h = refl
filed-long [] (t ∷ ts) h = absurd h
filed-long (l ∷ ls) [] h = absurd h
filed-long (l ∷ ls) (t ∷ ts) h = ap suc (filed-long ls ts h.1)

-- ---- nothing has come

nothing-yet : (ts : List ServiceTerms) → nothings_gone ts ≡ gones_behind ts (airings (configs_of ts) []) []
nothing-yet [] = refl
nothing-yet (t ∷ ts) = ap (λ l. nothing_gone ∷ l) (nothing-yet ts)

module _ {X : Type 0} (exchanges : X → List Exchange → X → Type 0) (exchanges_refl : (s : X) → exchanges s [] s)
    (exchanges_trans : (s t u : X) (xs ys : List Exchange) → exchanges s xs t → exchanges t ys u → exchanges s (xs ++ ys) u) (failures : X → ℕ) (x : X) where
  pub begins-gone : {M : Type 0} (services : AirServices M) (ts : List ServiceTerms) (is_out : List (List ℕ) → Type 0) → AirServicesBegin services (configs_of ts) → is_out []
      → RunsSoFar services ts [] is_out (Exchanged exchanges failures x x)
  begins-gone {M} services ts is_out h out =
      let run = begun exchanges exchanges_refl exchanges_trans failures (λ (d : AirDesk M) (l : List Step). Unit {0}) (λ m l. reply_of_none m) services.desk services.talk (λ (l : List Step). Unit {0}) x h.talks tt tt in
      record {
        takes = run.ts;
        rs = run.rs;
        gone = record {
          talks = run.talks;
          replies = run.replies;
          counts = subst (CountsReplies services.desk.counts.messages services.desk.counts.accepted services.desk.counts.refused) (sym run.replies) h.counts;
          desk = subst (DeskGone services.desk ts) (nothing-yet ts) (h.gone ts refl);
        };
        exchanges = run.exchanges;
        out = out;
      }

-- ---- a packet passed

pub own-put : (ts : List ServiceTerms) (p : List ℕ) (ys : List Airing) (steps : List Step) → list_any (owns p) ys ≡ true → put_by_each ts p ys steps ≡ put_for_all ts p ys steps
own-put ts p ys steps e = sym (append-nil (put_by_each ts p ys steps)) ∙ sym (ap (λ b. put_by_each ts p ys steps ++ (if b then [] else p ∷ [])) e)

pub none-put : (ts : List ServiceTerms) (p : List ℕ) (ys : List Airing) (steps : List Step) → list_any (owns p) ys ≡ false → put_by_each ts p ys steps ++ p ∷ [] ≡ put_for_all ts p ys steps
none-put ts p ys steps e = sym (ap (λ b. put_by_each ts p ys steps ++ (if b then [] else p ∷ [])) e)

module _ {M : Type 0} (old now : AirServices M) (ts : List ServiceTerms) (p : List ℕ) (past : List (List ℕ)) (takes : List Take) (rs : List Reply) where
  abbrev pub steps_now : List Step
  steps_now = steps_before (length rs) takes past

  abbrev pub settled_now : List Airing
  settled_now = nexts p (airings (configs_of ts) past)

  pub passed-gone : ServicesHeard old ts p past takes rs → now.talk ≡ old.talk → now.desk.counts ≡ old.desk.counts → now.desk.none ≡ old.desk.none → AllSettled old.desk.services.items p settled_now
      → AllGone now.desk.services.items ts (gones_on ts p settled_now (gones_ahead ts settled_now steps_now)) → ServicesGone now ts (p ∷ past) takes rs
  passed-gone h talk counts none settled all =
      let steps = steps_now in
      let ys = settled_now in
      record {
        talks = subst (λ (w : Talk M). TalkStandsFor w takes (length rs) (suc (length past))) (sym talk) h.talks;
        replies = h.replies;
        counts = subst (λ w. CountsReplies w.messages w.accepted w.refused rs) (sym counts) h.counts;
        desk = record {
          all = subst (AllGone now.desk.services.items ts) (gones-on old.desk.services.items ts ys p steps settled ∙ sym (gones-parted ts ys (Packet p ∷ steps))) all;
          none = subst (λ w. AnswersNone w ts) (sym none) h.desk.none;
        };
      }

-- and this is out
pub passed-air : (ts : List ServiceTerms) (p : List ℕ) (past : List (List ℕ)) (takes : List Take) (rs : List Reply)
    → air_ahead ts p past (steps_before (length rs) takes past) ++ put_for_all ts p (nexts p (airings (configs_of ts) past)) (steps_before (length rs) takes past) ≡ air_behind ts (p ∷ past) takes rs
passed-air ts p past takes rs =
    let steps = steps_before (length rs) takes past in
    let xs = airings (configs_of ts) past in
    let known = before_packets (length rs) takes past in
    append_assoc (services_air ts steps) (ended_before ts p xs steps) (put_for_all ts p (nexts p xs) steps)
    ∙ ap (λ l. services_air ts steps ++ (ended_before ts p (airings (configs_of ts) l) steps ++ put_for_all ts p (nexts p (airings (configs_of ts) l)) steps)) (sym known)

-- nothing of it changes
pub stays-gone : {M : Type 0} (old now : AirServices M) (ts : List ServiceTerms) (past : List (List ℕ)) (takes : List Take) (rs : List Reply) → now.talk ≡ old.talk → now.desk.counts ≡ old.desk.counts
    → ((gs : List Gone) → DeskGone old.desk ts gs → DeskGone now.desk ts gs) → ServicesGone old ts past takes rs → ServicesGone now ts past takes rs
stays-gone {M} old now ts past takes rs talk counts desk h = record {
  talks = subst (λ (w : Talk M). TalkStandsFor w takes (length rs) (length past)) (sym talk) h.talks;
  replies = h.replies;
  counts = subst (λ w. CountsReplies w.messages w.accepted w.refused rs) (sym counts) h.counts;
  desk = desk (gones_behind ts (airings (configs_of ts) past) (steps_of (length rs) takes past)) h.desk;
}

-- what is out is told of another sink
pub told-gone : {M : Type 0} (services : AirServices M) (ts : List ServiceTerms) (past : List (List ℕ)) (is_out is_out' : List (List ℕ) → Type 0)
    (exchanged : Option SessionEnd → List Take → List Reply → Type 0) → ((l : List (List ℕ)) → is_out l → is_out' l) → RunsSoFar services ts past is_out exchanged → RunsSoFar services ts past is_out' exchanged
told-gone services ts past is_out is_out' exchanged goes h =
    record { takes = h.takes; rs = h.rs; gone = h.gone; exchanges = h.exchanges; out = goes (air_behind ts past h.takes h.rs) h.out }

-- ---- the network has ended

pub ended-on-air : {M : Type 0} (services : AirServices M) (told : AirReport ServiceReport) (ts : List ServiceTerms) (bs : List ℕ) (ps : List (List ℕ)) (takes : List Take) (rs : List Reply)
    (is_out : List (List ℕ) → Type 0) (exchanged : Option SessionEnd → List Take → List Reply → Type 0) → packets_of bs ≡ ps → ServicesGone services ts (reverse ps) takes rs
    → exchanged services.talk.end takes rs → ServicesEnded told ts (reverse ps) takes rs → is_out (air_to_end ts (reverse ps) takes rs) → ServicesOnAir ts bs is_out exchanged told
ended-on-air services told ts bs ps takes rs is_out exchanged is h came ended out =
    let past = reverse ps in
    let n = length rs in
    let steps = steps_of n takes past in
    let here = ap (λ (l : List (List ℕ)). reverse l) (sym is) in
    let long : length past ≡ length (packets_of bs) = length-reverse ps ∙ ap length (sym is) in
    let xs = airings (configs_of ts) past in
    let known = steps_packets n takes past in
    record {
      ending = services.talk.end;
      takes = takes;
      rs = rs;
      talked = subst (HasTalked services.talk.end takes n) long h.talks.talked;
      bytes = h.talks.bytes;
      exchanges = came;
      replies = h.replies ∙ ap (λ l. services_reply ts (steps_of n takes l)) here;
      written = subst (λ l. is_out (services_air_to_end ts (steps_of n takes l))) here
          (subst (λ l. is_out (services_air ts steps ++ left_by_each ts (airings (configs_of ts) l) steps)) (sym known) (subst (λ l. is_out (services_air ts steps ++ l)) (puts-last ts xs steps) out));
      messages = ended.messages;
      events = subst (λ l. AllEventsOnAir told.report.services.items ts (gones_behind ts (airings (configs_of ts) l) (steps_of n takes l))) here ended.events;
      lost = subst (λ l. told.lost ≡ capped (lost_among (gones_behind ts (airings (configs_of ts) l) (steps_of n takes l)))) here ended.lost;
    }
