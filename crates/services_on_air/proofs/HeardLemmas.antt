-- Several services on air: hearing the automation before a packet.
use Rattle.std.proofs.Common.{◌≡◌, ℕ, suc, ◌+◌, ◌≤◌, Bool, true, false, List, [], ◌∷◌, ◌++◌, length, Option, None, refl, sym, ap, subst, ◌∙◌, arith, append_assoc, length-append}
use Rattle.std.specs.Option.{is_some}
use Rattle.std.proofs.lemmas.List.{append-nil}
use Rattle.scte104_codec.specs.Reading.{message_of}
use Rattle.scte104_codec.specs.declared.reply.Reply.{Reply}
use Rattle.as_session.specs.Session.{state_of}
use Rattle.injector.specs.Steps.{Step, Message, packets_in}
use Rattle.service_laws.specs.Messages.{share_an_index}
use Rattle.service_laws.specs.Services.{ServiceTerms, configs_of}
use Rattle.chain_engine.specs.Automation.{Take, Exchange, takes_and_answers}
use Rattle.chain_engine.specs.Hearing.{Replied}
use Rattle.chain_engine.specs.Judging.{JudgesAll}
use Rattle.chain_engine.specs.Talks.{judged_before, HasTalked, TalkStandsFor, loses, CountsEnd}
use Rattle.chain_engine.specs.Runs.{asked, steps_of, steps_before, Exchanged}
use Rattle.chain_engine.specs.declared.hearing.SessionEnd.{SessionEnd}
use Rattle.chain_engine.specs.declared.talk.Talk.{Talk}
use Rattle.chain_engine.proofs.TalkLemmas.{goes_closed, open_end}
use Rattle.chain_engine.proofs.StepsLemmas.{steps_stay, none_asked, steps_packets}
use Rattle.chain_engine.proofs.RunLemmas.{few_takes, few_replies, exchanged_more}
use Rattle.chain_services.specs.Serving.{CountsReplies}
use Rattle.services_on_air.specs.Airing.{nexts, airings}
use Rattle.services_on_air.specs.Standing.{AirDeskJudges}
use Rattle.services_on_air.specs.Outputs.{ended_before, services_air, replies_ahead, reply_before}
use Rattle.services_on_air.specs.Serving.{gones_ahead, DeskGone, ServicesSettled, HearsAll, air_ahead}
use Rattle.services_on_air.specs.declared.desk.AirDesk.{AirDesk}
use Rattle.services_on_air.specs.declared.services.AirServices.{AirServices}
use Rattle.services_on_air.proofs.HistoryLemmas.{gones-asked, reply-is, all-asked-ended, all-asked-air}

-- ---- messages that were judged

counts-all : {M : Type 0} (j k : AirDesk M) (ms : List (List ℕ)) (rs qs : List Reply) → JudgesAll AirDeskJudges j ms rs k → CountsReplies j.counts.messages j.counts.accepted j.counts.refused qs
    → CountsReplies k.counts.messages k.counts.accepted k.counts.refused (qs ++ rs)
counts-all {M} j k [] [] qs all h =
    subst (λ (d : AirDesk M). CountsReplies d.counts.messages d.counts.accepted d.counts.refused (qs ++ [])) (sym all) (subst (CountsReplies j.counts.messages j.counts.accepted j.counts.refused) (sym (append-nil qs)) h)
counts-all j k [] (r ∷ rs) qs all h = absurd all
counts-all j k (m ∷ ms) [] qs all h = absurd all
counts-all j k (m ∷ ms) (r ∷ rs) qs all h =
    let (i, one, more) = all in
    subst (CountsReplies k.counts.messages k.counts.accepted k.counts.refused) (append_assoc qs (r ∷ []) rs) (counts-all i k ms rs (qs ++ r ∷ []) more (one.counts qs h))

module _ {M : Type 0} (ts : List ServiceTerms) (apart : share_an_index (configs_of ts) ≡ false) (p : List ℕ) where
  pub record AreJudged (k : AirDesk M) (ms : List (List ℕ)) (rs : List Reply) (steps : List Step) : Type 0 where
    pub desk : DeskGone k ts (gones_ahead ts (nexts p (airings (configs_of ts) (packets_in steps))) (asked ms steps))
    pub replies : replies_ahead ts p (asked ms steps) ≡ replies_ahead ts p steps ++ rs

  judged-all : (j k : AirDesk M) (ms : List (List ℕ)) (rs : List Reply) (steps : List Step) → JudgesAll AirDeskJudges j ms rs k
      → DeskGone j ts (gones_ahead ts (nexts p (airings (configs_of ts) (packets_in steps))) steps) → AreJudged k ms rs steps
  judged-all j k [] [] steps all h = record {
    desk = subst (λ (d : AirDesk M). DeskGone d ts (gones_ahead ts (nexts p (airings (configs_of ts) (packets_in steps))) steps)) (sym all) h;
    replies = sym (append-nil (replies_ahead ts p steps));
  }
  judged-all j k [] (r ∷ rs) steps all h = absurd all
  judged-all j k (m ∷ ms) [] steps all h = absurd all
  judged-all j k (m ∷ ms) (r ∷ rs) steps all h =
      let (i, one, more) = all in
      let ys = nexts p (airings (configs_of ts) (packets_in steps)) in
      let n = message_of m in
      let gs = gones_ahead ts ys steps in
      let (says, goes) = one.answers ts gs h in
      let next = subst (DeskGone i ts) (gones-asked ts ys n steps apart) goes in
      let later = judged-all i k ms rs (Message n ∷ steps) more next in
      let reply : reply_before ts p n steps ≡ r = sym (says ∙ reply-is ts ys n steps) in
      record {
        desk = later.desk;
        replies = later.replies ∙ ap (λ q. (replies_ahead ts p steps ++ q ∷ []) ++ rs) reply ∙ append_assoc (replies_ahead ts p steps) (r ∷ []) rs;
      }

-- ---- the automation is heard

module _ {X : Type 0} (exchanges : X → List Exchange → X → Type 0) (exchanges_refl : (s : X) → exchanges s [] s)
    (exchanges_trans : (s t u : X) (xs ys : List Exchange) → exchanges s xs t → exchanges t ys u → exchanges s (xs ++ ys) u) (failures : X → ℕ) (x : X)
    {M : Type 0} (ts : List ServiceTerms) (apart : share_an_index (configs_of ts) ≡ false) (p : List ℕ) (past : List (List ℕ)) (takes : List Take) (rs : List Reply) where
  heard_closed : (y : X) (old : AirServices M) → is_some old.talk.end ≡ true → ServicesSettled old ts p past takes rs → Exchanged exchanges failures x y old.talk.end takes rs
      → HearsAll old ts p past (air_ahead ts p past (steps_of (length rs) takes past)) (Exchanged exchanges failures x y)
  heard_closed y old is h exchanged =
      let n = length rs in
      let ys = nexts p (airings (configs_of ts) past) in
      let goes = goes_closed old.talk.end (state_of old.talk.session) takes n (length past) is h.talks.talked in
      let le = few_takes old.talk.end takes n (length past) h.talks.talked in
      let same = none_asked n takes past le in
      record {
        takes = takes;
        rs = rs;
        heard = record {
          talks = record { talked = goes.talked; pending = h.talks.pending; bytes = h.talks.bytes };
          replies = h.replies ∙ ap (replies_ahead ts p) (sym same);
          counts = h.counts;
          desk = subst (λ s. DeskGone old.desk ts (gones_ahead ts ys s)) (sym same) h.desk;
        };
        exchanges = exchanged;
        same = ap (air_ahead ts p past) same;
      }

  module _ (y z : X) (old now : AirServices M) (h : ServicesSettled old ts p past takes rs) (exchanged : Exchanged exchanges failures x y old.talk.end takes rs) where
    abbrev pub Listens : Type 0
    Listens = (us : List Take) (n k : ℕ) → TalkStandsFor old.talk us n k →
        (more : List Take) × (qs : List Reply) × TalkStandsFor now.talk (us ++ more) (n + length qs) (suc k)
        × Replied AirDeskJudges old.desk now.desk (judged_before (n + length qs) (us ++ more) k) qs (loses old.talk.end now.talk.end)
        (λ xs. exchanges y (takes_and_answers more xs) z)

    heard_open : old.talk.end ≡ None → Listens → CountsEnd old.talk.end now.talk.end (failures y) (failures z)
        → HearsAll now ts p past (air_ahead ts p past (steps_of (length rs) takes past)) (Exchanged exchanges failures x z)
    heard_open e listens counts =
        let count = length past in
        let (more, qs, talks, replied) = listens takes (length rs) count h.talks in
        let n = length rs in
        let m = length qs in
        let cs = configs_of ts in
        let xs = airings cs past in
        let is_open = subst (λ (end : Option SessionEnd). HasTalked end takes n count) e h.talks.talked in
        let sum : length (rs ++ qs) ≡ n + m = length-append rs qs in
        let parts = length-append takes more in
        let few = few_takes now.talk.end (takes ++ more) (n + m) (suc count) talks.talked in
        let most = few_replies now.talk.end (takes ++ more) (n + m) (suc count) talks.talked in
        let all : count ≤ length takes = omega (arith, is_open.0) in
        let before = steps_of n takes past in
        let stay = steps_stay takes more n m is_open.2 past all in
        let ms = judged_before (n + m) (takes ++ more) count in
        let known = steps_packets n takes past in
        let done = judged-all ts apart p old.desk now.desk ms qs before replied.judged (subst (λ l. DeskGone old.desk ts (gones_ahead ts (nexts p (airings cs l)) before)) (sym known) h.desk) in
        let steps : steps_before (length (rs ++ qs)) (takes ++ more) past ≡ asked ms before = ap (λ q. steps_before q (takes ++ more) past) sum ∙ ap (asked ms) stay in
        record {
          takes = takes ++ more;
          rs = rs ++ qs;
          heard = record {
            talks = subst (λ q. TalkStandsFor now.talk (takes ++ more) q (suc count)) (sym sum) talks;
            replies = ap (λ l. l ++ qs) h.replies ∙ sym done.replies ∙ ap (replies_ahead ts p) (sym steps);
            counts = counts-all old.desk now.desk ms qs rs replied.judged h.counts;
            desk = subst (λ s. DeskGone now.desk ts (gones_ahead ts (nexts p xs) s)) (sym steps) (subst (λ l. DeskGone now.desk ts (gones_ahead ts (nexts p (airings cs l)) (asked ms before))) known done.desk);
          };
          exchanges = exchanged_more exchanges exchanges_refl exchanges_trans failures x y z old.talk.end now.talk.end takes more rs qs e exchanged is_open.2 (omega (arith, parts, few, is_open.0)) most replied.told replied.some counts;
          same = ap (air_ahead ts p past) steps ∙ ap (λ l. l ++ ended_before ts p xs (asked ms before)) (all-asked-air ts ms before) ∙ ap (λ l. services_air ts before ++ l) (all-asked-ended ts p xs ms before);
        }

    pub heard : Listens → (is_some old.talk.end ≡ true → (now.talk ≡ old.talk) × (now.desk ≡ old.desk) × (z ≡ y)) → CountsEnd old.talk.end now.talk.end (failures y) (failures z)
        → HearsAll now ts p past (air_ahead ts p past (steps_of (length rs) takes past)) (Exchanged exchanges failures x z)
    heard listens closed counts = by (is_some old.talk.end) refl
      where
        by : (b : Bool) → is_some old.talk.end ≡ b → HearsAll now ts p past (air_ahead ts p past (steps_of (length rs) takes past)) (Exchanged exchanges failures x z)
        by false e = heard_open (open_end old.talk.end e) listens counts
        by true e =
            let (t, d, a) = closed e in
            let k = heard_closed y old e h exchanged in
            record {
              takes = k.takes;
              rs = k.rs;
              heard = record {
                talks = subst (λ (w : Talk M). TalkStandsFor w k.takes (length k.rs) (suc (length past))) (sym t) k.heard.talks;
                replies = k.heard.replies;
                counts = subst (λ (w : AirDesk M). CountsReplies w.counts.messages w.counts.accepted w.counts.refused k.rs) (sym d) k.heard.counts;
                desk = subst (λ (w : AirDesk M). DeskGone w ts (gones_ahead ts (nexts p (airings (configs_of ts) past)) (steps_before (length k.rs) k.takes past))) (sym d) k.heard.desk;
              };
              exchanges = subst (λ w. Exchanged exchanges failures x w now.talk.end k.takes k.rs) (sym a) (subst (λ (w : Talk M). Exchanged exchanges failures x y w.end k.takes k.rs) (sym t) k.exchanges);
              same = k.same;
            }
