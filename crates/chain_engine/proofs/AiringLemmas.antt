-- A run on air: hearing the automation, one packet more, and a stretch that begins anew.
use Rattle.std.proofs.Common.{◌≡◌, ℕ, suc, ◌+◌, ◌≤◌, Bool, true, false, List, [], ◌∷◌, ◌++◌, length, Option, None, refl, sym, ap, subst, ◌∙◌, arith, append_assoc, length-append}
use Rattle.std.specs.Option.{is_some}
use Rattle.std.proofs.lemmas.List.{append-nil}
use Rattle.psi_tables.specs.declared.config.Config.{Config}
use Rattle.scte104_codec.specs.Reading.{MessageReading}
use Rattle.scte104_codec.specs.declared.reply.Reply.{Reply}
use Rattle.as_session.specs.Session.{state_of}
use Rattle.injector.specs.Steps.{Step, Packet, sent_at}
use Rattle.chain_engine.specs.Automation.{Take, Exchange, takes_and_answers}
use Rattle.chain_engine.specs.Hearing.{Replied}
use Rattle.chain_engine.specs.Talks.{messages_taken, judged_before, HasTalked, TalkStandsFor, loses, CountsEnd}
use Rattle.chain_engine.specs.Runs.{asked, replies_by, report_of, Exchanged}
use Rattle.chain_engine.specs.Airing.{Aired, read_of, Stretch, packets_through, steps_on_air, steps_ahead, put_for, sent_on_air, sent_by_ended, sent_by_all, told_by_ended, replies_by_ended, replies_by_all, HasAired}
use Rattle.chain_engine.specs.Injected.{InjectedSoFar, reports_of_ended, report_of_last}
use Rattle.chain_engine.specs.declared.report.Report.{Report}
use Rattle.chain_engine.specs.declared.hearing.SessionEnd.{SessionEnd}
use Rattle.chain_engine.specs.declared.talk.Talk.{Talk}
use Rattle.chain_engine.proofs.TalkLemmas.{judged_none, goes_closed, open_end}
use Rattle.chain_engine.proofs.StepsLemmas.{GoesOn, judged_stays, asked_judged}
use Rattle.chain_engine.proofs.RunLemmas.{few_takes, few_replies, exchanged_more}

-- ---- what is said of the packets so far stays as it is when takes come behind theirs

module _ (ts us : List Take) (n m : ℕ) (e : n ≡ length (messages_taken ts)) where
  pub steps_stay : (first : ℕ) (past : List Aired) → first + length past ≤ length ts → steps_on_air (n + m) (ts ++ us) first past ≡ steps_on_air n ts first past
  steps_stay first [] le = refl
  steps_stay first (a ∷ past) le =
      let stays = judged_stays ts us n m e (first + length past) (omega (arith, le)) in
      let before = steps_stay first past (omega (arith, le)) in
      ap (λ l. Packet (read_of a) ∷ asked l (steps_on_air (n + m) (ts ++ us) first past)) stays ∙ ap (λ s. Packet (read_of a) ∷ asked (judged_before n ts (first + length past)) s) before

  pub ahead_stay : (first : ℕ) (past : List Aired) → suc (first + length past) ≤ length ts → steps_ahead (n + m) (ts ++ us) first past ≡ steps_ahead n ts first past
  ahead_stay first past le =
      let stays = judged_stays ts us n m e (first + length past) le in
      let before = steps_stay first past (omega (arith, le)) in
      ap (λ l. asked l (steps_on_air (n + m) (ts ++ us) first past)) stays ∙ ap (λ s. asked (judged_before n ts (first + length past)) s) before

  sent_stay : (c : Config) (first : ℕ) (past : List Aired) → first + length past ≤ length ts → sent_on_air c (n + m) (ts ++ us) first past ≡ sent_on_air c n ts first past
  sent_stay c first [] le = refl
  sent_stay c first (a ∷ past) le =
      let ahead = ahead_stay first past (omega (arith, le)) in
      let before = sent_stay c first past (omega (arith, le)) in
      ap (λ l. l ++ put_for a (sent_at c (read_of a) (steps_ahead (n + m) (ts ++ us) first past))) before ∙ ap (λ s. sent_on_air c n ts first past ++ put_for a (sent_at c (read_of a) s)) ahead

  ended_sent_stay : (c : Config) (ended : List Stretch) → packets_through ended ≤ length ts → sent_by_ended c (n + m) (ts ++ us) ended ≡ sent_by_ended c n ts ended
  ended_sent_stay c [] le = refl
  ended_sent_stay c (s ∷ earlier) le =
      let first = packets_through earlier in
      let before = ended_sent_stay c earlier (omega (arith, le)) in
      let one = sent_stay c first s.packets le in
      ap (λ l. l ++ (sent_on_air c (n + m) (ts ++ us) first s.packets ++ s.behind)) before ∙ ap (λ l. sent_by_ended c n ts earlier ++ (l ++ s.behind)) one

  pub all_sent_stay : (c : Config) (ended : List Stretch) (last : List Aired) → packets_through ended + length last ≤ length ts
      → sent_by_all c (n + m) (ts ++ us) ended last ≡ sent_by_all c n ts ended last
  all_sent_stay c ended last le =
      let before = ended_sent_stay c ended (omega (arith, le)) in
      ap (λ l. l ++ sent_on_air c (n + m) (ts ++ us) (packets_through ended) last) before ∙ ap (λ l. sent_by_ended c n ts ended ++ l) (sent_stay c (packets_through ended) last le)

  pub replies_stay : (rule : MessageReading → List Step → Reply) (ended : List Stretch) → packets_through ended ≤ length ts → replies_by_ended rule (n + m) (ts ++ us) ended ≡ replies_by_ended rule n ts ended
  replies_stay rule [] le = refl
  replies_stay rule (s ∷ earlier) le =
      let first = packets_through earlier in
      let before = replies_stay rule earlier (omega (arith, le)) in
      ap (λ l. l ++ replies_by rule (steps_on_air (n + m) (ts ++ us) first s.packets)) before ∙ ap (λ w. replies_by_ended rule n ts earlier ++ replies_by rule w) (steps_stay first s.packets le)

  told_stay : {R : Type 0} (rule : List Step → R) (ended : List Stretch) → packets_through ended ≤ length ts → told_by_ended rule (n + m) (ts ++ us) ended ≡ told_by_ended rule n ts ended
  told_stay rule [] le = refl
  told_stay rule (s ∷ earlier) le =
      let first = packets_through earlier in
      let before = told_stay rule earlier (omega (arith, le)) in
      ap (λ l. rule (steps_on_air (n + m) (ts ++ us) first s.packets) ∷ l) before ∙ ap (λ w. rule w ∷ told_by_ended rule n ts earlier) (steps_stay first s.packets le)

-- no take stands before the next packet
none_ahead : (n : ℕ) (ts : List Take) (first : ℕ) (past : List Aired) → length ts ≤ first + length past → steps_ahead n ts first past ≡ steps_on_air n ts first past
none_ahead n ts first past le = ap (λ l. asked l (steps_on_air n ts first past)) (judged_none n ts (first + length past) le)

-- ---- the messages before a packet

pub record HasHeardOnAir {J M : Type 0} (stands : J → List Step → Type 0) (rule : MessageReading → List Step → Reply) (judge : J) (talk : Talk M)
    (is_out : ℕ → List Take → Type 0) (exchanged : Option SessionEnd → List Take → List Reply → Type 0) (ended : List Stretch) (last : List Aired) : Type 0 where
  pub ts : List Take
  pub rs : List Reply
  pub gone : stands judge (steps_ahead (length rs) ts (packets_through ended) last)
  pub talks : TalkStandsFor talk ts (length rs) (suc (packets_through ended + length last))
  pub exchanges : exchanged talk.end ts rs
  pub replies : rs ≡ replies_by_ended rule (length rs) ts ended ++ replies_by rule (steps_ahead (length rs) ts (packets_through ended) last)
  pub out : is_out (length rs) ts

-- what is out does not change when takes come behind those of so many packets
abbrev pub Stays : (ℕ → List Take → Type 0) → ℕ → Type 0
Stays is_out k = (ts us : List Take) (n m : ℕ) → n ≡ length (messages_taken ts) → k ≤ length ts → is_out n ts → is_out (n + m) (ts ++ us)

module _ {X : Type 0} (exchanges : X → List Exchange → X → Type 0) (exchanges_refl : (s : X) → exchanges s [] s)
    (exchanges_trans : (s t u : X) (xs ys : List Exchange) → exchanges s xs t → exchanges t ys u → exchanges s (xs ++ ys) u)
    (failures : X → ℕ) {J : Type 0} (judges : J → MessageReading → Reply → J → Type 0) (stands : J → List Step → Type 0) (rule : MessageReading → List Step → Reply) (one : GoesOn judges stands rule)
    (is_out : ℕ → List Take → Type 0) (ended : List Stretch) (last : List Aired) (quiet : Stays is_out (packets_through ended + length last)) (x : X) where
  abbrev count : ℕ
  count = packets_through ended + length last

  heard_closed : {M : Type 0} (y : X) (judge : J) (talk : Talk M) → is_some talk.end ≡ true → HasAired stands rule judge talk is_out (Exchanged exchanges failures x y) ended last
      → HasHeardOnAir stands rule judge talk is_out (Exchanged exchanges failures x y) ended last
  heard_closed y judge talk is h =
      let goes = goes_closed talk.end (state_of talk.session) h.ts (length h.rs) count is h.talks.talked in
      let le = few_takes talk.end h.ts (length h.rs) count h.talks.talked in
      let same = none_ahead (length h.rs) h.ts (packets_through ended) last le in record {
        ts = h.ts;
        rs = h.rs;
        gone = subst (stands judge) (sym same) h.gone;
        talks = record { talked = goes.talked; pending = h.talks.pending; bytes = h.talks.bytes };
        exchanges = h.exchanges;
        replies = h.replies ∙ ap (λ w. replies_by_ended rule (length h.rs) h.ts ended ++ replies_by rule w) (sym same);
        out = h.out;
      }

  module _ {M : Type 0} (y z : X) (judge judge' : J) (talk talk' : Talk M) (h : HasAired stands rule judge talk is_out (Exchanged exchanges failures x y) ended last) where
    abbrev pub Listens : Type 0
    Listens = (ts : List Take) (n k : ℕ) → TalkStandsFor talk ts n k →
        (more : List Take) × (rs : List Reply) × TalkStandsFor talk' (ts ++ more) (n + length rs) (suc k)
        × Replied judges judge judge' (judged_before (n + length rs) (ts ++ more) k) rs (loses talk.end talk'.end)
        (λ xs. exchanges y (takes_and_answers more xs) z)

    heard_open : talk.end ≡ None → Listens → CountsEnd talk.end talk'.end (failures y) (failures z) → HasHeardOnAir stands rule judge' talk' is_out (Exchanged exchanges failures x z) ended last
    heard_open e listens counts =
        let first = packets_through ended in
        let (more, rs, talks, replied) = listens h.ts (length h.rs) count h.talks in
        let n = length h.rs in
        let m = length rs in
        let is_open = subst (λ (end : Option SessionEnd). HasTalked end h.ts n count) e h.talks.talked in
        let sum : length (h.rs ++ rs) ≡ n + m = length-append h.rs rs in
        let parts = length-append h.ts more in
        let few = few_takes talk'.end (h.ts ++ more) (n + m) (suc count) talks.talked in
        let most = few_replies talk'.end (h.ts ++ more) (n + m) (suc count) talks.talked in
        let all : count ≤ length h.ts = omega (arith, is_open.0) in
        let stay = steps_stay h.ts more n m is_open.2 first last all in
        let before = replies_stay h.ts more n m is_open.2 rule ended (omega (arith, all)) in
        let ms = judged_before (n + m) (h.ts ++ more) count in
        let done = asked_judged judges stands rule one ms rs judge judge' (steps_on_air n h.ts first last) replied.judged h.gone in
        let steps : steps_ahead (length (h.rs ++ rs)) (h.ts ++ more) first last ≡ asked ms (steps_on_air n h.ts first last) =
        ap (λ q. steps_ahead q (h.ts ++ more) first last) sum ∙ ap (asked ms) stay in
        let earlier : replies_by_ended rule (length (h.rs ++ rs)) (h.ts ++ more) ended ≡ replies_by_ended rule n h.ts ended =
        ap (λ q. replies_by_ended rule q (h.ts ++ more) ended) sum ∙ before in record {
          ts = h.ts ++ more;
          rs = h.rs ++ rs;
          gone = subst (stands judge') (sym steps) done.0;
          talks = subst (λ q. TalkStandsFor talk' (h.ts ++ more) q (suc count)) (sym sum) talks;
          exchanges = exchanged_more exchanges exchanges_refl exchanges_trans failures x y z talk.end talk'.end h.ts more h.rs rs e h.exchanges is_open.2 (omega (arith, parts, few, is_open.0)) most replied.told replied.some counts;
          replies = ap (λ l. l ++ rs) h.replies
              ∙ append_assoc (replies_by_ended rule n h.ts ended) (replies_by rule (steps_on_air n h.ts first last)) rs
              ∙ ap (λ l. replies_by_ended rule n h.ts ended ++ l) (sym done.1)
              ∙ ap (λ l. l ++ replies_by rule (asked ms (steps_on_air n h.ts first last))) (sym earlier)
              ∙ ap (λ w. replies_by_ended rule (length (h.rs ++ rs)) (h.ts ++ more) ended ++ replies_by rule w) (sym steps);
          out = subst (λ q. is_out q (h.ts ++ more)) (sym sum) (quiet h.ts more n m is_open.2 all h.out);
        }

    pub heard_on_air : Listens → (is_some talk.end ≡ true → (talk' ≡ talk) × (judge' ≡ judge) × (z ≡ y)) → CountsEnd talk.end talk'.end (failures y) (failures z)
        → HasHeardOnAir stands rule judge' talk' is_out (Exchanged exchanges failures x z) ended last
    heard_on_air listens closed counts = by (is_some talk.end) refl
      where
        by : (b : Bool) → is_some talk.end ≡ b → HasHeardOnAir stands rule judge' talk' is_out (Exchanged exchanges failures x z) ended last
        by false e = heard_open (open_end talk.end e) listens counts
        by true e =
            let (t, i, a) = closed e in
            subst (λ w. HasHeardOnAir stands rule judge' talk' is_out (Exchanged exchanges failures x w) ended last) (sym a)
            (subst (λ w. HasHeardOnAir stands rule judge' w is_out (Exchanged exchanges failures x y) ended last) (sym t)
            (subst (λ w. HasHeardOnAir stands rule w talk is_out (Exchanged exchanges failures x y) ended last) (sym i) (heard_closed y judge talk e h)))

-- ---- one packet more

module _ {J M : Type 0} (stands : J → List Step → Type 0) (rule : MessageReading → List Step → Reply) (exchanged : Option SessionEnd → List Take → List Reply → Type 0) (ended : List Stretch) (last : List Aired) where
  pub passed_on_air : (judge judge' : J) (talk : Talk M) (is_out is_out' : ℕ → List Take → Type 0) (a : Aired) → (h : HasHeardOnAir stands rule judge talk is_out exchanged ended last)
      → (stands judge (steps_ahead (length h.rs) h.ts (packets_through ended) last) → stands judge' (Packet (read_of a) ∷ steps_ahead (length h.rs) h.ts (packets_through ended) last))
      → is_out' (length h.rs) h.ts → HasAired stands rule judge' talk is_out' exchanged ended (a ∷ last)
  passed_on_air judge judge' talk is_out is_out' a h goes out =
      let long : suc (packets_through ended + length last) ≡ packets_through ended + length (a ∷ last) = omega arith in record {
        ts = h.ts;
        rs = h.rs;
        gone = goes h.gone;
        talks = subst (λ k. TalkStandsFor talk h.ts (length h.rs) k) long h.talks;
        exchanges = h.exchanges;
        replies = h.replies;
        out = out;
      }

  -- a stretch begins anew, and its judge
  pub begun_on_air : (judge judge' : J) (talk : Talk M) (is_out is_out' : ℕ → List Take → Type 0) (behind : List (List ℕ)) → (h : HasAired stands rule judge talk is_out exchanged ended last)
      → stands judge' [] → (is_out (length h.rs) h.ts → is_out' (length h.rs) h.ts)
      → HasAired stands rule judge' talk is_out' exchanged (record { packets = last; behind = behind } ∷ ended) []
  begun_on_air judge judge' talk is_out is_out' behind h begins out =
      let long : packets_through ended + length last ≡ (packets_through ended + length last) + 0 = omega arith in record {
        ts = h.ts;
        rs = h.rs;
        gone = begins;
        talks = subst (λ k. TalkStandsFor talk h.ts (length h.rs) k) long h.talks;
        exchanges = h.exchanges;
        replies = h.replies ∙ sym (append-nil (replies_by_all rule (length h.rs) h.ts ended last));
        out = out h.out;
      }

-- what is out, with what goes out for a packet more
pub sent-more : (c : Config) (n : ℕ) (ts : List Take) (ended : List Stretch) (a : Aired) (last : List Aired) → sent_by_all c n ts ended (a ∷ last)
    ≡ sent_by_all c n ts ended last ++ put_for a (sent_at c (read_of a) (steps_ahead n ts (packets_through ended) last))
sent-more c n ts ended a last =
    sym (append_assoc (sent_by_ended c n ts ended) (sent_on_air c n ts (packets_through ended) last) (put_for a (sent_at c (read_of a) (steps_ahead n ts (packets_through ended) last))))

-- and behind a stretch that ends
pub sent-anew : (c : Config) (n : ℕ) (ts : List Take) (ended : List Stretch) (last : List Aired) (behind : List (List ℕ))
    → sent_by_all c n ts (record { packets = last; behind = behind } ∷ ended) [] ≡ sent_by_all c n ts ended last ++ behind
sent-anew c n ts ended last behind =
    append-nil (sent_by_ended c n ts ended ++ (sent_on_air c n ts (packets_through ended) last ++ behind))
    ∙ sym (append_assoc (sent_by_ended c n ts ended) (sent_on_air c n ts (packets_through ended) last) behind)

-- ---- an injector

module _ (c : Config) (ended : List Stretch) (last : List Aired) (told : List Report) (qs : List (List ℕ)) where
  pub injected-stays : Stays (InjectedSoFar c ended last told qs) (packets_through ended + length last)
  injected-stays ts us n m e le (out, counted) =
      (all_sent_stay ts us n m e c ended last le ∙ out, counted ∙ sym (told_stay ts us n m e (report_of c) ended (omega (arith, le))))

  -- with what goes out for a packet more
  pub injected-more : (a : Aired) (n : ℕ) (ts : List Take) → InjectedSoFar c ended last told qs n ts
      → InjectedSoFar c ended (a ∷ last) told (qs ++ put_for a (sent_at c (read_of a) (steps_ahead n ts (packets_through ended) last))) n ts
  injected-more a n ts (out, counted) =
      (sent-more c n ts ended a last ∙ ap (λ l. l ++ put_for a (sent_at c (read_of a) (steps_ahead n ts (packets_through ended) last))) out, counted)

  -- and behind a stretch that ends, of which this was counted
  pub injected-anew : (behind : List (List ℕ)) (report : Report) (n : ℕ) (ts : List Take) → report ≡ report_of_last c n ts ended last → InjectedSoFar c ended last told qs n ts
      → InjectedSoFar c (record { packets = last; behind = behind } ∷ ended) [] (report ∷ told) (qs ++ behind) n ts
  injected-anew behind report n ts is (out, counted) =
      (sent-anew c n ts ended last behind ∙ ap (λ l. l ++ behind) out, ap (λ l. report ∷ l) counted ∙ ap (λ r. r ∷ reports_of_ended c n ts ended) is)
