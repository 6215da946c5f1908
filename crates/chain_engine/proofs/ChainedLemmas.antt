-- A chain on air: what its switch reads is the cued stream; a packet that changes nothing; one packet more, and a stretch that begins anew.
use Rattle.std.proofs.Common.{◌≡◌, ℕ, suc, ◌+◌, ◌≤◌, ◌<◌, Bool, true, false, List, [], ◌∷◌, ◌++◌, map, length, Option, None, Some, if◌then◌else◌, refl, sym, ap, subst, ◌∙◌, arith, append_assoc}
use Rattle.std.specs.List.{AllByRecursion}
use Rattle.std.proofs.lemmas.List.{append-nil}
use Rattle.std.proofs.lemmas.Bool.{true≢false}
use Rattle.ts_packet.specs.Fields.{in_error, on_one, pid_of, marked}
use Rattle.ts_packet.specs.Numbering.{one_past}
use Rattle.ts_packet.specs.Runs.{onto}
use Rattle.ts_packet.proofs.Cases.{by_test}
use Rattle.ts_packet.proofs.FieldLemmas.{payload_on-on, error-off}
use Rattle.wire_fields.specs.Numbers.{AreBytes}
use Rattle.psi_section.proofs.GivenLemmas.{each-append}
use Rattle.psi_section.proofs.ReadBackLemmas.{IsPayloadOn, turn_carry}
use Rattle.psi_tables.specs.declared.config.Config.{Config}
use Rattle.program_follower.specs.declared.purpose.Listed.{Listed}
use Rattle.program_follower.specs.Program.{listed}
use Rattle.program_follower.specs.Purposes.{writing_cues}
use Rattle.program_follower.specs.Following.{IsUnfollowed}
use Rattle.program_follower.proofs.UnfollowedLemmas.{clean-past, unfollowed-alike}
use Rattle.scte104_codec.specs.Reading.{MessageReading}
use Rattle.scte104_codec.specs.declared.reply.Reply.{Reply}
use Rattle.injector.specs.Steps.{Step, Message, Packet, packets_in, turns_in, has_news, cued, sections_before, cue_packets, body_at, sent_at}
use Rattle.injector.proofs.CuedLemmas.{cued-reads-again}
use Rattle.injector.proofs.PassedLemmas.{unfollowed-sent, injector-past}
use Rattle.ad_library.specs.Advertisements.{Advertisement}
use Rattle.splice_plans.specs.Adverts.{setting_of}
use Rattle.splice_plans.specs.Switching.{Setting, switched_at}
use Rattle.splice_plans.specs.Stepping.{Journey, steps_kept, journey_next, journey_beside}
use Rattle.splice_switch.specs.declared.switch.Switch.{Switch}
use Rattle.splice_switch.specs.Standing.{SwitchStandsAt}
use Rattle.splice_switch.proofs.BesideLemmas.{marked-error, marked-off}
use Rattle.splice_switch.proofs.UnfollowedLemmas.{next-alone, next-stands}
use Rattle.chain_engine.specs.Automation.{Take}
use Rattle.chain_engine.specs.Judging.{ServiceJudges}
use Rattle.chain_engine.specs.Talks.{messages_taken, judged_before, TalkStandsFor}
use Rattle.chain_engine.specs.Runs.{reply_in}
use Rattle.chain_engine.specs.ChainRuns.{MessagesAre}
use Rattle.chain_engine.specs.Airing.{Aired, judged, unjudged, read_of, Stretch, packets_through, steps_on_air, steps_ahead, replies_by_all, HasAired}
use Rattle.chain_engine.specs.Injected.{asked-cued}
use Rattle.chain_engine.specs.Switched.{journey_with, journey_of, switched_for, switched_on_air, aired_onto, aired_over, ReportsOf}
use Rattle.chain_engine.specs.Chained.{fed_as, fed_for, fed_on_air, chained_by_ended, CountsStretch, EachCounts, ServiceAirs, PassedOnAir, ServesOnAir, ChainedSoFar}
use Rattle.chain_engine.specs.declared.service.Service.{Service}
use Rattle.chain_engine.specs.declared.report.Report.{Report}
use Rattle.chain_engine.specs.declared.hearing.SessionEnd.{SessionEnd}
use Rattle.chain_engine.specs.declared.talk.Talk.{Talk}
use Rattle.chain_engine.proofs.PassingLemmas.{one_more, injects-one}
use Rattle.chain_engine.proofs.AiringLemmas.{steps_stay, ahead_stay, Stays, HasHeardOnAir}

-- ---- what the switch reads is the cued stream

beside-read : (k : Setting) (x : Journey) (p : List ℕ) → (journey_beside k x p).read ≡ marked p ∷ x.read
beside-read k x p = by (on_one (switched_at k x.read) p) refl
  where
    by : (b : Bool) → on_one (switched_at k x.read) p ≡ b → (journey_beside k x p).read ≡ marked p ∷ x.read
    by true e = ap (λ b. (if b then (let y : Journey = record { read = marked p ∷ x.read; counted = steps_kept p x.counted; put = x.put } in y) else journey_next k x (marked p)).read) e
    by false e = ap (λ b. (if b then (let y : Journey = record { read = marked p ∷ x.read; counted = steps_kept p x.counted; put = x.put } in y) else journey_next k x (marked p)).read) e

read-by : (k : Setting) (x : Journey) (p : List ℕ) (b : Bool) → (let a : Aired = record { packet = p; is_judged = b } in (journey_with k x a).read ≡ read_of a ∷ x.read)
read-by k x p true = refl
read-by k x p false = beside-read k x p

read-more : (k : Setting) (a : Aired) (fed : List Aired) (sent : List (List ℕ)) → AllByRecursion (λ q. read_of (fed_as a q) ≡ q) sent
    → (journey_of k (aired_onto fed (map (fed_as a) sent))).read ≡ onto (journey_of k fed).read sent
read-more k a fed [] h = refl
read-more k a fed (q ∷ sent) h =
    let b = fed_as a q in
    let x = journey_of k fed in
    read-more k a (b ∷ fed) sent h.1 ∙ ap (λ l. onto l sent) (read-by k x b.packet b.is_judged ∙ ap (λ r. r ∷ x.read) h.0)

reads-judged : (p : List ℕ) (sent : List (List ℕ)) → AllByRecursion (λ q. read_of (fed_as (judged p) q) ≡ q) sent
reads-judged p [] = tt
reads-judged p (q ∷ sent) = (refl, reads-judged p sent)

-- cues are not marked in error
reads-good : (p q : List ℕ) → in_error q ≡ false → read_of (fed_as (unjudged p) q) ≡ q
reads-good p q e = ap (λ b. read_of (if b then unjudged p else judged q)) e

reads-cues : (p : List ℕ) (pid : ℕ) (qs : List (List ℕ)) → AllByRecursion (IsPayloadOn pid) qs → AllByRecursion (λ q. read_of (fed_as (unjudged p) q) ≡ q) qs
reads-cues p pid [] h = tt
reads-cues p pid (q ∷ qs) h = (
  reads-good p q (by_test (in_error q) (λ e. absurd (true≢false (sym (payload_on-on pid q h.0) ∙ error-off pid q e))) (λ n. n)),
  reads-cues p pid qs h.1,
)

upcoming-below : (o : Option ℕ) → one_past o < 16
upcoming-below None = omega arith
upcoming-below (Some n) = omega arith

-- and the packet goes on alone
marked-body : (c : Config) (p : List ℕ) (past out : List (List ℕ)) → body_at c (marked p) past out ≡ marked p ∷ []
marked-body c p past out = by (listed (Some c.program) past) refl
  where
    by : (o : Option Listed) → listed (Some c.program) past ≡ o → body_at c (marked p) past out ≡ marked p ∷ []
    by None e = rw e refl
    by (Some l) e = rw (e, marked-off l.pid p) refl

reads-unjudged : (c : Config) (p : List ℕ) (steps : List Step) → AllByRecursion (λ q. read_of (fed_as (unjudged p) q) ≡ q) (sent_at c (marked p) steps)
reads-unjudged c p steps =
    let out = cued c steps in
    let cues = cue_packets c (marked p) steps out in
    let below : c.cue_pid < 8192 = omega (arith, c.below_null) in
    let one : read_of (fed_as (unjudged p) (marked p)) ≡ marked p = ap (λ b. read_of (if b then unjudged p else judged (marked p))) (marked-error p) in
    each-append (λ q. read_of (fed_as (unjudged p) q) ≡ q) cues (body_at c (marked p) (packets_in steps) (onto out cues))
    (reads-cues p c.cue_pid cues (turn_carry c.cue_pid _ (sections_before c (marked p) steps) below (upcoming-below _)))
    (subst (AllByRecursion (λ q. read_of (fed_as (unjudged p) q) ≡ q)) (sym (marked-body c p (packets_in steps) (onto out cues))) (one, tt))

reads-by : (c : Config) (p : List ℕ) (b : Bool) (steps : List Step) → (let a : Aired = record { packet = p; is_judged = b } in AllByRecursion (λ q. read_of (fed_as a q) ≡ q) (sent_at c (read_of a) steps))
reads-by c p true steps = reads-judged p (sent_at c p steps)
reads-by c p false steps = reads-unjudged c p steps

-- with a packet more
pub read-next : (c : Config) (k : Setting) (a : Aired) (steps : List Step) (fed : List Aired) → (journey_of k fed).read ≡ cued c steps
    → (journey_of k (aired_onto fed (fed_for c a steps))).read ≡ cued c (Packet (read_of a) ∷ steps)
read-next c k a steps fed e = read-more k a fed (sent_at c (read_of a) steps) (reads-by c a.packet a.is_judged steps) ∙ ap (λ l. onto l (sent_at c (read_of a) steps)) e

-- and all packets of a stretch
pub read-all : (c : Config) (k : Setting) (n : ℕ) (ts : List Take) (first : ℕ) (past : List Aired) → (journey_of k (fed_on_air c n ts first past)).read ≡ cued c (steps_on_air n ts first past)
read-all c k n ts first [] = refl
read-all c k n ts first (a ∷ past) =
    read-next c k a (steps_ahead n ts first past) (fed_on_air c n ts first past)
    (read-all c k n ts first past ∙ sym (asked-cued c (judged_before n ts (first + length past)) (steps_on_air n ts first past)))

pub read-ahead : (c : Config) (k : Setting) (n : ℕ) (ts : List Take) (first : ℕ) (past : List Aired) → (journey_of k (fed_on_air c n ts first past)).read ≡ cued c (steps_ahead n ts first past)
read-ahead c k n ts first past = read-all c k n ts first past ∙ sym (asked-cued c (judged_before n ts (first + length past)) (steps_on_air n ts first past))

-- ---- a packet that changes nothing

pub passes-on-air : (s : Service) (c : Config) (filed : ℕ → Option Advertisement) (p : List ℕ) (steps : List Step) (fed : List Aired) → ServiceAirs s c filed steps fed → AreBytes p
    → has_news c.index (turns_in c.program steps) ≡ false → IsUnfollowed (Some c.program) (Some c.cue_pid) (pid_of p) (packets_in steps)
    → PassedOnAir s c filed (judged p) steps fed (λ qs. qs ≡ p ∷ [])
passes-on-air s c filed p steps fed h bytes quiet u =
    let net = packets_in steps in
    let k = setting_of c filed in
    let x = journey_of k fed in
    let read = cued-reads-again c steps h.network.sound h.network.bytes in
    let v = subst (λ l. IsUnfollowed (Some c.program) (Some c.cue_pid) (pid_of p) l) (sym h.read) (unfollowed-alike (Some c.program) (Some c.cue_pid) (pid_of p) (cued c steps) net read.same_pat read.program u) in
    let sent = unfollowed-sent s.injector c p steps h.injector quiet u in
    record {
      airs = record {
        injector = injector-past s.injector c p steps h.injector quiet u;
        switch = subst (λ qs. SwitchStandsAt s.switch c filed (journey_of k (aired_onto fed (map judged qs)))) (sym sent) (next-stands c filed p x v s.switch h.switch);
        read = read-next c k (judged p) steps fed h.read;
        network = one_more c p net h.network bytes (clean-past (writing_cues c) p net u s.injector.follower h.injector.follower);
        config = h.config;
      };
      out = ap (λ qs. aired_over k fed (map judged qs)) sent ∙ ap (λ l. l ++ []) (next-alone c filed p x v);
    }

-- ---- a message more

pub serves-on-air-one : (c : Config) (switch : Switch) (i : Service) (m : MessageReading) (r : Reply) (j : Service) (past : List Step) → ServiceJudges i m r j → ServesOnAir c switch i past
    → (r ≡ reply_in c m past) × ServesOnAir c switch j (Message m ∷ past)
serves-on-air-one c switch i m r j past h s =
    let (says, injector) = injects-one c i m r j past h s.injector in (
      says,
      record { injector = injector; switch_is = h.switch ∙ s.switch_is; network = s.network; config = h.config ∙ s.config },
    )

-- ---- what goes out for packets in a row

on-air-over : (k : Setting) (fed more : List Aired) → switched_on_air k (aired_onto fed more) ≡ switched_on_air k fed ++ aired_over k fed more
on-air-over k fed [] = sym (append-nil (switched_on_air k fed))
on-air-over k fed (a ∷ more) = on-air-over k (a ∷ fed) more ∙ append_assoc (switched_on_air k fed) (switched_for k (journey_of k fed) a) (aired_over k (a ∷ fed) more)

-- ---- what is said of the packets so far stays as it is when takes come behind theirs

module _ (ts us : List Take) (n m : ℕ) (e : n ≡ length (messages_taken ts)) (c : Config) (filed : ℕ → Option Advertisement) where
  fed_stay : (first : ℕ) (past : List Aired) → first + length past ≤ length ts → fed_on_air c (n + m) (ts ++ us) first past ≡ fed_on_air c n ts first past
  fed_stay first [] le = refl
  fed_stay first (a ∷ past) le =
      let ahead = ahead_stay ts us n m e first past (omega (arith, le)) in
      let before = fed_stay first past (omega (arith, le)) in
      ap (λ l. aired_onto l (fed_for c a (steps_ahead (n + m) (ts ++ us) first past))) before ∙ ap (λ s. aired_onto (fed_on_air c n ts first past) (fed_for c a s)) ahead

  ended_stay : (ended : List Stretch) → packets_through ended ≤ length ts → chained_by_ended c filed (n + m) (ts ++ us) ended ≡ chained_by_ended c filed n ts ended
  ended_stay [] le = refl
  ended_stay (s ∷ earlier) le =
      let first = packets_through earlier in
      let k = setting_of c filed in
      let before = ended_stay earlier (omega (arith, le)) in
      let one = fed_stay first s.packets le in
      ap (λ l. l ++ (switched_on_air k (fed_on_air c (n + m) (ts ++ us) first s.packets) ++ s.behind)) before ∙ ap (λ l. chained_by_ended c filed n ts earlier ++ (switched_on_air k l ++ s.behind)) one

  count_stays : (report : Report) (first : ℕ) (past : List Aired) → first + length past ≤ length ts → CountsStretch report c filed n ts first past → CountsStretch report c filed (n + m) (ts ++ us) first past
  count_stays report first past le h = record {
    messages = subst (MessagesAre report c) (sym (steps_stay ts us n m e first past le)) h.messages;
    events = subst (λ l. ReportsOf (setting_of c filed) l report.switch) (sym (fed_stay first past le)) h.events;
  }

  counts_stay : (ended : List Stretch) (told : List Report) → packets_through ended ≤ length ts → EachCounts c filed n ts ended told → EachCounts c filed (n + m) (ts ++ us) ended told
  counts_stay [] [] le h = h
  counts_stay [] (report ∷ told) le h = h
  counts_stay (s ∷ earlier) [] le h = h
  counts_stay (s ∷ earlier) (report ∷ told) le h = (count_stays report (packets_through earlier) s.packets le h.0, counts_stay earlier told (omega (arith, le)) h.1)

-- ---- a chain

module _ (c : Config) (filed : ℕ → Option Advertisement) (ended : List Stretch) (last : List Aired) (told : List Report) (qs : List (List ℕ)) where
  pub chained-stays : (switch : Switch) → Stays (ChainedSoFar c filed switch ended last told qs) (packets_through ended + length last)
  chained-stays switch ts us n m e le h =
      let fed = fed_stay ts us n m e c filed (packets_through ended) last le in
      let before = ended_stay ts us n m e c filed ended (omega (arith, le)) in
      let k = setting_of c filed in
      record {
        stands = subst (λ l. SwitchStandsAt switch c filed (journey_of k l)) (sym fed) h.stands;
        sent = ap (λ l. l ++ switched_on_air k (fed_on_air c (n + m) (ts ++ us) (packets_through ended) last)) before ∙ ap (λ l. chained_by_ended c filed n ts ended ++ switched_on_air k l) fed ∙ h.sent;
        told_so = counts_stay ts us n m e c filed ended told (omega (arith, le)) h.told_so;
      }

  module _ {M : Type 0} (exchanged : Option SessionEnd → List Take → List Reply → Type 0) (old : Switch) (heard : Service) (talk : Talk M)
      (h : HasHeardOnAir (ServesOnAir c old) (reply_in c) heard talk (ChainedSoFar c filed old ended last told qs) exchanged ended last) where
    abbrev pub fed_now : List Aired
    fed_now = fed_on_air c (length h.rs) h.ts (packets_through ended) last

    abbrev pub steps_now : List Step
    steps_now = steps_ahead (length h.rs) h.ts (packets_through ended) last

    -- before a packet, once the automation was heard
    pub service-airs : ServiceAirs heard c filed steps_now fed_now
    service-airs = record {
      injector = h.gone.injector;
      switch = subst (λ w. SwitchStandsAt w c filed (journey_of (setting_of c filed) fed_now)) (sym h.gone.switch_is) h.out.stands;
      read = read-ahead c (setting_of c filed) (length h.rs) h.ts (packets_through ended) last;
      network = h.gone.network;
      config = h.gone.config;
    }

    -- and behind it
    pub chain-passes : (a : Aired) (service : Service) (is_out : List (List ℕ) → Type 0) → PassedOnAir service c filed a steps_now fed_now is_out
        → HasAired (ServesOnAir c service.switch) (reply_in c) service talk (ChainedSoFar c filed service.switch ended (a ∷ last) told (qs ++ aired_over (setting_of c filed) fed_now (fed_for c a steps_now))) exchanged ended (a ∷ last)
    chain-passes a service is_out by =
        let k = setting_of c filed in
        let more = aired_over k fed_now (fed_for c a steps_now) in
        let before = chained_by_ended c filed (length h.rs) h.ts ended in
        let long : suc (packets_through ended + length last) ≡ packets_through ended + length (a ∷ last) = omega arith in
        record {
          ts = h.ts;
          rs = h.rs;
          gone = record { injector = by.airs.injector; switch_is = refl; network = by.airs.network; config = by.airs.config };
          talks = subst (λ n. TalkStandsFor talk h.ts (length h.rs) n) long h.talks;
          exchanges = h.exchanges;
          replies = h.replies;
          out = record {
            stands = by.airs.switch;
            sent = ap (λ l. before ++ l) (on-air-over k fed_now (fed_for c a steps_now)) ∙ sym (append_assoc before (switched_on_air k fed_now) more) ∙ ap (λ l. l ++ more) h.out.sent;
            told_so = h.out.told_so;
          };
        }

  -- a stretch begins anew
  pub chain-begins : {M : Type 0} (exchanged : Option SessionEnd → List Take → List Reply → Type 0) (old : Switch) (gone new : Service) (talk : Talk M) (behind : List (List ℕ)) (report : Report)
      → (h : HasAired (ServesOnAir c old) (reply_in c) gone talk (ChainedSoFar c filed old ended last told qs) exchanged ended last)
      → CountsStretch report c filed (length h.rs) h.ts (packets_through ended) last → ServesOnAir c new.switch new [] → SwitchStandsAt new.switch c filed (journey_of (setting_of c filed) [])
      → HasAired (ServesOnAir c new.switch) (reply_in c) new talk (ChainedSoFar c filed new.switch (record { packets = last; behind = behind } ∷ ended) [] (report ∷ told) (qs ++ behind)) exchanged
      (record { packets = last; behind = behind } ∷ ended) []
  chain-begins exchanged old gone new talk behind report h counted serves stands =
      let k = setting_of c filed in
      let before = chained_by_ended c filed (length h.rs) h.ts ended in
      let one = switched_on_air k (fed_on_air c (length h.rs) h.ts (packets_through ended) last) in
      let long : packets_through ended + length last ≡ (packets_through ended + length last) + 0 = omega arith in
      record {
        ts = h.ts;
        rs = h.rs;
        gone = serves;
        talks = subst (λ n. TalkStandsFor talk h.ts (length h.rs) n) long h.talks;
        exchanges = h.exchanges;
        replies = h.replies ∙ sym (append-nil (replies_by_all (reply_in c) (length h.rs) h.ts ended last));
        out = record {
          stands = stands;
          sent = append-nil (before ++ (one ++ behind)) ∙ sym (append_assoc before one behind) ∙ ap (λ l. l ++ behind) h.out.sent;
          told_so = (counted, h.out.told_so);
        };
      }
