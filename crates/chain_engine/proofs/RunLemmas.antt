-- A whole run with an automation, from its first packet to its end or its fault.
use Rattle.std.proofs.Common.{◌≡◌, ℕ, suc, ◌+◌, ◌≤◌, ◌<◌, Bool, true, false, List, [], ◌∷◌, ◌++◌, length, reverse, Option, None, Some, refl, sym, ap, subst, ◌∙◌, arith, length-append}
use Rattle.std.specs.Option.{is_some}
use Rattle.std.proofs.lemmas.List.{reverse-append, length-reverse}
use Rattle.scte104_codec.specs.Reading.{MessageReading}
use Rattle.scte104_codec.specs.declared.reply.Reply.{Reply}
use Rattle.as_session.specs.Session.{state_of}
use Rattle.injector.specs.Steps.{Step, Message, Packet, packets_in}
use Rattle.chain_engine.specs.Automation.{Take, piece, ended, failed, Exchange, takes_and_answers}
use Rattle.chain_engine.specs.Hearing.{answers_to, lost_by, Replied}
use Rattle.chain_engine.specs.Judging.{JudgesAll}
use Rattle.chain_engine.specs.Talks.{messages_taken, judged_before, exchanges_of, HasTalked, TalkStandsFor, loses, CountsEnd}
use Rattle.chain_engine.specs.Runs.{asked, steps_of, steps_before, replies_by, Exchanged, ServedBefore}
use Rattle.chain_engine.specs.Stages.{HasRun}
use Rattle.chain_engine.specs.declared.hearing.SessionEnd.{SessionEnd}
use Rattle.chain_engine.specs.declared.hearing.SessionEnd.TheVariants.{Ended, TakeFailed, BadSize, AnswerFailed}
use Rattle.chain_engine.specs.declared.talk.Talk.{Talk}
use Rattle.chain_engine.proofs.HearingLemmas.{answers_more}
use Rattle.chain_engine.proofs.TalkLemmas.{goes_closed, open_end}
use Rattle.chain_engine.proofs.ExchangeLemmas.{answers_long, taken_front, exchanges_more}
use Rattle.chain_engine.proofs.StepsLemmas.{GoesOn, steps_stay, none_asked, before_packets, asked_stays, asked_judged}

-- ---- what is known between two packets, and behind the messages before a packet

pub record HasHeard {J M : Type 0} (stands : J → List Step → Type 0) (rule : MessageReading → List Step → Reply) (judge : J) (talk : Talk M) (is_out : List Step → Type 0)
    (exchanged : Option SessionEnd → List Take → List Reply → Type 0) (ps : List (List ℕ)) : Type 0 where
  pub ts : List Take
  pub rs : List Reply
  pub gone : stands judge (steps_before (length rs) ts (reverse ps))
  pub talks : TalkStandsFor talk ts (length rs) (suc (length ps))
  pub exchanges : exchanged talk.end ts rs
  pub replies : rs ≡ replies_by rule (steps_before (length rs) ts (reverse ps))
  pub out : is_out (steps_before (length rs) ts (reverse ps))

-- at most one take was made for each packet
pub few_takes : (end : Option SessionEnd) (ts : List Take) (n k : ℕ) → HasTalked end ts n k → length ts ≤ k
few_takes None ts n k t = omega (arith, t.0)
few_takes (Some end) ts n k t = t.0

-- and at most one reply for each message
pub few_replies : (end : Option SessionEnd) (ts : List Take) (n k : ℕ) → HasTalked end ts n k → n ≤ length (messages_taken ts)
few_replies None ts n k t = omega (arith, t.2)
few_replies (Some Ended) ts n k (le, (us, e, o, m)) = let front = taken_front us (ended ∷ []) in subst (λ l. n ≤ length (messages_taken l)) (sym e) (omega (arith, m, front))
few_replies (Some TakeFailed) ts n k (le, (us, e, o, m)) = let front = taken_front us (failed ∷ []) in subst (λ l. n ≤ length (messages_taken l)) (sym e) (omega (arith, m, front))
few_replies (Some BadSize) ts n k (le, (us, bs, e, o, m, f)) = omega (arith, m)
few_replies (Some AnswerFailed) ts n k (le, (us, bs, e, o, l, m)) = m

-- ---- the begin

not_empty : {X : Type 0} (xs : List X) (x : X) → [] ≡ xs ++ x ∷ [] → ⊥
not_empty xs x e =
    let long : 0 ≡ length (xs ++ x ∷ []) = ap length e in
    let sum = length-append xs (x ∷ []) in
    omega (arith, long, sum)

begins_open : (end : Option SessionEnd) (n k : ℕ) → HasTalked end [] n k → end ≡ None
begins_open None n k t = refl
begins_open (Some Ended) n k (le, (ts, e, o, m)) = absurd (not_empty ts ended e)
begins_open (Some TakeFailed) n k (le, (ts, e, o, m)) = absurd (not_empty ts failed e)
begins_open (Some BadSize) n k (le, (ts, bs, e, o, m, f)) = absurd (not_empty ts (piece bs) e)
begins_open (Some AnswerFailed) n k (le, (ts, bs, e, o, l, m)) = absurd (not_empty ts (piece bs) e)

module _ {X : Type 0} (exchanges : X → List Exchange → X → Type 0) (exchanges_refl : (s : X) → exchanges s [] s)
    (exchanges_trans : (s t u : X) (xs ys : List Exchange) → exchanges s xs t → exchanges t ys u → exchanges s (xs ++ ys) u)
    (failures : X → ℕ) where
  none_exchanged : (x : X) (end : Option SessionEnd) → end ≡ None → Exchanged exchanges failures x x end [] []
  none_exchanged x None e = record { exchanges = exchanges_refl x; counted = refl }
  none_exchanged x (Some end) e = absurd (cc)

  pub begun : {J M : Type 0} (stands : J → List Step → Type 0) (rule : MessageReading → List Step → Reply) (judge : J) (talk : Talk M) (is_out : List Step → Type 0) (x : X)
      → TalkStandsFor talk [] 0 0 → stands judge [] → is_out [] → HasRun stands rule judge talk is_out (Exchanged exchanges failures x x) []
  begun stands rule judge talk is_out x t s o = record {
    ts = [];
    rs = [];
    gone = s;
    talks = t;
    exchanges = none_exchanged x talk.end (begins_open talk.end 0 0 t.talked);
    replies = refl;
    out = o;
  }

  -- ---- the messages before a packet

  pub exchanged_more : (x y z : X) (end end' : Option SessionEnd) (ts more : List Take) (rs rs' : List Reply) → end ≡ None → Exchanged exchanges failures x y end ts rs
      → length rs ≡ length (messages_taken ts) → length more ≤ 1 → length rs + length rs' ≤ length (messages_taken (ts ++ more))
      → exchanges y (takes_and_answers more (answers_to (loses end end') rs')) z → (loses end end' ≡ true → 0 < length rs')
      → CountsEnd end end' (failures y) (failures z) → Exchanged exchanges failures x z end' (ts ++ more) (rs ++ rs')
  exchanged_more x y z (Some end) end' ts more rs rs' e h all few most told some counts = absurd (cc)
  exchanged_more x y z None end' ts more rs rs' e h all few most told some counts =
      let long = answers_long false rs in
      let long' = answers_long (lost_by end') rs' in
      let behind = exchanges_more ts more (answers_to false rs) (answers_to (lost_by end') rs') (long ∙ all) few (omega (arith, long, long', most)) in record {
        exchanges = subst (λ l. exchanges x (exchanges_of l (reverse (ts ++ more))) z) (sym (answers_more (lost_by end') rs rs' some))
            (subst (λ l. exchanges x l z) (sym behind) (exchanges_trans x y z (exchanges_of (answers_to false rs) (reverse ts)) _ h.exchanges told));
        counted = subst (λ n. CountsEnd None end' n (failures z)) h.counted counts;
      }

  module _ {J : Type 0} (judges : J → MessageReading → Reply → J → Type 0) (stands : J → List Step → Type 0) (rule : MessageReading → List Step → Reply) (one : GoesOn judges stands rule)
      (is_out : List Step → Type 0) (quiet : (m : MessageReading) (past : List Step) → is_out past → is_out (Message m ∷ past)) (ps : List (List ℕ)) (x : X) where
    heard_closed : {M : Type 0} (y : X) (judge : J) (talk : Talk M) → is_some talk.end ≡ true → HasRun stands rule judge talk is_out (Exchanged exchanges failures x y) ps
        → HasHeard stands rule judge talk is_out (Exchanged exchanges failures x y) ps
    heard_closed y judge talk is h =
        let goes = goes_closed talk.end (state_of talk.session) h.ts (length h.rs) (length ps) is h.talks.talked in
        let back = length-reverse ps in
        let le = few_takes talk.end h.ts (length h.rs) (length ps) h.talks.talked in
        let same = none_asked (length h.rs) h.ts (reverse ps) (omega (arith, le, back)) in record {
          ts = h.ts;
          rs = h.rs;
          gone = subst (stands judge) (sym same) h.gone;
          talks = record { talked = goes.talked; pending = h.talks.pending; bytes = h.talks.bytes };
          exchanges = h.exchanges;
          replies = h.replies ∙ ap (replies_by rule) (sym same);
          out = subst is_out (sym same) h.out;
        }

    module _ {M : Type 0} (y z : X) (judge judge' : J) (talk talk' : Talk M) (h : HasRun stands rule judge talk is_out (Exchanged exchanges failures x y) ps) where
      abbrev Listens : Type 0
      Listens = (ts : List Take) (n k : ℕ) → TalkStandsFor talk ts n k →
          (more : List Take) × (rs : List Reply) × TalkStandsFor talk' (ts ++ more) (n + length rs) (suc k)
          × Replied judges judge judge' (judged_before (n + length rs) (ts ++ more) k) rs (loses talk.end talk'.end)
          (λ xs. exchanges y (takes_and_answers more xs) z)

      heard_open : talk.end ≡ None → Listens → CountsEnd talk.end talk'.end (failures y) (failures z) → HasHeard stands rule judge' talk' is_out (Exchanged exchanges failures x z) ps
      heard_open e listens counts =
          let (more, rs, talks, replied) = listens h.ts (length h.rs) (length ps) h.talks in
          let n = length h.rs in
          let m = length rs in
          let is_open = subst (λ (end : Option SessionEnd). HasTalked end h.ts n (length ps)) e h.talks.talked in
          let sum : length (h.rs ++ rs) ≡ n + m = length-append h.rs rs in
          let parts = length-append h.ts more in
          let few = few_takes talk'.end (h.ts ++ more) (n + m) (suc (length ps)) talks.talked in
          let most = few_replies talk'.end (h.ts ++ more) (n + m) (suc (length ps)) talks.talked in
          let back : length (reverse ps) ≡ length ps = length-reverse ps in
          let stay = steps_stay h.ts more n m is_open.2 (reverse ps) (omega (arith, back, is_open.0)) in
          let ms = judged_before (n + m) (h.ts ++ more) (length (reverse ps)) in
          let judged : JudgesAll judges judge ms rs judge' = subst (λ k. JudgesAll judges judge (judged_before (n + m) (h.ts ++ more) k) rs judge') (sym back) replied.judged in
          let done = asked_judged judges stands rule one ms rs judge judge' (steps_of n h.ts (reverse ps)) judged h.gone in
          let steps : steps_before (length (h.rs ++ rs)) (h.ts ++ more) (reverse ps) ≡ asked ms (steps_of n h.ts (reverse ps)) =
          ap (λ q. steps_before q (h.ts ++ more) (reverse ps)) sum ∙ ap (asked ms) stay in record {
            ts = h.ts ++ more;
            rs = h.rs ++ rs;
            gone = subst (stands judge') (sym steps) done.0;
            talks = subst (λ q. TalkStandsFor talk' (h.ts ++ more) q (suc (length ps))) (sym sum) talks;
            exchanges = exchanged_more x y z talk.end talk'.end h.ts more h.rs rs e h.exchanges is_open.2 (omega (arith, parts, few, is_open.0)) most replied.told replied.some counts;
            replies = ap (λ l. l ++ rs) h.replies ∙ sym done.1 ∙ ap (replies_by rule) (sym steps);
            out = subst is_out (sym steps) (asked_stays is_out quiet ms (steps_of n h.ts (reverse ps)) h.out);
          }

      pub heard : Listens → (is_some talk.end ≡ true → (talk' ≡ talk) × (judge' ≡ judge) × (z ≡ y)) → CountsEnd talk.end talk'.end (failures y) (failures z)
          → HasHeard stands rule judge' talk' is_out (Exchanged exchanges failures x z) ps
      heard listens closed counts = by (is_some talk.end) refl
        where
          by : (b : Bool) → is_some talk.end ≡ b → HasHeard stands rule judge' talk' is_out (Exchanged exchanges failures x z) ps
          by false e = heard_open (open_end talk.end e) listens counts
          by true e =
              let (t, i, a) = closed e in
              subst (λ w. HasHeard stands rule judge' talk' is_out (Exchanged exchanges failures x w) ps) (sym a)
              (subst (λ w. HasHeard stands rule judge' w is_out (Exchanged exchanges failures x y) ps) (sym t)
              (subst (λ w. HasHeard stands rule w talk is_out (Exchanged exchanges failures x y) ps) (sym i) (heard_closed y judge talk e h)))

-- ---- what is known of a run at a place

module _ {J M : Type 0} (stands : J → List Step → Type 0) (rule : MessageReading → List Step → Reply) (exchanged : Option SessionEnd → List Take → List Reply → Type 0) (ps : List (List ℕ)) where
  -- a packet is passed on
  pub passed : (judge judge' : J) (talk : Talk M) (is_out is_out' : List Step → Type 0) (p : List ℕ) → HasHeard stands rule judge talk is_out exchanged ps
      → ((steps : List Step) → packets_in steps ≡ reverse ps → stands judge steps → is_out steps → stands judge' (Packet p ∷ steps) × is_out' (Packet p ∷ steps))
      → HasRun stands rule judge' talk is_out' exchanged (ps ++ p ∷ [])
  passed judge judge' talk is_out is_out' p h feeds =
      let steps = steps_before (length h.rs) h.ts (reverse ps) in
      let (goes, out) = feeds steps (before_packets (length h.rs) h.ts (reverse ps)) h.gone h.out in
      let now : steps_of (length h.rs) h.ts (reverse (ps ++ p ∷ [])) ≡ Packet p ∷ steps = ap (steps_of (length h.rs) h.ts) (reverse-append ps (p ∷ [])) in
      let long = length-append ps (p ∷ []) in record {
        ts = h.ts;
        rs = h.rs;
        gone = subst (stands judge') (sym now) goes;
        talks = subst (λ k. TalkStandsFor talk h.ts (length h.rs) k) (omega (arith, long)) h.talks;
        exchanges = h.exchanges;
        replies = h.replies ∙ ap (replies_by rule) (sym now);
        out = subst is_out' (sym now) out;
      }

  -- what is out may be said in other words
  pub run_map : (judge : J) (talk : Talk M) (is_out is_out' : List Step → Type 0) → ((steps : List Step) → is_out steps → is_out' steps) → HasRun stands rule judge talk is_out exchanged ps
      → HasRun stands rule judge talk is_out' exchanged ps
  run_map judge talk is_out is_out' so h = record { ts = h.ts; rs = h.rs; gone = h.gone; talks = h.talks; exchanges = h.exchanges; replies = h.replies; out = so _ h.out }

  -- before a packet that is not passed on
  pub heard_served : (judge : J) (talk : Talk M) (is_out : List Step → Type 0) (leaves : List Step → Type 0) → (h : HasHeard stands rule judge talk is_out exchanged ps)
      → leaves (steps_before (length h.rs) h.ts (reverse ps)) → ServedBefore rule exchanged (suc (length ps)) leaves ps
  heard_served judge talk is_out leaves h o = record {
    ts = h.ts;
    rs = h.rs;
    serves = record { ending = talk.end; talked = h.talks.talked; bytes = h.talks.bytes; exchanges = h.exchanges; replies = h.replies };
    out = o;
  }

  -- and where none was read
  pub run_served : (judge : J) (talk : Talk M) (is_out : List Step → Type 0) (leaves : List Step → Type 0) → (h : HasRun stands rule judge talk is_out exchanged ps)
      → leaves (steps_of (length h.rs) h.ts (reverse ps)) → ServedBefore rule exchanged (length ps) leaves ps
  run_served judge talk is_out leaves h o =
      let back = length-reverse ps in
      let le = few_takes talk.end h.ts (length h.rs) (length ps) h.talks.talked in
      let same = none_asked (length h.rs) h.ts (reverse ps) (omega (arith, le, back)) in record {
        ts = h.ts;
        rs = h.rs;
        serves = record { ending = talk.end; talked = h.talks.talked; bytes = h.talks.bytes; exchanges = h.exchanges; replies = h.replies ∙ ap (replies_by rule) (sym same) };
        out = subst leaves (sym same) o;
      }
