-- The steps of a run: those of the packets so far stay as they are when takes come behind them, and the messages of a take follow them.
use Rattle.std.proofs.Common.{◌≡◌, ℕ, suc, ◌+◌, ◌≤◌, List, [], ◌∷◌, ◌++◌, length, take, drop, refl, sym, ap, subst, ◌∙◌, arith, append_assoc, length-append}
use Rattle.std.specs.List.{AllByRecursion}
use Rattle.std.proofs.lemmas.List.{append-nil, take-append-drop}
use Rattle.std.proofs.lemmas.Grind.{flat_map-append}
use lib.Seq.{take_all, take-append-le}
use Rattle.psi_tables.specs.declared.config.Config.{Config}
use Rattle.scte104_codec.specs.declared.reply.Reply.{Reply}
use Rattle.scte104_codec.specs.Reading.{MessageReading, message_of}
use Rattle.as_session.specs.Messages.{IsMessage, joined, Split, messages_of}
use Rattle.as_session.proofs.SplitLemmas.{the_split, only_split}
use Rattle.injector.specs.Steps.{Step, Message, Packet, packets_in, cued}
use Rattle.chain_engine.specs.Automation.{Take, bytes_in, bytes_of}
use Rattle.chain_engine.specs.Judging.{JudgesAll}
use Rattle.chain_engine.specs.Talks.{messages_taken, messages_judged, judged_before}
use Rattle.chain_engine.specs.Runs.{asked, steps_of, steps_before, replies_by}
use Rattle.chain_engine.proofs.TalkLemmas.{judged_none}

-- ---- the messages of some takes at the front

all_append : (ms ns : List (List ℕ)) → AllByRecursion IsMessage ms → AllByRecursion IsMessage ns → AllByRecursion IsMessage (ms ++ ns)
all_append [] ns a b = b
all_append (m ∷ ms) ns a b = (a.0, all_append ms ns a.1 b)

-- they are at the front of those of all
pub messages_front : (u v : List ℕ) → (more : List (List ℕ)) × ((messages_of (u ++ v)).messages ≡ (messages_of u).messages ++ more)
messages_front u v =
    let front = the_split u in
    let behind = the_split ((messages_of u).rest ++ v) in
    let ms = (messages_of u).messages in
    let ns = (messages_of ((messages_of u).rest ++ v)).messages in
    let rest = (messages_of ((messages_of u).rest ++ v)).rest in
    let parts : u ++ v ≡ joined (ms ++ ns) ++ rest =
    ap (λ (l : List ℕ). l ++ v) front.parts
    ∙ append_assoc (joined ms) (messages_of u).rest v
    ∙ ap (λ (l : List ℕ). joined ms ++ l) behind.parts
    ∙ sym (append_assoc (joined ms) (joined ns) rest)
    ∙ ap (λ (l : List ℕ). l ++ rest) (sym (flat_map-append (λ (part : List ℕ). part) ms ns)) in (
      ns,
      ap (λ (split : Split). split.messages)
          (only_split (u ++ v) (record { messages = ms ++ ns; rest = rest }) (record { parts = parts; each = all_append ms ns front.each behind.each; none_first = behind.none_first })),
    )

-- and no more
pub fewer : (ts : List Take) (j : ℕ) → length (messages_taken (take j ts)) ≤ length (messages_taken ts)
fewer ts j =
    let (more, e) = messages_front (bytes_of (take j ts)) (bytes_of (drop j ts)) in
    let whole : bytes_of (take j ts) ++ bytes_of (drop j ts) ≡ bytes_of ts = sym (flat_map-append bytes_in (take j ts) (drop j ts)) ∙ ap bytes_of (take-append-drop j ts) in
    let all : length (messages_of (bytes_of (take j ts) ++ bytes_of (drop j ts))).messages ≡ length (messages_taken ts) = ap (λ (b : List ℕ). length (messages_of b).messages) whole in
    let parts : length (messages_of (bytes_of (take j ts) ++ bytes_of (drop j ts))).messages ≡ length (messages_taken (take j ts) ++ more) = ap length e in
    let sum = length-append (messages_taken (take j ts)) more in
    omega (arith, all, parts, sum)

-- ---- the steps of a front stay

module _ (ts us : List Take) (n m : ℕ) (e : n ≡ length (messages_taken ts)) where
  judged_front : (j : ℕ) → j ≤ length ts → messages_judged (n + m) (take j (ts ++ us)) ≡ messages_judged n (take j ts)
  judged_front j le =
      let few = fewer ts j in
      ap (messages_judged (n + m)) (take-append-le j ts us le) ∙ take_all (n + m) (messages_taken (take j ts)) (omega (arith, few, e)) ∙ sym (take_all n (messages_taken (take j ts)) (omega (arith, few, e)))

  pub judged_stays : (k : ℕ) → suc k ≤ length ts → judged_before (n + m) (ts ++ us) k ≡ judged_before n ts k
  judged_stays k le =
      let here = judged_front k (omega (arith, le)) in
      let next = judged_front (suc k) le in
      ap (λ l. drop (length l) (messages_judged (n + m) (take (suc k) (ts ++ us)))) here ∙ ap (drop (length (messages_judged n (take k ts)))) next

  pub steps_stay : (past : List (List ℕ)) → length past ≤ length ts → steps_of (n + m) (ts ++ us) past ≡ steps_of n ts past
  steps_stay [] le = refl
  steps_stay (p ∷ past) le =
      let stays = judged_stays (length past) (omega (arith, le)) in
      let before = steps_stay past (omega (arith, le)) in
      ap (λ l. Packet p ∷ asked l (steps_of (n + m) (ts ++ us) past)) stays ∙ ap (λ s. Packet p ∷ asked (judged_before n ts (length past)) s) before

-- no take stands before the next packet
pub none_asked : (n : ℕ) (ts : List Take) (past : List (List ℕ)) → length ts ≤ length past → steps_before n ts past ≡ steps_of n ts past
none_asked n ts past le = ap (λ l. asked l (steps_of n ts past)) (judged_none n ts (length past) le)

-- ---- messages put no packet out

pub asked_packets : (ms : List (List ℕ)) (past : List Step) → packets_in (asked ms past) ≡ packets_in past
asked_packets [] past = refl
asked_packets (m ∷ ms) past = asked_packets ms (Message (message_of m) ∷ past)

pub asked_cued : (c : Config) (ms : List (List ℕ)) (past : List Step) → cued c (asked ms past) ≡ cued c past
asked_cued c [] past = refl
asked_cued c (m ∷ ms) past = asked_cued c ms (Message (message_of m) ∷ past)

pub steps_packets : (n : ℕ) (ts : List Take) (past : List (List ℕ)) → packets_in (steps_of n ts past) ≡ past
steps_packets n ts [] = refl
steps_packets n ts (p ∷ past) = ap (λ l. p ∷ l) (asked_packets (judged_before n ts (length past)) (steps_of n ts past) ∙ steps_packets n ts past)

pub before_packets : (n : ℕ) (ts : List Take) (past : List (List ℕ)) → packets_in (steps_before n ts past) ≡ past
before_packets n ts past = asked_packets (judged_before n ts (length past)) (steps_of n ts past) ∙ steps_packets n ts past

-- what is said of steps, and of any message behind them, is said of all these
pub asked_stays : (P : List Step → Type 0) → ((m : MessageReading) (past : List Step) → P past → P (Message m ∷ past)) → (ms : List (List ℕ)) (past : List Step) → P past → P (asked ms past)
asked_stays P stays [] past h = h
asked_stays P stays (m ∷ ms) past h = asked_stays P stays ms (Message (message_of m) ∷ past) (stays (message_of m) past h)

-- ---- messages that were judged

-- A judge goes a message's step, and the reply is the one by the rule.
abbrev pub GoesOn : {J : Type 0} → (J → MessageReading → Reply → J → Type 0) → (J → List Step → Type 0) → (MessageReading → List Step → Reply) → Type 0
GoesOn {J} judges stands rule = (i : J) (m : MessageReading) (r : Reply) (j : J) (past : List Step) → judges i m r j → stands i past → (r ≡ rule m past) × stands j (Message m ∷ past)

pub asked_judged : {J : Type 0} (judges : J → MessageReading → Reply → J → Type 0) (stands : J → List Step → Type 0) (rule : MessageReading → List Step → Reply) → GoesOn judges stands rule
    → (ms : List (List ℕ)) (rs : List Reply) (i j : J) (past : List Step) → JudgesAll judges i ms rs j → stands i past
    → stands j (asked ms past) × (replies_by rule (asked ms past) ≡ replies_by rule past ++ rs)
asked_judged judges stands rule one [] [] i j past h s = (subst (λ x. stands x past) (sym h) s, sym (append-nil (replies_by rule past)))
asked_judged judges stands rule one [] (r ∷ rs) i j past h s = absurd h
asked_judged judges stands rule one (m ∷ ms) [] i j past h s = absurd h
asked_judged judges stands rule one (m ∷ ms) (r ∷ rs) i j past (x, judged, h) s =
    let (says, goes) = one i (message_of m) r x past judged s in
    let later = asked_judged judges stands rule one ms rs x j (Message (message_of m) ∷ past) h goes in (
      later.0,
      later.1
          ∙ append_assoc (replies_by rule past) (rule (message_of m) past ∷ []) rs
          ∙ ap (λ (q : Reply). replies_by rule past ++ q ∷ rs) (sym says),
    )
