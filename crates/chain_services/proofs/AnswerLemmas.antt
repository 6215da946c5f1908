-- The replies to the messages of a service, and to those of none, among all replies of a history.
use Rattle.std.proofs.Common.{◌≡◌, ℕ, ◌+◌, ◌≤◌, Bool, true, false, not, if◌then◌else◌, List, [], ◌∷◌, ◌++◌, map, length, take, Option, None, Some, refl, sym, ap, subst, ◌∙◌, arith, append_assoc, length-append}
use Rattle.std.specs.Prelude.{filter, ◌==◌}
use Rattle.std.specs.List.{list_any}
use Rattle.std.proofs.lemmas.Bool.{true≢false, or_parts}
use Rattle.std.proofs.lemmas.List.{append-nil, map-append, take_all}
use Rattle.std.proofs.lemmas.List.Elements.{filter-append}
use Rattle.std.proofs.Math.Seq.{take-nil}
use Rattle.ts_packet.proofs.Cases.{by_test}
use Rattle.psi_tables.specs.declared.config.Config.{Config}
use Rattle.scte104_codec.specs.Reading.{MessageReading, message_of}
use Rattle.scte104_codec.specs.declared.reply.Reply.{Reply}
use Rattle.as_session.specs.Messages.{messages_of, messages_within}
use Rattle.injector.specs.Steps.{Step, Message, Packet}
use Rattle.chain_engine.specs.Automation.{Take}
use Rattle.chain_engine.specs.Talks.{messages_judged, judged_before, HasTalked}
use Rattle.chain_engine.specs.Runs.{asked, steps_of, replies_by, reply_in, replies_in}
use Rattle.chain_engine.specs.declared.hearing.SessionEnd.{SessionEnd}
use Rattle.service_laws.specs.Messages.{is_for, own_steps, reply_of_none, reply_among, share_an_index}
use Rattle.service_laws.specs.Services.{ServiceTerms, configs_of}
use Rattle.service_laws.proofs.MessageLemmas.{for_one}
use Rattle.service_laws.proofs.TakeLemmas.{judged_more}
use Rattle.chain_services.specs.Isolation.{replies_to, is_for_none}

-- ---- the messages of a history

-- in order
abbrev pub readings_in : List Step → List MessageReading
readings_in [] = []
readings_in (Message m ∷ past) = readings_in past ++ m ∷ []
readings_in (Packet p ∷ past) = readings_in past

-- those behind a history follow its own
asked_readings : (ms : List (List ℕ)) (past : List Step) → readings_in (asked ms past) ≡ readings_in past ++ map message_of ms
asked_readings [] past = sym (append-nil (readings_in past))
asked_readings (m ∷ ms) past = asked_readings ms (Message (message_of m) ∷ past) ∙ append_assoc (readings_in past) (message_of m ∷ []) (map message_of ms)

-- no bytes have no messages
no_messages : (messages_of []).messages ≡ []
unfolding messages_within
no_messages = refl

-- of the steps of a run they are those that are judged
pub steps_readings : (most : ℕ) (ts : List Take) (past : List (List ℕ)) → readings_in (steps_of most ts past) ≡ map message_of (messages_judged most (take (length past) ts))
steps_readings most ts [] = sym (ap (λ ms. map message_of (take most ms)) no_messages ∙ ap (map message_of) (take-nil most))
steps_readings most ts (p ∷ past) =
    let k = length past in
    asked_readings (judged_before most ts k) (steps_of most ts past)
    ∙ ap (λ l. l ++ map message_of (judged_before most ts k)) (steps_readings most ts past)
    ∙ sym (map-append message_of (messages_judged most (take k ts)) (judged_before most ts k))
    ∙ ap (map message_of) (sym (judged_more 0 most ts k))

-- a talk has no more takes than packets
pub takes_few : (end : Option SessionEnd) (ts : List Take) (n k : ℕ) → HasTalked end ts n k → length ts ≤ k
takes_few None ts n k h = let long = h.0 in omega (arith, long)
takes_few (Some end) ts n k h = h.0

-- so all of what it judged is judged
pub all_readings : (most : ℕ) (ts : List Take) (past : List (List ℕ)) → length ts ≤ length past → readings_in (steps_of most ts past) ≡ map message_of (messages_judged most ts)
all_readings most ts past few = steps_readings most ts past ∙ ap (λ l. map message_of (messages_judged most l)) (take_all (length past) ts few)

-- there is a reply for each
pub same_count : (rule : MessageReading → List Step → Reply) (steps : List Step) → length (readings_in steps) ≡ length (replies_by rule steps)
same_count rule [] = refl
same_count rule (Message m ∷ past) =
    length-append (readings_in past) (m ∷ []) ∙ ap (λ n. n + 1) (same_count rule past) ∙ sym (length-append (replies_by rule past) (rule m past ∷ []))
same_count rule (Packet p ∷ past) = same_count rule past

-- ---- the replies to some of them

-- with one message more that and its reply, where the test takes it
replies_more : (test : MessageReading → Bool) (ms : List MessageReading) (rs : List Reply) (m : MessageReading) (r : Reply) → length ms ≡ length rs
    → replies_to test (ms ++ m ∷ []) (rs ++ r ∷ []) ≡ replies_to test ms rs ++ (if test m then r ∷ [] else [])
replies_more test [] [] m r e = refl
replies_more test [] (y ∷ rs) m r e = absurd (cc)
replies_more test (x ∷ ms) [] m r e = absurd (cc)
replies_more test (x ∷ ms) (y ∷ rs) m r e =
    let behind = replies_more test ms rs m r (cc) in
    by_test (test x) (λ h. simp h (ap (λ l. y ∷ l) behind)) (λ h. simp h behind)

module _ (rule : MessageReading → List Step → Reply) where
  -- where a message of a service has the reply by the service's own history, the replies to its messages are those of that history
  pub own_replies : (c : Config) → ((m : MessageReading) (past : List Step) → is_for c.index m ≡ true → rule m past ≡ reply_in c m (own_steps c.index past)) → (steps : List Step)
      → replies_to (is_for c.index) (readings_in steps) (replies_by rule steps) ≡ replies_in c (own_steps c.index steps)
  own_replies c h [] = refl
  own_replies c h (Message m ∷ past) =
      let own = own_steps c.index past in
      replies_more (is_for c.index) (readings_in past) (replies_by rule past) m (rule m past) (same_count rule past)
      ∙ ap (λ l. l ++ (if is_for c.index m then rule m past ∷ [] else [])) (own_replies c h past)
      ∙ by_test (is_for c.index m)
      (λ y. let same = h m past y in simp y (ap (λ r. replies_in c own ++ r ∷ []) same))
      (λ n. simp n (append-nil (replies_in c own)))
  own_replies c h (Packet p ∷ past) = own_replies c h past

  -- where a message that a test takes has the reply of none, so have all that it takes
  pub none_replies : (test : MessageReading → Bool) → ((m : MessageReading) (past : List Step) → test m ≡ true → rule m past ≡ reply_of_none m) → (steps : List Step)
      → replies_to test (readings_in steps) (replies_by rule steps) ≡ map reply_of_none (filter test (readings_in steps))
  none_replies test h [] = refl
  none_replies test h (Message m ∷ past) =
      let before = map reply_of_none (filter test (readings_in past)) in
      let last : (if test m then rule m past ∷ [] else []) ≡ map reply_of_none (filter test (m ∷ [])) =
      by_test (test m) (λ y. let same = h m past y in simp y (ap (λ r. r ∷ []) same)) (λ n. simp n refl) in
      replies_more test (readings_in past) (replies_by rule past) m (rule m past) (same_count rule past)
      ∙ ap (λ l. l ++ (if test m then rule m past ∷ [] else [])) (none_replies test h past)
      ∙ ap (λ l. before ++ l) last
      ∙ sym (ap (map reply_of_none) (filter-append test (readings_in past) (m ∷ [])) ∙ map-append reply_of_none (filter test (readings_in past)) (filter test (m ∷ [])))
  none_replies test h (Packet p ∷ past) = none_replies test h past

-- ---- the reply to a message of one of some services

-- what no one of some has one of them has not
any_at : (f : Config → Bool) (before : List Config) (c : Config) (after : List Config) → list_any f (before ++ c ∷ after) ≡ false → f c ≡ false
any_at f [] c after h = (or_parts (f c) (list_any f after) h).0
any_at f (x ∷ before) c after h = any_at f before c after (or_parts (f x) (list_any f (before ++ c ∷ after)) h).1

-- is the one by its own history, where no two have one index
reply_at : (before : List Config) (c : Config) (after : List Config) (m : MessageReading) (past : List Step) → share_an_index (before ++ c ∷ after) ≡ false → is_for c.index m ≡ true
    → reply_among (before ++ c ∷ after) m past ≡ reply_in c m (own_steps c.index past)
reply_at [] c after m past apart own = simp own refl
reply_at (x ∷ before) c after m past apart own =
    let r = or_parts (list_any (λ (d : Config). x.index == d.index) (before ++ c ∷ after)) (share_an_index (before ++ c ∷ after)) apart in
    let other : is_for x.index m ≡ false = by_test (is_for x.index m)
    (λ y. absurd (true≢false (sym own ∙ for_one x.index c.index m y (any_at (λ (d : Config). x.index == d.index) before c after r.0)))) (λ n. n) in
    simp other (reply_at before c after m past r.1 own)

-- the same among services
pub own_reply_at : (before : List ServiceTerms) (t : ServiceTerms) (after : List ServiceTerms) (m : MessageReading) (past : List Step)
    → share_an_index (configs_of (before ++ t ∷ after)) ≡ false → is_for t.config.index m ≡ true
    → reply_among (configs_of (before ++ t ∷ after)) m past ≡ reply_in t.config m (own_steps t.config.index past)
own_reply_at before t after m past apart own =
    let parts : configs_of (before ++ t ∷ after) ≡ configs_of before ++ t.config ∷ configs_of after = map-append (λ (s : ServiceTerms). s.config) before (t ∷ after) in
    ap (λ cs. reply_among cs m past) parts
    ∙ reply_at (configs_of before) t.config (configs_of after) m past (subst (λ cs. share_an_index cs ≡ false) parts apart) own

-- where it is for none of them, the reply of none
none_at : (ts : List ServiceTerms) (m : MessageReading) (past : List Step) → list_any (λ (t : ServiceTerms). is_for t.config.index m) ts ≡ false → reply_among (configs_of ts) m past ≡ reply_of_none m
none_at [] m past h = refl
none_at (t ∷ ts) m past h =
    let r = or_parts (is_for t.config.index m) (list_any (λ (t : ServiceTerms). is_for t.config.index m) ts) h in
    let here = r.0 in
    simp here (none_at ts m past r.1)

not_true : (b : Bool) → not b ≡ true → b ≡ false
not_true true h = sym h
not_true false h = refl

pub none_reply : (ts : List ServiceTerms) (m : MessageReading) (past : List Step) → is_for_none ts m ≡ true → reply_among (configs_of ts) m past ≡ reply_of_none m
none_reply ts m past h = none_at ts m past (not_true (list_any (λ (t : ServiceTerms). is_for t.config.index m) ts) h)
