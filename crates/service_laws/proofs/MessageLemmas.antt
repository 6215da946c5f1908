-- The messages of others, by the history of a service: nothing that it sends or answers is told by them.
use Rattle.std.proofs.Common.{◌≡◌, ℕ, ◌==◌, true, false, not, ◌||◌, List, [], ◌∷◌, ◌++◌, map, refl, sym, ap, ◌∙◌}
use Rattle.std.specs.Prelude.{ℤ, filter, flat_map, Option, Some, Err}
use Rattle.std.proofs.lemmas.Bool.{cond_both, eqb-true}
use Rattle.ts_packet.specs.Runs.{onto}
use Rattle.ts_packet.proofs.Cases.{by_test}
use Rattle.psi_tables.specs.declared.config.Config.{Config}
use Rattle.scte104_codec.specs.Reading.{MessageReading, Multiple, init, alive, other, multiple, bad}
use Rattle.program_follower.specs.Following.{high_of}
use Rattle.event_table.specs.Standing.{stands}
use Rattle.injector.specs.declared.refusal.Refusal.{Refusal}
use Rattle.injector.specs.declared.refusal.Refusal.TheVariants.{BadSyntax}
use Rattle.injector.specs.Asking.{asked_of, asked_of_multiple}
use Rattle.injector.specs.Verdicts.{verdict_by}
use Rattle.injector.specs.Turns.{with_asked, greatest_in, events, standing, verdict}
use Rattle.injector.specs.Senders.{Sender, cues_of, packed, tell, with_request, sender_stands, senders}
use Rattle.injector.specs.Replies.{reply_to, verdict_reply_of}
use Rattle.injector.specs.Steps.{Step, Message, Packet, packets_in, turns_in, body_at, sent_behind, cued}
use Rattle.service_laws.specs.Messages.{is_for, own_steps, refusal_of_none, reply_of_none}
use Rattle.ad_library.specs.Advertisements.{Advertisement}
use Rattle.splice_plans.specs.Adverts.{setting_of}
use Rattle.chain_engine.specs.Passing.{switched_over, chain_at}
use Rattle.service_laws.specs.Laws.{OthersMessagesChangeNothing}

-- ---- packets and times

-- a service's history has all packets
pub own_packets : (index : ℕ) (steps : List Step) → packets_in (own_steps index steps) ≡ packets_in steps
own_packets index [] = refl
own_packets index (Message m ∷ past) =
    let before = own_packets index past in
    cond_both (is_for index m) (Message m ∷ own_steps index past) (own_steps index past) (λ s. packets_in s ≡ packets_in past) (λ h. before) (λ h. before)
own_packets index (Packet p ∷ past) = ap (λ qs. p ∷ qs) (own_packets index past)

-- and so the greatest time of all
pub own_high : (program index : ℕ) (steps : List Step) → greatest_in (turns_in program (own_steps index steps)) ≡ greatest_in (turns_in program steps)
own_high program index [] = refl
own_high program index (Message m ∷ past) =
    let before = own_high program index past in
    cond_both (is_for index m) (Message m ∷ own_steps index past) (own_steps index past) (λ s. greatest_in (turns_in program s) ≡ greatest_in (turns_in program past)) (λ h. before) (λ h. before)
own_high program index (Packet p ∷ past) = ap (λ qs. high_of (Some program) (p ∷ qs)) (own_packets index past)

-- ---- what a message for another asks for

-- a multiple operation for another asks for nothing
pub others_refusal : (index : ℕ) (m : Multiple) → m.head.index == index ≡ false → asked_of_multiple index m ≡ Err (refusal_of_none m)
others_refusal index m h =
    by_test (not (m.version == 0) || not (m.cue_version == 0)) (λ v. simp (v) refl) (λ v. simp (v, h) refl)

-- and no other message does
pub others_ask_nothing : (index : ℕ) (m : MessageReading) → is_for index m ≡ false → (e : Refusal) × (asked_of index m ≡ Err e)
others_ask_nothing index (init head) h = (BadSyntax, refl)
others_ask_nothing index (alive head body) h = (BadSyntax, refl)
others_ask_nothing index (other head) h = (BadSyntax, refl)
others_ask_nothing index (multiple m) h = (refusal_of_none m, others_refusal index m h)
others_ask_nothing index (bad multi head) h = (BadSyntax, refl)

-- ---- events

-- the events of a service are those by its own messages
pub own_events : (program index : ℕ) (steps : List Step) → events index (turns_in program (own_steps index steps)) ≡ events index (turns_in program steps)
own_events program index [] = refl
own_events program index (Message m ∷ past) =
    let own = own_steps index past in
    let before = own_events program index past in
    let t = greatest_in (turns_in program past) in
    let xs = events index (turns_in program past) in
    cond_both (is_for index m) (Message m ∷ own) own (λ s. events index (turns_in program s) ≡ with_asked t xs (asked_of index m))
    (λ h. ap (λ u. with_asked u (events index (turns_in program own)) (asked_of index m)) (own_high program index past) ∙ ap (λ ys. with_asked t ys (asked_of index m)) before)
    (λ h. before ∙ sym (ap (with_asked t xs) (others_ask_nothing index m h).1))
own_events program index (Packet p ∷ past) = own_events program index past

-- and what was told of each
pub own_senders : (program index : ℕ) (steps : List Step) → senders index (turns_in program (own_steps index steps)) ≡ senders index (turns_in program steps)
own_senders program index [] = refl
own_senders program index (Message m ∷ past) =
    let own = own_steps index past in
    let before = own_senders program index past in
    let t = greatest_in (turns_in program past) in
    let xs = senders index (turns_in program past) in
    cond_both (is_for index m) (Message m ∷ own) own (λ s. senders index (turns_in program s) ≡ with_request t xs (asked_of index m))
    (λ h. ap (λ u. with_request u (senders index (turns_in program own)) (asked_of index m)) (own_high program index past) ∙ ap (λ ys. with_request t ys (asked_of index m)) before)
    (λ h. before ∙ sym (ap (with_request t xs) (others_ask_nothing index m h).1))
own_senders program index (Packet p ∷ past) =
    ap (λ t. map (tell t (high_of (Some program) (p ∷ packets_in (own_steps index past)))) (senders index (turns_in program (own_steps index past)))) (own_high program index past)
    ∙ ap (λ qs. map (tell (greatest_in (turns_in program past)) (high_of (Some program) (p ∷ qs))) (senders index (turns_in program (own_steps index past)))) (own_packets index past)
    ∙ ap (map (tell (greatest_in (turns_in program past)) (high_of (Some program) (p ∷ packets_in past)))) (own_senders program index past)

-- those that stand
pub own_standing : (program index : ℕ) (steps : List Step) → standing index (turns_in program (own_steps index steps)) ≡ standing index (turns_in program steps)
own_standing program index steps =
    ap (λ t. filter (stands t) (events index (turns_in program (own_steps index steps)))) (own_high program index steps)
    ∙ ap (filter (stands (greatest_in (turns_in program steps)))) (own_events program index steps)

-- the verdict on any multiple operation
pub own_verdict : (program index : ℕ) (m : Multiple) (steps : List Step) → verdict index m (turns_in program (own_steps index steps)) ≡ verdict index m (turns_in program steps)
own_verdict program index m steps =
    ap (λ t. verdict_by t (standing index (turns_in program (own_steps index steps))) (asked_of_multiple index m)) (own_high program index steps)
    ∙ ap (λ xs. verdict_by (greatest_in (turns_in program steps)) xs (asked_of_multiple index m)) (own_standing program index steps)

-- that on one for another, at any history
pub others_verdict : (program index : ℕ) (m : Multiple) (steps : List Step) → m.head.index == index ≡ false → verdict index m (turns_in program steps) ≡ Err (refusal_of_none m)
others_verdict program index m steps h = ap (verdict_by (greatest_in (turns_in program steps)) (standing index (turns_in program steps))) (others_refusal index m h)

-- ---- what goes out

-- what a packet sends, by the packets, the greatest time and the events before it
abbrev sends : Config → List ℕ → List (List ℕ) → Option ℤ → List Sender → List (List ℕ) → List (List ℕ)
sends c p ps h xs out =
    let cues = packed c.cue_pid out (flat_map (cues_of h (high_of (Some c.program) (p ∷ ps))) (filter (sender_stands h) xs)) in
    cues ++ body_at c p ps (onto out cues)

-- behind a service's own history a packet sends what it sends behind that of all
pub own_sent : (c : Config) (p : List ℕ) (steps : List Step) (out : List (List ℕ)) → sent_behind c p (own_steps c.index steps) out ≡ sent_behind c p steps out
own_sent c p steps out =
    let own = own_steps c.index steps in
    ap (λ ps. sends c p ps (greatest_in (turns_in c.program own)) (senders c.index (turns_in c.program own)) out) (own_packets c.index steps)
    ∙ ap (λ t. sends c p (packets_in steps) t (senders c.index (turns_in c.program own)) out) (own_high c.program c.index steps)
    ∙ ap (λ xs. sends c p (packets_in steps) (greatest_in (turns_in c.program steps)) xs out) (own_senders c.program c.index steps)

-- the cued stream is the same
pub own_cued : (c : Config) (steps : List Step) → cued c (own_steps c.index steps) ≡ cued c steps
own_cued c [] = refl
own_cued c (Message m ∷ past) =
    let before = own_cued c past in
    cond_both (is_for c.index m) (Message m ∷ own_steps c.index past) (own_steps c.index past) (λ s. cued c s ≡ cued c past) (λ h. before) (λ h. before)
own_cued c (Packet p ∷ past) =
    ap (λ out. onto out (sent_behind c p (own_steps c.index past) out)) (own_cued c past)
    ∙ ap (onto (cued c past)) (own_sent c p past (cued c past))

-- and for one packet
pub own_chain : (c : Config) (filed : ℕ → Option Advertisement) (p : List ℕ) (steps : List Step) → chain_at c filed p (own_steps c.index steps) ≡ chain_at c filed p steps
own_chain c filed p steps =
    ap (λ out. switched_over (setting_of c filed) out (sent_behind c p (own_steps c.index steps) out)) (own_cued c steps)
    ∙ ap (switched_over (setting_of c filed) (cued c steps)) (own_sent c p steps (cued c steps))

-- ---- replies

-- the reply to any message is the same by a service's own history
pub own_reply : (program index : ℕ) (m : MessageReading) (steps : List Step) → reply_to index m (turns_in program (own_steps index steps)) ≡ reply_to index m (turns_in program steps)
own_reply program index (init head) steps = refl
own_reply program index (alive head body) steps = refl
own_reply program index (other head) steps = refl
own_reply program index (multiple m) steps = ap (verdict_reply_of m.head) (own_verdict program index m steps)
own_reply program index (bad multi head) steps = refl

-- the reply to a message for another is that of no service
pub others_reply : (program index : ℕ) (m : MessageReading) (steps : List Step) → is_for index m ≡ false → reply_to index m (turns_in program steps) ≡ reply_of_none m
others_reply program index (init head) steps h = refl
others_reply program index (alive head body) steps h = refl
others_reply program index (other head) steps h = refl
others_reply program index (multiple m) steps h = ap (verdict_reply_of m.head) (others_verdict program index m steps h)
others_reply program index (bad multi head) steps h = refl

-- THE LAW OF OTHERS' MESSAGES
pub others_messages_change_nothing : OthersMessagesChangeNothing
others_messages_change_nothing c steps = record {
  sent = sym (own_cued c steps);
  reply = λ m h. sym (own_reply c.program c.index m steps);
  other_reply = λ m h. others_reply c.program c.index m steps h;
}

-- ---- messages for one index alone

-- a number is one of two that differ, and so not the other
other_index : (n i j : ℕ) → n == i ≡ true → i == j ≡ false → n == j ≡ false
other_index n i j same apart = ap (λ k. k == j) (eqb-true n i same) ∙ apart

-- a message is for one index alone
pub for_one : (i j : ℕ) (m : MessageReading) → is_for i m ≡ true → i == j ≡ false → is_for j m ≡ false
for_one i j (init head) h apart = refl
for_one i j (alive head body) h apart = refl
for_one i j (other head) h apart = refl
for_one i j (multiple m) h apart = other_index m.head.index i j h apart
for_one i j (bad true head) h apart = other_index head.index i j h apart
for_one i j (bad false head) h apart = refl
