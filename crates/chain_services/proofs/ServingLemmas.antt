-- What a message does to several services.
use Rattle.std.proofs.Common.{◌≡◌, ℕ, suc, ◌+◌, ◌==◌, Bool, true, false, List, [], ◌∷◌, ◌++◌, Option, None, Some, length, filter, refl, sym, ap, subst, ◌∙◌, arith, length-append}
use Rattle.std.proofs.lemmas.List.Elements.{filter-append}
use Rattle.psi_section.specs.Assembling.{capped}
use Rattle.std.specs.Prelude.{if◌then◌else◌}
use Rattle.std.specs.List.{list_any}
use Rattle.std.proofs.lemmas.Bool.{or_parts, or_from, or_left, or_right}
use Rattle.ts_packet.proofs.Cases.{by_test}
use Rattle.psi_tables.specs.declared.config.Config.{Config}
use Rattle.scte104_codec.specs.Reading.{MessageReading}
use Rattle.scte104_codec.specs.declared.reply.Reply.{Reply}
use Rattle.injector.specs.Replies.{reply_to}
use Rattle.injector.specs.Requests.{RequestsStandFor}
use Rattle.injector.specs.Turns.{Turn, Judged}
use Rattle.injector.specs.declared.requests.Requests.{Requests}
use Rattle.injector.specs.Steps.{Step, Message, turns_in}
use Rattle.chain_engine.specs.Judging.{ServiceJudges}
use Rattle.chain_engine.specs.declared.service.Service.{Service}
use Rattle.chain_engine.proofs.PassingLemmas.{serves-one}
use Rattle.service_laws.specs.Messages.{is_for, own_steps, reply_of_none, share_an_index, accepts, refuses}
use Rattle.service_laws.specs.Services.{ServiceTerms, configs_of}
use Rattle.service_laws.proofs.MessageLemmas.{own_reply, others_reply, for_one}
use Rattle.chain_services.specs.Serving.{ServesAs, AllServe, AskedOwn, AnswersNone, HasIndexOf, CountsReplies, reply_by}

-- the reply by a service's own history
abbrev pub own_answer : ServiceTerms → MessageReading → List Step → Reply
own_answer t m steps = reply_to t.config.index m (turns_in t.config.program (own_steps t.config.index steps))

-- ---- one service

-- it judges a message, of its own or for none
pub serves_message : (s s' : Service) (t : ServiceTerms) (m : MessageReading) (r : Reply) (steps : List Step) → ServiceJudges s m r s' → ServesAs s t steps
    → (r ≡ own_answer t m steps) × ServesAs s' t (Message m ∷ steps)
serves_message s s' t m r steps judged h =
    let (says, stands) = serves-one t.config t.filed s m r s' h.taken judged h.stands in (
      says ∙ sym (own_reply t.config.program t.config.index m h.taken) ∙ ap (λ l. reply_to t.config.index m (turns_in t.config.program l)) h.own,
      record { taken = Message m ∷ h.taken; stands = stands; own = ap (λ l. if is_for t.config.index m then Message m ∷ l else l) h.own },
    )

-- a message for another goes by
pub others_stay : (s : Service) (t : ServiceTerms) (m : MessageReading) (steps : List Step) → is_for t.config.index m ≡ false → ServesAs s t steps → ServesAs s t (Message m ∷ steps)
others_stay s t m steps n h = record {
  taken = h.taken;
  stands = h.stands;
  own = h.own ∙ sym (ap (λ b. if b then Message m ∷ own_steps t.config.index steps else own_steps t.config.index steps) n);
}

-- ---- some services

abbrev pub one_is_for : MessageReading → List ServiceTerms → Bool
one_is_for m ts = list_any (λ (t : ServiceTerms). is_for t.config.index m) ts

pub all_stay : (ss : List Service) (ts : List ServiceTerms) (m : MessageReading) (steps : List Step) → one_is_for m ts ≡ false → AllServe ss ts steps → AllServe ss ts (Message m ∷ steps)
all_stay [] [] m steps n h = tt
all_stay [] (t ∷ ts) m steps n h = absurd h
all_stay (s ∷ ss) [] m steps n h = absurd h
all_stay (s ∷ ss) (t ∷ ts) m steps n h =
    let parts = or_parts (is_for t.config.index m) (one_is_for m ts) n in (others_stay s t m steps parts.0 h.0, all_stay ss ts m steps parts.1 h.1)

-- a message for one index is for no other
none_of : (i : ℕ) (m : MessageReading) (ts : List ServiceTerms) → list_any (λ (d : Config). i == d.index) (configs_of ts) ≡ false → is_for i m ≡ true → one_is_for m ts ≡ false
none_of i m [] apart y = refl
none_of i m (t ∷ ts) apart y =
    let parts = or_parts (i == t.config.index) (list_any (λ (d : Config). i == d.index) (configs_of ts)) apart in
    or_from (is_for t.config.index m) (one_is_for m ts) (for_one i t.config.index m y parts.0) (none_of i m ts parts.1 y)

pub only_one : (t : ServiceTerms) (ts : List ServiceTerms) (m : MessageReading) → share_an_index (configs_of (t ∷ ts)) ≡ false → is_for t.config.index m ≡ true → one_is_for m ts ≡ false
only_one t ts m apart y =
    none_of t.config.index m ts (or_parts (list_any (λ (d : Config). t.config.index == d.index) (configs_of ts)) (share_an_index (configs_of ts)) apart).0 y

pub apart_behind : (t : ServiceTerms) (ts : List ServiceTerms) → share_an_index (configs_of (t ∷ ts)) ≡ false → share_an_index (configs_of ts) ≡ false
apart_behind t ts apart = (or_parts (list_any (λ (d : Config). t.config.index == d.index) (configs_of ts)) (share_an_index (configs_of ts)) apart).1

-- ---- replies

pub reply_here : (t : ServiceTerms) (ts : List ServiceTerms) (m : MessageReading) (steps : List Step) → is_for t.config.index m ≡ true → reply_by (t ∷ ts) m steps ≡ own_answer t m steps
reply_here t ts m steps y = ap (λ b. if b then own_answer t m steps else reply_by ts m steps) y

pub reply_behind : (t : ServiceTerms) (ts : List ServiceTerms) (m : MessageReading) (steps : List Step) → is_for t.config.index m ≡ false → reply_by (t ∷ ts) m steps ≡ reply_by ts m steps
reply_behind t ts m steps n = ap (λ b. if b then own_answer t m steps else reply_by ts m steps) n

pub none_reply : (ts : List ServiceTerms) (m : MessageReading) (steps : List Step) → one_is_for m ts ≡ false → reply_by ts m steps ≡ reply_of_none m
none_reply [] m steps n = refl
none_reply (t ∷ ts) m steps n =
    let parts = or_parts (is_for t.config.index m) (one_is_for m ts) n in reply_behind t ts m steps parts.0 ∙ none_reply ts m steps parts.1

-- ---- the service with this index

pub asked_here : (s s' : Service) (ss : List Service) (t : ServiceTerms) (ts : List ServiceTerms) (m : MessageReading) (r : Reply) (steps : List Step) → share_an_index (configs_of (t ∷ ts)) ≡ false
    → is_for t.config.index m ≡ true → ServiceJudges s m r s' → AllServe (s ∷ ss) (t ∷ ts) steps → AskedOwn (Some r) (s' ∷ ss) (t ∷ ts) m steps
asked_here s s' ss t ts m r steps apart y judged h =
    let (says, serves) = serves_message s s' t m r steps judged h.0 in
    (or_left (is_for t.config.index m) (one_is_for m ts) y, says ∙ sym (reply_here t ts m steps y), (serves, all_stay ss ts m steps (only_one t ts m apart y) h.1))

pub asked_behind : (s : Service) (ss : List Service) (t : ServiceTerms) (ts : List ServiceTerms) (m : MessageReading) (o : Option Reply) (steps : List Step)
    → is_for t.config.index m ≡ false → ServesAs s t steps → AskedOwn o ss ts m steps → AskedOwn o (s ∷ ss) (t ∷ ts) m steps
asked_behind s ss t ts m None steps n h asked = (or_from (is_for t.config.index m) (one_is_for m ts) n asked.0, (others_stay s t m steps n h, asked.1))
asked_behind s ss t ts m (Some r) steps n h asked =
    (or_right (is_for t.config.index m) (one_is_for m ts) asked.0, asked.1 ∙ sym (reply_behind t ts m steps n), (others_stay s t m steps n h, asked.2))

-- ---- those for none

-- a message with no index is for none
pub for_none : (m : MessageReading) (ts : List ServiceTerms) → ((i : ℕ) → is_for i m ≡ false) → one_is_for m ts ≡ false
for_none m [] n = refl
for_none m (t ∷ ts) n = or_from (is_for t.config.index m) (one_is_for m ts) (n t.config.index) (for_none m ts n)

-- nor is one for none for the first
not_first : (index : ℕ) (ts : List ServiceTerms) (m : MessageReading) → HasIndexOf index ts → one_is_for m ts ≡ false → is_for index m ≡ false
not_first index [] m h not_so = absurd h
not_first index (t ∷ ts) m h not_so = ap (λ i. is_for i m) h ∙ (or_parts (is_for t.config.index m) (one_is_for m ts) not_so).0

-- so it is answered as one for none
pub answers_none : (none now : Requests) (ts : List ServiceTerms) (m : MessageReading) (r : Reply) → one_is_for m ts ≡ false
    → ((index : ℕ) (past : List Turn) → RequestsStandFor none index past → r ≡ reply_to index m past)
    → ((index : ℕ) (past : List Turn) → RequestsStandFor none index past → RequestsStandFor now index (Judged m ∷ past)) → AnswersNone none ts
    → (r ≡ reply_of_none m) × AnswersNone now ts
answers_none none now ts m r not_so says turn n = (
  says n.index (turns_in 0 n.steps) n.stands ∙ others_reply 0 n.index m n.steps (not_first n.index ts m n.is_first not_so),
  record { index = n.index; steps = Message m ∷ n.steps; is_first = n.is_first; stands = turn n.index (turns_in 0 n.steps) n.stands },
)

-- ---- the first of some services, by what the code knows

module _ (services : List Service) (s : Service) (ss : List Service) (m : MessageReading) (steps : List Step) (shape : services ≡ s ∷ ss) (index : ℕ) (told : (i : ℕ) → is_for i m ≡ (index == i))
    (c : Config) (own : c ≡ s.config) where
  for_here : (t : ServiceTerms) (b : Bool) → ServesAs s t steps → (index == c.index) ≡ b → is_for t.config.index m ≡ b
  for_here t b h e = told t.config.index ∙ ap (λ w. index == w.index) (sym (own ∙ h.stands.config)) ∙ e

  pub asked_first : (ts : List ServiceTerms) (s' : Service) (r : Reply) → share_an_index (configs_of ts) ≡ false → AllServe services ts steps → (index == c.index) ≡ true → ServiceJudges s m r s'
      → AskedOwn (Some r) (s' ∷ ss) ts m steps
  asked_first [] s' r apart all y judged = absurd (subst (λ l. AllServe l [] steps) shape all)
  asked_first (t ∷ ts) s' r apart all y judged =
      let h = subst (λ l. AllServe l (t ∷ ts) steps) shape all in asked_here s s' ss t ts m r steps apart (for_here t true h.0 y) judged h

  pub asked_later : (ts : List ServiceTerms) (ss' : List Service) (o : Option Reply) → share_an_index (configs_of ts) ≡ false → AllServe services ts steps → (index == c.index) ≡ false
      → ((us : List ServiceTerms) → share_an_index (configs_of us) ≡ false → AllServe ss us steps → AskedOwn o ss' us m steps) → AskedOwn o (s ∷ ss') ts m steps
  asked_later [] ss' o apart all n goes = absurd (subst (λ l. AllServe l [] steps) shape all)
  asked_later (t ∷ ts) ss' o apart all n goes =
      let h = subst (λ l. AllServe l (t ∷ ts) steps) shape all in asked_behind s ss' t ts m o steps (for_here t false h.0 n) h.0 (goes ts (apart_behind t ts apart) h.1)

-- ---- counts

-- a reply counts the same behind the others as before them
pub counts_last : (a b c : ℕ) (r : Reply) (rs : List Reply) → CountsReplies a b c (r ∷ rs) → CountsReplies a b c (rs ++ r ∷ [])
counts_last a b c r rs h = record {
  messages = h.messages ∙ ap capped (sym (long rs));
  accepted = h.accepted ∙ ap capped (sym (last_of accepts));
  refused = h.refused ∙ ap capped (sym (last_of refuses));
}
  where
    long : (xs : List Reply) → length (xs ++ r ∷ []) ≡ length (r ∷ xs)
    long xs = let sum = length-append xs (r ∷ []) in omega (arith, sum)

    last_of : (test : Reply → Bool) → length (filter test (rs ++ r ∷ [])) ≡ length (filter test (r ∷ rs))
    last_of test =
        let parts = filter-append test rs (r ∷ []) in
        let sum = length-append (filter test rs) (filter test (r ∷ [])) in
        let one : length (filter test rs) + 1 ≡ suc (length (filter test rs)) = omega (arith) in
        let none : length (filter test rs) + 0 ≡ length (filter test rs) = omega (arith) in
        ap length parts ∙ sum ∙ by_test (test r)
        (λ y. ap (λ b. length (filter test rs) + length (if b then r ∷ [] else [])) y ∙ one ∙ sym (ap (λ b. length (if b then r ∷ filter test rs else filter test rs)) y))
        (λ n. ap (λ b. length (filter test rs) + length (if b then r ∷ [] else [])) n ∙ none ∙ sym (ap (λ b. length (if b then r ∷ filter test rs else filter test rs)) n))
