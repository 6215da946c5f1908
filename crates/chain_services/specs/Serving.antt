-- What several services stand for, beside one automation.
use Rattle.std.specs.Prelude.{◌≡◌, ℕ, ◌==◌, Bool, true, false, List, [], ◌∷◌, length, filter, Option, None, Some}
use Rattle.std.specs.List.{list_any}
use Rattle.psi_section.specs.Assembling.{capped}
use Rattle.scte104_codec.specs.Reading.{MessageReading}
use Rattle.scte104_codec.specs.declared.reply.Reply.{Reply}
use Rattle.injector.specs.Requests.{RequestsStandFor}
use Rattle.injector.specs.Steps.{Step, Message, packets_in, turns_in}
use Rattle.injector.specs.declared.requests.Requests.{Requests}
use Rattle.ad_library.specs.declared.library.AdLibrary.{AdLibrary}
use Rattle.ad_library.specs.Library.{held}
use Rattle.chain_engine.specs.Passing.{ServiceStandsFor}
use Rattle.chain_engine.specs.Runs.{replies_by}
use Rattle.chain_engine.specs.declared.service.Service.{Service}
use Rattle.service_laws.specs.Messages.{is_for, own_steps, reply_among, accepts, refuses, share_an_index}
use Rattle.service_laws.specs.Services.{ServiceTerms, configs_of}
use Rattle.chain_services.specs.Owners.{HasOwners, IsQuiet}
use Rattle.chain_services.specs.declared.desk.Desk.{Desk}

-- A service has gone the steps of its own: all packets and its own messages, with messages that are for none among them.
pub record ServesAs (service : Service) (t : ServiceTerms) (steps : List Step) : Type 0 where
  pub taken : List Step
  pub stands : ServiceStandsFor service t.config t.filed taken
  pub own : own_steps t.config.index taken ≡ own_steps t.config.index steps

-- so has each of some services, by its terms
abbrev pub AllServe : List Service → List ServiceTerms → List Step → Type 0
AllServe [] [] steps = Unit {0}
AllServe [] (t ∷ ts) steps = ⊥
AllServe (s ∷ ss) [] steps = ⊥
AllServe (s ∷ ss) (t ∷ ts) steps = ServesAs s t steps × AllServe ss ts steps

-- the libraries are those of the services, in order
abbrev pub FiledAs : {A : Type 0} → List (AdLibrary A) → List ServiceTerms → Type 0
FiledAs [] [] = Unit {0}
FiledAs [] (t ∷ ts) = ⊥
FiledAs (l ∷ ls) [] = ⊥
FiledAs (l ∷ ls) (t ∷ ts) = (held l ≡ t.filed) × FiledAs ls ts

-- THE REPLY of several services
abbrev pub reply_by : List ServiceTerms → MessageReading → List Step → Reply
reply_by ts m steps = reply_among (configs_of ts) m steps

-- messages, and multiple operations accepted and refused, are counted by their replies; each count stops at the greatest u64
pub record CountsReplies (all yes no : ℕ) (rs : List Reply) : Type 0 where
  pub messages : all ≡ capped (length rs)
  pub accepted : yes ≡ capped (length (filter accepts rs))
  pub refused : no ≡ capped (length (filter refuses rs))

-- what answers the messages for no service has the index of the first one, and judged messages
abbrev pub HasIndexOf : ℕ → List ServiceTerms → Type 0
HasIndexOf index [] = ⊥
HasIndexOf index (t ∷ ts) = index ≡ t.config.index

pub record AnswersNone (none : Requests) (ts : List ServiceTerms) : Type 0 where
  pub index : ℕ
  pub steps : List Step
  pub is_first : HasIndexOf index ts
  pub stands : RequestsStandFor none index (turns_in 0 steps)

abbrev pub services_in : {M : Type 0} → Desk M → List Service
services_in desk = desk.services.items

pub record DeskStandsFor {M : Type 0} (desk : Desk M) (ts : List ServiceTerms) (steps : List Step) : Type 0 where
  pub services : AllServe (services_in desk) ts steps
  pub none : AnswersNone desk.none ts
  pub counts : CountsReplies desk.counts.messages desk.counts.accepted desk.counts.refused (replies_by (reply_by ts) steps)
  pub owners : HasOwners desk.owners ts (packets_in steps)
  pub quiet : desk.has_heard ≡ false → IsQuiet steps

-- ---- a message

-- a message is for the service of this index, where there is one
abbrev pub is_index : ℕ → Option ℕ → Bool
is_index index None = false
is_index index (Some i) = i == index

-- one of some services judged a message, if it is for one of them
abbrev pub AskedOwn : Option Reply → List Service → List ServiceTerms → MessageReading → List Step → Type 0
AskedOwn None services ts m steps = (list_any (λ (t : ServiceTerms). is_for t.config.index m) ts ≡ false) × AllServe services ts (Message m ∷ steps)
AskedOwn (Some r) services ts m steps = (list_any (λ (t : ServiceTerms). is_for t.config.index m) ts ≡ true) × (r ≡ reply_by ts m steps)
    × AllServe services ts (Message m ∷ steps)

-- it was judged by the service that it is for, or by what answers those for none, and answered so
abbrev pub ServesBehind : {M : Type 0} → Desk M → Desk M → List ServiceTerms → MessageReading → List Step → Reply → Type 0
ServesBehind old new ts m steps reply = AllServe (services_in old) ts steps → AnswersNone old.none ts
    → (reply ≡ reply_by ts m steps) × AllServe (services_in new) ts (Message m ∷ steps) × AnswersNone new.none ts

-- a message was judged, and answered so, by the history; no two services have one index
pub record DeskJudges {M : Type 0} (old : Desk M) (m : MessageReading) (reply : Reply) (new : Desk M) : Type 0 where
  pub goes : (ts : List ServiceTerms) (steps : List Step) → share_an_index (configs_of ts) ≡ false → DeskStandsFor old ts steps
      → (reply ≡ reply_by ts m steps) × DeskStandsFor new ts (Message m ∷ steps)
