-- What a switch sends for packets in a row, and what one packet more does to a service and its network.
use Rattle.std.proofs.Common.{◌≡◌, ℕ, List, [], ◌∷◌, ◌++◌, reverse, Option, None, Some, refl, sym, ap, subst, ◌∙◌, append_assoc}
use Rattle.std.specs.Option.{option_or}
use Rattle.std.proofs.lemmas.List.{append-nil}
use Rattle.ts_packet.specs.Runs.{onto}
use Rattle.ts_packet.proofs.RunLemmas.{reverse-onto}
use Rattle.wire_fields.specs.Numbers.{AreBytes}
use Rattle.psi_tables.specs.declared.config.Config.{Config}
use Rattle.ts_packet.specs.declared.sink.PutFault.{PutFault}
use Rattle.psi_tables.specs.declared.network.FeedFault.{FeedFault}
use Rattle.psi_tables.specs.declared.network.FeedFault.TheVariants.{Network, Sink, Failed}
use Rattle.program_follower.specs.Faults.{network_fault, first_fault}
use Rattle.program_follower.specs.Purposes.{writing_cues}
use Rattle.outgoing_packets.specs.Numbers.{FrontFails}
use Rattle.outgoing_packets.proofs.NumberLemmas.{front-moved}
use Rattle.injector.specs.Steps.{Step, Message, Packet, cued, sent_at}
use Rattle.scte104_codec.specs.Reading.{MessageReading}
use Rattle.scte104_codec.specs.declared.reply.Reply.{Reply}
use Rattle.ad_library.specs.Advertisements.{Advertisement}
use Rattle.splice_plans.specs.Adverts.{setting_of}
use Rattle.splice_plans.specs.Switching.{Setting, switched_past, switched_at_packet}
use Rattle.splice_switch.specs.Standing.{SwitchStandsFor}
use Rattle.splice_switch.proofs.UnaskedLemmas.{stands-unasked}
use Rattle.chain_engine.specs.Judging.{ServiceJudges}
use Rattle.chain_engine.specs.Passing.{switched_over, chain_at, IsSoundNetwork, ServiceStandsFor, PassFails, service_unasked}
use Rattle.chain_engine.specs.Runs.{reply_in}
use Rattle.chain_engine.specs.ChainRuns.{chain_sends}
use Rattle.chain_engine.specs.Stages.{InjectsFor}
use Rattle.chain_engine.specs.declared.service.Service.{Service}

-- ---- packets in a row

pub over-append : (k : Setting) (past ps qs : List (List ℕ)) → switched_over k past (ps ++ qs) ≡ switched_over k past ps ++ switched_over k (onto past ps) qs
over-append k past [] qs = refl
over-append k past (p ∷ ps) qs =
    ap (λ l. switched_at_packet k p past ++ l) (over-append k (p ∷ past) ps qs) ∙ sym (append_assoc (switched_at_packet k p past) (switched_over k (p ∷ past) ps) (switched_over k (onto (p ∷ past) ps) qs))

-- all that is out is what was, and then what these packets send
pub out-over : (k : Setting) (past ps : List (List ℕ)) → reverse (switched_past k (onto past ps)) ≡ reverse (switched_past k past) ++ switched_over k past ps
out-over k past [] = sym (append-nil (reverse (switched_past k past)))
out-over k past (p ∷ ps) =
    out-over k (p ∷ past) ps
    ∙ ap (λ l. l ++ switched_over k (p ∷ past) ps) (reverse-onto (switched_past k past) (switched_at_packet k p past))
    ∙ append_assoc (reverse (switched_past k past)) (switched_at_packet k p past) (switched_over k (p ∷ past) ps)

pub chain-more : (c : Config) (filed : ℕ → Option Advertisement) (p : List ℕ) (steps : List Step) → chain_sends c filed (Packet p ∷ steps) ≡ chain_sends c filed steps ++ chain_at c filed p steps
chain-more c filed p steps = out-over (setting_of c filed) (cued c steps) (sent_at c p steps)

-- a front of what one of some packets sends is a front of what all send
pub over-fails : (k : Setting) (past sent : List (List ℕ)) (fails : List (List ℕ) → List ℕ → Type 0)
    → FrontFails sent (λ fed q. FrontFails (switched_at_packet k q (onto past fed)) (λ put r. fails (switched_over k past fed ++ put) r)) → FrontFails (switched_over k past sent) fails
over-fails k past sent fails h =
    let f = h.fault in
    let fed = h.put in
    let more = switched_over k (h.packet ∷ onto past fed) h.left in record {
      put = switched_over k past fed ++ f.put;
      packet = f.packet;
      left = f.left ++ more;
      all = ap (switched_over k past) h.all
          ∙ over-append k past fed (h.packet ∷ h.left)
          ∙ ap (λ l. switched_over k past fed ++ (l ++ more)) f.all
          ∙ ap (λ l. switched_over k past fed ++ l) (append_assoc f.put (f.packet ∷ f.left) more)
          ∙ sym (append_assoc (switched_over k past fed) f.put (f.packet ∷ (f.left ++ more)));
      fault = f.fault;
    }

-- ---- a network without fault

pub one_more : (c : Config) (p : List ℕ) (past : List (List ℕ)) → IsSoundNetwork c past → AreBytes p → network_fault (writing_cues c) p past ≡ None → IsSoundNetwork c (p ∷ past)
one_more c p past s b none = record { bytes = (b, s.bytes); sound = ap (λ o. option_or o (network_fault (writing_cues c) p past)) s.sound ∙ none }

or-none : {A : Type 0} (a b : Option A) → option_or a b ≡ None → b ≡ None
or-none None b e = e
or-none (Some x) b e = absurd (cc)

pub last-sound : (c : Config) (p : List ℕ) (past : List (List ℕ)) → IsSoundNetwork c (p ∷ past) → network_fault (writing_cues c) p past ≡ None
last-sound c p past s = or-none (first_fault (writing_cues c) past) (network_fault (writing_cues c) p past) s.sound

-- ---- a packet that was not passed on

pub pass-fails-so : (fault : FeedFault) (c : Config) (filed : ℕ → Option Advertisement) (p : List ℕ) (steps : List Step) (before : Type 0) (fails fails' : List (List ℕ) → List ℕ → PutFault → Type 0)
    → ((put : List (List ℕ)) (q : List ℕ) (x : PutFault) → fails put q x → fails' put q x) → PassFails fault c filed p steps before fails → PassFails fault c filed p steps before fails'
pass-fails-so (Network f) c filed p steps before fails fails' so h = h
pass-fails-so (Sink f) c filed p steps before fails fails' so h = front-moved (chain_at c filed p steps) (λ put q. fails put q f) (λ put q. fails' put q f) (λ put q. so put q f) h
pass-fails-so Failed c filed p steps before fails fails' so h = absurd h

-- ---- a message more

pub injects-one : (c : Config) (i : Service) (m : MessageReading) (r : Reply) (j : Service) (past : List Step) → ServiceJudges i m r j → InjectsFor c i past
    → (r ≡ reply_in c m past) × InjectsFor c j (Message m ∷ past)
injects-one c i m r j past h s = (h.judged.answer c past s.judges, h.judged.stands c past s)

pub serves-one : (c : Config) (filed : ℕ → Option Advertisement) (i : Service) (m : MessageReading) (r : Reply) (j : Service) (past : List Step) → ServiceJudges i m r j → ServiceStandsFor i c filed past
    → (r ≡ reply_in c m past) × ServiceStandsFor j c filed (Message m ∷ past)
serves-one c filed i m r j past h s =
    let (says, injector) = injects-one c i m r j past h s.injector in (
      says,
      record {
        injector = injector;
        switch = subst (λ w. SwitchStandsFor w c filed (cued c past)) (sym h.switch) s.switch;
        network = s.network;
        config = h.config ∙ s.config;
      },
    )

-- ---- open what is due

pub serves-unasked : (s : Service) (c : Config) (filed : ℕ → Option Advertisement) (steps : List Step) → ServiceStandsFor s c filed steps → ServiceStandsFor (service_unasked s) c filed steps
serves-unasked s c filed steps h = record { injector = h.injector; switch = stands-unasked s.switch c filed (cued c steps) h.switch; network = h.network; config = h.config }
