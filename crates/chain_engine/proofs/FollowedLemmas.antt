-- What a chain on air follows: behind messages that were judged, and behind a packet.
use Rattle.std.proofs.Common.{ℕ, suc, ◌+◌, List, [], ◌∷◌, ◌++◌, length, Bool, sym, ap, subst}
use Rattle.psi_tables.specs.declared.config.Config.{Config}
use Rattle.scte104_codec.specs.Reading.{message_of}
use Rattle.scte104_codec.specs.declared.reply.Reply.{Reply}
use Rattle.injector.specs.Injecting.{InjectorStandsFor}
use Rattle.injector.specs.Steps.{Message, Packet}
use Rattle.chain_engine.specs.Automation.{Take, Answer}
use Rattle.chain_engine.specs.Judging.{JudgesAll, ServiceJudges}
use Rattle.chain_engine.specs.Hearing.{Replied}
use Rattle.chain_engine.specs.Talks.{TalkStandsFor}
use Rattle.chain_engine.specs.Followed.{HasFollowed, ChainFollows}
use Rattle.chain_engine.specs.declared.chain.Chain.{Chain}
use Rattle.chain_engine.specs.declared.service.Service.{Service}

-- messages change no packets
pub judged-followed : (j k : Service) (ms : List (List ℕ)) (rs : List Reply) (c : Config) (past : List (List ℕ)) → JudgesAll ServiceJudges j ms rs k
    → HasFollowed j c past → HasFollowed k c past
judged-followed j k [] [] c past all h = subst (λ s. HasFollowed s c past) (sym all) h
judged-followed j k [] (r ∷ rs) c past all h = absurd all
judged-followed j k (m ∷ ms) [] c past all h = absurd all
judged-followed j k (m ∷ ms) (r ∷ rs) c past all h =
    let (i, one, more) = all in
    judged-followed i k ms rs c past more (record { steps = Message (message_of m) ∷ h.steps; injector = one.judged.stands c h.steps h.injector; packets = h.packets })

-- nor does the automation that is heard
pub heard-followed : {M : Type 0} (old new : Chain M) (c : Config) (past : List (List ℕ)) (h : ChainFollows old c past) (more : List Take) (rs : List Reply)
    (ms : List (List ℕ)) (lost : Bool) (answers : List Answer → Type 0) → TalkStandsFor new.talk (h.ts ++ more) (h.n + length rs) (suc h.k)
    → Replied ServiceJudges old.service new.service ms rs lost answers → ChainFollows new c past
heard-followed old new c past h more rs ms lost answers talks replied = record {
  ts = h.ts ++ more;
  n = h.n + length rs;
  k = suc h.k;
  talks = talks;
  followed = judged-followed old.service new.service ms rs c past replied.judged h.followed;
}

-- a packet is one more
pub packet-followed : (old new : Service) (c : Config) (p : List ℕ) (past : List (List ℕ)) (h : HasFollowed old c past)
    → InjectorStandsFor new.injector c (Packet p ∷ h.steps) → HasFollowed new c (p ∷ past)
packet-followed old new c p past h stands = record { steps = Packet p ∷ h.steps; injector = stands; packets = ap (λ l. p ∷ l) h.packets }
