-- What has gone out so far, by the next continuity_counter of each PID.
use Rattle.std.specs.Prelude.{◌≡◌, ℕ, ◌<◌, List, ◌∷◌, ◌++◌, slice_index_or, Option, None, Some}
use Rattle.ts_packet.specs.Numbering.{one_past}
use Rattle.program_follower.specs.declared.purpose.Listed.{Listed}
use Rattle.program_laws.specs.Writing.{number_on}
use Rattle.outgoing_packets.specs.declared.outgoing.Outgoing.{Outgoing}

-- the counter that a packet of the PID has next, behind these packets, newest first: one past that of the last one, or 0
abbrev pub upcoming_on : ℕ → List (List ℕ) → ℕ
upcoming_on pid out = one_past (number_on pid out)

-- these packets, newest first, have gone out
pub record HasPut (o : Outgoing) (out : List (List ℕ)) : Type 0 where
  pub next : (pid : ℕ) → pid < 8192 → slice_index_or o.upcoming pid 0 ≡ upcoming_on pid out

-- The same counters go on: of each PID before the PAT, and of the map's PID behind it.
abbrev pub GoOnAs : Option Listed → List (List ℕ) → List (List ℕ) → Type 0
GoOnAs None passed out = (pid : ℕ) → number_on pid passed ≡ number_on pid out
GoOnAs (Some l) passed out = number_on l.pid passed ≡ number_on l.pid out

-- Of these packets a front went out, and the next one failed so.
pub record FrontFails (packets : List (List ℕ)) (fails : List (List ℕ) → List ℕ → Type 0) : Type 0 where
  pub put : List (List ℕ)
  pub packet : List ℕ
  pub left : List (List ℕ)
  pub all : packets ≡ put ++ packet ∷ left
  pub fault : fails put packet
