-- The loop of a run: what a stage was given so far, and what it comes to where the run ends.
use Rattle.std.specs.Prelude.{All, option_map}
use Rattle.std.specs.Io.KnownBytes.{IsAtEnd}
use Rattle.std.proofs.Common.{◌≡◌, ℕ, List, [], ◌∷◌, ◌++◌, ◌⊎◌, inl, inr, false, Bool, refl, ap, sym, subst, Option, None, Some}
use Rattle.std.proofs.lemmas.List.Elements.{All-nil}
use Rattle.ts_packet.specs.Packets.{packets_of}
use Rattle.ts_packet.specs.Runs.{Seen, seen_after}
use Rattle.ts_packet.specs.Sources.{WasGiven, HasRead, Refuses, ReadSo, ReadOn, HasGiven, SourceBlamed, Stalled, Exhausted}
use Rattle.ts_packet.specs.Transfers.{WentWell}
use Rattle.ts_packet.specs.declared.tally.Tally.{Tally}
use Rattle.ts_packet.specs.declared.reader.ReadFault.{ReadFault}
use Rattle.ts_packet.specs.declared.reader.ReadFault.TheVariants as read_faults
use Rattle.ts_packet.specs.declared.sink.PutFault.{PutFault}
use Rattle.ts_packet.proofs.CountLemmas.{well-trans, blamed-after}
use Rattle.ts_packet.proofs.FirstFaultLemmas.{sound_more}
use Rattle.ts_packet.proofs.PacketsLemmas.{read_to_end}
use Rattle.ts_packet.proofs.RunBlameLemmas.{read_turns}
use Rattle.ts_packet.proofs.StoppedLemmas.{ends_sound}
use Rattle.packet_runs.specs.Stages.{Went, Ended, StepFails, FinishFails, StepBlamed}
use Rattle.packet_runs.specs.Stops.{StopsBy, refusal_test, stop_cause, stop_of}
use Rattle.packet_runs.specs.Runs.{GoesThrough, Leaves, SourceBlamedAt, SinkBlamedAt}
use Rattle.packet_runs.specs.declared.stage.StageFault.{StageFault}
use Rattle.packet_runs.specs.declared.stage.StageFault.TheVariants as stage
use Rattle.packet_runs.specs.declared.run.Stop.{Stop}
use Rattle.packet_runs.specs.declared.run.Stop.TheVariants.{Read, Packet, Sink}
use Rattle.packet_runs.proofs.StopLemmas.{reads_stop, packets_stop, ends_stop, device_stops}

module _ {S N : Type 0} (refusal : S → Seen → Option N) (sends : S → List (List ℕ) → List (List ℕ) → List ℕ → S → Type 0) (first : S) where
  -- what is known between two packets
  pub record HasGone (ps : List (List ℕ)) (kept : List ℕ) (now : S) (is_out : List (List ℕ) → Type 0) : Type 0 where
    pub sound : All (λ (s : Seen). refusal_test (refusal first) s ≡ None) (seen_after [] ps)
    pub sent : List (List ℕ)
    pub sends_it : sends first ps sent kept now
    pub out : is_out sent

  pub begun : (kept : List ℕ) (is_out : List (List ℕ) → Type 0) → sends first [] [] kept first → is_out [] → HasGone [] kept first is_out
  begun kept is_out s o = record { sound = All-nil _; sent = []; sends_it = s; out = o }

  pub gone_more : (ps : List (List ℕ)) (p kept kept' : List ℕ) (old now : S) (is_out is_out' : List (List ℕ) → Type 0) → HasGone ps kept old is_out
      → Went sends refusal first ps p kept' now is_out' → HasGone (ps ++ p ∷ []) kept' now is_out'
  gone_more ps p kept kept' old now is_out is_out' h w = record {
    sound = sound_more (refusal_test (refusal first)) ps p h.sound (ap (option_map Packet) w.sound);
    sent = w.sent;
    sends_it = w.sends_it;
    out = w.out;
  }

  -- what is out may be said of a later sink
  pub sent_so : (ps : List (List ℕ)) (kept : List ℕ) (now : S) (is_out is_out' : List (List ℕ) → Type 0) → (h : HasGone ps kept now is_out) → is_out' h.sent → HasGone ps kept now is_out'
  sent_so ps kept now is_out is_out' h o = record { sound = h.sound; sent = h.sent; sends_it = h.sends_it; out = o }

  -- ---- the end

  pub goes_through : {R : Type 0} (ends : S → List (List ℕ) → List (List ℕ) → R → S → Type 0) (ps : List (List ℕ)) (kept : List ℕ) (old now : S) (is_out is_out' : List (List ℕ) → Type 0)
      (input left : Option (List ℕ)) (report : R) → HasRead input left ps → IsAtEnd left → HasGone ps kept old is_out → Ended ends first ps report now is_out'
      → GoesThrough (refusal first) (ends first) input report now is_out'
  goes_through ends ps kept old now is_out is_out' None left report r at h e = tt
  goes_through ends ps kept old now is_out is_out' (Some bs) left report r at h e =
      let all : packets_of bs ≡ ps = (read_to_end (Some bs) left ps r at).0 in record {
        sound = ends_sound Read (refusal_test (refusal first)) (Some bs) left ps r h.sound at;
        sent = e.sent;
        ends_so = subst (λ qs. ends first qs e.sent report now) (sym all) e.ends_so;
        out = e.out;
      }

  -- ---- a run that stops

  module _ (refuses : S → List (List ℕ) → List (List ℕ) → List ℕ → S → Type 0) (breaks : S → List (List ℕ) → Option (List ℕ) → List (List ℕ) → List ℕ → S → Type 0)
      (is_out : List (List ℕ) → Type 0) (fails : List (List ℕ) → List ℕ → PutFault → Type 0) (unsent : List (List ℕ) → PutFault → Type 0) (ps : List (List ℕ)) (kept : List ℕ) where
    abbrev pub StopsSo : Stop N → S → Option (List ℕ) → Type 0
    StopsSo f now input = StopsBy Read (refusal_test (refusal first)) stop_cause f input (Leaves sends refuses breaks refusal f first now is_out fails unsent)

    pub read_stops : (now : S) (input left : Option (List ℕ)) → HasRead input left ps → HasGone ps kept now is_out → (fault : ReadFault) → Refuses false left fault
        → StopsSo (Read fault) now input
    read_stops now input left r h fault k =
        reads_stop (refusal first) ps h.sound (Leaves sends refuses breaks refusal (Read fault) first now is_out fails unsent) input left r fault k
        (λ bs rest. record { sent = h.sent; kept = kept; sends_it = h.sends_it; out = h.out })

    pub step_stops : (old now : S) (is_out' : List (List ℕ) → Type 0) (input left left' : Option (List ℕ)) (p : List ℕ) → HasRead input left ps → WasGiven left left' p
        → HasGone ps kept old is_out' → (fault : StageFault N) → StepFails refusal refuses breaks fault first ps p now is_out fails → StopsSo (stop_of fault) now input
    step_stops old now is_out' input left left' p r g h (stage.Packet why) k =
        packets_stop (refusal first) ps h.sound (Leaves sends refuses breaks refusal (Packet why) first now is_out fails unsent) input left left' p r g (Packet why) k.reason (λ bs rest. (p, rest, refl, k))
    step_stops old now is_out' input left left' p r g h (stage.Sink f) k =
        packets_stop (refusal first) ps h.sound (Leaves sends refuses breaks refusal (Sink f) first now is_out fails unsent) input left left' p r g (Sink f) tt (λ bs rest. inl k)

    pub finish_stops : (old now : S) (is_out' : List (List ℕ) → Type 0) (input left : Option (List ℕ)) → HasRead input left ps → IsAtEnd left → HasGone ps kept old is_out'
        → (fault : PutFault) → FinishFails breaks fault first ps now fails → StopsSo (Sink fault) now input
    finish_stops old now is_out' input left r at h f k =
        ends_stop (refusal first) ps h.sound (Leaves sends refuses breaks refusal (Sink f) first now is_out fails unsent) input left r at f (λ bs none. inl (none, k))

    -- what was kept back was not sent, before a read
    pub send_stops : (now : S) (is_out' : List (List ℕ) → Type 0) (input left : Option (List ℕ)) → HasRead input left ps → (h : HasGone ps kept now is_out') → (fault : PutFault)
        → unsent h.sent fault → StopsSo (Sink fault) now input
    send_stops now is_out' input left r h f k =
        device_stops (refusal first) ps h.sound (Leaves sends refuses breaks refusal (Sink f) first now is_out fails unsent) input left r f
        (λ bs rest. inr (record { sent = h.sent; kept = kept; sends_it = h.sends_it; out = k }))

-- ---- what the devices did

pub step_blames : {N : Type 0} (puts_rest before ended : Bool) (fault : StageFault N) (a b : Tally) → ReadSo ended a b → ReadOn before ended a b
    → SourceBlamedAt puts_rest (stop_of fault) before ended a b
step_blames puts_rest before ended (stage.Packet why) a b h k = h
step_blames puts_rest before ended (stage.Sink f) a b h k = inl k

pub step_sink : {N : Type 0} (fault : StageFault N) (a b c : Tally) (full : Bool) → WentWell a b → StepBlamed fault b c full → SinkBlamedAt (stop_of fault) a c full
step_sink (stage.Packet why) a b c full w h = well-trans a b c w h
step_sink (stage.Sink f) a b c full w h = blamed-after f a b c full w h

-- the reads for a packet took all their turns, or the source has given all packets that it may
pub ran_out_so : {X : Type 0} (leads : X → X → Type 0) (counts : X → Tally) (short : X → X → Type 0) (left : X → Option (List ℕ)) (given : X → ℕ) (x y z : X) (before now : Bool) (ps : List (List ℕ))
    → leads x y → ReadOn before now (counts x) (counts y) → now ≡ false → HasGiven (left x) (left y) (given x) (given y) ps → (fault : ReadFault) → SourceBlamed fault (given y) (counts y) (counts z)
    → (fault ≡ read_faults.Turns → short y z) → fault ≡ read_faults.Turns → Stalled leads counts short x z ⊎ Exhausted left given x
ran_out_so leads counts short left given x y z before now ps l h e r read_faults.Turns b s t = read_turns leads counts short left given x y z before now ps l h e r b (s refl)
ran_out_so leads counts short left given x y z before now ps l h e r read_faults.Truncated b s t = absurd (cc)
ran_out_so leads counts short left given x y z before now ps l h e r read_faults.SyncLost b s t = absurd (cc)
ran_out_so leads counts short left given x y z before now ps l h e r read_faults.BadAdaptation b s t = absurd (cc)
ran_out_so leads counts short left given x y z before now ps l h e r read_faults.Io b s t = absurd (cc)
ran_out_so leads counts short left given x y z before now ps l h e r read_faults.Failed b s t = absurd (cc)
