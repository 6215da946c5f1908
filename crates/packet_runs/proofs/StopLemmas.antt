-- What a run that stops has passed on: the packets before the first fault of its source, whatever its stage refuses.
use Rattle.std.specs.Prelude.{All, option_map, replicate}
use Rattle.std.specs.Io.KnownBytes.{IsAtEnd}
use Rattle.std.proofs.Common.{◌≡◌, ℕ, ◌≤◌, ◌==◌, if◌then◌else◌, Bool, true, subst, false, List, [], ◌∷◌, ◌++◌, take, drop, Option, None, Some, refl, sym, ap, ◌∙◌, arith, append_assoc, length}
use Rattle.std.proofs.lemmas.List.{append-nil}
use Rattle.ts_packet.specs.Fields as fields
use Rattle.ts_packet.specs.Packets.{packets_of, bytes_of, last_part, packet_fault}
use Rattle.ts_packet.specs.Sources.{WasGiven, HasRead, Refuses}
use Rattle.ts_packet.specs.Runs.{Seen, seen_after}
use Rattle.ts_packet.specs.FirstFault.{fault_of, named, or_then, first_of, first_fault, before_fault, sound_front, fault_behind, Cause, OfInput, OfDevice, OfNothing, read_cause, SaysBy}
use Rattle.ts_packet.specs.declared.packet.PacketFault.{PacketFault}
use Rattle.ts_packet.specs.declared.packet.PacketFault.TheVariants as packet_faults
use Rattle.ts_packet.specs.declared.reader.ReadFault.{ReadFault}
use Rattle.ts_packet.specs.declared.reader.ReadFault.TheVariants as read_faults
use Rattle.ts_packet.specs.declared.sink.PutFault.{PutFault}
use Rattle.ts_packet.proofs.FirstFaultLemmas.{sound_all, fault_behind_sound, says_so}
use Rattle.ts_packet.proofs.PacketsLemmas.{read_all, read_before, read_more, read_to_end, packets_of-append}
use Rattle.ts_packet.proofs.StoppedLemmas.{ends_sound, reader_stops, packet_stops}
use Rattle.packet_runs.specs.Stages.{seen_behind}
use Rattle.packet_runs.specs.Stops.{Stopped, StopsBy, refusal_test, stop_cause}
use Rattle.packet_runs.specs.declared.run.Stop.{Stop}
use Rattle.packet_runs.specs.declared.run.Stop.TheVariants.{Read, Packet, Sink}

pub both_said : (A B : Type 0) (cause : Cause) → SaysBy cause A → SaysBy cause B → SaysBy cause (A × B)
both_said A B OfInput a b = (a, b)
both_said A B OfDevice a b = tt
both_said A B OfNothing a b = a

-- ---- where the bytes are not told

-- they could be those of the packets that were read, and then these
as_read : (input left : Option (List ℕ)) (ps : List (List ℕ)) (rest : List ℕ) → HasRead input left ps → HasRead (Some (bytes_of ps ++ rest)) (Some rest) ps
as_read input left ps rest r = record { bytes = refl; sizes = r.sizes; sound = r.sound }

as_given : (left left' : Option (List ℕ)) (p : List ℕ) → WasGiven left left' p → WasGiven (Some (p ++ [])) (Some []) p
as_given left left' p g = record { bytes = refl; size = g.size; sound = g.sound }

-- bytes of which a reader answers so
bad_rest : ReadFault → List ℕ
bad_rest read_faults.Truncated = 0 ∷ []
bad_rest read_faults.SyncLost = replicate 188 0
bad_rest read_faults.BadAdaptation = 71 ∷ 0 ∷ 0 ∷ 32 ∷ replicate 184 255
bad_rest read_faults.Io = []
bad_rest read_faults.Turns = []
bad_rest read_faults.Failed = []

no_sync : packet_fault (take 188 (replicate 188 0)) ≡ Some packet_faults.SyncLost
unfolding packet_fault
no_sync = refl

no_adaptation : packet_fault (take 188 (71 ∷ 0 ∷ 0 ∷ 32 ∷ replicate 184 255)) ≡ Some packet_faults.BadAdaptation
unfolding packet_fault fields.in_error
no_adaptation = refl

refuses_rest : (fault : ReadFault) (left : Option (List ℕ)) → Refuses false left fault → Refuses false (Some (bad_rest fault)) fault
unfolding bad_rest
refuses_rest read_faults.Truncated left h = (omega arith, omega arith)
refuses_rest read_faults.SyncLost left h = (omega arith, no_sync)
refuses_rest read_faults.BadAdaptation left h = (omega arith, no_adaptation)
refuses_rest read_faults.Io left h = h
refuses_rest read_faults.Turns left h = h
refuses_rest read_faults.Failed left h = h

-- ---- the run of a stage is stopped

module _ {N : Type 0} (refusal : Seen → Option N) (ps : List (List ℕ)) where
  -- none of them was refused
  abbrev pub PassTests : Type 0
  PassTests = All (λ (s : Seen). refusal_test refusal s ≡ None) (seen_after [] ps)

  before_at : (bs p : List ℕ) (qs : List (List ℕ)) (f : Stop N) → packets_of bs ≡ ps ++ p ∷ qs → All (λ q. packet_fault q ≡ None) ps → PassTests
      → fault_of Read (refusal_test refusal) (seen_behind ps p) ≡ Some f → before_fault Read (refusal_test refusal) bs ≡ ps
  before_at bs p qs f e a b at =
      ap (λ l. sound_front (fault_of Read (refusal_test refusal)) (seen_after [] l)) e ∙ (fault_behind_sound Read (refusal_test refusal) ps p qs f a b at).1

  module _ (sound : PassTests) where
    module _ (bs rest : List ℕ) (r : HasRead (Some bs) (Some rest) ps) where
      refused : (f : Stop N) → 188 ≤ length rest → named Read (packet_fault (take 188 rest)) ≡ Some f → before_fault Read (refusal_test refusal) bs ≡ ps
      refused f long e =
          before_at bs (take 188 rest) (packets_of (drop 188 rest)) f (read_before (Some bs) (Some rest) ps r long) r.sound sound
          (ap (λ o. or_then o (refusal_test refusal (seen_behind ps (take 188 rest)))) e)

      before_read : (fault : ReadFault) → Refuses false (Some rest) fault → SaysBy (read_cause fault) (before_fault Read (refusal_test refusal) bs ≡ ps)
      before_read read_faults.Truncated h =
          ap (λ l. sound_front (fault_of Read (refusal_test refusal)) (seen_after [] l)) (read_all (Some bs) (Some rest) ps r h.1).0
          ∙ (sound_all Read (refusal_test refusal) ps r.sound sound).1
      before_read read_faults.SyncLost h = refused (Read read_faults.SyncLost) h.0 (ap (named Read) h.1)
      before_read read_faults.BadAdaptation h = refused (Read read_faults.BadAdaptation) h.0 (ap (named Read) h.1)
      before_read read_faults.Io h = tt
      before_read read_faults.Turns h = tt
      before_read read_faults.Failed h = absurd (cc)

    abbrev Stops : Stop N → List ℕ → (List ℕ → List (List ℕ) → List (List ℕ) → Type 0) → Type 0
    Stops fault bs leaves = Stopped Read (refusal_test refusal) stop_cause fault bs leaves

    module _ (leaves : List ℕ → List (List ℕ) → List (List ℕ) → Type 0) where
      none_at_fault : All (λ p. packet_fault p ≡ None) ps → first_of (fault_of Read (refusal_test refusal)) (seen_after [] ps) ≡ None
      none_at_fault a = (sound_all Read (refusal_test refusal) ps a sound).0

      read_stopped : (bs rest : List ℕ) → HasRead (Some bs) (Some rest) ps → (fault : ReadFault) → Refuses false (Some rest) fault → leaves bs ps (packets_of rest) → Stops (Read fault) bs leaves
      read_stopped bs rest r fault h l = record {
        passed = ps;
        rest = packets_of rest;
        parts = ap packets_of r.bytes ∙ packets_of-append ps rest r.sizes;
        sound = none_at_fault r.sound;
        says = both_said (first_fault Read (refusal_test refusal) bs ≡ Some (Read fault)) (before_fault Read (refusal_test refusal) bs ≡ ps) (read_cause fault)
            (reader_stops Read (refusal_test refusal) (Some bs) (Some rest) ps r sound fault h) (before_read bs rest r fault h);
        left = l;
      }

      -- at its source
      pub reads_stop : (input left : Option (List ℕ)) → HasRead input left ps → (fault : ReadFault) → Refuses false left fault → ((bs : List ℕ) (rest : List (List ℕ)) → leaves bs ps rest)
          → StopsBy Read (refusal_test refusal) stop_cause (Read fault) input leaves
      reads_stop None left r fault h l = let rest = bad_rest fault in (bytes_of ps ++ rest, read_stopped (bytes_of ps ++ rest) rest (as_read None left ps rest r) fault (refuses_rest fault left h) (l _ _))
      reads_stop (Some bs) None r fault h l = absurd r.bytes
      reads_stop (Some bs) (Some rest) r fault h l = read_stopped bs rest r fault h (l _ _)

      sink_stopped : (bs rest : List ℕ) → HasRead (Some bs) (Some rest) ps → (fault : PutFault) → leaves bs ps (packets_of rest) → Stops (Sink fault) bs leaves
      sink_stopped bs rest r fault l = record {
        passed = ps;
        rest = packets_of rest;
        parts = ap packets_of r.bytes ∙ packets_of-append ps rest r.sizes;
        sound = none_at_fault r.sound;
        says = tt;
        left = l;
      }

      -- at its sink, between two packets
      pub device_stops : (input left : Option (List ℕ)) → HasRead input left ps → (fault : PutFault) → ((bs : List ℕ) (rest : List (List ℕ)) → leaves bs ps rest)
          → StopsBy Read (refusal_test refusal) stop_cause (Sink fault) input leaves
      device_stops None left r fault l = (bytes_of ps ++ [], sink_stopped (bytes_of ps ++ []) [] (as_read None left ps [] r) fault (l _ _))
      device_stops (Some bs) None r fault l = absurd r.bytes
      device_stops (Some bs) (Some rest) r fault l = sink_stopped bs rest r fault (l _ _)

      -- what stops it at a packet
      abbrev pub StopsAt : Stop N → List ℕ → Type 0
      StopsAt (Read fault) p = ⊥
      StopsAt (Packet why) p = refusal (seen_behind ps p) ≡ Some why
      StopsAt (Sink fault) p = Unit {0}

      packet_stopped : (bs rest p : List ℕ) (left : Option (List ℕ)) → HasRead (Some bs) left ps → WasGiven left (Some rest) p → (fault : Stop N) → StopsAt fault p
          → leaves bs ps (p ∷ packets_of rest) → Stops fault bs leaves
      packet_stopped bs rest p left r g fault h l = record {
        passed = ps;
        rest = p ∷ packets_of rest;
        parts = parts;
        sound = none_at_fault r.sound;
        says = says fault h;
        left = l;
      }
        where
          parts : packets_of bs ≡ ps ++ p ∷ packets_of rest
          parts = let more = read_more (Some bs) left (Some rest) ps p r g in ap packets_of more.bytes ∙ packets_of-append (ps ++ p ∷ []) rest more.sizes ∙ append_assoc ps (p ∷ []) (packets_of rest)

          says : (fault : Stop N) → StopsAt fault p → SaysBy (stop_cause fault) ((first_fault Read (refusal_test refusal) bs ≡ Some fault) × (before_fault Read (refusal_test refusal) bs ≡ ps))
          says (Read f) h = absurd h
          says (Packet why) h =
              let test : refusal_test refusal (seen_behind ps p) ≡ Some (Packet why) = ap (option_map Packet) h in
              let at = ap (λ o. or_then (named Read o) (refusal_test refusal (seen_behind ps p))) g.sound ∙ test in
              (packet_stops Read (refusal_test refusal) (Some bs) left (Some rest) ps p (Packet why) r sound g test, before_at bs p (packets_of rest) (Packet why) parts r.sound sound at)
          says (Sink f) h = tt

      -- at a packet
      pub packets_stop : (input left left' : Option (List ℕ)) (p : List ℕ) → HasRead input left ps → WasGiven left left' p → (fault : Stop N) → StopsAt fault p
          → ((bs : List ℕ) (rest : List (List ℕ)) → leaves bs ps (p ∷ rest)) → StopsBy Read (refusal_test refusal) stop_cause fault input leaves
      packets_stop None left left' p r g fault h l =
          let bs = bytes_of ps ++ (p ++ []) in
          (bs, packet_stopped bs [] p (Some (p ++ [])) (as_read None left ps (p ++ []) r) (as_given left left' p g) fault h (l _ _))
      packets_stop (Some bs) left None p r g fault h l = absurd (read_more (Some bs) left None ps p r g).bytes
      packets_stop (Some bs) left (Some rest) p r g fault h l = packet_stopped bs rest p left r g fault h (l _ _)

      end_stopped : (bs : List ℕ) (left : Option (List ℕ)) → HasRead (Some bs) left ps → IsAtEnd left → (fault : PutFault)
          → (first_fault Read (refusal_test refusal) bs ≡ None → leaves bs ps []) → Stops (Sink fault) bs leaves
      end_stopped bs left r at fault l = record {
        passed = ps;
        rest = [];
        parts = (read_to_end (Some bs) left ps r at).0 ∙ sym (append-nil ps);
        sound = none_at_fault r.sound;
        says = tt;
        left = l (ends_sound Read (refusal_test refusal) (Some bs) left ps r sound at);
      }

      -- and at its end
      pub ends_stop : (input left : Option (List ℕ)) → HasRead input left ps → IsAtEnd left → (fault : PutFault)
          → ((bs : List ℕ) → first_fault Read (refusal_test refusal) bs ≡ None → leaves bs ps []) → StopsBy Read (refusal_test refusal) stop_cause (Sink fault) input leaves
      ends_stop None left r at fault l = (bytes_of ps ++ [], end_stopped (bytes_of ps ++ []) (Some []) (as_read None left ps [] r) refl fault (l _))
      ends_stop (Some bs) left r at fault l = end_stopped bs left r at fault (l bs)

-- ---- the same by another name

-- a run of which each fault bears another name: what was found, and what stood before it, are the same
module _ {F G : Type 0} (conv : F → G) (name : ReadFault → F) (name' : ReadFault → G) (test : Seen → Option F) (test' : Seen → Option G)
    (names : (f : ReadFault) → name' f ≡ conv (name f)) (tests : (s : Seen) → test' s ≡ option_map conv (test s)) where
  map_then : (a b : Option F) → or_then (option_map conv a) (option_map conv b) ≡ option_map conv (or_then a b)
  map_then None b = refl
  map_then (Some f) b = refl

  named_as : (o : Option PacketFault) → named name' o ≡ option_map conv (named name o)
  named_as None = refl
  named_as (Some packet_faults.SyncLost) = ap Some (names read_faults.SyncLost)
  named_as (Some packet_faults.BadAdaptation) = ap Some (names read_faults.BadAdaptation)

  fault_as : (s : Seen) → fault_of name' test' s ≡ option_map conv (fault_of name test s)
  fault_as s = ap (λ o. or_then o (test' s)) (named_as (packet_fault s.packet)) ∙ ap (or_then (option_map conv (named name (packet_fault s.packet)))) (tests s) ∙ map_then (named name (packet_fault s.packet)) (test s)

  pub first_as : (ss : List Seen) → first_of (fault_of name' test') ss ≡ option_map conv (first_of (fault_of name test) ss)
  first_as [] = refl
  first_as (s ∷ ss) =
      ap (λ o. or_then o (first_of (fault_of name' test') ss)) (fault_as s) ∙ ap (or_then (option_map conv (fault_of name test s))) (first_as ss) ∙ map_then (fault_of name test s) (first_of (fault_of name test) ss)

  front_by : (o : Option F) (o' : Option G) → o' ≡ option_map conv o → (p : List ℕ) (ps qs : List (List ℕ)) → ps ≡ qs
      → (elim o' as (λ (w : Option G). List (List ℕ)) [ None ↦ p ∷ ps | Some g ↦ [] ]) ≡ (elim o as (λ (w : Option F). List (List ℕ)) [ None ↦ p ∷ qs | Some f ↦ [] ])
  front_by None o' e p ps qs h = ap (λ w. elim w as (λ (v : Option G). List (List ℕ)) [ None ↦ p ∷ ps | Some g ↦ [] ]) e ∙ ap (λ l. p ∷ l) h
  front_by (Some f) o' e p ps qs h = ap (λ w. elim w as (λ (v : Option G). List (List ℕ)) [ None ↦ p ∷ ps | Some g ↦ [] ]) e

  front_as : (ss : List Seen) → sound_front (fault_of name' test') ss ≡ sound_front (fault_of name test) ss
  front_as [] = refl
  front_as (s ∷ ss) = front_by (fault_of name test s) (fault_of name' test' s) (fault_as s) s.packet _ _ (front_as ss)

  behind_as : (rest : List ℕ) → fault_behind name' rest ≡ option_map conv (fault_behind name rest)
  behind_as rest = by (length rest == 0)
    where
      by : (b : Bool) → (if b then None else Some (name' read_faults.Truncated)) ≡ option_map conv (if b then None else Some (name read_faults.Truncated))
      by true = refl
      by false = ap Some (names read_faults.Truncated)

  pub first_fault_as : (bs : List ℕ) → first_fault name' test' bs ≡ option_map conv (first_fault name test bs)
  first_fault_as bs =
      ap (λ o. or_then o (fault_behind name' (last_part bs))) (first_as (seen_after [] (packets_of bs)))
      ∙ ap (or_then (option_map conv (first_of (fault_of name test) (seen_after [] (packets_of bs))))) (behind_as (last_part bs))
      ∙ map_then (first_of (fault_of name test) (seen_after [] (packets_of bs))) (fault_behind name (last_part bs))

  pub none_as : (bs : List ℕ) → first_fault name test bs ≡ None → first_fault name' test' bs ≡ None
  none_as bs e = first_fault_as bs ∙ ap (option_map conv) e

  -- what is left of a run that stopped may say more by that name
  pub stopped_as : (cause : F → Cause) (cause' : G → Cause) (fault : F) → cause' (conv fault) ≡ cause fault → (bs : List ℕ) (leaves leaves' : List ℕ → List (List ℕ) → List (List ℕ) → Type 0)
      → ((passed rest : List (List ℕ)) → leaves bs passed rest → leaves' bs passed rest) → Stopped name test cause fault bs leaves → Stopped name' test' cause' (conv fault) bs leaves'
  stopped_as cause cause' fault same bs leaves leaves' so h = record {
    passed = h.passed;
    rest = h.rest;
    parts = h.parts;
    sound = first_as (seen_after [] h.passed) ∙ ap (option_map conv) h.sound;
    says = subst (λ c. SaysBy c ((first_fault name' test' bs ≡ Some (conv fault)) × (before_fault name' test' bs ≡ h.passed))) (sym same)
        (says_so (cause fault) (λ w. (first_fault_as bs ∙ ap (option_map conv) w.0, front_as (seen_after [] (packets_of bs)) ∙ w.1)) h.says);
    left = so h.passed h.rest h.left;
  }

  pub stops_as : (cause : F → Cause) (cause' : G → Cause) (fault : F) → cause' (conv fault) ≡ cause fault → (input : Option (List ℕ)) (leaves leaves' : List ℕ → List (List ℕ) → List (List ℕ) → Type 0)
      → ((bs : List ℕ) (passed rest : List (List ℕ)) → leaves bs passed rest → leaves' bs passed rest) → StopsBy name test cause fault input leaves → StopsBy name' test' cause' (conv fault) input leaves'
  stops_as cause cause' fault same None leaves leaves' so (bs, h) = (bs, stopped_as cause cause' fault same bs leaves leaves' (so bs) h)
  stops_as cause cause' fault same (Some bs) leaves leaves' so h = stopped_as cause cause' fault same bs leaves leaves' (so bs) h
