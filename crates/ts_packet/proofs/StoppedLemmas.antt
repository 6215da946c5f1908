-- The first fault of the bytes of a run, for any test: packets that are sound so far, and then the end, a fault of the reader or one of
-- a packet.
use Rattle.std.specs.Prelude.{All}
use Rattle.std.specs.Io.KnownBytes.{IsAtEnd}
use Rattle.std.proofs.Common.{◌≡◌, ℕ, ◌≤◌, List, [], ◌∷◌, ◌++◌, false, ap, ◌∙◌, append_assoc, Option, Some, None, IfSome, reverse, length, take, drop}
use Rattle.ts_packet.specs.Packets.{packets_of, last_part, packet_fault}
use Rattle.ts_packet.specs.Sources.{WasGiven, HasRead, Refuses}
use Rattle.ts_packet.specs.Runs.{Seen, seen_after}
use Rattle.ts_packet.specs.FirstFault.{or_then, first_of, named, fault_of, fault_behind, first_fault, read_cause, SaysBy}
use Rattle.ts_packet.specs.declared.reader.ReadFault.{ReadFault}
use Rattle.ts_packet.specs.declared.reader.ReadFault.TheVariants as read_faults
use Rattle.ts_packet.proofs.PacketsLemmas.{read_more, read_all, read_before, read_to_end, packets_of-append}
use Rattle.ts_packet.proofs.FirstFaultLemmas.{sound_all, fault_behind_sound, behind_some}

module _ {F : Type 0} (name : ReadFault → F) (test : Seen → Option F) where
  -- of these packets, and what stands behind them
  abbrev pub found : List (List ℕ) → List ℕ → Option F
  found ps rest = or_then (first_of (fault_of name test) (seen_after [] ps)) (fault_behind name rest)

  pub by_parts : (bs rest : List ℕ) (ps : List (List ℕ)) → packets_of bs ≡ ps → last_part bs ≡ rest → first_fault name test bs ≡ found ps rest
  by_parts bs rest ps e l = ap (λ q. found q (last_part bs)) e ∙ ap (found ps) l

  abbrev pub AreSound : List (List ℕ) → Type 0
  AreSound ps = All (λ (s : Seen). test s ≡ None) (seen_after [] ps)

  sound_found : (ps : List (List ℕ)) (rest : List ℕ) → All (λ p. packet_fault p ≡ None) ps → AreSound ps → found ps rest ≡ fault_behind name rest
  sound_found ps rest a b = ap (λ g. or_then g (fault_behind name rest)) (sound_all name test ps a b).0

  stops_at : (bs : List ℕ) (ps : List (List ℕ)) (p : List ℕ) (qs : List (List ℕ)) (f : F) → packets_of bs ≡ ps ++ p ∷ qs → All (λ q. packet_fault q ≡ None) ps → AreSound ps
      → fault_of name test (record { packet = p; past = reverse ps }) ≡ Some f → first_fault name test bs ≡ Some f
  stops_at bs ps p qs f e a b at =
      ap (λ q. found q (last_part bs)) e ∙ ap (λ g. or_then g (fault_behind name (last_part bs))) (fault_behind_sound name test ps p qs f a b at).0

  -- all were read
  pub ends_sound : (input left : Option (List ℕ)) (ps : List (List ℕ)) → HasRead input left ps → AreSound ps → IsAtEnd left → IfSome input (λ bs. first_fault name test bs ≡ None)
  ends_sound None left ps h b e = tt
  ends_sound (Some bs) left ps h b e = let all = read_to_end (Some bs) left ps h e in by_parts bs [] ps all.0 all.1 ∙ sound_found ps [] h.sound b

  -- the reader stops
  module _ (bs rest : List ℕ) (ps : List (List ℕ)) (h : HasRead (Some bs) (Some rest) ps) (b : AreSound ps) where
    by_name : (s : Seen) (f : F) → named name (packet_fault s.packet) ≡ Some f → fault_of name test s ≡ Some f
    by_name s f e = ap (λ o. or_then o (test s)) e

    refused : (f : F) → 188 ≤ length rest → named name (packet_fault (take 188 rest)) ≡ Some f → first_fault name test bs ≡ Some f
    refused f long e =
        stops_at bs ps (take 188 rest) (packets_of (drop 188 rest)) f (read_before (Some bs) (Some rest) ps h long) h.sound b (by_name (record { packet = take 188 rest; past = reverse ps }) f e)

    says : (fault : ReadFault) → Refuses false (Some rest) fault → SaysBy (read_cause fault) (first_fault name test bs ≡ Some (name fault))
    says read_faults.Truncated k =
        let all = read_all (Some bs) (Some rest) ps h k.1 in
        by_parts bs rest ps all.0 all.1 ∙ sound_found ps rest h.sound b ∙ behind_some name test rest k.0
    says read_faults.SyncLost k = refused (name read_faults.SyncLost) k.0 (ap (named name) k.1)
    says read_faults.BadAdaptation k = refused (name read_faults.BadAdaptation) k.0 (ap (named name) k.1)
    says read_faults.Io k = tt
    says read_faults.Turns k = tt
    says read_faults.Failed k = absurd (cc)

  pub reader_stops : (input left : Option (List ℕ)) (ps : List (List ℕ)) → HasRead input left ps → AreSound ps → (fault : ReadFault) → Refuses false left fault
      → IfSome input (λ bs. SaysBy (read_cause fault) (first_fault name test bs ≡ Some (name fault)))
  reader_stops None left ps h b fault k = tt
  reader_stops (Some bs) None ps h b fault k = absurd h.bytes
  reader_stops (Some bs) (Some rest) ps h b fault k = says bs rest ps h b fault k

  -- a packet stops the run
  pub packet_stops : (input left left' : Option (List ℕ)) (ps : List (List ℕ)) (p : List ℕ) (f : F) → HasRead input left ps → AreSound ps → WasGiven left left' p
      → test (record { packet = p; past = reverse ps }) ≡ Some f → IfSome input (λ bs. first_fault name test bs ≡ Some f)
  packet_stops None left left' ps p f h b g e = tt
  packet_stops (Some bs) left None ps p f h b g e = absurd (read_more (Some bs) left None ps p h g).bytes
  packet_stops (Some bs) left (Some rest) ps p f h b g e =
      let more = read_more (Some bs) left (Some rest) ps p h g in
      let here : packets_of bs ≡ ps ++ p ∷ packets_of rest = ap packets_of more.bytes ∙ packets_of-append (ps ++ p ∷ []) rest more.sizes ∙ append_assoc ps (p ∷ []) (packets_of rest) in
      stops_at bs ps p (packets_of rest) f here h.sound b (ap (λ g. or_then (named name g) (test (record { packet = p; past = reverse ps }))) g.sound ∙ e)
