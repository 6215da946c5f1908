-- Where the first fault of a run stands.
use Rattle.std.specs.Prelude.{All}
use Rattle.std.proofs.Common.{◌≡◌, ℕ, ◌<◌, ◌==◌, List, [], ◌∷◌, ◌++◌, false, refl, sym, ap, ◌∙◌, Option, None, Some, if◌then◌else◌, reverse, length, arith, subst}
use Rattle.std.proofs.lemmas.List.{append-nil}
use Rattle.std.proofs.lemmas.List.Elements.{All-head, All-tail, All-push}
use Rattle.std.proofs.lemmas.Grind.{common_steps}
use Rattle.ts_packet.specs.Packets.{packet_fault}
use Rattle.ts_packet.specs.Runs.{Seen, seen_after}
use Rattle.ts_packet.specs.FirstFault.{or_then, first_of, sound_front, named, fault_of, fault_behind, Cause, OfInput, OfDevice, OfNothing, SaysBy}
use Rattle.ts_packet.specs.declared.reader.ReadFault.{ReadFault}
use Rattle.ts_packet.specs.declared.reader.ReadFault.TheVariants as read_faults
use Rattle.ts_packet.proofs.RunLemmas.{seen_after-append}

or_then_none : {F : Type 0} (a : Option F) → a ≡ None → (b : Option F) → or_then a b ≡ b
or_then_none None e b = refl
or_then_none (Some f) e b = absurd (cc)

module _ {F : Type 0} (name : ReadFault → F) (test : Seen → Option F) where
  pub fault_none : (s : Seen) → packet_fault s.packet ≡ None → test s ≡ None → fault_of name test s ≡ None
  fault_none s a b = ap (λ f. or_then (named name f) (test s)) a ∙ b

  front_more : (s : Seen) → fault_of name test s ≡ None → (ss : List Seen) → sound_front (fault_of name test) (s ∷ ss) ≡ s.packet ∷ sound_front (fault_of name test) ss
  front_more s none ss = ap (λ f. elim f as (λ (o : Option F). List (List ℕ)) [ None ↦ s.packet ∷ sound_front (fault_of name test) ss | Some g ↦ [] ]) none

  front_stops : (s : Seen) (f : F) → fault_of name test s ≡ Some f → (ss : List Seen) → sound_front (fault_of name test) (s ∷ ss) ≡ []
  front_stops s f e ss = ap (λ g. elim g as (λ (o : Option F). List (List ℕ)) [ None ↦ s.packet ∷ sound_front (fault_of name test) ss | Some h ↦ [] ]) e

  -- sound packets, and then others
  pub first_behind : (past ps : List (List ℕ)) (ss : List Seen) → All (λ p. packet_fault p ≡ None) ps → All (λ (s : Seen). test s ≡ None) (seen_after past ps)
      → (first_of (fault_of name test) (seen_after past ps ++ ss) ≡ first_of (fault_of name test) ss)
      × (sound_front (fault_of name test) (seen_after past ps ++ ss) ≡ ps ++ sound_front (fault_of name test) ss)
  first_behind past [] ss a b = (refl, refl)
  first_behind past (p ∷ ps) ss a b =
      let s : Seen = record { packet = p; past = past } in
      let none = fault_none s (All-head (λ q. packet_fault q ≡ None) p ps a) (All-head (λ (t : Seen). test t ≡ None) s (seen_after (p ∷ past) ps) b) in
      let more = first_behind (p ∷ past) ps ss (All-tail (λ q. packet_fault q ≡ None) p ps a) (All-tail (λ (t : Seen). test t ≡ None) s (seen_after (p ∷ past) ps) b) in (
        or_then_none (fault_of name test s) none (first_of (fault_of name test) (seen_after (p ∷ past) ps ++ ss)) ∙ more.0,
        front_more s none (seen_after (p ∷ past) ps ++ ss) ∙ ap (λ l. p ∷ l) more.1,
      )

  -- all are sound
  pub sound_all : (ps : List (List ℕ)) → All (λ p. packet_fault p ≡ None) ps → All (λ (s : Seen). test s ≡ None) (seen_after [] ps)
      → (first_of (fault_of name test) (seen_after [] ps) ≡ None) × (sound_front (fault_of name test) (seen_after [] ps) ≡ ps)
  sound_all ps a b =
      let all = first_behind [] ps [] a b in
      (ap (first_of (fault_of name test)) (sym (append-nil (seen_after [] ps))) ∙ all.0, ap (sound_front (fault_of name test)) (sym (append-nil (seen_after [] ps))) ∙ all.1 ∙ append-nil ps)

  -- the packet behind them has a fault
  pub fault_behind_sound : (ps : List (List ℕ)) (p : List ℕ) (qs : List (List ℕ)) (f : F) → All (λ q. packet_fault q ≡ None) ps → All (λ (s : Seen). test s ≡ None) (seen_after [] ps)
      → fault_of name test (record { packet = p; past = reverse ps }) ≡ Some f
      → (first_of (fault_of name test) (seen_after [] (ps ++ p ∷ qs)) ≡ Some f) × (sound_front (fault_of name test) (seen_after [] (ps ++ p ∷ qs)) ≡ ps)
  fault_behind_sound ps p qs f a b e =
      let s : Seen = record { packet = p; past = reverse ps } in
      let rest = s ∷ seen_after (p ∷ reverse ps) qs in
      let all = first_behind [] ps rest a b in
      let split = seen_after-append [] ps (p ∷ qs) in (
        ap (first_of (fault_of name test)) split ∙ all.0 ∙ ap (λ g. or_then g (first_of (fault_of name test) (seen_after (p ∷ reverse ps) qs))) e,
        ap (sound_front (fault_of name test)) split ∙ all.1 ∙ ap (λ l. ps ++ l) (front_stops s f e (seen_after (p ∷ reverse ps) qs)) ∙ append-nil ps,
      )

  -- a last part that is there is a fault
  pub behind_some : (rest : List ℕ) → 0 < length rest → fault_behind name rest ≡ Some (name read_faults.Truncated)
  behind_some [] h = absurd (omega (arith, h))
  behind_some (b ∷ rest) h = let e : (length (b ∷ rest) == 0) ≡ false = grind (arith, common_steps) in ap (λ t. if t then None else Some (name read_faults.Truncated)) e

-- one more packet that passes a test
pub sound_more : {F : Type 0} (test : Seen → Option F) (ps : List (List ℕ)) (p : List ℕ) → All (λ (s : Seen). test s ≡ None) (seen_after [] ps) → test (record { packet = p; past = reverse ps }) ≡ None
    → All (λ (s : Seen). test s ≡ None) (seen_after [] (ps ++ p ∷ []))
sound_more test ps p h e =
    let s : Seen = record { packet = p; past = reverse ps } in
    let P = λ (t : Seen). test t ≡ None in
    subst (All P) (sym (seen_after-append [] ps (p ∷ []))) (All-push P (seen_after [] ps) s h e)

-- what is first by one statement is so by another that follows from it
pub says_so : {A B : Type 0} (cause : Cause) → (A → B) → SaysBy cause A → SaysBy cause B
says_so OfInput f h = f h
says_so OfDevice f h = tt
says_so OfNothing f h = absurd h
