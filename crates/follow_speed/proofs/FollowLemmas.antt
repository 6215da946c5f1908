-- A run over a network, on the way and at its end.
use Rattle.std.specs.Prelude.{option_map}
use Rattle.std.specs.Io.KnownBytes.{IsAtEnd}
use Rattle.std.proofs.Common.{◌≡◌, ℕ, List, [], ◌∷◌, ◌++◌, Bool, false, sym, ap, subst, Option, None, reverse}
use Rattle.std.proofs.lemmas.List.Elements.{All-nil}
use Rattle.ts_packet.specs.Sources.{WasGiven, Refuses}
use Rattle.ts_packet.specs.Runs.{Seen}
use Rattle.ts_packet.specs.declared.reader.ReadFault.{ReadFault}
use Rattle.ts_packet.proofs.PacketsLemmas.{read_none, read_more}
use Rattle.std.proofs.lemmas.List.{reverse-append}
use Rattle.ts_packet.proofs.FirstFaultLemmas.{sound_more}
use Rattle.program_follower.specs.declared.follower.ProgramFollower.{ProgramFollower}
use Rattle.program_follower.specs.declared.follower.FollowFault.{FollowFault}
use Rattle.program_follower.specs.declared.follower.FollowFault.TheVariants as follow_faults
use Rattle.program_follower.specs.Purposes.{reading_advertisement}
use Rattle.program_follower.specs.Faults.{network_fault}
use Rattle.program_follower.specs.FirstFault.{network_test}
use Rattle.program_follower.specs.Following.{FollowerStandsFor, IsNetwork}
use Rattle.ts_packet.proofs.StoppedLemmas.{ends_sound, reader_stops, packet_stops}
use Rattle.follow_speed.specs.declared.RunFault.TheVariants.{Read, Follow}
use Rattle.follow_speed.specs.Runs.{of_network, HasNoFault, Stops, HasFollowed}

pub begins : (input : Option (List ℕ)) (follower : ProgramFollower) → FollowerStandsFor follower reading_advertisement [] → HasFollowed input input follower []
begins input follower h = record { read = read_none input; sound = All-nil (λ (s : Seen). network_test of_network reading_advertisement s ≡ None); follows = h }

module _ (input left : Option (List ℕ)) (follower : ProgramFollower) (ps : List (List ℕ)) (h : HasFollowed input left follower ps) where
  pub goes_on : (left' : Option (List ℕ)) (next : ProgramFollower) (p : List ℕ) → WasGiven left left' p → network_fault reading_advertisement p (reverse ps) ≡ None
      → FollowerStandsFor next reading_advertisement (p ∷ reverse ps) → HasFollowed input left' next (ps ++ p ∷ [])
  goes_on left' next p g clean n = record {
    read = read_more input left left' ps p h.read g;
    sound = sound_more (network_test of_network reading_advertisement) ps p h.sound (ap (option_map of_network) clean);
    follows = subst (FollowerStandsFor next reading_advertisement) (sym (reverse-append ps (p ∷ []))) n;
  }

  pub ends : IsAtEnd left → HasNoFault input
  ends e = ends_sound Read (network_test of_network reading_advertisement) input left ps h.read h.sound e

  pub read_stops : (broken : Bool) → broken ≡ false → (fault : ReadFault) → Refuses broken left fault → Stops (Read fault) input
  read_stops broken n fault k =
      let P : Bool → Type 0 = λ b. Refuses b left fault in
      reader_stops Read (network_test of_network reading_advertisement) input left ps h.read h.sound fault (subst P n k)

  pub follow_stops : (left' : Option (List ℕ)) (p : List ℕ) → WasGiven left left' p → (fault : FollowFault) → IsNetwork fault (network_fault reading_advertisement p (reverse ps)) → Stops (Follow fault) input
  follow_stops left' p g (follow_faults.Network fault) e =
      packet_stops Read (network_test of_network reading_advertisement) input left left' ps p (of_network fault) h.read h.sound g (ap (option_map of_network) e)
  follow_stops left' p g follow_faults.Failed e = absurd e
