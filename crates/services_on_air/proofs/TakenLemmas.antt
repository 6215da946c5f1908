-- A packet that one of some services alone takes, and for which it goes on alone: each stays as it is.
use Rattle.std.proofs.Common.{◌≡◌, ℕ, List, [], ◌∷◌, ◌++◌, length, false, sym, subst, ◌∙◌}
use Rattle.std.specs.List.{list_any}
use Rattle.std.proofs.lemmas.Bool.{or_from}
use Rattle.ts_packet.specs.Fields.{pid_of}
use Rattle.chain_services.specs.Owners.{IsShifted}
use Rattle.services_on_air.specs.Airing.{Airing, next_of, nexts}
use Rattle.services_on_air.specs.Histories.{begins_anew}
use Rattle.services_on_air.specs.Standing.{AirStandsFor, IsSettled, AllStand, AllSettled}
use Rattle.services_on_air.specs.Owners.{MayAllStay, AreLeftOut}
use Rattle.services_on_air.specs.declared.service.AirService.{AirService}
use Rattle.services_on_air.proofs.StayLemmas.{all-stay}
use Rattle.services_on_air.proofs.FrontLemmas.{behind-settled}

-- it is settled for each
pub record AllStill (ss : List AirService) (takers : ℕ) (p : List ℕ) (xs : List Airing) : Type 0 where
  pub settled : AllSettled ss p (nexts p xs)
  pub same : list_any (begins_anew p) xs ≡ false
  pub left : AreLeftOut takers ss (pid_of p) (nexts p xs)

-- the first of these takes it
first-stays : (s : AirService) (ss : List AirService) (p : List ℕ) (ys : List Airing) → AllStand (s ∷ ss) ys → MayAllStay 1 (s ∷ ss) (pid_of p) ys
    → ((a : Airing) → AirStandsFor s a → IsSettled s p (next_of p a)) → ((a : Airing) → AirStandsFor s a → begins_anew p a ≡ false) → AllStill (s ∷ ss) 1 p ys
first-stays s ss p [] h may settles same = absurd h
first-stays s ss p (a ∷ ys) h may settles same =
    let rest = all-stay ss p ys h.1 (may.0.1, may.1.1) in
    record {
      settled = (settles a h.0, rest.settled);
      same = or_from (begins_anew p a) (list_any (begins_anew p) ys) (same a h.0) rest.same;
      left = ((λ bit. absurd (cc)), rest.left);
    }

-- the one behind a front of these does
pub taker-stays : (items front : List AirService) (s : AirService) (ss : List AirService) (takers : ℕ) (p : List ℕ) (xs : List Airing) → items ≡ front ++ s ∷ ss → IsShifted (length front) 1 takers
    → AllStand items xs → MayAllStay takers items (pid_of p) xs → ((a : Airing) → AirStandsFor s a → IsSettled s p (next_of p a)) → ((a : Airing) → AirStandsFor s a → begins_anew p a ≡ false)
    → AllStill items takers p xs
taker-stays items front s ss takers p xs whole shifted h may settles same =
    let w = behind-settled front (s ∷ ss) 1 takers p xs shifted (subst (λ l. AllStand l xs) whole h) (subst (λ l. MayAllStay takers l (pid_of p) xs) whole may) in
    let k = first-stays s ss p w.ys w.stand w.may settles same in
    subst (λ l. AllStill l takers p xs) (sym whole) (record { settled = w.settled (s ∷ ss) k.settled; same = w.same ∙ k.same; left = w.leave (s ∷ ss) k.left })
