-- A packet that none of some services takes: each stays as it is.
use Rattle.std.proofs.Common.{◌≡◌, ℕ, List, [], ◌∷◌, ◌++◌, false, ◌||◌, refl, sym, ap, subst, ◌∙◌}
use Rattle.std.specs.Prelude.{if◌then◌else◌}
use Rattle.std.specs.List.{list_any}
use Rattle.std.proofs.lemmas.Bool.{or_parts, or_from}
use Rattle.ts_packet.specs.Fields.{pid_of}
use Rattle.wire_fields.specs.Numbers.{AreBytes}
use Rattle.service_laws.specs.Services.{ServiceTerms}
use Rattle.services_on_air.specs.Airing.{Airing, nexts, owns, leaves, learns, is_left}
use Rattle.services_on_air.specs.Histories.{Gone, HasGone, begins_anew, gone_on, gone_settled, put_settled, put_own, aired_as}
use Rattle.services_on_air.specs.Standing.{AllStand, AllSettled}
use Rattle.services_on_air.specs.Serving.{AllGone, gones_settled, puts_settled, gones_on, puts_on}
use Rattle.services_on_air.specs.Owners.{AllJudged, MayAllStay, AreLeftOut}
use Rattle.services_on_air.specs.declared.service.AirService.{AirService}
use Rattle.services_on_air.proofs.ServiceLemmas.{leaves-is}
use Rattle.services_on_air.proofs.BesideLemmas.{stays-same, stays-settled, left-out, stays-behind, stays-passed, stays-gone}

-- ---- it is settled

pub record AllStay (ss : List AirService) (p : List ℕ) (xs : List Airing) : Type 0 where
  pub settled : AllSettled ss p (nexts p xs)
  pub same : list_any (begins_anew p) xs ≡ false
  pub left : AreLeftOut 0 ss (pid_of p) (nexts p xs)

pub all-stay : (ss : List AirService) (p : List ℕ) (xs : List Airing) → AllStand ss xs → MayAllStay 0 ss (pid_of p) xs → AllStay ss p xs
all-stay [] p [] h may = record { settled = tt; same = refl; left = tt }
all-stay [] p (a ∷ xs) h may = absurd h
all-stay (s ∷ ss) p [] h may = absurd h
all-stay (s ∷ ss) p (a ∷ xs) h may =
    let one = may.0.0 refl in
    let more = all-stay ss p xs h.1 (may.0.1, may.1.1) in
    record {
      settled = (stays-settled s p a h.0 one may.1.0, more.settled);
      same = or_from (begins_anew p a) (list_any (begins_anew p) xs) (stays-same s p a h.0 one) more.same;
      left = (λ bit. left-out s p a h.0 (one, may.1.0), more.left);
    }

-- what each has gone stays, and nothing is put
pub stay-gone : (ss : List AirService) (ts : List ServiceTerms) (gs : List Gone) (p : List ℕ) (xs : List Airing) → AllStand ss xs → AllGone ss ts gs → list_any (begins_anew p) xs ≡ false
    → (gones_settled ts p xs gs ≡ gs) × (puts_settled ts p xs gs ≡ [])
stay-gone [] [] [] p [] h k none = (refl, refl)
stay-gone [] [] [] p (a ∷ xs) h k none = absurd h
stay-gone [] [] (g ∷ gs) p xs h k none = absurd k
stay-gone [] (t ∷ ts) gs p xs h k none = absurd k
stay-gone (s ∷ ss) [] gs p xs h k none = absurd k
stay-gone (s ∷ ss) (t ∷ ts) [] p xs h k none = absurd k
stay-gone (s ∷ ss) (t ∷ ts) (g ∷ gs) p [] h k none = absurd h
stay-gone (s ∷ ss) (t ∷ ts) (g ∷ gs) p (a ∷ xs) h k none =
    let r = or_parts (begins_anew p a) (list_any (begins_anew p) xs) none in
    let (more, put) = stay-gone ss ts gs p xs h.1 k.1 r.1 in (
      ap (λ b. gone_settled t b g ∷ gones_settled ts p xs gs) r.0 ∙ ap (λ l. g ∷ l) more,
      ap (λ b. put_settled t b g ++ puts_settled ts p xs gs) r.0 ∙ put,
    )

-- ---- it passes

-- none owns it, none leaves it unjudged, and no PID is learned
pub record AllPass (ss : List AirService) (p : List ℕ) (ys : List Airing) : Type 0 where
  pub stand : AllStand ss ys
  pub own : list_any (owns p) ys ≡ false
  pub unjudged : is_left p ys ≡ false
  pub learns : list_any learns ys ≡ false
  pub judged : AllJudged ss

pub all-pass : (ss : List AirService) (p : List ℕ) (ys : List Airing) → AllSettled ss p ys → AreLeftOut 0 ss (pid_of p) ys → AllPass ss p ys
all-pass [] p [] h left = record { stand = tt; own = refl; unjudged = refl; learns = refl; judged = tt }
all-pass [] p (a ∷ ys) h left = absurd h
all-pass (s ∷ ss) p [] h left = absurd h
all-pass (s ∷ ss) p (a ∷ ys) h left =
    let l = left.0 refl in
    let one = stays-passed s p a h.0 l (record { is_own = false; is_unjudged = false; learns = false; has_left = false; has_turned = false }) refl refl refl in
    let more = all-pass ss p ys h.1 left.1 in
    record {
      stand = (stays-behind s p a h.0 l, more.stand);
      own = or_from (owns p a) (list_any (owns p) ys) (sym one.own) more.own;
      unjudged = ap (λ b. if b then leaves a else (if list_any (owns p) ys then is_left p ys else (leaves a || is_left p ys))) (sym one.own)
          ∙ ap (λ b. if b then is_left p ys else (leaves a || is_left p ys)) more.own ∙ or_from (leaves a) (is_left p ys) (sym one.unjudged) more.unjudged;
      learns = or_from (learns a) (list_any learns ys) (sym one.learns) more.learns;
      judged = (l.judged, more.judged);
    }

pub pass-gone : (ss : List AirService) (ts : List ServiceTerms) (gs : List Gone) (p : List ℕ) (ys : List Airing) → AreBytes p → AllSettled ss p ys → AreLeftOut 0 ss (pid_of p) ys → AllGone ss ts gs
    → AllGone ss ts (gones_on ts p ys gs) × (puts_on ts p ys gs ≡ [])
pass-gone [] [] [] p [] bytes h left k = (tt, refl)
pass-gone [] [] [] p (a ∷ ys) bytes h left k = absurd h
pass-gone [] [] (g ∷ gs) p ys bytes h left k = absurd k
pass-gone [] (t ∷ ts) gs p ys bytes h left k = absurd k
pass-gone (s ∷ ss) [] gs p ys bytes h left k = absurd k
pass-gone (s ∷ ss) (t ∷ ts) [] p ys bytes h left k = absurd k
pass-gone (s ∷ ss) (t ∷ ts) (g ∷ gs) p [] bytes h left k = absurd h
pass-gone (s ∷ ss) (t ∷ ts) (g ∷ gs) p (a ∷ ys) bytes h left k =
    let l = left.0 refl in
    let one = stays-passed s p a h.0 l (record { is_own = false; is_unjudged = false; learns = false; has_left = false; has_turned = false }) refl refl refl in
    let (more, put) = pass-gone ss ts gs p ys bytes h.1 left.1 k.1 in (
      (subst (λ b. HasGone s t (gone_on t (aired_as p b) g)) (leaves-is s p a h.0) (stays-gone s p a h.0 l t g bytes k.0), more),
      ap (λ b. put_own b t (aired_as p (leaves a)) g ++ puts_on ts p ys gs) (sym one.own) ∙ put,
    )
