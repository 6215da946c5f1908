-- Services that take a packet, behind some that do not: these stay as they are.
use Rattle.std.proofs.Common.{◌≡◌, ◌+◌, ◌/◌, ℕ, length, List, [], ◌∷◌, ◌++◌, Bool, true, false, ◌||◌, drop, refl, sym, ap, subst, ◌∙◌, arith}
use Rattle.std.specs.Prelude.{if◌then◌else◌, Result, Ok, Err, OnOk}
use Rattle.std.specs.List.{list_any}
use Rattle.std.proofs.lemmas.List.{length-append}
use lib.Seq.{drop-append_seam}
use Rattle.chain_services.specs.declared.owners.Alone.{Alone}
use Rattle.ts_packet.specs.Fields.{pid_of}
use Rattle.wire_fields.specs.Numbers.{AreBytes}
use Rattle.ad_library.specs.declared.library.AdLibrary.{AdLibrary}
use Rattle.service_laws.specs.Services.{ServiceTerms}
use Rattle.chain_services.specs.Owners.{IsShifted}
use Rattle.chain_services.specs.Serving.{FiledAs}
use Rattle.services_on_air.specs.Airing.{Airing, nexts, owns, leaves, learns, is_left}
use Rattle.services_on_air.specs.Histories.{Gone, HasGone, begins_anew, gone_on, gone_settled, put_settled, put_own, aired_as}
use Rattle.services_on_air.specs.Standing.{AllStand, AllSettled}
use Rattle.services_on_air.specs.Serving.{AllGone, gones_settled, puts_settled, gones_on, puts_on}
use Rattle.services_on_air.specs.Owners.{AllJudged, MayAllStay, AreLeftOut, FirstGoesOnAir, TakerGoesOn}
use Rattle.services_on_air.specs.declared.service.AirService.{AirService}
use Rattle.services_on_air.proofs.ServiceLemmas.{leaves-is}
use Rattle.services_on_air.proofs.BesideLemmas.{stays-same, stays-settled, left-out, stays-behind, stays-passed, stays-gone}

-- ---- it is settled

-- what is so of the services behind a front of these
pub record BehindSettled (front back : List AirService) (left takers : ℕ) (p : List ℕ) (xs : List Airing) : Type 0 where
  pub ys : List Airing
  pub long : length xs ≡ length front + length ys
  pub stand : AllStand back ys
  pub may : MayAllStay left back (pid_of p) ys
  pub settled : (new : List AirService) → AllSettled new p (nexts p ys) → AllSettled (front ++ new) p (nexts p xs)
  pub same : list_any (begins_anew p) xs ≡ list_any (begins_anew p) ys
  pub leave : (new : List AirService) → AreLeftOut left new (pid_of p) (nexts p ys) → AreLeftOut takers (front ++ new) (pid_of p) (nexts p xs)

pub behind-settled : (front back : List AirService) (left takers : ℕ) (p : List ℕ) (xs : List Airing) → IsShifted (length front) left takers → AllStand (front ++ back) xs
    → MayAllStay takers (front ++ back) (pid_of p) xs → BehindSettled front back left takers p xs
behind-settled [] back left takers p xs shifted h may = record {
  ys = xs;
  long = omega arith;
  stand = h;
  may = subst (λ n. MayAllStay n back (pid_of p) xs) (sym shifted) may;
  settled = λ new k. k;
  same = refl;
  leave = λ new k. subst (λ n. AreLeftOut n new (pid_of p) (nexts p xs)) shifted k;
}
behind-settled (s ∷ front) back left takers p [] shifted h may = absurd h
behind-settled (s ∷ front) back left takers p (a ∷ xs) shifted h may =
    let one = may.0.0 shifted.0 in
    let r = behind-settled front back left (takers / 2) p xs shifted.1 h.1 (may.0.1, may.1.1) in
    record {
      ys = r.ys;
      long = let e = r.long in omega (arith, e);
      stand = r.stand;
      may = r.may;
      settled = λ new k. (stays-settled s p a h.0 one may.1.0, r.settled new k);
      same = ap (λ b. b || list_any (begins_anew p) xs) (stays-same s p a h.0 one) ∙ r.same;
      leave = λ new k. (λ bit. left-out s p a h.0 (one, may.1.0), r.leave new k);
    }

-- and of what has gone of them
pub record GoneBehindSettled {A : Type 0} (libraries : List (AdLibrary A)) (front back : List AirService) (left : ℕ) (ts : List ServiceTerms) (gs : List Gone) (p : List ℕ) (xs : List Airing) : Type 0 where
  pub ys : List Airing
  pub us : List ServiceTerms
  pub hs : List Gone
  pub stand : AllStand back ys
  pub may : MayAllStay left back (pid_of p) ys
  pub filed : FiledAs libraries us
  pub all : AllGone back us hs
  pub gone : (new : List AirService) → AllGone new us (gones_settled us p ys hs) → AllGone (front ++ new) ts (gones_settled ts p xs gs)
  pub put : puts_settled ts p xs gs ≡ puts_settled us p ys hs

pub gone-behind-settled : {A : Type 0} (lfront lback : List (AdLibrary A)) (front back : List AirService) (left takers : ℕ) (ts : List ServiceTerms) (gs : List Gone) (p : List ℕ) (xs : List Airing)
    → length lfront ≡ length front → IsShifted (length front) left takers → AllStand (front ++ back) xs → MayAllStay takers (front ++ back) (pid_of p) xs → FiledAs (lfront ++ lback) ts
    → AllGone (front ++ back) ts gs → GoneBehindSettled lback front back left ts gs p xs
gone-behind-settled [] lback [] back left takers ts gs p xs same shifted h may filed all = record {
  ys = xs;
  us = ts;
  hs = gs;
  stand = h;
  may = subst (λ n. MayAllStay n back (pid_of p) xs) (sym shifted) may;
  filed = filed;
  all = all;
  gone = λ new k. k;
  put = refl;
}
gone-behind-settled (l ∷ lfront) lback [] back left takers ts gs p xs same shifted h may filed all = absurd (omega (arith, same))
gone-behind-settled [] lback (s ∷ front) back left takers ts gs p xs same shifted h may filed all = absurd (omega (arith, same))
gone-behind-settled (l ∷ lfront) lback (s ∷ front) back left takers [] gs p xs same shifted h may filed all = absurd all
gone-behind-settled (l ∷ lfront) lback (s ∷ front) back left takers (t ∷ ts) [] p xs same shifted h may filed all = absurd all
gone-behind-settled (l ∷ lfront) lback (s ∷ front) back left takers (t ∷ ts) (g ∷ gs) p [] same shifted h may filed all = absurd h
gone-behind-settled (l ∷ lfront) lback (s ∷ front) back left takers (t ∷ ts) (g ∷ gs) p (a ∷ xs) same shifted h may filed all =
    let old = stays-same s p a h.0 (may.0.0 shifted.0) in
    let r = gone-behind-settled lfront lback front back left (takers / 2) ts gs p xs (omega (arith, same)) shifted.1 h.1 (may.0.1, may.1.1) filed.1 all.1 in
    record {
      ys = r.ys;
      us = r.us;
      hs = r.hs;
      stand = r.stand;
      may = r.may;
      filed = r.filed;
      all = r.all;
      gone = λ new k. (subst (λ b. HasGone s t (gone_settled t b g)) (sym old) all.0, r.gone new k);
      put = ap (λ b. put_settled t b g ++ puts_settled ts p xs gs) old ∙ r.put;
    }

-- ---- it passes

whichever : {A : Type 0} (b : Bool) (x : A) → (if b then x else x) ≡ x
whichever true x = refl
whichever false x = refl

pub record BehindPassed (front back : List AirService) (left : ℕ) (p : List ℕ) (xs : List Airing) : Type 0 where
  pub ys : List Airing
  pub long : length xs ≡ length front + length ys
  pub settled : AllSettled back p ys
  pub left_out : AreLeftOut left back (pid_of p) ys
  pub stand : (new : List AirService) → AllStand new ys → AllStand (front ++ new) xs
  pub own : list_any (owns p) xs ≡ list_any (owns p) ys
  pub unjudged : is_left p xs ≡ is_left p ys
  pub learned : list_any learns xs ≡ list_any learns ys
  pub judged : (new : List AirService) → AllJudged new → AllJudged (front ++ new)

pub behind-passed : (front back : List AirService) (left takers : ℕ) (p : List ℕ) (xs : List Airing) → IsShifted (length front) left takers → AllSettled (front ++ back) p xs
    → AreLeftOut takers (front ++ back) (pid_of p) xs → BehindPassed front back left p xs
behind-passed [] back left takers p xs shifted h out = record {
  ys = xs;
  long = omega arith;
  settled = h;
  left_out = subst (λ n. AreLeftOut n back (pid_of p) xs) (sym shifted) out;
  stand = λ new k. k;
  own = refl;
  unjudged = refl;
  learned = refl;
  judged = λ new k. k;
}
behind-passed (s ∷ front) back left takers p [] shifted h out = absurd h
behind-passed (s ∷ front) back left takers p (a ∷ xs) shifted h out =
    let l = out.0 shifted.0 in
    let one = stays-passed s p a h.0 l (record { is_own = false; is_unjudged = false; learns = false; has_left = false; has_turned = false }) refl refl refl in
    let r = behind-passed front back left (takers / 2) p xs shifted.1 h.1 out.1 in
    record {
      ys = r.ys;
      long = let e = r.long in omega (arith, e);
      settled = r.settled;
      left_out = r.left_out;
      stand = λ new k. (stays-behind s p a h.0 l, r.stand new k);
      own = ap (λ b. b || list_any (owns p) xs) (sym one.own) ∙ r.own;
      unjudged = ap (λ b. if b then leaves a else (if list_any (owns p) xs then is_left p xs else (leaves a || is_left p xs))) (sym one.own)
          ∙ ap (λ b. if list_any (owns p) xs then is_left p xs else (b || is_left p xs)) (sym one.unjudged) ∙ whichever (list_any (owns p) xs) (is_left p xs) ∙ r.unjudged;
      learned = ap (λ b. b || list_any learns xs) (sym one.learns) ∙ r.learned;
      judged = λ new k. (l.judged, r.judged new k);
    }

pub record GoneBehindPassed {A : Type 0} (libraries : List (AdLibrary A)) (front back : List AirService) (left : ℕ) (ts : List ServiceTerms) (gs : List Gone) (p : List ℕ) (xs : List Airing) : Type 0 where
  pub ys : List Airing
  pub us : List ServiceTerms
  pub hs : List Gone
  pub settled : AllSettled back p ys
  pub left_out : AreLeftOut left back (pid_of p) ys
  pub filed : FiledAs libraries us
  pub all : AllGone back us hs
  pub gone : (new : List AirService) → AllGone new us (gones_on us p ys hs) → AllGone (front ++ new) ts (gones_on ts p xs gs)
  pub put : puts_on ts p xs gs ≡ puts_on us p ys hs

pub gone-behind-passed : {A : Type 0} (lfront lback : List (AdLibrary A)) (front back : List AirService) (left takers : ℕ) (ts : List ServiceTerms) (gs : List Gone) (p : List ℕ) (xs : List Airing)
    → length lfront ≡ length front → IsShifted (length front) left takers → AreBytes p → AllSettled (front ++ back) p xs → AreLeftOut takers (front ++ back) (pid_of p) xs
    → FiledAs (lfront ++ lback) ts → AllGone (front ++ back) ts gs → GoneBehindPassed lback front back left ts gs p xs
gone-behind-passed [] lback [] back left takers ts gs p xs same shifted bytes h out filed all = record {
  ys = xs;
  us = ts;
  hs = gs;
  settled = h;
  left_out = subst (λ n. AreLeftOut n back (pid_of p) xs) (sym shifted) out;
  filed = filed;
  all = all;
  gone = λ new k. k;
  put = refl;
}
gone-behind-passed (l ∷ lfront) lback [] back left takers ts gs p xs same shifted bytes h out filed all = absurd (omega (arith, same))
gone-behind-passed [] lback (s ∷ front) back left takers ts gs p xs same shifted bytes h out filed all = absurd (omega (arith, same))
gone-behind-passed (l ∷ lfront) lback (s ∷ front) back left takers [] gs p xs same shifted bytes h out filed all = absurd all
gone-behind-passed (l ∷ lfront) lback (s ∷ front) back left takers (t ∷ ts) [] p xs same shifted bytes h out filed all = absurd all
gone-behind-passed (l ∷ lfront) lback (s ∷ front) back left takers (t ∷ ts) (g ∷ gs) p [] same shifted bytes h out filed all = absurd h
gone-behind-passed (l ∷ lfront) lback (s ∷ front) back left takers (t ∷ ts) (g ∷ gs) p (a ∷ xs) same shifted bytes h out filed all =
    let m = out.0 shifted.0 in
    let one = stays-passed s p a h.0 m (record { is_own = false; is_unjudged = false; learns = false; has_left = false; has_turned = false }) refl refl refl in
    let r = gone-behind-passed lfront lback front back left (takers / 2) ts gs p xs (omega (arith, same)) shifted.1 bytes h.1 out.1 filed.1 all.1 in
    record {
      ys = r.ys;
      us = r.us;
      hs = r.hs;
      settled = r.settled;
      left_out = r.left_out;
      filed = r.filed;
      all = r.all;
      gone = λ new k. (subst (λ b. HasGone s t (gone_on t (aired_as p b) g)) (leaves-is s p a h.0) (stays-gone s p a h.0 m t g bytes all.0), r.gone new k);
      put = ap (λ b. put_own b t (aired_as p (leaves a)) g ++ puts_on ts p xs gs) (sym one.own) ∙ r.put;
    }

-- ---- a list in two parts

-- there are as many behind as of what stands for the others
pub fewer-behind : {A : Type 0} (l front back : List A) (x f y n : ℕ) → l ≡ front ++ back → length l ≡ x → x ≡ f + y → length front ≡ n → f ≡ n → length back ≡ y
fewer-behind l front back x f y n whole many long one other = let e = ap length whole ∙ length-append front back in omega (arith, e, many, long, one, other)

-- ---- what follows from what is said of an answer

pub on-ok : {T E : Type 0} (r : Result T E) (P Q : Type 0) → (P → Q) → OnOk r P → OnOk r Q
on-ok (Ok x) P Q so h = so h
on-ok (Err e) P Q so h = tt

-- ---- the one that alone takes the packet

pub taker-behind : (front new : List AirService) (takers : ℕ) (alone : Alone) (p : List ℕ) → length front ≡ alone.count → IsShifted alone.count 1 takers
    → FirstGoesOnAir new alone.of p → TakerGoesOn takers alone (front ++ new) p
taker-behind front new takers alone p many shifted on = record {
  few = let e = length-append front new in omega (arith, e, many);
  taker = shifted;
  goes_on = subst (λ k. FirstGoesOnAir (drop k (front ++ new)) alone.of p) many (subst (λ l. FirstGoesOnAir l alone.of p) (sym (drop-append_seam front new)) on);
}

pub taker-apart : (front back : List AirService) (takers : ℕ) (alone : Alone) (p : List ℕ) → length front ≡ alone.count → TakerGoesOn takers alone (front ++ back) p
    → FirstGoesOnAir back alone.of p
taker-apart front back takers alone p many h =
    subst (λ l. FirstGoesOnAir l alone.of p) (drop-append_seam front back) (subst (λ k. FirstGoesOnAir (drop k (front ++ back)) alone.of p) (sym many) h.goes_on)
