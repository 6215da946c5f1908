-- A packet that the first of some services takes alone: those behind it stay as they are.
use Rattle.std.proofs.Common.{◌≡◌, ℕ, List, [], ◌∷◌, ◌++◌, Bool, true, false, ◌||◌, refl, sym, ap, subst, ◌∙◌}
use Rattle.std.specs.Prelude.{if◌then◌else◌, Result, Ok, Err, OnOk, IfOk}
use Rattle.std.specs.List.{list_any}
use Rattle.std.proofs.lemmas.List.{append-nil}
use Rattle.service_laws.specs.Services.{ServiceTerms}
use Rattle.services_on_air.specs.Airing.{Airing, owns, leaves, learns, is_left}
use Rattle.services_on_air.specs.Histories.{Gone, HasGone, begins_anew, gone_on, gone_settled, put_settled, put_own, aired_as}
use Rattle.services_on_air.specs.Standing.{IsPassed, ArePassed}
use Rattle.services_on_air.specs.Serving.{AllGone, gones_settled, puts_settled, gones_on, puts_on}
use Rattle.services_on_air.specs.declared.service.AirService.{AirService}
use Rattle.services_on_air.specs.declared.service.Passed.{Passed}

or-none : (b c : Bool) → c ≡ false → b ≡ (b || c)
or-none true c none = refl
or-none false c none = sym none

-- ---- it is settled

pub anew-alone : (p : List ℕ) (a : Airing) (more xs : List Airing) (b : Bool) → xs ≡ a ∷ more → list_any (begins_anew p) more ≡ false → b ≡ begins_anew p a → b ≡ list_any (begins_anew p) xs
anew-alone p a more xs b parts none is =
    is ∙ or-none (begins_anew p a) (list_any (begins_anew p) more) none ∙ ap (list_any (begins_anew p)) (sym parts)

pub gone-alone : (s : AirService) (ss : List AirService) (t : ServiceTerms) (us ts : List ServiceTerms) (g : Gone) (hs gs : List Gone) (p : List ℕ) (a : Airing) (more xs : List Airing)
    (is_out : List (List ℕ) → Type 0) → xs ≡ a ∷ more → ts ≡ t ∷ us → gs ≡ g ∷ hs → (gones_settled us p more hs ≡ hs) × (puts_settled us p more hs ≡ []) → AllGone ss us hs
    → HasGone s t (gone_settled t (begins_anew p a) g) × is_out (put_settled t (begins_anew p a) g) → AllGone (s ∷ ss) ts (gones_settled ts p xs gs) × is_out (puts_settled ts p xs gs)
gone-alone s ss t us ts g hs gs p a more xs is_out parts terms gones still all one =
    let put = put_settled t (begins_anew p a) g in
    subst (λ ys. AllGone (s ∷ ss) ts (gones_settled ts p ys gs) × is_out (puts_settled ts p ys gs)) (sym parts)
    (subst (λ vs. AllGone (s ∷ ss) vs (gones_settled vs p (a ∷ more) gs) × is_out (puts_settled vs p (a ∷ more) gs)) (sym terms)
    (subst (λ ks. AllGone (s ∷ ss) (t ∷ us) (gones_settled (t ∷ us) p (a ∷ more) ks) × is_out (puts_settled (t ∷ us) p (a ∷ more) ks)) (sym gones)
    ((one.0, subst (AllGone ss us) (sym still.0) all), subst is_out (sym (ap (λ l. put ++ l) still.1 ∙ append-nil put)) one.1)))

-- ---- it passes

pub passed-alone : (passed : Passed) (p : List ℕ) (a : Airing) (more xs : List Airing) → xs ≡ a ∷ more → list_any (owns p) more ≡ false → is_left p more ≡ false → list_any learns more ≡ false
    → IsPassed passed p a → ArePassed passed p xs
passed-alone passed p a more xs parts own left learned is =
    subst (ArePassed passed p) (sym parts) (record {
      own = is.own ∙ or-none (owns p a) (list_any (owns p) more) own;
      unjudged = is.unjudged ∙ by (owns p a) (leaves a) ∙ ap (λ b. if owns p a then leaves a else (if b then is_left p more else (leaves a || is_left p more))) (sym own);
      learns = is.learns ∙ or-none (learns a) (list_any learns more) learned;
    }) where
      by : (b c : Bool) → c ≡ (if b then c else (c || is_left p more))
      by true c = refl
      by false c = or-none c (is_left p more) left

pub gone-on-alone : (s : AirService) (ss : List AirService) (t : ServiceTerms) (us ts : List ServiceTerms) (g : Gone) (hs gs : List Gone) (p : List ℕ) (a : Airing) (more xs : List Airing)
    (is_out : List (List ℕ) → Type 0) → xs ≡ a ∷ more → ts ≡ t ∷ us → gs ≡ g ∷ hs → puts_on us p more hs ≡ [] → AllGone ss us (gones_on us p more hs)
    → HasGone s t (gone_on t (aired_as p (leaves a)) g) → is_out (put_own (owns p a) t (aired_as p (leaves a)) g) → AllGone (s ∷ ss) ts (gones_on ts p xs gs) × is_out (puts_on ts p xs gs)
gone-on-alone s ss t us ts g hs gs p a more xs is_out parts terms gones still all one out =
    let put = put_own (owns p a) t (aired_as p (leaves a)) g in
    subst (λ ys. AllGone (s ∷ ss) ts (gones_on ts p ys gs) × is_out (puts_on ts p ys gs)) (sym parts)
    (subst (λ vs. AllGone (s ∷ ss) vs (gones_on vs p (a ∷ more) gs) × is_out (puts_on vs p (a ∷ more) gs)) (sym terms)
    (subst (λ ks. AllGone (s ∷ ss) (t ∷ us) (gones_on (t ∷ us) p (a ∷ more) ks) × is_out (puts_on (t ∷ us) p (a ∷ more) ks)) (sym gones)
    ((one, all), subst is_out (sym (ap (λ l. put ++ l) still ∙ append-nil put)) out)))

-- ---- what follows from two things that are said of an answer

pub both-ok : {T E : Type 0} (r : Result T E) (P Q : T → Type 0) (R : Type 0) → ((x : T) → P x → Q x → R) → IfOk r P → IfOk r Q → OnOk r R
both-ok (Ok x) P Q R so h k = so x h k
both-ok (Err e) P Q R so h k = tt
