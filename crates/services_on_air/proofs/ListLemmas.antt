-- Several services, one after another.
use Rattle.std.proofs.Common.{◌≡◌, ℕ, zero, suc, ◌+◌, List, [], ◌∷◌, ◌++◌, length, Bool, true, false, refl, sym, ap, subst, ◌∙◌, arith, append_assoc}
use Rattle.std.specs.Prelude.{map, ◌||◌, if◌then◌else◌, Result, OnOk}
use Rattle.std.proofs.lemmas.Result.{on_ok_weaker}
use Rattle.std.specs.List.{list_any}
use Rattle.psi_section.specs.Assembling.{capped}
use Rattle.psi_tables.specs.declared.config.Config.{Config}
use Rattle.services_on_air.specs.Airing.{Airing, begins, nexts, owns, leaves, learns, share_one, parted_from, parted, behind_first, begun_in}
use Rattle.services_on_air.specs.Standing.{AirStandsFor, IsSettled, IsPassed, ArePassed, AllStand, AllSettled}
use Rattle.services_on_air.specs.declared.service.Passed.{Passed}
use Rattle.services_on_air.specs.declared.service.AirService.{AirService}

-- ---- the first of them and the others

pub record Stand (s : AirService) (ss : List AirService) (xs : List Airing) : Type 0 where
  pub a : Airing
  pub more : List Airing
  pub parts : xs ≡ a ∷ more
  pub first : AirStandsFor s a
  pub others : AllStand ss more

pub standing : (l : List AirService) (s : AirService) (ss : List AirService) (xs : List Airing) → l ≡ s ∷ ss → AllStand l xs → Stand s ss xs
standing l s ss xs e h = by_parts xs (subst (λ k. AllStand k xs) e h) where
  by_parts : (ys : List Airing) → AllStand (s ∷ ss) ys → Stand s ss ys
  by_parts [] k = absurd k
  by_parts (a ∷ more) k = record { a = a; more = more; parts = refl; first = k.0; others = k.1 }

pub record Settled (s : AirService) (ss : List AirService) (p : List ℕ) (xs : List Airing) : Type 0 where
  pub a : Airing
  pub more : List Airing
  pub parts : xs ≡ a ∷ more
  pub first : IsSettled s p a
  pub others : AllSettled ss p more

pub settling : (l : List AirService) (s : AirService) (ss : List AirService) (p : List ℕ) (xs : List Airing) → l ≡ s ∷ ss → AllSettled l p xs → Settled s ss p xs
settling l s ss p xs e h = by_parts xs (subst (λ k. AllSettled k p xs) e h) where
  by_parts : (ys : List Airing) → AllSettled (s ∷ ss) p ys → Settled s ss p ys
  by_parts [] k = absurd k
  by_parts (a ∷ more) k = record { a = a; more = more; parts = refl; first = k.0; others = k.1 }

-- there is none
pub none-stand : (l : List AirService) (xs : List Airing) → l ≡ [] → AllStand l xs → xs ≡ []
none-stand l xs e h = by_parts xs (subst (λ k. AllStand k xs) e h) where
  by_parts : (ys : List Airing) → AllStand [] ys → ys ≡ []
  by_parts [] k = refl
  by_parts (a ∷ more) k = absurd k

pub none-settled : (l : List AirService) (p : List ℕ) (xs : List Airing) → l ≡ [] → AllSettled l p xs → xs ≡ []
none-settled l p xs e h = by_parts xs (subst (λ k. AllSettled k p xs) e h) where
  by_parts : (ys : List Airing) → AllSettled [] p ys → ys ≡ []
  by_parts [] k = refl
  by_parts (a ∷ more) k = absurd k

-- ---- as many

pub next-long : (p : List ℕ) (xs : List Airing) → length (nexts p xs) ≡ length xs
next-long p [] = refl
next-long p (a ∷ xs) = ap suc (next-long p xs)

-- ---- one more

pub one-more : (ss : List AirService) (xs : List Airing) (s : AirService) (a : Airing) → AllStand ss xs → AirStandsFor s a → AllStand (ss ++ s ∷ []) (xs ++ a ∷ [])
one-more [] [] s a h k = (k, tt)
one-more [] (x ∷ xs) s a h k = absurd h
one-more (y ∷ ss) [] s a h k = absurd h
one-more (y ∷ ss) (x ∷ xs) s a h k = (h.0, one-more ss xs s a h.1 k)

pub added : {X Y : Type 0} (r : Result X Y) (before mid now : List AirService) (s : AirService) (c : Config) (cs configs : List Config) (xs : List Airing) → configs ≡ c ∷ cs → mid ≡ before ++ s ∷ []
    → AirStandsFor s (begins c) → AllStand before xs → ((ys : List Airing) → AllStand mid ys → OnOk r (AllStand now (ys ++ map begins cs))) → OnOk r (AllStand now (xs ++ map begins configs))
added r before mid now s c cs configs xs shape is stands all goes =
    let more = subst (λ l. AllStand l (xs ++ begins c ∷ [])) (sym is) (one-more before xs s (begins c) all stands) in
    on_ok_weaker r (subst (λ l. AllStand now l) (append_assoc xs (begins c ∷ []) (map begins cs) ∙ ap (λ l. xs ++ map begins l) (sym shape))) (goes (xs ++ begins c ∷ []) more)

-- ---- no library is missing

pub none-left : {L : Type 0} (l : List AirService) (s : AirService) (ss : List AirService) (xs : List Airing) (libraries : List L) → l ≡ s ∷ ss → AllStand l xs → libraries ≡ []
    → length libraries ≡ length xs → ⊥
none-left l s ss xs libraries shape h e many =
    let k = standing l s ss xs shape h in
    let no : zero ≡ suc (length k.more) = sym (ap length e) ∙ many ∙ ap length k.parts in absurd (cc)

pub none-left-settled : {L : Type 0} (l : List AirService) (s : AirService) (ss : List AirService) (p : List ℕ) (xs : List Airing) (libraries : List L) → l ≡ s ∷ ss → AllSettled l p xs → libraries ≡ []
    → length libraries ≡ length xs → ⊥
none-left-settled l s ss p xs libraries shape h e many =
    let k = settling l s ss p xs shape h in
    let no : zero ≡ suc (length k.more) = sym (ap length e) ∙ many ∙ ap length k.parts in absurd (cc)

pub fewer : {L : Type 0} (libraries : List L) (library : L) (more : List L) (xs : List Airing) (a : Airing) (ys : List Airing) → libraries ≡ library ∷ more → xs ≡ a ∷ ys
    → length libraries ≡ length xs → length more ≡ length ys
fewer libraries library more xs a ys e f many = let both : length (library ∷ more) ≡ length (a ∷ ys) = sym (ap length e) ∙ many ∙ ap length f in cc

-- ---- a message

pub asked-first : (l : List AirService) (s : AirService) (ss : List AirService) (p : List ℕ) (xs : List Airing) (now : AirService) → l ≡ s ∷ ss → AllSettled l p xs
    → ((a : Airing) → IsSettled s p a → IsSettled now p a) → AllSettled (now ∷ ss) p xs
asked-first l s ss p xs now shape h f =
    let k = settling l s ss p xs shape h in subst (AllSettled (now ∷ ss) p) (sym k.parts) (f k.a k.first, k.others)

pub asked-later : (l : List AirService) (s : AirService) (ss : List AirService) (p : List ℕ) (xs : List Airing) (now : List AirService) → l ≡ s ∷ ss → AllSettled l p xs
    → ((ys : List Airing) → AllSettled ss p ys → AllSettled now p ys) → AllSettled (s ∷ now) p xs
asked-later l s ss p xs now shape h f =
    let k = settling l s ss p xs shape h in subst (AllSettled (s ∷ now) p) (sym k.parts) (k.first, f k.more k.others)

-- ---- PIDs of two services

pub parts-so : (s : AirService) (a b : Airing) → share_one a b ≡ true → AirStandsFor s (record { config = b.config; stretches = b.stretches; shares = true }) → AirStandsFor s (parted_from a b)
parts-so s a b y h = subst (λ x. AirStandsFor s (record { config = b.config; stretches = b.stretches; shares = if x then true else b.shares })) (sym y) h

pub stays-so : (s : AirService) (a b : Airing) → share_one a b ≡ false → AirStandsFor s b → AirStandsFor s (parted_from a b)
stays-so s a b n h = subst (λ x. AirStandsFor s (record { config = b.config; stretches = b.stretches; shares = if x then true else b.shares })) (sym n) h

pub parted-one : (l : List AirService) (s : AirService) (ss : List AirService) (xs : List Airing) (a : Airing) (now : AirService) (others : List AirService) → l ≡ s ∷ ss → AllStand l xs
    → ((b : Airing) → AirStandsFor s b → AirStandsFor now (parted_from a b)) → ((ys : List Airing) → AllStand ss ys → AllStand others (map (parted_from a) ys))
    → AllStand (now ∷ others) (map (parted_from a) xs)
parted-one l s ss xs a now others shape h f g =
    let k = standing l s ss xs shape h in subst (λ w. AllStand (now ∷ others) (map (parted_from a) w)) (sym k.parts) (f k.a k.first, g k.more k.others)

pub parted-all : (l : List AirService) (s : AirService) (ss : List AirService) (xs : List Airing) (mid others : List AirService) → l ≡ s ∷ ss → AllStand l xs
    → ((ys : List Airing) → AllStand ss ys → AllStand mid (parted ys))
    → ((a : Airing) (ys : List Airing) → AirStandsFor s a → AllStand mid ys → AllStand others (map (parted_from a) ys)) → AllStand (s ∷ others) (parted xs)
parted-all l s ss xs mid others shape h f g =
    let k = standing l s ss xs shape h in
    subst (λ w. AllStand (s ∷ others) (parted w)) (sym k.parts) (k.first, g k.a (parted k.more) k.first (f k.more k.others))

-- ---- what a packet is

abbrev pick : Bool → Bool → Bool → Bool → Bool
pick a b c d = if a then b else (if c then d else (b || d))

pub joined-are : (one others all : Passed) (p : List ℕ) (a : Airing) (xs : List Airing) → all.is_own ≡ (one.is_own || others.is_own)
    → all.is_unjudged ≡ (if one.is_own then one.is_unjudged else (if others.is_own then others.is_unjudged else (one.is_unjudged || others.is_unjudged)))
    → all.learns ≡ (one.learns || others.learns) → IsPassed one p a → ArePassed others p xs → ArePassed all p (a ∷ xs)
joined-are one others all p a xs own unjudged more i o = record {
  own = own ∙ ap (λ b. b || others.is_own) i.own ∙ ap (λ b. owns p a || b) o.own;
  unjudged = unjudged
      ∙ ap (λ b. pick b one.is_unjudged others.is_own others.is_unjudged) i.own
      ∙ ap (λ b. pick (owns p a) b others.is_own others.is_unjudged) i.unjudged
      ∙ ap (λ b. pick (owns p a) (leaves a) b others.is_unjudged) o.own
      ∙ ap (λ b. pick (owns p a) (leaves a) (list_any (owns p) xs) b) o.unjudged;
  learns = more ∙ ap (λ b. b || others.learns) i.learns ∙ ap (λ b. learns a || b) o.learns;
}

-- ---- counts

pub begun-more : (n m k : ℕ) (a : Airing) (xs : List Airing) → n ≡ capped (behind_first a.stretches) → m ≡ capped (begun_in xs) → k ≡ capped (n + m) → k ≡ capped (begun_in (a ∷ xs))
begun-more n m k a xs e f g = grind arith
