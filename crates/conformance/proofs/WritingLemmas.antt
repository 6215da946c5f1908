-- What is written in several parts.
use Rattle.std.proofs.Common.{◌≡◌, ℕ, ◌+◌, ◌<◌, List, [], ◌∷◌, ◌++◌, Option, Result, Ok, Err, map, take, get_or, codes, refl, sym, ap, ◌∙◌, subst, length, append_assoc, append-nil, OnOk}
use Rattle.std.proofs.lemmas.List.{map-append, take_more}
use Rattle.std.proofs.KnownBytes.{Appends-trans}
use Rattle.std.specs.Fmt.{decimal}
use Rattle.std.specs.Io.KnownBytes.{Appends}
use Rattle.codec_text.specs.Texts.{bytes_text}
use Rattle.conformance.specs.declared.sections.Finished.{Finished}
use Rattle.conformance.specs.Sections.{placed}
use Rattle.conformance.specs.Answers.{sections_text}

-- what is said of a call that answers Ok follows from what its clause says
pub on_ok : {A E : Type 0} {P Q : Type 0} → (r : Result A E) → (P → Q) → OnOk r P → OnOk r Q
on_ok (Ok x) f p = f p
on_ok (Err e) f p = p

pub appends_three : (a b c d : Option (List ℕ)) (x y z all : List ℕ) → Appends a b x → Appends b c y → Appends c d z → x ++ (y ++ z) ≡ all → Appends a d all
appends_three a b c d x y z all p q r e = subst (Appends a d) e (Appends-trans a b d x (y ++ z) p (Appends-trans b c d y z q r))

-- ---- sections behind others

abbrev pub section_text : Finished → List ℕ
section_text f = codes " " ++ decimal f.place ++ codes ":" ++ bytes_text f.section.items

-- as `write!` joins it
pub section_text_joined : (f : Finished) → codes " " ++ (decimal f.place ++ (codes ":" ++ bytes_text f.section.items)) ≡ section_text f
section_text_joined f = ap (λ l. codes " " ++ l) (sym (append_assoc (decimal f.place) (codes ":") (bytes_text f.section.items)))

sections_text-append : (xs ys : List (ℕ × List ℕ)) → sections_text (xs ++ ys) ≡ sections_text xs ++ sections_text ys
sections_text-append [] ys = refl
sections_text-append (x ∷ xs) ys =
    let here = codes " " ++ decimal x.0 ++ codes ":" ++ bytes_text x.1 in
    ap (λ l. here ++ l) (sections_text-append xs ys) ∙ sym (append_assoc here (sections_text xs) (sections_text ys))

pub sections_text_more : (fs : List Finished) (i : ℕ) (f : Finished) → i < length fs → f ≡ get_or fs i f
    → sections_text (map placed (take (i + 1) fs)) ≡ sections_text (map placed (take i fs)) ++ section_text f
sections_text_more fs i f lt e =
    let one : take (i + 1) fs ≡ take i fs ++ f ∷ [] = take_more fs i f lt ∙ ap (λ x. take i fs ++ x ∷ []) (sym e) in
    let all : map placed (take (i + 1) fs) ≡ map placed (take i fs) ++ placed f ∷ [] = ap (map placed) one ∙ map-append placed (take i fs) (f ∷ []) in
    let last : sections_text (placed f ∷ []) ≡ section_text f = simp append-nil in
    ap sections_text all ∙ sections_text-append (map placed (take i fs)) (placed f ∷ []) ∙ ap (λ l. sections_text (map placed (take i fs)) ++ l) last
