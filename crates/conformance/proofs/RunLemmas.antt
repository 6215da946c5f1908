-- Lines, one after the other.
use Rattle.std.proofs.Common.{◌≡◌, ℕ, suc, ◌+◌, ◌-◌, ◌<◌, ◌≤◌, List, [], ◌∷◌, ◌++◌, Bool, true, false, nat_eq, nat_lt, length, take, Option, None, Some, IfSome, refl, sym, ap, ◌∙◌, subst, append_assoc, append-nil, eqb-true, lt-ltb, arith}
use Rattle.std.proofs.KnownBytes.{Appends-nil, Appends-trans}
use Rattle.std.specs.Prelude.{IsSomeAnd, slice_index, ◌==◌, if◌then◌else◌}
use Rattle.std.specs.Io.BufRead.{take_through, drop_through, strip_last, DropsThrough}
use Rattle.std.specs.Io.KnownBytes.{Appends, IsAtEnd}
use Rattle.conformance.specs.Sections.{before_word}
use Rattle.conformance.specs.Answers.{IsAnswer}
use Rattle.conformance.specs.Run.{lines_of, TakesLine, AreAnswers, Answered, HasLines}

-- ---- the first line

cons_either : (b : Bool) (x : ℕ) (ys zs : List ℕ) → (if b then x ∷ ys else x ∷ zs) ≡ x ∷ (if b then ys else zs)
cons_either true x ys zs = refl
cons_either false x ys zs = refl

strip_last-more : (x t : ℕ) (ts : List ℕ) → strip_last 10 (x ∷ t ∷ ts) ≡ x ∷ strip_last 10 (t ∷ ts)
strip_last-more x t ts =
    let long : nat_lt 0 (length (x ∷ t ∷ ts)) ≡ true = lt-ltb 0 (length (x ∷ t ∷ ts)) (omega arith) in
    let some : nat_lt 0 (length (t ∷ ts)) ≡ true = lt-ltb 0 (length (t ∷ ts)) (omega arith) in
    let last : length (x ∷ t ∷ ts) - 1 ≡ suc (length ts) = omega arith in
    let behind : length (t ∷ ts) - 1 ≡ length ts = omega arith in
    rw (long, some, last, behind) (cons_either (slice_index (t ∷ ts) (length ts) == 10) x (take (length ts) (t ∷ ts)) (t ∷ ts))

strip_last-some : (x : ℕ) (ts : List ℕ) → 0 < length ts → strip_last 10 (x ∷ ts) ≡ x ∷ strip_last 10 ts
strip_last-some x [] lt = absurd (omega arith)
strip_last-some x (t ∷ ts) lt = strip_last-more x t ts

strip_last-one : (b : Bool) (x : ℕ) → nat_eq x 10 ≡ b → strip_last 10 (x ∷ []) ≡ (if b then [] else x ∷ [])
strip_last-one b x e = ap (λ (k : Bool). if k then [] else x ∷ []) e

through_by : (b : Bool) (y : ℕ) (ys : List ℕ) → 0 < length (if b then y ∷ [] else y ∷ take_through 10 ys)
through_by true y ys = omega arith
through_by false y ys = omega arith

first_by : (xs : List ℕ) (x : ℕ) (b : Bool) → nat_eq x 10 ≡ b → lines_of (x ∷ xs) ≡ strip_last 10 (take_through 10 (x ∷ xs)) ∷ lines_of (drop_through 10 (x ∷ xs))
first_by xs x true e = let same : x ≡ 10 = eqb-true x 10 e in rw same refl
first_by [] x false e = rw e (ap (λ l. l ∷ []) (sym (strip_last-one false x e)))
first_by (y ∷ ys) x false e =
    let through = take_through 10 (y ∷ ys) in
    let rest = drop_through 10 (y ∷ ys) in
    let behind : lines_of (y ∷ ys) ≡ strip_last 10 through ∷ lines_of rest = first_by ys y _ refl in
    let some : 0 < length through = through_by (y == 10) y ys in
    let whole : before_word x (lines_of (y ∷ ys)) ≡ strip_last 10 (x ∷ through) ∷ lines_of rest =
    ap (before_word x) behind ∙ ap (λ l. l ∷ lines_of rest) (sym (strip_last-some x through some)) in
    rw e whole

pub first_of_lines : (xs : List ℕ) → 0 < length xs → lines_of xs ≡ strip_last 10 (take_through 10 xs) ∷ lines_of (drop_through 10 xs)
first_of_lines [] lt = absurd (omega arith)
first_of_lines (x ∷ xs) lt = first_by xs x _ refl

pub taken : (old new : Option (List ℕ)) (before read line : List ℕ) → before ≡ [] → IfSome old (λ xs. read ≡ before ++ take_through 10 xs)
    → DropsThrough old new 10 → 0 < length read → line ≡ strip_last 10 read → TakesLine old new true line
taken None new before read line none bytes rest some e = tt
taken (Some []) new before read line none bytes rest some e =
    let nothing : read ≡ [] = bytes ∙ append-nil before ∙ none in
    let long : length read ≡ 0 = ap length nothing in
    absurd (omega arith)
taken (Some (x ∷ xs)) new before read line none bytes rest some e =
    let through : read ≡ take_through 10 (x ∷ xs) = bytes ∙ ap (λ l. l ++ take_through 10 (x ∷ xs)) none in
    let first : lines_of (x ∷ xs) ≡ line ∷ lines_of (drop_through 10 (x ∷ xs)) =
    first_of_lines (x ∷ xs) (omega arith) ∙ ap (λ l. l ∷ lines_of (drop_through 10 (x ∷ xs))) (sym (e ∙ ap (strip_last 10) through)) in
    subst (λ (o : Option (List ℕ)). TakesLine (Some (x ∷ xs)) o true line) (sym rest) first

pub none_taken : (old new : Option (List ℕ)) (line : List ℕ) → DropsThrough old new 10 → IsAtEnd old → TakesLine old new false line
none_taken None new line rest end = tt
none_taken (Some xs) new line rest end = subst (λ (o : Option (List ℕ)). TakesLine (Some xs) o false line) (sym rest) (ap lines_of end)

-- ---- the lines so far

-- What is written so far answers the lines that are taken: with answers to those that are left it answers all.
abbrev pub AnsweredSoFar : Option (List ℕ) → Option (List ℕ) → Option (List ℕ) → Option (List ℕ) → Type 0
AnsweredSoFar input left old new = IfSome input (λ bytes. IsSomeAnd left (λ more.
    (text : List ℕ) × Appends old new text × ((rest : List ℕ) → AreAnswers (lines_of more) rest → AreAnswers (lines_of bytes) (text ++ rest))))

pub answered_nothing : (input output : Option (List ℕ)) → AnsweredSoFar input input output output
answered_nothing None output = tt
answered_nothing (Some bytes) output = ([], Appends-nil output, λ rest answers. answers)

pub answered_line : (input left after old mid new : Option (List ℕ)) (line first : List ℕ) → AnsweredSoFar input left old mid → TakesLine left after true line
    → IsAnswer line first → Appends mid new first → AnsweredSoFar input after old new
answered_line None left after old mid new line first so_far takes answer grown = tt
answered_line (Some bytes) None after old mid new line first so_far takes answer grown = absurd so_far
answered_line (Some bytes) (Some more) None old mid new line first so_far takes answer grown = absurd takes
answered_line (Some bytes) (Some more) (Some others) old mid new line first so_far takes answer grown = (
  so_far.0 ++ first,
  Appends-trans old mid new so_far.0 first so_far.1 grown,
  λ rest answers.
      let here : AreAnswers (line ∷ lines_of others) (first ++ rest) = (first, rest, answer, answers, refl) in
      subst (AreAnswers (lines_of bytes)) (sym (append_assoc so_far.0 first rest))
      (so_far.2 (first ++ rest) (subst (λ lines. AreAnswers lines (first ++ rest)) (sym takes) here)),
)

pub answered_all : (input left after old new : Option (List ℕ)) (line : List ℕ) → AnsweredSoFar input left old new → TakesLine left after false line
    → Answered input old new
answered_all None left after old new line so_far takes = tt
answered_all (Some bytes) None after old new line so_far takes = absurd so_far
answered_all (Some bytes) (Some more) None old new line so_far takes = absurd takes
answered_all (Some bytes) (Some more) (Some others) old new line so_far takes =
    let none : AreAnswers (lines_of more) [] = subst (λ lines. AreAnswers lines []) (sym takes) refl in
    (so_far.0, subst (AreAnswers (lines_of bytes)) (append-nil so_far.0) (so_far.2 [] none), so_far.1)

-- ---- how many lines there are

-- this many lines are taken, and the others are left
abbrev pub CountedSoFar : ℕ → Option (List ℕ) → Option (List ℕ) → Type 0
CountedSoFar count input left = IfSome input (λ bytes. IsSomeAnd left (λ more. length (lines_of bytes) ≡ count + length (lines_of more)))

pub counted_nothing : (input : Option (List ℕ)) → CountedSoFar 0 input input
counted_nothing None = tt
counted_nothing (Some bytes) = omega arith

pub counted_line : (count : ℕ) (input left after : Option (List ℕ)) (line : List ℕ) → CountedSoFar count input left → TakesLine left after true line
    → CountedSoFar (count + 1) input after
counted_line count None left after line so_far takes = tt
counted_line count (Some bytes) None after line so_far takes = absurd so_far
counted_line count (Some bytes) (Some more) None line so_far takes = absurd takes
counted_line count (Some bytes) (Some more) (Some others) line so_far takes =
    let one : length (lines_of more) ≡ length (line ∷ lines_of others) = ap length takes in
    omega arith

pub counted_all : (least count : ℕ) (input left : Option (List ℕ)) → least ≤ count → CountedSoFar count input left → HasLines least input
counted_all least count None left le so_far = tt
counted_all least count (Some bytes) None le so_far = absurd so_far
counted_all least count (Some bytes) (Some more) le so_far = omega (arith, le, so_far)
