-- The text of a script, read byte by byte.
use Rattle.std.proofs.Common.{◌≡◌, ℕ, ◌+◌, ◌-◌, ◌*◌, ◌<◌, ◌≤◌, List, [], ◌∷◌, ◌++◌, true, length, drop, take, refl, ap, arith, ◌∙◌, append_assoc}
use Rattle.std.specs.Prelude.{slice_range, Option, Some, None}
use Rattle.std.specs.List.{list_all}
use Rattle.std.specs.Char.{is_ascii_digit}
use Rattle.std.specs.Str.Parse.{digits_value, digits_value_after}
use Rattle.std.specs.Char.{digit_value as std_digit}
use Rattle.std.proofs.lemmas.Bool.{lt-ltb, and_from}
use Rattle.std.proofs.lemmas.List.{take-append-le, drop-append-le, length-drop}
use Rattle.std.proofs.lemmas.Bool.Decides.{nat_tests}
use Rattle.std.proofs.lemmas.List.Folds.{list_all-append}
use Rattle.decimal_numbers.specs.Numbers.{number_below}
use Rattle.hex_digits.specs.Digits.{spelled, digit_value, byte_before}
use Rattle.automations.specs.declared.script_text.Line.{Line}
use Rattle.automations.specs.ScriptLines.{ScriptLine, are_sound, lines_from}
use Rattle.automations.specs.ScriptReading.{last_end, next_line_number}
use Rattle.automations.specs.ScriptText.{IsLine, SpellsLines}
use Rattle.automations.proofs.ScriptLemmas.{first_sound}

-- ---- hexadecimal digits

pub record Grows (one two : Option ℕ) (three : Option (List ℕ)) (bs : List ℕ) : Type 0 where
  pub rest : List ℕ
  pub is : three ≡ Some rest
  pub grows : (more : List ℕ) → byte_before one two (Some (rest ++ more)) ≡ Some (bs ++ more)

grown : (one two : Option ℕ) (three : Option (List ℕ)) (bs : List ℕ) → byte_before one two three ≡ Some bs → Grows one two three bs
grown None two three bs h = absurd (cc)
grown (Some x) None three bs h = absurd (cc)
grown (Some x) (Some y) None bs h = absurd (cc)
grown (Some x) (Some y) (Some rest) bs h = record {
  rest = rest;
  is = refl;
  grows = λ more. let e : (16 * x + y) ∷ rest ≡ bs = cc in ap (λ l. Some (l ++ more)) e;
}

pub spelled_more : (hex bs : List ℕ) (c d x y : ℕ) → spelled hex ≡ Some bs → digit_value c ≡ Some x → digit_value d ≡ Some y
    → spelled (hex ++ c ∷ d ∷ []) ≡ Some (bs ++ (16 * x + y) ∷ [])
spelled_more [] bs c d x y h k m =
    let e : [] ≡ bs = cc in
    ap (λ o. byte_before o (digit_value d) (Some [])) k ∙ ap (λ o. byte_before (Some x) o (Some [])) m ∙ ap (λ l. Some (l ++ (16 * x + y) ∷ [])) e
spelled_more (a ∷ []) bs c d x y h k m = absurd (cc)
spelled_more (a ∷ b ∷ hex) bs c d x y h k m =
    let g = grown (digit_value a) (digit_value b) (spelled hex) bs h in
    ap (byte_before (digit_value a) (digit_value b)) (spelled_more hex g.rest c d x y g.is k m) ∙ g.grows ((16 * x + y) ∷ [])

-- ---- decimal digits

value_after : (n : ℕ) (ds : List ℕ) (c : ℕ) → digits_value_after 10 n (ds ++ c ∷ []) ≡ digits_value_after 10 n ds * 10 + std_digit c
value_after n [] c = refl
value_after n (d ∷ ds) c = value_after (n * 10 + std_digit d) ds c

pub std_value : (c : ℕ) → is_ascii_digit c ≡ true → std_digit c ≡ c - 48
std_value c h = grind (arith, nat_tests)

pub value_more : (ds : List ℕ) (c n : ℕ) → is_ascii_digit c ≡ true → digits_value 10 ds ≡ n → digits_value 10 (ds ++ c ∷ []) ≡ n * 10 + (c - 48)
value_more ds c n h e = value_after 0 ds c ∙ ap (λ v. v * 10 + std_digit c) e ∙ ap (λ v. n * 10 + v) (std_value c h)

pub digits_more : (ds : List ℕ) (c : ℕ) → list_all is_ascii_digit ds ≡ true → is_ascii_digit c ≡ true → list_all is_ascii_digit (ds ++ c ∷ []) ≡ true
digits_more ds c h k = list_all-append is_ascii_digit ds (c ∷ []) ∙ and_from (list_all is_ascii_digit ds) (list_all is_ascii_digit (c ∷ [])) h (and_from (is_ascii_digit c) true k refl)

pub number_is : (ds : List ℕ) (n : ℕ) → 0 < length ds → list_all is_ascii_digit ds ≡ true → digits_value 10 ds ≡ n → n < 18446744073709551616 → number_below ds 18446744073709551616 ≡ Some n
number_is ds n some h e lt =
    let a = lt-ltb 0 (length ds) some in
    let b = lt-ltb n 18446744073709551616 lt in
    grind (arith, nat_tests, a, h, e, b)

-- ---- lines

pub lines_more : (bytes : List ℕ) (begin : ℕ) (ls : List Line) (l : Line)
    → lines_from bytes begin (ls ++ l ∷ []) ≡ lines_from bytes begin ls ++ record { packet = l.packet; bytes = slice_range bytes (last_end begin ls) l.end } ∷ []
lines_more bytes b [] l = refl
lines_more bytes b (k ∷ ls) l = ap (λ xs. record { packet = k.packet; bytes = slice_range bytes b k.end } ∷ xs) (lines_more bytes k.end ls l)

part_kept : (bytes more : List ℕ) (b e : ℕ) → b ≤ e → e ≤ length bytes → slice_range (bytes ++ more) b e ≡ slice_range bytes b e
part_kept bytes more b e le inside =
    ap (take (e - b)) (drop-append-le b bytes more (omega (arith, le, inside)))
    ∙ take-append-le (e - b) (drop b bytes) more (let size = length-drop b bytes in omega (arith, size, le, inside))

pub lines_kept : (bytes more : List ℕ) (begin least : ℕ) (ls : List Line) → are_sound begin (length bytes) least ls ≡ true → lines_from (bytes ++ more) begin ls ≡ lines_from bytes begin ls
lines_kept bytes more b n [] h = refl
lines_kept bytes more b n (l ∷ ls) h =
    let s = first_sound b (length bytes) n l ls h in
    let some = s.some in
    ap (λ (bs : List ℕ). record { packet = l.packet; bytes = bs } ∷ lines_from (bytes ++ more) l.end ls) (part_kept bytes more b l.end (omega (arith, some)) s.inside)
    ∙ ap (λ xs. record { packet = l.packet; bytes = slice_range bytes b l.end } ∷ xs) (lines_kept bytes more l.end (l.packet + 1) ls s.rest)

-- ---- text

abbrev pub next_of : ℕ → List ScriptLine → ℕ
next_of least [] = least
next_of least (l ∷ ls) = next_of (l.packet + 1) ls

pub next_is : (bytes : List ℕ) (begin least : ℕ) (ls : List Line) → next_of least (lines_from bytes begin ls) ≡ next_line_number least ls
next_is bytes b n [] = refl
next_is bytes b n (l ∷ ls) = next_is bytes l.end (l.packet + 1) ls

pub spells_more : (least : ℕ) (text line : List ℕ) (ls : List ScriptLine) (l : ScriptLine) → SpellsLines least text ls → IsLine line l → next_of least ls ≤ l.packet
    → SpellsLines least (text ++ (line ++ 10 ∷ [])) (ls ++ l ∷ [])
spells_more n text line [] l h is le = (le, line, [], ap (λ t. t ++ (line ++ 10 ∷ [])) h, is, refl)
spells_more n text line (k ∷ ls) l (up, first, rest, e, is, more) own le =
    (up, first, rest ++ (line ++ 10 ∷ []), ap (λ t. t ++ (line ++ 10 ∷ [])) e ∙ append_assoc first (10 ∷ rest) (line ++ 10 ∷ []), is, spells_more (k.packet + 1) rest line ls l more own le)
