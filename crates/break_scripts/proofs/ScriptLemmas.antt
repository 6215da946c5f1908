-- A text that is written request by request.
use Rattle.std.proofs.Common.{◌≡◌, ℕ, ◌+◌, ◌%◌, ◌==◌, Bool, true, false, List, [], ◌∷◌, ◌++◌, if◌then◌else◌, refl, sym, ap, ◌∙◌, append_assoc}
use Rattle.std.specs.Prelude.{codes}
use Rattle.std.specs.Fmt.{decimal}
use Rattle.hex_digits.specs.Digits.{digits_of}
use Rattle.hex_digits.proofs.DigitLemmas.{digits_of-append}
use Rattle.break_scripts.specs.declared.request.PlacedRequest.{PlacedRequest}
use Rattle.break_scripts.specs.Scripts.{PlannedLine, message, goes_on, front, ending, with_bytes, lines_of, script_text}

-- without the number and the space of the first line
abbrev pub text_within : List PlannedLine → List ℕ
text_within [] = []
text_within (l ∷ ls) = digits_of l.bytes ++ 10 ∷ script_text ls

-- what is still to be written
abbrev pub text_left : Bool → List PlannedLine → List ℕ
text_left is_within ls = if is_within then text_within ls else script_text ls

-- the first line is of this packet
abbrev begins_with : ℕ → List PlannedLine → Bool
begins_with packet [] = false
begins_with packet (l ∷ ls) = l.packet == packet

head_of_with : (packet p : ℕ) (bytes : List ℕ) (ls : List PlannedLine) → begins_with packet (with_bytes p bytes ls) ≡ (p == packet)
head_of_with packet p bytes [] = refl
head_of_with packet p bytes (l ∷ ls) = by (l.packet == p)
  where
    by : (b : Bool) → begins_with packet (if b then record { packet = p; bytes = bytes ++ l.bytes } ∷ ls else record { packet = p; bytes = bytes } ∷ l ∷ ls) ≡ (p == packet)
    by true = refl
    by false = refl

goes_on_is : (index number packet : ℕ) (rs : List PlacedRequest) → goes_on packet rs ≡ begins_with packet (lines_of index number rs)
goes_on_is index number packet [] = refl
goes_on_is index number packet (r ∷ rs) = sym (head_of_with packet r.packet (message number index r.request) (lines_of index ((number + 1) % 256) rs))

-- the digits of a line with bytes in front
digits_in_front : (m bytes rest : List ℕ) → digits_of (m ++ bytes) ++ rest ≡ digits_of m ++ (digits_of bytes ++ rest)
digits_in_front m bytes rest = ap (λ x. x ++ rest) (digits_of-append m bytes) ∙ append_assoc (digits_of m) (digits_of bytes) rest

-- a request more, within its line
within : (p : ℕ) (m : List ℕ) (ls : List PlannedLine) → text_within (with_bytes p m ls)
    ≡ digits_of m ++ (ending (begins_with p ls) ++ text_left (begins_with p ls) ls)
within p m [] = refl
within p m (l ∷ ls) = by (l.packet == p)
  where
    by : (b : Bool) → text_within (if b then record { packet = p; bytes = m ++ l.bytes } ∷ ls else record { packet = p; bytes = m } ∷ l ∷ ls)
        ≡ digits_of m ++ (ending b ++ text_left b (l ∷ ls))
    by true = digits_in_front m l.bytes (10 ∷ script_text ls)
    by false = refl

five : (a c ds e rest : List ℕ) → (a ++ (c ++ (ds ++ e))) ++ rest ≡ (a ++ c) ++ (ds ++ (e ++ rest))
five a c ds e rest =
    append_assoc a (c ++ (ds ++ e)) rest
    ∙ ap (λ x. a ++ x) (append_assoc c (ds ++ e) rest ∙ ap (λ x. c ++ x) (append_assoc ds e rest))
    ∙ sym (append_assoc a c (ds ++ (e ++ rest)))

line_front : (p : ℕ) (ds rest : List ℕ) → (decimal p ++ (codes " " ++ (ds ++ 10 ∷ []))) ++ rest ≡ (decimal p ++ codes " ") ++ (ds ++ 10 ∷ rest)
line_front p ds rest = five (decimal p) (codes " ") ds (10 ∷ []) rest

-- a line begins with its number
first_line : (l : PlannedLine) (ls : List PlannedLine) → script_text (l ∷ ls) ≡ front false l.packet ++ text_within (l ∷ ls)
first_line l ls = line_front l.packet (digits_of l.bytes) (script_text ls)

first_of : (p : ℕ) (m : List ℕ) (ls : List PlannedLine) → script_text (with_bytes p m ls) ≡ front false p ++ text_within (with_bytes p m ls)
first_of p m [] = first_line (record { packet = p; bytes = m }) []
first_of p m (l ∷ ls) = by (l.packet == p)
  where
    by : (b : Bool) → script_text (if b then record { packet = p; bytes = m ++ l.bytes } ∷ ls else record { packet = p; bytes = m } ∷ l ∷ ls)
        ≡ front false p ++ text_within (if b then record { packet = p; bytes = m ++ l.bytes } ∷ ls else record { packet = p; bytes = m } ∷ l ∷ ls)
    by true = first_line (record { packet = p; bytes = m ++ l.bytes }) ls
    by false = first_line (record { packet = p; bytes = m }) (l ∷ ls)

begun : (b : Bool) (p : ℕ) (m : List ℕ) (ls : List PlannedLine) → text_left b (with_bytes p m ls)
    ≡ front b p ++ (digits_of m ++ (ending (begins_with p ls) ++ text_left (begins_with p ls) ls))
begun true p m ls = within p m ls
begun false p m ls = first_of p m ls ∙ ap (λ x. front false p ++ x) (within p m ls)

joined : (t f d e rest : List ℕ) → (((t ++ f) ++ d) ++ e) ++ rest ≡ t ++ (f ++ (d ++ (e ++ rest)))
joined t f d e rest = append_assoc ((t ++ f) ++ d) e rest ∙ append_assoc (t ++ f) d (e ++ rest) ∙ append_assoc t f (d ++ (e ++ rest))

-- one request more
pub request_more : (index number : ℕ) (r : PlacedRequest) (rs : List PlacedRequest) (b : Bool) (text : List ℕ)
    → (((text ++ front b r.packet) ++ digits_of (message number index r.request)) ++ ending (goes_on r.packet rs))
    ++ text_left (goes_on r.packet rs) (lines_of index ((number + 1) % 256) rs)
    ≡ text ++ text_left b (lines_of index number (r ∷ rs))
request_more index number r rs b text =
    let ls = lines_of index ((number + 1) % 256) rs in
    let m = message number index r.request in
    joined text (front b r.packet) (digits_of m) (ending (goes_on r.packet rs)) (text_left (goes_on r.packet rs) ls)
    ∙ ap (λ g. text ++ (front b r.packet ++ (digits_of m ++ (ending g ++ text_left g ls)))) (goes_on_is index ((number + 1) % 256) r.packet rs)
    ∙ ap (λ x. text ++ x) (sym (begun b r.packet m ls))

-- with the parts as they were written
pub next_request : (index number next : ℕ) (r : PlacedRequest) (xs rs : List PlacedRequest) (b g : Bool) (text t1 t2 t3 whole : List ℕ)
    → xs ≡ r ∷ rs → next ≡ (number + 1) % 256 → g ≡ goes_on r.packet rs
    → t1 ≡ text ++ front b r.packet → t2 ≡ t1 ++ digits_of (message number index r.request) → t3 ≡ t2 ++ ending g
    → text ++ text_left b (lines_of index number xs) ≡ whole
    → t3 ++ text_left g (lines_of index next rs) ≡ whole
next_request index number next r xs rs b g text t1 t2 t3 whole same after on one two three before =
    ap (λ t. t ++ text_left g (lines_of index next rs)) (three ∙ ap (λ t. t ++ ending g) (two ∙ ap (λ t. t ++ digits_of (message number index r.request)) one))
    ∙ ap (λ n. (((text ++ front b r.packet) ++ digits_of (message number index r.request)) ++ ending g) ++ text_left g (lines_of index n rs)) after
    ∙ ap (λ h. (((text ++ front b r.packet) ++ digits_of (message number index r.request)) ++ ending h) ++ text_left h (lines_of index ((number + 1) % 256) rs)) on
    ∙ request_more index number r rs b text
    ∙ ap (λ x. text ++ text_left b (lines_of index number x)) (sym same)
    ∙ before
