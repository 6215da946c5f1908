-- Which text begins no script.
use Rattle.std.proofs.Common.{◌≡◌, ◌≢◌, ℕ, ◌+◌, ◌-◌, ◌*◌, ◌<◌, ◌≤◌, List, [], ◌∷◌, ◌++◌, Bool, true, false, not, ◌&&◌, ◌==◌, length, refl, sym, ap, arith, ◌∙◌, append_assoc, subst}
use Rattle.std.specs.Prelude.{nat_lt, Option, Some, None, if◌then◌else◌}
use Rattle.std.specs.List.{list_all}
use Rattle.std.specs.Char.{is_ascii_digit, digit_value as std_digit}
use Rattle.std.specs.Str.Parse.{digits_value, digits_value_after}
use Rattle.std.proofs.lemmas.Bool.Decides.{nat_tests}
use Rattle.std.proofs.lemmas.Bool.{ltb-true, eqb-true, eqb-false, and_from, and_parts}
use Rattle.ts_packet.proofs.Cases.{by_test}
use Rattle.std.proofs.lemmas.List.{length-append}
use Rattle.std.proofs.lemmas.List.Folds.{list_all-append}
use Rattle.decimal_numbers.specs.Numbers.{is_number, number_below}
use Rattle.hex_digits.specs.Digits.{spelled, digit_value, byte_before}
use Rattle.automations.specs.ScriptLines.{ScriptLine}
use Rattle.automations.specs.ScriptText.{SpellsLines}
use Rattle.automations.proofs.TextLemmas.{next_of, std_value}

-- ---- where a list is cut

pub is_other : ℕ → ℕ → Bool
is_other c b = not (b == c)

pub others : ℕ → List ℕ → Bool
others c bs = list_all (is_other c) bs

cut_once : (c : ℕ) (a b r s : List ℕ) → others c a ≡ true → others c b ≡ true → a ++ c ∷ r ≡ b ++ c ∷ s → (a ≡ b) × (r ≡ s)
unfolding others is_other
cut_once c [] [] r s h k e = (refl, cc)
cut_once c [] (y ∷ b) r s h k e =
    let q : c ≡ y = cc in
    absurd (let g = (and_parts (not (y == c)) (list_all (is_other c) b) k).0 in grind (arith, nat_tests))
cut_once c (x ∷ a) [] r s h k e =
    let q : x ≡ c = cc in
    absurd (let g = (and_parts (not (x == c)) (list_all (is_other c) a) h).0 in grind (arith, nat_tests))
cut_once c (x ∷ a) (y ∷ b) r s h k e =
    let q : x ≡ y = cc in
    let t : a ++ c ∷ r ≡ b ++ c ∷ s = cc in
    let i = cut_once c a b r s (and_parts (not (x == c)) (list_all (is_other c) a) h).1 (and_parts (not (y == c)) (list_all (is_other c) b) k).1 t in
    (ap (λ z. z ∷ a) q ∙ ap (λ l. y ∷ l) i.0, i.1)

-- the cut lies behind this byte, which is another
pub record LiesBehind (a b : List ℕ) (d : ℕ) (r s : List ℕ) (c : ℕ) : Type 0 where
  pub rest : List ℕ
  pub is : b ≡ a ++ d ∷ rest
  pub left : r ≡ rest ++ c ∷ s

cut_behind : (c d : ℕ) (a b r s : List ℕ) → others c a ≡ true → d ≢ c → a ++ d ∷ r ≡ b ++ c ∷ s → LiesBehind a b d r s c
unfolding others is_other
cut_behind c d [] [] r s h ne e = absurd (ne (cc))
cut_behind c d [] (y ∷ b) r s h ne e = record { rest = b; is = let q : y ≡ d = cc in ap (λ z. z ∷ b) q; left = cc }
cut_behind c d (x ∷ a) [] r s h ne e =
    let q : x ≡ c = cc in
    absurd (let g = (and_parts (not (x == c)) (list_all (is_other c) a) h).0 in grind (arith, nat_tests))
cut_behind c d (x ∷ a) (y ∷ b) r s h ne e =
    let q : y ≡ x = cc in
    let t : a ++ d ∷ r ≡ b ++ c ∷ s = cc in
    let i = cut_behind c d a b r s (and_parts (not (x == c)) (list_all (is_other c) a) h).1 ne t in
    record { rest = i.rest; is = ap (λ z. z ∷ b) q ∙ ap (λ l. x ∷ l) i.is; left = i.left }

-- ---- digits are no line feeds and no spaces

digit_other : (c b : ℕ) → c < 48 → is_ascii_digit b ≡ true → is_other c b ≡ true
unfolding is_other
digit_other c b lt h = grind (arith, nat_tests)

pub digits_other : (c : ℕ) (ds : List ℕ) → c < 48 → list_all is_ascii_digit ds ≡ true → others c ds ≡ true
unfolding others
digits_other c [] lt h = refl
digits_other c (d ∷ ds) lt h =
    let g = and_parts (is_ascii_digit d) (list_all is_ascii_digit ds) h in
    and_from (is_other c d) (list_all (is_other c) ds) (digit_other c d lt g.0) (digits_other c ds lt g.1)

pub record Pair (a b : ℕ) (hex bs : List ℕ) : Type 0 where
  pub high : ℕ
  pub low : ℕ
  pub rest : List ℕ
  pub high_is : digit_value a ≡ Some high
  pub low_is : digit_value b ≡ Some low
  pub rest_is : spelled hex ≡ Some rest
  pub is : bs ≡ (16 * high + low) ∷ rest

in_pair : (one two : Option ℕ) (three : Option (List ℕ)) (bs : List ℕ) → byte_before one two three ≡ Some bs
    → (x : ℕ) × (y : ℕ) × (rest : List ℕ) × (one ≡ Some x) × (two ≡ Some y) × (three ≡ Some rest) × (bs ≡ (16 * x + y) ∷ rest)
in_pair None two three bs h = absurd (cc)
in_pair (Some x) None three bs h = absurd (cc)
in_pair (Some x) (Some y) None bs h = absurd (cc)
in_pair (Some x) (Some y) (Some rest) bs h = (x, y, rest, refl, refl, refl, let e : bs ≡ (16 * x + y) ∷ rest = cc in e)

first_pair : (a b : ℕ) (hex bs : List ℕ) → spelled (a ∷ b ∷ hex) ≡ Some bs → Pair a b hex bs
first_pair a b hex bs h =
    let (x, y, rest, k, m, n, e) = in_pair (digit_value a) (digit_value b) (spelled hex) bs h in
    record { high = x; low = y; rest = rest; high_is = k; low_is = m; rest_is = n; is = e }

pub hex_other : (b v : ℕ) → digit_value b ≡ Some v → is_other 10 b ≡ true
unfolding is_other
hex_other b v h = grind (arith, nat_tests)

pub spelled_other : (hex bs : List ℕ) → spelled hex ≡ Some bs → others 10 hex ≡ true
unfolding others
spelled_other [] bs h = refl
spelled_other (a ∷ []) bs h = absurd (cc)
spelled_other (a ∷ b ∷ hex) bs h =
    let p = first_pair a b hex bs h in
    and_from (is_other 10 a) (list_all (is_other 10) (b ∷ hex)) (hex_other a p.high p.high_is)
    (and_from (is_other 10 b) (list_all (is_other 10) hex) (hex_other b p.low p.low_is) (spelled_other hex p.rest p.rest_is))

-- ---- hexadecimal digits behind others

pub record Spelled (bs rest bytes : List ℕ) : Type 0 where
  pub more : List ℕ
  pub rest_is : spelled rest ≡ Some more
  pub is : bytes ≡ bs ++ more

pub spelled_rest : (hex rest bs bytes : List ℕ) → spelled hex ≡ Some bs → spelled (hex ++ rest) ≡ Some bytes → Spelled bs rest bytes
spelled_rest [] rest bs bytes h k = let e : [] ≡ bs = cc in record { more = bytes; rest_is = k; is = ap (λ l. l ++ bytes) e }
spelled_rest (a ∷ []) rest bs bytes h k = absurd (cc)
spelled_rest (a ∷ b ∷ hex) rest bs bytes h k =
    let p = first_pair a b hex bs h in
    let q = first_pair a b (hex ++ rest) bytes k in
    let i = spelled_rest hex rest p.rest q.rest p.rest_is q.rest_is in
    let high : Some p.high ≡ Some q.high = sym p.high_is ∙ q.high_is in
    let low : Some p.low ≡ Some q.low = sym p.low_is ∙ q.low_is in
    let one : p.high ≡ q.high = cc in
    let two : p.low ≡ q.low = cc in
    record {
      more = i.more;
      rest_is = i.rest_is;
      is = q.is ∙ ap (λ l. (16 * q.high + q.low) ∷ l) i.is ∙ ap (λ l. l ++ i.more) (sym (p.is ∙ ap (λ x. (16 * x + p.low) ∷ p.rest) one ∙ ap (λ y. (16 * q.high + y) ∷ p.rest) two));
    }

-- a byte that begins more digits
pub record Begins (a : ℕ) (rest more : List ℕ) : Type 0 where
  pub second : ℕ
  pub behind : List ℕ
  pub rest_is : rest ≡ second ∷ behind
  pub high : ℕ
  pub low : ℕ
  pub high_is : digit_value a ≡ Some high
  pub low_is : digit_value second ≡ Some low
  pub some : 0 < length more

pub begins : (a : ℕ) (rest more : List ℕ) → spelled (a ∷ rest) ≡ Some more → Begins a rest more
begins a [] more h = absurd (cc)
begins a (b ∷ rest) more h =
    let p = first_pair a b rest more h in
    record {
      second = b;
      behind = rest;
      rest_is = refl;
      high = p.high;
      low = p.low;
      high_is = p.high_is;
      low_is = p.low_is;
      some = let e = ap length p.is in omega (arith, e);
    }

-- ---- decimal digits

at_least : (n : ℕ) (ds : List ℕ) → n ≤ digits_value_after 10 n ds
at_least n [] = omega arith
at_least n (d ∷ ds) = let more = at_least (n * 10 + std_digit d) ds in omega (arith, more)

value_on : (n : ℕ) (ds rest : List ℕ) → digits_value_after 10 n (ds ++ rest) ≡ digits_value_after 10 (digits_value_after 10 n ds) rest
value_on n [] rest = refl
value_on n (d ∷ ds) rest = value_on (n * 10 + std_digit d) ds rest

all_second : (ds rest : List ℕ) → list_all is_ascii_digit (ds ++ rest) ≡ true → list_all is_ascii_digit rest ≡ true
all_second [] rest h = h
all_second (d ∷ ds) rest h = all_second ds rest (and_parts (is_ascii_digit d) (list_all is_ascii_digit (ds ++ rest)) h).1

-- what the digits of a line's number are
pub record Number (digits : List ℕ) (n : ℕ) : Type 0 where
  pub some : 0 < length digits
  pub all : list_all is_ascii_digit digits ≡ true
  pub value : digits_value 10 digits ≡ n
  pub below : n < 18446744073709551616

by_bool : (b : Bool) (x y : Option ℕ) (n : ℕ) → (if b then x else y) ≡ Some n → y ≡ None → (b ≡ true) × (x ≡ Some n)
by_bool true x y n h e = (refl, h)
by_bool false x y n h e = absurd (cc)

pub number_of : (digits : List ℕ) (n : ℕ) → number_below digits 18446744073709551616 ≡ Some n → Number digits n
number_of digits n h =
    let b = by_bool (is_number digits && nat_lt (digits_value 10 digits) 18446744073709551616) (Some (digits_value 10 digits)) None n h refl in
    let t = and_parts (is_number digits) (nat_lt (digits_value 10 digits) 18446744073709551616) b.0 in
    let u = and_parts (nat_lt 0 (length digits)) (list_all is_ascii_digit digits) t.0 in
    let v : digits_value 10 digits ≡ n = let w = b.1 in cc in
    let lt = ltb-true (digits_value 10 digits) 18446744073709551616 t.1 in
    record {
      some = ltb-true 0 (length digits) u.0;
      all = u.1;
      value = v;
      below = omega (arith, v, lt);
    }

-- ---- the line that comes next

pub others_both : (c : ℕ) (a b : List ℕ) → others c a ≡ true → others c b ≡ true → others c (a ++ b) ≡ true
unfolding others
others_both c a b h k = list_all-append (is_other c) a b ∙ and_from (list_all (is_other c) a) (list_all (is_other c) b) h k

not_among : (c : ℕ) (a r : List ℕ) → others c (a ++ c ∷ r) ≡ true → ⊥
unfolding others is_other
not_among c [] r h = let g = (and_parts (not (c == c)) (list_all (is_other c) r) h).0 in grind (arith, nat_tests)
not_among c (x ∷ a) r h = not_among c a r (and_parts (is_other c x) (list_all (is_other c) (a ++ c ∷ r)) h).1

pub space_other : is_other 10 32 ≡ true
unfolding is_other
space_other = refl

pub one_other : (c b : ℕ) (bs : List ℕ) → is_other c b ≡ true → others c bs ≡ true → others c (b ∷ bs) ≡ true
unfolding others
one_other c b bs h k = and_from (is_other c b) (list_all (is_other c) bs) h k

-- the digits of a number, a space, and those of bytes
pub line_other : (digits hex : List ℕ) (n : ℕ) (bs : List ℕ) → Number digits n → spelled hex ≡ Some bs → others 10 (digits ++ 32 ∷ hex) ≡ true
line_other digits hex n bs d h =
    others_both 10 digits (32 ∷ hex) (digits_other 10 digits (omega arith) d.all) (one_other 10 32 hex space_other (spelled_other hex bs h))

same_number : (d e : List ℕ) (m n : ℕ) → d ≡ e → number_below d 18446744073709551616 ≡ Some m → number_below e 18446744073709551616 ≡ Some n → m ≡ n
same_number d e m n q h k = let s : Some m ≡ Some n = sym h ∙ ap (λ l. number_below l 18446744073709551616) q ∙ k in cc

-- what is left of a text behind whole lines
pub record Left (least : ℕ) (x : List ℕ) : Type 0 where
  pub lines : List ScriptLine
  pub spells : SpellsLines least x lines

pub peel : (least : ℕ) (whole x : List ℕ) (done lines : List ScriptLine) → SpellsLines least whole done → SpellsLines least (whole ++ x) lines → Left (next_of least done) x
peel n whole x [] lines h k = record { lines = lines; spells = subst (λ t. SpellsLines n t lines) (ap (λ l. l ++ x) h) k }
peel n whole x (d ∷ done) [] (up, first, rest, e, is, more) k =
    absurd (let l = ap length (ap (λ t. t ++ x) (sym e) ∙ k) in let m = length-append first (10 ∷ rest) in let o = length-append (first ++ 10 ∷ rest) x in omega (arith, l, m, o))
peel n whole x (d ∷ done) (l ∷ lines) (up, first, rest, e, is, more) (up', first', rest', e', is', more') =
    let t : first ++ 10 ∷ (rest ++ x) ≡ first' ++ 10 ∷ rest' = sym (append_assoc first (10 ∷ rest) x) ∙ ap (λ t. t ++ x) (sym e) ∙ e' in
    let no = ap (others 10) is.text_is ∙ line_other is.digits is.hex d.packet d.bytes (number_of is.digits d.packet is.number) is.bytes in
    let no' = ap (others 10) is'.text_is ∙ line_other is'.digits is'.hex l.packet l.bytes (number_of is'.digits l.packet is'.number) is'.bytes in
    let c = cut_once 10 first first' (rest ++ x) rest' no no' t in
    let sp = digits_other 32 is.digits (omega arith) (number_of is.digits d.packet is.number).all in
    let sp' = digits_other 32 is'.digits (omega arith) (number_of is'.digits l.packet is'.number).all in
    let parts = cut_once 32 is.digits is'.digits is.hex is'.hex sp sp' (sym is.text_is ∙ c.0 ∙ is'.text_is) in
    let same = same_number is.digits is'.digits d.packet l.packet parts.0 is.number is'.number in
    peel (d.packet + 1) rest x done lines more
    (subst (λ k. SpellsLines (k + 1) (rest ++ x) lines) (sym same) (subst (λ t. SpellsLines (l.packet + 1) t lines) (sym c.1) more'))

pub record NextLine (least : ℕ) (x : List ℕ) : Type 0 where
  pub digits : List ℕ
  pub hex : List ℕ
  pub rest : List ℕ
  pub bytes : List ℕ
  pub packet : ℕ
  pub is : x ≡ digits ++ 32 ∷ (hex ++ 10 ∷ rest)
  pub number : Number digits packet
  pub bytes_are : spelled hex ≡ Some bytes
  pub some : 0 < length bytes
  pub few : length bytes ≤ 4096
  pub rises : least ≤ packet

pub next_line : (least : ℕ) (x : List ℕ) (lines : List ScriptLine) → 0 < length x → SpellsLines least x lines → NextLine least x
next_line n x [] some h = absurd (let l = ap length h in omega (arith, l, some))
next_line n x (l ∷ lines) some (up, first, rest, e, is, more) = record {
  digits = is.digits;
  hex = is.hex;
  rest = rest;
  bytes = l.bytes;
  packet = l.packet;
  is = e ∙ ap (λ t. t ++ 10 ∷ rest) is.text_is ∙ append_assoc is.digits (32 ∷ is.hex) (10 ∷ rest);
  number = number_of is.digits l.packet is.number;
  bytes_are = is.bytes;
  some = is.some;
  few = is.few;
  rises = up;
}

-- ---- bytes that no line has

pub none_other : (c : ℕ) → others c [] ≡ true
unfolding others
none_other c = refl

pub feed_other : is_other 32 10 ≡ true
unfolding is_other
feed_other = refl

-- a digit of the number is none, or makes it too great
pub no_digit : (least : ℕ) (ds more : List ℕ) (b n : ℕ) → list_all is_ascii_digit ds ≡ true → digits_value 10 ds ≡ n → b ≢ 32
    → (is_ascii_digit b ≡ true → 18446744073709551616 ≤ n * 10 + (b - 48)) → NextLine least (ds ++ b ∷ more) → ⊥
no_digit least ds more b n all value ne great h =
    let c = cut_behind 32 b ds h.digits more (h.hex ++ 10 ∷ h.rest) (digits_other 32 ds (omega arith) all) ne h.is in
    let whole = ap (list_all is_ascii_digit) (sym c.is) ∙ h.number.all in
    let own = (and_parts (is_ascii_digit b) (list_all is_ascii_digit c.rest) (all_second ds (b ∷ c.rest) whole)).0 in
    let over = great own in
    let on = value_on 0 ds (b ∷ c.rest) ∙ ap (λ v. digits_value_after 10 v (b ∷ c.rest)) value in
    let grows = at_least (n * 10 + std_digit b) c.rest in
    let std = std_value b own in
    let is = ap (digits_value 10) (sym c.is) ∙ h.number.value in
    let below = h.number.below in
    omega (arith, over, on, grows, std, is, below)

-- no digit stands before the space
pub no_number : (least : ℕ) (more : List ℕ) → NextLine least (32 ∷ more) → ⊥
no_number least more h =
    let d = digits_other 32 h.digits (omega arith) h.number.all in
    let e = cut_once 32 [] h.digits more (h.hex ++ 10 ∷ h.rest) (none_other 32) d h.is in
    let size = ap length e.0 in
    let some = h.number.some in
    omega (arith, size, some)

-- the number does not rise
pub no_rise : (least : ℕ) (ds more : List ℕ) (n : ℕ) → list_all is_ascii_digit ds ≡ true → digits_value 10 ds ≡ n → n < least → NextLine least (ds ++ 32 ∷ more) → ⊥
no_rise least ds more n all value low h =
    let e = cut_once 32 ds h.digits more (h.hex ++ 10 ∷ h.rest) (digits_other 32 ds (omega arith) all) (digits_other 32 h.digits (omega arith) h.number.all) h.is in
    let same = sym value ∙ ap (digits_value 10) e.0 ∙ h.number.value in
    let up = h.rises in
    omega (arith, same, up, low)

module _ (least : ℕ) (ds hex more : List ℕ) (n : ℕ) (bs : List ℕ) (number : number_below ds 18446744073709551616 ≡ Some n) (is : spelled hex ≡ Some bs) where
  own_digits : others 32 ds ≡ true
  own_digits = digits_other 32 ds (omega arith) (number_of ds n number).all

  behind_space : (x : List ℕ) (h : NextLine least (ds ++ 32 ∷ x)) → x ≡ h.hex ++ 10 ∷ h.rest
  behind_space x h = (cut_once 32 ds h.digits x (h.hex ++ 10 ∷ h.rest) own_digits (digits_other 32 h.digits (omega arith) h.number.all) h.is).1

  -- a line without bytes ends
  pub no_bytes : length bs ≡ 0 → NextLine least (ds ++ 32 ∷ (hex ++ 10 ∷ more)) → ⊥
  no_bytes none h =
      let e = cut_once 10 hex h.hex more h.rest (spelled_other hex bs is) (spelled_other h.hex h.bytes h.bytes_are) (behind_space (hex ++ 10 ∷ more) h) in
      let s : Some bs ≡ Some h.bytes = sym is ∙ ap spelled e.0 ∙ h.bytes_are in
      let same : bs ≡ h.bytes = cc in
      let size = ap length same in
      let some = h.some in
      omega (arith, none, size, some)

  -- what begins behind the bytes is the first half of one more
  one_more_byte : (b : ℕ) (h : NextLine least (ds ++ 32 ∷ (hex ++ b ∷ more))) → b ≢ 10
      → (rest : List ℕ) × (bytes : List ℕ) × Begins b rest bytes × (h.bytes ≡ bs ++ bytes) × (more ≡ rest ++ 10 ∷ h.rest)
  one_more_byte b h ne =
      let c = cut_behind 10 b hex h.hex more h.rest (spelled_other hex bs is) ne (behind_space (hex ++ b ∷ more) h) in
      let s = spelled_rest hex (b ∷ c.rest) bs h.bytes is (ap spelled (sym c.is) ∙ h.bytes_are) in
      (c.rest, s.more, begins b c.rest s.more s.rest_is, s.is, c.left)

  pub no_half : (b : ℕ) → b ≢ 10 → digit_value b ≡ None → NextLine least (ds ++ 32 ∷ (hex ++ b ∷ more)) → ⊥
  no_half b ne none h =
      let (rest, bytes, g, e, l) = one_more_byte b h ne in
      let s : Some g.high ≡ None = sym g.high_is ∙ none in
      absurd (cc)

  pub no_more : (b : ℕ) → b ≢ 10 → length bs ≡ 4096 → NextLine least (ds ++ 32 ∷ (hex ++ b ∷ more)) → ⊥
  no_more b ne full h =
      let (rest, bytes, g, e, l) = one_more_byte b h ne in
      let size = ap length e ∙ length-append bs bytes in
      let some = g.some in
      let few = h.few in
      omega (arith, full, size, some, few)

-- the second half of a byte is no digit
pub no_second : (least : ℕ) (ds hex more : List ℕ) (n : ℕ) (bs : List ℕ) (d b : ℕ) → number_below ds 18446744073709551616 ≡ Some n → spelled hex ≡ Some bs → d ≢ 10 → digit_value b ≡ None
    → NextLine least (ds ++ 32 ∷ (hex ++ d ∷ b ∷ more)) → ⊥
no_second least ds hex more n bs d b number is ne none h =
    let (rest, bytes, g, e, l) = one_more_byte least ds hex (b ∷ more) n bs number is d h ne in
    let t : b ∷ more ≡ g.second ∷ (g.behind ++ 10 ∷ h.rest) = l ∙ ap (λ x. x ++ 10 ∷ h.rest) g.rest_is in
    let same : b ≡ g.second = cc in
    let s : Some g.low ≡ None = sym g.low_is ∙ ap digit_value (sym same) ∙ none in
    absurd (cc)

-- no line ends
pub no_end : (least : ℕ) (x : List ℕ) → others 10 x ≡ true → NextLine least x → ⊥
no_end least x free h =
    not_among 10 (h.digits ++ 32 ∷ h.hex) h.rest (ap (others 10) (append_assoc h.digits (32 ∷ h.hex) (10 ∷ h.rest) ∙ sym h.is) ∙ free)

-- no space is there
pub no_space : (least : ℕ) (x : List ℕ) → others 32 x ≡ true → NextLine least x → ⊥
no_space least x free h = not_among 32 h.digits (h.hex ++ 10 ∷ h.rest) (ap (others 32) (sym h.is) ∙ free)

pub no_first : (least : ℕ) (more : List ℕ) (b : ℕ) → (is_ascii_digit b ≡ true → 18446744073709551616 ≤ 0 * 10 + (b - 48)) → NextLine least (b ∷ more) → ⊥
no_first least more b great h =
    by_test (b == 32)
    (λ yes. no_number least more (subst (λ (x : ℕ). NextLine least (x ∷ more)) (eqb-true b 32 yes) h))
    (λ no. no_digit least [] more b 0 refl refl (eqb-false b 32 no) great h)

pub hex_ten : digit_value 10 ≡ None
hex_ten = refl

pub not_ten : (d v : ℕ) → digit_value d ≡ Some v → d ≢ 10
not_ten d v h = λ e. let s : Some v ≡ None = sym h ∙ ap digit_value e ∙ hex_ten in absurd (cc)
