-- One byte more of a script's text.
use Rattle.std.proofs.Common.{◌≡◌, ℕ, ◌+◌, ◌-◌, ◌*◌, ◌%◌, ◌<◌, ◌≤◌, List, [], ◌∷◌, ◌++◌, true, length, get_or, drop, refl, sym, ap, arith, ◌∙◌, append_assoc, subst}
use Rattle.std.specs.Prelude.{slice_range, Some}
use Rattle.std.specs.Char.{is_ascii_digit}
use Rattle.std.proofs.lemmas.List.{drop-append-le, take_all, length-drop, length-append, append-nil}
use Rattle.hex_digits.specs.Digits.{digit_value}
use Rattle.automations.specs.declared.script_text.Line.{Line}
use Rattle.automations.specs.ScriptLines.{ScriptLine, lines_from}
use Rattle.automations.specs.ScriptReading.{last_end, IsInLine, TextSoFar, NumberSoFar, BytesSoFar}
use Rattle.automations.specs.ScriptText.{IsLine, SpellsLines}
use Rattle.automations.proofs.ReadingLemmas.{byte_more}
use Rattle.automations.proofs.TextLemmas.{spelled_more, value_more, digits_more, lines_kept, lines_more, next_is, spells_more}

pub text_on : (bytes : List ℕ) (lines : List Line) (line text : List ℕ) (c : ℕ) → TextSoFar bytes lines line text → TextSoFar bytes lines (line ++ c ∷ []) (text ++ c ∷ [])
text_on bytes lines line text c h = record {
  whole = h.whole;
  text_is = ap (λ t. t ++ c ∷ []) h.text_is ∙ append_assoc h.whole line (c ∷ []);
  spells = h.spells;
}

pub digit_on : (digits : List ℕ) (number c v : ℕ) → NumberSoFar digits number → is_ascii_digit c ≡ true → v ≡ number * 10 + (c - 48) → v < 18446744073709551616
    → NumberSoFar (digits ++ c ∷ []) v
digit_on digits number c v h is e lt = record {
  some = let size = length-append digits (c ∷ []) in omega (arith, size);
  all = digits_more digits c h.all is;
  value = value_more digits c number is h.value ∙ sym e;
  below = lt;
}

pub byte_on : (bytes : List ℕ) (lines : List Line) (packet count digit byte high low b : ℕ) (text : List ℕ) → IsInLine bytes lines packet count
    → digit_value digit ≡ Some high → high < 16 → digit_value byte ≡ Some low → b ≡ high % 16 * 16 + low
    → BytesSoFar bytes lines packet (digit ∷ []) text → BytesSoFar (bytes ++ b ∷ []) lines packet [] (text ++ byte ∷ [])
byte_on bytes lines packet count digit byte high low b text i k lt m e h =
    let end = last_end 0 lines in
    let size = i.behind.size in
    let value : 16 * high + low ≡ b = omega (arith, e, lt) in
    let more = h.hex ++ digit ∷ byte ∷ [] in
    let line : (h.digits ++ 32 ∷ (h.hex ++ digit ∷ [])) ++ byte ∷ [] ≡ h.digits ++ 32 ∷ (more ++ []) =
    append_assoc h.digits (32 ∷ (h.hex ++ digit ∷ [])) (byte ∷ [])
    ∙ ap (λ x. h.digits ++ 32 ∷ x) (append_assoc h.hex (digit ∷ []) (byte ∷ []) ∙ sym (append-nil more)) in
    let on = text_on bytes lines (h.digits ++ 32 ∷ (h.hex ++ digit ∷ [])) text byte h.text_is in
    record {
      digits = h.digits;
      hex = more;
      number = h.number;
      spelled_so = spelled_more h.hex (drop end bytes) digit byte high low h.spelled_so k m
          ∙ ap (λ x. Some (drop end bytes ++ x ∷ [])) value ∙ ap Some (sym (drop-append-le end bytes (b ∷ []) (omega (arith, size))));
      text_is = record {
        whole = on.whole;
        text_is = on.text_is ∙ ap (λ l. on.whole ++ l) line;
        spells = subst (SpellsLines 0 on.whole) (sym (lines_kept bytes (b ∷ []) 0 0 lines i.behind.sound)) on.spells;
      };
    }

-- the first digit of a byte
pub half_on : (bytes : List ℕ) (lines : List Line) (packet digit : ℕ) (text : List ℕ) → BytesSoFar bytes lines packet [] text
    → BytesSoFar bytes lines packet (digit ∷ []) (text ++ digit ∷ [])
half_on bytes lines packet digit text h =
    let line : (h.digits ++ 32 ∷ (h.hex ++ [])) ++ digit ∷ [] ≡ h.digits ++ 32 ∷ (h.hex ++ digit ∷ []) =
    append_assoc h.digits (32 ∷ (h.hex ++ [])) (digit ∷ []) ∙ ap (λ x. h.digits ++ 32 ∷ (x ++ digit ∷ [])) (append-nil h.hex) in
    let on = text_on bytes lines (h.digits ++ 32 ∷ (h.hex ++ [])) text digit h.text_is in
    record {
      digits = h.digits;
      hex = h.hex;
      number = h.number;
      spelled_so = h.spelled_so;
      text_is = record { whole = on.whole; text_is = on.text_is ∙ ap (λ l. on.whole ++ l) line; spells = on.spells };
    }

-- the line goes on here, after so many of its bytes
pub record IsAtByte (bytes : List ℕ) (lines : List Line) (packet count : ℕ) (text : List ℕ) : Type 0 where
  pub reading : IsInLine bytes lines packet count
  pub text_is : BytesSoFar bytes lines packet [] text

pub two_first : (text : List ℕ) → 2 ≤ length text → text ≡ get_or text 0 0 ∷ get_or text 1 0 ∷ drop 2 text
two_first [] two = absurd (omega arith)
two_first (a ∷ []) two = absurd (omega arith)
two_first (a ∷ b ∷ text) two = refl

-- both digits of a byte
pub pair_on : (bytes : List ℕ) (lines : List Line) (packet count digit byte high low b : ℕ) (text : List ℕ) → count < 4096
    → digit_value digit ≡ Some high → high < 16 → digit_value byte ≡ Some low → b ≡ 16 * high + low
    → IsAtByte bytes lines packet count text → IsAtByte (bytes ++ b ∷ []) lines packet (count + 1) (text ++ digit ∷ byte ∷ [])
pair_on bytes lines packet count digit byte high low b text few k lt m e h =
    let more : List ℕ = bytes ++ b ∷ [] in
    let value : b ≡ high % 16 * 16 + low = omega (arith, e, lt) in
    record {
      reading = byte_more bytes more lines packet count (count + 1) h.reading (length-append bytes (b ∷ [])) (omega arith) (omega (arith, few));
      text_is = subst (BytesSoFar more lines packet []) (append_assoc text (digit ∷ []) (byte ∷ []))
          (byte_on bytes lines packet count digit byte high low b (text ++ digit ∷ []) h.reading k lt m value (half_on bytes lines packet digit text h.text_is));
    }

pub line_on : (bytes : List ℕ) (lines : List Line) (l : Line) (count : ℕ) (text : List ℕ) → IsInLine bytes lines l.packet count → 0 < count → l.end ≡ length bytes
    → BytesSoFar bytes lines l.packet [] text → SpellsLines 0 (text ++ 10 ∷ []) (lines_from bytes 0 (lines ++ l ∷ []))
line_on bytes lines l count text i some e h =
    let end = last_end 0 lines in
    let size = i.behind.size in
    let few = i.behind.few in
    let left = length-drop end bytes in
    let part : slice_range bytes end l.end ≡ drop end bytes = take_all (l.end - end) (drop end bytes) (omega (arith, left, e)) in
    let long = ap length part in
    let line : ScriptLine = record { packet = l.packet; bytes = slice_range bytes end l.end } in
    let cur = h.digits ++ 32 ∷ (h.hex ++ []) in
    let is : IsLine cur line = record {
      digits = h.digits;
      hex = h.hex;
      text_is = ap (λ x. h.digits ++ 32 ∷ x) (append-nil h.hex);
      number = h.number;
      bytes = h.spelled_so ∙ ap Some (sym part);
      some = omega (arith, long, left, size, some);
      few = omega (arith, long, left, size, few);
    } in
    let next = next_is bytes 0 0 lines in
    let up = i.rises in
    let whole = h.text_is.whole in
    subst (λ t. SpellsLines 0 t (lines_from bytes 0 (lines ++ l ∷ []))) (sym (ap (λ t. t ++ 10 ∷ []) h.text_is.text_is ∙ append_assoc whole cur (10 ∷ [])))
    (subst (SpellsLines 0 (whole ++ (cur ++ 10 ∷ []))) (sym (lines_more bytes 0 lines l))
    (spells_more 0 whole cur (lines_from bytes 0 lines) line h.text_is.spells is (omega (arith, next, up))))
