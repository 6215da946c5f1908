-- Where the text of a script stops to be one.
use Rattle.std.proofs.Common.{◌≡◌, ◌≢◌, ℕ, ◌+◌, ◌-◌, ◌*◌, ◌<◌, ◌≤◌, List, [], ◌∷◌, ◌++◌, true, inl, inr, length, drop, sym, ap, arith, ◌∙◌, append_assoc, subst}
use Rattle.std.specs.Prelude.{Option, Some, None, IfSome, Result, Ok, Err, OnOk}
use Rattle.std.specs.Char.{is_ascii_digit}
use Rattle.std.proofs.lemmas.List.{append-nil, length-append, length-drop}
use Rattle.hex_digits.specs.Digits.{digit_value}
use Rattle.automations.specs.declared.script_text.Line.{Line}
use Rattle.automations.specs.ScriptLines.{ScriptLine, lines_from}
use Rattle.automations.specs.ScriptReading.{last_end, next_line_number, IsInLine, TextSoFar, NumberSoFar, BytesSoFar}
use Rattle.std.specs.Io.KnownBytes.{Consumes}
use Rattle.automations.specs.ScriptText.{IsScript, SpellsLines, BeginsNoScript, IsNoScript}
use Rattle.automations.proofs.TextLemmas.{next_of, next_is}
use Rattle.automations.proofs.RefusalLemmas.{NextLine, peel, next_line, no_digit, no_rise, no_bytes, no_half, no_more, no_second, no_end, no_space, no_first, others, others_both, one_other, digits_other, spelled_other, hex_other, space_other, number_of, hex_ten, not_ten, none_other, feed_other}

module _ (bytes : List ℕ) (lines : List Line) (cur text : List ℕ) (h : TextSoFar bytes lines cur text) where
  left : (x : List ℕ) (lns : List ScriptLine) → 0 < length x → SpellsLines 0 (h.whole ++ x) lns → NextLine (next_line_number 0 lines) x
  left x lns some k =
      let l = peel 0 h.whole x (lines_from bytes 0 lines) lns h.spells k in
      subst (λ n. NextLine n x) (next_is bytes 0 0 lines) (next_line (next_of 0 (lines_from bytes 0 lines)) x l.lines some l.spells)

  pub left_at : (b : ℕ) (more : List ℕ) (lns : List ScriptLine) → SpellsLines 0 ((text ++ b ∷ []) ++ more) lns → NextLine (next_line_number 0 lines) (cur ++ b ∷ more)
  left_at b more lns k =
      left (cur ++ b ∷ more) lns (let s = length-append cur (b ∷ more) in omega (arith, s))
      (subst (λ t. SpellsLines 0 t lns)
      (append_assoc text (b ∷ []) more ∙ ap (λ t. t ++ b ∷ more) h.text_is ∙ append_assoc h.whole cur (b ∷ more)) k)

  pub left_all : (lns : List ScriptLine) → 0 < length cur → SpellsLines 0 text lns → NextLine (next_line_number 0 lines) cur
  left_all lns some k = left cur lns some (subst (λ t. SpellsLines 0 t lns) h.text_is k)

  pub left_fed : (lns : List ScriptLine) → SpellsLines 0 (text ++ 10 ∷ []) lns → NextLine (next_line_number 0 lines) (cur ++ 10 ∷ [])
  left_fed lns k = left_at 10 [] lns (subst (λ t. SpellsLines 0 t lns) (sym (append-nil (text ++ 10 ∷ []))) k)

-- ---- behind a byte

pub stops_at_number : (bytes : List ℕ) (lines : List Line) (digits text : List ℕ) (n b : ℕ) → NumberSoFar digits n → TextSoFar bytes lines digits text → b ≢ 32
    → (is_ascii_digit b ≡ true → 18446744073709551616 ≤ n * 10 + (b - 48)) → BeginsNoScript (text ++ b ∷ [])
stops_at_number bytes lines digits text n b d h ne great = λ more lns k.
    no_digit (next_line_number 0 lines) digits more b n d.all d.value ne great (left_at bytes lines digits text h b more lns k)

pub stops_at_start : (bytes : List ℕ) (lines : List Line) (text : List ℕ) (b : ℕ) → TextSoFar bytes lines [] text → (is_ascii_digit b ≡ true → 18446744073709551616 ≤ 0 * 10 + (b - 48)) → BeginsNoScript (text ++ b ∷ [])
stops_at_start bytes lines text b h great = λ more lns k.
    no_first (next_line_number 0 lines) more b great (left_at bytes lines [] text h b more lns k)

pub stops_at_space : (bytes : List ℕ) (lines : List Line) (digits text : List ℕ) (n : ℕ) → NumberSoFar digits n → TextSoFar bytes lines digits text → n < next_line_number 0 lines
    → BeginsNoScript (text ++ 32 ∷ [])
stops_at_space bytes lines digits text n d h low = λ more lns k.
    no_rise (next_line_number 0 lines) digits more n d.all d.value low (left_at bytes lines digits text h 32 more lns k)

module _ (bytes : List ℕ) (lines : List Line) (packet : ℕ) (text : List ℕ) (h : BytesSoFar bytes lines packet [] text) where
  -- with nothing behind the digits so far
  at_bytes : (b : ℕ) (more : List ℕ) (lns : List ScriptLine) → SpellsLines 0 ((text ++ b ∷ []) ++ more) lns
      → NextLine (next_line_number 0 lines) (h.digits ++ 32 ∷ (h.hex ++ b ∷ more))
  at_bytes b more lns k =
      subst (NextLine (next_line_number 0 lines))
      (append_assoc h.digits (32 ∷ (h.hex ++ [])) (b ∷ more) ∙ ap (λ x. h.digits ++ 32 ∷ (x ++ b ∷ more)) (append-nil h.hex))
      (left_at bytes lines (h.digits ++ 32 ∷ (h.hex ++ [])) text h.text_is b more lns k)

  pub stops_at_half : (b : ℕ) → b ≢ 10 → digit_value b ≡ None → BeginsNoScript (text ++ b ∷ [])
  stops_at_half b ne none = λ more lns k. no_half (next_line_number 0 lines) h.digits h.hex more packet (drop (last_end 0 lines) bytes) h.number h.spelled_so b ne none (at_bytes b more lns k)

  pub stops_at_full : (b count : ℕ) → b ≢ 10 → IsInLine bytes lines packet count → count ≡ 4096 → BeginsNoScript (text ++ b ∷ [])
  stops_at_full b count ne i full = λ more lns k.
      let size = i.behind.size in
      let left' = length-drop (last_end 0 lines) bytes in
      no_more (next_line_number 0 lines) h.digits h.hex more packet (drop (last_end 0 lines) bytes) h.number h.spelled_so b ne (omega (arith, size, left', full)) (at_bytes b more lns k)

  none_there : (count : ℕ) → IsInLine bytes lines packet count → count ≡ 0 → length (drop (last_end 0 lines) bytes) ≡ 0
  none_there count i none = let size = i.behind.size in let left' = length-drop (last_end 0 lines) bytes in omega (arith, size, left', none)

  pub stops_at_feed : (count : ℕ) → IsInLine bytes lines packet count → count ≡ 0 → BeginsNoScript (text ++ 10 ∷ [])
  stops_at_feed count i none = λ more lns k.
      no_bytes (next_line_number 0 lines) h.digits h.hex more packet (drop (last_end 0 lines) bytes) h.number h.spelled_so (none_there count i none) (at_bytes 10 more lns k)

  pub ends_empty : (count : ℕ) → IsInLine bytes lines packet count → count ≡ 0 → IsNoScript text
  ends_empty count i none = λ lns is. elim is [
    | inl k ↦ no_end (next_line_number 0 lines) (h.digits ++ 32 ∷ (h.hex ++ []))
        (others_both 10 h.digits (32 ∷ (h.hex ++ [])) (digits_other 10 h.digits (omega arith) (number_of h.digits packet h.number).all)
        (one_other 10 32 (h.hex ++ []) space_other (ap (others 10) (append-nil h.hex) ∙ spelled_other h.hex (drop (last_end 0 lines) bytes) h.spelled_so)))
        (left_all bytes lines (h.digits ++ 32 ∷ (h.hex ++ [])) text h.text_is lns (let s = length-append h.digits (32 ∷ (h.hex ++ [])) in omega (arith, s)) k)
    | inr k ↦ stops_at_feed count i none [] lns (subst (λ t. SpellsLines 0 t lns) (sym (append-nil (text ++ 10 ∷ []))) k)
  ]

module _ (bytes : List ℕ) (lines : List Line) (packet : ℕ) (text : List ℕ) (d v : ℕ) (is : digit_value d ≡ Some v) (h : BytesSoFar bytes lines packet (d ∷ []) text) where
  pub stops_at_second : (b : ℕ) → digit_value b ≡ None → BeginsNoScript (text ++ b ∷ [])
  stops_at_second b none = λ more lns k.
      no_second (next_line_number 0 lines) h.digits h.hex more packet (drop (last_end 0 lines) bytes) d b h.number h.spelled_so (not_ten d v is) none
      (subst (NextLine (next_line_number 0 lines))
      (append_assoc h.digits (32 ∷ (h.hex ++ d ∷ [])) (b ∷ more) ∙ ap (λ x. h.digits ++ 32 ∷ x) (append_assoc h.hex (d ∷ []) (b ∷ more)))
      (left_at bytes lines (h.digits ++ 32 ∷ (h.hex ++ d ∷ [])) text h.text_is b more lns k))

  pub ends_half : IsNoScript text
  ends_half = λ lns s. elim s [
    | inl k ↦ no_end (next_line_number 0 lines) (h.digits ++ 32 ∷ (h.hex ++ d ∷ []))
        (others_both 10 h.digits (32 ∷ (h.hex ++ d ∷ [])) (digits_other 10 h.digits (omega arith) (number_of h.digits packet h.number).all)
        (one_other 10 32 (h.hex ++ d ∷ []) space_other
        (others_both 10 h.hex (d ∷ []) (spelled_other h.hex (drop (last_end 0 lines) bytes) h.spelled_so) (one_other 10 d [] (hex_other d v is) (none_other 10)))))
        (left_all bytes lines (h.digits ++ 32 ∷ (h.hex ++ d ∷ [])) text h.text_is lns (let l = length-append h.digits (32 ∷ (h.hex ++ d ∷ [])) in omega (arith, l)) k)
    | inr k ↦ stops_at_second 10 hex_ten [] lns (subst (λ t. SpellsLines 0 t lns) (sym (append-nil (text ++ 10 ∷ []))) k)
  ]

pub ends_number : (bytes : List ℕ) (lines : List Line) (digits text : List ℕ) (n : ℕ) → NumberSoFar digits n → TextSoFar bytes lines digits text → IsNoScript text
ends_number bytes lines digits text n d h = λ lns is.
    let own = digits_other 32 digits (omega arith) d.all in
    elim is [
      | inl k ↦ no_space (next_line_number 0 lines) digits own (left_all bytes lines digits text h lns d.some k)
      | inr k ↦ no_space (next_line_number 0 lines) (digits ++ 10 ∷ []) (others_both 32 digits (10 ∷ []) own (one_other 32 10 [] feed_other (none_other 32))) (left_fed bytes lines digits text h lns k)
    ]

pub stops_behind : (text more : List ℕ) → BeginsNoScript text → BeginsNoScript (text ++ more)
stops_behind text more h = λ rest lns k. h (more ++ rest) lns (subst (λ t. SpellsLines 0 t lns) (append_assoc text more rest) k)

-- ---- all bytes of a source

pub all_no_script : (a : Option (List ℕ)) (text : List ℕ) → IfSome a (λ all. all ≡ text) → IsNoScript text → IfSome a IsNoScript
all_no_script None text e h = tt
all_no_script (Some x) text e h = subst IsNoScript (sym e) h

-- so of bytes that begin no script, whatever comes behind them
pub begun_no_script : (a b c : Option (List ℕ)) (bs part : List ℕ) → Consumes a b bs → Consumes b c part → BeginsNoScript (bs ++ part) → IfSome a IsNoScript
begun_no_script None b c bs part p q h = tt
begun_no_script (Some x) None c bs part p q h = absurd p
begun_no_script (Some x) (Some y) None bs part p q h = absurd q
begun_no_script (Some x) (Some y) (Some z) bs part p q h = none
  where
    all : x ≡ (bs ++ part) ++ z
    all = p ∙ ap (λ l. bs ++ l) q ∙ sym (append_assoc bs part z)

    none : (lines : List ScriptLine) → IsScript x lines → ⊥
    none lines (inl s) = h z lines (subst (λ t. SpellsLines 0 t lines) all s)
    none lines (inr s) = h (z ++ 10 ∷ []) lines (subst (λ t. SpellsLines 0 t lines) (ap (λ t. t ++ 10 ∷ []) all ∙ append_assoc (bs ++ part) z (10 ∷ [])) s)

pub when_ok : {T E X Y : Type 0} (r : Result T E) → (X → Y) → OnOk r X → OnOk r Y
when_ok (Ok v) f h = f h
when_ok (Err e) f h = tt
