-- Where memory is refused to a script, whatever comes behind.
use Rattle.std.proofs.Common.{◌≡◌, ℕ, List, ◌∷◌, ◌++◌, inl, inr, sym, ap, ◌∙◌, append_assoc, subst}
use Rattle.std.specs.Prelude.{Option, Some, None, IfSome}
use Rattle.std.specs.Io.KnownBytes.{Consumes}
use Rattle.automations.specs.declared.script_text.Reading.{Reading}
use Rattle.automations.specs.ScriptReading.{IsAt, IsTextAt, IsSameReading, IsScriptRead}
use Rattle.automations.specs.ScriptMemory.{RefusedAt, RefusedAtEnd, LacksMemory}

-- where nothing was read, the reading stands where it stood
pub same_read : {M : Type 0} (old new : Reading M) (text : List ℕ) → IsSameReading old new → IsScriptRead old text → IsScriptRead new text
same_read old new text s h = record {
  reading = subst (λ p. IsAt new.bytes.items new.lines.items p) (sym s.place)
      (subst (λ ls. IsAt new.bytes.items ls old.place) (sym s.lines) (subst (λ bs. IsAt bs old.lines.items old.place) (sym s.bytes) h.reading));
  text_is = subst (λ p. IsTextAt new.bytes.items new.lines.items p text) (sym s.place)
      (subst (λ ls. IsTextAt new.bytes.items ls old.place text) (sym s.lines) (subst (λ bs. IsTextAt bs old.lines.items old.place text) (sym s.bytes) h.text_is));
}

pub all_lacks : {M : Type 0} (r : Reading M) (a : Option (List ℕ)) (text : List ℕ) → IfSome a (λ all. all ≡ text) → RefusedAtEnd r text → IfSome a (LacksMemory r)
all_lacks r None text e h = tt
all_lacks r (Some x) text e h = inr (subst (RefusedAtEnd r) (sym e) h)

pub begun_lacks : {M : Type 0} (r : Reading M) (a b c : Option (List ℕ)) (bs part : List ℕ) → Consumes a b bs → Consumes b c part → RefusedAt r (bs ++ part)
    → IfSome a (LacksMemory r)
begun_lacks r None b c bs part p q h = tt
begun_lacks r (Some x) None c bs part p q h = absurd p
begun_lacks r (Some x) (Some y) None bs part p q h = absurd q
begun_lacks r (Some x) (Some y) (Some z) bs part p q h = inl (record {
  read = h.read;
  byte = h.byte;
  rest = h.rest ++ z;
  text_is = p ∙ ap (λ l. bs ++ l) q ∙ sym (append_assoc bs part z) ∙ ap (λ l. l ++ z) h.text_is ∙ append_assoc h.read (h.byte ∷ h.rest) z;
  stands = h.stands;
  asks = h.asks;
})

pub some_lacks : {M : Type 0} (r : Reading M) (a : Option (List ℕ)) → IfSome a (LacksMemory r) → IfSome a (λ text. (x : Reading M) × LacksMemory x text)
some_lacks r None h = tt
some_lacks r (Some text) h = (r, h)
