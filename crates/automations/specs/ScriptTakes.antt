-- What a script gives, take by take: from one state of it to a later one.
use Rattle.std.specs.Prelude.{◌≡◌, ℕ, zero, suc, ◌+◌, ◌^◌, ◌<◌, List, [], ◌∷◌, ◌++◌, length}
use Rattle.std.proofs.Common.{refl, sym, ap, ◌∙◌, arith}
use Rattle.std.proofs.lemmas.List.{length-append}
use Rattle.chain_engine.specs.Automation.{Take, piece}
use Rattle.automations.specs.declared.script.Script.{Script}
use Rattle.automations.specs.ScriptLines.{ScriptLine, GivesLines, bytes_before}

-- the takes before so many packets, from this one on
abbrev pub takes_from : ℕ → ℕ → List ScriptLine → List Take
takes_from packet zero script = []
takes_from packet (suc n) script = piece (bytes_before packet script) ∷ takes_from (packet + 1) n script

-- THE TAKES OF A SCRIPT between these states: before each packet the bytes of the line with its number, for as long as the packets' numbers
-- fit 64 bits
abbrev pub ScriptTakes : {W M : Type 0} → Script W M → List Take → Script W M → Type 0
ScriptTakes s takes t = (script : List ScriptLine) → GivesLines s script → s.packet + length takes < 2 ^ 64
    → (takes ≡ takes_from s.packet (length takes) script) × (t.packet ≡ s.packet + length takes) × GivesLines t script

-- ---- takes follow one another

takes_more : (packet m n : ℕ) (script : List ScriptLine)
    → takes_from packet m script ++ takes_from (packet + m) n script ≡ takes_from packet (m + n) script
takes_more packet zero n script =
    let here : packet + 0 ≡ packet = omega arith in
    let all : n ≡ 0 + n = omega arith in
    ap (λ k. takes_from k n script) here ∙ ap (λ k. takes_from packet k script) all
takes_more packet (suc m) n script =
    let moved : packet + suc m ≡ (packet + 1) + m = omega arith in
    let sum : suc (m + n) ≡ suc m + n = omega arith in
    ap (λ k. takes_from packet (suc m) script ++ takes_from k n script) moved
    ∙ ap (λ l. piece (bytes_before packet script) ∷ l) (takes_more (packet + 1) m n script)
    ∙ ap (λ k. takes_from packet k script) sum

pub ScriptTakes-refl : {W M : Type 0} (s : Script W M) → ScriptTakes s [] s
ScriptTakes-refl s script h fits = (refl, omega arith, h)

pub ScriptTakes-trans : {W M : Type 0} (s t u : Script W M) (xs ys : List Take) → ScriptTakes s xs t → ScriptTakes t ys u → ScriptTakes s (xs ++ ys) u
ScriptTakes-trans s t u xs ys one two script h fits =
    let sum = length-append xs ys in
    let (first, at, there) = one script h (omega (arith, fits, sum)) in
    let (second, end, last) = two script there (omega (arith, fits, sum, at)) in (
      ap (λ l. l ++ ys) first
          ∙ ap (λ l. takes_from s.packet (length xs) script ++ l) (second ∙ ap (λ k. takes_from k (length ys) script) at)
          ∙ takes_more s.packet (length xs) (length ys) script
          ∙ ap (λ k. takes_from s.packet k script) (sym sum),
      omega (arith, end, at, sum),
      last,
    )
