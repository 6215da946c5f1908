use Rattle.std.proofs.Common.{◌≡◌, ◌+◌, ◌<◌, ap, ◌∙◌, subst, arith, length, ◌++◌, ◌∷◌, [], ◌*◌, ◌%◌, refl, sym}
use Rattle.std.proofs.lemmas.List.{length-append}
use Rattle.automations.specs.ScriptReading.{IsInLine, IsAt}
use Rattle.automations.specs.ScriptReading.{IsTextAt, BytesSoFar}
use Rattle.automations.proofs.ReadingLemmas.{byte_more}
use Rattle.automations.proofs.StopLemmas.{stops_at_start, stops_at_number, stops_at_space, stops_at_half, stops_at_full, stops_at_feed, stops_at_second}
use Rattle.automations.proofs.PlaceLemmas.{text_on, digit_on, byte_on}
use Rattle.automations.specs.declared.script_text.Place.TheVariants.{Number}
use Rattle.std.proofs.lemmas.Bool.{leb-false}
use Rattle.std.specs.Prelude.{ℕ, Err}
use Rattle.automations.specs.declared.script.ScriptFault.TheVariants.{BadScript}
use Rattle.automations.specs.ScriptText.{BeginsNoScript}
use Rattle.automations.specs.ScriptReading.{next_line_number}
use Rattle.automations.proofs.script_text.Reading.behind.Goals as goal

pub returns-then-byte-ne32-clause-text : goal.returns-then-byte-ne32-clause-text
returns-then-byte-ne32-clause-text g c = λ text r.
    let old = c.args.self.now in
    let at : IsTextAt old.bytes.items old.lines.items (Number c.in-Number.number) text = subst (λ p. IsTextAt old.bytes.items old.lines.items p text) c.in-Number.is r.text_is in
    let v = c.in_ok-with_digit-in-Number.ensures.value in (
      at.0 ++ c.args.byte ∷ [],
      digit_on at.0 c.in-Number.number c.args.byte c.in_ok-with_digit-in-Number.field-0 at.1 v.0 v.1 v.2,
      text_on old.bytes.items old.lines.items at.0 text c.args.byte at.2,
    )

pub returns-in_err-with_digit-in-Start-clause-stops : goal.returns-in_err-with_digit-in-Start-clause-stops
returns-in_err-with_digit-in-Start-clause-stops g c = λ text r bad.
    let old = c.args.self.now in
    let at = subst (λ p. IsTextAt old.bytes.items old.lines.items p text) c.in-Start.is r.text_is in
    stops_at_start old.bytes.items old.lines.items text c.args.byte at c.in_err-with_digit-in-Start.ensures.none

pub returns-in_err-with_digit-in-Number-clause-stops : goal.returns-in_err-with_digit-in-Number-clause-stops
returns-in_err-with_digit-in-Number-clause-stops g c = λ text r bad.
    let old = c.args.self.now in
    let at = subst (λ p. IsTextAt old.bytes.items old.lines.items p text) c.in-Number.is r.text_is in
    stops_at_number old.bytes.items old.lines.items at.0 text c.in-Number.number c.args.byte at.1 at.2 c.if-byte-ne32.true c.in_err-with_digit-in-Number.ensures.none

pub returns-then-count-eq-MOST-clause-stops : goal.returns-then-count-eq-MOST-clause-stops
returns-then-count-eq-MOST-clause-stops g c = λ text r bad.
    let old = c.args.self.now in
    let at = subst (λ p. IsTextAt old.bytes.items old.lines.items p text) c.in-Bytes.is r.text_is in
    let i = subst (IsAt old.bytes.items old.lines.items) c.in-Bytes.is r.reading in
    stops_at_full old.bytes.items old.lines.items c.in-Bytes.packet text at c.args.byte c.in-Bytes.count c.if-byte-eq10.false i c.if-count-eq-MOST.true

pub returns-in_err-half-in-Bytes-clause-stops : goal.returns-in_err-half-in-Bytes-clause-stops
returns-in_err-half-in-Bytes-clause-stops g c = λ text r bad.
    let old = c.args.self.now in
    let at = subst (λ p. IsTextAt old.bytes.items old.lines.items p text) c.in-Bytes.is r.text_is in
    stops_at_half old.bytes.items old.lines.items c.in-Bytes.packet text at c.args.byte c.if-byte-eq10.false c.in_err-half-in-Bytes.ensures.none

pub returns-in_err-low-in-Half-clause-stops : goal.returns-in_err-low-in-Half-clause-stops
returns-in_err-low-in-Half-clause-stops g c = λ text r bad.
    let old = c.args.self.now in
    let at = subst (λ p. IsTextAt old.bytes.items old.lines.items p text) c.in-Half.is r.text_is in
    stops_at_second old.bytes.items old.lines.items c.in-Half.packet text at.0 c.in-Half.high at.1 at.3 c.args.byte c.in_err-low-in-Half.ensures.none

pub returns-else-rises-clause-stops : goal.returns-else-rises-clause-stops
returns-else-rises-clause-stops g c = λ text r bad.
    let old = c.args.self.now in
    let at = subst (λ p. IsTextAt old.bytes.items old.lines.items p text) c.in-Number.is r.text_is in
    let low = leb-false (next_line_number 0 old.lines.items) c.in-Number.number (sym c.rises.ensures ∙ c.if-rises.false) in
    subst (λ (b : ℕ). BeginsNoScript (text ++ b ∷ [])) (sym c.if-byte-ne32.false)
    (stops_at_space old.bytes.items old.lines.items at.0 text c.in-Number.number at.1 at.2 low)

pub returns-in-Ok-push-clause-at : goal.returns-in-Ok-push-clause-at
returns-in-Ok-push-clause-at g c = λ h.
    let old = c.args.self.now in
    let n = c.saturating_add.ensures in
    let at : IsInLine old.bytes.items old.lines.items c.in-Half.packet c.in-Half.count × (c.in-Half.count < 4096) = subst (IsAt old.bytes.items old.lines.items) c.in-Half.is h in
    let longer = ap length c.in-Ok-push.ensures.items ∙ length-append old.bytes.items _ in
    let few = at.1 in
    byte_more old.bytes.items c.push.new.self.items old.lines.items c.in-Half.packet c.in-Half.count c.saturating_add.result at.0 (omega (arith, longer)) (omega (arith, n, few)) (omega (arith, n, few))

pub returns-in-Ok-push-clause-text : goal.returns-in-Ok-push-clause-text
returns-in-Ok-push-clause-text g c = λ text r.
    let old = c.args.self.now in
    let at = subst (λ p. IsTextAt old.bytes.items old.lines.items p text) c.in-Half.is r.text_is in
    let i = subst (IsAt old.bytes.items old.lines.items) c.in-Half.is r.reading in
    subst (λ bs. BytesSoFar bs old.lines.items c.in-Half.packet [] (text ++ c.args.byte ∷ [])) (sym c.in-Ok-push.ensures.items)
    (byte_on old.bytes.items old.lines.items c.in-Half.packet c.in-Half.count at.0 c.args.byte c.in-Half.high c.in_ok-low-in-Half.low (c.in-Half.high % 16 * 16 + c.in_ok-low-in-Half.low) text
    i.0 at.1 at.2 c.in_ok-low-in-Half.ensures.value refl at.3)

pub returns-in-Err-clause-stops : goal.returns-in-Err-clause-stops
returns-in-Err-clause-stops g c = λ text r bad.
    let old = c.args.self.now in
    let at = subst (λ p. IsTextAt old.bytes.items old.lines.items p text) c.in-Bytes.is r.text_is in
    let i = subst (IsAt old.bytes.items old.lines.items) c.in-Bytes.is r.reading in
    let fault : c.in-Err.fault ≡ BadScript = cc in
    subst (λ (b : ℕ). BeginsNoScript (text ++ b ∷ [])) (sym c.if-byte-eq10.true)
    (stops_at_feed old.bytes.items old.lines.items c.in-Bytes.packet text at c.in-Bytes.count i (c.in-Err.ensures.empty (ap Err fault)))
