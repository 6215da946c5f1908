use Rattle.std.proofs.Common.{◌≡◌, ◌+◌, ◌*◌, ◌++◌, ◌∷◌, [], get_or, drop, refl, subst, sym, ◌∙◌, ap, append_assoc}
use Rattle.std.specs.Prelude.{IsSome}
use Rattle.automations.specs.ScriptReading.{IsInLine, BytesSoFar}
use Rattle.automations.proofs.PlaceLemmas.{IsAtByte, two_first, pair_on, half_on}
use Rattle.automations.proofs.script_text.Reading.take_bytes.Goals as goal

pub loop-rest-preserved : goal.loop-rest-preserved
loop-rest-preserved g c =
    let (done, e, r) = c.loop-rest.invariant.read in
    let bytes = c.loop-rest.self.bytes.items in
    let lines = c.loop-rest.self.lines.items in
    let packet = c.in-Bytes.packet in
    let count = c.loop-rest.count in
    let rest = c.loop-rest.rest.now in
    let left = c.split_at.result.1.now in
    let digit = get_or rest 0 0 in
    let byte = get_or rest 1 0 in
    let two = c.in-Some-Some in
    let value = 16 * two.high + two.low in
    let first : rest ≡ digit ∷ byte ∷ left = two_first rest c.loop-rest-test.true ∙ ap (λ l. digit ∷ byte ∷ l) (sym c.split_at.ensures.back) in
    record {
      read = (
        done ++ digit ∷ byte ∷ [],
        e ∙ ap (λ l. done ++ l) first ∙ sym (append_assoc done (digit ∷ byte ∷ []) left),
        λ text h.
            subst (λ bs. IsAtByte bs lines packet (count + 1) (text ++ (done ++ digit ∷ byte ∷ []))) (sym c.in-Ok.ensures.items)
            (subst (IsAtByte (bytes ++ value ∷ []) lines packet (count + 1)) (append_assoc text done (digit ∷ byte ∷ []))
            (pair_on bytes lines packet count digit byte two.high two.low value (text ++ done) c.if-count-lt-MOST.true
            (sym two.ensures.value) two.ensures.below (sym two.ensures'.value) refl (r text h))),
      );
    }

pub returns-in_default-push-clause-asks : goal.returns-in_default-push-clause-asks
returns-in_default-push-clause-asks g c = λ text h.
    let (done, e, r) = c.loop-rest.invariant.read in
    let bytes = c.loop-rest.self.bytes.items in
    let lines = c.loop-rest.self.lines.items in
    let packet = c.in-Bytes.packet in
    let rest = c.loop-rest.rest.now in
    let digit = get_or rest 0 0 in
    let byte = get_or rest 1 0 in
    let two = c.in-Some-Some in
    let at = r text h in
    let kept : c.push.new.self.items ≡ bytes = c.in_default-push.ensures.items in
    let first = two_first rest c.loop-rest-test.true in
    record {
      read = (text ++ done) ++ digit ∷ [];
      byte = byte;
      rest = drop 2 rest;
      text_is = ap (λ l. text ++ l) (e ∙ ap (λ l. done ++ l) first) ∙ sym (append_assoc text done (digit ∷ byte ∷ drop 2 rest))
          ∙ sym (append_assoc (text ++ done) (digit ∷ []) (byte ∷ drop 2 rest));
      stands = record {
        reading = (subst (λ bs. IsInLine bs lines packet c.loop-rest.count) (sym kept) at.reading, c.if-count-lt-MOST.true);
        text_is = (
          digit,
          sym two.ensures.value,
          two.ensures.below,
          subst (λ bs. BytesSoFar bs lines packet (digit ∷ []) ((text ++ done) ++ digit ∷ [])) (sym kept)
              (half_on bytes lines packet digit (text ++ done) at.text_is),
        );
      };
      asks = subst IsSome two.ensures'.value refl;
    }
