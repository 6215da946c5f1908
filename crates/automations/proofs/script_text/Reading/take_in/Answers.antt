use Rattle.std.proofs.Common.{◌≡◌, ◌++◌, ◌∷◌, [], refl, subst, sym, ◌∙◌, ap, append_assoc, rules}
use Rattle.automations.specs.ScriptReading.{IsScriptRead, IsTextAt}
use Rattle.std.specs.Prelude.{Err}
use Rattle.automations.specs.declared.script.ScriptFault.TheVariants.{BadScript, OutOfMemory}
use Rattle.automations.specs.ScriptMemory.{AsksMemory}
use Rattle.automations.proofs.MemoryLemmas.{same_read}
use Rattle.automations.specs.ScriptText.{BeginsNoScript}
use Rattle.automations.proofs.StopLemmas.{stops_behind}
use Rattle.automations.proofs.script_text.Reading.take_in.Goals as goal

pub loop-byte-preserved : goal.loop-byte-preserved
loop-byte-preserved g c =
    let (done, e, r) = c.loop-byte.invariant.read in
    let (more, f, on) = c.in-Ok-take_bytes.ensures.read in
    let first : c.loop-byte.rest.now ≡ c.in-Some.byte.now ∷ c.in-Some.behind.now = search rules in
    let byte = c.in-Some.byte.now in
    let behind = c.in-Some.behind.now in
    let left = c.in-Ok-take_bytes.left.now in
    let one = done ++ byte ∷ [] in
    record {
      read = (
        one ++ more,
        e ∙ ap (λ l. done ++ l) first ∙ sym (append_assoc done (byte ∷ []) behind) ∙ ap (λ l. one ++ l) f ∙ sym (append_assoc one more left),
        λ text h. subst (λ t. IsScriptRead c.take_bytes.new.self t) (append_assoc text one more) (on (text ++ one) (record {
          reading = c.in-Ok.ensures.at (r text h).reading;
          text_is = subst (IsTextAt c.behind.new.self.bytes.items c.behind.new.self.lines.items c.in-Ok.place) (append_assoc text done (byte ∷ [])) (c.in-Ok.ensures.text (text ++ done) (r text h));
        })),
      );
    }

pub returns-in-Err-clause-stops : goal.returns-in-Err-clause-stops
returns-in-Err-clause-stops g c = λ text h bad.
    let (done, e, r) = c.loop-byte.invariant.read in
    let first : c.loop-byte.rest.now ≡ c.in-Some.byte.now ∷ c.in-Some.behind.now = search rules in
    let byte = c.in-Some.byte.now in
    let fault : c.in-Err.fault ≡ BadScript = cc in
    let all = append_assoc (text ++ done) (byte ∷ []) c.in-Some.behind.now ∙ append_assoc text done (byte ∷ c.in-Some.behind.now)
    ∙ ap (λ l. text ++ l) (sym (e ∙ ap (λ l. done ++ l) first)) in
    subst BeginsNoScript all
    (stops_behind ((text ++ done) ++ byte ∷ []) c.in-Some.behind.now (c.in-Err.ensures.stops (text ++ done) (r text h) (ap Err fault)))

pub returns-in-Err-clause-stopped : goal.returns-in-Err-clause-stopped
returns-in-Err-clause-stopped g c = λ text h bad.
    let (done, e, r) = c.loop-byte.invariant.read in
    let first : c.loop-byte.rest.now ≡ c.in-Some.byte.now ∷ c.in-Some.behind.now = search rules in
    let byte = c.in-Some.byte.now in
    let fault : c.in-Err.fault ≡ BadScript = cc in
    let same : c.behind.new.self ≡ c.loop-byte.self = c.in-Err.ensures.same (ap Err fault) in
    let stood : IsScriptRead c.behind.new.self (text ++ done) = subst (λ s. IsScriptRead s (text ++ done)) (sym same) (r text h) in
    record {
      read = text ++ done;
      byte = byte;
      rest = c.in-Some.behind.now;
      text_is = ap (λ l. text ++ l) (e ∙ ap (λ l. done ++ l) first) ∙ sym (append_assoc text done (byte ∷ c.in-Some.behind.now));
      stands = record { reading = stood.reading; text_is = stood.text_is };
      bad = refl;
    }

pub returns-in-Err-clause-memory : goal.returns-in-Err-clause-memory
returns-in-Err-clause-memory g c = λ text h lack.
    let (done, e, r) = c.loop-byte.invariant.read in
    let first : c.loop-byte.rest.now ≡ c.in-Some.byte.now ∷ c.in-Some.behind.now = search rules in
    let byte = c.in-Some.byte.now in
    let fault : c.in-Err.fault ≡ OutOfMemory = cc in
    let kept = c.in-Err.ensures.kept in
    let stood = same_read c.loop-byte.self c.behind.new.self (text ++ done) kept (r text h) in
    record {
      read = text ++ done;
      byte = byte;
      rest = c.in-Some.behind.now;
      text_is = ap (λ l. text ++ l) (e ∙ ap (λ l. done ++ l) first) ∙ sym (append_assoc text done (byte ∷ c.in-Some.behind.now));
      stands = record { reading = stood.reading; text_is = stood.text_is };
      asks = subst (λ p. AsksMemory p byte) (sym kept.place) (c.in-Err.ensures.asks (ap Err fault));
    }
