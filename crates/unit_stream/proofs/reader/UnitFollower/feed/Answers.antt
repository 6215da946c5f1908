use Rattle.std.proofs.Common.{◌≡◌, sym, ap, ◌∙◌, ◌&&◌, refl, true, false}
use Rattle.ts_packet.specs.Fields.{in_error, on, unit_start}
use Rattle.ts_packet.specs.Duplicates.{original}
use Rattle.ts_packet.proofs.FieldLemmas.{off_payload}
use Rattle.unit_stream.proofs.ReadingLemmas.{error_off, without_payload, with_payload, bytes_are, passes, goes_on, has_begun, is_repeat}
use Rattle.unit_stream.proofs.reader.UnitFollower.feed.Goals as goal

pub returns-then-error-clause-reads : goal.returns-then-error-clause-reads
returns-then-error-clause-reads c = λ pid past h.
    let p = c.args.packet.now in
    let e : in_error p ≡ true = sym c.error.ensures ∙ c.if-error.true in
    passes _ pid p _ past (error_off pid p e) h

pub returns-then-not-is_on-clause-reads : goal.returns-then-not-is_on-clause-reads
returns-then-not-is_on-clause-reads c = λ pid past h.
    let p = c.args.packet.now in
    let o : on pid p ≡ false = ap (λ n. on n p) (sym h.same) ∙ sym c.is_on.ensures ∙ c.if-not-is_on.true in
    passes _ pid p _ past (off_payload pid p o) h

pub returns-then-not-is_on-clause-brings : goal.returns-then-not-is_on-clause-brings
returns-then-not-is_on-clause-brings c = λ pid past h.
    let p = c.args.packet.now in
    let o : on pid p ≡ false = ap (λ n. on n p) (sym h.same) ∙ sym c.is_on.ensures ∙ c.if-not-is_on.true in
    (sym c.error.ensures ∙ c.if-error.false, off_payload pid p o)

pub returns-in_default-clause-reads : goal.returns-in_default-clause-reads
returns-in_default-clause-reads c = λ pid past h.
    passes _ pid c.args.packet.now _ past (without_payload pid c.args.packet.now (sym c.in_default.ensures)) h

pub returns-in_default-clause-brings : goal.returns-in_default-clause-brings
returns-in_default-clause-brings c = λ pid past h.
    (sym c.error.ensures ∙ c.if-error.false, without_payload pid c.args.packet.now (sym c.in_default.ensures))

pub returns-then-not-take-clause-reads : goal.returns-then-not-take-clause-reads
returns-then-not-take-clause-reads c = λ pid past h.
    let p = c.args.packet.now in
    let o : on pid p ≡ true = ap (λ n. on n p) (sym h.same) ∙ sym c.is_on.ensures ∙ c.if-not-is_on.false in
    let y = with_payload pid p c.in-Some.payload.now o (sym c.in-Some.ensures) in
    let old : original pid p past ≡ false = sym (c.take.ensures.answer pid past h.follows y) ∙ c.if-not-take.true in
    goes_on c.args.self.now c.take.new.self pid p c.args.kept.now past y h (c.take.ensures.follows pid past h.follows y) (ap (λ b. b && unit_start p) old)

pub returns-then-not-take-clause-brings : goal.returns-then-not-take-clause-brings
returns-then-not-take-clause-brings c = λ pid past h.
    let p = c.args.packet.now in
    let o : on pid p ≡ true = ap (λ n. on n p) (sym h.same) ∙ sym c.is_on.ensures ∙ c.if-not-is_on.false in
    let y = with_payload pid p c.in-Some.payload.now o (sym c.in-Some.ensures) in
    (y, is_repeat pid p past y (sym (c.take.ensures.answer pid past h.follows y) ∙ c.if-not-take.true))

pub returns-then-unit_start-clause-reads : goal.returns-then-unit_start-clause-reads
returns-then-unit_start-clause-reads c = λ pid past h.
    let p = c.args.packet.now in
    let o : on pid p ≡ true = ap (λ n. on n p) (sym h.same) ∙ sym c.is_on.ensures ∙ c.if-not-is_on.false in
    let y = with_payload pid p c.in-Some.payload.now o (sym c.in-Some.ensures) in
    let new : original pid p past ≡ true = sym (c.take.ensures.answer pid past h.follows y) ∙ c.if-not-take.false in
    let start : unit_start p ≡ true = sym c.unit_start.ensures ∙ c.if-unit_start.true in
    has_begun c.args.self.now c.take.new.self pid p c.args.kept.now past y h (c.take.ensures.follows pid past h.follows y) (rw (new, start) refl)

pub returns-then-unit_start-clause-brings : goal.returns-then-unit_start-clause-brings
returns-then-unit_start-clause-brings c = λ pid past h.
    let p = c.args.packet.now in
    let o : on pid p ≡ true = ap (λ n. on n p) (sym h.same) ∙ sym c.is_on.ensures ∙ c.if-not-is_on.false in
    let y = with_payload pid p c.in-Some.payload.now o (sym c.in-Some.ensures) in
    let new : original pid p past ≡ true = sym (c.take.ensures.answer pid past h.follows y) ∙ c.if-not-take.false in
    let start : unit_start p ≡ true = sym c.unit_start.ensures ∙ c.if-unit_start.true in
    (rw (new, start) refl, new, y, bytes_are p c.in-Some.payload.now (sym c.in-Some.ensures))

pub returns-then-self-clause-reads : goal.returns-then-self-clause-reads
returns-then-self-clause-reads c = λ pid past h.
    let p = c.args.packet.now in
    let o : on pid p ≡ true = ap (λ n. on n p) (sym h.same) ∙ sym c.is_on.ensures ∙ c.if-not-is_on.false in
    let y = with_payload pid p c.in-Some.payload.now o (sym c.in-Some.ensures) in
    let new : original pid p past ≡ true = sym (c.take.ensures.answer pid past h.follows y) ∙ c.if-not-take.false in
    let start : unit_start p ≡ false = sym c.unit_start.ensures ∙ c.if-unit_start.false in
    goes_on c.args.self.now c.take.new.self pid p c.args.kept.now past y h (c.take.ensures.follows pid past h.follows y) (rw (new, start) refl)

pub returns-then-self-clause-brings : goal.returns-then-self-clause-brings
returns-then-self-clause-brings c = λ pid past h.
    let p = c.args.packet.now in
    let o : on pid p ≡ true = ap (λ n. on n p) (sym h.same) ∙ sym c.is_on.ensures ∙ c.if-not-is_on.false in
    let y = with_payload pid p c.in-Some.payload.now o (sym c.in-Some.ensures) in
    let new : original pid p past ≡ true = sym (c.take.ensures.answer pid past h.follows y) ∙ c.if-not-take.false in
    let start : unit_start p ≡ false = sym c.unit_start.ensures ∙ c.if-unit_start.false in
    (new, y, start, sym h.begun ∙ c.if-self.true, bytes_are p c.in-Some.payload.now (sym c.in-Some.ensures))

pub returns-else-self-clause-reads : goal.returns-else-self-clause-reads
returns-else-self-clause-reads c = λ pid past h.
    let p = c.args.packet.now in
    let o : on pid p ≡ true = ap (λ n. on n p) (sym h.same) ∙ sym c.is_on.ensures ∙ c.if-not-is_on.false in
    let y = with_payload pid p c.in-Some.payload.now o (sym c.in-Some.ensures) in
    let new : original pid p past ≡ true = sym (c.take.ensures.answer pid past h.follows y) ∙ c.if-not-take.false in
    let start : unit_start p ≡ false = sym c.unit_start.ensures ∙ c.if-unit_start.false in
    goes_on c.args.self.now c.take.new.self pid p c.args.kept.now past y h (c.take.ensures.follows pid past h.follows y) (rw (new, start) refl)

pub returns-else-self-clause-brings : goal.returns-else-self-clause-brings
returns-else-self-clause-brings c = λ pid past h.
    let p = c.args.packet.now in
    let o : on pid p ≡ true = ap (λ n. on n p) (sym h.same) ∙ sym c.is_on.ensures ∙ c.if-not-is_on.false in
    let y = with_payload pid p c.in-Some.payload.now o (sym c.in-Some.ensures) in
    let new : original pid p past ≡ true = sym (c.take.ensures.answer pid past h.follows y) ∙ c.if-not-take.false in
    let start : unit_start p ≡ false = sym c.unit_start.ensures ∙ c.if-unit_start.false in
    (new, y, start, sym h.begun ∙ c.if-self.false)
