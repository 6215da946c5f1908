use Rattle.std.proofs.Common.{◌≡◌, ℕ, ◌&&◌, false, Some, None, sym, ap, ◌∙◌}
use Rattle.std.specs.Prelude.{option_map}
use Rattle.unit_stream.proofs.ClockLemmas.{begins_off}
use Rattle.pes_time.specs.Line.{ring_of}
use Rattle.ts_packet.specs.Fields.{payload_on, scrambled}
use Rattle.program_follower.specs.Streaming.{first_on}
use Rattle.program_follower.proofs.StreamLemmas.{first_is_on, starts_all_on, starts_all_passed, no_payload_fault, no_payload_high, is_one, fault_scrambled, fault_begin, payload_of, some_starts}
use Rattle.program_follower.proofs.PlaceLemmas.{placed}
use Rattle.program_follower.proofs.starts.Starts.feed_stream.Goals as goal

pub returns-then-not-has_payload-clause-reads : goal.returns-then-not-has_payload-clause-reads
returns-then-not-has_payload-clause-reads c = λ ps past at h.
    let p = c.args.packet.now in
    let of = placed ps p c.args.index at in
    let x : ℕ × ℕ = (c.args.index, of.0) in
    let e : first_on ps p ≡ Some x = of.1 in
    let n = sym c.has_payload.ensures ∙ c.if-not-has_payload.true in
    let y : payload_on x.1 p ≡ false = payload_of x.1 p (first_is_on ps p x e) ∙ n in
    record {
      places = h.places;
      clock = h.clock ∙ ap (option_map ring_of) (sym (no_payload_high ps p past x e y));
      readers = starts_all_passed c.args.self.now.readers ps p past n h.readers;
    }

pub returns-then-not-has_payload-clause-ok : goal.returns-then-not-has_payload-clause-ok
returns-then-not-has_payload-clause-ok c = λ ps past at h.
    let p = c.args.packet.now in
    let of = placed ps p c.args.index at in
    let x : ℕ × ℕ = (c.args.index, of.0) in
    let e : first_on ps p ≡ Some x = of.1 in
    no_payload_fault ps p past x e (payload_of x.1 p (first_is_on ps p x e) ∙ sym c.has_payload.ensures ∙ c.if-not-has_payload.true)

pub returns-then-not-has_payload-clause-is : goal.returns-then-not-has_payload-clause-is
returns-then-not-has_payload-clause-is c = λ ps past at h.
    let p = c.args.packet.now in
    let of = placed ps p c.args.index at in
    let x : ℕ × ℕ = (c.args.index, of.0) in
    let e : first_on ps p ≡ Some x = of.1 in
    (x.1, (e, begins_off x.1 p past (payload_of x.1 p (first_is_on ps p x e) ∙ sym c.has_payload.ensures ∙ c.if-not-has_payload.true)))

pub returns-then-scrambled-clause-err : goal.returns-then-scrambled-clause-err
returns-then-scrambled-clause-err c = λ ps past at h.
    let p = c.args.packet.now in
    let of = placed ps p c.args.index at in
    let x : ℕ × ℕ = (c.args.index, of.0) in
    let e : first_on ps p ≡ Some x = of.1 in
    let y = payload_of x.1 p (first_is_on ps p x e) ∙ sym c.has_payload.ensures ∙ c.if-not-has_payload.false in
    fault_scrambled ps p past x e (ap (λ b. b && scrambled p) y ∙ sym c.scrambled.ensures ∙ c.if-scrambled.true)

pub returns-in-Ok-clause-reads : goal.returns-in-Ok-clause-reads
returns-in-Ok-clause-reads c = λ ps past at h.
    let p = c.args.packet.now in
    let of = placed ps p c.args.index at in
    let x : ℕ × ℕ = (c.args.index, of.0) in
    let e : first_on ps p ≡ Some x = of.1 in
    let y = payload_of x.1 p (first_is_on ps p x e) ∙ sym c.has_payload.ensures ∙ c.if-not-has_payload.false in
    let begins = c.feed_at-begun.ensures.begins some_starts x.1 past y (h.readers p x some_starts e) in
    record {
      places = h.places;
      clock = c.in-Ok.ensures.clock ps x.1 p past (is_one ps p past x e) h.clock begins;
      readers = starts_all_on c.args.self.now.readers c.feed_at-begun.new.readers ps p past x e h.readers c.feed_at-begun.ensures.others (λ d k. c.feed_at-begun.ensures.reads d x.1 past y k);
    }

pub returns-in-Ok-clause-ok : goal.returns-in-Ok-clause-ok
returns-in-Ok-clause-ok c = λ ps past at h.
    let p = c.args.packet.now in
    let of = placed ps p c.args.index at in
    let x : ℕ × ℕ = (c.args.index, of.0) in
    let e : first_on ps p ≡ Some x = of.1 in
    let y = payload_of x.1 p (first_is_on ps p x e) ∙ sym c.has_payload.ensures ∙ c.if-not-has_payload.false in
    let begins = c.feed_at-begun.ensures.begins some_starts x.1 past y (h.readers p x some_starts e) in
    let n : payload_on x.1 p && scrambled p ≡ false = ap (λ b. b && scrambled p) y ∙ sym c.scrambled.ensures ∙ c.if-scrambled.false in
    fault_begin ps p past x e None n (c.in-Ok.ensures.sound ps x.1 p past (is_one ps p past x e) h.clock begins)

pub returns-in-Ok-clause-is : goal.returns-in-Ok-clause-is
returns-in-Ok-clause-is c = λ ps past at h.
    let p = c.args.packet.now in
    let of = placed ps p c.args.index at in
    let x : ℕ × ℕ = (c.args.index, of.0) in
    let e : first_on ps p ≡ Some x = of.1 in
    let y = payload_of x.1 p (first_is_on ps p x e) ∙ sym c.has_payload.ensures ∙ c.if-not-has_payload.false in
    let begins = c.feed_at-begun.ensures.begins some_starts x.1 past y (h.readers p x some_starts e) in
    (x.1, (e, c.in-Ok.ensures.is ps x.1 p past (is_one ps p past x e) h.clock begins))

pub returns-in-Err-clause-err : goal.returns-in-Err-clause-err
returns-in-Err-clause-err c = λ ps past at h.
    let p = c.args.packet.now in
    let of = placed ps p c.args.index at in
    let x : ℕ × ℕ = (c.args.index, of.0) in
    let e : first_on ps p ≡ Some x = of.1 in
    let y = payload_of x.1 p (first_is_on ps p x e) ∙ sym c.has_payload.ensures ∙ c.if-not-has_payload.false in
    let begins = c.feed_at-begun.ensures.begins some_starts x.1 past y (h.readers p x some_starts e) in
    let n : payload_on x.1 p && scrambled p ≡ false = ap (λ b. b && scrambled p) y ∙ sym c.scrambled.ensures ∙ c.if-scrambled.false in
    fault_begin ps p past x e (Some c.in-Err.fault) n (c.in-Err.ensures.err ps x.1 p past (is_one ps p past x e) h.clock begins)
