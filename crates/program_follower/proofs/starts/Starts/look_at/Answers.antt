use Rattle.std.proofs.Common.{◌≡◌, ℕ, ◌&&◌, if◌then◌else◌, false, Some, None, sym, ap, ◌∙◌}
use Rattle.std.proofs.Math.Bool.{and-false}
use Rattle.ts_packet.specs.Fields.{payload_on, scrambled}
use Rattle.ts_packet.specs.Duplicates.{original}
use Rattle.unit_stream.specs.Times.{high, splits, stamp}
use Rattle.unit_stream.specs.Faults.{start_fault}
use Rattle.program_follower.specs.Streaming.{first_on, begin_fault}
use Rattle.program_follower.proofs.StreamLemmas.{first_is_on, no_payload_fault, fault_scrambled, fault_begin, payload_of}
use Rattle.program_follower.proofs.GoOnLemmas.{clear-of}
use Rattle.program_follower.proofs.PlaceLemmas.{placed}
use Rattle.program_follower.proofs.starts.Starts.look_at.Goals as goal

pub returns-then-not-has_payload : goal.returns-then-not-has_payload
returns-then-not-has_payload c = λ ps past at h.
    let p = c.args.packet.now in
    let of = placed ps p c.args.index at in
    let x : ℕ × ℕ = (c.args.index, of.0) in
    let e : first_on ps p ≡ Some x = of.1 in
    sym (no_payload_fault ps p past x e (payload_of x.1 p (first_is_on ps p x e) ∙ sym c.has_payload.ensures ∙ c.if-not-has_payload.true))

pub returns-then-scrambled : goal.returns-then-scrambled
returns-then-scrambled c = λ ps past at h.
    let p = c.args.packet.now in
    let of = placed ps p c.args.index at in
    let x : ℕ × ℕ = (c.args.index, of.0) in
    let e : first_on ps p ≡ Some x = of.1 in
    let y = payload_of x.1 p (first_is_on ps p x e) ∙ sym c.has_payload.ensures ∙ c.if-not-has_payload.false in
    sym (fault_scrambled ps p past x e (ap (λ b. b && scrambled p) y ∙ sym c.scrambled.ensures ∙ c.if-scrambled.true))

pub returns-then-not-unit_start : goal.returns-then-not-unit_start
returns-then-not-unit_start c = λ ps past at h.
    let p = c.args.packet.now in
    let of = placed ps p c.args.index at in
    let x : ℕ × ℕ = (c.args.index, of.0) in
    let e : first_on ps p ≡ Some x = of.1 in
    let y = payload_of x.1 p (first_is_on ps p x e) ∙ sym c.has_payload.ensures ∙ c.if-not-has_payload.false in
    let n : payload_on x.1 p && scrambled p ≡ false = ap (λ b. b && scrambled p) y ∙ sym c.scrambled.ensures ∙ c.if-scrambled.false in
    let begins_none : begin_fault ps x.1 p past ≡ None =
    ap (λ b. if original x.1 p past && b then start_fault (high ps past) (splits p) (stamp p) else None) (sym c.unit_start.ensures ∙ c.if-not-unit_start.true)
    ∙ ap (λ b. if b then start_fault (high ps past) (splits p) (stamp p) else None) (and-false (original x.1 p past)) in
    sym (fault_begin ps p past x e None n begins_none)

pub returns-in-Ok : goal.returns-in-Ok
returns-in-Ok c = λ ps past at h.
    sym (c.in-Ok.ensures.ok ps past at (clear-of c.args.packet.now (sym c.scrambled.ensures ∙ c.if-scrambled.false) (sym c.has_payload.ensures ∙ c.if-not-has_payload.false)) h)

pub returns-in-Err : goal.returns-in-Err
returns-in-Err c = λ ps past at h.
    sym (c.in-Err.ensures.err ps past at (clear-of c.args.packet.now (sym c.scrambled.ensures ∙ c.if-scrambled.false) (sym c.has_payload.ensures ∙ c.if-not-has_payload.false)) h)
