use Rattle.std.proofs.Common.{◌≡◌, ℕ, if◌then◌else◌, Some, None, sym, ap, ◌∙◌}
use Rattle.unit_stream.specs.Times.{stamp}
use Rattle.unit_stream.proofs.ClockLemmas.{begins_off, stamp_is}
use Rattle.program_follower.specs.Streaming.{first_on, start_on}
use Rattle.program_follower.proofs.StreamLemmas.{first_is_on, payload_of}
use Rattle.program_follower.proofs.PlaceLemmas.{placed}
use Rattle.program_follower.proofs.starts.Starts.start_at.Goals as goal

pub returns-then-not-has_payload : goal.returns-then-not-has_payload
returns-then-not-has_payload c = λ ps past at h.
    let p = c.args.packet.now in
    let of = placed ps p c.args.index at in
    let x : ℕ × ℕ = (c.args.index, of.0) in
    let e : first_on ps p ≡ Some x = of.1 in
    let n = payload_of x.1 p (first_is_on ps p x e) ∙ sym c.has_payload.ensures ∙ c.if-not-has_payload.true in
    sym (ap (λ o. start_on o p past) e ∙ ap (λ b. if b then Some (record { pts = stamp p }) else None) (begins_off x.1 p past n))

pub returns-in-Some : goal.returns-in-Some
returns-in-Some c = λ ps past at h.
    let p = c.args.packet.now in
    let of = placed ps p c.args.index at in
    let x : ℕ × ℕ = (c.args.index, of.0) in
    let e : first_on ps p ≡ Some x = of.1 in
    let y = payload_of x.1 p (first_is_on ps p x e) ∙ sym c.has_payload.ensures ∙ c.if-not-has_payload.false in
    let begins = c.in-Some.ensures x.1 past (h.readers p x c.index-self-index.result e) y in
    ap (λ t. Some (record { pts = t })) (c.stamp_in.ensures ∙ stamp_is p c.in-Some.payload.now begins.1)
    ∙ sym (ap (λ o. start_on o p past) e ∙ ap (λ b. if b then Some (record { pts = stamp p }) else None) begins.0)
