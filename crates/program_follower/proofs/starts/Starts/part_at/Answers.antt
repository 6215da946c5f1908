use Rattle.std.proofs.Common.{◌≡◌, ℕ, Some, None}
use Rattle.program_follower.specs.Streaming.{first_on}
use Rattle.program_follower.proofs.GoOnLemmas.{clear-payload, clear-open}
use Rattle.program_follower.proofs.StreamLemmas.{first_is_on, is_one, fault_begin}
use Rattle.program_follower.proofs.PlaceLemmas.{placed}
use Rattle.program_follower.proofs.starts.Starts.part_at.Goals as goal

pub returns-in-Ok-clause-ok : goal.returns-in-Ok-clause-ok
returns-in-Ok-clause-ok c = λ ps past at clear h.
    let p = c.args.packet.now in
    let of = placed ps p c.args.index at in
    let x : ℕ × ℕ = (c.args.index, of.0) in
    let e : first_on ps p ≡ Some x = of.1 in
    let begins = c.look.ensures x.1 past (h.readers p x c.index-self-index.result e) (clear-payload p clear x.1 (first_is_on ps p x e)) in
    fault_begin ps p past x e None (clear-open p clear x.1) (c.in-Ok.ensures.sound ps x.1 p past (is_one ps p past x e) h.clock begins)

pub returns-in-Ok-clause-is : goal.returns-in-Ok-clause-is
returns-in-Ok-clause-is c = λ ps past at clear h.
    let p = c.args.packet.now in
    let of = placed ps p c.args.index at in
    let x : ℕ × ℕ = (c.args.index, of.0) in
    let e : first_on ps p ≡ Some x = of.1 in
    let begins = c.look.ensures x.1 past (h.readers p x c.index-self-index.result e) (clear-payload p clear x.1 (first_is_on ps p x e)) in
    (x.1, (e, c.in-Ok.ensures.is ps x.1 p past (is_one ps p past x e) h.clock begins))

pub returns-in-Err-clause-err : goal.returns-in-Err-clause-err
returns-in-Err-clause-err c = λ ps past at clear h.
    let p = c.args.packet.now in
    let of = placed ps p c.args.index at in
    let x : ℕ × ℕ = (c.args.index, of.0) in
    let e : first_on ps p ≡ Some x = of.1 in
    let begins = c.look.ensures x.1 past (h.readers p x c.index-self-index.result e) (clear-payload p clear x.1 (first_is_on ps p x e)) in
    fault_begin ps p past x e (Some c.in-Err.fault) (clear-open p clear x.1) (c.in-Err.ensures.err ps x.1 p past (is_one ps p past x e) h.clock begins)
