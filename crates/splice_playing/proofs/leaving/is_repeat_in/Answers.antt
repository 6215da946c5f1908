use Rattle.std.proofs.Common.{◌<◌, ◌∷◌, length, rules, sym, subst, ◌∙◌}
use Rattle.std.specs.Prelude.{slice_index_or}
use Rattle.std.proofs.lemmas.List.{get_or-set_same, get_or_default}
use Rattle.ts_packet.specs.Fields.{payload_on}
use Rattle.ts_packet.proofs.FieldLemmas.{without-payload}
use Rattle.splice_playing.specs.Leaving.{HasTaken}
use Rattle.splice_playing.proofs.PlaceLemmas.{clash}
use Rattle.splice_playing.proofs.LeavingLemmas.{takes-none, with-payload}
use Rattle.splice_playing.proofs.leaving.is_repeat_in.Goals as goal

pub returns-then-not-has_payload-clause-takes : goal.returns-then-not-has_payload-clause-takes
returns-then-not-has_payload-clause-takes c = λ u pid past o start taken.
    let p = c.args.packet.now in
    takes-none (slice_index_or c.args.units.now c.args.number u) pid p past (without-payload pid p (sym c.has_payload.ensures ∙ c.if-not-has_payload.true)) (taken c.if-is_start.false)

pub returns-then-not-has_payload-clause-answer : goal.returns-then-not-has_payload-clause-answer
returns-then-not-has_payload-clause-answer c = λ u pid past y start taken.
    let p = c.args.packet.now in
    absurd (clash (payload_on pid p) y (without-payload pid p (sym c.has_payload.ensures ∙ c.if-not-has_payload.true)))

pub returns-clause-takes : goal.returns-clause-takes
returns-clause-takes c = λ u pid past o start taken.
    let units = c.args.units.now in
    let n = c.args.number in
    let p = c.args.packet.now in
    let below : n < length units = search rules in
    let y = with-payload pid p o (sym c.has_payload.ensures ∙ c.if-not-has_payload.false) in
    let before = subst (λ x. HasTaken x pid past) (get_or_default units n u c.index-units-number-2.result below) (taken c.if-is_start.false) in
    subst (λ x. HasTaken x pid (p ∷ past)) (sym (get_or-set_same units n c.is_repeat.new.self u below)) (c.is_repeat.ensures.takes pid past y before)
