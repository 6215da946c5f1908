use Rattle.std.proofs.Common.{rules, ◌≡◌, ◌∷◌}
use Rattle.chain_services.proofs.PartLemmas.{parted, first_of_failed}
use Rattle.chain_services.proofs.ShiftLemmas.{if-ok, if-err}
use Rattle.chain_services.proofs.UnfollowedLemmas.{passed-first, skips-first}
use Rattle.chain_services.proofs.passing.pass_first.Goals as goal

pub returns-clause-ok : goal.returns-clause-ok
returns-clause-ok g c = λ ts steps start ps filed all skip is_held.
    let shape : c.args.services.now ≡ c.in-Some.service.now ∷ c.in-Some._others.now = search rules in
    let long : c.args.libraries.now ≡ c.in-Some-split_first.library.now ∷ c.in-Some-split_first._behind.now = search rules in
    let h = parted c.args.services.now c.args.libraries.now c.in-Some.service.now c.in-Some._others.now c.in-Some-split_first.library.now c.in-Some-split_first._behind.now ts steps shape long filed all in
    let p = c.args.packet.now in
    let skips = skips-first 1 h.t h.rest ts p steps h.parts skip in
    if-ok c.pass_one.result _ _ (λ x one. passed-first x.is_own x.learns c.pass_one.new.service c.in-Some._others.now ts h.t h.rest h.parts p steps (g.K.PacketSink.holds c.pass_one.new.out start) ps
    one h.serve_rest c.of_bytes.ensures skips.1)
    (c.pass_one.ensures.ok h.t steps start ps h.filed h.serves (λ e. absurd (cc)) is_held)

pub returns-clause-err : goal.returns-clause-err
returns-clause-err g c = λ ts steps start ps filed all skip is_held.
    let shape : c.args.services.now ≡ c.in-Some.service.now ∷ c.in-Some._others.now = search rules in
    let long : c.args.libraries.now ≡ c.in-Some-split_first.library.now ∷ c.in-Some-split_first._behind.now = search rules in
    let h = parted c.args.services.now c.args.libraries.now c.in-Some.service.now c.in-Some._others.now c.in-Some-split_first.library.now c.in-Some-split_first._behind.now ts steps shape long filed all in
    if-err c.pass_one.result _ _ (λ f o. first_of_failed f ts h.t h.rest h.parts c.args.packet.now steps _ _ o)
    (c.pass_one.ensures.err h.t steps start ps h.filed h.serves is_held)
