use Rattle.std.proofs.Common.{rules, ◌≡◌, ◌∷◌, true, false, subst}
use Rattle.chain_services.specs.Parts.{FirstGoesOn}
use Rattle.chain_services.proofs.PartLemmas.{parted, first_of_failed}
use Rattle.chain_services.proofs.UnfollowedLemmas.{passed-first, skips-first}
use Rattle.chain_services.proofs.passing.go_on_first.Goals as goal

pub returns-in-Ok-clause-ok : goal.returns-in-Ok-clause-ok
returns-in-Ok-clause-ok g c = λ ts steps start ps filed all skip on is_held.
    let shape : c.args.services.now ≡ c.in-Some.service.now ∷ c.in-Some._others.now = search rules in
    let long : c.args.libraries.now ≡ c.in-Some-split_first.library.now ∷ c.in-Some-split_first._behind.now = search rules in
    let p = c.args.packet.now in
    let h = parted c.args.services.now c.args.libraries.now c.in-Some.service.now c.in-Some._others.now c.in-Some-split_first.library.now c.in-Some-split_first._behind.now ts steps shape long filed all in
    let by = subst (λ l. FirstGoesOn l c.args.of p) shape on in
    let skips = skips-first 1 h.t h.rest ts p steps h.parts skip in
    passed-first true false c.pass_alone.new.service c.in-Some._others.now ts h.t h.rest h.parts p steps (g.K.PacketSink.holds c.pass_alone.new.out start) ps
    (c.in-Ok.ensures.ok h.t steps start ps h.filed h.serves by is_held) h.serve_rest c.of_bytes.ensures skips.1

pub returns-in-Err-clause-err : goal.returns-in-Err-clause-err
returns-in-Err-clause-err g c = λ ts steps start ps filed all on is_held.
    let shape : c.args.services.now ≡ c.in-Some.service.now ∷ c.in-Some._others.now = search rules in
    let long : c.args.libraries.now ≡ c.in-Some-split_first.library.now ∷ c.in-Some-split_first._behind.now = search rules in
    let p = c.args.packet.now in
    let h = parted c.args.services.now c.args.libraries.now c.in-Some.service.now c.in-Some._others.now c.in-Some-split_first.library.now c.in-Some-split_first._behind.now ts steps shape long filed all in
    let by = subst (λ l. FirstGoesOn l c.args.of p) shape on in
    first_of_failed c.in-Err.fault ts h.t h.rest h.parts p steps _ _ (c.in-Err.ensures.err h.t steps start ps h.filed h.serves by is_held)
