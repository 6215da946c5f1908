use Rattle.ts_packet.specs.declared.sink.PutFault.{PutFault}
use Rattle.std.proofs.Common.{List, ℕ, rules, ◌≡◌, ◌∷◌, ◌++◌, sym, subst, append_assoc}
use Rattle.service_laws.specs.Services.{services_rest}
use Rattle.chain_services.specs.Parts.{rest_of, AddsEvents, RestFails}
use Rattle.chain_services.proofs.PartLemmas.{parted}
use Rattle.chain_services.proofs.RestLemmas.{on_ok_so, if_err_so, adds_more, rest_first, rest_more}
use Rattle.chain_services.proofs.finishing.+finish_each.Goals as goal

pub returns-in-Ok-clause-ok : goal.returns-in-Ok-clause-ok
returns-in-Ok-clause-ok g t c = λ ts steps start ps filed all is_held.
    let shape : c.args.services.now ≡ c.in-Some.service.now ∷ c.in-Some.others.now = search rules in
    let long : c.args.libraries.now ≡ c.in-Some-split_first.library.now ∷ c.in-Some-split_first.libraries.now = search rules in
    let h = parted c.args.services.now c.args.libraries.now c.in-Some.service.now c.in-Some.others.now c.in-Some-split_first.library.now c.in-Some-split_first.libraries.now ts steps shape long filed all in
    let holds = g.K.PacketSink.holds c.finish_each.new.out start in
    let one = c.in-Ok.ensures.ok h.t steps start ps h.filed h.serves is_held in
    on_ok_so c.finish_each.result
    (λ d. subst (λ us. AddsEvents c.args.events.now.items c.finish_each.new.events.items us steps × holds (ps ++ services_rest us steps)) (sym h.parts)
    (adds_more c.args.events.now.items c.finish_one.new.events.items c.finish_each.new.events.items h.t h.rest steps one.0 d.0, subst holds (append_assoc ps (rest_of h.t steps) (services_rest h.rest steps)) d.1))
    (c.finish_each.ensures.ok h.rest steps start (ps ++ rest_of h.t steps) h.filed_rest h.serve_rest one.1)

pub returns-in-Ok-clause-err : goal.returns-in-Ok-clause-err
returns-in-Ok-clause-err g t c = λ ts steps start ps filed all is_held.
    let shape : c.args.services.now ≡ c.in-Some.service.now ∷ c.in-Some.others.now = search rules in
    let long : c.args.libraries.now ≡ c.in-Some-split_first.library.now ∷ c.in-Some-split_first.libraries.now = search rules in
    let h = parted c.args.services.now c.args.libraries.now c.in-Some.service.now c.in-Some.others.now c.in-Some-split_first.library.now c.in-Some-split_first.libraries.now ts steps shape long filed all in
    let fails = g.K.PacketSink.fails c.finish_each.new.out start in
    let one = c.in-Ok.ensures.ok h.t steps start ps h.filed h.serves is_held in
    if_err_so c.finish_each.result _ _
    (λ f k. subst (λ us. RestFails f c.args.events.now.items us steps (λ put q x. fails (ps ++ put) q x)) (sym h.parts)
    (rest_more f c.args.events.now.items c.finish_one.new.events.items h.t h.rest steps ps fails one.0 k))
    (c.finish_each.ensures.err h.rest steps start (ps ++ rest_of h.t steps) h.filed_rest h.serve_rest one.1)

pub returns-in-Err-clause-err : goal.returns-in-Err-clause-err
returns-in-Err-clause-err g t c = λ ts steps start ps filed all is_held.
    let shape : c.args.services.now ≡ c.in-Some.service.now ∷ c.in-Some.others.now = search rules in
    let long : c.args.libraries.now ≡ c.in-Some-split_first.library.now ∷ c.in-Some-split_first.libraries.now = search rules in
    let h = parted c.args.services.now c.args.libraries.now c.in-Some.service.now c.in-Some.others.now c.in-Some-split_first.library.now c.in-Some-split_first.libraries.now ts steps shape long filed all in
    let fails : List (List ℕ) → List ℕ → PutFault → Type 0 = (λ put q x. g.K.PacketSink.fails c.finish_one.new.out start (ps ++ put) q x) in
    subst (λ us. RestFails c.in-Err.fault c.args.events.now.items us steps fails) (sym h.parts)
    (rest_first c.in-Err.fault c.args.events.now.items h.t h.rest steps fails (c.in-Err.ensures.err h.t steps start ps h.filed h.serves is_held))
