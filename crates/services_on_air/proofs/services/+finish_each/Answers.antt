use Rattle.std.proofs.Common.{rules, ◌≡◌, [], ◌∷◌, ◌++◌, sym, ap, subst, ◌∙◌, append_assoc}
use Rattle.std.proofs.lemmas.Result.{on_ok_weaker}
use Rattle.psi_tables.specs.declared.config.Config.{Config}
use Rattle.chain_services.specs.declared.report.ServiceEvents.{ServiceEvents}
use Rattle.services_on_air.specs.Histories.{put_last}
use Rattle.services_on_air.specs.Outputs.{EventsOnAir}
use Rattle.services_on_air.specs.Serving.{AddsOnAir, puts_last}
use Rattle.services_on_air.proofs.TogetherLemmas.{gone-of, filed-of, adds-first}
use Rattle.services_on_air.proofs.services.+finish_each.Goals as goal

pub returns-in-Ok-try_push-clause-puts : goal.returns-in-Ok-try_push-clause-puts
returns-in-Ok-try_push-clause-puts g t c = λ ts gs start ps filed all is_held.
    let s = c.in-Some.service.now in
    let ss = c.in-Some.others.now in
    let shape : c.args.services.now ≡ s ∷ ss = search rules in
    let long : c.args.libraries.now ≡ c.in-Some-split_first.library.now ∷ c.in-Some-split_first.libraries.now = search rules in
    let q = gone-of c.args.services.now s ss ts gs shape all in
    let f = filed-of c.args.libraries.now c.in-Some-split_first.library.now c.in-Some-split_first.libraries.now ts q.t q.more long q.terms filed in
    let (put, counts) = c.in-Ok.ensures.puts q.t q.g start ps f.first q.first is_held in
    let e : ServiceEvents = record { index = c.config-config.result.index; program = c.config-config.result.program; switch = c.in-Ok.switch } in
    let pushed : c.try_push.new.self.items ≡ c.args.events.now.items ++ e ∷ [] = search rules in
    let config = c.config-config.ensures ∙ q.first.airs.config in
    let one : EventsOnAir e q.t q.g = record { index = ap (λ (d : Config). d.index) config; program = ap (λ (d : Config). d.program) config; switch = counts } in
    let holds = g.K.PacketSink.holds c.finish_each.new.out start in
    let before = c.args.events.now.items in
    let now = c.finish_each.new.events.items in
    on_ok_weaker c.finish_each.result
    (λ d. subst (λ us. AddsOnAir before now us gs × holds (ps ++ puts_last us gs)) (sym q.terms)
    (subst (λ hs. AddsOnAir before now (q.t ∷ q.more) hs × holds (ps ++ puts_last (q.t ∷ q.more) hs)) (sym q.gones)
    (adds-first before c.try_push.new.self.items now e q.t q.more q.g q.later pushed one d.0, subst holds (append_assoc ps (put_last q.t q.g) (puts_last q.more q.later)) d.1)))
    (c.finish_each.ensures.puts q.more q.later start (ps ++ put_last q.t q.g) f.others q.others put)
