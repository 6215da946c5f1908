use Rattle.std.proofs.Common.{rules, ◌≡◌, ◌∷◌, length, ap}
use Rattle.std.proofs.lemmas.List.{nil_from_length}
use Rattle.std.specs.List.{list_any}
use Rattle.injector.specs.Steps.{packets_in}
use Rattle.chain_services.specs.Owners.{has_pid}
use Rattle.chain_services.proofs.ApartLemmas.{split}
use Rattle.chain_services.proofs.OwnerLemmas.{told-both, told-none, serve-none}
use Rattle.chain_services.proofs.owners.+tell_all.Goals as goal

pub returns-in-Some : goal.returns-in-Some
returns-in-Some m c = λ ts us steps all served.
    let shape : c.args.some.now ≡ c.in-Some.service.now ∷ c.in-Some.behind.now = search rules in
    let j = split c.args.some.now c.in-Some.service.now c.in-Some.behind.now us steps shape served in
    told-both c.args.owners.now c.tell_own.new.owners c.tell_all.new.owners ts (packets_in steps) (λ k. has_pid k (packets_in steps) j.t) (λ k. list_any (has_pid k (packets_in steps)) j.rest)
    (λ k. list_any (has_pid k (packets_in steps)) us) (λ k. ap (list_any (has_pid k (packets_in steps))) j.parts)
    (c.tell_own.ensures ts j.t steps all j.serves) (c.tell_all.ensures ts j.rest steps all j.serve_rest)

pub returns-in-None : goal.returns-in-None
returns-in-None m c = λ ts us steps all served.
    let none : length c.args.some.now ≡ 0 = search rules in
    told-none c.args.owners.now ts (packets_in steps) (λ k. list_any (has_pid k (packets_in steps)) us)
    (λ k. ap (list_any (has_pid k (packets_in steps))) (serve-none c.args.some.now us steps (nil_from_length c.args.some.now none) served))
