use Rattle.std.proofs.Common.{rules, ◌≡◌, ◌∷◌, length, ap, ◌==◌}
use Rattle.std.proofs.lemmas.List.{nil_from_length}
use Rattle.ts_packet.specs.Fields.{is_among}
use Rattle.injector.specs.Steps.{packets_in}
use Rattle.chain_services.proofs.OwnerLemmas.{told-both, told-none}
use Rattle.chain_services.proofs.owners.+tell_each.Goals as goal

pub returns-in-Some : goal.returns-in-Some
returns-in-Some m c = λ ts steps all.
    let shape : c.args.pids.now ≡ c.in-Some.pid.now ∷ c.in-Some.behind.now = search rules in
    told-both c.args.owners.now c.tell.new.owners c.tell_each.new.owners ts (packets_in steps) (λ k. c.in-Some.pid.now == k) (λ k. is_among k c.in-Some.behind.now)
    (λ k. is_among k c.args.pids.now) (λ k. ap (is_among k) shape) (c.tell.ensures ts steps all) (c.tell_each.ensures ts steps all)

pub returns-in-None : goal.returns-in-None
returns-in-None m c = λ ts steps all.
    let none : length c.args.pids.now ≡ 0 = search rules in
    told-none c.args.owners.now ts (packets_in steps) (λ k. is_among k c.args.pids.now) (λ k. ap (is_among k) (nil_from_length c.args.pids.now none))
