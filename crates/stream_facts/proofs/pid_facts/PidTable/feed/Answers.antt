use Rattle.std.proofs.Common.{sym, subst, ◌∙◌, ◌∷◌, slice_index_or}
use Rattle.std.proofs.lemmas.List.{length-set}
use Rattle.ts_packet.proofs.Cases.{on_ok_more}
use Rattle.stream_facts.specs.Pids.{IsPidKnown}
use Rattle.stream_facts.proofs.PidLemmas.{known_marked, known_set, on_own}
use Rattle.stream_facts.proofs.pid_facts.PidTable.feed.Goals as goal

pub returns-then-error : goal.returns-then-error
returns-then-error c = λ past k at. known_marked c.args.self.now c.args.packet.now past (sym c.error.ensures ∙ c.if-error.true) k

pub take-requires : goal.take-requires
take-requires c = on_own c.pid-pid.result c.args.packet.now (sym c.error.ensures ∙ c.if-error.false) c.pid-pid.ensures

pub returns-in-Some : goal.returns-in-Some
returns-in-Some c = λ past k at.
    let items = c.args.self.now.slots.items in
    let i = c.get.result in
    let own = subst (λ o. IsPidKnown o c.pid-pid.result past) (sym c.in-Some.ensures.value) (subst (λ n. IsPidKnown (slice_index_or items i c.in-Some.slot.now) n past) c.get.ensures.value (k.each i c.in-Some.slot.now c.get.ensures.below)) in
    on_ok_more c.take.result
    (λ known. record {
      size = length-set items i c.take.new.slot ∙ k.size;
      each = known_set items i c.take.new.slot c.args.packet.now past k.size (c.get.ensures.value ∙ c.pid-pid.ensures) k.each (subst (λ n. IsPidKnown c.take.new.slot n (c.args.packet.now ∷ past)) (sym c.get.ensures.value) known);
    })
    (c.take.ensures past own at)
