use Rattle.std.proofs.Common.{rules, ◌≡◌, true, false, [], ◌∷◌, ◌++◌, ◌∙◌, sym, ap, subst}
use Rattle.std.specs.Prelude.{if◌then◌else◌}
use Rattle.std.proofs.lemmas.List.{append-nil}
use Rattle.chain_services.specs.Parts.{parts_of}
use Rattle.chain_services.proofs.PartLemmas.{given_parts, given_failed, none_adds}
use Rattle.chain_services.proofs.desk.Desk.pass_next.Goals as goal

pub returns-in-Err-clause-err : goal.returns-in-Err-clause-err
returns-in-Err-clause-err g c = λ ts steps start ps filed apart serve skip is_held.
    let holds = g.K.PacketSink.holds c.pass_through.new.out start in
    let fails = g.K.PacketSink.fails c.pass_through.new.out start in
    given_failed c.in-Err.fault ts c.args.packet.now steps (λ l. holds (ps ++ l)) (λ put q x. fails (ps ++ put) q x) apart (c.in-Err.ensures.err ts steps start ps filed serve skip is_held)

pub returns-in-Ok-put-clause-ok : goal.returns-in-Ok-put-clause-ok
returns-in-Ok-put-clause-ok g c = λ ts steps start ps filed apart serve skip is_held.
    let p = c.args.packet.now in
    let n : c.in-Ok.passed.is_own ≡ false = search rules in
    let done = c.in-Ok.ensures.ok ts steps start ps filed serve skip is_held in
    let none = sym done.owns_it ∙ n in
    let before = subst (g.K.PacketSink.holds c.pass_through.new.out start) (ap (λ l. ps ++ l) (none_adds ts p steps none) ∙ append-nil ps) done.out in
    let alone = given_parts ts p steps apart ∙ ap (λ b. if b then parts_of ts p steps else p ∷ []) none in
    (done.serve, subst (λ l. g.K.PacketSink.holds c.put.new.self start (ps ++ l)) (sym alone) (c.in-Ok-put.ensures.ok start ps before), done.still)

pub returns-in-Err-put-clause-err : goal.returns-in-Err-put-clause-err
returns-in-Err-put-clause-err g c = λ ts steps start ps filed apart serve skip is_held.
    let p = c.args.packet.now in
    let n : c.in-Ok.passed.is_own ≡ false = search rules in
    let done = c.in-Ok.ensures.ok ts steps start ps filed serve skip is_held in
    let none = sym done.owns_it ∙ n in
    let before = subst (g.K.PacketSink.holds c.pass_through.new.out start) (ap (λ l. ps ++ l) (none_adds ts p steps none) ∙ append-nil ps) done.out in
    let alone = given_parts ts p steps apart ∙ ap (λ b. if b then parts_of ts p steps else p ∷ []) none in
    record {
      put = [];
      packet = p;
      left = [];
      all = alone;
      fault = subst (λ l. g.K.PacketSink.fails c.put.new.self start l p c.in-Err-put.fault) (sym (append-nil ps)) (c.in-Err-put.ensures.err start ps before);
    }

pub returns-else-not-passed-clause-ok : goal.returns-else-not-passed-clause-ok
returns-else-not-passed-clause-ok g c = λ ts steps start ps filed apart serve skip is_held.
    let p = c.args.packet.now in
    let y : c.in-Ok.passed.is_own ≡ true = search rules in
    let done = c.in-Ok.ensures.ok ts steps start ps filed serve skip is_held in
    let given = given_parts ts p steps apart ∙ ap (λ b. if b then parts_of ts p steps else p ∷ []) (sym done.owns_it ∙ y) in
    (done.serve, subst (λ l. g.K.PacketSink.holds c.pass_through.new.out start (ps ++ l)) (sym given) done.out, done.still)
