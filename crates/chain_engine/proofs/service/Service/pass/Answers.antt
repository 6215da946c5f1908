use Rattle.std.proofs.Common.{[], ◌++◌, sym, subst}
use Rattle.std.proofs.lemmas.List.{append-nil}
use Rattle.ad_library.specs.Library.{held}
use Rattle.chain_engine.proofs.service.Service.pass.Goals as goal

pub returns-in-Ok-clause-ok : goal.returns-in-Ok-clause-ok
returns-in-Ok-clause-ok g c = λ d steps start ps stands is_held.
    let by = c.overlooks.ensures.stands d (held c.args.library.now) steps stands c.if-overlooks.true in
    (by.stands, subst (λ l. g.K.PacketSink.holds c.put.new.self start (ps ++ l)) (sym by.alone) (c.in-Ok.ensures.ok start ps is_held))

pub returns-in-Ok-clause-airs : goal.returns-in-Ok-clause-airs
returns-in-Ok-clause-airs g c = λ d steps fed start ps stands is_held.
    let by = c.overlooks.ensures.airs d (held c.args.library.now) steps fed stands c.if-overlooks.true in
    record { airs = by.airs; out = subst (λ l. g.K.PacketSink.holds c.put.new.self start (ps ++ l)) (sym by.out) (c.in-Ok.ensures.ok start ps is_held) }

pub returns-in-Err-clause-err : goal.returns-in-Err-clause-err
returns-in-Err-clause-err g c = λ d steps start ps stands is_held.
    let by = c.overlooks.ensures.stands d (held c.args.library.now) steps stands c.if-overlooks.true in
    record {
      put = [];
      packet = c.args.packet.now;
      left = [];
      all = by.alone;
      fault = subst (λ l. g.K.PacketSink.fails c.put.new.self start l c.args.packet.now c.in-Err.fault) (sym (append-nil ps)) (c.in-Err.ensures.err start ps is_held);
    }
