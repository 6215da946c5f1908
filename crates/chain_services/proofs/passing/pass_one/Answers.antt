use Rattle.std.proofs.Common.{◌++◌, sym, subst}
use Rattle.std.proofs.lemmas.List.{append-nil}
use Rattle.chain_services.proofs.UnfollowedLemmas.{passed-by, skipped-by}
use Rattle.chain_services.proofs.passing.pass_one.Goals as goal

pub returns-then-is_left_out-clause-ok : goal.returns-then-is_left_out-clause-ok
returns-then-is_left_out-clause-ok g c = λ t steps start ps filed h skip is_held.
    passed-by c.args.service.now t c.args.packet.now steps h (λ l. g.K.PacketSink.holds c.args.out.now start (ps ++ l))
    (skipped-by c.args.service.now t c.args.packet.now steps h c.of_bytes.ensures (skip c.if-is_left_out.true)) (subst (g.K.PacketSink.holds c.args.out.now start) (sym (append-nil ps)) is_held)

pub returns-clause-ok : goal.returns-clause-ok
returns-clause-ok g c = λ t steps start ps filed h skip is_held. c.pass_closely.ensures.ok t steps start ps filed h is_held
