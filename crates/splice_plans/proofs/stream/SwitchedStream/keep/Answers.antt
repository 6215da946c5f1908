use Rattle.std.proofs.Common.{◌∷◌, [], ◌++◌, sym, ◌∙◌, ap, subst, length}
use Rattle.std.specs.Prelude.{OnOk, IfErr}
use Rattle.splice_plans.proofs.CountingLemmas.{moved-out, unmoved-out}
use Rattle.splice_plans.proofs.stream.SwitchedStream.keep.Goals as goal

pub returns-then-number-counter-clause-ok : goal.returns-then-number-counter-clause-ok
returns-then-number-counter-clause-ok g c = λ start ps steps h k.
    let is = unmoved-out c.kept-number.result c.args.packet.now steps (c.kept-number.ensures.number steps k) (c.if-number-counter.true ∙ c.counter.ensures.value) (ap length (sym c.as_bytes-bytes.ensures.value) ∙ c.as_bytes-bytes.ensures.size) in
    subst (λ q. OnOk c.put.result (g.S.PacketSink.holds c.put.new.self start (ps ++ q ∷ []))) is (c.put.ensures.ok start ps h)

pub returns-then-number-counter-clause-err : goal.returns-then-number-counter-clause-err
returns-then-number-counter-clause-err g c = λ start ps steps h k.
    let is = unmoved-out c.kept-number.result c.args.packet.now steps (c.kept-number.ensures.number steps k) (c.if-number-counter.true ∙ c.counter.ensures.value) (ap length (sym c.as_bytes-bytes.ensures.value) ∙ c.as_bytes-bytes.ensures.size) in
    subst (λ q. IfErr c.put.result (λ f. g.S.PacketSink.fails c.put.new.self start ps q f)) is (c.put.ensures.err start ps h)

pub returns-clause-ok : goal.returns-clause-ok
returns-clause-ok g c = λ start ps steps h k.
    let is = moved-out c.kept-number.result c.args.packet.now steps (c.kept-number.ensures.number steps k) in
    subst (λ q. OnOk c.put_renumbered.result (g.S.PacketSink.holds c.put_renumbered.new.sink start (ps ++ q ∷ []))) is (c.put_renumbered.ensures.ok start ps h)

pub returns-clause-err : goal.returns-clause-err
returns-clause-err g c = λ start ps steps h k.
    let is = moved-out c.kept-number.result c.args.packet.now steps (c.kept-number.ensures.number steps k) in
    subst (λ q. IfErr c.put_renumbered.result (λ f. g.S.PacketSink.fails c.put_renumbered.new.sink start ps q f)) is (c.put_renumbered.ensures.err start ps h)
