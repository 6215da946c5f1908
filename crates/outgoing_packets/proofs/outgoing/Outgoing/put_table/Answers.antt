use Rattle.std.proofs.Common.{◌≡◌, ◌<◌, [], ◌∷◌, ◌++◌, length, IfErr, sym, ◌∙◌, subst}
use Rattle.program_laws.specs.Writing.{section_out, packets_out}
use Rattle.program_follower.specs.Standing.{table_seen}
use Rattle.outgoing_packets.specs.Entries.{change_of, section_going}
use Rattle.outgoing_packets.specs.Numbers.{FrontFails}
use Rattle.outgoing_packets.proofs.outgoing.Outgoing.put_table.Goals as goal

pub returns-in-Some-clause-err : goal.returns-in-Some-clause-err
returns-in-Some-clause-err g c = λ start ps out h k goes.
    let same : c.as_slice.result.now ≡ section_out (change_of c.args.change.now) (table_seen c.args.table) = c.as_slice.ensures.value ∙ c.in-Some.ensures.value goes in
    let some : 0 < length c.as_slice.result.now = subst (λ s. 0 < length s) (sym c.as_slice.ensures.value) (c.in-Some.ensures.some goes) in
    subst (λ s. IfErr c.put_section.result (λ f. FrontFails (packets_out c.args.pid out (s ∷ [])) (λ put p. g.S.PacketSink.fails c.put_section.new.sink start (ps ++ put) p f))) same
    (c.put_section.ensures.err start ps out h k some)

pub returns-in-None-clause-err : goal.returns-in-None-clause-err
returns-in-None-clause-err g c = λ start ps out h k goes.
    let same : c.args.table.section.now ≡ section_out (change_of c.args.change.now) (table_seen c.args.table) = c.in-None.ensures.value goes in
    subst (λ s. IfErr c.put_section-in-None.result (λ f. FrontFails (packets_out c.args.pid out (s ∷ [])) (λ put p. g.S.PacketSink.fails c.put_section-in-None.new.sink start (ps ++ put) p f))) same
    (c.put_section-in-None.ensures.err start ps out h k (c.in-None.ensures.some goes))

pub returns-in-Some-clause-sent_err : goal.returns-in-Some-clause-sent_err
returns-in-Some-clause-sent_err g c = λ start ps out h k bytes.
    let same : c.as_slice.result.now ≡ section_going c.args.change.now (table_seen c.args.table) = c.as_slice.ensures.value ∙ c.in-Some.ensures.sent in
    let some : 0 < length c.as_slice.result.now = subst (λ s. 0 < length s) (sym c.as_slice.ensures.value) (c.in-Some.ensures.bytes bytes) in
    subst (λ s. IfErr c.put_section.result (λ f. FrontFails (packets_out c.args.pid out (s ∷ [])) (λ put p. g.S.PacketSink.fails c.put_section.new.sink start (ps ++ put) p f))) same
    (c.put_section.ensures.err start ps out h k some)

pub returns-in-None-clause-sent_err : goal.returns-in-None-clause-sent_err
returns-in-None-clause-sent_err g c = λ start ps out h k bytes.
    let same : c.args.table.section.now ≡ section_going c.args.change.now (table_seen c.args.table) = c.in-None.ensures.sent in
    subst (λ s. IfErr c.put_section-in-None.result (λ f. FrontFails (packets_out c.args.pid out (s ∷ [])) (λ put p. g.S.PacketSink.fails c.put_section-in-None.new.sink start (ps ++ put) p f))) same
    (c.put_section-in-None.ensures.err start ps out h k (c.in-None.ensures.bytes bytes))
