use Rattle.std.proofs.Common.{◌≡◌, [], ◌∷◌, ◌++◌, sym, ap, ◌∙◌, subst, append_assoc}
use Rattle.std.specs.Prelude.{map}
use Rattle.std.proofs.lemmas.List.{append-nil}
use Rattle.ts_packet.specs.Runs.{onto}
use Rattle.ts_packet.proofs.CountLemmas.{well-refl, well-trans, blamed-after}
use Rattle.program_laws.specs.Writing.{section_out, packets_out}
use Rattle.program_follower.specs.Standing.{tables_left, table_seen}
use Rattle.outgoing_packets.specs.Entries.{change_of, section_going, sections_going, HasBytes}
use Rattle.outgoing_packets.specs.Numbers.{HasPut}
use Rattle.outgoing_packets.proofs.NumberLemmas.{going-first, going-good, going-here, going-more, gone-first, gone-good, gone-here, gone-out, gone-more, front-moved, fails-behind, packets-more}
use Rattle.outgoing_packets.proofs.outgoing.Outgoing.put_tables.Goals as goal

pub loop-table-init : goal.loop-table-init
loop-table-init g c = record {
  leads = g.met.S.PacketSink.leads_refl c.args.sink.now;
  well = well-refl _;
  put = λ out h good. ([], going-first c.args.change.now c.args.pid out (tables_left c.args.tables) (tables_left c.into_iter-table-iterator.result) c.args.self.now (ap tables_left c.into_iter-table-iterator.ensures.into_iter_gives) h good, λ start ps k. rw append-nil k);
  sent = λ out h good. ([], gone-first (section_going c.args.change.now) HasBytes c.args.pid out (tables_left c.args.tables) (tables_left c.into_iter-table-iterator.result) c.args.self.now (ap tables_left c.into_iter-table-iterator.ensures.into_iter_gives) h good, λ start ps k. rw append-nil k);
}

pub loop-table-preserved : goal.loop-table-preserved
loop-table-preserved g c =
    let i = c.loop-table.invariant in
    let t = table_seen c.in-Some.table in
    record {
      leads = g.met.S.PacketSink.leads_trans c.args.sink.now c.loop-table.sink c.put_table.new.sink i.leads c.put_table.ensures.leads;
      well = well-trans _ _ _ i.well c.in-Ok.ensures.well;
      put = λ out h good.
          let k = i.put out h good in
          let goes = going-good c.args.change.now c.args.pid out (tables_left c.args.tables) (tables_left c.loop-table.table-iterator) c.loop-table.self k.0 k.1 t (tables_left c.next.new.self) c.in-Some.ensures.steps in
          let q = packets_out c.args.pid (onto out k.0) (section_out (change_of c.args.change.now) t ∷ []) in (
            k.0 ++ q,
            going-more c.args.change.now c.args.pid out (tables_left c.args.tables) (tables_left c.loop-table.table-iterator) c.loop-table.self k.0 k.1 t (tables_left c.next.new.self) c.in-Some.ensures.steps
                c.put_table.new.self c.put_table.ensures.pid (c.in-Ok.ensures.numbers (onto out k.0) k.1.numbers goes),
            λ start ps held. rw (← append_assoc ps k.0 q) (c.in-Ok.ensures.ok start (ps ++ k.0) (onto out k.0) (k.2 start ps held) k.1.numbers goes),
          );
      sent = λ out h good.
          let k = i.sent out h good in
          let later = tables_left c.next.new.self in
          let before = sections_going c.args.change.now c.args.pid out k.0 in
          let goes = gone-good (section_going c.args.change.now) HasBytes c.args.pid out (tables_left c.args.tables) (tables_left c.loop-table.table-iterator) c.loop-table.self k.0 k.1 t later c.in-Some.ensures.steps in (
            k.0 ++ t ∷ [],
            gone-more (section_going c.args.change.now) HasBytes c.args.pid out (tables_left c.args.tables) (tables_left c.loop-table.table-iterator) c.loop-table.self k.0 k.1 t later c.in-Some.ensures.steps c.put_table.new.self c.put_table.ensures.pid (c.in-Ok.ensures.sent_numbers (onto out before) k.1.numbers goes),
            λ start ps held. subst (λ l. g.S.PacketSink.holds c.put_table.new.sink start l) (gone-out (section_going c.args.change.now) HasBytes c.args.pid out (tables_left c.args.tables) (tables_left c.loop-table.table-iterator) c.loop-table.self k.0 k.1 t later c.in-Some.ensures.steps c.put_table.ensures.pid ps)
                (c.in-Ok.ensures.sent start (ps ++ before) (onto out before) (k.2 start ps held) k.1.numbers goes),
          );
    }

pub returns-in-Err-clause-leads : goal.returns-in-Err-clause-leads
returns-in-Err-clause-leads g c = g.met.S.PacketSink.leads_trans c.args.sink.now c.loop-table.sink c.put_table.new.sink c.loop-table.invariant.leads c.put_table.ensures.leads

pub returns-in-Err-clause-err : goal.returns-in-Err-clause-err
returns-in-Err-clause-err g c = λ start ps out held h good.
    let k = c.loop-table.invariant.put out h good in
    let t = table_seen c.in-Some.table in
    let so = section_out (change_of c.args.change.now) in
    let later = tables_left c.next.new.self in
    let goes = going-good c.args.change.now c.args.pid out (tables_left c.args.tables) (tables_left c.loop-table.table-iterator) c.loop-table.self k.0 k.1 t later c.in-Some.ensures.steps in
    let here = going-here c.args.change.now c.args.pid out (tables_left c.args.tables) (tables_left c.loop-table.table-iterator) c.loop-table.self k.0 k.1 t later c.in-Some.ensures.steps in
    let q = packets_out c.args.pid (onto out k.0) (so t ∷ []) in
    fails-behind (packets_out c.args.pid out (map so (tables_left c.args.tables))) k.0 q (packets_out c.args.pid (onto (onto out k.0) q) (map so later))
    (λ put p. g.S.PacketSink.fails c.put_table.new.sink start ((ps ++ k.0) ++ put) p c.in-Err.fault) (λ put p. g.S.PacketSink.fails c.put_table.new.sink start (ps ++ put) p c.in-Err.fault)
    (here ∙ ap (λ l. k.0 ++ l) (packets-more c.args.pid (onto out k.0) (so t) (map so later) c.put_table.ensures.pid))
    (λ put p f. rw (← append_assoc ps k.0 put) f)
    (c.in-Err.ensures.err start (ps ++ k.0) (onto out k.0) (k.2 start ps held) k.1.numbers goes)

pub returns-in-Err-clause-refused : goal.returns-in-Err-clause-refused
returns-in-Err-clause-refused g c = λ start ps out held h good.
    let k = c.loop-table.invariant.sent out h good in
    let t = table_seen c.in-Some.table in
    let later = tables_left c.next.new.self in
    let before = sections_going c.args.change.now c.args.pid out k.0 in
    let goes = gone-good (section_going c.args.change.now) HasBytes c.args.pid out (tables_left c.args.tables) (tables_left c.loop-table.table-iterator) c.loop-table.self k.0 k.1 t later c.in-Some.ensures.steps in
    let fails = g.S.PacketSink.fails c.put_table.new.sink start in
    record {
      whole = k.0;
      next = t;
      left = later;
      all = gone-here (section_going c.args.change.now) HasBytes c.args.pid out (tables_left c.args.tables) (tables_left c.loop-table.table-iterator) c.loop-table.self k.0 k.1 t later c.in-Some.ensures.steps;
      numbers = subst (λ o. HasPut o (onto out before)) (sym c.in-Err.ensures.refused) k.1.numbers;
      fault = front-moved (sections_going c.args.change.now c.args.pid (onto out before) (t ∷ [])) (λ put p. fails ((ps ++ before) ++ put) p c.in-Err.fault) (λ put p. fails (ps ++ (before ++ put)) p c.in-Err.fault)
          (λ put p f. rw (← append_assoc ps before put) f) (c.in-Err.ensures.sent_err start (ps ++ before) (onto out before) (k.2 start ps held) k.1.numbers goes);
    }

pub returns-in-Err-clause-blamed : goal.returns-in-Err-clause-blamed
returns-in-Err-clause-blamed g c = blamed-after _ _ _ _ _ c.loop-table.invariant.well c.in-Err.ensures.blamed

pub returns-clause-leads : goal.returns-clause-leads
returns-clause-leads g c = c.loop-table.invariant.leads

pub returns-clause-well : goal.returns-clause-well
returns-clause-well g c = c.loop-table.invariant.well

pub returns-clause-ok : goal.returns-clause-ok
returns-clause-ok g c = λ start ps out held h good.
    let k = c.loop-table.invariant.put out h good in
    let none : tables_left c.loop-table.table-iterator ≡ [] = c.in-None.ensures.steps.0 in
    let all = k.1.rest ∙ ap (λ ts. k.0 ++ packets_out c.args.pid (onto out k.0) (map (section_out (change_of c.args.change.now)) ts)) none ∙ append-nil k.0 in
    rw all (k.2 start ps held)

pub returns-clause-numbers : goal.returns-clause-numbers
returns-clause-numbers g c = λ out h good.
    let k = c.loop-table.invariant.put out h good in
    let none : tables_left c.loop-table.table-iterator ≡ [] = c.in-None.ensures.steps.0 in
    let all = k.1.rest ∙ ap (λ ts. k.0 ++ packets_out c.args.pid (onto out k.0) (map (section_out (change_of c.args.change.now)) ts)) none ∙ append-nil k.0 in
    rw all k.1.numbers

pub returns-clause-sent : goal.returns-clause-sent
returns-clause-sent g c = λ start ps out held h good.
    let k = c.loop-table.invariant.sent out h good in
    let none : tables_left c.loop-table.table-iterator ≡ [] = c.in-None.ensures.steps.0 in
    let all : tables_left c.args.tables ≡ k.0 = k.1.split ∙ ap (λ ts. k.0 ++ ts) none ∙ append-nil k.0 in
    subst (λ ts. g.S.PacketSink.holds c.loop-table.sink start (ps ++ sections_going c.args.change.now c.args.pid out ts)) (sym all) (k.2 start ps held)

pub returns-clause-sent_numbers : goal.returns-clause-sent_numbers
returns-clause-sent_numbers g c = λ out h good.
    let k = c.loop-table.invariant.sent out h good in
    let none : tables_left c.loop-table.table-iterator ≡ [] = c.in-None.ensures.steps.0 in
    let all : tables_left c.args.tables ≡ k.0 = k.1.split ∙ ap (λ ts. k.0 ++ ts) none ∙ append-nil k.0 in
    subst (λ ts. HasPut c.loop-table.self (onto out (sections_going c.args.change.now c.args.pid out ts))) (sym all) k.1.numbers
