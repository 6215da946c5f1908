use Rattle.std.proofs.Common.{◌≡◌, [], ◌++◌, OnOk, IfErr, sym, subst, ◌∙◌}
use Rattle.std.specs.Prelude.{map, Some}
use Rattle.std.proofs.lemmas.List.{append-nil}
use Rattle.ts_packet.specs.Runs.{onto}
use Rattle.program_laws.specs.Writing.{packets_out, section_out}
use Rattle.program_follower.specs.Program.{tables}
use Rattle.program_follower.specs.Standing.{tables_left}
use Rattle.outgoing_packets.specs.declared.entry.CueEntry.TheVariants.{Added}
use Rattle.outgoing_packets.specs.Entries.{change_of, AllGoOut}
use Rattle.outgoing_packets.specs.Numbers.{HasPut, FrontFails}
use Rattle.ts_packet.proofs.Cases.{if_err_more}
use Rattle.injector.specs.Steps.{body_at}
use Rattle.injector.proofs.FeedLemmas.{tables-go, body-off, body-map}
use Rattle.injector.proofs.injector.Injector.put_body.Goals as goal
use Rattle.program_follower.specs.Purposes.{writing_cues}

pub returns-then-not-is_map-clause-err : goal.returns-then-not-is_map-clause-err
returns-then-not-is_map-clause-err g c = λ start ps puts cfg past held h b.
    let p = c.args.packet.now in
    let off = body-off cfg p past puts (sym b.map ∙ c.if-not-is_map.true) in
    if_err_more c.pass.result (λ f x. record { put = []; packet = p; left = []; all = off; fault = rw append-nil x }) (c.pass.ensures.err start ps held)

pub returns-clause-ok : goal.returns-clause-ok
returns-clause-ok g c = λ start ps puts cfg past held h b.
    let p = c.args.packet.now in
    let left : tables_left c.tables-tables.result ≡ tables (Some cfg.program) p past = c.tables-tables.ensures (writing_cues cfg) p past b.follower b.shows in
    let cue = c.args.self.now.cue_pid in
    let here = sym b.map ∙ c.if-not-is_map.false in
    let good : AllGoOut (Added cue) (tables_left c.tables-tables.result) = subst (λ ts. AllGoOut (Added cue) ts) (sym left) (subst (λ q. AllGoOut (Added q) (tables (Some cfg.program) p past)) (sym b.cue_pid) (tables-go cfg p past b.sound)) in
    let same : packets_out c.pid.result puts (map (section_out (change_of (Added cue))) (tables_left c.tables-tables.result)) ≡ body_at cfg p past puts = body-map cfg p past puts cue c.pid.result (tables_left c.tables-tables.result) here b.cue_pid c.pid.ensures left in
    subst (λ l. OnOk c.put_tables.result (g.S.PacketSink.holds c.put_tables.new.sink start (ps ++ l))) same (c.put_tables.ensures.ok start ps puts held h good)

pub returns-clause-numbers : goal.returns-clause-numbers
returns-clause-numbers g c = λ puts cfg past h b.
    let p = c.args.packet.now in
    let left : tables_left c.tables-tables.result ≡ tables (Some cfg.program) p past = c.tables-tables.ensures (writing_cues cfg) p past b.follower b.shows in
    let cue = c.args.self.now.cue_pid in
    let here = sym b.map ∙ c.if-not-is_map.false in
    let good : AllGoOut (Added cue) (tables_left c.tables-tables.result) = subst (λ ts. AllGoOut (Added cue) ts) (sym left) (subst (λ q. AllGoOut (Added q) (tables (Some cfg.program) p past)) (sym b.cue_pid) (tables-go cfg p past b.sound)) in
    let same : packets_out c.pid.result puts (map (section_out (change_of (Added cue))) (tables_left c.tables-tables.result)) ≡ body_at cfg p past puts = body-map cfg p past puts cue c.pid.result (tables_left c.tables-tables.result) here b.cue_pid c.pid.ensures left in
    subst (λ l. OnOk c.put_tables.result (HasPut c.put_tables.new.self (onto puts l))) same (c.put_tables.ensures.numbers puts h good)

pub returns-clause-err : goal.returns-clause-err
returns-clause-err g c = λ start ps puts cfg past held h b.
    let p = c.args.packet.now in
    let left : tables_left c.tables-tables.result ≡ tables (Some cfg.program) p past = c.tables-tables.ensures (writing_cues cfg) p past b.follower b.shows in
    let cue = c.args.self.now.cue_pid in
    let here = sym b.map ∙ c.if-not-is_map.false in
    let good : AllGoOut (Added cue) (tables_left c.tables-tables.result) = subst (λ ts. AllGoOut (Added cue) ts) (sym left) (subst (λ q. AllGoOut (Added q) (tables (Some cfg.program) p past)) (sym b.cue_pid) (tables-go cfg p past b.sound)) in
    let same : packets_out c.pid.result puts (map (section_out (change_of (Added cue))) (tables_left c.tables-tables.result)) ≡ body_at cfg p past puts = body-map cfg p past puts cue c.pid.result (tables_left c.tables-tables.result) here b.cue_pid c.pid.ensures left in
    subst (λ l. IfErr c.put_tables.result (λ f. FrontFails l (λ put q. g.S.PacketSink.fails c.put_tables.new.sink start (ps ++ put) q f))) same (c.put_tables.ensures.err start ps puts held h good)
