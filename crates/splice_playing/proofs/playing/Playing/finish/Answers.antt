use Rattle.std.proofs.Common.{◌++◌, None, length, sym, ap, subst, ◌∙◌}
use Rattle.std.specs.Prelude.{OnOk, IfErr}
use Rattle.std.proofs.lemmas.List.{length-map}
use Rattle.std.proofs.lemmas.Result.{on_ok_weaker}
use Rattle.event_table.specs.Standing.{Standing}
use Rattle.event_table.specs.Tables.{values_of}
use Rattle.armed_events.specs.Arming.{standing}
use Rattle.ad_library.specs.Library.{held}
use Rattle.outgoing_packets.specs.Numbers.{FrontFails}
use Rattle.splice_plans.specs.Fronts.{all_running}
use Rattle.splice_plans.specs.Reporting.{ReportIs}
use Rattle.splice_plans.specs.Switching.{high_at}
use Rattle.splice_plans.specs.Known.{plans_at, behind_at, inside_at, counts_known, is_forgotten}
use Rattle.plan_laws.specs.Laws.{steps_known}
use Rattle.known_laws.proofs.ReportLemmas.{plans_tell_crossings}
use Rattle.splice_playing.proofs.BeginLemmas.{all-count}
use Rattle.splice_playing.proofs.RestLemmas.{crossings, crossings-stay, few-at-end, rest-is}
use Rattle.splice_playing.proofs.playing.Playing.finish.Goals as goal

pub returns-clause-ok : goal.returns-clause-ok
returns-clause-ok g c = λ start ps k past counted h f e.
    let filed = held c.args.library.now in
    let listed = c.args.streams.now in
    let es = standing k.cue_pid (high_at k) past in
    let steps = steps_known k past counted in
    let counts = all-count k past c.args.self.now.streams (inside_at k past (behind_at k past)) counted f.streams in
    subst (λ l. OnOk c.put_running.result (g.S.PacketSink.holds c.put_running.new.sink start (ps ++ l)))
    (ap (λ vs. all_running filed listed None es steps vs 0 listed) f.plans ∙ rest-is k filed listed past e counted)
    (c.put_running.ensures.ok (high_at k past) None es start ps steps (few-at-end k filed listed past e) f.events.obeyed.table tt tt h counts)

pub returns-clause-reports : goal.returns-clause-reports
returns-clause-reports g c = λ k past counted f e.
    let filed = held c.args.library.now in
    let listed = c.args.streams.now in
    let es = standing k.cue_pid (high_at k) past in
    let plans = values_of c.args.self.now.events.obeyed.table in
    let put = c.put_running.ensures in
    let same = sym (ap length f.plans ∙ length-map es (λ (x : Standing). plans_at k past (behind_at k past) x.start)) in
    on_ok_weaker c.put_running.result (λ ran. record {
      events = put.frame.keeps.obeys k.cue_pid (high_at k) past f.events;
      crossed = ap crossings ran ∙ crossings-stay filed listed None es plans 0 listed same ∙ ap crossings f.plans ∙ plans_tell_crossings k past;
      forgotten = subst (λ r. ReportIs r (counts_known k past (is_forgotten (high_at k past)))) (sym put.frame.forgotten) f.forgotten;
    }) (put.runs.plans (high_at k past) None es f.events.obeyed.table tt tt)

pub returns-clause-err : goal.returns-clause-err
returns-clause-err g c = λ start ps k past counted h f e.
    let filed = held c.args.library.now in
    let listed = c.args.streams.now in
    let es = standing k.cue_pid (high_at k) past in
    let steps = steps_known k past counted in
    let counts = all-count k past c.args.self.now.streams (inside_at k past (behind_at k past)) counted f.streams in
    subst (λ l. IfErr c.put_running.result (λ fault. FrontFails l (λ put q. g.S.PacketSink.fails c.put_running.new.sink start (ps ++ put) q fault)))
    (ap (λ vs. all_running filed listed None es steps vs 0 listed) f.plans ∙ rest-is k filed listed past e counted)
    (c.put_running.ensures.err (high_at k past) None es start ps steps (few-at-end k filed listed past e) f.events.obeyed.table tt tt h counts)
