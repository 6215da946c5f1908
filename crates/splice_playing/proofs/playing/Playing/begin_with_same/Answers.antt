use Rattle.std.proofs.Common.{◌≡◌, ◌<◌, ◌%◌, ◌++◌, ◌∷◌, List, ℕ, length, refl, rules, sym, ap, subst, append_assoc, ◌∙◌}
use Rattle.std.specs.Prelude.{OnOk, IfSome, slice_index_or}
use Rattle.std.proofs.lemmas.Result.{on_ok_weaker, IfErr-weaker}
use Rattle.ts_packet.specs.Numbering.{Counts}
use Rattle.unit_stream.specs.UnitPackets.{put_in}
use Rattle.event_table.specs.Tables.{values_of}
use Rattle.event_table.proofs.TableLemmas.{same-stands}
use Rattle.armed_events.specs.declared.obeying.ArmedEvents.{ArmedEvents}
use Rattle.armed_events.specs.Arming.{standing}
use Rattle.ad_library.specs.Library.{held}
use Rattle.outgoing_packets.specs.Numbers.{FrontFails}
use Rattle.splice_plans.specs.declared.plan.Plan.{Plan}
use Rattle.splice_plans.specs.declared.stream.SwitchedStream.{SwitchedStream}
use Rattle.splice_playing.specs.Going.{LeavesNoneDue}
use Rattle.splice_plans.specs.Reporting.{ReportIs}
use Rattle.splice_plans.specs.Switching.{high_at, switched_at}
use Rattle.splice_plans.specs.Known.{behind_at, inside_at, counts_known, is_forgotten}
use Rattle.splice_plans.specs.Stepping.{front_by}
use Rattle.plan_laws.specs.Laws.{steps_known, closing_before, running_before, steps_between}
use Rattle.splice_playing.proofs.StreamLemmas.{some-there}
use Rattle.splice_playing.specs.Leaving.{OthersTaken}
use Rattle.splice_playing.proofs.LeavingLemmas.{begun-taken}
use Rattle.splice_playing.proofs.PacketLemmas.{none-high}
use Rattle.splice_playing.proofs.BeginLemmas.{on-both, fails-more, fails-behind, all-count, low, near, reached, few-listed, front-is, closing-is, closed-are, running-is, running-in-is, ran-are, front-none, plans-none, counts-none, counts-between, all-go, count-of, left-is, none-due, none-before}
use Rattle.splice_playing.specs.Courses.{course_of}
use Rattle.splice_playing.proofs.CourseLemmas.{unturned, ran-courses}
use Rattle.splice_playing.proofs.WaitingLemmas.{as-many-plans}
use Rattle.std.proofs.Common.{◌+◌, ◌^◌, ◌≤◌, map}
use Rattle.event_table.specs.Tables.{events_of}
use Rattle.splice_playing.proofs.playing.Playing.begin_with_same.Goals as goal

pub returns-in-Err-clause-err : goal.returns-in-Err-clause-err
returns-in-Err-clause-err g c = λ start ps k p past counted h f i.
    let filed = held c.args.library.now in
    let listed = c.args.streams.now in
    let n = c.args.stream in
    let old = c.args.self.now.events.obeyed.table in
    let es = standing k.cue_pid (high_at k) past in
    let stands = f.events.obeyed.table in
    let size : n % 8 < length c.args.self.now.streams = search rules in
    let of = some-there listed n c.requires in
    let s = some-there c.args.self.now.streams (n % 8) size in
    let counts = count-of k filed listed n c.args.time.now c.args.high.now p past i stands.within of.0 of.1 counted c.args.self.now.streams size f.streams s.0 s.1 in
    let steps = steps_known k past counted n in
    let around = near k filed listed n c.args.time.now c.args.high.now p past i in
    let closing = closing-is k filed listed n c.args.time.now c.args.high.now p past i stands.within of.0 of.1 counted (values_of old) f.plans in
    let F : List (List ℕ) → List ℕ → Type 0 = λ put q. g.S.PacketSink.fails c.turn.new.sink start (ps ++ put) q c.in-Err.fault in
    fails-more F (closing_before k filed n of.0 p past counted) (running_before k filed n of.0 p past counted) (front_by k counted p past) (front-is k filed listed n c.args.time.now c.args.high.now p past i stands.within of.0 of.1 counted)
    (subst (λ l. FrontFails l F) closing (c.in-Err.ensures.err of.0 (high_at k past) es s.0 start ps steps of.1 stands around s.1 h counts))

pub returns-in-None-clause-ok : goal.returns-in-None-clause-ok
returns-in-None-clause-ok g c = λ start ps k p past counted h f i.
    let filed = held c.args.library.now in
    let listed = c.args.streams.now in
    let n = c.args.stream in
    let old = c.args.self.now.events.obeyed.table in
    let es = standing k.cue_pid (high_at k) past in
    let stands = f.events.obeyed.table in
    let size : n % 8 < length c.args.self.now.streams = search rules in
    let of = some-there listed n c.requires in
    let s = some-there c.args.self.now.streams (n % 8) size in
    let counts = count-of k filed listed n c.args.time.now c.args.high.now p past i stands.within of.0 of.1 counted c.args.self.now.streams size f.streams s.0 s.1 in
    let steps = steps_known k past counted n in
    let around = near k filed listed n c.args.time.now c.args.high.now p past i in
    let closing = closing-is k filed listed n c.args.time.now c.args.high.now p past i stands.within of.0 of.1 counted (values_of old) f.plans in
    let none = none-high k filed listed n c.args.time.now c.args.high.now p past i c.in-None.is in
    subst (λ l. g.S.PacketSink.holds c.turn.new.sink start (ps ++ l)) (closing ∙ sym (front-none k filed listed n c.args.time.now c.args.high.now p past i stands.within of.0 of.1 counted none))
    (c.in-Ok.ensures.ok of.0 (high_at k past) es s.0 start ps steps of.1 stands around s.1 h counts)

pub returns-in-None-clause-plays : goal.returns-in-None-clause-plays
returns-in-None-clause-plays g c = λ k p past counted f i.
    let filed = held c.args.library.now in
    let listed = c.args.streams.now in
    let n = c.args.stream in
    let old = c.args.self.now.events.obeyed.table in
    let es = standing k.cue_pid (high_at k) past in
    let stands = f.events.obeyed.table in
    let size : n % 8 < length c.args.self.now.streams = search rules in
    let of = some-there listed n c.requires in
    let s = some-there c.args.self.now.streams (n % 8) size in
    let counts = count-of k filed listed n c.args.time.now c.args.high.now p past i stands.within of.0 of.1 counted c.args.self.now.streams size f.streams s.0 s.1 in
    let steps = steps_known k past counted n in
    let around = near k filed listed n c.args.time.now c.args.high.now p past i in
    let closing = closing-is k filed listed n c.args.time.now c.args.high.now p past i stands.within of.0 of.1 counted (values_of old) f.plans in
    let turn = c.in-Ok.ensures in
    let planned = turn.closes.plans of.0 (high_at k past) es of.1 stands around ∙ closed-are k filed listed n c.args.time.now c.args.high.now p past i stands.within of.0 of.1 counted (values_of old) f.plans in
    let between = counts-between k filed listed n c.args.time.now c.args.high.now p past i stands.within of.0 of.1 counted c.args.self.now.streams c.turn.new.self.streams turn.frame.others (all-count k past c.args.self.now.streams (inside_at k past (behind_at k past)) counted f.streams)
    (λ t t_is. subst (λ qs. Counts t.counter (put_in qs steps)) closing (turn.closes.counted of.0 (high_at k past) es s.0 t steps of.1 stands around s.1 t_is counts)) in
    let left : (t : SwitchedStream) → t ≡ slice_index_or c.turn.new.self.streams (n % 8) t → t.is_leaving ≡ inside_at k past (p ∷ behind_at k past) i.pid = λ t t_is. turn.closes.leaving (high_at k past) es s.0 t stands s.1 t_is ∙ left-is k filed listed n c.args.time.now c.args.high.now p past i stands.within of.0 of.1 counted c.args.self.now.streams size f.streams s.0 s.1 (values_of c.turn.new.self.events.obeyed.table) planned in
    let none = none-high k filed listed n c.args.time.now c.args.high.now p past i c.in-None.is in
    record {
      events = turn.frame.keeps.obeys k.cue_pid (high_at k) past f.events;
      plans = planned ∙ plans-none k filed listed n c.args.time.now c.args.high.now p past i stands.within of.0 of.1 counted none;
      streams = all-go k filed listed n c.args.time.now c.args.high.now p past i stands.within of.0 of.1 counted c.args.self.now.streams c.turn.new.self.streams turn.frame.others c.turn.new.self.streams f.streams left (λ j t. refl)
          (counts-none k filed listed n c.args.time.now c.args.high.now p past i stands.within of.0 of.1 counted none c.turn.new.self.streams between);
      leaving = subst (λ us. OthersTaken us c.turn.new.self.streams (switched_at k past) p (behind_at k past)) (sym turn.frame.units)
          (begun-taken (switched_at k past) n i.pid p (behind_at k past) (low k filed listed n c.args.time.now c.args.high.now p past i) i.of c.args.self.now.leaving c.args.self.now.streams c.turn.new.self.streams c.turn.new.self.streams i.begins_it turn.frame.others (λ j t. refl) f.leaving);
      forgotten = subst (λ r. ReportIs r (counts_known k past (is_forgotten (high_at k past)))) (sym turn.frame.forgotten) f.forgotten;
      all_out = λ out. none-due k filed listed n c.args.time.now c.args.high.now p past i stands.within of.0 of.1 counted;
    }

pub returns-in-Some-clause-ok : goal.returns-in-Some-clause-ok
returns-in-Some-clause-ok g c = λ start ps k p past counted h f i.
    let filed = held c.args.library.now in
    let listed = c.args.streams.now in
    let n = c.args.stream in
    let old = c.args.self.now.events.obeyed.table in
    let es = standing k.cue_pid (high_at k) past in
    let stands = f.events.obeyed.table in
    let size : n % 8 < length c.args.self.now.streams = search rules in
    let of = some-there listed n c.requires in
    let s = some-there c.args.self.now.streams (n % 8) size in
    let counts = count-of k filed listed n c.args.time.now c.args.high.now p past i stands.within of.0 of.1 counted c.args.self.now.streams size f.streams s.0 s.1 in
    let steps = steps_known k past counted n in
    let around = near k filed listed n c.args.time.now c.args.high.now p past i in
    let closing = closing-is k filed listed n c.args.time.now c.args.high.now p past i stands.within of.0 of.1 counted (values_of old) f.plans in
    let turn = c.in-Ok.ensures in
    let planned = turn.closes.plans of.0 (high_at k past) es of.1 stands around ∙ closed-are k filed listed n c.args.time.now c.args.high.now p past i stands.within of.0 of.1 counted (values_of old) f.plans in
    let between = counts-between k filed listed n c.args.time.now c.args.high.now p past i stands.within of.0 of.1 counted c.args.self.now.streams c.turn.new.self.streams turn.frame.others (all-count k past c.args.self.now.streams (inside_at k past (behind_at k past)) counted f.streams)
    (λ t t_is. subst (λ qs. Counts t.counter (put_in qs steps)) closing (turn.closes.counted of.0 (high_at k past) es s.0 t steps of.1 stands around s.1 t_is counts)) in
    let later = same-stands old c.turn.new.self.events.obeyed.table (high_at k past) es turn.frame.keeps.high turn.frame.keeps.events stands in
    let few = few-listed k filed listed n c.args.time.now c.args.high.now p past i in
    let reach = reached k filed listed n c.args.time.now c.args.high.now p past i in
    let vals = values_of c.turn.new.self.events.obeyed.table in
    let now = steps_between k filed n of.0 p past counted in
    let leaves : LeavesNoneDue c.turn.new.self filed listed (high_at k past) es = λ out.
    let same = subst (λ o. IfSome o (λ _. (o ≡ c.args.self.now.all_out) × (c.turn.new.self.events ≡ c.args.self.now.events))) out.1 turn.frame.out in
    none-before k filed listed n c.args.time.now c.args.high.now p past i stands.within of.0 of.1 counted vals (ap (λ (e : ArmedEvents Plan). values_of e.obeyed.table) same.1 ∙ f.plans)
    (f.all_out (out.0, sym same.0, out.2)) in
    let out = subst (λ l. g.S.PacketSink.holds c.turn.new.sink start (ps ++ l)) closing (turn.ok of.0 (high_at k past) es s.0 start ps steps of.1 stands around s.1 h counts) in
    subst (λ l. OnOk c.put_running_due.result (g.S.PacketSink.holds c.put_running_due.new.sink start l))
    (append_assoc ps (closing_before k filed n of.0 p past counted) _
    ∙ ap (λ l. ps ++ l) (ap (λ l. closing_before k filed n of.0 p past counted ++ l) (running-is k filed listed n c.args.time.now c.args.high.now p past i stands.within of.0 of.1 counted vals planned) ∙ sym (front-is k filed listed n c.args.time.now c.args.high.now p past i stands.within of.0 of.1 counted)))
    (c.put_running_due.ensures.ok (high_at k past) (high_at k (p ∷ past)) es start (ps ++ closing_before k filed n of.0 p past counted) now few later reach leaves out between)

pub returns-in-Some-clause-plays : goal.returns-in-Some-clause-plays
returns-in-Some-clause-plays g c = λ k p past counted f i.
    let filed = held c.args.library.now in
    let listed = c.args.streams.now in
    let n = c.args.stream in
    let old = c.args.self.now.events.obeyed.table in
    let es = standing k.cue_pid (high_at k) past in
    let stands = f.events.obeyed.table in
    let size : n % 8 < length c.args.self.now.streams = search rules in
    let of = some-there listed n c.requires in
    let s = some-there c.args.self.now.streams (n % 8) size in
    let counts = count-of k filed listed n c.args.time.now c.args.high.now p past i stands.within of.0 of.1 counted c.args.self.now.streams size f.streams s.0 s.1 in
    let steps = steps_known k past counted n in
    let around = near k filed listed n c.args.time.now c.args.high.now p past i in
    let closing = closing-is k filed listed n c.args.time.now c.args.high.now p past i stands.within of.0 of.1 counted (values_of old) f.plans in
    let turn = c.in-Ok.ensures in
    let planned = turn.closes.plans of.0 (high_at k past) es of.1 stands around ∙ closed-are k filed listed n c.args.time.now c.args.high.now p past i stands.within of.0 of.1 counted (values_of old) f.plans in
    let between = counts-between k filed listed n c.args.time.now c.args.high.now p past i stands.within of.0 of.1 counted c.args.self.now.streams c.turn.new.self.streams turn.frame.others (all-count k past c.args.self.now.streams (inside_at k past (behind_at k past)) counted f.streams)
    (λ t t_is. subst (λ qs. Counts t.counter (put_in qs steps)) closing (turn.closes.counted of.0 (high_at k past) es s.0 t steps of.1 stands around s.1 t_is counts)) in
    let left : (t : SwitchedStream) → t ≡ slice_index_or c.turn.new.self.streams (n % 8) t → t.is_leaving ≡ inside_at k past (p ∷ behind_at k past) i.pid = λ t t_is. turn.closes.leaving (high_at k past) es s.0 t stands s.1 t_is ∙ left-is k filed listed n c.args.time.now c.args.high.now p past i stands.within of.0 of.1 counted c.args.self.now.streams size f.streams s.0 s.1 (values_of c.turn.new.self.events.obeyed.table) planned in
    let later = same-stands old c.turn.new.self.events.obeyed.table (high_at k past) es turn.frame.keeps.high turn.frame.keeps.events stands in
    let few = few-listed k filed listed n c.args.time.now c.args.high.now p past i in
    let reach = reached k filed listed n c.args.time.now c.args.high.now p past i in
    let vals = values_of c.turn.new.self.events.obeyed.table in
    let now = steps_between k filed n of.0 p past counted in
    let leaves : LeavesNoneDue c.turn.new.self filed listed (high_at k past) es = λ out.
    let same = subst (λ o. IfSome o (λ _. (o ≡ c.args.self.now.all_out) × (c.turn.new.self.events ≡ c.args.self.now.events))) out.1 turn.frame.out in
    none-before k filed listed n c.args.time.now c.args.high.now p past i stands.within of.0 of.1 counted vals (ap (λ (e : ArmedEvents Plan). values_of e.obeyed.table) same.1 ∙ f.plans)
    (f.all_out (out.0, sym same.0, out.2)) in
    let put = c.put_running_due.ensures in
    on_ok_weaker c.put_running_due.result (λ x. record {
      events = put.frame.keeps.obeys k.cue_pid (high_at k) past (turn.frame.keeps.obeys k.cue_pid (high_at k) past f.events);
      plans = x.0 ∙ ran-are k filed listed n c.args.time.now c.args.high.now p past i stands.within of.0 of.1 counted vals planned;
      streams = all-go k filed listed n c.args.time.now c.args.high.now p past i stands.within of.0 of.1 counted c.args.self.now.streams c.turn.new.self.streams turn.frame.others c.put_running_due.new.self.streams f.streams left put.frame.leaving
          (λ j t l. subst (λ qs. Counts (slice_index_or c.put_running_due.new.self.streams j t).counter (put_in qs (now j))) (running-in-is k filed listed n c.args.time.now c.args.high.now p past i stands.within of.0 of.1 counted vals planned j) (x.1 j t l));
      leaving = subst (λ us. OthersTaken us c.put_running_due.new.self.streams (switched_at k past) p (behind_at k past)) (sym (put.frame.units ∙ turn.frame.units))
          (begun-taken (switched_at k past) n i.pid p (behind_at k past) (low k filed listed n c.args.time.now c.args.high.now p past i) i.of c.args.self.now.leaving c.args.self.now.streams c.turn.new.self.streams c.put_running_due.new.self.streams i.begins_it turn.frame.others put.frame.leaving f.leaving);
      forgotten = subst (λ r. ReportIs r (counts_known k past (is_forgotten (high_at k past)))) (sym (put.frame.forgotten ∙ turn.frame.forgotten)) f.forgotten;
      all_out = λ out. none-due k filed listed n c.args.time.now c.args.high.now p past i stands.within of.0 of.1 counted;
    }) (on-both _ _ c.put_running_due.result (put.runs.plans (high_at k past) (high_at k (p ∷ past)) es later reach leaves) (put.runs.counted (high_at k past) (high_at k (p ∷ past)) es now few later reach leaves between))

pub returns-in-Some-clause-err : goal.returns-in-Some-clause-err
returns-in-Some-clause-err g c = λ start ps k p past counted h f i.
    let filed = held c.args.library.now in
    let listed = c.args.streams.now in
    let n = c.args.stream in
    let old = c.args.self.now.events.obeyed.table in
    let es = standing k.cue_pid (high_at k) past in
    let stands = f.events.obeyed.table in
    let size : n % 8 < length c.args.self.now.streams = search rules in
    let of = some-there listed n c.requires in
    let s = some-there c.args.self.now.streams (n % 8) size in
    let counts = count-of k filed listed n c.args.time.now c.args.high.now p past i stands.within of.0 of.1 counted c.args.self.now.streams size f.streams s.0 s.1 in
    let steps = steps_known k past counted n in
    let around = near k filed listed n c.args.time.now c.args.high.now p past i in
    let closing = closing-is k filed listed n c.args.time.now c.args.high.now p past i stands.within of.0 of.1 counted (values_of old) f.plans in
    let turn = c.in-Ok.ensures in
    let planned = turn.closes.plans of.0 (high_at k past) es of.1 stands around ∙ closed-are k filed listed n c.args.time.now c.args.high.now p past i stands.within of.0 of.1 counted (values_of old) f.plans in
    let between = counts-between k filed listed n c.args.time.now c.args.high.now p past i stands.within of.0 of.1 counted c.args.self.now.streams c.turn.new.self.streams turn.frame.others (all-count k past c.args.self.now.streams (inside_at k past (behind_at k past)) counted f.streams)
    (λ t t_is. subst (λ qs. Counts t.counter (put_in qs steps)) closing (turn.closes.counted of.0 (high_at k past) es s.0 t steps of.1 stands around s.1 t_is counts)) in
    let later = same-stands old c.turn.new.self.events.obeyed.table (high_at k past) es turn.frame.keeps.high turn.frame.keeps.events stands in
    let few = few-listed k filed listed n c.args.time.now c.args.high.now p past i in
    let reach = reached k filed listed n c.args.time.now c.args.high.now p past i in
    let vals = values_of c.turn.new.self.events.obeyed.table in
    let now = steps_between k filed n of.0 p past counted in
    let out = subst (λ l. g.S.PacketSink.holds c.turn.new.sink start (ps ++ l)) closing (turn.ok of.0 (high_at k past) es s.0 start ps steps of.1 stands around s.1 h counts) in
    let closed = closing_before k filed n of.0 p past counted in
    IfErr-weaker c.put_running_due.result _ _
    (λ fault x. fails-behind (λ put q. g.S.PacketSink.fails c.put_running_due.new.sink start ((ps ++ closed) ++ put) q fault) (λ put q. g.S.PacketSink.fails c.put_running_due.new.sink start (ps ++ put) q fault)
    closed (running_before k filed n of.0 p past counted) (front_by k counted p past) (front-is k filed listed n c.args.time.now c.args.high.now p past i stands.within of.0 of.1 counted)
    (λ put q y. subst (λ l. g.S.PacketSink.fails c.put_running_due.new.sink start l q fault) (append_assoc ps closed put) y)
    (subst (λ l. FrontFails l (λ put q. g.S.PacketSink.fails c.put_running_due.new.sink start ((ps ++ closed) ++ put) q fault)) (running-is k filed listed n c.args.time.now c.args.high.now p past i stands.within of.0 of.1 counted vals planned) x))
    (c.put_running_due.ensures.err (high_at k past) (high_at k (p ∷ past)) es start (ps ++ closed) now few later reach tt out between)

pub returns-in-None-clause-turns : goal.returns-in-None-clause-turns
returns-in-None-clause-turns g c = λ k p past counted f i.
    let turn = c.in-Ok.ensures in
    record {
      rises = turn.frame.rises;
      unturned = λ same below. unturned c.args.self.now c.turn.new.self (turn.frame.still same below) turn.frame.forgotten;
    }

pub returns-in-Some-clause-turns : goal.returns-in-Some-clause-turns
returns-in-Some-clause-turns g c = λ k p past counted f i.
    let filed = held c.args.library.now in
    let listed = c.args.streams.now in
    let n = c.args.stream in
    let old = c.args.self.now.events.obeyed.table in
    let es = standing k.cue_pid (high_at k) past in
    let stands = f.events.obeyed.table in
    let of = some-there listed n c.requires in
    let around = near k filed listed n c.args.time.now c.args.high.now p past i in
    let turn = c.in-Ok.ensures in
    let planned = turn.closes.plans of.0 (high_at k past) es of.1 stands around ∙ closed-are k filed listed n c.args.time.now c.args.high.now p past i stands.within of.0 of.1 counted (values_of old) f.plans in
    let later = same-stands old c.turn.new.self.events.obeyed.table (high_at k past) es turn.frame.keeps.high turn.frame.keeps.events stands in
    let reach = reached k filed listed n c.args.time.now c.args.high.now p past i in
    let vals = values_of c.turn.new.self.events.obeyed.table in
    let leaves : LeavesNoneDue c.turn.new.self filed listed (high_at k past) es = λ out.
    let same = subst (λ o. IfSome o (λ _. (o ≡ c.args.self.now.all_out) × (c.turn.new.self.events ≡ c.args.self.now.events))) out.1 turn.frame.out in
    none-before k filed listed n c.args.time.now c.args.high.now p past i stands.within of.0 of.1 counted vals (ap (λ (e : ArmedEvents Plan). values_of e.obeyed.table) same.1 ∙ f.plans)
    (f.all_out (out.0, sym same.0, out.2)) in
    let running = c.put_running_due.ensures in
    on_ok_weaker c.put_running_due.result
    (λ ran. record {
      rises = subst (λ (m : ℕ). c.args.self.now.turns ≤ m) (sym running.frame.turns) turn.frame.rises;
      unturned = λ same below.
          let still = turn.frame.still (sym running.frame.turns ∙ same) (subst (λ (m : ℕ). m + 1 < 2 ^ 64) running.frame.turns below) in
          record {
            events = running.frame.keeps.events ∙ ap (λ (e : ArmedEvents Plan). events_of e.obeyed.table) still;
            courses = ap (λ (l : List Plan). map course_of l) ran
                ∙ ran-courses filed listed (high_at k (p ∷ past)) es vals 0 listed (as-many-plans c.turn.new.self.events.obeyed.table (high_at k past) es later)
                ∙ ap (λ (e : ArmedEvents Plan). map course_of (values_of e.obeyed.table)) still;
            forgotten = running.frame.forgotten ∙ turn.frame.forgotten;
          };
    })
    (running.runs.plans (high_at k past) (high_at k (p ∷ past)) es later reach leaves)
