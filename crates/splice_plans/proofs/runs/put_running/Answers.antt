use Rattle.std.proofs.Common.{◌≡◌, ◌<◌, ◌++◌, sym, subst, length, None, Some, OnOk, IfErr}
use Rattle.std.specs.Prelude.{position, slice_index_or}
use Rattle.std.proofs.lemmas.List.{append-nil, get_or_default}
use Rattle.ts_packet.specs.Numbering.{Counts}
use Rattle.unit_stream.specs.UnitPackets.{put_in}
use Rattle.outgoing_packets.specs.Numbers.{FrontFails}
use Rattle.event_table.specs.declared.table.Table.{Table}
use Rattle.event_table.specs.Standing.{Standing}
use Rattle.event_table.specs.Tables.{values_of}
use Rattle.ad_library.specs.Library.{held}
use Rattle.splice_plans.specs.declared.plan.Plan.{Plan}
use Rattle.splice_plans.specs.Turning.{part_of}
use Rattle.splice_plans.specs.Parts.{is_running, no_entry, reached_by}
use Rattle.splice_plans.proofs.RunLemmas.{nothing-runs, plans-stay, run-packets, run-plans}
use Rattle.splice_plans.proofs.runs.put_running.Goals as goal

pub returns-in_default-clause-ok : goal.returns-in_default-clause-ok
returns-in_default-clause-ok g c = λ of latest latest_behind es begin ps steps of_is s is h k.
    let none = subst (λ (t : Table Plan). None ≡ position (λ entry. is_running (part_of entry.value c.args.stream).stage) t.entries.items) c.table.ensures.same c.in_default.ensures.place in
    subst (λ qs. g.S.PacketSink.holds c.args.sink.now begin (ps ++ qs)) (sym (nothing-runs (held c.args.library.now) c.args.streams.now c.args.stream of c.args.events.now.obeyed.table latest latest_behind es s steps none))
    (rw (append-nil ps) h)

pub returns-in_default-clause-counted : goal.returns-in_default-clause-counted
returns-in_default-clause-counted g c = λ of latest latest_behind es steps of_is s is k.
    let none = subst (λ (t : Table Plan). None ≡ position (λ entry. is_running (part_of entry.value c.args.stream).stage) t.entries.items) c.table.ensures.same c.in_default.ensures.place in
    subst (λ qs. Counts c.args.counter.now (put_in qs steps)) (sym (nothing-runs (held c.args.library.now) c.args.streams.now c.args.stream of c.args.events.now.obeyed.table latest latest_behind es s steps none)) k

pub returns-in_default-clause-values : goal.returns-in_default-clause-values
returns-in_default-clause-values g c = λ of latest latest_behind es of_is s is.
    let none = subst (λ (t : Table Plan). None ≡ position (λ entry. is_running (part_of entry.value c.args.stream).stage) t.entries.items) c.table.ensures.same c.in_default.ensures.place in
    plans-stay (held c.args.library.now) c.args.streams.now c.args.stream of c.args.events.now.obeyed.table latest latest_behind es s none

pub returns-clause-ok : goal.returns-clause-ok
returns-clause-ok g c = λ of latest latest_behind es begin ps steps of_is s is h k.
    let t = c.args.events.now.obeyed.table in
    let some = subst (λ (t : Table Plan). Some c.in-Some.place ≡ position (λ entry. is_running (part_of entry.value c.args.stream).stage) t.entries.items) c.table.ensures.same c.in-Some.ensures.place in
    let below = subst (λ (t : Table Plan). c.in-Some.place < length t.entries.items) c.table.ensures.same c.in-Some.ensures.below in
    let far : (e : Standing) → e ≡ slice_index_or es c.in-Some.place e → c.reached_in-reached.result ≡ reached_by latest_behind e = λ e e_is. c.reached_in-reached.ensures latest latest_behind es e (rw c.table-2.ensures.same s) is e_is in
    subst (λ qs. OnOk c.put_part.result (g.S.PacketSink.holds c.put_part.new.sink begin (ps ++ qs)))
    (run-packets (held c.args.library.now) c.args.streams.now c.args.stream of t latest latest_behind es s c.in-Some.place some below c.reached_in-reached.result far steps)
    (c.put_part.ensures.ok (slice_index_or t.entries.items c.in-Some.place no_entry) of begin ps steps (get_or_default t.entries.items c.in-Some.place no_entry _ below) of_is h k)

pub returns-clause-counted : goal.returns-clause-counted
returns-clause-counted g c = λ of latest latest_behind es steps of_is s is k.
    let t = c.args.events.now.obeyed.table in
    let some = subst (λ (t : Table Plan). Some c.in-Some.place ≡ position (λ entry. is_running (part_of entry.value c.args.stream).stage) t.entries.items) c.table.ensures.same c.in-Some.ensures.place in
    let below = subst (λ (t : Table Plan). c.in-Some.place < length t.entries.items) c.table.ensures.same c.in-Some.ensures.below in
    let far : (e : Standing) → e ≡ slice_index_or es c.in-Some.place e → c.reached_in-reached.result ≡ reached_by latest_behind e = λ e e_is. c.reached_in-reached.ensures latest latest_behind es e (rw c.table-2.ensures.same s) is e_is in
    subst (λ qs. OnOk c.put_part.result (Counts c.put_part.new.counter (put_in qs steps)))
    (run-packets (held c.args.library.now) c.args.streams.now c.args.stream of t latest latest_behind es s c.in-Some.place some below c.reached_in-reached.result far steps)
    (c.put_part.ensures.counted (slice_index_or t.entries.items c.in-Some.place no_entry) of steps (get_or_default t.entries.items c.in-Some.place no_entry _ below) of_is k)

pub returns-clause-values : goal.returns-clause-values
returns-clause-values g c = λ of latest latest_behind es of_is s is.
    let t = c.args.events.now.obeyed.table in
    let some = subst (λ (t : Table Plan). Some c.in-Some.place ≡ position (λ entry. is_running (part_of entry.value c.args.stream).stage) t.entries.items) c.table.ensures.same c.in-Some.ensures.place in
    let below = subst (λ (t : Table Plan). c.in-Some.place < length t.entries.items) c.table.ensures.same c.in-Some.ensures.below in
    let far : (e : Standing) → e ≡ slice_index_or es c.in-Some.place e → c.reached_in-reached.result ≡ reached_by latest_behind e = λ e e_is. c.reached_in-reached.ensures latest latest_behind es e (rw c.table-2.ensures.same s) is e_is in
    subst (λ vs. OnOk c.put_part.result (values_of c.put_part.new.events.obeyed.table ≡ vs))
    (run-plans (held c.args.library.now) c.args.streams.now c.args.stream of t latest latest_behind es s c.in-Some.place some below c.reached_in-reached.result far)
    (c.put_part.ensures.values (slice_index_or t.entries.items c.in-Some.place no_entry) of (get_or_default t.entries.items c.in-Some.place no_entry _ below) of_is)

pub returns-clause-err : goal.returns-clause-err
returns-clause-err g c = λ of latest latest_behind es begin ps steps of_is s is h k.
    let t = c.args.events.now.obeyed.table in
    let some = subst (λ (t : Table Plan). Some c.in-Some.place ≡ position (λ entry. is_running (part_of entry.value c.args.stream).stage) t.entries.items) c.table.ensures.same c.in-Some.ensures.place in
    let below = subst (λ (t : Table Plan). c.in-Some.place < length t.entries.items) c.table.ensures.same c.in-Some.ensures.below in
    let far : (e : Standing) → e ≡ slice_index_or es c.in-Some.place e → c.reached_in-reached.result ≡ reached_by latest_behind e = λ e e_is. c.reached_in-reached.ensures latest latest_behind es e (rw c.table-2.ensures.same s) is e_is in
    subst (λ qs. IfErr c.put_part.result (λ f. FrontFails qs (λ put p. g.S.PacketSink.fails c.put_part.new.sink begin (ps ++ put) p f)))
    (run-packets (held c.args.library.now) c.args.streams.now c.args.stream of t latest latest_behind es s c.in-Some.place some below c.reached_in-reached.result far steps)
    (c.put_part.ensures.err (slice_index_or t.entries.items c.in-Some.place no_entry) of begin ps steps (get_or_default t.entries.items c.in-Some.place no_entry _ below) of_is h k)
