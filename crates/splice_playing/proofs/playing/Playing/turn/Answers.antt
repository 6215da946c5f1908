use Rattle.std.proofs.Common.{◌++◌, sym, ap, subst, ◌∙◌}
use Rattle.std.proofs.lemmas.List.{append-nil}
use Rattle.ts_packet.specs.Numbering.{Counts}
use Rattle.unit_stream.specs.UnitPackets.{put_in}
use Rattle.event_table.specs.Tables.{values_of}
use Rattle.armed_events.specs.declared.obeying.ArmedEvents.{ArmedEvents}
use Rattle.ad_library.specs.Library.{held}
use Rattle.splice_plans.specs.declared.plan.Plan.{Plan}
use Rattle.splice_plans.specs.Fronts.{is_left}
use Rattle.std.proofs.Common.{◌≡◌, true}
use Rattle.std.specs.List.{list_all}
use Rattle.event_table.specs.declared.table.Table.{Table}
use Rattle.splice_plans.specs.Waiting.{stays_in}
use Rattle.splice_plans.specs.Fronts.{IsNearTime, closing_packets, closed_plans}
use Rattle.splice_playing.proofs.StayLemmas.{closing-held, closed-held}
use Rattle.splice_playing.proofs.WaitingLemmas.{as-many-plans, closing-quiet, closed-quiet, left-quiet}
use Rattle.splice_playing.proofs.playing.Playing.turn.Goals as goal

pub returns-then-is_at_rest-clause-ok : goal.returns-then-is_at_rest-clause-ok
returns-then-is_at_rest-clause-ok g c = λ of latest es s begin ps steps of_is st near s_is h k.
    let old = c.args.self.now.events.obeyed.table in
    let rests = c.if-is_at_rest.true in
    let none = closing-quiet (held c.args.library.now) c.args.streams.now c.args.stream of latest c.args.time.now steps es (values_of old) (as-many-plans old latest es st) (c.is_at_rest.ensures.waits rests) (c.is_at_rest.ensures.ahead latest es st near rests) in
    subst (g.S.PacketSink.holds c.args.sink.now begin) (sym (ap (λ l. ps ++ l) none ∙ append-nil ps)) h

pub returns-then-is_at_rest-clause-closes : goal.returns-then-is_at_rest-clause-closes
returns-then-is_at_rest-clause-closes g c = record {
  counted = λ of latest es s t steps of_is st near s_is t_is k.
      let old = c.args.self.now.events.obeyed.table in
      let rests = c.if-is_at_rest.true in
      let none = closing-quiet (held c.args.library.now) c.args.streams.now c.args.stream of latest c.args.time.now steps es (values_of old) (as-many-plans old latest es st) (c.is_at_rest.ensures.waits rests) (c.is_at_rest.ensures.ahead latest es st near rests) in
      subst (λ qs. Counts t.counter (put_in qs steps)) (sym none) (subst (λ n. Counts n steps) (sym (c.stay.ensures.stays s t s_is t_is).counter) k);
  leaving = λ latest es s t st s_is t_is.
      let old = c.args.self.now.events.obeyed.table in
      (c.stay.ensures.stays s t s_is t_is).leaving
      ∙ left-quiet c.args.stream latest c.args.time.now s.is_leaving es (values_of old) (c.is_at_rest.ensures.waits c.if-is_at_rest.true)
      ∙ ap (λ (e : ArmedEvents Plan). is_left c.args.stream latest c.args.time.now s.is_leaving es (values_of e.obeyed.table)) (sym c.stay.ensures.frame.events);
  plans = λ of latest es of_is st near.
      let old = c.args.self.now.events.obeyed.table in
      let rests = c.if-is_at_rest.true in
      ap (λ (e : ArmedEvents Plan). values_of e.obeyed.table) c.stay.ensures.frame.events
      ∙ sym (closed-quiet (held c.args.library.now) c.args.streams.now c.args.stream of latest c.args.time.now es (values_of old) (as-many-plans old latest es st) (c.is_at_rest.ensures.waits rests) (c.is_at_rest.ensures.ahead latest es st near rests));
}

pub returns-then-all_stay-clause-ok : goal.returns-then-all_stay-clause-ok
returns-then-all_stay-clause-ok g c = λ of latest es s begin ps steps of_is st near s_is h k.
    let old = c.args.self.now.events.obeyed.table in
    let stay = subst (λ (t : Table Plan). list_all (stays_in c.args.stream c.in-Some.time) t.entries.items ≡ true) c.table.ensures.same (sym c.all_stay.ensures.value ∙ c.if-all_stay.true) in
    let none = closing-held c.args.stream c.in-Some.time (held c.args.library.now) c.args.streams.now of latest c.hold.ensures.below (subst (IsNearTime latest) c.in-Some.is near) old es st stay steps in
    let all = ap (λ t. closing_packets (held c.args.library.now) c.args.streams.now c.args.stream of latest t steps es (values_of old)) c.in-Some.is ∙ none in
    subst (g.S.PacketSink.holds c.args.sink.now begin) (sym (ap (λ l. ps ++ l) all ∙ append-nil ps)) h

pub returns-then-all_stay-clause-closes : goal.returns-then-all_stay-clause-closes
returns-then-all_stay-clause-closes g c = record {
  counted = λ of latest es s t steps of_is st near s_is t_is k.
      let old = c.args.self.now.events.obeyed.table in
      let stay = subst (λ (t : Table Plan). list_all (stays_in c.args.stream c.in-Some.time) t.entries.items ≡ true) c.table.ensures.same (sym c.all_stay.ensures.value ∙ c.if-all_stay.true) in
      let none = closing-held c.args.stream c.in-Some.time (held c.args.library.now) c.args.streams.now of latest c.hold.ensures.below (subst (IsNearTime latest) c.in-Some.is near) old es st stay steps in
      let all = ap (λ t. closing_packets (held c.args.library.now) c.args.streams.now c.args.stream of latest t steps es (values_of old)) c.in-Some.is ∙ none in
      subst (λ qs. Counts t.counter (put_in qs steps)) (sym all) (subst (λ n. Counts n steps) (sym (c.hold.ensures.holds latest es s t st s_is t_is).counter) k);
  leaving = λ latest es s t st s_is t_is.
      let old = c.args.self.now.events.obeyed.table in
      (c.hold.ensures.holds latest es s t st s_is t_is).leaving
      ∙ ap (λ u. is_left c.args.stream latest u s.is_leaving es (values_of old)) (sym c.in-Some.is)
      ∙ ap (λ (e : ArmedEvents Plan). is_left c.args.stream latest c.args.time.now s.is_leaving es (values_of e.obeyed.table)) (sym c.hold.ensures.frame.events);
  plans = λ of latest es of_is st near.
      let old = c.args.self.now.events.obeyed.table in
      let stay = subst (λ (t : Table Plan). list_all (stays_in c.args.stream c.in-Some.time) t.entries.items ≡ true) c.table.ensures.same (sym c.all_stay.ensures.value ∙ c.if-all_stay.true) in
      let same = closed-held c.args.stream c.in-Some.time (held c.args.library.now) c.args.streams.now of latest c.hold.ensures.below (subst (IsNearTime latest) c.in-Some.is near) old es st stay in
      ap (λ (e : ArmedEvents Plan). values_of e.obeyed.table) c.hold.ensures.frame.events
      ∙ sym (ap (λ t. closed_plans (held c.args.library.now) c.args.streams.now c.args.stream of latest t es (values_of old)) c.in-Some.is ∙ same);
}

pub returns-clause-closes : goal.returns-clause-closes
returns-clause-closes g c = let e = c.turn_each.ensures.closes in record { counted = e.counted; leaving = e.leaving; plans = e.plans }
