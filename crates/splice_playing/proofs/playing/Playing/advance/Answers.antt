use Rattle.std.proofs.Common.{◌∷◌, ◌<◌, ◌^◌, sym, ap, subst, ◌∙◌, arith}
use Rattle.std.specs.Prelude.{option_map}
use Rattle.std.proofs.lemmas.Bool.{true≢false}
use Rattle.std.proofs.lemmas.Option.{none-some}
use Rattle.pes_time.specs.Line.{ring_of}
use Rattle.event_table.specs.declared.table.Table.{Table}
use Rattle.event_table.specs.Rings.{CanAdvance}
use Rattle.event_table.specs.Standing.{IsTimeAt}
use Rattle.event_table.specs.Tables.{high_time_of, values_of}
use Rattle.armed_events.specs.Arming.{standing}
use Rattle.ad_library.specs.Library.{held}
use Rattle.splice_plans.specs.declared.plan.Plan.{Plan}
use Rattle.splice_plans.specs.Parts.{beside}
use Rattle.splice_plans.specs.Reporting.{ReportIs, with_counted, is_out_at}
use Rattle.splice_plans.specs.Switching.{high_at}
use Rattle.splice_plans.specs.Known.{adverts_at, plans_at, behind_at, counts_known, is_forgotten}
use Rattle.splice_playing.proofs.PacketLemmas.{passes, none-high, some-high, adverts-are, values-pass, streams-pass, taken-pass, stays-for, standing-still, none-due-pass}
use Rattle.splice_playing.proofs.WaitingLemmas.{all-still, counts-quiet, kept-past, kept-there, idle-stays}
use Rattle.splice_playing.specs.Resting.{keeps_all}
use Rattle.splice_playing.proofs.UntilLemmas.{near-advance, past-later, rest-goes-on, rest-there}
use Rattle.splice_playing.proofs.playing.Playing.advance.Goals as goal

pub invariant_of-self-clause-rested : goal.invariant_of-self-clause-rested
invariant_of-self-clause-rested c =
    let fits : c.in-Some.high < 2 ^ 33 = let below = c.ticks-ticks.ensures.below in let value = c.ticks-ticks.ensures.value in omega (arith, below, value) in
    let e = c.advance_keeping_all.ensures in
    let table = c.args.self.now.events.obeyed.table in
    rest-goes-on table c.advance_keeping_all.new.self.obeyed.table c.args.self.now.rest c.in-Some.high c.is_at_rest.ensures.fits fits
    (subst (λ (t : Table Plan). CanAdvance (high_time_of t) c.in-Some.high) c.table.ensures.same (c.can_advance.ensures.0 c.if-not-can_advance.false))
    (sym c.is_at_rest.ensures.value ∙ c.if-is_at_rest.true) e.entries e.high c.args.self.now.rested

pub invariant_of-self-2-clause-rested : goal.invariant_of-self-2-clause-rested
invariant_of-self-2-clause-rested c = rest-there c.advance.new.self.obeyed.table c.table-4.result.now c.first_rest-self.result c.first_rest-self.ensures c.table-4.ensures.same

pub invariant_of-self-clause-idle : goal.invariant_of-self-clause-idle
invariant_of-self-clause-idle c = idle-stays c.args.self.now.events.obeyed.table c.advance_keeping_all.new.self.obeyed.table c.args.self.now.may_run c.advance_keeping_all.ensures.entries c.args.self.now.idle

pub returns-in_default-clause-plays : goal.returns-in_default-clause-plays
returns-in_default-clause-plays c = λ k number time p past steps b i.
    let filed = held c.args.library.now in
    let none = none-high k filed c.args.streams.now number time c.args.high.now p past i c.in_default.is in
    let before = (passes k filed c.args.streams.now number time c.args.high.now p past i).unheard none in
    stays-for k filed c.args.streams.now number time c.args.high.now p past i c.args.self.now (none ∙ sym before) steps b

pub returns-then-not-can_advance-clause-plays : goal.returns-then-not-can_advance-clause-plays
returns-then-not-can_advance-clause-plays c = λ k number time p past steps b i.
    let filed = held c.args.library.now in
    let listed = c.args.streams.now in
    let later = some-high k filed listed number time c.args.high.now p past i c.in-Some.high c.in-Some.is in
    let may = (passes k filed listed number time c.args.high.now p past i).higher later.0 later.1 in
    let stands = c.table.ensures.stands k.cue_pid (high_at k) past b.events in
    let can = subst (λ h. CanAdvance h c.in-Some.high) (sym stands.high) (subst (λ r. CanAdvance (option_map ring_of (high_at k past)) r) later.2 may.can) in
    absurd (true≢false (sym (c.can_advance.ensures.1 can) ∙ c.if-not-can_advance.true))

pub returns-then-is_at_rest-clause-plays : goal.returns-then-is_at_rest-clause-plays
returns-then-is_at_rest-clause-plays c = λ k number time p past steps b i.
    let filed = held c.args.library.now in
    let listed = c.args.streams.now in
    let later = some-high k filed listed number time c.args.high.now p past i c.in-Some.high c.in-Some.is in
    let pass = passes k filed listed number time c.args.high.now p past i in
    let may = pass.higher later.0 later.1 in
    let at = subst (λ r. IsTimeAt (high_at k past) r later.0) later.2 may.time in
    let can = subst (λ r. CanAdvance (option_map ring_of (high_at k past)) r) later.2 may.can in
    let es = standing k.cue_pid (high_at k) past in
    let stands = b.events.obeyed.table in
    let ahead = c.is_at_rest.ensures.ahead (high_at k past) es stands (near-advance (high_at k past) c.in-Some.high can) c.if-is_at_rest.true in
    let behind = past-later (high_at k past) c.in-Some.high later.0 es stands.within at ahead in
    let kept = kept-past later.0 es behind in
    let all = all-still later.0 es kept in
    let can' = subst (λ (t : Table Plan). CanAdvance (high_time_of t) c.in-Some.high) c.table.ensures.same (c.can_advance.ensures.0 c.if-not-can_advance.false) in
    record {
      events = c.advance_keeping_all.ensures.obeys k.cue_pid (high_at k) p past later.0 i.cue at later.1 all b.events;
      plans = values-pass k filed listed number time c.args.high.now p past i (values_of c.advance_keeping_all.new.self.obeyed.table) (standing k.cue_pid (high_at k) (p ∷ past))
          (c.advance_keeping_all.ensures.values k.cue_pid (high_at k) p past later.0 (plans_at k past (p ∷ behind_at k past)) i.cue at later.1 all b.events b.plans);
      streams = streams-pass k filed listed number time c.args.high.now p past i c.args.self.now.streams steps b.streams;
      leaving = taken-pass k filed listed number time c.args.high.now p past i c.args.self.now.leaving c.args.self.now.streams b.leaving;
      forgotten = subst (ReportIs c.args.self.now.forgotten)
          (sym (pass.counted later.0 later.1 ∙ counts-quiet later.0 (adverts_at k past) es _ (counts_known k past (is_forgotten (high_at k past))) kept)) b.forgotten;
      all_out = λ out. none-due-pass k filed listed number time c.args.high.now p past i
          (standing-still k filed listed number time c.args.high.now p past i c.args.self.now.events.obeyed.table c.in-Some.high later.0 stands can' at later.1 all) (b.all_out out);
    }

pub returns-then-keeps_all-clause-plays : goal.returns-then-keeps_all-clause-plays
returns-then-keeps_all-clause-plays c = λ k number time p past steps b i.
    let filed = held c.args.library.now in
    let listed = c.args.streams.now in
    let later = some-high k filed listed number time c.args.high.now p past i c.in-Some.high c.in-Some.is in
    let pass = passes k filed listed number time c.args.high.now p past i in
    let may = pass.higher later.0 later.1 in
    let at = subst (λ r. IsTimeAt (high_at k past) r later.0) later.2 may.time in
    let can = subst (λ r. CanAdvance (option_map ring_of (high_at k past)) r) later.2 may.can in
    let fits : c.in-Some.high < 2 ^ 33 = let below = c.ticks-ticks-then-keeps_all.ensures.below in let value = c.ticks-ticks-then-keeps_all.ensures.value in omega (arith, below, value) in
    let es = standing k.cue_pid (high_at k) past in
    let stands = b.events.obeyed.table in
    let kept = kept-there c.args.self.now.events.obeyed.table (high_at k past) c.in-Some.high later.0 es fits stands (subst (λ (t : Table Plan). CanAdvance (high_time_of t) c.in-Some.high) c.table.ensures.same (c.can_advance.ensures.0 c.if-not-can_advance.false)) at (sym (c.keeps_all.ensures ∙ ap (λ (t : Table Plan). keeps_all t c.in-Some.high) c.table-2.ensures.same) ∙ c.if-keeps_all.true) in
    let all = all-still later.0 es kept in
    let can' = subst (λ (t : Table Plan). CanAdvance (high_time_of t) c.in-Some.high) c.table.ensures.same (c.can_advance.ensures.0 c.if-not-can_advance.false) in
    record {
      events = c.advance_keeping_all-then-keeps_all.ensures.obeys k.cue_pid (high_at k) p past later.0 i.cue at later.1 all b.events;
      plans = values-pass k filed listed number time c.args.high.now p past i (values_of c.advance_keeping_all-then-keeps_all.new.self.obeyed.table) (standing k.cue_pid (high_at k) (p ∷ past))
          (c.advance_keeping_all-then-keeps_all.ensures.values k.cue_pid (high_at k) p past later.0 (plans_at k past (p ∷ behind_at k past)) i.cue at later.1 all b.events b.plans);
      streams = streams-pass k filed listed number time c.args.high.now p past i c.args.self.now.streams steps b.streams;
      leaving = taken-pass k filed listed number time c.args.high.now p past i c.args.self.now.leaving c.args.self.now.streams b.leaving;
      forgotten = subst (ReportIs c.args.self.now.forgotten)
          (sym (pass.counted later.0 later.1 ∙ counts-quiet later.0 (adverts_at k past) es _ (counts_known k past (is_forgotten (high_at k past))) kept)) b.forgotten;
      all_out = λ out. none-due-pass k filed listed number time c.args.high.now p past i
          (standing-still k filed listed number time c.args.high.now p past i c.args.self.now.events.obeyed.table c.in-Some.high later.0 stands can' at later.1 all) (b.all_out out);
    }

pub returns-clause-plays : goal.returns-clause-plays
returns-clause-plays c = λ k number time p past steps b i.
    let filed = held c.args.library.now in
    let listed = c.args.streams.now in
    let later = some-high k filed listed number time c.args.high.now p past i c.in-Some.high c.in-Some.is in
    let pass = passes k filed listed number time c.args.high.now p past i in
    let may = pass.higher later.0 later.1 in
    let at = subst (λ r. IsTimeAt (high_at k past) r later.0) later.2 may.time in
    let stands = c.table-3.ensures.stands k.cue_pid (high_at k) past b.events in
    let can = subst (λ h. CanAdvance h c.in-Some.high) (sym stands.high) (subst (λ r. CanAdvance (option_map ring_of (high_at k past)) r) later.2 may.can) in
    let es = standing k.cue_pid (high_at k) past in
    let counts = counts_known k past (is_forgotten (high_at k past)) in
    let told = c.with_forgotten-self.ensures (high_at k past) later.0 es counts stands can at b.forgotten in
    let mine = subst (λ a. ReportIs c.with_forgotten-self.result (with_counted (is_out_at later.0) a (beside es (values_of c.table-3.result.now)) counts))
    (adverts-are k filed listed number time c.args.high.now p past i) told in
    let counted = subst (λ vs. ReportIs c.with_forgotten-self.result (with_counted (is_out_at later.0) (adverts_at k past) (beside es vs) counts))
    (ap (λ (t : Table Plan). values_of t) c.table-3.ensures.same ∙ b.plans) mine in
    record {
      events = c.advance.ensures.obeys k.cue_pid (high_at k) p past later.0 i.cue at later.1 b.events;
      plans = values-pass k filed listed number time c.args.high.now p past i (values_of c.advance.new.self.obeyed.table) (standing k.cue_pid (high_at k) (p ∷ past))
          (c.advance.ensures.values k.cue_pid (high_at k) p past later.0 (plans_at k past (p ∷ behind_at k past)) i.cue at later.1 b.events b.plans);
      streams = streams-pass k filed listed number time c.args.high.now p past i c.args.self.now.streams steps b.streams;
      leaving = taken-pass k filed listed number time c.args.high.now p past i c.args.self.now.leaving c.args.self.now.streams b.leaving;
      forgotten = subst (ReportIs c.with_forgotten-self.result) (sym (pass.counted later.0 later.1)) counted;
      all_out = λ out. absurd (none-some out.0 out.1);
    }
