use Rattle.std.proofs.Common.{◌≡◌, [], ◌∷◌, true, false, not, sym, ap, ◌∙◌, refl, subst, None}
use Rattle.ts_packet.specs.Fields.{on}
use Rattle.ts_packet.specs.Numbering.{Counts}
use Rattle.pes_time.specs.Stamps.{stamp_of}
use Rattle.unit_stream.specs.Times.{high, unit_time, stamp, splits, raised, timed}
use Rattle.unit_stream.specs.Faults.{scrambled_one, start_fault}
use Rattle.unit_stream.specs.Fates.{steps}
use Rattle.ts_packet.proofs.FieldLemmas.{off_payload}
use Rattle.unit_cut.specs.Standing.{BeginsWith, TimingFor, goes_by}
use Rattle.unit_cut.proofs.Counted.{numbered_is}
use Rattle.unit_stream.proofs.ReadingLemmas.{error_off, passes, kept_became}
use Rattle.unit_stream.proofs.ClockLemmas.{stamp_is, splits_is, begins_off, begins_not, begins_repeat, fault_scrambled}
use Rattle.unit_stream.proofs.PieceLemmas.{repeated}
use Rattle.unit_cut.proofs.CutterLemmas.{scrambled_is, scrambled_off, fault_still, fault_start, timing_same, timing_start, cut_is, cut_off, begins_with, events_settled, events_repeated, settled}
use Rattle.unit_cut.proofs.cutter.Cutter.feed.Goals as goal

-- ---- of another PID, or marked

pub returns-then-not-is_on-clause-answers : goal.returns-then-not-is_on-clause-answers
returns-then-not-is_on-clause-answers c = λ k past b h.
    let p = c.args.packet.now in
    let o : on k.pid p ≡ false = ap (λ n. on n p) (sym h.same) ∙ sym c.is_on.ensures ∙ c.if-not-is_on.true in
    let y = off_payload k.pid p o in
    (fault_still k.pid p past (scrambled_off k.pid p y) (begins_off k.pid p past y), cut_off k p past y, simp o refl)

pub returns-then-not-is_on-clause-stands : goal.returns-then-not-is_on-clause-stands
returns-then-not-is_on-clause-stands c = λ k past b h.
    let p = c.args.packet.now in
    let o : on k.pid p ≡ false = ap (λ n. on n p) (sym h.same) ∙ sym c.is_on.ensures ∙ c.if-not-is_on.true in
    let y = off_payload k.pid p o in
    record { same = h.same; units = passes _ k.pid p _ past y h.units; timing = timing_same _ k p past (begins_off k.pid p past y) h.timing; counter = simp (y, o) h.counter }

-- ---- scrambled

pub returns-then-has_scrambled_payload-clause-answers : goal.returns-then-has_scrambled_payload-clause-answers
returns-then-has_scrambled_payload-clause-answers c = λ k past b h.
    let p = c.args.packet.now in
    let o : on k.pid p ≡ true = ap (λ n. on n p) (sym h.same) ∙ sym c.is_on.ensures ∙ c.if-not-is_on.false in
    fault_scrambled (k.pid ∷ []) p past (scrambled_is k.pid p true o (sym c.has_scrambled_payload.ensures ∙ c.if-has_scrambled_payload.true))

-- ---- a unit begins

pub returns-in-Err-clause-answers : goal.returns-in-Err-clause-answers
returns-in-Err-clause-answers c = λ k past b h.
    let p = c.args.packet.now in
    let o : on k.pid p ≡ true = ap (λ n. on n p) (sym h.same) ∙ sym c.is_on.ensures ∙ c.if-not-is_on.false in
    let clear : scrambled_one (k.pid ∷ []) p ≡ false = scrambled_is k.pid p false o (sym c.has_scrambled_payload.ensures ∙ c.if-has_scrambled_payload.false) in
    let brings = c.in-Start.ensures.brings k.pid past h.units in
    let st = stamp_is p c.in-Start.payload.now brings.3 in
    let sp = splits_is p c.in-Start.payload.now brings.3 in
    let placed : BeginsWith k (high (k.pid ∷ []) past) (stamp_of c.in-Start.payload.now) = rw st (begins_with k p past brings.0 b) in
    let failed = c.in-Err.ensures.err k (high (k.pid ∷ []) past) (unit_time (k.pid ∷ []) k.pid past) h.timing in
    fault_start k.pid p past clear brings.0 ∙ (rw (← st, ← sp) failed)

pub returns-in-Ok-clause-answers : goal.returns-in-Ok-clause-answers
returns-in-Ok-clause-answers c = λ k past b h.
    let p = c.args.packet.now in
    let o : on k.pid p ≡ true = ap (λ n. on n p) (sym h.same) ∙ sym c.is_on.ensures ∙ c.if-not-is_on.false in
    let clear : scrambled_one (k.pid ∷ []) p ≡ false = scrambled_is k.pid p false o (sym c.has_scrambled_payload.ensures ∙ c.if-has_scrambled_payload.false) in
    let brings = c.in-Start.ensures.brings k.pid past h.units in
    let st = stamp_is p c.in-Start.payload.now brings.3 in
    let sp = splits_is p c.in-Start.payload.now brings.3 in
    let placed : BeginsWith k (high (k.pid ∷ []) past) (stamp_of c.in-Start.payload.now) = rw st (begins_with k p past brings.0 b) in
    let began = c.in-Ok.ensures.ok k (high (k.pid ∷ []) past) (unit_time (k.pid ∷ []) k.pid past) placed h.timing in
    let started : TimingFor c.begin.new.self k (raised (high (k.pid ∷ []) past) (stamp p)) (timed (high (k.pid ∷ []) past) (stamp p) (unit_time (k.pid ∷ []) k.pid past)) = rw (← st) began in
    let timing = timing_start c.begin.new.self k p past brings.0 started in
    let sound : start_fault (high (k.pid ∷ []) past) (splits p) (stamp p) ≡ None = rw (← st, ← sp) (c.in-Ok.ensures.sound k (high (k.pid ∷ []) past) (unit_time (k.pid ∷ []) k.pid past) h.timing) in
    let e = fault_start k.pid p past clear brings.0 ∙ sound in
    settled k p past c.settle.result c.begin.new.self.is_going c.settle.new.packet c.settle.ensures.stays e (cut_is k p past c.begin.new.self.is_going brings.2 timing.going)
    (λ r. c.settle.ensures.packet (steps (goes_by k) (k.pid ∷ []) k.pid past) h.counter r ∙ numbered_is k.pid p (steps (goes_by k) (k.pid ∷ []) k.pid past) o)

pub returns-in-Ok-clause-stands : goal.returns-in-Ok-clause-stands
returns-in-Ok-clause-stands c = λ k past b h.
    let p = c.args.packet.now in
    let o : on k.pid p ≡ true = ap (λ n. on n p) (sym h.same) ∙ sym c.is_on.ensures ∙ c.if-not-is_on.false in
    let brings = c.in-Start.ensures.brings k.pid past h.units in
    let st = stamp_is p c.in-Start.payload.now brings.3 in
    let sp = splits_is p c.in-Start.payload.now brings.3 in
    let placed : BeginsWith k (high (k.pid ∷ []) past) (stamp_of c.in-Start.payload.now) = rw st (begins_with k p past brings.0 b) in
    let began = c.in-Ok.ensures.ok k (high (k.pid ∷ []) past) (unit_time (k.pid ∷ []) k.pid past) placed h.timing in
    let started : TimingFor c.begin.new.self k (raised (high (k.pid ∷ []) past) (stamp p)) (timed (high (k.pid ∷ []) past) (stamp p) (unit_time (k.pid ∷ []) k.pid past)) = rw (← st) began in
    let timing = timing_start c.begin.new.self k p past brings.0 started in
    record {
      same = c.settle.ensures.pid ∙ h.same;
      units = rw c.settle.ensures.units (kept_became _ k.pid p _ _ _ c.settle.ensures.carries (c.in-Start.ensures.reads k.pid past h.units));
      timing = rw c.settle.ensures.timing timing;
      counter = subst (Counts _) (events_settled _ _ _ _ p (steps (goes_by k) (k.pid ∷ []) k.pid past) o brings.1 (c.settle.ensures.stays ∙ ap not (sym (cut_is k p past c.begin.new.self.is_going brings.2 timing.going)))) (c.settle.ensures.counts (steps (goes_by k) (k.pid ∷ []) k.pid past) h.counter);
    }

-- ---- a unit goes on

pub returns-in-More-clause-answers : goal.returns-in-More-clause-answers
returns-in-More-clause-answers c = λ k past b h.
    let p = c.args.packet.now in
    let o : on k.pid p ≡ true = ap (λ n. on n p) (sym h.same) ∙ sym c.is_on.ensures ∙ c.if-not-is_on.false in
    let clear : scrambled_one (k.pid ∷ []) p ≡ false = scrambled_is k.pid p false o (sym c.has_scrambled_payload.ensures ∙ c.if-has_scrambled_payload.false) in
    let brings = c.in-More.ensures.brings k.pid past h.units in
    let timing = timing_same c.args.self.now.timing k p past (begins_not k.pid p past brings.2) h.timing in
    settled k p past c.settle-in-More.result _ c.settle-in-More.new.packet c.settle-in-More.ensures.stays (fault_still k.pid p past clear (begins_not k.pid p past brings.2)) (cut_is k p past _ brings.1 timing.going)
    (λ r. c.settle-in-More.ensures.packet (steps (goes_by k) (k.pid ∷ []) k.pid past) h.counter r ∙ numbered_is k.pid p (steps (goes_by k) (k.pid ∷ []) k.pid past) o)

pub returns-in-More-clause-stands : goal.returns-in-More-clause-stands
returns-in-More-clause-stands c = λ k past b h.
    let p = c.args.packet.now in
    let o : on k.pid p ≡ true = ap (λ n. on n p) (sym h.same) ∙ sym c.is_on.ensures ∙ c.if-not-is_on.false in
    let brings = c.in-More.ensures.brings k.pid past h.units in
    let timing = timing_same c.args.self.now.timing k p past (begins_not k.pid p past brings.2) h.timing in
    record {
      same = c.settle-in-More.ensures.pid ∙ h.same;
      units = rw c.settle-in-More.ensures.units (kept_became _ k.pid p _ _ _ c.settle-in-More.ensures.carries (c.in-More.ensures.reads k.pid past h.units));
      timing = rw c.settle-in-More.ensures.timing timing;
      counter = subst (Counts _) (events_settled _ _ _ _ p (steps (goes_by k) (k.pid ∷ []) k.pid past) o brings.0 (c.settle-in-More.ensures.stays ∙ ap not (sym (cut_is k p past _ brings.1 timing.going)))) (c.settle-in-More.ensures.counts (steps (goes_by k) (k.pid ∷ []) k.pid past) h.counter);
    }

-- ---- before the first unit

pub returns-in-Lead-clause-answers : goal.returns-in-Lead-clause-answers
returns-in-Lead-clause-answers c = λ k past b h.
    let p = c.args.packet.now in
    let o : on k.pid p ≡ true = ap (λ n. on n p) (sym h.same) ∙ sym c.is_on.ensures ∙ c.if-not-is_on.false in
    let clear : scrambled_one (k.pid ∷ []) p ≡ false = scrambled_is k.pid p false o (sym c.has_scrambled_payload.ensures ∙ c.if-has_scrambled_payload.false) in
    let brings = c.in-Lead.ensures.brings k.pid past h.units in
    let timing = timing_same c.args.self.now.timing k p past (begins_not k.pid p past brings.2) h.timing in
    settled k p past c.settle-in-Lead.result _ c.settle-in-Lead.new.packet c.settle-in-Lead.ensures.stays (fault_still k.pid p past clear (begins_not k.pid p past brings.2)) (cut_is k p past _ brings.1 timing.going)
    (λ r. c.settle-in-Lead.ensures.packet (steps (goes_by k) (k.pid ∷ []) k.pid past) h.counter r ∙ numbered_is k.pid p (steps (goes_by k) (k.pid ∷ []) k.pid past) o)

pub returns-in-Lead-clause-stands : goal.returns-in-Lead-clause-stands
returns-in-Lead-clause-stands c = λ k past b h.
    let p = c.args.packet.now in
    let o : on k.pid p ≡ true = ap (λ n. on n p) (sym h.same) ∙ sym c.is_on.ensures ∙ c.if-not-is_on.false in
    let brings = c.in-Lead.ensures.brings k.pid past h.units in
    let timing = timing_same c.args.self.now.timing k p past (begins_not k.pid p past brings.2) h.timing in
    record {
      same = c.settle-in-Lead.ensures.pid ∙ h.same;
      units = rw c.settle-in-Lead.ensures.units (kept_became _ k.pid p _ _ _ c.settle-in-Lead.ensures.carries (c.in-Lead.ensures.reads k.pid past h.units));
      timing = rw c.settle-in-Lead.ensures.timing timing;
      counter = subst (Counts _) (events_settled _ _ _ _ p (steps (goes_by k) (k.pid ∷ []) k.pid past) o brings.0 (c.settle-in-Lead.ensures.stays ∙ ap not (sym (cut_is k p past _ brings.1 timing.going)))) (c.settle-in-Lead.ensures.counts (steps (goes_by k) (k.pid ∷ []) k.pid past) h.counter);
    }

-- ---- a duplicate

pub returns-in-Duplicate-clause-answers : goal.returns-in-Duplicate-clause-answers
returns-in-Duplicate-clause-answers c = λ k past b h.
    let p = c.args.packet.now in
    let o : on k.pid p ≡ true = ap (λ n. on n p) (sym h.same) ∙ sym c.is_on.ensures ∙ c.if-not-is_on.false in
    let clear : scrambled_one (k.pid ∷ []) p ≡ false = scrambled_is k.pid p false o (sym c.has_scrambled_payload.ensures ∙ c.if-has_scrambled_payload.false) in
    let brings = c.in-Duplicate.ensures.brings k.pid past h.units in
    let not = begins_repeat k.pid p past brings.1 in
    let timing = timing_same _ k p past not h.timing in
    settled k p past c.settle_duplicate.result _ c.settle_duplicate.new.packet c.settle_duplicate.ensures.stays (fault_still k.pid p past clear not) (cut_is k p past _ brings.0 timing.going)
    (λ r. c.settle_duplicate.ensures.packet (steps (goes_by k) (k.pid ∷ []) k.pid past) h.counter r ∙ numbered_is k.pid p (steps (goes_by k) (k.pid ∷ []) k.pid past) o)

pub returns-in-Duplicate-clause-stands : goal.returns-in-Duplicate-clause-stands
returns-in-Duplicate-clause-stands c = λ k past b h.
    let p = c.args.packet.now in
    let o : on k.pid p ≡ true = ap (λ n. on n p) (sym h.same) ∙ sym c.is_on.ensures ∙ c.if-not-is_on.false in
    let brings = c.in-Duplicate.ensures.brings k.pid past h.units in
    let timing = timing_same _ k p past (begins_repeat k.pid p past brings.1) h.timing in
    record {
      same = c.settle_duplicate.ensures.pid ∙ h.same;
      units = rw c.settle_duplicate.ensures.units (kept_became _ k.pid p _ _ _ c.settle_duplicate.ensures.carries (c.in-Duplicate.ensures.reads k.pid past h.units));
      timing = rw c.settle_duplicate.ensures.timing timing;
      counter = subst (Counts _) (events_repeated _ _ _ _ p (steps (goes_by k) (k.pid ∷ []) k.pid past) o (repeated k.pid p past brings.0 brings.1) (c.settle_duplicate.ensures.stays ∙ ap not (sym (cut_is k p past _ brings.0 timing.going)))) (c.settle_duplicate.ensures.counts (steps (goes_by k) (k.pid ∷ []) k.pid past) h.counter);
    }

-- ---- without payload

pub returns-in-NoPayload-clause-answers : goal.returns-in-NoPayload-clause-answers
returns-in-NoPayload-clause-answers c = λ k past b h.
    let p = c.args.packet.now in
    let o : on k.pid p ≡ true = ap (λ n. on n p) (sym h.same) ∙ sym c.is_on.ensures ∙ c.if-not-is_on.false in
    let brings = c.in-NoPayload.ensures.brings k.pid past h.units in
    let y = brings.1 in
    (fault_still k.pid p past (scrambled_off k.pid p y) (begins_off k.pid p past y), cut_off k p past y, c.keep.ensures.packet (steps (goes_by k) (k.pid ∷ []) k.pid past) h.counter ∙ numbered_is k.pid p (steps (goes_by k) (k.pid ∷ []) k.pid past) o)

pub returns-in-NoPayload-clause-stands : goal.returns-in-NoPayload-clause-stands
returns-in-NoPayload-clause-stands c = λ k past b h.
    let p = c.args.packet.now in
    let o : on k.pid p ≡ true = ap (λ n. on n p) (sym h.same) ∙ sym c.is_on.ensures ∙ c.if-not-is_on.false in
    let brings = c.in-NoPayload.ensures.brings k.pid past h.units in
    let y = brings.1 in
    record {
      same = c.keep.ensures.pid ∙ h.same;
      units = rw c.keep.ensures.units (kept_became _ k.pid p _ _ _ c.keep.ensures.carries (c.in-NoPayload.ensures.reads k.pid past h.units));
      timing = rw c.keep.ensures.timing (timing_same _ k p past (begins_off k.pid p past y) h.timing);
      counter = simp (o, y) (c.keep.ensures.counts (steps (goes_by k) (k.pid ∷ []) k.pid past) h.counter);
    }

-- ---- marked, which is of no PID

pub returns-in-Error-clause-answers : goal.returns-in-Error-clause-answers
returns-in-Error-clause-answers c = λ k past b h.
    let p = c.args.packet.now in
    let o : on k.pid p ≡ true = ap (λ n. on n p) (sym h.same) ∙ sym c.is_on.ensures ∙ c.if-not-is_on.false in
    let brings = c.in-Error.ensures.brings k.pid past h.units in
    let y = error_off k.pid p brings in
    (fault_still k.pid p past (scrambled_off k.pid p y) (begins_off k.pid p past y), cut_off k p past y, c.keep-in-Error.ensures.packet (steps (goes_by k) (k.pid ∷ []) k.pid past) h.counter ∙ numbered_is k.pid p (steps (goes_by k) (k.pid ∷ []) k.pid past) o)

pub returns-in-Error-clause-stands : goal.returns-in-Error-clause-stands
returns-in-Error-clause-stands c = λ k past b h.
    let p = c.args.packet.now in
    let o : on k.pid p ≡ true = ap (λ n. on n p) (sym h.same) ∙ sym c.is_on.ensures ∙ c.if-not-is_on.false in
    let brings = c.in-Error.ensures.brings k.pid past h.units in
    let y = error_off k.pid p brings in
    record {
      same = c.keep-in-Error.ensures.pid ∙ h.same;
      units = rw c.keep-in-Error.ensures.units (kept_became _ k.pid p _ _ _ c.keep-in-Error.ensures.carries (c.in-Error.ensures.reads k.pid past h.units));
      timing = rw c.keep-in-Error.ensures.timing (timing_same _ k p past (begins_off k.pid p past y) h.timing);
      counter = simp (o, y) (c.keep-in-Error.ensures.counts (steps (goes_by k) (k.pid ∷ []) k.pid past) h.counter);
    }
