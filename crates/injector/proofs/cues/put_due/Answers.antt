use Rattle.std.proofs.Common.{◌≡◌, ◌<◌, ◌≤◌, List, [], ◌∷◌, ◌++◌, length, refl, sym, ap, subst, ◌∙◌, append_assoc, length-append, ◌+◌, arith}
use Rattle.std.specs.List.{flat_map}
use Rattle.std.proofs.lemmas.List.{append-nil}
use Rattle.ts_packet.specs.Runs.{onto}
use Rattle.ts_packet.proofs.CountLemmas.{well-refl, well-trans, blamed-after}
use Rattle.ts_packet.proofs.RunLemmas.{onto-append}
use Rattle.scte35_codec.specs.declared.cue_out.CueOut.{CueOut}
use Rattle.outgoing_packets.specs.Numbers.{HasPut}
use Rattle.outgoing_packets.proofs.NumberLemmas.{fails-behind}
use Rattle.injector.specs.Turns.{greatest_in, standing}
use Rattle.injector.specs.Senders.{Sender, cues_of, standing_senders, packed}
use Rattle.injector.specs.Noting.{Sending, IsBefore, IsCuedNext}
use Rattle.injector.proofs.SendingLemmas.{next-left, none-left, sending-first, sending-last, packed-push, packed-seam}
use Rattle.injector.proofs.RestLemmas.{idle-cues, idle-told}
use Rattle.injector.proofs.cues.put_due.Goals as goal

pub loop-place-init : goal.loop-place-init
loop-place-init g c = record {
  leads = g.met.S.PacketSink.leads_refl c.args.sink.now;
  well = well-refl _;
  stands = λ index past stands. stands;
  same_high = refl;
  count = refl;
  sent = λ puts index past latest h b.
      ([], standing_senders index past, refl, refl, sending-first c.args.requests.now index past latest b.stands b.notes, h, λ start ps held. rw append-nil held);
}

pub loop-place-smaller : goal.loop-place-smaller
loop-place-smaller g c =
    let n = c.count.ensures in
    let t = c.loop-place-test.true in
    let m = c.put_one.ensures.count in
    omega arith

pub loop-place-preserved : goal.loop-place-preserved
loop-place-preserved g c = record {
  leads = g.met.S.PacketSink.leads_trans c.args.sink.now c.loop-place.sink c.put_one.new.sink c.loop-place.invariant.leads c.put_one.ensures.leads;
  well = well-trans _ _ _ c.loop-place.invariant.well c.in-Ok.ensures.well;
  stands = λ index past stands. let before = c.loop-place.invariant.stands index past stands in
      record { index_is = c.put_one.ensures.index ∙ before.index_is; table = c.put_one.ensures.stands (greatest_in past) (standing index past) before.table };
  same_high = c.put_one.ensures.high ∙ c.loop-place.invariant.same_high;
  count = c.put_one.ensures.count ∙ c.loop-place.invariant.count;
  sent = λ puts index past latest h b.
      let below : c.loop-place.place < length c.loop-place.requests.table.entries.items = subst (λ n. c.loop-place.place < n) c.count.ensures c.loop-place-test.true in
      let i = c.loop-place.invariant in
      let s = i.sent puts index past latest h b in
      let done = s.0 in
      let m = next-left c.loop-place.requests (greatest_in past) latest done s.1 c.loop-place.place s.4 s.3 below in
      let x = m.0 in
      let rest = m.1 in
      let sending : Sending c.loop-place.requests (greatest_in past) latest done (x ∷ rest) = subst (Sending c.loop-place.requests (greatest_in past) latest done) m.2 s.4 in
      let next : IsCuedNext c.loop-place.requests c.loop-place.place c.args.later.now (greatest_in past) latest done x rest = record { sending = sending; place_is = s.3; rises = b.rises; time = b.time } in
      let f : Sender → List CueOut = cues_of (greatest_in past) latest in
      let put = packed c.args.pid puts (flat_map f done) in
      let out1 = onto puts put in
      let pb : c.args.pid < 8192 = subst (λ n. n < 8192) c.get-number.ensures.value c.get-number.ensures.below in
      let more = packed-push f c.args.pid puts done x pb in
      let new = packed c.args.pid out1 (f x) in (
        done ++ x ∷ [],
        rest,
        s.2 ∙ ap (λ l. done ++ l) m.2 ∙ sym (append_assoc done (x ∷ []) rest),
        (let n : length (done ++ x ∷ []) ≡ length done + 1 = length-append done (x ∷ []) in ap (λ k. k + 1) s.3 ∙ sym n),
        c.in-Ok.ensures.sending (greatest_in past) latest done x rest next,
        subst (HasPut c.put_one.new.out) (sym (onto-append puts put new) ∙ ap (onto puts) (sym more)) (c.in-Ok.ensures.numbers out1 (greatest_in past) latest done x rest s.5 next),
        λ start ps held. subst (g.S.PacketSink.holds c.put_one.new.sink start) (append_assoc ps put new ∙ ap (λ l. ps ++ l) (sym more))
            (c.in-Ok.ensures.ok start (ps ++ put) out1 (greatest_in past) latest done x rest (s.6 start ps held) s.5 next),
      );
}

pub returns-in-Err-clause-leads : goal.returns-in-Err-clause-leads
returns-in-Err-clause-leads g c = g.met.S.PacketSink.leads_trans c.args.sink.now c.loop-place.sink c.put_one.new.sink c.loop-place.invariant.leads c.put_one.ensures.leads

pub returns-in-Err-clause-err : goal.returns-in-Err-clause-err
returns-in-Err-clause-err g c = λ start ps puts index past latest held h b.
    let below : c.loop-place.place < length c.loop-place.requests.table.entries.items = subst (λ n. c.loop-place.place < n) c.count.ensures c.loop-place-test.true in
    let i = c.loop-place.invariant in
    let s = i.sent puts index past latest h b in
    let done = s.0 in
    let m = next-left c.loop-place.requests (greatest_in past) latest done s.1 c.loop-place.place s.4 s.3 below in
    let x = m.0 in
    let rest = m.1 in
    let sending : Sending c.loop-place.requests (greatest_in past) latest done (x ∷ rest) = subst (Sending c.loop-place.requests (greatest_in past) latest done) m.2 s.4 in
    let next : IsCuedNext c.loop-place.requests c.loop-place.place c.args.later.now (greatest_in past) latest done x rest = record { sending = sending; place_is = s.3; rises = b.rises; time = b.time } in
    let f : Sender → List CueOut = cues_of (greatest_in past) latest in
    let put = packed c.args.pid puts (flat_map f done) in
    let out1 = onto puts put in
    let pb : c.args.pid < 8192 = subst (λ n. n < 8192) c.get-number.ensures.value c.get-number.ensures.below in
    fails-behind (packed c.args.pid puts (flat_map f (standing_senders index past))) put (packed c.args.pid out1 (f x)) (packed c.args.pid (onto puts (packed c.args.pid puts (flat_map f done ++ f x))) (flat_map f rest))
    (λ q p. g.S.PacketSink.fails c.put_one.new.sink start ((ps ++ put) ++ q) p c.in-Err.fault) (λ q p. g.S.PacketSink.fails c.put_one.new.sink start (ps ++ q) p c.in-Err.fault)
    (ap (λ xs. packed c.args.pid puts (flat_map f xs)) (s.2 ∙ ap (λ l. done ++ l) m.2) ∙ packed-seam f c.args.pid puts done x rest pb)
    (λ q p e. subst (λ l. g.S.PacketSink.fails c.put_one.new.sink start l p c.in-Err.fault) (append_assoc ps put q) e)
    (c.in-Err.ensures.err start (ps ++ put) out1 (greatest_in past) latest done x rest (s.6 start ps held) s.5 next)

pub returns-in-Err-clause-blamed : goal.returns-in-Err-clause-blamed
returns-in-Err-clause-blamed g c = blamed-after _ _ _ _ _ c.loop-place.invariant.well c.in-Err.ensures.blamed

pub returns-in-Err-clause-stands : goal.returns-in-Err-clause-stands
returns-in-Err-clause-stands g c = λ index past stands. let before = c.loop-place.invariant.stands index past stands in
    record { index_is = c.put_one.ensures.index ∙ before.index_is; table = c.put_one.ensures.stands (greatest_in past) (standing index past) before.table }

pub returns-in-Err-clause-high : goal.returns-in-Err-clause-high
returns-in-Err-clause-high g c = c.put_one.ensures.high ∙ c.loop-place.invariant.same_high

pub returns-clause-leads : goal.returns-clause-leads
returns-clause-leads g c = c.loop-place.invariant.leads

pub returns-clause-well : goal.returns-clause-well
returns-clause-well g c = c.loop-place.invariant.well

pub returns-clause-stands : goal.returns-clause-stands
returns-clause-stands g c = c.loop-place.invariant.stands

pub returns-clause-high : goal.returns-clause-high
returns-clause-high g c = c.loop-place.invariant.same_high

pub returns-clause-ok : goal.returns-clause-ok
returns-clause-ok g c = λ start ps puts index past latest held h b.
    let i = c.loop-place.invariant in
    let s = i.sent puts index past latest h b in
    let over : length c.loop-place.requests.table.entries.items ≤ c.loop-place.place = subst (λ n. n ≤ c.loop-place.place) c.count.ensures c.loop-place-test.false in
    let none = none-left c.loop-place.requests (greatest_in past) latest s.0 s.1 c.loop-place.place s.4 s.3 over in
    let all : standing_senders index past ≡ s.0 = s.2 ∙ ap (λ l. s.0 ++ l) none ∙ append-nil s.0 in
    subst (λ xs. g.S.PacketSink.holds c.loop-place.sink start (ps ++ packed c.args.pid puts (flat_map (cues_of (greatest_in past) latest) xs))) (sym all) (s.6 start ps held)

pub returns-clause-numbers : goal.returns-clause-numbers
returns-clause-numbers g c = λ puts index past latest h b.
    let i = c.loop-place.invariant in
    let s = i.sent puts index past latest h b in
    let over : length c.loop-place.requests.table.entries.items ≤ c.loop-place.place = subst (λ n. n ≤ c.loop-place.place) c.count.ensures c.loop-place-test.false in
    let none = none-left c.loop-place.requests (greatest_in past) latest s.0 s.1 c.loop-place.place s.4 s.3 over in
    let all : standing_senders index past ≡ s.0 = s.2 ∙ ap (λ l. s.0 ++ l) none ∙ append-nil s.0 in
    subst (λ xs. HasPut c.loop-place.out (onto puts (packed c.args.pid puts (flat_map (cues_of (greatest_in past) latest) xs)))) (sym all) s.5

pub returns-clause-told : goal.returns-clause-told
returns-clause-told g c = λ puts index past latest h b.
    let i = c.loop-place.invariant in
    let s = i.sent puts index past latest h b in
    let over : length c.loop-place.requests.table.entries.items ≤ c.loop-place.place = subst (λ n. n ≤ c.loop-place.place) c.count.ensures c.loop-place-test.false in
    let none = none-left c.loop-place.requests (greatest_in past) latest s.0 s.1 c.loop-place.place s.4 s.3 over in
    let all : standing_senders index past ≡ s.0 = s.2 ∙ ap (λ l. s.0 ++ l) none ∙ append-nil s.0 in
    sending-last c.loop-place.requests index past latest s.0 b.rises all (subst (Sending c.loop-place.requests (greatest_in past) latest s.0) none s.4)

pub returns-then-not-is_due-clause-ok : goal.returns-then-not-is_due-clause-ok
returns-then-not-is_due-clause-ok g c = λ start ps puts index past latest held h b.
    let none = idle-cues index latest past (b.idle c.if-not-is_due.true) in
    subst (λ cs. g.S.PacketSink.holds c.args.sink.now start (ps ++ packed c.args.pid puts cs)) (sym none) (rw append-nil held)

pub returns-then-not-is_due-clause-numbers : goal.returns-then-not-is_due-clause-numbers
returns-then-not-is_due-clause-numbers g c = λ puts index past latest h b.
    let none = idle-cues index latest past (b.idle c.if-not-is_due.true) in
    subst (λ cs. HasPut c.args.out.now (onto puts (packed c.args.pid puts cs))) (sym none) h

pub returns-then-not-is_due-clause-told : goal.returns-then-not-is_due-clause-told
returns-then-not-is_due-clause-told g c = λ puts index past latest h b.
    idle-told c.args.requests.now c.args.later.now index past latest (subst (λ d. IsBefore d c.args.requests.now c.args.later.now index past latest) c.if-not-is_due.true b)
