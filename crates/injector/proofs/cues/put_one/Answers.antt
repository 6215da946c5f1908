use Rattle.std.proofs.Common.{◌≡◌, true, false, ◌∷◌, ◌++◌, sym, ap, subst, ◌∙◌}
use Rattle.std.proofs.lemmas.List.{append-nil}
use Rattle.ts_packet.specs.Runs.{onto}
use Rattle.outgoing_packets.specs.Numbers.{HasPut, FrontFails}
use Rattle.injector.specs.Senders.{is_none, chosen, cues_by, events_in, packed}
use Rattle.injector.proofs.SendingLemmas.{sending-shown, sending-choice, sending-skip, sending-told, none-cues}
use Rattle.injector.proofs.cues.put_one.Goals as goal

pub returns-then-is_none-clause-ok : goal.returns-then-is_none-clause-ok
returns-then-is_none-clause-ok g c = λ start ps puts latest after done x left held h next.
    let sending = next.sending in
    let at = next.place_is in
    let rises = next.rises in
    let is = next.time in
    let e = c.entry-entry.result.now.event in
    let n = c.entry-entry.result.now.value in
    let shown = sending-shown c.args.requests.now latest after done x left sending c.args.place e n at c.entry-entry.ensures.event c.entry-entry.ensures.value in
    let picked : c.chosen-choice.result ≡ chosen x latest after = sending-choice c.args.requests.now latest after done x left sending c.chosen-choice.result e n c.high-high.result c.args.later.now shown rises c.high-high.ensures is c.chosen-choice.ensures in
    let none : is_none (chosen x latest after) ≡ true = ap is_none (sym picked) ∙ sym c.is_none.ensures ∙ c.if-is_none.true in
    subst (λ cs. g.S.PacketSink.holds c.args.sink.now start (ps ++ packed c.args.pid puts cs)) (sym (none-cues x (chosen x latest after) none)) (rw append-nil held)

pub returns-then-is_none-clause-numbers : goal.returns-then-is_none-clause-numbers
returns-then-is_none-clause-numbers g c = λ puts latest after done x left h next.
    let sending = next.sending in
    let at = next.place_is in
    let rises = next.rises in
    let is = next.time in
    let e = c.entry-entry.result.now.event in
    let n = c.entry-entry.result.now.value in
    let shown = sending-shown c.args.requests.now latest after done x left sending c.args.place e n at c.entry-entry.ensures.event c.entry-entry.ensures.value in
    let picked : c.chosen-choice.result ≡ chosen x latest after = sending-choice c.args.requests.now latest after done x left sending c.chosen-choice.result e n c.high-high.result c.args.later.now shown rises c.high-high.ensures is c.chosen-choice.ensures in
    let none : is_none (chosen x latest after) ≡ true = ap is_none (sym picked) ∙ sym c.is_none.ensures ∙ c.if-is_none.true in
    subst (λ cs. HasPut c.args.out.now (onto puts (packed c.args.pid puts cs))) (sym (none-cues x (chosen x latest after) none)) h

pub returns-then-is_none-clause-sending : goal.returns-then-is_none-clause-sending
returns-then-is_none-clause-sending g c = λ latest after done x left next.
    let sending = next.sending in
    let at = next.place_is in
    let rises = next.rises in
    let is = next.time in
    let e = c.entry-entry.result.now.event in
    let n = c.entry-entry.result.now.value in
    let shown = sending-shown c.args.requests.now latest after done x left sending c.args.place e n at c.entry-entry.ensures.event c.entry-entry.ensures.value in
    let picked : c.chosen-choice.result ≡ chosen x latest after = sending-choice c.args.requests.now latest after done x left sending c.chosen-choice.result e n c.high-high.result c.args.later.now shown rises c.high-high.ensures is c.chosen-choice.ensures in
    let none : is_none (chosen x latest after) ≡ true = ap is_none (sym picked) ∙ sym c.is_none.ensures ∙ c.if-is_none.true in
    sending-skip c.args.requests.now latest after done x left sending none

pub returns-in-Err-clause-err : goal.returns-in-Err-clause-err
returns-in-Err-clause-err g c = λ start ps puts latest after done x left held h next.
    let sending = next.sending in
    let at = next.place_is in
    let rises = next.rises in
    let is = next.time in
    let e = c.entry-entry.result.now.event in
    let n = c.entry-entry.result.now.value in
    let shown = sending-shown c.args.requests.now latest after done x left sending c.args.place e n at c.entry-entry.ensures.event c.entry-entry.ensures.value in
    let picked : c.chosen-choice.result ≡ chosen x latest after = sending-choice c.args.requests.now latest after done x left sending c.chosen-choice.result e n c.high-high.result c.args.later.now shown rises c.high-high.ensures is c.chosen-choice.ensures in
    subst (λ k. FrontFails (packed c.args.pid puts (cues_by x k)) (λ put p. g.S.PacketSink.fails c.put_cues.new.sink start (ps ++ put) p c.in-Err.fault)) picked
    (c.in-Err.ensures.err start ps puts x held h shown)

pub returns-clause-ok : goal.returns-clause-ok
returns-clause-ok g c = λ start ps puts latest after done x left held h next.
    let sending = next.sending in
    let at = next.place_is in
    let rises = next.rises in
    let is = next.time in
    let e = c.entry-entry.result.now.event in
    let n = c.entry-entry.result.now.value in
    let shown = sending-shown c.args.requests.now latest after done x left sending c.args.place e n at c.entry-entry.ensures.event c.entry-entry.ensures.value in
    let picked : c.chosen-choice.result ≡ chosen x latest after = sending-choice c.args.requests.now latest after done x left sending c.chosen-choice.result e n c.high-high.result c.args.later.now shown rises c.high-high.ensures is c.chosen-choice.ensures in
    subst (λ k. g.S.PacketSink.holds c.put_cues.new.sink start (ps ++ packed c.args.pid puts (cues_by x k))) picked (c.in-Ok.ensures.ok start ps puts x held h shown)

pub returns-clause-numbers : goal.returns-clause-numbers
returns-clause-numbers g c = λ puts latest after done x left h next.
    let sending = next.sending in
    let at = next.place_is in
    let rises = next.rises in
    let is = next.time in
    let e = c.entry-entry.result.now.event in
    let n = c.entry-entry.result.now.value in
    let shown = sending-shown c.args.requests.now latest after done x left sending c.args.place e n at c.entry-entry.ensures.event c.entry-entry.ensures.value in
    let picked : c.chosen-choice.result ≡ chosen x latest after = sending-choice c.args.requests.now latest after done x left sending c.chosen-choice.result e n c.high-high.result c.args.later.now shown rises c.high-high.ensures is c.chosen-choice.ensures in
    subst (λ k. HasPut c.put_cues.new.out (onto puts (packed c.args.pid puts (cues_by x k)))) picked (c.in-Ok.ensures.numbers puts x h shown)

pub returns-clause-sending : goal.returns-clause-sending
returns-clause-sending g c = λ latest after done x left next.
    let sending = next.sending in
    let at = next.place_is in
    let rises = next.rises in
    let is = next.time in
    let e = c.entry-entry.result.now.event in
    let n = c.entry-entry.result.now.value in
    let shown = sending-shown c.args.requests.now latest after done x left sending c.args.place e n at c.entry-entry.ensures.event c.entry-entry.ensures.value in
    let picked : c.chosen-choice.result ≡ chosen x latest after = sending-choice c.args.requests.now latest after done x left sending c.chosen-choice.result e n c.high-high.result c.args.later.now shown rises c.high-high.ensures is c.chosen-choice.ensures in
    let some : is_none (chosen x latest after) ≡ false = ap is_none (sym picked) ∙ sym c.is_none.ensures ∙ c.if-is_none.false in
    sending-told c.args.requests.now latest after done x left sending c.note.new.self c.args.place c.told-told.result some at (c.told-told.ensures x after shown.notes_are shown.event_is is)
    (c.note.ensures.stands latest (events_in (done ++ x ∷ left)) sending.table) c.note.ensures.notes
