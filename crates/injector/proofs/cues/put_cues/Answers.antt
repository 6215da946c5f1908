use Rattle.std.proofs.Common.{◌≡◌, ◌<◌, List, [], ◌++◌, OnOk, refl, sym, ap, subst, ◌∙◌, append_assoc}
use Rattle.std.proofs.lemmas.List.{append-nil}
use Rattle.ts_packet.specs.Runs.{onto}
use Rattle.scte35_codec.specs.declared.cue_out.CueOut.{CueOut}
use Rattle.outgoing_packets.specs.Numbers.{HasPut}
use Rattle.outgoing_packets.proofs.NumberLemmas.{fails-behind}
use Rattle.ts_packet.proofs.Cases.{if_err_more}
use Rattle.injector.specs.Senders.{when, cues_by, end_cue, cancel_cue, packed}
use Rattle.injector.proofs.CueLemmas.{three-packed, three-onto, three-cues, one-of_three}
use Rattle.injector.proofs.cues.put_cues.Goals as goal

pub returns-in-Err-clause-err : goal.returns-in-Err-clause-err
returns-in-Err-clause-err g c = λ start ps puts x h k shown.
    let pid = c.args.pid in
    let pb : pid < 8192 = subst (λ n. n < 8192) c.get-number.ensures.value c.get-number.ensures.below in
    let one : List CueOut = when c.args.choice.start c.start_cue.result in
    let rest : List CueOut = when c.args.choice.end (end_cue x) ++ when c.args.choice.cancel (cancel_cue x) in
    let whole : one ++ rest ≡ cues_by x c.args.choice = three-cues x c.args.choice c.start_cue.result (end_cue x) (cancel_cue x) (c.start_cue.ensures x shown) refl refl in
    fails-behind (packed pid puts (cues_by x c.args.choice)) [] (packed pid puts one) (packed pid (onto puts (packed pid puts one)) rest)
    (λ put p. g.S.PacketSink.fails c.put_chosen.new.sink start (ps ++ put) p c.in-Err.fault) (λ put p. g.S.PacketSink.fails c.put_chosen.new.sink start (ps ++ put) p c.in-Err.fault)
    (ap (packed pid puts) (sym whole) ∙ one-of_three pid puts one rest pb)
    (λ put p f. f)
    (c.in-Err.ensures.err start ps puts h k)

pub returns-in-Err-put_chosen-clause-err : goal.returns-in-Err-put_chosen-clause-err
returns-in-Err-put_chosen-clause-err g c = λ start ps puts x h k shown.
    let pid = c.args.pid in
    let pb : pid < 8192 = subst (λ n. n < 8192) c.get-number.ensures.value c.get-number.ensures.below in
    let one : List CueOut = when c.args.choice.start c.start_cue.result in
    let two : List CueOut = when c.args.choice.end c.end_cue.result in
    let out1 = onto puts (packed pid puts one) in
    let out2 = onto out1 (packed pid out1 two) in
    let three : List CueOut = when c.args.choice.cancel (cancel_cue x) in
    let whole : one ++ (two ++ three) ≡ cues_by x c.args.choice = three-cues x c.args.choice c.start_cue.result c.end_cue.result (cancel_cue x) (c.start_cue.ensures x shown) (c.end_cue.ensures x shown.event_is) refl in
    fails-behind (packed pid puts (cues_by x c.args.choice)) (packed pid puts one) (packed pid out1 two) (packed pid out2 three)
    (λ put p. g.S.PacketSink.fails c.put_chosen-2.new.sink start ((ps ++ packed pid puts one) ++ put) p c.in-Err-put_chosen.fault) (λ put p. g.S.PacketSink.fails c.put_chosen-2.new.sink start (ps ++ put) p c.in-Err-put_chosen.fault)
    (ap (packed pid puts) (sym whole) ∙ three-packed pid puts one two three pb)
    (λ put p f. subst (λ l. g.S.PacketSink.fails c.put_chosen-2.new.sink start l p c.in-Err-put_chosen.fault) (append_assoc ps (packed pid puts one) put) f)
    (c.in-Err-put_chosen.ensures.err start (ps ++ packed pid puts one) out1 (c.in-Ok.ensures.ok start ps puts h k) (c.in-Ok.ensures.numbers puts k))

pub returns-clause-ok : goal.returns-clause-ok
returns-clause-ok g c = λ start ps puts x h k shown.
    let pid = c.args.pid in
    let pb : pid < 8192 = subst (λ n. n < 8192) c.get-number.ensures.value c.get-number.ensures.below in
    let one : List CueOut = when c.args.choice.start c.start_cue.result in
    let two : List CueOut = when c.args.choice.end c.end_cue.result in
    let out1 = onto puts (packed pid puts one) in
    let out2 = onto out1 (packed pid out1 two) in
    let three : List CueOut = when c.args.choice.cancel c.cancel_cue.result in
    let whole : one ++ (two ++ three) ≡ cues_by x c.args.choice = three-cues x c.args.choice c.start_cue.result c.end_cue.result c.cancel_cue.result (c.start_cue.ensures x shown) (c.end_cue.ensures x shown.event_is) (c.cancel_cue.ensures x shown.event_is) in
    let P1 = packed pid puts one in
    let P2 = packed pid out1 two in
    let P3 = packed pid out2 three in
    let all : packed pid puts (cues_by x c.args.choice) ≡ P1 ++ (P2 ++ P3) = ap (packed pid puts) (sym whole) ∙ three-packed pid puts one two three pb in
    let k1 = c.in-Ok.ensures.numbers puts k in
    let k2 = c.in-Ok-put_chosen.ensures.numbers out1 k1 in
    let held1 = c.in-Ok.ensures.ok start ps puts h k in
    let held2 = c.in-Ok-put_chosen.ensures.ok start (ps ++ P1) out1 held1 k1 in
    subst (λ l. OnOk c.put_chosen-3.result (g.S.PacketSink.holds c.put_chosen-3.new.sink start l)) (append_assoc (ps ++ P1) P2 P3 ∙ append_assoc ps P1 (P2 ++ P3) ∙ ap (λ l. ps ++ l) (sym all))
    (c.put_chosen-3.ensures.ok start ((ps ++ P1) ++ P2) out2 held2 k2)

pub returns-clause-numbers : goal.returns-clause-numbers
returns-clause-numbers g c = λ puts x k shown.
    let pid = c.args.pid in
    let pb : pid < 8192 = subst (λ n. n < 8192) c.get-number.ensures.value c.get-number.ensures.below in
    let one : List CueOut = when c.args.choice.start c.start_cue.result in
    let two : List CueOut = when c.args.choice.end c.end_cue.result in
    let out1 = onto puts (packed pid puts one) in
    let out2 = onto out1 (packed pid out1 two) in
    let three : List CueOut = when c.args.choice.cancel c.cancel_cue.result in
    let whole : one ++ (two ++ three) ≡ cues_by x c.args.choice = three-cues x c.args.choice c.start_cue.result c.end_cue.result c.cancel_cue.result (c.start_cue.ensures x shown) (c.end_cue.ensures x shown.event_is) (c.cancel_cue.ensures x shown.event_is) in
    let P1 = packed pid puts one in
    let P2 = packed pid out1 two in
    let P3 = packed pid out2 three in
    let all : packed pid puts (cues_by x c.args.choice) ≡ P1 ++ (P2 ++ P3) = ap (packed pid puts) (sym whole) ∙ three-packed pid puts one two three pb in
    let k1 = c.in-Ok.ensures.numbers puts k in
    let k2 = c.in-Ok-put_chosen.ensures.numbers out1 k1 in
    subst (λ o. OnOk c.put_chosen-3.result (HasPut c.put_chosen-3.new.out o)) (sym (three-onto pid puts one two three pb) ∙ ap (λ cs. onto puts (packed pid puts cs)) whole)
    (c.put_chosen-3.ensures.numbers out2 k2)

pub returns-clause-err : goal.returns-clause-err
returns-clause-err g c = λ start ps puts x h k shown.
    let pid = c.args.pid in
    let pb : pid < 8192 = subst (λ n. n < 8192) c.get-number.ensures.value c.get-number.ensures.below in
    let one : List CueOut = when c.args.choice.start c.start_cue.result in
    let two : List CueOut = when c.args.choice.end c.end_cue.result in
    let out1 = onto puts (packed pid puts one) in
    let out2 = onto out1 (packed pid out1 two) in
    let three : List CueOut = when c.args.choice.cancel c.cancel_cue.result in
    let whole : one ++ (two ++ three) ≡ cues_by x c.args.choice = three-cues x c.args.choice c.start_cue.result c.end_cue.result c.cancel_cue.result (c.start_cue.ensures x shown) (c.end_cue.ensures x shown.event_is) (c.cancel_cue.ensures x shown.event_is) in
    let P1 = packed pid puts one in
    let P2 = packed pid out1 two in
    let P3 = packed pid out2 three in
    let all : packed pid puts (cues_by x c.args.choice) ≡ P1 ++ (P2 ++ P3) = ap (packed pid puts) (sym whole) ∙ three-packed pid puts one two three pb in
    let k1 = c.in-Ok.ensures.numbers puts k in
    let k2 = c.in-Ok-put_chosen.ensures.numbers out1 k1 in
    let held1 = c.in-Ok.ensures.ok start ps puts h k in
    let held2 = c.in-Ok-put_chosen.ensures.ok start (ps ++ P1) out1 held1 k1 in
    if_err_more c.put_chosen-3.result
    (λ f e. fails-behind (packed pid puts (cues_by x c.args.choice)) (P1 ++ P2) P3 []
    (λ put p. g.S.PacketSink.fails c.put_chosen-3.new.sink start (((ps ++ P1) ++ P2) ++ put) p f) (λ put p. g.S.PacketSink.fails c.put_chosen-3.new.sink start (ps ++ put) p f)
    (all ∙ sym (append_assoc P1 P2 P3) ∙ ap (λ l. (P1 ++ P2) ++ l) (sym (append-nil P3)))
    (λ put p f2. subst (λ l. g.S.PacketSink.fails c.put_chosen-3.new.sink start l p f) (append_assoc (ps ++ P1) P2 put ∙ append_assoc ps P1 (P2 ++ put) ∙ ap (λ l. ps ++ l) (sym (append_assoc P1 P2 put))) f2) e)
    (c.put_chosen-3.ensures.err start ((ps ++ P1) ++ P2) out2 held2 k2)
