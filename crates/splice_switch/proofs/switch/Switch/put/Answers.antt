use Rattle.std.proofs.Common.{◌≡◌, ◌∷◌, ◌++◌, [], OnOk, IfErr, sym, ap, subst, ◌∙◌, Some}
use Rattle.std.proofs.lemmas.List.{append-nil}
use Rattle.ts_packet.specs.Runs.{onto}
use Rattle.ad_library.specs.Library.{held}
use Rattle.program_follower.specs.declared.start_follower.StartPlace.TheVariants as places
use Rattle.program_follower.specs.Purposes.{reading_cues}
use Rattle.program_follower.specs.Program.{listed, tables}
use Rattle.program_follower.specs.Standing.{tables_left}
use Rattle.outgoing_packets.specs.declared.entry.CueEntry.TheVariants.{Stripped}
use Rattle.outgoing_packets.specs.Entries.{AllGoOut, tables_out}
use Rattle.outgoing_packets.specs.Numbers.{FrontFails}
use Rattle.splice_plans.specs.Adverts.{setting_of}
use Rattle.splice_plans.specs.Stepping.{puts_next}
use Rattle.ts_packet.proofs.Cases.{on_ok_more, if_err_more}
use Rattle.splice_switch.specs.Standing.{IsFollowedAs}
use Rattle.splice_switch.proofs.PlayLemmas.{plays-quiet}
use Rattle.splice_switch.proofs.PremiseLemmas.{passes, on-map, separate, clean-more, map-off-cue, cue-switched, cue-of, map-switched}
use Rattle.splice_switch.proofs.OutLemmas.{other-next, cue-next, tables-strip, map-same, passed-goes-on}
use Rattle.splice_switch.proofs.switch.Switch.put.Goals as goal

pub returns-in-Cue-clause-ok : goal.returns-in-Cue-clause-ok
returns-in-Cue-clause-ok g c = λ start ps cfg x h b.
    let past = x.read in
    let p = c.args.packet.now in
    let filed = held c.args.library.now in
    let k = setting_of cfg filed in
    let b' : IsFollowedAs c.args.self.now places.Cue cfg filed p x = subst (λ place. IsFollowedAs c.args.self.now place cfg filed p x) c.in-Cue.is b in
    let map = b'.place_is.0 in
    let other = cue-switched cfg filed p past b'.clean b'.place_is.1 in
    let out : puts_next k x p ≡ [] = cue-next k x p map b'.place_is.1 other in
    subst (g.S.PacketSink.holds c.args.sink.now start) (sym (append-nil ps) ∙ ap (λ l. ps ++ l) (sym out)) h

pub returns-in-Cue-clause-stands : goal.returns-in-Cue-clause-stands
returns-in-Cue-clause-stands g c = λ cfg x b.
    let past = x.read in
    let p = c.args.packet.now in
    let filed = held c.args.library.now in
    let k = setting_of cfg filed in
    let b' : IsFollowedAs c.args.self.now places.Cue cfg filed p x = subst (λ place. IsFollowedAs c.args.self.now place cfg filed p x) c.in-Cue.is b in
    let map = b'.place_is.0 in
    let other = cue-switched cfg filed p past b'.clean b'.place_is.1 in
    let out : puts_next k x p ≡ [] = cue-next k x p map b'.place_is.1 other in
    record {
      cue_pid = b'.cue_pid;
      follower = b'.follower;
      clean = clean-more (reading_cues cfg) p past b'.clean b'.sound;
      playing = c.obey.ensures.plays k past x.counted (cue-of cfg filed p past b'.clean b'.place_is.1) b'.playing;
      numbers = record { passed = b'.numbers.passed; put = b'.numbers.put; go_on = passed-goes-on k x p [] b'.numbers.passed out b'.numbers.go_on };
      whole = b'.whole;
    }

pub returns-in-Map-clause-ok : goal.returns-in-Map-clause-ok
returns-in-Map-clause-ok g c = λ start ps cfg x h b.
    let past = x.read in
    let p = c.args.packet.now in
    let filed = held c.args.library.now in
    let k = setting_of cfg filed in
    let b' : IsFollowedAs c.args.self.now places.Map cfg filed p x = subst (λ place. IsFollowedAs c.args.self.now place cfg filed p x) c.in-Map.is b in
    let m = on-map (listed (Some cfg.program) past) p b'.place_is in
    let passed = b'.numbers.passed in
    let left : tables_left c.tables-tables.result ≡ tables (Some cfg.program) p past = c.tables-tables.ensures (reading_cues cfg) p past b'.follower b'.shows in
    let cue = c.args.self.now.cue_pid in
    let good : AllGoOut (Stripped cue) (tables_left c.tables-tables.result) = subst (λ ts. AllGoOut (Stripped cue) ts) (sym left) (tables-strip cue (Some cfg.program) p past) in
    let same : tables_out (Stripped cue) c.pid.result passed (tables_left c.tables-tables.result) ≡ puts_next k x p
    = map-same cfg filed p x m b'.clean cue c.pid.result (tables_left c.tables-tables.result) passed b'.cue_pid c.pid.ensures left b'.numbers.go_on in
    subst (λ l. OnOk c.put_tables.result (g.S.PacketSink.holds c.put_tables.new.sink start (ps ++ l))) same (c.put_tables.ensures.ok start ps passed h b'.numbers.put good)

pub returns-in-Map-clause-stands : goal.returns-in-Map-clause-stands
returns-in-Map-clause-stands g c = λ cfg x b.
    let past = x.read in
    let p = c.args.packet.now in
    let filed = held c.args.library.now in
    let k = setting_of cfg filed in
    let b' : IsFollowedAs c.args.self.now places.Map cfg filed p x = subst (λ place. IsFollowedAs c.args.self.now place cfg filed p x) c.in-Map.is b in
    let m = on-map (listed (Some cfg.program) past) p b'.place_is in
    let passed = b'.numbers.passed in
    let left : tables_left c.tables-tables.result ≡ tables (Some cfg.program) p past = c.tables-tables.ensures (reading_cues cfg) p past b'.follower b'.shows in
    let cue = c.args.self.now.cue_pid in
    let good : AllGoOut (Stripped cue) (tables_left c.tables-tables.result) = subst (λ ts. AllGoOut (Stripped cue) ts) (sym left) (tables-strip cue (Some cfg.program) p past) in
    let same : tables_out (Stripped cue) c.pid.result passed (tables_left c.tables-tables.result) ≡ puts_next k x p
    = map-same cfg filed p x m b'.clean cue c.pid.result (tables_left c.tables-tables.result) passed b'.cue_pid c.pid.ensures left b'.numbers.go_on in
    let qs = tables_out (Stripped cue) c.pid.result passed (tables_left c.tables-tables.result) in
    let clean = clean-more (reading_cues cfg) p past b'.clean b'.sound in
    on_ok_more c.put_tables.result
    (λ put. record {
      cue_pid = b'.cue_pid;
      follower = b'.follower;
      clean = clean;
      playing = plays-quiet c.args.self.now.playing k p past (map-off-cue cfg p past b'.clean b'.place_is) (map-switched cfg filed p past m.listed_as b'.clean m.is m.here) (separate k (p ∷ past) clean).few x.counted b'.playing;
      numbers = record { passed = onto passed qs; put = put; go_on = passed-goes-on k x p qs passed (sym same) b'.numbers.go_on };
      whole = b'.whole;
    })
    (c.put_tables.ensures.numbers passed b'.numbers.put good)

pub returns-in-Map-clause-err : goal.returns-in-Map-clause-err
returns-in-Map-clause-err g c = λ start ps cfg x h b.
    let past = x.read in
    let p = c.args.packet.now in
    let filed = held c.args.library.now in
    let k = setting_of cfg filed in
    let b' : IsFollowedAs c.args.self.now places.Map cfg filed p x = subst (λ place. IsFollowedAs c.args.self.now place cfg filed p x) c.in-Map.is b in
    let m = on-map (listed (Some cfg.program) past) p b'.place_is in
    let passed = b'.numbers.passed in
    let left : tables_left c.tables-tables.result ≡ tables (Some cfg.program) p past = c.tables-tables.ensures (reading_cues cfg) p past b'.follower b'.shows in
    let cue = c.args.self.now.cue_pid in
    let good : AllGoOut (Stripped cue) (tables_left c.tables-tables.result) = subst (λ ts. AllGoOut (Stripped cue) ts) (sym left) (tables-strip cue (Some cfg.program) p past) in
    let same : tables_out (Stripped cue) c.pid.result passed (tables_left c.tables-tables.result) ≡ puts_next k x p
    = map-same cfg filed p x m b'.clean cue c.pid.result (tables_left c.tables-tables.result) passed b'.cue_pid c.pid.ensures left b'.numbers.go_on in
    subst (λ l. IfErr c.put_tables.result (λ f. FrontFails l (λ put q. g.S.PacketSink.fails c.put_tables.new.sink start (ps ++ put) q f))) same (c.put_tables.ensures.err start ps passed h b'.numbers.put good)

pub returns-in-Stream-clause-ok : goal.returns-in-Stream-clause-ok
returns-in-Stream-clause-ok g c = λ start ps cfg x h b.
    c.put_of_stream.ensures.ok start ps cfg x h (subst (λ place. IsFollowedAs c.args.self.now place cfg (held c.args.library.now) c.args.packet.now x) c.in-Stream.is b)

pub returns-in-Stream-clause-err : goal.returns-in-Stream-clause-err
returns-in-Stream-clause-err g c = λ start ps cfg x h b.
    c.put_of_stream.ensures.err start ps cfg x h (subst (λ place. IsFollowedAs c.args.self.now place cfg (held c.args.library.now) c.args.packet.now x) c.in-Stream.is b)

pub returns-in-Other-clause-ok : goal.returns-in-Other-clause-ok
returns-in-Other-clause-ok g c = λ start ps cfg x h b.
    let past = x.read in
    let p = c.args.packet.now in
    let filed = held c.args.library.now in
    let k = setting_of cfg filed in
    let b' : IsFollowedAs c.args.self.now places.Other cfg filed p x = subst (λ place. IsFollowedAs c.args.self.now place cfg filed p x) c.in-Other.is b in
    let r = passes cfg filed p past b'.place_is in
    let out : puts_next k x p ≡ p ∷ [] = other-next k x p r.map r.cue r.other in
    subst (λ l. OnOk c.pass.result (g.S.PacketSink.holds c.pass.new.sink start (ps ++ l))) (sym out) (c.pass.ensures.ok start ps h)

pub returns-in-Other-clause-stands : goal.returns-in-Other-clause-stands
returns-in-Other-clause-stands g c = λ cfg x b.
    let past = x.read in
    let p = c.args.packet.now in
    let filed = held c.args.library.now in
    let k = setting_of cfg filed in
    let b' : IsFollowedAs c.args.self.now places.Other cfg filed p x = subst (λ place. IsFollowedAs c.args.self.now place cfg filed p x) c.in-Other.is b in
    let r = passes cfg filed p past b'.place_is in
    let out : puts_next k x p ≡ p ∷ [] = other-next k x p r.map r.cue r.other in
    let clean = clean-more (reading_cues cfg) p past b.clean b.sound in
    on_ok_more c.pass.result
    (λ put. record {
      cue_pid = b.cue_pid;
      follower = b.follower;
      clean = clean;
      playing = plays-quiet c.args.self.now.playing k p past r.cue r.other (separate k (p ∷ past) clean).few x.counted b.playing;
      numbers = record { passed = p ∷ b.numbers.passed; put = put; go_on = passed-goes-on k x p (p ∷ []) b.numbers.passed out b.numbers.go_on };
      whole = b.whole;
    })
    (c.pass.ensures.numbers b.numbers.passed b.numbers.put)

pub returns-in-Other-clause-err : goal.returns-in-Other-clause-err
returns-in-Other-clause-err g c = λ start ps cfg x h b.
    let past = x.read in
    let p = c.args.packet.now in
    let filed = held c.args.library.now in
    let k = setting_of cfg filed in
    let b' : IsFollowedAs c.args.self.now places.Other cfg filed p x = subst (λ place. IsFollowedAs c.args.self.now place cfg filed p x) c.in-Other.is b in
    let r = passes cfg filed p past b'.place_is in
    let out : puts_next k x p ≡ p ∷ [] = other-next k x p r.map r.cue r.other in
    if_err_more c.pass.result (λ f y. record { put = []; packet = p; left = []; all = out; fault = rw append-nil y }) (c.pass.ensures.err start ps h)
