use Rattle.std.proofs.Common.{rules, ◌≡◌, Some, [], ◌∷◌, ◌++◌, true, sym, ap, subst, ◌∙◌}
use Rattle.std.specs.Prelude.{OnOk}
use Rattle.std.proofs.lemmas.Result.{on_ok_weaker}
use Rattle.ts_packet.specs.Fields.{marked, in_error}
use Rattle.program_follower.specs.Purposes.{reading_cues}
use Rattle.program_follower.specs.Streaming.{place_in}
use Rattle.ad_library.specs.Library.{held}
use Rattle.splice_plans.specs.Adverts.{setting_of}
use Rattle.splice_plans.specs.Switching.{switched_at}
use Rattle.splice_plans.specs.Stepping.{journey_past, puts_next, journey_next}
use Rattle.splice_switch.specs.Standing.{SwitchStandsAt}
use Rattle.splice_switch.proofs.BesideLemmas.{marked-error, marked-next, through-is, through-puts, on-stream, kept-is, kept-puts}
use Rattle.chain_engine.specs.Unjudged.{put_behind, RestoringHolds}
use Rattle.chain_engine.proofs.RestoringLemmas.{restoring_begins, restoring_ends, restored-marked}
use Rattle.chain_engine.proofs.unjudged.put_unjudged.Goals as goal

-- beside, on the PID of a switched stream
pub returns-in-Ok-clause-goes_on : goal.returns-in-Ok-clause-goes_on
returns-in-Ok-clause-goes_on g c = λ d x h.
    let filed = held c.args.library.now in
    let k = setting_of d filed in
    let p = c.args.packet.now in
    let n = c.in-Some.stream in
    let some : Some n ≡ place_in (switched_at k x.read) p = sym c.in-Some.is ∙ c.stream_of.ensures.follows (reading_cues d) x.read h.follower in
    let error : in_error c.marked.result ≡ true = ap in_error c.marked.ensures ∙ marked-error p in
    let past = subst (λ q. SwitchStandsAt c.follow.new.self d filed (journey_past k x q)) c.marked.ensures (c.in-Ok.ensures.stands d filed x error h) in
    let i = on-stream d filed p x n some h.clean past.clean in
    let now = subst (SwitchStandsAt c.put_beside.new.self d filed) (kept-is d filed p x n some h.clean) (c.put_beside.ensures.stands d filed (journey_past k x (marked p)) i past) in
    on_ok_weaker c.put_beside.result (λ _. now) c.put_beside.ensures.well

pub returns-in-Ok-clause-puts : goal.returns-in-Ok-clause-puts
returns-in-Ok-clause-puts g c = λ d x start ps h is_held.
    let filed = held c.args.library.now in
    let k = setting_of d filed in
    let p = c.args.packet.now in
    let n = c.in-Some.stream in
    let some : Some n ≡ place_in (switched_at k x.read) p = sym c.in-Some.is ∙ c.stream_of.ensures.follows (reading_cues d) x.read h.follower in
    let error : in_error c.marked.result ≡ true = ap in_error c.marked.ensures ∙ marked-error p in
    let past = subst (λ q. SwitchStandsAt c.follow.new.self d filed (journey_past k x q)) c.marked.ensures (c.in-Ok.ensures.stands d filed x error h) in
    let i = on-stream d filed p x n some h.clean past.clean in
    subst (λ q. OnOk c.put_beside.result (g.K.PacketSink.holds c.put_beside.new.sink start (ps ++ q ∷ []))) (kept-puts d filed p x n some h.clean i)
    (c.put_beside.ensures.puts start ps d filed (journey_past k x (marked p)) i is_held past)

-- through the switch as it is read
pub returns-in-Ok-feed_with_same-clause-goes_on : goal.returns-in-Ok-feed_with_same-clause-goes_on
returns-in-Ok-feed_with_same-clause-goes_on g c = λ d x h.
    let filed = held c.args.library.now in
    let k = setting_of d filed in
    let p = c.args.packet.now in
    let none = sym c.in-None.is ∙ c.stream_of.ensures.follows (reading_cues d) x.read h.follower in
    let next = subst (λ q. SwitchStandsAt c.feed_with_same.new.self d filed (journey_next k x q)) c.marked-in-None.ensures (c.in-Ok-feed_with_same.ensures.goes_on d x h) in
    subst (SwitchStandsAt c.feed_with_same.new.self d filed) (through-is d filed p x none) next

pub returns-in-Ok-feed_with_same-clause-puts : goal.returns-in-Ok-feed_with_same-clause-puts
returns-in-Ok-feed_with_same-clause-puts g c = λ d x start ps h is_held.
    let filed = held c.args.library.now in
    let k = setting_of d filed in
    let p = c.args.packet.now in
    let none = sym c.in-None.is ∙ c.stream_of.ensures.follows (reading_cues d) x.read h.follower in
    let holds = g.K.PacketSink.holds in
    let sink = c.feed_with_same.new.sink in
    let leads = c.in-Ok-feed_with_same.ensures.leads in
    let begins = restoring_begins holds p start c.args.out.now ps is_held in
    let put = c.in-Ok-feed_with_same.ensures.puts start (put_behind ps []) d x begins h in
    let one = subst (λ q. RestoringHolds holds sink.packet.now sink.out.now start (put_behind ps [] ++ puts_next k x q)) c.marked-in-None.ensures put in
    let two = subst (λ l. RestoringHolds holds sink.packet.now sink.out.now start (put_behind ps [] ++ l)) (marked-next d filed p x) one in
    let here = subst (λ w. RestoringHolds holds w sink.out.now start (put_behind ps [] ++ marked p ∷ [])) leads.1 two in
    let out = restoring_ends holds p start sink.out.now ps (marked p ∷ []) here in
    let is_out = subst (λ q. holds sink.out.now start (ps ++ q ∷ [])) (restored-marked p (marked p) (marked-error p) ∙ sym (through-puts d filed p x none)) out in
    let out_name = leads.0 in
    search (rules, is_out, out_name)
