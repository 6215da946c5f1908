use Rattle.std.proofs.Common.{Result, Ok, Err, OnOk, ◌≡◌, [], ◌∷◌, ◌++◌, if◌then◌else◌, sym, ap, subst, ◌∙◌}
use Rattle.std.proofs.lemmas.Result.{on_ok_weaker}
use Rattle.ad_library.specs.Library.{held}
use Rattle.splice_plans.specs.Adverts.{setting_of}
use Rattle.splice_switch.specs.Standing.{SwitchStandsAt}
use Rattle.chain_engine.specs.Airing.{judged, unjudged}
use Rattle.chain_engine.specs.Switched.{journey_of, switched_for}
use Rattle.chain_engine.specs.Chained.{fed_as}
use Rattle.chain_engine.specs.Nested.{FeedingHolds}
use Rattle.chain_engine.proofs.NestedLemmas.{all_fed, all_sent, feeding_takes}
use Rattle.chain_engine.proofs.unjudged.BesidePacketSink.put.Goals.{then-error, else-error+in-Ok, else-error+in-Err}
use Rattle.chain_engine.proofs.unjudged.BesidePacketSink.put.Goals as goal

on-both : {T E : Type 0} (P Q : Type 0) (r : Result T E) → OnOk r P → OnOk r Q → OnOk r (P × Q)
on-both P Q (Ok v) p q = (p, q)
on-both P Q (Err e) p q = tt

pub returns-clause-ok : goal.returns-clause-ok
returns-clause-ok g c = λ start ps h.
    let d = c.args.self.now.config.now in
    let filed = held c.args.self.now.library.now in
    let k = setting_of d filed in
    let q = c.args.self.now.packet.now in
    let p = c.args.packet.now in
    let holds = g.K.PacketSink.holds in
    let as_fed = fed_as (unjudged q) in
    let switch = c.args.self.now.switch.now in
    let out = c.args.self.now.out.now in
    let fed = all_fed holds d filed start as_fed switch out ps h in
    let sent = all_sent holds d filed start as_fed switch out ps h in
    let x = journey_of k fed in
    elim c.if-error.branch [
      | then-error w ↦
          let is : as_fed p ≡ unjudged q = ap (λ b. if b then unjudged q else judged p) (sym c.error.ensures ∙ w.if-error.true) in
          let put = w.put_unjudged-put in
          let both = on-both _ _ put.result (put.ensures.goes_on d x h.stands) (put.ensures.puts d x start sent h.stands h.sent) in
          let done = on_ok_weaker put.result
          (λ two. feeding_takes holds d filed start as_fed switch put.new.switch out put.new.out ps p h
          (subst (λ a. SwitchStandsAt put.new.switch d filed (journey_of k (a ∷ fed))) (sym is) two.0) (subst (λ a. holds put.new.out start (sent ++ switched_for k x a)) (sym is) two.1)) both in
          let here = subst (λ s. OnOk put.result (FeedingHolds holds (fed_as (unjudged s.packet.now)) s.switch.now s.config.now (held s.library.now) s.out.now start (ps ++ p ∷ []))) (sym w.self-is) done in
          subst (λ r. OnOk r (FeedingHolds holds (fed_as (unjudged c.if-error.self.packet.now)) c.if-error.self.switch.now c.if-error.self.config.now (held c.if-error.self.library.now) c.if-error.self.out.now start (ps ++ p ∷ []))) (sym w.put-is) here
      | else-error+in-Ok w ↦
          let is : as_fed p ≡ judged p = ap (λ b. if b then unjudged q else judged p) (sym c.error.ensures ∙ w.if-error.false) in
          let feed = w.feed_with_same in
          let done = feeding_takes holds d filed start as_fed switch feed.new.self out feed.new.sink ps p h
          (subst (λ a. SwitchStandsAt feed.new.self d filed (journey_of k (a ∷ fed))) (sym is) (w.in-Ok.ensures.goes_on d x h.stands))
          (subst (λ a. holds feed.new.sink start (sent ++ switched_for k x a)) (sym is) (w.in-Ok.ensures.puts start sent d x h.sent h.stands)) in
          let here = subst (λ s. FeedingHolds holds (fed_as (unjudged s.packet.now)) s.switch.now s.config.now (held s.library.now) s.out.now start (ps ++ p ∷ [])) (sym w.self-is) done in
          subst (λ r. OnOk r (FeedingHolds holds (fed_as (unjudged c.if-error.self.packet.now)) c.if-error.self.switch.now c.if-error.self.config.now (held c.if-error.self.library.now) c.if-error.self.out.now start (ps ++ p ∷ []))) (sym w.put-is) here
      | else-error+in-Err w ↦
          subst (λ r. OnOk r (FeedingHolds holds (fed_as (unjudged c.if-error.self.packet.now)) c.if-error.self.switch.now c.if-error.self.config.now (held c.if-error.self.library.now) c.if-error.self.out.now start (ps ++ p ∷ []))) (sym w.put-is) tt
    ]
