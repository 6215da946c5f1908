use Rattle.std.proofs.Common.{ℕ, List, [], ◌++◌, Option, Some, refl, sym, ap, subst}
use Rattle.std.proofs.lemmas.Result.{IfOk-weaker}
use Rattle.program_follower.specs.Purposes.{reading_cues}
use Rattle.ad_library.specs.Advertisements.{Advertisement}
use Rattle.ad_library.specs.Library.{held}
use Rattle.splice_switch.specs.Standing.{SwitchStandsFor}
use Rattle.chain_engine.specs.Stages.{SpliceEnds}
use Rattle.chain_engine.specs.Splices.{Spliced}
use Rattle.chain_engine.proofs.StageLemmas.{splices_all}
use Rattle.on_air.specs.Plain.{IsSound}
use Rattle.on_air.specs.AirRuns.{TellsStretches}
use Rattle.on_air.specs.AirSplices.{SplicedOnAir}
use Rattle.run_events.proofs.air_runs.splice_told_on_air.Goals as goal

pub returns-clause-sound : goal.returns-clause-sound
returns-clause-sound g c = λ start before bs is_held given sound.
    let stage = c.new-stage.result in
    let cfg = stage.config in
    let filed = held stage.library.now in
    let library = ap held c.new-stage.ensures.library in
    let config = c.new-stage.ensures.config in
    let stands = subst (λ w. SwitchStandsFor stage.switch w filed []) (sym config) (c.new-stage.ensures.switch filed) in
    let is_out = (λ (qs : List (List ℕ)). g.K.PacketSink.holds c.run_air_told.new.out start (before ++ qs)) in
    let faultless = subst (λ w. IsSound (reading_cues w) bs) (sym config) sound in
    let ran = c.run_air_told.ensures.sound start before bs (λ kept. (refl, record { stands = stands; sent = refl })) is_held given faultless in
    IfOk-weaker c.run_air_told.result _ _ (λ told w.
    let all = splices_all c.run_air_told.new.stage is_out cfg filed (λ ps sent report end. SpliceEnds cfg filed ps sent report) (λ ps sent report e. e) (Some bs) w.report (record {
      sound = faultless;
      sent = w.sent;
      ends_so = w.ends_so;
      out = w.out;
    }) in
    record {
      report = w.report;
      ran_so = subst (λ (v : ℕ → Option Advertisement). Spliced c.args.config v bs is_out w.report) library
          (subst (λ x. Spliced x filed bs is_out w.report) config all);
      tells = w.tells;
    }) ran

pub returns-clause-stretches : goal.returns-clause-stretches
returns-clause-stretches g c = λ start before bs is_held given.
    let stage = c.new-stage.result in
    let filed = held stage.library.now in
    let config = c.new-stage.ensures.config in
    let stands = subst (λ w. SwitchStandsFor stage.switch w filed []) (sym config) (c.new-stage.ensures.switch filed) in
    IfOk-weaker c.run_air_told.result _ _ (λ told w. subst (λ x. TellsStretches told (reading_cues x) bs) config w)
    (c.run_air_told.ensures.stretches (reading_cues stage.config) start before bs refl (λ kept. (refl, record { stands = stands; sent = refl })) is_held given)

pub returns-clause-out : goal.returns-clause-out
returns-clause-out g c = λ start before bs is_held given.
    let stage = c.new-stage.result in
    let filed = held stage.library.now in
    let library = ap held c.new-stage.ensures.library in
    let config = c.new-stage.ensures.config in
    let stands = subst (λ w. SwitchStandsFor stage.switch w filed []) (sym config) (c.new-stage.ensures.switch filed) in
    let is_out = (λ (qs : List (List ℕ)). g.K.PacketSink.holds c.run_air_told.new.out start (before ++ qs)) in
    IfOk-weaker c.run_air_told.result _ _ (λ told w.
    let all : SplicedOnAir stage.config filed bs is_out told.report = record {
      last = w.last;
      told = w.told;
      written = subst is_out (sym w.tells_so.sent_so) w.out;
      told_so = w.tells_so.told_so;
      last_so = w.tells_so.last_so;
      counted = w.summed_so;
    } in
    subst (λ (v : ℕ → Option Advertisement). SplicedOnAir c.args.config v bs is_out told.report) library
    (subst (λ x. SplicedOnAir x filed bs is_out told.report) config all))
    (c.run_air_told.ensures.out (reading_cues stage.config) start before bs refl tt (λ kept. (refl, record { stands = stands; sent = refl })) is_held given)
