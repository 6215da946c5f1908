-- What is told of the breaks that were settled between two reports.
use Rattle.std.proofs.Common.{◌≡◌, ℕ, ◌-◌, List, [], sym, subst, arith}
use Rattle.splice_plans.specs.declared.report.SwitchReport.{SwitchReport}
use Rattle.run_events.specs.declared.occurrence.Occurrence.{Occurrence}
use Rattle.run_events.specs.declared.watch.Site.{Site}
use Rattle.run_events.specs.Telling.{Tells}
use Rattle.run_events.proofs.TellingLemmas.{tells_nothing, tells_as}

-- by the same report
pub settled_so : {W : Type 0} (hears : W → List Occurrence → W → Type 0) (site : Site) (u w : W) (old now is : SwitchReport) → now ≡ is
    → Tells hears site u (is.played - old.played) (is.not_fitted - old.not_fitted) (is.unconditioned - old.unconditioned) w
    → Tells hears site u (now.played - old.played) (now.not_fitted - old.not_fitted) (now.unconditioned - old.unconditioned) w
settled_so hears site u w old now is e h =
    subst (λ (s : SwitchReport). Tells hears site u (s.played - old.played) (s.not_fitted - old.not_fitted) (s.unconditioned - old.unconditioned) w) (sym e) h

-- none was settled
pub settled_none : {W : Type 0} (hears : W → List Occurrence → W → Type 0) (site : Site) (u : W) (s : SwitchReport) → hears u [] u
    → Tells hears site u (s.played - s.played) (s.not_fitted - s.not_fitted) (s.unconditioned - s.unconditioned) u
settled_none hears site u s h =
    tells_as hears site u u 0 0 0 _ _ _ (omega arith) (omega arith) (omega arith) (tells_nothing hears site u h)
