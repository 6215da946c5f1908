-- What is told of a run: the lines of a program, and how many of them say what became of its breaks.
use Rattle.std.specs.Prelude.{◌≡◌, ℕ, zero, suc, ◌+◌, List, [], ◌∷◌, map, None}
use Rattle.chain_engine.specs.declared.hearing.SessionEnd.TheVariants.{BadSize}
use Rattle.run_events.specs.declared.occurrence.What.{What}
use Rattle.run_events.specs.declared.occurrence.What.TheVariants.{Played, NotFitted, Unconditioned, Session}
use Rattle.run_events.specs.declared.occurrence.Occurrence.{Occurrence}
use Rattle.run_events.specs.declared.watch.Site.{Site}

-- this happened there
abbrev pub at : Site → What → Occurrence
at site what = record { service = site.service; packet = site.packet; what = what }

-- 1 where a line says that a break was counted as played
abbrev pub tells_played : What → ℕ
tells_played (Played event) = 1
tells_played _ = 0

-- 1 where a line says that a break was counted as not fitted
abbrev pub tells_not_fitted : What → ℕ
tells_not_fitted (NotFitted event why) = 1
tells_not_fitted _ = 0

-- 1 where a line says that a played break was counted as unconditioned
abbrev pub tells_unconditioned : What → ℕ
tells_unconditioned (Unconditioned event) = 1
tells_unconditioned _ = 0

-- how many lines of a list are of a kind
abbrev pub lines_that : (What → ℕ) → List What → ℕ
lines_that kind [] = 0
lines_that kind (what ∷ whats) = kind what + lines_that kind whats

-- One who listens was told some lines of there between these states: so many say that a break was counted as played, as not fitted and as
-- unconditioned.
pub record Tells {W : Type 0} (hears : W → List Occurrence → W → Type 0) (site : Site) (first : W)
    (played not_fitted unconditioned : ℕ) (now : W) : Type 0 where
  pub lines : List What
  pub heard : hears first (map (at site) lines) now
  pub are_played : lines_that tells_played lines ≡ played
  pub are_not_fitted : lines_that tells_not_fitted lines ≡ not_fitted
  pub are_unconditioned : lines_that tells_unconditioned lines ≡ unconditioned

-- what is told behind a run of an automation that has ended so many sessions for a size that no message has, where no request is told
abbrev pub closed_lines : ℕ → List Occurrence
closed_lines zero = []
closed_lines (suc n) = record { service = None; packet = 0; what = Session BadSize } ∷ []
