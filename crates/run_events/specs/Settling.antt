-- How a break that is settled is counted, and the lines that are told of those that are.
use Rattle.std.specs.Prelude.{ℕ, zero, suc, List, [], ◌∷◌, ◌++◌, filter, Bool, false, not, ◌&&◌, is_some, is_none, slice_get, Option, None, Some, option_map}
use Rattle.event_table.specs.declared.event.Event.{Event}
use Rattle.run_events.specs.declared.misfit.Misfit.{Misfit}
use Rattle.run_events.specs.declared.followed.Followed.{Followed}
use Rattle.run_events.specs.declared.occurrence.What.{What}
use Rattle.run_events.specs.declared.occurrence.What.TheVariants.{Played, NotFitted, Unconditioned}
use Rattle.run_events.specs.declared.tracker.Counted.{Counted}
use Rattle.run_events.specs.declared.tracker.Counted.TheVariants.{Played as AsPlayed, NotFitted as AsNotFitted, Unconditioned as AsUnconditioned}

-- an event as it was asked for: with its length then, and not cancelled
abbrev pub asked_for : Event → Event
asked_for event = record event { length = event.asked; cancelled = false }

-- it was not cancelled, and its advertisement fits
abbrev pub is_played : Followed → Bool
is_played one = not one.event.cancelled && is_none one.misfit

-- it was not cancelled, and its advertisement does not fit
abbrev pub is_not_fitted : Followed → Bool
is_not_fitted one = not one.event.cancelled && is_some one.misfit

-- it is played, and was crossed
abbrev pub is_unconditioned : Followed → Bool
is_unconditioned one = is_played one && one.is_crossed

-- a break is counted so
abbrev pub counts_so : Counted → Followed → Bool
counts_so AsPlayed one = is_played one
counts_so AsNotFitted one = is_not_fitted one
counts_so AsUnconditioned one = is_unconditioned one

-- the event of a break that is known, and what kept its advertisement from fitting
abbrev pub event_in : Option Followed → Option Event
event_in one = option_map (λ f. f.event) one

abbrev pub misfit_in : Option Followed → Option Misfit
misfit_in None = None
misfit_in (Some one) = one.misfit

-- THE LINE of a break that is counted so
abbrev pub told_as : Counted → Option Followed → What
told_as AsPlayed one = Played (event_in one)
told_as AsNotFitted one = NotFitted (event_in one) (misfit_in one)
told_as AsUnconditioned one = Unconditioned (event_in one)

-- THE LINES of so many breaks that are counted so: of those of these in their order, each once, and past them of breaks that are not known
abbrev pub settled_lines : Counted → List Followed → ℕ → List What
settled_lines kind gone zero = []
settled_lines kind gone (suc n) = settled_lines kind gone n ++ (told_as kind (slice_get (filter (counts_so kind) gone) n) ∷ [])
