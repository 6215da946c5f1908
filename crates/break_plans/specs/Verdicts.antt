-- Requests that were judged.
use Rattle.std.specs.Prelude.{ℕ, List, [], ◌∷◌, ◌==◌, if◌then◌else◌, Option, None, Some}
use Rattle.break_scripts.specs.declared.request.PlacedRequest.{PlacedRequest}
use Rattle.break_plans.specs.declared.planned.Verdict.{Verdict}
use Rattle.break_plans.specs.declared.planned.Verdict.TheVariants.{Taken, Refused, Crowded}
use Rattle.break_plans.specs.declared.planned.Judged.{Judged}

-- the verdict on the line of this place
abbrev pub verdict_at : ℕ → List Judged → Option Verdict
verdict_at place [] = None
verdict_at place (j ∷ js) = if j.place == place then Some j.verdict else verdict_at place js

-- before these requests, the one that was judged, where it is taken
abbrev pub with_taken : Verdict → PlacedRequest → List PlacedRequest → List PlacedRequest
with_taken Taken r rs = r ∷ rs
with_taken (Refused number) r rs = rs
with_taken Crowded r rs = rs

-- THE REQUESTS that are taken, in their order
abbrev pub taken : List Judged → List PlacedRequest
taken [] = []
taken (j ∷ js) = with_taken j.verdict j.placed (taken js)
