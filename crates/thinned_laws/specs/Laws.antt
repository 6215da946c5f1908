-- The laws of runs that differ in nothing but their cues.
use Rattle.std.specs.Prelude.{◌≡◌, ℕ, List, ◌∷◌, reverse, Option, None}
use Rattle.psi_tables.specs.declared.config.Config.{Config}
use Rattle.program_follower.specs.Faults.{first_fault}
use Rattle.program_follower.specs.Purposes.{reading_cues}
use Rattle.ad_library.specs.Advertisements.{Advertisement}
use Rattle.injector.specs.Steps.{Step, Packet, turns_in, cued}
use Rattle.cue_laws.specs.Events.{Turn as LineTurn}
use Rattle.cue_laws.specs.Laws.{KeepsEnoughOf}
use Rattle.path_laws.specs.Path.{asked_line}
use Rattle.path_laws.specs.Packets.{IsRunOf, stream, BringsCues}
use Rattle.path_laws.specs.Thinning.{IsThinned}
use Rattle.splice_plans.specs.Adverts.{setting_of}
use Rattle.splice_plans.specs.Switching.{Setting, switched_past, spliced_network}
use Rattle.splice_plans.specs.Reporting.{report_of}
use Rattle.thinned_laws.specs.Beside.{Beside, one_run, other_run, DifferOn, CuesAreApart, AgreeAlong, AgreeAtTheEnd}

-- THE LAW OF EQUAL EVENTS: where the events agree that are reached, with each packet of a switched stream, what goes out is the same
abbrev pub SameEventsSameOutput : Type 0
SameEventsSameOutput = (k : Setting) (rows : List Beside) → CuesAreApart k (one_run rows) → DifferOn k.cue_pid rows → AgreeAlong k rows →
    switched_past k (one_run rows) ≡ switched_past k (other_run rows)

-- the reports count the same events; of the cues that are ignored there may be more or fewer
pub record CountedAlike (k : Setting) (past other : List (List ℕ)) : Type 0 where
  pub played : (report_of k past).played ≡ (report_of k other).played
  pub not_fitted : (report_of k past).not_fitted ≡ (report_of k other).not_fitted
  pub unconditioned : (report_of k past).unconditioned ≡ (report_of k other).unconditioned

-- THE SAME IN THE END: the whole outputs are the same bytes, and the reports count the same events
pub record SplicedAlike (k : Setting) (past other : List (List ℕ)) : Type 0 where
  pub output : spliced_network k (reverse past) ≡ spliced_network k (reverse other)
  pub counted : CountedAlike k past other

-- so it is where, in the end, all events agree that are not cancelled
abbrev pub SameEventsSameNetwork : Type 0
SameEventsSameNetwork = (k : Setting) (rows : List Beside) → CuesAreApart k (one_run rows) → DifferOn k.cue_pid rows → AgreeAlong k rows → AgreeAtTheEnd k rows →
    SplicedAlike k (one_run rows) (other_run rows)

-- ---- cues that are lost or doubled

-- THE STREAM WITH WHAT IS LEFT of the cues has no fault for those who read them
abbrev pub LeftIsFaultless : Type 0
LeftIsFaultless = (c : Config) (copies : List LineTurn → ℕ) (fronts : List ℕ → List (List ℕ) → List (List ℕ)) (past : List Step) → IsRunOf c past → BringsCues c copies fronts past →
    first_fault (reading_cues c) (stream c fronts past) ≡ None

-- LOST CUES LEAVE NO TRACE: of a network without fault, any library, and any history that ends with a packet, where enough of the cues is left,
-- what a switch makes of the stream is what it makes of the cued stream itself, through any number of turns of the ring
abbrev pub LostCuesLeaveNoTrace : Type 0
LostCuesLeaveNoTrace = (c : Config) (filed : ℕ → Option Advertisement) (copies : List LineTurn → ℕ) (fronts : List ℕ → List (List ℕ) → List (List ℕ)) (p : List ℕ) (past : List Step) →
    IsRunOf c (Packet p ∷ past) → BringsCues c copies fronts (Packet p ∷ past) → KeepsEnoughOf copies (asked_line c.index (turns_in c.program (Packet p ∷ past))) →
    SplicedAlike (setting_of c filed) (stream c fronts (Packet p ∷ past)) (cued c (Packet p ∷ past))

-- so it is with the injector's packets of which some are left out, and some doubled on the spot
abbrev pub ThinnedCuesLeaveNoTrace : Type 0
ThinnedCuesLeaveNoTrace = (c : Config) (filed : ℕ → Option Advertisement) (copies : List LineTurn → ℕ) (fronts : List ℕ → List (List ℕ) → List (List ℕ)) (p : List ℕ) (past : List Step) →
    IsRunOf c (Packet p ∷ past) → IsThinned c copies fronts (Packet p ∷ past) →
    KeepsEnoughOf copies (asked_line c.index (turns_in c.program (Packet p ∷ past))) →
    SplicedAlike (setting_of c filed) (stream c fronts (Packet p ∷ past)) (cued c (Packet p ∷ past))
