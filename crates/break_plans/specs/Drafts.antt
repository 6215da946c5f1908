-- WHAT A LINE COMES TO: what becomes of it, and its request with the packet before which it comes.
use Rattle.std.specs.Prelude.{◌≡◌, ℕ, ◌+◌, ◌-◌, ◌*◌, ◌/◌, ◌%◌, ◌^◌, ◌<◌, ◌≤◌, min, Bool, true, Option, None, Some}
use Rattle.break_lists.specs.declared.line.Order.{Order}
use Rattle.break_lists.specs.declared.line.Order.TheVariants.{Play, Cancel, End}
use Rattle.break_lists.specs.declared.list.NumberedLine.{NumberedLine}
use Rattle.break_choices.specs.declared.pre_rolls.Mark.{Mark}
use Rattle.break_choices.specs.declared.placing.Placed.{Placed}
use Rattle.break_choices.specs.declared.endings.Ending.{Ending}
use Rattle.break_choices.specs.Cuts.{CutsBefore, named_time}
use Rattle.break_choices.specs.Placing.{IsPlaced, IsUnplaced}
use Rattle.break_choices.specs.Endings.{IsNearLength, BreakEndsAt, break_start}
use Rattle.break_scripts.specs.declared.request.PlacedRequest.{PlacedRequest}
use Rattle.scte104_codec.specs.declared.requests.SpliceRequest.{SpliceRequest}
use Rattle.ad_library.specs.Library.{held}
use Rattle.break_plans.specs.declared.fits.Fit.{Fit}
use Rattle.break_plans.specs.declared.planned.Edge.{Edge}
use Rattle.break_plans.specs.declared.planned.Outcome.{Outcome}
use Rattle.break_plans.specs.declared.planned.Outcome.TheVariants.{Starts, Ends, Cancels, Unplaced, Behind, Length}
use Rattle.break_plans.specs.declared.planned.Draft.{Draft}
use Rattle.break_plans.specs.declared.drafts.Setting.{Setting}
use Rattle.break_plans.specs.Times.{time_of}
use Rattle.break_plans.specs.Requests.{start_request, end_request, cancel_request}
use Rattle.break_plans.specs.Edges.{IsEdge}
use Rattle.break_plans.specs.Fits.{IsFit}
use Rattle.break_plans.specs.Openings.{opens_continued}
use Rattle.break_plans.specs.Marks.{first_past}

-- the number of an event: that of its line, where it is given none
abbrev pub event_of : ℕ → Option ℕ → ℕ
event_of number None = number % 2 ^ 32
event_of number (Some event) = event

-- a number in 64 bits
abbrev pub bounded : ℕ → ℕ
bounded n = min n (2 ^ 64 - 1)

-- this request comes before the packet of this mark
abbrev pub asked_at : Mark → SpliceRequest → Option PlacedRequest
asked_at m r = Some (record { packet = m.packet; request = r })

-- ---- a break

-- A BREAK that is asked for at a time, of this event, advertisement and length in milliseconds: it starts at the first entry
-- picture from the time on, past the picture before it and not past it, and ends as chosen; the request names just that
pub record IsBreak (s : Setting) (at event advert long : ℕ) (d : Draft) : Type 0 where
  pub placed : Placed
  pub ending : Ending
  pub start : ℕ
  pub stop : ℕ
  pub start_edge : Edge
  pub end_edge : Edge
  pub fit : Fit
  pub is_continued : Bool
  pub is_placed : IsPlaced s.pictures.now s.marks.now at placed
  pub ends : BreakEndsAt s.pictures.now placed long ending
  pub starts_at : start ≡ bounded (break_start placed ending)
  pub stops_at : stop ≡ bounded (start + 9000 * ending.tenths)
  pub is_start : IsEdge s.pictures.now placed.picture.time (Some placed.picture) start_edge
  pub is_end : IsEdge s.pictures.now stop ending.clean end_edge
  pub fits : IsFit (held s.library.now advert) s.streams.now (9000 * ending.tenths) fit
  pub opens : is_continued ≡ opens_continued (held s.library.now advert) s.streams.now (9000 * ending.tenths)
  pub outcome : d.outcome ≡ Starts event advert start placed.picture.time ending.tenths start_edge end_edge fit is_continued
  pub request : d.request ≡ asked_at placed.mark (start_request event advert ending.pre_roll ending.tenths)

-- no length of 1 to 65,535 tenths of a second is within half a second of it
abbrev pub IsNoLength : ℕ → Type 0
IsNoLength long = (tenths : ℕ) → tenths ≡ (long + 50) / 100 → IsNearLength tenths long → ⊥

-- or it is not made
abbrev pub IsBreakOrNone : Setting → ℕ → ℕ → ℕ → ℕ → Draft → Outcome → Type 0
IsBreakOrNone s at event advert long d (Starts a b c e f g h i j) = IsBreak s at event advert long d
IsBreakOrNone s at event advert long d (Unplaced why) = IsUnplaced s.pictures.now s.marks.now at why × (d.request ≡ None)
IsBreakOrNone s at event advert long d Length = IsNoLength long × (d.request ≡ None)
IsBreakOrNone s at event advert long d (Ends a b c e) = ⊥
IsBreakOrNone s at event advert long d (Cancels a) = ⊥
IsBreakOrNone s at event advert long d Behind = ⊥

-- ---- an early end

-- AN EARLY END of this event at a time: the break ends at the first entry picture from the time on, past the picture before it
-- and not past it
pub record IsEarlyEnd (s : Setting) (at event : ℕ) (d : Draft) : Type 0 where
  pub placed : Placed
  pub stop : ℕ
  pub edge : Edge
  pub is_placed : IsPlaced s.pictures.now s.marks.now at placed
  pub cuts : CutsBefore s.pictures.now placed.picture (named_time placed.mark.high placed.pre_rolls.most)
  pub stops_at : stop ≡ bounded (named_time placed.mark.high placed.pre_rolls.most)
  pub is_edge : IsEdge s.pictures.now placed.picture.time (Some placed.picture) edge
  pub outcome : d.outcome ≡ Ends event stop placed.picture.time edge
  pub request : d.request ≡ asked_at placed.mark (end_request event placed.pre_rolls.most)

abbrev pub IsEndOrNone : Setting → ℕ → ℕ → Draft → Outcome → Type 0
IsEndOrNone s at event d (Ends a b c e) = IsEarlyEnd s at event d
IsEndOrNone s at event d (Unplaced why) = IsUnplaced s.pictures.now s.marks.now at why × (d.request ≡ None)
IsEndOrNone s at event d (Starts a b c e f g h i j) = ⊥
IsEndOrNone s at event d Length = ⊥
IsEndOrNone s at event d (Cancels a) = ⊥
IsEndOrNone s at event d Behind = ⊥

-- ---- a cancel

-- A CANCEL comes before the packet of the first mark whose greatest time is not before its time
abbrev pub cancelled : ℕ → Option Mark → Draft
cancelled event None = record { outcome = Behind; request = None }
cancelled event (Some m) = record { outcome = Cancels event; request = asked_at m (cancel_request event) }

-- ---- a line

abbrev pub IsOrder : Setting → ℕ → ℕ → Order → Draft → Type 0
IsOrder s number at (Play length advert event) d = IsBreakOrNone s at (event_of number event) advert length d d.outcome
IsOrder s number at (Cancel event) d = d ≡ cancelled event (first_past at s.marks.now)
IsOrder s number at (End event) d = IsEndOrNone s at event d d.outcome

-- WHAT THE LINE COMES TO
abbrev pub IsDraft : Setting → NumberedLine → Draft → Type 0
IsDraft s l d = IsOrder s l.number (time_of s.first l.line.at) l.line.order d
