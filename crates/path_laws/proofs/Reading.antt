-- What the switch makes of a path is what the definitions on the line make of it, and of what is left of it.
use Rattle.std.proofs.Common.{◌≡◌, ℕ, zero, suc, ◌^◌, ◌<◌, ◌≤◌, false, refl, sym, ap, ◌∙◌, subst, List, [], ◌∷◌}
use Rattle.std.specs.Prelude.{ℤ, pos, ◌+ℤ◌, ◌≤ℤ◌, map, Option, None, Some}
use Rattle.pes_time.specs.Line.{ring_of, lift, place}
use Rattle.pes_time.proofs.LineLemmas.{lift-only}
use Rattle.scte35_codec.specs.declared.cue_out.CueOut.{CueOut}
use Rattle.scte35_codec.specs.declared.cue_out.CueOut.TheVariants.{Start, Cancel, End}
use Rattle.scte35_codec.specs.Spelling.{cue_bytes, Fits}
use Rattle.scte35_codec.proofs.WrittenLemmas.{cue_back}
use Rattle.event_table.specs.Standing.{end_of}
use Rattle.armed_events.specs.Asking.{asked_of}
use Rattle.armed_events.specs.Arming.{Heard, change, start_change, end_change, changed, standing_at, with_section}
use Rattle.cue_laws.specs.Events.{Turn as LineTurn, Started, Passed, high, events, taken, NeverFalls, cancel_by, end_by}
use Rattle.unit_stream.specs.Clocks.{Rises}
use Rattle.cue_laws.specs.Thinning.{times, thinned}
use Rattle.injector.specs.Senders.{start_cue, end_cue, cancel_cue}
use Rattle.path_laws.specs.Path.{Item, Sent, Packet, high_on, line_of, line, left, heard_on, armed_on}
use Rattle.path_laws.specs.Telling.{IsClose, StartTells, EndTells, CancelTells}
use Rattle.path_laws.proofs.Alike.{Alike}
use Rattle.path_laws.proofs.Switch.{IsView, in-order, cancel-alike, end-alike, start-alike}

-- ---- one cue

pub placed : (h time : ℤ) → IsClose h time → place (Some h) (ring_of time) ≡ time
placed h time c = sym (lift-only h time c.low c.top)

pub start_tells : StartTells
start_tells h x fits close standing =
    ap (λ r. change (Some h) standing (asked_of r)) (cue_back (start_cue x) fits).1
    ∙ ap (λ t. start_change (Some h) standing (record { id = x.event.id; start = t; length = x.event.asked; asked = x.event.asked; program = x.event.program; cancelled = false })) (placed h x.event.start close)

pub end_tells : EndTells
end_tells h x fits close standing =
    ap (λ r. change (Some h) standing (asked_of r)) (cue_back (end_cue x) fits).1
    ∙ ap (end_change (Some h) standing x.event.id) (placed h (end_of x.event) close)

pub cancel_tells : CancelTells
cancel_tells latest x fits standing = ap (λ r. change latest standing (asked_of r)) (cue_back (cancel_cue x) fits).1

-- ---- paths in reach

-- a start is at most 2^29 past the greatest time and has a length of 1 to 2^30 ticks, and an early end is at most 2^29 past it
pub record IsStartNear (h : ℤ) (start : ℤ) (ticks : ℕ) : Type 0 where
  pub near : start ≤ℤ (h +ℤ pos (2 ^ 29))
  pub some : 0 < ticks
  pub most : ticks ≤ 2 ^ 30

abbrev pub IsNear : Option ℤ → CueOut → Type 0
IsNear None cue = ⊥
IsNear (Some h) (Start event time duration program avail expected avails) = IsStartNear h (lift h time) duration
IsNear (Some h) (Cancel event) = Unit {0}
IsNear (Some h) (End event time) = lift h time ≤ℤ (h +ℤ pos (2 ^ 29))

abbrev pub AreNear : List Item → Type 0
AreNear [] = Unit {0}
AreNear (Sent cue ∷ past) = Fits cue × IsNear (high_on past) cue × AreNear past
AreNear (Packet h ∷ past) = Rises (high_on past) h × AreNear past

pub high-line : (items : List Item) → high (line items) ≡ high_on items
high-line [] = refl
high-line (Sent (Start event time duration program avail expected avails) ∷ past) = high-line past
high-line (Sent (Cancel event) ∷ past) = high-line past
high-line (Sent (End event time) ∷ past) = high-line past
high-line (Packet h ∷ past) = refl

pub falls-line : (items : List Item) → AreNear items → NeverFalls (line items)
falls-line [] n = tt
falls-line (Sent (Start event time duration program avail expected avails) ∷ past) n = falls-line past n.2
falls-line (Sent (Cancel event) ∷ past) n = falls-line past n.2
falls-line (Sent (End event time) ∷ past) n = falls-line past n.2
falls-line (Packet h ∷ past) n = (subst (λ k. Rises k h) (sym (high-line past)) n.0, falls-line past n.1)

-- one cue more
cue-alike : (h : Option ℤ) (cue : CueOut) (heard : Heard) (past : List LineTurn) → Fits cue → IsNear h cue → high past ≡ h → NeverFalls past → Alike IsView heard.events (events past)
    → Alike IsView (with_section h (cue_bytes cue) heard).events (taken h (line_of h cue) (events past))
cue-alike None cue heard past fits near is falls a = absurd near
cue-alike (Some h) (Start event time duration program avail expected avails) heard past fits near is falls a =
    subst (λ r. Alike IsView (changed (Some h) (change (Some h) (standing_at (Some h) heard.events) (asked_of r)) heard.events) (taken (Some h) (Started event (lift h time) (lift h time +ℤ pos duration)) (events past)))
    (sym (cue_back (Start event time duration program avail expected avails) fits).1)
    (start-alike h event (lift h time) duration program near.near near.some near.most heard.events (events past) (rw is at (in-order past falls)) a)
cue-alike (Some h) (Cancel event) heard past fits near is falls a =
    subst (λ r. Alike IsView (changed (Some h) (change (Some h) (standing_at (Some h) heard.events) (asked_of r)) heard.events) (map (cancel_by (Some h) event) (events past)))
    (sym (cue_back (Cancel event) fits).1)
    (cancel-alike (Some h) event heard.events (events past) (rw is at (in-order past falls)) a)
cue-alike (Some h) (End event time) heard past fits near is falls a =
    subst (λ r. Alike IsView (changed (Some h) (change (Some h) (standing_at (Some h) heard.events) (asked_of r)) heard.events) (map (end_by (Some h) event (lift h time)) (events past)))
    (sym (cue_back (End event time) fits).1)
    (end-alike h event (lift h time) near heard.events (events past) (rw is at (in-order past falls)) a)

events-cue : (cue : CueOut) (past : List Item) → taken (high_on past) (line_of (high_on past) cue) (events (line past)) ≡ events (line (Sent cue ∷ past))
events-cue (Start event time duration program avail expected avails) past = ap (λ k. taken k (line_of (high_on past) (Start event time duration program avail expected avails)) (events (line past))) (sym (high-line past))
events-cue (Cancel event) past = ap (λ k. taken k (line_of (high_on past) (Cancel event)) (events (line past))) (sym (high-line past))
events-cue (End event time) past = ap (λ k. taken k (line_of (high_on past) (End event time)) (events (line past))) (sym (high-line past))

-- THE EVENTS that a path arms are those of the line
pub armed-alike : (items : List Item) → AreNear items → Alike IsView (armed_on items) (events (line items))
armed-alike [] n = refl
armed-alike (Sent cue ∷ past) n =
    subst (Alike IsView (armed_on (Sent cue ∷ past))) (events-cue cue past)
    (cue-alike (high_on past) cue (heard_on past) (line past) n.0 n.1 (high-line past) (falls-line past n.2) (armed-alike past n.2))
armed-alike (Packet h ∷ past) n = armed-alike past n.1

-- ---- what is left

pub high-times : (n : ℕ) (cue : CueOut) (items : List Item) → high_on (times n (Sent cue) items) ≡ high_on items
high-times zero cue items = refl
high-times (suc n) cue items = high-times n cue items

pub high-left : (copies : List LineTurn → ℕ) (items : List Item) → high_on (left copies items) ≡ high_on items
high-left copies [] = refl
high-left copies (Sent cue ∷ past) = high-times (copies (line (Sent cue ∷ past))) cue (left copies past) ∙ high-left copies past
high-left copies (Packet h ∷ past) = refl

line-times : (n : ℕ) (cue : CueOut) (items : List Item) → line (times n (Sent cue) items) ≡ times n (line_of (high_on items) cue) (line items)
line-times zero cue items = refl
line-times (suc n) cue items =
    ap (λ k. line_of k cue ∷ line (times n (Sent cue) items)) (high-times n cue items) ∙ ap (λ l. line_of (high_on items) cue ∷ l) (line-times n cue items)

thinned-cue : (copies : List LineTurn → ℕ) (h : Option ℤ) (cue : CueOut) (past : List LineTurn) → times (copies (line_of h cue ∷ past)) (line_of h cue) (thinned copies past) ≡ thinned copies (line_of h cue ∷ past)
thinned-cue copies h (Start event time duration program avail expected avails) past = refl
thinned-cue copies h (Cancel event) past = refl
thinned-cue copies h (End event time) past = refl

-- what is left of a path tells what is left of the line
pub line-left : (copies : List LineTurn → ℕ) (items : List Item) → line (left copies items) ≡ thinned copies (line items)
line-left copies [] = refl
line-left copies (Sent cue ∷ past) =
    let n = copies (line (Sent cue ∷ past)) in
    line-times n cue (left copies past)
    ∙ ap (λ k. times n (line_of k cue) (line (left copies past))) (high-left copies past)
    ∙ ap (times n (line_of (high_on past) cue)) (line-left copies past)
    ∙ thinned-cue copies (high_on past) cue (line past)
line-left copies (Packet h ∷ past) = ap (λ l. Passed h ∷ l) (line-left copies past)

near-times : (n : ℕ) (cue : CueOut) (items : List Item) → Fits cue → IsNear (high_on items) cue → AreNear items → AreNear (times n (Sent cue) items)
near-times zero cue items fits near all = all
near-times (suc n) cue items fits near all = (fits, subst (λ k. IsNear k cue) (sym (high-times n cue items)) near, near-times n cue items fits near all)

pub near-left : (copies : List LineTurn → ℕ) (items : List Item) → AreNear items → AreNear (left copies items)
near-left copies [] n = tt
near-left copies (Sent cue ∷ past) n =
    near-times (copies (line (Sent cue ∷ past))) cue (left copies past) n.0 (subst (λ k. IsNear k cue) (sym (high-left copies past)) n.1) (near-left copies past n.2)
near-left copies (Packet h ∷ past) n = (subst (λ k. Rises k h) (sym (high-left copies past)) n.0, near-left copies past n.1)
