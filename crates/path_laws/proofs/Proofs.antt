-- The laws.
use Rattle.std.proofs.Common.{◌≡◌, ◌↔◌, ℕ, inl, inr, refl, sym, ap, ◌∙◌, subst, List, [], ◌∷◌, ◌++◌, arith}
use Rattle.std.specs.Prelude.{ℤ, pos, ◌+ℤ◌, Option, None, Some, Result, Ok, Err}
use Rattle.std.proofs.lemmas.Int.{ints}
use Rattle.scte104_codec.specs.declared.requests.SpliceRequest.{SpliceRequest}
use Rattle.event_table.specs.Standing.{Standing}
use Rattle.injector.specs.declared.refusal.Refusal.{Refusal}
use Rattle.injector.specs.Asking.{asked_of}
use Rattle.injector.specs.Verdicts.{verdict_of}
use Rattle.injector.specs.Turns.{Turn, Judged, Passed, greatest_in, standing, events}
use Rattle.injector.specs.Senders.{Sender, senders, events_in}
use Rattle.injector.proofs.SenderLemmas.{senders-events}
use Rattle.cue_laws.specs.Events.{Turn as LineTurn, LineEvent, Passed as LinePassed, upon}
use Rattle.cue_laws.specs.Events.{events as line_events}
use Rattle.cue_laws.specs.Thinning.{thinned}
use Rattle.cue_laws.specs.Cueing.{IsRun, cue_turns}
use Rattle.cue_laws.specs.Cueing.{senders as line_senders}
use Rattle.cue_laws.specs.Laws.{KeepsEnoughOf}
use Rattle.cue_laws.proofs.Path.{cue_path, cue_path_at_the_end}
use Rattle.cue_laws.proofs.Fair.{stand}
use Rattle.ts_packet.specs.Membership.{In}
use Rattle.path_laws.specs.Path.{Item, path, line, left, armed_on, line_asked, with_verdict, with_asked, asked_line, IsSteadyHistory}
use Rattle.path_laws.specs.Laws.{RequestsAreARun, CuesTellTheLine, CuePathOfEvents, CuePathOfEventsAtTheEnd}
use Rattle.path_laws.proofs.Alike.{Alike, alike-in, alike-back}
use Rattle.path_laws.proofs.Switch.{view, IsView}
use Rattle.path_laws.proofs.Reading.{AreNear, armed-alike, line-left, near-left}
use Rattle.path_laws.proofs.Senders.{view-senders}
use Rattle.path_laws.proofs.Requests.{stood}
use Rattle.path_laws.proofs.Sending.{Tells}
use Rattle.path_laws.proofs.Blocks.{SendersNamed, path-tells}
use Rattle.path_laws.proofs.Programs.{Named, program_at, programs-known, always-named, armed-named, named-left}

-- ---- the injector's events on the line

pub events-alike : (index : ℕ) (past : List Turn) → IsSteadyHistory index past → Alike IsView (events index past) (line_events (asked_line index past))
events-alike index past i =
    let s = stood index past i in
    subst (λ xs. Alike IsView xs (line_events (asked_line index past))) (senders-events index past)
    (subst (Alike IsView (events_in (senders index past))) (stand (asked_line index past) s.accepted).same (view-senders (greatest_in past) (senders index past) (line_senders (asked_line index past)) s.alike))

abbrev programs : ℕ → List Turn → ℤ → ℕ
programs index past = program_at (events index past)

events-named : (index : ℕ) (past : List Turn) → IsSteadyHistory index past → Named (programs index past) (events index past)
events-named index past i =
    programs-known (events index past) (line_events (asked_line index past)) (events-alike index past i) (stand (asked_line index past) (stood index past i).accepted).order.distinct

event-in : (x : Sender) (xs : List Sender) → In x xs → In x.event (events_in xs)
event-in x [] i = absurd i
event-in x (y ∷ xs) (inl is) = inl (ap (λ (z : Sender). z.event) is)
event-in x (y ∷ xs) (inr i) = inr (event-in x xs i)

senders-named : (index : ℕ) (past : List Turn) → IsSteadyHistory index past → SendersNamed (programs index past) (senders index past)
senders-named index past i x j = events-named index past i x.event (subst (In x.event) (senders-events index past) (event-in x (senders index past) j))

pub tells : (index : ℕ) (past : List Turn) → IsSteadyHistory index past → Tells (programs index past) (greatest_in past) (path index past) (cue_turns (asked_line index past))
tells index past i = path-tells (programs index past) index past i (always-named (programs index past) index past (senders-named index past i))

-- ---- one event on both sides

length-same : (start start' : ℤ) (a b : ℕ) → start ≡ start' → (start +ℤ pos a) ≡ (start' +ℤ pos b) → a ≡ b
length-same start start' a b same sum = omega (arith, ints, same, sum)

event-same : (s t : Standing) → view s ≡ view t → s.program ≡ t.program → s ≡ t
event-same s t v p =
    let start : s.start ≡ t.start = ap (λ (e : LineEvent). e.start) v in
    ap (λ i. record { id = i; start = s.start; length = s.length; asked = s.asked; program = s.program; cancelled = s.cancelled }) (ap (λ (e : LineEvent). e.id) v)
    ∙ ap (λ i. record { id = t.id; start = i; length = s.length; asked = s.asked; program = s.program; cancelled = s.cancelled }) start
    ∙ ap (λ i. record { id = t.id; start = t.start; length = i; asked = s.asked; program = s.program; cancelled = s.cancelled }) (length-same s.start t.start s.length t.length start (ap (λ (e : LineEvent). e.end) v))
    ∙ ap (λ i. record { id = t.id; start = t.start; length = t.length; asked = i; program = s.program; cancelled = s.cancelled }) (length-same s.start t.start s.asked t.asked start (ap (λ (e : LineEvent). e.asked) v))
    ∙ ap (λ i. record { id = t.id; start = t.start; length = t.length; asked = t.asked; program = i; cancelled = s.cancelled }) p
    ∙ ap (λ i. record { id = t.id; start = t.start; length = t.length; asked = t.asked; program = t.program; cancelled = i }) (ap (λ (e : LineEvent). e.cancelled) v)

-- an event of the one list whose view is in the other's views is in the other list, where both have the programs of one rule
moved : (program : ℤ → ℕ) (xs : List Standing) (ys : List LineEvent) → Alike IsView xs ys → Named program xs → (e : Standing) → e.program ≡ program e.start → In (view e) ys → In e xs
moved program xs ys a named e mine i =
    let r = alike-back IsView (view e) xs ys a i in
    let same : r.0 ≡ e = event-same r.0 e r.2 (named r.0 r.1 ∙ ap program (ap (λ (v : LineEvent). v.start) r.2) ∙ sym mine) in
    subst (λ z. In z xs) same r.1

seen : (xs : List Standing) (ys : List LineEvent) → Alike IsView xs ys → (e : Standing) → In e xs → In (view e) ys
seen xs ys a e i = let r = alike-in IsView e xs ys a i in subst (λ z. In z ys) (sym r.2) r.1

module _ (index : ℕ) (copies : List LineTurn → ℕ) (h : Option ℤ) (past : List Turn) (i : IsSteadyHistory index (Passed h ∷ past)) where
  abbrev all_here : List Turn
  all_here = Passed h ∷ past

  abbrev way : List Item
  way = left copies (path index all_here)

  way-near : AreNear way
  way-near = near-left copies (path index all_here) (tells index all_here i).near

  way-line : line way ≡ thinned copies (cue_turns (asked_line index all_here))
  way-line = line-left copies (path index all_here) ∙ ap (thinned copies) (tells index all_here i).line_is

  armed-here : Alike IsView (armed_on way) (line_events (thinned copies (cue_turns (asked_line index all_here))))
  armed-here = subst (λ l. Alike IsView (armed_on way) (line_events l)) way-line (armed-alike way way-near)

  armed-programs : Named (programs index all_here) (armed_on way)
  armed-programs = armed-named (programs index all_here) way way-near (named-left (programs index all_here) copies (path index all_here) (tells index all_here i).named)

  both-ways : (e : Standing) → (In (view e) (line_events (thinned copies (cue_turns (asked_line index all_here)))) ↔ In (view e) (line_events (asked_line index all_here)))
      → In e (armed_on way) ↔ In e (events index all_here)
  both-ways e law = (
    λ j. moved (programs index all_here) (events index all_here) (line_events (asked_line index all_here)) (events-alike index all_here i) (events-named index all_here i) e (armed-programs e j) (law.0 (seen (armed_on way) _ armed-here e j)),
    λ j. moved (programs index all_here) (armed_on way) (line_events (thinned copies (cue_turns (asked_line index all_here)))) armed-here armed-programs e (events-named index all_here i e j) (law.1 (seen (events index all_here) _ (events-alike index all_here i) e j)),
  )

-- ---- fronts

history-front : (index : ℕ) (later front : List Turn) → IsSteadyHistory index (later ++ front) → IsSteadyHistory index front
history-front index [] front i = i
history-front index (Judged m ∷ later) front i = history-front index later front i.1
history-front index (Passed h ∷ later) front i = history-front index later front i.1

abbrev IsUpon : List LineTurn → List LineTurn → Type 0
IsUpon front all = (more : List LineTurn) × (all ≡ upon more front)

verdict-upon : (h : Option ℤ) (r : SpliceRequest) (v : Result (Unit {0}) Refusal) (front rest : List LineTurn) → IsUpon front rest → IsUpon front (with_verdict h r v rest)
verdict-upon None r v front rest u = u
verdict-upon (Some h) r (Err e) front rest u = u
verdict-upon (Some h) r (Ok t) front rest u = (line_asked h r ∷ u.0, ap (λ l. line_asked h r ∷ l) u.1)

asked-upon : {A : Type 0} (h : Option ℤ) (standing : List Standing) (x : Result A Refusal) (request : A → SpliceRequest) (front rest : List LineTurn) → IsUpon front rest → IsUpon front (with_asked h standing x request rest)
asked-upon h standing (Ok a) request front rest u = verdict-upon h (request a) (verdict_of h standing (request a)) front rest u
asked-upon h standing (Err e) request front rest u = u

line-upon : (index : ℕ) (later front : List Turn) → IsUpon (asked_line index front) (asked_line index (later ++ front))
line-upon index [] front = ([], refl)
line-upon index (Judged m ∷ later) front =
    asked-upon (greatest_in (later ++ front)) (standing index (later ++ front)) (asked_of index m) (λ a. a.request) (asked_line index front) (asked_line index (later ++ front)) (line-upon index later front)
line-upon index (Passed h ∷ later) front = let u = line-upon index later front in (LinePassed h ∷ u.0, ap (λ l. LinePassed h ∷ l) u.1)

-- ---- the laws

pub requests_are_a_run : RequestsAreARun
requests_are_a_run index past i = (stood index past i).accepted

pub cues_tell_the_line : CuesTellTheLine
cues_tell_the_line index past i = (tells index past i).line_is

pub cue_path_of_events_at_the_end : CuePathOfEventsAtTheEnd
cue_path_of_events_at_the_end index copies h past i k e un =
    both-ways index copies h past i e (cue_path_at_the_end copies h (asked_line index past) (stood index (Passed h ∷ past) i).accepted k (view e) un)

pub cue_path_of_events : CuePathOfEvents
cue_path_of_events index copies h last past later i k e un reached =
    let front = Passed h ∷ past in
    let all = Passed last ∷ (later ++ front) in
    let u = line-upon index later front in
    let whole : asked_line index all ≡ LinePassed last ∷ upon u.0 (LinePassed h ∷ asked_line index past) = ap (λ l. LinePassed last ∷ l) u.1 in
    both-ways index copies h past (history-front index later front i.1) e
    (cue_path copies h (asked_line index past) u.0 last (subst IsRun whole (stood index all i).accepted) (subst (KeepsEnoughOf copies) whole k) (view e) un reached)
