-- All cues before a packet, and the whole path.
use Rattle.std.proofs.Common.{◌≡◌, ℕ, ◌==◌, Bool, true, false, cond, inl, inr, refl, sym, ap, ◌∙◌, subst, List, [], ◌∷◌, ◌++◌, arith}
use Rattle.std.specs.Prelude.{ℤ, pos, ◌+ℤ◌, ◌≤ℤ◌, int_lt, filter, Option, None, Some, Result, Ok, Err}
use Rattle.std.specs.List.{flat_map}
use Rattle.std.proofs.lemmas.Int.{ints}
use Rattle.std.proofs.lemmas.List.{append-nil}
use Rattle.std.proofs.lemmas.List.Elements.{filter-append}
use Rattle.std.proofs.lemmas.Grind.{flat_map-append}
use Rattle.std.proofs.lemmas.Bool.{and_left}
use Rattle.ts_packet.proofs.Cases.{by_test}
use Rattle.scte104_codec.specs.declared.requests.SpliceRequest.{SpliceRequest}
use Rattle.scte35_codec.specs.declared.cue_out.CueOut.{CueOut}
use Rattle.event_table.specs.Standing.{Standing, end_of}
use Rattle.injector.specs.declared.refusal.Refusal.{Refusal}
use Rattle.injector.specs.Asking.{is_start, asked_of}
use Rattle.injector.specs.Verdicts.{verdict_of}
use Rattle.injector.specs.Turns.{Turn, Judged, Passed, greatest_in, standing}
use Rattle.injector.specs.Senders.{Sender, cues_of, sender_stands, senders}
use Rattle.cue_laws.specs.Events.{Turn as LineTurn, LineEvent, before}
use Rattle.unit_stream.specs.Clocks.{Rises}
use Rattle.cue_laws.specs.Events.{Passed as LinePassed}
use Rattle.cue_laws.specs.Cueing.{Sender as LineSender, Told, Untold, Known, Never, is_news, is_due, is_second, told_on, block_on, cue_turns}
use Rattle.cue_laws.specs.Cueing.{senders as line_senders, limit as line_limit}
use Rattle.cue_laws.proofs.Fair.{IsFair, IsKnown, Fair, stand}
use Rattle.pes_time.proofs.IntLemmas.{lt-test}
use Rattle.ts_packet.specs.Membership.{In}
use Rattle.path_laws.specs.Path.{Item, Sent, sent_onto, path, with_asked, with_verdict, asked_line, IsSteadyHistory}
use Rattle.path_laws.proofs.Alike.{Alike, In-last, In-front}
use Rattle.path_laws.proofs.Switch.{view}
use Rattle.path_laws.proofs.Senders.{IsSender, fair-in}
use Rattle.path_laws.proofs.Requests.{Stood, stood, none-there}
use Rattle.path_laws.proofs.Sending.{Tells, sender-sent}

-- ---- of an event that is forgotten nothing is sent

limit-below : (start : ℤ) (n : ℕ) (asked : ℤ) (c : Bool) → (cond c start (cond (int_lt (start +ℤ pos n) asked) (start +ℤ pos n) start)) ≤ℤ (start +ℤ pos n)
limit-below start n asked true = omega (arith, ints)
limit-below start n asked false = by_test (int_lt (start +ℤ pos n) asked) (λ u. simp u (omega (arith, ints))) (λ u. simp u (omega (arith, ints)))

past-forgotten : (h end time : ℤ) → int_lt h (end +ℤ pos 900000) ≡ false → time ≤ℤ end → int_lt h time ≡ false
past-forgotten h end time gone below = grind (arith, ints)

module _ (h : ℤ) (later : Option ℤ) (e : Standing) (gone : int_lt h (end_of e +ℤ pos 900000) ≡ false) where
  not-due : (last : Option ℤ) → is_due (Some h) later (view e) last ≡ false
  not-due last = and_left (before (Some h) (line_limit (view e))) (is_second last later)
      (past-forgotten h (end_of e) (line_limit (view e)) gone (limit-below e.start e.length (e.start +ℤ pos e.asked) e.cancelled))

  not-news : (k : LineEvent) → IsKnown (Some h) (view e) k → is_news (view e) k ≡ false
  not-news k known =
      by_test (int_lt (end_of e) k.end)
      (λ s. let ahead = (known.end_new (lt-test (end_of e) k.end s)).0 in
      let no_more = past-forgotten h (end_of e) (end_of e) gone (omega (arith, ints)) in absurd (let bad : true ≡ false = sym ahead ∙ no_more in cc))
      (λ s. by_test e.cancelled
      (λ c. by_test k.cancelled
      (λ d. simp (s, c, d) refl)
      (λ d. let ahead = known.cancel_new c d in
      let no_more = past-forgotten h (end_of e) e.start gone (start-below e.start e.length) in absurd (let bad : true ≡ false = sym ahead ∙ no_more in cc)))
      (λ c. simp (s, c) refl))
    where
      start-below : (start : ℤ) (n : ℕ) → start ≤ℤ (start +ℤ pos n)
      start-below start n = omega (arith, ints)

  forgotten-silent : (last : Option ℤ) (k : Told) (older : List LineEvent) (rest : List LineTurn) → IsFair (Some h) (view e) k older → told_on (Some h) later (view e) last k rest ≡ rest
  forgotten-silent last Untold older rest fair =
      let no_more = past-forgotten h (end_of e) e.start gone (start-below e.start e.length) in absurd (let bad : true ≡ false = sym fair.ahead ∙ no_more in cc)
    where
      start-below : (start : ℤ) (n : ℕ) → start ≤ℤ (start +ℤ pos n)
      start-below start n = omega (arith, ints)
  forgotten-silent last (Known k) older rest fair = let a = not-news k fair in let b = not-due last in simp (a, b) refl
  forgotten-silent last Never older rest fair = let b = not-due last in simp b refl

-- ---- all cues before a packet

sent-append : (items : List Item) (one two : List CueOut) → sent_onto items (one ++ two) ≡ sent_onto (sent_onto items one) two
sent-append items [] two = refl
sent-append items (cue ∷ one) two = sent-append (Sent cue ∷ items) one two

abbrev cues_in : ℤ → Option ℤ → List Sender → List CueOut
cues_in h later xs = flat_map (cues_of (Some h) later) (filter (sender_stands (Some h)) xs)

cues-pushed : (h : ℤ) (later : Option ℤ) (items : List Item) (zs : List Sender) (x : Sender) → sent_onto items (cues_in h later (zs ++ x ∷ [])) ≡ sent_onto (sent_onto items (cues_in h later zs)) (cues_in h later (x ∷ []))
cues-pushed h later items zs x =
    ap (λ l. sent_onto items (flat_map (cues_of (Some h) later) l)) (filter-append (sender_stands (Some h)) zs (x ∷ []))
    ∙ ap (sent_onto items) (flat_map-append (cues_of (Some h) later) (filter (sender_stands (Some h)) zs) (filter (sender_stands (Some h)) (x ∷ [])))
    ∙ sent-append items (cues_in h later zs) (cues_in h later (x ∷ []))

-- each event has the program that is known for its start
abbrev pub SendersNamed : (ℤ → ℕ) → List Sender → Type 0
SendersNamed program xs = (x : Sender) → In x xs → x.event.program ≡ program x.event.start

module _ (program : ℤ → ℕ) (h : ℤ) (later : Option ℤ) where
  one-in : (x : Sender) (y : LineSender) (older : List LineEvent) → IsSender (Some h) x y → IsFair (Some h) y.event y.told older → x.event.program ≡ program x.event.start
      → (items : List Item) (rest : List LineTurn) → Tells program (Some h) items rest → Tells program (Some h) (sent_onto items (cues_in h later (x ∷ []))) (told_on (Some h) later y.event y.last y.told rest)
  one-in x y older same fair name items rest t =
      by_test (sender_stands (Some h) x)
      (λ s. simp s (subst (λ l. Tells program (Some h) (sent_onto items l) (told_on (Some h) later y.event y.last y.told rest)) (sym (append-nil (cues_of (Some h) later x)))
      (sender-sent program h later items rest t x y older same fair name)))
      (λ s. simp s (subst (λ l. Tells program (Some h) items l) (sym (silent s)) t))
    where
      silent : sender_stands (Some h) x ≡ false → told_on (Some h) later y.event y.last y.told rest ≡ rest
      silent s = ap (λ e. told_on (Some h) later e y.last y.told rest) (sym same.event_is)
          ∙ forgotten-silent h later x.event s y.last y.told older rest (subst (λ e. IsFair (Some h) e y.told older) (sym same.event_is) fair)

  block-in : (xs : List Sender) (ys : List LineSender) → Alike (IsSender (Some h)) xs ys → ((y : LineSender) → In y ys → (older : List LineEvent) × IsFair (Some h) y.event y.told older) → SendersNamed program xs
      → (items : List Item) (rest : List LineTurn) → Tells program (Some h) items rest → Tells program (Some h) (sent_onto items (cues_in h later xs)) (block_on (Some h) later ys rest)
  block-in xs [] a fair names items rest t = subst (λ l. Tells program (Some h) (sent_onto items (cues_in h later l)) rest) (sym a) t
  block-in xs (y ∷ ys) a fair names items rest t =
      let f = fair y (inl refl) in
      let front = block-in a.0 ys a.4 (λ z i. fair z (inr i)) (λ z i. names z (subst (In z) (sym a.2) (In-front z a.1 a.0 i))) items rest t in
      let one = one-in a.1 y f.0 a.3 f.1 (names a.1 (subst (In a.1) (sym a.2) (In-last a.1 a.0))) (sent_onto items (cues_in h later a.0)) (block_on (Some h) later ys rest) front in
      subst (λ l. Tells program (Some h) l (told_on (Some h) later y.event y.last y.told (block_on (Some h) later ys rest)))
      (sym (ap (λ l. sent_onto items (cues_in h later l)) a.2 ∙ cues-pushed h later items a.0 a.1)) one

block-at : (program : ℤ → ℕ) (h later : Option ℤ) (xs : List Sender) (run : List LineTurn) → Stood h xs run → SendersNamed program xs → (items : List Item) (rest : List LineTurn) → Tells program h items rest
    → Tells program h (sent_onto items (flat_map (cues_of h later) (filter (sender_stands h) xs))) (block_on h later (line_senders run) rest)
block-at program None later xs run s names items rest t =
    let none = none-there xs (line_senders run) s.alike in
    subst (λ l. Tells program None (sent_onto items (flat_map (cues_of None later) (filter (sender_stands None) l))) (block_on None later (line_senders run) rest)) (sym none.0)
    (subst (λ l. Tells program None items (block_on None later l rest)) (sym none.1) t)
block-at program (Some h) later xs run s names items rest t =
    block-in program h later xs (line_senders run) s.alike (fair-in (Some h) (line_senders run) (subst (λ k. Fair k (line_senders run)) s.clock (stand run s.accepted).fair)) names items rest t

-- ---- the path

cued-verdict : (h : Option ℤ) (r : SpliceRequest) (v : Result (Unit {0}) Refusal) (run : List LineTurn) → cue_turns (with_verdict h r v run) ≡ cue_turns run
cued-verdict None r v run = refl
cued-verdict (Some h) r (Err e) run = refl
cued-verdict (Some h) r (Ok u) run = by_test (is_start r) (λ c. simp c refl) (λ c. by_test (r.splice_insert_type == 3) (λ d. simp (c, d) refl) (λ d. simp (c, d) refl))

cued-asked : {A : Type 0} (h : Option ℤ) (standing : List Standing) (x : Result A Refusal) (request : A → SpliceRequest) (run : List LineTurn) → cue_turns (with_asked h standing x request run) ≡ cue_turns run
cued-asked h standing (Ok a) request run = cued-verdict h (request a) (verdict_of h standing (request a)) run
cued-asked h standing (Err e) request run = refl

-- names, at every front of a history
abbrev pub AlwaysNamed : (ℤ → ℕ) → ℕ → List Turn → Type 0
AlwaysNamed program index [] = Unit {0}
AlwaysNamed program index (t ∷ past) = SendersNamed program (senders index past) × AlwaysNamed program index past

pub path-tells : (program : ℤ → ℕ) (index : ℕ) (past : List Turn) → IsSteadyHistory index past → AlwaysNamed program index past → Tells program (greatest_in past) (path index past) (cue_turns (asked_line index past))
path-tells program index [] i n = record { clock = refl; line_is = refl; near = tt; named = tt }
path-tells program index (Judged m ∷ past) i n =
    subst (λ l. Tells program (greatest_in past) (path index past) l) (sym (cued-asked (greatest_in past) (standing index past) (asked_of index m) (λ a. a.request) (asked_line index past))) (path-tells program index past i.1 n.1)
path-tells program index (Passed later ∷ past) i n =
    let s = stood index past i.1 in
    let t = block-at program (greatest_in past) later (senders index past) (asked_line index past) s n.0 (path index past) (cue_turns (asked_line index past)) (path-tells program index past i.1 n.1) in
    record {
      clock = refl;
      line_is = ap (λ l. LinePassed later ∷ l) (t.line_is ∙ ap (λ k. block_on k later (line_senders (asked_line index past)) (cue_turns (asked_line index past))) (sym s.clock));
      near = (subst (λ k. Rises k later) (sym t.clock) i.0, t.near);
      named = t.named;
    }
