-- What one cue, and one packet, make of the events.
use Rattle.std.proofs.Common.{◌≡◌, ℕ, Bool, true, false, not, ◌&&◌, List, [], ◌∷◌, ◌++◌, ◌⊎◌, inl, inr, refl, sym, ap, ◌∙◌, arith, if◌then◌else◌}
use Rattle.std.specs.Prelude.{ℤ, ◌≤ℤ◌, All, filter, find, Option, Some, Result, Ok, Err}
use Rattle.std.specs.List.{list_any}
use Rattle.std.specs.Ordering.{int_eq}
use Rattle.std.proofs.lemmas.Int.{ints}
use Rattle.std.proofs.lemmas.Bool.{true≢false}
use Rattle.std.proofs.lemmas.List.Elements.{All-cons, All-nil, All-head, All-tail}
use Rattle.pes_time.specs.Line.{place}
use Rattle.psi_section.specs.Sections.{given}
use Rattle.scte35_codec.specs.Reading.{cue_of}
use Rattle.event_table.specs.Standing.{Standing, on_line, end_of, has_id, is_ahead_of, is_early_end, has_begun, repeats, arm_answer, cancel_answer_of, cancel_answer, shorten_answer_of, shorten_answer, with_first, cancelled_one, ending_at, stands, is_of}
use Rattle.event_table.specs.declared.table.Armed.{Armed}
use Rattle.event_table.specs.declared.table.Armed.TheVariants.{New, Same}
use Rattle.event_table.specs.declared.table.ArmRefusal.{ArmRefusal}
use Rattle.event_table.specs.declared.table.CancelRefusal.{CancelRefusal}
use Rattle.event_table.specs.declared.table.CancelRefusal.TheVariants.{TooLate}
use Rattle.event_table.specs.declared.table.ShortenRefusal.{ShortenRefusal}
use Rattle.event_table.specs.declared.table.ShortenRefusal.TheVariants.{BadEnd}
use Rattle.armed_events.specs.declared.asked.Asked.{Asked}
use Rattle.armed_events.specs.declared.asked.Asked.TheVariants.{Start, End, Cancel, Unfit, Nothing}
use Rattle.armed_events.specs.Asking.{asked_of}
use Rattle.armed_events.specs.Arming.{is_fresh, Keep, Ignore, by_arm_answer, by_shorten_answer, by_cancel_answer, change, standing_at, changed, Heard, with_section, with_sections, heard, armed}
use Rattle.splice_laws.specs.Laws.{Risen}
use Rattle.splice_laws.specs.Settled.{IsAhead}
use Rattle.splice_laws.proofs.SettledLemmas.{risen-trans}
use Rattle.splice_laws.proofs.TableLemmas.{ahead-before}
use Rattle.splice_laws.proofs.PidLemmas.{same-risen}
use Rattle.armed_laws.specs.Laws.{Becomes, Grows, OnlyRises}
use Rattle.armed_laws.proofs.TimeLemmas.{ahead-of, not-begun, new-end, early-parts}

-- ---- one event

pub same-becomes : (latest : Option ℤ) (e : Standing) → Becomes latest e e
same-becomes latest e = record { id = refl; start = refl; asked = refl; program = refl; cancelled = inl refl; end = inl refl }

pub same-grows : (latest : Option ℤ) (es : List Standing) → Grows latest es es
same-grows latest [] = All-nil (λ (x : Standing). IsAhead latest x.start)
same-grows latest (e ∷ es) = (same-becomes latest e, same-grows latest es)

pub one-armed : (latest : Option ℤ) (e : Standing) → IsAhead latest e.start → (es : List Standing) → Grows latest es (es ++ e ∷ [])
one-armed latest e h [] = All-cons (λ (x : Standing). IsAhead latest x.start) e [] h (All-nil (λ (x : Standing). IsAhead latest x.start))
one-armed latest e h (x ∷ es) = (same-becomes latest x, one-armed latest e h es)

-- ---- the first that passes a test

module _ (latest : Option ℤ) (test : Standing → Bool) (f : Standing → Standing) where
  first-one : (b : Bool) (e : Standing) (es : List Standing) → test e ≡ b → ((s : Standing) → find test (e ∷ es) ≡ Some s → Becomes latest s (f s))
      → (((s : Standing) → find test es ≡ Some s → Becomes latest s (f s)) → Grows latest es (with_first test f es)) → Grows latest (e ∷ es) (with_first test f (e ∷ es))
  first-one true e es h ok later = simp h ((ok e (simp h refl), same-grows latest es))
  first-one false e es h ok later = simp h ((same-becomes latest e, later (λ s is. ok s (simp h is))))

  pub first-grows : (es : List Standing) → ((s : Standing) → find test es ≡ Some s → Becomes latest s (f s)) → Grows latest es (with_first test f es)
  first-grows [] ok = All-nil (λ (x : Standing). IsAhead latest x.start)
  first-grows (e ∷ es) ok = first-one (test e) e es refl ok (first-grows es)

module _ {X : Type 0} (f g : X → Bool) where
  find-one : (a b : Bool) (x : X) (xs : List X) → f x ≡ a → g x ≡ b → find (λ y. f y && g y) xs ≡ find g (filter f xs) → find (λ y. f y && g y) (x ∷ xs) ≡ find g (filter f (x ∷ xs))
  find-one true true x xs h k later = simp (h, k) refl
  find-one true false x xs h k later = simp (h, k) later
  find-one false true x xs h k later = simp (h, k) later
  find-one false false x xs h k later = simp (h, k) later

  pub find-filter : (xs : List X) → find (λ y. f y && g y) xs ≡ find g (filter f xs)
  find-filter [] = refl
  find-filter (x ∷ xs) = find-one (f x) (g x) x xs refl refl (find-filter xs)

-- ---- cancels

abbrev is_cancel : Result (Unit {0}) CancelRefusal → Bool
is_cancel (Ok u) = true
is_cancel (Err f) = false

abbrev by_begun : Bool → Result (Unit {0}) CancelRefusal
by_begun b = if b then Err TooLate else Ok tt

cancel-of : (latest : Option ℤ) (s : Standing) (b : Bool) → has_begun latest s ≡ b → by_begun b ≡ Ok tt → IsAhead latest s.start
cancel-of latest s true h is = absurd (true≢false (sym (ap is_cancel is)))
cancel-of latest s false h is = not-begun latest s h

cancel-becomes : (latest : Option ℤ) (s : Standing) → cancel_answer_of latest (Some s) ≡ Ok tt → Becomes latest s (cancelled_one s)
cancel-becomes latest s is = record { id = refl; start = refl; asked = refl; program = refl; cancelled = inr (cancel-of latest s (has_begun latest s) refl is, refl); end = inl refl }

-- ---- ends

abbrev is_end : Result Armed ShortenRefusal → Bool
is_end (Ok New) = true
is_end (Ok Same) = false
is_end (Err f) = false

pub record Ended (latest : Option ℤ) (time : ℤ) (s : Standing) : Type 0 where
  pub ahead : is_ahead_of latest time ≡ true
  pub early : is_early_end s time ≡ true

ended-by : (latest : Option ℤ) (time : ℤ) (s : Standing) (a c d e : Bool) → is_ahead_of latest time ≡ a → is_early_end s time ≡ e
    → (if not a then Err BadEnd else if c then Err BadEnd else if d then Ok Same else if e then Ok New else Err BadEnd) ≡ Ok New → Ended latest time s
ended-by latest time s false c d e h k is = absurd (true≢false (sym (ap is_end is)))
ended-by latest time s true true d e h k is = absurd (true≢false (sym (ap is_end is)))
ended-by latest time s true false true e h k is = absurd (true≢false (sym (ap is_end is)))
ended-by latest time s true false false false h k is = absurd (true≢false (sym (ap is_end is)))
ended-by latest time s true false false true h k is = record { ahead = h; early = k }

pub ended : (latest : Option ℤ) (time : ℤ) (s : Standing) → shorten_answer_of latest time (Some s) ≡ Ok New → Ended latest time s
ended latest time s is = ended-by latest time s (is_ahead_of latest time) s.cancelled (int_eq time (end_of s)) (is_early_end s time) refl refl is

end-becomes : (latest : Option ℤ) (time : ℤ) (s : Standing) → shorten_answer_of latest time (Some s) ≡ Ok New → Becomes latest s (ending_at time s)
end-becomes latest time s is =
    let e = ended latest time s is in
    let parts = early-parts s time e.early in
    let new : end_of (ending_at time s) ≡ time = new-end time s parts.0 in
    record {
      id = refl;
      start = refl;
      asked = refl;
      program = refl;
      cancelled = inl refl;
      end = inr (rw new (ahead-of latest time e.ahead), rw new parts.1);
    }

-- ---- a cue

start-grows : (latest : Option ℤ) (es : List Standing) (e : Standing) (b c : Bool) (a : Result Armed ArmRefusal) → (c ≡ true → IsAhead latest e.start)
    → Grows latest es (changed latest (if b then Keep else (if c then by_arm_answer e a else Ignore)) es)
start-grows latest es e true c a h = same-grows latest es
start-grows latest es e false false a h = same-grows latest es
start-grows latest es e false true (Ok New) h = one-armed latest e (h refl) es
start-grows latest es e false true (Ok Same) h = same-grows latest es
start-grows latest es e false true (Err f) h = same-grows latest es

end-grows : (latest : Option ℤ) (es : List Standing) (id : ℕ) (time : ℤ) (a : Result Armed ShortenRefusal) → shorten_answer latest (standing_at latest es) id time ≡ a
    → Grows latest es (changed latest (by_shorten_answer id time a) es)
end-grows latest es id time (Ok New) is = first-grows latest (is_of latest id) (ending_at time) es
    (λ s found. end-becomes latest time s (ap (shorten_answer_of latest time) (sym (sym (find-filter (stands latest) (has_id id) es) ∙ found)) ∙ is))
end-grows latest es id time (Ok Same) is = same-grows latest es
end-grows latest es id time (Err f) is = same-grows latest es

cancel-grows : (latest : Option ℤ) (es : List Standing) (id : ℕ) (a : Result (Unit {0}) CancelRefusal) → cancel_answer latest (standing_at latest es) id ≡ a
    → Grows latest es (changed latest (by_cancel_answer id a) es)
cancel-grows latest es id (Ok u) is = first-grows latest (is_of latest id) cancelled_one es
    (λ s found. cancel-becomes latest s (ap (cancel_answer_of latest) (sym (sym (find-filter (stands latest) (has_id id) es) ∙ found)) ∙ is))
cancel-grows latest es id (Err f) is = same-grows latest es

pub both-ahead : (latest : Option ℤ) (e : Standing) (b : Bool) → (b && is_ahead_of latest e.start) ≡ true → IsAhead latest e.start
both-ahead latest e true h = ahead-of latest e.start h
both-ahead latest e false h = absurd (true≢false (sym h))

pub change-grows : (latest : Option ℤ) (es : List Standing) (asked : Asked) → Grows latest es (changed latest (change latest (standing_at latest es) asked) es)
change-grows latest es (Start e) =
    let n = on_line latest e in
    start-grows latest es n (list_any (repeats n) (standing_at latest es)) (is_fresh n && is_ahead_of latest n.start) (arm_answer (standing_at latest es) n) (both-ahead latest n (is_fresh n))
change-grows latest es (End id time) = end-grows latest es id (place latest time) (shorten_answer latest (standing_at latest es) id (place latest time)) refl
change-grows latest es (Cancel id) = cancel-grows latest es id (cancel_answer latest (standing_at latest es) id) refl
change-grows latest es Unfit = same-grows latest es
change-grows latest es Nothing = same-grows latest es

-- ---- one after another

module _ (a b : Option ℤ) (r : Risen a b) where
  end-on : (old mid new : ℤ) → (mid ≡ old) ⊎ (IsAhead a mid × (mid ≤ℤ old)) → (new ≡ mid) ⊎ (IsAhead b new × (new ≤ℤ mid)) → (new ≡ old) ⊎ (IsAhead a new × (new ≤ℤ old))
  end-on old mid new x (inl e) = rw e x
  end-on old mid new (inl e) (inr y) = inr (ahead-before a b new r y.0, rw (sym e) y.1)
  end-on old mid new (inr x) (inr y) = inr (ahead-before a b new r y.0, below old mid new x.1 y.1)
    where
      below : (old mid new : ℤ) → mid ≤ℤ old → new ≤ℤ mid → new ≤ℤ old
      below old mid new h k = omega (arith, ints, h, k)

  cancel-on : (start start' : ℤ) (old mid new : Bool) → start' ≡ start → (mid ≡ old) ⊎ (IsAhead a start × (mid ≡ true)) → (new ≡ mid) ⊎ (IsAhead b start' × (new ≡ true))
      → (new ≡ old) ⊎ (IsAhead a start × (new ≡ true))
  cancel-on start start' old mid new same x (inl e) = rw e x
  cancel-on start start' old mid new same x (inr y) = inr (ahead-before a b start r (rw (sym same) y.0), y.1)

  becomes-on : (e x y : Standing) → Becomes a e x → Becomes b x y → Becomes a e y
  becomes-on e x y h k = record {
    id = k.id ∙ h.id;
    start = k.start ∙ h.start;
    asked = k.asked ∙ h.asked;
    program = k.program ∙ h.program;
    cancelled = cancel-on e.start x.start e.cancelled x.cancelled y.cancelled h.start h.cancelled k.cancelled;
    end = end-on (end_of e) (end_of x) (end_of y) h.end k.end;
  }

  ahead-on : (es fs : List Standing) → All (λ (x : Standing). IsAhead a x.start) es → Grows b es fs → All (λ (x : Standing). IsAhead a x.start) fs
  ahead-on [] [] h g = h
  ahead-on [] (x ∷ fs) h g =
      let f = λ (y : Standing). IsAhead b y.start in
      All-cons (λ (y : Standing). IsAhead a y.start) x fs (ahead-before a b x.start r (All-head f x fs g)) (ahead-on [] fs h (All-tail f x fs g))
  ahead-on (e ∷ es) [] h g = absurd g
  ahead-on (e ∷ es) (x ∷ fs) h g =
      let f = λ (y : Standing). IsAhead a y.start in
      let k = g.0 in
      All-cons f x fs (rw k.start (All-head f e es h)) (ahead-on es fs (All-tail f e es h) g.1)

  pub grows-on : (es fs gs : List Standing) → Grows a es fs → Grows b fs gs → Grows a es gs
  grows-on [] fs gs h k = ahead-on fs gs h k
  grows-on (e ∷ es) [] gs h k = absurd h
  grows-on (e ∷ es) (x ∷ fs) [] h k = absurd k
  grows-on (e ∷ es) (x ∷ fs) (y ∷ gs) h k = (becomes-on e x y h.0 k.0, grows-on es fs gs h.1 k.1)

sections-grow : (latest : Option ℤ) (ss : List (List ℕ)) (h : Heard) → Grows latest h.events (with_sections latest ss h).events
sections-grow latest [] h = same-grows latest h.events
sections-grow latest (s ∷ ss) h =
    grows-on latest latest (same-risen latest) h.events (with_section latest s h).events (with_sections latest ss (with_section latest s h)).events
    (change-grows latest h.events (asked_of (cue_of s))) (sections-grow latest ss (with_section latest s h))

pub packet-grows : (pid : ℕ) (high : List (List ℕ) → Option ℤ) (p : List ℕ) (past : List (List ℕ)) → Grows (high past) (armed pid high past) (armed pid high (p ∷ past))
packet-grows pid high p past = sections-grow (high past) (given pid p past) (heard pid high past)

later-risen : (high : List (List ℕ) → Option ℤ) → OnlyRises high → (more past : List (List ℕ)) → Risen (high past) (high (more ++ past))
later-risen high never [] past = same-risen (high past)
later-risen high never (p ∷ more) past = risen-trans (high past) (high (more ++ past)) (high (p ∷ (more ++ past))) (later-risen high never more past) (never p (more ++ past))

pub packets-grow : (pid : ℕ) (high : List (List ℕ) → Option ℤ) → OnlyRises high → (more past : List (List ℕ)) → Grows (high past) (armed pid high past) (armed pid high (more ++ past))
packets-grow pid high never [] past = same-grows (high past) (armed pid high past)
packets-grow pid high never (p ∷ more) past =
    grows-on (high past) (high (more ++ past)) (later-risen high never more past) (armed pid high past) (armed pid high (more ++ past)) (armed pid high (p ∷ (more ++ past)))
    (packets-grow pid high never more past) (packet-grows pid high p (more ++ past))
