-- No cue makes two events meet.
use Rattle.std.proofs.Common.{◌≡◌, ℕ, ◌<◌, ◌^◌, Bool, true, false, not, ◌&&◌, List, [], ◌∷◌, ◌++◌, ◌⊎◌, inl, inr, refl, sym, ap, ◌∙◌, arith, if◌then◌else◌, nat_lt, nat_le, ◌==◌}
use Rattle.std.specs.Prelude.{ℤ, pos, ◌+ℤ◌, ◌-ℤ◌, ◌≤ℤ◌, ◌<ℤ◌, All, filter, find, Option, None, Some, Result, Ok, Err, int_lt, unsigned_abs}
use Rattle.std.specs.List.{list_any}
use Rattle.std.proofs.lemmas.Int.{ints}
use Rattle.std.proofs.lemmas.Bool.{true≢false}
use Rattle.std.proofs.lemmas.List.Elements.{All-cons, All-nil, All-head, All-tail}
use Rattle.std.proofs.lemmas.Bool.Decides.{nat_tests}
use Rattle.pes_time.specs.Line.{place}
use Rattle.psi_section.specs.Sections.{given}
use Rattle.scte35_codec.specs.Reading.{cue_of}
use Rattle.event_table.specs.Standing.{Standing, on_line, end_of, has_id, is_ahead_of, is_full, repeats, meets, arm_answer, cancel_answer, shorten_answer_of, shorten_answer, with_first, cancelled_one, ending_at, stands, is_of}
use Rattle.event_table.specs.declared.table.Armed.{Armed}
use Rattle.event_table.specs.declared.table.Armed.TheVariants.{New, Same}
use Rattle.event_table.specs.declared.table.ArmRefusal.{ArmRefusal}
use Rattle.event_table.specs.declared.table.ArmRefusal.TheVariants.{InUse, Full, Overlap}
use Rattle.event_table.specs.declared.table.CancelRefusal.{CancelRefusal}
use Rattle.event_table.specs.declared.table.ShortenRefusal.{ShortenRefusal}
use Rattle.armed_events.specs.declared.asked.Asked.{Asked}
use Rattle.armed_events.specs.declared.asked.Asked.TheVariants.{Start, End, Cancel, Unfit, Nothing}
use Rattle.armed_events.specs.Asking.{asked_of}
use Rattle.armed_events.specs.Arming.{is_fresh, Keep, Ignore, by_arm_answer, by_shorten_answer, by_cancel_answer, change, standing_at, changed, Heard, with_section, with_sections, heard, armed}
use Rattle.splice_laws.specs.Settled.{IsAhead}
use Rattle.std.specs.Ordering.{int_eq}
use Rattle.armed_laws.specs.Laws.{AreApart, IsApartOf, NoneMeet}
use Rattle.armed_laws.proofs.TimeLemmas.{early-parts, new-end}
use Rattle.armed_laws.proofs.GrowLemmas.{find-filter, Ended, ended, both-ahead}

-- ---- one event that is changed

-- it starts where it did, ends no later, and is not empty
pub record Narrows (e x : Standing) : Type 0 where
  pub start : x.start ≡ e.start
  pub end : end_of x ≤ℤ end_of e
  pub some : 0 < e.length → 0 < x.length

pub same-low : (a : ℤ) → a ≤ℤ a
same-low a = omega (arith, ints)

same-narrows : (e : Standing) → Narrows e e
same-narrows e = record { start = refl; end = same-low (end_of e); some = λ h. h }

left : (a b c : ℤ) → a ≤ℤ b → b ≤ℤ c → a ≤ℤ c
left a b c h k = omega (arith, ints, h, k)

apart-narrows : (e x f y : Standing) → Narrows e x → Narrows f y → AreApart e f → AreApart x y
apart-narrows e x f y h k (inl a) = inl (rw k.start (left (end_of x) (end_of e) f.start h.end a))
apart-narrows e x f y h k (inr a) = inr (rw h.start (left (end_of y) (end_of f) e.start k.end a))

module _ (test : Standing → Bool) (f : Standing → Standing) where
  abbrev Fits : List Standing → Type 0
  Fits es = (s : Standing) → find test es ≡ Some s → Narrows s (f s)

  later-fits : (b : Bool) (e : Standing) (es : List Standing) → test e ≡ false → Fits (e ∷ es) → Fits es
  later-fits b e es h ok s is = ok s (simp h is)

  apart-first-one : (b : Bool) (e x y : Standing) (es : List Standing) → test y ≡ b → Narrows e x → Fits (y ∷ es) → IsApartOf e (y ∷ es)
      → ((Fits es) → IsApartOf e es → IsApartOf x (with_first test f es)) → (IsApartOf e es → IsApartOf x es) → IsApartOf x (with_first test f (y ∷ es))
  apart-first-one true e x y es h n ok apart later rest = simp h ((apart-narrows e x y (f y) n (ok y (simp h refl)) apart.0, rest apart.1))
  apart-first-one false e x y es h n ok apart later rest = simp h ((apart-narrows e x y y n (same-narrows y) apart.0, later (later-fits false y es h ok) apart.1))

  apart-narrower : (e x : Standing) → Narrows e x → (es : List Standing) → IsApartOf e es → IsApartOf x es
  apart-narrower e x n [] apart = tt
  apart-narrower e x n (y ∷ es) apart = (apart-narrows e x y y n (same-narrows y) apart.0, apart-narrower e x n es apart.1)

  apart-first : (e x : Standing) → Narrows e x → (es : List Standing) → Fits es → IsApartOf e es → IsApartOf x (with_first test f es)
  apart-first e x n [] ok apart = tt
  apart-first e x n (y ∷ es) ok apart = apart-first-one (test y) e x y es refl n ok apart (apart-first e x n es) (apart-narrower e x n es)

  meet-first-one : (b : Bool) (e : Standing) (es : List Standing) → test e ≡ b → Fits (e ∷ es) → NoneMeet (e ∷ es) → (Fits es → NoneMeet es → NoneMeet (with_first test f es))
      → NoneMeet (with_first test f (e ∷ es))
  meet-first-one true e es h ok none later =
      let n = ok e (simp h refl) in
      simp h ((n.some none.0, apart-narrower e (f e) n es none.1, none.2))
  meet-first-one false e es h ok none later =
      let rest = later-fits false e es h ok in
      simp h ((none.0, apart-first e e (same-narrows e) es rest none.1, later rest none.2))

  pub meet-first : (es : List Standing) → Fits es → NoneMeet es → NoneMeet (with_first test f es)
  meet-first [] ok none = tt
  meet-first (e ∷ es) ok none = meet-first-one (test e) e es refl ok none (meet-first es)

cancel-narrows : (s : Standing) → Narrows s (cancelled_one s)
cancel-narrows s = record { start = refl; end = same-low (end_of s); some = λ h. h }

end-narrows : (latest : Option ℤ) (time : ℤ) (s : Standing) → Ended latest time s → Narrows s (ending_at time s)
end-narrows latest time s e =
    let parts = early-parts s time e.early in
    record { start = refl; end = rw (new-end time s parts.0) parts.1; some = λ h. some s.start time parts.0 }
  where
    some : (start time : ℤ) → start <ℤ time → 0 < unsigned_abs (time -ℤ start)
    some start time h = omega (arith, ints, h)

-- ---- one event more

module _ (latest : Option ℤ) (e : Standing) (ahead : IsAhead latest e.start) where
  met-not : (f : Standing) → meets e f ≡ false → AreApart f e
  met-not f h = by e.start (end_of e) f.start (end_of f) (int_lt e.start (end_of f)) refl h
    where
      by : (s t u v : ℤ) (b : Bool) → int_lt s v ≡ b → (b && int_lt u t) ≡ false → (v ≤ℤ s) ⊎ (t ≤ℤ u)
      by s t u v true k h = inr (grind (arith, ints, h))
      by s t u v false k h = inl (grind (arith, ints, k))

  past-not : (f : Standing) → stands latest f ≡ false → AreApart f e
  past-not f h = past-by latest f (end_of f) e.start ahead h
    where
      past-by : (latest : Option ℤ) (f : Standing) (end start : ℤ) → IsAhead latest start → stands latest f ≡ false → (end_of f ≤ℤ start) ⊎ (end_of e ≤ℤ f.start)
      past-by None f end start a h = absurd (true≢false h)
      past-by (Some high) f end start a h = inl (below high (end_of f) start a h)
        where
          below : (high end start : ℤ) → high <ℤ start → int_lt high (end +ℤ pos 900000) ≡ false → end ≤ℤ start
          below high end start a h = grind (arith, ints, h, a)

  abbrev Apart : Standing → Type 0
  Apart f = AreApart f e

  any-off : (f : Standing) (es : List Standing) → stands latest f ≡ false → list_any (meets e) (filter (stands latest) (f ∷ es)) ≡ list_any (meets e) (filter (stands latest) es)
  any-off f es h = simp h refl

  any-on : (f : Standing) (es : List Standing) → stands latest f ≡ true → meets e f ≡ false → list_any (meets e) (filter (stands latest) (f ∷ es)) ≡ list_any (meets e) (filter (stands latest) es)
  any-on f es h k = simp (h, k) refl

  any-met : (f : Standing) (es : List Standing) → stands latest f ≡ true → meets e f ≡ true → list_any (meets e) (filter (stands latest) (f ∷ es)) ≡ true
  any-met f es h k = simp (h, k) refl

  each-one : (a b : Bool) (f : Standing) (es : List Standing) → stands latest f ≡ a → meets e f ≡ b → list_any (meets e) (filter (stands latest) (f ∷ es)) ≡ false
      → (list_any (meets e) (filter (stands latest) es) ≡ false → All Apart es) → All Apart (f ∷ es)
  each-one false b f es h k none later = All-cons Apart f es (past-not f h) (later (sym (any-off f es h) ∙ none))
  each-one true true f es h k none later = absurd (true≢false (sym (any-met f es h k) ∙ none))
  each-one true false f es h k none later = All-cons Apart f es (met-not f k) (later (sym (any-on f es h k) ∙ none))

  each-apart : (es : List Standing) → list_any (meets e) (filter (stands latest) es) ≡ false → All Apart es
  each-apart [] none = All-nil Apart
  each-apart (f ∷ es) none = each-one (stands latest f) (meets e f) f es refl refl none (each-apart es)

  apart-append : (x : Standing) (es : List Standing) → AreApart x e → IsApartOf x es → IsApartOf x (es ++ e ∷ [])
  apart-append x [] a apart = (a, tt)
  apart-append x (y ∷ es) a apart = (apart.0, apart-append x es a apart.1)

  meet-append : 0 < e.length → (es : List Standing) → All Apart es → NoneMeet es → NoneMeet (es ++ e ∷ [])
  meet-append some [] all none = (some, tt, tt)
  meet-append some (x ∷ es) all none = (none.0, apart-append x es (All-head Apart x es all) none.1, meet-append some es (All-tail Apart x es all) none.2)

-- ---- a cue

abbrev is_new : Result Armed ArmRefusal → Bool
is_new (Ok New) = true
is_new (Ok Same) = false
is_new (Err f) = false

new-by : (a b c d : Bool) → (if a then Ok Same else if b then Err InUse else if c then Err Full else if d then Err Overlap else Ok New) ≡ Ok New → d ≡ false
new-by true b c d is = absurd (true≢false (sym (ap is_new is)))
new-by false true c d is = absurd (true≢false (sym (ap is_new is)))
new-by false false true d is = absurd (true≢false (sym (ap is_new is)))
new-by false false false true is = absurd (true≢false (sym (ap is_new is)))
new-by false false false false is = refl

not-met : (standing : List Standing) (e : Standing) → arm_answer standing e ≡ Ok New → list_any (meets e) standing ≡ false
not-met standing e is = new-by (list_any (repeats e) standing) (list_any (has_id e.id) standing) (is_full standing) (list_any (meets e) standing) is

fresh-some : (e : Standing) (b : Bool) → (is_fresh e && b) ≡ true → 0 < e.length
fresh-some e b h = by e.cancelled e.length e.asked b h
  where
    by : (c : Bool) (l a : ℕ) (b : Bool) → ((not c && (l == a && (nat_lt 0 l && nat_le l (2 ^ 30)))) && b) ≡ true → 0 < l
    by true l a b h = absurd (grind (arith, h))
    by false l a true h = grind (arith, nat_tests, h)
    by false l a false h = absurd (grind (arith, nat_tests, h))

start-meets : (latest : Option ℤ) (es : List Standing) (e : Standing) (b c : Bool) (a : Result Armed ArmRefusal) → (is_fresh e && is_ahead_of latest e.start) ≡ c → arm_answer (standing_at latest es) e ≡ a
    → NoneMeet es → NoneMeet (changed latest (if b then Keep else (if c then by_arm_answer e a else Ignore)) es)
start-meets latest es e true c a h k none = none
start-meets latest es e false false a h k none = none
start-meets latest es e false true (Ok New) h k none =
    let ahead = both-ahead latest e (is_fresh e) h in
    meet-append latest e ahead (fresh-some e (is_ahead_of latest e.start) h) es (each-apart latest e ahead es (not-met (standing_at latest es) e k)) none
start-meets latest es e false true (Ok Same) h k none = none
start-meets latest es e false true (Err f) h k none = none

end-meets : (latest : Option ℤ) (es : List Standing) (id : ℕ) (time : ℤ) (a : Result Armed ShortenRefusal) → shorten_answer latest (standing_at latest es) id time ≡ a
    → NoneMeet es → NoneMeet (changed latest (by_shorten_answer id time a) es)
end-meets latest es id time (Ok New) is none = meet-first (is_of latest id) (ending_at time) es
    (λ s found. end-narrows latest time s (ended latest time s (ap (shorten_answer_of latest time) (sym (sym (find-filter (stands latest) (has_id id) es) ∙ found)) ∙ is))) none
end-meets latest es id time (Ok Same) is none = none
end-meets latest es id time (Err f) is none = none

cancel-meets : (latest : Option ℤ) (es : List Standing) (id : ℕ) (a : Result (Unit {0}) CancelRefusal) → NoneMeet es → NoneMeet (changed latest (by_cancel_answer id a) es)
cancel-meets latest es id (Ok u) none = meet-first (is_of latest id) cancelled_one es (λ s found. cancel-narrows s) none
cancel-meets latest es id (Err f) none = none

change-meets : (latest : Option ℤ) (es : List Standing) (asked : Asked) → NoneMeet es → NoneMeet (changed latest (change latest (standing_at latest es) asked) es)
change-meets latest es (Start e) none =
    let n = on_line latest e in
    start-meets latest es n (list_any (repeats n) (standing_at latest es)) (is_fresh n && is_ahead_of latest n.start) (arm_answer (standing_at latest es) n) refl refl none
change-meets latest es (End id time) none = end-meets latest es id (place latest time) (shorten_answer latest (standing_at latest es) id (place latest time)) refl none
change-meets latest es (Cancel id) none = cancel-meets latest es id (cancel_answer latest (standing_at latest es) id) none
change-meets latest es Unfit none = none
change-meets latest es Nothing none = none

sections-meet : (latest : Option ℤ) (ss : List (List ℕ)) (h : Heard) → NoneMeet h.events → NoneMeet (with_sections latest ss h).events
sections-meet latest [] h none = none
sections-meet latest (s ∷ ss) h none = sections-meet latest ss (with_section latest s h) (change-meets latest h.events (asked_of (cue_of s)) none)

pub none-meet : (pid : ℕ) (high : List (List ℕ) → Option ℤ) (past : List (List ℕ)) → NoneMeet (armed pid high past)
none-meet pid high [] = tt
none-meet pid high (p ∷ past) = sections-meet (high past) (given pid p past) (heard pid high past) (none-meet pid high past)

pub starts-differ : (a b : Standing) → 0 < a.length → 0 < b.length → AreApart a b → int_eq a.start b.start ≡ false
starts-differ a b h k (inl e) = by a.start a.length b.start h e
  where
    by : (s : ℤ) (n : ℕ) (t : ℤ) → 0 < n → (s +ℤ pos n) ≤ℤ t → int_eq s t ≡ false
    by s n t h e = grind (arith, ints, h, e)
starts-differ a b h k (inr e) = by b.start b.length a.start k e
  where
    by : (s : ℤ) (n : ℕ) (t : ℤ) → 0 < n → (s +ℤ pos n) ≤ℤ t → int_eq t s ≡ false
    by s n t h e = grind (arith, ints, h, e)
