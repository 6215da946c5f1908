-- The time until which all events wait, on the ring and on the line.
use Rattle.std.proofs.Common.{◌≡◌, ℕ, ◌^◌, ◌<◌, List, [], ◌∷◌, length, map, Bool, true, false, ◌&&◌, if◌then◌else◌, refl, sym, ap, ◌∙◌, subst, arith, Option, None, Some}
use Rattle.std.specs.Prelude.{ℤ, pos, negsuc, ◌+ℤ◌, ◌-ℤ◌, ◌≤ℤ◌, ◌<ℤ◌, int_le, int_lt, All, option_map, IfSome}
use Rattle.std.specs.List.{list_all}
use Rattle.std.specs.Option.{is_some}
use Rattle.std.proofs.lemmas.Int.{ints}
use Rattle.std.proofs.lemmas.Bool.{true≢false, and_parts}
use Rattle.std.proofs.lemmas.Option.{none-some, same_Some}
use Rattle.plan_laws.proofs.NothingLemmas.{none-within}
use Rattle.pes_time.specs.Line.{signed, ring_of, lift, place, Near}
use Rattle.pes_time.proofs.LineLemmas.{ring-lift}
use Rattle.event_table.specs.declared.event.Event.{Event}
use Rattle.event_table.specs.declared.table.Entry.{Entry}
use Rattle.event_table.specs.declared.table.Table.{Table}
use Rattle.event_table.specs.Rings.{is_before_on_ring, CanAdvance, IsNextHigh}
use Rattle.event_table.specs.Standing.{Standing, on_ring, IsTimeAt, IsWithin, IsInReach}
use Rattle.event_table.specs.Tables.{StandsFor, high_time_of, values_of}
use Rattle.event_table.proofs.TimeLemmas.{before-near, signed-range}
use Rattle.splice_plans.specs.declared.plan.Plan.{Plan}
use Rattle.splice_plans.specs.Turning.{IsNearHigh}
use Rattle.splice_plans.specs.Waiting.{waits_in_all}
use Rattle.splice_playing.specs.Resting.{waits_ahead, first_start, first_rest, rest_behind, rest_by, waits_until, all_wait_until, is_rest, comes_before, all_wait, all_start_past}
use Rattle.splice_playing.proofs.FrontLemmas.{all-later, first-same, later-same}

abbrev Held : Type 0
Held = Entry Plan

until-parts : (rest high : ℕ) (x : Held) → waits_until rest high x ≡ true → (waits_in_all x.value ≡ true) × (int_lt (pos 0) (signed rest high) ≡ true) × (int_le (signed rest high) (signed x.event.start high) ≡ true)
until-parts rest high x h =
    let a = and_parts (waits_in_all x.value) (int_lt (pos 0) (signed rest high) && int_le (signed rest high) (signed x.event.start high)) h in
    let b = and_parts (int_lt (pos 0) (signed rest high)) (int_le (signed rest high) (signed x.event.start high)) a.1 in
    (a.0, b.0, b.1)

until-joined : (rest high : ℕ) (x : Held) → waits_in_all x.value ≡ true → int_lt (pos 0) (signed rest high) ≡ true → int_le (signed rest high) (signed x.event.start high) ≡ true → waits_until rest high x ≡ true
until-joined rest high x a b d = rw (a, b, d) refl

list-parts : (p : Held → Bool) (x : Held) (xs : List Held) → list_all p (x ∷ xs) ≡ true → (p x ≡ true) × (list_all p xs ≡ true)
list-parts p x xs h = and_parts (p x) (list_all p xs) h

list-joined : (p : Held → Bool) (x : Held) (xs : List Held) → p x ≡ true → list_all p xs ≡ true → list_all p (x ∷ xs) ≡ true
list-joined p x xs h k = rw h k

none-there : (xs : List Held) → list_all (λ (x : Held). false) xs ≡ true → xs ≡ []
none-there [] h = refl
none-there (x ∷ xs) h = absurd (true≢false (sym h))

-- ---- all wait

wait-until : (rest high : ℕ) (xs : List Held) → list_all (waits_until rest high) xs ≡ true → all_wait (map (λ (x : Held). x.value) xs) ≡ true
wait-until rest high [] h = refl
wait-until rest high (x ∷ xs) h =
    let parts = list-parts (waits_until rest high) x xs h in
    let here = (until-parts rest high x parts.0).0 in
    rw here (wait-until rest high xs parts.1)

pub waits-by : (rest : Option ℕ) (table : Table Plan) (r : ℕ) → rest ≡ Some r → is_rest rest table ≡ true → all_wait (values_of table) ≡ true
waits-by rest table r some h = by (high_time_of table) (subst (λ o. is_rest o table ≡ true) some h)
  where
    by : (high : Option ℕ) → all_wait_until r high table.entries.items ≡ true → all_wait (values_of table) ≡ true
    by None all = ap (λ xs. all_wait (map (λ (x : Held). x.value) xs)) (none-there table.entries.items all)
    by (Some high) all = wait-until r high table.entries.items all

-- the same, of some time
pub waits-by-some : (rest : Option ℕ) (table : Table Plan) → is_rest rest table ≡ true → is_some rest ≡ true → all_wait (values_of table) ≡ true
waits-by-some None table h is = absurd (true≢false (sym is))
waits-by-some (Some r) table h is = waits-by (Some r) table r refl h

-- ---- all start past a unit before that time

-- h is the greatest time, t the unit's
past-one : (h t : ℤ) (rest : ℕ) (e : Standing) → rest < 2 ^ 33 → h ≤ℤ (t +ℤ pos 900000) → t ≤ℤ (h +ℤ pos 900000) → IsInReach h e
    → int_lt (pos 0) (signed rest (ring_of h)) ≡ true → int_le (signed rest (ring_of h)) (signed (ring_of e.start) (ring_of h)) ≡ true → is_before_on_ring (ring_of t) rest ≡ true → int_lt t e.start ≡ true
past-one h t rest e fits low top reach above below before =
    let shortened = reach.shortened in
    let most = reach.most in
    let start = reach.start in
    let stands = reach.stands in
    let way : signed (ring_of e.start) (ring_of h) ≡ e.start -ℤ h = signed-range e.start h (omega (arith, ints)) (omega (arith, ints)) in
    let until : ℤ = lift h rest in
    let first : (pos 0 <ℤ signed rest (ring_of h)) = lt-true (pos 0) (signed rest (ring_of h)) above in
    let second : (signed rest (ring_of h) ≤ℤ (e.start -ℤ h)) = subst (λ w. signed rest (ring_of h) ≤ℤ w) way (le-true (signed rest (ring_of h)) (signed (ring_of e.start) (ring_of h)) below) in
    let near : Near t until = near-until h t e.start (signed rest (ring_of h)) low top start first second in
    let order : int_lt t until ≡ true = sym (before-near t until near) ∙ ap (λ r. is_before_on_ring (ring_of t) r) (ring-lift h rest fits) ∙ before in
    past-start h t e.start (signed rest (ring_of h)) order second
  where
    lt-true : (a b : ℤ) → int_lt a b ≡ true → a <ℤ b
    lt-true a b is = grind (arith, ints)

    le-true : (a b : ℤ) → int_le a b ≡ true → a ≤ℤ b
    le-true a b is = grind (arith, ints)

    near-until : (h t start way : ℤ) → h ≤ℤ (t +ℤ pos 900000) → t ≤ℤ (h +ℤ pos 900000) → start ≤ℤ (h +ℤ pos (2 ^ 29)) → pos 0 <ℤ way → way ≤ℤ (start -ℤ h) → Near t (h +ℤ way)
    near-until h t start way low top reach first second = record { above = omega (arith, ints); below = omega (arith, ints) }

    past-start : (h t start way : ℤ) → int_lt t (h +ℤ way) ≡ true → way ≤ℤ (start -ℤ h) → int_lt t start ≡ true
    past-start h t start way order second = grind (arith, ints)

past-all : (h : ℤ) (time rest : ℕ) → time < 2 ^ 33 → rest < 2 ^ 33 → IsNearHigh (Some h) (lift h time) → is_before_on_ring time rest ≡ true
    → (es : List Standing) (xs : List Held) → map (λ (x : Held). x.event) xs ≡ map on_ring es → All (IsInReach h) es → list_all (waits_until rest (ring_of h)) xs ≡ true
    → all_start_past (lift h time) es ≡ true
past-all h time rest time_fits rest_fits near before [] xs same within h_all = refl
past-all h time rest time_fits rest_fits near before (e ∷ es) [] same within h_all = absurd (let n = ap length same in omega (arith, n))
past-all h time rest time_fits rest_fits near before (e ∷ es) (x ∷ xs) same within h_all =
    let parts = list-parts (waits_until rest (ring_of h)) x xs h_all in
    let here = until-parts rest (ring_of h) x parts.0 in
    let event = first-same x.event (on_ring e) _ _ same in
    let one : int_lt (lift h time) e.start ≡ true
    = past-one h (lift h time) rest e rest_fits near.0 near.1 (within 0 e (omega arith)) here.1
    (subst (λ (ev : Event). int_le (signed rest (ring_of h)) (signed ev.start (ring_of h)) ≡ true) event here.2)
    (subst (λ t. is_before_on_ring t rest ≡ true) (sym (ring-lift h time time_fits)) before) in
    rw one (past-all h time rest time_fits rest_fits near before es xs (later-same x.event (on_ring e) _ _ same) (all-later (IsInReach h) e es within) parts.1)

pub past-by : (table : Table Plan) (latest : Option ℤ) (es : List Standing) (rest time : ℕ) → rest < 2 ^ 33 → time < 2 ^ 33 → StandsFor table latest es → IsNearHigh latest (place latest time)
    → is_rest (Some rest) table ≡ true → is_before_on_ring time rest ≡ true → all_start_past (place latest time) es ≡ true
past-by table None es rest time rest_fits time_fits s near h before = ap (all_start_past (place None time)) (none-within es s.within)
past-by table (Some high) es rest time rest_fits time_fits s near h before =
    past-all high time rest time_fits rest_fits near before es table.entries.items s.events s.within
    (subst (λ o. all_wait_until rest o table.entries.items ≡ true) s.high h)

-- ---- the greatest time rises below it

pub near-advance : (latest : Option ℤ) (p : ℕ) → CanAdvance (option_map ring_of latest) p → IsNearHigh latest (place latest p)
near-advance None p can = tt
near-advance (Some h) p can = near h (signed p (ring_of h)) can.above can.below
  where
    near : (h way : ℤ) → pos 0 ≤ℤ way → way ≤ℤ pos 900000 → (h ≤ℤ ((h +ℤ way) +ℤ pos 900000)) × ((h +ℤ way) ≤ℤ (h +ℤ pos 900000))
    near h way above below = (omega (arith, ints), omega (arith, ints))

pub past-later : (latest : Option ℤ) (p : ℕ) (later : ℤ) (es : List Standing) → All (IsWithin latest) es → IsTimeAt latest p later → all_start_past (place latest p) es ≡ true → all_start_past later es ≡ true
past-later None p later es within at past = ap (all_start_past later) (none-within es within)
past-later (Some h) p later es within at past = subst (λ t. all_start_past t es ≡ true) (sym at) past

-- ways from a later greatest time
way-later : (start high next : ℕ) → next < 2 ^ 33 → int_lt (pos 0) (signed start high) ≡ true → pos 0 ≤ℤ signed next high → signed next high ≤ℤ pos 900000
    → signed start next ≡ signed start high -ℤ signed next high
way-later start high next fits ahead above below = grind (arith, ints)

still-ahead : (rest next : ℕ) → rest < 2 ^ 33 → next < 2 ^ 33 → is_before_on_ring next rest ≡ true → negsuc 900000 ≤ℤ signed rest next → int_lt (pos 0) (signed rest next) ≡ true
still-ahead rest next rest_fits fits before low = grind (arith, ints)

moved : (rest start high next : ℕ) → rest < 2 ^ 33 → next < 2 ^ 33 → IsNextHigh high next → is_before_on_ring next rest ≡ true
    → int_lt (pos 0) (signed rest high) ≡ true → int_le (signed rest high) (signed start high) ≡ true → (int_lt (pos 0) (signed rest next) ≡ true) × (int_le (signed rest next) (signed start next) ≡ true)
moved rest start high next rest_fits fits can before ahead order =
    let to_rest = way-later rest high next fits ahead can.above can.below in
    let further : int_lt (pos 0) (signed start high) ≡ true = trans-lt (signed rest high) (signed start high) ahead order in
    let to_start = way-later start high next fits further can.above can.below in (
      still-ahead rest next rest_fits fits before (subst (λ w. negsuc 900000 ≤ℤ w) (sym to_rest) (low (signed rest high) (signed next high) ahead can.below)),
      rw (to_rest, to_start) (both-less (signed rest high) (signed start high) (signed next high) order),
    )
  where
    trans-lt : (a b : ℤ) → int_lt (pos 0) a ≡ true → int_le a b ≡ true → int_lt (pos 0) b ≡ true
    trans-lt a b h k = grind (arith, ints)

    low : (a w : ℤ) → int_lt (pos 0) a ≡ true → w ≤ℤ pos 900000 → negsuc 900000 ≤ℤ (a -ℤ w)
    low a w h k = grind (arith, ints)

    both-less : (a b w : ℤ) → int_le a b ≡ true → int_le (a -ℤ w) (b -ℤ w) ≡ true
    both-less a b w h = grind (arith, ints)

all-moved : (rest high next : ℕ) → rest < 2 ^ 33 → next < 2 ^ 33 → IsNextHigh high next → is_before_on_ring next rest ≡ true
    → (xs : List Held) → list_all (waits_until rest high) xs ≡ true → list_all (waits_until rest next) xs ≡ true
all-moved rest high next rest_fits fits can before [] h = refl
all-moved rest high next rest_fits fits can before (x ∷ xs) h =
    let parts = list-parts (waits_until rest high) x xs h in
    let here = until-parts rest high x parts.0 in
    let on = moved rest x.event.start high next rest_fits fits can before here.1 here.2 in
    list-joined (waits_until rest next) x xs (until-joined rest next x here.0 on.0 on.1) (all-moved rest high next rest_fits fits can before xs parts.1)

pub rest-goes-on : (old new : Table Plan) (rest : Option ℕ) (next : ℕ) → IfSome rest (λ r. r < 2 ^ 33) → next < 2 ^ 33 → CanAdvance (high_time_of old) next → comes_before rest (Some next) ≡ true
    → new.entries ≡ old.entries → high_time_of new ≡ Some next → is_rest rest old ≡ true → is_rest rest new ≡ true
rest-goes-on old new None next rest_fits fits can before entries high h = refl
rest-goes-on old new (Some r) next rest_fits fits can before entries high h =
    subst (λ o. all_wait_until r o new.entries.items ≡ true) (sym high)
    (subst (λ es. list_all (waits_until r next) es.items ≡ true) (sym entries) (by (high_time_of old) can h))
  where
    by : (o : Option ℕ) → CanAdvance o next → all_wait_until r o old.entries.items ≡ true → list_all (waits_until r next) old.entries.items ≡ true
    by None can all = ap (list_all (waits_until r next)) (none-there old.entries.items all)
    by (Some high) can all = all-moved r high next rest_fits fits can before old.entries.items all

-- ---- it is found

abbrev LiesAhead : ℕ → Option ℕ → Type 0
LiesAhead high None = Unit {0}
LiesAhead high (Some first) = int_lt (pos 0) (signed first high) ≡ true

abbrev IsNotPast : ℕ → ℕ → Option ℕ → Type 0
IsNotPast high rest None = Unit {0}
IsNotPast high rest (Some first) = int_le (signed rest high) (signed first high) ≡ true

first-ahead : (high start : ℕ) (first : Option ℕ) → LiesAhead high first → int_lt (pos 0) (signed start high) ≡ true → int_lt (pos 0) (signed (first_start high first start) high) ≡ true
first-ahead high start None a h = h
first-ahead high start (Some first) a h = by (int_lt (signed start high) (signed first high))
  where
    by : (b : Bool) → int_lt (pos 0) (signed (if b then start else first) high) ≡ true
    by true = h
    by false = a

first-least : (high start : ℕ) (first : Option ℕ) → IsNotPast high (first_start high first start) first × (int_le (signed (first_start high first start) high) (signed start high) ≡ true)
first-least high start None = (tt, le-same (signed start high))
  where
    le-same : (a : ℤ) → int_le a a ≡ true
    le-same a = grind (arith, ints)
first-least high start (Some first) = by (int_lt (signed start high) (signed first high)) refl
  where
    le-same : (a : ℤ) → int_le a a ≡ true
    le-same a = grind (arith, ints)

    from-lt : (a b : ℤ) → int_lt a b ≡ true → int_le a b ≡ true
    from-lt a b h = grind (arith, ints)

    from-not : (a b : ℤ) → int_lt a b ≡ false → int_le b a ≡ true
    from-not a b h = grind (arith, ints)

    by : (b : Bool) → int_lt (signed start high) (signed first high) ≡ b
        → (int_le (signed (if b then start else first) high) (signed first high) ≡ true) × (int_le (signed (if b then start else first) high) (signed start high) ≡ true)
    by true h = (from-lt (signed start high) (signed first high) h, le-same (signed start high))
    by false h = (le-same (signed first high), from-not (signed start high) (signed first high) h)

le-trans : (a b d : ℤ) → int_le a b ≡ true → int_le b d ≡ true → int_le a d ≡ true
le-trans a b d h k = grind (arith, ints)

not-past-by : (high rest s : ℕ) (first : Option ℕ) → int_le (signed rest high) (signed s high) ≡ true → IsNotPast high s first → IsNotPast high rest first
not-past-by high rest s None h k = tt
not-past-by high rest s (Some first) h k = le-trans (signed rest high) (signed s high) (signed first high) h k

found : (high : ℕ) (first : Option ℕ) (xs : List Held) (rest : ℕ) → LiesAhead high first → rest_behind high first xs ≡ Some rest
    → (int_lt (pos 0) (signed rest high) ≡ true) × IsNotPast high rest first × (list_all (waits_until rest high) xs ≡ true)
found high None [] rest a is = absurd (none-some rest is)
found high (Some first) [] rest a is =
    let same = same_Some first rest is in
    (subst (λ r. int_lt (pos 0) (signed r high) ≡ true) same a, subst (λ r. int_le (signed r high) (signed first high) ≡ true) same (le-same (signed first high)), refl)
  where
    le-same : (a : ℤ) → int_le a a ≡ true
    le-same a = grind (arith, ints)
found high first (x ∷ xs) rest a is = by (waits_ahead high x) refl is (λ ahead is. found high (Some (first_start high first x.event.start)) xs rest ahead is)
  where
    s : ℕ
    s = first_start high first x.event.start

    by : (b : Bool) → waits_ahead high x ≡ b → (if b then rest_behind high (Some s) xs else None) ≡ Some rest
        → (LiesAhead high (Some s) → rest_behind high (Some s) xs ≡ Some rest → (int_lt (pos 0) (signed rest high) ≡ true) × IsNotPast high rest (Some s) × (list_all (waits_until rest high) xs ≡ true))
        → (int_lt (pos 0) (signed rest high) ≡ true) × IsNotPast high rest first × (list_all (waits_until rest high) (x ∷ xs) ≡ true)
    by false w is rec = absurd (none-some rest is)
    by true w is rec =
        let parts = and_parts (int_lt (pos 0) (signed x.event.start high)) (waits_in_all x.value) w in
        let later = rec (first-ahead high x.event.start first a parts.0) is in
        let least = first-least high x.event.start first in (
          later.0,
          not-past-by high rest s first later.1 least.0,
          list-joined (waits_until rest high) x xs (until-joined rest high x parts.1 later.0 (le-trans (signed rest high) (signed s high) (signed x.event.start high) later.1 least.1)) later.2,
        )

pub rest-found : (table : Table Plan) → is_rest (first_rest table) table ≡ true
rest-found table = by (first_rest table) refl
  where
    all : (r : ℕ) (o : Option ℕ) (xs : List Held) → rest_by o xs ≡ Some r → all_wait_until r o xs ≡ true
    all r None xs is = absurd (none-some r is)
    all r (Some high) [] is = refl
    all r (Some high) (x ∷ xs) is = (found high None (x ∷ xs) r tt is).2

    by : (q : Option ℕ) → first_rest table ≡ q → is_rest q table ≡ true
    by None is = refl
    by (Some r) is = all r (high_time_of table) table.entries.items is

pub rest-there : (table seen : Table Plan) (rest : Option ℕ) → rest ≡ first_rest seen → seen ≡ table → is_rest rest table ≡ true
rest-there table seen rest is same = ap (λ r. is_rest r table) is ∙ ap (λ t. is_rest (first_rest t) table) same ∙ rest-found table
