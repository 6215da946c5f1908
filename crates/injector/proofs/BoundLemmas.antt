-- The time until which no cue is due.
use Rattle.std.proofs.Common.{◌≡◌, ℕ, ◌+◌, ◌%◌, ◌^◌, Bool, true, false, not, ◌&&◌, cond, List, [], ◌∷◌, ◌++◌, refl, ap, sym, ◌∙◌, subst, arith}
use Rattle.std.specs.Prelude.{ℤ, pos, ◌+ℤ◌, ◌<ℤ◌, int_lt, int_le, filter, All, Option, None, Some, option_map}
use Rattle.std.proofs.lemmas.Int.{ints}
use Rattle.std.proofs.lemmas.List.Elements.{All-nil, All-cons, All-head, All-tail, All-push, All-filter}
use Rattle.pes_time.specs.Line.{ring_of}
use Rattle.scte104_codec.specs.Reading.{MessageReading}
use Rattle.event_table.specs.Rings.{is_before_on_ring}
use Rattle.event_table.specs.Standing.{Standing, on_ring, IsWithin}
use Rattle.event_table.proofs.TimeLemmas.{ring-plus}
use Rattle.injector.specs.Turns.{Turn, Judged, Passed, greatest_in}
use Rattle.injector.specs.Senders.{Sender, is_none, limit, is_repeated, chosen, sender_stands, standing_senders, IsIdle}
use Rattle.injector.specs.Noting.{ring_limit, ring_next, ring_earlier, ring_reached, next_by, next_of, AtOrAfter, IsDueWithinASecond, Rests, StaysAtRest, LastIn, IsKept}
use Rattle.unit_stream.specs.Clocks.{Rises}
use Rattle.injector.specs.Steps.{outcome, is_accepted}
use Rattle.injector.specs.Injecting.{RestsAt}
use Rattle.injector.proofs.CueLemmas.{ring-limit, limit-bounds, before-within}
use Rattle.injector.proofs.SenderLemmas.{standing-told}
use Rattle.injector.proofs.RestLemmas.{chosen-none, none-chosen, none-told, same-refused}

-- ---- the earlier of two times

abbrev pub earlier_of : Option ℤ → Option ℤ → Option ℤ
earlier_of None b = b
earlier_of (Some a) None = Some a
earlier_of (Some a) (Some b) = cond (int_lt b a) (Some b) (Some a)

ring-earlier : (h : ℤ) (a b : Option ℤ) → IsDueWithinASecond a (Some h) → IsDueWithinASecond b (Some h) → ring_earlier (option_map ring_of a) (option_map ring_of b) ≡ option_map ring_of (earlier_of a b)
ring-earlier h None b x y = refl
ring-earlier h (Some a) None x y = refl
ring-earlier h (Some a) (Some b) x y =
    let a0 = x.0 in
    let a1 = x.1 in
    let b0 = y.0 in
    let b1 = y.1 in
    let same : is_before_on_ring (ring_of b) (ring_of a) ≡ int_lt b a = before-within b a (omega (arith, ints)) (omega (arith, ints)) in
    ap (λ t. cond t (Some (ring_of b)) (Some (ring_of a))) same ∙ by (int_lt b a)
  where
    by : (t : Bool) → cond t (Some (ring_of b)) (Some (ring_of a)) ≡ option_map ring_of (cond t (Some b) (Some a))
    by true = refl
    by false = refl

earlier-ahead : (high a b : Option ℤ) → IsDueWithinASecond a high → IsDueWithinASecond b high → IsDueWithinASecond (earlier_of a b) high
earlier-ahead high None b x y = y
earlier-ahead high (Some a) None x y = x
earlier-ahead high (Some a) (Some b) x y = by (int_lt b a)
  where
    by : (t : Bool) → IsDueWithinASecond (cond t (Some b) (Some a)) high
    by true = y
    by false = x

earlier-left : (a b n : Option ℤ) → AtOrAfter a n → AtOrAfter (earlier_of a b) n
earlier-left a b None h = tt
earlier-left None b (Some n) h = absurd h
earlier-left (Some a) None (Some n) h = h
earlier-left (Some a) (Some b) (Some n) h = by (int_lt b a) refl
  where
    by : (t : Bool) → int_lt b a ≡ t → AtOrAfter (cond t (Some b) (Some a)) (Some n)
    by true is = grind (arith, ints)
    by false is = h

earlier-right : (a b n : Option ℤ) → AtOrAfter b n → AtOrAfter (earlier_of a b) n
earlier-right a b None h = tt
earlier-right None b (Some n) h = h
earlier-right (Some a) None (Some n) h = absurd h
earlier-right (Some a) (Some b) (Some n) h = by (int_lt b a) refl
  where
    by : (t : Bool) → int_lt b a ≡ t → AtOrAfter (cond t (Some b) (Some a)) (Some n)
    by true is = h
    by false is = grind (arith, ints)

at-own : (n : Option ℤ) → AtOrAfter n n
at-own None = tt
at-own (Some n) = omega (arith, ints)

-- ---- one event

ring-next-by : (e : Standing) (last latest : Option ℤ) → IsWithin latest e → ring_next (on_ring e) (option_map ring_of last) (option_map ring_of latest) ≡ option_map ring_of (next_by e last latest)
ring-next-by e None latest within = refl
ring-next-by e (Some l) None within = refl
ring-next-by e (Some l) (Some h) within =
    let bounds = limit-bounds h e within in
    let start = within.start in
    let some = within.some in
    let short = within.shortened in
    let most = within.most in
    let stands = within.stands in
    let limit_is : is_before_on_ring (ring_of h) (ring_limit (on_ring e)) ≡ int_lt h (limit e)
    = ap (is_before_on_ring (ring_of h)) (ring-limit e) ∙ before-within h (limit e) (omega (arith, ints)) (omega (arith, ints)) in
    ap (λ b. cond b (Some ((ring_of l + 90000) % 2 ^ 33)) None) limit_is
    ∙ ap (λ n. cond (int_lt h (limit e)) (Some n) None) (ring-plus l 90000)
    ∙ by (int_lt h (limit e))
  where
    by : (t : Bool) → cond t (Some (ring_of (l +ℤ pos 90000))) None ≡ option_map ring_of (cond t (Some (l +ℤ pos 90000)) None)
    by true = refl
    by false = refl

next-ahead : (h : ℤ) (x : Sender) → IsKept (Some h) x → is_none (chosen x (Some h) (Some h)) ≡ true → IsDueWithinASecond (next_of (Some h) x) (Some h)
next-ahead h x kept none = by x.last kept.last (chosen-none x (Some h) (Some h) none).1
  where
    by : (last : Option ℤ) → LastIn (Some h) x.event.start last → is_repeated x.event last (Some h) (Some h) ≡ false → IsDueWithinASecond (next_by x.event last (Some h)) (Some h)
    by None inside free = tt
    by (Some l) inside free = step (int_lt h (limit x.event)) free
      where
        step : (t : Bool) → t && int_le (l +ℤ pos 90000) h ≡ false → IsDueWithinASecond (cond t (Some (l +ℤ pos 90000)) None) (Some h)
        step true free = let below = inside.0 in (grind (arith, ints), omega (arith, ints))
        step false free = tt

-- ---- events

all-earlier : (latest a b : Option ℤ) (xs : List Sender) → All (λ x. AtOrAfter a (next_of latest x)) xs → All (λ x. AtOrAfter (earlier_of a b) (next_of latest x)) xs
all-earlier latest a b [] all = All-nil (λ x. AtOrAfter (earlier_of a b) (next_of latest x))
all-earlier latest a b (x ∷ xs) all =
    All-cons (λ y. AtOrAfter (earlier_of a b) (next_of latest y)) x xs (earlier-left a b (next_of latest x) (All-head (λ y. AtOrAfter a (next_of latest y)) x xs all))
    (all-earlier latest a b xs (All-tail (λ y. AtOrAfter a (next_of latest y)) x xs all))

pub rests_none : (latest : Option ℤ) → Rests None latest []
rests_none latest = record { bound = None; kept = refl; ahead = tt; waits = All-nil (λ x. AtOrAfter None (next_of latest x)) }

pub rests-push : (acc : Option ℕ) (latest : Option ℤ) (done : List Sender) (x : Sender) → IsWithin latest x.event → IsKept latest x → is_none (chosen x latest latest) ≡ true → Rests acc latest done
    → Rests (ring_earlier acc (ring_next (on_ring x.event) (option_map ring_of x.last) (option_map ring_of latest))) latest (done ++ x ∷ [])
rests-push acc None done x within kept none r = absurd within
rests-push acc (Some h) done x within kept none r =
    let n = next_of (Some h) x in
    let ahead = next-ahead h x kept none in
    record {
      bound = earlier_of r.bound n;
      kept = ap (λ q. ring_earlier q (ring_next (on_ring x.event) (option_map ring_of x.last) (Some (ring_of h)))) r.kept
          ∙ ap (ring_earlier (option_map ring_of r.bound)) (ring-next-by x.event x.last (Some h) within)
          ∙ ring-earlier h r.bound n r.ahead ahead;
      ahead = earlier-ahead (Some h) r.bound n r.ahead ahead;
      waits = All-push (λ y. AtOrAfter (earlier_of r.bound n) (next_of (Some h) y)) done x (all-earlier (Some h) r.bound n done r.waits) (earlier-right r.bound n n (at-own n));
    }

-- ---- a packet before which no event was looked at

abbrev NotReached : Option ℤ → Option ℤ → Type 0
NotReached None later = Unit {0}
NotReached (Some bound) None = Unit {0}
NotReached (Some bound) (Some later) = later <ℤ bound

not-reached : (bound latest later : Option ℤ) → Rises latest later → IsDueWithinASecond bound latest → ring_reached (option_map ring_of bound) (option_map ring_of later) ≡ false → NotReached bound later
not-reached None latest later rises ahead free = tt
not-reached (Some b) latest None rises ahead free = tt
not-reached (Some b) None (Some t) rises ahead free = absurd ahead
not-reached (Some b) (Some h) (Some t) rises ahead free =
    let up = rises.0 in
    let step = rises.1 in
    let low = ahead.0 in
    let top = ahead.1 in
    let same : is_before_on_ring (ring_of t) (ring_of b) ≡ int_lt t b = before-within t b (omega (arith, ints)) (omega (arith, ints)) in
    let is : not (int_lt t b) ≡ false = ap not (sym same) ∙ free in
    grind (arith, ints)

ahead-later : (bound latest later : Option ℤ) → Rises latest later → IsDueWithinASecond bound latest → NotReached bound later → IsDueWithinASecond bound later
ahead-later None latest later rises ahead below = tt
ahead-later (Some b) None later rises ahead below = absurd ahead
ahead-later (Some b) (Some h) None rises ahead below = absurd rises
ahead-later (Some b) (Some h) (Some t) rises ahead below = let up = rises.0 in let top = ahead.1 in (below, omega (arith, ints))

not-repeated : (e : Standing) (bound last latest later : Option ℤ) → AtOrAfter bound (next_by e last latest) → NotReached bound later → is_repeated e last latest later ≡ false
not-repeated e bound None latest later after below = refl
not-repeated e bound (Some l) None later after below = refl
not-repeated e bound (Some l) (Some h) None after below = refl
not-repeated e bound (Some l) (Some h) (Some t) after below = step (int_lt h (limit e)) after
  where
    step : (b : Bool) → AtOrAfter bound (cond b (Some (l +ℤ pos 90000)) None) → b && int_le (l +ℤ pos 90000) t ≡ false
    step false at = refl
    step true at = by bound at below
      where
        by : (o : Option ℤ) → AtOrAfter o (Some (l +ℤ pos 90000)) → NotReached o (Some t) → int_le (l +ℤ pos 90000) t ≡ false
        by None at under = absurd at
        by (Some b) at under = grind (arith, ints)

waits-later : (e : Standing) (bound last latest later : Option ℤ) → Rises latest later → LastIn latest e.start last → AtOrAfter bound (next_by e last latest) → AtOrAfter bound (next_by e last later)
waits-later e bound None latest later rises inside after = tt
waits-later e bound (Some l) None later rises inside after = absurd inside
waits-later e bound (Some l) (Some h) None rises inside after = absurd rises
waits-later e bound (Some l) (Some h) (Some t) rises inside after = step (int_lt t (limit e)) refl
  where
    step : (b : Bool) → int_lt t (limit e) ≡ b → AtOrAfter bound (cond b (Some (l +ℤ pos 90000)) None)
    step false is = tt
    step true is =
        let up = rises.0 in
        let still : int_lt h (limit e) ≡ true = grind (arith, ints) in
        subst (λ b. AtOrAfter bound (cond b (Some (l +ℤ pos 90000)) None)) still after

abbrev Waits : Option ℤ → Option ℤ → Sender → Type 0
Waits bound latest x = AtOrAfter bound (next_of latest x)

all-idle : (bound latest later : Option ℤ) → NotReached bound later → (xs : List Sender) → All (λ x. is_none (chosen x latest latest) ≡ true) xs → All (Waits bound latest) xs → All (λ x. is_none (chosen x latest later) ≡ true) xs
all-idle bound latest later below [] quiet waits = All-nil (λ x. is_none (chosen x latest later) ≡ true)
all-idle bound latest later below (x ∷ xs) quiet waits =
    All-cons (λ y. is_none (chosen y latest later) ≡ true) x xs
    (none-chosen x latest later (chosen-none x latest latest (All-head (λ y. is_none (chosen y latest latest) ≡ true) x xs quiet)).0 (not-repeated x.event bound x.last latest later (All-head (Waits bound latest) x xs waits) below))
    (all-idle bound latest later below xs (All-tail (λ y. is_none (chosen y latest latest) ≡ true) x xs quiet) (All-tail (Waits bound latest) x xs waits))

all-waits : (bound latest later : Option ℤ) → Rises latest later → (xs : List Sender) → All (IsKept latest) xs → All (Waits bound latest) xs → All (Waits bound later) xs
all-waits bound latest later rises [] kept waits = All-nil (Waits bound later)
all-waits bound latest later rises (x ∷ xs) kept waits =
    let here = All-head (IsKept latest) x xs kept in
    All-cons (Waits bound later) x xs (waits-later x.event bound x.last latest later rises here.last (All-head (Waits bound latest) x xs waits))
    (all-waits bound latest later rises xs (All-tail (IsKept latest) x xs kept) (All-tail (Waits bound latest) x xs waits))

stays-below : (rest : Option ℕ) (index : ℕ) (past : List Turn) (later : Option ℤ) → Rises (greatest_in past) later → All (IsKept (greatest_in past)) (standing_senders index past) → IsIdle index (greatest_in past) past
    → (r : RestsAt rest index past) → NotReached r.bound later → StaysAtRest rest index later past
stays-below rest index past later rises kept quiet r below =
    let xs = standing_senders index past in
    let idle : IsIdle index later past = all-idle r.bound (greatest_in past) later below xs quiet r.waits in
    let same : standing_senders index (Passed later ∷ past) ≡ filter (sender_stands later) xs = standing-told index past later rises ∙ ap (filter (sender_stands later)) (none-told (greatest_in past) later xs idle) in
    record {
      idle = idle;
      rests = subst (Rests rest later) (sym same)
          (record {
            bound = r.bound;
            kept = r.kept;
            ahead = ahead-later r.bound (greatest_in past) later rises r.ahead below;
            waits = All-filter (sender_stands later) (Waits r.bound later) xs (all-waits r.bound (greatest_in past) later rises xs kept r.waits);
          });
    }

pub stays-at-rest : (rest : Option ℕ) (index : ℕ) (past : List Turn) (later : Option ℤ) → Rises (greatest_in past) later → All (IsKept (greatest_in past)) (standing_senders index past) → IsIdle index (greatest_in past) past
    → RestsAt rest index past → ring_reached rest (option_map ring_of later) ≡ false → StaysAtRest rest index later past
stays-at-rest rest index past later rises kept quiet r free = stays-below rest index past later rises kept quiet r
    (not-reached r.bound (greatest_in past) later rises r.ahead (ap (λ q. ring_reached q (option_map ring_of later)) (sym r.kept) ∙ free))

not-reached-yet : (bound latest : Option ℤ) → IsDueWithinASecond bound latest → NotReached bound latest
not-reached-yet None latest ahead = tt
not-reached-yet (Some b) None ahead = tt
not-reached-yet (Some b) (Some h) ahead = ahead.0

-- the same where the greatest time stays
pub stays-still : (rest : Option ℕ) (index : ℕ) (past : List Turn) (later : Option ℤ) → Rises (greatest_in past) later → All (IsKept (greatest_in past)) (standing_senders index past) → IsIdle index (greatest_in past) past
    → RestsAt rest index past → greatest_in past ≡ later → StaysAtRest rest index later past
stays-still rest index past later rises kept quiet r same = stays-below rest index past later rises kept quiet r
    (subst (NotReached r.bound) same (not-reached-yet r.bound (greatest_in past) r.ahead))

-- ---- a message that is not accepted

pub rests-asked : (index : ℕ) (m : MessageReading) (past : List Turn) (rest : Option ℕ) → is_accepted (outcome index m past) ≡ false → RestsAt rest index past → RestsAt rest index (Judged m ∷ past)
rests-asked index m past rest refused r = subst (λ xs. Rests rest (greatest_in past) (filter (sender_stands (greatest_in past)) xs)) (sym (same-refused index m past refused)) r
