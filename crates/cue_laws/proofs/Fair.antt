-- What holds of the injector's events and what was told of them.
use Rattle.std.proofs.Common.{◌≡◌, ℕ, true, false, ◌⊎◌, inl, inr, refl, sym, ap, ◌∙◌, subst, List, [], ◌∷◌, Option, None, Some, arith}
use Rattle.std.specs.Prelude.{ℤ, ◌<ℤ◌, ◌≤ℤ◌, map, is_some}
use Rattle.std.proofs.lemmas.Int.{ints}
use Rattle.std.proofs.lemmas.Bool.{and_parts}
use Rattle.ts_packet.proofs.Cases.{by_test}
use Rattle.cue_laws.specs.Events.{Turn, LineEvent, Started, Cancelled, Ended, Passed, high, before, events, is_of, fresh, can_cancel, cancel_by, can_end, end_by}
use Rattle.unit_stream.specs.Clocks.{Rises}
use Rattle.cue_laws.specs.Cueing.{MayBeAccepted, IsRun, Told, Untold, Known, Never, Sender, told_now, tell, change, senders}
use Rattle.cue_laws.proofs.Settling.{can_start-parts, can_end-parts}
use Rattle.cue_laws.proofs.Orders.{Orderly, orderly-none, orderly-map, orderly-fresh, orderly-passed, Clear, clear-can, clear-map, Shrinks, cancel-shrinks, end-shrinks, or-left}
use Rattle.cue_laws.proofs.Below.{or-split}

-- what was told of an event is true, but for what is new
pub record IsKnown (h : Option ℤ) (e t : LineEvent) : Type 0 where
  pub id : t.id ≡ e.id
  pub start : t.start ≡ e.start
  pub asked : t.asked ≡ e.asked
  pub earlier : e.end ≤ℤ t.end
  pub end_new : e.end <ℤ t.end → (before h e.end ≡ true) × (t.cancelled ≡ false)
  pub cancelled : t.cancelled ≡ true → e.cancelled ≡ true
  pub cancel_new : e.cancelled ≡ true → t.cancelled ≡ false → before h e.start ≡ true

abbrev pub event_of : Sender → LineEvent
event_of x = x.event

abbrev pub IsFair : Option ℤ → LineEvent → Told → List LineEvent → Type 0
IsFair h e Untold older = Clear h e.id e.start e.asked older
IsFair h e (Known t) older = IsKnown h e t
IsFair h e Never older = e.cancelled ≡ true

-- something was told of each
abbrev pub AllTold : List Sender → Type 0
AllTold [] = Unit {0}
AllTold (x ∷ older) = (x.told ≡ Untold → ⊥) × AllTold older

abbrev pub Fair : Option ℤ → List Sender → Type 0
Fair h [] = Unit {0}
Fair h (x ∷ older) = IsFair h x.event x.told (map event_of older) × ((x.told ≡ Untold → ⊥) → AllTold older) × (is_some h ≡ true) × Fair h older

-- ---- turns

map-change : (f : LineEvent → LineEvent) (xs : List Sender) → map event_of (map (change f) xs) ≡ map f (map event_of xs)
map-change f [] = refl
map-change f (x ∷ xs) = ap (λ l. f x.event ∷ l) (map-change f xs)

map-tell : (h later : Option ℤ) (xs : List Sender) → map event_of (map (tell h later) xs) ≡ map event_of xs
map-tell h later [] = refl
map-tell h later (x ∷ xs) = ap (λ l. x.event ∷ l) (map-tell h later xs)

told-change : (f : LineEvent → LineEvent) (xs : List Sender) → AllTold xs → AllTold (map (change f) xs)
told-change f [] a = tt
told-change f (x ∷ xs) a = (a.0, told-change f xs a.1)

-- a change that keeps what was told true
abbrev Keeps : Option ℤ → (LineEvent → LineEvent) → Type 0
Keeps h f = (e t : LineEvent) → IsKnown h e t → IsKnown h (f e) t

fair-one : (h : Option ℤ) (f : LineEvent → LineEvent) → ((e : LineEvent) → Shrinks e (f e)) → Keeps h f → (e : LineEvent) (told : Told) (older : List LineEvent) → IsFair h e told older → IsFair h (f e) told (map f older)
fair-one h f shrinks keeps e Untold older a =
    let s = shrinks e in
    let c = clear-map h e.id e.start e.asked f shrinks older a in
    record {
      clock = c.clock;
      ahead = ap (before h) s.start ∙ c.ahead;
      some = let l = c.some in omega (arith, ints, l, s.start, s.asked);
      clear = λ y i. turn y (c.clear y i);
      unused = λ y i t is. c.unused y i t (is ∙ s.id);
      room = c.room;
    }
  where
    turn : (y : LineEvent) → (e.asked ≤ℤ y.start) ⊎ (y.end ≤ℤ e.start) → ((f e).asked ≤ℤ y.start) ⊎ (y.end ≤ℤ (f e).start)
    turn y (inl l) = inl (let s = shrinks e in omega (arith, ints, l, s.asked))
    turn y (inr l) = inr (let s = shrinks e in omega (arith, ints, l, s.start))
fair-one h f shrinks keeps e (Known t) older a = keeps e t a
fair-one h f shrinks keeps e Never older a = (shrinks e).cancelled a

fair-change : (h : Option ℤ) (f : LineEvent → LineEvent) → ((e : LineEvent) → Shrinks e (f e)) → Keeps h f → (xs : List Sender) → Fair h xs → Fair h (map (change f) xs)
fair-change h f shrinks keeps [] a = tt
fair-change h f shrinks keeps (x ∷ xs) a = (
  subst (λ l. IsFair h (f x.event) x.told l) (sym (map-change f xs)) (fair-one h f shrinks keeps x.event x.told (map event_of xs) a.0),
  λ told. told-change f xs (a.1 told),
  a.2,
  fair-change h f shrinks keeps xs a.3,
)

cancel-keeps : (h : Option ℤ) (id : ℕ) → Keeps h (cancel_by h id)
cancel-keeps h id e t k = record {
  id = k.id;
  start = k.start;
  asked = k.asked;
  earlier = k.earlier;
  end_new = k.end_new;
  cancelled = λ c. or-left e.cancelled (can_cancel h id e) (k.cancelled c);
  cancel_new = λ c n. which n (or-split e.cancelled (can_cancel h id e) c);
}
  where
    which : t.cancelled ≡ false → (e.cancelled ≡ true) ⊎ (can_cancel h id e ≡ true) → before h e.start ≡ true
    which n (inl c) = k.cancel_new c n
    which n (inr c) = (and_parts (is_of h id e) (before h e.start) c).1

end-keeps : (h : Option ℤ) (id : ℕ) (time : ℤ) → Keeps h (end_by h id time)
end-keeps h id time e t k = record {
  id = k.id;
  start = k.start;
  asked = k.asked;
  earlier = let s = (end-shrinks h id time e).earlier in let l = k.earlier in omega (arith, ints, s, l);
  end_new = by_test (can_end h id time e)
      (λ c. let f = can_end-parts h id time e c in simp c (λ l. (f.ahead, by_test t.cancelled (λ d. let n = k.cancelled d in let u = f.uncancelled in absurd (let bad : true ≡ false = sym n ∙ u in cc)) (λ d. d))))
      (λ c. simp c k.end_new);
  cancelled = k.cancelled;
  cancel_new = k.cancel_new;
}

-- all that is told is told as it is
known-now : (h : Option ℤ) (e : LineEvent) → IsKnown h e e
known-now h e = record {
  id = refl;
  start = refl;
  asked = refl;
  earlier = omega (arith, ints);
  end_new = λ l. absurd (omega (arith, ints, l));
  cancelled = λ c. c;
  cancel_new = λ c n. let bad : true ≡ false = sym c ∙ n in cc;
}

fair-told : (later : Option ℤ) (e : LineEvent) (h : Option ℤ) (told : Told) (older : List LineEvent) → IsFair h e told older → (es : List LineEvent) → IsFair later e (told_now e told) es
fair-told later e h Untold older a es = by_test e.cancelled (λ c. simp c) (λ c. simp c (known-now later e))
fair-told later e h (Known t) older a es = known-now later e
fair-told later e h Never older a es = a

told-told : (e : LineEvent) (told : Told) → told_now e told ≡ Untold → ⊥
told-told e Untold is = by_test e.cancelled (λ c. let j = simp c at is in cc) (λ c. let j = simp c at is in cc)
told-told e (Known t) is = cc
told-told e Never is = cc

told-tell : (h later : Option ℤ) (xs : List Sender) → AllTold (map (tell h later) xs)
told-tell h later [] = tt
told-tell h later (x ∷ xs) = (told-told x.event x.told, told-tell h later xs)

clock-later : (h later : Option ℤ) → Rises h later → is_some h ≡ true → is_some later ≡ true
clock-later None later r c = let bad : false ≡ true = c in cc
clock-later (Some h) None r c = absurd r
clock-later (Some h) (Some later) r c = refl

fair-tell : (h later : Option ℤ) → Rises h later → (xs : List Sender) → Fair h xs → Fair later (map (tell h later) xs)
fair-tell h later r [] a = tt
fair-tell h later r (x ∷ xs) a =
    (fair-told later x.event h x.told (map event_of xs) a.0 (map event_of (map (tell h later) xs)), λ told. told-tell h later xs, clock-later h later r a.2, fair-tell h later r xs a.3)

pub record Stand (past : List Turn) : Type 0 where
  pub same : map event_of (senders past) ≡ events past
  pub order : Orderly (high past) (events past)
  pub fair : Fair (high past) (senders past)

pub stand_step : (s : Turn) (past : List Turn) → MayBeAccepted s past → Stand past → Stand (s ∷ past)
stand_step (Started id start end) past m k =
    let can = can_start-parts (high past) id start end (events past) m in
    record {
      same = simp m (ap (λ l. fresh id start end ∷ l) k.same);
      order = simp m (orderly-fresh (high past) id start end (events past) can k.order);
      fair = (subst (λ l. Clear (high past) id start end l) (sym k.same) (clear-can (high past) id start end (events past) can), λ told. absurd (told refl), can.clock, k.fair);
    }
stand_step (Cancelled id) past m k = record {
  same = map-change (cancel_by (high past) id) (senders past) ∙ ap (map (cancel_by (high past) id)) k.same;
  order = orderly-map (high past) (cancel_by (high past) id) (cancel-shrinks (high past) id) (events past) k.order;
  fair = fair-change (high past) (cancel_by (high past) id) (cancel-shrinks (high past) id) (cancel-keeps (high past) id) (senders past) k.fair;
}
stand_step (Ended id time) past m k = record {
  same = map-change (end_by (high past) id time) (senders past) ∙ ap (map (end_by (high past) id time)) k.same;
  order = orderly-map (high past) (end_by (high past) id time) (end-shrinks (high past) id time) (events past) k.order;
  fair = fair-change (high past) (end_by (high past) id time) (end-shrinks (high past) id time) (end-keeps (high past) id time) (senders past) k.fair;
}
stand_step (Passed later) past m k = record {
  same = map-tell (high past) later (senders past) ∙ k.same;
  order = orderly-passed (high past) later m (events past) k.order;
  fair = fair-tell (high past) later m (senders past) k.fair;
}

pub stand : (run : List Turn) → IsRun run → Stand run
stand [] r = record { same = refl; order = orderly-none; fair = tt }
stand (s ∷ past) r = stand_step s past r.0 (stand past r.1)
