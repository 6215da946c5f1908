-- The injector's events, with what was told of each, are those of the definitions on the line.
use Rattle.std.proofs.Common.{◌≡◌, ℕ, ◌^◌, ◌<◌, ◌≤◌, nat_lt, Bool, true, false, not, ◌&&◌, ◌||◌, cond, inl, inr, refl, sym, ap, ◌∙◌, subst, List, [], ◌∷◌, length, arith}
use Rattle.std.specs.Prelude.{ℤ, pos, ◌+ℤ◌, ◌≤ℤ◌, ◌<ℤ◌, int_lt, int_le, map, Option, None, Some}
use Rattle.std.specs.List.{list_any, AllByRecursion}
use Rattle.std.proofs.lemmas.Int.{ints}
use Rattle.std.proofs.lemmas.List.{map-append}
use Rattle.std.proofs.lemmas.Bool.Decides.{nat_tests}
use Rattle.std.proofs.lemmas.Bool.{and_parts}
use Rattle.ts_packet.proofs.Cases.{by_test}
use Rattle.event_table.specs.Standing.{Standing, end_of, cancelled_one, ending_at, with_first}
use Rattle.injector.specs.Senders.{Sender, is_none, is_ended, news, limit, is_repeated, chosen, tell, told_now, with_event, stands_by, events_in}
use Rattle.injector.proofs.RestLemmas.{some-current}
use Rattle.cue_laws.specs.Events.{LineEvent, before, can_cancel, can_end, cancel_by, end_by}
use Rattle.unit_stream.specs.Clocks.{Rises}
use Rattle.cue_laws.specs.Events.{is_of as line_is_of}
use Rattle.cue_laws.specs.Cueing.{Sender as LineSender, Told, Untold, Known, Never, is_cancel_new, or_else, is_news, is_due, is_sent, change}
use Rattle.cue_laws.specs.Cueing.{limit as line_limit, tell as line_tell, told_now as line_told_now}
use Rattle.cue_laws.proofs.Settling.{can_end-parts}
use Rattle.cue_laws.proofs.Lost.{equal_events}
use Rattle.cue_laws.proofs.Fair.{IsKnown, IsFair, Fair, event_of}
use Rattle.cue_laws.proofs.Orders.{or-right}
use Rattle.cue_laws.proofs.Block.{end-off}
use Rattle.cue_laws.proofs.Tell.{or_else-false, same_flag}
use Rattle.std.proofs.Math.Bool.{and-false}
use Rattle.pes_time.proofs.IntLemmas.{ge-test}
use Rattle.ts_packet.specs.Membership.{In}
use Rattle.path_laws.proofs.Alike.{Alike, AtMostOnce, alike-map, alike-first}
use Rattle.path_laws.proofs.Switch.{view, IsView, cancel-off}
use Rattle.event_table.proofs.EventLemmas.{ending-end}

-- the fields of an event that is held at a time
pub record IsHeld (h : ℤ) (x : Sender) : Type 0 where
  pub id : x.event.id < 2 ^ 32
  pub program : x.event.program < 2 ^ 16
  pub some : 0 < x.event.asked
  pub most : x.event.asked ≤ 2 ^ 30
  pub whole : x.event.length ≤ x.event.asked
  pub start : x.event.start ≤ℤ (h +ℤ pos (2 ^ 29))
  pub end : x.event.length < x.event.asked → end_of x.event ≤ℤ (h +ℤ pos (2 ^ 29))
  pub count : length x.avails < 15
  pub avails : AllByRecursion (λ id. id < 2 ^ 32) x.avails

abbrev pub IsHeldAt : Option ℤ → Sender → Type 0
IsHeldAt None x = ⊥
IsHeldAt (Some h) x = IsHeld h x

-- what was told of an event, on and_parts sides
abbrev pub SameTold : Standing → Option Standing → Told → Type 0
SameTold e None Untold = Unit {0}
SameTold e None (Known k) = ⊥
SameTold e None Never = ⊥
SameTold e (Some t) Untold = ⊥
SameTold e (Some t) (Known k) = (view t ≡ k) × (t.length ≤ t.asked)
SameTold e (Some t) Never = (t.cancelled ≡ true) × (t.length ≤ e.length)

pub record IsSender (h : Option ℤ) (x : Sender) (y : LineSender) : Type 0 where
  pub event_is : view x.event ≡ y.event
  pub told_is : SameTold x.event x.told y.told
  pub last_is : x.last ≡ y.last
  pub held : IsHeldAt h x

-- ---- what is new, and what is repeated

-- something is new
abbrev pub is_new : LineEvent → Told → Bool
is_new e Untold = true
is_new e (Known t) = is_news e t
is_new e Never = false

pub sent-is : (h later : Option ℤ) (e : LineEvent) (last : Option ℤ) (told : Told) → is_sent h later e last told ≡ or_else (is_new e told) (is_due h later e last)
sent-is h later e last Untold = refl
sent-is h later e last (Known t) = refl
sent-is h later e last Never = refl

shorter-is : (start : ℤ) (a b : ℕ) → int_lt (start +ℤ pos a) (start +ℤ pos b) ≡ nat_lt a b
shorter-is start a b = grind (arith, ints, nat_tests)

pub ended-is : (e : Standing) → int_lt (view e).end (view e).asked ≡ is_ended e
ended-is e = shorter-is e.start e.length e.asked

-- an end that is new
pub end-new-is : (e t : Standing) → t.start ≡ e.start → int_lt (view e).end (view t).end ≡ nat_lt e.length t.length
end-new-is e t same = ap (λ k. int_lt (view e).end (k +ℤ pos t.length)) same ∙ shorter-is e.start e.length t.length

none-or : (a b : Bool) → (not false && (not a && not b)) ≡ not (or_else a b)
none-or true b = refl
none-or false b = refl

pub news-is : (h : Option ℤ) (e : Standing) (t : Option Standing) (k : Told) (older : List LineEvent) → SameTold e t k → IsFair h (view e) k older → is_none (news e t) ≡ not (is_new (view e) k)
news-is h e None Untold older same fair = by_test e.cancelled (λ c. simp c refl) (λ c. simp c refl)
news-is h e None (Known k) older same fair = absurd same
news-is h e None Never older same fair = absurd same
news-is h e (Some t) Untold older same fair = absurd same
news-is h e (Some t) (Known k) older same fair =
    let start : t.start ≡ e.start = ap (λ (z : LineEvent). z.start) same.0 ∙ fair.start in
    subst (λ z. is_none (news e (Some t)) ≡ not (is_news (view e) z)) same.0
    (none-or (nat_lt e.length t.length) (e.cancelled && not t.cancelled) ∙ ap (λ b. not (or_else b (e.cancelled && not t.cancelled))) (sym (end-new-is e t start)))
news-is h e (Some t) Never older same fair =
    let c : e.cancelled ≡ true = fair in
    let s : nat_lt e.length t.length ≡ false = let l = same.1 in no-less e.length t.length l in
    simp (c, same.0, s) refl
  where
    no-less : (a b : ℕ) → b ≤ a → nat_lt a b ≡ false
    no-less a b l = grind (arith, nat_tests)

limit-by : (c d : Bool) (start end : ℤ) → cond (not c && d) end start ≡ cond c start (cond d end start)
limit-by true d start end = refl
limit-by false d start end = refl

pub limit-is : (e : Standing) → limit e ≡ line_limit (view e)
limit-is e = limit-by e.cancelled (is_ended e) e.start (end_of e) ∙ ap (λ b. cond e.cancelled e.start (cond b (end_of e) e.start)) (sym (ended-is e))

pub repeated-is : (h : ℤ) (later : Option ℤ) (e : Standing) (last : Option ℤ) → is_repeated e last (Some h) later ≡ is_due (Some h) later (view e) last
repeated-is h later e None = sym (and-false (int_lt h (line_limit (view e))))
repeated-is h None e (Some last) = sym (and-false (int_lt h (line_limit (view e))))
repeated-is h (Some later) e (Some last) = ap (λ t. int_lt h t && int_le (last +ℤ pos 90000) later) (limit-is e)

chosen-none : (h later : Option ℤ) (x : Sender) → is_none (chosen x h later) ≡ not (or_else (not (is_none (news x.event x.told))) (is_repeated x.event x.last h later))
chosen-none h later x =
    by_test (is_none (news x.event x.told))
    (λ n. by_test (is_repeated x.event x.last h later)
    (λ r. let c = some-current x.event in simp (n, r, c) refl)
    (λ r. simp (n, r) refl))
    (λ n. simp n refl)

not-not : (b : Bool) → not (not b) ≡ b
not-not true = refl
not-not false = refl

pub silent-is : (h : ℤ) (later : Option ℤ) (x : Sender) (y : LineSender) (older : List LineEvent) → IsSender (Some h) x y → IsFair (Some h) y.event y.told older
    → is_none (chosen x (Some h) later) ≡ not (is_sent (Some h) later y.event y.last y.told)
silent-is h later x y older same fair =
    let f : IsFair (Some h) (view x.event) y.told older = subst (λ e. IsFair (Some h) e y.told older) (sym same.event_is) fair in
    chosen-none (Some h) later x
    ∙ ap (λ b. not (or_else (not b) (is_repeated x.event x.last (Some h) later))) (news-is (Some h) x.event x.told y.told older same.told_is f)
    ∙ ap (λ b. not (or_else b (is_repeated x.event x.last (Some h) later))) (not-not (is_new (view x.event) y.told))
    ∙ ap (λ b. not (or_else (is_new (view x.event) y.told) b)) (repeated-is h later x.event x.last)
    ∙ ap (λ e. not (or_else (is_new e y.told) (is_due (Some h) later e x.last))) same.event_is
    ∙ ap (λ l. not (or_else (is_new y.event y.told) (is_due (Some h) later y.event l))) same.last_is
    ∙ ap not (sym (sent-is (Some h) later y.event y.last y.told))

-- ---- a packet

held-later : (h l : ℤ) → h ≤ℤ l → (x : Sender) → IsHeld h x → IsHeld l x
held-later h l up x k = record {
  id = k.id;
  program = k.program;
  some = k.some;
  most = k.most;
  whole = k.whole;
  start = let s = k.start in omega (arith, ints);
  end = λ short. let s = k.end short in omega (arith, ints);
  count = k.count;
  avails = k.avails;
}

-- what was told is the event, where nothing is new
nothing-new : (h : Option ℤ) (e k : LineEvent) → IsKnown h e k → is_news e k ≡ false → k ≡ e
nothing-new h e k known is =
    let p = or_else-false (int_lt e.end k.end) (is_cancel_new e k) is in
    equal_events k e known.id known.start known.asked
    (let a = known.earlier in let b = ge-test e.end k.end p.0 in omega (arith, ints))
    (same_flag e.cancelled k.cancelled p.1 known.cancelled)

silent-told : (h later : Option ℤ) (e : Standing) (t : Option Standing) (f : LineEvent) (last : Option ℤ) (k : Told) (older : List LineEvent) → SameTold e t k → IsFair h f k older
    → is_sent h later f last k ≡ false → SameTold e t (line_told_now f k)
silent-told h later e None f last Untold older same fair off = absurd (let bad : true ≡ false = off in cc)
silent-told h later e None f last (Known k) older same fair off = absurd same
silent-told h later e None f last Never older same fair off = absurd same
silent-told h later e (Some t) f last Untold older same fair off = absurd same
silent-told h later e (Some t) f last (Known k) older same fair off =
    (same.0 ∙ nothing-new h f k fair (or_else-false (is_news f k) (is_due h later f last) off).0, same.1)
silent-told h later e (Some t) f last Never older same fair off = same

sent-told : (h : Option ℤ) (e : Standing) (f : LineEvent) (k : Told) (older : List LineEvent) → view e ≡ f → e.length ≤ e.asked → IsFair h f k older → SameTold e (Some e) (line_told_now f k)
sent-told h e f Untold older is whole fair =
    by_test f.cancelled
    (λ c. simp c (ap (λ (z : LineEvent). z.cancelled) is ∙ c, omega arith))
    (λ c. simp c (is, whole))
sent-told h e f (Known k) older is whole fair = (is, whole)
sent-told h e f Never older is whole fair = (ap (λ (z : LineEvent). z.cancelled) is ∙ fair, omega arith)

pub tell-sender : (h later : Option ℤ) → Rises h later → (x : Sender) (y : LineSender) (older : List LineEvent) → IsSender h x y → IsFair h y.event y.told older
    → IsSender later (tell h later x) (line_tell h later y)
tell-sender None later r x y older same fair = absurd same.held
tell-sender (Some h) None r x y older same fair = absurd r
tell-sender (Some h) (Some l) r x y older same fair =
    let s = silent-is h (Some l) x y older same fair in
    let held = held-later h l r.0 x same.held in
    by_test (is_sent (Some h) (Some l) y.event y.last y.told)
    (λ on. let n : is_none (chosen x (Some h) (Some l)) ≡ false = s ∙ ap not on in
    simp (n, on) (record { event_is = same.event_is; told_is = sent-told (Some h) x.event y.event y.told older same.event_is same.held.whole fair; last_is = refl; held = still x held }))
    (λ off. let n : is_none (chosen x (Some h) (Some l)) ≡ true = s ∙ ap not off in
    simp (n, off) (record { event_is = same.event_is; told_is = silent-told (Some h) (Some l) x.event x.told y.event y.last y.told older same.told_is fair off; last_is = same.last_is; held = held }))
  where
    still : (x : Sender) → IsHeld l x → IsHeld l (told_now (Some l) x)
    still x k = record { id = k.id; program = k.program; some = k.some; most = k.most; whole = k.whole; start = k.start; end = k.end; count = k.count; avails = k.avails }

-- ---- a cancel, and an early end

length-told : (e f : Standing) (t : Option Standing) (k : Told) → f.length ≡ e.length → SameTold e t k → SameTold f t k
length-told e f None Untold is same = same
length-told e f None (Known k) is same = same
length-told e f None Never is same = same
length-told e f (Some t) Untold is same = same
length-told e f (Some t) (Known k) is same = same
length-told e f (Some t) Never is same = (same.0, let l = same.1 in omega (arith, l, is))

ended-told : (h : Option ℤ) (e f : Standing) (t : Option Standing) (y : LineEvent) (k : Told) (older : List LineEvent) → y.cancelled ≡ false → IsFair h y k older → SameTold e t k → SameTold f t k
ended-told h e f None y Untold older un fair same = same
ended-told h e f None y (Known k) older un fair same = same
ended-told h e f None y Never older un fair same = same
ended-told h e f (Some t) y Untold older un fair same = same
ended-told h e f (Some t) y (Known k) older un fair same = same
ended-told h e f (Some t) y Never older un fair same = absurd (let bad : true ≡ false = sym fair ∙ un in cc)

abbrev with_event_of : LineSender → LineEvent → LineSender
with_event_of y e = record { event = e; told = y.told; last = y.last }

module _ (h : ℤ) (id : ℕ) where
  abbrev pub is_mine : LineSender → Bool
  is_mine y = line_is_of (Some h) id y.event

  pub mine-is : (x : Sender) (y : LineSender) → IsSender (Some h) x y → stands_by (Some h) id x ≡ is_mine y
  mine-is x y same = ap (line_is_of (Some h) id) same.event_is

  cancel-sender : (x : Sender) (y : LineSender) → IsSender (Some h) x y → can_cancel (Some h) id y.event ≡ true → IsSender (Some h) (with_event cancelled_one x) (change (cancel_by (Some h) id) y)
  cancel-sender x y same can = record {
    event_is = ap made same.event_is ∙ ap (with_c y.event) (sym (or-right (y.event).cancelled (can_cancel (Some h) id y.event) can));
    told_is = length-told x.event (cancelled_one x.event) x.told y.told refl same.told_is;
    last_is = same.last_is;
    held = let k : IsHeld h x = same.held in record { id = k.id; program = k.program; some = k.some; most = k.most; whole = k.whole; start = k.start; end = k.end; count = k.count; avails = k.avails };
  }
    where
      with_c : LineEvent → Bool → LineEvent
      with_c e c = record { id = e.id; start = e.start; asked = e.asked; end = e.end; cancelled = c }

      made : LineEvent → LineEvent
      made e = with_c e true

  end-sender : (time : ℤ) → time ≤ℤ (h +ℤ pos (2 ^ 29)) → (x : Sender) (y : LineSender) (older : List LineEvent) → IsSender (Some h) x y → IsFair (Some h) y.event y.told older
      → can_end (Some h) id time y.event ≡ true → IsSender (Some h) (with_event (ending_at time) x) (change (end_by (Some h) id time) y)
  end-sender time near x y older same fair can =
      let parts = can_end-parts (Some h) id time y.event can in
      let start : x.event.start ≡ (y.event).start = ap (λ (e : LineEvent). e.start) same.event_is in
      let end : end_of x.event ≡ (y.event).end = ap (λ (e : LineEvent). e.end) same.event_is in
      let past : x.event.start <ℤ time = subst (λ k. k <ℤ time) (sym start) parts.past in
      let early : time <ℤ end_of x.event = subst (λ k. time <ℤ k) (sym end) parts.earlier in
      let new : end_of (ending_at time x.event) ≡ time = ending-end x.event.start time past in
      record {
        event_is = ap (with_end (view x.event)) new ∙ ap (λ e. with_end e time) same.event_is ∙ ap (λ b. with_end y.event (cond b time (y.event).end)) (sym can);
        told_is = ended-told (Some h) x.event (ending_at time x.event) x.told y.event y.told older parts.uncancelled fair same.told_is;
        last_is = same.last_is;
        held = let k : IsHeld h x = same.held in record {
          id = k.id;
          program = k.program;
          some = k.some;
          most = k.most;
          whole = shorter x.event.start (ending_at time x.event).length x.event.length x.event.asked time new early k.whole;
          start = k.start;
          end = λ short. subst (λ z. z ≤ℤ (h +ℤ pos (2 ^ 29))) (sym new) near;
          count = k.count;
          avails = k.avails;
        };
      }
    where
      with_end : LineEvent → ℤ → LineEvent
      with_end e k = record { id = e.id; start = e.start; asked = e.asked; end = k; cancelled = e.cancelled }

      shorter : (start : ℤ) (new old asked : ℕ) (time : ℤ) → start +ℤ pos new ≡ time → time <ℤ (start +ℤ pos old) → old ≤ asked → new ≤ asked
      shorter start new old asked time is early whole = omega (arith, ints, is, early, whole)

  mine-once : (ys : List LineSender) → AtMostOnce (line_is_of (Some h) id) (map event_of ys) → AtMostOnce is_mine ys
  mine-once [] once = tt
  mine-once (y ∷ ys) once = (λ on. any-events ys (once.0 on), mine-once ys once.1)
    where
      any-events : (zs : List LineSender) → list_any (line_is_of (Some h) id) (map event_of zs) ≡ false → list_any is_mine zs ≡ false
      any-events zs none = sym (any-map zs) ∙ none
        where
          any-map : (zs : List LineSender) → list_any (line_is_of (Some h) id) (map event_of zs) ≡ list_any is_mine zs
          any-map [] = refl
          any-map (z ∷ zs) = ap (λ b. is_mine z || b) (any-map zs)

  pub cancel-senders : (xs : List Sender) (ys : List LineSender) → Alike (IsSender (Some h)) xs ys → AtMostOnce (line_is_of (Some h) id) (map event_of ys)
      → ((y : LineSender) → In y ys → is_mine y ≡ true → can_cancel (Some h) id y.event ≡ true)
      → Alike (IsSender (Some h)) (with_first (stands_by (Some h) id) (with_event cancelled_one) xs) (map (change (cancel_by (Some h) id)) ys)
  cancel-senders xs ys a once can =
      alike-first (IsSender (Some h)) (stands_by (Some h) id) is_mine mine-is (with_event cancelled_one) (change (cancel_by (Some h) id))
      (λ y off. ap (with_event_of y) (cancel-off (Some h) id y.event (by_test (can_cancel (Some h) id y.event) (λ c. absurd (let bad : true ≡ false = sym (and_parts (line_is_of (Some h) id y.event) (before (Some h) (y.event).start) c).0 ∙ off in cc)) (λ c. c))))
      xs ys (λ x y i same on. cancel-sender x y same (can y i on)) (mine-once ys once) a

  pub end-senders : (time : ℤ) → time ≤ℤ (h +ℤ pos (2 ^ 29)) → (xs : List Sender) (ys : List LineSender) → Alike (IsSender (Some h)) xs ys → AtMostOnce (line_is_of (Some h) id) (map event_of ys)
      → ((y : LineSender) → In y ys → is_mine y ≡ true → can_end (Some h) id time y.event ≡ true)
      → ((y : LineSender) → In y ys → (older : List LineEvent) × IsFair (Some h) y.event y.told older)
      → Alike (IsSender (Some h)) (with_first (stands_by (Some h) id) (with_event (ending_at time)) xs) (map (change (end_by (Some h) id time)) ys)
  end-senders time near xs ys a once can fair =
      alike-first (IsSender (Some h)) (stands_by (Some h) id) is_mine mine-is (with_event (ending_at time)) (change (end_by (Some h) id time))
      (λ y off. ap (with_event_of y) (end-off (Some h) id time y.event (by_test (can_end (Some h) id time y.event) (λ c. absurd (let bad : true ≡ false = sym ((can_end-parts (Some h) id time y.event c).of) ∙ off in cc)) (λ c. c))))
      xs ys (λ x y i same on. let f = fair y i in end-sender time near x y f.0 same f.1 (can y i on)) (mine-once ys once) a

-- what is fair of one of them
pub fair-in : (h : Option ℤ) (ys : List LineSender) → Fair h ys → (y : LineSender) → In y ys → (older : List LineEvent) × IsFair h y.event y.told older
fair-in h [] fair y i = absurd i
fair-in h (z ∷ ys) fair y (inl is) = (map event_of ys, subst (λ w. IsFair h w.event w.told (map event_of ys)) (sym is) fair.0)
fair-in h (z ∷ ys) fair y (inr i) = fair-in h ys fair.3 y i

-- a packet
pub tell-senders : (h later : Option ℤ) → Rises h later → (xs : List Sender) (ys : List LineSender) → Fair h ys → Alike (IsSender h) xs ys → Alike (IsSender later) (map (tell h later) xs) (map (line_tell h later) ys)
tell-senders h later r xs ys fair a = alike-map (IsSender h) (IsSender later) (tell h later) (line_tell h later) xs ys (λ x y i same. let f = fair-in h ys fair y i in tell-sender h later r x y f.0 same f.1) a

-- the events of and_parts
pub view-senders : (h : Option ℤ) (xs : List Sender) (ys : List LineSender) → Alike (IsSender h) xs ys → Alike IsView (events_in xs) (map event_of ys)
view-senders h xs [] a = ap events_in a
view-senders h xs (y ∷ ys) a = (events_in a.0, (a.1).event, ap events_in a.2 ∙ map-append (λ (x : Sender). x.event) a.0 (a.1 ∷ []), (a.3).event_is, view-senders h a.0 ys a.4)
