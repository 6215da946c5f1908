-- What a splicer that loses cues has is part of what one has that loses none.
use Rattle.std.proofs.Common.{◌≡◌, ℕ, ◌<◌, ◌≤◌, ◌==◌, Bool, true, false, not, ◌&&◌, ◌⊎◌, inl, inr, refl, sym, ap, ◌∙◌, subst, List, [], ◌∷◌, length, Option, arith}
use Rattle.std.specs.Prelude.{ℤ, pos, ◌+ℤ◌, ◌<ℤ◌, ◌≤ℤ◌, int_lt, filter, map, is_some, if◌then◌else◌}
use Rattle.std.proofs.lemmas.Int.{ints}
use Rattle.std.proofs.lemmas.Bool.Decides.{nat_tests}
use Rattle.std.proofs.lemmas.Bool.{and_from, and_left, and_parts}
use Rattle.ts_packet.proofs.Cases.{by_test}
use Rattle.pes_time.proofs.IntLemmas.{lt-test, lt-is}
use Rattle.ts_packet.specs.Membership.{In}
use Rattle.ts_packet.proofs.MembershipLemmas.{In-map, In-mapped, In-filter, In-filtered, any-false, any-none}
use Rattle.cue_laws.specs.Events.{LineEvent, Started, Cancelled, Ended, before, taken, stands, is_of, bars, count, can_start, fresh, can_cancel, cancel_by, can_end, end_by, or_so}
use Rattle.cue_laws.specs.Thinning.{Repeats}
use Rattle.cue_laws.proofs.Settling.{can_start-parts, CanStart}
use Rattle.cue_laws.proofs.Lists.{Distinct, distinct-filter, distinct-map, no_more}
use Rattle.cue_laws.proofs.Orders.{Orderly, before-more, is_of-parts, is_of-is, or-left}

-- the same event: here it may be uncancelled where it is cancelled there
pub record Match (a t : LineEvent) : Type 0 where
  pub id : a.id ≡ t.id
  pub start : a.start ≡ t.start
  pub asked : a.asked ≡ t.asked
  pub end : a.end ≡ t.end
  pub cancelled : a.cancelled ≡ true → t.cancelled ≡ true

-- THE INVARIANT: each event here stands there
pub record Below (es all : List LineEvent) : Type 0 where
  pub part : (a : LineEvent) → In a es → (t : LineEvent) × In t all × Match a t
  pub distinct : Distinct es

pub below-none : Below [] []
below-none = record { part = λ a i. absurd i; distinct = tt }

-- each event of the one list has its like in the other after a change
below-to : (f : LineEvent → LineEvent) → ((e : LineEvent) → (f e).start ≡ e.start) → (es all all' : List LineEvent) → Below es all
    → ((a t : LineEvent) → In t all → Match a t → (u : LineEvent) × In u all' × Match (f a) u) → Below (map f es) all'
below-to f keeps es all all' b like = record {
  part = λ a i. let r = In-mapped f a es i in let m = b.part r.0 r.1 in let u = like r.0 m.0 m.1 m.2 in (u.0, u.1, subst (λ z. Match z u.0) (sym r.2) u.2);
  distinct = distinct-map f keeps es b.distinct;
}

pub match-stands : (h : Option ℤ) (a t : LineEvent) → Match a t → stands h a ≡ stands h t
match-stands h a t m = ap (λ e. before h (e +ℤ pos 900000)) m.end

pub match-is_of : (h : Option ℤ) (id : ℕ) (a t : LineEvent) → Match a t → is_of h id a ≡ is_of h id t
match-is_of h id a t m = ap (λ e. before h (e +ℤ pos 900000) && a.id == id) m.end ∙ ap (λ i. stands h t && i == id) m.id

pub match-can_cancel : (h : Option ℤ) (id : ℕ) (a t : LineEvent) → Match a t → can_cancel h id a ≡ can_cancel h id t
match-can_cancel h id a t m = ap (λ v. v && before h a.start) (match-is_of h id a t m) ∙ ap (λ s. is_of h id t && before h s) m.start

-- ---- what is left out

pub skip_start : (h : Option ℤ) (id : ℕ) (start end : ℤ) (es all : List LineEvent) → Below es all → Below es (taken h (Started id start end) all)
skip_start h id start end es all b =
    by_test (can_start h id start end all)
    (λ can. simp can (record { part = λ a i. let r = b.part a i in (r.0, inr r.1, r.2); distinct = b.distinct }))
    (λ can. simp can b)

pub skip_cancel : (h : Option ℤ) (id : ℕ) (es all : List LineEvent) → Below es all → Below es (taken h (Cancelled id) all)
skip_cancel h id es all b = record {
  part = λ a i. let r = b.part a i in let m = r.2 in (
    cancel_by h id r.0,
    In-map (cancel_by h id) r.0 all r.1,
    record { id = m.id; start = m.start; asked = m.asked; end = m.end; cancelled = λ c. or-left r.0.cancelled (can_cancel h id r.0) (m.cancelled c) },
  );
  distinct = b.distinct;
}

-- ---- what arrives, where all is as the cue left it

-- all that a cancel cancels is cancelled
abbrev pub IsCancelledBy : Option ℤ → ℕ → List LineEvent → Type 0
IsCancelledBy h id all = (t : LineEvent) → In t all → can_cancel h id t ≡ true → t.cancelled ≡ true

pub or-split : (a b : Bool) → or_so a b ≡ true → (a ≡ true) ⊎ (b ≡ true)
or-split a true is = inr refl
or-split a false is = inl is

pub take_cancel : (h : Option ℤ) (id : ℕ) (es all : List LineEvent) → IsCancelledBy h id all → Below es all → Below (taken h (Cancelled id) es) all
take_cancel h id es all done b =
    below-to (cancel_by h id) (λ e. refl) es all all b
    (λ a t i m. (
      t,
      i,
      record {
        id = m.id;
        start = m.start;
        asked = m.asked;
        end = m.end;
        cancelled = λ c. which a t i m (or-split a.cancelled (can_cancel h id a) c);
      },
    ))
  where
    which : (a t : LineEvent) → In t all → Match a t → (a.cancelled ≡ true) ⊎ (can_cancel h id a ≡ true) → t.cancelled ≡ true
    which a t i m (inl c) = m.cancelled c
    which a t i m (inr c) = done t i (sym (match-can_cancel h id a t m) ∙ c)

-- where the event there is not cancelled, an end does the same to and_parts
end_same : (h : Option ℤ) (id : ℕ) (time : ℤ) (a t : LineEvent) → Match a t → (is_of h id t ≡ true → t.cancelled ≡ false) → can_end h id time a ≡ can_end h id time t
end_same h id time a t m un =
    by_test (is_of h id t)
    (λ s.
    let c : a.cancelled ≡ t.cancelled = by_test a.cancelled (λ k. let l = m.cancelled k in let n = un s in cc) (λ k. k ∙ sym (un s)) in
    ap (λ v. v && (not a.cancelled && (int_lt a.start time && (before h time && int_lt time a.end)))) (match-is_of h id a t m)
    ∙ ap (λ v. is_of h id t && (not v && (int_lt a.start time && (before h time && int_lt time a.end)))) c
    ∙ ap (λ v. is_of h id t && (not t.cancelled && (int_lt v time && (before h time && int_lt time a.end)))) m.start
    ∙ ap (λ v. is_of h id t && (not t.cancelled && (int_lt t.start time && (before h time && int_lt time v)))) m.end)
    (λ s. and_left (is_of h id a) _ (match-is_of h id a t m ∙ s) ∙ sym (and_left (is_of h id t) _ s))

pub take_end : (h : Option ℤ) (id : ℕ) (time : ℤ) (es all : List LineEvent) → ((t : LineEvent) → In t all → is_of h id t ≡ true → t.cancelled ≡ false)
    → Below es all → Below (taken h (Ended id time) es) (taken h (Ended id time) all)
take_end h id time es all un b =
    below-to (end_by h id time) (λ e. refl) es all (map (end_by h id time) all) b
    (λ a t i m. (
      end_by h id time t,
      In-map (end_by h id time) t all i,
      record {
        id = m.id;
        start = m.start;
        asked = m.asked;
        cancelled = m.cancelled;
        end = ap (λ v. if v then time else a.end) (end_same h id time a t m (un t i)) ∙ ap (λ e. if can_end h id time t then time else e) m.end;
      },
    ))

-- ---- a start that arrives

-- the event of a start cue, in a list that took the cue or had it before
pub record IsThere (h : Option ℤ) (id : ℕ) (start end : ℤ) (all : List LineEvent) (x : LineEvent) : Type 0 where
  pub clock : is_some h ≡ true
  pub ahead : before h start ≡ true
  pub there : In x all
  pub repeats : Repeats id start end x

take_start_new : (h : Option ℤ) (id : ℕ) (start end : ℤ) (es all : List LineEvent) (x : LineEvent) → Orderly h all → IsThere h id start end all x → Below es all
    → ((e : LineEvent) → In e es → e.start ≡ start → ⊥) → Below (fresh id start end ∷ es) all
take_start_new h id start end es all x o x_is b none = record { part = part; distinct = (λ e i is. none e i is, b.distinct) }
  where
    here : Match (fresh id start end) x
    here = let r = x_is.repeats in
        record { id = sym r.same_id; start = sym r.same_start; asked = sym r.same_asked; end = sym r.unshortened; cancelled = λ c. let bad : false ≡ true = c in cc }

    part : (a : LineEvent) → In a (fresh id start end ∷ es) → (t : LineEvent) × In t all × Match a t
    part a (inl is) = (x, x_is.there, subst (λ z. Match z x) (sym is) here)
    part a (inr i) = b.part a i

there-some : (h : Option ℤ) (id : ℕ) (start end : ℤ) (all : List LineEvent) (x : LineEvent) → Orderly h all → IsThere h id start end all x → start <ℤ end
there-some h id start end all x o x_is = let s = o.some x x_is.there in let r = x_is.repeats in omega (arith, ints, s, r.same_start, r.unshortened)

there-stands : (h : Option ℤ) (id : ℕ) (start end : ℤ) (all : List LineEvent) (x : LineEvent) → Orderly h all → IsThere h id start end all x → stands h x ≡ true
there-stands h id start end all x o x_is =
    let s = o.some x x_is.there in let r = x_is.repeats in
    before-more h start (x.end +ℤ pos 900000) x_is.ahead (omega (arith, ints, s, r.same_start))

can_start-is : (h : Option ℤ) (id : ℕ) (start end : ℤ) (es : List LineEvent) → CanStart h id start end es → can_start h id start end es ≡ true
can_start-is h id start end es c =
    and_from _ _ c.clock (and_from _ _ (lt-is start end c.some) (and_from _ _ c.ahead (and_from _ _ (ap not c.unused) (and_from _ _ c.room (ap not c.free)))))

-- here it can be armed, where it is not there yet
pub start_taken : (h : Option ℤ) (id : ℕ) (start end : ℤ) (es all : List LineEvent) (x : LineEvent) → Orderly h all → IsThere h id start end all x → Below es all
    → ((e : LineEvent) → In e es → e.start ≡ start → ⊥) → can_start h id start end es ≡ true
start_taken h id start end es all x o x_is b none =
    can_start-is h id start end es (record {
      clock = x_is.clock;
      some = there-some h id start end all x o x_is;
      ahead = x_is.ahead;
      unused = any-none (is_of h id) es (λ a i. by_test (is_of h id a) (λ t. absurd (used a i t)) (λ t. t));
      room = let l = fits in grind (arith, nat_tests);
      free = any-none (bars h start end) es (λ a i. by_test (bars h start end a) (λ t. absurd (barred a i t)) (λ t. t));
    })
  where
    stands_there : stands h x ≡ true
    stands_there = there-stands h id start end all x o x_is

    used : (a : LineEvent) → In a es → is_of h id a ≡ true → ⊥
    used a i t =
        let m = b.part a i in let p = is_of-parts h id a t in
        none a i (m.2.start ∙ o.ids m.0 x m.1 x_is.there (sym (match-stands h a m.0 m.2) ∙ p.0) stands_there (sym m.2.id ∙ p.1 ∙ sym x_is.repeats.same_id) ∙ x_is.repeats.same_start)

    barred : (a : LineEvent) → In a es → bars h start end a ≡ true → ⊥
    barred a i t =
        let m = b.part a i in
        let p = (and_parts (stands h a) _ t).1 in
        let q = and_parts (int_lt start a.end) (int_lt a.start end) p in
        split a m.0 m.2 (lt-test start a.end q.0) (lt-test a.start end q.1) (o.apart m.0 x m.1 x_is.there (λ is. none a i (m.2.start ∙ is ∙ x_is.repeats.same_start)))
      where
        split : (a t : LineEvent) → Match a t → start <ℤ a.end → a.start <ℤ end → (t.end ≤ℤ x.start) ⊎ (x.end ≤ℤ t.start) → ⊥
        split a t m l r (inl k) = let s = x_is.repeats in omega (arith, ints, m.end, l, k, s.same_start)
        split a t m l r (inr k) = let s = x_is.repeats in omega (arith, ints, m.start, r, k, s.unshortened)

    fits : count h es < 32
    fits =
        let most = o.room in
        let more : length (x ∷ filter (stands h) es) ≤ count h all =
        no_more (x ∷ filter (stands h) es) (filter (stands h) all)
        ((λ e i is. none e (In-filtered (stands h) e es i).0 (is ∙ x_is.repeats.same_start)), distinct-filter (stands h) es b.distinct)
        (λ e i. each e i) in
        omega (arith, most, more)
      where
        each : (e : LineEvent) → In e (x ∷ filter (stands h) es) → (t : LineEvent) × In t (filter (stands h) all) × (e.start ≡ t.start)
        each e (inl is) = (x, In-filter (stands h) x all x_is.there stands_there, ap (λ (z : LineEvent). z.start) is)
        each e (inr i) =
            let r = In-filtered (stands h) e es i in let m = b.part e r.0 in
            (m.0, In-filter (stands h) m.0 all m.1 (sym (match-stands h e m.0 m.2) ∙ r.1), m.2.start)

pub take_start : (h : Option ℤ) (id : ℕ) (start end : ℤ) (es all : List LineEvent) (x : LineEvent) → Orderly h all → IsThere h id start end all x → Below es all
    → Below (taken h (Started id start end) es) all
take_start h id start end es all x o x_is b =
    by_test (can_start h id start end es)
    (λ can. simp can (take_start_new h id start end es all x o x_is b (λ a i is. new a i is (can_start-parts h id start end es can))))
    (λ can. simp can b)
  where
    -- one with its start would stand in the way
    new : (a : LineEvent) → In a es → a.start ≡ start → CanStart h id start end es → ⊥
    new a i is can =
        let m = b.part a i in
        let same : m.0 ≡ x = o.same m.0 x m.1 x_is.there (sym m.2.start ∙ is ∙ sym x_is.repeats.same_start) in
        let stand : stands h a ≡ true = match-stands h a m.0 m.2 ∙ ap (stands h) same ∙ there-stands h id start end all x o x_is in
        let used : is_of h id a ≡ true = is_of-is h id a stand (m.2.id ∙ ap (λ (z : LineEvent). z.id) same ∙ x_is.repeats.same_id) in
        let free : is_of h id a ≡ false = any-false (is_of h id) a es can.unused i in
        let bad : true ≡ false = sym used ∙ free in cc
