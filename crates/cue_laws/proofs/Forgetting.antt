-- A table that forgets judges as one that does not.
use Rattle.std.specs.Prelude.{ℤ, pos, ◌+ℤ◌, int_lt, filter, map, is_some, if◌then◌else◌}
use Rattle.std.specs.List.{list_any}
use Rattle.std.proofs.Common.{◌≡◌, ℕ, ◌==◌, nat_lt, Bool, true, false, not, ◌&&◌, refl, sym, ap, ◌∙◌, List, [], ◌∷◌, length, Option, arith}
use Rattle.std.proofs.lemmas.Int.{ints}
use Rattle.std.proofs.lemmas.Bool.{and_parts}
use Rattle.ts_packet.proofs.Cases.{by_test}
use Rattle.cue_laws.specs.Events.{LineEvent, Started, Cancelled, Ended, Passed, high, before, events, taken, stands, is_of, bars, count, can_start, fresh, cancel_by, can_end, end_by}
use Rattle.cue_laws.specs.Tables.{ForgettingIsSafe}
use Rattle.cue_laws.proofs.Settling.{can_end-parts}
use Rattle.cue_laws.proofs.Orders.{before-more, before-back, is_of-parts}

any-filter : (p q : LineEvent → Bool) → ((e : LineEvent) → p e ≡ true → q e ≡ true) → (es : List LineEvent) → list_any p (filter q es) ≡ list_any p es
any-filter p q imp [] = refl
any-filter p q imp (e ∷ es) =
    by_test (q e)
    (λ t. simp (t, any-filter p q imp es))
    (λ t.
    let off : p e ≡ false = by_test (p e) (λ u. let v = imp e u in absurd (let bad : true ≡ false = sym v ∙ t in cc)) (λ u. u) in
    simp (t, off, any-filter p q imp es))

-- the stronger test alone
pub filter-filter : (p q : LineEvent → Bool) → ((e : LineEvent) → p e ≡ true → q e ≡ true) → (es : List LineEvent) → filter p (filter q es) ≡ filter p es
filter-filter p q imp [] = refl
filter-filter p q imp (e ∷ es) =
    by_test (q e)
    (λ t. by_test (p e) (λ u. simp (t, u, filter-filter p q imp es)) (λ u. simp (t, u, filter-filter p q imp es)))
    (λ t.
    let off : p e ≡ false = by_test (p e) (λ u. let v = imp e u in absurd (let bad : true ≡ false = sym v ∙ t in cc)) (λ u. u) in
    simp (t, off, filter-filter p q imp es))

filter-map : (p : LineEvent → Bool) (f : LineEvent → LineEvent) → ((e : LineEvent) → p (f e) ≡ p e) → (es : List LineEvent) → filter p (map f es) ≡ map f (filter p es)
filter-map p f same [] = refl
filter-map p f same (e ∷ es) = by_test (p e) (λ t. let u = same e ∙ t in simp (t, u, filter-map p f same es)) (λ t. let u = same e ∙ t in simp (t, u, filter-map p f same es))

stands-ended : (h : Option ℤ) (id : ℕ) (time : ℤ) (e : LineEvent) → stands h (end_by h id time e) ≡ stands h e
stands-ended h id time e =
    by_test (can_end h id time e)
    (λ c.
    let p = can_end-parts h id time e c in
    let s : stands h e ≡ true = (is_of-parts h id e p.of).0 in
    ap (λ b. before h ((if b then time else e.end) +ℤ pos 900000)) c ∙ before-more h time (time +ℤ pos 900000) p.ahead (omega (arith, ints)) ∙ sym s)
    (λ c. ap (λ b. before h ((if b then time else e.end) +ℤ pos 900000)) c)

can_start-filter : (h : Option ℤ) (id : ℕ) (start end : ℤ) (es : List LineEvent) → can_start h id start end (filter (stands h) es) ≡ can_start h id start end es
can_start-filter h id start end es =
    ap (λ b. is_some h && (int_lt start end && (before h start && (not b && (nat_lt (count h (filter (stands h) es)) 32 && not (list_any (bars h start end) (filter (stands h) es)))))))
    (any-filter (is_of h id) (stands h) (λ e o. (and_parts (stands h e) (e.id == id) o).0) es)
    ∙ ap (λ l. is_some h && (int_lt start end && (before h start && (not (list_any (is_of h id) es) && (nat_lt (length l) 32 && not (list_any (bars h start end) (filter (stands h) es)))))))
    (filter-filter (stands h) (stands h) (λ e o. o) es)
    ∙ ap (λ b. is_some h && (int_lt start end && (before h start && (not (list_any (is_of h id) es) && (nat_lt (count h es) 32 && not b)))))
    (any-filter (bars h start end) (stands h) (λ e o. (and_parts (stands h e) (int_lt start e.end && int_lt e.start end) o).0) es)

added-filter : (p : LineEvent → Bool) (b : Bool) (x : LineEvent) (es : List LineEvent) → filter p (if b then x ∷ filter p es else filter p es) ≡ filter p (if b then x ∷ es else es)
added-filter p true x es = ap (λ l. if p x then x ∷ l else l) (filter-filter p p (λ e o. o) es)
added-filter p false x es = filter-filter p p (λ e o. o) es

mapped-filter : (p : LineEvent → Bool) (f : LineEvent → LineEvent) → ((e : LineEvent) → p (f e) ≡ p e) → (es : List LineEvent) → filter p (map f (filter p es)) ≡ filter p (map f es)
mapped-filter p f same es = filter-map p f same (filter p es) ∙ ap (map f) (filter-filter p p (λ e o. o) es) ∙ sym (filter-map p f same es)

pub forgetting_is_safe : ForgettingIsSafe
forgetting_is_safe [] n = refl
forgetting_is_safe (Started id start end ∷ past) n =
    let h = high past in
    ap (λ l. filter (stands h) (taken h (Started id start end) l)) (forgetting_is_safe past n)
    ∙ ap (λ b. filter (stands h) (if b then fresh id start end ∷ filter (stands h) (events past) else filter (stands h) (events past))) (can_start-filter h id start end (events past))
    ∙ added-filter (stands h) (can_start h id start end (events past)) (fresh id start end) (events past)
forgetting_is_safe (Cancelled id ∷ past) n =
    let h = high past in
    ap (λ l. filter (stands h) (map (cancel_by h id) l)) (forgetting_is_safe past n) ∙ mapped-filter (stands h) (cancel_by h id) (λ e. refl) (events past)
forgetting_is_safe (Ended id time ∷ past) n =
    let h = high past in
    ap (λ l. filter (stands h) (map (end_by h id time) l)) (forgetting_is_safe past n) ∙ mapped-filter (stands h) (end_by h id time) (stands-ended h id time) (events past)
forgetting_is_safe (Passed later ∷ past) n =
    ap (filter (stands later)) (forgetting_is_safe past n.1)
    ∙ filter-filter (stands later) (stands (high past)) (λ e o. before-back (high past) later (e.end +ℤ pos 900000) n.0 o) (events past)
