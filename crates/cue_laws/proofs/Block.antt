-- The cues before a packet do to a list of what was told what they are to say.
use Rattle.std.proofs.Common.{◌≡◌, ℕ, true, false, ◌⊎◌, inl, inr, refl, sym, ap, ◌∙◌, subst, List, [], ◌∷◌, ◌++◌, Option}
use Rattle.std.specs.Prelude.{ℤ, map, is_some, if◌then◌else◌}
use Rattle.std.proofs.lemmas.Bool.{and_left}
use Rattle.ts_packet.proofs.Cases.{by_test}
use Rattle.ts_packet.specs.Membership.{In}
use Rattle.ts_packet.proofs.MembershipLemmas.{any-false}
use Rattle.cue_laws.specs.Events.{Turn, LineEvent, Started, Cancelled, Ended, high, before, events, stands, is_of, can_start, fresh, can_cancel, cancel_by, can_end, end_by}
use Rattle.cue_laws.specs.Thinning.{MayAllCome, Repeats}
use Rattle.cue_laws.proofs.Settling.{can_start-parts}
use Rattle.cue_laws.proofs.Orders.{is_of-parts, is_of-is, or-neither}

-- a stream that may come, with the greatest time and the events after it
pub record Goes (h : Option ℤ) (stream : List Turn) (es : List LineEvent) : Type 0 where
  pub sound : MayAllCome stream
  pub clock : high stream ≡ h
  pub list : events stream ≡ es

pub goes-to : (h : Option ℤ) (stream : List Turn) (es es' : List LineEvent) → es ≡ es' → Goes h stream es → Goes h stream es'
goes-to h stream es es' is g = subst (λ l. Goes h stream l) is g

cancel_goes : (h : Option ℤ) (id : ℕ) (rest : List Turn) (es es' : List LineEvent) → map (cancel_by h id) es ≡ es' → Goes h rest es → Goes h (Cancelled id ∷ rest) es'
cancel_goes h id rest es es' is g = record {
  sound = (tt, g.sound);
  clock = g.clock;
  list = ap (λ k. map (cancel_by k id) (events rest)) g.clock ∙ ap (map (cancel_by h id)) g.list ∙ is;
}

end_goes : (h : Option ℤ) (id : ℕ) (time : ℤ) (rest : List Turn) (es es' : List LineEvent) → ((e : LineEvent) → In e es → is_of h id e ≡ true → e.cancelled ≡ false)
    → map (end_by h id time) es ≡ es' → Goes h rest es → Goes h (Ended id time ∷ rest) es'
end_goes h id time rest es es' un is g = record {
  sound = (λ e i of. un e (subst (In e) g.list i) (ap (λ k. is_of k id e) (sym g.clock) ∙ of), g.sound);
  clock = g.clock;
  list = ap (λ k. map (end_by k id time) (events rest)) g.clock ∙ ap (map (end_by h id time)) g.list ∙ is;
}

pub start_goes : (h : Option ℤ) (id : ℕ) (start end : ℤ) (rest : List Turn) (es : List LineEvent) → can_start h id start end es ≡ true → Goes h rest es
    → Goes h (Started id start end ∷ rest) (fresh id start end ∷ es)
start_goes h id start end rest es can g =
    let can' : can_start (high rest) id start end (events rest) ≡ true = ap (λ k. can_start k id start end (events rest)) g.clock ∙ ap (can_start h id start end) g.list ∙ can in
    let parts = can_start-parts (high rest) id start end (events rest) can' in
    record {
      sound = ((parts.clock, parts.ahead, inl can'), g.sound);
      clock = g.clock;
      list = simp can' (ap (λ l. fresh id start end ∷ l) g.list);
    }

pub again_goes : (h : Option ℤ) (id : ℕ) (start end : ℤ) (rest : List Turn) (es : List LineEvent) (t : LineEvent) → is_some h ≡ true → before h start ≡ true
    → In t es → Repeats id start end t → stands h t ≡ true → Goes h rest es → Goes h (Started id start end ∷ rest) es
again_goes h id start end rest es t clock ahead i r s g =
    let used : is_of h id t ≡ true = is_of-is h id t s r.same_id in
    let off : can_start h id start end es ≡ false = by_test (can_start h id start end es)
    (λ c. let f = any-false (is_of h id) t es (can_start-parts h id start end es c).unused i in absurd (let bad : true ≡ false = sym used ∙ f in cc)) (λ c. c) in
    let off' : can_start (high rest) id start end (events rest) ≡ false = ap (λ k. can_start k id start end (events rest)) g.clock ∙ ap (can_start h id start end) g.list ∙ off in
    record {
      sound = ((ap is_some g.clock ∙ clock, ap (λ k. before k start) g.clock ∙ ahead, inr (t, subst (In t) (sym g.list) i, r)), g.sound);
      clock = g.clock;
      list = simp off' g.list;
    }

-- ---- others are left as they are

abbrev pub Others : Option ℤ → ℕ → List LineEvent → Type 0
Others h id es = (e : LineEvent) → In e es → stands h e ≡ true → e.id ≡ id → ⊥

other-off : (h : Option ℤ) (id : ℕ) (es : List LineEvent) → Others h id es → (e : LineEvent) → In e es → is_of h id e ≡ false
other-off h id es others e i = by_test (is_of h id e) (λ o. let p = is_of-parts h id e o in absurd (others e i p.0 p.1)) (λ o. o)

pub cancel-off : (h : Option ℤ) (id : ℕ) (e : LineEvent) → is_of h id e ≡ false → cancel_by h id e ≡ e
cancel-off h id e o = ap (λ b. record { id = e.id; start = e.start; asked = e.asked; end = e.end; cancelled = b }) (or-neither e.cancelled (can_cancel h id e) (and_left (is_of h id e) (before h e.start) o))

pub end-off : (h : Option ℤ) (id : ℕ) (time : ℤ) (e : LineEvent) → can_end h id time e ≡ false → end_by h id time e ≡ e
end-off h id time e c = ap (λ b. record { id = e.id; start = e.start; asked = e.asked; end = (if b then time else e.end); cancelled = e.cancelled }) c

pub map_same : (f : LineEvent → LineEvent) (es : List LineEvent) → ((e : LineEvent) → In e es → f e ≡ e) → map f es ≡ es
map_same f [] same = refl
map_same f (e ∷ es) same = ap (λ x. x ∷ map f es) (same e (inl refl)) ∙ ap (λ l. e ∷ l) (map_same f es (λ x i. same x (inr i)))

map_middle : (f : LineEvent → LineEvent) (before after : List LineEvent) (t t' : LineEvent) → ((e : LineEvent) → In e before → f e ≡ e) → ((e : LineEvent) → In e after → f e ≡ e) → f t ≡ t'
    → map f (before ++ (t ∷ after)) ≡ before ++ (t' ∷ after)
map_middle f [] after t t' b a is = ap (λ x. x ∷ map f after) is ∙ ap (λ l. t' ∷ l) (map_same f after a)
map_middle f (e ∷ es) after t t' b a is = ap (λ x. x ∷ map f (es ++ (t ∷ after))) (b e (inl refl)) ∙ ap (λ l. e ∷ l) (map_middle f es after t t' (λ x i. b x (inr i)) a is)

pub In-append : (e : LineEvent) (xs ys : List LineEvent) → In e (xs ++ ys) → In e xs ⊎ In e ys
In-append e [] ys i = inr i
In-append e (x ∷ xs) ys (inl is) = inl (inl is)
In-append e (x ∷ xs) ys (inr i) = more (In-append e xs ys i)
  where
    more : In e xs ⊎ In e ys → In e (x ∷ xs) ⊎ In e ys
    more (inl j) = inl (inr j)
    more (inr j) = inr j

pub In-right : (e : LineEvent) (xs ys : List LineEvent) → In e ys → In e (xs ++ ys)
In-right e [] ys i = i
In-right e (x ∷ xs) ys i = inr (In-right e xs ys i)

module _ (h : Option ℤ) (e : LineEvent) (front back : List LineEvent) (here : Others h e.id front) (there : Others h e.id back) where
  pub cancel_middle : (rest : List Turn) (t t' : LineEvent) → cancel_by h e.id t ≡ t' → Goes h rest (front ++ (t ∷ back)) → Goes h (Cancelled e.id ∷ rest) (front ++ (t' ∷ back))
  cancel_middle rest t t' is g =
      cancel_goes h e.id rest (front ++ (t ∷ back)) (front ++ (t' ∷ back))
      (map_middle (cancel_by h e.id) front back t t' (λ x i. cancel-off h e.id x (other-off h e.id front here x i)) (λ x i. cancel-off h e.id x (other-off h e.id back there x i)) is) g

  pub cancel_none : (rest : List Turn) → Goes h rest (front ++ back) → Goes h (Cancelled e.id ∷ rest) (front ++ back)
  cancel_none rest g =
      cancel_goes h e.id rest (front ++ back) (front ++ back)
      (map_same (cancel_by h e.id) (front ++ back) (λ x i. cancel-off h e.id x (which x (In-append x front back i)))) g
    where
      which : (x : LineEvent) → In x front ⊎ In x back → is_of h e.id x ≡ false
      which x (inl i) = other-off h e.id front here x i
      which x (inr i) = other-off h e.id back there x i

  pub end_middle : (rest : List Turn) (time : ℤ) (t t' : LineEvent) → t.cancelled ≡ false → end_by h e.id time t ≡ t' → Goes h rest (front ++ (t ∷ back))
      → Goes h (Ended e.id time ∷ rest) (front ++ (t' ∷ back))
  end_middle rest time t t' un is g =
      end_goes h e.id time rest (front ++ (t ∷ back)) (front ++ (t' ∷ back))
      (λ x i of. which x of (In-append x front (t ∷ back) i))
      (map_middle (end_by h e.id time) front back t t' (λ x i. off x (other-off h e.id front here x i)) (λ x i. off x (other-off h e.id back there x i)) is) g
    where
      off : (x : LineEvent) → is_of h e.id x ≡ false → end_by h e.id time x ≡ x
      off x o = end-off h e.id time x (and_left (is_of h e.id x) _ o)

      which : (x : LineEvent) → is_of h e.id x ≡ true → In x front ⊎ In x (t ∷ back) → x.cancelled ≡ false
      which x of (inl i) = let o = other-off h e.id front here x i in let bad : true ≡ false = sym of ∙ o in cc
      which x of (inr (inl same)) = ap (λ (z : LineEvent). z.cancelled) same ∙ un
      which x of (inr (inr i)) = let o = other-off h e.id back there x i in let bad : true ≡ false = sym of ∙ o in cc
