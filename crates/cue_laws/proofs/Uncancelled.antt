-- Lists of uncancelled events in order of their starts.
use Rattle.std.specs.Prelude.{◌<ℤ◌, ◌≤ℤ◌, int_lt, filter}
use Rattle.std.proofs.Common.{◌≡◌, ◌⊎◌, inl, inr, refl, sym, ap, ◌∙◌, subst, List, [], ◌∷◌, arith}
use Rattle.std.proofs.lemmas.Int.{ints}
use Rattle.std.proofs.lemmas.Bool.{not-true}
use Rattle.ts_packet.proofs.Cases.{by_test}
use Rattle.pes_time.proofs.IntLemmas.{lt-test, ge-test}
use Rattle.ts_packet.specs.Membership.{In}
use Rattle.ts_packet.proofs.MembershipLemmas.{In-filter, In-filtered}
use Rattle.cue_laws.specs.Events.{LineEvent, Passed, events}
use Rattle.cue_laws.specs.Thinning.{thinned}
use Rattle.cue_laws.specs.Cueing.{cue_turns}
use Rattle.cue_laws.specs.Tables.{put_by_start, by_start, is_uncancelled, uncancelled_events}
use Rattle.cue_laws.specs.Laws.{UncancelledEventsAgree}
use Rattle.cue_laws.proofs.Lists.{Distinct, distinct-filter}
use Rattle.cue_laws.proofs.Orders.{Orderly}
use Rattle.cue_laws.proofs.Below.{Below}
use Rattle.cue_laws.proofs.Thin.{below}
use Rattle.cue_laws.proofs.Fair.{stand}
use Rattle.cue_laws.proofs.Path.{cued_goes, cue_path_at_the_end}

abbrev Rising : List LineEvent → Type 0
Rising [] = Unit {0}
Rising (a ∷ es) = ((b : LineEvent) → In b es → a.start <ℤ b.start) × Rising es

put_by_start-from : (a : LineEvent) (es : List LineEvent) (x : LineEvent) → In x (put_by_start a es) → (x ≡ a) ⊎ In x es
put_by_start-from a [] x (inl is) = inl is
put_by_start-from a [] x (inr i) = absurd i
put_by_start-from a (e ∷ es) x i =
    by_test (int_lt a.start e.start)
    (λ l. simp l at i)
    (λ l. let j = simp l at i in later j (λ k. put_by_start-from a es x k))
  where
    later : (x ≡ e) ⊎ In x (put_by_start a es) → (In x (put_by_start a es) → (x ≡ a) ⊎ In x es) → (x ≡ a) ⊎ ((x ≡ e) ⊎ In x es)
    later (inl is) go = inr (inl is)
    later (inr j) go = more (go j)
      where
        more : (x ≡ a) ⊎ In x es → (x ≡ a) ⊎ ((x ≡ e) ⊎ In x es)
        more (inl is) = inl is
        more (inr k) = inr (inr k)

put_by_start-to : (a : LineEvent) (es : List LineEvent) (x : LineEvent) → (x ≡ a) ⊎ In x es → In x (put_by_start a es)
put_by_start-to a [] x i = i
put_by_start-to a (e ∷ es) x i = by_test (int_lt a.start e.start) (λ l. simp l i) (λ l. simp l (later i (λ k. put_by_start-to a es x k)))
  where
    later : (x ≡ a) ⊎ ((x ≡ e) ⊎ In x es) → ((x ≡ a) ⊎ In x es → In x (put_by_start a es)) → (x ≡ e) ⊎ In x (put_by_start a es)
    later (inl is) go = inr (go (inl is))
    later (inr (inl is)) go = inl is
    later (inr (inr j)) go = inr (go (inr j))

rising-put : (a : LineEvent) (es : List LineEvent) → Rising es → ((b : LineEvent) → In b es → b.start ≡ a.start → ⊥) → Rising (put_by_start a es)
rising-put a [] r other = ((λ b i. absurd i), tt)
rising-put a (e ∷ es) r other =
    by_test (int_lt a.start e.start)
    (λ l. let k = lt-test a.start e.start l in simp l ((λ b i. first k b i), r))
    (λ l. let k = ge-test a.start e.start l in
    let strict : e.start <ℤ a.start = past k (other e (inl refl)) in
    simp l ((λ b i. next strict b (put_by_start-from a es b i)), rising-put a es r.1 (λ b i. other b (inr i))))
  where
    first : a.start <ℤ e.start → (b : LineEvent) → (b ≡ e) ⊎ In b es → a.start <ℤ b.start
    first k b (inl is) = subst (λ (z : LineEvent). a.start <ℤ z.start) (sym is) k
    first k b (inr i) = let m = r.0 b i in omega (arith, ints, k, m)

    past : e.start ≤ℤ a.start → (e.start ≡ a.start → ⊥) → e.start <ℤ a.start
    past k differ = by_test (int_lt e.start a.start) (λ l. lt-test e.start a.start l) (λ l. let m = ge-test e.start a.start l in absurd (differ (omega (arith, ints, k, m))))

    next : e.start <ℤ a.start → (b : LineEvent) → (b ≡ a) ⊎ In b es → e.start <ℤ b.start
    next k b (inl is) = subst (λ (z : LineEvent). e.start <ℤ z.start) (sym is) k
    next k b (inr i) = r.0 b i

by_start-from : (es : List LineEvent) (x : LineEvent) → In x (by_start es) → In x es
by_start-from [] x i = i
by_start-from (e ∷ es) x i = later (put_by_start-from e (by_start es) x i) (λ k. by_start-from es x k)
  where
    later : (x ≡ e) ⊎ In x (by_start es) → (In x (by_start es) → In x es) → (x ≡ e) ⊎ In x es
    later (inl is) go = inl is
    later (inr k) go = inr (go k)

by_start-to : (es : List LineEvent) (x : LineEvent) → In x es → In x (by_start es)
by_start-to [] x i = i
by_start-to (e ∷ es) x (inl is) = put_by_start-to e (by_start es) x (inl is)
by_start-to (e ∷ es) x (inr i) = put_by_start-to e (by_start es) x (inr (by_start-to es x i))

rising-sorted : (es : List LineEvent) → Distinct es → Rising (by_start es)
rising-sorted [] d = tt
rising-sorted (e ∷ es) d = rising-put e (by_start es) (rising-sorted es d.1) (λ b i is. d.0 b (by_start-from es b i) is)

-- two lists in order with the same elements are one
one_order : (es fs : List LineEvent) → Rising es → Rising fs → ((x : LineEvent) → In x es → In x fs) → ((x : LineEvent) → In x fs → In x es) → es ≡ fs
one_order [] [] r s to back = refl
one_order [] (y ∷ ys) r s to back = absurd (back y (inl refl))
one_order (x ∷ xs) [] r s to back = absurd (to x (inl refl))
one_order (x ∷ xs) (y ∷ ys) r s to back =
    ap (λ z. z ∷ xs) same
    ∙ ap (λ l. y ∷ l) (one_order xs ys r.1 s.1
    (λ z i. rest z ys (λ is. let m = r.0 z i in bad x z (is ∙ sym same) m) (to z (inr i)))
    (λ z i. rest' z i (back z (inr i))))
  where
    bad : (x z : LineEvent) → z ≡ x → x.start <ℤ z.start → ⊥
    bad x z is m = let k = ap (λ (z : LineEvent). z.start) is in omega (arith, ints, k, m)

    same : x ≡ y
    same = pick (to x (inl refl)) (back y (inl refl))
      where
        pick : (x ≡ y) ⊎ In x ys → (y ≡ x) ⊎ In y xs → x ≡ y
        pick (inl is) j = is
        pick (inr i) (inl is) = sym is
        pick (inr i) (inr j) = absurd (let m = s.0 x i in let n = r.0 y j in omega (arith, ints, m, n))

    rest : (z : LineEvent) (ys : List LineEvent) → (z ≡ y → ⊥) → (z ≡ y) ⊎ In z ys → In z ys
    rest z ys differ (inl is) = absurd (differ is)
    rest z ys differ (inr i) = i

    rest' : (z : LineEvent) → In z ys → (z ≡ x) ⊎ In z xs → In z xs
    rest' z i (inl is) = absurd (let m = s.0 z i in bad y z (is ∙ same) m)
    rest' z i (inr j) = j

pub uncancelled_events_agree : UncancelledEventsAgree
uncancelled_events_agree copies h past r k =
    one_order (uncancelled_events here) (uncancelled_events there)
    (rising-sorted (filter is_uncancelled here) (distinct-filter is_uncancelled here part.distinct))
    (rising-sorted (filter is_uncancelled there) (distinct-filter is_uncancelled there order.distinct))
    (λ x i. let p = In-filtered is_uncancelled x here (by_start-from (filter is_uncancelled here) x i) in
    by_start-to (filter is_uncancelled there) x (In-filter is_uncancelled x there ((cue_path_at_the_end copies h past r k x (not-true x.cancelled p.1)).0 p.0) p.1))
    (λ x i. let p = In-filtered is_uncancelled x there (by_start-from (filter is_uncancelled there) x i) in
    by_start-to (filter is_uncancelled here) x (In-filter is_uncancelled x here ((cue_path_at_the_end copies h past r k x (not-true x.cancelled p.1)).1 p.0) p.1))
  where
    here : List LineEvent
    here = events (thinned copies (cue_turns (Passed h ∷ past)))

    there : List LineEvent
    there = events (Passed h ∷ past)

    order : Orderly h there
    order = (stand (Passed h ∷ past) r).order

    part : Below here (events (cue_turns (Passed h ∷ past)))
    part = below copies (cue_turns (Passed h ∷ past)) (cued_goes (Passed h ∷ past) r).sound k.ends
