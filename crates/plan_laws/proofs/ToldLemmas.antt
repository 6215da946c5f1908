-- What is known of the events of a past, with a packet behind which they are the same.
use Rattle.std.proofs.Common.{◌≡◌, ℕ, ◌<◌, List, [], ◌∷◌, Bool, false, ◌&&◌, inl, inr, refl, ap, ◌∙◌, subst, Option, None, Some, if◌then◌else◌}
use Rattle.std.specs.Prelude.{ℤ, find, option_map, All, Contains}
use Rattle.std.specs.List.{AllByRecursion}
use Rattle.std.specs.Ordering.{int_eq}
use Rattle.std.proofs.lemmas.List.Elements.{All-head, All-tail}
use Rattle.ts_packet.proofs.Cases.{by_test}
use Rattle.unit_stream.specs.Times.{high}
use Rattle.event_table.specs.Standing.{Standing, end_of}
use Rattle.armed_laws.specs.Laws.{AreApart, IsApartOf, NoneMeet}
use Rattle.splice_plans.specs.Playing.{Adverts, History, is_played, end_known}
use Rattle.splice_plans.specs.Histories.{IsHistory, AreSteady, IsSettledAt}
use Rattle.splice_plans.proofs.KnownLemmas.{played_settle}
use Rattle.pes_time.proofs.IntLemmas.{int-same}
use Rattle.armed_laws.proofs.MeetLemmas.{starts-differ}

-- ---- of all events, the one with this start

apart-other : (a b : Standing) → AreApart a b → AreApart b a
apart-other a b (inl h) = inr h
apart-other a b (inr h) = inl h

module _ (test : Standing → Bool) where
  abbrev is_there : ℤ → Standing → Bool
  is_there start y = int_eq y.start start && test y

  abbrev pub there_if : Standing → Option Standing
  there_if e = if test e then Some e else None

  abbrev pub IsFoundIn : List Standing → Standing → Type 0
  IsFoundIn es x = find (λ y. int_eq y.start x.start && test y) es ≡ there_if x

  none-there : (x : Standing) → 0 < x.length → (es : List Standing) → IsApartOf x es → NoneMeet es → find (λ y. int_eq y.start x.start && test y) es ≡ None
  none-there x l [] a n = refl
  none-there x l (y ∷ es) a n = let d = starts-differ y x n.0 l (apart-other x y a.0) in simp d (none-there x l es a.1 n.2)

  found-first : (e : Standing) (es : List Standing) → NoneMeet (e ∷ es) → IsFoundIn (e ∷ es) e
  found-first e es n = let k = int-same e.start in by_test (test e) (λ y. simp (k, y)) (λ y. simp (k, y) (none-there e n.0 es n.1 n.2))

  found-later : (e x : Standing) (es : List Standing) → int_eq e.start x.start ≡ false → IsFoundIn es x → IsFoundIn (e ∷ es) x
  found-later e x es d m = simp d m

  all-later : (e : Standing) (es later : List Standing) → 0 < e.length → IsApartOf e later → NoneMeet later → AllByRecursion (IsFoundIn es) later → AllByRecursion (IsFoundIn (e ∷ es)) later
  all-later e es [] l a n m = tt
  all-later e es (x ∷ later) l a n m = (found-later e x es (starts-differ e x l n.0 a.0) m.0, all-later e es later l a.1 n.2 m.1)

  pub all-found : (es : List Standing) → NoneMeet es → AllByRecursion (IsFoundIn es) es
  all-found [] n = tt
  all-found (e ∷ es) n = (found-first e es n, all-later e es es n.0 n.1 n.2 (all-found es n.2))

-- ---- what is known of each

abbrev pub end_if : Adverts → Standing → Option ℤ
end_if ads e = if is_played ads e then Some (end_of e) else None

module _ (switched : List ℕ) (ads : Adverts) (events : History) (p : List ℕ) (past : List (List ℕ)) where
  pub record Told (e : Standing) : Type 0 where
    pub before : end_known ads events e.start past ≡ end_if ads e
    pub now : end_known ads events e.start (p ∷ past) ≡ end_if ads e
    pub settled : (pid : ℕ) → Contains switched pid → IsSettledAt switched pid ads events past e
    pub settled_now : (pid : ℕ) → Contains switched pid → IsSettledAt switched pid ads events (p ∷ past) e

  all-each : {A : Type 0} (P : A → Type 0) (xs : List A) → All P xs → AllByRecursion P xs
  all-each P [] a = tt
  all-each P (x ∷ xs) a = (All-head P x xs a, all-each P xs (All-tail P x xs a))

  end-found : (es : List Standing) (e : Standing) → IsFoundIn (is_played ads) es e → option_map end_of (find (λ y. int_eq y.start e.start && is_played ads y) es) ≡ end_if ads e
  end-found es e f = ap (option_map end_of) f ∙ by_test (is_played ads e) (λ y. simp y) (λ y. simp y)

  module _ (steady : AreSteady ads) (h : IsHistory (high switched) events) (stays : events (p ∷ past) ≡ events past) where
    told-each : (es : List Standing) → AllByRecursion (IsFoundIn (is_played ads) (events past)) es
        → ((pid : ℕ) → Contains switched pid → AllByRecursion (IsSettledAt switched pid ads events past) es)
        → ((pid : ℕ) → Contains switched pid → AllByRecursion (IsSettledAt switched pid ads events (p ∷ past)) es) → AllByRecursion Told es
    told-each [] f s t = tt
    told-each (e ∷ es) f s t = (
      record {
        before = end-found (events past) e f.0;
        now = ap (λ l. option_map end_of (find (λ y. int_eq y.start e.start && is_played ads y) l)) stays ∙ end-found (events past) e f.0;
        settled = λ pid c. (s pid c).0;
        settled_now = λ pid c. (t pid c).0;
      },
      told-each es f.1 (λ pid c. (s pid c).1) (λ pid c. (t pid c).1),
    )

    pub all-told : AllByRecursion Told (events past)
    all-told = told-each (events past) (all-found (is_played ads) (events past) (h.apart past))
        (λ pid c. all-each (IsSettledAt switched pid ads events past) (events past) (played_settle switched pid c ads steady events h [] past))
        (λ pid c. subst (AllByRecursion (IsSettledAt switched pid ads events (p ∷ past))) stays
        (all-each (IsSettledAt switched pid ads events (p ∷ past)) (events (p ∷ past)) (played_settle switched pid c ads steady events h [] (p ∷ past))))
