-- The cue path: what a splicer has behind a packet is what the injector has.
use Rattle.std.proofs.Common.{◌≡◌, ◌↔◌, ℕ, Bool, true, false, ◌⊎◌, inl, inr, refl, sym, ap, ◌∙◌, subst, List, [], ◌∷◌, ◌++◌, Option, arith, append_assoc}
use Rattle.std.specs.Prelude.{ℤ, pos, ◌+ℤ◌, int_lt, map, if◌then◌else◌}
use Rattle.std.proofs.lemmas.Int.{ints}
use Rattle.ts_packet.proofs.Cases.{by_test}
use Rattle.pes_time.proofs.IntLemmas.{lt-test, ge-test}
use Rattle.ts_packet.specs.Membership.{In}
use Rattle.ts_packet.proofs.MembershipLemmas.{In-map}
use Rattle.cue_laws.specs.Events.{Turn, LineEvent, Started, Cancelled, Ended, Passed, high, events, stands, cancel_by, end_by, upon}
use Rattle.unit_stream.specs.Clocks.{Rises}
use Rattle.cue_laws.specs.Thinning.{MayAllCome, KeepsEnough}
use Rattle.cue_laws.specs.Cueing.{IsRun, Told, Untold, Known, Never, Sender, is_cancel_new, is_news, current, is_due, end_on, told_on, block_on, told_now, tell, change, senders, cue_turns}
use Rattle.cue_laws.specs.Laws.{KeepsEnoughOf, CuePath, CuePathAtTheEnd}
use Rattle.cue_laws.proofs.Lists.{Distinct}
use Rattle.cue_laws.proofs.Orders.{Orderly, orderly-tail, before-more}
use Rattle.cue_laws.proofs.Lost.{lost_cues, lost_cues_at_the_end}
use Rattle.cue_laws.proofs.Fair.{IsKnown, IsFair, AllTold, Fair, event_of, stand}
use Rattle.cue_laws.proofs.Block.{Goes, goes-to, Others, In-append}
use Rattle.cue_laws.proofs.Tell.{About, repeat_never, tell_known, tell_start, tell_cancelled}

-- ---- what was told

abbrev told_by : Told → List LineEvent → List LineEvent
told_by Untold es = es
told_by (Known t) es = t ∷ es
told_by Never es = es

abbrev told_events : List Sender → List LineEvent
told_events [] = []
told_events (x ∷ xs) = told_by x.told (told_events xs)

told-parts : (told : Told) (es : List LineEvent) → told_by told [] ++ es ≡ told_by told es
told-parts Untold es = refl
told-parts (Known t) es = refl
told-parts Never es = refl

told-apart : (front : List LineEvent) (told : Told) (es : List LineEvent) → (front ++ told_by told []) ++ es ≡ front ++ told_by told es
told-apart front told es = append_assoc front (told_by told []) es ∙ ap (λ l. front ++ l) (told-parts told es)

told_events-change : (f : LineEvent → LineEvent) (xs : List Sender) → told_events (map (change f) xs) ≡ told_events xs
told_events-change f [] = refl
told_events-change f (x ∷ xs) = ap (told_by x.told) (told_events-change f xs)

module _ (h later : Option ℤ) where
  -- behind the cues, what was told is the events themselves
  now_part : (xs : List Sender) (y : LineEvent) → In y (told_events (map (tell h later) xs)) → In y (map event_of xs)
  now_part [] y i = i
  now_part (x ∷ xs) y i = which x.event x.told i (λ j. now_part xs y j)
    where
      add : (e : LineEvent) → In y (e ∷ told_events (map (tell h later) xs)) → (In y (told_events (map (tell h later) xs)) → In y (map event_of xs)) → In y (e ∷ map event_of xs)
      add e (inl is) more = inl is
      add e (inr j) more = inr (more j)

      which : (e : LineEvent) (told : Told) → In y (told_by (told_now e told) (told_events (map (tell h later) xs)))
          → (In y (told_events (map (tell h later) xs)) → In y (map event_of xs)) → In y (e ∷ map event_of xs)
      which e Untold i more = by_test e.cancelled (λ c. let j = simp c at i in inr (more j)) (λ c. let j = simp c at i in add e j more)
      which e (Known t) i more = add e i more
      which e Never i more = inr (more i)

  now_distinct : (xs : List Sender) → Distinct (map event_of xs) → Distinct (told_events (map (tell h later) xs))
  now_distinct [] d = tt
  now_distinct (x ∷ xs) d = which x.event x.told d.0 (now_distinct xs d.1)
    where
      which : (e : LineEvent) (told : Told) → ((b : LineEvent) → In b (map event_of xs) → b.start ≡ e.start → ⊥) → Distinct (told_events (map (tell h later) xs))
          → Distinct (told_by (told_now e told) (told_events (map (tell h later) xs)))
      which e Untold other rest = by_test e.cancelled (λ c. simp c rest) (λ c. simp c ((λ b i is. other b (now_part xs b i) is), rest))
      which e (Known t) other rest = ((λ b i is. other b (now_part xs b i) is), rest)
      which e Never other rest = rest

  now_all : (xs : List Sender) → Fair h xs → (y : LineEvent) → y.cancelled ≡ false → In y (map event_of xs) → In y (told_events (map (tell h later) xs))
  now_all [] fair y c i = i
  now_all (x ∷ xs) fair y c (inl is) = which x.event x.told is fair.0
    where
      which : (e : LineEvent) (told : Told) → y ≡ e → IsFair h e told (map event_of xs) → In y (told_by (told_now e told) (told_events (map (tell h later) xs)))
      which e Untold is f = let d : e.cancelled ≡ false = sym (ap (λ (z : LineEvent). z.cancelled) is) ∙ c in simp d (inl is)
      which e (Known t) is f = inl is
      which e Never is f = let d : e.cancelled ≡ false = sym (ap (λ (z : LineEvent). z.cancelled) is) ∙ c in absurd (let bad : true ≡ false = sym f ∙ d in cc)
  now_all (x ∷ xs) fair y c (inr i) = which x.event x.told (now_all xs fair.3 y c i)
    where
      which : (e : LineEvent) (told : Told) → In y (told_events (map (tell h later) xs)) → In y (told_by (told_now e told) (told_events (map (tell h later) xs)))
      which e Untold j = by_test e.cancelled (λ d. simp d j) (λ d. simp d (inr j))
      which e (Known t) j = inr j
      which e Never j = j

  -- ---- one event, and all

  turn : (e : LineEvent) (last : Option ℤ) (told : Told) (older front back : List LineEvent) (rest : List Turn) → About h e older front back → IsFair h e told older
      → (told ≡ Untold → front ≡ []) → Goes h rest (front ++ told_by told back) → Goes h (told_on h later e last told rest) (front ++ told_by (told_now e told) back)
  turn e last Untold older front back rest about fair none g =
      by_test e.cancelled
      (λ c. simp c (tell_cancelled h later e older front back about rest fair g))
      (λ c. simp c (tell_start h later e older front back about rest (none refl) c fair g))
  turn e last (Known t) older front back rest about fair none g = tell_known h later e older front back about last rest t fair g
  turn e last Never older front back rest about fair none g = repeat_never h later e older front back about last rest fair g

  -- one that is known stands where what was told of it does
  stands_told : (e t : LineEvent) → IsKnown h e t → stands h t ≡ true → stands h e ≡ true
  stands_told e t k s =
      by_test (int_lt e.end t.end)
      (λ l. before-more h e.end (e.end +ℤ pos 900000) (k.end_new (lt-test e.end t.end l)).0 (omega (arith, ints)))
      (λ l. let x = ge-test e.end t.end l in before-more h (t.end +ℤ pos 900000) (e.end +ℤ pos 900000) s (omega (arith, ints, x)))

  block : (xs : List Sender) (front : List LineEvent) (rest : List Turn) → Fair h xs → Orderly h (map event_of xs) → (front ≡ []) ⊎ AllTold xs
      → ((x : Sender) → In x xs → stands h x.event ≡ true → Others h x.event.id front)
      → Goes h rest (front ++ told_events xs) → Goes h (block_on h later xs rest) (front ++ told_events (map (tell h later) xs))
  block [] front rest fair order ahead newer g = g
  block (x ∷ xs) front rest fair order ahead newer g =
      let back = told_events (map (tell h later) xs) in
      let front' = front ++ told_by x.told [] in
      let older : Goes h (block_on h later xs rest) (front' ++ back) =
      block xs front' rest fair.3 (orderly-tail h x.event (map event_of xs) order) (next ahead x.told fair.1 (untold ahead))
      (λ y i s e j t is. others y i s e (In-append e front (told_by x.told []) j) t is)
      (goes-to h rest (front ++ told_by x.told (told_events xs)) (front' ++ told_events xs) (sym (told-apart front x.told (told_events xs))) g) in
      turn x.event x.last x.told (map event_of xs) front back (block_on h later xs rest)
      (record {
        clock = fair.2;
        order = order;
        newer = newer x (inl refl);
        others = λ s e i t is. let j = now_part xs e i in apart e j t s is;
        part = now_part xs;
        distinct = now_distinct xs order.distinct.1;
      })
      fair.0 (untold ahead)
      (goes-to h (block_on h later xs rest) (front' ++ back) (front ++ told_by x.told back) (told-apart front x.told back) older)
    where
      untold : (front ≡ []) ⊎ AllTold (x ∷ xs) → x.told ≡ Untold → front ≡ []
      untold (inl none) u = none
      untold (inr all) u = absurd (all.0 u)

      next : (front ≡ []) ⊎ AllTold (x ∷ xs) → (told : Told) → ((told ≡ Untold → ⊥) → AllTold xs) → (told ≡ Untold → front ≡ []) → (front ++ told_by told [] ≡ []) ⊎ AllTold xs
      next a Untold all none = inl (ap (λ f. f ++ []) (none refl))
      next a (Known t) all none = inr (all (λ is. cc))
      next a Never all none = inr (all (λ is. cc))

      apart : (e : LineEvent) → In e (map event_of xs) → stands h e ≡ true → stands h x.event ≡ true → e.id ≡ x.event.id → ⊥
      apart e j t s is = order.distinct.0 e j (order.ids e x.event (inr j) (inl refl) t s is)

      told_stands : (told : Told) → IsFair h x.event told (map event_of xs) → (e : LineEvent) → In e (told_by told []) → stands h e ≡ true → (e.id ≡ x.event.id) × (stands h x.event ≡ true)
      told_stands Untold f e i t = absurd i
      told_stands (Known k) f e (inl is) t =
          (ap (λ (z : LineEvent). z.id) is ∙ f.id, stands_told x.event k f (ap (stands h) (sym is) ∙ t))
      told_stands (Known k) f e (inr i) t = absurd i
      told_stands Never f e i t = absurd i

      others : (y : Sender) → In y xs → stands h y.event ≡ true → (e : LineEvent) → In e front ⊎ In e (told_by x.told []) → stands h e ≡ true → e.id ≡ y.event.id → ⊥
      others y i s e (inl j) t is = newer y (inr i) s e j t is
      others y i s e (inr j) t is =
          let k = told_stands x.told fair.0 e j t in
          apart y.event (In-map event_of y xs i) s k.1 (sym is ∙ k.0)

-- THE STREAM OF A RUN may come, and what was told is what a splicer has
pub cued_goes : (run : List Turn) → IsRun run → Goes (high run) (cue_turns run) (told_events (senders run))
cued_goes [] r = record { sound = tt; clock = refl; list = refl }
cued_goes (Started id start end ∷ past) r = cued_goes past r.1
cued_goes (Cancelled id ∷ past) r = goes-to (high past) (cue_turns past) _ _ (sym (told_events-change (cancel_by (high past) id) (senders past))) (cued_goes past r.1)
cued_goes (Ended id time ∷ past) r = goes-to (high past) (cue_turns past) _ _ (sym (told_events-change (end_by (high past) id time) (senders past))) (cued_goes past r.1)
cued_goes (Passed later ∷ past) r =
    let s = stand past r.1 in
    let g : Goes (high past) (block_on (high past) later (senders past) (cue_turns past)) (told_events (map (tell (high past) later) (senders past))) =
    block (high past) later (senders past) [] (cue_turns past) s.fair (subst (λ l. Orderly (high past) l) (sym s.same) s.order) (inl refl) (λ x i t e j. absurd j) (cued_goes past r.1) in
    record { sound = (subst (λ k. Rises k later) (sym g.clock) r.0, g.sound); clock = refl; list = g.list }

-- with nothing lost, behind a packet
pub nothing_lost : (h : Option ℤ) (past : List Turn) → IsRun (Passed h ∷ past) → (x : LineEvent) → x.cancelled ≡ false → In x (events (cue_turns (Passed h ∷ past))) ↔ In x (events (Passed h ∷ past))
nothing_lost h past r x c =
    let s = stand past r.1 in let g = cued_goes (Passed h ∷ past) r in (
      λ i. subst (In x) s.same (now_part (high past) h (senders past) x (subst (In x) g.list i)),
      λ i. subst (In x) (sym g.list) (now_all (high past) h (senders past) s.fair x c (subst (In x) (sym s.same) i)),
    )

pub known_of : (h : Option ℤ) (past : List Turn) → IsRun (Passed h ∷ past) → (x : LineEvent) → In x (events (cue_turns (Passed h ∷ past))) → In x (events (Passed h ∷ past))
known_of h past r x i =
    let s = stand past r.1 in let g = cued_goes (Passed h ∷ past) r in
    subst (In x) s.same (now_part (high past) h (senders past) x (subst (In x) g.list i))

-- ---- fronts of a stream

abbrev pub IsFront : List Turn → List Turn → Type 0
IsFront front all = (later : List Turn) × (all ≡ upon later front)

front_more : (s : Turn) (front all : List Turn) → IsFront front all → IsFront front (s ∷ all)
front_more s front all f = (s ∷ f.0, ap (λ l. s ∷ l) f.1)

front_if : (b : Bool) (s : Turn) (front all : List Turn) → IsFront front all → IsFront front (if b then s ∷ all else all)
front_if true s front all f = front_more s front all f
front_if false s front all f = f

front_told : (h later : Option ℤ) (e : LineEvent) (last : Option ℤ) (told : Told) (front all : List Turn) → IsFront front all → IsFront front (told_on h later e last told all)
front_told h later e last Untold front all f =
    by_test e.cancelled
    (λ c. simp c (front_more (Cancelled e.id) front all f))
    (λ c. simp c (front_if (int_lt e.end e.asked) (Ended e.id e.end) front (Started e.id e.start e.asked ∷ all) (front_more (Started e.id e.start e.asked) front all f)))
front_told h later e last (Known t) front all f =
    by_test (is_news e t)
    (λ n. simp n (front_if (is_cancel_new e t) (Cancelled e.id) front (end_on e t.end all) (front_if (int_lt e.end t.end) (Ended e.id e.end) front all f)))
    (λ n. simp n (front_if (is_due h later e last) (current e) front all f))
front_told h later e last Never front all f = front_if (is_due h later e last) (current e) front all f

front_block : (h later : Option ℤ) (xs : List Sender) (front all : List Turn) → IsFront front all → IsFront front (block_on h later xs all)
front_block h later [] front all f = f
front_block h later (x ∷ xs) front all f = front_told h later x.event x.last x.told front (block_on h later xs all) (front_block h later xs front all f)

pub front_cued : (front later : List Turn) → IsFront (cue_turns front) (cue_turns (upon later front))
front_cued front [] = ([], refl)
front_cued front (Started id start end ∷ later) = front_cued front later
front_cued front (Cancelled id ∷ later) = front_cued front later
front_cued front (Ended id time ∷ later) = front_cued front later
front_cued front (Passed h ∷ later) =
    front_more (Passed h) (cue_turns front) _ (front_block (high (upon later front)) h (senders (upon later front)) (cue_turns front) (cue_turns (upon later front)) (front_cued front later))

pub run_front : (front later : List Turn) → IsRun (upon later front) → IsRun front
run_front front [] r = r
run_front front (s ∷ later) r = run_front front later r.1

pub front_whole : (h last : Option ℤ) (past later : List Turn) → IsFront (cue_turns (Passed h ∷ past)) (cue_turns (Passed last ∷ upon later (Passed h ∷ past)))
front_whole h last past later =
    let run = upon later (Passed h ∷ past) in
    front_more (Passed last) (cue_turns (Passed h ∷ past)) (block_on (high run) last (senders run) (cue_turns run))
    (front_block (high run) last (senders run) (cue_turns (Passed h ∷ past)) (cue_turns run) (front_cued (Passed h ∷ past) later))

-- ---- the laws

enough : (copies : List Turn → ℕ) (h : Option ℤ) (past : List Turn) → IsRun (Passed h ∷ past) → KeepsEnoughOf copies (Passed h ∷ past) → KeepsEnough copies (cue_turns (Passed h ∷ past))
enough copies h past r k = record {
  starts = λ x i c. k.starts x (known_of h past r x i) c;
  cancels = λ x i c. k.cancels x (known_of h past r x i) c;
  ends = k.ends;
}

pub cue_path_at_the_end : CuePathAtTheEnd
cue_path_at_the_end copies h past r k x c =
    let lost = lost_cues_at_the_end copies (cue_turns (Passed h ∷ past)) (cued_goes (Passed h ∷ past) r).sound (enough copies h past r k) x c in
    let whole = nothing_lost h past r x c in
    (λ i. whole.0 (lost.0 i), λ i. lost.1 (whole.1 i))

pub cue_path : CuePath
cue_path copies h past later last r k x c b =
    let run = upon later (Passed h ∷ past) in
    let f = front_whole h last past later in
    let sound = subst MayAllCome f.1 (cued_goes (Passed last ∷ run) r).sound in
    let kept = subst (KeepsEnough copies) f.1 (enough copies last run r k) in
    let lost = lost_cues copies (cue_turns (Passed h ∷ past)) f.0 sound kept x c b in
    let whole = nothing_lost h past (run_front (Passed h ∷ past) later r.1) x c in
    (λ i. whole.0 (lost.0 i), λ i. lost.1 (whole.1 i))
