-- What two runs do, where their events agree that are reached.
use Rattle.std.proofs.Common.{◌≡◌, ℕ, zero, suc, ◌<◌, ◌==◌, List, [], ◌∷◌, ◌++◌, Bool, true, false, not, ◌&&◌, ◌||◌, refl, sym, ap, ◌∙◌, subst, Option, length, map, reverse, if◌then◌else◌, arith}
use Rattle.std.specs.Prelude.{ℤ, Contains, slice_index_or, flat_map, filter}
use Rattle.std.specs.List.{AllByRecursion}
use Rattle.std.proofs.lemmas.Bool.{true≢false, or_parts}
use Rattle.ts_packet.specs.Fields.{on, payload_on, pid_of, in_error, pcr, renumbered, on_one}
use Rattle.ts_packet.specs.Numbering.{Step, Kept, Dropped, moved, number_out, one_past, last_number}
use Rattle.ts_packet.proofs.Cases.{by_test}
use Rattle.ts_packet.proofs.FieldLemmas.{off_payload, payload_on-on}
use Rattle.unit_stream.specs.Times.{begins_one, high, unit_time}
use Rattle.unit_stream.specs.Fates.{is_left_out, steps_after}
use Rattle.unit_stream.specs.UnitPackets.{put_in}
use Rattle.psi_section.proofs.RunLemmas.{Alike, alike_on, alike_off, alike_none, alike_back}
use Rattle.event_table.specs.Standing.{Standing}
use Rattle.armed_laws.specs.Laws.{NoneMeet}
use Rattle.cue_laws.specs.Events.{before}
use Rattle.splice_laws.specs.Splicing.{SliceUnit, stream}
use Rattle.splice_laws.proofs.SettledLemmas.{switched_pids_are_within}
use Rattle.output_laws.specs.Output.{Move, Keep, Leave, Put, Packing, counter_steps, network, clock_alone, out_at, out_after}
use Rattle.splice_plans.specs.Playing.{Adverts, History, is_played, is_inside, played, as_played, end_known, closing_at, running_at, left_at_end}
use Rattle.splice_plans.specs.Switching.{puts_by, puts_before, puts_at_end, fate, moves, front_of, place_of, end_of_run}
use Rattle.splice_plans.proofs.PutLemmas.{puts_at_unit_starts}
use Rattle.known_laws.proofs.AheadLemmas.{all-in}
use Rattle.unit_stream.proofs.ClockLemmas.{begins_off_all}
use Rattle.splice_plans.proofs.KnownLemmas.{played-stays}
use Rattle.thinned_laws.specs.Beside.{Beside, Shared, Here, There, one_run, other_run, AgreeReached}
use Rattle.thinned_laws.proofs.Lists.{distinct-starts, same-chosen}
use Rattle.thinned_laws.proofs.Flags.{OffAlone, OffAll, off-head, off-tail, original-same, high-same, time-same, due-none, left-none}
use Rattle.thinned_laws.proofs.Known.{switched-in, switched-pid, and-same, Agrees, NeverMeet, inside-same, closing-same, running-same, left-same}

-- ---- each switched PID

all-later : (q : ℕ) (xs all : List ℕ) → AllByRecursion (Contains all) xs → AllByRecursion (Contains (q ∷ all)) xs
all-later q [] all a = tt
all-later q (x ∷ xs) all a = ((suc a.0.0, more a.0.0 (length all) a.0.1, a.0.2), all-later q xs all a.1)
  where
    more : (i n : ℕ) → i < n → suc i < suc n
    more i n l = omega arith

pub off-each : (pids : List ℕ) (rows : List Beside) → OffAll pids rows → AllByRecursion (λ pid. OffAlone pid rows) pids
off-each [] rows o = tt
off-each (pid ∷ pids) rows o = (off-head pid pids rows o, off-each pids rows (off-tail pid pids rows o))

-- the PID is switched, and none of the packets of one run alone is of it
abbrev Ready : List ℕ → List Beside → ℕ → Type 0
Ready switched rows pid = Contains switched pid × OffAlone pid rows

each-ready : (switched : List ℕ) (rows : List Beside) (pids : List ℕ) → AllByRecursion (Contains switched) pids → AllByRecursion (λ pid. OffAlone pid rows) pids → AllByRecursion (Ready switched rows) pids
each-ready switched rows [] a b = tt
each-ready switched rows (pid ∷ pids) a b = ((a.0, b.0), each-ready switched rows pids a.1 b.1)

pub all-ready : (switched : List ℕ) (rows : List Beside) → OffAll switched rows → AllByRecursion (Ready switched rows) switched
all-ready switched rows o = each-ready switched rows switched (all-in switched) (off-each switched rows o)

-- ---- rules for events

flat-alike : (f g : Standing → List SliceUnit) → ((e : Standing) → f e ≡ g e) → (es : List Standing) → flat_map f es ≡ flat_map g es
flat-alike f g h [] = refl
flat-alike f g h (e ∷ es) = ap (λ us. us ++ flat_map f es) (h e) ∙ ap (λ us. g e ++ us) (flat-alike f g h es)

flat-chosen : (keep : Standing → Bool) (f : Standing → List SliceUnit) → ((e : Standing) → keep e ≡ false → f e ≡ []) → (es : List Standing) → flat_map f es ≡ flat_map f (filter keep es)
flat-chosen keep f h [] = refl
flat-chosen keep f h (e ∷ es) = by_test (keep e)
    (λ y. simp y (ap (λ us. f e ++ us) (flat-chosen keep f h es)))
    (λ n. simp n (ap (λ us. us ++ flat_map f es) (h e n) ∙ flat-chosen keep f h es))

-- with two rules that are one, and give nothing of an event that is not reached
module _ (ads : Adverts) (h : Option ℤ) (es fs : List Standing) (n : NoneMeet es) (m : NoneMeet fs) (a : AgreeReached h es fs) where
  is_reached : Standing → Bool
  is_reached e = not (before h e.start)

  not-true : (b : Bool) → not b ≡ true → b ≡ false
  not-true true h = absurd (true≢false (sym h))
  not-true false h = refl

  not-false : (b : Bool) → not b ≡ false → b ≡ true
  not-false true h = refl
  not-false false h = absurd (true≢false h)

  reached-same : filter (λ e. not (before h e.start)) (played ads es) ≡ filter (λ e. not (before h e.start)) (played ads fs)
  reached-same = same-chosen (is_played ads) (λ e. not (before h e.start)) es fs (distinct-starts es n) (distinct-starts fs m)
      (λ e p k. a e (played-stays ads e p) (not-true (before h e.start) k))

  flat-same : (f g : Standing → List SliceUnit) → ((e : Standing) → f e ≡ g e) → ((e : Standing) → before h e.start ≡ true → g e ≡ []) → flat_map f (played ads es) ≡ flat_map g (played ads fs)
  flat-same f g k none =
      flat-alike f g k (played ads es)
      ∙ flat-chosen (λ e. not (before h e.start)) g (λ e w. none e (not-false (before h e.start) w)) (played ads es)
      ∙ ap (flat_map g) reached-same
      ∙ sym (flat-chosen (λ e. not (before h e.start)) g (λ e w. none e (not-false (before h e.start) w)) (played ads fs))

  pub puts-same : (f g : ℕ → Standing → List SliceUnit) (P : ℕ → Type 0) → ((pid : ℕ) → P pid → (e : Standing) → f pid e ≡ g pid e) → ((pid : ℕ) → P pid → (e : Standing) → before h e.start ≡ true → g pid e ≡ [])
      → (pids : List ℕ) → AllByRecursion P pids → puts_by pids (played ads es) f ≡ puts_by pids (played ads fs) g
  puts-same f g P k none [] all = refl
  puts-same f g P k none (pid ∷ pids) all =
      ap (λ us. map (λ (u : SliceUnit). Put pid u) us ++ puts_by pids (played ads es) f) (flat-same (f pid) (g pid) (k pid all.0) (none pid all.0))
      ∙ ap (λ (ms : List Move). map (λ (u : SliceUnit). Put pid u) (flat_map (g pid) (played ads fs)) ++ ms) (puts-same f g P k none pids all.1)

-- ---- what counters see

-- all that was done says the same of this PID
pub record SameSteps (packed : Packing) (pid : ℕ) (a b : List Move) : Type 0 where
  pub steps : counter_steps packed pid a ≡ counter_steps packed pid b
  pub alike : Alike pid (network a) (network b)

module _ (packed : Packing) (pid : ℕ) where
  out-steps : (p : List ℕ) (past other : List (List ℕ)) (s t : List Step) → Alike pid past other → s ≡ t → steps_after true pid p past s ≡ steps_after true pid p other t
  out-steps p past other s t a h = both (original-same pid p past other a) h
    where
      both : {c d : Bool} {u v : List Step} → c ≡ d → u ≡ v → (if c then Dropped p ∷ u else u) ≡ (if d then Dropped p ∷ v else v)
      both i j = rw (i, j) refl

  in-steps : (p : List ℕ) (past other : List (List ℕ)) (s t : List Step) → s ≡ t → steps_after false pid p past s ≡ steps_after false pid p other t
  in-steps p past other s t h = ap (λ u. if on pid p then Kept p ∷ u else u) h

  pub same-move : (m : Move) (a b : List Move) → SameSteps packed pid a b → SameSteps packed pid (m ∷ a) (m ∷ b)
  same-move (Keep p) a b s = record {
    steps = in-steps p (network a) (network b) (counter_steps packed pid a) (counter_steps packed pid b) s.steps;
    alike = alike_on pid p (network a) (network b) s.alike;
  }
  same-move (Leave p) a b s = record {
    steps = out-steps p (network a) (network b) (counter_steps packed pid a) (counter_steps packed pid b) s.alike s.steps;
    alike = alike_on pid p (network a) (network b) s.alike;
  }
  same-move (Put q u) a b s = record {
    steps = ap (λ t. if q == pid then put_in (packed q u (one_past (last_number t))) t else t) s.steps;
    alike = s.alike;
  }

  pub same-moves : (ms a b : List Move) → SameSteps packed pid a b → SameSteps packed pid (ms ++ a) (ms ++ b)
  same-moves [] a b s = s
  same-moves (m ∷ ms) a b s = same-move m (ms ++ a) (ms ++ b) (same-moves ms a b s)

  pub same-back : (a b : List Move) → SameSteps packed pid a b → SameSteps packed pid b a
  same-back a b s = record { steps = sym s.steps; alike = alike_back pid (network a) (network b) s.alike }

  pub same-quiet : (q : List ℕ) (a b : List Move) → on pid q ≡ false → SameSteps packed pid a b → SameSteps packed pid (Keep q ∷ a) b
  same-quiet q a b n s = record {
    steps = ap (λ c. if c then Kept q ∷ counter_steps packed pid a else counter_steps packed pid a) n ∙ s.steps;
    alike = alike_off pid q (network a) (network b) n s.alike;
  }

-- units put in on these PIDs
abbrev pub PutOn : List ℕ → Move → Type 0
PutOn pids (Keep p) = ⊥
PutOn pids (Leave p) = ⊥
PutOn pids (Put q u) = Contains pids q

put-append : (pids : List ℕ) (a b : List Move) → AllByRecursion (PutOn pids) a → AllByRecursion (PutOn pids) b → AllByRecursion (PutOn pids) (a ++ b)
put-append pids [] b h g = g
put-append pids (m ∷ a) b h g = (h.0, put-append pids a b h.1 g)

put-on : (pids : List ℕ) (pid : ℕ) (us : List SliceUnit) → Contains pids pid → AllByRecursion (PutOn pids) (map (λ (u : SliceUnit). Put pid u) us)
put-on pids pid [] w = tt
put-on pids pid (u ∷ us) w = (w, put-on pids pid us w)

put-by : (all pids : List ℕ) (es : List Standing) (rule : ℕ → Standing → List SliceUnit) → AllByRecursion (Contains all) pids → AllByRecursion (PutOn all) (puts_by pids es rule)
put-by all [] es rule w = tt
put-by all (pid ∷ pids) es rule w = put-append all (map (λ (u : SliceUnit). Put pid u) (flat_map (rule pid) es)) (puts_by pids es rule) (put-on all pid (flat_map (rule pid) es) w.0) (put-by all pids es rule w.1)

-- so what goes out is the same
pub after-same : (packed : Packing) (pids : List ℕ) (ms a b : List Move) → AllByRecursion (PutOn pids) ms → ((pid : ℕ) → Contains pids pid → SameSteps packed pid a b) → out_after packed a ms ≡ out_after packed b ms
after-same packed pids [] a b w s = refl
after-same packed pids (Keep p ∷ ms) a b w s = absurd w.0
after-same packed pids (Leave p ∷ ms) a b w s = absurd w.0
after-same packed pids (Put q u ∷ ms) a b w s =
    ap (λ steps. packed q u (one_past (last_number steps)) ++ out_after packed (Put q u ∷ a) ms) (s q w.0).steps
    ∙ ap (λ out. packed q u (one_past (last_number (counter_steps packed q b))) ++ out) (after-same packed pids ms (Put q u ∷ a) (Put q u ∷ b) w.1 (λ pid c. same-move packed pid (Put q u) a b (s pid c)))

pub at-same : (packed : Packing) (out : Bool) (p : List ℕ) (a b : List Move) → SameSteps packed (pid_of p) a b → out_at packed (if out then Leave p else Keep p) a ≡ out_at packed (if out then Leave p else Keep p) b
at-same packed true p a b s = ap (λ steps. clock_alone (pid_of p) (number_out p steps) (pcr p)) (same-move packed (pid_of p) (Leave p) a b s).steps
at-same packed false p a b s = ap (λ steps. (if in_error p then p else renumbered (moved steps) p) ∷ []) s.steps

-- ---- one packet

module _ (switched : List ℕ) (ads : Adverts) (one other : History) (meet : NeverMeet one) (meets : NeverMeet other) where
  abbrev closing : History → List ℕ → List (List ℕ) → ℕ → Standing → List SliceUnit
  closing events p past pid e = closing_at (begins_one switched) (stream switched pid) (as_played e) (end_known ads events e.start) (ads.units e pid) p past

  abbrev running : History → List ℕ → List (List ℕ) → ℕ → Standing → List SliceUnit
  running events p past pid e = running_at (begins_one switched) (stream switched pid) (as_played e) (end_known ads events e.start) (ads.units e pid) p past

  abbrev left : History → List (List ℕ) → ℕ → Standing → List SliceUnit
  left events past pid e = left_at_end (begins_one switched) (stream switched pid) (as_played e) (end_known ads events e.start) (ads.units e pid) past

  either : {A : Type 0} (b : Bool) (us vs : List A) → us ≡ [] → vs ≡ [] → (if b then us else vs) ≡ []
  either true us vs h k = h
  either false us vs h k = k

  ahead : (h g : Option ℤ) (start : ℤ) → h ≡ g → before h start ≡ true → before g start ≡ true
  ahead h g start is b = sym (ap (λ x. before x start) is) ∙ b

  before-switched : (p : List ℕ) (rows : List Beside) → OffAll switched rows → Agrees switched one other (Shared p ∷ rows) → on_one switched p ≡ true
      → puts_before switched ads one p (one_run rows) ≡ puts_before switched ads other p (other_run rows)
  before-switched p rows o g s =
      let h = high switched (p ∷ one_run rows) in
      let es = one (p ∷ one_run rows) in
      let fs = other (p ∷ other_run rows) in
      let ready = all-ready switched rows o in
      let k = high-same switched (Shared p ∷ rows) o in
      ap (λ (ms : List Move). ms ++ puts_by switched (played ads es) (running one p (one_run rows)))
      (puts-same ads h es fs (meet (p ∷ one_run rows)) (meets (p ∷ other_run rows)) (g.0 s) (closing one p (one_run rows)) (closing other p (other_run rows)) (Ready switched rows)
      (λ pid r e. closing-same switched pid r.0 ads one other meets (as_played e) (ads.units e pid) p rows o r.1 g)
      (λ pid r e b. either _ _ [] (due-none switched pid r.0 (as_played e) (end_known ads other e.start) (ads.units e pid) p (other_run rows) (ahead h (high switched (p ∷ other_run rows)) e.start k b)) refl)
      switched ready)
      ∙ ap (λ (ms : List Move). puts_by switched (played ads fs) (closing other p (other_run rows)) ++ ms)
      (puts-same ads h es fs (meet (p ∷ one_run rows)) (meets (p ∷ other_run rows)) (g.0 s) (running one p (one_run rows)) (running other p (other_run rows)) (Ready switched rows)
      (λ pid r e. running-same switched pid r.0 ads one other meets (as_played e) (ads.units e pid) p rows o r.1 g)
      (λ pid r e b. either _ [] _ refl (due-none switched pid r.0 (as_played e) (end_known ads other e.start) (ads.units e pid) p (other_run rows) (ahead h (high switched (p ∷ other_run rows)) e.start k b)))
      switched ready)

  pub before-same : (p : List ℕ) (rows : List Beside) → OffAll switched rows → Agrees switched one other (Shared p ∷ rows)
      → puts_before switched ads one p (one_run rows) ≡ puts_before switched ads other p (other_run rows)
  before-same p rows o g = by_test (on_one switched p)
      (λ y. before-switched p rows o g y)
      (λ n. puts_at_unit_starts switched ads one p (one_run rows) (begins_off_all switched p (one_run rows) n)
      ∙ sym (puts_at_unit_starts switched ads other p (other_run rows) (begins_off_all switched p (other_run rows) n)))

  pub end-same : (rows : List Beside) → OffAll switched rows → Agrees switched one other rows → AgreeReached (high switched (one_run rows)) (one (one_run rows)) (other (other_run rows))
      → puts_at_end switched ads one (one_run rows) ≡ puts_at_end switched ads other (other_run rows)
  end-same rows o g last =
      let h = high switched (one_run rows) in
      puts-same ads h (one (one_run rows)) (other (other_run rows)) (meet (one_run rows)) (meets (other_run rows)) last (left one (one_run rows)) (left other (other_run rows)) (Ready switched rows)
      (λ pid r e. left-same switched pid r.0 ads one other meets (as_played e) (ads.units e pid) rows o r.1 g last)
      (λ pid r e b. left-none switched pid r.0 (as_played e) (end_known ads other e.start) (ads.units e pid) (other_run rows) (ahead h (high switched (other_run rows)) e.start (high-same switched rows o) b))
      switched (all-ready switched rows o)

  -- whether the packet is left out
  out-same : (p : List ℕ) (rows : List Beside) → OffAll switched rows → Agrees switched one other (Shared p ∷ rows) → (pids : List ℕ) → AllByRecursion (Ready switched rows) pids
      → is_left_out (λ pid time. is_inside ads (one (p ∷ one_run rows)) time) switched p (one_run rows) pids ≡ is_left_out (λ pid time. is_inside ads (other (p ∷ other_run rows)) time) switched p (other_run rows) pids
  out-same p rows o g [] r = refl
  out-same p rows o g (pid ∷ pids) r = both
      (and-same {a = payload_on pid p} refl (λ y.
      let s = switched-in switched pid r.0.0 p (payload_on-on pid p y) in
      let w = switched_pids_are_within switched pid r.0.0 (p ∷ one_run rows) in
      inside-same ads (high switched (p ∷ one_run rows)) (unit_time switched pid (p ∷ one_run rows)) w (one (p ∷ one_run rows)) (other (p ∷ other_run rows)) (g.0 s)
      ∙ ap (is_inside ads (other (p ∷ other_run rows))) (time-same switched pid (Shared p ∷ rows) o r.0.1)))
      (out-same p rows o g pids r.1)
    where
      both : {a b c d : Bool} → a ≡ b → c ≡ d → (a || c) ≡ (b || d)
      both h k = rw (h, k) refl

  pub fate-same : (p : List ℕ) (rows : List Beside) → OffAll switched rows → Agrees switched one other (Shared p ∷ rows) → fate switched ads one p (one_run rows) ≡ fate switched ads other p (other_run rows)
  fate-same p rows o g = ap (λ b. if b then Leave p else Keep p) (out-same p rows o g switched (all-ready switched rows o))

  -- a packet of no switched stream is kept, and nothing is put in before it
  none-out : (goes : ℕ → Option ℤ → Bool) (p : List ℕ) (past : List (List ℕ)) (pids : List ℕ) → on_one pids p ≡ false → is_left_out goes switched p past pids ≡ false
  none-out goes p past [] n = refl
  none-out goes p past (pid ∷ pids) n =
      let r = or_parts (on pid p) (on_one pids p) n in
      both _ _ (ap (λ b. b && goes pid (unit_time switched pid (p ∷ past))) (off_payload pid p r.0)) (none-out goes p past pids r.1)
    where
      both : (a b : Bool) → a ≡ false → b ≡ false → (a || b) ≡ false
      both true b h k = h
      both false b h k = k

  quiet-moves : (events : History) (q : List ℕ) (past : List (List ℕ)) → on_one switched q ≡ false → moves switched ads events (q ∷ past) ≡ Keep q ∷ moves switched ads events past
  quiet-moves events q past n =
      ap (λ b. (if b then Leave q else Keep q) ∷ (reverse (puts_before switched ads events q past) ++ moves switched ads events past)) (none-out (λ pid time. is_inside ads (events (q ∷ past)) time) q past switched n)
      ∙ ap (λ (ms : List Move). Keep q ∷ (reverse ms ++ moves switched ads events past)) (puts_at_unit_starts switched ads events q past (begins_off_all switched q past n))

  pub moves-same : (packed : Packing) (pid : ℕ) (rows : List Beside) → OffAll switched rows → OffAlone pid rows → Agrees switched one other rows
      → SameSteps packed pid (moves switched ads one (one_run rows)) (moves switched ads other (other_run rows))
  moves-same packed pid [] o a g = record { steps = refl; alike = alike_none pid [] }
  moves-same packed pid (Shared p ∷ rows) o a g =
      let puts = puts_before switched ads other p (other_run rows) in
      let went = fate switched ads other p (other_run rows) in
      let past = same-moves packed pid (reverse puts) (moves switched ads one (one_run rows)) (moves switched ads other (other_run rows)) (moves-same packed pid rows o a g.1) in
      let now = same-move packed pid went (reverse puts ++ moves switched ads one (one_run rows)) (reverse puts ++ moves switched ads other (other_run rows)) past in
      subst (λ (f : Move). SameSteps packed pid (f ∷ (reverse (puts_before switched ads one p (one_run rows)) ++ moves switched ads one (one_run rows))) (went ∷ (reverse puts ++ moves switched ads other (other_run rows))))
      (sym (fate-same p rows o g))
      (subst (λ (ms : List Move). SameSteps packed pid (went ∷ (reverse ms ++ moves switched ads one (one_run rows))) (went ∷ (reverse puts ++ moves switched ads other (other_run rows))))
      (sym (before-same p rows o g)) now)
  moves-same packed pid (Here q ∷ rows) o a g =
      subst (λ (ms : List Move). SameSteps packed pid ms (moves switched ads other (other_run rows))) (sym (quiet-moves one q (one_run rows) o.0))
      (same-quiet packed pid q (moves switched ads one (one_run rows)) (moves switched ads other (other_run rows)) a.0 (moves-same packed pid rows o.1 a.1 g))
  moves-same packed pid (There q ∷ rows) o a g =
      subst (λ (ms : List Move). SameSteps packed pid (moves switched ads one (one_run rows)) ms) (sym (quiet-moves other q (other_run rows) o.0))
      (same-back packed pid (Keep q ∷ moves switched ads other (other_run rows)) (moves switched ads one (one_run rows))
      (same-quiet packed pid q (moves switched ads other (other_run rows)) (moves switched ads one (one_run rows)) a.0
      (same-back packed pid (moves switched ads one (one_run rows)) (moves switched ads other (other_run rows)) (moves-same packed pid rows o.1 a.1 g))))

  -- ---- what goes out for it

  off-in : (rows : List Beside) → OffAll switched rows → (pid : ℕ) → Contains switched pid → OffAlone pid rows
  off-in rows o pid c = at switched (off-each switched rows o) c.0 c.1 c.2
    where
      at : (pids : List ℕ) → AllByRecursion (λ pid. OffAlone pid rows) pids → (i : ℕ) → i < length pids → slice_index_or pids i pid ≡ pid → OffAlone pid rows
      at [] all i l e = absurd (omega arith)
      at (q ∷ qs) all zero l e = subst (λ (n : ℕ). OffAlone n rows) e all.0
      at (q ∷ qs) all (suc i) l e = at qs all.1 i (omega arith) e

  each-same : (packed : Packing) (rows : List Beside) → OffAll switched rows → Agrees switched one other rows → (pid : ℕ) → Contains switched pid
      → SameSteps packed pid (moves switched ads one (one_run rows)) (moves switched ads other (other_run rows))
  each-same packed rows o g pid c = moves-same packed pid rows o (off-in rows o pid c) g

  pub front-same : (packed : Packing) (p : List ℕ) (rows : List Beside) → OffAll switched rows → Agrees switched one other (Shared p ∷ rows)
      → front_of switched ads one packed p (one_run rows) ≡ front_of switched ads other packed p (other_run rows)
  front-same packed p rows o g =
      ap (out_after packed (moves switched ads one (one_run rows))) (before-same p rows o g)
      ∙ after-same packed switched (puts_before switched ads other p (other_run rows)) (moves switched ads one (one_run rows)) (moves switched ads other (other_run rows))
      (put-append switched (puts_by switched (played ads (other (p ∷ other_run rows))) (closing other p (other_run rows))) (puts_by switched (played ads (other (p ∷ other_run rows))) (running other p (other_run rows)))
      (put-by switched switched (played ads (other (p ∷ other_run rows))) (closing other p (other_run rows)) (all-in switched))
      (put-by switched switched (played ads (other (p ∷ other_run rows))) (running other p (other_run rows)) (all-in switched)))
      (each-same packed rows o g.1)

  pub place-same : (packed : Packing) (p : List ℕ) (rows : List Beside) → OffAll switched rows → Agrees switched one other (Shared p ∷ rows) → on_one switched p ≡ true
      → place_of switched ads one packed p (one_run rows) ≡ place_of switched ads other packed p (other_run rows)
  place-same packed p rows o g s =
      let puts = puts_before switched ads other p (other_run rows) in
      ap (λ m. out_at packed m (reverse (puts_before switched ads one p (one_run rows)) ++ moves switched ads one (one_run rows))) (fate-same p rows o g)
      ∙ ap (λ (ms : List Move). out_at packed (fate switched ads other p (other_run rows)) (reverse ms ++ moves switched ads one (one_run rows))) (before-same p rows o g)
      ∙ at-same packed (is_left_out (λ pid time. is_inside ads (other (p ∷ other_run rows)) time) switched p (other_run rows) switched) p
      (reverse puts ++ moves switched ads one (one_run rows)) (reverse puts ++ moves switched ads other (other_run rows))
      (same-moves packed (pid_of p) (reverse puts) (moves switched ads one (one_run rows)) (moves switched ads other (other_run rows))
      (moves-same packed (pid_of p) rows o (switched-pid (λ pid. OffAlone pid rows) switched p s (off-each switched rows o)) g.1))

  pub rest-same : (packed : Packing) (rows : List Beside) → OffAll switched rows → Agrees switched one other rows → AgreeReached (high switched (one_run rows)) (one (one_run rows)) (other (other_run rows))
      → end_of_run switched ads one packed (one_run rows) ≡ end_of_run switched ads other packed (other_run rows)
  rest-same packed rows o g last =
      ap (out_after packed (moves switched ads one (one_run rows))) (end-same rows o g last)
      ∙ after-same packed switched (puts_at_end switched ads other (other_run rows)) (moves switched ads one (one_run rows)) (moves switched ads other (other_run rows))
      (put-by switched switched (played ads (other (other_run rows))) (left other (other_run rows)) (all-in switched))
      (each-same packed rows o g)
