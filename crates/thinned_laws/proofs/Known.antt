-- What two runs know of an event, where their events agree that are reached.
use Rattle.std.proofs.Common.{◌≡◌, ℕ, zero, suc, ◌<◌, List, [], ◌∷◌, Bool, true, false, not, ◌&&◌, ◌||◌, refl, sym, ap, ◌∙◌, subst, Option, None, Some, length, drop, if◌then◌else◌, arith}
use Rattle.std.specs.Prelude.{ℤ, Contains, slice_index_or, find, option_map}
use Rattle.std.specs.List.{AllByRecursion}
use Rattle.std.specs.Ordering.{int_eq}
use Rattle.std.proofs.lemmas.Bool.{true≢false, and_parts}
use Rattle.ts_packet.specs.Fields.{on, pid_of, on_one}
use Rattle.ts_packet.proofs.Cases.{by_test}
use Rattle.ts_packet.proofs.FieldLemmas.{off_payload, pid_is}
use Rattle.unit_stream.specs.Times.{begins, begins_one, high, unit_time}
use Rattle.unit_stream.proofs.ClockLemmas.{begins_off, begins_off_all}
use Rattle.event_table.specs.Standing.{Standing, end_of}
use Rattle.armed_laws.specs.Laws.{NoneMeet}
use Rattle.cue_laws.specs.Events.{before}
use Rattle.splice_laws.specs.Splicing.{PlayedEvent, SliceUnit, TimedStream, stream, comes, at_or_past, holds}
use Rattle.splice_laws.specs.Laws.{Risen}
use Rattle.splice_laws.specs.Settled.{stands_now, holds_now, begun_now, closed_now}
use Rattle.splice_laws.specs.Ends.{longest_front}
use Rattle.splice_laws.proofs.SettledLemmas.{switched_pids_are_within}
use Rattle.splice_plans.specs.Playing.{Adverts, History, is_played, is_inside, as_played, end_known, up_to_known, sent_known, due_at, closing_at, running_at, left_at_end}
use Rattle.known_laws.proofs.QuietLemmas.{sent-still, or-alone, or-beside}
use Rattle.pes_time.proofs.IntLemmas.{int-is}
use Rattle.splice_plans.proofs.KnownLemmas.{played-stays}
use Rattle.thinned_laws.specs.Beside.{Beside, Shared, Here, There, one_run, other_run, AgreeReached}
use Rattle.thinned_laws.proofs.Lists.{distinct-starts, same-found, same-any}
use Rattle.thinned_laws.proofs.Flags.{OffAlone, OffAll, begins-same, begins-one-same, high-same, time-same, reached-by, reached}

-- ---- a switched stream's packet

pub switched-in : (pids : List ℕ) (pid : ℕ) → Contains pids pid → (p : List ℕ) → on pid p ≡ true → on_one pids p ≡ true
switched-in pids pid c p h = at pids c.0 c.1 c.2
  where
    or-left : (a b : Bool) → a ≡ true → (a || b) ≡ true
    or-left true b h = refl
    or-left false b h = absurd (true≢false (sym h))

    or-right : (a b : Bool) → b ≡ true → (a || b) ≡ true
    or-right true b h = refl
    or-right false b h = h

    at : (pids : List ℕ) (i : ℕ) → i < length pids → slice_index_or pids i pid ≡ pid → on_one pids p ≡ true
    at [] i l e = absurd (omega arith)
    at (q ∷ qs) zero l e = or-left (on q p) (on_one qs p) (ap (λ (n : ℕ). on n p) e ∙ h)
    at (q ∷ qs) (suc i) l e = or-right (on q p) (on_one qs p) (at qs i (omega arith) e)

-- what holds of each of these PIDs, holds of that of the packet
pub switched-pid : (P : ℕ → Type 0) (pids : List ℕ) (p : List ℕ) → on_one pids p ≡ true → AllByRecursion P pids → P (pid_of p)
switched-pid P [] p h all = absurd (true≢false (sym h))
switched-pid P (pid ∷ pids) p h all = by_test (on pid p)
    (λ y. subst P (sym (pid_is pid p y)) all.0)
    (λ n. switched-pid P pids p (second (on pid p) (on_one pids p) n h) all.1)
  where
    second : (a b : Bool) → a ≡ false → (a || b) ≡ true → b ≡ true
    second true b n h = absurd (true≢false n)
    second false b n h = h

begins-switched : (pids : List ℕ) (pid : ℕ) → Contains pids pid → (p : List ℕ) (past : List (List ℕ)) → begins pid p past ≡ true → on_one pids p ≡ true
begins-switched pids pid c p past b = by_test (on pid p)
    (λ y. switched-in pids pid c p y)
    (λ n. absurd (true≢false (sym b ∙ begins_off pid p past (off_payload pid p n))))

pub one-switched : (pids : List ℕ) (p : List ℕ) (past : List (List ℕ)) → begins_one pids p past ≡ true → on_one pids p ≡ true
one-switched pids p past b = by_test (on_one pids p) (λ y. y) (λ n. absurd (true≢false (sym b ∙ begins_off_all pids p past n)))

-- ---- tests

pub and-same : {a b s t : Bool} → a ≡ b → (a ≡ true → s ≡ t) → (a && s) ≡ (b && t)
and-same {a} {b} {s} {t} h k = by_test a
    (λ y. let z = sym h ∙ y in let e = k y in simp (y, z) e)
    (λ n. let z = sym h ∙ n in simp (n, z) refl)

pub or-same : {a b c d : Bool} → a ≡ b → c ≡ d → (a || c) ≡ (b || d)
or-same h k = rw (h, k) refl

pub if-same : {A : Type 0} {t u : Bool} {x y z w : A} → t ≡ u → (t ≡ true → x ≡ y) → z ≡ w → (if t then x else z) ≡ (if u then y else w)
if-same {A} {t} {u} {x} {y} {z} {w} h k l = by_test t
    (λ a. let b = sym h ∙ a in let e = k a in simp (a, b) e)
    (λ a. let b = sym h ∙ a in simp (a, b) l)

-- ---- a packet that begins no unit of the stream

module _ (r : TimedStream) (x : PlayedEvent) (known : List (List ℕ) → Option ℤ) (p : List ℕ) (past : List (List ℕ)) (none : r.begins p past ≡ false) where
  begun-still : begun_now r x known (p ∷ past) ≡ begun_now r x known past
  begun-still = or-alone (begun_now r x known past) (r.begins p past) (at_or_past x.start (r.time (p ∷ past))) (stands_now x (known (p ∷ past)) (r.high past)) none

  closed-still : closed_now r x known (p ∷ past) ≡ closed_now r x known past
  closed-still = or-beside (closed_now r x known past) (begun_now r x known (p ∷ past)) (r.begins p past) (not (holds_now x (known (p ∷ past)) (r.time (p ∷ past)))) none

-- ---- events of two runs

-- their events agree at each packet of a switched stream
abbrev pub Agrees : List ℕ → History → History → List Beside → Type 0
Agrees switched one other [] = Unit {0}
Agrees switched one other (Shared p ∷ rows) =
    (on_one switched p ≡ true → AgreeReached (high switched (p ∷ one_run rows)) (one (p ∷ one_run rows)) (other (p ∷ other_run rows)))
    × Agrees switched one other rows
Agrees switched one other (Here q ∷ rows) = Agrees switched one other rows
Agrees switched one other (There q ∷ rows) = Agrees switched one other rows

-- no two events of a run ever meet
abbrev pub NeverMeet : History → Type 0
NeverMeet events = (past : List (List ℕ)) → NoneMeet (events past)

module _ (ads : Adverts) where
  pub known-same : (h : Option ℤ) (es fs : List Standing) → NoneMeet fs → AgreeReached h es fs → (start : ℤ) → before h start ≡ false
      → option_map end_of (find (λ e. int_eq e.start start && is_played ads e) es) ≡ option_map end_of (find (λ e. int_eq e.start start && is_played ads e) fs)
  known-same h es fs n a start past = ap (option_map end_of) (same-found (λ e. int_eq e.start start && is_played ads e) es fs (distinct-starts fs n)
      (λ x y s t. int-is x.start start (and_parts (int_eq x.start start) (is_played ads x) s).0 ∙ sym (int-is y.start start (and_parts (int_eq y.start start) (is_played ads y) t).0))
      (λ e t. let p = and_parts (int_eq e.start start) (is_played ads e) t in
      a e (played-stays ads e p.1) (ap (before h) (int-is e.start start p.0) ∙ past)))

  pub inside-same : (h t : Option ℤ) → Risen t h → (es fs : List Standing) → AgreeReached h es fs → is_inside ads es t ≡ is_inside ads fs t
  inside-same h t w es fs a = same-any (λ e. is_played ads e && holds (as_played e) t) es fs
      (λ e k. let p = and_parts (is_played ads e) (holds (as_played e) t) k in a e (played-stays ads e p.0) (reached-by e.start t h w (held-past (as_played e) t p.1)))
    where
      held-past : (x : PlayedEvent) (t : Option ℤ) → holds x t ≡ true → at_or_past x.start t ≡ true
      held-past x None h = absurd (true≢false (sym h))
      held-past x (Some t) h = (and_parts _ _ h).0

-- ---- one event in one stream

module _ (switched : List ℕ) (pid : ℕ) (among : Contains switched pid) (ads : Adverts) (one other : History) (meet : NeverMeet other) (x : PlayedEvent) where
  abbrev r : TimedStream
  r = stream switched pid

  abbrev here : List (List ℕ) → Option ℤ
  here = end_known ads one x.start

  abbrev there : List (List ℕ) → Option ℤ
  there = end_known ads other x.start

  -- once its start is reached
  known-at : (p : List ℕ) (rows : List Beside) → Agrees switched one other (Shared p ∷ rows) → on_one switched p ≡ true → before (high switched (p ∷ one_run rows)) x.start ≡ false
      → here (p ∷ one_run rows) ≡ there (p ∷ other_run rows)
  known-at p rows g s b = known-same ads (high switched (p ∷ one_run rows)) (one (p ∷ one_run rows)) (other (p ∷ other_run rows)) (meet (p ∷ other_run rows)) (g.0 s) x.start b

  comes-same : (p : List ℕ) (rows : List Beside) → OffAll switched rows → OffAlone pid rows → comes r x.start p (one_run rows) ≡ comes r x.start p (other_run rows)
  comes-same p rows o a = and-same (begins-same pid rows a p) (λ y. ap (at_or_past x.start) (time-same switched pid (Shared p ∷ rows) o a))

  pub begun-same : (rows : List Beside) → OffAll switched rows → OffAlone pid rows → Agrees switched one other rows → begun_now r x here (one_run rows) ≡ begun_now r x there (other_run rows)
  begun-same [] o a g = refl
  begun-same (Shared p ∷ rows) o a g =
      or-same (begun-same rows o a g.1)
      (and-same (comes-same p rows o a)
      (λ y. let c = and_parts (begins pid p (one_run rows)) (at_or_past x.start (unit_time switched pid (p ∷ one_run rows))) y in
      let s = begins-switched switched pid among p (one_run rows) c.0 in
      let b = reached-by x.start (unit_time switched pid (p ∷ one_run rows)) (high switched (p ∷ one_run rows)) (switched_pids_are_within switched pid among (p ∷ one_run rows)) c.1 in
      ap (λ (o : Option ℤ). stands_now x o (high switched (one_run rows))) (known-at p rows g s b)
      ∙ ap (λ h. stands_now x (there (p ∷ other_run rows)) h) (high-same switched rows o)))
  begun-same (Here q ∷ rows) o a g = begun-still r x here q (one_run rows) (begins_off pid q (one_run rows) (off_payload pid q a.0)) ∙ begun-same rows o.1 a.1 g
  begun-same (There q ∷ rows) o a g = begun-same rows o.1 a.1 g ∙ sym (begun-still r x there q (other_run rows) (begins_off pid q (other_run rows) (off_payload pid q a.0)))

  pub closed-same : (rows : List Beside) → OffAll switched rows → OffAlone pid rows → Agrees switched one other rows → closed_now r x here (one_run rows) ≡ closed_now r x there (other_run rows)
  closed-same [] o a g = refl
  closed-same (Shared p ∷ rows) o a g =
      or-same (closed-same rows o a g.1)
      (and-same (begun-same (Shared p ∷ rows) o a g)
      (λ y. and-same (begins-same pid rows a p)
      (λ z. let s = begins-switched switched pid among p (one_run rows) z in
      let b = reached switched pid among x here (p ∷ one_run rows) y in
      ap (λ (o : Option ℤ). not (holds_now x o (unit_time switched pid (p ∷ one_run rows)))) (known-at p rows g s b)
      ∙ ap (λ t. not (holds_now x (there (p ∷ other_run rows)) t)) (time-same switched pid (Shared p ∷ rows) o a))))
  closed-same (Here q ∷ rows) o a g = closed-still r x here q (one_run rows) (begins_off pid q (one_run rows) (off_payload pid q a.0)) ∙ closed-same rows o.1 a.1 g
  closed-same (There q ∷ rows) o a g = closed-same rows o.1 a.1 g ∙ sym (closed-still r x there q (other_run rows) (begins_off pid q (other_run rows) (off_payload pid q a.0)))

  module _ (units : List SliceUnit) where
    pub sent-same : (rows : List Beside) → OffAll switched rows → OffAlone pid rows → Agrees switched one other rows
        → sent_known (begins_one switched) r x here units (one_run rows) ≡ sent_known (begins_one switched) r x there units (other_run rows)
    sent-same [] o a g = refl
    sent-same (Shared p ∷ rows) o a g =
        three (begins-one-same switched rows o p) (closed-same rows o a g.1) (begun-same (Shared p ∷ rows) o a g)
        (λ t b. let k = known-at p rows g (one-switched switched p (one_run rows) t) (reached switched pid among x here (p ∷ one_run rows) b) in
        front-same (closed-same (Shared p ∷ rows) o a g) k (high-same switched (Shared p ∷ rows) o))
        (sent-same rows o a g.1)
      where
        three : {t u c d b e : Bool} {us vs ws zs : List SliceUnit} → t ≡ u → c ≡ d → b ≡ e → (t ≡ true → b ≡ true → us ≡ vs) → ws ≡ zs
            → (if t && (not c && b) then us else ws) ≡ (if u && (not d && e) then vs else zs)
        three {t} {u} {c} {d} {b} {e} {us} {vs} {ws} {zs} h k l m n = if-same (rw (h, k, l) refl) (λ y. let p = and_parts t (not c && b) y in m p.0 (and_parts (not c) b p.1).1) n

        front-same : {c d : Bool} {k l : Option ℤ} {h m : Option ℤ} → c ≡ d → k ≡ l → h ≡ m
            → (if c then up_to_known k units else longest_front (up_to_known k units) h) ≡ (if d then up_to_known l units else longest_front (up_to_known l units) m)
        front-same i j n = rw (i, j, n) refl
    sent-same (Here q ∷ rows) o a g = sent-still (begins_one switched) r x here units q (one_run rows) (begins_off_all switched q (one_run rows) o.0) ∙ sent-same rows o.1 a.1 g
    sent-same (There q ∷ rows) o a g = sent-same rows o.1 a.1 g ∙ sym (sent-still (begins_one switched) r x there units q (other_run rows) (begins_off_all switched q (other_run rows) o.0))

    pub due-same : (p : List ℕ) (rows : List Beside) → OffAll switched rows → OffAlone pid rows → Agrees switched one other (Shared p ∷ rows)
        → due_at (begins_one switched) r x here units p (one_run rows) ≡ due_at (begins_one switched) r x there units p (other_run rows)
    due-same p rows o a g =
        ap (λ (us : List SliceUnit). drop (length us) (sent_known (begins_one switched) r x here units (p ∷ one_run rows))) (sent-same rows o a g.1)
        ∙ ap (drop (length (sent_known (begins_one switched) r x there units (other_run rows)))) (sent-same (Shared p ∷ rows) o a g)

    pub closing-same : (p : List ℕ) (rows : List Beside) → OffAll switched rows → OffAlone pid rows → Agrees switched one other (Shared p ∷ rows)
        → closing_at (begins_one switched) r x here units p (one_run rows) ≡ closing_at (begins_one switched) r x there units p (other_run rows)
    closing-same p rows o a g = if-same (closed-same (Shared p ∷ rows) o a g) (λ y. due-same p rows o a g) refl

    pub running-same : (p : List ℕ) (rows : List Beside) → OffAll switched rows → OffAlone pid rows → Agrees switched one other (Shared p ∷ rows)
        → running_at (begins_one switched) r x here units p (one_run rows) ≡ running_at (begins_one switched) r x there units p (other_run rows)
    running-same p rows o a g = if-same (closed-same (Shared p ∷ rows) o a g) (λ y. refl) (due-same p rows o a g)

    -- at the end, where the events agree there
    pub left-same : (rows : List Beside) → OffAll switched rows → OffAlone pid rows → Agrees switched one other rows → AgreeReached (high switched (one_run rows)) (one (one_run rows)) (other (other_run rows))
        → left_at_end (begins_one switched) r x here units (one_run rows) ≡ left_at_end (begins_one switched) r x there units (other_run rows)
    left-same rows o a g last =
        if-same (and-same (begun-same rows o a g) (λ y. ap not (closed-same rows o a g)))
        (λ y. let b = reached switched pid among x here (one_run rows) (and_parts (begun_now r x here (one_run rows)) (not (closed_now r x here (one_run rows))) y).0 in
        ap (λ (us : List SliceUnit). drop (length us) (up_to_known (here (one_run rows)) units)) (sent-same rows o a g)
        ∙ ap (λ (k : Option ℤ). drop (length (sent_known (begins_one switched) r x there units (other_run rows))) (up_to_known k units))
        (known-same ads (high switched (one_run rows)) (one (one_run rows)) (other (other_run rows)) (meet (other_run rows)) last x.start b))
        refl
