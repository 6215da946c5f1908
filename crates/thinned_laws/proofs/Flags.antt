-- Two runs of the same units: what is known of an event goes by what is known once its start is reached.
use Rattle.std.proofs.Common.{◌≡◌, ℕ, zero, suc, List, [], ◌∷◌, Bool, true, false, not, ◌&&◌, ◌||◌, refl, sym, ap, ◌∙◌, Option, None, Some, length, drop, if◌then◌else◌, arith}
use Rattle.std.specs.Prelude.{ℤ, Contains}
use Rattle.std.proofs.lemmas.Int.{ints}
use Rattle.std.proofs.lemmas.Bool.{true≢false, and_parts, or_parts}
use Rattle.ts_packet.specs.Fields.{on, payload_on, unit_start, on_one}
use Rattle.ts_packet.specs.Duplicates.{original}
use Rattle.ts_packet.proofs.Cases.{by_test}
use Rattle.ts_packet.proofs.FieldLemmas.{off_payload}
use Rattle.unit_stream.specs.Times.{begins, begins_one, high, unit_time, raised, timed, stamp}
use Rattle.unit_stream.proofs.ClockLemmas.{begins_off, begins_off_all}
use Rattle.psi_section.proofs.RunLemmas.{Alike, alike_on, alike_off, alike_none, alike_back}
use Rattle.cue_laws.specs.Events.{before}
use Rattle.splice_laws.specs.Splicing.{PlayedEvent, SliceUnit, TimedStream, stream, comes, at_or_past}
use Rattle.splice_laws.specs.Laws.{Risen}
use Rattle.splice_laws.specs.Settled.{stands_now, begun_now, closed_now}
use Rattle.splice_laws.proofs.SettledLemmas.{switched_pids_are_within}
use Rattle.splice_laws.proofs.PidLemmas.{pids_are_streams}
use Rattle.splice_plans.specs.Playing.{sent_of_begun, sent_known, due_at, left_at_end}
use Rattle.thinned_laws.specs.Beside.{Beside, Shared, Here, There, one_run, other_run}

-- ---- packets of one run alone

-- they are not of this PID
abbrev pub OffAlone : ℕ → List Beside → Type 0
OffAlone pid [] = Unit {0}
OffAlone pid (Shared p ∷ rows) = OffAlone pid rows
OffAlone pid (Here q ∷ rows) = (on pid q ≡ false) × OffAlone pid rows
OffAlone pid (There q ∷ rows) = (on pid q ≡ false) × OffAlone pid rows

-- nor of one of these
abbrev pub OffAll : List ℕ → List Beside → Type 0
OffAll pids [] = Unit {0}
OffAll pids (Shared p ∷ rows) = OffAll pids rows
OffAll pids (Here q ∷ rows) = (on_one pids q ≡ false) × OffAll pids rows
OffAll pids (There q ∷ rows) = (on_one pids q ≡ false) × OffAll pids rows

pub off-head : (pid : ℕ) (pids : List ℕ) (rows : List Beside) → OffAll (pid ∷ pids) rows → OffAlone pid rows
off-head pid pids [] o = tt
off-head pid pids (Shared p ∷ rows) o = off-head pid pids rows o
off-head pid pids (Here q ∷ rows) o = ((or_parts (on pid q) (on_one pids q) o.0).0, off-head pid pids rows o.1)
off-head pid pids (There q ∷ rows) o = ((or_parts (on pid q) (on_one pids q) o.0).0, off-head pid pids rows o.1)

pub off-tail : (pid : ℕ) (pids : List ℕ) (rows : List Beside) → OffAll (pid ∷ pids) rows → OffAll pids rows
off-tail pid pids [] o = tt
off-tail pid pids (Shared p ∷ rows) o = off-tail pid pids rows o
off-tail pid pids (Here q ∷ rows) o = ((or_parts (on pid q) (on_one pids q) o.0).1, off-tail pid pids rows o.1)
off-tail pid pids (There q ∷ rows) o = ((or_parts (on pid q) (on_one pids q) o.0).1, off-tail pid pids rows o.1)

pub alike-runs : (pid : ℕ) (rows : List Beside) → OffAlone pid rows → Alike pid (one_run rows) (other_run rows)
alike-runs pid [] o = alike_none pid []
alike-runs pid (Shared p ∷ rows) o = alike_on pid p (one_run rows) (other_run rows) (alike-runs pid rows o)
alike-runs pid (Here q ∷ rows) o = alike_off pid q (one_run rows) (other_run rows) o.0 (alike-runs pid rows o.1)
alike-runs pid (There q ∷ rows) o =
    alike_back pid (q ∷ other_run rows) (one_run rows)
    (alike_off pid q (other_run rows) (one_run rows) o.0 (alike_back pid (one_run rows) (other_run rows) (alike-runs pid rows o.1)))

pub original-same : (pid : ℕ) (p : List ℕ) (past other : List (List ℕ)) → Alike pid past other → original pid p past ≡ original pid p other
original-same pid p past other a = ap (λ r. payload_on pid p && not r) (a.repeated p)

pub begins-same : (pid : ℕ) (rows : List Beside) → OffAlone pid rows → (p : List ℕ) → begins pid p (one_run rows) ≡ begins pid p (other_run rows)
begins-same pid rows o p = ap (λ b. b && unit_start p) (original-same pid p (one_run rows) (other_run rows) (alike-runs pid rows o))

pub begins-one-same : (pids : List ℕ) (rows : List Beside) → OffAll pids rows → (p : List ℕ) → begins_one pids p (one_run rows) ≡ begins_one pids p (other_run rows)
begins-one-same [] rows o p = refl
begins-one-same (pid ∷ pids) rows o p = both (begins-same pid rows (off-head pid pids rows o) p) (begins-one-same pids rows (off-tail pid pids rows o) p)
  where
    both : {a b c d : Bool} → a ≡ b → c ≡ d → (a || c) ≡ (b || d)
    both h k = rw (h, k) refl

-- ---- times

same-if : {A : Type 0} {b c : Bool} {x y z w : A} → b ≡ c → x ≡ y → z ≡ w → (if b then x else z) ≡ (if c then y else w)
same-if h k l = rw (h, k, l) refl

not-if : {A : Type 0} (b : Bool) (x y : A) → b ≡ false → (if b then x else y) ≡ y
not-if true x y h = absurd (true≢false h)
not-if false x y h = refl

pub high-same : (switched : List ℕ) (rows : List Beside) → OffAll switched rows → high switched (one_run rows) ≡ high switched (other_run rows)
high-same switched [] o = refl
high-same switched (Shared p ∷ rows) o =
    let h = high-same switched rows o in
    same-if (begins-one-same switched rows o p) (ap (λ x. raised x (stamp p)) h) h
high-same switched (Here q ∷ rows) o =
    not-if (begins_one switched q (one_run rows)) (raised (high switched (one_run rows)) (stamp q)) (high switched (one_run rows)) (begins_off_all switched q (one_run rows) o.0) ∙ high-same switched rows o.1
high-same switched (There q ∷ rows) o =
    high-same switched rows o.1 ∙ sym (not-if (begins_one switched q (other_run rows)) (raised (high switched (other_run rows)) (stamp q)) (high switched (other_run rows)) (begins_off_all switched q (other_run rows) o.0))

pub time-same : (switched : List ℕ) (pid : ℕ) (rows : List Beside) → OffAll switched rows → OffAlone pid rows → unit_time switched pid (one_run rows) ≡ unit_time switched pid (other_run rows)
time-same switched pid [] o a = refl
time-same switched pid (Shared p ∷ rows) o a =
    let t = time-same switched pid rows o a in
    same-if (begins-same pid rows a p) (ap (λ x. timed x (stamp p) (unit_time switched pid (one_run rows))) (high-same switched rows o) ∙ ap (timed (high switched (other_run rows)) (stamp p)) t) t
time-same switched pid (Here q ∷ rows) o a =
    not-if (begins pid q (one_run rows)) (timed (high switched (one_run rows)) (stamp q) (unit_time switched pid (one_run rows))) (unit_time switched pid (one_run rows)) (begins_off pid q (one_run rows) (off_payload pid q a.0))
    ∙ time-same switched pid rows o.1 a.1
time-same switched pid (There q ∷ rows) o a =
    time-same switched pid rows o.1 a.1
    ∙ sym (not-if (begins pid q (other_run rows)) (timed (high switched (other_run rows)) (stamp q) (unit_time switched pid (other_run rows))) (unit_time switched pid (other_run rows)) (begins_off pid q (other_run rows) (off_payload pid q a.0)))

-- ---- reached starts

pub reached-by : (edge : ℤ) (t h : Option ℤ) → Risen t h → at_or_past edge t ≡ true → before h edge ≡ false
reached-by edge None h w a = absurd (true≢false (sym a))
reached-by edge (Some t) None w a = absurd w
reached-by edge (Some t) (Some h) w a = grind (arith, ints)

stays-reached : (edge : ℤ) (h later : Option ℤ) → Risen h later → before h edge ≡ false → before later edge ≡ false
stays-reached edge None later w b = absurd (true≢false b)
stays-reached edge (Some h) None w b = absurd w
stays-reached edge (Some h) (Some later) w b = grind (arith, ints)

module _ (switched : List ℕ) (pid : ℕ) (among : Contains switched pid) (x : PlayedEvent) (known : List (List ℕ) → Option ℤ) where
  abbrev r : TimedStream
  r = stream switched pid

  -- what has begun is reached
  pub reached : (past : List (List ℕ)) → begun_now r x known past ≡ true → before (high switched past) x.start ≡ false
  reached [] b = absurd (true≢false (sym b))
  reached (p ∷ past) b = by_test (begun_now r x known past)
      (λ y. stays-reached x.start (high switched past) (high switched (p ∷ past)) ((pids_are_streams switched pid).rises p past) (reached past y))
      (λ n. let c = and_parts (comes r x.start p past) (stands_now x (known (p ∷ past)) (high switched past)) (second (begun_now r x known past) _ n b) in
      let d = and_parts (begins pid p past) (at_or_past x.start (unit_time switched pid (p ∷ past))) c.0 in
      reached-by x.start (unit_time switched pid (p ∷ past)) (high switched (p ∷ past)) (switched_pids_are_within switched pid among (p ∷ past)) d.1)
    where
      second : (a b : Bool) → a ≡ false → (a || b) ≡ true → b ≡ true
      second true b n h = absurd (true≢false n)
      second false b n h = h

  pub not-begun : (past : List (List ℕ)) → before (high switched past) x.start ≡ true → begun_now r x known past ≡ false
  not-begun past h = by_test (begun_now r x known past) (λ y. absurd (true≢false (sym h ∙ reached past y))) (λ n. n)

  begun-before : (p : List ℕ) (past : List (List ℕ)) → begun_now r x known (p ∷ past) ≡ false → begun_now r x known past ≡ false
  begun-before p past h = (or_parts (begun_now r x known past) (comes r x.start p past && stands_now x (known (p ∷ past)) (high switched past)) h).0

  pub sent-none : (units : List SliceUnit) (past : List (List ℕ)) → begun_now r x known past ≡ false → sent_known (begins_one switched) r x known units past ≡ []
  sent-none units [] h = refl
  sent-none units (p ∷ past) h =
      pick (begins_one switched p past) (not (closed_now r x known past)) (begun_now r x known (p ∷ past)) (sent_of_begun (begins_one switched) r x known units p past) (sent_known (begins_one switched) r x known units past) h
      ∙ sent-none units past (begun-before p past h)
    where
      pick : (t c b : Bool) (us vs : List SliceUnit) → b ≡ false → (if t && (c && b) then us else vs) ≡ vs
      pick t c true us vs n = absurd (true≢false n)
      pick true true false us vs n = refl
      pick true false false us vs n = refl
      pick false c false us vs n = refl

  drop-none : (n : ℕ) (us : List SliceUnit) → us ≡ [] → drop n us ≡ []
  drop-none zero us h = h
  drop-none (suc n) us h = ap (drop (suc n)) h

  pub due-none : (units : List SliceUnit) (p : List ℕ) (past : List (List ℕ)) → before (high switched (p ∷ past)) x.start ≡ true → due_at (begins_one switched) r x known units p past ≡ []
  due-none units p past h = drop-none (length (sent_known (begins_one switched) r x known units past)) (sent_known (begins_one switched) r x known units (p ∷ past)) (sent-none units (p ∷ past) (not-begun (p ∷ past) h))

  pub left-none : (units : List SliceUnit) (past : List (List ℕ)) → before (high switched past) x.start ≡ true → left_at_end (begins_one switched) r x known units past ≡ []
  left-none units past h = pick (begun_now r x known past) (closed_now r x known past) _ (not-begun past h)
    where
      pick : (b c : Bool) (us : List SliceUnit) → b ≡ false → (if b && not c then us else []) ≡ []
      pick true c us n = absurd (true≢false n)
      pick false c us n = refl
