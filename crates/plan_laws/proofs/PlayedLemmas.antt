-- The units of an advertisement that are due of an event are those of its slice that are, and their packets are those of the moves.
use Rattle.std.proofs.Common.{◌≡◌, ℕ, zero, suc, ◌==◌, ◌<◌, List, [], ◌∷◌, ◌++◌, Bool, true, false, ◌||◌, inl, inr, refl, sym, ap, ◌∙◌, append_assoc, Option, None, Some, arith, length, drop, take, map}
use Rattle.std.specs.Prelude.{ℤ, pos, negsuc, ◌+ℤ◌, ◌-ℤ◌, slice_index_or, option_map}
use Rattle.std.proofs.lemmas.Int.{ints}
use Rattle.std.proofs.lemmas.Bool.{true≢false}
use Rattle.std.proofs.lemmas.List.{append-nil, length-map}
use lib.Signed.{le_z, lt_z}
use Rattle.ts_packet.proofs.Cases.{by_test, test-same}
use Rattle.pes_time.specs.Line.{ring_of}
use Rattle.pes_time.specs.Stamps.{restamped}
use Rattle.psi_tables.specs.declared.stream.Stream.{Stream}
use Rattle.unit_stream.specs.UnitPackets.{put_in}
use Rattle.unit_packing.specs.Packing.{unit_packets}
use Rattle.unit_packing.specs.Putting.{next_number}
use Rattle.splice_laws.specs.Splicing.{SliceUnit}
use Rattle.ts_packet.specs.Fields.{is_among}
use Rattle.splice_laws.specs.Streams.{IsOnce}
use Rattle.splice_laws.specs.Ends.{up_to_end}
use Rattle.splice_laws.proofs.EndLemmas.{run_of}
use Rattle.output_laws.specs.Output.{Move, Put, Packing}
use Rattle.ad_library.specs.Advertisements.{AdvertUnit, AdvertStream, Advertisement, stream_at, count_of_kind, slice_of}
use Rattle.ad_library.specs.Library.{slice_held}
use Rattle.splice_plans.specs.Counters.{PidSteps, counted_at, out_by, counted_after, out_behind}
use Rattle.splice_plans.specs.Adverts.{slice_unit, slice_units, kind_and_place, units_at, packed_units}
use Rattle.splice_plans.specs.Slicing.{due_units, delta_at, moved_packets, slice_packets}
use Rattle.splice_plans.specs.Parts.{units_or, delta_in}
use Rattle.splice_plans.proofs.SliceLemmas.{put_in-append}

pub moved-by : (start least : ℤ) → delta_at (ring_of start) least ≡ ring_of (start -ℤ least)
moved-by (pos a) (pos b) = grind (arith, ints)
moved-by (pos a) (negsuc b) = grind (arith, ints)
moved-by (negsuc a) (pos b) = grind (arith, ints)
moved-by (negsuc a) (negsuc b) = grind (arith, ints)

-- ---- units put in one after another

pub counted-append : (steps : PidSteps) (a b : List Move) → counted_after packed_units steps (a ++ b) ≡ counted_after packed_units (counted_after packed_units steps a) b
counted-append steps [] b = refl
counted-append steps (m ∷ a) b = counted-append (counted_at packed_units m [] steps) a b

pub out-append : (packed : Packing) (steps : PidSteps) (a b : List Move) → out_behind packed steps (a ++ b) ≡ out_behind packed steps a ++ out_behind packed (counted_after packed steps a) b
out-append packed steps [] b = refl
out-append packed steps (m ∷ a) b =
    let next = counted_at packed m [] steps in
    ap (λ l. out_by packed m [] steps ++ l) (out-append packed next a b) ∙ sym (append_assoc (out_by packed m [] steps) (out_behind packed next a) (out_behind packed (counted_after packed next a) b))

abbrev pub put_on : ℕ → List SliceUnit → List Move
put_on pid us = map (λ (u : SliceUnit). Put pid u) us

-- on another PID they count nothing
pub steps-other : (packed : Packing) (pid q : ℕ) (steps : PidSteps) (us : List SliceUnit) → (pid == q) ≡ false → counted_after packed steps (put_on pid us) q ≡ steps q
steps-other packed pid q steps [] h = refl
steps-other packed pid q steps (u ∷ us) h = steps-other packed pid q (counted_at packed (Put pid u) [] steps) us h ∙ simp h refl

-- ---- of an advertisement

module _ (start : ℤ) (ad : Advertisement) where
  abbrev played : List AdvertUnit → List SliceUnit
  played us = map (slice_unit start ad) us

  lower-same : (s o : ℤ) (n : ℕ) → lt_z (s +ℤ o) (s +ℤ pos n) ≡ lt_z o (pos n)
  lower-same s o n = grind (arith, ints)

  below-end : (n : ℕ) (us : List AdvertUnit) → up_to_end (start +ℤ pos n) (played us) ≡ played (slice_of n us)
  below-end n [] = refl
  below-end n (u ∷ us) =
      let e = lower-same start u.offset n in
      by_test (lt_z u.offset (pos n)) (λ y. let f = e ∙ y in simp (y, f) (ap (λ l. slice_unit start ad u ∷ l) (below-end n us))) (λ y. let f = e ∙ y in simp (y, f) (below-end n us))

  due-same : (s o h : ℤ) (r : ℕ) → s +ℤ pos r ≡ h → le_z (s +ℤ o) h ≡ le_z o (pos r)
  due-same s o h r e = grind (arith, ints, e)

  run-is : (h : ℤ) (r : ℕ) → start +ℤ pos r ≡ h → (us : List AdvertUnit) → run_of (played us) (Some h) ≡ played (due_units (Some r) us)
  run-is h r e [] = refl
  run-is h r e (u ∷ us) =
      let d = due-same start u.offset h r e in
      by_test (le_z u.offset (pos r)) (λ y. let f = d ∙ y in simp (y, f) (ap (λ l. slice_unit start ad u ∷ l) (run-is h r e us))) (λ y. let f = d ∙ y in simp (y, f))

  drop-is : (n : ℕ) (us : List AdvertUnit) → drop n (played us) ≡ played (drop n us)
  drop-is zero us = refl
  drop-is (suc n) [] = refl
  drop-is (suc n) (u ∷ us) = drop-is n us

  one-packet : (pid : ℕ) (u : AdvertUnit) (steps : PidSteps) → out_by packed_units (Put pid (slice_unit start ad u)) [] steps ≡ moved_packets pid (delta_at (ring_of start) ad.zero) (steps pid) u
  one-packet pid u steps = ap (λ d. unit_packets pid u.random_access (next_number (steps pid)) (restamped u.payload d)) (sym (moved-by start ad.zero))

  step-one : (pid : ℕ) (u : AdvertUnit) (steps : PidSteps) → counted_at packed_units (Put pid (slice_unit start ad u)) [] steps pid
      ≡ put_in (moved_packets pid (delta_at (ring_of start) ad.zero) (steps pid) u) (steps pid)
  step-one pid u steps = let t = test-same pid in simp t (ap (λ l. put_in l (steps pid)) (one-packet pid u steps))

  packets-are : (pid : ℕ) (steps : PidSteps) (us : List AdvertUnit) → out_behind packed_units steps (put_on pid (played us)) ≡ slice_packets pid (delta_at (ring_of start) ad.zero) (steps pid) us
  packets-are pid steps [] = refl
  packets-are pid steps (u ∷ us) =
      let next = counted_at packed_units (Put pid (slice_unit start ad u)) [] steps in
      ap (λ l. l ++ out_behind packed_units next (put_on pid (played us))) (one-packet pid u steps)
      ∙ ap (λ l. moved_packets pid (delta_at (ring_of start) ad.zero) (steps pid) u ++ l)
      (packets-are pid next us ∙ ap (λ s. slice_packets pid (delta_at (ring_of start) ad.zero) s us) (step-one pid u steps))

  steps-are : (pid : ℕ) (steps : PidSteps) (us : List AdvertUnit) → counted_after packed_units steps (put_on pid (played us)) pid
      ≡ put_in (slice_packets pid (delta_at (ring_of start) ad.zero) (steps pid) us) (steps pid)
  steps-are pid steps [] = refl
  steps-are pid steps (u ∷ us) =
      let s = steps pid in
      let q = moved_packets pid (delta_at (ring_of start) ad.zero) s u in
      steps-are pid (counted_at packed_units (Put pid (slice_unit start ad u)) [] steps) us
      ∙ ap (λ s. put_in (slice_packets pid (delta_at (ring_of start) ad.zero) s us) s) (step-one pid u steps)
      ∙ sym (put_in-append q (slice_packets pid (delta_at (ring_of start) ad.zero) (put_in q s) us) s)

-- ---- of what is filed

module _ (start : ℤ) where
  abbrev pub as_played_units : Option Advertisement → List AdvertUnit → List SliceUnit
  as_played_units None us = []
  as_played_units (Some ad) us = map (slice_unit start ad) us

  module _ (kind k n : ℕ) where
    abbrev pub slice_filed : Option Advertisement → List AdvertUnit
    slice_filed o = units_or (slice_held o kind k n)

    by-stream : (ad : Advertisement) (s : Option AdvertStream) → up_to_end (start +ℤ pos n) (slice_units start ad s) ≡ map (slice_unit start ad) (units_or (option_map (λ (s : AdvertStream). slice_of n s.units) s))
    by-stream ad None = refl
    by-stream ad (Some s) = below-end start ad n s.units

    pub whole-slice : (o : Option Advertisement) → up_to_end (start +ℤ pos n) (units_at start o (Some (kind, k))) ≡ as_played_units o (slice_filed o)
    whole-slice None = refl
    whole-slice (Some ad) = by-stream ad (stream_at ad kind k)

    nothing : (m : ℕ) → drop m (slice_filed None) ≡ []
    nothing zero = refl
    nothing (suc m) = refl

    abbrev pub rest_filed : Option Advertisement → ℕ → Option ℕ → List AdvertUnit
    rest_filed o sent reached = due_units reached (drop sent (slice_filed o))

    rest-none : (sent : ℕ) (reached : Option ℕ) → rest_filed None sent reached ≡ []
    rest-none sent reached = ap (due_units reached) (nothing sent)

    all-due : (us : List AdvertUnit) → due_units None us ≡ us
    all-due [] = refl
    all-due (u ∷ us) = ap (λ l. u ∷ l) (all-due us)

    drop-none : (m : ℕ) (us : List SliceUnit) → us ≡ [] → drop m us ≡ []
    drop-none zero us h = h
    drop-none (suc m) us h = ap (drop (suc m)) h

    -- all that is left, and what is due of it
    pub rest-all : (o : Option Advertisement) (sent : ℕ) → drop sent (as_played_units o (slice_filed o)) ≡ as_played_units o (rest_filed o sent None)
    rest-all None sent = drop-none sent [] refl
    rest-all (Some ad) sent = drop-is start ad sent (slice_filed (Some ad)) ∙ ap (map (slice_unit start ad)) (sym (all-due (drop sent (slice_filed (Some ad)))))

    pub rest-due : (o : Option Advertisement) (sent : ℕ) (h : ℤ) (r : ℕ) → start +ℤ pos r ≡ h → run_of (drop sent (as_played_units o (slice_filed o))) (Some h) ≡ as_played_units o (rest_filed o sent (Some r))
    rest-due None sent h r e = ap (λ us. run_of us (Some h)) (drop-none sent [] refl)
    rest-due (Some ad) sent h r e = ap (λ us. run_of us (Some h)) (drop-is start ad sent (slice_filed (Some ad))) ∙ run-is start ad h r e (drop sent (slice_filed (Some ad)))

    pub rest-length : (o : Option Advertisement) (sent : ℕ) (reached : Option ℕ) → length (as_played_units o (rest_filed o sent reached)) ≡ length (rest_filed o sent reached)
    rest-length None sent reached = sym (ap length (rest-none sent reached))
    rest-length (Some ad) sent reached = length-map (rest_filed (Some ad) sent reached) (slice_unit start ad)

    pub rest-packets : (o : Option Advertisement) (sent : ℕ) (reached : Option ℕ) (pid : ℕ) (steps : PidSteps) →
        out_behind packed_units steps (put_on pid (as_played_units o (rest_filed o sent reached))) ≡ slice_packets pid (delta_in (ring_of start) o) (steps pid) (rest_filed o sent reached)
    rest-packets None sent reached pid steps = sym (ap (slice_packets pid 0 (steps pid)) (rest-none sent reached))
    rest-packets (Some ad) sent reached pid steps = packets-are start ad pid steps (rest_filed (Some ad) sent reached)

    pub rest-steps : (o : Option Advertisement) (sent : ℕ) (reached : Option ℕ) (pid : ℕ) (steps : PidSteps) →
        counted_after packed_units steps (put_on pid (as_played_units o (rest_filed o sent reached))) pid
        ≡ put_in (slice_packets pid (delta_in (ring_of start) o) (steps pid) (rest_filed o sent reached)) (steps pid)
    rest-steps None sent reached pid steps = sym (ap (λ us. put_in (slice_packets pid 0 (steps pid) us) (steps pid)) (rest-none sent reached))
    rest-steps (Some ad) sent reached pid steps = steps-are start ad pid steps (rest_filed (Some ad) sent reached)

-- ---- where a stream stands among those of its type

among-at : (ss : List Stream) (i : ℕ) (of : Stream) → i < length ss → of ≡ slice_index_or ss i of → is_among of.pid (map (λ (s : Stream). s.pid) ss) ≡ true
among-at [] i of l is = absurd (omega (arith, l))
among-at (s ∷ ss) zero of l is = let t = ap (λ (x : Stream). x.pid == of.pid) (sym is) ∙ test-same of.pid in simp t
among-at (s ∷ ss) (suc i) of l is = or-two (s.pid == of.pid) _ (among-at ss i of (omega (arith, l)) is)
  where
    or-two : (a b : Bool) → b ≡ true → (a || b) ≡ true
    or-two true b h = refl
    or-two false b h = h

pub placed-at : (ss : List Stream) (i : ℕ) (of : Stream) (before : List Stream) → i < length ss → of ≡ slice_index_or ss i of → IsOnce of.pid (map (λ (s : Stream). s.pid) ss)
    → kind_and_place of.pid before ss ≡ Some (of.kind, count_of_kind of.kind (before ++ take i ss))
placed-at [] i of before l is once = absurd (omega (arith, l))
placed-at (s ∷ ss) zero of before l is once =
    let t = ap (λ (x : Stream). x.pid == of.pid) (sym is) ∙ test-same of.pid in
    let found : kind_and_place of.pid before (s ∷ ss) ≡ Some (s.kind, count_of_kind s.kind before) = simp t refl in
    found ∙ ap (λ (x : Stream). let o : Option (ℕ × ℕ) = Some (x.kind, count_of_kind x.kind before) in o) (sym is)
    ∙ ap (λ l. let o : Option (ℕ × ℕ) = Some (of.kind, count_of_kind of.kind l) in o) (sym (append-nil before))
placed-at (s ∷ ss) (suc i) of before l is (inl here) = absurd (true≢false (sym (among-at ss i of (omega (arith, l)) is) ∙ here.1))
placed-at (s ∷ ss) (suc i) of before l is (inr later) =
    let n = later.0 in
    let skipped : kind_and_place of.pid before (s ∷ ss) ≡ kind_and_place of.pid (before ++ s ∷ []) ss = simp n refl in
    skipped ∙ placed-at ss i of (before ++ s ∷ []) (omega (arith, l)) is later.1
    ∙ ap (λ l. let o : Option (ℕ × ℕ) = Some (of.kind, count_of_kind of.kind l) in o) (append_assoc before (s ∷ []) (take i ss))
