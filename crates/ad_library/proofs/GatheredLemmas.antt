-- One packet more of a stream that is gathered.
use Rattle.std.specs.Option.{option_or}
use Rattle.std.specs.Prelude.{ℤ, map, option_map, is_some}
use Rattle.std.proofs.Common.{◌≡◌, ℕ, List, [], ◌∷◌, ◌++◌, Bool, true, false, not, ◌&&◌, ◌||◌, refl, sym, ap, ◌∙◌, subst, Option, Some, None}
use Rattle.ts_packet.proofs.Cases.{by_test}
use Rattle.ts_packet.specs.Fields.{number, on, payload, payload_on, unit_start, bytes, random_access}
use Rattle.ts_packet.specs.Duplicates.{original, repeats, last_of, follows_on, is_gap}
use Rattle.ts_packet.specs.declared.follower.Last.{Last}
use Rattle.pes_time.specs.Line.{place}
use Rattle.unit_stream.specs.Times.{begins, high, stamp, timed, unit_time}
use Rattle.unit_stream.specs.Units.{TimedUnit, units_back, longer}
use Rattle.unit_stream.proofs.UnitLemmas.{HeadTime, head_time}
use Rattle.program_follower.specs.declared.streams.StreamPacket.{StreamPacket}
use Rattle.program_follower.specs.declared.streams.StreamPacket.TheVariants.{Start, More, Repeat, Lead, NoPayload}
use Rattle.program_follower.proofs.StreamLemmas.{payload_of}
use Rattle.ad_library.specs.declared.gathered.Gathered.{Gathered}
use Rattle.ad_library.specs.Advertisements.{KeptUnit, with_unit, kept}
use Rattle.ad_library.specs.Storing.{StoredUnit, Stores, kept_unit, on_line, last_time, longer_stored}
use Rattle.ad_library.specs.Gathering.{begun_stored, added, is_next, is_repeat, IsGathered, KeepsUnits, last_counter, GathersStream, IsWholeStart}

-- ---- longer units

abbrev pub longer_kept : List KeptUnit → List ℕ → List KeptUnit
longer_kept [] bs = []
longer_kept (u ∷ us) bs = record { time = u.time; payload = u.payload ++ bs; random_access = u.random_access } ∷ us

kept_stored : (us : List StoredUnit) (bs : List ℕ) → map kept_unit (longer_stored us bs) ≡ longer_kept (map kept_unit us) bs
kept_stored [] bs = refl
kept_stored (u ∷ us) bs = refl

last_longer : (us : List StoredUnit) (bs : List ℕ) → last_time (longer_stored us bs) ≡ last_time us
last_longer [] bs = refl
last_longer (u ∷ us) bs = refl

-- a unit without a time is left out, and no unit before it is kept then
kept_longer : (us : List TimedUnit) (t : Option ℤ) (bs : List ℕ) → HeadTime us t → (t ≡ None → kept us ≡ []) → kept (longer us bs) ≡ longer_kept (kept us) bs
kept_longer [] t bs h n = refl
kept_longer (u ∷ us) t bs h n = by_time u.time refl where
  by_time : (o : Option ℤ) → u.time ≡ o → kept (longer (u ∷ us) bs) ≡ longer_kept (kept (u ∷ us)) bs
  by_time None e =
      let all : kept (u ∷ us) ≡ [] = n (sym h ∙ e) in
      let same : kept (longer (u ∷ us) bs) ≡ kept us = ap (λ o. with_unit o (record { time = u.time; payload = u.payload ++ bs; random_access = u.random_access }) (kept us)) e in
      let was : kept (u ∷ us) ≡ kept us = ap (λ o. with_unit o u (kept us)) e in
      same ∙ sym was ∙ all ∙ sym (ap (λ l. longer_kept l bs) all)
  by_time (Some s) e =
      let same : kept (longer (u ∷ us) bs) ≡ record { time = s; payload = u.payload ++ bs; random_access = u.random_access } ∷ kept us =
      ap (λ o. with_unit o (record { time = u.time; payload = u.payload ++ bs; random_access = u.random_access }) (kept us)) e in
      let was : kept (u ∷ us) ≡ record { time = s; payload = u.payload; random_access = u.random_access } ∷ kept us = ap (λ o. with_unit o u (kept us)) e in
      same ∙ sym (ap (λ l. longer_kept l bs) was)

none_kept : (us : List StoredUnit) → option_map on_line (last_time us) ≡ None → map kept_unit us ≡ []
none_kept [] h = refl
none_kept (u ∷ us) h = absurd (cc)

-- ---- one packet

module _ (pids : List ℕ) (pid : ℕ) (p : List ℕ) (past : List (List ℕ)) where
  begins_original : begins pid p past ≡ true → original pid p past ≡ true
  begins_original b = by_test (original pid p past) (λ o. o) (λ o. absurd (let e : begins pid p past ≡ false = ap (λ x. x && unit_start p) o in let f : true ≡ false = sym b ∙ e in cc))

  keeps_same : (us : List StoredUnit) → original pid p past ≡ false → KeepsUnits us pids pid past → KeepsUnits us pids pid (p ∷ past)
  keeps_same us o h =
      let grown : units_back pids pid (p ∷ past) ≡ units_back pids pid past = simp o refl in
      let time : unit_time pids pid (p ∷ past) ≡ unit_time pids pid past = simp o refl in
      record { kept_are = h.kept_are ∙ sym (ap kept grown); newest = h.newest ∙ sym time }

  keeps_longer : (us : List StoredUnit) → original pid p past ≡ true → unit_start p ≡ false → KeepsUnits us pids pid past → KeepsUnits (longer_stored us (bytes p)) pids pid (p ∷ past)
  keeps_longer us o s h =
      let grown : units_back pids pid (p ∷ past) ≡ longer (units_back pids pid past) (bytes p) = simp (o, s) refl in
      let time : unit_time pids pid (p ∷ past) ≡ unit_time pids pid past = simp (o, s) refl in
      let more = kept_longer (units_back pids pid past) (unit_time pids pid past) (bytes p) (head_time pids pid past) (λ n. sym h.kept_are ∙ none_kept us (h.newest ∙ n)) in
      record {
        kept_are = kept_stored us (bytes p) ∙ ap (λ l. longer_kept l (bytes p)) h.kept_are ∙ sym more ∙ ap kept (sym grown);
        newest = ap (option_map on_line) (last_longer us (bytes p)) ∙ h.newest ∙ sym time;
      }

  timed_is : (own before : Option ℕ) (latest : Option ℤ) (s : Option ℕ) → option_map on_line own ≡ option_map (place (high pids past)) s → option_map on_line before ≡ latest
      → option_map on_line (option_or own before) ≡ timed (high pids past) s latest
  timed_is None before latest None h k = k
  timed_is None before latest (Some s) h k = absurd (cc)
  timed_is (Some t) before latest None h k = absurd (cc)
  timed_is (Some t) before latest (Some s) h k = h

  begun_keeps : (us : List StoredUnit) (t : Option ℕ) → begins pid p past ≡ true → KeepsUnits us pids pid past → option_map on_line t ≡ unit_time pids pid (p ∷ past)
      → (t ≡ None → last_time us ≡ None) → KeepsUnits (begun_stored t (random_access p) (bytes p) us) pids pid (p ∷ past)
  begun_keeps us None b h e n =
      let grown : units_back pids pid (p ∷ past) ≡ record { time = unit_time pids pid (p ∷ past); payload = bytes p; random_access = random_access p } ∷ units_back pids pid past = simp b refl in
      record {
        kept_are = h.kept_are ∙ sym (ap kept grown ∙ ap (λ o. with_unit o (record { time = unit_time pids pid (p ∷ past); payload = bytes p; random_access = random_access p }) (kept (units_back pids pid past))) (sym e));
        newest = ap (option_map on_line) (n refl) ∙ e;
      }
  begun_keeps us (Some t) b h e n =
      let grown : units_back pids pid (p ∷ past) ≡ record { time = unit_time pids pid (p ∷ past); payload = bytes p; random_access = random_access p } ∷ units_back pids pid past = simp b refl in
      let u : KeptUnit = record { time = on_line t; payload = bytes p; random_access = random_access p } in
      record {
        kept_are = ap (λ l. u ∷ l) h.kept_are ∙ sym (ap kept grown ∙ ap (λ o. with_unit o (record { time = unit_time pids pid (p ∷ past); payload = bytes p; random_access = random_access p }) (kept (units_back pids pid past))) (sym e));
        newest = e;
      }

  or_neither : (own before : Option ℕ) → option_or own before ≡ None → before ≡ None
  or_neither None before h = h
  or_neither (Some t) before h = absurd (cc)

  keeps_begun : (us : List StoredUnit) (own : Option ℕ) → begins pid p past ≡ true → KeepsUnits us pids pid past → option_map on_line own ≡ option_map (place (high pids past)) (stamp p)
      → KeepsUnits (begun_stored (option_or own (last_time us)) (random_access p) (bytes p) us) pids pid (p ∷ past)
  keeps_begun us own b h e =
      let time : unit_time pids pid (p ∷ past) ≡ timed (high pids past) (stamp p) (unit_time pids pid past) = simp b refl in
      begun_keeps us (option_or own (last_time us)) b h (timed_is own (last_time us) (unit_time pids pid past) (stamp p) e h.newest ∙ sym time) (or_neither own (last_time us))

  is_original : payload_on pid p ≡ true → repeats pid p past ≡ true → original pid p past ≡ false
  is_original y r = ap (λ x. payload_on pid p && not x) r ∙ ap (λ x. x && false) y

  -- THE UNITS, one packet more
  pub keeps_more : (us : List StoredUnit) (part : StreamPacket) (time : Option ℕ) → IsGathered part time pids pid p past → payload_on pid p ≡ true → KeepsUnits us pids pid past
      → KeepsUnits (added part time (random_access p) (bytes p) us) pids pid (p ∷ past)
  keeps_more us (Start begun) time g y h = keeps_begun us time g.is.0 h (g.own g.is.0)
  keeps_more us More time g y h = keeps_longer us g.is.0 g.is.1 h
  keeps_more us Repeat time g y h = keeps_same us (is_original g.is.0 g.is.1) h
  keeps_more us Lead time g y h = keeps_longer us g.is.0 g.is.1 h
  keeps_more us NoPayload time g y h = absurd (let e = g.is in let f : true ≡ false = sym y ∙ e in cc)

  -- the counter
  pub counter_more : payload_on pid p ≡ true → Some (number p) ≡ last_counter pid (p ∷ past)
  counter_more y = simp y refl

  next_is : (l : Option Last) → is_next (option_map (λ (k : Last). number k.packet) l) (number p) ≡ follows_on p l
  next_is None = refl
  next_is (Some l) = refl

  gap_original : original pid p past ≡ true → is_gap pid p past ≡ not (is_next (last_counter pid past) (number p))
  gap_original o = ap (λ x. x && not (follows_on p (last_of pid past))) o ∙ ap not (sym (next_is (last_of pid past)))

  abbrev pub goes_on : StreamPacket → Bool
  goes_on part = is_repeat part || is_next (last_counter pid past) (number p)

  pub gap_is : (part : StreamPacket) (time : Option ℕ) → IsGathered part time pids pid p past → payload_on pid p ≡ true → is_gap pid p past ≡ not (goes_on part)
  gap_is (Start begun) time g y = gap_original (begins_original g.is.0)
  gap_is More time g y = gap_original g.is.0
  gap_is Repeat time g y = ap (λ x. x && not (follows_on p (last_of pid past))) (is_original g.is.0 g.is.1)
  gap_is Lead time g y = gap_original g.is.0
  gap_is NoPayload time g y = absurd (let e = g.is in let f : true ≡ false = sym y ∙ e in cc)

  -- a packet without payload, or of another PID
  no_original : payload_on pid p ≡ false → original pid p past ≡ false
  no_original y = ap (λ x. x && not (repeats pid p past)) y

  pub no_gap : payload_on pid p ≡ false → is_gap pid p past ≡ false
  no_gap y = ap (λ x. x && not (follows_on p (last_of pid past))) (no_original y)

  pub off : {A : Type 0} (g : Gathered A) → payload_on pid p ≡ false → GathersStream g pids pid past → GathersStream g pids pid (p ∷ past)
  off g y h = record { units = h.units; stored = h.stored; keeps = keeps_same h.units (no_original y) h.keeps; counter = h.counter ∙ sym (simp y refl) }

  pub no_payload : on pid p ≡ true → None ≡ payload p → payload_on pid p ≡ false
  no_payload o e = payload_of pid p o ∙ ap is_some (sym e)

  pub has_payload : (bs : List ℕ) → on pid p ≡ true → Some bs ≡ payload p → payload_on pid p ≡ true
  has_payload bs o e = payload_of pid p o ∙ ap is_some (sym e)

pub gathers_none : {A : Type 0} (g : Gathered A) (pids : List ℕ) (pid : ℕ) → Stores g.store [] → g.counter ≡ None → GathersStream g pids pid []
gathers_none g pids pid s n = record { units = []; stored = s; keeps = record { kept_are = refl; newest = refl }; counter = n }

-- the gap that is told
pub told : (pids : List ℕ) (pid : ℕ) (p : List ℕ) (past : List (List ℕ)) (part : StreamPacket) (time last : Option ℕ) (n : ℕ) (b v : Bool) → IsGathered part time pids pid p past → payload_on pid p ≡ true
    → last ≡ last_counter pid past → n ≡ number p → b ≡ (is_repeat part || is_next last n) → b ≡ v → is_gap pid p past ≡ not v
told pids pid p past part time last n b v g y l m e w =
    gap_is pids pid p past part time g y ∙ ap not (sym (e ∙ ap (λ x. is_repeat part || is_next x n) l ∙ ap (λ k. is_repeat part || is_next (last_counter pid past) k) m)) ∙ ap not w

pub gathers_more : {A : Type 0} (old new : Gathered A) (pids : List ℕ) (pid : ℕ) (p : List ℕ) (past : List (List ℕ)) (part : StreamPacket) (time : Option ℕ) (bs : List ℕ) (access : Bool) (n : ℕ)
    → IsGathered part time pids pid p past → Some bs ≡ payload p → bs ≡ bytes p → access ≡ random_access p → n ≡ number p → new.counter ≡ Some n
    → ((us : List StoredUnit) → Stores old.store us → Stores new.store (added part time access bs us))
    → GathersStream old pids pid past → GathersStream new pids pid (p ∷ past)
gathers_more old new pids pid p past part time bs access n g pay is acc num c s h =
    let y = has_payload pids pid p past bs g.is_on pay in
    let us = added part time (random_access p) (bytes p) h.units in
    record {
      units = us;
      stored = subst (Stores new.store) (ap (λ a. added part time a bs h.units) acc ∙ ap (λ q. added part time (random_access p) q h.units) is) (s h.units h.stored);
      keeps = keeps_more pids pid p past h.units part time g y h.keeps;
      counter = c ∙ ap Some num ∙ counter_more pids pid p past y;
    }

pub starts_whole : (part : StreamPacket) (bs cs : List ℕ) → bs ≡ cs → IsWholeStart part cs → IsWholeStart part bs
starts_whole part bs cs e h = subst (IsWholeStart part) (sym e) h
