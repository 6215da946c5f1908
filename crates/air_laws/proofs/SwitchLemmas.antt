-- What a switch puts behind any steps of its counters is, but for the counters of its streams, what it puts where all packets went through it.
use Rattle.std.proofs.Common.{◌≡◌, ℕ, ◌<◌, ◌==◌, List, [], ◌∷◌, ◌++◌, map, Bool, true, false, ◌||◌, if◌then◌else◌, refl, sym, ap, subst, ◌∙◌, arith, Option, None, Some}
use Rattle.std.specs.Prelude.{flat_map}
use Rattle.std.specs.List.{AllByRecursion}
use Rattle.std.proofs.lemmas.Bool.{true≢false}
use Rattle.ts_packet.specs.Fields.{in_error, pid_of, on, on_one, is_among, renumbered, pcr}
use Rattle.ts_packet.specs.Numbering.{moved, number_out, one_past, last_number}
use Rattle.ts_packet.proofs.Cases.{by_test}
use Rattle.ts_packet.proofs.FieldLemmas.{pid_is}
use Rattle.unit_stream.specs.Fates.{is_left_out, steps_after}
use Rattle.psi_tables.specs.Cue.{without_cue_entry}
use Rattle.psi_tables.specs.ProgramMap.{ProgramMap}
use Rattle.event_table.specs.Standing.{Standing}
use Rattle.program_follower.specs.declared.purpose.Listed.{Listed}
use Rattle.program_follower.specs.Program.{Table, listed, tables, known_map}
use Rattle.program_follower.specs.Faults.{network_fault, first_fault}
use Rattle.program_follower.specs.Purposes.{cues_read_on}
use Rattle.program_follower.proofs.StepLemmas.{listed_stays}
use Rattle.psi_tables.specs.declared.network.NetworkFault.{NetworkFault}
use Rattle.unit_stream.specs.UnitPackets.{put_in}
use Rattle.std.specs.Option.{option_or}
use Rattle.psi_section.specs.Packetising.{packets_in_turn}
use Rattle.program_laws.specs.Writing.{number_on, body, packets_out, section_out}
use Rattle.splice_laws.specs.Splicing.{SliceUnit}
use Rattle.output_laws.specs.Output.{Move, Keep, Leave, Put, Packing, clock_alone}
use Rattle.splice_plans.specs.Adverts.{packed_units}
use Rattle.splice_plans.specs.Counters.{PidSteps, counted_at, counted_after, out_by, out_behind}
use Rattle.splice_plans.specs.Playing.{played, is_inside}
use Rattle.splice_plans.specs.Switching.{Setting, puts_by, puts_at_end, switched_at, history_at, is_behind_head}
use Rattle.splice_plans.specs.Known.{adverts_at, behind_at, puts_at, fate_at}
use Rattle.splice_plans.specs.Stepping.{counted_before, front_by, place_by, rest_by, switching_by, block_by, counted_next}
use Rattle.switch_laws.proofs.OtherLemmas.{among-self}
use Rattle.known_laws.proofs.HeadLemmas.{none-switched, same-switched}
use Rattle.air_laws.specs.Counters.{uncounted, but_counters}
use Rattle.air_laws.proofs.CounterLemmas.{moved-counted, units-counted, clock-counted, both-counted}

-- ---- PIDs

pub one-among : (own : List ℕ) (p : List ℕ) → on_one own p ≡ true → is_among (pid_of p) own ≡ true
one-among [] p h = absurd (true≢false (sym h))
one-among (pid ∷ own) p h =
    by_test (on pid p)
    (λ y. let e : pid_of p ≡ pid = pid_is pid p y in subst (λ n. is_among n (pid ∷ own) ≡ true) (sym e) (among-self pid own))
    (λ n. later (pid == pid_of p) (is_among (pid_of p) own) (one-among own p (simp n at h)))
  where
    later : (a b : Bool) → b ≡ true → (a || b) ≡ true
    later true b h = refl
    later false b h = h

-- ---- moves

-- units that are put in
abbrev IsPut : Move → Type 0
IsPut (Keep p) = ⊥
IsPut (Leave p) = ⊥
IsPut (Put q u) = Unit {0}

put-append : (a b : List Move) → AllByRecursion IsPut a → AllByRecursion IsPut b → AllByRecursion IsPut (a ++ b)
put-append [] b h g = g
put-append (m ∷ a) b h g = (h.0, put-append a b h.1 g)

put-on : (pid : ℕ) (us : List SliceUnit) → AllByRecursion IsPut (map (λ (u : SliceUnit). Put pid u) us)
put-on pid [] = tt
put-on pid (u ∷ us) = (tt, put-on pid us)

put-by : (own : List ℕ) (es : List Standing) (rule : ℕ → Standing → List SliceUnit) → AllByRecursion IsPut (puts_by own es rule)
put-by [] es rule = tt
put-by (pid ∷ own) es rule = put-append (map (λ (u : SliceUnit). Put pid u) (flat_map (rule pid) es)) (puts_by own es rule) (put-on pid (flat_map (rule pid) es)) (put-by own es rule)

past-below : (o : Option ℕ) → one_past o < 16
past-below None = omega arith
past-below (Some n) = omega arith

-- the counters of all PIDs but these have counted the same
abbrev pub AgreeBut : List ℕ → PidSteps → PidSteps → Type 0
AgreeBut pids steps other = (pid : ℕ) → is_among pid pids ≡ false → steps pid ≡ other pid

agree-at : (pids : List ℕ) (packed : Packing) (m : Move) (read : List (List ℕ)) (steps other : PidSteps) → AgreeBut pids steps other → AgreeBut pids (counted_at packed m read steps) (counted_at packed m read other)
agree-at pids packed (Keep p) read steps other h pid off = ap (steps_after false pid p read) (h pid off)
agree-at pids packed (Leave p) read steps other h pid off = ap (steps_after true pid p read) (h pid off)
agree-at pids packed (Put q u) read steps other h pid off = ap (λ s. if q == pid then put_in (packed q u (one_past (last_number s))) s else s) (h pid off)

agree-after : (pids : List ℕ) (packed : Packing) (ms : List Move) (steps other : PidSteps) → AgreeBut pids steps other → AgreeBut pids (counted_after packed steps ms) (counted_after packed other ms)
agree-after pids packed [] steps other h = h
agree-after pids packed (m ∷ ms) steps other h = agree-after pids packed ms (counted_at packed m [] steps) (counted_at packed m [] other) (agree-at pids packed m [] steps other h)

module _ (pids : List ℕ) (small : (pid : ℕ) → is_among pid pids ≡ true → pid < 8192) where
  unit-counted : (q : ℕ) (u : SliceUnit) (steps other : PidSteps) → AgreeBut pids steps other
      → but_counters pids (packed_units q u (one_past (last_number (steps q)))) ≡ but_counters pids (packed_units q u (one_past (last_number (other q))))
  unit-counted q u steps other h = by_test (is_among q pids)
      (λ y. units-counted pids q y (small q y) u (one_past (last_number (steps q))) (one_past (last_number (other q))) (past-below (last_number (steps q))) (past-below (last_number (other q))))
      (λ n. ap (λ s. but_counters pids (packed_units q u (one_past (last_number s)))) (h q n))

  behind-counted : (ms : List Move) (steps other : PidSteps) → AllByRecursion IsPut ms → AgreeBut pids steps other
      → but_counters pids (out_behind packed_units steps ms) ≡ but_counters pids (out_behind packed_units other ms)
  behind-counted [] steps other w h = refl
  behind-counted (Keep p ∷ ms) steps other w h = absurd w.0
  behind-counted (Leave p ∷ ms) steps other w h = absurd w.0
  behind-counted (Put q u ∷ ms) steps other w h =
      both-counted pids (packed_units q u (one_past (last_number (steps q)))) (packed_units q u (one_past (last_number (other q))))
      (out_behind packed_units (counted_at packed_units (Put q u) [] steps) ms) (out_behind packed_units (counted_at packed_units (Put q u) [] other) ms)
      (unit-counted q u steps other h)
      (behind-counted ms (counted_at packed_units (Put q u) [] steps) (counted_at packed_units (Put q u) [] other) w.1 (agree-at pids packed_units (Put q u) [] steps other h))

  kept-counted : (p : List ℕ) (steps other : PidSteps) → AgreeBut pids steps other
      → uncounted pids (if in_error p then p else renumbered (moved (steps (pid_of p))) p) ≡ uncounted pids (if in_error p then p else renumbered (moved (other (pid_of p))) p)
  kept-counted p steps other h = by_test (in_error p) (λ y. simp y)
      (λ o. by_test (is_among (pid_of p) pids)
      (λ y. let i = moved-counted pids (moved (steps (pid_of p))) p y in let j = moved-counted pids (moved (other (pid_of p))) p y in simp (o, i, j))
      (λ n. ap (λ s. uncounted pids (if in_error p then p else renumbered (moved s) p)) (h (pid_of p) n)))

  move-counted : (d : Bool) (p : List ℕ) (read : List (List ℕ)) (steps other : PidSteps) → AgreeBut pids steps other
      → but_counters pids (out_by packed_units (if d then Leave p else Keep p) read steps) ≡ but_counters pids (out_by packed_units (if d then Leave p else Keep p) read other)
  move-counted true p read steps other h = by_test (is_among (pid_of p) pids)
      (λ y. clock-counted pids (pid_of p) y (small (pid_of p) y) (number_out p (steps_after true (pid_of p) p read (steps (pid_of p)))) (number_out p (steps_after true (pid_of p) p read (other (pid_of p)))) (pcr p) (omega arith) (omega arith))
      (λ n. ap (λ s. but_counters pids (clock_alone (pid_of p) (number_out p (steps_after true (pid_of p) p read s)) (pcr p))) (h (pid_of p) n))
  move-counted false p read steps other h = ap (λ q. q ∷ []) (kept-counted p steps other h)

-- ---- a packet

-- The network that a switch has read goes with these PIDs: its streams are among them, and the PID of its map is not.
pub record Goes (k : Setting) (pids : List ℕ) (past : List (List ℕ)) : Type 0 where
  pub within : (pid : ℕ) → is_among pid (switched_at k past) ≡ true → is_among pid pids ≡ true
  pub apart : (l : Listed) → listed (Some k.program) past ≡ Some l → is_among l.pid pids ≡ false
  pub sound : first_fault (cues_read_on (Some k.program) k.cue_pid) past ≡ None

none-before : (o p : Option NetworkFault) → option_or o p ≡ None → o ≡ None
none-before None p h = refl
none-before (Some f) p h = cc

-- and so does each front of it
pub goes-before : (k : Setting) (pids : List ℕ) (p : List ℕ) (past : List (List ℕ)) → Goes k pids (p ∷ past) → Goes k pids past
goes-before k pids p past g = record {
  within = λ pid a. by (known_map (Some k.program) past) refl pid a;
  apart = λ l is. g.apart l (listed_stays (Some k.program) p past l is);
  sound = none-before (first_fault (cues_read_on (Some k.program) k.cue_pid) past) (network_fault (cues_read_on (Some k.program) k.cue_pid) p past) g.sound;
}
  where
    by : (o : Option ProgramMap) → known_map (Some k.program) past ≡ o → (pid : ℕ) → is_among pid (switched_at k past) ≡ true → is_among pid pids ≡ true
    by None none pid a = absurd (true≢false (sym a ∙ ap (is_among pid) (none-switched k past none)))
    by (Some m) is pid a = g.within pid (ap (is_among pid) (same-switched k p past m is) ∙ a)

module _ (k : Setting) (packed : k.packed ≡ packed_units) (pids : List ℕ) (small : (pid : ℕ) → is_among pid pids ≡ true → pid < 8192) where
  module _ (past : List (List ℕ)) (steps other : PidSteps) (h : AgreeBut pids steps other) where
    -- the same units go out
    units-so : (ms : List Move) → AllByRecursion IsPut ms
        → but_counters pids (if is_behind_head k past then out_behind k.packed steps ms else []) ≡ but_counters pids (if is_behind_head k past then out_behind k.packed other ms else [])
    units-so ms w = by_test (is_behind_head k past)
        (λ y. ap (λ b. but_counters pids (if b then out_behind k.packed steps ms else [])) y
        ∙ ap (λ f. but_counters pids (out_behind f steps ms)) packed
        ∙ behind-counted pids small ms steps other w h
        ∙ sym (ap (λ f. but_counters pids (out_behind f other ms)) packed)
        ∙ sym (ap (λ b. but_counters pids (if b then out_behind k.packed other ms else [])) y))
        (λ n. simp n)

    puts-so : (p : List ℕ) → AllByRecursion IsPut (puts_at k p past)
    puts-so p =
        let es = played (adverts_at k past) (history_at k past (p ∷ behind_at k past)) in
        put-append _ _ (put-by (switched_at k past) es _) (put-by (switched_at k past) es _)

    front-counted : (p : List ℕ) → but_counters pids (front_by k steps p past) ≡ but_counters pids (front_by k other p past)
    front-counted p = units-so (puts_at k p past) (puts-so p)

    before-agree : (p : List ℕ) → AgreeBut pids (counted_before k steps p past) (counted_before k other p past)
    before-agree p = agree-after pids k.packed (puts_at k p past) steps other h

    abbrev gone : List ℕ → Bool
    gone p = is_left_out (λ pid time. is_inside (adverts_at k past) (history_at k past (p ∷ behind_at k past)) time) (switched_at k past) p (behind_at k past) (switched_at k past)

    place-counted : (p : List ℕ) → but_counters pids (place_by k steps p past) ≡ but_counters pids (place_by k other p past)
    place-counted p =
        by_test (on k.cue_pid p) (λ y. simp y)
        (λ n. by_test (on_one (switched_at k past) p)
        (λ y. ap (λ b. but_counters pids (if b then [] else (if on_one (switched_at k past) p then out_by k.packed (fate_at k p past) (behind_at k past) (counted_before k steps p past) else p ∷ []))) n
        ∙ ap (λ b. but_counters pids (if b then out_by k.packed (fate_at k p past) (behind_at k past) (counted_before k steps p past) else p ∷ [])) y
        ∙ ap (λ f. but_counters pids (out_by f (fate_at k p past) (behind_at k past) (counted_before k steps p past))) packed
        ∙ move-counted pids small (gone p) p (behind_at k past) (counted_before k steps p past) (counted_before k other p past) (before-agree p)
        ∙ sym (ap (λ f. but_counters pids (out_by f (fate_at k p past) (behind_at k past) (counted_before k other p past))) packed)
        ∙ sym (ap (λ b. but_counters pids (if b then out_by k.packed (fate_at k p past) (behind_at k past) (counted_before k other p past) else p ∷ [])) y)
        ∙ sym (ap (λ b. but_counters pids (if b then [] else (if on_one (switched_at k past) p then out_by k.packed (fate_at k p past) (behind_at k past) (counted_before k other p past) else p ∷ []))) n))
        (λ o. simp (n, o)))

    body-counted : (o : Option Listed) (p : List ℕ) (ts : List Table) (put put' : List (List ℕ))
        → ((l : Listed) → o ≡ Some l → number_on l.pid put ≡ number_on l.pid put')
        → but_counters pids (body (switching_by k steps) o p past ts put) ≡ but_counters pids (body (switching_by k other) o p past ts put')
    body-counted None p ts put put' n = place-counted p
    body-counted (Some l) p ts put put' n =
        let ss = map (section_out (without_cue_entry k.cue_pid)) ts in
        by_test (on l.pid p)
        (λ y. ap (λ b. but_counters pids (if b then packets_out l.pid put ss else place_by k steps p past)) y
        ∙ ap (λ n. but_counters pids (packets_in_turn l.pid (one_past n) ss)) (n l refl)
        ∙ sym (ap (λ b. but_counters pids (if b then packets_out l.pid put' ss else place_by k other p past)) y))
        (λ o. ap (λ b. but_counters pids (if b then packets_out l.pid put ss else place_by k steps p past)) o
        ∙ place-counted p
        ∙ sym (ap (λ b. but_counters pids (if b then packets_out l.pid put' ss else place_by k other p past)) o))

    -- WHAT GOES OUT FOR A PACKET, behind any steps and whatever is out
    pub block-counted : (p : List ℕ) (put put' : List (List ℕ)) → ((l : Listed) → listed (Some k.program) past ≡ Some l → number_on l.pid put ≡ number_on l.pid put')
        → but_counters pids (block_by k steps p past put) ≡ but_counters pids (block_by k other p past put')
    block-counted p put put' n =
        let o = listed (Some k.program) past in
        let ts = tables (Some k.program) p past in
        both-counted pids (front_by k steps p past) (front_by k other p past) (body (switching_by k steps) o p past ts put) (body (switching_by k other) o p past ts put')
        (front-counted p) (body-counted o p ts put put' n)

    -- what the counters have counted then
    pub next-agree : (p : List ℕ) → AgreeBut pids (counted_next k steps p past) (counted_next k other p past)
    next-agree p = by (is_behind_head k past)
      where
        by : (b : Bool) → AgreeBut pids (if b then counted_at k.packed (fate_at k p past) (behind_at k past) (counted_before k steps p past) else (λ pid. []))
            (if b then counted_at k.packed (fate_at k p past) (behind_at k past) (counted_before k other p past) else (λ pid. []))
        by true = agree-at pids k.packed (fate_at k p past) (behind_at k past) (counted_before k steps p past) (counted_before k other p past) (before-agree p)
        by false = λ pid off. refl

    -- and what goes out at the end
    pub rest-counted : but_counters pids (rest_by k steps past) ≡ but_counters pids (rest_by k other past)
    rest-counted =
        let es = played (adverts_at k past) (history_at k past (behind_at k past)) in
        units-so (puts_at_end (switched_at k past) (adverts_at k past) (history_at k past) (behind_at k past)) (put-by (switched_at k past) es _)
