-- What goes out for a packet.
use Rattle.std.proofs.Common.{◌≡◌, ℕ, ◌+◌, ◌%◌, ◌<◌, ◌==◌, zero, suc, List, [], ◌∷◌, ◌++◌, length, map, take, drop, Bool, true, false, not, if◌then◌else◌, refl, sym, ap, subst, ◌∙◌, arith}
use Rattle.std.specs.Prelude.{Option, None, Some, option_map, flat_map}
use Rattle.std.specs.List.{AllByRecursion}
use Rattle.std.specs.Prelude.{All}
use Rattle.std.proofs.lemmas.List.Elements.{All-nil, All-cons, All-head, All-tail}
use Rattle.std.proofs.lemmas.Bool.{true≢false, and_right, or_parts}
use Rattle.ts_packet.specs.Fields.{on, in_error, pid_of, pcr, on_one, is_among, renumbered}
use Rattle.ts_packet.specs.Numbering.{moved, number_out, one_past, last_number}
use Rattle.ts_packet.specs.Runs.{onto}
use Rattle.ts_packet.proofs.Cases.{by_test}
use Rattle.unit_stream.specs.Times.{begins_one}
use Rattle.unit_stream.specs.Fates.{is_left_out, steps_after}
use Rattle.ts_packet.specs.Filling.{packets_for}
use Rattle.unit_packing.specs.Packing.{unit_packet, later_unit_packets, room}
use Rattle.psi_tables.specs.declared.config.Config.{Config}
use Rattle.psi_tables.specs.Streams.{Entry, stream_of, pid_in, switched_of, is_switched as is_switched_kind}
use Rattle.psi_tables.specs.ProgramMap.{ProgramMap}
use Rattle.psi_tables.specs.Cue.{without_cue_entry}
use Rattle.event_table.specs.Standing.{Standing}
use Rattle.program_follower.specs.declared.purpose.Listed.{Listed}
use Rattle.program_follower.specs.Purposes.{reading_cues}
use Rattle.program_follower.specs.Program.{listed, since_pat, tables, tables_on, Table, table_of, known_map, program_in, pids_of}
use Rattle.program_follower.specs.Faults.{first_fault, pids_in}
use Rattle.program_follower.specs.Following.{on_map}
use Rattle.program_laws.specs.Writing.{Off, body, packets_out, section_out, number_on}
use Rattle.psi_section.specs.Packetising.{packets_in_turn}
use Rattle.psi_section.specs.Sections.{given}
use Rattle.psi_section.specs.Laws.{CanBeGiven}
use Rattle.psi_section.proofs.GivenLemmas.{given_can, sound}
use Rattle.outgoing_packets.specs.declared.entry.CueEntry.TheVariants.{Stripped}
use Rattle.outgoing_packets.specs.Entries.{tables_out, HasRoom, GoesOut, AllGoOut}
use Rattle.splice_laws.specs.Splicing.{SliceUnit}
use Rattle.output_laws.specs.Output.{Move, Keep, Leave, Put, clock_alone, out_after}
use Rattle.output_laws.proofs.StepLemmas.{on-clock}
use Rattle.ad_library.specs.Advertisements.{Advertisement}
use Rattle.splice_plans.specs.Playing.{Adverts, History, played, is_inside}
use Rattle.splice_plans.specs.Counters.{PidSteps, counted_at, out_by, out_behind}
use Rattle.splice_plans.specs.Switching.{Setting, puts_by, puts_before, front_of, is_behind_head, front_at, place_at, switched_at, history_at, switched_past, switched_at_packet}
use Rattle.splice_plans.specs.Adverts.{setting_of, packed_units}
use Rattle.splice_plans.specs.Known.{adverts_at, behind_at, moves_at, puts_at}
use Rattle.splice_plans.specs.Stepping.{Journey, counted_before, front_by, place_by, switching_by, puts_next}
use Rattle.splice_plans.proofs.PutLemmas.{puts_at_unit_starts}
use Rattle.switch_laws.proofs.BringLemmas.{closing_rule, running_rule}
use Rattle.switch_laws.proofs.FaultlessLemmas.{faultless_is_sound, unlisted}
use Rattle.switch_laws.proofs.StandingLemmas.{is-place, packets_stand_as}
use Rattle.ts_packet.proofs.FieldLemmas.{pid_is, on-renumbered}
use Rattle.unit_stream.proofs.ClockLemmas.{begins_off_all}
use Rattle.splice_switch.proofs.PremiseLemmas.{no-table, map-switched, OnMap}
use Rattle.outgoing_packets.specs.Numbers.{GoOnAs}
use Rattle.outgoing_packets.proofs.GoOnLemmas.{go-on-later, go-on-others, go-on-same}

-- ---- before the packet

none-either : (b : Bool) (xs : List (List ℕ)) → xs ≡ [] → (if b then xs else []) ≡ []
none-either true xs h = h
none-either false xs h = refl

pub front-none-by : (k : Setting) (steps : PidSteps) (p : List ℕ) (past : List (List ℕ)) → begins_one (switched_at k past) p (behind_at k past) ≡ false → front_by k steps p past ≡ []
front-none-by k steps p past none =
    none-either (is_behind_head k past) (out_behind k.packed steps (puts_at k p past))
    (ap (out_behind k.packed steps) (puts_at_unit_starts (switched_at k past) (adverts_at k past) (history_at k past) p (behind_at k past) none))

module _ (k : Setting) (x : Journey) (p : List ℕ) where
  abbrev past : List (List ℕ)
  past = x.read

  -- what stands in its place
  abbrev stands_for : Option Listed → List (List ℕ)
  stands_for o = body (switching_by k x.counted) o p past (tables (Some k.program) p past) x.put

  in-place : (o : Option Listed) → on_map o p ≡ false → stands_for o ≡ place_by k x.counted p past
  in-place None h = refl
  in-place (Some l) h = simp h refl

  alone-next : (qs : List (List ℕ)) → begins_one (switched_at k past) p (behind_at k past) ≡ false → stands_for (listed (Some k.program) past) ≡ qs → puts_next k x p ≡ qs
  alone-next qs none h = ap (λ l. l ++ stands_for (listed (Some k.program) past)) (front-none-by k x.counted p past none) ∙ h

  pub other-next : on_map (listed (Some k.program) past) p ≡ false → on k.cue_pid p ≡ false → on_one (switched_at k past) p ≡ false → puts_next k x p ≡ p ∷ []
  other-next map cue other =
      alone-next (p ∷ []) (begins_off_all (switched_at k past) p (behind_at k past) other) (in-place (listed (Some k.program) past) map ∙ simp (cue, other) refl)

  pub cue-next : on_map (listed (Some k.program) past) p ≡ false → on k.cue_pid p ≡ true → on_one (switched_at k past) p ≡ false → puts_next k x p ≡ []
  cue-next map cue other =
      alone-next [] (begins_off_all (switched_at k past) p (behind_at k past) other) (in-place (listed (Some k.program) past) map ∙ simp cue refl)

  pub map-next : (l : Listed) → listed (Some k.program) past ≡ Some l → on l.pid p ≡ true → on_one (switched_at k past) p ≡ false
      → puts_next k x p ≡ packets_out l.pid x.put (map (section_out (without_cue_entry k.cue_pid)) (tables (Some k.program) p past))
  map-next l e here other =
      alone-next (packets_out l.pid x.put (map (section_out (without_cue_entry k.cue_pid)) (tables (Some k.program) p past)))
      (begins_off_all (switched_at k past) p (behind_at k past) other) (ap stands_for e ∙ simp here refl)

  pub stream-next : on_map (listed (Some k.program) past) p ≡ false → puts_next k x p ≡ front_by k x.counted p past ++ place_by k x.counted p past
  stream-next map = ap (λ l. front_by k x.counted p past ++ l) (in-place (listed (Some k.program) past) map)

  pub quiet-next : on_map (listed (Some k.program) past) p ≡ false → begins_one (switched_at k past) p (behind_at k past) ≡ false → puts_next k x p ≡ place_by k x.counted p past
  quiet-next map none = stream-next map ∙ ap (λ l. l ++ place_by k x.counted p past) (front-none-by k x.counted p past none)

-- ---- where all packets went through the switch

front-none : (k : Setting) (p : List ℕ) (past : List (List ℕ)) → begins_one (switched_at k past) p (behind_at k past) ≡ false → front_at k p past ≡ []
front-none k p past none =
    none-either (is_behind_head k past) (front_of (switched_at k past) (adverts_at k past) (history_at k past) k.packed p (behind_at k past))
    (ap (out_after k.packed (moves_at k past)) (puts_at_unit_starts (switched_at k past) (adverts_at k past) (history_at k past) p (behind_at k past) none))

module _ (k : Setting) (p : List ℕ) (past : List (List ℕ)) where
  alone : (qs : List (List ℕ)) → begins_one (switched_at k past) p (behind_at k past) ≡ false
      → Rattle.switch_laws.specs.Whole.stands_for k p past ≡ qs → switched_at_packet k p past ≡ qs
  alone qs none h = ap (λ l. l ++ Rattle.switch_laws.specs.Whole.stands_for k p past) (front-none k p past none) ∙ h

  pub other-out : on_map (listed (Some k.program) past) p ≡ false → on k.cue_pid p ≡ false → on_one (switched_at k past) p ≡ false → switched_at_packet k p past ≡ p ∷ []
  other-out map cue other =
      alone (p ∷ []) (begins_off_all (switched_at k past) p (behind_at k past) other) ((packets_stand_as k p past).other (no-table (listed (Some k.program) past) p map) cue other)

  pub cue-out : on_map (listed (Some k.program) past) p ≡ false → on k.cue_pid p ≡ true → on_one (switched_at k past) p ≡ false → switched_at_packet k p past ≡ []
  cue-out map cue other =
      alone [] (begins_off_all (switched_at k past) p (behind_at k past) other) ((packets_stand_as k p past).cue (no-table (listed (Some k.program) past) p map) cue)

  pub map-out : (l : Listed) → listed (Some k.program) past ≡ Some l → on l.pid p ≡ true → on_one (switched_at k past) p ≡ false
      → switched_at_packet k p past ≡ packets_out l.pid (switched_past k past) (map (section_out (without_cue_entry k.cue_pid)) (tables (Some k.program) p past))
  map-out l e here other =
      alone (packets_out l.pid (switched_past k past) (map (section_out (without_cue_entry k.cue_pid)) (tables (Some k.program) p past)))
      (begins_off_all (switched_at k past) p (behind_at k past) other) ((packets_stand_as k p past).sections l e here)

  pub stream-out : on_map (listed (Some k.program) past) p ≡ false → switched_at_packet k p past ≡ front_at k p past ++ place_at k p past
  stream-out map = ap (λ l. front_at k p past ++ l) (is-place k p past (no-table (listed (Some k.program) past) p map))

-- ---- packets of the streams are of no other PID

off-of : (other : ℕ) (q : List ℕ) → (pid_of q == other) ≡ false → on other q ≡ false
unfolding on
off-of other q h = and_right (not (in_error q)) (pid_of q == other) h

pid-unit : (pid n : ℕ) (start access : Bool) (part : List ℕ) → pid < 8192 → pid_of (unit_packet pid n start access part) ≡ pid
unfolding pid_of unit_packet
pid-unit pid n true access part h = omega (arith, h)
pid-unit pid n false access part h = omega (arith, h)

-- the PID is of 13 bits, and not that one
abbrev pub IsApart : ℕ → ℕ → Type 0
IsApart other pid = (pid < 8192) × ((pid == other) ≡ false)

off-unit : (other pid n : ℕ) (start access : Bool) (part : List ℕ) → IsApart other pid → on other (unit_packet pid n start access part) ≡ false
off-unit other pid n start access part a = off-of other (unit_packet pid n start access part) (ap (λ x. x == other) (pid-unit pid n start access part a.0) ∙ a.1)

off-later : (other pid : ℕ) (count n : ℕ) (bs : List ℕ) → IsApart other pid → AllByRecursion (Off other) (later_unit_packets count pid n bs)
off-later other pid zero n bs a = tt
off-later other pid (suc count) n bs a = (off-unit other pid n false false (take 184 bs) a, off-later other pid count ((n + 1) % 16) (drop 184 bs) a)

off-units : (other pid n : ℕ) (u : SliceUnit) → IsApart other pid → AllByRecursion (Off other) (packed_units pid u n)
off-units other pid n u a = (
  off-unit other pid n true u.random_access (take (room u.random_access) u.payload) a,
  off-later other pid (packets_for (length (drop (room u.random_access) u.payload))) ((n + 1) % 16) (drop (room u.random_access) u.payload) a,
)

off-append : (other : ℕ) (a b : List (List ℕ)) → AllByRecursion (Off other) a → AllByRecursion (Off other) b → AllByRecursion (Off other) (a ++ b)
off-append other [] b h k = k
off-append other (q ∷ a) b h k = (h.0, off-append other a b h.1 k)

module _ (other : ℕ) where
  abbrev IsPutApart : Move → Type 0
  IsPutApart (Keep p) = ⊥
  IsPutApart (Leave p) = ⊥
  IsPutApart (Put q u) = IsApart other q

  put-append : (a b : List Move) → AllByRecursion IsPutApart a → AllByRecursion IsPutApart b → AllByRecursion IsPutApart (a ++ b)
  put-append [] b h g = g
  put-append (m ∷ a) b h g = (h.0, put-append a b h.1 g)

  put-on : (pid : ℕ) (us : List SliceUnit) → IsApart other pid → AllByRecursion IsPutApart (map (λ (u : SliceUnit). Put pid u) us)
  put-on pid [] w = tt
  put-on pid (u ∷ us) w = (w, put-on pid us w)

  put-by : (pids : List ℕ) (es : List Standing) (rule : ℕ → Standing → List SliceUnit) → AllByRecursion (IsApart other) pids → AllByRecursion IsPutApart (puts_by pids es rule)
  put-by [] es rule w = tt
  put-by (pid ∷ pids) es rule w = put-append (map (λ (u : SliceUnit). Put pid u) (flat_map (rule pid) es)) (puts_by pids es rule) (put-on pid (flat_map (rule pid) es) w.0) (put-by pids es rule w.1)

  off-behind : (steps : PidSteps) (ms : List Move) → AllByRecursion IsPutApart ms → AllByRecursion (Off other) (out_behind packed_units steps ms)
  off-behind steps [] w = tt
  off-behind steps (Keep p ∷ ms) w = absurd w.0
  off-behind steps (Leave p ∷ ms) w = absurd w.0
  off-behind steps (Put q u ∷ ms) w =
      let n = one_past (last_number (steps q)) in
      let next = counted_at packed_units (Put q u) [] steps in
      off-append other (packed_units q u n) (out_behind packed_units next ms) (off-units other q n u w.0) (off-behind next ms w.1)

  on-kept : (n : ℕ) (p : List ℕ) → on other (if in_error p then p else renumbered n p) ≡ on other p
  on-kept n p = by_test (in_error p) (λ e. simp e) (λ e. simp (e, on-renumbered))

  module _ (switched : List ℕ) (ads : Adverts) (events : History) (apart : AllByRecursion (IsApart other) switched) (steps : PidSteps) where
    off-front : (p : List ℕ) (past : List (List ℕ)) → AllByRecursion (Off other) (out_behind packed_units steps (puts_before switched ads events p past))
    off-front p past =
        let es = played ads (events (p ∷ past)) in
        off-behind steps (puts_before switched ads events p past)
        (put-append (puts_by switched es (closing_rule switched ads events p past)) (puts_by switched es (running_rule switched ads events p past))
        (put-by switched es (closing_rule switched ads events p past) apart) (put-by switched es (running_rule switched ads events p past) apart))

    off-clock : (pid n : ℕ) (o : Option (List ℕ)) → IsApart other pid → AllByRecursion (Off other) (clock_alone pid n o)
    off-clock pid n None a = tt
    off-clock pid n (Some clock) a = (on-clock other pid n clock a.0 ∙ a.1, tt)

    off-place : (d : Bool) (p : List ℕ) (read : List (List ℕ)) → on other p ≡ false → IsApart other (pid_of p) → AllByRecursion (Off other) (out_by packed_units (if d then Leave p else Keep p) read steps)
    off-place true p read o a = off-clock (pid_of p) (number_out p (steps_after true (pid_of p) p read (steps (pid_of p)))) (pcr p) a
    off-place false p read o a = (on-kept (moved (steps (pid_of p))) p ∙ o, tt)

-- ---- the streams' PIDs

below-pid : (f : ℕ) → pid_in f < 8192
below-pid f = omega arith

all-below : (es : List Entry) → AllByRecursion (λ pid. pid < 8192) (pids_in (switched_of (map stream_of es)))
all-below [] = tt
all-below (e ∷ es) = by_test (is_switched_kind e.kind) (λ y. simp y (below-pid e.pid_field, all-below es)) (λ n. simp n (all-below es))

join-apart : (other : ℕ) (pids : List ℕ) → AllByRecursion (λ pid. pid < 8192) pids → is_among other pids ≡ false → AllByRecursion (IsApart other) pids
join-apart other [] h a = tt
join-apart other (pid ∷ pids) h a = let r = or_parts (pid == other) (is_among other pids) a in ((h.0, r.0), join-apart other pids h.1 r.1)

-- a packet of one of them
apart-on : (other : ℕ) (pids : List ℕ) (p : List ℕ) → AllByRecursion (IsApart other) pids → on_one pids p ≡ true → IsApart other (pid_of p)
apart-on other [] p all h = absurd (true≢false (sym h))
apart-on other (pid ∷ pids) p all h = by_test (on pid p) (λ y. subst (IsApart other) (sym (pid_is pid p y)) all.0) (λ n. apart-on other pids p all.1 (simp n at h))

pub record MapApart (c : Config) (filed : ℕ → Option Advertisement) (p : List ℕ) (x : Journey) : Type 0 where
  pub listed_as : Listed
  pub is : listed (Some c.program) x.read ≡ Some listed_as
  pub off : AllByRecursion (Off listed_as.pid) (puts_next (setting_of c filed) x p)

-- what goes out for a packet of a stream is of no packet of the map's PID
pub stream-apart : (c : Config) (filed : ℕ → Option Advertisement) (p : List ℕ) (x : Journey) → first_fault (reading_cues c) x.read ≡ None → on c.cue_pid p ≡ false
    → on_map (listed (Some c.program) x.read) p ≡ false → on_one (switched_at (setting_of c filed) x.read) p ≡ true → MapApart c filed p x
stream-apart c filed p x good cue map own = by (known_map (Some c.program) x.read) refl
  where
    k : Setting
    k = setting_of c filed

    by : (o : Option ProgramMap) → known_map (Some c.program) x.read ≡ o → MapApart c filed p x
    by None known = absurd (true≢false (sym own ∙ ap (λ o. on_one (pids_of (option_map program_in o)) p) known))
    by (Some m) known =
        let past = x.read in
        let l = unlisted k past good (listed (Some c.program) past) refl m known in
        let sw = switched_at k past in
        let below : AllByRecursion (λ pid. pid < 8192) sw = subst (AllByRecursion (λ pid. pid < 8192)) (sym (ap (λ o. pids_of (option_map program_in o)) known)) (all-below m.entries) in
        let apart : AllByRecursion (IsApart l.0.pid) sw = join-apart l.0.pid sw below ((faultless_is_sound k past good).apart.pmt l.0 l.1) in
        let mine : IsApart l.0.pid (pid_of p) = apart-on l.0.pid sw p apart own in
        let gone = is_left_out (λ pid time. is_inside (adverts_at k past) (history_at k past (p ∷ behind_at k past)) time) sw p (behind_at k past) sw in
        let place : AllByRecursion (Off l.0.pid) (place_by k x.counted p past)
        = rw (cue, own) (off-place l.0.pid sw (adverts_at k past) (history_at k past) apart (counted_before k x.counted p past) gone p (behind_at k past) (off-of l.0.pid p mine.1) mine) in
        let front : AllByRecursion (Off l.0.pid) (front_by k x.counted p past)
        = front-by l.0.pid (is_behind_head k past) (out_behind packed_units x.counted (puts_at k p past)) (off-front l.0.pid sw (adverts_at k past) (history_at k past) apart x.counted p (behind_at k past)) in
        record {
          listed_as = l.0;
          is = l.1;
          off = subst (AllByRecursion (Off l.0.pid)) (sym (stream-next k x p map)) (off-append l.0.pid (front_by k x.counted p past) (place_by k x.counted p past) front place);
        }
      where
        front-by : (other : ℕ) (b : Bool) (xs : List (List ℕ)) → AllByRecursion (Off other) xs → AllByRecursion (Off other) (if b then xs else [])
        front-by other true xs h = h
        front-by other false xs h = tt

-- and the counters go on
pub stream-goes-on : (c : Config) (filed : ℕ → Option Advertisement) (p : List ℕ) (x : Journey) → first_fault (reading_cues c) x.read ≡ None → on c.cue_pid p ≡ false
    → on_map (listed (Some c.program) x.read) p ≡ false → on_one (switched_at (setting_of c filed) x.read) p ≡ true → (passed : List (List ℕ))
    → GoOnAs (listed (Some c.program) x.read) passed x.put → GoOnAs (listed (Some c.program) (p ∷ x.read)) passed (onto x.put (puts_next (setting_of c filed) x p))
stream-goes-on c filed p x good cue map own passed h =
    let k = setting_of c filed in
    let a = stream-apart c filed p x good cue map own in
    go-on-later (Some c.program) p x.read passed (onto x.put (puts_next k x p)) (go-on-others (listed (Some c.program) x.read) a.listed_as (puts_next k x p) passed x.put a.is a.off h)

-- ---- packets that the switch itself puts

-- of which it keeps the counters
pub passed-goes-on : (k : Setting) (x : Journey) (p : List ℕ) (qs passed : List (List ℕ)) → puts_next k x p ≡ qs
    → GoOnAs (listed (Some k.program) x.read) passed x.put → GoOnAs (listed (Some k.program) (p ∷ x.read)) (onto passed qs) (onto x.put (puts_next k x p))
passed-goes-on k x p qs passed is h =
    subst (λ l. GoOnAs (listed (Some k.program) (p ∷ x.read)) (onto passed qs) (onto x.put l)) (sym is)
    (go-on-later (Some k.program) p x.read (onto passed qs) (onto x.put qs) (go-on-same (listed (Some k.program) x.read) qs passed x.put h))

no-room : (cue : ℕ) (o : Option ProgramMap) → HasRoom (Stripped cue) o
no-room cue None = tt
no-room cue (Some m) = tt

all-strip : (cue program : ℕ) (ss : List (List ℕ)) → All CanBeGiven ss → All (GoesOut (Stripped cue)) (map (table_of program) ss)
all-strip cue program [] can = All-nil (GoesOut (Stripped cue))
all-strip cue program (s ∷ ss) can =
    let t : Table = table_of program s in
    let some = (sound s (All-head CanBeGiven s ss can)).least in
    All-cons (GoesOut (Stripped cue)) t (map (table_of program) ss) (record { some = omega arith; room = no-room cue t.program_map }) (all-strip cue program ss (All-tail CanBeGiven s ss can))

-- each table can go out
pub tables-strip : (cue : ℕ) (wanted : Option ℕ) (p : List ℕ) (past : List (List ℕ)) → AllGoOut (Stripped cue) (tables wanted p past)
tables-strip cue wanted p past = by (listed wanted past)
  where
    by : (o : Option Listed) → AllGoOut (Stripped cue) (tables_on o p (since_pat wanted past))
    by None = All-nil (GoesOut (Stripped cue))
    by (Some l) = all-strip cue l.program (given l.pid p (since_pat wanted past)) (given_can l.pid p (since_pat wanted past))

-- the sections in the place of a packet on the PID of the map
pub map-same : (c : Config) (filed : ℕ → Option Advertisement) (p : List ℕ) (x : Journey) (m : OnMap (listed (Some c.program) x.read) p) → first_fault (reading_cues c) x.read ≡ None
    → (cue pid : ℕ) (ts : List Table) (passed : List (List ℕ)) → cue ≡ c.cue_pid → pid ≡ pid_of p → ts ≡ tables (Some c.program) p x.read
    → GoOnAs (listed (Some c.program) x.read) passed x.put → tables_out (Stripped cue) pid passed ts ≡ puts_next (setting_of c filed) x p
map-same c filed p x m good cue pid ts passed cue-is pid-is-now ts-is h =
    let k = setting_of c filed in
    let l = m.listed_as in
    let same : number_on l.pid passed ≡ number_on l.pid x.put = subst (λ o. GoOnAs o passed x.put) m.is h in
    ap (λ q. tables_out (Stripped q) pid passed ts) cue-is
    ∙ ap (λ q. tables_out (Stripped c.cue_pid) q passed ts) (pid-is-now ∙ pid_is l.pid p m.here)
    ∙ ap (tables_out (Stripped c.cue_pid) l.pid passed) ts-is
    ∙ ap (λ n. packets_in_turn l.pid (one_past n) (map (section_out (without_cue_entry c.cue_pid)) (tables (Some c.program) p x.read))) same
    ∙ sym (map-next k x p l m.is m.here (map-switched c filed p x.read l good m.is m.here))
