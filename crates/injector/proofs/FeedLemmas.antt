-- A packet that goes out: the greatest time rises, and its tables have room for the entry of the cues.
use Rattle.std.proofs.Common.{◌≡◌, ℕ, Bool, true, false, cond, List, [], ◌∷◌, length, refl, ap, sym, ◌∙◌, subst, arith}
use Rattle.std.specs.Prelude.{ℤ, map, All, nat_lt, Option, None, Some, option_map}
use Rattle.std.specs.Int.{int_max}
use Rattle.std.specs.Option.{option_or}
use Rattle.std.proofs.lemmas.Int.{ints}
use Rattle.std.proofs.lemmas.List.Elements.{All-nil, All-cons, All-head, All-tail}
use Rattle.pes_time.specs.Line.{place}
use Rattle.ts_packet.specs.Fields.{pid_of}
use Rattle.psi_section.specs.Sections.{given}
use Rattle.psi_section.specs.Laws.{CanBeGiven}
use Rattle.psi_section.proofs.GivenLemmas.{given_can, sound}
use Rattle.psi_tables.specs.declared.config.Config.{Config}
use Rattle.psi_tables.specs.declared.network.NetworkFault.{NetworkFault}
use Rattle.psi_tables.specs.declared.network.NetworkFault.TheVariants.{TooManyStreams, BadPids, CuePidUsed, ProgramChanged, PmtTooLong}
use Rattle.psi_tables.specs.Streams.{pid_in, switched_of}
use Rattle.psi_tables.specs.ProgramMap.{ProgramMap, streams_of}
use Rattle.unit_stream.specs.Times.{high as unit_high, begins_one, raised, stamp}
use Rattle.unit_stream.specs.Faults.{unit_fault}
use Rattle.event_table.specs.Laws.{MayAdvance}
use Rattle.event_table.proofs.AdvanceLemmas.{may-advance}
use Rattle.program_follower.specs.declared.purpose.Listed.{Listed}
use Rattle.program_follower.specs.Program.{listed, since_pat, Table, table_of, tables, all_tables, first_map, Program, program_in, program_of, behind_head, pids_of}
use Rattle.program_follower.specs.Faults.{network_fault, cue_fault, on_cue, if_bad, bad_pids, cue_used, changed_from, pats_fault, table_fault, tables_fault, maps_fault, as_network, too_long}
use Rattle.program_follower.specs.Following.{grown, on_map, high_of}
use Rattle.program_follower.proofs.FollowLemmas.{program_stays, grown_is, no_high, no_unit_fault}
use Rattle.program_laws.specs.Writing.{packets_out, section_out, body}
use Rattle.program_laws.specs.Cued.{cueing}
use Rattle.program_laws.proofs.ReadingLemmas.{or_first}
use Rattle.outgoing_packets.specs.declared.entry.CueEntry.TheVariants.{Added}
use Rattle.outgoing_packets.specs.Entries.{change_of, HasRoom, GoesOut, AllGoOut}
use Rattle.ts_packet.proofs.FieldLemmas.{pid_is}
use Rattle.injector.specs.Turns.{greatest_in}
use Rattle.unit_stream.specs.Clocks.{Rises}
use Rattle.injector.specs.Steps.{Step, Message, Packet, packets_in, turns_in, body_at}
use Rattle.program_follower.specs.Purposes.{writing_cues}

-- ---- faults

second-none : {A : Type 0} (x y : Option A) → option_or x y ≡ None → y ≡ None
second-none None y is = is
second-none (Some a) y is = absurd (let no : Some a ≡ None = is in cc)

none-if : {A : Type 0} (b : Bool) (a : A) → cond b (Some a) None ≡ None → b ≡ false
none-if true a is = absurd (let no : Some a ≡ None = is in cc)
none-if false a is = refl

module _ (c : Config) (p : List ℕ) (past : List (List ℕ)) (good : network_fault (writing_cues c) p past ≡ None) where
  no-cue : on_cue (Some c.cue_pid) p ≡ false
  no-cue = none-if (on_cue (Some c.cue_pid) p) _ (or_first (cue_fault (writing_cues c) p) _ good)

  behind-cue : option_or (pats_fault (writing_cues c) (listed (Some c.program) past) (given 0 p past))
      (option_or (maps_fault (writing_cues c) (listed (Some c.program) past) (first_map (all_tables (Some c.program) past)) (tables (Some c.program) p past))
      (as_network (unit_fault (pids_of (program_of (Some c.program) past)) p (behind_head (Some c.program) past)))) ≡ None
  behind-cue = second-none (cue_fault (writing_cues c) p) _ good

  behind-pats : option_or (maps_fault (writing_cues c) (listed (Some c.program) past) (first_map (all_tables (Some c.program) past)) (tables (Some c.program) p past))
      (as_network (unit_fault (pids_of (program_of (Some c.program) past)) p (behind_head (Some c.program) past))) ≡ None
  behind-pats = second-none (pats_fault (writing_cues c) (listed (Some c.program) past) (given 0 p past)) _ behind-cue

  pub no-maps : maps_fault (writing_cues c) (listed (Some c.program) past) (first_map (all_tables (Some c.program) past)) (tables (Some c.program) p past) ≡ None
  no-maps = or_first _ (as_network (unit_fault (pids_of (program_of (Some c.program) past)) p (behind_head (Some c.program) past))) behind-pats

  pub no-units : unit_fault (pids_of (program_of (Some c.program) past)) p (behind_head (Some c.program) past) ≡ None
  no-units = no_unit_fault _ (second-none (maps_fault (writing_cues c) (listed (Some c.program) past) (first_map (all_tables (Some c.program) past)) (tables (Some c.program) p past)) _ behind-pats)

-- ---- the greatest time

raised-some : (h : ℤ) (s : Option ℕ) → raised (Some h) s ≡ None → ⊥
raised-some h None is = let no : Some h ≡ None = is in cc
raised-some h (Some t) is = let no : Some (int_max h (place (Some h) t)) ≡ None = is in cc

high-stays : (switched : List ℕ) (p : List ℕ) (past : List (List ℕ)) (h : ℤ) → unit_high switched past ≡ Some h → unit_high switched (p ∷ past) ≡ None → ⊥
high-stays switched p past h is none = by (begins_one switched p past) (rw is at none)
  where
    by : (b : Bool) → cond b (raised (Some h) (stamp p)) (Some h) ≡ None → ⊥
    by true e = raised-some h (stamp p) e
    by false e = let no : Some h ≡ None = e in cc

rises-units : (switched : List ℕ) (p : List ℕ) (past : List (List ℕ)) → unit_fault switched p past ≡ None → Rises (unit_high switched past) (unit_high switched (p ∷ past))
rises-units switched p past good = by (unit_high switched past) (unit_high switched (p ∷ past)) refl refl
  where
    by : (before after : Option ℤ) → unit_high switched past ≡ before → unit_high switched (p ∷ past) ≡ after → Rises before after
    by None after b a = tt
    by (Some h) None b a = high-stays switched p past h b a
    by (Some h) (Some l) b a =
        let m : MayAdvance (Some h) l = subst (λ x. MayAdvance x l) b (may-advance switched p past l good a) in
        let above = m.can.above in
        let below = m.can.below in
        let time = m.time in
        (omega (arith, ints), omega (arith, ints))

pub rises-at : (c : Config) (p : List ℕ) (past : List (List ℕ)) → network_fault (writing_cues c) p past ≡ None → Rises (high_of (Some c.program) past) (high_of (Some c.program) (p ∷ past))
rises-at c p past good = by (program_of (Some c.program) past) refl
  where
    by : (r : Option Program) → program_of (Some c.program) past ≡ r → Rises (high_of (Some c.program) past) (high_of (Some c.program) (p ∷ past))
    by None is =
        let none : high_of (Some c.program) past ≡ None = ap (λ r. unit_high (pids_of r) (behind_head (Some c.program) past)) is ∙ no_high (behind_head (Some c.program) past) in
        subst (λ h. Rises h (high_of (Some c.program) (p ∷ past))) (sym none) tt
    by (Some r) is =
        let known : program_of (Some c.program) (p ∷ past) ≡ Some r = program_stays (Some c.program) p past r is in
        let behind : p ∷ behind_head (Some c.program) past ≡ behind_head (Some c.program) (p ∷ past)
        = ap (λ x. grown x p (behind_head (Some c.program) past)) (sym is) ∙ grown_is (Some c.program) p past in
        let fault : unit_fault (pids_of (Some r)) p (behind_head (Some c.program) past) ≡ None = subst (λ x. unit_fault (pids_of x) p (behind_head (Some c.program) past) ≡ None) is (no-units c p past good) in
        let rises = rises-units (pids_of (Some r)) p (behind_head (Some c.program) past) fault in
        subst (λ x. Rises (unit_high (pids_of x) (behind_head (Some c.program) past)) (high_of (Some c.program) (p ∷ past))) (sym is)
        (subst (λ x. Rises (unit_high (pids_of (Some r)) (behind_head (Some c.program) past)) (unit_high (pids_of x) (behind_head (Some c.program) (p ∷ past)))) (sym known)
        (subst (λ ps. Rises (unit_high (pids_of (Some r)) (behind_head (Some c.program) past)) (unit_high (pids_of (Some r)) ps)) behind rises))

pub turns-high : (program : ℕ) (past : List Step) → greatest_in (turns_in program past) ≡ high_of (Some program) (packets_in past)
turns-high program [] = sym (no_high [])
turns-high program (Message m ∷ past) = turns-high program past
turns-high program (Packet p ∷ past) = refl

-- ---- tables

last-none : (v w x y z : Option NetworkFault) → option_or v (option_or w (option_or x (option_or y z))) ≡ None → z ≡ None
last-none v w x y z is = second-none y z (second-none x (option_or y z) (second-none w (option_or x (option_or y z)) (second-none v (option_or w (option_or x (option_or y z))) is)))

map-room : (c : Config) (pid : ℕ) (first : Option ProgramMap) (o : Option ProgramMap) → table_fault (writing_cues c) pid first o ≡ None → HasRoom (Added c.cue_pid) o
map-room c pid first None good = tt
map-room c pid first (Some m) good =
    none-if (too_long (Some c.cue_pid) m) PmtTooLong
    (last-none (if_bad (nat_lt 8 (length (switched_of (streams_of m)))) TooManyStreams) (if_bad (bad_pids pid (streams_of m) (pid_in m.pcr_field)) BadPids)
    (if_bad (cue_used (writing_cues c) (streams_of m) (pid_in m.pcr_field)) CuePidUsed) (if_bad (changed_from (option_map program_in first) m) ProgramChanged)
    (if_bad (too_long (Some c.cue_pid) m) PmtTooLong) good)

all-room : (c : Config) (pid : ℕ) (first : Option ProgramMap) (program : ℕ) (ss : List (List ℕ)) → tables_fault (writing_cues c) pid first (map (table_of program) ss) ≡ None → All CanBeGiven ss
    → All (GoesOut (Added c.cue_pid)) (map (table_of program) ss)
all-room c pid first program [] good can = All-nil (GoesOut (Added c.cue_pid))
all-room c pid first program (s ∷ ss) good can =
    let t : Table = table_of program s in
    let some = (sound s (All-head CanBeGiven s ss can)).least in
    All-cons (GoesOut (Added c.cue_pid)) t (map (table_of program) ss)
    (record { some = omega arith; room = map-room c pid first t.program_map (or_first (table_fault (writing_cues c) pid first t.program_map) _ good) })
    (all-room c pid (option_or first t.program_map) program ss (second-none (table_fault (writing_cues c) pid first t.program_map) _ good) (All-tail CanBeGiven s ss can))

pub tables-go : (c : Config) (p : List ℕ) (past : List (List ℕ)) → network_fault (writing_cues c) p past ≡ None → AllGoOut (Added c.cue_pid) (tables (Some c.program) p past)
tables-go c p past good = by (listed (Some c.program) past) (no-maps c p past good)
  where
    by : (l : Option Listed) → maps_fault (writing_cues c) l (first_map (all_tables (Some c.program) past)) (Rattle.program_follower.specs.Program.tables_on l p (since_pat (Some c.program) past)) ≡ None
        → AllGoOut (Added c.cue_pid) (Rattle.program_follower.specs.Program.tables_on l p (since_pat (Some c.program) past))
    by None good = All-nil (GoesOut (Added c.cue_pid))
    by (Some l) good = all-room c l.pid (first_map (all_tables (Some c.program) past)) l.program (given l.pid p (since_pat (Some c.program) past)) good (given_can l.pid p (since_pat (Some c.program) past))

-- ---- what stands in the place of a packet

pub body-off : (c : Config) (p : List ℕ) (past puts : List (List ℕ)) → on_map (listed (Some c.program) past) p ≡ false → body_at c p past puts ≡ p ∷ []
body-off c p past puts off = by (listed (Some c.program) past) off
  where
    by : (l : Option Listed) → on_map l p ≡ false → body (cueing c.cue_pid (λ q qs. [])) l p past (tables (Some c.program) p past) puts ≡ p ∷ []
    by None off = refl
    by (Some l) off = rw off refl

pub body-map : (c : Config) (p : List ℕ) (past puts : List (List ℕ)) (cue pid : ℕ) (ts : List Table) → on_map (listed (Some c.program) past) p ≡ true → cue ≡ c.cue_pid → pid ≡ pid_of p
    → ts ≡ tables (Some c.program) p past → packets_out pid puts (map (section_out (change_of (Added cue))) ts) ≡ body_at c p past puts
body-map c p past puts cue pid ts here cue_is out_is ts_is =
    ap (λ q. packets_out pid puts (map (section_out (change_of (Added q))) ts)) cue_is
    ∙ ap (λ l. packets_out pid puts (map (section_out (change_of (Added c.cue_pid))) l)) ts_is
    ∙ by (listed (Some c.program) past) here
  where
    by : (l : Option Listed) → on_map l p ≡ true
        → packets_out pid puts (map (section_out (change_of (Added c.cue_pid))) (tables (Some c.program) p past)) ≡ body (cueing c.cue_pid (λ q qs. [])) l p past (tables (Some c.program) p past) puts
    by None here = absurd (let no : false ≡ true = here in cc)
    by (Some l) here = rw here (ap (λ q. packets_out q puts (map (section_out (change_of (Added c.cue_pid))) (tables (Some c.program) p past))) (out_is ∙ pid_is l.pid p here))
