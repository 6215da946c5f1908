-- The table of what each PID is: how it is filled, and what it tells of a packet.
use Rattle.std.proofs.Common.{◌≡◌, ℕ, ◌+◌, ◌<◌, ◌≤◌, List, [], ◌∷◌, false, ◌==◌, if◌then◌else◌, nat_lt, refl, sym, ap, subst, ◌∙◌, arith, length, Option, Some, None}
use Rattle.std.specs.Prelude.{option_map, ◌≢◌, slice_index_or, replicate}
use Rattle.std.proofs.lemmas.Bool.{eqb-true, eq-eqb, ltb-true, ltb-false}
use Rattle.std.proofs.Math.ListN.{set}
use Rattle.std.proofs.lemmas.List.{get_or-set_same, get_or-set_other, get_or-replicate}
use Rattle.ts_packet.specs.Fields.{in_error, pid_of, on}
use Rattle.ts_packet.proofs.Cases.{by_test}
use Rattle.program_follower.specs.declared.purpose.Purpose.{Purpose}
use Rattle.program_follower.specs.declared.purpose.Listed.{Listed}
use Rattle.program_follower.specs.declared.starts.Starts.{Starts}
use Rattle.program_follower.specs.Program.{listed, pmt_pid_of, Program, program_of, behind_head, pids_of}
use Rattle.program_follower.specs.Faults.{as_network, network_fault, on_cue}
use Rattle.program_follower.specs.declared.map_reader.MapReader.{MapReader}
use Rattle.program_follower.specs.Standing.{or_zero, MapsRead}
use Rattle.program_follower.specs.Streaming.{first_on, place_in, numbered, StartsRead}
use Rattle.program_follower.specs.PidUses.{IsTablePid, HasPlacesElsewhere, HasUses}
use Rattle.program_follower.specs.Following.{Since, grown, on_map, IsElsewhere}
use Rattle.program_follower.proofs.StreamLemmas.{none_fault, starts_read_off}
use Rattle.program_follower.proofs.PlaceLemmas.{on_good, no_place, unplaced}
use Rattle.program_follower.proofs.ElsewhereLemmas.{off_other, off_cue, off_map, listed_same, program_same, fault_elsewhere}
use Rattle.program_follower.proofs.FollowLemmas.{streams_next}
use Rattle.program_follower.proofs.StepLemmas.{listed_stays}

-- ---- how it is filled

-- a PID of tables more
pub table_kept : (numbers : List ℕ) (pid v other : ℕ) → pid < length numbers → 8 < v → IsTablePid (slice_index_or numbers other 0)
    → IsTablePid (slice_index_or (set numbers pid v) other 0)
table_kept numbers pid v other lt above is =
    by_test (other == pid)
    (λ y. let e = ap (λ (k : ℕ). slice_index_or (set numbers pid v) k 0) (eqb-true other pid y) ∙ get_or-set_same numbers pid v 0 lt in omega arith)
    (λ n. let apart : other ≢ pid = (λ e. let k = eq-eqb other pid e in absurd (cc)) in let e = get_or-set_other numbers pid other v 0 apart in omega arith)

pub table_places : (numbers : List ℕ) (pid v : ℕ) (pids : List ℕ) → pid < length numbers → 8 < v → HasPlacesElsewhere numbers pids
    → HasPlacesElsewhere (set numbers pid v) pids
table_places numbers pid v pids lt above has p good within le =
    by_test (pid_of p == pid)
    (λ y. let e = ap (λ (k : ℕ). slice_index_or (set numbers pid v) k 0) (eqb-true (pid_of p) pid y) ∙ get_or-set_same numbers pid v 0 lt in absurd (omega arith))
    (λ n. let apart : pid_of p ≢ pid = (λ e. let k = eq-eqb (pid_of p) pid e in absurd (cc)) in
    let e = get_or-set_other numbers pid (pid_of p) v 0 apart in e ∙ has p good within (omega arith))

-- a PID of a stream more, which is none of tables
pub stream_kept : (numbers : List ℕ) (pid v other : ℕ) → slice_index_or numbers pid 0 ≤ 8 → IsTablePid (slice_index_or numbers other 0)
    → IsTablePid (slice_index_or (set numbers pid v) other 0)
stream_kept numbers pid v other le is =
    let apart : other ≢ pid = (λ e. let same = ap (λ (k : ℕ). slice_index_or numbers k 0) e in omega arith) in
    let e = get_or-set_other numbers pid other v 0 apart in omega arith

pub stream_rest : (numbers : List ℕ) (pid v other : ℕ) → pid < length numbers → v ≤ 8 → slice_index_or numbers other 0 ≤ 8
    → slice_index_or (set numbers pid v) other 0 ≤ 8
stream_rest numbers pid v other lt small le =
    by_test (other == pid)
    (λ y. let e = ap (λ (k : ℕ). slice_index_or (set numbers pid v) k 0) (eqb-true other pid y) ∙ get_or-set_same numbers pid v 0 lt in omega arith)
    (λ n. let apart : other ≢ pid = (λ e. let k = eq-eqb other pid e in absurd (cc)) in let e = get_or-set_other numbers pid other v 0 apart in omega arith)

-- all PIDs of tables
pub all_tables : (pid : ℕ) → pid < 8192 → IsTablePid (slice_index_or (replicate 8192 9) pid 0)
all_tables pid lt = let above : IsTablePid 9 = omega arith in subst IsTablePid (sym (get_or-replicate 8192 pid 9 0 lt)) above

-- what holds of the table with that PID, whether it is of tables or not
pub stream_added : (P : List ℕ → Type 0) (numbers new : List ℕ) (pid v : ℕ) → new ≡ (if nat_lt 8 (slice_index_or numbers pid 0) then numbers else set numbers pid v)
    → (IsTablePid (slice_index_or numbers pid 0) → P numbers) → (slice_index_or numbers pid 0 ≤ 8 → P (set numbers pid v)) → P new
stream_added P numbers new pid v is apart added =
    let number = slice_index_or numbers pid 0 in
    by_test (nat_lt 8 number)
    (λ y. subst P (sym (is ∙ ap (λ b. if b then numbers else set numbers pid v) y)) (apart (ltb-true 8 number y)))
    (λ n. subst P (sym (is ∙ ap (λ b. if b then numbers else set numbers pid v) n)) (added (ltb-false 8 number n)))

-- ---- what it tells of a packet

none_numbered : (o : Option ℕ) → 0 ≡ numbered o → None ≡ o
none_numbered None e = refl
none_numbered (Some i) e = absurd (omega arith)

some_numbered : (o : Option ℕ) (i : ℕ) → i + 1 ≡ numbered o → Some i ≡ o
some_numbered None i e = absurd (omega arith)
some_numbered (Some j) i e = let same : i ≡ j = omega arith in ap (λ (k : ℕ). let y : Option ℕ = Some k in y) same

-- the PID of a packet that is not marked in error is none on which it is not
here_other : (pid : ℕ) (p : List ℕ) → in_error p ≡ false → on pid p ≡ false → pid_of p ≢ pid
here_other pid p good off e = let y = on_good p good pid e in absurd (cc)

here_cue : (o : Option ℕ) (p : List ℕ) → in_error p ≡ false → on 0 p ≡ false → on_cue o p ≡ false → pid_of p ≢ or_zero o
here_cue None p good pat off = here_other 0 p good pat
here_cue (Some pid) p good pat off = here_other pid p good off

here_map : (o : Option Listed) (p : List ℕ) → in_error p ≡ false → on 0 p ≡ false → on_map o p ≡ false
    → pid_of p ≢ or_zero (option_map (λ (l : Listed). l.pid) o)
here_map None p good pat off = here_other 0 p good pat
here_map (Some l) p good pat off = here_other l.pid p good off

module _ (numbers : List ℕ) (c : Purpose) (p : List ℕ) (past : List (List ℕ)) (has : HasUses numbers c past) where
  pub use_elsewhere : slice_index_or numbers (pid_of p) 0 ≤ 8 → IsElsewhere c p past
  use_elsewhere le =
      let apart : (pid : ℕ) → IsTablePid (slice_index_or numbers pid 0) → pid_of p ≢ pid = (λ pid is e. let same = ap (λ (k : ℕ). slice_index_or numbers k 0) e in omega arith) in
      record {
        pat = off_other 0 p (apart 0 has.pat);
        cue = off_cue c.cue_pid p (apart (or_zero c.cue_pid) has.cue);
        map = off_map (listed c.program past) p (apart _ has.map);
      }

  pub use_other : pid_of p < 8192 → slice_index_or numbers (pid_of p) 0 ≡ 0 → first_on (pids_of (program_of c.program past)) p ≡ None
  use_other within zero =
      let pids = pids_of (program_of c.program past) in
      by_test (in_error p)
      (λ bad. unplaced pids p (no_place pids p bad))
      (λ good. unplaced pids p (none_numbered (place_in pids p) (sym zero ∙ has.places p good within (omega arith))))

  pub use_stream : (i : ℕ) → pid_of p < 8192 → slice_index_or numbers (pid_of p) 0 ≡ i + 1 → slice_index_or numbers (pid_of p) 0 ≤ 8 → in_error p ≡ false
      → Some i ≡ place_in (pids_of (program_of c.program past)) p
  use_stream i within is le good = some_numbered (place_in (pids_of (program_of c.program past)) p) i (sym is ∙ has.places p good within le)

  -- a packet that is on no PID of tables or cues, and not marked in error, is under no number of these
  pub use_apart : pid_of p < 8192 → in_error p ≡ false → IsElsewhere c p past → slice_index_or numbers (pid_of p) 0 ≤ 8
  use_apart within good e = has.rest (pid_of p) within (here_other 0 p good e.pat) (here_cue c.cue_pid p good e.pat e.cue) (here_map (listed c.program past) p good e.pat e.map)

  -- and one of a stream under the number of that
  pub use_numbered : (i : ℕ) → pid_of p < 8192 → in_error p ≡ false → IsElsewhere c p past → Some i ≡ place_in (pids_of (program_of c.program past)) p
      → slice_index_or numbers (pid_of p) 0 ≡ i + 1
  use_numbered i within good e here = has.places p good within (use_apart within good e) ∙ sym (ap numbered here)

  -- a packet that is on no PID of tables or cues changes nothing
  pub uses_passed : IsElsewhere c p past → HasUses numbers c (p ∷ past)
  uses_passed e =
      let Map : Option Listed → Type 0 = λ o. IsTablePid (slice_index_or numbers (or_zero (option_map (λ (l : Listed). l.pid) o)) 0) in
      let Rest : Option Listed → Type 0 = λ o. (pid : ℕ) → pid < 8192 → pid ≢ 0 → pid ≢ or_zero c.cue_pid → pid ≢ or_zero (option_map (λ (l : Listed). l.pid) o)
      → slice_index_or numbers pid 0 ≤ 8 in
      let Places : Option Program → Type 0 = λ r. HasPlacesElsewhere numbers (pids_of r) in
      record {
        pat = has.pat;
        cue = has.cue;
        map = subst Map (sym (listed_same c p past e)) has.map;
        rest = subst Rest (sym (listed_same c p past e)) has.rest;
        places = subst Places (sym (program_same c p past e)) has.places;
      }

-- ---- a packet of none of the streams, and one of a stream

since_off : (s : Option Starts) (r : Option Program) (p : List ℕ) (b : List (List ℕ)) → first_on (pids_of r) p ≡ None → Since StartsRead s r b
    → Since StartsRead s r (grown r p b)
since_off None None p b off h = tt
since_off (Some s) (Some r) p b off h = starts_read_off s (pids_of (Some r)) p b off h
since_off None (Some r) p b off h = absurd h
since_off (Some s) None p b off h = absurd h

since_fed : (s t : Starts) (r : Option Program) (p : List ℕ) (b : List (List ℕ)) → Since StartsRead (Some s) r b
    → (StartsRead s (pids_of r) b → StartsRead t (pids_of r) (p ∷ b)) → Since StartsRead (Some t) r (grown r p b)
since_fed s t None p b h reads = absurd h
since_fed s t (Some r) p b h reads = reads h

pub since_read : (s : Starts) (r : Option Program) (b : List (List ℕ)) → Since StartsRead (Some s) r b → StartsRead s (pids_of r) b
since_read s None b h = absurd h
since_read s (Some r) b h = h

module _ (c : Purpose) (p : List ℕ) (past : List (List ℕ)) (e : IsElsewhere c p past) where
  pub streams_off : (s : Option Starts) → first_on (pids_of (program_of c.program past)) p ≡ None → Since StartsRead s (program_of c.program past) (behind_head c.program past)
      → Since StartsRead s (program_of c.program (p ∷ past)) (behind_head c.program (p ∷ past))
  streams_off s off h =
      streams_next StartsRead c.program p past s (program_of c.program past) (sym (program_same c p past e)) (since_off s (program_of c.program past) p (behind_head c.program past) off h)

  pub streams_fed : (s t : Starts) → Since StartsRead (Some s) (program_of c.program past) (behind_head c.program past)
      → (StartsRead s (pids_of (program_of c.program past)) (behind_head c.program past) → StartsRead t (pids_of (program_of c.program past)) (p ∷ behind_head c.program past))
      → Since StartsRead (Some t) (program_of c.program (p ∷ past)) (behind_head c.program (p ∷ past))
  streams_fed s t h reads =
      streams_next StartsRead c.program p past (Some t) (program_of c.program past) (sym (program_same c p past e)) (since_fed s t (program_of c.program past) p (behind_head c.program past) h reads)

  pub sound_off : (r : MapReader) → MapsRead r c.program past → first_on (pids_of (program_of c.program past)) p ≡ None → network_fault c p past ≡ None
  sound_off r h off = fault_elsewhere c p past e r h ∙ ap as_network (none_fault (pids_of (program_of c.program past)) p (behind_head c.program past) off)

-- the PID of the map stays that once it is listed
pub not_before : (wanted : Option ℕ) (p : List ℕ) (past : List (List ℕ)) (pid : ℕ) → pid ≢ 0 → pid ≢ or_zero (pmt_pid_of wanted (p ∷ past))
    → pid ≢ or_zero (pmt_pid_of wanted past)
not_before wanted p past pid pat map = by (listed wanted past) refl where
  by : (o : Option Listed) → listed wanted past ≡ o → pid ≢ or_zero (option_map (λ (l : Listed). l.pid) (listed wanted past))
  by None e = subst (λ x. pid ≢ or_zero (option_map (λ (l : Listed). l.pid) x)) (sym e) pat
  by (Some l) e = subst (λ x. pid ≢ or_zero (option_map (λ (l : Listed). l.pid) x)) (listed_stays wanted p past l e ∙ sym e) map

-- nothing is followed in the head
pub none_since : (r : Option Program) (b : List (List ℕ)) → Since StartsRead None r b → pids_of r ≡ []
none_since None b h = refl
none_since (Some r) b h = absurd h
