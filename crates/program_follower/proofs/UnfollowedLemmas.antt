-- A packet on whose PID nothing of the program is changes nothing.
use Rattle.std.proofs.Common.{◌≡◌, ℕ, ◌/◌, ◌%◌, ◌<◌, List, [], ◌∷◌, ◌++◌, true, false, ◌==◌, refl, sym, ap, subst, ◌∙◌, arith, Option, Some, None}
use Rattle.std.specs.Prelude.{option_map, option_to_list, is_some, ◌≢◌, slice_index_or}
use Rattle.std.proofs.lemmas.Bool.{or_parts, or_from, ne_eqb, eqb-false, eq-eqb, true≢false}
use Rattle.ts_packet.specs.Fields.{in_error, pid_of, on, is_among}
use Rattle.ts_packet.proofs.Cases.{by_test}
use Rattle.program_follower.specs.declared.purpose.Purpose.{Purpose}
use Rattle.program_follower.specs.declared.purpose.Listed.{Listed}
use Rattle.program_follower.specs.declared.start_follower.StartFollower.{StartFollower}
use Rattle.program_follower.specs.Program.{listed, pmt_pid_of, program_of, pids_of, known_pids}
use Rattle.program_follower.specs.Faults.{is_pid, network_fault}
use Rattle.program_follower.specs.Standing.{or_zero}
use Rattle.program_follower.specs.PidUses.{IsTablePid, HasUses}
use Rattle.program_follower.specs.Streaming.{next_place, first_on}
use Rattle.program_follower.specs.Following.{on_map, high_of, IsElsewhere, IsUnfollowed, StartsStandFor}
use Rattle.program_follower.proofs.StepLemmas.{listed_stays}
use Rattle.program_follower.proofs.PidLemmas.{is_among-append}
use Rattle.program_follower.proofs.PlaceLemmas.{on_good}
use Rattle.program_follower.proofs.ElsewhereLemmas.{off_other, tables_elsewhere}
use Rattle.program_follower.proofs.StillLemmas.{still_other}
use Rattle.program_follower.proofs.UseLemmas.{use_other, uses_passed, streams_off, sound_off}

-- ---- the PIDs

-- a PID is that of no packet on another
apart-pid : (x : ℕ) (pid : ℕ) (p : List ℕ) → pid_of p ≡ pid → (x == pid) ≡ false → on x p ≡ false
apart-pid x pid p e n = off_other x p (λ y. eqb-false x pid n (sym y ∙ e))

-- a packet of a PID that is among none of these is on none of them
none-on : (pids : List ℕ) (p : List ℕ) → is_among (pid_of p) pids ≡ false → first_on pids p ≡ None
none-on [] p h = refl
none-on (x ∷ pids) p h =
    let r = or_parts (x == pid_of p) (is_among (pid_of p) pids) h in
    let off = apart-pid x (pid_of p) p refl r.0 in
    simp (off, none-on pids p r.1) refl

next-none : (o : Option (ℕ × ℕ)) → option_map next_place o ≡ None → o ≡ None
next-none None h = refl
next-none (Some x) h = absurd (cc)

-- and the other way round, where it is not marked in error
none-among : (pids : List ℕ) (p : List ℕ) → in_error p ≡ false → first_on pids p ≡ None → is_among (pid_of p) pids ≡ false
none-among [] p good h = refl
none-among (x ∷ pids) p good h =
    by_test (on x p)
    (λ y. absurd (let a : Some (0, x) ≡ None = simp y at h in cc))
    (λ n. let left : option_map next_place (first_on pids p) ≡ None = simp n at h in
    or_from (x == pid_of p) (is_among (pid_of p) pids)
    (by_test (x == pid_of p) (λ e. absurd (true≢false (sym (on_good p good x (sym (Rattle.std.proofs.lemmas.Bool.eqb-true x (pid_of p) e))) ∙ n))) (λ e. e))
    (none-among pids p good (next-none (first_on pids p) left)))

-- a packet of each PID
abbrev some_packet : ℕ → List ℕ
some_packet pid = 71 ∷ pid / 256 ∷ pid % 256 ∷ []

some-good : (pid : ℕ) → pid < 8192 → in_error (some_packet pid) ≡ false
unfolding in_error
some-good pid h = let e : pid / 256 / 128 % 2 ≡ 0 = omega arith in ap (λ n. n == 1) e

some-pid : (pid : ℕ) → pid < 8192 → pid_of (some_packet pid) ≡ pid
unfolding pid_of
some-pid pid h = omega arith

-- the PID of the map, where there is one
map-apart : (o : Option Listed) (pid : ℕ) → pid ≢ or_zero (option_map (λ (l : Listed). l.pid) o) → is_among pid (option_to_list (option_map (λ (l : Listed). l.pid) o)) ≡ false
map-apart None pid n = refl
map-apart (Some l) pid n = or_from (l.pid == pid) false (ne_eqb l.pid pid (λ e. n (sym e))) refl

cue-apart : (o : Option ℕ) (pid : ℕ) → pid ≢ or_zero o → is_pid o pid ≡ false
cue-apart None pid n = refl
cue-apart (Some cue) pid n = ne_eqb pid cue n

-- under which the table has nothing
pub unfollowed : (numbers : List ℕ) (c : Purpose) (past : List (List ℕ)) (pid : ℕ) → HasUses numbers c past → is_some (listed c.program past) ≡ true → pid < 8192
    → slice_index_or numbers pid 0 ≡ 0 → IsUnfollowed c.program c.cue_pid pid past
unfollowed numbers c past pid has known within zero =
    let apart : (other : ℕ) → IsTablePid (slice_index_or numbers other 0) → pid ≢ other = (λ other is e. let same = ap (λ (k : ℕ). slice_index_or numbers k 0) e in omega arith) in
    let p = some_packet pid in
    let is = some-pid pid within in
    let at : slice_index_or numbers (pid_of p) 0 ≡ 0 = ap (λ (k : ℕ). slice_index_or numbers k 0) is ∙ zero in
    let off = use_other numbers c p past has (subst (λ k. k < 8192) (sym is) within) at in
    let pids = pids_of (program_of c.program past) in
    record {
      listed = known;
      pat = ne_eqb pid 0 (apart 0 has.pat);
      cue = cue-apart c.cue_pid pid (apart (or_zero c.cue_pid) has.cue);
      known = is_among-append (option_to_list (pmt_pid_of c.program past)) pids pid
          ∙ or_from _ (is_among pid pids) (map-apart (listed c.program past) pid (apart _ has.map))
          (subst (λ k. is_among k pids ≡ false) is (none-among pids p (some-good pid within) off));
    }

-- ---- a packet of such a PID

cue-off : (o : Option ℕ) (p : List ℕ) → is_pid o (pid_of p) ≡ false → Rattle.program_follower.specs.Faults.on_cue o p ≡ false
cue-off None p n = refl
cue-off (Some cue) p n = off_other cue p (eqb-false (pid_of p) cue n)

map-off : (o : Option Listed) (p : List ℕ) → is_among (pid_of p) (option_to_list (option_map (λ (l : Listed). l.pid) o)) ≡ false → on_map o p ≡ false
map-off None p n = refl
map-off (Some l) p n = apart-pid l.pid (pid_of p) p refl (or_parts (l.pid == pid_of p) false n).0

module _ (c : Purpose) (p : List ℕ) (past : List (List ℕ)) (u : IsUnfollowed c.program c.cue_pid (pid_of p) past) where
  parts : (is_among (pid_of p) (option_to_list (pmt_pid_of c.program past)) ≡ false) × (is_among (pid_of p) (pids_of (program_of c.program past)) ≡ false)
  parts = or_parts _ _ (sym (is_among-append (option_to_list (pmt_pid_of c.program past)) (pids_of (program_of c.program past)) (pid_of p)) ∙ u.known)

  pub unfollowed-elsewhere : IsElsewhere c p past
  unfollowed-elsewhere = record {
    pat = off_other 0 p (eqb-false (pid_of p) 0 u.pat);
    cue = cue-off c.cue_pid p u.cue;
    map = map-off (listed c.program past) p parts.0;
  }

  -- it is of no stream
  pub unfollowed-off : first_on (pids_of (program_of c.program past)) p ≡ None
  unfollowed-off = none-on (pids_of (program_of c.program past)) p parts.1

  -- A FOLLOWER stands for the past with the packet as it is
  pub stands-past : (f : StartFollower) → StartsStandFor f c past → StartsStandFor f c (p ∷ past)
  stands-past f h = record {
    tables = tables_elsewhere c p past unfollowed-elsewhere f.tables h.tables;
    streams = streams_off c p past unfollowed-elsewhere f.streams unfollowed-off h.streams;
    uses = uses_passed f.uses c p past h.uses unfollowed-elsewhere;
  }

  -- and the packet is without a fault
  pub clean-past : (f : StartFollower) → StartsStandFor f c past → network_fault c p past ≡ None
  clean-past f h = sound_off c p past unfollowed-elsewhere f.tables.maps h.tables.maps unfollowed-off

  -- with which the greatest time stays
  pub high-past : high_of c.program (p ∷ past) ≡ high_of c.program past
  high-past = still_other c p past unfollowed-off

-- ---- later

listed-later : (wanted : Option ℕ) (q : List ℕ) (past : List (List ℕ)) (o : Option Listed) → listed wanted past ≡ o → is_some o ≡ true → is_some (listed wanted (q ∷ past)) ≡ true
listed-later wanted q past None e h = absurd (true≢false (sym h))
listed-later wanted q past (Some l) e h = ap is_some (listed_stays wanted q past l e)

-- it stays so as long as no PID more is known
pub unfollowed-later : (wanted cue_pid : Option ℕ) (pid : ℕ) (q : List ℕ) (past : List (List ℕ)) → known_pids wanted (q ∷ past) ≡ known_pids wanted past
    → IsUnfollowed wanted cue_pid pid past → IsUnfollowed wanted cue_pid pid (q ∷ past)
unfollowed-later wanted cue_pid pid q past same u = record {
  listed = listed-later wanted q past (listed wanted past) refl u.listed;
  pat = u.pat;
  cue = u.cue;
  known = ap (is_among pid) same ∙ u.known;
}

-- and in each stream of the same PAT and program
pub unfollowed-alike : (wanted cue_pid : Option ℕ) (pid : ℕ) (other past : List (List ℕ)) → listed wanted other ≡ listed wanted past → program_of wanted other ≡ program_of wanted past
    → IsUnfollowed wanted cue_pid pid past → IsUnfollowed wanted cue_pid pid other
unfollowed-alike wanted cue_pid pid other past pat program u = record {
  listed = ap is_some pat ∙ u.listed;
  pat = u.pat;
  cue = u.cue;
  known = ap (λ o. is_among pid (option_to_list (option_map (λ (l : Listed). l.pid) o) ++ pids_of (program_of wanted other))) pat
      ∙ ap (λ r. is_among pid (option_to_list (pmt_pid_of wanted past) ++ pids_of r)) program ∙ u.known;
}
