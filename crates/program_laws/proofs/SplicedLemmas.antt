-- Maps with an entry for cues have no fault.
use Rattle.std.specs.Option.{option_or}
use Rattle.std.proofs.Common.{◌≡◌, ℕ, ◌+◌, ◌<◌, List, [], ◌∷◌, ◌++◌, Bool, true, false, ◌||◌, ◌==◌, refl, ap, ◌∙◌, arith, length, Option, Some, None, if◌then◌else◌}
use Rattle.std.specs.Prelude.{nat_lt, option_map}
use Rattle.std.specs.List.{list_any}
use Rattle.std.proofs.lemmas.Bool.{ne_eqb, or_from, or_parts}
use Rattle.std.proofs.lemmas.List.{map-append}
use Rattle.std.proofs.lemmas.List.Folds.{list_any-append}
use Rattle.ts_packet.proofs.Cases.{by_test, test-turned}
use Rattle.psi_tables.specs.declared.stream.Stream.{Stream}
use Rattle.psi_tables.specs.Streams.{pid_in, switched_of, is_switched, stream_of}
use Rattle.psi_tables.specs.ProgramMap.{ProgramMap, streams_of}
use Rattle.psi_tables.specs.Cue.{cue_entry, with_cue_entry}
use Rattle.program_follower.specs.Program.{Program}
use Rattle.ts_packet.specs.Fields.{is_among}
use Rattle.program_follower.specs.Faults.{is_pid, if_bad, pids_in, is_twice, bad_pid, bad_switched, bad_pids, cue_used, changed}
use Rattle.psi_tables.specs.declared.network.NetworkFault.{NetworkFault}
use Rattle.psi_tables.specs.declared.network.NetworkFault.TheVariants.{TooManyStreams, BadPids, CuePidUsed, ProgramChanged}
use Rattle.program_laws.specs.Spliced.{EntryIsNoFault}
use Rattle.program_laws.proofs.EntryOutLemmas.{with_same}
use Rattle.program_laws.proofs.FaultLemmas.{sound_map}
use Rattle.program_follower.specs.Purposes.{cues_written_on, cues_read_on}

-- what no entry is, no switched one is
pub any_switched : (f : ℕ → Bool) (ss : List Stream) → list_any f (pids_in ss) ≡ false → list_any f (pids_in (switched_of ss)) ≡ false
any_switched f [] h = refl
any_switched f (s ∷ ss) h =
    let r = or_parts (f s.pid) (list_any f (pids_in ss)) h in
    let more = any_switched f ss r.1 in
    by_test (is_switched s.kind) (λ y. simp y (or_from (f s.pid) (list_any f (pids_in (switched_of ss))) r.0 more)) (λ n. simp n more)

in_more : (x y : ℕ) (ys : List ℕ) → (y == x) ≡ false → is_among x (ys ++ y ∷ []) ≡ is_among x ys
in_more x y [] h = ap (λ b. b || false) h
in_more x y (z ∷ ys) h = ap (λ b. (z == x) || b) (in_more x y ys h)

twice_more : (x y : ℕ) (ys : List ℕ) → (y == x) ≡ false → is_twice x (ys ++ y ∷ []) ≡ is_twice x ys
twice_more x y [] h = simp h refl
twice_more x y (z ∷ ys) h = ap (λ b. if z == x then b else is_twice x (ys ++ y ∷ [])) (in_more x y ys h) ∙ ap (λ b. if z == x then is_among x ys else b) (twice_more x y ys h)

switched_more : (cue : ℕ) (pids sw : List ℕ) → list_any (is_pid (Some cue)) sw ≡ false → list_any (bad_switched pids) sw ≡ false → list_any (bad_switched (pids ++ cue ∷ [])) sw ≡ false
switched_more cue pids [] h k = refl
switched_more cue pids (x ∷ sw) h k =
    let r = or_parts (x == cue) (list_any (is_pid (Some cue)) sw) h in
    let q = or_parts (bad_switched pids x) (list_any (bad_switched pids) sw) k in
    let t = twice_more x cue pids (test-turned x cue r.0) in
    or_from (bad_switched (pids ++ cue ∷ []) x) (list_any (bad_switched (pids ++ cue ∷ [])) sw) (ap (λ b. (x == 8191) || b) t ∙ q.0) (switched_more cue pids sw r.1 q.1)

-- the entries
pids_more : (cue : ℕ) (m : ProgramMap) → cue < 8192 → pids_in (streams_of (with_cue_entry cue m)) ≡ pids_in (streams_of m) ++ cue ∷ []
unfolding with_cue_entry
pids_more cue m h =
    let e : pid_in (57344 + cue) ≡ cue = omega arith in
    ap pids_in (map-append stream_of m.entries (cue_entry cue ∷ []))
    ∙ map-append (λ (s : Stream). s.pid) (streams_of m) (stream_of (cue_entry cue) ∷ [])
    ∙ ap (λ x. pids_in (streams_of m) ++ x ∷ []) e

same_switched : (cue : ℕ) (m : ProgramMap) → switched_of (streams_of (with_cue_entry cue m)) ≡ switched_of (streams_of m)
same_switched cue m = ap (λ (r : Program). r.streams) (with_same cue m)

same_clock : (cue : ℕ) (m : ProgramMap) → pid_in (with_cue_entry cue m).pcr_field ≡ pid_in m.pcr_field
same_clock cue m = ap (λ (r : Program). r.pcr_pid) (with_same cue m)

same_change : (cue : ℕ) (first : Option ProgramMap) (m : ProgramMap) → changed (option_map (with_cue_entry cue) first) (with_cue_entry cue m) ≡ changed first m
same_change cue None m = refl
same_change cue (Some f) m = rw (same_switched cue m, same_switched cue f, same_clock cue m, same_clock cue f) refl

fine : (b : Bool) (f : NetworkFault) (rest : Option NetworkFault) → b ≡ false → rest ≡ None → option_or (if_bad b f) rest ≡ None
fine true f rest h k = absurd (cc)
fine false f rest h k = k

pub entry_is_no_fault : EntryIsNoFault
entry_is_no_fault wanted cue pmt_pid first m below no_zero no_pmt h =
    let r = sound_map (cues_written_on wanted cue) pmt_pid first m h in
    let s = r.0 in
    let n = with_cue_entry cue m in
    let ps = pids_in (streams_of m) in
    let pcr = pid_in m.pcr_field in
    let clock = same_clock cue m in
    let sw = same_switched cue m in
    let more = pids_more cue m below in
    let bad = or_parts (list_any (bad_pid pmt_pid) (pcr ∷ ps)) (list_any (bad_switched ps) (pids_in (switched_of (streams_of m)))) s.pids in
    let used = or_parts (is_pid (Some cue) pcr) (list_any (is_pid (Some cue)) ps) s.cue in
    let apart = any_switched (is_pid (Some cue)) (streams_of m) used.1 in
    let own : bad_pid pmt_pid cue ≡ false = or_from (cue == 0) (cue == pmt_pid) (ne_eqb cue 0 no_zero) (ne_eqb cue pmt_pid no_pmt) in
    let all : list_any (bad_pid pmt_pid) ((pcr ∷ ps) ++ cue ∷ []) ≡ false =
    list_any-append (bad_pid pmt_pid) (pcr ∷ ps) (cue ∷ []) ∙ or_from (list_any (bad_pid pmt_pid) (pcr ∷ ps)) (bad_pid pmt_pid cue || false) bad.0 (or_from (bad_pid pmt_pid cue) false own refl) in
    let few : nat_lt 8 (length (switched_of (streams_of n))) ≡ false = ap (λ xs. nat_lt 8 (length xs)) sw ∙ s.few in
    let pids : bad_pids pmt_pid (streams_of n) (pid_in n.pcr_field) ≡ false =
    ap (λ x. list_any (bad_pid pmt_pid) (x ∷ pids_in (streams_of n)) || list_any (bad_switched (pids_in (streams_of n))) (pids_in (switched_of (streams_of n)))) clock
    ∙ ap (λ xs. list_any (bad_pid pmt_pid) (pcr ∷ xs) || list_any (bad_switched xs) (pids_in (switched_of (streams_of n)))) more
    ∙ ap (λ xs. list_any (bad_pid pmt_pid) (pcr ∷ (ps ++ cue ∷ [])) || list_any (bad_switched (ps ++ cue ∷ [])) (pids_in xs)) sw
    ∙ or_from (list_any (bad_pid pmt_pid) (pcr ∷ (ps ++ cue ∷ []))) (list_any (bad_switched (ps ++ cue ∷ [])) (pids_in (switched_of (streams_of m)))) all
    (switched_more cue ps (pids_in (switched_of (streams_of m))) apart bad.1) in
    let cues : cue_used (cues_read_on wanted cue) (streams_of n) (pid_in n.pcr_field) ≡ false =
    ap (λ x. list_any (is_pid (Some cue)) (x ∷ pids_in (switched_of (streams_of n)))) clock
    ∙ ap (λ xs. list_any (is_pid (Some cue)) (pcr ∷ pids_in xs)) sw
    ∙ or_from (is_pid (Some cue) pcr) (list_any (is_pid (Some cue)) (pids_in (switched_of (streams_of m)))) used.0 apart in
    fine (nat_lt 8 (length (switched_of (streams_of n)))) TooManyStreams _ few
    (fine (bad_pids pmt_pid (streams_of n) (pid_in n.pcr_field)) BadPids _ pids
    (fine (cue_used (cues_read_on wanted cue) (streams_of n) (pid_in n.pcr_field)) CuePidUsed _ cues
    (fine (changed (option_map (with_cue_entry cue) first) n) ProgramChanged _ (same_change cue first m ∙ r.1) refl)))
