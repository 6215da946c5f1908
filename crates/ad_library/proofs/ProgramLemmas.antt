-- The switched streams of a program without fault: no PID stands twice among them, and none is that of the map.
use Rattle.std.specs.List.{AllByRecursion, list_any}
use Rattle.std.specs.Prelude.{option_map}
use Rattle.std.proofs.Common.{◌≡◌, ℕ, List, [], ◌∷◌, true, false, ◌||◌, ◌==◌, refl, sym, ap, ◌∙◌, subst, Option, Some, None, if◌then◌else◌}
use Rattle.std.proofs.lemmas.Bool.{eq-eqb, or_from, or_parts, or_right}
use Rattle.ts_packet.specs.Fields.{in_error, on, payload_on, is_among}
use Rattle.ts_packet.proofs.Cases.{by_test, true_or_false}
use Rattle.ts_packet.proofs.FieldLemmas.{off_payload}
use Rattle.unit_stream.proofs.ReadingLemmas.{error_off}
use Rattle.psi_tables.specs.declared.stream.Stream.{Stream}
use Rattle.psi_tables.specs.Streams.{is_switched, switched_of, pid_in}
use Rattle.psi_tables.specs.ProgramMap.{ProgramMap, streams_of}
use Rattle.program_follower.specs.declared.purpose.Purpose.{Purpose}
use Rattle.program_follower.specs.declared.purpose.Listed.{Listed}
use Rattle.program_follower.specs.Program.{listed, all_tables, first_map, known_map, Program, program_in, program_of}
use Rattle.program_follower.specs.Faults.{pids_in, is_twice, bad_pid, bad_switched, first_fault}
use Rattle.program_follower.specs.Streaming.{next_place, first_on}
use Rattle.program_follower.proofs.StreamLemmas.{one_pid, in_switched}
use Rattle.program_laws.proofs.FaultLemmas.{Each-map, MapSound, all_sound, first_sound}
use Rattle.program_laws.proofs.ReadingLemmas.{no_tables}
use Rattle.ad_library.specs.Gathering.{AreDistinct}

-- ---- PIDs that stand once

abbrev AllIn : List ℕ → List ℕ → Type 0
AllIn all pids = AllByRecursion (λ x. is_among x all ≡ true) pids

all_in : (ss : List Stream) → AllIn (pids_in ss) (pids_in (switched_of ss))
all_in [] = tt
all_in (s ∷ ss) =
    let more : AllIn (s.pid ∷ pids_in ss) (pids_in (switched_of ss)) =
    Each-map (λ x. is_among x (pids_in ss) ≡ true) (λ x. is_among x (s.pid ∷ pids_in ss) ≡ true) (λ x h. or_right (s.pid == x) (is_among x (pids_in ss)) h) (pids_in (switched_of ss)) (all_in ss) in
    let own : is_among s.pid (s.pid ∷ pids_in ss) ≡ true = ap (λ b. b || is_among s.pid (pids_in ss)) (eq-eqb s.pid s.pid refl) in
    by_test (is_switched s.kind) (λ y. simp y (own, more)) (λ n. simp n more)

once_rest : (y : ℕ) (all pids : List ℕ) → AllIn all pids → list_any (bad_switched (y ∷ all)) pids ≡ false → list_any (bad_switched all) pids ≡ false
once_rest y all [] i h = refl
once_rest y all (x ∷ xs) i h =
    let r = or_parts (bad_switched (y ∷ all) x) (list_any (bad_switched (y ∷ all)) xs) h in
    let b = or_parts (x == 8191) (is_twice x (y ∷ all)) r.0 in
    let here : is_twice x all ≡ false = by_test (y == x)
    (λ e. let t : is_twice x (y ∷ all) ≡ is_among x all = ap (λ c. if c then is_among x all else is_twice x all) e in true_or_false (is_among x all) i.0 (sym t ∙ b.1))
    (λ n. let t : is_twice x (y ∷ all) ≡ is_twice x all = ap (λ c. if c then is_among x all else is_twice x all) n in sym t ∙ b.1) in
    or_from (bad_switched all x) (list_any (bad_switched all) xs) (or_from (x == 8191) (is_twice x all) b.0 here) (once_rest y all xs i.1 r.1)

apart_switched : (ss : List Stream) → list_any (bad_switched (pids_in ss)) (pids_in (switched_of ss)) ≡ false → AreDistinct (pids_in (switched_of ss))
apart_switched [] h = tt
apart_switched (s ∷ ss) h =
    by_test (is_switched s.kind)
    (λ y. let k : list_any (bad_switched (s.pid ∷ pids_in ss)) (s.pid ∷ pids_in (switched_of ss)) ≡ false = simp y at h in
    let r = or_parts (bad_switched (s.pid ∷ pids_in ss) s.pid) (list_any (bad_switched (s.pid ∷ pids_in ss)) (pids_in (switched_of ss))) k in
    let b = or_parts (s.pid == 8191) (is_twice s.pid (s.pid ∷ pids_in ss)) r.0 in
    let out : is_among s.pid (pids_in ss) ≡ false = sym (ap (λ c. if c then is_among s.pid (pids_in ss) else is_twice s.pid (pids_in ss)) (eq-eqb s.pid s.pid refl)) ∙ b.1 in
    let rest = apart_switched ss (once_rest s.pid (pids_in ss) (pids_in (switched_of ss)) (all_in ss) r.1) in
    simp y (in_switched s.pid ss out, rest))
    (λ n. let k : list_any (bad_switched (s.pid ∷ pids_in ss)) (pids_in (switched_of ss)) ≡ false = simp n at h in
    let rest = apart_switched ss (once_rest s.pid (pids_in ss) (pids_in (switched_of ss)) (all_in ss) k) in
    simp n rest)

in_bad : (pid : ℕ) (xs : List ℕ) → list_any (bad_pid pid) xs ≡ false → is_among pid xs ≡ false
in_bad pid [] h = refl
in_bad pid (x ∷ xs) h =
    let r = or_parts (bad_pid pid x) (list_any (bad_pid pid) xs) h in
    or_from (x == pid) (is_among pid xs) (or_parts (x == 0) (x == pid) r.0).1 (in_bad pid xs r.1)

-- ---- of a program

pub record StreamsApart (pid : ℕ) (ss : List Stream) : Type 0 where
  pub apart : AreDistinct (pids_in ss)
  pub off_map : is_among pid (pids_in ss) ≡ false

same_program : (m : ProgramMap) (r : Program) → Some (program_in m) ≡ Some r → switched_of (streams_of m) ≡ r.streams
same_program m r e = let s : program_in m ≡ r = cc in ap (λ (x : Program). x.streams) s

apart_in : (c : Purpose) (pid : ℕ) (o : Option ProgramMap) (r : Program) → MapSound c pid o → option_map program_in o ≡ Some r → StreamsApart pid r.streams
apart_in c pid None r g e = absurd (cc)
apart_in c pid (Some m) r g e =
    let ss = streams_of m in
    let bad = or_parts (list_any (bad_pid pid) (pid_in m.pcr_field ∷ pids_in ss)) (list_any (bad_switched (pids_in ss)) (pids_in (switched_of ss))) g.pids in
    let none = or_parts (bad_pid pid (pid_in m.pcr_field)) (list_any (bad_pid pid) (pids_in ss)) bad.0 in
    subst (StreamsApart pid) (same_program m r e) (record { apart = apart_switched ss bad.1; off_map = in_switched pid ss (in_bad pid (pids_in ss) none.1) })

-- THE STREAMS of a program without fault
pub record ListedApart (c : Purpose) (past : List (List ℕ)) (ss : List Stream) : Type 0 where
  pub known : Listed
  pub listed_is : listed c.program past ≡ Some known
  pub streams : StreamsApart known.pid ss

pub streams_apart : (c : Purpose) (past : List (List ℕ)) (r : Program) → first_fault c past ≡ None → program_of c.program past ≡ Some r → ListedApart c past r.streams
streams_apart c past r h e = by_listed (listed c.program past) refl where
  by_listed : (o : Option Listed) → listed c.program past ≡ o → ListedApart c past r.streams
  by_listed None n = absurd (let t = no_tables c.program past n in let k : program_of c.program past ≡ None = ap (λ ts. option_map program_in (first_map ts)) t in let f : None ≡ Some r = sym k ∙ e in cc)
  by_listed (Some l) n = record { known = l; listed_is = n; streams = apart_in c l.pid (known_map c.program past) r (first_sound c l.pid (all_tables c.program past) (all_sound c past l h n)) e }

-- ---- a packet of none of the PIDs

abbrev pub NoPayload : List ℕ → List ℕ → Type 0
NoPayload p pids = AllByRecursion (λ pid. payload_on pid p ≡ false) pids

pub none_marked : (p : List ℕ) (pids : List ℕ) → in_error p ≡ true → NoPayload p pids
none_marked p [] h = tt
none_marked p (pid ∷ pids) h = (error_off pid p h, none_marked p pids h)

moved_none : (o : Option (ℕ × ℕ)) → option_map next_place o ≡ None → o ≡ None
moved_none None h = refl
moved_none (Some y) h = absurd (cc)

pub none_first : (p : List ℕ) (pids : List ℕ) → first_on pids p ≡ None → NoPayload p pids
none_first p [] h = tt
none_first p (pid ∷ pids) h =
    by_test (on pid p)
    (λ y. absurd (let e : Some (0, pid) ≡ None = simp y at h in cc))
    (λ n. (off_payload pid p n, none_first p pids (moved_none (first_on pids p) (simp n at h))))

pub none_map : (p : List ℕ) (x : ℕ) (pids : List ℕ) → on x p ≡ true → is_among x pids ≡ false → NoPayload p pids
none_map p x [] o h = tt
none_map p x (pid ∷ pids) o h =
    let r = or_parts (pid == x) (is_among x pids) h in
    let off : on pid p ≡ false = by_test (on pid p) (λ y. true_or_false (pid == x) (eq-eqb pid x (one_pid pid x p y o)) r.0) (λ n. n) in
    (off_payload pid p off, none_map p x pids o r.1)
