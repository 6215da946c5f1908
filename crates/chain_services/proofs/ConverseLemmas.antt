-- Services that find no fault each, and of which no two share a PID behind all packets, find none together: a PID that is known stays known.
use Rattle.std.proofs.Common.{◌≡◌, ℕ, Bool, true, false, ◌||◌, ◌==◌, if◌then◌else◌, List, [], ◌∷◌, Option, None, Some, refl, sym, ap, ◌∙◌}
use Rattle.std.specs.Prelude.{option_map}
use Rattle.std.specs.Option.{option_or}
use Rattle.std.specs.List.{AllByRecursion, list_any}
use Rattle.std.proofs.lemmas.Bool.{true≢false, or_left, or_right, eqb-true, eq-eqb}
use Rattle.ts_packet.proofs.Cases.{by_test}
use Rattle.ts_packet.specs.Fields.{is_among}
use Rattle.ts_packet.specs.Packets.{packets_of, last_part, packet_fault}
use Rattle.ts_packet.specs.Runs.{Seen, seen_after, onto}
use Rattle.ts_packet.specs.FirstFault.{or_then, first_of, named, fault_of, fault_behind}
use Rattle.psi_tables.specs.declared.config.Config.{Config}
use Rattle.program_follower.specs.Faults.{network_fault}
use Rattle.program_follower.specs.FirstFault.{network_test}
use Rattle.program_follower.specs.Program.{known_pids}
use Rattle.program_follower.specs.Purposes.{writing_cues}
use Rattle.program_follower.proofs.PidLemmas.{known_pid_stays}
use Rattle.program_laws.proofs.FirstFaultLemmas.{or_none, no_test}
use Rattle.program_laws.proofs.FaultLemmas.{Each-map}
use Rattle.injector.proofs.ListLemmas.{any-mono}
use Rattle.chain_engine.specs.Stops.{as_run_fault, first_run_fault}
use Rattle.chain_engine.specs.declared.faults.RunFault.{RunFault}
use Rattle.chain_engine.specs.declared.faults.RunFault.TheVariants.{Read, SharedPid}
use Rattle.service_laws.specs.Services.{ServiceTerms, configs_of}
use Rattle.service_laws.specs.Faults.{meets, share_a_pid, services_fault, services_test}
use Rattle.chain_services.specs.Laws.{EachSoundIsEnough}

-- ---- a PID that two share stays shared

found-in : (f : ℕ → Bool) (xs : List ℕ) → list_any f xs ≡ true → (x : ℕ) × (is_among x xs ≡ true) × (f x ≡ true)
found-in f [] h = absurd (true≢false (sym h))
found-in f (x ∷ xs) h =
    by_test (f x)
    (λ y. (x, or_left (x == x) (is_among x xs) (eq-eqb x x refl), y))
    (λ n. let r = found-in f xs (sym (ap (λ b. b || list_any f xs) n) ∙ h) in (r.0, or_right (x == r.0) (is_among r.0 xs) r.1, r.2))

in-found : (f : ℕ → Bool) (xs : List ℕ) (x : ℕ) → is_among x xs ≡ true → f x ≡ true → list_any f xs ≡ true
in-found f [] x h y = absurd (true≢false (sym h))
in-found f (a ∷ xs) x h y =
    by_test (a == x)
    (λ e. or_left (f a) (list_any f xs) (ap f (eqb-true a x e) ∙ y))
    (λ n. or_right (f a) (list_any f xs) (in-found f xs x (sym (ap (λ b. b || is_among x xs) n) ∙ h) y))

or-mono : (a b c d : Bool) → (a ≡ true → c ≡ true) → (b ≡ true → d ≡ true) → (a || b) ≡ true → (c || d) ≡ true
or-mono a b c d f g h = by_test a (λ y. or_left c d (f y)) (λ n. or_right c d (g (sym (ap (λ x. x || b) n) ∙ h)))

module _ (p : List ℕ) (past : List (List ℕ)) where
  meets-stays : (c d : Config) → meets c d past ≡ true → meets c d (p ∷ past) ≡ true
  meets-stays c d h =
      let theirs = known_pids (Some d.program) past in
      let later = known_pids (Some d.program) (p ∷ past) in
      let r = found-in (λ pid. is_among pid (d.cue_pid ∷ theirs)) (known_pids (Some c.program) past) h in
      in-found (λ pid. is_among pid (d.cue_pid ∷ later)) (known_pids (Some c.program) (p ∷ past)) r.0 (known_pid_stays (Some c.program) p past r.0 r.1)
      (or-mono (d.cue_pid == r.0) (is_among r.0 theirs) (d.cue_pid == r.0) (is_among r.0 later) (λ y. y) (known_pid_stays (Some d.program) p past r.0) r.2)

  share-stays : (cs : List Config) → share_a_pid cs past ≡ true → share_a_pid cs (p ∷ past) ≡ true
  share-stays [] h = absurd (true≢false (sym h))
  share-stays (c ∷ more) h =
      or-mono (list_any (λ d. meets c d past || meets d c past) more) (share_a_pid more past) (list_any (λ d. meets c d (p ∷ past) || meets d c (p ∷ past)) more) (share_a_pid more (p ∷ past))
      (any-mono (λ d. meets c d past || meets d c past) (λ d. meets c d (p ∷ past) || meets d c (p ∷ past))
      (λ d. or-mono (meets c d past) (meets d c past) (meets c d (p ∷ past)) (meets d c (p ∷ past)) (meets-stays c d) (meets-stays d c)) more)
      (share-stays more) h

share-onto : (cs : List Config) (past ps : List (List ℕ)) → share_a_pid cs past ≡ true → share_a_pid cs (onto past ps) ≡ true
share-onto cs past [] h = h
share-onto cs past (p ∷ ps) h = share-onto cs (p ∷ past) ps (share-stays p past cs h)

-- so where none is shared at the end none was before
apart-before : (cs : List Config) (past ps : List (List ℕ)) → share_a_pid cs (onto past ps) ≡ false → share_a_pid cs past ≡ false
apart-before cs past ps n = by_test (share_a_pid cs past) (λ y. absurd (true≢false (sym (share-onto cs past ps y) ∙ n))) (λ m. m)

-- ---- packet by packet

abbrev test_of : ServiceTerms → Seen → Option RunFault
test_of t = network_test as_run_fault (writing_cues t.config)

-- none of these packets is at fault for each of some services
abbrev AllClean : List Seen → List ServiceTerms → Type 0
AllClean ss ts = AllByRecursion (λ (t : ServiceTerms). first_of (fault_of Read (test_of t)) ss ≡ None) ts

-- of the first one, and of those behind it
clean-parts : (ts : List ServiceTerms) (s : Seen) (ss : List Seen) → AllClean (s ∷ ss) ts → (services_fault (configs_of ts) s.packet s.past ≡ None) × AllClean ss ts
clean-parts [] s ss a = (refl, tt)
clean-parts (t ∷ ts) s ss a =
    let r = or_none (fault_of Read (test_of t) s) (first_of (fault_of Read (test_of t)) ss) a.0 in
    let q = or_none (named Read (packet_fault s.packet)) (test_of t s) r.0 in
    let more = clean-parts ts s ss a.1 in (
      ap (λ o. option_or o (services_fault (configs_of ts) s.packet s.past)) (no_test as_run_fault (network_fault (writing_cues t.config) s.packet s.past) q.1) ∙ more.0,
      (r.1, more.1),
    )

all-clean : (t : ServiceTerms) (ts : List ServiceTerms) (past ps : List (List ℕ)) → AllClean (seen_after past ps) (t ∷ ts) → share_a_pid (configs_of (t ∷ ts)) (onto past ps) ≡ false
    → first_of (fault_of Read (services_test (configs_of (t ∷ ts)))) (seen_after past ps) ≡ None
all-clean t ts past [] a n = refl
all-clean t ts past (p ∷ ps) a n =
    let cs = configs_of (t ∷ ts) in
    let s : Seen = record { packet = p; past = past } in
    let ss = seen_after (p ∷ past) ps in
    let parts = clean-parts (t ∷ ts) s ss a in
    let whole = (or_none (named Read (packet_fault p)) (test_of t s) (or_none (fault_of Read (test_of t) s) (first_of (fault_of Read (test_of t)) ss) a.0).0).0 in
    let tested : services_test cs s ≡ None =
    (ap (λ o. option_or (option_map as_run_fault o) (if share_a_pid cs (p ∷ past) then Some SharedPid else None)) parts.0
    ∙ ap (λ b. if b then Some SharedPid else None) (apart-before cs (p ∷ past) ps n)) in
    let here : fault_of Read (services_test cs) s ≡ None = ap (λ o. or_then o (services_test cs s)) whole ∙ tested in
    ap (λ o. or_then o (first_of (fault_of Read (services_test cs)) ss)) here ∙ all-clean t ts (p ∷ past) ps parts.1 n

-- ---- THE LAW

pub each_sound_is_enough : EachSoundIsEnough
each_sound_is_enough t ts bs each apart =
    let ss = seen_after [] (packets_of bs) in
    let rest = fault_behind Read (last_part bs) in
    let clean : AllClean ss (t ∷ ts) = Each-map (λ (u : ServiceTerms). first_run_fault (writing_cues u.config) bs ≡ None) (λ (u : ServiceTerms). first_of (fault_of Read (test_of u)) ss ≡ None)
    (λ u h. (or_none (first_of (fault_of Read (test_of u)) ss) rest h).0) (t ∷ ts) each in
    ap (λ o. or_then o rest) (all-clean t ts [] (packets_of bs) clean apart) ∙ (or_none (first_of (fault_of Read (test_of t)) ss) rest each.0).1
