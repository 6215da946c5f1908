-- What is told in the end: the counts, the programs that are wanted, and what is so of all programs and so of those.
use Rattle.std.proofs.Common.{◌≡◌, ℕ, ◌^◌, ◌<◌, ◌≤◌, Bool, List, [], ◌∷◌, false, refl, sym, subst, ap, ◌∙◌, length, arith, Option, Some, None}
use Rattle.std.specs.Borrow.{Bor}
use Rattle.std.specs.Prelude.{All, filter, count_by, is_some, nat_lt, if◌then◌else◌}
use Rattle.std.specs.List.{list_any}
use Rattle.std.proofs.lemmas.List.{length-map}
use Rattle.std.proofs.lemmas.List.Sums.{count_by-le-length}
use Rattle.std.proofs.lemmas.List.Elements.{All-weaker, All-filter}
use Rattle.ts_packet.proofs.Cases.{by_test}
use Rattle.stream_facts.specs.declared.pid_facts.PidFacts.{PidFacts}
use Rattle.stream_facts.specs.Pids.{IsPidShown}
use Rattle.stream_facts.specs.declared.counts.PacketCounts.{PacketCounts}
use Rattle.stream_facts.specs.declared.facts.ProgramFacts.{ProgramFacts}
use Rattle.stream_facts.specs.Counting.{Counts, is_null}
use Rattle.stream_facts.specs.Judging.{Fed, packets_in}
use Rattle.stream_facts.specs.Facts.{AreStreamsOf, IsFree, has_pid, is_told_program}

-- ---- counts

-- counts that have not come to the greatest number
pub told_counts : (counts : PacketCounts) (past : List Fed) → Counts counts (packets_in past) → length past < 2 ^ 64
    → (counts.packets ≡ length past) × (counts.nulls ≡ count_by is_null (packets_in past))
told_counts counts past k small =
    let same : length (packets_in past) ≡ length past = length-map past _ in
    let at_most = count_by-le-length is_null (packets_in past) in
    (grind (arith, k.packets, same, small), grind (arith, k.nulls, same, small, at_most))

-- ---- programs that are told

-- where none passes a test, none of some of them does
none_of_fewer : (q p : ProgramFacts → Bool) (rs : List ProgramFacts) → list_any q rs ≡ false → list_any q (filter p rs) ≡ false
none_of_fewer q p [] h = refl
none_of_fewer q p (r ∷ rs) h =
    by_test (q r)
    (λ t. absurd (let e = simp t at h in cc))
    (λ f.
    let rest = none_of_fewer q p rs (simp f at h) in
    by_test (p r) (λ t. simp (t, f, rest)) (λ n. simp (n, rest)))

-- a PID that is free where there are more programs
pub told_free : (past : List (List ℕ)) (wanted : Option ℕ) (rs told : List ProgramFacts) (pids : List ℕ) → told ≡ filter (is_told_program wanted) rs
    → All (IsFree past rs) pids → All (IsFree past told) pids
told_free past wanted rs told pids is h = All-weaker (IsFree past rs) (IsFree past told)
    (λ pid k. record {
      least = k.least;
      most = k.most;
      unused = k.unused;
      unlisted = ap (list_any (has_pid pid)) is ∙ none_of_fewer (has_pid pid) (is_told_program wanted) rs k.unlisted;
    })
    pids h

pub told_streams : (past : List (List ℕ)) (wanted : Option ℕ) (rs told : List ProgramFacts) → told ≡ filter (is_told_program wanted) rs
    → All (AreStreamsOf past) rs → All (AreStreamsOf past) told
told_streams past wanted rs told is h = subst (λ (l : List ProgramFacts). All (AreStreamsOf past) l) (sym is) (All-filter (is_told_program wanted) (AreStreamsOf past) rs h)

-- ---- a PID that is free

-- it is one of those that are offered, nothing is known of it, and no program has it
pub free_now : (past : List (List ℕ)) (rs : List ProgramFacts) (pid : ℕ) (known : Option (Bor PidFacts)) → (256 ≤ pid) × (pid < 8191) → IsPidShown known pid past
    → is_some known ≡ false → list_any (has_pid pid) rs ≡ false → IsFree past rs pid
free_now past rs pid None offered shown none unlisted = record { least = offered.0; most = offered.1; unused = shown; unlisted = unlisted }
free_now past rs pid (Some f) offered shown none unlisted = absurd (cc)

-- the number that makes a PID is the PID
pub pid_from_number : (n pid : ℕ) → Some pid ≡ (if nat_lt n 8192 then Some n else None) → pid ≡ n
pid_from_number n pid h =
    by_test (nat_lt n 8192)
    (λ t. let e = simp t at h in cc)
    (λ f. absurd (let e = simp f at h in cc))
