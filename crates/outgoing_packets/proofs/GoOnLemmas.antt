-- The counters that are kept go on as those of all that is out.
use Rattle.std.proofs.Common.{◌≡◌, ℕ, List, [], ◌∷◌, true, false, if◌then◌else◌, refl, sym, ap, subst, ◌∙◌}
use Rattle.std.specs.Prelude.{map, Option, None, Some, is_some}
use Rattle.std.specs.List.{AllByRecursion}
use Rattle.std.proofs.lemmas.Bool.{true≢false}
use Rattle.ts_packet.specs.Fields.{on}
use Rattle.ts_packet.specs.Numbering.{one_past}
use Rattle.ts_packet.specs.Runs.{onto}
use Rattle.ts_packet.proofs.Cases.{by_test}
use Rattle.program_follower.specs.declared.purpose.Listed.{Listed}
use Rattle.psi_section.specs.Packetising.{packets_in_turn}
use Rattle.program_follower.specs.Program.{Table, listed}
use Rattle.program_follower.specs.Following.{on_map}
use Rattle.program_follower.proofs.StepLemmas.{listed_stays}
use Rattle.program_laws.specs.Writing.{Writing, number_on, packets_out, section_out, body, Off}
use Rattle.outgoing_packets.proofs.NumberLemmas.{number-others}
use Rattle.outgoing_packets.specs.Numbers.{GoOnAs}

-- the same packets more
abbrev pub Same : ℕ → List (List ℕ) → List (List ℕ) → Type 0
Same pid a b = number_on pid a ≡ number_on pid b

one-more : (pid : ℕ) (q : List ℕ) (a b : List (List ℕ)) → Same pid a b → Same pid (q ∷ a) (q ∷ b)
one-more pid q a b h = by_test (on pid q) (λ y. simp y refl) (λ n. simp n h)

pub all-more : (pid : ℕ) (qs a b : List (List ℕ)) → Same pid a b → Same pid (onto a qs) (onto b qs)
all-more pid [] a b h = h
all-more pid (q ∷ qs) a b h = all-more pid qs (q ∷ a) (q ∷ b) (one-more pid q a b h)

weaker : (o : Option Listed) (a b : List (List ℕ)) → ((pid : ℕ) → Same pid a b) → GoOnAs o a b
weaker None a b h = h
weaker (Some l) a b h = h l.pid

-- what is known of the PAT stays, and may come
pub go-on-later : (wanted : Option ℕ) (p : List ℕ) (past a b : List (List ℕ)) → GoOnAs (listed wanted past) a b → GoOnAs (listed wanted (p ∷ past)) a b
go-on-later wanted p past a b h = by (listed wanted past) refl h
  where
    by : (o : Option Listed) → listed wanted past ≡ o → GoOnAs o a b → GoOnAs (listed wanted (p ∷ past)) a b
    by None e h = weaker (listed wanted (p ∷ past)) a b h
    by (Some l) e h = subst (λ o. GoOnAs o a b) (sym (listed_stays wanted p past l e)) h

-- the same packets were put by it
pub go-on-same : (o : Option Listed) (qs a b : List (List ℕ)) → GoOnAs o a b → GoOnAs o (onto a qs) (onto b qs)
go-on-same None qs a b h = λ pid. all-more pid qs a b (h pid)
go-on-same (Some l) qs a b h = all-more l.pid qs a b h

-- packets of other PIDs than the map's went out by themselves
pub go-on-others : (o : Option Listed) (l : Listed) (qs a b : List (List ℕ)) → o ≡ Some l → AllByRecursion (Off l.pid) qs → GoOnAs o a b → GoOnAs o a (onto b qs)
go-on-others o l qs a b e off h = subst (λ o. GoOnAs o a (onto b qs)) (sym e) (subst (λ o. GoOnAs o a b) e h ∙ sym (number-others l.pid qs b off))

-- ---- what the counters give

-- the same sections, in the same packets
pub packets-same : (pid : ℕ) (a b ss : List (List ℕ)) → Same pid a b → packets_out pid a ss ≡ packets_out pid b ss
packets-same pid a b ss h = ap (λ n. packets_in_turn pid (one_past n) ss) h

-- and the same in the place of a packet
pub body-same : (w : Writing) (o : Option Listed) (p : List ℕ) (past : List (List ℕ)) (ts : List Table) (a b : List (List ℕ)) → GoOnAs o a b → body w o p past ts a ≡ body w o p past ts b
body-same w None p past ts a b h = refl
body-same w (Some l) p past ts a b h = ap (λ qs. if on l.pid p then qs else w.place p past) (packets-same l.pid a b (map (section_out w.change) ts) h)

-- a packet of another PID was put by itself
pub go-on-past : (o : Option Listed) (q : List ℕ) (a b : List (List ℕ)) → is_some o ≡ true → on_map o q ≡ false → GoOnAs o a b → GoOnAs o a (q ∷ b)
go-on-past None q a b known off h = absurd (true≢false (sym known))
go-on-past (Some l) q a b known off h = h ∙ sym (number-others l.pid (q ∷ []) b (off, tt))
