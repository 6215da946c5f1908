-- The table of owners. Behind its PAT nothing of a service is on a PID that is not its own, nor that of the PAT: so it is enough to look at
-- these.
use Rattle.std.proofs.Common.{◌≡◌, ◌<◌, ◌%◌, ◌/◌, ℕ, length, List, [], ◌∷◌, ◌++◌, Bool, true, false, not, ◌==◌, ◌||◌, ◌≢◌, true≢false, refl, sym, ap, subst, ◌∙◌, arith, Option, Some, None}
use Rattle.std.specs.Prelude.{option_map, option_to_list, slice_index_or}
use Rattle.std.specs.Option.{is_some}
use Rattle.std.specs.List.{list_any}
use Rattle.std.proofs.lemmas.Bool.{or_parts, or_from, eqb-true, eqb-false, ne_eqb}
use Rattle.std.proofs.Math.ListN.{set}
use Rattle.std.proofs.lemmas.List.{get_or-set_same, get_or-set_other}
use Rattle.ts_packet.proofs.Cases.{by_test}
use Rattle.ts_packet.specs.Fields.{is_among}
use Rattle.program_follower.specs.declared.purpose.Listed.{Listed}
use Rattle.program_follower.specs.Program.{listed, since_pat, tables, tables_on, all_tables, first_map, program_in, program_of, pids_of, known_pids}
use Rattle.program_follower.proofs.StepLemmas.{listed_stays}
use Rattle.injector.specs.Steps.{Step}
use Rattle.chain_engine.specs.declared.service.Service.{Service}
use Rattle.service_laws.specs.Services.{ServiceTerms}
use Rattle.chain_services.specs.Owners.{IsNotOf, IsTold, ToldAnew, has_pid}
use Rattle.chain_services.specs.Serving.{AllServe}
use Rattle.chain_services.proofs.UnfollowedLemmas.{leaves-more}

-- ---- a program of which a PID is known is listed

listed-before : (wanted : Option ℕ) (q : List ℕ) (past : List (List ℕ)) → listed wanted (q ∷ past) ≡ None → listed wanted past ≡ None
listed-before wanted q past e = by (listed wanted past) refl where
  by : (o : Option Listed) → listed wanted past ≡ o → listed wanted past ≡ None
  by None h = h
  by (Some l) h = absurd (true≢false (ap is_some (sym (listed_stays wanted q past l h) ∙ e)))

-- before the PAT there are no tables
none-listed : (wanted : Option ℕ) (past : List (List ℕ)) → listed wanted past ≡ None → all_tables wanted past ≡ []
none-listed wanted [] e = refl
none-listed wanted (q ∷ past) e =
    let before = listed-before wanted q past e in
    ap (λ ts. ts ++ tables wanted q past) (none-listed wanted past before) ∙ ap (λ o. tables_on o q (since_pat wanted past)) before

known-listed : (wanted : Option ℕ) (past : List (List ℕ)) → length (known_pids wanted past) ≢ 0 → is_some (listed wanted past) ≡ true
known-listed wanted past some = by (listed wanted past) refl where
  by : (o : Option Listed) → listed wanted past ≡ o → is_some (listed wanted past) ≡ true
  by (Some l) h = ap is_some h
  by None h = absurd (some (ap (λ o. length (option_to_list (option_map (λ (l : Listed). l.pid) o) ++ pids_of (program_of wanted past))) h
      ∙ ap (λ ts. length (pids_of (option_map program_in (first_map ts)))) (none-listed wanted past h)))

-- by a count that is not 0
pub counted-listed : (wanted : Option ℕ) (past : List (List ℕ)) (n : ℕ) → n ≡ length (known_pids wanted past) → not (n == 0) ≡ true → is_some (listed wanted past) ≡ true
counted-listed wanted past n is some = known-listed wanted past (λ z. true≢false (sym some ∙ ap (λ k. not (k == 0)) (is ∙ z)))

-- ---- a PID that is of no service

other-way : (a b : ℕ) → (a == b) ≡ false → (b == a) ≡ false
other-way a b n = ne_eqb b a (λ e. eqb-false a b n (sym e))

not-its : (t : ServiceTerms) (pid : ℕ) (past : List (List ℕ)) → is_some (listed (Some t.config.program) past) ≡ true → (0 == pid) ≡ false → has_pid pid past t ≡ false → IsNotOf t pid past
not-its t pid past known pat none =
    let parts = or_parts (t.config.cue_pid == pid) (is_among pid (known_pids (Some t.config.program) past)) none in
    record { listed = known; pat = other-way 0 pid pat; cue = other-way t.config.cue_pid pid parts.0; known = parts.1 }

-- the first of some services, before the others
pub waits-more : (takers others : ℕ) (t : ServiceTerms) (rest ts : List ServiceTerms) (pid : ℕ) (past : List (List ℕ)) (is_left_out : Bool) → ts ≡ t ∷ rest
    → (takers < 255 → others < 255) → (takers < 255 → takers / 2 ≡ others) → (takers < 255 → takers % 2 ≡ 0 → is_left_out ≡ true)
    → (is_left_out ≡ true → is_some (listed (Some t.config.program) past) ≡ true) → (0 == pid) ≡ false → list_any (has_pid pid past) ts ≡ false
    → (list_any (has_pid pid past) rest ≡ false → IsTold others rest pid past) → IsTold takers ts pid past
waits-more takers others t rest ts pid past is_left_out parts below half bit known pat none behind = λ lt.
    let p = or_parts (has_pid pid past t) (list_any (has_pid pid past) rest) (sym (ap (list_any (has_pid pid past)) parts) ∙ none) in
    leaves-more takers others t rest ts pid past parts (half lt) (λ b. not-its t pid past (known (bit lt b)) pat p.0) (behind p.1 (below lt))

-- ---- what is told anew

-- of one PID
pub told-set : (old new : List ℕ) (pid v : ℕ) (ts : List ServiceTerms) (past : List (List ℕ)) → new ≡ set old pid v → length old ≡ 8192 → pid < 8192 → IsTold v ts pid past
    → ToldAnew old new ts (λ k. pid == k) past
told-set old new pid v ts past is long within told = λ k lt before.
    by_test (pid == k)
    (λ y. subst (λ j. IsTold (slice_index_or new j 0) ts j past) (eqb-true pid k y)
    (subst (λ u. IsTold u ts pid past) (sym (ap (λ l. slice_index_or l pid 0) is ∙ get_or-set_same old pid v 0 (omega (arith, long, within)))) told))
    (λ n. let apart : k ≢ pid = (λ e. eqb-false pid k n (sym e)) in
    subst (λ u. IsTold u ts k past) (sym (ap (λ l. slice_index_or l k 0) is ∙ get_or-set_other old pid k v 0 apart)) (before n))

-- of some, and then of more
pub told-both : (old mid new : List ℕ) (ts : List ServiceTerms) (past : List (List ℕ)) (first more all : ℕ → Bool) → ((k : ℕ) → all k ≡ (first k || more k))
    → ToldAnew old mid ts first past → ToldAnew mid new ts more past → ToldAnew old new ts all past
told-both old mid new ts past first more all is a b = λ k lt before. b k lt (λ m. a k lt (λ f. before (is k ∙ or_from (first k) (more k) f m)))

-- of none
pub told-none : (owners : List ℕ) (ts : List ServiceTerms) (past : List (List ℕ)) (test : ℕ → Bool) → ((k : ℕ) → test k ≡ false) → ToldAnew owners owners ts test past
told-none owners ts past test none = λ k lt before. before (none k)

-- no services stand for none
pub serve-none : (services : List Service) (us : List ServiceTerms) (steps : List Step) → services ≡ [] → AllServe services us steps → us ≡ []
serve-none services [] steps e all = refl
serve-none services (u ∷ us) steps e all = absurd (subst (λ w. AllServe w (u ∷ us) steps) e all)
