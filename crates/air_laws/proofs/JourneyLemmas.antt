-- What a switch on air puts for a stretch: packet by packet beside what it puts where all packets, as they are read, go through it.
use Rattle.std.proofs.Common.{◌≡◌, ℕ, ◌<◌, ◌==◌, List, [], ◌∷◌, ◌++◌, map, reverse, Bool, true, false, not, if◌then◌else◌, refl, sym, ap, subst, ◌∙◌, Option, None, Some}
use Rattle.std.specs.Prelude.{filter, option_map}
use Rattle.std.specs.List.{AllByRecursion, list_any}
use Rattle.std.proofs.lemmas.Bool.{true≢false, or_parts, eqb-true}
use Rattle.ts_packet.specs.Fields.{pid_of, on, on_one, is_among, marked, renumbered}
use Rattle.ts_packet.specs.Numbering.{Kept, moved}
use Rattle.ts_packet.proofs.FieldLemmas.{pid_is}
use Rattle.psi_tables.specs.ProgramMap.{ProgramMap}
use Rattle.program_follower.specs.Program.{known_map, program_in, pids_of}
use Rattle.splice_plans.specs.Counters.{PidSteps}
use Rattle.splice_plans.specs.Switching.{Setting, switched_at, streams_at, switched_past, switched_at_packet, rest_at}
use Rattle.splice_plans.specs.Stepping.{steps_at, steps_kept, counted_next, Journey, journey_at, puts_next, journey_next, puts_beside, journey_beside, puts_last}
use Rattle.splice_plans.proofs.AdvertLemmas.{libraries_are_steady}
use Rattle.known_laws.proofs.OtherLemmas.{next-same}
use Rattle.splice_switch.proofs.BesideLemmas.{marked-off, marked-none, marked-next}
use Rattle.splice_switch.proofs.PremiseLemmas.{separate}
use Rattle.air_laws.specs.Outputs.{has_pid, disturbed}
use Rattle.air_laws.proofs.SwitchLemmas.{Goes, AgreeBut, goes-before, one-among, block-counted, next-agree, rest-counted}
use Rattle.std.proofs.lemmas.List.{append-nil, map-append}
use Rattle.std.proofs.lemmas.List.Elements.{filter-append}
use Rattle.ts_packet.specs.Runs.{onto}
use Rattle.ts_packet.proofs.Cases.{by_test}
use Rattle.ts_packet.proofs.RunLemmas.{reverse-onto, reverse-cons}
use Rattle.psi_tables.specs.declared.config.Config.{Config}
use Rattle.program_laws.specs.Writing.{number_on}
use Rattle.ad_library.specs.Advertisements.{Advertisement}
use Rattle.splice_plans.specs.Adverts.{setting_of}
use Rattle.known_laws.proofs.SteppingLemmas.{steps_are_of_moves}
use Rattle.chain_engine.specs.Airing.{Aired, judged, unjudged, read_of}
use Rattle.chain_engine.specs.Switched.{journey_of, switched_for, switched_on_air, journey-first, switched-first}
use Rattle.air_laws.specs.Counters.{uncounted, but_counters}
use Rattle.air_laws.specs.Airs.{all_put, all_read, left_unjudged}
use Rattle.air_laws.proofs.CounterLemmas.{moved-counted, marked-counted, both-counted, number-onto}

-- ---- lists of packets that are judged

pub put-judged : (qs : List (List ℕ)) → all_put (map judged qs) ≡ qs
put-judged [] = refl
put-judged (q ∷ qs) = ap (λ l. q ∷ l) (put-judged qs)

pub read-judged : (qs : List (List ℕ)) → all_read (map judged qs) ≡ qs
read-judged [] = refl
read-judged (q ∷ qs) = ap (λ l. q ∷ l) (read-judged qs)

pub none-judged : (qs : List (List ℕ)) → left_unjudged (map judged qs) ≡ []
none-judged [] = refl
none-judged (q ∷ qs) = none-judged qs

pub put-append : (a b : List Aired) → all_put (a ++ b) ≡ all_put a ++ all_put b
put-append a b = map-append (λ (x : Aired). x.packet) a b

pub read-append : (a b : List Aired) → all_read (a ++ b) ≡ all_read a ++ all_read b
read-append a b = map-append read_of a b

pub unjudged-append : (a b : List Aired) → left_unjudged (a ++ b) ≡ left_unjudged a ++ left_unjudged b
unjudged-append a b = filter-append (λ (x : Aired). not x.is_judged) a b

-- ---- what went out, as packets that are judged and left unjudged

abbrev pub went_for : Setting → Journey → Aired → List Aired
went_for k x a = if a.is_judged then map judged (puts_next k x a.packet) else unjudged (puts_beside k x a.packet) ∷ []

abbrev pub went : Setting → List Aired → List Aired
went k [] = []
went k (a ∷ past) = went k past ++ went_for k (journey_of k past) a

put-for : (k : Setting) (x : Journey) (p : List ℕ) (b : Bool) → (let a : Aired = record { packet = p; is_judged = b } in all_put (went_for k x a) ≡ switched_for k x a)
put-for k x p true = put-judged (puts_next k x p)
put-for k x p false = refl

pub put-went : (k : Setting) (fed : List Aired) → all_put (went k fed) ≡ switched_on_air k fed
put-went k [] = refl
put-went k (a ∷ past) =
    put-append (went k past) (went_for k (journey_of k past) a)
    ∙ ap (λ l. l ++ all_put (went_for k (journey_of k past) a)) (put-went k past)
    ∙ ap (λ l. switched_on_air k past ++ l) (put-for k (journey_of k past) a.packet a.is_judged)

-- ---- PIDs of some

among-filter : (f : ℕ → Bool) (pids : List ℕ) (pid : ℕ) → is_among pid pids ≡ true → f pid ≡ true → is_among pid (filter f pids) ≡ true
among-filter f [] pid a t = a
among-filter f (q ∷ pids) pid a t = by_test (q == pid)
    (λ y. let e = eqb-true q pid y in let u : f q ≡ true = ap f e ∙ t in simp (u, y))
    (λ n. let later = among-filter f pids pid (simp n at a) t in by_test (f q) (λ u. simp (u, n, later)) (λ u. simp (u, later)))

off-filter : (f : ℕ → Bool) (pids : List ℕ) (pid : ℕ) → is_among pid pids ≡ false → is_among pid (filter f pids) ≡ false
off-filter f [] pid n = n
off-filter f (q ∷ pids) pid n =
    let r = or_parts (q == pid) (is_among pid pids) n in
    let later = off-filter f pids pid r.1 in
    let here = r.0 in
    by_test (f q) (λ u. simp (u, here, later)) (λ u. simp (u, later))

-- ---- one packet more

-- of a stretch with these packets: where it is left unjudged, one of its PID is
abbrev pub IsLeft : List Aired → Aired → Type 0
IsLeft packets a = a.is_judged ≡ false → list_any (has_pid (pid_of a.packet)) (left_unjudged packets) ≡ true

module _ (c : Config) (filed : ℕ → Option Advertisement) (packets : List Aired) (all : List ℕ) (small : (pid : ℕ) → is_among pid all ≡ true → pid < 8192) where
  abbrev pub k : Setting
  k = setting_of c filed

  abbrev pub pids : List ℕ
  pids = disturbed packets all

  off-pids : (pid : ℕ) → is_among pid all ≡ false → is_among pid (disturbed packets all) ≡ false
  off-pids pid n = off-filter (λ (pid : ℕ). list_any (has_pid pid) (left_unjudged packets)) all pid n

  small-pids : (pid : ℕ) → is_among pid (disturbed packets all) ≡ true → pid < 8192
  small-pids pid a = by_test (is_among pid all) (λ y. small pid y) (λ n. absurd (true≢false (sym a ∙ off-pids pid n)))

  -- beside a switch through which all packets went
  pub record WentSo (x : Journey) (out fed : List Aired) : Type 0 where
    pub read : but_counters (disturbed packets all) (all_read out) ≡ but_counters (disturbed packets all) (reverse (switched_past (setting_of c filed) x.read))
    pub steps : AgreeBut (disturbed packets all) x.counted (steps_at (setting_of c filed) x.read)
    pub numbers : (pid : ℕ) → is_among pid (disturbed packets all) ≡ false → number_on pid x.put ≡ number_on pid (switched_past (setting_of c filed) x.read)
    pub unjudged : but_counters (disturbed packets all) (all_put (left_unjudged out)) ≡ but_counters (disturbed packets all) (all_put (left_unjudged (reverse fed)))

  later : (p : List ℕ) (past : List (List ℕ)) → reverse (switched_past (setting_of c filed) (p ∷ past)) ≡ reverse (switched_past (setting_of c filed) past) ++ switched_at_packet (setting_of c filed) p past
  later p past = reverse-onto (switched_past k past) (switched_at_packet k p past)

  module _ (x : Journey) (out fed : List Aired) (g : Goes (setting_of c filed) all x.read) (w : WentSo x out fed) where
    at-packet : (p : List ℕ) → but_counters (disturbed packets all) (puts_next (setting_of c filed) x p) ≡ but_counters (disturbed packets all) (switched_at_packet (setting_of c filed) p x.read)
    at-packet p =
        block-counted k refl pids small-pids x.read x.counted (steps_at k x.read) w.steps p x.put (switched_past k x.read) (λ l is. w.numbers l.pid (off-pids l.pid (g.apart l is)))
        ∙ ap (but_counters pids) ((steps_are_of_moves k x.read).puts p)

    steps-next : (p : List ℕ) → AgreeBut (disturbed packets all) (counted_next (setting_of c filed) x.counted p x.read) (steps_at (setting_of c filed) (p ∷ x.read))
    steps-next p pid off =
        next-agree k refl pids small-pids x.read x.counted (steps_at k x.read) w.steps p pid off
        ∙ ap (λ (s : PidSteps). s pid) ((steps_are_of_moves k x.read).next p)

    next-judged : (p : List ℕ) → WentSo (journey_next (setting_of c filed) x p) (out ++ map judged (puts_next (setting_of c filed) x p)) (judged p ∷ fed)
    next-judged p =
        let qs = puts_next k x p in record {
          read = ap (but_counters pids) (read-append out (map judged qs) ∙ ap (λ l. all_read out ++ l) (read-judged qs))
              ∙ both-counted pids (all_read out) (reverse (switched_past k x.read)) qs (switched_at_packet k p x.read) w.read (at-packet p)
              ∙ ap (but_counters pids) (sym (later p x.read));
          steps = steps-next p;
          numbers = λ pid off. number-onto pids pid off qs (switched_at_packet k p x.read) x.put (switched_past k x.read) (at-packet p) (w.numbers pid off);
          unjudged = ap (λ l. but_counters pids (all_put l)) (unjudged-append out (map judged qs) ∙ ap (λ l. left_unjudged out ++ l) (none-judged qs) ∙ append-nil (left_unjudged out))
              ∙ w.unjudged
              ∙ sym (ap (λ l. but_counters pids (all_put l)) (ap left_unjudged (reverse-cons (judged p) fed) ∙ unjudged-append (reverse fed) (judged p ∷ []) ∙ append-nil (left_unjudged (reverse fed))));
        }

    -- ---- one that is left unjudged

    marked-packet : (p : List ℕ) → switched_at_packet (setting_of c filed) (marked p) x.read ≡ marked p ∷ []
    marked-packet p = sym ((steps_are_of_moves k x.read).puts (marked p)) ∙ marked-next c filed p (journey_at k x.read)

    numbers-past : (p : List ℕ) (pid : ℕ) → number_on pid (switched_past (setting_of c filed) (marked p ∷ x.read)) ≡ number_on pid (switched_past (setting_of c filed) x.read)
    numbers-past p pid = ap (λ qs. number_on pid (onto (switched_past k x.read) qs)) (marked-packet p) ∙ off
      where
        off : number_on pid (marked p ∷ switched_past (setting_of c filed) x.read) ≡ number_on pid (switched_past (setting_of c filed) x.read)
        off = let n = marked-off pid p in simp n

    module _ (p : List ℕ) (left : list_any (has_pid (pid_of p)) (left_unjudged packets) ≡ true) where
      left-among : on_one (switched_at (setting_of c filed) x.read) p ≡ true → is_among (pid_of p) (disturbed packets all) ≡ true
      left-among y = among-filter (λ (pid : ℕ). list_any (has_pid pid) (left_unjudged packets)) all (pid_of p) (g.within (pid_of p) (one-among (switched_at k x.read) p y)) left

      beside-counted : uncounted (disturbed packets all) (puts_beside (setting_of c filed) x p) ≡ uncounted (disturbed packets all) p
      beside-counted = by_test (on_one (switched_at k x.read) p)
          (λ y. ap (λ b. uncounted pids (if b then renumbered (moved (x.counted (pid_of p))) p else p)) y ∙ moved-counted pids (moved (x.counted (pid_of p))) p (left-among y))
          (λ n. ap (λ b. uncounted pids (if b then renumbered (moved (x.counted (pid_of p))) p else p)) n)

      -- the counters of other PIDs stay where it is on a switched one
      marked-steps : on_one (switched_at (setting_of c filed) x.read) p ≡ true → (pid : ℕ) → steps_at (setting_of c filed) (marked p ∷ x.read) pid ≡ steps_at (setting_of c filed) x.read pid
      marked-steps own pid = by (known_map (Some c.program) x.read) refl
        where
          by : (o : Option ProgramMap) → known_map (Some c.program) x.read ≡ o → steps_at (setting_of c filed) (marked p ∷ x.read) pid ≡ steps_at (setting_of c filed) x.read pid
          by None e = absurd (true≢false (sym own ∙ ap (λ o. on_one (pids_of (option_map program_in o)) p) e))
          by (Some m) e =
              sym (ap (λ (s : PidSteps). s pid) ((steps_are_of_moves k x.read).next (marked p)))
              ∙ next-same k (marked p) x.read (marked-none (switched_at k x.read) p) (libraries_are_steady filed (streams_at k x.read)) (separate k x.read g.sound).few m e (steps_at k x.read) pid (marked-off pid p)

      kept-steps : on_one (switched_at (setting_of c filed) x.read) p ≡ true → AgreeBut (disturbed packets all) (steps_kept p x.counted) (steps_at (setting_of c filed) (marked p ∷ x.read))
      kept-steps own pid off = by_test (on pid p)
          (λ y. absurd (true≢false (sym (left-among own) ∙ ap (λ q. is_among q pids) (pid_is pid p y) ∙ off)))
          (λ n. ap (λ b. if b then Kept p ∷ x.counted pid else x.counted pid) n ∙ w.steps pid off ∙ sym (marked-steps own pid))

      pub record Beside : Type 0 where
        pub read : (journey_beside (setting_of c filed) x p).read ≡ marked p ∷ x.read
        pub steps : AgreeBut (disturbed packets all) (journey_beside (setting_of c filed) x p).counted (steps_at (setting_of c filed) (marked p ∷ x.read))
        pub numbers : (pid : ℕ) → number_on pid (journey_beside (setting_of c filed) x p).put ≡ number_on pid x.put

      beside-journey : Beside
      beside-journey = by (on_one (switched_at k x.read) p) refl
        where
          off : (pid : ℕ) → number_on pid (marked p ∷ x.put) ≡ number_on pid x.put
          off pid = let n = marked-off pid p in simp n

          by : (b : Bool) → on_one (switched_at (setting_of c filed) x.read) p ≡ b → Beside
          by true e = record {
            read = ap (λ b. (if b then (let y : Journey = record { read = marked p ∷ x.read; counted = steps_kept p x.counted; put = x.put } in y) else journey_next k x (marked p)).read) e;
            steps = λ pid away. ap (λ b. (if b then (let y : Journey = record { read = marked p ∷ x.read; counted = steps_kept p x.counted; put = x.put } in y) else journey_next k x (marked p)).counted pid) e ∙ kept-steps e pid away;
            numbers = λ pid. ap (λ b. number_on pid (if b then (let y : Journey = record { read = marked p ∷ x.read; counted = steps_kept p x.counted; put = x.put } in y) else journey_next k x (marked p)).put) e;
          }
          by false e = record {
            read = ap (λ b. (if b then (let y : Journey = record { read = marked p ∷ x.read; counted = steps_kept p x.counted; put = x.put } in y) else journey_next k x (marked p)).read) e;
            steps = λ pid away. ap (λ b. (if b then (let y : Journey = record { read = marked p ∷ x.read; counted = steps_kept p x.counted; put = x.put } in y) else journey_next k x (marked p)).counted pid) e ∙ steps-next (marked p) pid away;
            numbers = λ pid. ap (λ b. number_on pid (if b then (let y : Journey = record { read = marked p ∷ x.read; counted = steps_kept p x.counted; put = x.put } in y) else journey_next k x (marked p)).put) e
                ∙ ap (λ qs. number_on pid (onto x.put qs)) (marked-next c filed p x) ∙ off pid;
          }

      next-unjudged : WentSo (journey_beside (setting_of c filed) x p) (out ++ unjudged (puts_beside (setting_of c filed) x p) ∷ []) (unjudged p ∷ fed)
      next-unjudged =
          let q = puts_beside k x p in
          let j = beside-journey in
          let one : but_counters pids (marked q ∷ []) ≡ but_counters pids (switched_at_packet k (marked p) x.read)
          = ap (λ r. r ∷ []) (marked-counted pids p q beside-counted) ∙ ap (but_counters pids) (sym (marked-packet p)) in record {
            read = ap (but_counters pids) (read-append out (unjudged q ∷ []))
                ∙ both-counted pids (all_read out) (reverse (switched_past k x.read)) (marked q ∷ []) (switched_at_packet k (marked p) x.read) w.read one
                ∙ ap (but_counters pids) (sym (later (marked p) x.read))
                ∙ ap (λ l. but_counters pids (reverse (switched_past k l))) (sym j.read);
            steps = λ pid off. j.steps pid off ∙ ap (λ l. steps_at k l pid) (sym j.read);
            numbers = λ pid off. j.numbers pid ∙ w.numbers pid off ∙ sym (numbers-past p pid) ∙ ap (λ l. number_on pid (switched_past k l)) (sym j.read);
            unjudged = ap (but_counters pids) (ap all_put (unjudged-append out (unjudged q ∷ [])) ∙ put-append (left_unjudged out) (unjudged q ∷ []))
                ∙ both-counted pids (all_put (left_unjudged out)) (all_put (left_unjudged (reverse fed))) (q ∷ []) (p ∷ []) w.unjudged (ap (λ r. r ∷ []) beside-counted)
                ∙ ap (but_counters pids) (sym (put-append (left_unjudged (reverse fed)) (unjudged p ∷ [])))
                ∙ sym (ap (λ l. but_counters pids (all_put l)) (ap left_unjudged (reverse-cons (unjudged p) fed) ∙ unjudged-append (reverse fed) (unjudged p ∷ [])));
          }

  -- ---- all packets

  beside-read : (x : Journey) (p : List ℕ) → (journey_beside (setting_of c filed) x p).read ≡ marked p ∷ x.read
  beside-read x p = by (on_one (switched_at k x.read) p) refl
    where
      by : (b : Bool) → on_one (switched_at (setting_of c filed) x.read) p ≡ b → (journey_beside (setting_of c filed) x p).read ≡ marked p ∷ x.read
      by true e = ap (λ b. (if b then (let y : Journey = record { read = marked p ∷ x.read; counted = steps_kept p x.counted; put = x.put } in y) else journey_next k x (marked p)).read) e
      by false e = ap (λ b. (if b then (let y : Journey = record { read = marked p ∷ x.read; counted = steps_kept p x.counted; put = x.put } in y) else journey_next k x (marked p)).read) e

  one-more : (past : List Aired) (p : List ℕ) (b : Bool)
      → (Goes (setting_of c filed) all (journey_of (setting_of c filed) past).read → WentSo (journey_of (setting_of c filed) past) (went (setting_of c filed) past) past)
      → (let a : Aired = record { packet = p; is_judged = b } in IsLeft packets a → Goes (setting_of c filed) all (journey_of (setting_of c filed) (a ∷ past)).read
      → WentSo (journey_of (setting_of c filed) (a ∷ past)) (went (setting_of c filed) (a ∷ past)) (a ∷ past))
  one-more past p true before left g =
      let x = journey_of k past in
      let h = goes-before k all p x.read g in
      next-judged x (went k past) past h (before h) p
  one-more past p false before left g =
      let x = journey_of k past in
      let h = goes-before k all (marked p) x.read (subst (Goes k all) (beside-read x p) g) in
      next-unjudged x (went k past) past h (before h) p (left refl)

  pub went-so : (fed : List Aired) → AllByRecursion (IsLeft packets) fed → Goes (setting_of c filed) all (journey_of (setting_of c filed) fed).read
      → WentSo (journey_of (setting_of c filed) fed) (went (setting_of c filed) fed) fed
  went-so [] left g = record { read = refl; steps = λ pid off. refl; numbers = λ pid off. refl; unjudged = refl }
  went-so (a ∷ past) left g = one-more past a.packet a.is_judged (went-so past left.1) left.0 g

  -- with what goes out at the end
  abbrev pub went_to_end : List Aired → List Aired
  went_to_end fed = went (setting_of c filed) fed ++ map judged (puts_last (setting_of c filed) (journey_of (setting_of c filed) fed))

  pub record WentToEnd (fed : List Aired) (read : List (List ℕ)) : Type 0 where
    pub put_so : all_put (went_to_end fed) ≡ switched_on_air (setting_of c filed) fed ++ puts_last (setting_of c filed) (journey_of (setting_of c filed) fed)
    pub read_so : but_counters (disturbed packets all) (all_read (went_to_end fed)) ≡ but_counters (disturbed packets all) (reverse (switched_past (setting_of c filed) read) ++ rest_at (setting_of c filed) read)
    pub unjudged_so : but_counters (disturbed packets all) (all_put (left_unjudged (went_to_end fed))) ≡ but_counters (disturbed packets all) (all_put (left_unjudged (reverse fed)))

  pub went-to-end : (fed : List Aired) → AllByRecursion (IsLeft packets) fed → Goes (setting_of c filed) all (journey_of (setting_of c filed) fed).read → WentToEnd fed (journey_of (setting_of c filed) fed).read
  went-to-end fed left g =
      let x = journey_of k fed in
      let out = went k fed in
      let rest = puts_last k x in
      let w = went-so fed left g in record {
        put_so = put-append out (map judged rest) ∙ ap (λ l. l ++ all_put (map judged rest)) (put-went k fed) ∙ ap (λ l. switched_on_air k fed ++ l) (put-judged rest);
        read_so = ap (but_counters pids) (read-append out (map judged rest) ∙ ap (λ l. all_read out ++ l) (read-judged rest))
            ∙ both-counted pids (all_read out) (reverse (switched_past k x.read)) rest (rest_at k x.read) w.read
            (rest-counted k refl pids small-pids x.read x.counted (steps_at k x.read) w.steps ∙ ap (but_counters pids) (steps_are_of_moves k x.read).rest);
        unjudged_so = ap (λ l. but_counters pids (all_put l)) (unjudged-append out (map judged rest) ∙ ap (λ l. left_unjudged out ++ l) (none-judged rest) ∙ append-nil (left_unjudged out)) ∙ w.unjudged;
      }

-- ---- where all are judged

pub judged-to-end : (k : Setting) (read : List (List ℕ))
    → switched_on_air k (map judged read) ++ puts_last k (journey_of k (map judged read)) ≡ reverse (switched_past k read) ++ rest_at k read
judged-to-end k read =
    ap (λ l. l ++ puts_last k (journey_of k (map judged read))) (switched-first k read)
    ∙ ap (λ x. reverse (switched_past k read) ++ puts_last k x) (journey-first k read)
    ∙ ap (λ l. reverse (switched_past k read) ++ l) (steps_are_of_moves k read).rest
